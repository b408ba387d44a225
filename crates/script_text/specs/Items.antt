-- Transcript items and their one text.
use Rattle.std.specs.Prelude.{ℕ, Bool, List, [], ◌∷◌, Result, ◌⊎◌, codes}
use mathlib.Core.Logic.{inl, inr}
use Rattle.text_model.specs.Forms.{Form, both, via, after, named}
use Rattle.text_model.specs.Texts.{text, text_at}
use Rattle.text_model.specs.Words.{number, bytes}
use Rattle.etcd_types.specs.declared.request.Request.{Request}
use Rattle.etcd_types.specs.declared.answer.Answer.{Answer}
use Rattle.etcd_types.specs.declared.watch.WatchItem.{WatchItem}
use Rattle.message_text.specs.Requests.{request}
use Rattle.message_text.specs.Answers.{answer}
use Rattle.message_text.specs.WatchItems.{watch_item}
use Rattle.script_text.specs.declared.item.Item.{Item}
use Rattle.script_text.specs.declared.item.Item.TheVariants as item
use Rattle.script_text.specs.Lines.{space, proxy, ticket, world}

-- ---- items of calls, streams and the store

abbrev pub from_expired : Form (ℕ ⊎ (ℕ × ℕ))
from_expired = named (codes "expired") number (after (codes "applied") (both number number))

abbrev pub from_cut : Form (ℕ ⊎ (ℕ ⊎ (ℕ × ℕ)))
from_cut = named (codes "cut") number from_expired

abbrev pub from_delivered : Form (ℕ ⊎ (ℕ ⊎ (ℕ ⊎ (ℕ × ℕ))))
from_delivered = named (codes "delivered") number from_cut

abbrev pub from_pushed : Form ((ℕ × WatchItem) ⊎ (ℕ ⊎ (ℕ ⊎ (ℕ ⊎ (ℕ × ℕ)))))
from_pushed = named (codes "pushed") (both number watch_item) from_delivered

abbrev pub from_lost : Form (ℕ ⊎ ((ℕ × WatchItem) ⊎ (ℕ ⊎ (ℕ ⊎ (ℕ ⊎ (ℕ × ℕ))))))
from_lost = named (codes "lost") number from_pushed

abbrev pub from_answered : Form (ℕ ⊎ (ℕ ⊎ ((ℕ × WatchItem) ⊎ (ℕ ⊎ (ℕ ⊎ (ℕ ⊎ (ℕ × ℕ)))))))
from_answered = named (codes "answered") number from_lost

abbrev pub OtherItem : Type 0
OtherItem = (ℕ × Answer) ⊎ (ℕ ⊎ (ℕ ⊎ ((ℕ × WatchItem) ⊎ (ℕ ⊎ (ℕ ⊎ (ℕ ⊎ (ℕ × ℕ)))))))

unfoldable pub other_item : Form OtherItem
other_item = named (codes "executed") (both number answer) from_answered

abbrev pub other_to : OtherItem → Item
other_to (inl w) = item.Executed w.0 w.1
other_to (inr (inl n)) = item.Answered n
other_to (inr (inr (inl n))) = item.Lost n
other_to (inr (inr (inr (inl w)))) = item.Pushed w.0 w.1
other_to (inr (inr (inr (inr (inl n))))) = item.Delivered n
other_to (inr (inr (inr (inr (inr (inl n)))))) = item.Cut n
other_to (inr (inr (inr (inr (inr (inr (inl n))))))) = item.Expired n
other_to (inr (inr (inr (inr (inr (inr (inr w))))))) = item.Applied w.0 w.1

-- ---- more items of a proxy

abbrev pub from_body : Form ((ℕ × (ℕ × (ℕ × List ℕ))) ⊎ OtherItem)
from_body = named (codes "body") (both proxy (both ticket (both number bytes))) other_item

abbrev pub from_reply : Form ((ℕ × (ℕ × Answer)) ⊎ ((ℕ × (ℕ × (ℕ × List ℕ))) ⊎ OtherItem))
from_reply = named (codes "reply") (both proxy (both ticket answer)) from_body

abbrev pub from_left : Form ((ℕ × ℕ) ⊎ ((ℕ × (ℕ × Answer)) ⊎ ((ℕ × (ℕ × (ℕ × List ℕ))) ⊎ OtherItem)))
from_left = named (codes "left") (both proxy ticket) from_reply

abbrev pub from_pending : Form ((ℕ × ℕ) ⊎ ((ℕ × ℕ) ⊎ ((ℕ × (ℕ × Answer)) ⊎ ((ℕ × (ℕ × (ℕ × List ℕ))) ⊎ OtherItem))))
from_pending = named (codes "pending") (both proxy ticket) from_left

abbrev pub from_taken : Form ((ℕ × (ℕ × WatchItem)) ⊎ ((ℕ × ℕ) ⊎ ((ℕ × ℕ) ⊎ ((ℕ × (ℕ × Answer)) ⊎ ((ℕ × (ℕ × (ℕ × List ℕ))) ⊎ OtherItem)))))
from_taken = named (codes "taken") (both proxy (both ticket watch_item)) from_pending

abbrev pub from_closed : Form ((ℕ × ℕ) ⊎ ((ℕ × (ℕ × WatchItem)) ⊎ ((ℕ × ℕ) ⊎ ((ℕ × ℕ) ⊎ ((ℕ × (ℕ × Answer)) ⊎ ((ℕ × (ℕ × (ℕ × List ℕ))) ⊎ OtherItem))))))
from_closed = named (codes "closed") (both proxy number) from_taken

abbrev pub StreamItem : Type 0
StreamItem = (ℕ × (ℕ × (ℕ × Request))) ⊎ ((ℕ × ℕ) ⊎ ((ℕ × (ℕ × WatchItem)) ⊎ ((ℕ × ℕ) ⊎ ((ℕ × ℕ) ⊎ ((ℕ × (ℕ × Answer)) ⊎ ((ℕ × (ℕ × (ℕ × List ℕ))) ⊎ OtherItem))))))

unfoldable pub stream_item : Form StreamItem
stream_item = named (codes "opened") (both proxy (both number (both number request))) from_closed

abbrev pub stream_to : StreamItem → Item
stream_to (inl w) = item.Opened w.0 w.1.0 w.1.1.0 w.1.1.1
stream_to (inr (inl w)) = item.Closed w.0 w.1
stream_to (inr (inr (inl w))) = item.Taken w.0 w.1.0 w.1.1
stream_to (inr (inr (inr (inl w)))) = item.Pending w.0 w.1
stream_to (inr (inr (inr (inr (inl w))))) = item.Left w.0 w.1
stream_to (inr (inr (inr (inr (inr (inl w)))))) = item.Reply w.0 w.1.0 w.1.1
stream_to (inr (inr (inr (inr (inr (inr (inl w))))))) = item.Body w.0 w.1.0 w.1.1.0 w.1.1.1
stream_to (inr (inr (inr (inr (inr (inr (inr o))))))) = other_to o

-- ---- items of a proxy

abbrev pub from_sent : Form ((ℕ × (ℕ × (ℕ × (ℕ × Request)))) ⊎ StreamItem)
from_sent = named (codes "sent") (both proxy (both number (both number (both number request)))) stream_item

abbrev pub from_ticked : Form (ℕ ⊎ ((ℕ × (ℕ × (ℕ × (ℕ × Request)))) ⊎ StreamItem))
from_ticked = named (codes "ticked") proxy from_sent

abbrev pub from_posted : Form ((ℕ × (ℕ × (List ℕ × List ℕ))) ⊎ (ℕ ⊎ ((ℕ × (ℕ × (ℕ × (ℕ × Request)))) ⊎ StreamItem)))
from_posted = named (codes "posted") (both proxy (both ticket (both bytes bytes))) from_ticked

abbrev pub from_asked : Form ((ℕ × (ℕ × Request)) ⊎ ((ℕ × (ℕ × (List ℕ × List ℕ))) ⊎ (ℕ ⊎ ((ℕ × (ℕ × (ℕ × (ℕ × Request)))) ⊎ StreamItem))))
from_asked = named (codes "asked") (both proxy (both ticket request)) from_posted

abbrev pub from_clock : Form ((ℕ × ℕ) ⊎ ((ℕ × (ℕ × Request)) ⊎ ((ℕ × (ℕ × (List ℕ × List ℕ))) ⊎ (ℕ ⊎ ((ℕ × (ℕ × (ℕ × (ℕ × Request)))) ⊎ StreamItem)))))
from_clock = named (codes "clock") (both proxy number) from_asked

abbrev pub from_restarted : Form (ℕ ⊎ ((ℕ × ℕ) ⊎ ((ℕ × (ℕ × Request)) ⊎ ((ℕ × (ℕ × (List ℕ × List ℕ))) ⊎ (ℕ ⊎ ((ℕ × (ℕ × (ℕ × (ℕ × Request)))) ⊎ StreamItem))))))
from_restarted = named (codes "restarted") proxy from_clock

abbrev pub from_started : Form (ℕ ⊎ (ℕ ⊎ ((ℕ × ℕ) ⊎ ((ℕ × (ℕ × Request)) ⊎ ((ℕ × (ℕ × (List ℕ × List ℕ))) ⊎ (ℕ ⊎ ((ℕ × (ℕ × (ℕ × (ℕ × Request)))) ⊎ StreamItem)))))))
from_started = named (codes "started") proxy from_restarted

abbrev pub ItemWords : Type 0
ItemWords = (ℕ × (List ℕ × List ℕ)) ⊎ (ℕ ⊎ (ℕ ⊎ ((ℕ × ℕ) ⊎ ((ℕ × (ℕ × Request)) ⊎ ((ℕ × (ℕ × (List ℕ × List ℕ))) ⊎ (ℕ ⊎ ((ℕ × (ℕ × (ℕ × (ℕ × Request)))) ⊎ StreamItem)))))))

unfoldable pub item_words : Form ItemWords
item_words = named (codes "world") world from_started

abbrev pub item_to : ItemWords → Item
item_to (inl w) = item.World w.0 w.1.0 w.1.1
item_to (inr (inl n)) = item.Started n
item_to (inr (inr (inl n))) = item.Restarted n
item_to (inr (inr (inr (inl w)))) = item.Clock w.0 w.1
item_to (inr (inr (inr (inr (inl w))))) = item.Asked w.0 w.1.0 w.1.1
item_to (inr (inr (inr (inr (inr (inl w)))))) = item.Posted w.0 w.1.0 w.1.1.0 w.1.1.1
item_to (inr (inr (inr (inr (inr (inr (inl n))))))) = item.Ticked n
item_to (inr (inr (inr (inr (inr (inr (inr (inl w)))))))) = item.Sent w.0 w.1.0 w.1.1.0 w.1.1.1.0 w.1.1.1.1
item_to (inr (inr (inr (inr (inr (inr (inr (inr s)))))))) = stream_to s

abbrev pub later : StreamItem → ItemWords
later s = inr (inr (inr (inr (inr (inr (inr (inr s)))))))

abbrev pub other : OtherItem → ItemWords
other o = later (inr (inr (inr (inr (inr (inr (inr o)))))))

abbrev pub item_from : Item → ItemWords
item_from (item.World members namespace leasing) = inl (members, (namespace, leasing))
item_from (item.Started p) = inr (inl p)
item_from (item.Restarted p) = inr (inr (inl p))
item_from (item.Clock p millis) = inr (inr (inr (inl (p, millis))))
item_from (item.Asked p t asked_request) = inr (inr (inr (inr (inl (p, (t, asked_request))))))
item_from (item.Posted p t path sent_body) = inr (inr (inr (inr (inr (inl (p, (t, (path, sent_body))))))))
item_from (item.Ticked p) = inr (inr (inr (inr (inr (inr (inl p))))))
item_from (item.Sent p call member t asked_request) = inr (inr (inr (inr (inr (inr (inr (inl (p, (call, (member, (t, asked_request)))))))))))
item_from (item.Opened p stream member asked_request) = later (inl (p, (stream, (member, asked_request))))
item_from (item.Closed p stream) = later (inr (inl (p, stream)))
item_from (item.Taken p t found) = later (inr (inr (inl (p, (t, found)))))
item_from (item.Pending p t) = later (inr (inr (inr (inl (p, t)))))
item_from (item.Left p t) = later (inr (inr (inr (inr (inl (p, t))))))
item_from (item.Reply p t given) = later (inr (inr (inr (inr (inr (inl (p, (t, given))))))))
item_from (item.Body p t status json) = later (inr (inr (inr (inr (inr (inr (inl (p, (t, (status, json))))))))))
item_from (item.Executed call given) = other (inl (call, given))
item_from (item.Answered call) = other (inr (inl call))
item_from (item.Lost call) = other (inr (inr (inl call)))
item_from (item.Pushed stream found) = other (inr (inr (inr (inl (stream, found)))))
item_from (item.Delivered stream) = other (inr (inr (inr (inr (inl stream)))))
item_from (item.Cut stream) = other (inr (inr (inr (inr (inr (inl stream))))))
item_from (item.Expired lease) = other (inr (inr (inr (inr (inr (inr (inl lease)))))))
item_from (item.Applied member revision) = other (inr (inr (inr (inr (inr (inr (inr (member, revision))))))))

unfoldable pub item_form : Form Item
item_form = via item_to item_from item_words

-- the bytes of an item, without its line feed
unfoldable pub item_text : Item → List ℕ
item_text i = text space item_form i

-- an item whose text is read again
unfoldable pub is_item : Item → Bool
is_item i = item_form.fits i

-- the item that has this text, or the place, from 1, of its first word that is wrong, missing or too many
unfoldable pub item_at : List ℕ → Result Item ℕ
item_at bytes = text_at space item_form bytes
