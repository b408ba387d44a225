-- Script lines and their one text.
use Rattle.std.specs.Prelude.{ℕ, Bool, ◌==◌, List, [], ◌∷◌, Result, ◌⊎◌, codes}
use mathlib.Core.Logic.{inl, inr}
use Rattle.text_model.specs.Forms.{Form, both, via, after, named, either}
use Rattle.text_model.specs.Texts.{text, text_at}
use Rattle.text_model.specs.Words.{number, number_within, max_number, bytes}
use Rattle.etcd_types.specs.declared.request.Request.{Request}
use Rattle.message_text.specs.Requests.{request}
use Rattle.script_text.specs.declared.line.Line.{Line}
use Rattle.script_text.specs.declared.line.Line.TheVariants as line

-- words are separated by a space
abbrev pub space : ℕ
space = 32

-- a proxy, from 1 to 64
abbrev pub proxy : Form ℕ
proxy = number_within 1 64

-- a ticket, from 1 on
abbrev pub ticket : Form ℕ
ticket = number_within 1 max_number

-- ---- the first line

-- the number of members, from 1 to 9, the namespace and the leasing prefix
unfoldable pub world : Form (ℕ × (List ℕ × List ℕ))
world = both (number_within 1 9) (both bytes bytes)

-- ---- lines of calls, streams and the store

abbrev pub from_apply : Form ((ℕ × ℕ) ⊎ ℕ)
from_apply = named (codes "apply") (both number number) (after (codes "progress") number)

abbrev pub from_expire : Form (ℕ ⊎ ((ℕ × ℕ) ⊎ ℕ))
from_expire = named (codes "expire") number from_apply

abbrev pub from_cut : Form (ℕ ⊎ (ℕ ⊎ ((ℕ × ℕ) ⊎ ℕ)))
from_cut = named (codes "cut") number from_expire

abbrev pub from_deliver : Form (ℕ ⊎ (ℕ ⊎ (ℕ ⊎ ((ℕ × ℕ) ⊎ ℕ))))
from_deliver = named (codes "deliver") number from_cut

abbrev pub from_push : Form (ℕ ⊎ (ℕ ⊎ (ℕ ⊎ (ℕ ⊎ ((ℕ × ℕ) ⊎ ℕ)))))
from_push = named (codes "push") number from_deliver

abbrev pub from_lose : Form (ℕ ⊎ (ℕ ⊎ (ℕ ⊎ (ℕ ⊎ (ℕ ⊎ ((ℕ × ℕ) ⊎ ℕ))))))
from_lose = named (codes "lose") number from_push

abbrev pub from_answer : Form (ℕ ⊎ (ℕ ⊎ (ℕ ⊎ (ℕ ⊎ (ℕ ⊎ (ℕ ⊎ ((ℕ × ℕ) ⊎ ℕ)))))))
from_answer = named (codes "answer") number from_lose

abbrev pub OtherLine : Type 0
OtherLine = ℕ ⊎ (ℕ ⊎ (ℕ ⊎ (ℕ ⊎ (ℕ ⊎ (ℕ ⊎ (ℕ ⊎ ((ℕ × ℕ) ⊎ ℕ)))))))

unfoldable pub other_line : Form OtherLine
other_line = named (codes "exec") number from_answer

abbrev pub other_to : OtherLine → Line
other_to (inl n) = line.Exec n
other_to (inr (inl n)) = line.Answer n
other_to (inr (inr (inl n))) = line.Lose n
other_to (inr (inr (inr (inl n)))) = line.Push n
other_to (inr (inr (inr (inr (inl n))))) = line.Deliver n
other_to (inr (inr (inr (inr (inr (inl n)))))) = line.Cut n
other_to (inr (inr (inr (inr (inr (inr (inl n))))))) = line.Expire n
other_to (inr (inr (inr (inr (inr (inr (inr (inl w)))))))) = line.Apply w.0 w.1
other_to (inr (inr (inr (inr (inr (inr (inr (inr n)))))))) = line.Progress n

-- ---- lines of a proxy

abbrev pub from_leave : Form ((ℕ × ℕ) ⊎ OtherLine)
from_leave = named (codes "leave") (both proxy ticket) other_line

abbrev pub from_take : Form ((ℕ × ℕ) ⊎ ((ℕ × ℕ) ⊎ OtherLine))
from_take = named (codes "take") (both proxy ticket) from_leave

abbrev pub from_send : Form (ℕ ⊎ ((ℕ × ℕ) ⊎ ((ℕ × ℕ) ⊎ OtherLine)))
from_send = named (codes "send") proxy from_take

abbrev pub from_tick : Form (ℕ ⊎ (ℕ ⊎ ((ℕ × ℕ) ⊎ ((ℕ × ℕ) ⊎ OtherLine))))
from_tick = named (codes "tick") proxy from_send

abbrev pub from_post : Form ((ℕ × (ℕ × (List ℕ × List ℕ))) ⊎ (ℕ ⊎ (ℕ ⊎ ((ℕ × ℕ) ⊎ ((ℕ × ℕ) ⊎ OtherLine)))))
from_post = named (codes "post") (both proxy (both ticket (both bytes bytes))) from_tick

abbrev pub from_ask : Form ((ℕ × (ℕ × Request)) ⊎ ((ℕ × (ℕ × (List ℕ × List ℕ))) ⊎ (ℕ ⊎ (ℕ ⊎ ((ℕ × ℕ) ⊎ ((ℕ × ℕ) ⊎ OtherLine))))))
from_ask = named (codes "ask") (both proxy (both ticket request)) from_post

abbrev pub from_clock : Form ((ℕ × ℕ) ⊎ ((ℕ × (ℕ × Request)) ⊎ ((ℕ × (ℕ × (List ℕ × List ℕ))) ⊎ (ℕ ⊎ (ℕ ⊎ ((ℕ × ℕ) ⊎ ((ℕ × ℕ) ⊎ OtherLine)))))))
from_clock = named (codes "clock") (both proxy number) from_ask

abbrev pub LaterLine : Type 0
LaterLine = ℕ ⊎ ((ℕ × ℕ) ⊎ ((ℕ × (ℕ × Request)) ⊎ ((ℕ × (ℕ × (List ℕ × List ℕ))) ⊎ (ℕ ⊎ (ℕ ⊎ ((ℕ × ℕ) ⊎ ((ℕ × ℕ) ⊎ OtherLine)))))))

unfoldable pub later_line : Form LaterLine
later_line = named (codes "start") proxy from_clock

abbrev pub later_to : LaterLine → Line
later_to (inl n) = line.Start n
later_to (inr (inl w)) = line.Clock w.0 w.1
later_to (inr (inr (inl w))) = line.Ask w.0 w.1.0 w.1.1
later_to (inr (inr (inr (inl w)))) = line.Post w.0 w.1.0 w.1.1.0 w.1.1.1
later_to (inr (inr (inr (inr (inl n))))) = line.Tick n
later_to (inr (inr (inr (inr (inr (inl n)))))) = line.Send n
later_to (inr (inr (inr (inr (inr (inr (inl w))))))) = line.Take w.0 w.1
later_to (inr (inr (inr (inr (inr (inr (inr (inl w)))))))) = line.Leave w.0 w.1
later_to (inr (inr (inr (inr (inr (inr (inr (inr o)))))))) = other_to o

abbrev pub other : OtherLine → (ℕ × (List ℕ × List ℕ)) ⊎ LaterLine
other o = inr (inr (inr (inr (inr (inr (inr (inr (inr o))))))))

abbrev pub LineWords : Type 0
LineWords = (ℕ × (List ℕ × List ℕ)) ⊎ LaterLine

abbrev pub line_to : LineWords → Line
line_to (inl w) = line.World w.0 w.1.0 w.1.1
line_to (inr l) = later_to l

abbrev pub line_from : Line → LineWords
line_from (line.World members namespace leasing) = inl (members, (namespace, leasing))
line_from (line.Start p) = inr (inl p)
line_from (line.Clock p millis) = inr (inr (inl (p, millis)))
line_from (line.Ask p t asked) = inr (inr (inr (inl (p, (t, asked)))))
line_from (line.Post p t path body) = inr (inr (inr (inr (inl (p, (t, (path, body)))))))
line_from (line.Tick p) = inr (inr (inr (inr (inr (inl p)))))
line_from (line.Send p) = inr (inr (inr (inr (inr (inr (inl p))))))
line_from (line.Take p t) = inr (inr (inr (inr (inr (inr (inr (inl (p, t))))))))
line_from (line.Leave p t) = inr (inr (inr (inr (inr (inr (inr (inr (inl (p, t)))))))))
line_from (line.Exec call) = other (inl call)
line_from (line.Answer call) = other (inr (inl call))
line_from (line.Lose call) = other (inr (inr (inl call)))
line_from (line.Push stream) = other (inr (inr (inr (inl stream))))
line_from (line.Deliver stream) = other (inr (inr (inr (inr (inl stream)))))
line_from (line.Cut stream) = other (inr (inr (inr (inr (inr (inl stream))))))
line_from (line.Expire lease) = other (inr (inr (inr (inr (inr (inr (inl lease)))))))
line_from (line.Apply member revision) = other (inr (inr (inr (inr (inr (inr (inr (inl (member, revision)))))))))
line_from (line.Progress stream) = other (inr (inr (inr (inr (inr (inr (inr (inr stream))))))))

-- the form of the line with this number: `world` is the first line, and no later one is
unfoldable pub line_form : ℕ → Form Line
line_form n = via line_to line_from (either (n == 1) (after (codes "world") world) later_line)

-- the bytes of a line, without its line feed
unfoldable pub line_text : Line → List ℕ
line_text l = text space (line_form 1) l

-- a line that has a text at this number
unfoldable pub is_line : ℕ → Line → Bool
is_line n l = (line_form n).fits l

-- the line with this number that has this text, or the place, from 1, of its first word that is wrong, missing or too many
unfoldable pub line_at : ℕ → List ℕ → Result Line ℕ
line_at n bytes = text_at space (line_form n) bytes
