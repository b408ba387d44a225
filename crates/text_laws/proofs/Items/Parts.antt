-- What a line that was read is made of, and the texts of items made of that.
use Rattle.std.proofs.Common.{◌≡◌, ℕ, ◌==◌, Bool, true, not, ◌&&◌, List, [], ◌∷◌, ◌++◌, ap, ◌∙◌}
use Rattle.etcd_types.proofs.Bools.{and_first, and_second}
use Rattle.etcd_types.specs.declared.answer.Answer.{Answer}
use Rattle.etcd_types.specs.declared.request.Request.{Request}
use Rattle.etcd_types.specs.declared.watch.WatchItem.{WatchItem}
use Rattle.text_model.specs.Words.{number, bytes}
use Rattle.message_text.specs.Requests.{request}
use Rattle.message_text.specs.Answers.{answer}
use Rattle.message_text.specs.WatchItems.{watch_item}
use Rattle.script_text.specs.declared.item.Item.TheVariants as item
use Rattle.script_text.specs.declared.line.Line.{Line}
use Rattle.script_text.specs.declared.line.Line.TheVariants as line
use Rattle.script_text.specs.Lines.{proxy, ticket, world, later_line, other_line, line_form, is_line}
use Rattle.script_text.specs.Items.{other_item, stream_item, item_words, item_form, is_item}
use Rattle.text_laws.specs.Items.Texts.{Each, HasTextAsMade}

pub each_append : {A : Type 0} (P : A → Type 0) (xs ys : List A) → Each P xs → Each P ys → Each P (xs ++ ys)
each_append P [] ys h k = k
each_append P (x ∷ xs) ys h k = (h.0, each_append P xs ys h.1 k)

abbrev pub Yes : Bool → Type 0
Yes b = b ≡ true

-- ---- lines

-- a line's own words
abbrev pub PartsOf : Line → Type 0
PartsOf (line.World members namespace leasing) = Yes (world.fits (members, (namespace, leasing)))
PartsOf (line.Start p) = Yes (proxy.fits p)
PartsOf (line.Clock p millis) = Yes (proxy.fits p) × Yes (number.fits millis)
PartsOf (line.Ask p t q) = Yes (proxy.fits p) × Yes (ticket.fits t) × Yes (request.fits q)
PartsOf (line.Post p t path body) = Yes (proxy.fits p) × Yes (ticket.fits t) × Yes (bytes.fits path) × Yes (bytes.fits body)
PartsOf (line.Tick p) = Yes (proxy.fits p)
PartsOf (line.Send p) = Yes (proxy.fits p)
PartsOf (line.Exec call) = Yes (number.fits call)
PartsOf (line.Answer call) = Yes (number.fits call)
PartsOf (line.Lose call) = Yes (number.fits call)
PartsOf (line.Push stream) = Yes (number.fits stream)
PartsOf (line.Deliver stream) = Yes (number.fits stream)
PartsOf (line.Cut stream) = Yes (number.fits stream)
PartsOf (line.Take p t) = Yes (proxy.fits p) × Yes (ticket.fits t)
PartsOf (line.Leave p t) = Yes (proxy.fits p) × Yes (ticket.fits t)
PartsOf (line.Expire lease) = Yes (number.fits lease)
PartsOf (line.Apply member revision) = Yes (number.fits member) × Yes (number.fits revision)
PartsOf (line.Progress stream) = Yes (number.fits stream)

both_of : (a b : Bool) → a && b ≡ true → Yes a × Yes b
both_of a b e = (and_first a b e, and_second a b e)

three_of : (a b c : Bool) → a && (b && c) ≡ true → Yes a × Yes b × Yes c
three_of a b c e = let r = and_second a (b && c) e in (and_first a (b && c) e, and_first b c r, and_second b c r)

four_of : (a b c d : Bool) → a && (b && (c && d)) ≡ true → Yes a × Yes b × Yes c × Yes d
four_of a b c d e =
    let r = and_second a (b && (c && d)) e in
    let s = and_second b (c && d) r in
    (and_first a (b && (c && d)) e, and_first b (c && d) r, and_first c d s, and_second c d s)

pub parts_of : (n : ℕ) (l : Line) → is_line n l ≡ true → PartsOf l
unfolding is_line line_form later_line other_line
parts_of n (line.World members namespace leasing) e = and_second (n == 1) (world.fits (members, (namespace, leasing))) e
parts_of n (line.Start p) e = and_second (not (n == 1)) (proxy.fits p) e
parts_of n (line.Clock p millis) e = both_of (proxy.fits p) (number.fits millis) (and_second (not (n == 1)) _ e)
parts_of n (line.Ask p t q) e = three_of (proxy.fits p) (ticket.fits t) (request.fits q) (and_second (not (n == 1)) _ e)
parts_of n (line.Post p t path body) e = four_of (proxy.fits p) (ticket.fits t) (bytes.fits path) (bytes.fits body) (and_second (not (n == 1)) _ e)
parts_of n (line.Tick p) e = and_second (not (n == 1)) (proxy.fits p) e
parts_of n (line.Send p) e = and_second (not (n == 1)) (proxy.fits p) e
parts_of n (line.Exec call) e = and_second (not (n == 1)) (number.fits call) e
parts_of n (line.Answer call) e = and_second (not (n == 1)) (number.fits call) e
parts_of n (line.Lose call) e = and_second (not (n == 1)) (number.fits call) e
parts_of n (line.Push stream) e = and_second (not (n == 1)) (number.fits stream) e
parts_of n (line.Deliver stream) e = and_second (not (n == 1)) (number.fits stream) e
parts_of n (line.Cut stream) e = and_second (not (n == 1)) (number.fits stream) e
parts_of n (line.Take p t) e = both_of (proxy.fits p) (ticket.fits t) (and_second (not (n == 1)) _ e)
parts_of n (line.Leave p t) e = both_of (proxy.fits p) (ticket.fits t) (and_second (not (n == 1)) _ e)
parts_of n (line.Expire lease) e = and_second (not (n == 1)) (number.fits lease) e
parts_of n (line.Apply member revision) e = both_of (number.fits member) (number.fits revision) (and_second (not (n == 1)) _ e)
parts_of n (line.Progress stream) e = and_second (not (n == 1)) (number.fits stream) e

-- ---- items

-- what holds of the front goes
past : (a b : Bool) → Yes a → a && b ≡ b
past a b e = ap (λ (x : Bool). x && b) e

past_two : (a b c : Bool) → Yes a → Yes b → a && (b && c) ≡ c
past_two a b c e f = past a (b && c) e ∙ past b c f

all_three : (a b c : Bool) → Yes a → Yes b → Yes c → a && (b && c) ≡ true
all_three a b c e f g = past_two a b c e f ∙ g

all_four : (a b c d : Bool) → Yes a → Yes b → Yes c → Yes d → a && (b && (c && d)) ≡ true
all_four a b c d e f g h = past a (b && (c && d)) e ∙ all_three b c d f g h

pub world_text : (members : ℕ) (namespace leasing : List ℕ) → Yes (world.fits (members, (namespace, leasing))) → HasTextAsMade (item.World members namespace leasing)
unfolding is_item item_form item_words
world_text members namespace leasing h = h

pub started_text : (p : ℕ) → Yes (proxy.fits p) → HasTextAsMade (item.Started p)
unfolding is_item item_form item_words
started_text p h = h

pub restarted_text : (p : ℕ) → Yes (proxy.fits p) → HasTextAsMade (item.Restarted p)
unfolding is_item item_form item_words
restarted_text p h = h

pub clock_text : (p millis : ℕ) → Yes (proxy.fits p) → Yes (number.fits millis) → HasTextAsMade (item.Clock p millis)
unfolding is_item item_form item_words
clock_text p millis h k = past (proxy.fits p) (number.fits millis) h ∙ k

pub asked_text : (p t : ℕ) (q : Request) → Yes (proxy.fits p) → Yes (ticket.fits t) → HasTextAsMade (item.Asked p t q)
unfolding is_item item_form item_words
asked_text p t q h k = past_two (proxy.fits p) (ticket.fits t) (request.fits q) h k

pub posted_text : (p t : ℕ) (path body : List ℕ) → Yes (proxy.fits p) → Yes (ticket.fits t) → Yes (bytes.fits path) → Yes (bytes.fits body) → HasTextAsMade (item.Posted p t path body)
unfolding is_item item_form item_words
posted_text p t path body h k f g = all_four (proxy.fits p) (ticket.fits t) (bytes.fits path) (bytes.fits body) h k f g

pub ticked_text : (p : ℕ) → Yes (proxy.fits p) → HasTextAsMade (item.Ticked p)
unfolding is_item item_form item_words
ticked_text p h = h

pub sent_text : (p call member t : ℕ) (q : Request) → Yes (proxy.fits p) → Yes (number.fits call) → HasTextAsMade (item.Sent p call member t q)
unfolding is_item item_form item_words
sent_text p call member t q h k = past_two (proxy.fits p) (number.fits call) (number.fits member && (number.fits t && request.fits q)) h k

pub opened_text : (p stream member : ℕ) (q : Request) → Yes (proxy.fits p) → Yes (number.fits stream) → HasTextAsMade (item.Opened p stream member q)
unfolding is_item item_form item_words stream_item
opened_text p stream member q h k = past_two (proxy.fits p) (number.fits stream) (number.fits member && request.fits q) h k

pub closed_text : (p stream : ℕ) → Yes (proxy.fits p) → HasTextAsMade (item.Closed p stream)
unfolding is_item item_form item_words stream_item
closed_text p stream h = past (proxy.fits p) (number.fits stream) h

pub taken_text : (p t : ℕ) (i : WatchItem) → Yes (proxy.fits p) → Yes (ticket.fits t) → HasTextAsMade (item.Taken p t i)
unfolding is_item item_form item_words stream_item
taken_text p t i h k = past_two (proxy.fits p) (ticket.fits t) (watch_item.fits i) h k

pub pending_text : (p t : ℕ) → Yes (proxy.fits p) → Yes (ticket.fits t) → HasTextAsMade (item.Pending p t)
unfolding is_item item_form item_words stream_item
pending_text p t h k = past (proxy.fits p) (ticket.fits t) h ∙ k

pub left_text : (p t : ℕ) → Yes (proxy.fits p) → Yes (ticket.fits t) → HasTextAsMade (item.Left p t)
unfolding is_item item_form item_words stream_item
left_text p t h k = past (proxy.fits p) (ticket.fits t) h ∙ k

pub reply_text : (p t : ℕ) (a : Answer) → Yes (proxy.fits p) → HasTextAsMade (item.Reply p t a)
unfolding is_item item_form item_words stream_item
reply_text p t a h = past (proxy.fits p) (ticket.fits t && answer.fits a) h

pub body_text : (p t status : ℕ) (json : List ℕ) → Yes (proxy.fits p) → HasTextAsMade (item.Body p t status json)
unfolding is_item item_form item_words stream_item
body_text p t status json h = past (proxy.fits p) (ticket.fits t && (number.fits status && bytes.fits json)) h

pub executed_text : (call : ℕ) (a : Answer) → Yes (number.fits call) → HasTextAsMade (item.Executed call a)
unfolding is_item item_form item_words stream_item other_item
executed_text call a h = past (number.fits call) (answer.fits a) h

pub answered_text : (call : ℕ) → Yes (number.fits call) → HasTextAsMade (item.Answered call)
unfolding is_item item_form item_words stream_item other_item
answered_text call h = h

pub lost_text : (call : ℕ) → Yes (number.fits call) → HasTextAsMade (item.Lost call)
unfolding is_item item_form item_words stream_item other_item
lost_text call h = h

pub pushed_text : (stream : ℕ) (i : WatchItem) → Yes (number.fits stream) → HasTextAsMade (item.Pushed stream i)
unfolding is_item item_form item_words stream_item other_item
pushed_text stream i h = past (number.fits stream) (watch_item.fits i) h

pub delivered_text : (stream : ℕ) → Yes (number.fits stream) → HasTextAsMade (item.Delivered stream)
unfolding is_item item_form item_words stream_item other_item
delivered_text stream h = h

pub cut_text : (stream : ℕ) → Yes (number.fits stream) → HasTextAsMade (item.Cut stream)
unfolding is_item item_form item_words stream_item other_item
cut_text stream h = h

pub expired_text : (lease : ℕ) → Yes (number.fits lease) → HasTextAsMade (item.Expired lease)
unfolding is_item item_form item_words stream_item other_item
expired_text lease h = h

pub applied_text : (member revision : ℕ) → Yes (number.fits member) → Yes (number.fits revision) → HasTextAsMade (item.Applied member revision)
unfolding is_item item_form item_words stream_item other_item
applied_text member revision h k = past (number.fits member) (number.fits revision) h ∙ k
