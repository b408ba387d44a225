-- What a line pins of what it gains first: the ticket of a message that is taken, and the refusal of a body that is posted.
use Rattle.std.proofs.Common.{◌≡◌, ℕ, ◌^◌, ◌&&◌, true, List, [], ◌∷◌, Option, None, Some, Result, Ok, Err, refl, sym, subst}
use Rattle.std.specs.Prelude.{nat_le, nat_lt}
use Rattle.std.proofs.lemmas.Bool.{leb-true, le-leb, ltb-true}
use Rattle.etcd_types.proofs.Bools.{and_first, and_second, and_both}
use Rattle.etcd_types.specs.declared.request.Request.{Request}
use Rattle.etcd_types.specs.declared.watch.WatchItem.{WatchItem}
use Rattle.text_model.specs.Words.{max_number}
use Rattle.message_text.specs.Requests as asks
use Rattle.json_model.specs.declared.extra.Reading.TheVariants.{Client}
use Rattle.json_model.specs.declared.fault.ApiFault.{ApiFault}
use Rattle.json_model.specs.declared.fault.ApiFault.TheVariants as api
use Rattle.json_model.specs.Mapping.{request_of}
use Rattle.text_laws.specs.Values.Fits.{Bytes, RefusalFits, AnswerFits}
use Rattle.text_laws.proofs.Values.Alls.{either}
use Rattle.script_text.specs.declared.item.Item.{Item}
use Rattle.script_text.specs.declared.item.Item.TheVariants as item
use Rattle.script_text.specs.declared.line.Line.{Line}
use Rattle.script_text.specs.declared.line.Line.TheVariants as line
use Rattle.script_text.specs.Lines.{proxy, ticket, is_line}
use Rattle.script_text.specs.Items.{item_words, item_form, is_item}
use Rattle.core_model.specs.declared.event.CoreEvent.{CoreEvent}
use Rattle.core_model.specs.declared.event.Outcome.{Outcome}
use Rattle.core_model.specs.declared.event.StepFault.{StepFault}
use Rattle.core_model.specs.Step.{stepped}
use Rattle.text_laws.specs.Replied.Holds.{IsTicket}
use Rattle.world_model.specs.declared.fault.LineRefusal.{LineRefusal}
use Rattle.world_model.specs.declared.fault.WorldFault.{WorldFault}
use Rattle.world_model.specs.Asks.{was_asked, posted_as, posted_at, posted}
use Rattle.world_model.specs.Gains.{gained}
use Rattle.world_model.specs.Places.{place_at, is_among, with_core, with_posted}
use Rattle.world_model.specs.PostRefusals.{post_code, post_refusal}
use Rattle.world_model.specs.State.{Place, World}
use Rattle.world_model.specs.Steps.{Step, at_place_of, by_outcome, steps}
use Rattle.world_model.specs.Transcript.{Taken, done, refused_so, counted_as}
use Rattle.world_laws.specs.Laws.{IsOwn}
use Rattle.world_laws.proofs.Lines.{gains_own}
use Rattle.text_laws.proofs.Items.Parts.{parts_of}
use Rattle.text_laws.specs.Scripts.Answered.{PostIsRefusedInBytes}

-- ---- tickets

pub ticket_is : (t : ℕ) → ticket.fits t ≡ true → IsTicket t
ticket_is t e = (leb-true 1 t (and_first (nat_le 1 t) (nat_le t max_number) e), leb-true t max_number (and_second (nat_le 1 t) (nat_le t max_number) e))

pub ticket_fits : (t : ℕ) → IsTicket t → ticket.fits t ≡ true
ticket_fits t h = and_both (nat_le 1 t) (nat_le t max_number) (le-leb 1 t h.0) (le-leb t max_number h.1)

-- what is asked has a ticket
pub asked_ticket : (p t : ℕ) (q : Request) → is_item (item.Asked p t q) ≡ true → IsTicket t
unfolding is_item item_form item_words
asked_ticket p t q e = ticket_is t (and_first (ticket.fits t) (asks.request.fits q) (and_second (proxy.fits p) (ticket.fits t && asks.request.fits q) e))

-- ---- what a line pins: the refusal of a posted body, and the ticket of a message that is taken

abbrev pub FirstReply : List Item → Type 0
FirstReply [] = Unit {0}
FirstReply (item.Reply p t a ∷ more) = IsTicket t × AnswerFits max_number a
FirstReply (_ ∷ more) = Unit {0}

abbrev pub PinnedBy : Item → List Item → Type 0
PinnedBy (item.Posted p t path body) rest = FirstReply rest
PinnedBy (item.Taken p t message) rest = IsTicket t
PinnedBy _ rest = Unit {0}

abbrev pub Pinned : List Item → Type 0
Pinned [] = Unit {0}
Pinned (i ∷ rest) = PinnedBy i rest

-- ---- what the lines pin

abbrev NoPost : Line → Type 0
NoPost (line.Post p t path body) = ⊥
NoPost _ = Unit {0}

never_posts : (l : Line) (p t : ℕ) (path body : List ℕ) → NoPost l → IsOwn l (item.Posted p t path body) → ⊥
never_posts (line.Post a b c d) p t path body n h = n
never_posts (line.World members namespace leasing) p t path body n h = h
never_posts (line.Start a) p t path body n h = h
never_posts (line.Clock a b) p t path body n h = h
never_posts (line.Ask a b c) p t path body n h = h
never_posts (line.Tick a) p t path body n h = h
never_posts (line.Send a) p t path body n h = h
never_posts (line.Exec a) p t path body n h = h
never_posts (line.Answer a) p t path body n h = h
never_posts (line.Lose a) p t path body n h = h
never_posts (line.Push a) p t path body n h = h
never_posts (line.Progress a) p t path body n h = h
never_posts (line.Deliver a) p t path body n h = h
never_posts (line.Cut a) p t path body n h = h
never_posts (line.Take a b) p t path body n h = h
never_posts (line.Leave a b) p t path body n h = h
never_posts (line.Expire a) p t path body n h = h
never_posts (line.Apply a b) p t path body n h = h

taken_ticket : (n : ℕ) (l : Line) (p t : ℕ) (x : WatchItem) → is_line n l ≡ true → IsOwn l (item.Taken p t x) → IsTicket t
taken_ticket n (line.Take a b) p t x e h = subst IsTicket (sym h.1) (ticket_is b (parts_of n (line.Take a b) e).1)
taken_ticket n (line.Post a b c d) p t x e h = absurd h
taken_ticket n (line.World members namespace leasing) p t x e h = absurd h
taken_ticket n (line.Start a) p t x e h = absurd h
taken_ticket n (line.Clock a b) p t x e h = absurd h
taken_ticket n (line.Ask a b c) p t x e h = absurd h
taken_ticket n (line.Tick a) p t x e h = absurd h
taken_ticket n (line.Send a) p t x e h = absurd h
taken_ticket n (line.Exec a) p t x e h = absurd h
taken_ticket n (line.Answer a) p t x e h = absurd h
taken_ticket n (line.Lose a) p t x e h = absurd h
taken_ticket n (line.Push a) p t x e h = absurd h
taken_ticket n (line.Progress a) p t x e h = absurd h
taken_ticket n (line.Deliver a) p t x e h = absurd h
taken_ticket n (line.Cut a) p t x e h = absurd h
taken_ticket n (line.Leave a b) p t x e h = absurd h
taken_ticket n (line.Expire a) p t x e h = absurd h
taken_ticket n (line.Apply a b) p t x e h = absurd h

pinned_by : (n : ℕ) (l : Line) (i : Item) (rest : List Item) → is_line n l ≡ true → NoPost l → IsOwn l i → PinnedBy i rest
pinned_by n l (item.Posted p t path body) rest e o h = absurd (never_posts l p t path body o h)
pinned_by n l (item.Taken p t x) rest e o h = taken_ticket n l p t x e h
pinned_by n l (item.Reply p t a) rest e o h = tt
pinned_by n l (item.Body p t status json) rest e o h = tt
pinned_by n l (item.World members namespace leasing) rest e o h = tt
pinned_by n l (item.Started p) rest e o h = tt
pinned_by n l (item.Restarted p) rest e o h = tt
pinned_by n l (item.Clock p millis) rest e o h = tt
pinned_by n l (item.Asked p t q) rest e o h = tt
pinned_by n l (item.Ticked p) rest e o h = tt
pinned_by n l (item.Sent p call member t q) rest e o h = tt
pinned_by n l (item.Opened p stream member q) rest e o h = tt
pinned_by n l (item.Closed p stream) rest e o h = tt
pinned_by n l (item.Executed call a) rest e o h = tt
pinned_by n l (item.Answered call) rest e o h = tt
pinned_by n l (item.Lost call) rest e o h = tt
pinned_by n l (item.Pushed stream message) rest e o h = tt
pinned_by n l (item.Delivered stream) rest e o h = tt
pinned_by n l (item.Cut stream) rest e o h = tt
pinned_by n l (item.Pending p t) rest e o h = tt
pinned_by n l (item.Left p t) rest e o h = tt
pinned_by n l (item.Expired lease) rest e o h = tt
pinned_by n l (item.Applied member revision) rest e o h = tt

abbrev pub DonePinned : Result (List Item) LineRefusal → Type 0
DonePinned (Ok items) = Pinned items
DonePinned (Err why) = Unit {0}

other_pinned : (n : ℕ) (w : World) (l : Line) (r : Result (List Item) LineRefusal) → (done w l).gained ≡ r → is_line n l ≡ true → NoPost l → DonePinned r
other_pinned n w l (Ok items) e f o = let g = gains_own w l items e in subst Pinned (sym g.gained) (pinned_by n l g.own g.rest f o g.repeats)
other_pinned n w l (Err why) e f o = tt

-- a body that is posted

abbrev GainedPinned : Result (List Item) WorldFault → Type 0
GainedPinned (Ok items) = Pinned items
GainedPinned (Err why) = Unit {0}

abbrev StepPinned : Step → Type 0
StepPinned s = GainedPinned s.gained

outcome_pinned : (w : World) (p : ℕ) (x : Place) (why : WorldFault) (next : Place → Outcome → Step) (r : Result Outcome StepFault) → ((y : Place) (o : Outcome) → StepPinned (next y o)) → StepPinned (by_outcome w p x why next r)
outcome_pinned w p x why next (Ok o) h = h x o
outcome_pinned w p x why next (Err f) h = tt

steps_pinned : (w : World) (p : ℕ) (x : Place) (e : CoreEvent) (why : WorldFault) (next : Place → Outcome → Step) → ((y : Place) (o : Outcome) → StepPinned (next y o)) → StepPinned (steps w p x e why next)
steps_pinned w p x e why next h = outcome_pinned w p (with_core x (stepped x.core e x.clock).core) why next (stepped x.core e x.clock).outcome h

code_fits : (why : ApiFault) → nat_lt (post_code why) (2 ^ 32) ≡ true
code_fits api.NoSuchPath = refl
code_fits api.NotJson = refl
code_fits (api.Unsupported name) = refl
code_fits (api.Field why) = refl
code_fits api.NoMemory = refl

refusal_fits : (why : ApiFault) → Bytes (post_refusal why).text → RefusalFits (post_refusal why)
refusal_fits why b = (ltb-true (post_code why) (2 ^ 32) (code_fits why), b)

posted_by : (w : World) (p t : ℕ) (path body : List ℕ) (x : Place) (r : Result Request ApiFault) → IsTicket t → ((why : ApiFault) → r ≡ Err why → Bytes (post_refusal why).text) → StepPinned (posted_as w p t (item.Posted p t path body ∷ []) x r)
posted_by w p t path body x (Ok q) i h = steps_pinned w p x _ _ (was_asked w p t q (item.Posted p t path body ∷ []) (with_posted t)) (λ y o. tt)
posted_by w p t path body x (Err why) i h = (i, refusal_fits why (h why refl))

at_pinned : (w : World) (p : ℕ) (o : Option Place) (f : Place → Step) → ((x : Place) → StepPinned (f x)) → StepPinned (at_place_of w p o f)
at_pinned w p None f h = tt
at_pinned w p (Some x) f h = h x

posted_pinned : (w : World) (p t : ℕ) (path body : List ℕ) → IsTicket t → ((why : ApiFault) → request_of Client path body ≡ Err why → Bytes (post_refusal why).text) → StepPinned (posted w p t path body)
posted_pinned w p t path body i h =
    at_pinned w p (place_at w p) (posted_at w p t path body) (λ x. either StepPinned (is_among x.tickets t) _ _ tt (posted_by w p t path body x (request_of Client path body) i h))

so_pinned : (r : Result (List Item) WorldFault) → GainedPinned r → DonePinned (refused_so r)
so_pinned (Ok items) h = h
so_pinned (Err why) h = tt

pub line_pinned : (n : ℕ) (w : World) (l : Line) → is_line n l ≡ true → PostIsRefusedInBytes l → DonePinned (done w l).gained
line_pinned n w (line.Post p t path body) e h = so_pinned (posted w p t path body).gained (posted_pinned w p t path body (ticket_is t (parts_of n (line.Post p t path body) e).1) h)
line_pinned n w (line.World members namespace leasing) e h = tt
line_pinned n w (line.Start a) e h = other_pinned n w (line.Start a) _ refl e tt
line_pinned n w (line.Clock a b) e h = other_pinned n w (line.Clock a b) _ refl e tt
line_pinned n w (line.Ask a b c) e h = other_pinned n w (line.Ask a b c) _ refl e tt
line_pinned n w (line.Tick a) e h = other_pinned n w (line.Tick a) _ refl e tt
line_pinned n w (line.Send a) e h = other_pinned n w (line.Send a) _ refl e tt
line_pinned n w (line.Exec a) e h = other_pinned n w (line.Exec a) _ refl e tt
line_pinned n w (line.Answer a) e h = other_pinned n w (line.Answer a) _ refl e tt
line_pinned n w (line.Lose a) e h = other_pinned n w (line.Lose a) _ refl e tt
line_pinned n w (line.Push a) e h = other_pinned n w (line.Push a) _ refl e tt
line_pinned n w (line.Progress a) e h = other_pinned n w (line.Progress a) _ refl e tt
line_pinned n w (line.Deliver a) e h = other_pinned n w (line.Deliver a) _ refl e tt
line_pinned n w (line.Cut a) e h = other_pinned n w (line.Cut a) _ refl e tt
line_pinned n w (line.Take a b) e h = other_pinned n w (line.Take a b) _ refl e tt
line_pinned n w (line.Leave a b) e h = other_pinned n w (line.Leave a b) _ refl e tt
line_pinned n w (line.Expire a) e h = other_pinned n w (line.Expire a) _ refl e tt
line_pinned n w (line.Apply a b) e h = other_pinned n w (line.Apply a b) _ refl e tt

abbrev pub TakenPinned : Taken → Type 0
TakenPinned (Ok gained) = Pinned gained.1
TakenPinned (Err why) = Unit {0}

pub counted_pinned : (w : World) (r : Result (List Item) LineRefusal) → DonePinned r → TakenPinned (counted_as w r)
counted_pinned w (Ok items) h = h
counted_pinned w (Err why) h = tt
