-- What a line asks is what the item tells that was asked.
use Rattle.std.proofs.Common.{◌≡◌, ℕ, ◌+◌, Bool, true, false, cond, List, [], ◌∷◌, ◌++◌, Option, None, Some, Result, Ok, Err, refl, sym, ◌∙◌, subst}
use Rattle.std.specs.Prelude.{flat_map}
use Rattle.std.specs.BTreeSet.{BTreeSet}
use Rattle.etcd_types.specs.declared.answer.Answer.{Answer}
use Rattle.etcd_types.specs.declared.answer.Answer.TheVariants.{Refused}
use Rattle.etcd_types.specs.declared.request.Request.{Request}
use Rattle.etcd_types.specs.declared.watch.WatchItem.{WatchItem}
use Rattle.json_model.specs.declared.extra.Reading.TheVariants.{Client}
use Rattle.json_model.specs.declared.fault.ApiFault.{ApiFault}
use Rattle.json_model.specs.Mapping.{request_of}
use Rattle.message_text.specs.Requests as asks
use Rattle.script_text.specs.declared.item.Item.{Item}
use Rattle.script_text.specs.declared.item.Item.TheVariants as item
use Rattle.script_text.specs.declared.line.Line.{Line}
use Rattle.script_text.specs.declared.line.Line.TheVariants as line
use Rattle.script_text.specs.Lines.{is_line}
use Rattle.script_text.specs.Items.{is_item}
use Rattle.core_model.specs.declared.event.CoreEvent.{CoreEvent}
use Rattle.core_model.specs.declared.event.Outcome.{Outcome}
use Rattle.core_model.specs.declared.event.StepFault.{StepFault}
use Rattle.core_model.specs.Step.{stepped}
use Rattle.world_model.specs.declared.fault.LineRefusal.{LineRefusal}
use Rattle.world_model.specs.declared.fault.WorldFault.{WorldFault}
use Rattle.world_model.specs.Asks.{told_at_once, was_asked, asked_at, asked, posted_as, posted_at, posted}
use Rattle.world_model.specs.Gains.{Replies, body_if, reply_items, line_if, all_fetched, gained}
use Rattle.world_model.specs.PostRefusals.{post_refusal}
use Rattle.world_model.specs.Places.{place_at, is_among, with_core, with_ticket, with_posted}
use Rattle.world_model.specs.State.{Place, World}
use Rattle.world_model.specs.Steps.{Step, at_place_of, by_outcome, steps}
use Rattle.world_model.specs.Transcript.{Taken, done, refused_so, counted_as, begun, taken, next, items_and_then, transcript_from}
use Rattle.world_laws.proofs.Effects.{Turn, ticks, asks_it, posts_it, calls, opens, closes, answers, loses, delivers, cuts, takes, waits, leaves, Begins, first, again, Effect, starts, sets, refuses_post, executes, expires, applies, pushes, turns, effect}
use Rattle.world_laws.specs.Laws.{IsOwn, GainsItsOwn}
use Rattle.world_laws.proofs.Lines.{gains_own}
use Rattle.text_laws.specs.Items.Texts.{Each, AreRead}
use Rattle.text_laws.proofs.Items.Parts.{each_append, PartsOf, parts_of, asked_text}
use Rattle.text_laws.specs.Scripts.Spoken.{AskedHasText}
use Rattle.text_laws.specs.Scripts.Asked.{PostHasText, WhatIsAskedHasAText, ReadScriptsSpeakInTexts}
use Rattle.text_laws.proofs.Scripts.Spoken.{spoken_fit}

-- ---- items that ask nothing

body_asks : (p t : ℕ) (a : Answer) (b : Bool) → Each AskedHasText (body_if b p t a)
body_asks p t a false = tt
body_asks p t a true = (tt, tt)

reply_asks : (p : ℕ) (posted : BTreeSet ℕ) (r : ℕ × Answer) → Each AskedHasText (reply_items p posted r)
reply_asks p posted r = (tt, body_asks p r.0 r.1 (is_among posted r.0))

replies_ask : (p : ℕ) (posted : BTreeSet ℕ) (rs : Replies) → Each AskedHasText (flat_map (reply_items p posted) rs)
replies_ask p posted [] = tt
replies_ask p posted (r ∷ rs) = each_append AskedHasText (reply_items p posted r) (flat_map (reply_items p posted) rs) (reply_asks p posted r) (replies_ask p posted rs)

line_asks : (p t : ℕ) (i : WatchItem) (b : Bool) → Each AskedHasText (line_if b p t i)
line_asks p t i false = tt
line_asks p t i true = (tt, tt)

begins_asks : (w : World) (p clock life : ℕ) (i : Item) → Begins w p clock life i → AskedHasText i
begins_asks w p clock life i (first e) = tt
begins_asks w p clock life i (again x e) = tt

-- ---- a line that asks or posts

abbrev GainedAsks : Result (List Item) WorldFault → Type 0
GainedAsks (Ok items) = Each AskedHasText items
GainedAsks (Err why) = Unit {0}

abbrev Asks : Step → Type 0
Asks s = GainedAsks s.gained

choice : {A : Type 0} (P : A → Type 0) (b : Bool) (x y : A) → P x → P y → P (cond b x y)
choice P true x y f g = f
choice P false x y f g = g

gained_asks : (w : World) (p : ℕ) (x : Place) (own : List Item) (told : Replies) → Each AskedHasText own → Asks (gained w p x own told)
gained_asks w p x own told h =
    let f = all_fetched x told in
    each_append AskedHasText own (flat_map (reply_items p f.place.posted) f.replies) h (replies_ask p f.place.posted f.replies)

outcome_asks : (w : World) (p : ℕ) (x : Place) (why : WorldFault) (next : Place → Outcome → Step) (r : Result Outcome StepFault) → ((y : Place) (o : Outcome) → Asks (next y o)) → Asks (by_outcome w p x why next r)
outcome_asks w p x why next (Ok o) h = h x o
outcome_asks w p x why next (Err f) h = tt

steps_ask : (w : World) (p : ℕ) (x : Place) (e : CoreEvent) (why : WorldFault) (next : Place → Outcome → Step) → ((y : Place) (o : Outcome) → Asks (next y o)) → Asks (steps w p x e why next)
steps_ask w p x e why next h = outcome_asks w p (with_core x (stepped x.core e x.clock).core) why next (stepped x.core e x.clock).outcome h

at_asks : (w : World) (p : ℕ) (o : Option Place) (f : Place → Step) → ((x : Place) → Asks (f x)) → Asks (at_place_of w p o f)
at_asks w p None f h = tt
at_asks w p (Some x) f h = h x

asked_asks : (w : World) (p t : ℕ) (q : Request) → is_item (item.Asked p t q) ≡ true → Asks (asked w p t q)
asked_asks w p t q h =
    at_asks w p (place_at w p) (asked_at w p t q)
    (λ x. choice Asks (is_among x.tickets t) _ _ tt
    (steps_ask w p x _ _ (was_asked w p t q [] (with_ticket t)) (λ y o. gained_asks w p (with_ticket t y) (item.Asked p t q ∷ []) (told_at_once t o) (h, tt))))

posted_by : (w : World) (p t : ℕ) (path body : List ℕ) (x : Place) (r : Result Request ApiFault) → ((q : Request) → r ≡ Ok q → is_item (item.Asked p t q) ≡ true) → Asks (posted_as w p t (item.Posted p t path body ∷ []) x r)
posted_by w p t path body x (Ok q) h =
    steps_ask w p x _ _ (was_asked w p t q (item.Posted p t path body ∷ []) (with_posted t))
    (λ y o. gained_asks w p (with_posted t y) (item.Posted p t path body ∷ item.Asked p t q ∷ []) (told_at_once t o) (tt, (h q refl, tt)))
posted_by w p t path body x (Err why) h = (tt, reply_asks p (with_posted t x).posted (t, Refused (post_refusal why)))

posted_asks : (w : World) (p t : ℕ) (path body : List ℕ) → ((q : Request) → request_of Client path body ≡ Ok q → is_item (item.Asked p t q) ≡ true) → Asks (posted w p t path body)
posted_asks w p t path body h =
    at_asks w p (place_at w p) (posted_at w p t path body) (λ x. choice Asks (is_among x.tickets t) _ _ tt (posted_by w p t path body x (request_of Client path body) h))

-- ---- the other lines

abbrev Other : Line → Type 0
Other (line.Ask p t q) = ⊥
Other (line.Post p t path body) = ⊥
Other _ = Unit {0}

same_head : (x y : Item) (xs ys : List Item) → x ∷ xs ≡ y ∷ ys → x ≡ y
same_head x y xs ys e = cc

-- what a line gains first is no item of another line
no_ask : (l : Line) (p t : ℕ) (q : Request) → Other l → IsOwn l (item.Asked p t q) → ⊥
no_ask (line.Ask a b c) p t q o h = o
no_ask (line.Post a b c d) p t q o h = o
no_ask (line.World members namespace leasing) p t q o h = h
no_ask (line.Start a) p t q o h = h
no_ask (line.Clock a b) p t q o h = h
no_ask (line.Tick a) p t q o h = h
no_ask (line.Send a) p t q o h = h
no_ask (line.Exec a) p t q o h = h
no_ask (line.Answer a) p t q o h = h
no_ask (line.Lose a) p t q o h = h
no_ask (line.Push a) p t q o h = h
no_ask (line.Deliver a) p t q o h = h
no_ask (line.Cut a) p t q o h = h
no_ask (line.Take a b) p t q o h = h
no_ask (line.Leave a b) p t q o h = h
no_ask (line.Expire a) p t q o h = h
no_ask (line.Apply a b) p t q o h = h
no_ask (line.Progress a) p t q o h = h

no_post : (l : Line) (p t : ℕ) (path body : List ℕ) → Other l → IsOwn l (item.Posted p t path body) → ⊥
no_post (line.Ask a b c) p t x y o h = o
no_post (line.Post a b c d) p t x y o h = o
no_post (line.World members namespace leasing) p t x y o h = h
no_post (line.Start a) p t x y o h = h
no_post (line.Clock a b) p t x y o h = h
no_post (line.Tick a) p t x y o h = h
no_post (line.Send a) p t x y o h = h
no_post (line.Exec a) p t x y o h = h
no_post (line.Answer a) p t x y o h = h
no_post (line.Lose a) p t x y o h = h
no_post (line.Push a) p t x y o h = h
no_post (line.Deliver a) p t x y o h = h
no_post (line.Cut a) p t x y o h = h
no_post (line.Take a b) p t x y o h = h
no_post (line.Leave a b) p t x y o h = h
no_post (line.Expire a) p t x y o h = h
no_post (line.Apply a b) p t x y o h = h
no_post (line.Progress a) p t x y o h = h

turn_asks : (w v : World) (p : ℕ) (x y : Place) (l : Line) (e : CoreEvent) (o : Outcome) (own rest : List Item) (told : Replies) → Turn w p x e o v y own told → GainsItsOwn l (own ++ rest) → Other l → Each AskedHasText own
turn_asks w v p x y l e o own rest told (ticks z) g n = (tt, tt)
turn_asks w v p x y l e o own rest told (asks_it t q z f) g n =
    absurd (no_ask l p t q n (subst (IsOwn l) (sym (same_head (item.Asked p t q) g.own _ g.rest g.gained)) g.repeats))
turn_asks w v p x y l e o own rest told (posts_it t path body q z f) g n =
    absurd (no_post l p t path body n (subst (IsOwn l) (sym (same_head (item.Posted p t path body) g.own _ g.rest g.gained)) g.repeats))
turn_asks w v p x y l e o own rest told (calls m member t q) g n = (tt, tt)
turn_asks w v p x y l e o own rest told (opens m member ask) g n = (tt, tt)
turn_asks w v p x y l e o own rest told (closes m stream at) g n = (tt, tt)
turn_asks w v p x y l e o own rest told (answers m call a z f h) g n = (tt, tt)
turn_asks w v p x y l e o own rest told (loses m call z f) g n = (tt, tt)
turn_asks w v p x y l e o own rest told (delivers m s i more z f h a b r) g n = (tt, tt)
turn_asks w v p x y l e o own rest told (cuts m s z f h a b) g n = (tt, tt)
turn_asks w v p x y l e o own rest told (takes t i) g n = (tt, line_asks p t i (is_among x.posted t))
turn_asks w v p x y l e o own rest told (waits t z f) g n = (tt, tt)
turn_asks w v p x y l e o own rest told (leaves t z) g n = (tt, tt)

other_asks : (w after : World) (l : Line) (items : List Item) → Effect w after items → GainsItsOwn l items → Other l → Each AskedHasText items
other_asks w after l items (starts p clock life i b) g n = (begins_asks w p clock life i b, tt)
other_asks w after l items (sets p millis x e forward) g n = (tt, tt)
other_asks w after l items (refuses_post p t path body a x e) g n = (tt, reply_asks p _ (t, a))
other_asks w after l items (executes m call e fresh) g n = (tt, tt)
other_asks w after l items (expires lease t e due) g n = (tt, tt)
other_asks w after l items (applies member revision t e) g n = (tt, tt)
other_asks w after l items (pushes m s t i e a b f) g n = (tt, tt)
other_asks w after l items (turns p x e o v y own told at is t) g n =
    let f = all_fetched y told in
    let rest = flat_map (reply_items p f.place.posted) f.replies in
    each_append AskedHasText own rest (turn_asks w v p (with_core x (stepped x.core e x.clock).core) y l e o own rest told t g n) (replies_ask p f.place.posted f.replies)

-- ---- all lines

abbrev DoneAsks : Result (List Item) LineRefusal → Type 0
DoneAsks (Ok items) = Each AskedHasText items
DoneAsks (Err why) = Unit {0}

so_asks : (r : Result (List Item) WorldFault) → GainedAsks r → DoneAsks (refused_so r)
so_asks (Ok items) h = h
so_asks (Err why) h = tt

other_done : (w : World) (l : Line) (r : Result (List Item) LineRefusal) → (done w l).gained ≡ r → Other l → DoneAsks r
other_done w l (Ok items) e n = other_asks w (done w l).world l items (effect w l items e) (gains_own w l items e) n
other_done w l (Err why) e n = tt

asked_ok : (n p t : ℕ) (q : Request) → PartsOf (line.Ask p t q) → is_item (item.Asked p t q) ≡ true
asked_ok n p t q h = asked_text p t q h.0 h.1 ∙ h.2

post_ok : (p t : ℕ) (path body : List ℕ) (q : Request) → PartsOf (line.Post p t path body) → asks.request.fits q ≡ true → is_item (item.Asked p t q) ≡ true
post_ok p t path body q h f = asked_text p t q h.0 h.1 ∙ f

line_done : (n : ℕ) (w : World) (l : Line) → is_line n l ≡ true → PostHasText l → DoneAsks (done w l).gained
line_done n w (line.Ask p t q) e h = so_asks (asked w p t q).gained (asked_asks w p t q (asked_ok n p t q (parts_of n (line.Ask p t q) e)))
line_done n w (line.Post p t path body) e h =
    so_asks (posted w p t path body).gained (posted_asks w p t path body (λ q f. post_ok p t path body q (parts_of n (line.Post p t path body) e) (h q f)))
line_done n w (line.World members namespace leasing) e h = tt
line_done n w (line.Start p) e h = other_done w (line.Start p) _ refl tt
line_done n w (line.Clock p millis) e h = other_done w (line.Clock p millis) _ refl tt
line_done n w (line.Tick p) e h = other_done w (line.Tick p) _ refl tt
line_done n w (line.Send p) e h = other_done w (line.Send p) _ refl tt
line_done n w (line.Exec m) e h = other_done w (line.Exec m) _ refl tt
line_done n w (line.Answer m) e h = other_done w (line.Answer m) _ refl tt
line_done n w (line.Lose m) e h = other_done w (line.Lose m) _ refl tt
line_done n w (line.Push m) e h = other_done w (line.Push m) _ refl tt
line_done n w (line.Progress m) e h = other_done w (line.Progress m) _ refl tt
line_done n w (line.Deliver m) e h = other_done w (line.Deliver m) _ refl tt
line_done n w (line.Cut m) e h = other_done w (line.Cut m) _ refl tt
line_done n w (line.Take p t) e h = other_done w (line.Take p t) _ refl tt
line_done n w (line.Leave p t) e h = other_done w (line.Leave p t) _ refl tt
line_done n w (line.Expire lease) e h = other_done w (line.Expire lease) _ refl tt
line_done n w (line.Apply member revision) e h = other_done w (line.Apply member revision) _ refl tt

abbrev TakenAsks : Taken → Type 0
TakenAsks (Ok gained) = Each AskedHasText gained.1
TakenAsks (Err why) = Unit {0}

counted_asks : (w : World) (r : Result (List Item) LineRefusal) → DoneAsks r → TakenAsks (counted_as w r)
counted_asks w (Ok items) h = h
counted_asks w (Err why) h = tt

and_then_asks : (t : Taken) (rest : World → List Item) → TakenAsks t → ((w : World) → Each AskedHasText (rest w)) → Each AskedHasText (items_and_then t rest)
and_then_asks (Ok gained) rest h f = each_append AskedHasText gained.1 (rest gained.0) h (f gained.0)
and_then_asks (Err why) rest h f = tt

from_asks : (n : ℕ) (w : World) (lines : List Line) → AreRead n lines → Each PostHasText lines → Each AskedHasText (transcript_from (Some w) lines)
from_asks n w [] r h = tt
from_asks n w (l ∷ lines) r h =
    and_then_asks (taken w l) (λ after. transcript_from (Some after) lines) (counted_asks (done w l).world (done w l).gained (line_done n w l r.0 h.0)) (λ v. from_asks (n + 1) v lines r.1 h.1)

begun_asks : (l : Line) → TakenAsks (begun l)
begun_asks (line.World members namespace leasing) = (tt, tt)
begun_asks _ = tt

pub asked_fit : WhatIsAskedHasAText
asked_fit [] r few h = tt
asked_fit (l ∷ lines) r few h = and_then_asks (begun l) (λ after. transcript_from (Some after) lines) (begun_asks l) (λ v. from_asks 2 v lines r.1 h.1)

pub scripts_speak : ReadScriptsSpeakInTexts
scripts_speak most lines r few h some small room = spoken_fit most lines r few some small room (asked_fit lines r few h)
