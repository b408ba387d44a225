-- The streams that a proxy has were given numbers, of which there are no more than lines.
use Rattle.std.proofs.Common.{◌≡◌, ◌≤◌, ℕ, zero, suc, ◌+◌, ◌-◌, Bool, true, false, List, [], ◌∷◌, length, set, Option, None, Some, Result, Ok, Err, refl, sym, ◌∙◌, subst, arith, length-append}
use Rattle.std.specs.Prelude.{flat_map}
use Rattle.std.specs.BTreeSet.{BTreeSet}
use Rattle.std.proofs.lemmas.List.{length-set}
use Rattle.etcd_types.specs.declared.answer.Answer.{Answer}
use Rattle.etcd_types.specs.declared.watch.WatchItem.{WatchItem}
use Rattle.text_model.specs.Words.{max_number}
use Rattle.text_laws.specs.Values.Fits.{If}
use Rattle.text_laws.proofs.Values.Alls.{is_number}
use Rattle.script_text.specs.declared.item.Item.{Item}
use Rattle.script_text.specs.declared.item.Item.TheVariants as item
use Rattle.script_text.specs.declared.line.Line.{Line}
use Rattle.script_text.specs.declared.line.Line.TheVariants as line
use Rattle.core_model.specs.declared.event.CoreEvent.{CoreEvent}
use Rattle.core_model.specs.declared.event.CoreEvent.TheVariants as event
use Rattle.core_model.specs.declared.event.Outcome.{Outcome}
use Rattle.core_model.specs.declared.event.Outcome.TheVariants as outcome
use Rattle.core_model.specs.declared.event.StepFault.{StepFault}
use Rattle.core_model.specs.Step.{stepped}
use Rattle.core_model.specs.Takes.{ready}
use Rattle.world_model.specs.declared.fault.LineRefusal.{LineRefusal}
use Rattle.world_model.specs.Gains.{Replies, body_if, reply_items, line_if, fetched, fetched_as, fetched_if, all_fetched}
use Rattle.world_model.specs.Places.{nth, place_at, is_among, with_core, with_place, with_posted, ended}
use Rattle.world_model.specs.Sends.{next_stream, new_stream, closed_in}
use Rattle.world_model.specs.Starts.{new_place}
use Rattle.world_model.specs.State.{Numbered, Place, OpenedStream, World}
use Rattle.world_model.specs.Streams.{with_message}
use Rattle.world_model.specs.Transcript.{Taken, done, counted_as, begun, taken, items_and_then, transcript_from, transcript}
use Rattle.world_laws.proofs.Effects.{Turn, ticks, asks_it, posts_it, calls, opens, closes, answers, loses, delivers, cuts, takes, waits, leaves, Begins, first, again, Effect, starts, sets, refuses_post, executes, expires, applies, pushes, turns, effect}
use Rattle.text_laws.specs.Items.Texts.{Each, HasTextAsMade, HaveTextsAsMade}
use Rattle.text_laws.proofs.Items.Parts.{each_append}
use Rattle.text_laws.proofs.Items.Scripts.{texts_as_made}
use Rattle.text_laws.specs.Scripts.Closed.{ClosedHasText, WhatIsClosedHasAText}
use Rattle.text_laws.proofs.Scripts.Spoken.{AllKept, kept_found, kept_put}

-- its streams have numbers up to this one
abbrev PlaceGiven : ℕ → Place → Type 0
PlaceGiven k x = AllKept (λ n. n ≤ k) x.streams

record WorldGiven (k : ℕ) (w : World) : Type 0 where
  places : AllKept (PlaceGiven k) w.places
  few : length w.streams ≤ k

more_given : (k : ℕ) (es : Numbered ℕ) → AllKept (λ n. n ≤ k) es → AllKept (λ n. n ≤ k + 1) es
more_given k [] h = tt
more_given k (e ∷ es) h = (let a = h.0 in omega (arith, a), more_given k es h.1)

more_places : (k : ℕ) (es : Numbered Place) → AllKept (PlaceGiven k) es → AllKept (PlaceGiven (k + 1)) es
more_places k [] h = tt
more_places k (e ∷ es) h = (more_given k e.1.streams h.0, more_places k es h.1)

place_given : (k : ℕ) (w : World) (p : ℕ) (x : Place) → place_at w p ≡ Some x → WorldGiven k w → PlaceGiven k x
place_given k w p x e h = subst (If (PlaceGiven k)) e (kept_found (PlaceGiven k) w.places p h.places)

with_place_given : (k : ℕ) (w : World) (p : ℕ) (x : Place) → PlaceGiven k x → WorldGiven k w → WorldGiven k (with_place w p x)
with_place_given k w p x f h = record { places = kept_put (PlaceGiven k) w.places p x f h.places; few = h.few }

-- fetching replies leaves the streams
fetched_same : (k n : ℕ) (x : Place) (got : Replies) → PlaceGiven k x → PlaceGiven k (fetched n x got).place
fetched_same k zero x got h = h
fetched_same k (suc n) x got h = by_ticket (ready x.core) (λ y g f. fetched_same k n y g f)
  where
    by_outcome : (t : ℕ) (y : Place) (r : Result Outcome StepFault) → PlaceGiven k y → ((y : Place) (g : Replies) → PlaceGiven k y → PlaceGiven k (fetched n y g).place) → PlaceGiven k (fetched_as (fetched n) y t got r).place
    by_outcome t y (Ok (outcome.Replied a)) f more = more y _ f
    by_outcome t y (Ok outcome.Waiting) f more = f
    by_outcome t y (Ok outcome.Pending) f more = f
    by_outcome t y (Ok outcome.Noted) f more = f
    by_outcome t y (Ok (outcome.Item i)) f more = f
    by_outcome t y (Ok (outcome.Job j)) f more = f
    by_outcome t y (Err why) f more = f

    by_ticket : (o : Option ℕ) → ((y : Place) (g : Replies) → PlaceGiven k y → PlaceGiven k (fetched n y g).place) → PlaceGiven k (fetched_if (fetched n) x got o).place
    by_ticket None more = h
    by_ticket (Some t) more = by_outcome t (with_core x (stepped x.core (event.Take t) x.clock).core) (stepped x.core (event.Take t) x.clock).outcome h more

-- ---- items that close nothing

abbrev IsGiven : ℕ → Item → Type 0
IsGiven k (item.Closed p stream) = stream ≤ k
IsGiven k _ = Unit {0}

body_given : (k p t : ℕ) (a : Answer) (b : Bool) → Each (IsGiven k) (body_if b p t a)
body_given k p t a false = tt
body_given k p t a true = (tt, tt)

reply_given : (k p : ℕ) (posted : BTreeSet ℕ) (r : ℕ × Answer) → Each (IsGiven k) (reply_items p posted r)
reply_given k p posted r = (tt, body_given k p r.0 r.1 (is_among posted r.0))

replies_given : (k p : ℕ) (posted : BTreeSet ℕ) (rs : Replies) → Each (IsGiven k) (flat_map (reply_items p posted) rs)
replies_given k p posted [] = tt
replies_given k p posted (r ∷ rs) = each_append (IsGiven k) (reply_items p posted r) (flat_map (reply_items p posted) rs) (reply_given k p posted r) (replies_given k p posted rs)

line_given : (k p t : ℕ) (i : WatchItem) (b : Bool) → Each (IsGiven k) (line_if b p t i)
line_given k p t i false = tt
line_given k p t i true = (tt, tt)

begins_given : (k : ℕ) (w : World) (p clock life : ℕ) (i : Item) → Begins w p clock life i → IsGiven k i
begins_given k w p clock life i (first e) = tt
begins_given k w p clock life i (again x e) = tt

-- ---- a line

record TurnGiven (k : ℕ) (v : World) (y : Place) (own : List Item) : Type 0 where
  world : WorldGiven k v
  place : PlaceGiven k y
  given : Each (IsGiven k) own

closed_few : (w : World) (n : ℕ) (o : Option OpenedStream) → length (closed_in w n o).streams ≡ length w.streams
closed_few w n None = refl
closed_few w n (Some s) = length-set w.streams (n - 1) _

closed_places : (k : ℕ) (w : World) (n : ℕ) (o : Option OpenedStream) → AllKept (PlaceGiven k) w.places → AllKept (PlaceGiven k) (closed_in w n o).places
closed_places k w n None h = h
closed_places k w n (Some s) h = h

-- the world had fewer, so that one more may be given
wider : (k : ℕ) (w : World) → WorldGiven k w → WorldGiven (k + 1) w
wider k w h = let a = h.few in record { places = more_places k w.places h.places; few = omega (arith, a) }

as_it_was : (k : ℕ) (w v : World) (x y : Place) (own : List Item) → v.places ≡ w.places → length v.streams ≤ length w.streams → y.streams ≡ x.streams → WorldGiven k w → PlaceGiven k x → Each (IsGiven (k + 1)) own → TurnGiven (k + 1) v y own
as_it_was k w v x y own e l s h f g =
    let few = h.few in
    record {
      world = record { places = subst (AllKept (PlaceGiven (k + 1))) (sym e) (more_places k w.places h.places); few = omega (arith, few, l) };
      place = subst (AllKept (λ n. n ≤ k + 1)) (sym s) (more_given k x.streams f);
      given = g;
    }

set_few : (w : World) (n : ℕ) (s : OpenedStream) → length (set w.streams (n - 1) s) ≤ length w.streams
set_few w n s = let e = length-set w.streams (n - 1) s in omega (arith, e)

turn_given : (k : ℕ) (w v : World) (p : ℕ) (x y : Place) (e : CoreEvent) (o : Outcome) (own : List Item) (told : Replies) → Turn w p x e o v y own told → WorldGiven k w → PlaceGiven k x → TurnGiven (k + 1) v y own
turn_given k w v p x y e o own told (ticks z) h f = as_it_was k w v x y _ refl (omega arith) refl h f (tt, tt)
turn_given k w v p x y e o own told (asks_it a q z b) h f = as_it_was k w v x y _ refl (omega arith) refl h f (tt, tt)
turn_given k w v p x y e o own told (posts_it a path body q z b) h f = as_it_was k w v x y _ refl (omega arith) refl h f (tt, (tt, tt))
turn_given k w v p x y e o own told (calls n member a q) h f = as_it_was k w v x y _ refl (omega arith) refl h f (tt, tt)
turn_given k w v p x y e o own told (opens n member ask) h f =
    let a = h.few in
    let b = length-append w.streams (new_stream p x n ∷ []) in
    record {
      world = record { places = more_places k w.places h.places; few = omega (arith, a, b) };
      place = kept_put (λ m. m ≤ k + 1) x.streams n (next_stream w) (omega (arith, a)) (more_given k x.streams f);
      given = (tt, tt);
    }
turn_given k w v p x y e o own told (closes n stream at) h f =
    let a = h.few in
    let b = closed_few w stream (nth w.streams stream) in
    record {
      world = record { places = closed_places (k + 1) w stream (nth w.streams stream) (more_places k w.places h.places); few = omega (arith, a, b) };
      place = more_given k x.streams f;
      given = (subst (If (λ m. m ≤ k + 1)) at (kept_found (λ m. m ≤ k + 1) x.streams n (more_given k x.streams f)), tt);
    }
turn_given k w v p x y e o own told (answers n call a z b c) h f = as_it_was k w v x y _ refl (omega arith) refl h f (tt, tt)
turn_given k w v p x y e o own told (loses n call z b) h f = as_it_was k w v x y _ refl (omega arith) refl h f (tt, tt)
turn_given k w v p x y e o own told (delivers n s i rest z b c a d r) h f = as_it_was k w v x y _ refl (set_few w n (record s { waiting = rest })) refl h f (tt, tt)
turn_given k w v p x y e o own told (cuts n s z b c a d) h f = as_it_was k w v x y _ refl (set_few w n (ended s)) refl h f (tt, tt)
turn_given k w v p x y e o own told (takes a i) h f = as_it_was k w v x y _ refl (omega arith) refl h f (tt, line_given (k + 1) p a i (is_among x.posted a))
turn_given k w v p x y e o own told (waits a z b) h f = as_it_was k w v x y _ refl (omega arith) refl h f (tt, tt)
turn_given k w v p x y e o own told (leaves a z) h f = as_it_was k w v x y _ refl (omega arith) refl h f (tt, tt)

record LineGiven (k : ℕ) (after : World) (gained : List Item) : Type 0 where
  world : WorldGiven k after
  given : Each (IsGiven k) gained

effect_given : (k : ℕ) (w after : World) (gained : List Item) → Effect w after gained → WorldGiven k w → LineGiven (k + 1) after gained
effect_given k w after gained (starts p clock life i b) h = record { world = with_place_given (k + 1) w p (new_place w clock life) tt (wider k w h); given = (begins_given (k + 1) w p clock life i b, tt) }
effect_given k w after gained (sets p millis x e forward) h =
    record { world = with_place_given (k + 1) w p (record x { clock = millis }) (place_given (k + 1) w p x e (wider k w h)) (wider k w h); given = (tt, tt) }
effect_given k w after gained (refuses_post p t path body a x e) h =
    record { world = with_place_given (k + 1) w p (with_posted t x) (place_given (k + 1) w p x e (wider k w h)) (wider k w h); given = (tt, reply_given (k + 1) p (with_posted t x).posted (t, a)) }
effect_given k w after gained (executes n call e fresh) h = let v = wider k w h in record { world = record { places = v.places; few = v.few }; given = (tt, tt) }
effect_given k w after gained (expires lease t e due) h = let v = wider k w h in record { world = record { places = v.places; few = v.few }; given = (tt, tt) }
effect_given k w after gained (applies member revision t e) h = let v = wider k w h in record { world = record { places = v.places; few = v.few }; given = (tt, tt) }
effect_given k w after gained (pushes n s t i e a b f) h =
    let few = h.few in
    let l = set_few w n (with_message i s) in
    record { world = record { places = more_places k w.places h.places; few = omega (arith, few, l) }; given = (tt, tt) }
effect_given k w after gained (turns p x e o v y own told at is t) h =
    let z = with_core x (stepped x.core e x.clock).core in
    let f = all_fetched y told in
    let u = turn_given k w v p z y e o own told t h (place_given k w p x at h) in
    record {
      world = with_place_given (k + 1) v p f.place (fetched_same (k + 1) _ y told u.place) u.world;
      given = each_append (IsGiven (k + 1)) own (flat_map (reply_items p f.place.posted) f.replies) u.given (replies_given (k + 1) p f.place.posted f.replies);
    }

-- ---- all lines

-- at most as many as a text can tell
abbrev CloseFits : Item → Type 0
CloseFits i = IsGiven max_number i

fits_so : (k : ℕ) (i : Item) → k ≤ max_number → IsGiven k i → CloseFits i
fits_so k (item.Closed p stream) l h = omega (arith, l, h)
fits_so k (item.World members namespace leasing) l h = tt
fits_so k (item.Started p) l h = tt
fits_so k (item.Restarted p) l h = tt
fits_so k (item.Clock p millis) l h = tt
fits_so k (item.Asked p t q) l h = tt
fits_so k (item.Posted p t path body) l h = tt
fits_so k (item.Ticked p) l h = tt
fits_so k (item.Sent p call member t q) l h = tt
fits_so k (item.Opened p stream member q) l h = tt
fits_so k (item.Executed call a) l h = tt
fits_so k (item.Answered call) l h = tt
fits_so k (item.Lost call) l h = tt
fits_so k (item.Pushed stream message) l h = tt
fits_so k (item.Delivered stream) l h = tt
fits_so k (item.Cut stream) l h = tt
fits_so k (item.Taken p t i) l h = tt
fits_so k (item.Pending p t) l h = tt
fits_so k (item.Left p t) l h = tt
fits_so k (item.Expired lease) l h = tt
fits_so k (item.Applied member revision) l h = tt
fits_so k (item.Reply p t a) l h = tt
fits_so k (item.Body p t status json) l h = tt

all_fit : (k : ℕ) (items : List Item) → k ≤ max_number → Each (IsGiven k) items → Each CloseFits items
all_fit k [] l h = tt
all_fit k (i ∷ items) l h = (fits_so k i l h.0, all_fit k items l h.1)

abbrev TakenGiven : ℕ → Taken → Type 0
TakenGiven k (Ok gained) = WorldGiven k gained.0 × Each CloseFits gained.1
TakenGiven k (Err why) = Unit {0}

counted_given : (k : ℕ) (w : World) (l : Line) (r : Result (List Item) LineRefusal) → (done w l).gained ≡ r → k + 1 ≤ max_number → WorldGiven k w → TakenGiven (k + 1) (counted_as (done w l).world r)
counted_given k w l (Ok gained) e room h =
    let c = effect_given k w (done w l).world gained (effect w l gained e) h in
    (record { places = c.world.places; few = c.world.few }, all_fit (k + 1) gained room c.given)
counted_given k w l (Err why) e room h = tt

and_then_given : (k : ℕ) (t : Taken) (rest : World → List Item) → TakenGiven k t → ((w : World) → WorldGiven k w → Each CloseFits (rest w)) → Each CloseFits (items_and_then t rest)
and_then_given k (Ok gained) rest h f = each_append CloseFits gained.1 (rest gained.0) h.1 (f gained.0 h.0)
and_then_given k (Err why) rest h f = tt

from_given : (k : ℕ) (w : World) (lines : List Line) → k + length lines ≤ max_number → WorldGiven k w → Each CloseFits (transcript_from (Some w) lines)
from_given k w [] l h = tt
from_given k w (x ∷ lines) l h =
    and_then_given (k + 1) (taken w x) (λ after. transcript_from (Some after) lines) (counted_given k w x (done w x).gained refl (omega (arith, l)) h) (λ v g. from_given (k + 1) v lines (omega (arith, l)) g)

begun_given : (l : Line) → TakenGiven 0 (begun l)
begun_given (line.World members namespace leasing) = (record { places = tt; few = omega arith }, (tt, tt))
begun_given _ = tt

closings_fit : (lines : List Line) → length lines ≤ max_number → Each CloseFits (transcript lines)
closings_fit [] l = tt
closings_fit (x ∷ lines) l = and_then_given 0 (begun x) (λ after. transcript_from (Some after) lines) (begun_given x) (λ v g. from_given 0 v lines (omega (arith, l)) g)

is_closed : (i : Item) → HasTextAsMade i → CloseFits i → ClosedHasText i
is_closed (item.Closed p stream) e f = e ∙ is_number stream f
is_closed (item.World members namespace leasing) e f = tt
is_closed (item.Started p) e f = tt
is_closed (item.Restarted p) e f = tt
is_closed (item.Clock p millis) e f = tt
is_closed (item.Asked p t q) e f = tt
is_closed (item.Posted p t path body) e f = tt
is_closed (item.Ticked p) e f = tt
is_closed (item.Sent p call member t q) e f = tt
is_closed (item.Opened p stream member q) e f = tt
is_closed (item.Executed call a) e f = tt
is_closed (item.Answered call) e f = tt
is_closed (item.Lost call) e f = tt
is_closed (item.Pushed stream message) e f = tt
is_closed (item.Delivered stream) e f = tt
is_closed (item.Cut stream) e f = tt
is_closed (item.Taken p t i) e f = tt
is_closed (item.Pending p t) e f = tt
is_closed (item.Left p t) e f = tt
is_closed (item.Expired lease) e f = tt
is_closed (item.Applied member revision) e f = tt
is_closed (item.Reply p t a) e f = tt
is_closed (item.Body p t status json) e f = tt

all_closed : (items : List Item) → HaveTextsAsMade items → Each CloseFits items → Each ClosedHasText items
all_closed [] h k = tt
all_closed (i ∷ items) h k = (is_closed i h.0 k.0, all_closed items h.1 k.1)

pub closed_fit : WhatIsClosedHasAText
closed_fit lines r few = all_closed (transcript lines) (texts_as_made lines r few) (closings_fit lines few)
