-- Ready replies are fetched.
use Rattle.std.proofs.Common.{◌≡◌, ℕ, zero, suc, length, Option, None, Some, Result, Ok, Err, refl, sym, ◌∙◌, ap, subst}
use Rattle.etcd_types.specs.declared.watch.WatchItem.{WatchItem}
use Rattle.watch_model.specs.Lookups.{watch_at}
use Rattle.watch_model.specs.State.{Watch, Broadcasts}
use Rattle.watch_model.specs.Takes.{taken_from as messages_taken}
use Rattle.read_model.specs.declared.asked.Asked.{Asked}
use Rattle.read_model.specs.declared.asked.Stage.{Stage}
use Rattle.read_model.specs.declared.asked.Stage.TheVariants as stage
use Rattle.core_model.specs.declared.event.CoreEvent.TheVariants as event
use Rattle.core_model.specs.declared.event.Outcome.{Outcome}
use Rattle.core_model.specs.declared.event.Outcome.TheVariants as outcome
use Rattle.core_model.specs.declared.event.StepFault.{StepFault}
use Rattle.core_model.specs.declared.event.StepFault.TheVariants as fault
use Rattle.core_model.specs.declared.settings.Settings.{Settings}
use Rattle.core_model.specs.ClockWork.{clock_work}
use Rattle.core_model.specs.Lookups.{ask_at}
use Rattle.core_model.specs.State.{Core}
use Rattle.core_model.specs.Step.{opening_at, happened, is_worn, stepped}
use Rattle.core_model.specs.Stepped.{Stepped, faults, counted_by, counted}
use Rattle.core_model.specs.Takes.{taken_from, item_taken, taken, on_take, ready}
use Rattle.core_model.specs.Watching.{taken_item}
use Rattle.core_laws.proofs.Steps.Comes.{by_test}
use Rattle.core_laws.proofs.Steps.Staying.{steps_stay}
use Rattle.core_moves.specs.Sees.{Moves}
use Rattle.event_moves.proofs.Events.{events_move}
use Rattle.world_model.specs.Gains.{Replies, with_reply, fetched_as, fetched_if, fetched}
use Rattle.world_model.specs.Places.{place_at, with_core, with_place}
use Rattle.world_model.specs.State.{Numbered, Place, World}
use Rattle.held_laws.proofs.Worlds.{placed_itself}
use Rattle.bridge_laws.specs.Shown.{numbers, PlaceShown, Shown}
use Rattle.bridge_laws.specs.Turns.{KeepsPlace}
use Rattle.bridge_laws.proofs.Senders.{senders_last}
use Rattle.bridge_laws.proofs.Turns.{turns_stay_shown}
use Rattle.turn_laws.proofs.Outs.{outs_kept}
use Rattle.shown_laws.specs.Fetches.{FetchesStayShown}
use Rattle.shown_laws.proofs.Clock.{clock_leaves}
use Rattle.shown_laws.proofs.Lists.{kept_again}

-- ---- a fetch leaves calls and the leasing stream

record LeavesCalls (c d : Core) : Type 0 where
  calls : d.calls ≡ c.calls
  leasing : d.leasing ≡ c.leasing

take_from_leaves : (ticket : ℕ) (s : Stage) (c : Core) → LeavesCalls c (taken_from ticket s c).core
take_from_leaves ticket (stage.Replied v) c = record { calls = refl; leasing = refl }
take_from_leaves ticket (stage.Calling s) c = record { calls = refl; leasing = refl }
take_from_leaves ticket stage.Acquiring c = record { calls = refl; leasing = refl }
take_from_leaves ticket stage.Joined c = record { calls = refl; leasing = refl }
take_from_leaves ticket stage.Behind c = record { calls = refl; leasing = refl }
take_from_leaves ticket stage.Writes c = record { calls = refl; leasing = refl }
take_from_leaves ticket (stage.Grouped s) c = record { calls = refl; leasing = refl }

item_leaves : (ticket : ℕ) (o : Option Watch) (c : Core) → LeavesCalls c (item_taken ticket o c).core
item_leaves ticket None c = record { calls = refl; leasing = refl }
item_leaves ticket (Some w) c = by (messages_taken c.watches c.header w w.queue)
  where
    by : (x : Broadcasts × Option WatchItem) → LeavesCalls c (taken_item c x).core
    by (b, None) = record { calls = refl; leasing = refl }
    by (b, Some i) = record { calls = refl; leasing = refl }

on_take_leaves : (ticket : ℕ) (c : Core) → LeavesCalls c (on_take ticket c).core
unfolding on_take
on_take_leaves ticket c = by (ask_at ticket c.asks)
  where
    by : (o : Option Asked) → LeavesCalls c (taken ticket o c).core
    by None = item_leaves ticket (watch_at ticket c.watches.watches) c
    by (Some a) = take_from_leaves ticket a.stage c

counted_leaves : (c : Core) (s : Stepped) → LeavesCalls c s.core → LeavesCalls c (counted s).core
counted_leaves c s h = by s.outcome
  where
    by : (r : Result Outcome StepFault) → LeavesCalls c (counted_by s.core r).core
    by (Ok o) = record { calls = h.calls; leasing = h.leasing }
    by (Err f) = h

take_leaves : (c : Core) (ticket now : ℕ) → LeavesCalls c (stepped c (event.Take ticket) now).core
unfolding stepped
take_leaves c ticket now =
    let d = clock_work now c in
    let l = clock_leaves now c in
    by_test (λ (s : Stepped). LeavesCalls c s.core) (is_worn c) (faults c fault.Worn) (counted (happened now (event.Take ticket) d)) (λ t. record { calls = refl; leasing = refl })
    (λ t. counted_leaves c (happened now (event.Take ticket) d) (let k = on_take_leaves ticket d in record { calls = k.calls ∙ l.calls; leasing = k.leasing ∙ l.leasing }))

-- ---- one fetch

module _ (holder : ℕ → ℕ) (w : World) (p : ℕ) (x : Place) (there : place_at w p ≡ Some x) (ticket : ℕ) (h : Shown holder w) where
  abbrev d : Core
  d = (stepped x.core (event.Take ticket) x.clock).core

  k : PlaceShown w.namespace w.leasing h.view h.forms p x
  k = h.places p x there

  abbrev mine : ℕ → ℕ
  mine = numbers x.calls

  kept : KeepsPlace holder w h p x (with_core x d)
  kept =
      let s = steps_stay x.core (event.Take ticket) x.clock in
      record {
        clock = refl;
        calls = refl;
        may = senders_last x.core (event.Take ticket) x.clock tt tt k.may;
        namespace = ap (λ (t : Settings). t.namespace) s.settings ∙ k.namespace;
        prefix = s.prefix ∙ k.prefix;
        out = outs_kept x.core (event.Take ticket) x.clock h.view.calls h.forms mine tt k.may.ok k.may.owners (take_leaves x.core ticket x.clock).calls k.out;
        watched = λ number s e o watch i l n f. h.watched p x number s there e o watch i l n (ap (opening_at s.own) (sym (take_leaves x.core ticket x.clock).leasing) ∙ f);
      }

  moved : Moves holder h.view p x.clock mine d
  moved = events_move holder h.view p x.clock mine (event.Take ticket) x.core (λ e. absurd (cc)) tt k.may.ok k.may.fits k.may.owners tt k.sees h.stands.inv

  fetch_shown : Shown holder (with_place w p (with_core x d))
  fetch_shown = turns_stay_shown holder w h p x (with_core x d) there kept moved

-- ---- all of them

-- what each fetch keeps of the place
pub fetched_keeps : (P : Place → Type 0) → ((ticket : ℕ) (x : Place) → P x → P (with_core x (stepped x.core (event.Take ticket) x.clock).core)) → (n : ℕ) (x : Place) (got : Replies) → P x → P (fetched n x got).place
fetched_keeps P k zero x got h = h
fetched_keeps P k (suc n) x got h = by (ready x.core) (λ y g t. fetched_keeps P k n y g t)
  where
    by_outcome : (ticket : ℕ) (y : Place) (r : Result Outcome StepFault) → P y → ((y : Place) (g : Replies) → P y → P (fetched n y g).place) → P (fetched_as (fetched n) y ticket got r).place
    by_outcome ticket y (Ok (outcome.Replied a)) t more = more y (with_reply ticket a got) t
    by_outcome ticket y (Ok outcome.Waiting) t more = t
    by_outcome ticket y (Ok outcome.Pending) t more = t
    by_outcome ticket y (Ok outcome.Noted) t more = t
    by_outcome ticket y (Ok (outcome.Item i)) t more = t
    by_outcome ticket y (Ok (outcome.Job j)) t more = t
    by_outcome ticket y (Err f) t more = t

    by : (o : Option ℕ) → ((y : Place) (g : Replies) → P y → P (fetched n y g).place) → P (fetched_if (fetched n) x got o).place
    by None more = h
    by (Some ticket) more = by_outcome ticket (with_core x (stepped x.core (event.Take ticket) x.clock).core) (stepped x.core (event.Take ticket) x.clock).outcome (k ticket x h) more

pub fetches_stay_shown : FetchesStayShown
fetches_stay_shown holder w p x told h = fetched_keeps (λ y. Shown holder (with_place w p y)) one (length x.core.asks) x told h
  where
    one : (ticket : ℕ) (y : Place) → Shown holder (with_place w p y) → Shown holder (with_place w p (with_core y (stepped y.core (event.Take ticket) y.clock).core))
    one ticket y t =
        let z = with_core y (stepped y.core (event.Take ticket) y.clock).core in
        subst (λ (ps : Numbered Place). Shown holder (record w { places = ps })) (kept_again w.places p y z) (fetch_shown holder (with_place w p y) p y (placed_itself w w p y) ticket t)
