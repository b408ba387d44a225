-- What a step promises follows from what it leaves and gives: what the rules leave, or what the clock work left.
use Rattle.std.proofs.Common.{◌≡◌, ◌≤◌, ℕ, max, Result, Ok, Err, refl, sym, ◌∙◌, ap, subst}
use Rattle.core_model.specs.declared.event.CoreEvent.{CoreEvent}
use Rattle.core_model.specs.declared.event.Outcome.{Outcome}
use Rattle.core_model.specs.declared.event.StepFault.{StepFault}
use Rattle.core_model.specs.declared.event.StepFault.TheVariants as fault
use Rattle.core_model.specs.ClockWork.{clock_work}
use Rattle.core_model.specs.declared.settings.Settings.{Settings}
use Rattle.core_model.specs.State.{Core, first_core}
use Rattle.core_model.specs.Step.{stepped}
use Rattle.core_model.specs.Stepped.{Stepped, gives, faults}
use Rattle.core_face.specs.Steps.{FaultsSo, Steps}
use Rattle.core_face.specs.Promises.{StaysSound, LeavesNoneIdle, HoldsNothingBack, LeavesStreamsMerged, LeavesQueuesBounded}
use Rattle.core_laws.specs.Watches.Streams.{received_by, JoinsWhereItCan, QueuesAreBounded}
use Rattle.core_laws.proofs.Watches.Alone.{steps_join, same_joins}
use Rattle.core_laws.proofs.Watches.Bounded.{steps_keep_bounded}
use Rattle.core_laws.proofs.Watches.Holding.{steps_hold_nothing_back}
use Rattle.core_laws.proofs.Watches.Touches.{clock_watches}
use Rattle.waiting_laws.specs.Sound.{IsSound}
use Rattle.waiting_laws.proofs.Sound.{starts_sound, steps_stay_sound, clock_stays_sound, sound_not_idle}
use Rattle.watch_model.specs.Queues.{events_in}
use Rattle.watch_model.specs.State.{Broadcasts}
use Rattle.watch_model.specs.Story.{EachWatch, Holds}

-- a step of the rules, or clock work alone, where it ran out of memory
pub data Went (old : Core) (e : CoreEvent) (now : ℕ) (new : Core) (result : Result Outcome StepFault) : Type 0 where
  did : (stepped old e now).core ≡ new → (stepped old e now).outcome ≡ result → Went old e now new result
  wanted : clock_work now old ≡ new → result ≡ Err fault.NoMemory → Went old e now new result

so : (old : Core) (e : CoreEvent) (now : ℕ) (new : Core) (result : Result Outcome StepFault) (s : Stepped) → s.core ≡ new → s.outcome ≡ result → stepped old e now ≡ s → Went old e now new result
so old e now new result s c o h = did (ap (λ (x : Stepped). x.core) h ∙ c) (ap (λ (x : Stepped). x.outcome) h ∙ o)

pub went : (old : Core) (e : CoreEvent) (now : ℕ) (new : Core) (result : Result Outcome StepFault) → Steps old e now new result → Went old e now new result
went old e now new (Ok o) h = so old e now new (Ok o) (gives new o) refl refl h
went old e now new (Err fault.NoMemory) h = wanted (sym h) refl
went old e now new (Err fault.Worn) h = so old e now new (Err fault.Worn) (faults new fault.Worn) refl refl h
went old e now new (Err (fault.TicketUsed n)) h = so old e now new (Err (fault.TicketUsed n)) (faults new (fault.TicketUsed n)) refl refl h
went old e now new (Err (fault.NoSuchTicket n)) h = so old e now new (Err (fault.NoSuchTicket n)) (faults new (fault.NoSuchTicket n)) refl refl h
went old e now new (Err (fault.NoSuchCall n)) h = so old e now new (Err (fault.NoSuchCall n)) (faults new (fault.NoSuchCall n)) refl refl h
went old e now new (Err (fault.NoSuchStream n)) h = so old e now new (Err (fault.NoSuchStream n)) (faults new (fault.NoSuchStream n)) refl refl h

pub new_is_sound : (settings : Settings) (made : Core) → made ≡ first_core settings → IsSound made
new_is_sound settings made h = subst IsSound (sym h) (starts_sound settings)

pub stays_sound : (old : Core) (e : CoreEvent) (now : ℕ) (new : Core) (result : Result Outcome StepFault) → Steps old e now new result → StaysSound old e new
stays_sound old e now new result h b k =
    elim (went old e now new result h) [
      | did c o ↦ subst IsSound c (steps_stay_sound old e now b k)
      | wanted c o ↦ subst IsSound c (clock_stays_sound old now k)
    ]

pub leaves_none_idle : (old : Core) (e : CoreEvent) (now : ℕ) (new : Core) (result : Result Outcome StepFault) → Steps old e now new result → LeavesNoneIdle old e new
leaves_none_idle old e now new result h b k = sound_not_idle new (stays_sound old e now new result h b k)

pub leaves_streams_merged : (old : Core) (e : CoreEvent) (now : ℕ) (new : Core) (result : Result Outcome StepFault) → Steps old e now new result → LeavesStreamsMerged old e new
leaves_streams_merged old e now new result h b k = (stays_sound old e now new result h b k).streams_stand_alone.alone

pub joins_where_it_can : (old : Core) (e : CoreEvent) (now : ℕ) (new : Core) (result : Result Outcome StepFault) → Steps old e now new result → JoinsWhereItCan old e new
joins_where_it_can old e now new result h =
    elim (went old e now new result h) [
      | did c o ↦ subst (JoinsWhereItCan old e) c (steps_join old e now)
      | wanted c o ↦ subst (JoinsWhereItCan old e) c (same_joins old.watches.streams _ old.header e (ap (λ (b : Broadcasts). b.streams) (clock_watches now old)))
    ]

pub leaves_queues_bounded : (old : Core) (e : CoreEvent) (now : ℕ) (new : Core) (result : Result Outcome StepFault) → Steps old e now new result → LeavesQueuesBounded old e new
leaves_queues_bounded old e now new result h most l k =
    elim (went old e now new result h) [
      | did c o ↦ subst (QueuesAreBounded most) c (steps_keep_bounded most old e now l k)
      | wanted c o ↦ subst (QueuesAreBounded most) c (subst (λ (b : Broadcasts). EachWatch (λ w. events_in w.queue ≤ max 1024 most) b.watches) (sym (clock_watches now old)) k)
    ]

pub holds_nothing_back : (old : Core) (e : CoreEvent) (now : ℕ) (new : Core) (result : Result Outcome StepFault) → Steps old e now new result → HoldsNothingBack old e new result
holds_nothing_back old e now new result h story got r t n k p =
    elim (went old e now new result h) [
      | did c o ↦
          subst (λ (d : Core). Holds story (received_by got e result) d.watches) c
          (subst (λ (x : Result Outcome StepFault). Holds story (received_by got e x) (stepped old e now).core.watches) o (steps_hold_nothing_back story got old e now r t n k.watches_wait p))
      | wanted c o ↦
          subst (λ (x : Result Outcome StepFault). Holds story (received_by got e x) new.watches) (sym o)
          (subst (λ (d : Core). Holds story got d.watches) c (subst (Holds story got) (sym (clock_watches now old)) (record { numbers = p.numbers; watches = p.watches })))
    ]
