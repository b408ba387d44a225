-- A read that waits for the acquire which is due for it: until it has a reply, nobody else waits so for its key.
use Rattle.std.specs.Prelude.{◌≡◌, ◌≢◌, ℕ, Bool, true, false, not, ◌==◌, ◌&&◌, ◌||◌, if◌then◌else◌, List, Option, None, Some, Result, Ok}
use Rattle.std.specs.List.{list_all}
use Rattle.etcd_types.specs.declared.request.Request.{Request}
use Rattle.proxy_model.specs.Keyed.{Keyed, at}
use Rattle.read_model.specs.declared.acquire.Acquire.{Acquire}
use Rattle.read_model.specs.declared.asked.Asked.{Asked}
use Rattle.read_model.specs.Acquires.{acquires_at}
use Rattle.read_model.specs.SessionEnd.{is_due}
use Rattle.core_model.specs.declared.event.CoreEvent.{CoreEvent}
use Rattle.core_model.specs.declared.event.CoreEvent.TheVariants as event
use Rattle.core_model.specs.declared.event.Job.TheVariants as job
use Rattle.core_model.specs.declared.event.Outcome.{Outcome}
use Rattle.core_model.specs.declared.event.Outcome.TheVariants as outcome
use Rattle.core_model.specs.declared.event.StepFault.{StepFault}
use Rattle.core_model.specs.ClockWork.{is_replied}
use Rattle.core_model.specs.Sessions.{drawn_session}
use Rattle.core_model.specs.State.{Seat, Core}

-- what it waits for stands at a key, and isn't sent yet
abbrev pub is_due_for : ℕ → Option Acquire → Bool
is_due_for ticket None = false
is_due_for ticket (Some c) = c.ticket == ticket && is_due c.sending

-- The read of this ticket and key, which was asked at this reading of the clock.
module _ (ticket : ℕ) (k : List ℕ) (since : ℕ) where
  -- the read waits for the acquire of its key or has a reply; nobody else waits so for an acquire of that key
  abbrev pub holds : Asked → Bool
  holds a = if a.ticket == ticket then a.asked == since && (acquires_at k a || is_replied a.stage) else not (acquires_at k a)

  -- it has a reply
  abbrev pub is_over : Asked → Bool
  is_over a = if a.ticket == ticket then is_replied a.stage else true

  -- the acquire is due for it; or it has a reply, or is gone
  pub data Waits (acquires : Keyed Acquire) (xs : List Asked) : Type 0 where
    waits : is_due_for ticket (at acquires k) ≡ true → list_all holds xs ≡ true → Waits acquires xs
    over : list_all is_over xs ≡ true → Waits acquires xs

-- the session has this number
abbrev pub seat_is : ℕ → Option Seat → Bool
seat_is n None = false
seat_is n (Some s) = s.session.number == n

-- as long as the session of this number is there
abbrev pub IsAwaited : ℕ → List ℕ → ℕ → ℕ → Core → Type 0
IsAwaited ticket k since n c = seat_is n c.seat ≡ true → Waits ticket k since c.acquires c.asks

-- What comes to the proxy asks nothing else under this ticket and draws no session of this number, and no call names the ticket.

abbrev pub Calls : Result Outcome StepFault → ℕ → Request → Type 0
Calls r ticket q = (own : ℕ) × (member : ℕ) × (r ≡ Ok (outcome.Job (Some (job.Call own member ticket q))))

abbrev pub Leaves : ℕ → ℕ → CoreEvent → Result Outcome StepFault → Type 0
Leaves ticket n (event.Ask other q word) r = (other == ticket) ≡ false
Leaves ticket n (event.Tick word) r = (drawn_session word == n) ≡ false
Leaves ticket n event.Work r = (q : Request) → Calls r ticket q → ⊥
Leaves ticket n _ r = Unit {0}
