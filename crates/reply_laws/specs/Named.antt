-- Which tickets a call of the proxy names: that of each request whose own call is out, and that of each acquire that is out.
use Rattle.std.specs.Prelude.{◌≡◌, ℕ, Bool, true, List, Result, Ok, Some}
use Rattle.etcd_types.specs.declared.request.Request.{Request}
use Rattle.proxy_model.specs.Keyed.{at, is_in_order}
use Rattle.wait_model.specs.declared.sending.Sending.TheVariants as sending
use Rattle.read_model.specs.declared.acquire.Acquire.{Acquire}
use Rattle.read_model.specs.declared.asked.Asked.{Asked}
use Rattle.read_model.specs.declared.asked.Stage.TheVariants as stage
use Rattle.core_model.specs.declared.event.CoreEvent.{CoreEvent}
use Rattle.core_model.specs.declared.event.CoreEvent.TheVariants as event
use Rattle.core_model.specs.declared.event.Job.TheVariants as job
use Rattle.core_model.specs.declared.event.Outcome.{Outcome}
use Rattle.core_model.specs.declared.event.Outcome.TheVariants as outcome
use Rattle.core_model.specs.declared.event.StepFault.{StepFault}
use Rattle.core_model.specs.Lookups.{ask_at}
use Rattle.core_model.specs.State.{Core}

-- by a test of tickets, which says whether a call named it
pub record AreNamed (named : ℕ → Bool) (c : Core) : Type 0 where
  -- the acquires stand by rising keys
  pub rising : is_in_order c.acquires ≡ true
  pub asks : (ticket number : ℕ) (a : Asked) → ask_at ticket c.asks ≡ Some a → a.stage ≡ stage.Calling (sending.Out number) → named ticket ≡ true
  pub acquires : (k : List ℕ) (number : ℕ) (x : Acquire) → at c.acquires k ≡ Some x → x.sending ≡ sending.Out number → named x.ticket ≡ true

-- where a step sends a call, its ticket is named
abbrev pub NamesCall : (ℕ → Bool) → Result Outcome StepFault → Type 0
NamesCall named r = (own member ticket : ℕ) (q : Request) → r ≡ Ok (outcome.Job (Some (job.Call own member ticket q))) → named ticket ≡ true

-- a step leaves named what was, and sends no call whose ticket isn't
pub record NamesMore (named next : ℕ → Bool) (e : CoreEvent) (r : Result Outcome StepFault) : Type 0 where
  pub stays : (ticket : ℕ) → named ticket ≡ true → next ticket ≡ true
  pub sends : e ≡ event.Work → NamesCall next r
