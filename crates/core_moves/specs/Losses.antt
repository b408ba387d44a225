-- A call is lost, as moves of the view.
use Rattle.std.specs.Prelude.{◌≡◌, ℕ, Bool, Option, Some}
use Rattle.proxy_model.specs.Keyed.{Keyed, at}
use Rattle.wait_model.specs.declared.sending.Sending.TheVariants as sending
use Rattle.read_model.specs.declared.acquire.Acquire.{Acquire}
use Rattle.read_model.specs.Fits.{GroundOk}
use Rattle.core_model.specs.declared.out_call.OutCall.{OutCall}
use Rattle.core_model.specs.declared.out_call.OutJob.{OutJob}
use Rattle.core_model.specs.declared.out_call.OutJob.TheVariants as job
use Rattle.core_model.specs.Ends.{lost_call}
use Rattle.core_model.specs.State.{Core}
use Rattle.cache_laws.specs.Moves.View.{View}
use Rattle.cache_laws.specs.Moves.Invariant.{Inv}
use Rattle.core_moves.specs.Sees.{ground_in, Sees, Moves}

-- an acquire that is out under this number
pub record IsOutAs (call : ℕ) (o : Option Acquire) : Type 0 where
  pub acquire : Acquire
  pub stands : o ≡ Some acquire
  pub out : acquire.sending ≡ sending.Out call

-- where the call is an acquire of a key, that key's acquire is out under its number
abbrev pub AwaitsIt : Keyed Acquire → ℕ → OutJob → Type 0
AwaitsIt acquires call (job.Acquire k) = IsOutAs call (at acquires k)
AwaitsIt acquires call _ = Unit {0}

-- nothing is asked of what came of the call
abbrev pub LossesMove : Type 0
LossesMove =
    (holder : ℕ → ℕ) (v : View) (p now : ℕ) (own : ℕ → ℕ) (standing : Bool) (o : OutCall) (c : Core) → GroundOk standing (ground_in c) → AwaitsIt c.acquires o.call o.job
    → Sees v p now own c → Inv holder v → Moves holder v p now own (lost_call now o c)
