-- What holds of the acquires of one proxy: which keys they are of, under which session those that are due will go out, and that each
-- call that is out as an acquire is answered to the one that stands at its key (the leasing cache of etcd's clientv3).
use Rattle.std.specs.Prelude.{◌≡◌, ℕ, true, List, Option, None, Some}
use Rattle.proxy_model.specs.declared.session.Standing.{Standing}
use Rattle.proxy_model.specs.Keyed.{Keyed, at, is_in_order}
use Rattle.wait_model.specs.declared.sending.Sending.TheVariants as sending
use Rattle.read_model.specs.declared.acquire.Acquire.{Acquire}
use Rattle.read_model.specs.PlainRead.{is_ownable}
use Rattle.read_model.specs.SessionEnd.{is_due}
use Rattle.core_model.specs.declared.out_call.OutCall.{OutCall}
use Rattle.core_model.specs.declared.out_call.OutJob.TheVariants as job
use Rattle.core_model.specs.Fits.{job_at}
use Rattle.core_model.specs.State.{Seat}

-- the number of the session that stands: it was granted, and hasn't ended
abbrev pub number_by : ℕ → Option Standing → Option ℕ
number_by number None = None
number_by number (Some x) = Some number

abbrev pub standing_number : Option Seat → Option ℕ
standing_number None = None
standing_number (Some s) = number_by s.session.number s.session.standing

-- an acquire that is out under this number
pub record IsOutAs (call : ℕ) (o : Option Acquire) : Type 0 where
  pub acquire : Acquire
  pub stands : o ≡ Some acquire
  pub out : acquire.sending ≡ sending.Out call

-- this very acquire stands at the key, and is due
pub record IsDueAt (acquires : Keyed Acquire) (k : List ℕ) (a : Acquire) : Type 0 where
  pub stands : at acquires k ≡ Some a
  pub due : is_due a.sending ≡ true

-- by the leasing prefix and the session that stands
pub record AcquiresFit (prefix : List ℕ) (session : Option ℕ) (acquires : Keyed Acquire) (out : List OutCall) : Type 0 where
  -- they stand by rising keys
  pub rising : is_in_order acquires ≡ true
  -- each is of a key that may be owned
  pub acquired : (k : List ℕ) (a : Acquire) → at acquires k ≡ Some a → is_ownable prefix k ≡ true
  -- one that is due is under the session that stands
  pub under : (k : List ℕ) (a : Acquire) → at acquires k ≡ Some a → is_due a.sending ≡ true → session ≡ Some a.session
  -- where a call is out as an acquire of a key, that key's acquire is out under its number
  pub awaits : (call : ℕ) (k : List ℕ) → job_at call out ≡ Some (job.Acquire k) → IsOutAs call (at acquires k)
