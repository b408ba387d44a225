-- What a proxy knows of its own ownership, and the writes that wait on it.
use Rattle.std.specs.Prelude.{ℕ, Bool, List, []}
use Rattle.proxy_model.specs.declared.lease.Entry.{Entry}
use Rattle.proxy_model.specs.Keyed.{Keyed}
use Rattle.wait_model.specs.declared.write.Write.{Write}
use Rattle.wait_model.specs.declared.wait.WaitCall.{WaitCall}

pub record Waits : Type 0 where
  -- the leasing prefix
  pub prefix : List ℕ
  -- what becomes due is due since then
  pub step : ℕ
  -- the unanswered writes, in order of asking
  pub writes : List Write
  -- the keys with an acquire due or out, and whether it is spoiled
  pub spoiled : Keyed Bool
  -- before this moment of the proxy's clock no acquire of the key begins; of all other keys it is 0
  pub quiet : Keyed ℕ
  -- the calls that are out, the last one first
  pub out : List WaitCall

pub record Ownership : Type 0 where
  pub entries : Keyed Entry
  pub waits : Waits

abbrev pub first_waits : List ℕ → Waits
first_waits prefix = record { prefix = prefix; step = 0; writes = []; spoiled = []; quiet = []; out = [] }

abbrev pub owned : Keyed Entry → Waits → Ownership
owned es waits = record { entries = es; waits = waits }

-- a step begins
abbrev pub step_begun : ℕ → Ownership → Ownership
step_begun step own = record own { waits = record own.waits { step = step } }
