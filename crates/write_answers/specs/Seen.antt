-- What a plain read comes upon at its key: a held entry with its record, an owner write, or neither.
use Rattle.std.specs.Prelude.{ℕ, Bool, true, false, if◌then◌else◌, List, Option, None, Some, is_some}
use Rattle.std.specs.Option.{option_copied, option_map}
use Rattle.etcd_types.specs.declared.record.Header.{Header}
use Rattle.etcd_types.specs.declared.record.Kv.{Kv}
use Rattle.proxy_model.specs.declared.lease.Entry.{Entry}
use Rattle.proxy_model.specs.declared.lease.Phase.{Phase}
use Rattle.proxy_model.specs.declared.lease.Phase.TheVariants as phase
use Rattle.proxy_model.specs.declared.ownership.Owner.{Owner}
use Rattle.proxy_model.specs.Keyed.{Keyed, at}
use Rattle.proxy_model.specs.LeaseTable.{unwritten}
use Rattle.read_model.specs.declared.acquire.Acquire.{Acquire}
use Rattle.read_model.specs.declared.asked.Stage.{Stage}
use Rattle.read_model.specs.declared.asked.Stage.TheVariants as stage
use Rattle.read_model.specs.PlainRead.{shown, called}
use Rattle.read_model.specs.Release.{names}
use Rattle.wait_model.specs.declared.write.Write.{Write}
use Rattle.wait_model.specs.Covers.{is_single}
use Rattle.wait_model.specs.GuardedAnswers.{owns_at, is_gone}
use Rattle.write_answers.specs.declared.seen.Seen.{Seen}
use Rattle.write_answers.specs.declared.seen.Sight.{Sight}
use Rattle.write_answers.specs.declared.seen.Sight.TheVariants.{Held, Written, Neither}

pub record What : Type 0 where
  pub sight : Sight
  -- what is shown where the key is held
  pub kv : Option Kv

abbrev pub what : Seen → What
what s = record { sight = s.sight; kv = option_copied s.kv }

abbrev pub neither : What
neither = record { sight = Neither; kv = None }

abbrev pub what_in : Phase → Option Kv → What
what_in phase.Held kv = record { sight = Held; kv = kv }
what_in (phase.Writing revoked) kv = record { sight = Written; kv = None }
what_in (phase.Leaving sent) kv = neither

abbrev pub what_of : Option Entry → What
what_of None = neither
what_of (Some e) = what_in e.phase e.kv

-- where the entries that the write compared are held again
abbrev pub what_back : Write → Keyed Entry → List ℕ → What
what_back w es k = if owns_at w es k then what_of (option_map unwritten (at es k)) else what_of (at es k)

-- where the write failed, the entry that it compared is gone
abbrev pub is_lost : Write → List Owner → Keyed Entry → List ℕ → Bool
is_lost w os es k = if is_single w.request then owns_at w es k else is_gone w es os k

-- What becomes of a read by it.

abbrev pub is_written : Sight → Bool
is_written Held = false
is_written Written = true
is_written Neither = false

-- for an acquire or an owner write
abbrev pub waits : Stage → Bool
waits stage.Acquiring = true
waits stage.Joined = true
waits stage.Behind = true
waits _ = false

-- what a read waits for stands
abbrev pub stands_by : ℕ → Sight → Option Acquire → Stage → Bool
stands_by ticket sight c stage.Acquiring = names ticket c
stands_by ticket sight c stage.Joined = is_some c
stands_by ticket sight c stage.Behind = is_written sight
stands_by ticket sight c _ = true

abbrev pub stage_by : Header → ℕ → Sight → Option Kv → Stage
stage_by h step Held kv = shown h kv
stage_by h step Written kv = stage.Behind
stage_by h step Neither kv = called step

abbrev pub seen_stage : Header → ℕ → What → Stage
seen_stage h step w = stage_by h step w.sight w.kv
