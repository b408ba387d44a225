-- What becomes of the entries of a write that is over without having been done.
use Rattle.std.specs.Prelude.{true, if◌then◌else◌, List, ℕ}
use Rattle.etcd_types.specs.Keys.{same}
use Rattle.proxy_model.specs.declared.lease.Entry.{Entry}
use Rattle.proxy_model.specs.Keyed.{Keyed}
use Rattle.proxy_model.specs.LeaseTable.{unwritten, leaving}
use Rattle.wait_model.specs.declared.write.Write.{Write}
use Rattle.wait_model.specs.declared.write.WriteStage.{WriteStage}
use Rattle.wait_model.specs.GuardedAnswers.{change_owned}
use Rattle.wait_model.specs.Phases.{if_written}
use Rattle.wait_model.specs.Stages.{is_due}
use Rattle.revoke_calls.specs.declared.entries.Fate.{Fate}
use Rattle.revoke_calls.specs.declared.entries.Fate.TheVariants as fate

-- an entry whose write is over is held again as it was, or leaves
abbrev pub after : Fate → Entry → Entry
after fate.Back e = unwritten e
after fate.Left e = leaving e

abbrev pub fate_of : WriteStage → Fate
fate_of stage = if is_due stage then fate.Back else fate.Left

abbrev pub settled_entries : Fate → Write → Keyed Entry → Keyed Entry
settled_entries f w es = change_owned w (λ k e. after f e) es

-- the change of one key, where it is being written
abbrev pub settled_at : Fate → List ℕ → List ℕ → Entry → Entry
settled_at f key k e = if same k key then if_written true (after f) e else e
