-- What a lost call leaves, part by part.
use Rattle.std.specs.Prelude.{ℕ, ◌==◌, false, if◌then◌else◌, List, Option, None, Some}
use Rattle.proxy_model.specs.declared.lease.Entry.{Entry}
use Rattle.proxy_model.specs.Keyed.{Keyed, changed_at}
use Rattle.wait_model.specs.declared.wait.Settled.{Settled}
use Rattle.wait_model.specs.declared.wait.Settled.TheVariants as settled
use Rattle.wait_model.specs.declared.wait.WaitJob.{WaitJob}
use Rattle.wait_model.specs.declared.wait.WaitJob.TheVariants as job
use Rattle.wait_model.specs.declared.write.Write.{Write}
use Rattle.wait_model.specs.Phases.{rescind_sent}
use Rattle.wait_model.specs.Writes.{first_by, without_first, sends, asks}
use Rattle.revoke_calls.specs.declared.entries.Fate.TheVariants.{Left}
use Rattle.revoke_core.specs.Steps.{settled_if, failed_of}

abbrev pub lost_writes : ℕ → Option WaitJob → List Write → List Write
lost_writes call None ws = ws
lost_writes call (Some (job.Rescind k create)) ws = ws
lost_writes call (Some (job.Revoke k)) ws = without_first (asks call) ws
lost_writes call (Some job.Write) ws = without_first (sends call) ws

abbrev pub lost_entries : ℕ → Option WaitJob → List Write → Keyed Entry → Keyed Entry
lost_entries call None ws es = es
lost_entries call (Some (job.Rescind k create)) ws es = changed_at es k (λ e. if e.create == create then rescind_sent false e else e)
lost_entries call (Some (job.Revoke k)) ws es = settled_if Left (first_by (asks call) ws) es
lost_entries call (Some job.Write) ws es = settled_if Left (first_by (sends call) ws) es

abbrev pub lost_settled : ℕ → Option WaitJob → List Write → Settled
lost_settled call None ws = settled.Nothing
lost_settled call (Some (job.Rescind k create)) ws = settled.Nothing
lost_settled call (Some (job.Revoke k)) ws = failed_of (first_by (asks call) ws)
lost_settled call (Some job.Write) ws = failed_of (first_by (sends call) ws)
