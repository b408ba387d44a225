-- What an answer or a loss of a call does, by what the call is about; and what becomes of a write whose request timed out or
-- left: where its call wasn't sent its entries are held again, and else they leave.
use Rattle.std.specs.Prelude.{ℕ, Bool, if◌then◌else◌, Option, None, Some}
use Rattle.etcd_types.specs.declared.answer.Answer.{Answer}
use Rattle.etcd_types.specs.declared.answer.Answer.TheVariants as answer
use Rattle.proxy_model.specs.declared.lease.Entry.{Entry}
use Rattle.proxy_model.specs.Keyed.{Keyed}
use Rattle.proxy_model.specs.Leaving.{guard_held}
use Rattle.wait_model.specs.declared.write.Write.{Write}
use Rattle.wait_model.specs.declared.wait.Settled.TheVariants as settled
use Rattle.wait_model.specs.declared.wait.WaitJob.{WaitJob}
use Rattle.wait_model.specs.declared.wait.WaitJob.TheVariants as job
use Rattle.wait_model.specs.State.{Ownership}
use Rattle.wait_model.specs.ForeignOwnership.{stage_asked}
use Rattle.wait_model.specs.GuardedAnswers.{Ending, ended_by, staged_by, unwrote_entries, left_entries, write_answered, write_lost}
use Rattle.wait_model.specs.Leaving.{rescinded, rescind_answered, rescind_lost}
use Rattle.wait_model.specs.Stages.{is_due}
use Rattle.wait_model.specs.Writes.{first_by, sends, asks, has_ticket, job_of, without_call}

-- A revoke call is answered.

abbrev pub revoke_back : (Write → Bool) → ℕ → Write → Option Bool → Ownership → Option Ending
revoke_back p call w None own = None
revoke_back p call w (Some held) own =
    Some (record { own = staged_by own own.entries p (stage_asked call held w.stage); settled = settled.Nothing })

abbrev pub revoke_answered : (Write → Bool) → ℕ → Option Write → Answer → Ownership → Option Ending
revoke_answered p call None a own = Some (record { own = own; settled = settled.Nothing })
revoke_answered p call (Some w) (answer.Done reply) own = revoke_back p call w (guard_held reply.body) own
revoke_answered p call (Some w) (answer.Refused r) own =
    Some (record { own = ended_by own own.entries p; settled = settled.Reply w.ticket (answer.Refused r) })

-- A call is answered; nothing, where the answer can't be one to this call.

abbrev pub answered_job : ℕ → Answer → Option ℕ → ℕ → Option WaitJob → Ownership → Option Ending
answered_job call a session now None own = Some (record { own = own; settled = settled.Nothing })
answered_job call a session now (Some (job.Rescind k create)) own = rescind_answered a (rescinded k create now own)
answered_job call a session now (Some (job.Revoke k)) own = revoke_answered (asks call) call (first_by (asks call) own.waits.writes) a own
answered_job call a session now (Some job.Write) own = write_answered session (sends call) (first_by (sends call) own.waits.writes) a own

abbrev pub without_out : ℕ → Ownership → Ownership
without_out call own = record own { waits = record own.waits { out = without_call call own.waits.out } }

-- `session` is the number of the live session, and `now` the clock's reading
unfoldable pub answered : ℕ → Answer → Option ℕ → ℕ → Ownership → Option Ending
answered call a session now own = answered_job call a session now (job_of call own.waits.out) (without_out call own)

-- A call is lost.

abbrev pub lost_job : ℕ → Option WaitJob → Ownership → Ending
lost_job call None own = record { own = own; settled = settled.Nothing }
lost_job call (Some (job.Rescind k create)) own = rescind_lost k create own
lost_job call (Some (job.Revoke k)) own = write_lost (asks call) (first_by (asks call) own.waits.writes) own
lost_job call (Some job.Write) own = write_lost (sends call) (first_by (sends call) own.waits.writes) own

unfoldable pub lost : ℕ → Ownership → Ending
lost call own = lost_job call (job_of call own.waits.out) (without_out call own)

-- A request timed out or left.

abbrev pub given_back : Write → Keyed Entry → Keyed Entry
given_back w es = if is_due w.stage then unwrote_entries w es else left_entries w es

abbrev pub forgotten_by : (Write → Bool) → Option Write → Ownership → Ownership
forgotten_by p None own = own
forgotten_by p (Some w) own = ended_by own (given_back w own.entries) p

unfoldable pub forgotten : ℕ → Ownership → Ownership
forgotten ticket own = forgotten_by (has_ticket ticket) (first_by (has_ticket ticket) own.waits.writes) own
