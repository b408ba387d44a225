-- A step that asks what is due sends what is made for the first due job.
use Rattle.std.proofs.Common.{◌≡◌, ℕ, true, Option, Some, refl, ◌∙◌, ap}
use Rattle.std.specs.Option.{option_map}
use Rattle.wait_model.specs.declared.due.Due.{Due}
use Rattle.watch_model.specs.Lookups.{numbered}
use Rattle.core_model.specs.DueJobs.{DueJob, ForSession, ForWrites, ForAcquire, ForAsk, ForGroup, ToOpen, ForStream, first_job}
use Rattle.core_model.specs.Sending.{on_work}
use Rattle.core_model.specs.State.{Core}
use Rattle.core_sends.specs.Sends.{sends, sent_for, due_write}
use Rattle.core_sends.specs.ToSend.{to_send}
use Rattle.core_sends.proofs.Works.{work_is_sends}
use Rattle.due_order.specs.declared.jobs.DueJob.{DueJob as Job}
use Rattle.due_order.specs.Seen.{job_seen}
use Rattle.proxy_core.specs.Calls.{IsWriteOf}

pub works : (now : ℕ) (c : Core) → numbered 0 c.watches.given c.watches.streams ≡ true → on_work now c ≡ sends now (sent_for c (due_write c) (first_job c)) c
unfolding on_work
works now c n = work_is_sends now c (due_write c) n (λ e. refl)

written : (c : Core) (write : Option Due) (j : DueJob) → IsWriteOf j c write → to_send c.settings.namespace c.own.waits.prefix c.settings.ttl write j ≡ sent_for c (due_write c) (Some j)
written c write (ForSession s) e = refl
written c write ForWrites e = ap (λ w. to_send c.settings.namespace c.own.waits.prefix c.settings.ttl w ForWrites) e
written c write (ForAcquire k x) e = refl
written c write (ForAsk a) e = refl
written c write (ForGroup lease ticket) e = refl
written c write (ToOpen o) e = refl
written c write (ForStream s) e = refl

-- what is made for a job that was found, and for none
pub is_made : (c : Core) (write : Option Due) (job : Job) → option_map job_seen (Some job) ≡ first_job c → IsWriteOf (job_seen job) c write → to_send c.settings.namespace c.own.waits.prefix c.settings.ttl write (job_seen job) ≡ sent_for c (due_write c) (first_job c)
is_made c write job e w = written c write (job_seen job) w ∙ ap (λ j. sent_for c (due_write c) j) e
