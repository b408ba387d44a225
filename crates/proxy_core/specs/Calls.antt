-- A call that is sent, beside what becomes of what it is for.
use Rattle.std.specs.Prelude.{◌≡◌, ◌<◌, ℕ, ◌+◌, ◌-◌, ◌^◌, true, [], ◌∷◌, ◌++◌, Option, Some}
use Rattle.etcd_types.specs.declared.request.Request.{Request}
use Rattle.wait_model.specs.declared.due.Due.{Due}
use Rattle.core_model.specs.declared.event.Job.TheVariants as sent
use Rattle.core_model.specs.declared.event.Outcome.{Outcome}
use Rattle.core_model.specs.declared.event.Outcome.TheVariants as outcome
use Rattle.core_model.specs.declared.out_call.OutJob.{OutJob}
use Rattle.core_model.specs.DueJobs.{DueJob, ForWrites}
use Rattle.core_model.specs.Lookups.{without_out}
use Rattle.core_model.specs.Sending.{next_call, out_call}
use Rattle.core_model.specs.State.{Core}
use Rattle.core_sends.specs.Sends.{due_write}
use Rattle.calls_out.specs.Calls.{all_below}

-- the next number is above all, and there is one
pub record CanSend (c : Core) : Type 0 where
  pub below : all_below (c.calls + 1) c.out ≡ true
  pub bound : c.calls < 2 ^ 63

-- a call for this is out, under the next number
abbrev pub with_call : ℕ → OutJob → Core → Core
with_call now j c = record c { calls = next_call c; out = c.out ++ out_call now j c ∷ [] }

-- the number that was given last isn't given, and its call not out
abbrev pub without_last : Core → Core
without_last c = record c { calls = c.calls - 1; out = without_out c.calls c.out }

-- to the current member
abbrev pub called : ℕ → ℕ → Request → Core → Outcome
called call ticket q c = outcome.Job (Some (sent.Call call c.members.current ticket q))

abbrev pub began : ℕ → Request → Core → Outcome
began stream q c = outcome.Job (Some (sent.Begin stream c.members.current q))

-- the writes' first due job, where this is theirs
abbrev pub IsWriteOf : DueJob → Core → Option Due → Type 0
IsWriteOf ForWrites c write = write ≡ due_write c
IsWriteOf _ c write = Unit {0}
