-- The due jobs that the program points to, as the machine's definition has them: each with what it is of.
use Rattle.std.specs.Prelude.{Option}
use Rattle.std.specs.Option.{option_map}
use Rattle.core_model.specs.DueJobs.{DueJob, ForSession, ForWrites, ForAcquire, ForAsk, ForGroup, ToOpen, ForStream, Placed}
use Rattle.due_order.specs.declared.jobs.DueJob.{DueJob as Job}
use Rattle.due_order.specs.declared.jobs.DueJob.TheVariants as job
use Rattle.due_order.specs.declared.jobs.Placed.{Placed as Found}

abbrev pub job_seen : Job → DueJob
job_seen (job.Session session) = ForSession session.now
job_seen job.Writes = ForWrites
job_seen (job.Acquire key acquire) = ForAcquire key.now acquire.now
job_seen (job.Ask ask) = ForAsk ask.now
job_seen (job.Group lease ticket) = ForGroup lease ticket
job_seen (job.Open opening) = ToOpen opening.now
job_seen (job.Stream stream) = ForStream stream.now

abbrev pub placed_seen : Found → Placed
placed_seen p = record { place = p.place; job = job_seen p.job }

abbrev pub first_seen : Option Found → Option Placed
first_seen first = option_map placed_seen first
