-- A job that is sent leaves what a proxy holds fit.
use Rattle.std.proofs.Common.{ℕ, ◌&&◌, List, map, Option, None, Some}
use Rattle.etcd_types.specs.declared.request.Request.{Request}
use Rattle.etcd_types.specs.declared.request.Request.TheVariants as request
use Rattle.proxy_model.specs.Acquire.{acquire}
use Rattle.proxy_model.specs.PassingOn.{numbered}
use Rattle.wait_model.specs.Sent.{JobSent, job_sent}
use Rattle.watch_model.specs.declared.stream.StreamJob.{StreamJob}
use Rattle.watch_model.specs.declared.stream.StreamJob.TheVariants as stream
use Rattle.watch_model.specs.Due.{next_job}
use Rattle.watch_model.specs.State.{Stream}
use Rattle.read_model.specs.declared.acquire.Acquire.{Acquire}
use Rattle.read_model.specs.declared.asked.Asked.{Asked}
use Rattle.read_model.specs.declared.asked.Stage.TheVariants as stage
use Rattle.read_model.specs.Acquires.{acquire_sent}
use Rattle.read_model.specs.PlainRead.{in_stage}
use Rattle.wait_model.specs.declared.sending.Sending.TheVariants as sending
use Rattle.core_model.specs.declared.out_call.OutJob.{OutJob}
use Rattle.core_model.specs.declared.out_call.OutJob.TheVariants as job
use Rattle.core_model.specs.DueJobs.{DueJob, ForSession, ForWrites, ForAcquire, ForAsk, ForGroup, ToOpen, ForStream}
use Rattle.core_model.specs.Groups.{keeps, is_due_stage, group_sent}
use Rattle.core_model.specs.Kinds.{kind_of}
use Rattle.core_model.specs.Lookups.{reads_of, with_reads, has_ticket}
use Rattle.core_model.specs.Sending.{next_call, goes_out, session_out, seat_sent, writes_sent, acquires_sent, called_as, ask_sent, keeps_sent, stream_opened, sent_by}
use Rattle.core_model.specs.Sessions.{session_request}
use Rattle.core_model.specs.State.{Opening, Core}
use Rattle.core_model.specs.Watching.{with_watches, stream_job, stream_sent}
use Rattle.text_laws.proofs.Values.Alls.{either, all_map}
use Rattle.text_laws.specs.Replied.Holds.{AskHolds, CoreHolds}
use Rattle.text_laws.proofs.Replied.Owned.{JobHolds, job_sent_holds}
use Rattle.text_laws.proofs.Replied.Reading.{at_stage}
use Rattle.text_laws.proofs.Replied.Watching.{sent_holds}
use Rattle.text_laws.proofs.Replied.Cores.{StepHolds, with_asks_hold, with_watches_hold}

goes : (most now : ℕ) (j : OutJob) (ticket : ℕ) (q : Request) (c d : Core) → CoreHolds most d → StepHolds most (goes_out now j ticket q c d)
goes most now j ticket q c d h = record { core = record { header = h.header; entries = h.entries; asks = h.asks; watches = h.watches }; outcome = tt }

writes_sent_hold : (most now : ℕ) (o : Option JobSent) (c : Core) → JobHolds most o → CoreHolds most c → StepHolds most (writes_sent now o c)
writes_sent_hold most now None c n h = record { core = h; outcome = tt }
writes_sent_hold most now (Some x) c n h = goes most now job.Wait x.due.ticket x.due.request c (record c { own = x.own }) (record { header = h.header; entries = n; asks = h.asks; watches = h.watches })

acquires_sent_hold : (most now : ℕ) (k : List ℕ) (x : Acquire) (c : Core) → CoreHolds most c → StepHolds most (acquires_sent now k x c)
acquires_sent_hold most now k x c h =
    goes most now (job.Acquire k) x.ticket (request.Txn (acquire c.own.waits.prefix k x.session)) c (with_reads c (acquire_sent (next_call c) k (reads_of c))) (record { header = h.header; entries = h.entries; asks = h.asks; watches = h.watches })

ask_sent_holds : (most now : ℕ) (a : Asked) (c : Core) → CoreHolds most c → StepHolds most (ask_sent now a c)
ask_sent_holds most now a c h =
    goes most now (job.Ask (kind_of a.request)) a.ticket (numbered a.word a.request) c (record c { asks = map (called_as (next_call c) a.ticket) c.asks })
    (with_asks_hold most c _ (all_map AskHolds AskHolds (called_as (next_call c) a.ticket) (λ b t. either AskHolds (has_ticket a.ticket b) (in_stage (stage.Calling (sending.Out (next_call c))) b) b (at_stage b (stage.Calling (sending.Out (next_call c))) t tt) t) c.asks h.asks) h)

keeps_sent_hold : (most now lease ticket : ℕ) (c : Core) → CoreHolds most c → StepHolds most (keeps_sent now lease ticket c)
keeps_sent_hold most now lease ticket c h =
    goes most now (job.Group lease) ticket (request.KeepAlive lease) c (record c { asks = map (group_sent (next_call c) lease) c.asks })
    (with_asks_hold most c _
    (all_map AskHolds AskHolds (group_sent (next_call c) lease)
    (λ b t. either AskHolds (keeps lease b.request && is_due_stage b.stage) (in_stage (stage.Grouped (Some (sending.Out (next_call c)))) b) b (at_stage b (stage.Grouped (Some (sending.Out (next_call c)))) t tt) t) c.asks h.asks) h)

opened_holds : (most : ℕ) (o : Opening) (c : Core) → CoreHolds most c → StepHolds most (stream_opened o c)
opened_holds most o c h = record { core = record { header = h.header; entries = h.entries; asks = h.asks; watches = h.watches }; outcome = tt }

stream_job_holds : (most : ℕ) (o : Option StreamJob) (c : Core) → CoreHolds most c → StepHolds most (stream_job o c)
stream_job_holds most None c h = record { core = h; outcome = tt }
stream_job_holds most (Some (stream.Close number)) c h = record { core = h; outcome = tt }
stream_job_holds most (Some (stream.Open number range start)) c h = record { core = h; outcome = tt }

stream_sent_holds : (most : ℕ) (s : Stream) (c : Core) → CoreHolds most c → StepHolds most (stream_sent s c)
stream_sent_holds most s c h =
    let x = next_job c.watches (Some s) in
    let n = stream_job_holds most x.1 (with_watches c x.0) (with_watches_hold most c x.0 (sent_holds c.watches s s.phase h.watches) h) in
    record { core = n.core; outcome = n.outcome }

pub work_holds : (most now : ℕ) (o : Option DueJob) (c : Core) → CoreHolds most c → StepHolds most (sent_by now o c)
work_holds most now None c h = record { core = h; outcome = tt }
work_holds most now (Some (ForSession s)) c h =
    goes most now (session_out s.number s.standing) 0 (session_request c.settings.ttl s s.standing) c (record c { seat = Some (seat_sent (next_call c) s) }) (record { header = h.header; entries = h.entries; asks = h.asks; watches = h.watches })
work_holds most now (Some ForWrites) c h = writes_sent_hold most now (job_sent (next_call c) c.own) c (job_sent_holds most (next_call c) c.own h.entries) h
work_holds most now (Some (ForAcquire k x)) c h = acquires_sent_hold most now k x c h
work_holds most now (Some (ForAsk a)) c h = ask_sent_holds most now a c h
work_holds most now (Some (ForGroup lease ticket)) c h = keeps_sent_hold most now lease ticket c h
work_holds most now (Some (ToOpen o)) c h = opened_holds most o c h
work_holds most now (Some (ForStream s)) c h = stream_sent_holds most s c h
