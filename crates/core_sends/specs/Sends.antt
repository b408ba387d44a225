-- What becomes of a proxy when that is sent: a call is out under the next number, an opening has the stream's own number.
use Rattle.std.specs.Prelude.{ℕ, [], ◌∷◌, ◌++◌, map, Option, None, Some}
use Rattle.std.specs.Option.{option_map}
use Rattle.etcd_types.specs.declared.request.Request.{Request}
use Rattle.etcd_types.specs.declared.request.Request.TheVariants as request
use Rattle.wait_model.specs.declared.due.Due.{Due}
use Rattle.wait_model.specs.Sent.{job_sent}
use Rattle.wait_model.specs.State.{Ownership}
use Rattle.read_model.specs.Acquires.{acquire_sent}
use Rattle.watch_model.specs.Due.{first_due, next_job}
use Rattle.watch_model.specs.State.{Broadcasts}
use Rattle.core_model.specs.declared.event.Job.TheVariants as sent
use Rattle.core_model.specs.declared.event.Outcome.TheVariants as outcome
use Rattle.core_model.specs.declared.out_call.OutJob.{OutJob}
use Rattle.core_model.specs.declared.out_call.OutJob.TheVariants as job
use Rattle.core_model.specs.DueJobs.{DueJob}
use Rattle.core_model.specs.Groups.{group_sent}
use Rattle.core_model.specs.LeasingStream.{opening_sent}
use Rattle.core_model.specs.Lookups.{reads_of, with_reads}
use Rattle.core_model.specs.Sending.{next_call, out_call, seat_sent, called_as}
use Rattle.core_model.specs.State.{Core}
use Rattle.core_model.specs.Stepped.{Stepped, gives}
use Rattle.core_model.specs.Watching.{with_watches}
use Rattle.revoke_core.specs.Sends.{after_sending}
use Rattle.core_sends.specs.declared.sendings.ToSend.{ToSend}
use Rattle.core_sends.specs.declared.sendings.ToSend.TheVariants as send
use Rattle.core_sends.specs.ToSend.{to_send}

-- `d` is what becomes of the proxy beside
abbrev pub call_sent : ℕ → OutJob → ℕ → Request → Core → Core → Stepped
call_sent now j ticket q c d =
    gives
    (record d { calls = next_call c; out = c.out ++ out_call now j c ∷ [] })
    (outcome.Job (Some (sent.Call (next_call c) c.members.current ticket q)))

abbrev pub streams_after : Broadcasts → Broadcasts
streams_after b = (next_job b (first_due b.streams)).0

abbrev pub own_after : ℕ → Ownership → Ownership
own_after call own = after_sending own (job_sent call own)

abbrev pub send_one : ℕ → ToSend → Core → Stepped
send_one now (send.Session out q) c =
    call_sent now out 0 q c (record c { seat = option_map (λ s. seat_sent (next_call c) s.session) c.seat })
send_one now (send.Write ticket q) c = call_sent now job.Wait ticket q c (record c { own = own_after (next_call c) c.own })
send_one now (send.Acquire k ticket q) c =
    call_sent now (job.Acquire k) ticket q c (with_reads c (acquire_sent (next_call c) k (reads_of c)))
send_one now (send.Ask ticket kind q) c =
    call_sent now (job.Ask kind) ticket q c (record c { asks = map (called_as (next_call c) ticket) c.asks })
send_one now (send.Group lease ticket) c =
    call_sent now (job.Group lease) ticket (request.KeepAlive lease) c (record c { asks = map (group_sent (next_call c) lease) c.asks })
send_one now (send.Open stream q) c =
    gives (record c { leasing = option_map opening_sent c.leasing }) (outcome.Job (Some (sent.Begin stream c.members.current q)))
send_one now (send.Begin stream q) c =
    gives (with_watches c (streams_after c.watches)) (outcome.Job (Some (sent.Begin stream c.members.current q)))
send_one now (send.Close stream) c = gives (with_watches c (streams_after c.watches)) (outcome.Job (Some (sent.Close stream)))

abbrev pub sends : ℕ → Option ToSend → Core → Stepped
sends now None c = gives c (outcome.Job None)
sends now (Some x) c = send_one now x c

-- what is to be sent by the proxy for the job
abbrev pub sent_for : Core → Option Due → Option DueJob → Option ToSend
sent_for c write None = None
sent_for c write (Some j) = to_send c.settings.namespace c.own.waits.prefix c.settings.ttl write j

-- the writes' first due job
abbrev pub due_write : Core → Option Due
due_write c = option_map (λ x. x.due) (job_sent (next_call c) c.own)
