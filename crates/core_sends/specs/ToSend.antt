-- What is to be sent for a due job: its request under the namespace, and what the proxy is to note of it (clientv3's namespace and
-- leasing packages).
use Rattle.std.specs.Prelude.{ℕ, List, Option, None, Some}
use Rattle.etcd_types.specs.declared.request.Request.TheVariants as request
use Rattle.proxy_model.specs.Acquire.{acquire}
use Rattle.proxy_model.specs.PassingOn.{passed_on}
use Rattle.proxy_model.specs.Session.{Session}
use Rattle.proxy_model.specs.Wrapped.{request_under}
use Rattle.wait_model.specs.declared.due.Due.{Due}
use Rattle.read_model.specs.declared.acquire.Acquire.{Acquire}
use Rattle.read_model.specs.declared.asked.Asked.{Asked}
use Rattle.watch_model.specs.declared.stream.StreamPhase.{StreamPhase}
use Rattle.watch_model.specs.declared.stream.StreamPhase.TheVariants as phase
use Rattle.watch_model.specs.State.{Stream}
use Rattle.core_model.specs.DueJobs.{DueJob, ForSession, ForWrites, ForAcquire, ForAsk, ForGroup, ToOpen, ForStream}
use Rattle.core_model.specs.Kinds.{kind_of}
use Rattle.core_model.specs.LeasingStream.{watch_of}
use Rattle.core_model.specs.Sending.{session_out}
use Rattle.core_model.specs.Sessions.{session_request}
use Rattle.core_model.specs.State.{Opening}
use Rattle.core_model.specs.Watching.{watch_from}
use Rattle.core_sends.specs.declared.sendings.ToSend.{ToSend}
use Rattle.core_sends.specs.declared.sendings.ToSend.TheVariants as send

abbrev pub session_to_send : ℕ → Session → ToSend
session_to_send ttl s = send.Session (session_out s.number s.standing) (session_request ttl s s.standing)

abbrev pub write_to_send : List ℕ → Option Due → Option ToSend
write_to_send namespace None = None
write_to_send namespace (Some due) = Some (send.Write due.ticket (request_under namespace due.request))

abbrev pub acquire_to_send : List ℕ → List ℕ → List ℕ → Acquire → ToSend
acquire_to_send namespace prefix k x =
    send.Acquire k x.ticket (request_under namespace (request.Txn (acquire prefix k x.session)))

-- a grant that leaves its number open is sent with a chosen one
abbrev pub ask_to_send : List ℕ → Asked → ToSend
ask_to_send namespace a = send.Ask a.ticket (kind_of a.request) (passed_on namespace a.word a.request)

abbrev pub opening_to_send : List ℕ → Opening → ToSend
opening_to_send namespace o = send.Open o.number (request_under namespace (watch_of o.stream))

abbrev pub begin_to_send : List ℕ → Stream → ToSend
begin_to_send namespace s = send.Begin s.number (request_under namespace (watch_from s.stream.range s.stream.next))

abbrev pub stream_to_send : List ℕ → Stream → StreamPhase → Option ToSend
stream_to_send namespace s (phase.Due since) = Some (begin_to_send namespace s)
stream_to_send namespace s (phase.Closing since) = Some (send.Close s.number)
stream_to_send namespace s phase.Begun = None

-- `write` is the writes' first due job, where the job is theirs
abbrev pub to_send : List ℕ → List ℕ → ℕ → Option Due → DueJob → Option ToSend
to_send namespace prefix ttl write (ForSession s) = Some (session_to_send ttl s)
to_send namespace prefix ttl write ForWrites = write_to_send namespace write
to_send namespace prefix ttl write (ForAcquire k x) = Some (acquire_to_send namespace prefix k x)
to_send namespace prefix ttl write (ForAsk a) = Some (ask_to_send namespace a)
to_send namespace prefix ttl write (ForGroup lease ticket) = Some (send.Group lease ticket)
to_send namespace prefix ttl write (ToOpen o) = Some (opening_to_send namespace o)
to_send namespace prefix ttl write (ForStream s) = stream_to_send namespace s s.phase
