-- The session of a proxy: drawn and granted at a tick, kept alive, and ended. An answer or a loss acts on the session whose very
-- call it is of, so that one of an earlier session changes none.
use Rattle.std.specs.Prelude.{ℕ, ◌+◌, ◌%◌, Bool, true, false, ◌==◌, if◌then◌else◌, Option, None, Some}
use Rattle.etcd_types.specs.declared.answer.Answer.{Answer}
use Rattle.etcd_types.specs.declared.answer.Answer.TheVariants.{Done, Refused}
use Rattle.etcd_types.specs.declared.answer.Body.{Body}
use Rattle.etcd_types.specs.declared.answer.Body.TheVariants as body
use Rattle.etcd_types.specs.declared.request.Request.{Request}
use Rattle.etcd_types.specs.declared.request.Request.TheVariants as request
use Rattle.proxy_model.specs.declared.session.Standing.{Standing}
use Rattle.proxy_model.specs.declared.session.TheConstants.{FIRST_SESSION}
use Rattle.proxy_model.specs.Session.{Session, start, granted, renewed, is_due, is_live}
use Rattle.wait_model.specs.declared.sending.Sending.{Sending}
use Rattle.wait_model.specs.declared.sending.Sending.TheVariants as sending
use Rattle.read_model.specs.SessionEnd.{session_over}
use Rattle.core_model.specs.declared.out_call.OutCall.{OutCall}
use Rattle.core_model.specs.Lookups.{is_out_as, moment, reads_of, with_reads}
use Rattle.core_model.specs.State.{Seat, Core}

-- A tick.

-- session numbers are the upper half of all lease numbers
abbrev pub drawn_session : ℕ → ℕ
drawn_session word = FIRST_SESSION + word % FIRST_SESSION

abbrev pub drawn_seat : ℕ → ℕ → ℕ → Seat
drawn_seat word ttl step = record { session = start (drawn_session word) ttl; call = Some (sending.Due step) }

-- a keepalive is due where none is due or out
abbrev pub call_ticked : ℕ → ℕ → Session → Option Sending → Option Sending
call_ticked step now s None = if is_due s now then Some (sending.Due step) else None
call_ticked step now s (Some call) = Some call

abbrev pub seat_ticked : ℕ → ℕ → ℕ → ℕ → Option Seat → Seat
seat_ticked word ttl step now None = drawn_seat word ttl step
seat_ticked word ttl step now (Some s) = record s { call = call_ticked step now s.session s.call }

-- The end of a session: its number is forgotten, and with it all that was owned.

-- what its end does to entries, writes, acquires and reads; none of them is acquired then
abbrev pub without_session : ℕ → Core → Core
without_session now c =
    let d = record c { seat = None } in
    with_reads d (session_over (moment d now) (reads_of d))

abbrev pub is_over : Option Standing → ℕ → Session → Bool
is_over None now s = false
is_over (Some x) now s = if is_live s now then false else true

abbrev pub seat_is_over : Option Seat → ℕ → Bool
seat_is_over None now = false
seat_is_over (Some s) now = is_over s.session.standing now s.session

-- at its deadline
abbrev pub deadline_passed : ℕ → Core → Core
deadline_passed now c = if seat_is_over c.seat now then without_session now c else c

-- Its calls are answered or lost.

abbrev pub is_sent_as : ℕ → Option Sending → Bool
is_sent_as call None = false
is_sent_as call (Some s) = is_out_as call s

-- the session's call that is out is this one
abbrev pub seat_calls : ℕ → Option Seat → Bool
seat_calls call None = false
seat_calls call (Some s) = is_sent_as call s.call

abbrev pub seat_granted : ℕ → ℕ → Option Seat → Option Seat
seat_granted sent_at ttl None = None
seat_granted sent_at ttl (Some s) = Some (record { session = granted s.session sent_at ttl; call = None })

abbrev pub granted_by : OutCall → Body → Core → Option Core
granted_by o (body.Grant lease ttl) c =
    Some (if seat_calls o.call c.seat then record c { seat = seat_granted o.sent_at ttl c.seat } else c)
granted_by o _ c = None

-- a lost or refused grant leaves no session
abbrev pub grant_failed : OutCall → Core → Core
grant_failed o c = if seat_calls o.call c.seat then record c { seat = None } else c

-- nothing, where the answer can't be one to a grant
abbrev pub grant_answered : OutCall → Answer → Core → Option Core
grant_answered o (Done reply) c = granted_by o reply.body c
grant_answered o (Refused r) c = Some (grant_failed o c)

abbrev pub seat_free : Option Seat → Option Seat
seat_free None = None
seat_free (Some s) = Some (record s { call = None })

-- a lost or refused keepalive changes nothing else
abbrev pub keep_failed : OutCall → Core → Core
keep_failed o c = if seat_calls o.call c.seat then record c { seat = seat_free c.seat } else c

abbrev pub seat_renewed : ℕ → ℕ → Option Seat → Option Seat
seat_renewed sent_at ttl None = None
seat_renewed sent_at ttl (Some s) = Some (record { session = renewed s.session sent_at ttl; call = None })

-- one that is answered with time to live 0 ends the session: its lease isn't there any more
abbrev pub kept : ℕ → OutCall → ℕ → Core → Core
kept now o ttl c =
    if ttl == 0 then without_session now c else record c { seat = seat_renewed o.sent_at ttl c.seat }

abbrev pub kept_by : ℕ → OutCall → Body → Core → Option Core
kept_by now o (body.KeepAlive lease ttl) c = Some (if seat_calls o.call c.seat then kept now o ttl c else c)
kept_by now o _ c = None

abbrev pub keep_answered : ℕ → OutCall → Answer → Core → Option Core
keep_answered now o (Done reply) c = kept_by now o reply.body c
keep_answered now o (Refused r) c = Some (keep_failed o c)

-- What its due call asks for.

abbrev pub session_request : ℕ → Session → Option Standing → Request
session_request ttl s None = request.Grant ttl s.number
session_request ttl s (Some x) = request.KeepAlive s.number
