-- Looking things up in the state of a proxy, and putting its parts back.
use Rattle.std.specs.Prelude.{ℕ, Bool, false, not, ◌==◌, ◌||◌, if◌then◌else◌, List, [], ◌∷◌, filter, Option, None, Some, is_some}
use Rattle.etcd_types.specs.Keys.{is_empty}
use Rattle.proxy_model.specs.Session.{is_live}
use Rattle.wait_model.specs.declared.sending.Sending.{Sending}
use Rattle.wait_model.specs.declared.sending.Sending.TheVariants as sending
use Rattle.read_model.specs.declared.asked.Asked.{Asked}
use Rattle.read_model.specs.declared.asked.Stage.{Stage}
use Rattle.read_model.specs.declared.asked.Stage.TheVariants as stage
use Rattle.read_model.specs.State.{Reads, Moment}
use Rattle.watch_model.specs.Lookups.{watch_at}
use Rattle.core_model.specs.declared.out_call.OutCall.{OutCall}
use Rattle.core_model.specs.State.{Seat, Opening, Core}

-- leasing is on
abbrev pub leases : Core → Bool
leases c = not (is_empty c.own.waits.prefix)

-- The session and the leasing stream.

abbrev pub number_if : Bool → ℕ → Option ℕ
number_if live number = if live then Some number else None

-- the number of the session, where it is live
abbrev pub live_number : Option Seat → ℕ → Option ℕ
live_number None now = None
live_number (Some s) now = number_if (is_live s.session now) s.session.number

abbrev pub stands_created : Option Opening → Bool
stands_created None = false
stands_created (Some o) = o.stream.created

abbrev pub moment : Core → ℕ → Moment
moment c now =
    record { now = now; session = live_number c.seat now; created = stands_created c.leasing; header = c.header }

-- The reads' part of the state.

abbrev pub reads_of : Core → Reads
reads_of c = record { own = c.own; acquires = c.acquires; asks = c.asks }

abbrev pub with_reads : Core → Reads → Core
with_reads c r = record c { own = r.own; acquires = r.acquires; asks = r.asks }

-- Requests.

abbrev pub has_ticket : ℕ → Asked → Bool
has_ticket ticket a = a.ticket == ticket

abbrev pub ask_at : ℕ → List Asked → Option Asked
ask_at ticket [] = None
ask_at ticket (a ∷ rest) = if has_ticket ticket a then Some a else ask_at ticket rest

abbrev pub without_ask : ℕ → List Asked → List Asked
without_ask ticket asks = filter (λ a. not (has_ticket ticket a)) asks

-- of a request that was asked and whose reply wasn't taken, or of a watch
abbrev pub is_known : ℕ → Core → Bool
is_known ticket c = is_some (ask_at ticket c.asks) || is_some (watch_at ticket c.watches.watches)

abbrev pub is_out_as : ℕ → Sending → Bool
is_out_as call (sending.Due since) = false
is_out_as call (sending.Out n) = n == call

abbrev pub stage_calls : ℕ → Stage → Bool
stage_calls call (stage.Calling s) = is_out_as call s
stage_calls call _ = false

-- the request whose own call this is
abbrev pub calls_as : ℕ → Asked → Bool
calls_as call a = stage_calls call a.stage

-- Calls that are out.

abbrev pub out_at : ℕ → List OutCall → Option OutCall
out_at call [] = None
out_at call (o ∷ rest) = if o.call == call then Some o else out_at call rest

abbrev pub without_out : ℕ → List OutCall → List OutCall
without_out call out = filter (λ o. not (o.call == call)) out
