-- What holds of one proxy beside that its parts agree: of its requests and writes, of the call of its session, of its leasing
-- stream, and of the cached header.
use Rattle.std.specs.Prelude.{◌≡◌, ℕ, Bool, true, false, List, [], ◌∷◌, Option, None, Some}
use Rattle.etcd_types.specs.declared.request.Request.{Request}
use Rattle.proxy_model.specs.Prefixes.{leasing_range}
use Rattle.proxy_model.specs.RequestRefusals.{is_session}
use Rattle.proxy_model.specs.Session.{Session}
use Rattle.wait_model.specs.declared.sending.Sending.{Sending}
use Rattle.wait_model.specs.declared.write.Write.{Write}
use Rattle.read_model.specs.declared.asked.Asked.{Asked}
use Rattle.read_model.specs.declared.asked.Stage.{Stage}
use Rattle.read_model.specs.declared.asked.Stage.TheVariants as stage
use Rattle.core_model.specs.declared.out_call.OutCall.{OutCall}
use Rattle.core_model.specs.Asking.{is_leased_read}
use Rattle.core_model.specs.Refusals.{refusal_of}
use Rattle.core_model.specs.Sending.{session_out}
use Rattle.core_model.specs.Sessions.{is_sent_as}
use Rattle.core_model.specs.State.{Seat, Opening, Core}

-- it holds of each of a list
abbrev pub EachOf : {A : Type 0} → (A → Type 0) → List A → Type 0
EachOf P [] = Unit {0}
EachOf P (x ∷ xs) = P x × EachOf P xs

-- Requests.

-- a proxy with this leasing prefix refuses no such request
abbrev pub Serves : List ℕ → Request → Type 0
Serves prefix q = refusal_of prefix q ≡ None

-- what waits is served: each request, and each write's
pub record AreServed (c : Core) : Type 0 where
  pub asks : EachOf (λ a. Serves c.own.waits.prefix a.request) c.asks
  pub writes : EachOf (λ w. Serves c.own.waits.prefix w.request) c.own.waits.writes

-- it waits for an acquire, its own or another's, or for an owner write
abbrev pub is_reading : Stage → Bool
is_reading stage.Acquiring = true
is_reading stage.Joined = true
is_reading stage.Behind = true
is_reading _ = false

-- so wait only plain reads outside the leasing range
abbrev pub ReadsAlone : Core → Type 0
ReadsAlone c = EachOf (λ a. is_reading a.stage ≡ true → is_leased_read c.own.waits.prefix a.request ≡ true) c.asks

-- a request and a write of one ticket are the same request
abbrev pub IsSame : Asked → Write → Type 0
IsSame a w = w.ticket ≡ a.ticket → w.request ≡ a.request

abbrev pub WritesAreAsked : Core → Type 0
WritesAreAsked c = EachOf (λ a. EachOf (IsSame a) c.own.waits.writes) c.asks

-- The session's call.

-- where this call is the session's, it is its grant or its keepalive, under its own number
abbrev pub IsSeatsCall : Session → Option Sending → OutCall → Type 0
IsSeatsCall s call o = is_sent_as o.call call ≡ true → o.job ≡ session_out s.number s.standing

abbrev pub SeatHasItsJob : Option Seat → List OutCall → Type 0
SeatHasItsJob None out = Unit {0}
SeatHasItsJob (Some s) out = EachOf (IsSeatsCall s.session s.call) out

-- its number is one of those that are kept for sessions
abbrev pub SeatIsNumbered : Option Seat → Type 0
SeatIsNumbered None = Unit {0}
SeatIsNumbered (Some s) = is_session s.session.number ≡ true

-- The leasing stream: it is of the ownership keys.
abbrev pub IsOfLeasing : List ℕ → Option Opening → Type 0
IsOfLeasing prefix None = Unit {0}
IsOfLeasing prefix (Some o) = o.stream.range ≡ leasing_range prefix

-- The cached header is of the greatest revision seen.
abbrev pub HeaderIsSeen : Core → Type 0
HeaderIsSeen c = c.header.revision ≡ c.members.seen

-- All of them.
pub record CoreFits (c : Core) : Type 0 where
  pub served : AreServed c
  pub read : ReadsAlone c
  pub write : WritesAreAsked c
  pub seat_job : SeatHasItsJob c.seat c.out
  pub numbered : SeatIsNumbered c.seat
  pub range : IsOfLeasing c.own.waits.prefix c.leasing
  pub header : HeaderIsSeen c
