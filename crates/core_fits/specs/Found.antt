-- What these facts say of what is found: of a request at the stage of writes, that its write is there and is the same request; of a
-- call that is out for the session, which call it is.
use Rattle.std.specs.Prelude.{◌≡◌, ℕ, true, Some}
use Rattle.wait_model.specs.declared.sending.Sending.TheVariants as sending
use Rattle.wait_model.specs.declared.write.Write.{Write}
use Rattle.wait_model.specs.Writes.{first_by, has_ticket}
use Rattle.read_model.specs.declared.asked.Asked.{Asked}
use Rattle.read_model.specs.TakingOff.{is_writes}
use Rattle.core_model.specs.declared.out_call.OutCall.{OutCall}
use Rattle.core_model.specs.Fits.{CoreOk}
use Rattle.core_model.specs.Lookups.{ask_at, out_at}
use Rattle.core_model.specs.Sending.{session_out}
use Rattle.core_model.specs.State.{Seat, Core}
use Rattle.core_fits.specs.Fits.{WritesAreAsked, CoreFits}

-- the write of this ticket, which is this request
pub record HasWrite (c : Core) (ticket : ℕ) (a : Asked) : Type 0 where
  pub write : Write
  pub found : first_by (has_ticket ticket) c.own.waits.writes ≡ Some write
  pub same : write.request ≡ a.request

abbrev pub WritingRequestsHaveWrites : Type 0
WritingRequestsHaveWrites =
    (c : Core) (ticket : ℕ) (a : Asked) → CoreOk c → WritesAreAsked c → ask_at ticket c.asks ≡ Some a → is_writes a.stage ≡ true → HasWrite c ticket a

-- the call that is out for it is there, and is its grant, or its keepalive where it stands
pub record HasCall (c : Core) (s : Seat) (call : ℕ) : Type 0 where
  pub out : OutCall
  pub found : out_at call c.out ≡ Some out
  pub job : out.job ≡ session_out s.session.number s.session.standing

abbrev pub SessionsCallIsOut : Type 0
SessionsCallIsOut = (c : Core) (s : Seat) (call : ℕ) → CoreOk c → CoreFits c → c.seat ≡ Some s → s.call ≡ Some (sending.Out call) → HasCall c s call
