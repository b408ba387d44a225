-- The session: the lease under which a proxy holds its ownership keys. It stands from the grant's answer until it is ended,
-- and is live below its deadline, which counts from the sending of what was answered, so that the store's own is no earlier.
use Rattle.std.specs.Prelude.{ℕ, ◌+◌, ◌*◌, ◌/◌, max, Bool, false, ◌==◌, ◌&&◌, nat_lt, nat_le, Option, None, Some, if◌then◌else◌}
use Rattle.proxy_model.specs.declared.session.Standing.{Standing}
use Rattle.proxy_model.specs.Limits.{capped}

pub record Session : Type 0 where
  -- its lease number
  pub number : ℕ
  -- the time to live that it asks for, in seconds
  pub ttl : ℕ
  -- nothing before the grant's answer and after the end
  pub standing : Option Standing

abbrev pub millis : ℕ → ℕ
millis seconds = capped (seconds * 1000)

-- a time to live counts from the sending of what was answered
abbrev pub expiry : ℕ → ℕ → ℕ
expiry sent_at ttl = capped (sent_at + millis ttl)

abbrev pub start : ℕ → ℕ → Session
start number ttl = record { number = number; ttl = ttl; standing = None }

abbrev pub granted : Session → ℕ → ℕ → Session
granted s sent_at ttl = record s { standing = Some (record { deadline = expiry sent_at ttl; sent = sent_at }) }

-- a keepalive never lowers the deadline, and one that was answered with time to live 0 leaves it
abbrev pub renewed_standing : Option Standing → ℕ → ℕ → Option Standing
renewed_standing None sent_at ttl = None
renewed_standing (Some x) sent_at ttl =
    Some (record { deadline = (if ttl == 0 then x.deadline else max x.deadline (expiry sent_at ttl)); sent = sent_at })

abbrev pub renewed : Session → ℕ → ℕ → Session
renewed s sent_at ttl = record s { standing = renewed_standing s.standing sent_at ttl }

-- the session is over, or its grant was lost or refused
abbrev pub ended : Session → Session
ended s = record s { standing = None }

abbrev pub deadline_of : Option Standing → Option ℕ
deadline_of None = None
deadline_of (Some x) = Some x.deadline

abbrev pub is_live_standing : Option Standing → ℕ → Bool
is_live_standing None now = false
is_live_standing (Some x) now = nat_lt now x.deadline

abbrev pub is_live : Session → ℕ → Bool
is_live s now = is_live_standing s.standing now

-- a third of the time to live after the sending of what was answered last
abbrev pub renewal : ℕ → Option Standing → ℕ
renewal ttl None = 0
renewal ttl (Some x) = capped (x.sent + millis ttl / 3)

-- a keepalive is wanted, if none is due or out
abbrev pub is_due : Session → ℕ → Bool
is_due s now = is_live s now && nat_le (renewal s.ttl s.standing) now
