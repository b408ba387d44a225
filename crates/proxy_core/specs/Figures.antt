-- What is told of a proxy in numbers (etcd's own metrics tell the like of a member: keys, watchers, pending proposals, revision).
use Rattle.std.specs.Prelude.{ℕ, Option, None, Some}
use Rattle.proxy_model.specs.Session.{deadline_of}
use Rattle.core_model.specs.State.{Seat}

-- the time by the proxy's clock from which on its session is dead, where one stands
abbrev pub session_end : Option Seat → Option ℕ
session_end None = None
session_end (Some seat) = deadline_of seat.session.standing
