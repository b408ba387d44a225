-- What happens to one entry, by what is told of it.
use Rattle.std.specs.Prelude.{◌==◌, ◌&&◌, Bool, true, false, not, if◌then◌else◌, Option, None, Some}
use Rattle.proxy_model.specs.declared.lease.Entry.{Entry}
use Rattle.proxy_model.specs.LeaseTable.{in_phase, written, unwritten, leaving, given_up}
use Rattle.proxy_model.specs.declared.lease.Phase.{Phase}
use Rattle.proxy_model.specs.declared.lease.Phase.TheVariants as phase
use Rattle.wait_model.specs.Phases.{rescind_sent}
use Rattle.lease_table.specs.declared.turns.Turn.{Turn}
use Rattle.lease_table.specs.declared.turns.Turn.TheVariants as turn

abbrev pub turned : Turn → Entry → Entry
turned (turn.To phase) e = in_phase phase e
turned (turn.Wrote kv) e = written kv e
turned turn.Unwritten e = unwritten e
turned turn.Left e = leaving e
turned turn.GivenUp e = given_up e
turned turn.RescindSent e = rescind_sent true e
turned (turn.RescindLost create) e = if e.create == create then rescind_sent false e else e

-- a write's beginning or end
abbrev pub is_write : Turn → Bool
is_write (turn.To (phase.Writing revoked)) = true
is_write (turn.To phase.Held) = false
is_write (turn.To (phase.Leaving sent)) = false
is_write (turn.Wrote kv) = true
is_write turn.Unwritten = true
is_write turn.Left = false
is_write turn.GivenUp = false
is_write turn.RescindSent = false
is_write (turn.RescindLost create) = false

-- the key is held, or being written and not given up
abbrev pub is_open : Phase → Bool
is_open phase.Held = true
is_open (phase.Writing revoked) = not revoked
is_open (phase.Leaving sent) = false

-- no rescind comes or goes by the turn, as far as is seen at once
abbrev pub is_quiet : Turn → Entry → Bool
is_quiet t e = is_open e.phase && is_write t

abbrev pub is_quiet_at : Turn → Option Entry → Bool
is_quiet_at t None = false
is_quiet_at t (Some e) = is_quiet t e
