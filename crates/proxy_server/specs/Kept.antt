-- What stays of a conversation, whatever its turn does and its client sends: the turn stays at home, what it made stays allowed, no count
-- of faults falls, the last ticket stays, and it is still a conversation of the same parts.
use Rattle.std.specs.Prelude.{◌≡◌, ◌≤◌, ℕ}
use Rattle.outside.specs.Faults.{Rose}
use Rattle.server_model.specs.declared.ends.SessionEnd.{SessionEnd}
use Rattle.server_model.specs.declared.ends.SessionEnd.TheVariants.{ReadFault, WriteFault}
use Rattle.proxy_server.specs.declared.talk.Talk.{Talk}

-- it has the same turn, clock, source, sink and draw
pub record IsSame {T C S K D : Type 0} (old new : Talk T C S K D) : Type 0 where
  pub turn : new.turn.ghost_name ≡ old.turn.ghost_name
  pub clock : new.clock.ghost_name ≡ old.clock.ghost_name
  pub source : new.source.ghost_name ≡ old.source.ghost_name
  pub sink : new.sink.ghost_name ≡ old.sink.ghost_name
  pub draw : new.draw.ghost_name ≡ old.draw.ghost_name

pub record Kept {T C S K D H : Type 0} (home_of : T → H) (allowed_of : T → Type 0) (reads_of : S → ℕ) (writes_of : K → ℕ) (old new : Talk T C S K D) : Type 0 where
  pub home : home_of new.turn.now ≡ home_of old.turn.now
  pub allowed : allowed_of old.turn.now → allowed_of new.turn.now
  pub limit : new.tickets.end ≡ old.tickets.end
  pub reads : reads_of old.source.now ≤ reads_of new.source.now
  pub writes : writes_of old.sink.now ≤ writes_of new.sink.now
  pub same : IsSame old new

-- no ticket was taken, and no word drawn
abbrev pub IsUnnumbered : {T C S K D : Type 0} → Talk T C S K D → Talk T C S K D → Type 0
IsUnnumbered old new = (new.tickets ≡ old.tickets) × (new.draw.now ≡ old.draw.now)

-- an end by a fault of reading or writing comes only where the count rose
pub record IsCaused {T C S K D : Type 0} (reads_of : S → ℕ) (writes_of : K → ℕ) (old new : Talk T C S K D) (end : SessionEnd) : Type 0 where
  pub read_cause : end ≡ ReadFault → Rose (reads_of old.source.now) (reads_of new.source.now)
  pub write_cause : end ≡ WriteFault → Rose (writes_of old.sink.now) (writes_of new.sink.now)
