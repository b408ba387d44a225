-- That what the code is to add is taken where it stands.
use Rattle.script_text.specs.declared.line.Line.{Line}
use Rattle.world_model.specs.Generated.{Making}
use Rattle.generated_laws.specs.Laws as laws
use Rattle.replay_generated.specs.Made.{Made, IsOf}

-- the code stands at a making of which this is so
pub data CanMake (taken : Making → Type 0) (x : Made) : Type 0 where
  can_make : (m : Making) → IsOf x m → taken m → CanMake taken x

-- the line is taken there
abbrev pub CanAdd : Line → Made → Type 0
CanAdd l x = CanMake (λ m. laws.Takes m l) x
