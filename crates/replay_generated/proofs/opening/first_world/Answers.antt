-- It is of two members, in no namespace.
use Rattle.std.proofs.Common.{ℕ, List, [], subst}
use Rattle.replay_world.specs.World.{Stands}
use Rattle.world_model.specs.State.{starting_world}
use Rattle.replay_generated.proofs.opening.first_world.Goals as goal

pub returns : goal.returns
returns g c =
    subst (λ (l : List ℕ). Stands c.in_ok-new.field-0 (starting_world 2 [] l)) c.in_ok-leasing.ensures
    (subst (λ (n : List ℕ). Stands c.in_ok-new.field-0 (starting_world 2 n c.in_ok-leasing.leasing)) c.new-namespace.ensures c.in_ok-new.ensures)
