use Rattle.world_laws.proofs.Lines.{refused_leaves}
use Rattle.world_laws.proofs.refused_lines_leave_the_world.Goals as goal

pub returns : goal.returns
returns c = refused_leaves
