use Rattle.prefix_laws.proofs.Idle.{each_is_sound, scripts_leave_none}
use Rattle.prefix_laws.proofs.scripts_leave_none_idle.Goals as goal

pub returns : goal.returns
returns c = record { sound = each_is_sound; idle = scripts_leave_none }
