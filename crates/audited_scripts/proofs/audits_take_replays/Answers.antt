use Rattle.audited_scripts.proofs.Scripts.{audits_take}
use Rattle.audited_scripts.proofs.audits_take_replays.Goals as goal

pub returns : goal.returns
returns c = audits_take
