-- They have one kind and one key.
use Rattle.std.proofs.Common.{◌&&◌}
use Rattle.core_model.specs.Groups.{keeps, is_due_stage}
use Rattle.ask_tables.specs.RowMarks.{has_key, by_group}
use Rattle.known_asks.proofs.OneByOne.{settles_too}
use Rattle.known_asks.proofs.GroupMarks.{due_is}
use Rattle.known_asks.proofs.groups.change_due_group.Goals as goal

pub change_grouped-requires : goal.change_grouped-requires
change_grouped-requires g c =
    settles_too (λ a. keeps c.args.lease a.request && is_due_stage a.stage) (has_key by_group 0 c.args.lease) (g.R.Rule.changed c.args.rule.now) (λ a. due_is c.args.lease a) c.requires
