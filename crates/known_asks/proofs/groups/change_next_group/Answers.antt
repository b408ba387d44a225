-- They have one kind and one key.
use Rattle.std.proofs.Common.{◌&&◌}
use Rattle.core_model.specs.Groups.{keeps, waits_next}
use Rattle.ask_tables.specs.RowMarks.{has_key, by_group}
use Rattle.known_asks.proofs.OneByOne.{settles_too}
use Rattle.known_asks.proofs.GroupMarks.{next_is}
use Rattle.known_asks.proofs.groups.change_next_group.Goals as goal

pub change_grouped-requires : goal.change_grouped-requires
change_grouped-requires g c =
    settles_too (λ a. keeps c.args.lease a.request && waits_next a.stage) (has_key by_group 1 c.args.lease) (g.R.Rule.changed c.args.rule.now) (λ a. next_is c.args.lease a) c.requires
