-- The entry of this create revision is gone, and another one stays.
use Rattle.std.proofs.Common.{sym, ◌∙◌, ap}
use Rattle.write_answers.specs.Seen.{what_of}
use Rattle.write_answers.proofs.Views.{rescinded_gone, rescinded_stays}
use Rattle.write_answers.proofs.seen.seen_rescinded.Goals as goal

pub returns-then-is_rescinded : goal.returns-then-is_rescinded
returns-then-is_rescinded c =
    c.neither.ensures ∙ rescinded_gone c.args.own.now c.args.create c.args.table.now.entries c.args.key.now (sym c.is_rescinded.ensures ∙ c.if-is_rescinded.true)

pub returns-else-is_rescinded : goal.returns-else-is_rescinded
returns-else-is_rescinded c =
    c.seen_in.ensures ∙ ap what_of c.find.ensures ∙ rescinded_stays c.args.own.now c.args.create c.args.table.now.entries c.args.key.now (sym c.is_rescinded.ensures ∙ c.if-is_rescinded.false)
