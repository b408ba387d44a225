-- The entry is gone, or what is there of one that is held again.
use Rattle.std.proofs.Common.{sym, ◌∙◌}
use Rattle.write_answers.proofs.Views.{lost_what, stays_what}
use Rattle.write_answers.proofs.seen.seen_failed.Goals as goal

pub returns-then-is_lost : goal.returns-then-is_lost
returns-then-is_lost c = λ session.
    c.neither.ensures ∙ lost_what session c.args.write.now c.args.owners.now c.args.table.now.entries c.args.key.now (sym c.is_lost.ensures ∙ c.if-is_lost.true)

pub returns-else-is_lost : goal.returns-else-is_lost
returns-else-is_lost c = λ session.
    c.seen_back.ensures ∙ stays_what session c.args.write.now c.args.owners.now c.args.table.now.entries c.args.key.now (sym c.is_lost.ensures ∙ c.if-is_lost.false)
