-- Where none is due, the first one is behind all.
use Rattle.std.proofs.Common.{◌≡◌, rules, sym, ◌∙◌}
use Rattle.lease_table.proofs.Counting.{none_due_from}
use Rattle.lease_table.proofs.dues.next_due.Goals as goal

pub returns-then-due-eq0 : goal.returns-then-due-eq0
returns-then-due-eq0 c =
    c.len.ensures.all ∙ sym (none_due_from c.args.rows.now.rows c.args.from (let none : c.args.due ≡ 0 = (let e = c.if-due-eq0.true in search (e, rules)) in sym c.requires.counted ∙ none) c.requires.in_range)
