-- What was put is taken out again.
use Rattle.std.proofs.Common.{◌≡◌, ℕ, List, Some, None, ◌∙◌, ap}
use Rattle.proxy_model.specs.Keyed.{Keyed, with_at}
use Rattle.ask_tables.specs.RowMarks.{row_mark, by_group}
use Rattle.ask_tables.proofs.Undone.{undone}
use Rattle.ask_tables.proofs.tables.Tables.put_by_row.Goals as goal

pub returns-in-Err-clause-err : goal.returns-in-Err-clause-err
returns-in-Err-clause-err c =
    let mark : List ℕ = row_mark by_group c.args.number c.args.ask.now in
    let groups : c.remove.new.self ≡ c.args.self.now.groups =
    c.remove.ensures ∙ ap (λ (k : List ℕ). with_at c.put.new.self k None) c.group_mark-in-Err.ensures ∙ ap (λ (es : Keyed ℕ). with_at es mark None) c.in_ok-put.ensures.ok ∙
    ap (λ (k : List ℕ). with_at (with_at c.args.self.now.groups k (Some c.args.number)) mark None) c.group_mark.ensures ∙ undone c.args.self.now.groups mark c.args.number c.put.ensures.in_order c.requires in
    λ i. record { waits = c.args.self.now.waits; keys = c.args.self.now.keys; groups = groups i; times = c.in-Err.ensures.err i }
