-- What was put is taken out again.
use Rattle.std.proofs.Common.{◌≡◌, ℕ, List, Some, None, ◌∙◌, ap}
use Rattle.proxy_model.specs.Keyed.{Keyed, with_at}
use Rattle.ask_tables.specs.KeyMarks.{by_key, ticket_mark}
use Rattle.ask_tables.proofs.Undone.{undone}
use Rattle.ask_tables.proofs.tables.Tables.put_by_key.Goals as goal

pub returns-in-Err-clause-err : goal.returns-in-Err-clause-err
returns-in-Err-clause-err c =
    let mark : List ℕ = ticket_mark by_key c.args.ask.now in
    let same : c.put_by_row.new.self.keys ≡ c.put.new.self = λ i. (c.in-Err.ensures.err i).keys in
    let keys : c.remove.new.self ≡ c.args.self.now.keys =
    c.remove.ensures ∙ ap (λ (k : List ℕ). with_at c.put_by_row.new.self.keys k None) c.key_mark-in-Err.ensures ∙ ap (λ (es : Keyed ℕ). with_at es mark None) (same ∙ c.in_ok-put.ensures.ok) ∙
    ap (λ (k : List ℕ). with_at (with_at c.args.self.now.keys k (Some c.args.number)) mark None) c.key_mark.ensures ∙ undone c.args.self.now.keys mark c.args.number c.put.ensures.in_order c.requires.keys in
    λ i. record { waits = (c.in-Err.ensures.err i).waits; keys = keys i; groups = (c.in-Err.ensures.err i).groups; times = (c.in-Err.ensures.err i).times }
