-- What was put is taken out again.
use Rattle.std.proofs.Common.{◌≡◌, ℕ, List, Some, None, ◌∙◌, ap}
use Rattle.proxy_model.specs.Keyed.{Keyed, with_at}
use Rattle.ask_tables.specs.Marks.{mark_of}
use Rattle.ask_tables.proofs.Undone.{undone}
use Rattle.ask_tables.proofs.tables.Tables.put.Goals as goal

pub returns-in-Err-clause-err : goal.returns-in-Err-clause-err
returns-in-Err-clause-err c =
    let mark : List ℕ = mark_of c.args.ask.now in
    let same : c.put_by_key.new.self.waits ≡ c.put.new.self = λ i. (c.in-Err.ensures.err i).waits in
    let waits : c.remove.new.self ≡ c.args.self.now.waits =
    c.remove.ensures ∙ ap (λ (k : List ℕ). with_at c.put_by_key.new.self.waits k None) c.mark_of-in-Err.ensures.mark ∙ ap (λ (es : Keyed ℕ). with_at es mark None) (same ∙ c.in_ok-put.ensures.ok) ∙
    ap (λ (k : List ℕ). with_at (with_at c.args.self.now.waits k (Some c.args.number)) mark None) c.mark_of.ensures.mark ∙ undone c.args.self.now.waits mark c.args.number c.put.ensures.in_order c.requires.waits in
    λ i. record { waits = waits i; keys = (c.in-Err.ensures.err i).keys; groups = (c.in-Err.ensures.err i).groups; times = (c.in-Err.ensures.err i).times }
