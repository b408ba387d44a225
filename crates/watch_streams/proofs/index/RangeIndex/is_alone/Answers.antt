use Rattle.std.proofs.Common.{◌≡◌, ◌≤◌, ℕ, true, List, length, ap, sym, subst, ◌∙◌}
use Rattle.watch_streams.specs.declared.rows.Row.{Row}
use Rattle.watch_streams.specs.Rows.{rising, under}
use Rattle.watch_streams.proofs.Alone.{alone_is}
use Rattle.watch_streams.proofs.index.RangeIndex.is_alone.Goals as goal

pub returns-then-self : goal.returns-then-self
returns-then-self c = λ ss h e.
    let rows = c.args.self.now.rows.items in
    let listed = h c.if-self.true in
    let rises : rising 0 c.deref.result.now ≡ true = subst (λ (l : List Row). rising 0 l ≡ true) (sym c.deref.ensures.value) listed.rising in
    alone_is c.args.range.now rows ss listed
    (subst (λ (d : ℕ). length (under d rows) ≤ 1) c.digest.ensures.value (subst (λ (l : List Row). length (under c.digest.result l) ≤ 1) c.deref.ensures.value (c.at_most_one.ensures rises e)))
