use Rattle.std.proofs.Common.{◌≡◌, ◌<◌, ℕ, ◌+◌, ◌-◌, List, length, take, slice_index_or, ◌∙◌, ap, arith}
use Rattle.std.proofs.lemmas.Bool.Decides.{nat_tests}
use Rattle.store_index.specs.Parts.{last_end}
use Rattle.store_index.proofs.PartLemmas.{after_some}
use Rattle.store_index.proofs.ends.Ends.after.Goals as goal

pub returns-else-count-eq0 : goal.returns-else-count-eq0
returns-else-count-eq0 c =
    let some : 0 < c.args.count = let f = c.if-count-eq0.false in grind (arith, nat_tests) in
    let back : c.args.count - 1 + 1 ≡ c.args.count = omega (arith, some) in
    let long : length c.self.inside.ends.items ≡ length c.args.self.now.1 = ap (λ (g : ℕ × List ℕ). length g.1) c.self.view_is in
    let within : c.args.count - 1 < length c.self.inside.ends.items = let r = c.requires in omega (arith, some, r, long) in
    ap (λ (es : List ℕ). slice_index_or es (c.args.count - 1) 0) c.as_slice-ends.ensures.value
    ∙ after_some c.self.inside.start c.self.inside.ends.items (c.args.count - 1) within
    ∙ ap (λ j. last_end c.self.inside.start (take j c.self.inside.ends.items)) back
    ∙ ap (λ (g : ℕ × List ℕ). last_end g.0 (take c.args.count g.1)) c.self.view_is
