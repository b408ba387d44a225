use Rattle.std.proofs.Common.{◌≡◌, ◌<◌, ℕ, ◌+◌, ◌-◌, List, length, take, slice_index_or, ◌∙◌, ap, arith}
use Rattle.store_index.specs.Parts.{last_end}
use Rattle.store_index.proofs.PartLemmas.{after_some}
use Rattle.store_index.proofs.ends.Ends.through.Goals as goal

pub returns : goal.returns
returns c =
    let long : length c.self.inside.ends.items ≡ length c.args.self.now.1 = ap (λ (g : ℕ × List ℕ). length g.1) c.self.view_is in
    let within : c.args.place < length c.self.inside.ends.items = let r = c.requires in omega (arith, r, long) in
    let here : slice_index_or c.as_slice-ends.result.now c.args.place 0 ≡ last_end c.self.inside.start (take (c.args.place + 1) c.self.inside.ends.items) =
    ap (λ (es : List ℕ). slice_index_or es c.args.place 0) c.as_slice-ends.ensures.value
    ∙ after_some c.self.inside.start c.self.inside.ends.items c.args.place within in
    c.saturating_sub.ensures
    ∙ ap (λ j. j - c.self.inside.start) here
    ∙ ap (λ (g : ℕ × List ℕ). last_end g.0 (take (c.args.place + 1) g.1) - g.0) c.self.view_is
