use Rattle.std.proofs.Common.{◌≡◌, ℕ, ◌-◌, List, length, take, sym, ◌∙◌, ap, arith}
use Rattle.store_index.proofs.PartLemmas.{length-parts, part_within, piece_cut, parts_cut}
use Rattle.store_index.proofs.places.Places.take_back.Goals as goal

pub truncate-requires : goal.truncate-requires
truncate-requires c =
    let within = (part_within c.self.inside.ends c.saturating_sub-count.result c.self.inside.keys c.self.invariant).1 in
    let here = c.length.ensures in
    omega (arith, within, here)

pub invariant_of-self : goal.invariant_of-self
invariant_of-self c =
    piece_cut c.self.inside.ends c.truncate-2.new.self c.saturating_sub-count.result c.self.inside.keys c.truncate.new.self c.self.invariant c.truncate-2.ensures
    (c.truncate.ensures ∙ ap (λ j. take j c.self.inside.keys) c.length.ensures)

pub returns : goal.returns
returns c =
    let long : length c.args.self.now ≡ length c.self.inside.ends.1 = ap (λ (ks : List (List (List ℕ))). length ks) (sym c.self.view_is) ∙ length-parts c.self.inside.ends.0 c.self.inside.ends.1 c.self.inside.keys in
    let count : c.saturating_sub-count.result ≡ length c.args.self.now - 1 = let n = c.len.ensures in omega (arith, long, n) in
    parts_cut c.self.inside.ends c.truncate-2.new.self c.saturating_sub-count.result c.self.inside.keys c.truncate.new.self c.self.invariant c.truncate-2.ensures
    (c.truncate.ensures ∙ ap (λ j. take j c.self.inside.keys) c.length.ensures)
    ∙ (λ i. take (count i) (c.self.view_is i))
