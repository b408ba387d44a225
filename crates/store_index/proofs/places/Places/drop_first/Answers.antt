use Rattle.std.proofs.Common.{◌≡◌, ℕ, ◌-◌, List, length, drop, sym, ◌∙◌, ap, arith}
use Rattle.std.proofs.Common.{min}
use Rattle.store_index.proofs.PartLemmas.{length-parts, part_within, piece_dropped, parts_dropped, drop_min}
use Rattle.store_index.proofs.places.Places.drop_first.Goals as goal

pub drop_first-requires : goal.drop_first-requires
drop_first-requires c =
    let within = (part_within c.self.inside.ends c.min-count.result c.self.inside.keys c.self.invariant).1 in
    let here = c.length.ensures in
    omega (arith, within, here)

pub invariant_of-self : goal.invariant_of-self
invariant_of-self c =
    piece_dropped c.self.inside.ends c.drop_first-2.new.self c.min-count.result c.self.inside.keys c.drop_first.new.self c.self.invariant c.drop_first-2.ensures
    (c.drop_first.ensures ∙ ap (λ j. drop j c.self.inside.keys) c.length.ensures)

pub returns : goal.returns
returns c =
    let long : length c.args.self.now ≡ length c.self.inside.ends.1 = ap (λ (ks : List (List (List ℕ))). length ks) (sym c.self.view_is) ∙ length-parts c.self.inside.ends.0 c.self.inside.ends.1 c.self.inside.keys in
    let count : c.min-count.result ≡ min c.args.count (length c.args.self.now) = let n = c.len.ensures in omega (arith, long, n) in
    parts_dropped c.self.inside.ends c.drop_first-2.new.self c.min-count.result c.self.inside.keys c.drop_first.new.self c.self.invariant c.drop_first-2.ensures
    (c.drop_first.ensures ∙ ap (λ j. drop j c.self.inside.keys) c.length.ensures)
    ∙ (λ i. drop (count i) (c.self.view_is i))
    ∙ drop_min c.args.count c.args.self.now
