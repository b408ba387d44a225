use Rattle.std.proofs.Common.{◌≡◌, ℕ, ◌-◌, List, length, drop, sym, ◌∙◌, ap, arith}
use Rattle.store_index.proofs.PartLemmas.{length-parts, part_within, piece_dropped, parts_dropped}
use Rattle.store_index.proofs.packed_keys.PackedKeys.drop_first.Goals as goal

pub length-requires : goal.length-requires
length-requires c =
    let long : length c.args.self.now ≡ length c.self.inside.ends.1 = ap (λ (ks : List (List ℕ)). length ks) (sym c.self.view_is) ∙ length-parts c.self.inside.ends.0 c.self.inside.ends.1 c.self.inside.bytes.items in
    let r = c.requires in
    omega (arith, r, long)

pub drop_first-requires : goal.drop_first-requires
drop_first-requires c =
    let long : length c.args.self.now ≡ length c.self.inside.ends.1 = ap (λ (ks : List (List ℕ)). length ks) (sym c.self.view_is) ∙ length-parts c.self.inside.ends.0 c.self.inside.ends.1 c.self.inside.bytes.items in
    let r = c.requires in
    omega (arith, r, long)

pub drop_front-requires : goal.drop_front-requires
drop_front-requires c =
    let within = (part_within c.self.inside.ends c.args.count c.self.inside.bytes.items c.self.invariant).1 in
    let here = c.length.ensures in
    omega (arith, within, here)

pub invariant_of-self : goal.invariant_of-self
invariant_of-self c =
    piece_dropped c.self.inside.ends c.drop_first.new.self c.args.count c.self.inside.bytes.items c.drop_front.new.items.items c.self.invariant c.drop_first.ensures
    (c.drop_front.ensures ∙ ap (λ j. drop j c.self.inside.bytes.items) c.length.ensures)

pub returns : goal.returns
returns c =
    parts_dropped c.self.inside.ends c.drop_first.new.self c.args.count c.self.inside.bytes.items c.drop_front.new.items.items c.self.invariant c.drop_first.ensures
    (c.drop_front.ensures ∙ ap (λ j. drop j c.self.inside.bytes.items) c.length.ensures)
    ∙ ap (λ (ks : List (List ℕ)). drop c.args.count ks) c.self.view_is
