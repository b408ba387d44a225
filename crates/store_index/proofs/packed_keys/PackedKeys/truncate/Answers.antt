use Rattle.std.proofs.Common.{◌≡◌, ℕ, ◌-◌, List, length, take, sym, ◌∙◌, ap, arith}
use Rattle.store_index.proofs.PartLemmas.{length-parts, piece_cut, parts_cut}
use Rattle.store_index.proofs.packed_keys.PackedKeys.truncate.Goals as goal

pub length-requires : goal.length-requires
length-requires c =
    let long : length c.args.self.now ≡ length c.self.inside.ends.1 = ap (λ (ks : List (List ℕ)). length ks) (sym c.self.view_is) ∙ length-parts c.self.inside.ends.0 c.self.inside.ends.1 c.self.inside.bytes.items in
    let r = c.requires in
    omega (arith, r, long)

pub invariant_of-self : goal.invariant_of-self
invariant_of-self c =
    piece_cut c.self.inside.ends c.truncate-2.new.self c.args.count c.self.inside.bytes.items c.truncate.new.self.items c.self.invariant c.truncate-2.ensures
    (c.truncate.ensures.items ∙ ap (λ j. take j c.self.inside.bytes.items) c.length.ensures)

pub returns : goal.returns
returns c =
    parts_cut c.self.inside.ends c.truncate-2.new.self c.args.count c.self.inside.bytes.items c.truncate.new.self.items c.self.invariant c.truncate-2.ensures
    (c.truncate.ensures.items ∙ ap (λ j. take j c.self.inside.bytes.items) c.length.ensures)
    ∙ ap (λ (ks : List (List ℕ)). take c.args.count ks) c.self.view_is
