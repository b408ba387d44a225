use Rattle.std.proofs.Common.{◌≡◌, ℕ, ◌+◌, ◌-◌, List, [], length, get_or, slice_range, sym, ◌∙◌, ap, arith}
use Rattle.store_index.proofs.PartLemmas.{length-parts, part_within, part_at}
use Rattle.store_index.proofs.packed_keys.PackedKeys.copy.Goals as goal

pub length-from-requires : goal.length-from-requires
length-from-requires c =
    let long : length c.args.self.now ≡ length c.self.inside.ends.1 = ap (λ (ks : List (List ℕ)). length ks) (sym c.self.view_is) ∙ length-parts c.self.inside.ends.0 c.self.inside.ends.1 c.self.inside.bytes.items in
    let r = c.requires in
    omega (arith, r, long)

pub through-to-requires : goal.through-to-requires
through-to-requires c =
    let long : length c.args.self.now ≡ length c.self.inside.ends.1 = ap (λ (ks : List (List ℕ)). length ks) (sym c.self.view_is) ∙ length-parts c.self.inside.ends.0 c.self.inside.ends.1 c.self.inside.bytes.items in
    let r = c.requires in
    omega (arith, r, long)

pub slice_bounds-from_slice-count : goal.slice_bounds-from_slice-count
slice_bounds-from_slice-count c =
    let rise = (part_within c.self.inside.ends c.args.place c.self.inside.bytes.items c.self.invariant).0 in
    let within = (part_within c.self.inside.ends (c.args.place + 1) c.self.inside.bytes.items c.self.invariant).1 in
    let from = c.length-from.ensures in
    let to = c.through-to.ensures in
    let long : length c.as_slice-bytes.result.now ≡ length c.self.inside.bytes.items = ap (λ (bs : List ℕ). length bs) c.as_slice-bytes.ensures.value in
    omega (arith, rise, within, from, to, long)

pub slice_bounds-from_slice-start : goal.slice_bounds-from_slice-start
slice_bounds-from_slice-start c =
    let rise = (part_within c.self.inside.ends c.args.place c.self.inside.bytes.items c.self.invariant).0 in
    let within = (part_within c.self.inside.ends (c.args.place + 1) c.self.inside.bytes.items c.self.invariant).1 in
    let from = c.length-from.ensures in
    let to = c.through-to.ensures in
    let long : length c.as_slice-bytes.result.now ≡ length c.self.inside.bytes.items = ap (λ (bs : List ℕ). length bs) c.as_slice-bytes.ensures.value in
    omega (arith, rise, within, from, to, long)

pub slice_bounds-from_slice-end : goal.slice_bounds-from_slice-end
slice_bounds-from_slice-end c =
    let rise = (part_within c.self.inside.ends c.args.place c.self.inside.bytes.items c.self.invariant).0 in
    let within = (part_within c.self.inside.ends (c.args.place + 1) c.self.inside.bytes.items c.self.invariant).1 in
    let from = c.length-from.ensures in
    let to = c.through-to.ensures in
    let long : length c.as_slice-bytes.result.now ≡ length c.self.inside.bytes.items = ap (λ (bs : List ℕ). length bs) c.as_slice-bytes.ensures.value in
    omega (arith, rise, within, from, to, long)

pub returns : goal.returns
returns c =
    let long : length c.args.self.now ≡ length c.self.inside.ends.1 = ap (λ (ks : List (List ℕ)). length ks) (sym c.self.view_is) ∙ length-parts c.self.inside.ends.0 c.self.inside.ends.1 c.self.inside.bytes.items in
    let r = c.requires in
    c.in_ok-from_slice.ensures
    ∙ (λ i. slice_range (c.as_slice-bytes.ensures.value i) (c.length-from.ensures i) (c.through-to.ensures i))
    ∙ part_at c.self.inside.ends c.args.place c.self.inside.bytes.items c.self.invariant (omega (arith, r, long))
    ∙ ap (λ (ks : List (List ℕ)). get_or ks c.args.place []) c.self.view_is
