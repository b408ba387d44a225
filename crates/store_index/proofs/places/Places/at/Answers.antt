use Rattle.std.proofs.Common.{◌≡◌, ◌<◌, ℕ, ◌+◌, ◌-◌, List, [], ◌∷◌, ◌++◌, length, take, drop, get_or, slice_range, sym, ◌∙◌, ap, arith}
use Rattle.store_index.proofs.PartLemmas.{length-parts, part_within, part_at, range_more}
use Rattle.store_index.proofs.places.Places.at.Goals as goal

pub length-key-requires : goal.length-key-requires
length-key-requires c =
    let long : length c.args.self.now ≡ length c.self.inside.ends.1 = ap (λ (ks : List (List (List ℕ))). length ks) (sym c.self.view_is) ∙ length-parts c.self.inside.ends.0 c.self.inside.ends.1 c.self.inside.keys in
    let r = c.requires in
    omega (arith, r, long)

pub through-key-end-requires : goal.through-key-end-requires
through-key-end-requires c =
    let long : length c.args.self.now ≡ length c.self.inside.ends.1 = ap (λ (ks : List (List (List ℕ))). length ks) (sym c.self.view_is) ∙ length-parts c.self.inside.ends.0 c.self.inside.ends.1 c.self.inside.keys in
    let r = c.requires in
    omega (arith, r, long)

pub loop-key-init : goal.loop-key-init
loop-key-init c =
    let rise = (part_within c.self.inside.ends c.args.place c.self.inside.keys c.self.invariant).0 in
    let high = (part_within c.self.inside.ends (c.args.place + 1) c.self.inside.keys c.self.invariant).1 in
    let first = c.length-key.ensures in
    let last = c.through-key-end.ensures in
    let none : c.length-key.result - c.length-key.result ≡ 0 = omega arith in
    record {
      from = omega arith;
      to = omega (arith, rise, first, last);
      within = omega (arith, high, last);
      copied = c.new-keys.ensures ∙ ap (λ j. take j (drop c.length-key.result c.self.inside.keys)) (sym none);
    }

pub loop-key-preserved : goal.loop-key-preserved
loop-key-preserved c =
    let i = c.loop-key.invariant in
    let less = c.loop-key-test.true in
    let from = i.from in
    let high = i.within in
    let here : c.loop-key.key < length c.self.inside.keys = omega (arith, less, high) in
    record {
      from = omega (arith, from);
      to = omega (arith, less);
      within = high;
      copied =
          c.in_ok-push.ensures.ok ∙ (λ n. i.copied n ++ c.in_ok-copy.ensures n ∷ [])
          ∙ sym (range_more c.self.inside.keys c.length-key.result c.loop-key.key [] from here);
    }

pub returns : goal.returns
returns c =
    let i = c.loop-key.invariant in
    let to = i.to in
    let stopped = c.loop-key-test.false in
    let last : c.loop-key.key ≡ c.through-key-end.result = omega (arith, to, stopped) in
    let long : length c.args.self.now ≡ length c.self.inside.ends.1 = ap (λ (ks : List (List (List ℕ))). length ks) (sym c.self.view_is) ∙ length-parts c.self.inside.ends.0 c.self.inside.ends.1 c.self.inside.keys in
    let r = c.requires in
    i.copied ∙ ap (slice_range c.self.inside.keys c.length-key.result) last
    ∙ (λ n. slice_range c.self.inside.keys (c.length-key.ensures n) (c.through-key-end.ensures n))
    ∙ part_at c.self.inside.ends c.args.place c.self.inside.keys c.self.invariant (omega (arith, r, long))
    ∙ ap (λ (ks : List (List (List ℕ))). get_or ks c.args.place []) c.self.view_is
