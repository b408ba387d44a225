use Rattle.std.proofs.Common.{◌≡◌, List, ℕ, ◌++◌, ◌∷◌, [], ◌-◌, ◌+◌, ◌<◌, length, take, sym, ◌∙◌, ap, arith}
use Rattle.std.proofs.lemmas.List.{take_more}
use Rattle.store_index.specs.Maps.{taken}
use Rattle.store_index.specs.Adding.{taken_all}
use Rattle.store_index.proofs.AddingLemmas.{taken_all-push}
use Rattle.store_index.proofs.versions.Versions.take_all_back.Goals as goal

pub loop-count-preserved : goal.loop-count-preserved
loop-count-preserved c =
    let n : ℕ = c.loop-count.count - 1 in
    let here : n < length c.args.keys.now = omega arith in
    let back : n + 1 ≡ c.loop-count.count = omega arith in
    let left : List (List ℕ) = take n c.args.keys.now in
    record {
      within = omega arith;
      left =
          ap (taken_all left) c.take_back.ensures
          ∙ sym (taken_all-push left c.index-keys-count.result c.loop-count.self)
          ∙ ap (λ (ks : List (List ℕ)). taken_all ks c.loop-count.self)
          (sym (take_more c.args.keys.now n c.index-keys-count.result here ∙ ap (λ (k : List ℕ). left ++ k ∷ []) (sym c.index-keys-count.is)) ∙ ap (λ m. take m c.args.keys.now) back)
          ∙ c.loop-count.invariant.left;
    }
