use Rattle.std.proofs.Common.{◌≡◌, ◌-◌, drop, refl, sym, ◌∙◌, ap, arith}
use Rattle.store_index.proofs.IndexLemmas.{keeps_as, some_as, compacted_keeps, some_compacted}
use Rattle.store_index.proofs.index.Index.compact.Goals as goal

pub returns-clause-kept : goal.returns-clause-kept
returns-clause-kept c =
    let past : c.max.result - c.max-first.result ≡ c.args.revision - 2 - (c.args.self.now.compacted - 2) = omega arith in
    λ h holds.
    keeps_as _ _ _ _ _ _ _ _ _ refl refl refl (sym (c.drop_first.ensures ∙ ap (λ n. drop n c.args.self.now.places) past))
    (compacted_keeps _ _ _ _ _ _ h holds c.requires.past c.requires.within c.compact.ensures.versions)

pub invariant_of-self : goal.invariant_of-self
invariant_of-self c =
    let past : c.max.result - c.max-first.result ≡ c.args.revision - 2 - (c.args.self.now.compacted - 2) = omega arith in
    record {
      have_versions = c.compact.ensures.there;
      of_a_history = some_as _ _ _ _ _ _ _ _ refl refl refl (sym (c.drop_first.ensures ∙ ap (λ n. drop n c.args.self.now.places) past))
          (some_compacted _ _ _ _ _ _ c.args.self.now.of_a_history c.requires.past c.requires.within c.compact.ensures.versions);
      past = c.requires.within;
      room = c.args.self.now.room;
    }
