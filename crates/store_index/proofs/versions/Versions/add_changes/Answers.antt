use Rattle.std.proofs.Common.{◌≡◌, ◌+◌, ◌≤◌, List, ℕ, ◌++◌, ◌∷◌, [], length, take, sym, ◌∙◌, ap, arith, append_assoc, length-append, length-take-le}
use Rattle.store_model.specs.declared.history.KeyChange.{KeyChange}
use Rattle.store_index.specs.Maps.{Entries, found}
use Rattle.store_index.specs.Adding.{with_change, added_all, taken_all}
use Rattle.store_index.proofs.AddingLemmas.{added_all-push, added_all-HaveVersions, taken-added_all, keys_passed}
use Rattle.store_index.proofs.versions.Versions.add_changes.Goals as goal

pub loop-change-preserved : goal.loop-change-preserved
loop-change-preserved c = record {
  added =
      c.in-Ok.ensures.ok ∙ ap (with_change c.args.revision c.in-Some.change) c.loop-change.invariant.added
      ∙ sym (added_all-push c.args.revision c.loop-change.yielded c.in-Some.change c.args.self.now);
  counted = let n = c.loop-change.invariant.counted in omega (arith, n, length-append c.loop-change.yielded (c.in-Some.change ∷ []));
  rest =
      append_assoc c.loop-change.yielded (c.in-Some.change ∷ []) c.next.new.self.rest.items
      ∙ ap (λ (cs : List KeyChange). c.loop-change.yielded ++ cs) (sym c.in-Some.ensures.steps.0)
      ∙ c.loop-change.invariant.rest;
}

pub slice_bounds-take_all_back-end : goal.slice_bounds-take_all_back-end
slice_bounds-take_all_back-end c =
    let passed = keys_passed c.args.keys.now c.args.changes c.loop-change.yielded c.loop-change.change-iterator.rest.items c.loop-change.count
    c.requires.keys c.loop-change.invariant.rest c.loop-change.invariant.counted in
    sym (length-take-le c.loop-change.count c.args.keys.now passed.1)

pub returns-in-Err-clause-err : goal.returns-in-Err-clause-err
returns-in-Err-clause-err c =
    let passed = keys_passed c.args.keys.now c.args.changes c.loop-change.yielded c.loop-change.change-iterator.rest.items c.loop-change.count
    c.requires.keys c.loop-change.invariant.rest c.loop-change.invariant.counted in
    c.take_all_back.ensures
    ∙ (λ i. taken_all (passed.0 i) ((c.in-Err.ensures.err ∙ c.loop-change.invariant.added) i))
    ∙ taken-added_all c.args.revision c.loop-change.yielded c.args.self.now c.requires.there

pub returns-in-Err-clause-there : goal.returns-in-Err-clause-there
returns-in-Err-clause-there c =
    let passed = keys_passed c.args.keys.now c.args.changes c.loop-change.yielded c.loop-change.change-iterator.rest.items c.loop-change.count
    c.requires.keys c.loop-change.invariant.rest c.loop-change.invariant.counted in
    let back : c.take_all_back.new.self ≡ c.args.self.now = c.take_all_back.ensures
    ∙ (λ i. taken_all (passed.0 i) ((c.in-Err.ensures.err ∙ c.loop-change.invariant.added) i))
    ∙ taken-added_all c.args.revision c.loop-change.yielded c.args.self.now c.requires.there in
    λ k e. c.requires.there k (ap (λ (es : Entries). found k es) (sym back) ∙ e)

pub returns-clause-there : goal.returns-clause-there
returns-clause-there c =
    λ k e.
    added_all-HaveVersions c.args.revision c.loop-change.yielded c.args.self.now c.requires.there k
    (ap (λ (es : Entries). found k es) (sym c.loop-change.invariant.added) ∙ e)
