use Rattle.std.proofs.Common.{◌<◌, List, ℕ, length, refl, ◌++◌, ◌∷◌, [], ◌∙◌, sym, ap, arith}
use Rattle.std.proofs.lemmas.Bool.Decides.{nat_tests}
use Rattle.compaction_model.specs.Places.{changed_keys}
use Rattle.store_index.proofs.IndexLemmas.{keeps_as, some_as, grown_by, some_grown, taken_back}
use Rattle.store_index.proofs.index.Index.add.Goals as goal

pub returns-in-Ok-clause-ok : goal.returns-in-Ok-clause-ok
returns-in-Ok-clause-ok c =
    let some : 0 < length c.args.changes = let e = c.is_empty.ensures in let s = c.as_slice.ensures in let f = c.if-is_empty.false in grind (arith, nat_tests) in
    λ h holds.
    keeps_as _ _ _ _ _ _ _ _ _ refl refl (sym c.in-Ok.ensures.ok)
    (sym (c.in_ok-push.ensures.ok ∙ ap (λ (ks : List (List ℕ)). c.args.self.now.places ++ ks ∷ []) (c.as_slice-3.ensures ∙ c.in_ok-keys.ensures ∙ ap changed_keys c.as_slice-2.ensures)))
    (grown_by _ _ _ _ h c.args.changes some holds)

-- what was added is kept of a history too, and where memory was wanting all is as before

pub invariant_of-self : goal.invariant_of-self
invariant_of-self c = record {
  have_versions = c.args.self.now.have_versions;
  of_a_history = some_as _ _ _ _ _ _ _ _ refl refl refl (sym c.in_err-push.ensures.err) c.args.self.now.of_a_history;
  past = c.args.self.now.past;
  room = c.args.self.now.room;
}

pub invariant_of-self-in-Ok : goal.invariant_of-self-in-Ok
invariant_of-self-in-Ok c =
    let some : 0 < length c.args.changes = let e = c.is_empty.ensures in let s = c.as_slice.ensures in let f = c.if-is_empty.false in grind (arith, nat_tests) in
    record {
      have_versions = c.in-Ok.ensures.there;
      of_a_history = some_as _ _ _ _ _ _ _ _ refl refl (sym c.in-Ok.ensures.ok)
          (sym (c.in_ok-push.ensures.ok ∙ ap (λ (ks : List (List ℕ)). c.args.self.now.places ++ ks ∷ []) (c.as_slice-3.ensures ∙ c.in_ok-keys.ensures ∙ ap changed_keys c.as_slice-2.ensures)))
          (some_grown _ _ _ _ c.args.changes some c.args.self.now.of_a_history);
      past = let p = c.args.self.now.past in omega (arith, p);
      room = let r = c.requires in omega (arith, r);
    }

pub invariant_of-self-in-Err : goal.invariant_of-self-in-Err
invariant_of-self-in-Err c = record {
  have_versions = c.in-Err.ensures.there;
  of_a_history = some_as _ _ _ _ _ _ _ _ refl refl (sym c.in-Err.ensures.err)
      (sym (taken_back c.args.self.now.places _ _ _ c.in_ok-push.ensures.ok c.take_back.ensures)) c.args.self.now.of_a_history;
  past = c.args.self.now.past;
  room = c.args.self.now.room;
}
