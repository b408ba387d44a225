-- The first that passes is taken out.
use Rattle.std.proofs.Common.{◌≡◌, List, Some, None, sym, ◌∙◌, ap, subst}
use Rattle.wait_model.specs.declared.write.Write.{Write}
use Rattle.wait_model.specs.Writes.{first_by}
use Rattle.revoke_core.specs.Steps.{passes, IsFirst}
use Rattle.revoke_core.proofs.Searches.{found_first, removed_first, none_removed}
use Rattle.revoke_core.proofs.places.take_write.Goals as goal

pub returns-in-Some-clause-taken : goal.returns-in-Some-clause-taken
returns-in-Some-clause-taken c =
    let found = subst (λ (ws : List Write). IsFirst (passes c.args.by) ws c.in-Some.at) c.deref.ensures.value c.in-Some.ensures.found in
    ap Some c.remove.ensures.value ∙ sym (found_first (passes c.args.by) c.args.writes.now.items c.in-Some.at c.remove.result found)

pub returns-in-Some-clause-left : goal.returns-in-Some-clause-left
returns-in-Some-clause-left c =
    let found = subst (λ (ws : List Write). IsFirst (passes c.args.by) ws c.in-Some.at) c.deref.ensures.value c.in-Some.ensures.found in
    c.remove.ensures.items ∙ sym (removed_first (passes c.args.by) c.args.writes.now.items c.in-Some.at found)

pub returns-in-None-clause-left : goal.returns-in-None-clause-left
returns-in-None-clause-left c =
    let none = subst (λ (ws : List Write). first_by (passes c.args.by) ws ≡ None) c.deref.ensures.value c.in-None.ensures.none in
    sym (none_removed (passes c.args.by) c.args.writes.now.items none)
