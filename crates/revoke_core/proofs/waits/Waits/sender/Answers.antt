-- The first whose own call it is.
use Rattle.std.proofs.Common.{List, Some, sym, ◌∙◌, ap, subst}
use Rattle.wait_model.specs.declared.write.Write.{Write}
use Rattle.wait_model.specs.State.{Waits}
use Rattle.wait_model.specs.Writes.{first_by, sends}
use Rattle.revoke_core.specs.Steps.{IsFirst}
use Rattle.revoke_core.proofs.Searches.{found_first}
use Rattle.revoke_core.proofs.waits.Waits.sender.Goals as goal

pub returns-in-Some : goal.returns-in-Some
returns-in-Some c =
    let n = c.args.call in
    let ws = c.self.inside.writes.items in
    let first = subst (λ (xs : List Write). IsFirst (sends n) xs c.in-Some.at) c.deref.ensures.value c.in-Some.ensures.found in
    sym (found_first (sends n) ws c.in-Some.at c.index.result.now first ∙ ap Some (sym c.index.ensures)) ∙ ap (λ (v : Waits). first_by (sends n) v.writes) c.self.view_is
