-- The key's mark goes with its acquire.
use Rattle.std.proofs.Common.{◌≡◌, List, ℕ, Option, None, sym, ap, subst, refl, ◌∙◌}
use Rattle.proxy_model.specs.Keyed.{Keyed, at}
use Rattle.read_model.specs.declared.acquire.Acquire.{Acquire}
use Rattle.acquire_rows.specs.Marks.{AreMarked, unmarked}
use Rattle.acquire_rows.proofs.Marking.{taken_off}
use Rattle.acquire_rows.proofs.acquires.Acquires.remove.Goals as goal

pub invariant_of-self : goal.invariant_of-self
invariant_of-self c =
    let dues = c.self.inside.dues in
    let rows = c.self.inside.rows in
    let k = c.args.key.now in
    let marks : c.unmark.new.dues ≡ unmarked k (at rows k) dues = c.unmark.ensures ∙ ap (λ (o : Option Acquire). unmarked k o dues) c.find.ensures in
    subst (λ (m : Keyed (List ℕ)). AreMarked m c.remove.new.self) (sym marks)
    (subst (λ (r : Keyed Acquire). AreMarked (unmarked k (at rows k) dues) r) (sym c.remove.ensures) (taken_off dues rows k None refl c.self.invariant))
