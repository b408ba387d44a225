-- What is left isn't due.
use Rattle.std.proofs.Common.{[], List, ℕ, sym, subst}
use Rattle.proxy_model.specs.Keyed.{Keyed}
use Rattle.read_model.specs.declared.acquire.Acquire.{Acquire}
use Rattle.acquire_rows.specs.Marks.{AreMarked}
use Rattle.acquire_rows.proofs.Marking.{all_taken_off}
use Rattle.acquire_rows.proofs.acquires.Acquires.remove_due.Goals as goal

pub invariant_of-self : goal.invariant_of-self
invariant_of-self c =
    let left : AreMarked [] c.remove_where.new.self = subst (λ (r : Keyed Acquire). AreMarked [] r) (sym c.remove_where.ensures) (all_taken_off c.self.inside.rows) in
    subst (λ (m : Keyed (List ℕ)). AreMarked m c.remove_where.new.self) (sym c.clear.ensures) left
