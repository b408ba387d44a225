-- The first mark's acquire is sent first, and where there is no mark none is due.
use Rattle.std.proofs.Common.{◌≡◌, sym, subst}
use Rattle.proxy_model.specs.Keyed.{Keyed}
use Rattle.read_model.specs.declared.acquire.Acquire.{Acquire}
use Rattle.acquire_rows.specs.First.{none_due, IsFirstDue}
use Rattle.acquire_rows.proofs.Firsts.{none_first, no_mark, first_stands, is_first}
use Rattle.acquire_rows.proofs.acquires.Acquires.first_due.Goals as goal

pub unreachable-requires : goal.unreachable-requires
unreachable-requires c =
    first_stands c.self.inside.rows c.self.inside.dues c.in-Some.key.now c.self.invariant (sym c.in-Some.ensures.first) (sym c.in-None-find.ensures)

pub returns-in-None-clause-first : goal.returns-in-None-clause-first
returns-in-None-clause-first c =
    subst (λ (r : Keyed Acquire). none_due r ≡ _) c.self.view_is
    (none_first c.self.inside.rows c.self.inside.dues c.as_slice-rows.ensures.in_order c.self.invariant (no_mark c.self.inside.dues c.in-None.ensures.first))

pub returns-in-Some-find-clause-first : goal.returns-in-Some-find-clause-first
returns-in-Some-find-clause-first c =
    subst (λ (r : Keyed Acquire). IsFirstDue (c.in-Some.key.now, c.in-Some-find.acquire.now) r) c.self.view_is
    (is_first c.self.inside.rows c.self.inside.dues c.in-Some.key.now c.in-Some-find.acquire.now c.as_slice-rows.ensures.in_order c.in-Some.ensures.in_order c.self.invariant (sym c.in-Some.ensures.first) (sym c.in-Some-find.ensures))
