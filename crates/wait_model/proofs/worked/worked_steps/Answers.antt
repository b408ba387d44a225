-- Each by computation.
use Rattle.std.proofs.Common.{refl}
use denote.Hole.Carrier.{hidden}
use Rattle.etcd_types.specs.declared.operation.Op.TheBlock.{shape-the_row-Op-0, hidden-the_row-Op-0}
use Rattle.etcd_types.specs.declared.answer.Body.TheBlock as b
use Rattle.wait_model.specs.Passes.{passed}
use Rattle.wait_model.specs.Endings.{answered}
use Rattle.wait_model.proofs.worked.worked_steps.Goals as goal

pub returns : goal.returns
unfolding shape-the_row-Op-0 hidden-the_row-Op-0 b.shape-the_row-Body-0 b.hidden-the_row-Body-0 hidden passed answered
returns c = record {
  owner_is_due = refl;
  owner_compares = refl;
  owner_is_answered = refl;
  owner_fails = refl;
  leased_waits = refl;
  leased_goes = refl;
  second_waits = refl;
  shared_is_due = refl;
  shared_compares = refl;
  shared_is_answered = refl;
  other_branch = refl;
  guest_is_blocked = refl;
  guest_finds_own = refl;
  deletion_frees = refl;
  revoked_waits = refl;
  owner_is_guest = refl;
  shared_waits = refl;
  marked_leaves = refl;
}
