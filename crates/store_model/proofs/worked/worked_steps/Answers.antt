-- Each by computation.
use Rattle.std.proofs.Common.{refl}
use denote.Hole.Carrier.{hidden}
use Rattle.etcd_types.specs.declared.operation.Op.TheBlock.{shape-the_row-Op-0, hidden-the_row-Op-0}
use Rattle.etcd_types.specs.declared.answer.Body.TheBlock as b
use Rattle.store_model.specs.Step.{exec}
use Rattle.store_model.proofs.worked.worked_steps.Goals as goal

pub returns : goal.returns
unfolding exec shape-the_row-Op-0 hidden-the_row-Op-0 b.shape-the_row-Body-0 b.hidden-the_row-Body-0 hidden
returns c = record {
  put = refl;
  read = refl;
  absent = refl;
  again = refl;
  delete = refl;
  nothing = refl;
  earlier = refl;
  future = refl;
  order = refl;
  limit = refl;
  empty_key = refl;
  unknown_lease = refl;
  applied = refl;
  transaction = refl;
}
