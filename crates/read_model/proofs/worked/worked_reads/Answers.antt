-- Each by computation.
use Rattle.std.proofs.Common.{refl}
use denote.Hole.Carrier.{hidden}
use Rattle.etcd_types.specs.declared.answer.Body.TheBlock as b
use Rattle.read_model.specs.Release.{released_from}
use Rattle.read_model.proofs.worked.worked_reads.Goals as goal

pub returns : goal.returns
unfolding b.shape-the_row-Body-0 b.hidden-the_row-Body-0 hidden released_from
returns c = record {
  second_joins = refl;
  both_are_replied = refl;
  spoiled_leaves = refl;
  due_falls = refl;
  out_stays = refl;
  lost_is_called = refl;
}
