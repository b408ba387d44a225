-- Each by computation.
use Rattle.std.proofs.Common.{refl}
use denote.Hole.Carrier.{hidden}
use Rattle.etcd_types.specs.declared.operation.Op.TheBlock.{shape-the_row-Op-0, hidden-the_row-Op-0}
use Rattle.etcd_types.specs.declared.answer.Body.TheBlock as b
use Rattle.store_model.specs.Step.{exec}
use Rattle.store_model.specs.Leases.{expired}
use Rattle.store_model.specs.Members.{applied}
use Rattle.store_model.specs.Watches.{pushed}
use Rattle.shop_model.proofs.worked.worked_watches.Goals as goal

pub returns : goal.returns
unfolding exec expired applied pushed shape-the_row-Op-0 hidden-the_row-Op-0 b.shape-the_row-Body-0 b.hidden-the_row-Body-0 hidden
returns c = record {
  ends_by_number = refl;
  ends_before_no_such_watch = refl;
  tells_what_came = refl;
  canceled_by_compaction = refl;
}
