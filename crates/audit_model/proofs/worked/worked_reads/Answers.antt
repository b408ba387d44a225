-- Each by computation.
use Rattle.std.proofs.Common.{refl}
use denote.Hole.Carrier.{hidden}
use Rattle.etcd_types.specs.declared.operation.Op.TheBlock.{shape-the_row-Op-0, hidden-the_row-Op-0}
use Rattle.etcd_types.specs.declared.answer.Body.TheBlock as b
use Rattle.store_model.specs.Leases.{expired}
use Rattle.store_model.specs.Members.{applied}
use Rattle.store_model.specs.Step.{exec}
use Rattle.store_model.specs.Watches.{pushed, progressed}
use Rattle.audit_model.specs.Broken.{breaks_store, breaks_clients}
use Rattle.audit_model.proofs.worked.worked_reads.Goals as goal

pub returns : goal.returns
unfolding shape-the_row-Op-0 hidden-the_row-Op-0 b.shape-the_row-Body-0 b.hidden-the_row-Body-0 hidden expired applied exec pushed progressed breaks_store breaks_clients
returns c = record {
  unsent_read_is_true = record { meets = refl; counts = refl };
  later_call_names_it = record { meets = refl; counts = refl };
  unsent_read_shows_the_store = refl;
  no_header_is_newer = refl;
  no_header_is_older = refl;
  no_serializable_read_is_unsent = refl;
  snapshot_is_true = record { meets = refl; counts = refl };
  snapshot_is_the_stores = refl;
}
