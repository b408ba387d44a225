-- Each by computation.
use Rattle.std.proofs.Common.{refl}
use denote.Hole.Carrier.{hidden}
use Rattle.etcd_types.specs.declared.operation.Op.TheBlock.{shape-the_row-Op-0, hidden-the_row-Op-0}
use Rattle.etcd_types.specs.declared.answer.Body.TheBlock as b
use Rattle.store_model.specs.Leases.{expired}
use Rattle.store_model.specs.Members.{applied}
use Rattle.store_model.specs.Step.{exec}
use Rattle.store_model.specs.Watches.{pushed, progressed}
use Rattle.audit_model.specs.Broken.{breaks_store, breaks_clients}
use Rattle.audit_model.proofs.worked.worked_watches.Goals as goal

pub returns : goal.returns
unfolding shape-the_row-Op-0 hidden-the_row-Op-0 b.shape-the_row-Body-0 b.hidden-the_row-Body-0 hidden expired applied exec pushed progressed breaks_store breaks_clients
returns c = record {
  watch_takes_its_events = record { meets = refl; counts = refl };
  created_is_first = refl;
  events_come_once = refl;
  messages_are_the_stores = refl;
  stream_is_synced = refl;
  prev_is_asked_for = refl;
  progress_is_equal = record { older = refl; same = record { meets = refl; counts = refl }; newer = refl };
  cancellation_is_pushed = refl;
}
