-- Each by computation.
use Rattle.std.proofs.Common.{refl}
use denote.Hole.Carrier.{hidden}
use Rattle.etcd_types.specs.declared.operation.Op.TheBlock.{shape-the_row-Op-0, hidden-the_row-Op-0}
use Rattle.etcd_types.specs.declared.answer.Body.TheBlock as b
use Rattle.store_model.specs.Leases.{expired}
use Rattle.store_model.specs.Members.{applied}
use Rattle.store_model.specs.Step.{exec}
use Rattle.store_model.specs.Watches.{pushed, progressed}
use Rattle.audit_model.specs.Broken.{breaks_store, breaks_clients}
use Rattle.audit_model.proofs.worked.worked_orders.Goals as goal

pub returns : goal.returns
unfolding shape-the_row-Op-0 hidden-the_row-Op-0 b.shape-the_row-Body-0 b.hidden-the_row-Body-0 hidden expired applied exec pushed progressed breaks_store breaks_clients
returns c = record {
  put_is_in_order = record { meets = refl; counts = refl };
  other_answer_is_named = refl;
  nothing_keeps_the_rules = record { meets = refl; counts = refl };
  start_is_no_first_item = refl;
  world_is_once = refl;
  proxy_is_started_first = refl;
  calls_are_numbered = refl;
  members_are_the_worlds = refl;
  call_is_executed_first = refl;
  call_is_executed_once = refl;
  ticket_is_replied_once = refl;
  clocks_rise = refl;
  earlier_lifes_call_is_refused = refl;
  tickets_are_a_lifes = record { meets = refl; counts = refl };
  session_is_early = refl;
  session_expires = record { meets = refl; counts = refl };
  store_items_are_the_stores = record { lease = refl; member = refl };
}
