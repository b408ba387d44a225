-- Each by computation.
use Rattle.std.proofs.Common.{refl}
use denote.Hole.Carrier.{hidden}
use Rattle.etcd_types.specs.declared.operation.Op.TheBlock.{shape-the_row-Op-0, hidden-the_row-Op-0}
use Rattle.etcd_types.specs.declared.answer.Body.TheBlock as b
use Rattle.wait_model.specs.Passes.{passed}
use Rattle.wait_model.specs.Endings.{answered, lost, forgotten}
use Rattle.wait_model.specs.Sent.{job_sent}
use Rattle.wait_model.proofs.worked.worked_sendings.Goals as goal

pub returns : goal.returns
unfolding shape-the_row-Op-0 hidden-the_row-Op-0 b.shape-the_row-Body-0 b.hidden-the_row-Body-0 hidden passed answered lost forgotten job_sent
returns c = record {
  owner_is_sent = refl;
  owner_is_lost = refl;
  owner_is_forgotten = refl;
  due_owner_is_forgotten = refl;
  rescind_is_sent = refl;
  rescind_is_answered = refl;
  older_rescind = refl;
  rescind_is_lost = refl;
  held_ends = refl;
  guest_is_sent = refl;
  range_is_sent = refl;
  range_is_answered = refl;
  all_find_owner = refl;
  owner_is_asked = refl;
  orphan_leaves = refl;
  stranger_stays = refl;
  acquire_is_spoiled = refl;
  transaction_is_sent = refl;
  transaction_is_answered = refl;
  resync_frees = refl;
  resync_awaits = refl;
  rescind_refuses_others = refl;
  nothing_is_due = refl;
}
