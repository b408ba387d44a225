-- Each by computation.
use Rattle.std.proofs.Common.{refl}
use denote.Hole.Carrier.{hidden}
use Rattle.etcd_types.specs.declared.operation.Op.TheBlock.{shape-the_row-Op-0, hidden-the_row-Op-0}
use Rattle.etcd_types.specs.declared.answer.Body.TheBlock as b
use Rattle.wait_model.specs.Passes.{passed}
use Rattle.wait_model.specs.Endings.{answered, lost, forgotten}
use Rattle.wait_model.specs.Sent.{job_sent}
use Rattle.read_model.specs.Release.{released_from}
use Rattle.core_model.specs.ClockWork.{clock_work}
use Rattle.core_model.specs.Asking.{on_ask}
use Rattle.core_model.specs.Ends.{on_answer, on_lost}
use Rattle.core_model.specs.Sending.{on_work}
use Rattle.core_model.specs.Takes.{on_take, on_leave}
use Rattle.core_model.specs.Step.{on_tick, on_item, on_cut, stepped}
use Rattle.core_model.proofs.worked.worked_sessions.Goals as goal

pub returns : goal.returns
unfolding shape-the_row-Op-0 hidden-the_row-Op-0 b.shape-the_row-Body-0 b.hidden-the_row-Body-0 hidden passed answered lost forgotten job_sent released_from clock_work on_ask on_answer on_lost on_work on_take on_leave on_tick on_item on_cut stepped
returns c = record {
  keepalive_renews = refl;
  keepalive_too_late = refl;
  keepalive_ends = refl;
  acquire_ends_session = refl;
  due_owner_is_guest = refl;
  cut_goes_on = refl;
  no_acquire_while_cut = refl;
  compaction_gives_up = refl;
  anew_frees = refl;
  peeks_at_held = refl;
  peeks_at_none = refl;
  least_is_ready = refl;
}
