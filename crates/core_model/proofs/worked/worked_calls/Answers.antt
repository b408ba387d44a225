-- Each by computation.
use Rattle.std.proofs.Common.{refl}
use denote.Hole.Carrier.{hidden}
use Rattle.etcd_types.specs.declared.operation.Op.TheBlock.{shape-the_row-Op-0, hidden-the_row-Op-0}
use Rattle.etcd_types.specs.declared.answer.Body.TheBlock as b
use Rattle.wait_model.specs.Passes.{passed}
use Rattle.wait_model.specs.Endings.{answered, lost, forgotten}
use Rattle.wait_model.specs.Sent.{job_sent}
use Rattle.read_model.specs.Release.{released_from}
use Rattle.core_model.specs.ClockWork.{clock_work}
use Rattle.core_model.specs.Asking.{on_ask}
use Rattle.core_model.specs.Ends.{on_answer, on_lost}
use Rattle.core_model.specs.Sending.{on_work}
use Rattle.core_model.specs.Takes.{on_take, on_leave}
use Rattle.core_model.specs.Step.{on_tick, on_item, on_cut, stepped}
use Rattle.core_model.proofs.worked.worked_calls.Goals as goal

pub returns : goal.returns
unfolding shape-the_row-Op-0 hidden-the_row-Op-0 b.shape-the_row-Body-0 b.hidden-the_row-Body-0 hidden passed answered lost forgotten job_sent released_from clock_work on_ask on_answer on_lost on_work on_take on_leave on_tick on_item on_cut stepped
returns c = record {
  are_refused = refl;
  grant_is_numbered = refl;
  stale_is_refused = refl;
  next_member_is_asked = refl;
  lost_put_is_lost = refl;
  late_answer_is_nothing = refl;
  keepalives_share = refl;
  lost_keepalives_are_lost = refl;
  snapshot_is_cached = refl;
  others_are_passed_on = refl;
  numbers_are_unknown = refl;
  worn_does_nothing = refl;
}
