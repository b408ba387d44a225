-- Each by computation.
use Rattle.std.proofs.Common.{refl}
use denote.Hole.Carrier.{hidden}
use Rattle.std.specs.Fmt.{digits}
use Rattle.etcd_types.specs.declared.operation.Op.TheBlock.{shape-the_row-Op-0, hidden-the_row-Op-0}
use Rattle.etcd_types.specs.declared.answer.Body.TheBlock as b
use Rattle.store_model.specs.Step.{exec}
use Rattle.store_model.specs.Watches.{pushed}
use Rattle.wait_model.specs.Endings.{answered}
use Rattle.wait_model.specs.Passes.{passed}
use Rattle.wait_model.specs.Sent.{job_sent}
use Rattle.read_model.specs.Release.{released_from}
use Rattle.core_model.specs.ClockWork.{clock_work}
use Rattle.core_model.specs.Asking.{on_ask}
use Rattle.core_model.specs.Ends.{on_answer, on_lost}
use Rattle.core_model.specs.Sending.{on_work}
use Rattle.core_model.specs.Takes.{on_take}
use Rattle.core_model.specs.Step.{on_tick, on_item, on_cut, stepped}
use Rattle.world_model.proofs.worked.worked_generation.Goals as goal

pub returns : goal.returns
unfolding shape-the_row-Op-0 hidden-the_row-Op-0 b.shape-the_row-Body-0 b.hidden-the_row-Body-0 hidden digits exec pushed passed answered job_sent released_from clock_work on_ask on_answer on_lost on_work on_take on_tick on_item on_cut stepped
returns c = record {
  one_is_generated = refl;
  one_is_summed = refl;
}
