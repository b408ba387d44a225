-- A row's acquire is what stands at its key.
use Rattle.std.proofs.Common.{◌∙◌}
use Rattle.keyed_rows.proofs.Tests.{left_out}
use Rattle.read_model.specs.SessionEnd.{is_due_acquire}
use Rattle.read_steps.proofs.over.end_due.Goals as goal

pub returns : goal.returns
returns c = record {
  waits = c.end_acquires.ensures;
  acquires = c.remove_due.ensures ∙ left_out is_due_acquire c.args.acquires.now c.as_slice-rows.ensures.in_order;
}
