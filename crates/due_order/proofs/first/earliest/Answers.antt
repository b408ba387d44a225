-- Part by part.
use Rattle.std.proofs.Common.{ap, ◌∙◌}
use Rattle.std.specs.List.{flat_map}
use Rattle.core_model.specs.DueJobs.{due_writes, due_acquire, due_ask, due_opening}
use Rattle.due_order.specs.Parts.{with_first_stream}
use Rattle.due_order.specs.Seen.{first_seen}
use Rattle.due_order.proofs.Acquires.{acquires_first}
use Rattle.due_order.proofs.Asks.{asks_first}
use Rattle.due_order.proofs.Streams.{all_parts}
use Rattle.due_order.proofs.first.earliest.Goals as goal

pub returns : goal.returns
returns c =
    c.with_stream.ensures
    ∙ ap (λ s. with_first_stream (first_seen c.with_opening-first.result) s) c.first_due-3.ensures.due
    ∙ all_parts (due_writes c.args.writes) (flat_map due_acquire c.args.acquires.now) (flat_map due_ask c.args.asks.now) (due_opening c.args.leasing.now) c.args.watches.now.streams c.args.watches.now.given
    (first_seen c.with_writes-first.result) (first_seen c.with_first_acquire-first.result) (first_seen c.with_first_ask-first.result) (first_seen c.with_opening-first.result)
    c.with_writes-first.ensures
    (c.with_first_acquire-first.ensures ∙ acquires_first (first_seen c.with_writes-first.result) c.args.acquires.now _ c.first_due.ensures.in_order c.first_due.ensures.first)
    (c.with_first_ask-first.ensures ∙ asks_first (first_seen c.with_first_acquire-first.result) c.args.asks.now _ c.first_due-2.ensures)
    c.with_opening-first.ensures
    c.first_due-3.ensures.in_order
