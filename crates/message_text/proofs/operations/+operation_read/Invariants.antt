-- Each transaction that nests takes one from the depth. What was read, before what is still read, is all that is read.
use Rattle.std.proofs.Common.{◌≡◌, ◌-◌, ◌+◌, ◌*◌, cond}
use Rattle.text_model.specs.Forms.{read_several}
use Rattle.message_text.specs.Requests.{op_form}
use Rattle.message_text.proofs.Lists.{with_front}
use Rattle.message_text.proofs.operations.+operation_read.Given as goal

abbrev pub decreases-read_op : goal.decreases-read_op
decreases-read_op l = 5 * l.depth + 1

abbrev pub decreases-read_op_at : goal.decreases-read_op_at
decreases-read_op_at l = cond l.nests (5 * l.inner + 5) 0

abbrev pub decreases-read_txn : goal.decreases-read_txn
decreases-read_txn l = 5 * l.depth + 4

abbrev pub decreases-read_ops : goal.decreases-read_ops
decreases-read_ops l = 5 * l.depth + 3

abbrev pub decreases-read_ops_in_turn : goal.decreases-read_ops_in_turn
decreases-read_ops_in_turn l = 5 * l.depth + 2

abbrev pub invariant-read_ops_in_turn-loop : goal.invariant-read_ops_in_turn-loop
invariant-read_ops_in_turn-loop l =
    with_front l.ops (read_several (op_form l.depth).read (l.count - l.counter) l.words) ≡ read_several (op_form l.depth).read l.count l.initial.words
