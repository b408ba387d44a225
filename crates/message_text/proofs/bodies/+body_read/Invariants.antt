-- Each transaction that nests takes one from the depth. What was read, before what is still read, is all that is read.
use Rattle.std.proofs.Common.{◌≡◌, ◌-◌, ◌+◌, ◌*◌, cond}
use Rattle.text_model.specs.Forms.{read_several}
use Rattle.message_text.specs.Answers.{body_form}
use Rattle.message_text.proofs.Lists.{with_front}
use Rattle.message_text.proofs.bodies.+body_read.Given as goal

abbrev pub decreases-read_body : goal.decreases-read_body
decreases-read_body l = 5 * l.depth + 1

abbrev pub decreases-read_body_at : goal.decreases-read_body_at
decreases-read_body_at l = cond l.nests (5 * l.inner + 5) 0

abbrev pub decreases-read_txn_body : goal.decreases-read_txn_body
decreases-read_txn_body l = 5 * l.depth + 4

abbrev pub decreases-read_bodies : goal.decreases-read_bodies
decreases-read_bodies l = 5 * l.depth + 3

abbrev pub decreases-read_bodies_in_turn : goal.decreases-read_bodies_in_turn
decreases-read_bodies_in_turn l = 5 * l.depth + 2

abbrev pub invariant-read_bodies_in_turn-loop : goal.invariant-read_bodies_in_turn-loop
invariant-read_bodies_in_turn-loop l =
    with_front l.bodies (read_several (body_form l.depth).read (l.count - l.counter) l.words) ≡ read_several (body_form l.depth).read l.count l.initial.words
