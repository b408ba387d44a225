-- What was read, before what is still read, is all that is read.
use Rattle.std.proofs.Common.{◌≡◌, ◌-◌}
use Rattle.text_model.specs.Forms.{read_several}
use Rattle.message_text.proofs.Lists.{with_front}
use Rattle.message_text.proofs.text.read_members.Given as goal

abbrev pub invariant-loop : goal.invariant-loop
invariant-loop g l =
    with_front l.list (read_several g.T.Text.form.read (l.count - l.counter) l.words) ≡ read_several g.T.Text.form.read l.count l.initial.words
