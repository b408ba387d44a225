-- What was left at the key is its record; where nothing was left its entry stays.
use Rattle.std.proofs.Common.{sym, ◌∙◌, ap}
use Rattle.revoke_calls.specs.Ends.{wrote_turn}
use Rattle.write_answers.specs.Seen.{what_of}
use Rattle.write_answers.proofs.Views.{none_left, one_left}
use Rattle.write_answers.proofs.seen.seen_wrote.Goals as goal

pub returns-in-Some : goal.returns-in-Some
returns-in-Some c =
    c.wrote.ensures ∙ (λ i. what_of (wrote_turn (c.as_ref.ensures.value i) (c.find-in-Some.ensures i))) ∙ one_left c.args.lefts.now c.args.table.now.entries c.args.key.now c.in-Some.left.now (sym c.in-Some.ensures)

pub returns-in-None : goal.returns-in-None
returns-in-None c =
    c.seen_in.ensures ∙ ap what_of c.find-in-None.ensures ∙ none_left c.args.lefts.now c.args.table.now.entries c.args.key.now (sym c.in-None.ensures)
