-- What was found of the others, one after another, is what was found of them all.
use Rattle.std.proofs.Common.{◌∙◌, ap}
use Rattle.wait_model.specs.GuardedAnswers.{kept_entries}
use Rattle.revoke_calls.specs.Ends.{found_in}
use Rattle.revoke_calls.specs.Failed.{found_owners}
use Rattle.revoke_calls.proofs.TurnedKeys.{found_is}
use Rattle.revoke_calls.proofs.failed.find.Goals as goal

pub returns-clause-found : goal.returns-clause-found
returns-clause-found c =
    let s = c.args.session in
    let w = c.args.write.now in
    let os = c.args.owners.now in
    let es = c.args.table.now.entries in
    c.in_ok-found.ensures ∙ ap (found_in s c.args.step (kept_entries w os es)) (c.as_slice.ensures.all ∙ c.in_ok-others.ensures) ∙ found_is s c.args.step (kept_entries w os es) (found_owners w os es)
