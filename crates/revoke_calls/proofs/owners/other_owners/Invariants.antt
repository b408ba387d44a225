-- What is left to be looked at ends where the whole ends.
use Rattle.std.proofs.Common.{◌≡◌, drop, [], filter, not}
use Rattle.wait_model.specs.ForeignOwnership.{by_key}
use Rattle.wait_model.specs.GuardedAnswers.{other_owners, is_kept}
use Rattle.revoke_calls.proofs.owners.other_owners.Given as goal

abbrev pub invariant-loop-owner : goal.invariant-loop-owner
invariant-loop-owner l = by_key l.others (filter (λ o. not (is_kept l.write l.table.entries l.owners o.key)) (drop l.owner-index l.owners)) ≡ by_key [] (other_owners l.write l.table.entries l.owners)
