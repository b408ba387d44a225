use Rattle.store_laws.proofs.Requests.Branches.{branches_are_named, branches_leave}
use Rattle.store_laws.proofs.laws_of_requests.only_the_chosen_branch_runs.Goals as goal

pub returns : goal.returns
returns c = record { named = branches_are_named; left = branches_leave }
