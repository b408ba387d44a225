-- Each row computes.
use Rattle.std.proofs.Common.{refl}
use Rattle.json_model.proofs.OnLiterals.{replies_on_literals}
use Rattle.json_model.proofs.rows.replies_by_example.Goals as goal

pub returns-clause-put : goal.returns-clause-put
unfolding replies_on_literals
returns-clause-put c = refl

pub returns-clause-record : goal.returns-clause-record
unfolding replies_on_literals
returns-clause-record c = refl

pub returns-clause-in_result : goal.returns-clause-in_result
unfolding replies_on_literals
returns-clause-in_result c = refl

pub returns-clause-no_result : goal.returns-clause-no_result
unfolding replies_on_literals
returns-clause-no_result c = refl

pub returns-clause-refusal : goal.returns-clause-refusal
unfolding replies_on_literals
returns-clause-refusal c = refl

pub returns-clause-no_code : goal.returns-clause-no_code
unfolding replies_on_literals
returns-clause-no_code c = refl

pub returns-clause-twice : goal.returns-clause-twice
unfolding replies_on_literals
returns-clause-twice c = refl

pub returns-clause-created : goal.returns-clause-created
unfolding replies_on_literals
returns-clause-created c = refl

pub returns-clause-deletion : goal.returns-clause-deletion
unfolding replies_on_literals
returns-clause-deletion c = refl

pub returns-clause-canceled : goal.returns-clause-canceled
unfolding replies_on_literals
returns-clause-canceled c = refl
