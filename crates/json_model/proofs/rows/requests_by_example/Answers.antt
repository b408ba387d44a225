-- Each row computes.
use Rattle.std.proofs.Common.{refl}
use Rattle.json_model.proofs.OnLiterals.{requests_on_literals}
use Rattle.json_model.proofs.rows.requests_by_example.Goals as goal

pub returns-clause-url_safe : goal.returns-clause-url_safe
unfolding requests_on_literals
returns-clause-url_safe c = refl

pub returns-clause-twice : goal.returns-clause-twice
unfolding requests_on_literals
returns-clause-twice c = refl

pub returns-clause-negative : goal.returns-clause-negative
unfolding requests_on_literals
returns-clause-negative c = refl

pub returns-clause-padding : goal.returns-clause-padding
unfolding requests_on_literals
returns-clause-padding c = refl

pub returns-clause-unsupported : goal.returns-clause-unsupported
unfolding requests_on_literals
returns-clause-unsupported c = refl

pub returns-clause-first_key : goal.returns-clause-first_key
unfolding requests_on_literals
returns-clause-first_key c = refl

pub returns-clause-first_field : goal.returns-clause-first_field
unfolding requests_on_literals
returns-clause-first_field c = refl

pub returns-clause-no_path : goal.returns-clause-no_path
unfolding requests_on_literals
returns-clause-no_path c = refl

pub returns-clause-no_object : goal.returns-clause-no_object
unfolding requests_on_literals
returns-clause-no_object c = refl

pub returns-clause-no_fields : goal.returns-clause-no_fields
unfolding requests_on_literals
returns-clause-no_fields c = refl
