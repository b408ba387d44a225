-- The first that passes, or none.
use Rattle.std.proofs.Common.{sym, ◌∙◌, ap, arith}
use Rattle.std.specs.List.{list_any}
use Rattle.std.proofs.lemmas.List.{take_all}
use Rattle.revoke_core.specs.Steps.{is_call}
use Rattle.revoke_core.proofs.Searches.{first_call, none_call, equal_numbers}
use Rattle.revoke_core.proofs.places.place_of_call.Goals as goal

pub returns-then-out-at-clause-found : goal.returns-then-out-at-clause-found
returns-then-out-at-clause-found c =
    let xs = c.args.out.now in
    let x = c.index-out-at.result in
    first_call c.args.call xs c.loop-at.at x (omega arith) c.loop-at.invariant (equal_numbers _ _ c.if-out-at.true)

pub returns-clause-none : goal.returns-clause-none
returns-clause-none c =
    let xs = c.args.out.now in
    none_call c.args.call xs (sym (ap (list_any (is_call c.args.call)) (take_all c.loop-at.at xs (omega arith))) ∙ c.loop-at.invariant)
