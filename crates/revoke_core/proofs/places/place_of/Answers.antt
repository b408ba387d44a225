-- The first that passes, or none.
use Rattle.std.proofs.Common.{◌≡◌, true, sym, ◌∙◌, ap, subst, arith}
use Rattle.std.specs.List.{list_any}
use Rattle.std.proofs.lemmas.List.{take_all}
use Rattle.wait_model.specs.declared.write.Write.{Write}
use Rattle.revoke_core.specs.Steps.{passes}
use Rattle.revoke_core.proofs.Searches.{first_place, none_place}
use Rattle.revoke_core.proofs.places.place_of.Goals as goal

pub returns-then-passes-clause-found : goal.returns-then-passes-clause-found
returns-then-passes-clause-found c =
    let xs = c.args.writes.now in
    let x = c.index-writes-at.result in
    first_place (passes c.args.by) xs c.loop-at.at x (omega arith) c.loop-at.invariant (subst (λ (y : Write). (passes c.args.by) y ≡ true) c.index-writes-at.is (sym c.passes.ensures ∙ c.if-passes.true))

pub returns-clause-none : goal.returns-clause-none
returns-clause-none c =
    let xs = c.args.writes.now in
    none_place (passes c.args.by) xs (sym (ap (list_any (passes c.args.by)) (take_all c.loop-at.at xs (omega arith))) ∙ c.loop-at.invariant)
