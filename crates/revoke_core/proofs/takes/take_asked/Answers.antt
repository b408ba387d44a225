-- No write asks by this call, or the first that does has another stage.
use Rattle.std.proofs.Common.{◌≡◌, List, Some, None, set, sym, ◌∙◌, ap, subst}
use Rattle.wait_model.specs.declared.write.Write.{Write}
use Rattle.wait_model.specs.ForeignOwnership.{stage_asked}
use Rattle.wait_model.specs.Stages.{staged}
use Rattle.wait_model.specs.Writes.{first_by, asks}
use Rattle.revoke_core.specs.Readings.{asked_writes}
use Rattle.revoke_core.specs.Steps.{IsFirst}
use Rattle.revoke_core.proofs.Searches.{found_first, staged_first}
use Rattle.revoke_core.proofs.takes.take_asked.Goals as goal

pub returns-in-None : goal.returns-in-None
returns-in-None c =
    let none = subst (λ (ws : List Write). first_by (asks c.args.call) ws ≡ None) c.deref.ensures.value c.in-None.ensures.none in
    sym (ap (λ o. asked_writes c.args.call c.args.held o c.args.writes.now.items) none)

pub returns-in-Some : goal.returns-in-Some
returns-in-Some c =
    let ws = c.args.writes.now.items in
    let n = c.args.call in
    let i = c.in-Some.at in
    let first = subst (λ (xs : List Write). IsFirst (asks n) xs i) c.deref.ensures.value c.in-Some.ensures.found in
    let w = c.index_mut.result.now in
    let stage = stage_asked n c.args.held w.stage in
    let found = found_first (asks n) ws i w first ∙ ap Some (sym c.index_mut.ensures.value) in
    let next = staged_first (asks n) stage ws i w first ∙ ap (λ (x : Write). set ws i (staged x stage)) (sym c.index_mut.ensures.value) ∙ ap (λ s. set ws i (staged w s)) (sym c.take_back.ensures) in
    sym (ap (λ o. asked_writes n c.args.held o ws) found ∙ next)
