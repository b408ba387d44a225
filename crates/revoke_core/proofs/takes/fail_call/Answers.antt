-- No write's call has this number, or the first that has it goes on.
use Rattle.std.proofs.Common.{◌≡◌, ◌<◌, List, length, Some, None, set, sym, ◌∙◌, ap, subst}
use Rattle.wait_model.specs.declared.write.Write.{Write}
use Rattle.wait_model.specs.Fits.{is_proper}
use Rattle.wait_model.specs.Stages.{staged}
use Rattle.wait_model.specs.Writes.{first_by, sends}
use Rattle.revoke_calls.specs.Failed.{failed_stage}
use Rattle.revoke_core.specs.Readings.{failed_writes, failed_if}
use Rattle.revoke_core.specs.Steps.{IsFirst}
use Rattle.revoke_core.proofs.Proper.{all-get}
use Rattle.revoke_core.proofs.Searches.{found_first, staged_first}
use Rattle.revoke_core.proofs.takes.fail_call.Goals as goal

pub fail-requires : goal.fail-requires
fail-requires c =
    let within = subst (λ (ws : List Write). c.in-Some.at < length ws) c.deref.ensures.value c.in-Some.ensures.in_range in
    rw (← c.index.ensures) at (all-get is_proper c.args.writes.now.items c.in-Some.at c.index.result.now c.requires within)

pub returns-in-None-clause-writes : goal.returns-in-None-clause-writes
returns-in-None-clause-writes c =
    let none = subst (λ (ws : List Write). first_by (sends c.args.call) ws ≡ None) c.deref.ensures.value c.in-None.ensures.none in
    sym (ap (λ o. failed_writes c.args.when.session c.args.when.step c.args.call c.args.owners.now c.args.table.now.entries o c.args.writes.now.items) none)

pub returns-in-None-clause-entries : goal.returns-in-None-clause-entries
returns-in-None-clause-entries c =
    let none = subst (λ (ws : List Write). first_by (sends c.args.call) ws ≡ None) c.deref.ensures.value c.in-None.ensures.none in
    sym (ap (λ o. failed_if c.args.when.session c.args.owners.now o c.args.table.now.entries) none)

pub returns-in_ok-stage-in-Some-clause-writes : goal.returns-in_ok-stage-in-Some-clause-writes
returns-in_ok-stage-in-Some-clause-writes c =
    let ws = c.args.writes.now.items in
    let es = c.args.table.now.entries in
    let os = c.args.owners.now in
    let n = c.args.call in
    let s = c.args.when.session in
    let m = c.args.when.step in
    let i = c.in-Some.at in
    let first = subst (λ (xs : List Write). IsFirst (sends n) xs i) c.deref.ensures.value c.in-Some.ensures.found in
    let v = c.index.result.now in
    let w = c.index_mut.result.now in
    let found = found_first (sends n) ws i v first ∙ ap Some (sym c.index.ensures) in
    let next = staged_first (sends n) (failed_stage s m v os es) ws i w first ∙ ap (λ (x : Write). set ws i (staged x (failed_stage s m v os es))) (sym c.index_mut.ensures.value) ∙ ap (λ t. set ws i (staged w t)) (sym c.in_ok-stage-in-Some.ensures.stage) in
    sym (ap (λ o. failed_writes s m n os es o ws) found ∙ next)

pub returns-in_ok-stage-in-Some-clause-entries : goal.returns-in_ok-stage-in-Some-clause-entries
returns-in_ok-stage-in-Some-clause-entries c =
    let ws = c.args.writes.now.items in
    let n = c.args.call in
    let i = c.in-Some.at in
    let first = subst (λ (xs : List Write). IsFirst (sends n) xs i) c.deref.ensures.value c.in-Some.ensures.found in
    let found = found_first (sends n) ws i c.index.result.now first ∙ ap Some (sym c.index.ensures) in
    c.in_ok-stage-in-Some.ensures.entries ∙ sym (ap (λ o. failed_if c.args.when.session c.args.owners.now o c.args.table.now.entries) found)
