-- The writes stay proper, and what the pass left of them is known; where they rest a pass changes nothing.
use Rattle.std.proofs.Common.{[], sym, ap, subst, ◌∙◌}
use Rattle.wait_model.specs.Passes.{Pass, after_pass, proceeded}
use Rattle.wait_model.specs.State.{Waits, owned}
use Rattle.revoke_core.specs.contracts.waits.Waits.{the_view}
use Rattle.revoke_core.specs.Rests.{IsLeft}
use Rattle.revoke_core.proofs.Proper.{proper-passed}
use Rattle.revoke_core.proofs.Resting.{pass_rests, known_all}
use Rattle.revoke_core.proofs.waits.Waits.proceed.Goals as goal

pub invariant_of-self : goal.invariant_of-self
invariant_of-self c =
    record {
      proper = rw c.pass.ensures.writes (proper-passed c.self.inside.step [] c.args.table.now.entries c.self.inside.spoiled c.self.inside.writes.items c.self.invariant.proper);
      left = subst (IsLeft c.left_of.result) c.deref.ensures.value c.left_of.ensures;
    }

pub returns-else-not-known_rest-clause-waits : goal.returns-else-not-known_rest-clause-waits
returns-else-not-known_rest-clause-waits c =
    let w : Waits = the_view c.self.inside in
    let es = c.args.table.now.entries in
    let all = known_all c.self.inside.left w.writes c.self.invariant.left (sym c.known_rest.ensures ∙ c.if-not-known_rest.false) in
    let same = pass_rests w.step [] es w.spoiled w.writes all in
    sym c.self.view_is ∙ sym (ap (λ (p : Pass). (after_pass (owned es w) p).waits) same) ∙ ap (λ (v : Waits). (proceeded (owned es v)).waits) c.self.view_is

pub returns-else-not-known_rest-clause-entries : goal.returns-else-not-known_rest-clause-entries
returns-else-not-known_rest-clause-entries c =
    let w : Waits = the_view c.self.inside in
    let es = c.args.table.now.entries in
    let all = known_all c.self.inside.left w.writes c.self.invariant.left (sym c.known_rest.ensures ∙ c.if-not-known_rest.false) in
    let same = pass_rests w.step [] es w.spoiled w.writes all in
    sym (ap (λ (p : Pass). (after_pass (owned es w) p).entries) same) ∙ ap (λ (v : Waits). (proceeded (owned es v)).entries) c.self.view_is
