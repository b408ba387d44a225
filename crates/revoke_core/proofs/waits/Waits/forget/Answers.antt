-- A write that is forgotten, part by part; the others stay proper.
use Rattle.std.proofs.Common.{refl, sym, ap, ◌∙◌}
use Rattle.wait_model.specs.Endings.{forgotten}
use Rattle.wait_model.specs.State.{Waits, owned}
use Rattle.wait_model.specs.Writes.{has_ticket}
use Rattle.revoke_core.specs.contracts.waits.Waits.{the_view}
use Rattle.revoke_core.proofs.LossParts.{forgotten-parts, proper-without, waits_same}
use Rattle.revoke_core.proofs.waits.Waits.forget.Goals as goal

pub invariant_of-self : goal.invariant_of-self
invariant_of-self c = record { proper = rw c.forget_write.ensures.writes (proper-without (has_ticket c.args.ticket) c.self.inside.writes.items c.self.invariant.proper); left = tt }

pub returns-clause-waits : goal.returns-clause-waits
returns-clause-waits c =
    let w : Waits = the_view c.self.inside in
    let es = c.args.table.now.entries in
    waits_same w _ _ w.out w.out c.forget_write.ensures.writes refl ∙ sym (ap (λ x. x.waits) (forgotten-parts c.args.ticket (owned es w))) ∙ ap (λ (v : Waits). (forgotten c.args.ticket (owned es v)).waits) c.self.view_is

pub returns-clause-entries : goal.returns-clause-entries
returns-clause-entries c =
    let w : Waits = the_view c.self.inside in
    let es = c.args.table.now.entries in
    c.forget_write.ensures.entries ∙ sym (ap (λ x. x.entries) (forgotten-parts c.args.ticket (owned es w))) ∙ ap (λ (v : Waits). (forgotten c.args.ticket (owned es v)).entries) c.self.view_is
