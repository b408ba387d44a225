-- Floors read no more of a call than is kept of it.
use Rattle.std.proofs.Common.{Option, sym, ◌∙◌, ap}
use Rattle.script_text.specs.declared.item.Item.{Item}
use Rattle.audit_model.specs.Calls.{sent_as}
use Rattle.audit_model.specs.Floors.{floors_by}
use Rattle.audit_clients.specs.LeaseCalls.{floors_by_lease}
use Rattle.audit_clients.specs.declared.floors.LeaseCall.{LeaseCall}
use Rattle.audit_clients.proofs.LeaseCalls.{same_floors}
use Rattle.audit_clients.proofs.floors.raise_by.Goals as goal

pub returns-in_ok-raise-in-Executed : goal.returns-in_ok-raise-in-Executed
returns-in_ok-raise-in-Executed c = λ before k.
    let w = c.in-Executed in
    c.in_ok-raise-in-Executed.ensures
    ∙ ap (λ (o : Option LeaseCall). floors_by_lease o w.answer c.args.floors.now) (c.find.ensures ∙ k w.call)
    ∙ same_floors (sent_as w.call before) w.answer c.args.floors.now
    ∙ ap (λ (i : Item). floors_by before i c.args.floors.now) (sym w.is)
