-- The loss, part by part; the writes stay proper.
use Rattle.std.proofs.Common.{sym, ap, ◌∙◌}
use Rattle.wait_model.specs.Endings.{lost}
use Rattle.wait_model.specs.State.{Waits, owned}
use Rattle.revoke_core.specs.contracts.waits.Waits.{the_view}
use Rattle.revoke_core.specs.Losses.{lost_writes, lost_entries, lost_settled}
use Rattle.revoke_core.proofs.LossParts.{lost-parts, proper-lost, waits_same}
use Rattle.revoke_core.proofs.waits.Waits.lost.Goals as goal

pub invariant_of-self : goal.invariant_of-self
invariant_of-self c = record { proper = rw c.lose_job.ensures.writes (proper-lost c.args.call c.take_job-job.result c.self.inside.writes.items c.self.invariant.proper); left = tt }

pub returns-clause-waits : goal.returns-clause-waits
returns-clause-waits c =
    let w : Waits = the_view c.self.inside in
    let es = c.args.table.now.entries in
    waits_same w _ _ _ _ (c.lose_job.ensures.writes ∙ ap (λ j. lost_writes c.args.call j c.self.inside.writes.items) c.take_job-job.ensures.taken) c.take_job-job.ensures.left ∙ sym (ap (λ x. x.own.waits) (lost-parts c.args.call (owned es w))) ∙ ap (λ (v : Waits). (lost c.args.call (owned es v)).own.waits) c.self.view_is

pub returns-clause-entries : goal.returns-clause-entries
returns-clause-entries c =
    let w : Waits = the_view c.self.inside in
    let es = c.args.table.now.entries in
    c.lose_job.ensures.entries ∙ ap (λ j. lost_entries c.args.call j c.self.inside.writes.items es) c.take_job-job.ensures.taken ∙ sym (ap (λ x. x.own.entries) (lost-parts c.args.call (owned es w))) ∙ ap (λ (v : Waits). (lost c.args.call (owned es v)).own.entries) c.self.view_is

pub returns-clause-settled : goal.returns-clause-settled
returns-clause-settled c =
    let w : Waits = the_view c.self.inside in
    let es = c.args.table.now.entries in
    c.lose_job.ensures.settled ∙ ap (λ j. lost_settled c.args.call j c.self.inside.writes.items) c.take_job-job.ensures.taken ∙ sym (ap (λ x. x.settled) (lost-parts c.args.call (owned es w))) ∙ ap (λ (v : Waits). (lost c.args.call (owned es v)).settled) c.self.view_is
