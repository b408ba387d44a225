-- One more row is done in its place.
use Rattle.std.proofs.Common.{ap, ◌∙◌}
use Rattle.proxy_model.specs.declared.lease.Entry.{Entry}
use Rattle.proxy_model.specs.Keyed.{Keyed}
use Rattle.proxy_model.specs.LeaseTable.{Table, given_up}
use Rattle.slot_rows.specs.Roomy.{changed_in}
use Rattle.lease_table.proofs.Edits.{done_more}
use Rattle.lease_table.proofs.LeaseTable.give_up_all.Goals as goal

pub loop-place-preserved : goal.loop-place-preserved
loop-place-preserved c =
    c.turn_at.ensures
    ∙ ap (λ (t : Table). record t { entries = changed_in t.entries c.loop-place.place given_up }) c.loop-place.invariant
    ∙ ap (λ (es : Keyed Entry). record c.args.self.now { entries = es }) (done_more given_up c.args.self.now.entries c.loop-place.place)
