-- The row in the slot, where there is one.
use Rattle.std.proofs.Common.{sym, ap, ◌∙◌}
use Rattle.keyed_rows.proofs.Places.{order}
use Rattle.slot_rows.proofs.Gathered.{order_at-row, order_at-none}
use Rattle.slot_rows.proofs.slots.order_at.Goals as goal

pub returns-in-Some : goal.returns-in-Some
returns-in-Some g c =
    let row = c.in-Some.row.now in
    let a = c.in-Some.ensures.lookup in
    c.cmp.ensures ∙ sym (order_at-row c.args.rows.now c.args.key.now c.args.slot row a.3.0 ∙ ap (λ r. order r.0 c.args.key.now) (sym a.1))

pub returns-in-None : goal.returns-in-None
returns-in-None g c = sym (order_at-none c.args.rows.now c.args.key.now c.args.slot c.in-None.ensures.lookup.3)
