-- The row in the slot is changed, and with it the one at the place.
use Rattle.std.proofs.Common.{◌<◌, length, set, sym, ap, subst, ◌∙◌}
use Rattle.slot_rows.specs.Roomy.{Roomy, changed_in}
use Rattle.slot_rows.specs.Slots.{gathered, IsKept}
use Rattle.slot_rows.proofs.Edits.{IsSlotRow, gathered-changed, kept-changed}
use Rattle.slot_rows.proofs.slots.Slots.change.Goals as goal

pub invariant_of-self : goal.invariant_of-self
invariant_of-self g c =
    let rows = c.self.inside.rows.items in
    let ss = c.self.inside.order.items in
    let p = c.args.place in
    let slot = c.index.result.now in
    let row = c.index_mut.result.now in
    let f = g.C.Change.changed c.args.change in
    let l = subst (λ (t : Roomy _). p < length t.rows) (sym c.self.view_is) c.requires in
    let x : IsSlotRow rows ss p slot row = record { within = l; slot_read = c.index.ensures; row_is = c.index_mut.ensures.value } in
    record {
      kept = subst (λ (v : _). IsKept (set rows slot (row.0, v)) ss) (sym c.apply.ensures) (kept-changed rows ss p slot row f c.self.invariant.kept x);
      rows_fit = c.self.invariant.rows_fit;
      order_fits = c.self.invariant.order_fits;
      same_length = c.self.invariant.same_length;
      most = c.self.invariant.most;
    }

pub returns-clause-rows : goal.returns-clause-rows
returns-clause-rows g c =
    let rows = c.self.inside.rows.items in
    let ss = c.self.inside.order.items in
    let p = c.args.place in
    let slot = c.index.result.now in
    let row = c.index_mut.result.now in
    let f = g.C.Change.changed c.args.change in
    let l = subst (λ (t : Roomy _). p < length t.rows) (sym c.self.view_is) c.requires in
    let x : IsSlotRow rows ss p slot row = record { within = l; slot_read = c.index.ensures; row_is = c.index_mut.ensures.value } in
    ap (λ (v : _). gathered (set rows slot (row.0, v)) ss) c.apply.ensures
    ∙ gathered-changed rows ss p slot row f c.self.invariant.kept x
    ∙ ap (λ (t : Roomy _). changed_in t.rows p f) c.self.view_is
