-- The row in the hint's slot has the key, so it is the one that is changed; else the row at the key's place is, where there is one.
use Rattle.std.proofs.Common.{◌≡◌, ◌<◌, ℕ, List, length, set, sym, ap, subst, ◌∙◌, arith}
use Rattle.std.specs.declared.cmp.Ordering.TheVariants.{Equal}
use Rattle.std.proofs.lemmas.List.{get_or_default}
use Rattle.proxy_model.specs.Keyed.{changed_at}
use Rattle.keyed_rows.proofs.Places.{order, changed-gap}
use Rattle.slot_rows.specs.Roomy.{Roomy}
use Rattle.slot_rows.specs.Slots.{gathered, IsKept}
use Rattle.slot_rows.proofs.Changes.{changed_in-place}
use Rattle.slot_rows.proofs.Gathered.{equal}
use Rattle.slot_rows.proofs.Edits.{IsKeyRow, kept-changed_at, gathered-changed_at}
use Rattle.slot_rows.proofs.slots.Slots.change_at.Goals as goal

pub invariant_of-self : goal.invariant_of-self
invariant_of-self g c =
    let rows = c.self.inside.rows.items in
    let ss = c.self.inside.order.items in
    let s = c.args.hint in
    let k = c.args.key.now in
    let looked = c.index.result.now in
    let row = c.index_mut.result.now in
    let f = g.C.Change.changed c.args.change in
    let o = c.self.inside.rows.ok in
    let l : s < length rows = omega arith in
    let same : order looked.0 k ≡ Equal = equal _ (sym c.eq.ensures ∙ c.if-eq.true) in
    let here : order row.0 k ≡ Equal = ap (λ (r : List ℕ × _). order r.0 k) (c.index_mut.ensures.value ∙ get_or_default rows s row looked l ∙ sym c.index.ensures) ∙ same in
    let x : IsKeyRow rows s k row = record { within = l; row_is = c.index_mut.ensures.value; here = here } in
    record {
      kept = subst (λ (v : _). IsKept (set rows s (row.0, v)) ss) (sym c.apply.ensures) (kept-changed_at rows ss s k row f c.self.invariant.kept x);
      rows_fit = c.self.invariant.rows_fit;
      order_fits = c.self.invariant.order_fits;
      same_length = c.self.invariant.same_length;
      most = c.self.invariant.most;
    }

pub returns-then-eq-clause-rows : goal.returns-then-eq-clause-rows
returns-then-eq-clause-rows g c =
    let rows = c.self.inside.rows.items in
    let ss = c.self.inside.order.items in
    let s = c.args.hint in
    let k = c.args.key.now in
    let looked = c.index.result.now in
    let row = c.index_mut.result.now in
    let f = g.C.Change.changed c.args.change in
    let o = c.self.inside.rows.ok in
    let l : s < length rows = omega arith in
    let same : order looked.0 k ≡ Equal = equal _ (sym c.eq.ensures ∙ c.if-eq.true) in
    let here : order row.0 k ≡ Equal = ap (λ (r : List ℕ × _). order r.0 k) (c.index_mut.ensures.value ∙ get_or_default rows s row looked l ∙ sym c.index.ensures) ∙ same in
    let x : IsKeyRow rows s k row = record { within = l; row_is = c.index_mut.ensures.value; here = here } in
    ap (λ (v : _). gathered (set rows s (row.0, v)) ss) c.apply.ensures
    ∙ gathered-changed_at rows ss s k row f c.self.invariant.kept x
    ∙ ap (λ (t : Roomy _). changed_at t.rows k f) c.self.view_is

pub returns-in-Ok-clause-rows : goal.returns-in-Ok-clause-rows
returns-in-Ok-clause-rows g c =
    c.change.ensures.rows ∙ changed_in-place c.args.self.now.rows c.args.key.now c.in-Ok.place (g.C.Change.changed c.args.change) c.in-Ok.ensures.found

pub returns-in_default-clause-rows : goal.returns-in_default-clause-rows
returns-in_default-clause-rows g c =
    changed-gap c.args.self.now.rows c.args.key.now c.in_default.field-0 (g.C.Change.changed c.args.change) c.len-count.ensures.in_order c.in_default.ensures.absent
