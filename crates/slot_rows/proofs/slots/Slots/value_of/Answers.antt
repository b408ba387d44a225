-- The row in the slot has the key, so it stands at it.
use Rattle.std.proofs.Common.{◌≡◌, ◌<◌, ℕ, List, Some, length, get_or, sym, ap, ◌∙◌, arith}
use Rattle.std.specs.declared.cmp.Ordering.TheVariants.{Equal}
use Rattle.std.proofs.lemmas.List.{get_or_default}
use Rattle.proxy_model.specs.Keyed.{at}
use Rattle.keyed_rows.proofs.Places.{order}
use Rattle.slot_rows.specs.Roomy.{Roomy}
use Rattle.slot_rows.proofs.Gathered.{at-slot, equal}
use Rattle.slot_rows.proofs.slots.Slots.value_of.Goals as goal

pub returns-then-eq : goal.returns-then-eq
returns-then-eq g c =
    let rows = c.self.inside.rows.items in
    let ss = c.self.inside.order.items in
    let k = c.args.key.now in
    let s = c.args.slot in
    let looked = c.index.result.now in
    let row = c.index-then-eq.result.now in
    let o = c.self.inside.rows.ok in
    let l : s < length rows = omega arith in
    let same : order looked.0 k ≡ Equal = equal _ (sym c.eq.ensures ∙ c.if-eq.true) in
    let here : order (get_or rows s row).0 k ≡ Equal = ap (λ (r : List ℕ × _). order r.0 k) (get_or_default rows s row looked l ∙ sym c.index.ensures) ∙ same in
    ap (λ (r : List ℕ × _). Some r.1) c.index-then-eq.ensures ∙ at-slot rows ss s k row c.self.invariant.kept l here ∙ ap (λ (t : Roomy _). at t.rows k) c.self.view_is
