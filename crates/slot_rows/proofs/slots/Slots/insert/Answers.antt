-- The new row lies behind all, and its slot stands in the gap for its key.
use Rattle.std.proofs.Common.{◌≡◌, ◌≤◌, ◌++◌, ◌∷◌, [], ℕ, List, length, sym, ap, subst, ◌∙◌, arith}
use Rattle.std.specs.List.{insert}
use Rattle.proxy_model.specs.Keyed.{Keyed}
use Rattle.keyed_rows.specs.Places.{IsGap}
use Rattle.keyed_rows.proofs.Edits.{in_order-put_in_gap}
use Rattle.slot_rows.specs.Roomy.{Roomy}
use Rattle.slot_rows.specs.Slots.{gathered, IsKept}
use Rattle.slot_rows.proofs.Gathered.{length-gathered}
use Rattle.slot_rows.proofs.Edits.{gathered-insert, kept-insert}
use Rattle.slot_rows.proofs.slots.Slots.insert.Goals as goal

pub invariant_of-self : goal.invariant_of-self
invariant_of-self g c =
    let rows = c.self.inside.rows.items in
    let ss = c.self.inside.order.items in
    let row : List ℕ × _ = (c.args.key, c.args.value) in
    let kept = c.self.invariant.kept in
    let gap = subst (λ (t : Roomy _). IsGap t.rows c.args.key c.args.gap) (sym c.self.view_is) c.requires.absent in
    let l = subst (λ (t : Roomy _). c.args.gap ≤ length t.rows) (sym c.self.view_is) c.requires.in_range in
    let same = length-gathered rows ss kept.within in
    let within : c.args.gap ≤ length ss = omega (arith, l, same) in
    let o = c.self.inside.rows.ok in
    let slot : c.len-slot.result ≡ length rows = omega arith in
    let items : c.insert.new.self.items ≡ insert ss c.args.gap (length rows) = rw c.unwrap.ensures at c.insert.ensures.items ∙ ap (insert ss c.args.gap) slot in
    let longer = rw c.unwrap.ensures at c.insert.ensures.len in
    let spare = ap (λ (t : Roomy _). t.spare) c.self.view_is in
    let room = c.requires.room in
    let order_fits = c.self.invariant.order_fits in
    let rows_fit = c.self.invariant.rows_fit in
    let capacity = c.insert.ensures.capacity in
    let all = kept-insert rows ss c.args.gap row kept within (in_order-put_in_gap (gathered rows ss) c.args.key c.args.value c.args.gap kept.in_order gap) in
    record {
      kept = subst (λ (rs : Keyed _). IsKept rs c.insert.new.self.items) (sym c.push_reserved.ensures.items) (subst (λ (ns : List ℕ). IsKept (rows ++ row ∷ []) ns) (sym items) all);
      rows_fit = omega (arith, spare, room, rows_fit);
      order_fits = omega (arith, spare, room, order_fits, longer, capacity);
      same_length = omega (arith, longer);
      most = omega (arith, spare, room);
    }

pub returns-clause-rows : goal.returns-clause-rows
returns-clause-rows g c =
    let rows = c.self.inside.rows.items in
    let ss = c.self.inside.order.items in
    let row : List ℕ × _ = (c.args.key, c.args.value) in
    let kept = c.self.invariant.kept in
    let l = subst (λ (t : Roomy _). c.args.gap ≤ length t.rows) (sym c.self.view_is) c.requires.in_range in
    let same = length-gathered rows ss kept.within in
    let within : c.args.gap ≤ length ss = omega (arith, l, same) in
    let o = c.self.inside.rows.ok in
    let slot : c.len-slot.result ≡ length rows = omega arith in
    let items : c.insert.new.self.items ≡ insert ss c.args.gap (length rows) = rw c.unwrap.ensures at c.insert.ensures.items ∙ ap (insert ss c.args.gap) slot in
    ap (λ (rs : Keyed _). gathered rs c.insert.new.self.items) c.push_reserved.ensures.items
    ∙ ap (gathered (rows ++ row ∷ [])) items
    ∙ gathered-insert rows ss c.args.gap row kept within
    ∙ ap (λ (t : Roomy _). insert t.rows c.args.gap row) c.self.view_is
