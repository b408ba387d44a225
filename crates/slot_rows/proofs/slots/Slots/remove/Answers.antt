-- The row changes places with the one in the last slot, and goes.
use Rattle.std.proofs.Common.{◌≡◌, ◌+◌, ◌<◌, ℕ, List, length, get_or, sym, ap, subst, ◌∙◌, arith}
use Rattle.std.specs.List.{remove}
use Rattle.slot_rows.specs.Roomy.{Roomy}
use Rattle.slot_rows.proofs.Edits.{taken_by, gathered-taken, kept-taken, row-taken}
use Rattle.slot_rows.proofs.slots.Slots.remove.Goals as goal

pub invariant_of-self : goal.invariant_of-self
invariant_of-self g c =
    let rows = c.self.inside.rows.items in
    let ss = c.self.inside.order.items in
    let p = c.args.place in
    let q = c.place_of_last-last_place.result in
    let kept = c.self.invariant.kept in
    let l = subst (λ (t : Roomy _). p < length t.rows) (sym c.self.view_is) c.requires in
    let m = subst (λ (ns : List ℕ). q < length ns) c.deref-2.ensures.value c.place_of_last-last_place.ensures.in_range in
    let b : get_or ss q 0 + 1 ≡ length rows = ap (λ (ns : List ℕ). get_or ns q 0 + 1) (sym c.deref-2.ensures.value) ∙ c.place_of_last-last_place.ensures.last ∙ ap length c.deref.ensures.value in
    let o = c.self.inside.rows.ok in
    let o' = c.swap-2.new.self.ok in
    let n = c.self.inside.order.ok in
    let n' = c.swap.new.self.ok in
    let same_rows : length c.swap-2.new.self.items ≡ length rows = omega (arith, o, o', c.swap-2.ensures.len) in
    let same_slots : length c.swap.new.self.items ≡ length ss = omega (arith, n, n', c.swap.ensures.len) in
    let x = taken_by rows c.swap-2.new.self.items c.take_last.new.self.items ss c.swap.new.self.items c.remove.new.self.items p q c.index-slot.result.now c.index-last.result.now c.take_last.result kept l m b c.index-slot.ensures c.index-last.ensures c.swap-2.ensures.by_index c.swap.ensures.by_index same_rows same_slots c.take_last.ensures.items c.remove.ensures.items in
    let rows_fit = c.self.invariant.rows_fit in
    let order_fits = c.self.invariant.order_fits in
    let same_length = c.self.invariant.same_length in
    let most = c.self.invariant.most in
    let fewer = c.remove.ensures.len in
    let fewer' = c.take_last.ensures.len in
    let capacity = c.remove.ensures.capacity in
    let capacity' = c.take_last.ensures.capacity in
    let swapped = c.swap.ensures.len in
    let swapped' = c.swap-2.ensures.len in
    let roomy = c.swap.ensures.capacity in
    let roomy' = c.swap-2.ensures.capacity in
    record {
      kept = kept-taken rows c.swap-2.new.self.items c.take_last.new.self.items ss c.swap.new.self.items c.remove.new.self.items p q c.take_last.result kept x;
      rows_fit = omega (arith, rows_fit, fewer', capacity', swapped', roomy');
      order_fits = omega (arith, order_fits, fewer, capacity, swapped, roomy);
      same_length = omega (arith, same_length, fewer, fewer', swapped, swapped');
      most = omega (arith, most, fewer', swapped');
    }

pub returns-clause-row : goal.returns-clause-row
returns-clause-row g c =
    let rows = c.self.inside.rows.items in
    let ss = c.self.inside.order.items in
    let p = c.args.place in
    let q = c.place_of_last-last_place.result in
    let kept = c.self.invariant.kept in
    let l = subst (λ (t : Roomy _). p < length t.rows) (sym c.self.view_is) c.requires in
    let m = subst (λ (ns : List ℕ). q < length ns) c.deref-2.ensures.value c.place_of_last-last_place.ensures.in_range in
    let b : get_or ss q 0 + 1 ≡ length rows = ap (λ (ns : List ℕ). get_or ns q 0 + 1) (sym c.deref-2.ensures.value) ∙ c.place_of_last-last_place.ensures.last ∙ ap length c.deref.ensures.value in
    let o = c.self.inside.rows.ok in
    let o' = c.swap-2.new.self.ok in
    let n = c.self.inside.order.ok in
    let n' = c.swap.new.self.ok in
    let same_rows : length c.swap-2.new.self.items ≡ length rows = omega (arith, o, o', c.swap-2.ensures.len) in
    let same_slots : length c.swap.new.self.items ≡ length ss = omega (arith, n, n', c.swap.ensures.len) in
    let x = taken_by rows c.swap-2.new.self.items c.take_last.new.self.items ss c.swap.new.self.items c.remove.new.self.items p q c.index-slot.result.now c.index-last.result.now c.take_last.result kept l m b c.index-slot.ensures c.index-last.ensures c.swap-2.ensures.by_index c.swap.ensures.by_index same_rows same_slots c.take_last.ensures.items c.remove.ensures.items in
    row-taken rows c.swap-2.new.self.items c.take_last.new.self.items ss c.swap.new.self.items c.remove.new.self.items p q c.take_last.result kept x
    ∙ ap (λ (t : Roomy _). get_or t.rows p c.take_last.result) c.self.view_is

pub returns-clause-rows : goal.returns-clause-rows
returns-clause-rows g c =
    let rows = c.self.inside.rows.items in
    let ss = c.self.inside.order.items in
    let p = c.args.place in
    let q = c.place_of_last-last_place.result in
    let kept = c.self.invariant.kept in
    let l = subst (λ (t : Roomy _). p < length t.rows) (sym c.self.view_is) c.requires in
    let m = subst (λ (ns : List ℕ). q < length ns) c.deref-2.ensures.value c.place_of_last-last_place.ensures.in_range in
    let b : get_or ss q 0 + 1 ≡ length rows = ap (λ (ns : List ℕ). get_or ns q 0 + 1) (sym c.deref-2.ensures.value) ∙ c.place_of_last-last_place.ensures.last ∙ ap length c.deref.ensures.value in
    let o = c.self.inside.rows.ok in
    let o' = c.swap-2.new.self.ok in
    let n = c.self.inside.order.ok in
    let n' = c.swap.new.self.ok in
    let same_rows : length c.swap-2.new.self.items ≡ length rows = omega (arith, o, o', c.swap-2.ensures.len) in
    let same_slots : length c.swap.new.self.items ≡ length ss = omega (arith, n, n', c.swap.ensures.len) in
    let x = taken_by rows c.swap-2.new.self.items c.take_last.new.self.items ss c.swap.new.self.items c.remove.new.self.items p q c.index-slot.result.now c.index-last.result.now c.take_last.result kept l m b c.index-slot.ensures c.index-last.ensures c.swap-2.ensures.by_index c.swap.ensures.by_index same_rows same_slots c.take_last.ensures.items c.remove.ensures.items in
    gathered-taken rows c.swap-2.new.self.items c.take_last.new.self.items ss c.swap.new.self.items c.remove.new.self.items p q c.take_last.result kept x
    ∙ ap (λ (t : Roomy _). remove t.rows p) c.self.view_is
