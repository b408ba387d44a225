-- One row goes while another one goes into the gap for it; where both marks are one all stays.
use Rattle.std.proofs.Common.{◌≡◌, ℕ, ◌<◌, ◌==◌, length, Some, None, true, false, refl, sym, ap, subst, ◌∙◌, arith}
use Rattle.std.specs.Ordering.{is_eq, ordering_index}
use Rattle.std.specs.declared.cmp.Ordering.{Ordering}
use Rattle.std.specs.declared.cmp.Ordering.TheVariants.{Less, Equal, Greater}
use Rattle.std.specs.List.{insert, remove}
use Rattle.std.proofs.Common.{is_some}
use Rattle.etcd_types.specs.Keys.{same}
use Rattle.proxy_model.specs.Keyed.{Keyed, at, with_at}
use Rattle.proxy_model.proofs.KeyedLaws.{to_T}
use Rattle.keyed_rows.specs.Places.{IsPlace, IsGap}
use Rattle.keyed_rows.proofs.Places.{at-gap}
use Rattle.keyed_rows.proofs.Edits.{in_order-removed, removed}
use Rattle.mark_rows.proofs.Froms.{turned_itself}
use Rattle.mark_rows.proofs.Turns.{unequal, other_stays, turned_before, turned_behind, in_order-turned}
use Rattle.mark_rows.proofs.rows.MarkRows.turn.Goals as goal
use Rattle.mark_rows.proofs.rows.MarkRows.turn.Goals.{then-gap-at, else-gap-at}

pub unreachable-requires : goal.unreachable-requires
unreachable-requires c =
    let gap = subst (λ (t : Keyed ℕ). IsGap t c.args.mark.now c.in_default.field-0) c.as_slice-rows.ensures c.in_default.ensures.absent in
    let none : at c.self.inside.rows c.args.mark.now ≡ None = at-gap _ _ _ (to_T _ c.self.invariant) gap in
    let there : at c.self.inside.rows c.args.mark.now ≡ Some c.args.number = ap (λ (t : Keyed ℕ). at t c.args.mark.now) c.self.view_is ∙ c.requires in
    cc

pub invariant_of-self : goal.invariant_of-self
invariant_of-self c =
    let place = subst (λ (t : Keyed ℕ). IsPlace t c.args.mark.now c.in-Ok.at) c.as_slice-rows.ensures c.in-Ok.ensures.found in
    rw c.remove.ensures (in_order-removed _ _ _ c.self.invariant place)

pub renumber-requires : goal.renumber-requires
renumber-requires c =
    let es = c.self.inside.rows in
    let place = subst (λ (t : Keyed ℕ). IsPlace t c.args.mark.now c.in-Ok.at) c.as_slice-rows.ensures c.in-Ok.ensures.found in
    let other = subst (λ (t : Keyed ℕ). IsPlace t c.args.other c.in-Ok-place.field-0) c.as_slice-rows.ensures c.in-Ok-place.ensures.found in
    let apart : same c.args.mark.now c.args.other ≡ false = ap is_eq (sym c.compare.ensures) ∙ unequal c.compare.result (sym c.eq.ensures ∙ c.if-eq.false) in
    ap (λ (t : Keyed ℕ). is_some (at t c.args.other)) c.remove.ensures ∙ other_stays es c.args.mark.now c.args.other c.in-Ok.at c.in-Ok-place.field-0 c.self.invariant place other apart

pub returns-in-Ok-place : goal.returns-in-Ok-place
returns-in-Ok-place c =
    let place = subst (λ (t : Keyed ℕ). IsPlace t c.args.mark.now c.in-Ok.at) c.as_slice-rows.ensures c.in-Ok.ensures.found in
    let out = c.remove.ensures ∙ removed _ _ _ c.self.invariant place ∙ ap (λ (t : Keyed ℕ). with_at t c.args.mark.now None) c.self.view_is in
    c.renumber.ensures ∙ ap (λ (t : Keyed ℕ). with_at t c.args.other (Some c.args.number)) out

pub invariant_of-self-in-Err : goal.invariant_of-self-in-Err
invariant_of-self-in-Err c =
    let es = c.self.inside.rows in
    let place = subst (λ (t : Keyed ℕ). IsPlace t c.args.mark.now c.in-Ok.at) c.as_slice-rows.ensures c.in-Ok.ensures.found in
    let within : c.in-Ok.at < length es = subst (λ (t : Keyed ℕ). c.in-Ok.at < length t) c.as_slice-rows.ensures c.in-Ok.ensures.in_range in
    let gap = subst (λ (t : Keyed ℕ). IsGap t c.args.other c.in-Err.gap) c.as_slice-rows.ensures c.in-Err.ensures.absent in
    let turned : c.turn.new.self ≡ with_at (with_at es c.args.mark.now None) c.args.other (Some c.args.number) = c.turn.ensures ∙ elim c.if-gap-at.branch [
      | then-gap-at w ↦
          ap (λ (n : ℕ). insert (remove es c.in-Ok.at) n (c.args.other, c.args.number)) w.to-is
          ∙ turned_behind es c.args.mark.now c.args.other c.args.number c.in-Ok.at c.in-Err.gap c.self.invariant place gap (let e = w.if-gap-at.true in omega (arith, e))
      | else-gap-at w ↦
          ap (λ (n : ℕ). insert (remove es c.in-Ok.at) n (c.args.other, c.args.number)) w.to-is
          ∙ turned_before es c.args.mark.now c.args.other c.args.number c.in-Ok.at c.in-Err.gap c.self.invariant place within gap (let e = w.if-gap-at.false in omega (arith, e))
    ] in
    in_order-turned es c.turn.new.self c.args.mark.now c.args.other c.args.number c.self.invariant turned

pub returns-after-gap-at : goal.returns-after-gap-at
returns-after-gap-at c =
    let es = c.self.inside.rows in
    let place = subst (λ (t : Keyed ℕ). IsPlace t c.args.mark.now c.in-Ok.at) c.as_slice-rows.ensures c.in-Ok.ensures.found in
    let within : c.in-Ok.at < length es = subst (λ (t : Keyed ℕ). c.in-Ok.at < length t) c.as_slice-rows.ensures c.in-Ok.ensures.in_range in
    let gap = subst (λ (t : Keyed ℕ). IsGap t c.args.other c.in-Err.gap) c.as_slice-rows.ensures c.in-Err.ensures.absent in
    let turned : c.turn.new.self ≡ with_at (with_at es c.args.mark.now None) c.args.other (Some c.args.number) = c.turn.ensures ∙ elim c.if-gap-at.branch [
      | then-gap-at w ↦
          ap (λ (n : ℕ). insert (remove es c.in-Ok.at) n (c.args.other, c.args.number)) w.to-is
          ∙ turned_behind es c.args.mark.now c.args.other c.args.number c.in-Ok.at c.in-Err.gap c.self.invariant place gap (let e = w.if-gap-at.true in omega (arith, e))
      | else-gap-at w ↦
          ap (λ (n : ℕ). insert (remove es c.in-Ok.at) n (c.args.other, c.args.number)) w.to-is
          ∙ turned_before es c.args.mark.now c.args.other c.args.number c.in-Ok.at c.in-Err.gap c.self.invariant place within gap (let e = w.if-gap-at.false in omega (arith, e))
    ] in
    turned ∙ ap (λ (t : Keyed ℕ). with_at (with_at t c.args.mark.now None) c.args.other (Some c.args.number)) c.self.view_is

equal : (o : Ordering) → (ordering_index o == 1) ≡ true → is_eq o ≡ true
equal Less e = absurd (cc)
equal Equal e = refl
equal Greater e = absurd (cc)

pub returns-then-eq : goal.returns-then-eq
returns-then-eq c =
    let there : at c.self.inside.rows c.args.mark.now ≡ Some c.args.number = ap (λ (t : Keyed ℕ). at t c.args.mark.now) c.self.view_is ∙ c.requires in
    let one : same c.args.mark.now c.args.other ≡ true = ap is_eq (sym c.compare.ensures) ∙ equal c.compare.result (sym c.eq.ensures ∙ c.if-eq.true) in
    subst (λ (t : Keyed ℕ). t ≡ with_at (with_at t c.args.mark.now None) c.args.other (Some c.args.number)) c.self.view_is
    (turned_itself c.self.inside.rows c.args.mark.now c.args.other c.args.number c.self.invariant there one)
