-- One more is put off in its place; behind the last one of the number all have higher ones.
use Rattle.std.proofs.Common.{◌≡◌, ◌<◌, ℕ, List, length, sym, ap, ◌∙◌, arith, rules}
use Rattle.std.proofs.lemmas.List.Edits.{map_over_more}
use Rattle.shop_model.specs.declared.deadline.Deadline.{Deadline}
use Rattle.shop_model.specs.Deadlines.{deadline_number, put_off}
use Rattle.store_world.specs.Rising.{place_in}
use Rattle.store_machine.proofs.DeadlineOrder.{begun_so, same_long, ended_so}
use Rattle.store_machine.proofs.deadlines.put_off.Goals as goal

pub loop-place-init : goal.loop-place-init
loop-place-init c =
    let ds = c.args.deadlines.now.items in
    let e = c.place_of-place.ensures.place ∙ ap (λ (l : List Deadline). place_in deadline_number c.args.number l) c.as_slice.ensures.value in
    let w = c.place_of-place.ensures.within in
    let l = ap (λ (l : List Deadline). length l) c.as_slice.ensures.value in
    record { from = omega (arith, e); within = omega (arith, w, l); done = begun_so c.args.number c.args.at c.place_of-place.result ds e }

pub loop-place-preserved : goal.loop-place-preserved
loop-place-preserved c =
    let ds = c.args.deadlines.now.items in
    let ys = c.loop-place.deadlines.items in
    let i = c.loop-place.place in
    let f : Deadline → Deadline = put_off c.args.number c.args.at in
    let within : i < length ds = (let same = ap (λ (l : List Deadline). length l) c.loop-place.invariant.done ∙ same_long f i ds in let long = c.loop-place.deadlines.ok.0 in let few = c.len.ensures in let lt = c.loop-place-test.true in omega (arith, same, long, few, lt)) in
    let from = c.loop-place.invariant.from in
    record {
      from = omega (arith, from);
      within = omega (arith, within);
      done = rw c.put_off_one.ensures (map_over_more f ds ys i c.index_mut.result.now within c.loop-place.invariant.done c.index_mut.ensures.value);
    }

pub returns-else-index-number : goal.returns-else-index-number
returns-else-index-number c =
    let ds = c.args.deadlines.now.items in
    let ys = c.loop-place.deadlines.items in
    let i = c.loop-place.place in
    let f : Deadline → Deadline = put_off c.args.number c.args.at in
    let within : i < length ds = (let same = ap (λ (l : List Deadline). length l) c.loop-place.invariant.done ∙ same_long f i ds in let long = c.loop-place.deadlines.ok.0 in let few = c.len.ensures in let lt = c.loop-place-test.true in omega (arith, same, long, few, lt)) in
    ended_so c.args.number c.args.at i ds ys c.index.result.now c.requires c.loop-place.invariant.from within c.loop-place.invariant.done c.index.ensures
    (λ q. let e = c.if-index-number.false in search (q, e, rules))
