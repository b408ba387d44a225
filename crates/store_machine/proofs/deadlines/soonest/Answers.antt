-- Nor does one more, or any of all.
use Rattle.std.proofs.Common.{◌≡◌, List, take, get_or, sym, ap, ◌∙◌, arith}
use Rattle.std.proofs.lemmas.List.{take_more, take_all}
use Rattle.shop_model.specs.declared.deadline.Deadline.{Deadline}
use Rattle.store_machine.specs.Order.{are_from}
use Rattle.store_machine.proofs.DeadlineOrder.{from_more}
use Rattle.store_machine.proofs.deadlines.soonest.Goals as goal

pub loop-deadline-preserved : goal.loop-deadline-preserved
loop-deadline-preserved c =
    let ds = c.args.deadlines.now in
    let i = c.loop-deadline.deadline-index in
    let none : Deadline = record { number = 0; at = 0 } in
    let e = c.min-soonest.ensures in
    ap (λ (l : List Deadline). are_from c.min-soonest.result l) (take_more ds i none c.loop-deadline-test.true)
    ∙ from_more c.min-soonest.result c.loop-deadline.soonest (get_or ds i none) (take i ds) (omega (arith, e)) (omega (arith, e)) c.loop-deadline.invariant

pub returns : goal.returns
returns c =
    ap (λ (l : List Deadline). are_from c.loop-deadline.soonest l) (sym (take_all c.loop-deadline.deadline-index c.args.deadlines.now c.loop-deadline-test.false)) ∙ c.loop-deadline.invariant
