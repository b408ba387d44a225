-- One more has ended, or all have.
use Rattle.std.proofs.Common.{take, get_or, sym, ◌∙◌, subst}
use Rattle.std.proofs.lemmas.List.{take_more, take_all}
use Rattle.std.proofs.lemmas.Result.{err_from_is_err_and}
use Rattle.shop_model.specs.Shop.{all_ended}
use Rattle.store_machine.specs.declared.kept.Kept.{Kept}
use Rattle.store_machine.specs.Holding.{Holds}
use Rattle.store_machine.proofs.Steps.{ended_none}
use Rattle.store_machine.proofs.Parts.{one_more_ended, ended_up_to, ended_each}
use Rattle.store_machine.proofs.kept.Kept.end_due.Goals as goal

pub returns-in_err-due-clause-err : goal.returns-in_err-due-clause-err
returns-in_err-due-clause-err c =
    let p = err_from_is_err_and c.from_residual.result c.from_residual.ensures.1 in rw p.1 (λ s h. ended_none c.args.now s c.args.self.now h)

pub loop-number-init : goal.loop-number-init
loop-number-init c = record { ended = λ s h. h; room = c.requires.room }

pub end-requires : goal.end-requires
end-requires c = record { room = c.loop-number.invariant.room }

pub loop-number-preserved : goal.loop-number-preserved
loop-number-preserved c =
    let all = c.as_slice-number-items.result.now in
    let i = c.loop-number.number-index in
    record {
      ended = λ s h.
          one_more_ended c.end.new.self all i (get_or all i 0) s c.loop-number-test.true (take_more all i 0 c.loop-number-test.true)
          (c.in_ok-end.ensures.ok (all_ended (take i all) s) (c.loop-number.invariant.ended s h));
      room = c.in_ok-end.ensures.room;
    }

pub returns-in_err-end-clause-err : goal.returns-in_err-end-clause-err
returns-in_err-end-clause-err c =
    let p = err_from_is_err_and c.from_residual-in_err-end.result c.from_residual-in_err-end.ensures.1 in
    let all = c.as_slice-number-items.result.now in
    let i = c.loop-number.number-index in
    rw p.1
    (λ s h. ended_up_to c.args.now s c.args.self.now c.end.new.self i all (c.as_slice-number-items.ensures ∙ c.in_ok-due.ensures) h
    (subst (λ (k : Kept). Holds k (all_ended (take i all) s)) (sym c.in_err-end.ensures.err) (c.loop-number.invariant.ended s h)))

pub returns-clause-ok : goal.returns-clause-ok
returns-clause-ok c = λ s h.
    let all = c.as_slice-number-items.result.now in
    let i = c.loop-number.number-index in
    ended_each c.args.now s c.args.self.now c.loop-number.self all (take i all) (c.as_slice-number-items.ensures ∙ c.in_ok-due.ensures) (take_all i all c.loop-number-test.false) h
    (c.loop-number.invariant.ended s h)

pub returns-clause-room : goal.returns-clause-room
returns-clause-room c = c.loop-number.invariant.room
