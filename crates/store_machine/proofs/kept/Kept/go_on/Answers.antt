-- What comes before the event was done, or wasn't; and then the event.
use Rattle.std.proofs.Common.{inl, inr}
use Rattle.std.proofs.lemmas.Result.{err_from_is_err_and}
use Rattle.shop_model.specs.Shop.{settled}
use Rattle.store_machine.proofs.kept.Kept.go_on.Goals as goal

pub returns-clause-ok : goal.returns-clause-ok
returns-clause-ok c = λ s h. c.in_ok-act.ensures.ok (settled c.args.now s) (c.in_ok-settle.ensures.ok s h)

pub returns-in_err-settle-clause-err : goal.returns-in_err-settle-clause-err
returns-in_err-settle-clause-err c =
    let p = err_from_is_err_and c.from_residual.result c.from_residual.ensures.1 in rw p.1 (λ s h. inl (c.in_err-settle.ensures.err s h))

pub returns-in_err-act-clause-err : goal.returns-in_err-act-clause-err
returns-in_err-act-clause-err c =
    let p = err_from_is_err_and c.from_residual-in_err-act.result c.from_residual-in_err-act.ensures.1 in
    rw p.1 (λ s h. inr (c.in_err-act.ensures.err (settled c.args.now s) (c.in_ok-settle.ensures.ok s h)))
