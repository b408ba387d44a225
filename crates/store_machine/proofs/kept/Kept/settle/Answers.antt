-- The leases that are due have ended, and the newest revision is applied.
use Rattle.std.proofs.Common.{refl}
use Rattle.std.proofs.lemmas.Result.{err_from_is_err_and}
use Rattle.shop_model.specs.Deadlines.{due}
use Rattle.shop_model.specs.Shop.{all_ended}
use Rattle.store_machine.proofs.Steps.{ended_all}
use Rattle.store_machine.proofs.Parts.{caught, holds_with}
use Rattle.store_machine.proofs.kept.Kept.settle.Goals as goal

pub returns-clause-ok : goal.returns-clause-ok
returns-clause-ok c = λ s h.
    let all = all_ended (due c.args.now s.deadlines) s in
    caught (record c.end_due.new.self { deadlines = c.look.new.self }) c.catch_up.new.store all c.in_ok-catch_up.ensures.ok
    (holds_with c.end_due.new.self c.end_due.new.self.store c.look.new.self all refl c.look.ensures (c.in_ok-end_due.ensures.ok s h))

pub returns-in_err-catch_up-clause-err : goal.returns-in_err-catch_up-clause-err
returns-in_err-catch_up-clause-err c =
    let p = err_from_is_err_and c.from_residual-in_err-catch_up.result c.from_residual-in_err-catch_up.ensures.1 in
    rw p.1
    (λ s h. ended_all c.args.now s (record c.end_due.new.self { store = c.catch_up.new.store; deadlines = c.look.new.self })
    (holds_with c.end_due.new.self c.catch_up.new.store c.look.new.self (all_ended (due c.args.now s.deadlines) s) c.in_err-catch_up.ensures.err c.look.ensures (c.in_ok-end_due.ensures.ok s h)))
