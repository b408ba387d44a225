-- The item is kept, or has a fault.
use Rattle.std.proofs.Common.{refl, ◌∙◌}
use Rattle.audit_text.proofs.Rules.{if_err, on_ok}
use Rattle.audit_text.proofs.Standings.{not_whole, out_of_memory, stands_next}
use Rattle.audit_text.proofs.audit.Audit.item.Goals as goal

pub returns-in-Some-clause-fault : goal.returns-in-Some-clause-fault
returns-in-Some-clause-fault c = λ before st. absurd (not_whole c.args.self.now before c.in-Some.fault st c.in-Some.is)

pub returns-in-Ok-clause-taken : goal.returns-in-Ok-clause-taken
returns-in-Ok-clause-taken c =
    on_ok c.keep.result (λ k before st.
    let t = c.in-Ok.ensures.taken before st in (
      t.0,
      stands_next c.args.self.now c.follow.new.self c.keep.new.self before c.args.item st c.follow.ensures.given c.follow.ensures.whole t.0 t.1 (record { made = k.0; fault = k.1; gave = k.2 }),
    )) c.keep.ensures.ok

pub returns-in-Ok-clause-fault : goal.returns-in-Ok-clause-fault
returns-in-Ok-clause-fault c = if_err c.keep.result (λ f k before st. (out_of_memory f _ k.0, record { fault = k.1; report = k.2 ∙ c.follow.ensures.report ∙ st.report })) c.keep.ensures.err

pub returns-in-Err-clause-fault : goal.returns-in-Err-clause-fault
returns-in-Err-clause-fault c = λ before st. (c.in-Err.ensures.fault before st, record { fault = refl; report = c.follow.ensures.report ∙ st.report })
