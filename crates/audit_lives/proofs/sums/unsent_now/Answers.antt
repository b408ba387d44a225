-- An ok reply by what was asked under its ticket, and whether a call names it.
use Rattle.std.proofs.Common.{ℕ, Bool, Option, None, Some, cond, sym, ◌∙◌, ap}
use Rattle.etcd_types.specs.declared.answer.Answer.{Answer}
use Rattle.script_text.specs.declared.item.Item.TheVariants as item
use Rattle.audit_lives.specs.Sums.{unsent_now}
use Rattle.audit_lives.proofs.sums.unsent_now.Goals as goal

pub returns-in-Done : goal.returns-in-Done
returns-in-Done c = λ items k t.
    c.ticket_if.ensures
    ∙ ap (λ (b : Bool). cond b (Some (c.in-Reply.proxy, c.in-Reply.ticket)) None) (c.is_unsent.ensures items k t)
    ∙ sym (ap (unsent_now items) (c.in-Reply.is ∙ ap (λ (a : Answer). item.Reply c.in-Reply.proxy c.in-Reply.ticket a) c.in-Done.is))
