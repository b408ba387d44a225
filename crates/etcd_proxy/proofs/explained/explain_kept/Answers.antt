-- Each exit is one end of an audit that explains.
use Rattle.std.proofs.Common.{List, ℕ, refl, ◌∙◌, subst}
use Rattle.audit_model.specs.declared.ending.AuditEnding.{AuditEnding}
use Rattle.audit_input.specs.Audits.{Audits, Stops}
use Rattle.audit_input.proofs.Turns.{left_off}
use Rattle.etcd_proxy.proofs.AuditEndings.{ends_open, ends_past, ends_unread, ends_wanting}
use Rattle.etcd_proxy.proofs.Explanations.{ends_so, explains_refused}
use Rattle.etcd_proxy.specs.Run.{Prints, Tells}
use Rattle.etcd_proxy.proofs.explained.explain_kept.Goals as goal

pub returns-in-Ok-clause-ends : goal.returns-in-Ok-clause-ends
returns-in-Ok-clause-ends g c =
    let w = c.in-Ok-Open-default in
    let written = g.K.Sink.written in
    let told = g.E.Sink.written in
    let faults = g.K.Sink.faults in
    let told_faults = g.E.Sink.faults in
    let open_end = subst (λ (e : AuditEnding). Audits (g.S.Source.left c.args.input.now) (g.S.Source.left c.audit_kept.new.input) e w.counts) w.field-0-0-is w.ensures.ended in
    let printed =
    subst
    (λ (text : List ℕ). Prints (written c.args.output.now) (written c.print.new.output) (faults c.args.output.now) (faults c.print.new.output) (told c.args.errors.now) (told c.print.new.errors) (told_faults c.args.errors.now) (told_faults c.print.new.errors) text c.print.result)
    (c.as_slice.ensures.value ∙ c.in-Ok.ensures) c.print.ensures in
    ends_so _ _ _ _ _ _ _ _ _ _ _ (ends_open _ _ _ _ _ _ _ _ _ _ _ w.counts open_end printed)

pub returns-in-Err-clause-ends : goal.returns-in-Err-clause-ends
returns-in-Err-clause-ends g c =
    ends_so _ _ _ _ _ _ _ _ _ _ _
    (ends_wanting _ _ _ _ _ _ _ _ _ _ _ (left_off _ _ _ _ c.in-Ok-Open-default.ensures.ended) c.no_memory.ensures.status refl c.no_memory.ensures.tells)

pub returns-in-Ok-explained_text-clause-ends : goal.returns-in-Ok-explained_text-clause-ends
returns-in-Ok-explained_text-clause-ends g c =
    let w = c.in-Ok-Refused-default in
    let told = g.E.Sink.written in
    let told_faults = g.E.Sink.faults in
    let refused_end = subst (λ (e : AuditEnding). Audits (g.S.Source.left c.args.input.now) (g.S.Source.left c.audit_kept.new.input) e w.field-0-1) w.field-0-0-is w.ensures.ended in
    let tells =
    subst (λ (text : List ℕ). Tells (told c.args.errors.now) (told c.tell.new.errors) (told_faults c.args.errors.now) (told_faults c.tell.new.errors) text)
    c.as_slice-in-Ok-explained_text.ensures.value c.tell.ensures in
    explains_refused _ _ _ _ _ _ _ _ _ _ _ w.number w.refusal w.field-0-1 c.in-Ok-explained_text.text.items refused_end c.refused_status.ensures refl c.in-Ok-explained_text.ensures tells

pub returns-in-Err-explained_text-clause-ends : goal.returns-in-Err-explained_text-clause-ends
returns-in-Err-explained_text-clause-ends g c =
    let wanting = c.no_memory-in-Err-explained_text in
    ends_so _ _ _ _ _ _ _ _ _ _ _
    (ends_wanting _ _ _ _ _ _ _ _ _ _ _ (left_off _ _ _ _ c.in-Ok-Refused-default.ensures.ended) wanting.ensures.status refl wanting.ensures.tells)

pub returns-in-Ok-PastLimit-default-clause-ends : goal.returns-in-Ok-PastLimit-default-clause-ends
returns-in-Ok-PastLimit-default-clause-ends g c =
    let w = c.in-Ok-PastLimit-default in
    let past_end = subst (λ (e : AuditEnding). Audits (g.S.Source.left c.args.input.now) (g.S.Source.left c.audit_kept.new.input) e w.field-0-1) w.field-0-0-is w.ensures.ended in
    ends_so _ _ _ _ _ _ _ _ _ _ _
    (ends_past _ _ _ _ _ _ _ _ _ _ _ w.field-0-1 past_end refl refl c.tell-in-Ok-PastLimit-default.ensures)

pub returns-in-Err-ReadFault-clause-ends : goal.returns-in-Err-ReadFault-clause-ends
returns-in-Err-ReadFault-clause-ends g c =
    let w = c.in-Err-ReadFault in
    ends_so _ _ _ _ _ _ _ _ _ _ _
    (ends_unread _ _ _ _ _ _ _ _ _ _ _ (subst (Stops (g.S.Source.left c.args.input.now) (g.S.Source.left c.audit_kept.new.input)) w.field-0-is w.ensures.stopped) refl refl c.tell-in-Err-ReadFault.ensures)

pub returns-in-Err-NoMemory-clause-ends : goal.returns-in-Err-NoMemory-clause-ends
returns-in-Err-NoMemory-clause-ends g c =
    let w = c.in-Err-NoMemory in
    let wanting = c.no_memory-in-Err-NoMemory in
    ends_so _ _ _ _ _ _ _ _ _ _ _
    (ends_wanting _ _ _ _ _ _ _ _ _ _ _ (subst (Stops (g.S.Source.left c.args.input.now) (g.S.Source.left c.audit_kept.new.input)) w.field-0-is w.ensures.stopped) wanting.ensures.status refl wanting.ensures.tells)
