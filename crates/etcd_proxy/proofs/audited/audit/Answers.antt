-- Each exit is one end of an audit.
use Rattle.std.proofs.Common.{List, ℕ, refl, ◌∙◌, subst}
use Rattle.audit_model.specs.declared.ending.AuditEnding.{AuditEnding}
use Rattle.audit_input.specs.Audits.{Audits}
use Rattle.audit_input.proofs.Turns.{left_off}
use Rattle.etcd_proxy.proofs.AuditEndings.{ends_open, ends_wanting}
use Rattle.etcd_proxy.specs.Run.{Prints}
use Rattle.etcd_proxy.proofs.audited.audit.Goals as goal

pub returns-in-Ok-clause-ends : goal.returns-in-Ok-clause-ends
returns-in-Ok-clause-ends g c =
    let w = c.in-Ok-Open-default in
    let written = g.K.Sink.written in
    let told = g.E.Sink.written in
    let faults = g.K.Sink.faults in
    let told_faults = g.E.Sink.faults in
    let open_end = subst (λ (e : AuditEnding). Audits (g.S.Source.left c.args.input.now) (g.S.Source.left c.audit_source.new.input) e w.counts) w.field-0-0-is w.ensures.ended in
    let printed =
    subst
    (λ (text : List ℕ). Prints (written c.args.output.now) (written c.print.new.output) (faults c.args.output.now) (faults c.print.new.output) (told c.args.errors.now) (told c.print.new.errors) (told_faults c.args.errors.now) (told_faults c.print.new.errors) text c.print.result)
    (c.as_slice.ensures.value ∙ c.in-Ok.ensures) c.print.ensures in
    ends_open _ _ _ _ _ _ _ _ _ _ _ w.counts open_end printed

pub returns-in-Err-clause-ends : goal.returns-in-Err-clause-ends
returns-in-Err-clause-ends g c =
    ends_wanting _ _ _ _ _ _ _ _ _ _ _ (left_off _ _ _ _ c.in-Ok-Open-default.ensures.ended) c.no_memory.ensures.status refl c.no_memory.ensures.tells

pub returns-in-Err-refused_text-clause-ends : goal.returns-in-Err-refused_text-clause-ends
returns-in-Err-refused_text-clause-ends g c =
    ends_wanting _ _ _ _ _ _ _ _ _ _ _ (left_off _ _ _ _ c.in-Ok-Refused-default.ensures.ended) c.no_memory-in-Err-refused_text.ensures.status refl c.no_memory-in-Err-refused_text.ensures.tells
