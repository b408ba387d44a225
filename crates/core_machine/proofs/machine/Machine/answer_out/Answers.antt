-- What was heard is what the definition hears, and waiting writes go on.
use Rattle.std.proofs.Common.{◌≡◌, Option, sym, ap, subst, ◌∙◌}
use Rattle.etcd_types.specs.declared.answer.Answer.{Answer}
use Rattle.etcd_types.specs.declared.record.Header.{Header}
use Rattle.core_model.specs.Heard.{heard}
use Rattle.core_model.specs.Stepped.{noted}
use Rattle.core_machine.specs.Answers.{delivered, Hears}
use Rattle.core_machine.specs.Keeping.{Kept}
use Rattle.core_machine.proofs.Hearing.{answered_so, ranges_heard}
use Rattle.core_machine.proofs.machine.Machine.answer_out.Goals as goal

pub returns-clause-step : goal.returns-clause-step
returns-clause-step c =
    let k = c.args.self.now in
    let h = c.hear.new.self in
    let told : c.in-Ok.heard ≡ heard k.core.settings.namespace c.args.answer =
    c.in-Ok.ensures ∙ ap (λ (v : Kept). heard v.core.settings.namespace c.args.answer) c.self.view_is in
    let with_header : Hears k c.args.now c.args.call c.in-Ok.heard (delivered c.args.answer) h =
    subst (λ (d : Option Header). Hears k c.args.now c.args.call c.in-Ok.heard d h) c.delivered-delivered.ensures c.in-Ok-hear.ensures.ok in
    let hears : Hears k c.args.now c.args.call (heard k.core.settings.namespace c.args.answer) (delivered c.args.answer) h =
    subst (λ (x : Option Answer). Hears k c.args.now c.args.call x (delivered c.args.answer) h) told with_header in
    answered_so k h c.args.now c.args.call c.args.answer c.requires.out hears ∙ ap (λ (v : Kept). noted v.core) (sym c.go_on.ensures)

pub returns-clause-ranges : goal.returns-clause-ranges
returns-clause-ranges c =
    ap (λ (v : Kept). v.ranges) c.go_on.ensures
    ∙ ranges_heard c.args.self.now c.hear.new.self c.args.now c.args.call c.in-Ok.heard c.delivered-delivered.result c.requires.out c.in-Ok-hear.ensures.ok
