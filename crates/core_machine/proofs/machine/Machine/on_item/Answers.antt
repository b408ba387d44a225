-- The leasing stream is there, so what its message leaves has the same ranges.
use Rattle.std.proofs.Common.{sym, ap, ◌∙◌}
use Rattle.core_machine.specs.Keeping.{Kept}
use Rattle.core_machine.proofs.Messages.{opened_at}
use Rattle.core_machine.proofs.machine.Machine.on_item.Goals as goal

pub returns-in-Ok-clause-ranges : goal.returns-in-Ok-clause-ranges
returns-in-Ok-clause-ranges c =
    let there = opened_at c.args.stream c.self.inside.leasing c.in-Some.field-0.now (sym c.in-Some.ensures) in
    let leasing = ap (λ (k : Kept). k.core.leasing) (sym c.self.view_is) ∙ there in
    ap (λ (k : Kept). k.ranges) c.go_on.ensures ∙ ap (λ (k : Kept). k.ranges) (c.in-Ok.ensures.ok c.in-Some.field-0.now leasing)
