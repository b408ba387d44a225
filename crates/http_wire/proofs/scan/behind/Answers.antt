use Rattle.std.proofs.Common.{sym, subst, ◌∙◌}
use Rattle.std.proofs.lemmas.Bool.{false≢true}
use Rattle.http_wire.specs.declared.scan.Place.{Place}
use Rattle.http_wire.specs.declared.scan.Place.TheVariants.{Line, Inside}
use Rattle.http_wire.specs.Places.{IsBehind}
use Rattle.http_wire.proofs.Scanning.{some_there, behind_line, behind_start, behind_inside}
use Rattle.http_wire.proofs.scan.behind.Goals as goal

pub returns-in-Line : goal.returns-in-Line
returns-in-Line c = subst (λ (p : Place). IsBehind c.args.line.now p Line) (sym c.in-Line.is) (behind_line c.args.line.now c.requires)

pub returns-else-is_return : goal.returns-else-is_return
returns-else-is_return c =
    let line = c.args.line.now in
    let some = some_there line c.is_empty.result c.is_empty.ensures c.if-is_empty.false in
    let start = behind_start line c.requires some (λ e. false≢true (sym c.if-is_return.false ∙ c.is_return.ensures.1 e)) in
    subst (λ (p : Place). IsBehind line p Inside) (sym c.in-Start.is) start

pub returns-in_default : goal.returns-in_default
returns-in_default c =
    let line = c.args.line.now in
    let some = some_there line c.is_empty.result c.is_empty.ensures c.if-is_empty.false in
    behind_inside line c.args.place c.requires some c.in_default.not-Line c.in_default.not-Start
