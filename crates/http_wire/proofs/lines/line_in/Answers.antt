use Rattle.std.proofs.Common.{ℕ, List, IsTrue, length, refl, sym, subst, arith}
use Rattle.std.proofs.lemmas.List.{take_all}
use Rattle.http_wire.specs.Bodies.{is_unfinished}
use Rattle.http_wire.proofs.Feeds.{first_line, unfinished}
use Rattle.http_wire.proofs.lines.line_in.Goals as goal

pub returns-in-Some : goal.returns-in-Some
returns-in-Some c =
    let found = first_line c.args.bytes.now c.in-Some.index c.in-Some.ensures in
    (omega arith, omega (arith, found.0), found.1)

pub returns-in-None : goal.returns-in-None
returns-in-None c =
    let bytes = c.args.bytes.now in
    (refl, subst (λ (l : List ℕ). IsTrue (is_unfinished l)) (sym (take_all (length bytes) bytes (omega arith))) (unfinished bytes c.in-None.ensures))
