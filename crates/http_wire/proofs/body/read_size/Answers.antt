-- The line is held.
use Rattle.std.proofs.Common.{ℕ, List, Ok, subst, sym, rules}
use Rattle.std.specs.Io.KnownBytes.{prepend_known}
use Rattle.http_wire.specs.Held.{held, ahead, ReadsAhead}
use Rattle.http_wire.specs.Steps.{SizeRead}
use Rattle.http_wire.proofs.Sizes.{held_bad, held_good}
use Rattle.http_wire.proofs.body.read_size.Goals as goal

pub returns-in_default-clause-read : goal.returns-in_default-clause-read
returns-in_default-clause-read g c =
    let at = rw c.in-At.is at c.in_ok-length.ensures in
    held_bad (ahead (g.S.Source.left c.args.source.now) c.args.buffer.now) (g.S.Source.left c.find_end.new.source) (held c.find_end.new.buffer) c.in-At.length
    c.find_end.ensures.ahead at.found at.within.0 (search rules)

pub returns-in-Some-clause-read : goal.returns-in-Some-clause-read
returns-in-Some-clause-read g c =
    let at = rw c.in-At.is at c.in_ok-length.ensures in
    let b = g.S.Source.left c.find_end.new.source in
    let before = held c.find_end.new.buffer in
    let good = held_good (ahead (g.S.Source.left c.args.source.now) c.args.buffer.now) b before c.in-At.length c.in-Some.size
    c.find_end.ensures.ahead at.found at.within.0 (search rules) in
    subst (λ (l : List ℕ). ReadsAhead SizeRead (ahead (g.S.Source.left c.args.source.now) c.args.buffer.now) (prepend_known l b) (Ok c.in-Some.size)) (sym c.let_go.ensures) good
