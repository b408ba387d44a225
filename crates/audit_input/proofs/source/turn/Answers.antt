-- Each end of a turn.
use Rattle.std.proofs.Common.{arith, sym, ◌∙◌, take, ℕ, length-take}
use Rattle.std.proofs.lemmas.Result.{err_from_is_err_and}
use Rattle.audit_input.proofs.Turns.{read_failed, end_stopped, end_reached, piece_stopped, goes_on, refuses, none_read}
use Rattle.audit_input.proofs.source.turn.Goals as goal

pub returns-in-Err-clause-turned : goal.returns-in-Err-clause-turned
returns-in-Err-clause-turned g c = λ left read h. read_failed left _ _ c.args.reading.now read h c.in-Err.ensures.bytes

pub returns-in_err-take_end-clause-turned : goal.returns-in_err-take_end-clause-turned
returns-in_err-take_end-clause-turned g c = λ left read h.
    let p = err_from_is_err_and c.from_residual.result c.from_residual.ensures.1 in
    rw (p.1, p.2) (end_stopped left _ _ c.args.reading.now read h (none_read _ _ c.in-Ok.count c.read.new.room c.if-count-eq0.true c.in-Ok.ensures.bytes.0))

pub returns-then-count-eq0-clause-turned : goal.returns-then-count-eq0-clause-turned
returns-then-count-eq0-clause-turned g c = λ left read h.
    end_reached left _ _ c.args.reading.now c.take_end.new.self read c.in_ok-take_end.field-0 h (none_read _ _ c.in-Ok.count c.read.new.room c.if-count-eq0.true c.in-Ok.ensures.bytes.0) (c.in-Ok.ensures.bytes.1 c.if-count-eq0.true (omega (arith, c.requires.room))) (c.in_ok-take_end.ensures read h.follows)

pub returns-in_err-ending-clause-turned : goal.returns-in_err-ending-clause-turned
returns-in_err-ending-clause-turned g c = λ left read h.
    let p = err_from_is_err_and c.from_residual-in_err-ending.result c.from_residual-in_err-ending.ensures.1 in
    rw (p.1, p.2) (piece_stopped left _ _ c.args.reading.now read (take c.in-Ok.count c.read.new.room) h (omega (arith, length-take {A = ℕ}, c.requires.small)) c.in-Ok.ensures.bytes.0)

pub returns-then-is_open-clause-turned : goal.returns-then-is_open-clause-turned
returns-then-is_open-clause-turned g c = λ left read h.
    (_, goes_on left _ _ c.args.reading.now c.feed.new.self read (take c.in-Ok.count c.read.new.room) c.in_ok-ending.ending h c.in-Ok.ensures.bytes.0 (sym c.is_open.ensures ∙ c.if-is_open.true) (c.in_ok-ending.ensures.taken read h.follows))

pub returns-else-is_open-clause-turned : goal.returns-else-is_open-clause-turned
returns-else-is_open-clause-turned g c = λ left read h.
    refuses left _ _ c.args.reading.now c.feed.new.self read (take c.in-Ok.count c.read.new.room) c.in_ok-ending.ending h (omega (arith, length-take {A = ℕ}, c.requires.small)) c.in-Ok.ensures.bytes.0 (sym c.is_open.ensures ∙ c.if-is_open.false) (c.in_ok-ending.ensures.taken read h.follows)
