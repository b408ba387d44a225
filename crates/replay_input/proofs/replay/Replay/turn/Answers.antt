-- Each end of a turn.
use Rattle.std.proofs.Common.{arith, sym, ◌∙◌, ◌++◌, take, length, ℕ, length-take}
use Rattle.std.proofs.lemmas.Result.{err_from_is_err_and}
use Rattle.replay_input.proofs.Turns.{has_writes, read_failed, end_stopped, end_reached, piece_stopped, flush_stopped, goes_on, refuses, none_read, not_read}
use Rattle.replay_input.proofs.InTurn.{one_more, all_with, all_but}
use Rattle.replay_input.proofs.replay.Replay.turn.Goals as goal

pub returns-in-Err-clause-turned : goal.returns-in-Err-clause-turned
returns-in-Err-clause-turned g c = λ left start read h.
    read_failed left start _ _ _ c.args.self.now read h c.in-Err.ensures.bytes

pub returns-in_err-finish-clause-turned : goal.returns-in_err-finish-clause-turned
returns-in_err-finish-clause-turned g c = λ left start read h.
    let p = err_from_is_err_and c.from_residual.result c.from_residual.ensures.1 in
    let w = has_writes left start _ _ c.args.self.now read h in
    rw (p.1, p.2) (end_stopped left start _ _ _ _ c.args.self.now read c.in_err-finish.field-0.0 h (none_read _ _ c.in-Ok.count c.read.new.room c.if-count-eq0.true c.in-Ok.ensures.bytes.0) (c.in-Ok.ensures.bytes.1 c.if-count-eq0.true (omega (arith, c.requires.room))) c.in_err-finish.ensures.no_read (c.in_err-finish.ensures.stopped start read h.follows w))

pub returns-then-count-eq0-clause-turned : goal.returns-then-count-eq0-clause-turned
returns-then-count-eq0-clause-turned g c = λ left start read h.
    let w = has_writes left start _ _ c.args.self.now read h in
    end_reached left start _ _ _ _ c.args.self.now read c.in_ok-finish.field-0 h (none_read _ _ c.in-Ok.count c.read.new.room c.if-count-eq0.true c.in-Ok.ensures.bytes.0) (c.in-Ok.ensures.bytes.1 c.if-count-eq0.true (omega (arith, c.requires.room))) (c.in_ok-finish.ensures.finished start read h.follows w)

pub returns-in_err-ending-clause-turned : goal.returns-in_err-ending-clause-turned
returns-in_err-ending-clause-turned g c = λ left start read h.
    let p = err_from_is_err_and c.from_residual-in_err-ending.result c.from_residual-in_err-ending.ensures.1 in
    let w = has_writes left start _ _ c.args.self.now read h in
    rw (p.1, p.2) (piece_stopped left start _ _ _ _ c.args.self.now read (take c.in-Ok.count c.read.new.room) c.in_err-ending.field-0.0 h (omega (arith, length-take {A = ℕ}, c.requires.small)) c.in-Ok.ensures.bytes.0 c.in_err-ending.ensures.no_read (c.in_err-ending.ensures.stopped start read h.follows w))

pub returns-in_err-flush-clause-turned : goal.returns-in_err-flush-clause-turned
returns-in_err-flush-clause-turned g c = λ left start read h.
    let p = err_from_is_err_and c.from_residual-in_err-flush.result c.from_residual-in_err-flush.ensures.1 in
    let w = has_writes left start _ _ c.args.self.now read h in
    rw (p.1, p.2) (flush_stopped left start _ _ _ _ _ c.args.self.now c.feed.new.self read (take c.in-Ok.count c.read.new.room) c.in_ok-ending.ending c.in_err-flush.field-0.0 h (omega (arith, length-take {A = ℕ}, c.requires.small)) c.in-Ok.ensures.bytes.0 (not_read c.in_err-flush.field-0.0 c.in_err-flush.ensures.fault) (c.in_ok-ending.ensures.fed start read h.follows w) c.in_err-flush.ensures.err)

pub returns-then-is_open-clause-turned : goal.returns-then-is_open-clause-turned
returns-then-is_open-clause-turned g c = λ left start read h.
    let w = has_writes left start _ _ c.args.self.now read h in
    (_, goes_on left start _ _ _ _ _ c.args.self.now c.feed.new.self c.flush.new.self read (take c.in-Ok.count c.read.new.room) c.in_ok-ending.ending h c.in-Ok.ensures.bytes.0 (sym c.is_open.ensures ∙ c.if-is_open.true) (c.in_ok-ending.ensures.fed start read h.follows w) c.in_ok-flush.ensures.ok c.in_ok-flush.ensures.same c.in_ok-flush.ensures.nothing)

pub returns-else-is_open-clause-turned : goal.returns-else-is_open-clause-turned
returns-else-is_open-clause-turned g c = λ left start read h.
    let w = has_writes left start _ _ c.args.self.now read h in
    refuses left start _ _ _ _ _ c.args.self.now c.feed.new.self c.flush.new.self read (take c.in-Ok.count c.read.new.room) c.in_ok-ending.ending h (omega (arith, length-take {A = ℕ}, c.requires.small)) c.in-Ok.ensures.bytes.0 (sym c.is_open.ensures ∙ c.if-is_open.false) (c.in_ok-ending.ensures.fed start read h.follows w) c.in_ok-flush.ensures.ok c.in_ok-flush.ensures.nothing

pub returns-in-Err-clause-in_turn : goal.returns-in-Err-clause-in_turn
returns-in-Err-clause-in_turn g c = λ from start read h r.
    all_but (g.S.Source.reads) (g.S.Source.left) from c.args.input.now c.read.new.self start (g.K.Sink.written c.args.output.now) c.args.self.now read h r (length c.args.room.now) _ c.requires.small c.in-Err.ensures.made c.in-Err.ensures.bytes

pub returns-in_err-finish-clause-in_turn : goal.returns-in_err-finish-clause-in_turn
returns-in_err-finish-clause-in_turn g c = λ from start read h r.
    let p = err_from_is_err_and c.from_residual.result c.from_residual.ensures.1 in
    rw p.1 (all_with (g.S.Source.reads) (g.S.Source.left) from c.args.input.now c.read.new.self start (g.K.Sink.written c.args.output.now) c.args.self.now read h r (length c.args.room.now) (take c.in-Ok.count c.read.new.room) c.requires.small c.in-Ok.ensures.made c.in-Ok.ensures.bytes.0)

pub returns-then-count-eq0-clause-in_turn : goal.returns-then-count-eq0-clause-in_turn
returns-then-count-eq0-clause-in_turn g c = λ from start read h r.
    all_with (g.S.Source.reads) (g.S.Source.left) from c.args.input.now c.read.new.self start (g.K.Sink.written c.args.output.now) c.args.self.now read h r (length c.args.room.now) (take c.in-Ok.count c.read.new.room) c.requires.small c.in-Ok.ensures.made c.in-Ok.ensures.bytes.0

pub returns-in_err-ending-clause-in_turn : goal.returns-in_err-ending-clause-in_turn
returns-in_err-ending-clause-in_turn g c = λ from start read h r.
    let p = err_from_is_err_and c.from_residual-in_err-ending.result c.from_residual-in_err-ending.ensures.1 in
    rw p.1 (all_with (g.S.Source.reads) (g.S.Source.left) from c.args.input.now c.read.new.self start (g.K.Sink.written c.args.output.now) c.args.self.now read h r (length c.args.room.now) (take c.in-Ok.count c.read.new.room) c.requires.small c.in-Ok.ensures.made c.in-Ok.ensures.bytes.0)

pub returns-in_err-flush-clause-in_turn : goal.returns-in_err-flush-clause-in_turn
returns-in_err-flush-clause-in_turn g c = λ from start read h r.
    let p = err_from_is_err_and c.from_residual-in_err-flush.result c.from_residual-in_err-flush.ensures.1 in
    rw p.1 (all_with (g.S.Source.reads) (g.S.Source.left) from c.args.input.now c.read.new.self start (g.K.Sink.written c.args.output.now) c.args.self.now read h r (length c.args.room.now) (take c.in-Ok.count c.read.new.room) c.requires.small c.in-Ok.ensures.made c.in-Ok.ensures.bytes.0)

pub returns-then-is_open-clause-in_turn : goal.returns-then-is_open-clause-in_turn
returns-then-is_open-clause-in_turn g c = λ from start read h r.
    let left = g.S.Source.left in
    let w = has_writes (left from) start _ _ c.args.self.now read h in
    (read ++ (take c.in-Ok.count c.read.new.room), (goes_on (left from) start _ _ _ _ _ c.args.self.now c.feed.new.self c.flush.new.self read (take c.in-Ok.count c.read.new.room) c.in_ok-ending.ending h c.in-Ok.ensures.bytes.0 (sym c.is_open.ensures ∙ c.if-is_open.true) (c.in_ok-ending.ensures.fed start read h.follows w) c.in_ok-flush.ensures.ok c.in_ok-flush.ensures.same c.in_ok-flush.ensures.nothing, one_more (g.S.Source.reads) (g.S.Source.left) from c.args.input.now c.read.new.self start (g.K.Sink.written c.args.output.now) c.args.self.now read h r (length c.args.room.now) (take c.in-Ok.count c.read.new.room) c.requires.small c.in-Ok.ensures.made))

pub returns-else-is_open-clause-in_turn : goal.returns-else-is_open-clause-in_turn
returns-else-is_open-clause-in_turn g c = λ from start read h r.
    all_with (g.S.Source.reads) (g.S.Source.left) from c.args.input.now c.read.new.self start (g.K.Sink.written c.args.output.now) c.args.self.now read h r (length c.args.room.now) (take c.in-Ok.count c.read.new.room) c.requires.small c.in-Ok.ensures.made c.in-Ok.ensures.bytes.0
