-- What was read stands behind what was held.
use Rattle.std.proofs.Common.{◌≡◌, ◌+◌, length, arith, length-take, length-drop, ℕ, ap, ◌∙◌, ◌++◌, take, drop, List, slice_range}
use Rattle.http_wire.specs.Held.{held}
use Rattle.http_wire.proofs.Ahead.{grown_keeps, same_keeps}
use Rattle.http_wire.proofs.Ranges.{range_more, range_kept}
use Rattle.http_wire.proofs.buffer.Buffer.fill.Goals as goal

pub returns-in-Ok-clause-ahead : goal.returns-in-Ok-clause-ahead
returns-in-Ok-clause-ahead g c =
    let b = c.make_room.new.self in
    let room = c.read_behind.new.room.items in
    let piece = take c.in-Ok.count (drop b.end room) in
    grown_keeps (g.S.Source.left c.args.source.now) (g.S.Source.left c.read_behind.new.source) (held c.args.self.now) (slice_range room b.start (b.end + c.in-Ok.count)) piece
    (range_more room b.room.items b.start b.end c.in-Ok.count b.ordered c.read_behind.ensures.front ∙ ap (λ (l : List ℕ). l ++ piece) c.make_room.ensures.held)
    c.in-Ok.ensures.bytes.0

pub returns-in-Ok-clause-grown : goal.returns-in-Ok-clause-grown
returns-in-Ok-clause-grown g c =
    let b = c.make_room.new.self in
    let room = c.read_behind.new.room.items in
    let piece = take c.in-Ok.count (drop b.end room) in
    let size : length piece ≡ c.in-Ok.count = omega (arith, c.in-Ok.ensures.bound, length-take {A = ℕ}, length-drop {A = ℕ}) in
    (piece, range_more room b.room.items b.start b.end c.in-Ok.count b.ordered c.read_behind.ensures.front ∙ ap (λ (l : List ℕ). l ++ piece) c.make_room.ensures.held, size)

pub returns-in-Err-clause-ahead : goal.returns-in-Err-clause-ahead
returns-in-Err-clause-ahead g c =
    let b = c.make_room.new.self in
    let room = c.read_behind.new.room.items in
    same_keeps (g.S.Source.left c.args.source.now) (g.S.Source.left c.read_behind.new.source) (held c.args.self.now) (slice_range room b.start b.end)
    (range_kept room b.room.items b.start b.end b.ordered c.read_behind.ensures.front ∙ c.make_room.ensures.held)
    c.in-Err.ensures.bytes
