use Rattle.std.proofs.Common.{◌≡◌}
use Rattle.turn_hub.specs.Seats.{Sits}
use Rattle.turn_hub.proofs.turn.take_turn.Given as goal

abbrev pub invariant-parks : goal.invariant-parks
invariant-parks g l = record {
  sits : Sits l.board.table_id l.board.key.machine.value l.board.key.base l.seat.table_id l.seat.me.0;
  me : l.seat.me ≡ l.fn.seat.me;
}
