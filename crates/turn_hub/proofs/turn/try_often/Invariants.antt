use Rattle.std.proofs.Common.{◌≡◌}
use Rattle.turn_hub.specs.Seats.{Sits}
use Rattle.turn_hub.proofs.turn.try_often.Given as goal

abbrev pub invariant-tries : goal.invariant-tries
invariant-tries g l = record {
  sits : Sits l.board.table_id l.board.key.machine.value l.board.key.base l.seat.table_id l.seat.me.0;
  id : l.seat.id ≡ l.fn.seat.id;
  me : l.seat.me ≡ l.fn.seat.me;
}
