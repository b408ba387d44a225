-- The turns, one after the other.
use Rattle.std.proofs.Common.{◌≤◌, sym, arith, ℕ, List, [], length, subst, Ok, length-take, length-append, length-drop}
use Rattle.std.specs.Prelude.{Option}
use Rattle.std.proofs.KnownBytes.{Consumes-nil}
use Rattle.std.proofs.lemmas.Result.{err_from_is_err_and}
use Rattle.replay_model.specs.declared.ending.Ending.{Ending}
use Rattle.outside.specs.Reads.{none}
use Rattle.replay_input.specs.Reads.{LeavesRead}
use Rattle.replay_input.specs.Replays.{Turns, most_at_once}
use Rattle.replay_input.proofs.Turns.{nothing_done, at_start, nothing_taken, rose_since}
use Rattle.replay_input.proofs.replay.replay_script.Goals as goal

pub returns-in_err-room-clause-stopped : goal.returns-in_err-room-clause-stopped
returns-in_err-room-clause-stopped g c =
    let p = err_from_is_err_and c.from_residual.result c.from_residual.ensures.1 in
    rw (p.1, p.2) (nothing_done (g.S.Source.left c.args.input.now) (g.K.Sink.written c.args.output.now))

pub turns-init : goal.turns-init
turns-init g c = record {
  so_far = ([], (at_start (g.S.Source.left c.args.input.now) (g.K.Sink.written c.args.output.now) c.new-replay.result c.new-replay.ensures.follows c.new-replay.ensures.nothing, none c.args.input.now));
  few = nothing_taken c.new-replay.result c.new-replay.ensures.follows;
  room = omega (arith, c.in_ok-room.ensures.len, c.in_ok-room.room.ok.0);
  small = omega (arith, c.in_ok-room.ensures.len, c.in_ok-room.room.ok.0);
  kept_input = omega arith;
  kept_output = omega arith;
}

pub turn-requires-clause-small : goal.turn-requires-clause-small
turn-requires-clause-small g c =
    subst (λ (bytes : List ℕ). length bytes ≤ most_at_once) (sym c.as_mut_slice.ensures.value) c.turns.invariant.small

pub returns-in_err-ending-clause-stopped : goal.returns-in_err-ending-clause-stopped
returns-in_err-ending-clause-stopped g c =
    let p = err_from_is_err_and c.from_residual-in_err-ending.result c.from_residual-in_err-ending.ensures.1 in
    let s = c.turns.invariant.so_far in
    rw (p.1, p.2) (c.in_err-ending.ensures.turned (g.S.Source.left c.args.input.now) (g.K.Sink.written c.args.output.now) s.0 s.1.0)

pub returns-in_err-ending-clause-read_cause : goal.returns-in_err-ending-clause-read_cause
returns-in_err-ending-clause-read_cause g c =
    let p = err_from_is_err_and c.from_residual-in_err-ending.result c.from_residual-in_err-ending.ensures.1 in
    rw (p.1, p.2) (λ e. rose_since _ _ _ c.turns.invariant.kept_input (c.in_err-ending.ensures.read_cause e))

pub returns-in_err-ending-clause-write_cause : goal.returns-in_err-ending-clause-write_cause
returns-in_err-ending-clause-write_cause g c =
    let p = err_from_is_err_and c.from_residual-in_err-ending.result c.from_residual-in_err-ending.ensures.1 in
    rw (p.1, p.2) (λ e. rose_since _ _ _ c.turns.invariant.kept_output (c.in_err-ending.ensures.write_cause e))

pub returns-in-Some-clause-ended : goal.returns-in-Some-clause-ended
returns-in-Some-clause-ended g c =
    let s = c.turns.invariant.so_far in
    let left = g.S.Source.left in
    let written = g.K.Sink.written in
    let P : Option Ending → Type 0 = λ o. Turns (left c.args.input.now) (written c.args.output.now) (left c.turn.new.input) (written c.turn.new.output) c.turn.new.self (Ok o) in
    subst P c.in-Some.is (c.in_ok-ending.ensures.turned (left c.args.input.now) (written c.args.output.now) s.0 s.1.0)

pub turns-preserved : goal.turns-preserved
turns-preserved g c =
    let s = c.turns.invariant.so_far in
    let left = g.S.Source.left in
    let written = g.K.Sink.written in
    let P : Option Ending → Type 0 = λ o. LeavesRead g.S.Source.reads left c.args.input.now c.turn.new.input (written c.args.output.now) (written c.turn.new.output) c.turn.new.self (Ok o) in
    record {
      so_far = subst P c.in-None.is (c.in_ok-ending.ensures.in_turn c.args.input.now (written c.args.output.now) s.0 s.1.0 s.1.1);
      few = c.in_ok-ending.ensures.few (λ i. Ok (c.in-None.is i));
      room = omega (arith, length-take {A = ℕ}, length-append {A = ℕ}, length-drop {A = ℕ}, c.turns.invariant.room, c.turns.room.ok.0);
      small = omega (arith, length-take {A = ℕ}, length-append {A = ℕ}, length-drop {A = ℕ}, c.turns.invariant.small, c.turns.room.ok.0);
      kept_input = omega (arith, c.in_ok-ending.ensures.kept_input);
      kept_output = omega (arith, c.in_ok-ending.ensures.kept_output);
    }

pub returns-in_err-room-clause-in_turn : goal.returns-in_err-room-clause-in_turn
returns-in_err-room-clause-in_turn g c =
    record { read = []; in_turn = none c.args.input.now; consumed = Consumes-nil (g.S.Source.left c.args.input.now) }

pub returns-in_err-ending-clause-in_turn : goal.returns-in_err-ending-clause-in_turn
returns-in_err-ending-clause-in_turn g c =
    let s = c.turns.invariant.so_far in
    c.in_err-ending.ensures.in_turn c.args.input.now (g.K.Sink.written c.args.output.now) s.0 s.1.0 s.1.1

pub returns-in-Some-clause-in_turn : goal.returns-in-Some-clause-in_turn
returns-in-Some-clause-in_turn g c =
    let s = c.turns.invariant.so_far in
    let left = g.S.Source.left in
    let written = g.K.Sink.written in
    let P : Option Ending → Type 0 = λ o. LeavesRead g.S.Source.reads left c.args.input.now c.turn.new.input (written c.args.output.now) (written c.turn.new.output) c.turn.new.self (Ok o) in
    subst P c.in-Some.is (c.in_ok-ending.ensures.in_turn c.args.input.now (written c.args.output.now) s.0 s.1.0 s.1.1)
