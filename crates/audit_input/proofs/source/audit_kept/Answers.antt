-- The turns, one after the other.
use Rattle.std.proofs.Common.{sym, arith, ℕ, List, [], length, ◌≤◌, subst, Ok, length-take, length-append, length-drop}
use Rattle.std.specs.Prelude.{Option}
use Rattle.std.proofs.lemmas.Result.{err_from_is_err_and}
use Rattle.audit_model.specs.declared.ending.AuditEnding.{AuditEnding}
use Rattle.audit_input.specs.Audits.{most_at_once}
use Rattle.audit_input.specs.Reading.{Turns}
use Rattle.audit_input.proofs.Complete.{never_refused}
use Rattle.audit_input.proofs.Turns.{nothing_done, at_start, nothing_taken, rose_since}
use Rattle.audit_input.proofs.source.audit_kept.Goals as goal

pub returns-in_err-room-clause-stopped : goal.returns-in_err-room-clause-stopped
returns-in_err-room-clause-stopped g c =
    let p = err_from_is_err_and c.from_residual.result c.from_residual.ensures.1 in
    rw (p.1, p.2) (nothing_done (g.S.Source.left c.args.input.now))

pub turns-init : goal.turns-init
turns-init g c = record {
  so_far = ([], at_start (g.S.Source.left c.args.input.now) c.new-reading.result c.new-reading.ensures);
  few = nothing_taken c.new-reading.result c.new-reading.ensures;
  room = omega (arith, c.in_ok-room.ensures.len, c.in_ok-room.room.ok.0);
  small = omega (arith, c.in_ok-room.ensures.len, c.in_ok-room.room.ok.0);
  kept = omega arith;
}

pub turn-requires-clause-small : goal.turn-requires-clause-small
turn-requires-clause-small g c =
    subst (λ (bytes : List ℕ). length bytes ≤ most_at_once) (sym c.as_mut_slice.ensures.value) c.turns.invariant.small

pub returns-in_err-ending-clause-stopped : goal.returns-in_err-ending-clause-stopped
returns-in_err-ending-clause-stopped g c =
    let p = err_from_is_err_and c.from_residual-in_err-ending.result c.from_residual-in_err-ending.ensures.1 in
    let s = c.turns.invariant.so_far in
    rw (p.1, p.2) (c.in_err-ending.ensures.turned (g.S.Source.left c.args.input.now) s.0 s.1)

pub returns-in_err-ending-clause-cause : goal.returns-in_err-ending-clause-cause
returns-in_err-ending-clause-cause g c =
    let p = err_from_is_err_and c.from_residual-in_err-ending.result c.from_residual-in_err-ending.ensures.1 in
    rw (p.1, p.2) (λ e. rose_since _ _ _ c.turns.invariant.kept (c.in_err-ending.ensures.cause e))

pub returns-in-Some-clause-ended : goal.returns-in-Some-clause-ended
returns-in-Some-clause-ended g c =
    let s = c.turns.invariant.so_far in
    let left = g.S.Source.left in
    let P : Option AuditEnding → Type 0 = λ o. Turns (left c.args.input.now) (left c.turn.new.input) c.turn.new.reading (Ok o) in
    subst P c.in-Some.is (c.in_ok-ending.ensures.turned (left c.args.input.now) s.0 s.1) c.finish.result c.finish.ensures

pub returns-in-Some-clause-complete : goal.returns-in-Some-clause-complete
returns-in-Some-clause-complete g c = λ k.
    let s = c.turns.invariant.so_far in
    let left = g.S.Source.left in
    let P : Option AuditEnding → Type 0 = λ o. Turns (left c.args.input.now) (left c.turn.new.input) c.turn.new.reading (Ok o) in
    never_refused (left c.args.input.now) (left c.turn.new.input) c.in-Some.ending c.finish.result
    (subst P c.in-Some.is (c.in_ok-ending.ensures.turned (left c.args.input.now) s.0 s.1) c.finish.result c.finish.ensures) k

pub turns-preserved : goal.turns-preserved
turns-preserved g c =
    let s = c.turns.invariant.so_far in
    let left = g.S.Source.left in
    let P : Option AuditEnding → Type 0 = λ o. Turns (left c.args.input.now) (left c.turn.new.input) c.turn.new.reading (Ok o) in
    record {
      so_far = subst P c.in-None.is (c.in_ok-ending.ensures.turned (left c.args.input.now) s.0 s.1);
      few = c.in_ok-ending.ensures.few (λ i. Ok (c.in-None.is i));
      room = omega (arith, length-take {A = ℕ}, length-append {A = ℕ}, length-drop {A = ℕ}, c.turns.invariant.room, c.turns.room.ok.0);
      small = omega (arith, length-take {A = ℕ}, length-append {A = ℕ}, length-drop {A = ℕ}, c.turns.invariant.small, c.turns.room.ok.0);
      kept = omega (arith, c.in_ok-ending.ensures.kept);
    }
