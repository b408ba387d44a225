-- A failed write took nothing, so what was written before it is a front of the bytes.
use Rattle.std.proofs.Common.{ℕ, arith, take, drop, sym, length-take, length-drop}
use Rattle.std.proofs.lemmas.List.{take-append-drop}
use Rattle.std.proofs.KnownBytes.{Appends-kept}
use Rattle.outside.proofs.Results.{on_err}
use Rattle.outside.proofs.Writes.{wrote_more}
use Rattle.outside.proofs.sink.write_whole.Goals as goal

pub returns-in_err-done-clause-front : goal.returns-in_err-done-clause-front
returns-in_err-done-clause-front g c =
    let written = g.K.Sink.written in
    let done = c.loop-done.done in
    on_err c.from_residual.result (record {
      front = take done c.args.bytes.now;
      rest = drop done c.args.bytes.now;
      parts = sym (take-append-drop done c.args.bytes.now);
      written = Appends-kept (written c.args.sink.now) (written c.loop-done.sink) (written c.write.new.self) (take done c.args.bytes.now) c.loop-done.invariant.written c.in_err-done.ensures.bytes;
    })

pub loop-done-preserved : goal.loop-done-preserved
loop-done-preserved g c =
    let written = g.K.Sink.written in
    record {
      within = omega (arith, c.in_ok-done.ensures.bound, length-take {A = ℕ}, length-drop {A = ℕ});
      written = wrote_more (written c.args.sink.now) (written c.loop-done.sink) (written c.write.new.self) c.loop-done.done c.in_ok-done.field-0 c.args.bytes.now c.loop-done.invariant.written c.in_ok-done.ensures.bytes;
      still = omega (arith, c.in_ok-done.ensures.cause.still);
    }
