-- What was pending is written, all of it or a front.
use Rattle.std.proofs.Common.{List, ℕ, sym, subst}
use Rattle.std.specs.Prelude.{string_bytes}
use Rattle.std.specs.Io.KnownBytes.{Appends}
use Rattle.outside.specs.Streams.{WritesFront}
use Rattle.replay_input.specs.Replay.{Writes}
use Rattle.replay_input.proofs.Feeding.{flushed, broke}
use Rattle.replay_input.proofs.replay.Replay.flush.Goals as goal

pub returns-in-Ok-clause-ok : goal.returns-in-Ok-clause-ok
returns-in-Ok-clause-ok g c = λ start text w.
    let old = g.K.Sink.written c.args.output.now in
    let new = g.K.Sink.written c.write_whole.new.sink in
    subst (λ (pending : List ℕ). Writes start new pending text) (sym c.clear.ensures.bytes)
    (flushed start old new (string_bytes c.args.self.now.pending) text w (subst (λ (bs : List ℕ). Appends old new bs) c.as_bytes.ensures.value c.in-Ok.ensures.all))

pub returns-in-Err-clause-err : goal.returns-in-Err-clause-err
returns-in-Err-clause-err g c = λ start text w.
    let old = g.K.Sink.written c.args.output.now in
    let new = g.K.Sink.written c.write_whole.new.sink in
    broke start old new (string_bytes c.args.self.now.pending) text w (subst (λ (bs : List ℕ). WritesFront old new bs) c.as_bytes.ensures.value c.in-Err.ensures.front)
