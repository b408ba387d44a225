-- The end of the script.
use Rattle.outside.proofs.Results.{on_err}
use Rattle.std.specs.Prelude.{string_bytes}
use Rattle.replay_input.specs.Replay.{text_of}
use Rattle.replay_input.proofs.Feeding.{writes_front, writes_more}
use Rattle.replay_input.proofs.Turns.{front_of_all, all_written}
use Rattle.replay_input.proofs.replay.Replay.finish.Goals as goal

pub returns-in_err-ending-clause-stopped : goal.returns-in_err-ending-clause-stopped
returns-in_err-ending-clause-stopped g c = λ start bytes f w.
    on_err c.from_residual.result (front_of_all start (g.K.Sink.written c.args.output.now) bytes (writes_front w))

pub returns-clause-finished : goal.returns-clause-finished
returns-clause-finished g c = λ start bytes f w.
    let t = c.in_ok-ending.ensures bytes f in
    let written = g.K.Sink.written c.flush.new.output in
    record {
      ended = t.ended;
      writes = all_written start written (string_bytes c.flush.new.self.pending) (text_of bytes) (c.in_ok-flush.ensures.ok start (text_of bytes) (writes_more (string_bytes c.take_end.new.self.pending) (text_of bytes) t.added w t.pending t.text)) c.in_ok-flush.ensures.nothing;
    }
