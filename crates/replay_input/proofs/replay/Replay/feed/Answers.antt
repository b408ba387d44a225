-- Part by part.
use Rattle.std.proofs.Common.{◌+◌, ◌≤◌, ◌++◌, ℕ, List, sym, ◌∙◌, ap, subst, length-take, length-drop, arith}
use Rattle.std.proofs.lemmas.List.{take_all}
use Rattle.replay_model.specs.declared.limits.TheConstants.{MOST_BYTES}
use Rattle.outside.proofs.Results.{on_err}
use Rattle.replay_model.proofs.Growing.{is_open-true}
use Rattle.replay_input.specs.Replay.{Fed, taken_of}
use Rattle.replay_input.proofs.Feeding.{rest_taken, fed_more, refused_at, stopped_at, writes_front, kept_follows}
use Rattle.replay_input.proofs.replay.Replay.feed.Goals as goal

pub returns-then-not-is_open-clause-fed : goal.returns-then-not-is_open-clause-fed
returns-then-not-is_open-clause-fed g c = λ start bytes f w.
    let fed = c.loop-at.invariant.fed start bytes f w in
    refused_at start _ c.loop-at.self c.take_part.new.self bytes c.args.piece.now c.loop-at.at c.in_ok-part.part.count c.in_ok-part.part.ending (sym c.is_open.ensures ∙ c.if-not-is_open.true) fed (rest_taken c.loop-at.self c.take_part.new.self _ c.args.piece.now c.loop-at.at c.in_ok-part.part.count c.in_ok-part.part.ending (c.in_ok-part.ensures.taken _ fed.follows))

pub returns-in_err-part-clause-stopped : goal.returns-in_err-part-clause-stopped
returns-in_err-part-clause-stopped g c = λ start bytes f w.
    let fed = c.loop-at.invariant.fed start bytes f w in
    on_err c.from_residual.result (stopped_at start _ bytes c.args.piece.now c.loop-at.at (writes_front fed.writes))

pub returns-in_err-flush_much-clause-stopped : goal.returns-in_err-flush_much-clause-stopped
returns-in_err-flush_much-clause-stopped g c = λ start bytes f w.
    let fed = c.loop-at.invariant.fed start bytes f w in
    let more = fed_more start _ c.loop-at.self c.take_part.new.self bytes c.args.piece.now c.loop-at.at c.in_ok-part.part.count c.in_ok-part.part.ending (sym c.is_open.ensures ∙ c.if-not-is_open.false) fed (rest_taken c.loop-at.self c.take_part.new.self _ c.args.piece.now c.loop-at.at c.in_ok-part.part.count c.in_ok-part.part.ending (c.in_ok-part.ensures.taken _ fed.follows)) in
    on_err c.from_residual-in_err-flush_much.result (stopped_at start _ bytes c.args.piece.now (c.loop-at.at + c.in_ok-part.part.count) (c.in_err-flush_much.ensures.err start _ more.writes))

pub loop-at-preserved : goal.loop-at-preserved
loop-at-preserved g c =
    let opened = sym c.is_open.ensures ∙ c.if-not-is_open.false in
    let way = c.loop-at.invariant.under_way in
    let goes = (c.in_ok-part.ensures.taken way.0 way.1).follows (is_open-true c.in_ok-part.part.ending opened) in
    record {
      under_way = (_, kept_follows c.take_part.new.self c.flush_much.new.self _ c.in_ok-flush_much.ensures.same goes);
      fed = λ start bytes f w.
          let fed = c.loop-at.invariant.fed start bytes f w in
          let more = fed_more start _ c.loop-at.self c.take_part.new.self bytes c.args.piece.now c.loop-at.at c.in_ok-part.part.count c.in_ok-part.part.ending opened fed (rest_taken c.loop-at.self c.take_part.new.self _ c.args.piece.now c.loop-at.at c.in_ok-part.part.count c.in_ok-part.part.ending (c.in_ok-part.ensures.taken _ fed.follows)) in
          record {
            follows = kept_follows c.take_part.new.self c.flush_much.new.self _ c.in_ok-flush_much.ensures.same more.follows;
            writes = c.in_ok-flush_much.ensures.ok start _ more.writes;
          };
      within = omega (arith, c.in_ok-part.ensures.part.1, length-take {A = ℕ}, length-drop {A = ℕ});
      count = ap taken_of c.in_ok-flush_much.ensures.same ∙ c.in_ok-part.ensures.count opened ∙ omega (arith, c.loop-at.invariant.count);
      few = λ _. subst (λ n. n ≤ MOST_BYTES) (sym (ap taken_of c.in_ok-flush_much.ensures.same)) (c.in_ok-part.ensures.few opened);
      kept = omega (arith, c.in_ok-flush_much.ensures.cause.kept);
    }

pub returns-clause-fed : goal.returns-clause-fed
returns-clause-fed g c = λ start bytes f w.
    subst (λ (front : List ℕ). Fed start (g.K.Sink.written c.loop-at.output) c.loop-at.self (bytes ++ front)) (take_all c.loop-at.at c.args.piece.now (omega arith))
    (c.loop-at.invariant.fed start bytes f w)
