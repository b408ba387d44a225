-- The next byte is taken, or its line is refused.
use Rattle.std.proofs.Common.{◌<◌, ◌++◌, length, take, sym, ◌∙◌, arith}
use Rattle.audit_input.proofs.Taking.{next_byte, one_more, open_follows, refused_at}
use Rattle.audit_input.proofs.reading.Reading.feed.Goals as goal

pub returns-then-not-is_open-clause-taken : goal.returns-then-not-is_open-clause-taken
returns-then-not-is_open-clause-taken c = λ bytes f.
    let below : c.loop-at.at < length c.args.piece.now = omega arith in
    refused_at c.take_byte.new.self bytes c.args.piece.now c.loop-at.at _ c.in_ok-ending.ending (sym c.is_open.ensures ∙ c.if-not-is_open.true) (next_byte c.args.piece.now c.loop-at.at 0 below)
    (c.in_ok-ending.ensures.taken (bytes ++ take c.loop-at.at c.args.piece.now) (c.loop-at.invariant.fed bytes f))

pub loop-at-preserved : goal.loop-at-preserved
loop-at-preserved c =
    let below : c.loop-at.at < length c.args.piece.now = omega arith in
    let opened = sym c.is_open.ensures ∙ c.if-not-is_open.false in
    let now = c.in_ok-ending.ensures.count opened in
    record {
      fed = λ bytes f.
          one_more c.take_byte.new.self bytes c.args.piece.now c.loop-at.at _ (next_byte c.args.piece.now c.loop-at.at 0 below)
          (open_follows c.take_byte.new.self _ c.in_ok-ending.ending opened (c.in_ok-ending.ensures.taken (bytes ++ take c.loop-at.at c.args.piece.now) (c.loop-at.invariant.fed bytes f)));
      count = omega (arith, now, c.loop-at.invariant.count);
      few = λ _. c.in_ok-ending.ensures.few opened;
    }
