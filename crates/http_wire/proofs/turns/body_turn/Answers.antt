use Rattle.std.proofs.Common.{ℕ, List, true, Ok, subst, sym, rules}
use Rattle.std.specs.Io.KnownBytes.{prepend_known}
use Rattle.http_wire.specs.Held.{held, ahead, ReadsAhead}
use Rattle.http_wire.specs.Steps.{BodyTurn, spent}
use Rattle.http_wire.specs.declared.message.Framing.{Framing}
use Rattle.http_wire.proofs.BodyTurns.{turn_ended, turn_over, turn_more}
use Rattle.http_wire.proofs.turns.body_turn.Goals as goal

pub returns-then-count-eq0-clause-turn : goal.returns-then-count-eq0-clause-turn
returns-then-count-eq0-clause-turn g c =
    turn_ended c.args.most c.args.framing.now c.in_ok-next.next c.in_ok-count.count c.args.body.now.items _ _ _
    c.in_ok-next.ensures.read c.in_ok-count.ensures.readied c.if-count-eq0.true

pub returns-then-count-room-clause-turn : goal.returns-then-count-room-clause-turn
returns-then-count-room-clause-turn g c =
    turn_over c.args.most c.args.framing.now c.in_ok-next.next c.in_ok-count.count c.args.body.now.items _ _ _
    c.in_ok-next.ensures.read c.in_ok-count.ensures.readied (search rules) c.in_ok-count.ensures.claims (search rules)

pub returns-clause-turn : goal.returns-clause-turn
returns-clause-turn g c =
    let a = ahead (g.S.Source.left c.args.source.now) c.args.buffer.now in
    let b = g.S.Source.left c.ready.new.source in
    let before = c.args.body.now.items in
    let now = c.extend_from_slice.new.self.items in
    let count = c.in_ok-count.count in
    let turn = turn_more c.args.most c.args.framing.now c.in_ok-next.next count before now (held c.ready.new.buffer) a _ b
    c.in_ok-next.ensures.read c.in_ok-count.ensures.readied (search rules) c.in_ok-count.ensures.claims (search rules) (search rules) (search rules) (search rules) in
    let Claim : Framing → List ℕ → Type 0 = λ f l. ReadsAhead (BodyTurn c.args.most c.args.framing.now f before now) a (prepend_known l b) (Ok true) in
    subst (λ (f : Framing). Claim f (held c.let_go.new.self)) (sym c.spent.ensures)
    (subst (λ (l : List ℕ). Claim (spent c.in_ok-next.next count) l) (sym c.let_go.ensures) turn)
