use Rattle.std.proofs.Common.{ℕ, List, Ok, take, subst, sym, rules}
use Rattle.std.proofs.lemmas.Result.{err_from_is_err_and}
use Rattle.std.specs.Io.KnownBytes.{prepend_known}
use Rattle.http_wire.specs.declared.message.Framing.{Framing}
use Rattle.http_wire.specs.declared.lines.Turn.TheVariants as turn
use Rattle.http_wire.specs.Held.{held, ahead, ReadsAhead}
use Rattle.http_wire.specs.Steps.{LineIn, LineTurn, spent}
use Rattle.http_wire.proofs.LineTurns.{turn_cut, turn_last, turn_long, turn_piece}
use Rattle.http_wire.proofs.lines.line_turn.Goals as goal

pub returns-in_err-held-clause-turn : goal.returns-in_err-held-clause-turn
returns-in_err-held-clause-turn g c =
    let p = err_from_is_err_and c.from_residual-in_err-held.result c.from_residual-in_err-held.ensures.1 in
    rw (p.1, p.2)
    (turn_cut c.args.most c.args.framing.now c.args.framing.now c.in_ok-next.next c.args.line.now.items c.args.line.now.items c.in_err-held.field-0.0 _ _ _
    c.in_ok-next.ensures.read c.in_err-held.ensures.readied c.in_err-held.ensures.short)

pub returns-then-held-eq0-clause-turn : goal.returns-then-held-eq0-clause-turn
returns-then-held-eq0-clause-turn g c =
    let last = turn_last c.args.most c.args.framing.now c.in_ok-next.next c.in_ok-held.held c.args.line.now.items _ _ _
    c.in_ok-next.ensures.read c.in_ok-held.ensures.readied c.if-held-eq0.true c.in_ok-held.ensures.claims in
    subst
    (λ (f : Framing). ReadsAhead (LineTurn c.args.most c.args.framing.now f c.args.line.now.items c.args.line.now.items)
    (ahead (g.S.Source.left c.args.source.now) c.args.buffer.now) (ahead (g.S.Source.left c.ready.new.source) c.ready.new.buffer) (Ok turn.Last))
    (sym c.ended.ensures) last

pub returns-then-count-most-clause-turn : goal.returns-then-count-most-clause-turn
returns-then-count-most-clause-turn g c =
    turn_long c.args.most c.args.framing.now c.args.framing.now c.in_ok-next.next c.line_in-count.result.1 c.in_ok-held.held c.line_in-count.result.0
    c.args.line.now.items c.args.line.now.items (held c.ready.new.buffer) _ _ (g.S.Source.left c.ready.new.source)
    c.in_ok-next.ensures.read c.in_ok-held.ensures.readied c.in_ok-held.ensures.claims (search rules) (search rules)
    (subst (λ (l : List ℕ). LineIn (take c.in_ok-held.held l) c.line_in-count.result) c.bytes.ensures c.line_in-count.ensures) (search rules) (search rules)

pub returns-clause-turn : goal.returns-clause-turn
returns-clause-turn g c =
    let a = ahead (g.S.Source.left c.args.source.now) c.args.buffer.now in
    let b = g.S.Source.left c.ready.new.source in
    let before = c.args.line.now.items in
    let now = c.extend_from_slice.new.self.items in
    let count = c.line_in-count.result.0 in
    let t = c.line_in-count.result.1 in
    let piece = turn_piece c.args.most c.args.framing.now c.in_ok-next.next t c.in_ok-held.held count before now (held c.ready.new.buffer) a _ b
    c.in_ok-next.ensures.read c.in_ok-held.ensures.readied c.in_ok-held.ensures.claims (search rules) (search rules)
    (subst (λ (l : List ℕ). LineIn (take c.in_ok-held.held l) c.line_in-count.result) c.bytes.ensures c.line_in-count.ensures) (search rules) in
    let Claim : Framing → List ℕ → Type 0 = λ f l. ReadsAhead (LineTurn c.args.most c.args.framing.now f before now) a (prepend_known l b) (Ok t) in
    subst (λ (f : Framing). Claim f (held c.let_go.new.self)) (sym c.spent.ensures)
    (subst (λ (l : List ℕ). Claim (spent c.in_ok-next.next count) l) (sym c.let_go.ensures) piece)
