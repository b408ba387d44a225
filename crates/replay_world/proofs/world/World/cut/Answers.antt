-- The stream ends by the turn on its cut.
use Rattle.std.proofs.Common.{◌≡◌, List, Some, sym, ◌∙◌, ap}
use Rattle.replay_world.proofs.StreamLines.{cut_turn_at}
use Rattle.replay_world.proofs.Turns.{gives_same}
use Rattle.replay_world.specs.Calls.{is_open}
use Rattle.replay_world.specs.World.{Parts}
use Rattle.world_model.specs.Places.{nth}
use Rattle.world_model.specs.State.{Numbered, Place, OpenedStream}
use Rattle.replay_world.proofs.world.World.cut.Goals as goal

pub returns-clause-step : goal.returns-clause-step
returns-clause-step g c w s =
    let stream = c.in-Some.stream.now in
    let found : nth c.args.self.now.streams c.args.number ≡ Some stream =
    ap (λ (y : Parts). nth y.streams c.args.number) (sym c.self.view_is) ∙ ap (λ (ss : List OpenedStream). nth ss c.args.number) (sym c.deref.ensures.value) ∙ sym c.in-Some.ensures in
    let here = ap (λ (ss : List OpenedStream). nth ss c.args.number) s.streams ∙ found in
    let open_there = ap (λ (places : Numbered Place). is_open places stream) s.places ∙ sym c.is_open.ensures ∙ c.if-not-is_open.false in
    gives_same _ _ _ _ (cut_turn_at w c.args.number stream c.proxy-proxy.result c.own.result here open_there c.proxy-proxy.ensures c.own.ensures) (c.end_by.ensures.step w stream s found)
