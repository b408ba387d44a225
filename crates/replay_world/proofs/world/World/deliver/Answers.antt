-- The oldest message arrives by a turn of the stream's proxy.
use Rattle.std.proofs.Common.{◌≡◌, List, Some, sym, ◌∙◌, ap}
use Rattle.replay_world.proofs.StreamLines.{delivered_turn_at}
use Rattle.replay_world.proofs.Turns.{gives_same}
use Rattle.replay_world.specs.Calls.{is_standing}
use Rattle.replay_world.specs.World.{Parts}
use Rattle.world_model.specs.Places.{nth}
use Rattle.world_model.specs.State.{Numbered, Place, OpenedStream}
use Rattle.replay_world.proofs.world.World.deliver.Goals as goal

pub returns-clause-step : goal.returns-clause-step
returns-clause-step g c w s =
    let stream = c.in-Some.stream.now in
    let found : nth c.args.self.now.streams c.args.number ≡ Some stream =
    ap (λ (y : Parts). nth y.streams c.args.number) (sym c.self.view_is) ∙ ap (λ (ss : List OpenedStream). nth ss c.args.number) (sym c.deref.ensures.value) ∙ sym c.in-Some.ensures in
    let here = ap (λ (ss : List OpenedStream). nth ss c.args.number) s.streams ∙ found in
    let stands_there = ap (λ (places : Numbered Place). is_standing places stream) s.places ∙ sym c.is_standing.ensures ∙ c.if-not-is_standing.false in
    gives_same _ _ _ _
    (delivered_turn_at w c.args.number stream c.in-Some-2.item c.proxy-proxy.result c.own.result here stands_there (sym c.in_ok-item.ensures ∙ c.in-Some-2.is) c.proxy-proxy.ensures c.own.ensures)
    (c.deliver_by.ensures.step w stream s found)
