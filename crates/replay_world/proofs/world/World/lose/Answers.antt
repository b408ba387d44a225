-- The call ends at its proxy by the turn on its loss.
use Rattle.std.proofs.Common.{◌≡◌, List, Some, sym, ◌∙◌, ap}
use Rattle.replay_world.proofs.CallLines.{lost_turn}
use Rattle.replay_world.proofs.Turns.{gives_same}
use Rattle.replay_world.specs.Calls.{is_out}
use Rattle.replay_world.specs.World.{Parts}
use Rattle.world_model.specs.declared.sent_call.SentCall.{SentCall}
use Rattle.world_model.specs.Places.{nth}
use Rattle.world_model.specs.State.{Numbered, Place}
use Rattle.replay_world.proofs.world.World.lose.Goals as goal

pub returns-clause-step : goal.returns-clause-step
returns-clause-step g c w s =
    let call = c.in-Some.call.now in
    let found : nth c.args.self.now.calls c.args.number ≡ Some call =
    ap (λ (y : Parts). nth y.calls c.args.number) (sym c.self.view_is) ∙ ap (λ (cs : List SentCall). nth cs c.args.number) (sym c.deref.ensures.value) ∙ sym c.in-Some.ensures in
    let here = ap (λ (cs : List SentCall). nth cs c.args.number) s.calls ∙ found in
    let out = ap (λ (places : Numbered Place). is_out places call) s.places ∙ sym c.is_out.ensures ∙ c.if-not-is_out.false in
    gives_same _ _ _ _ (lost_turn w c.args.number call here out) (c.settle.ensures.step w call s found)
