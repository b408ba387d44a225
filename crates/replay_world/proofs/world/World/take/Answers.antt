-- The line is a turn of its proxy.
use Rattle.std.proofs.Common.{sym, ◌∙◌, ap}
use Rattle.replay_places.specs.declared.turn.Turn.TheVariants as turn
use Rattle.replay_world.proofs.ProxyLines.{taken_turn}
use Rattle.replay_world.proofs.Turns.{turn_line}
use Rattle.replay_world.specs.Refusals.{watch_fault}
use Rattle.world_model.specs.Places.{kept_at}
use Rattle.world_model.specs.State.{Numbered, Place}
use Rattle.replay_world.proofs.world.World.take.Goals as goal

pub returns-clause-step : goal.returns-clause-step
returns-clause-step g c w s =
    turn_line _ _ w c.args.proxy (turn.Take c.args.ticket) c.turn.new.self c.turn.result _ c.self.view_is s c.turn.ensures
    (taken_turn w c.args.proxy c.args.ticket (ap (λ (t : Numbered Place). watch_fault c.args.proxy c.args.ticket (kept_at t c.args.proxy)) s.places ∙ sym c.watch_fault.ensures ∙ c.in_default.is))
