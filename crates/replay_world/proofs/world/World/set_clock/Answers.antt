-- The line is a turn of its proxy.
use Rattle.std.proofs.Common.{sym, ◌∙◌, ap}
use Rattle.replay_places.specs.declared.turn.Turn.TheVariants as turn
use Rattle.replay_world.proofs.Starts.{clock_turn}
use Rattle.replay_world.proofs.Turns.{turn_line}
use Rattle.replay_world.specs.Refusals.{clock_fault}
use Rattle.world_model.specs.Places.{kept_at}
use Rattle.world_model.specs.State.{Numbered, Place}
use Rattle.replay_world.proofs.world.World.set_clock.Goals as goal

pub returns-clause-step : goal.returns-clause-step
returns-clause-step g c w s =
    turn_line _ _ w c.args.proxy (turn.Clock c.args.millis) c.turn.new.self c.turn.result _ c.self.view_is s c.turn.ensures
    (clock_turn w c.args.proxy c.args.millis (ap (λ (t : Numbered Place). clock_fault c.args.proxy c.args.millis (kept_at t c.args.proxy)) s.places ∙ sym c.clock_fault.ensures ∙ c.in_default.is))
