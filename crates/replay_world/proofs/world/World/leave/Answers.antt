-- The line is a turn of its proxy.
use Rattle.std.proofs.Common.{sym, ◌∙◌, ap}
use Rattle.core_model.specs.declared.event.CoreEvent.TheVariants as event
use Rattle.replay_places.specs.declared.turn.Turn.TheVariants as turn
use Rattle.replay_world.proofs.ProxyLines.{left_turn}
use Rattle.replay_world.proofs.Turns.{turn_line}
use Rattle.replay_world.specs.Refusals.{known_fault}
use Rattle.script_text.specs.declared.item.Item.TheVariants as item
use Rattle.world_model.specs.declared.fault.WorldFault.TheVariants as fault
use Rattle.world_model.specs.Places.{kept_at}
use Rattle.world_model.specs.State.{Numbered, Place}
use Rattle.replay_world.proofs.world.World.leave.Goals as goal

pub returns-clause-step : goal.returns-clause-step
returns-clause-step g c w s =
    turn_line _ _ w c.args.proxy (turn.Step (event.Leave c.args.ticket) (fault.NoSuchTicket c.args.ticket) (item.Left c.args.proxy c.args.ticket)) c.turn.new.self c.turn.result _ c.self.view_is s c.turn.ensures
    (left_turn w c.args.proxy c.args.ticket (ap (λ (t : Numbered Place). known_fault c.args.proxy c.args.ticket (kept_at t c.args.proxy)) s.places ∙ sym c.known_fault.ensures ∙ c.in_default.is))
