-- The line is a turn of its proxy.
use Rattle.std.proofs.Common.{ℕ, ◌+◌, sym, ◌∙◌, ap}
use Rattle.core_model.specs.declared.event.CoreEvent.TheVariants as event
use Rattle.replay_places.specs.declared.turn.Turn.TheVariants as turn
use Rattle.replay_world.proofs.ProxyLines.{ticked_turn}
use Rattle.replay_world.proofs.Turns.{turn_line}
use Rattle.script_text.specs.declared.item.Item.TheVariants as item
use Rattle.world_model.specs.declared.fault.WorldFault.TheVariants as fault
use Rattle.replay_world.proofs.world.World.tick.Goals as goal

pub returns-clause-step : goal.returns-clause-step
returns-clause-step g c w s =
    turn_line _ _ w c.args.proxy (turn.Step (event.Tick c.args.word) (fault.NoSuchProxy c.args.proxy) (item.Ticked c.args.proxy)) c.turn.new.self c.turn.result _ c.self.view_is s c.turn.ensures
    (ticked_turn w c.args.proxy c.args.word (c.requires ∙ ap (λ (n : ℕ). n + 2) (sym s.lines)))
