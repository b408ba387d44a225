-- The line is a turn of its proxy.
use Rattle.std.proofs.Common.{ℕ, ◌+◌, sym, ◌∙◌, ap}
use Rattle.replay_places.specs.declared.turn.Turn.TheVariants as turn
use Rattle.replay_world.proofs.ProxyLines.{asked_turn}
use Rattle.replay_world.proofs.Turns.{turn_line}
use Rattle.replay_world.specs.Refusals.{ticket_fault}
use Rattle.world_model.specs.Places.{kept_at}
use Rattle.world_model.specs.State.{Numbered, Place}
use Rattle.replay_world.proofs.world.World.ask.Goals as goal

pub returns-in-None-clause-step : goal.returns-in-None-clause-step
returns-in-None-clause-step g c w s =
    turn_line _ _ w c.args.proxy (turn.Ask c.args.ticket c.args.request c.args.word) c.turn.new.self c.turn.result _ c.self.view_is s c.turn.ensures
    (asked_turn w c.args.proxy c.args.ticket c.args.request c.args.word (c.requires ∙ ap (λ (n : ℕ). n + 2) (sym s.lines)) (ap (λ (t : Numbered Place). ticket_fault c.args.proxy c.args.ticket (kept_at t c.args.proxy)) s.places ∙ sym c.ticket_fault.ensures ∙ c.in-None.is))
