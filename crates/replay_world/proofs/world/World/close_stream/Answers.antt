-- A stream that the proxy opened ends, and its line is told.
use Rattle.std.proofs.Common.{refl, sym, ◌∙◌}
use Rattle.replay_places.specs.declared.turn.Turn.TheVariants as turn
use Rattle.replay_world.proofs.SendLines.{placed_at, stream_closed_turn, stream_not_closed, told_line, end_put, isnt_refused, with_ended}
use Rattle.replay_world.proofs.Turns.{gives_same, stays}
use Rattle.script_text.specs.declared.item.Item.TheVariants as item
use Rattle.world_model.specs.declared.fault.WorldFault.TheVariants as fault
use Rattle.world_model.specs.Places.{kept_at, with_place}
use Rattle.replay_world.proofs.world.World.close_stream.Goals as goal

pub returns-in_default-clause-step : goal.returns-in_default-clause-step
returns-in_default-clause-step g c w x s =
    stays _ _ (with_place w c.args.proxy x) (fault.NothingToSend c.args.proxy) _ refl s
    (stream_not_closed w c.args.proxy x (kept_at x.streams c.args.own) (sym (c.stream_at.ensures x (placed_at _ _ w c.args.proxy x c.self.view_is s)) ∙ c.in_default.is))

pub returns-clause-step : goal.returns-clause-step
returns-clause-step g c w x s =
    let placed = placed_at _ _ w c.args.proxy x c.self.view_is s in
    let stands = end_put _ _ (with_place w c.args.proxy x) c.in-Some.number _ c.self.view_is s c.end_stream.ensures in
    gives_same _ _ _ _
    (stream_closed_turn w c.args.proxy x c.in-Some.number (kept_at x.streams c.args.own) (sym (c.stream_at.ensures x placed) ∙ c.in-Some.is))
    (told_line _ (with_place w c.args.proxy x) (with_ended (with_place w c.args.proxy x) c.in-Some.number) c.args.proxy (turn.Told (item.Closed c.args.proxy c.in-Some.number)) x c.turn.new.self c.turn.result stands stands.places placed (λ v why q. isnt_refused _ v _ why q) c.turn.ensures)
