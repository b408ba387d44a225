-- A proxy that stands there tells what it sent, which is never refused.
use Rattle.replay_world.proofs.SendLines.{call_sent_line}
use Rattle.replay_world.proofs.world.World.note_sent.Goals as goal

pub returns-in-Ok-clause-step : goal.returns-in-Ok-clause-step
returns-in-Ok-clause-step g c w s =
    call_sent_line _ c.args.self.now c.add_call.new.self w c.args.proxy c.args.call c.args.number c.args.told c.turn.new.self c.turn.result c.self.view_is c.in-Ok.ensures.calls s c.requires c.turn.ensures
