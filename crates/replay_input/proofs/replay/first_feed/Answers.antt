use Rattle.replay_input.proofs.Replays.{first_feed_is}
use Rattle.replay_input.proofs.replay.first_feed.Goals as goal

pub returns : goal.returns
returns c = first_feed_is c.args.bytes.now c.position.result c.position.ensures
