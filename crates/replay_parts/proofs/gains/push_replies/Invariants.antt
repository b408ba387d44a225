-- So far the items of the replies that were taken are added.
use Rattle.std.proofs.Common.{◌≡◌, ◌++◌, flat_map}
use Rattle.world_model.specs.Gains.{reply_items}
use Rattle.replay_parts.proofs.gains.push_replies.Given as goal

abbrev pub invariant-loop-ticket : goal.invariant-loop-ticket
invariant-loop-ticket l = l.items ≡ l.initial.items ++ flat_map (reply_items l.proxy l.posted) l.yielded
