-- What was sent ends.
use Rattle.replay_generated.proofs.Makings.{sends_one}
use Rattle.replay_generated.proofs.Taking.{send_first, send_end}
use Rattle.replay_generated.proofs.making.Making.send_one.Goals as goal

pub returns : goal.returns
returns g c = sends_one c.in_ok-call.ensures c.in_ok-end.ensures

pub add_send-requires : goal.add_send-requires
add_send-requires g c = send_first c.requires

pub end-requires : goal.end-requires
end-requires g c = send_end c.requires c.in_ok-call.ensures
