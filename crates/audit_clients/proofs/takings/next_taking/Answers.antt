-- The watch goes on from where it stands.
use Rattle.std.proofs.Common.{refl}
use Rattle.audit_clients.proofs.Tracking.{next_tracks}
use Rattle.audit_clients.proofs.takings.next_taking.Goals as goal

pub returns-clause-tracks : goal.returns-clause-tracks
returns-clause-tracks c = λ ask taken t.
    next_tracks c.args.taking _ ask taken c.args.message.now t refl c.is_ended.ensures c.after_message.ensures c.in_ok-spot.ensures
