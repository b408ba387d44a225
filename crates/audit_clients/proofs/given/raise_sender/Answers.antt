-- The one sender is all of them.
use Rattle.std.proofs.Common.{refl}
use Rattle.audit_clients.proofs.Greatest.{raised_single}
use Rattle.audit_clients.proofs.given.raise_sender.Goals as goal

pub returns : goal.returns
returns c = λ items t.
    raised_single c.args.newest.now c.raise_one.new.newest c.args.call c.args.revision items c.sender_of.result (c.if-not-has_single_senders.ensures items t refl) (c.sender_of.ensures items t) c.in_ok-raise_one.ensures
