-- The one opener is all of them.
use Rattle.std.proofs.Common.{refl}
use Rattle.audit_clients.proofs.Greatest.{opened_single}
use Rattle.audit_clients.proofs.given.raise_opener.Goals as goal

pub returns : goal.returns
returns c = λ items t.
    opened_single c.args.newest.now c.raise_one.new.newest c.args.stream c.args.revision items c.opener_of.result (c.if-not-has_single_openers.ensures items t refl) (c.opener_of.ensures items t) c.in_ok-raise_one.ensures
