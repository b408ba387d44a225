-- None is above where the greatest isn't.
use Rattle.std.proofs.Common.{◌∙◌, ap, sym, nat_le}
use Rattle.world_model.specs.Reads.{given}
use Rattle.audit_clients.proofs.Greatest.{all_up_to}
use Rattle.audit_clients.proofs.given.is_given_up_to.Goals as goal

pub returns : goal.returns
returns c = λ items g.
    ap (λ n. nat_le n c.args.revision) (c.newest_of.ensures ∙ g.newest c.args.proxy) ∙ sym (all_up_to c.args.revision (given c.args.proxy items))
