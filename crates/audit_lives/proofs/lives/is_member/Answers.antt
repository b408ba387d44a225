-- The members are those of the world that is kept.
use Rattle.std.proofs.Common.{◌&&◌, nat_le, ◌∙◌, ap}
use Rattle.audit_lives.proofs.Keeping.{members_are}
use Rattle.audit_lives.proofs.lives.is_member.Goals as goal

pub returns : goal.returns
returns c = λ items k. c.is_within.ensures ∙ ap (λ n. nat_le 1 c.args.member && nat_le c.args.member n) (c.members_of.ensures ∙ members_are c.args.kept.now items k)
