-- No member has this number.
use Rattle.replay_world.proofs.StoreLines.{lacks_above, lacks_zero, no_member}
use Rattle.replay_world.proofs.Turns.{seen_so, stays}
use Rattle.std.proofs.Common.{refl}
use Rattle.replay_world.proofs.world.World.apply.Goals.{then-member-eq0-via-then-member-eq0, then-member-eq0-via-else-member-eq0+then-members-member}
use Rattle.world_model.specs.declared.fault.WorldFault.TheVariants as fault
use Rattle.replay_world.proofs.world.World.apply.Goals as goal

pub returns-then-member-eq0-clause-step : goal.returns-then-member-eq0-clause-step
returns-then-member-eq0-clause-step g c w s =
    elim c.then-member-eq0.branch [
      | then-member-eq0-via-then-member-eq0 v ↦
          stays _ _ w (fault.NoSuchMember c.args.member) _ refl s (no_member w c.args.member c.args.revision (lacks_zero w.store c.args.member v.if-member-eq0.true))
      | then-member-eq0-via-else-member-eq0+then-members-member v ↦
          stays _ _ w (fault.NoSuchMember c.args.member) _ refl s
          (no_member w c.args.member c.args.revision (lacks_above w.store c.args.member v.members.result (v.members.ensures w.store (seen_so _ _ w c.self.view_is s).store) v.if-members-member.true))
    ]
