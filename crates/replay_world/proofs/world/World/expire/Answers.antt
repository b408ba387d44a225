-- A session that can't expire yet is told so, where there is such a lease.
use Rattle.std.proofs.Common.{sym, ◌∙◌, refl}
use Rattle.replay_world.proofs.StoreLines.{no_lease, not_due_is, not_expired, with_stored}
use Rattle.replay_world.proofs.Turns.{seen_so}
use Rattle.replay_world.proofs.world.World.expire.Goals as goal

pub returns-then-branch-clause-step : goal.returns-then-branch-clause-step
returns-then-branch-clause-step g c w s n =
    let stored = (seen_so _ _ w c.self.view_is s).store in
    record {
      after = w;
      so = not_expired w c.args.lease c.in-Some.fault (sym (c.in_ok-has_lease.ensures.there w.store stored) ∙ c.if-branch.true) (not_due_is _ _ w c.args.lease refl s ∙ sym c.not_due.ensures ∙ c.in-Some.is);
      stands = with_stored _ _ w _ w.store c.self.view_is s (c.in_ok-has_lease.ensures.same w.store stored);
    }

pub returns-in-Some-clause-step : goal.returns-in-Some-clause-step
returns-in-Some-clause-step g c w s n =
    let stored = (seen_so _ _ w c.self.view_is s).store in
    record {
      after = w;
      so = no_lease w c.args.lease (sym (c.in_ok-has_lease.ensures.there w.store stored) ∙ c.if-branch.false);
      stands = with_stored _ _ w _ w.store c.self.view_is s (c.in_ok-has_lease.ensures.same w.store stored);
    }
