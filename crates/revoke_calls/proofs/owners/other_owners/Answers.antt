-- One owner more.
use Rattle.std.proofs.Common.{not}
use Rattle.wait_model.specs.GuardedAnswers.{is_kept}
use Rattle.revoke_calls.proofs.OwnersByKey.{by_key_more}
use Rattle.revoke_calls.proofs.owners.other_owners.Goals as goal

pub loop-owner-preserved : goal.loop-owner-preserved
loop-owner-preserved c =
    by_key_more (λ o. not (is_kept c.args.write.now c.args.table.now.entries c.args.owners.now o.key)) c.args.owners.now c.loop-owner.owner-index c.owner-item.result c.loop-owner.others c.add_other.new.others _ c.loop-owner-test.true c.owner-item.is c.in_ok-add_other.ensures c.loop-owner.invariant
