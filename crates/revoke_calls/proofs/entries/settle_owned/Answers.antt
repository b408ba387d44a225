-- The ranges of an owner are single keys; of another write nothing is changed.
use Rattle.std.proofs.Common.{sym, ◌∙◌}
use Rattle.revoke_calls.specs.Fates.{after}
use Rattle.revoke_calls.proofs.ProperWrite.{owner-by_keys}
use Rattle.revoke_calls.proofs.SettledEntries.{owner_settled, none_settled}
use Rattle.revoke_calls.proofs.entries.settle_owned.Goals as goal

pub settle_keys-requires : goal.settle_keys-requires
settle_keys-requires c = rw c.as_slice.ensures (owner-by_keys c.args.write.now c.requires (sym c.is_owner.ensures ∙ c.if-is_owner.true))

pub returns-then-is_owner : goal.returns-then-is_owner
returns-then-is_owner c =
    c.settle_keys.ensures ∙ rw c.as_slice.ensures (owner_settled (λ k. after c.args.fate) c.args.write.now c.args.table.now.entries (sym c.is_owner.ensures ∙ c.if-is_owner.true))

pub returns-else-is_owner : goal.returns-else-is_owner
returns-else-is_owner c = none_settled (λ k. after c.args.fate) c.args.write.now c.args.table.now.entries (sym c.is_owner.ensures ∙ c.if-is_owner.false)
