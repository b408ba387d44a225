-- Key after key, and nothing where it is no owner.
use Rattle.std.proofs.Common.{cond, [], sym, ◌∙◌, ap}
use Rattle.revoke_calls.specs.Ends.{turned, dropped_turn}
use Rattle.revoke_calls.proofs.TurnedKeys.{dropped_is}
use Rattle.revoke_calls.proofs.ends.drop_owned.Goals as goal

pub returns-then-is_owner : goal.returns-then-is_owner
returns-then-is_owner c =
    let w = c.args.write.now in
    let es = c.args.table.now.entries in
    let o = sym c.is_owner.ensures ∙ c.if-is_owner.true in
    c.drop_keys.ensures ∙ ap (λ rs. turned dropped_turn rs es) c.as_slice.ensures ∙ ap (λ b. turned dropped_turn (cond b w.ranges []) es) (sym o) ∙ dropped_is w es c.requires c.len-count.ensures.in_order

pub returns-else-is_owner : goal.returns-else-is_owner
returns-else-is_owner c =
    let w = c.args.write.now in
    let es = c.args.table.now.entries in
    let o = sym c.is_owner.ensures ∙ c.if-is_owner.false in
    ap (λ b. turned dropped_turn (cond b w.ranges []) es) (sym o) ∙ dropped_is w es c.requires c.len-count.ensures.in_order
