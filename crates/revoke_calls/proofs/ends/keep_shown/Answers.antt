-- Key after key, and nothing where it is no owner.
use Rattle.std.proofs.Common.{cond, [], sym, ◌∙◌, ap}
use Rattle.revoke_calls.specs.Ends.{turned, kept_turn}
use Rattle.revoke_calls.proofs.TurnedKeys.{kept_is}
use Rattle.revoke_calls.proofs.ends.keep_shown.Goals as goal

pub returns-then-is_owner-clause-entries : goal.returns-then-is_owner-clause-entries
returns-then-is_owner-clause-entries c =
    let w = c.args.write.now in
    let os = c.args.owners.now in
    let es = c.args.table.now.entries in
    let o = sym c.is_owner.ensures ∙ c.if-is_owner.true in
    c.keep_keys.ensures.entries ∙ ap (λ rs. turned (kept_turn os) rs es) c.as_slice.ensures ∙ ap (λ b. turned (kept_turn os) (cond b w.ranges []) es) (sym o) ∙ kept_is w os es c.requires c.len-count.ensures.in_order

pub returns-else-is_owner-clause-entries : goal.returns-else-is_owner-clause-entries
returns-else-is_owner-clause-entries c =
    let w = c.args.write.now in
    let os = c.args.owners.now in
    let es = c.args.table.now.entries in
    let o = sym c.is_owner.ensures ∙ c.if-is_owner.false in
    ap (λ b. turned (kept_turn os) (cond b w.ranges []) es) (sym o) ∙ kept_is w os es c.requires c.len-count.ensures.in_order
