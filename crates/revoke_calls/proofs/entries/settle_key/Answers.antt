-- An entry that is being written is settled, another one stays.
use Rattle.std.proofs.Common.{true, cond, sym, ◌∙◌, ap}
use Rattle.etcd_types.specs.Keys.{same}
use Rattle.etcd_types.proofs.KeyOrder.{same-itself}
use Rattle.proxy_model.specs.Keyed.{at}
use Rattle.proxy_model.specs.LeaseTable.{is_writing}
use Rattle.wait_model.specs.Phases.{if_written}
use Rattle.revoke_calls.specs.Fates.{after, settled_at}
use Rattle.revoke_calls.proofs.Keys.{changed_is, unchanged_is}
use Rattle.revoke_calls.proofs.SettledEntries.{written_here, other_here}
use Rattle.revoke_calls.proofs.entries.settle_key.Goals as goal

pub returns-then-is_writing : goal.returns-then-is_writing
returns-then-is_writing c =
    let es = c.args.table.now.entries in
    let k = c.args.key.now in
    ap (λ t. t.entries) c.set_fate.ensures ∙ changed_is es k (after c.args.fate) (settled_at c.args.fate k) c.len-count.ensures.in_order (λ j x t. ap (λ b. cond b (if_written true (after c.args.fate) x) x) t) (written_here (after c.args.fate) (same k k) (at es k) (same-itself k) (ap is_writing (sym c.find.ensures) ∙ sym c.is_writing.ensures ∙ c.if-is_writing.true))

pub returns-else-is_writing : goal.returns-else-is_writing
returns-else-is_writing c =
    let es = c.args.table.now.entries in
    let k = c.args.key.now in
    unchanged_is es k (settled_at c.args.fate k) c.len-count.ensures.in_order (λ j x t. ap (λ b. cond b (if_written true (after c.args.fate) x) x) t) (other_here (after c.args.fate) (same k k) (at es k) (ap is_writing (sym c.find.ensures) ∙ sym c.is_writing.ensures ∙ c.if-is_writing.false))
