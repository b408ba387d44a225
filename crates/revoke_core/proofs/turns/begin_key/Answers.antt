-- A held entry is written, another one stays.
use Rattle.std.proofs.Common.{cond, sym, ◌∙◌, ap}
use Rattle.etcd_types.specs.Keys.{same}
use Rattle.etcd_types.proofs.KeyOrder.{same-itself}
use Rattle.proxy_model.specs.Keyed.{at}
use Rattle.proxy_model.specs.LeaseTable.{is_held, writing}
use Rattle.wait_model.specs.Phases.{begun}
use Rattle.revoke_core.specs.Steps.{begun_at}
use Rattle.revoke_calls.proofs.Keys.{changed_is, unchanged_is, held_begun, other_begun}
use Rattle.revoke_core.proofs.turns.begin_key.Goals as goal

pub returns-then-is_held : goal.returns-then-is_held
returns-then-is_held c =
    let es = c.args.table.now.entries in
    let k = c.args.key.now in
    ap (λ t. t.entries) c.begin_write.ensures ∙ changed_is es k writing (begun_at k) c.len-count.ensures.in_order (λ j x t. ap (λ b. cond b (begun x) x) t) (held_begun (same k k) (at es k) (same-itself k) (ap is_held (sym c.find.ensures) ∙ sym c.is_held.ensures ∙ c.if-is_held.true))

pub returns-else-is_held : goal.returns-else-is_held
returns-else-is_held c =
    let es = c.args.table.now.entries in
    let k = c.args.key.now in
    unchanged_is es k (begun_at k) c.len-count.ensures.in_order (λ j x t. ap (λ b. cond b (begun x) x) t) (other_begun (same k k) (at es k) (ap is_held (sym c.find.ensures) ∙ sym c.is_held.ensures ∙ c.if-is_held.false))
