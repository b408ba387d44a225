-- One range more.
use Rattle.std.proofs.Common.{◌≡◌, ◌+◌, ◌<◌, cond, List, length, take, get_or, refl, sym, ◌∙◌, ap, subst}
use Rattle.etcd_types.specs.declared.key_range.KeyRange.{KeyRange}
use Rattle.etcd_types.specs.Ranges.{contains}
use Rattle.proxy_model.specs.declared.lease.Entry.{Entry}
use Rattle.proxy_model.specs.Keyed.{Keyed}
use Rattle.proxy_model.specs.LeaseTable.{given_up}
use Rattle.wait_model.specs.Covers.{covered}
use Rattle.wait_model.specs.Edits.{each}
use Rattle.revoke_calls.proofs.Keys.{each_none, one_more, covered_more, given_up_idle}
use Rattle.revoke_core.proofs.turns.give_up.Goals as goal

pub loop-range-init : goal.loop-range-init
loop-range-init c = sym (each_none _ (λ k x. refl) c.args.table.now.entries)

pub loop-range-preserved : goal.loop-range-preserved
loop-range-preserved c =
    let rs = c.args.write.now.ranges in
    let i = c.loop-range.range-index in
    let r = c.range-item.result in
    let same_list = c.as_slice-range-items.ensures in
    let e : r ≡ get_or rs i r = c.range-item.is ∙ ap (λ (xs : List KeyRange). get_or xs i r) same_list in
    let l : i < length rs = subst (λ (xs : List KeyRange). i < length xs) same_list c.loop-range-test.true in
    ap (λ t. t.entries) c.leave_range.ensures ∙ ap (λ (es : Keyed Entry). each (λ k x. cond (contains r k) (given_up x) x) es) c.loop-range.invariant ∙ one_more given_up given_up_idle (λ k. covered (take i rs) k) (λ k. contains r k) (λ k. covered (take (i + 1) rs) k) (λ k. covered_more rs i r k l e) c.args.table.now.entries
