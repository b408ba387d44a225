-- One range more.
use Rattle.std.proofs.Common.{◌≡◌, ◌+◌, ◌<◌, ◌&&◌, List, length, take, get_or, refl, sym, ◌∙◌, ap, subst}
use Rattle.etcd_types.specs.declared.key_range.KeyRange.{KeyRange}
use Rattle.etcd_types.specs.Keys.{same}
use Rattle.wait_model.specs.Covers.{covered, leased}
use Rattle.wait_model.specs.Edits.{each}
use Rattle.wait_model.specs.Phases.{let_go}
use Rattle.revoke_core.specs.Steps.{let_go_at}
use Rattle.revoke_calls.proofs.Keys.{each_none, one_more, covered_one_more, let_go_idle, and_or}
use Rattle.revoke_core.proofs.turns.let_go.Goals as goal

pub loop-range-init : goal.loop-range-init
loop-range-init c = sym (each_none _ (λ k x. refl) c.args.table.now.entries)

pub loop-range-preserved : goal.loop-range-preserved
loop-range-preserved c =
    let rs = c.args.write.now.ranges in
    let i = c.loop-range.range-index in
    let r = c.range-item.result in
    let same_list = c.as_slice-range-items.ensures in
    let e : r ≡ get_or rs i r = c.range-item.is ∙ ap (λ (xs : List KeyRange). get_or xs i r) same_list in
    let l : i < length rs = subst (λ (xs : List KeyRange). i < length xs) same_list c.loop-range-test.true in
    c.let_go_key.ensures ∙ ap (each (let_go_at c.args.write.now.request r.key)) c.loop-range.invariant ∙ one_more let_go let_go_idle (λ k. covered (take i rs) k && leased c.args.write.now.request k) (λ k. same k r.key && leased c.args.write.now.request k) (λ k. covered (take (i + 1) rs) k && leased c.args.write.now.request k) (λ k. ap (λ b. b && leased c.args.write.now.request k) (covered_one_more rs i r k c.requires l e) ∙ and_or (covered (take i rs) k) (same k r.key) (leased c.args.write.now.request k)) c.args.table.now.entries
