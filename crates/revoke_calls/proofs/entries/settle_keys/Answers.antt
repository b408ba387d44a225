-- One range more.
use Rattle.std.proofs.Common.{true, ◌+◌, take, refl, sym, ◌∙◌, ap}
use Rattle.etcd_types.specs.Keys.{same}
use Rattle.wait_model.specs.Covers.{covered}
use Rattle.wait_model.specs.Edits.{each}
use Rattle.wait_model.specs.Phases.{if_written}
use Rattle.revoke_calls.specs.Fates.{after, settled_at}
use Rattle.revoke_calls.proofs.Keys.{each_none, one_more, covered_one_more}
use Rattle.revoke_calls.proofs.SettledEntries.{settled_idle}
use Rattle.revoke_calls.proofs.entries.settle_keys.Goals as goal

pub loop-range-init : goal.loop-range-init
loop-range-init c = sym (each_none _ (λ k x. refl) c.args.table.now.entries)

pub loop-range-preserved : goal.loop-range-preserved
loop-range-preserved c =
    let rs = c.args.ranges.now in
    let i = c.loop-range.range-index in
    let r = c.range-item.result in
    c.settle_key.ensures ∙ ap (each (settled_at c.args.fate r.key)) c.loop-range.invariant ∙ one_more (if_written true (after c.args.fate)) (settled_idle c.args.fate) (λ k. covered (take i rs) k) (λ k. same k r.key) (λ k. covered (take (i + 1) rs) k) (λ k. covered_one_more rs i r k c.requires c.loop-range-test.true c.range-item.is) c.args.table.now.entries
