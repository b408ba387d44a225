use Rattle.std.proofs.Common.{List, filter, ◌∙◌, ap}
use Rattle.etcd_types.specs.declared.record.Kv.{Kv}
use Rattle.store_model.specs.Leases.{all_keys, is_attached}
use Rattle.store_index.proofs.IndexLemmas.{records_held}
use Rattle.store_index.proofs.index.Index.attached.Goals as goal

pub returns : goal.returns
returns c = λ h holds.
    c.in_ok-attached.ensures.shown
    ∙ ap (λ (kvs : List Kv). filter (is_attached c.args.lease) kvs) (records_held c.args.self.now h all_keys holds c.in_ok-attached.ensures.ordered)
