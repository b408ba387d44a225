use Rattle.std.proofs.Common.{List, ◌++◌, ◌∷◌, [], take, sym, ◌∙◌, ap}
use Rattle.std.proofs.lemmas.List.{take_more}
use Rattle.etcd_types.specs.declared.record.Kv.{Kv}
use Rattle.store_index.specs.Seen.{with_record, with_records}
use Rattle.store_index.proofs.SeenLemmas.{with_records-push}
use Rattle.store_index.proofs.versions.Versions.of_records.Goals as goal

pub loop-record-preserved : goal.loop-record-preserved
loop-record-preserved c =
    let passed : List Kv = take c.loop-record.record-index c.args.records.now in
    c.in_ok-add_record.ensures ∙ ap (with_record c.record-item.result) c.loop-record.invariant
    ∙ sym (with_records-push passed c.record-item.result [])
    ∙ ap (λ (kvs : List Kv). with_records kvs [])
    (sym (take_more c.args.records.now c.loop-record.record-index c.record-item.result c.loop-record-test.true ∙ ap (λ (kv : Kv). passed ++ kv ∷ []) (sym c.record-item.is)))
