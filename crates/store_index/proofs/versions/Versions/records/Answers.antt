use Rattle.std.proofs.Common.{List, ◌++◌, sym, ◌∙◌, ap}
use Rattle.std.specs.Option.{option_to_list}
use Rattle.etcd_types.specs.declared.record.Kv.{Kv}
use Rattle.compaction_model.specs.declared.version.Version.{Version}
use Rattle.store_index.specs.Maps.{left_by}
use Rattle.store_index.proofs.OneKey.{one_shown, nothing_left}
use Rattle.store_index.proofs.versions.Versions.records.Goals as goal

pub returns-then-not-is_empty-clause-shown : goal.returns-then-not-is_empty-clause-shown
returns-then-not-is_empty-clause-shown c =
    c.in_ok-add_left.ensures
    ∙ ap (λ (kvs : List Kv). kvs ++ option_to_list (left_by c.args.up_to c.of.result.now)) c.new-kvs.ensures
    ∙ ap (λ (vs : List Version). option_to_list (left_by c.args.up_to vs)) c.of.ensures
    ∙ one_shown (left_by c.args.up_to) c.args.range.now c.args.self.now c.is_empty.ensures.ordered (sym c.is_one.ensures ∙ c.if-is_one.true)
    (nothing_left c.args.up_to)
