use Rattle.std.proofs.Common.{List, [], ◌+◌, sym, ◌∙◌, ap}
use Rattle.etcd_types.specs.declared.record.Kv.{Kv}
use Rattle.store_model.specs.History.{History}
use Rattle.store_model.specs.Ranges.{records_now}
use Rattle.store_index.specs.Maps.{Entries}
use Rattle.store_index.specs.Adding.{added_all}
use Rattle.store_index.specs.Seen.{with_records}
use Rattle.store_index.proofs.IndexLemmas.{records_held, none_made}
use Rattle.store_index.proofs.SeenLemmas.{seen_with_changes}
use Rattle.store_index.proofs.index.Index.records_with.Goals as goal

pub returns-then-is_empty : goal.returns-then-is_empty
returns-then-is_empty c = λ h holds.
    c.in_ok-records.ensures.shown ∙ records_held c.args.self.now h c.args.range.now holds c.in_ok-records.ensures.ordered
    ∙ ap (λ (g : History). records_now g c.args.range.now) (none_made h c.args.made.now (sym c.is_empty.ensures ∙ c.if-is_empty.true))

pub returns : goal.returns
returns c = λ h holds.
    c.in_ok-records-2.ensures.shown
    ∙ seen_with_changes (c.args.self.now.newest + 1) h c.args.range.now c.args.made.now c.in_ok-records.records _ (ap (λ n. n + 1) holds.same_newest)
    (c.in_ok-records.ensures.shown ∙ records_held c.args.self.now h c.args.range.now holds c.in_ok-records.ensures.ordered)
    (c.in_ok-add_copies.ensures
    ∙ ap (λ (es : Entries). added_all (c.args.self.now.newest + 1) c.args.made.now es)
    (c.in_ok-seen.ensures ∙ ap (λ (kvs : List Kv). with_records kvs []) c.as_slice.ensures))
    c.in_ok-records-2.ensures.ordered
