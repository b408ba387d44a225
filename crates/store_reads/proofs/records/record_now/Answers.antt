use Rattle.std.proofs.Common.{◌≡◌, ◌+◌, length, sym, ◌∙◌, ap, arith}
use Rattle.store_model.specs.Records.{after_changes, record_now}
use Rattle.store_model.proofs.HistoryLemmas.{record_now-with_revision}
use Rattle.store_reads.proofs.records.record_now.Goals as goal

pub returns : goal.returns
returns c = λ h holds.
    let key = c.args.key.now in
    let made = c.args.made.now in
    let same = holds.same_newest in
    let next : c.args.index.now.newest + 1 ≡ length h + 2 = omega (arith, same) in
    c.in_ok-after_changes.ensures ∙ ap (after_changes (c.args.index.now.newest + 1) key made) (c.in_ok-old.ensures ∙ c.record.ensures h holds)
    ∙ ap (λ n. after_changes n key made (record_now h key)) next ∙ sym (record_now-with_revision h key made)
