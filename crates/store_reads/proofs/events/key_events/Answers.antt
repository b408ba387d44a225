-- The revision of a version is told, and the rest is left.
use Rattle.std.proofs.Common.{◌≡◌, ◌≤◌, ◌<◌, ◌+◌, ◌-◌, List, [], ◌++◌, Some, length, get_or, sym, refl, ◌∙◌, ap, arith}
use Rattle.std.specs.List.{slice_get}
use Rattle.std.proofs.lemmas.List.{append-nil}
use Rattle.std.proofs.lemmas.Option.{slice_get-get_or}
use Rattle.etcd_types.specs.declared.watch.Event.{Event}
use Rattle.store_model.specs.Watches.{next_after}
use Rattle.store_history.proofs.EventLemmas.{telling_on, going_on}
use Rattle.store_reads.specs.Told.{left_to_tell}
use Rattle.store_reads.proofs.TellingProofs.{left_after}
use Rattle.store_reads.proofs.KeyProofs.{kept_within, next_part, none_left}
use Rattle.store_reads.proofs.events.key_events.Goals as goal

pub add_events-requires-clause-first : goal.add_events-requires-clause-first
add_events-requires-clause-first c =
    let vs = c.kept_versions-versions.result.now in
    let v = get_or vs c.loop-at.at c.index-versions-at.result in
    let first = c.loop-at.invariant.first in
    let from = c.loop-at.invariant.begins.later v (slice_get-get_or vs c.loop-at.at c.index-versions-at.result c.loop-at-test.true) in
    omega (arith, first, from)

pub add_events-requires-clause-from : goal.add_events-requires-clause-from
add_events-requires-clause-from c =
    let vs = c.kept_versions-versions.result.now in
    let v = get_or vs c.loop-at.at c.index-versions-at.result in
    let past = c.loop-at.invariant.from in
    let from = c.loop-at.invariant.begins.later v (slice_get-get_or vs c.loop-at.at c.index-versions-at.result c.loop-at-test.true) in
    omega (arith, past, from)

pub add_events-requires-clause-last : goal.add_events-requires-clause-last
add_events-requires-clause-last c =
    let vs = c.kept_versions-versions.result.now in
    let v = get_or vs c.loop-at.at c.index-versions-at.result in
    kept_within c.args.index.now c.args.ask.now.range.key vs c.loop-at.at v c.kept_versions-versions.ensures
    (slice_get-get_or vs c.loop-at.at c.index-versions-at.result c.loop-at-test.true)

pub loop-at-preserved : goal.loop-at-preserved
loop-at-preserved c =
    let vs = c.kept_versions-versions.result.now in
    let v = get_or vs c.loop-at.at c.index-versions-at.result in
    let there = slice_get-get_or vs c.loop-at.at c.index-versions-at.result c.loop-at-test.true in
    let first = c.loop-at.invariant.first in
    let past = c.loop-at.invariant.from in
    let from = c.loop-at.invariant.begins.later v there in
    let last = kept_within c.args.index.now c.args.ask.now.range.key vs c.loop-at.at v c.kept_versions-versions.ensures there in
    record {
      first = omega (arith, first, from);
      from = omega (arith, past, from);
      begins = c.first_from-at-in-loop-at.ensures.first;
      telling = λ h holds.
          let latest : c.args.index.now.newest ≡ length h + 1 = holds.same_newest in
          let part : List Event = left_to_tell c.args.index.now.compacted c.args.ask.now h v.revision 0 in
          let rest : List Event = left_after c.args.index.now.compacted c.args.ask.now h (v.revision + 1) in
          telling_on _ _ part rest _ _
          (next_part c.args.index.now.compacted c.loop-at.revision v.revision c.loop-at.at c.args.ask.now h vs v c.requires.one first past (omega (arith, last, latest)) (c.kept_versions-versions.ensures h holds) c.loop-at.invariant.begins there refl)
          (c.in_ok-add_events.ensures.events h holds) (c.loop-at.invariant.telling h holds);
      going_on = λ h holds.
          let latest : c.args.index.now.newest ≡ length h + 1 = holds.same_newest in
          let part : List Event = left_to_tell c.args.index.now.compacted c.args.ask.now h v.revision 0 in
          let rest : List Event = left_after c.args.index.now.compacted c.args.ask.now h (v.revision + 1) in
          going_on _ _ _ part rest _
          (next_part c.args.index.now.compacted c.loop-at.revision v.revision c.loop-at.at c.args.ask.now h vs v c.requires.one first past (omega (arith, last, latest)) (c.kept_versions-versions.ensures h holds) c.loop-at.invariant.begins there refl)
          (c.in_ok-add_events.ensures.next h holds) (c.loop-at.invariant.going_on h holds);
    }

pub loop-at-smaller : goal.loop-at-smaller
loop-at-smaller c =
    let vs = c.kept_versions-versions.result.now in
    let v = get_or vs c.loop-at.at c.index-versions-at.result in
    let there = slice_get-get_or vs c.loop-at.at c.index-versions-at.result c.loop-at-test.true in
    let from = c.loop-at.invariant.begins.later v there in
    let last = kept_within c.args.index.now c.args.ask.now.range.key vs c.loop-at.at v c.kept_versions-versions.ensures there in
    omega (arith, from, last)

pub overflow_add-revision : goal.overflow_add-revision
overflow_add-revision c =
    let vs = c.kept_versions-versions.result.now in
    let v = get_or vs c.loop-at.at c.index-versions-at.result in
    let last = kept_within c.args.index.now c.args.ask.now.range.key vs c.loop-at.at v c.kept_versions-versions.ensures
    (slice_get-get_or vs c.loop-at.at c.index-versions-at.result c.loop-at-test.true) in
    let room = c.args.index.now.room in
    omega (arith, last, room)

pub returns-clause-events : goal.returns-clause-events
returns-clause-events c = λ h holds.
    let out : length c.kept_versions-versions.result.now ≤ c.loop-at.at = omega arith in
    let none = none_left c.args.index.now.compacted c.loop-at.revision c.loop-at.at c.args.ask.now h c.kept_versions-versions.result.now c.requires.one
    c.loop-at.invariant.first c.loop-at.invariant.from (c.kept_versions-versions.ensures h holds) c.loop-at.invariant.begins out in
    sym (append-nil c.loop-at.batch.events) ∙ ap (λ (es : List Event). c.loop-at.batch.events ++ es) (sym none) ∙ c.loop-at.invariant.telling h holds

pub returns-clause-next : goal.returns-clause-next
returns-clause-next c = λ h holds.
    let out : length c.kept_versions-versions.result.now ≤ c.loop-at.at = omega arith in
    let none = none_left c.args.index.now.compacted c.loop-at.revision c.loop-at.at c.args.ask.now h c.kept_versions-versions.result.now c.requires.one
    c.loop-at.invariant.first c.loop-at.invariant.from (c.kept_versions-versions.ensures h holds) c.loop-at.invariant.begins out in
    let whole = sym (append-nil c.loop-at.batch.events) ∙ ap (λ (es : List Event). c.loop-at.batch.events ++ es) (sym none) ∙ c.loop-at.invariant.telling h holds in
    ap (next_after c.loop-at.batch.next) (sym none) ∙ c.loop-at.invariant.going_on h holds ∙ ap (next_after c.args.from) (sym whole)
