-- The version at its place tells the change, for each history of which the index holds what is kept; and there is one.
use Rattle.std.proofs.Common.{◌≡◌, ◌+◌, ◌<◌, List, None, ◌++◌, cond, true, length, take, sym, ◌∙◌, ap, arith, rules, length-take-le}
use Rattle.std.proofs.Math.Bridge.{le_prop}
use Rattle.std.proofs.Math.Logic.{∥∥₁_elim}
use Rattle.std.proofs.lemmas.Option.{get_or_from_slice_get}
use Rattle.std.specs.Option.{option_copied}
use Rattle.etcd_types.specs.Ranges.{contains}
use Rattle.etcd_types.specs.declared.watch.Event.{Event}
use Rattle.compaction_model.specs.declared.version.Version.{Version}
use Rattle.compaction_model.specs.Versions.{last_left}
use Rattle.store_model.specs.Watches.{next_after}
use Rattle.store_reads.specs.Told.{left_passes, told_left, left_to_tell}
use Rattle.store_reads.specs.Places.{count_same}
use Rattle.store_reads.proofs.PassedProofs.{passed_before, few_passed, passed_out, passed_in, repeated_there}
use Rattle.store_reads.proofs.TellingProofs.{at_index, over_index, goes_on, next_goes_on}
use Rattle.store_reads.proofs.events.tell_change.Goals as goal

pub returns-then-not-contains-clause-events : goal.returns-then-not-contains-clause-events
returns-then-not-contains-clause-events c = λ h holds.
    ap (λ (es : List Event). c.args.batch.now.events ++ es)
    (over_index c.args.index.now c.args.ask.now h c.args.revision c.args.place c.args.keys.now c.index-keys-place.result holds c.requires.first c.requires.last
    (c.requires.keys h holds) c.requires.place c.index-keys-place.is (search rules))

pub returns-then-not-contains-clause-next : goal.returns-then-not-contains-clause-next
returns-then-not-contains-clause-next c = λ h holds.
    ap (next_after c.args.batch.now.next)
    (over_index c.args.index.now c.args.ask.now h c.args.revision c.args.place c.args.keys.now c.index-keys-place.result holds c.requires.first c.requires.last
    (c.requires.keys h holds) c.requires.place c.index-keys-place.is (search rules))

pub bounds-versions-at : goal.bounds-versions-at
bounds-versions-at c =
    let within : contains c.args.ask.now.range c.index-keys-place.result ≡ true = search rules in
    let before : c.in_ok-at.field-0 ≡ count_same c.index-keys-place.result (take c.args.place c.args.keys.now) =
    passed_before c.args.index.now c.args.ask.now c.args.revision c.args.keys.now c.index-keys-place.result c.kept_versions-versions.result.now c.first_from-first.result c.args.place c.in_ok-at.field-0
    c.args.passed.now c.requires.first c.requires.from c.requires.last c.requires.keys c.kept_versions-versions.ensures c.first_from-first.ensures.first c.requires.passed within c.requires.place
    c.index-keys-place.is c.in_ok-at.ensures.count in
    ∥∥₁_elim c.args.index.now.of_a_history le_prop
    (λ x. (at_index c.args.index.now c.args.ask.now x.0 c.args.revision c.args.place c.args.keys.now c.index-keys-place.result c.kept_versions-versions.result.now (c.first_from-first.result + c.in_ok-at.field-0) c.first_from-first.result x.1 c.requires.first c.requires.from c.requires.last (c.requires.keys x.0 x.1) c.requires.place c.index-keys-place.is (c.kept_versions-versions.ensures x.0 x.1) c.first_from-first.ensures.first (ap (λ n. c.first_from-first.result + n) before)).within)

pub offset_bounds-versions-at : goal.offset_bounds-versions-at
offset_bounds-versions-at c =
    let within : contains c.args.ask.now.range c.index-keys-place.result ≡ true = search rules in
    let before : c.in_ok-at.field-0 ≡ count_same c.index-keys-place.result (take c.args.place c.args.keys.now) =
    passed_before c.args.index.now c.args.ask.now c.args.revision c.args.keys.now c.index-keys-place.result c.kept_versions-versions.result.now c.first_from-first.result c.args.place c.in_ok-at.field-0
    c.args.passed.now c.requires.first c.requires.from c.requires.last c.requires.keys c.kept_versions-versions.ensures c.first_from-first.ensures.first c.requires.passed within c.requires.place
    c.index-keys-place.is c.in_ok-at.ensures.count in
    let there : c.first_from-first.result + c.in_ok-at.field-0 < length c.kept_versions-versions.result.now =
    ∥∥₁_elim c.args.index.now.of_a_history le_prop
    (λ x. (at_index c.args.index.now c.args.ask.now x.0 c.args.revision c.args.place c.args.keys.now c.index-keys-place.result c.kept_versions-versions.result.now (c.first_from-first.result + c.in_ok-at.field-0) c.first_from-first.result x.1 c.requires.first c.requires.from c.requires.last (c.requires.keys x.0 x.1) c.requires.place c.index-keys-place.is (c.kept_versions-versions.ensures x.0 x.1) c.first_from-first.ensures.first (ap (λ n. c.first_from-first.result + n) before)).within) in
    search (there, rules)

pub slice_bounds-left_now-end : goal.slice_bounds-left_now-end
slice_bounds-left_now-end c =
    let within : contains c.args.ask.now.range c.index-keys-place.result ≡ true = search rules in
    let before : c.in_ok-at.field-0 ≡ count_same c.index-keys-place.result (take c.args.place c.args.keys.now) =
    passed_before c.args.index.now c.args.ask.now c.args.revision c.args.keys.now c.index-keys-place.result c.kept_versions-versions.result.now c.first_from-first.result c.args.place c.in_ok-at.field-0
    c.args.passed.now c.requires.first c.requires.from c.requires.last c.requires.keys c.kept_versions-versions.ensures c.first_from-first.ensures.first c.requires.passed within c.requires.place
    c.index-keys-place.is c.in_ok-at.ensures.count in
    let there : c.first_from-first.result + c.in_ok-at.field-0 < length c.kept_versions-versions.result.now =
    ∥∥₁_elim c.args.index.now.of_a_history le_prop
    (λ x. (at_index c.args.index.now c.args.ask.now x.0 c.args.revision c.args.place c.args.keys.now c.index-keys-place.result c.kept_versions-versions.result.now (c.first_from-first.result + c.in_ok-at.field-0) c.first_from-first.result x.1 c.requires.first c.requires.from c.requires.last (c.requires.keys x.0 x.1) c.requires.place c.index-keys-place.is (c.kept_versions-versions.ensures x.0 x.1) c.first_from-first.ensures.first (ap (λ n. c.first_from-first.result + n) before)).within) in
    sym (length-take-le (c.first_from-first.result + c.in_ok-at.field-0) c.kept_versions-versions.result.now (omega (arith, there)))

pub returns-clause-events : goal.returns-clause-events
returns-clause-events c = λ h holds.
    let within : contains c.args.ask.now.range c.index-keys-place.result ≡ true = search rules in
    let before : c.in_ok-at.field-0 ≡ count_same c.index-keys-place.result (take c.args.place c.args.keys.now) =
    passed_before c.args.index.now c.args.ask.now c.args.revision c.args.keys.now c.index-keys-place.result c.kept_versions-versions.result.now c.first_from-first.result c.args.place c.in_ok-at.field-0
    c.args.passed.now c.requires.first c.requires.from c.requires.last c.requires.keys c.kept_versions-versions.ensures c.first_from-first.ensures.first c.requires.passed within c.requires.place
    c.index-keys-place.is c.in_ok-at.ensures.count in
    let at = c.first_from-first.result + c.in_ok-at.field-0 in
    let here = at_index c.args.index.now c.args.ask.now h c.args.revision c.args.place c.args.keys.now c.index-keys-place.result c.kept_versions-versions.result.now (c.first_from-first.result + c.in_ok-at.field-0) c.first_from-first.result holds c.requires.first c.requires.from c.requires.last (c.requires.keys h holds) c.requires.place c.index-keys-place.is (c.kept_versions-versions.ensures h holds) c.first_from-first.ensures.first (ap (λ n. c.first_from-first.result + n) before) in
    let left : option_copied c.as_ref-left.result ≡ here.version.left =
    c.as_ref-left.ensures.value
    ∙ ap (λ (v : Version). v.left) (get_or_from_slice_get c.kept_versions-versions.result.now at here.version c.index-versions-at.result here.there) in
    let part : List Event = told_left c.args.index.now.compacted c.args.ask.now c.args.revision c.index-keys-place.result (last_left (take at c.kept_versions-versions.result.now) None) here.version.left in
    let rest : List Event = left_to_tell c.args.index.now.compacted c.args.ask.now h c.args.revision (c.args.place + 1) in
    goes_on c.args.batch.now.events c.add_event.new.batch.events part rest _ (here.step within)
    (c.in_ok-add_event.ensures.events
    ∙ (λ i. c.args.batch.now.events ++ told_left c.args.index.now.compacted c.args.ask.now c.args.revision c.index-keys-place.result (c.left_now-old.ensures i) (left i)))

pub returns-clause-next : goal.returns-clause-next
returns-clause-next c = λ h holds.
    let within : contains c.args.ask.now.range c.index-keys-place.result ≡ true = search rules in
    let before : c.in_ok-at.field-0 ≡ count_same c.index-keys-place.result (take c.args.place c.args.keys.now) =
    passed_before c.args.index.now c.args.ask.now c.args.revision c.args.keys.now c.index-keys-place.result c.kept_versions-versions.result.now c.first_from-first.result c.args.place c.in_ok-at.field-0
    c.args.passed.now c.requires.first c.requires.from c.requires.last c.requires.keys c.kept_versions-versions.ensures c.first_from-first.ensures.first c.requires.passed within c.requires.place
    c.index-keys-place.is c.in_ok-at.ensures.count in
    let at = c.first_from-first.result + c.in_ok-at.field-0 in
    let here = at_index c.args.index.now c.args.ask.now h c.args.revision c.args.place c.args.keys.now c.index-keys-place.result c.kept_versions-versions.result.now (c.first_from-first.result + c.in_ok-at.field-0) c.first_from-first.result holds c.requires.first c.requires.from c.requires.last (c.requires.keys h holds) c.requires.place c.index-keys-place.is (c.kept_versions-versions.ensures h holds) c.first_from-first.ensures.first (ap (λ n. c.first_from-first.result + n) before) in
    let left : option_copied c.as_ref-left.result ≡ here.version.left =
    c.as_ref-left.ensures.value
    ∙ ap (λ (v : Version). v.left) (get_or_from_slice_get c.kept_versions-versions.result.now at here.version c.index-versions-at.result here.there) in
    let part : List Event = told_left c.args.index.now.compacted c.args.ask.now c.args.revision c.index-keys-place.result (last_left (take at c.kept_versions-versions.result.now) None) here.version.left in
    let rest : List Event = left_to_tell c.args.index.now.compacted c.args.ask.now h c.args.revision (c.args.place + 1) in
    next_goes_on c.args.batch.now.next c.add_event.new.batch.next part rest _ (here.step within)
    (c.in_ok-add_event.ensures.next ∙ (λ i. cond (left_passes c.args.ask.now (left i)) (c.args.revision + 1) c.args.batch.now.next) ∙ sym (here.next within c.args.batch.now.next))

-- the counts before the next place

pub returns-then-not-contains-clause-passed : goal.returns-then-not-contains-clause-passed
returns-then-not-contains-clause-passed c =
    passed_out c.args.ask.now.range c.args.passed.now c.args.keys.now c.args.place c.index-keys-place.result c.requires.passed (search rules) c.requires.place c.index-keys-place.is

pub returns-clause-passed : goal.returns-clause-passed
returns-clause-passed c =
    passed_in c.args.ask.now.range c.args.passed.now c.pass.new.self c.args.keys.now c.args.place c.index-keys-place.result _ c.requires.passed c.requires.place c.index-keys-place.is
    (repeated_there c.args.index.now c.args.ask.now c.args.revision c.args.keys.now c.index-keys-place.result c.kept_versions-versions.result.now c.first_from-first.result
    c.requires.first c.requires.from c.requires.last c.requires.keys c.kept_versions-versions.ensures c.first_from-first.ensures.first)
    c.in_ok-at.ensures.passed

pub pass-requires-clause-few : goal.pass-requires-clause-few
pass-requires-clause-few c =
    let within : contains c.args.ask.now.range c.index-keys-place.result ≡ true = search rules in
    let few = few_passed c.args.ask.now.range c.args.passed.now c.args.keys.now c.args.place c.index-keys-place.result c.requires.passed within c.requires.place in
    let lt = c.requires.place in
    let fits = c.requires.fits in
    omega (arith, few, lt, fits)

pub overflow_add-at : goal.overflow_add-at
overflow_add-at c =
    let within : contains c.args.ask.now.range c.index-keys-place.result ≡ true = search rules in
    let before : c.in_ok-at.field-0 ≡ count_same c.index-keys-place.result (take c.args.place c.args.keys.now) =
    passed_before c.args.index.now c.args.ask.now c.args.revision c.args.keys.now c.index-keys-place.result c.kept_versions-versions.result.now c.first_from-first.result c.args.place c.in_ok-at.field-0
    c.args.passed.now c.requires.first c.requires.from c.requires.last c.requires.keys c.kept_versions-versions.ensures c.first_from-first.ensures.first c.requires.passed within c.requires.place
    c.index-keys-place.is c.in_ok-at.ensures.count in
    let there : c.first_from-first.result + c.in_ok-at.field-0 < length c.kept_versions-versions.result.now =
    ∥∥₁_elim c.args.index.now.of_a_history le_prop
    (λ x. (at_index c.args.index.now c.args.ask.now x.0 c.args.revision c.args.place c.args.keys.now c.index-keys-place.result c.kept_versions-versions.result.now (c.first_from-first.result + c.in_ok-at.field-0) c.first_from-first.result x.1 c.requires.first c.requires.from c.requires.last (c.requires.keys x.0 x.1) c.requires.place c.index-keys-place.is (c.kept_versions-versions.ensures x.0 x.1) c.first_from-first.ensures.first (ap (λ n. c.first_from-first.result + n) before)).within) in
    let fits = c.first_from-first.ensures.fits in
    omega (arith, there, fits)
