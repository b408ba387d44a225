use Rattle.std.proofs.Common.{◌≤◌, List, ◌++◌, length, sym, ◌∙◌, ap, arith}
use Rattle.std.proofs.lemmas.List.{append-nil}
use Rattle.etcd_types.specs.declared.watch.Event.{Event}
use Rattle.store_model.specs.Watches.{next_after}
use Rattle.store_reads.proofs.TellingProofs.{nothing_left}
use Rattle.store_reads.proofs.events.add_events.Goals as goal

pub returns-clause-events : goal.returns-clause-events
returns-clause-events c = λ h holds.
    let all = c.as_slice-keys.ensures ∙ c.in_ok-changed.ensures h holds in
    let le : length c.as_slice-keys.result.now ≤ c.loop-place.place = omega arith in
    sym (append-nil c.loop-place.batch.events)
    ∙ ap (λ (es : List Event). c.loop-place.batch.events ++ es)
    (sym (nothing_left c.args.index.now.compacted c.args.ask.now h c.args.revision c.loop-place.place c.as_slice-keys.result.now all le))
    ∙ c.loop-place.invariant.telling h holds

pub returns-clause-next : goal.returns-clause-next
returns-clause-next c = λ h holds.
    let all = c.as_slice-keys.ensures ∙ c.in_ok-changed.ensures h holds in
    let le : length c.as_slice-keys.result.now ≤ c.loop-place.place = omega arith in
    ap (next_after c.loop-place.batch.next)
    (sym (nothing_left c.args.index.now.compacted c.args.ask.now h c.args.revision c.loop-place.place c.as_slice-keys.result.now all le))
    ∙ c.loop-place.invariant.going_on h holds
