-- The next event is told, or isn't.
use Rattle.std.proofs.Common.{◌<◌, length, sym, ◌∙◌, arith}
use Rattle.audit_clients.proofs.Fronts.{front_differs, front_ends, front_goes_on, front_short}
use Rattle.audit_clients.proofs.events.tells_front.Goals as goal

pub returns-then-place-due : goal.returns-then-place-due
returns-then-place-due c =
    let below : c.loop-place.place < length c.args.told.now = omega arith in
    sym (front_short c.args.prev_kv c.args.compacted c.args.namespace.now c.args.told.now c.args.due.now c.loop-place.place c.index-told-place.result below c.index-told-place.is (omega arith)) ∙ c.loop-place.invariant

pub returns-then-not-branch : goal.returns-then-not-branch
returns-then-not-branch c =
    let below : c.loop-place.place < length c.args.told.now = omega arith in
    let within : c.loop-place.place < length c.args.due.now = omega arith in
    sym (front_differs c.args.prev_kv c.args.compacted c.args.namespace.now c.args.told.now c.args.due.now c.loop-place.place c.index-told-place.result c.index-due-place.result below c.index-told-place.is within c.index-due-place.is
    (sym c.in_ok-tells_event.ensures ∙ c.if-not-branch.true)) ∙ c.loop-place.invariant

pub loop-place-preserved : goal.loop-place-preserved
loop-place-preserved c =
    let below : c.loop-place.place < length c.args.told.now = omega arith in
    let within : c.loop-place.place < length c.args.due.now = omega arith in
    front_goes_on c.args.prev_kv c.args.compacted c.args.namespace.now c.args.told.now c.args.due.now c.loop-place.place c.index-told-place.result c.index-due-place.result below c.index-told-place.is within c.index-due-place.is
    (sym c.in_ok-tells_event.ensures ∙ c.if-not-branch.false) ∙ c.loop-place.invariant

pub returns : goal.returns
returns c = sym (front_ends c.args.prev_kv c.args.compacted c.args.namespace.now c.args.told.now c.args.due.now c.loop-place.place (omega arith)) ∙ c.loop-place.invariant
