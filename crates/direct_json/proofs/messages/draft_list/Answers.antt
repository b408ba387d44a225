-- The list has an item, and stands behind this opening.
use Rattle.std.proofs.Common.{◌==◌, ◌∙◌, List, length, sym, ap}
use Rattle.etcd_types.specs.declared.watch.Event.{Event}
use Rattle.direct_json.proofs.Drafted.{events_field}
use Rattle.direct_json.proofs.messages.draft_list.Goals as goal

pub returns : goal.returns
returns c =
    let some = ap (λ (xs : List Event). length xs == 0) (sym c.as_slice.ensures) ∙ sym c.is_empty.ensures ∙ c.if-is_empty.false in
    rw (c.in_ok-end.ensures, c.in_ok-draft_each.ensures, c.in_ok-begin.ensures) (events_field c.args.events.now c.args.draft.now some)
