-- The list has an item, and stands behind this opening.
use Rattle.std.proofs.Common.{◌==◌, ◌∙◌, List, length, sym, ap}
use Rattle.etcd_types.specs.declared.record.Kv.{Kv}
use Rattle.direct_json.proofs.Drafted.{records_field}
use Rattle.direct_json.proofs.replies.draft_kvs.Goals as goal

pub returns : goal.returns
returns c =
    let some = ap (λ (xs : List Kv). length xs == 0) (sym c.as_slice.ensures) ∙ sym c.is_empty.ensures ∙ c.if-is_empty.false in
    rw (c.in_ok-end.ensures, c.in_ok-draft_items.ensures, c.in_ok-begin.ensures) (records_field c.args.kvs.now c.args.draft.now some)
