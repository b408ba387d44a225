-- The key of the last row is found, at the place of its slot.
use Rattle.std.proofs.Common.{◌≡◌, ◌-◌, Some, None, length, get_or, ◌∙◌, arith}
use Rattle.proxy_model.proofs.KeyedLaws.{to_T}
use Rattle.keyed_rows.proofs.Places.{at-gap}
use Rattle.slot_rows.specs.Slots.{gathered}
use Rattle.slot_rows.proofs.Gathered.{at-slot, place-slot, itself}
use Rattle.slot_rows.proofs.slots.place_of_last.Goals as goal

pub unreachable-requires : goal.unreachable-requires
unreachable-requires g c =
    let rows = c.args.rows.now in
    let ss = c.args.order.now in
    let d = c.index-rows-rows.result in
    let k = (get_or rows (length rows - 1) d).0 in
    let found = at-slot rows ss (length rows - 1) k d c.requires.kept (omega arith) (itself k) in
    let none = at-gap (gathered rows ss) k c.in-Err.field-0 (to_T _ c.requires.kept.in_order) c.in-Err.ensures.absent in
    let both : Some (get_or rows (length rows - 1) d).1 ≡ None = found ∙ none in cc

pub returns-clause-last : goal.returns-clause-last
returns-clause-last g c =
    let rows = c.args.rows.now in
    let ss = c.args.order.now in
    let is = place-slot rows ss (length rows - 1) c.in-Ok.place c.index-rows-rows.result c.requires.kept (omega arith) c.in-Ok.ensures.found in
    let some = c.requires.some in omega (arith, is, some)
