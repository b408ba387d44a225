-- The row at the place is the key's, and at a gap there is none.
use Rattle.std.proofs.Common.{sym}
use Rattle.proxy_model.proofs.KeyedLaws.{to_T}
use Rattle.keyed_rows.proofs.Places.{found-place, at-gap}
use Rattle.slot_rows.proofs.slots.Slots.find.Goals as goal

pub returns-in-Ok : goal.returns-in-Ok
returns-in-Ok g c = found-place c.args.self.now.rows c.args.key.now c.in-Ok.place c.row.result.now c.in-Ok.ensures.found c.row.ensures

pub returns-in-Err : goal.returns-in-Err
returns-in-Err g c = sym (at-gap c.args.self.now.rows c.args.key.now c.in-Err.field-0 (to_T _ c.len-count.ensures.in_order) c.in-Err.ensures.absent)
