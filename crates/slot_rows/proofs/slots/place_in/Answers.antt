-- The closure tells how the key of the row in a slot stands to the one looked for.
use Rattle.std.proofs.Common.{rules}
use Rattle.std.proofs.lemmas.Fn.{always_returns_same}
use Rattle.slot_rows.specs.Slots.{order_at}
use Rattle.slot_rows.proofs.Gathered.{searched_slots}
use Rattle.slot_rows.proofs.slots.place_in.Goals as goal

pub returns : goal.returns
returns g c =
    let facts = c.binary_search_by.ensures in
    let by_slot = facts.position (order_at c.args.rows.now c.args.key.now) (always_returns_same _ _ _ (λ a r h called. (search rules, search rules))) in
    searched_slots c.args.rows.now c.args.order.now c.args.key.now c.requires _ facts.bound by_slot
