-- The index's row has the number of the ticket's row, which is there.
use Rattle.numbered_rows.proofs.NumberedLaws.{to_T}
use Rattle.numbered_rows.proofs.Places.{at-place, at-gap}
use Rattle.known_asks.proofs.Tickets.{no_gap}
use Rattle.known_asks.proofs.places.places.Goals as goal

pub returns-in_default-clause-absent : goal.returns-in_default-clause-absent
returns-in_default-clause-absent c =
    at-gap c.args.index.now c.args.ticket _ (to_T _ c.requires.index_rises) c.in_default.ensures.absent

pub unreachable-requires : goal.unreachable-requires
unreachable-requires c =
    no_gap c.args.rows.now c.args.index.now c.args.ticket _ _ c.requires (at-place c.args.index.now c.args.ticket c.in-Ok.at _ c.in-Ok.ensures.found) c.in-Err.ensures.absent

pub returns-clause-found : goal.returns-clause-found
returns-clause-found c = record {
  number = _;
  is = at-place c.args.index.now c.args.ticket c.in-Ok.at _ c.in-Ok.ensures.found;
  in_index = c.in-Ok.ensures.found;
  in_rows = c.in-Ok-place.ensures.found;
  index_bound = c.in-Ok.ensures.in_range;
  rows_bound = c.in-Ok-place.ensures.in_range;
}
