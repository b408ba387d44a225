-- The rows so far are done, and the others as they were; each is found by its mark.
use Rattle.std.proofs.Common.{◌≡◌, ◌++◌, map, take, drop, IsTrue}
use Rattle.numbered_rows.specs.Numbered.{is_in_order}
use Rattle.ask_tables.specs.Marked.{Marked}
use Rattle.known_asks.proofs.places.change_rows.Given as goal

abbrev pub invariant-loop-row : goal.invariant-loop-row
invariant-loop-row g l = record {
  done : l.row-items ≡ map (λ r. (r.0, g.R.Rule.changed l.rule r.1)) (take l.row-index l.initial.row-items) ++ drop l.row-index l.initial.row-items;
  in_order : IsTrue (is_in_order l.row-items);
  marked : Marked l.row-items l.tables;
}
