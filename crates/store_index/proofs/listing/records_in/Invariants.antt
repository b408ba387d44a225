-- What is found, and what the entries still to come show, is what all show.
use Rattle.std.proofs.Common.{◌≡◌, ◌++◌, map, filter_map}
use Rattle.store_index.specs.Maps.{left_by, shown_by}
use Rattle.store_index.proofs.listing.records_in.Given as goal

abbrev pub invariant-loop-versions : goal.invariant-loop-versions
invariant-loop-versions l = map (λ r. r.now) l.found.items ++ filter_map (λ e. left_by l.up_to e.1) l.versions-iterator ≡ shown_by (left_by l.up_to) l.range l.map.entries
