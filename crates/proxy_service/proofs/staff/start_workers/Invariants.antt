-- So many were started, each at the same home.
use Rattle.std.proofs.Common.{◌≡◌, ◌≤◌, Ok}
use Rattle.proxy_parts.specs.Homes.{home_of}
use Rattle.proxy_service.specs.Parts.{workers}
use Rattle.proxy_service.specs.Told.{IsStarted}
use Rattle.proxy_service.proofs.staff.start_workers.Given as goal

abbrev pub invariant-loop : goal.invariant-loop
invariant-loop g l = record {
  home : home_of l.place ≡ home_of l.fn.place;
  few : l.counter ≤ l.count;
  started : IsStarted home_of (workers (home_of l.fn.place) l.counter) (g.P.Spawner.handed l.fn.spawner) (g.P.Spawner.handed l.spawner) (g.P.Spawner.faults l.fn.spawner) (g.P.Spawner.faults l.spawner) (Ok tt);
}
