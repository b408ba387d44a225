-- The worker goes on behind each end so far.
use Rattle.std.proofs.Common.{◌≡◌, IsTrue}
use Rattle.server_model.specs.Working.{IsAt, ledger}
use Rattle.server_model.specs.Rounds.{Rounds}
use Rattle.proxy_parts.specs.declared.worker.TheConstants.{TURNS}
use Rattle.proxy_parts.proofs.worker.keep_working.Given as goal

abbrev pub invariant-rounds : goal.invariant-rounds
invariant-rounds g l = record {
  home : g.T.Turn.home l.turn ≡ g.T.Turn.home l.fn.turn;
  allowed : g.T.Turn.allowed l.fn.turn → g.T.Turn.allowed l.turn;
  rounds : Rounds l.hosts (IsAt g.T.Seats.place_home (g.T.Turn.home l.fn.turn)) g.T.Turn.rests (IsTrue (g.T.Turn.worn l.turn)) TURNS
      (ledger (g.T.Turn.made l.fn.turn) (g.L.Link.made l.fn.link) (g.P.Spawner.handed l.fn.spawner) (g.L.Link.faults l.fn.link) (g.P.Spawner.faults l.fn.spawner))
      (ledger (g.T.Turn.made l.turn) (g.L.Link.made l.link) (g.P.Spawner.handed l.spawner) (g.L.Link.faults l.link) (g.P.Spawner.faults l.spawner));
}
