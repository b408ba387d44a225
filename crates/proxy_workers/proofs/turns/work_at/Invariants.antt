-- So many jobs were done.
use Rattle.std.proofs.Common.{◌≡◌, IsTrue}
use Rattle.server_model.specs.Working.{IsWorking, IsAt}
use Rattle.proxy_workers.specs.Desks.{IsSame, told_by}
use Rattle.proxy_workers.proofs.turns.work_at.Given as goal

abbrev pub invariant-jobs : goal.invariant-jobs
invariant-jobs g l = record {
  home : g.T.Turn.home l.desk.turn.now ≡ g.T.Turn.home l.fn.desk.turn.now;
  late : IsTrue (g.T.Turn.worn l.fn.desk.turn.now) → IsTrue (g.T.Turn.worn l.desk.turn.now);
  allowed : g.T.Turn.allowed l.fn.desk.turn.now → g.T.Turn.allowed l.desk.turn.now;
  same : IsSame l.fn.desk l.desk;
  working : IsWorking l.hosts (IsAt g.T.Seats.place_home (g.T.Turn.home l.fn.desk.turn.now)) g.T.Turn.rests (IsTrue (g.T.Turn.worn l.desk.turn.now)) l.counter
      (told_by g.T.Turn.made g.L.Link.made g.P.Spawner.handed g.L.Link.faults g.P.Spawner.faults l.fn.desk)
      (told_by g.T.Turn.made g.L.Link.made g.P.Spawner.handed g.L.Link.faults g.P.Spawner.faults l.desk);
}
