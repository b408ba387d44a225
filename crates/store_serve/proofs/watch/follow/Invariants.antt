-- More is to come behind each push so far, and all that they say is written.
use Rattle.std.proofs.Common.{◌≡◌, ◌≤◌, true}
use Rattle.std.specs.Io.KnownBytes.{Keeps}
use Rattle.turn_hub.specs.Known.{made}
use Rattle.turn_hub.specs.Steps.{IsAllowed}
use Rattle.store_machine.specs.Standing.{Steps}
use Rattle.shop_dialog.specs.Steps.{has_opened}
use Rattle.shop_dialog.specs.Exchanges.{Partly}
use Rattle.store_serve.proofs.watch.follow.Given as goal

abbrev pub invariant-pushes : goal.invariant-pushes
invariant-pushes g l = record {
  home : l.pass.hub ≡ l.fn.pass.hub;
  opened : has_opened l.number l.pass.seen ≡ true;
  allowed : IsAllowed Steps l.fn.pass → IsAllowed Steps l.pass;
  reads : g.S.Source.faults l.fn.source ≤ g.S.Source.faults l.source;
  writes : g.K.Sink.faults l.fn.sink ≤ g.K.Sink.faults l.sink;
  ahead : Keeps (g.S.Source.left l.fn.source) (g.S.Source.left l.source);
  partly : Partly l.number l.begun (made l.fn.pass) (made l.pass) (g.K.Sink.written l.fn.sink) (g.K.Sink.written l.sink);
}
