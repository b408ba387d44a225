-- All requests that were read so far were answered whole.
use Rattle.std.proofs.Common.{None, ◌≡◌, ◌≤◌}
use Rattle.http_wire.specs.Connections.{bytes_ahead}
use Rattle.turn_hub.specs.Known.{made}
use Rattle.turn_hub.specs.Steps.{IsAllowed}
use Rattle.store_machine.specs.Standing.{Steps}
use Rattle.shop_dialog.specs.Exchanges.{Has}
use Rattle.store_serve.proofs.serve.serve_store.Given as goal

abbrev pub invariant-requests : goal.invariant-requests
invariant-requests g l = record {
  sound : l.wire.fault ≡ None;
  home : l.pass.hub ≡ l.fn.pass.hub;
  allowed : IsAllowed Steps l.fn.pass → IsAllowed Steps l.pass;
  reads : g.S.Source.faults l.fn.source ≤ g.S.Source.faults l.source;
  writes : g.K.Sink.faults l.fn.sink ≤ g.K.Sink.faults l.sink;
  has : Has (g.S.Source.left l.fn.source) (bytes_ahead (g.S.Source.left l.source) l.wire) (made l.fn.pass) (made l.pass) (g.K.Sink.written l.fn.sink) (g.K.Sink.written l.sink);
}
