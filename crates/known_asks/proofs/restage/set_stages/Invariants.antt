-- Those so far are in their stages.
use Rattle.std.proofs.Common.{◌≡◌}
use Rattle.known_asks.specs.Changes.{restaged}
use Rattle.known_asks.proofs.restage.set_stages.Given as goal

abbrev pub invariant-loop-ticket : goal.invariant-loop-ticket
invariant-loop-ticket l = l.asks ≡ restaged l.yielded l.initial.asks
