-- What is left to fetch, from here, is what was to be fetched.
use Rattle.std.proofs.Common.{◌≡◌, ◌-◌}
use Rattle.world_model.specs.Gains.{fetched}
use Rattle.replay_places.proofs.place.Place.fetch.Given as goal

abbrev pub invariant-loop : goal.invariant-loop
invariant-loop g l = fetched (l.count - l.counter) l.self l.told ≡ fetched l.count l.initial.self l.initial.told
