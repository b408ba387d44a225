-- One more reply is fetched.
use Rattle.std.proofs.Common.{Bool, true, subst}
use Rattle.replay_places.proofs.Fetching.{fetched_more}
use Rattle.replay_places.specs.Places.{fetches_on}
use Rattle.replay_places.proofs.place.Place.fetch.Goals as goal

pub loop-preserved : goal.loop-preserved
loop-preserved g c =
    let more = subst (λ (b : Bool). fetches_on b c.loop.self c.loop.told c.fetch_one.new.self c.fetch_one.new.told) c.if-not-more.false c.in_ok-more.ensures in
    fetched_more _ c.loop.counter c.loop.self c.loop.told _ _ _ c.loop-test.true more c.loop.invariant
