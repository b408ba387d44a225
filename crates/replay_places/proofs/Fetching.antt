-- One more reply is fetched.
use Rattle.std.proofs.Common.{◌≡◌, ℕ, suc, ◌-◌, ◌+◌, ◌<◌, true, sym, ◌∙◌, ap, arith}
use Rattle.replay_places.specs.Places.{fetches_on}
use Rattle.world_model.specs.Gains.{Replies, Fetched, fetched}
use Rattle.world_model.specs.State.{Place}

pub fetched_more : (count counter : ℕ) (old : Place) (told : Replies) (new : Place) (told' : Replies) (all : Fetched) → counter < count → fetches_on true old told new told' → fetched (count - counter) old told ≡ all → fetched (count - (counter + 1)) new told' ≡ all
fetched_more count counter old told new told' all below h e =
    let one_less : count - counter ≡ suc (count - (counter + 1)) = omega arith in
    sym (h (count - (counter + 1))) ∙ sym (ap (λ n. fetched n old told) one_less) ∙ e
