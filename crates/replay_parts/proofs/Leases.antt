-- What a reply on a lease's time to live says of whether the lease is there.
use Rattle.std.proofs.Common.{◌≡◌, ℕ, Bool, true, false, refl, ◌∙◌, ap}
use Rattle.etcd_types.specs.declared.answer.Answer.{Answer}
use Rattle.etcd_types.specs.declared.request.Request.TheVariants as request
use Rattle.replay_parts.specs.Stored.{is_there, says_there}
use Rattle.store_model.specs.Leases.{time_to_live}
use Rattle.store_model.specs.State.{State}
use Rattle.store_model.specs.Step.{exec}
use Rattle.store_model.specs.Transactions.{has_lease}

is_known : (s : State) (lease : ℕ) (known : Bool) → is_there (time_to_live s lease known false) ≡ known
is_known s lease true = refl
is_known s lease false = refl

pub told_lease : (s : State) (lease : ℕ) (a : Answer) → a ≡ (exec s 1 (request.TimeToLive lease false)).1 → says_there a ≡ has_lease s.leases lease
unfolding exec
told_lease s lease a e = ap says_there e ∙ is_known s lease (has_lease s.leases lease)
