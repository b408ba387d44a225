-- The world of a script's first line is shown.
use Rattle.std.proofs.Common.{◌≡◌, ℕ, ◌-◌, ◌==◌, Bool, true, false, cond, [], slice_get, None, Some, refl, sym}
use Rattle.etcd_types.specs.declared.request.Request.TheVariants as request
use Rattle.store_model.specs.State.{starting}
use Rattle.cache_laws.specs.Moves.View.{opening}
use Rattle.cache_laws.proofs.Store.ReadSteps.{start_stands}
use Rattle.namespace_laws.proofs.Stored.Watches.{starts_are_stored}
use Rattle.call_laws.specs.Forms.{Reads}
use Rattle.world_model.specs.Places.{nth}
use Rattle.bridge_laws.specs.Laws.{BeginsShown}

none_nth : {A B : Type 0} (number : ℕ) (x : A) → nth [] number ≡ Some x → B
none_nth number x e = by (number == 0) e
  where
    by : {A B : Type 0} {x : A} (b : Bool) → cond b None (slice_get [] (number - 1)) ≡ Some x → B
    by true e = absurd (cc)
    by false e = absurd (cc)

pub begins_shown : BeginsShown
begins_shown holder members namespace leasing leases = record {
  leases = leases;
  bare = starting members;
  store = sym (starts_are_stored namespace members);
  view = opening;
  stands = start_stands holder leasing members;
  forms = λ i. Reads request.Leases;
  count = refl;
  calls = λ i call e. none_nth i call e;
  places = λ p x e. absurd (cc);
  absent = λ p e. record { clock = refl; term = refl; slots = λ k. refl };
  floors = record { kept = λ n s f e. absurd (cc); there = λ n s e. absurd (cc); none = λ n s e. refl };
  drawn = λ n e. absurd (cc);
  streams = λ number s e. none_nth number s e;
  watched = λ p x number s e f. none_nth number s f;
}
