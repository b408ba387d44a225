-- What is to hold of a proxy of a generated script: it has no client watches, and its requests, its calls and its steps are few.
use Rattle.std.specs.Prelude.{◌≡◌, ℕ, ◌+◌, ◌≤◌, Bool, true, false, nat_lt, List, [], length, Option, None, Some, is_some}
use Rattle.std.specs.List.{list_all}
use Rattle.read_model.specs.declared.asked.Asked.{Asked}
use Rattle.core_model.specs.declared.out_call.OutCall.{OutCall}
use Rattle.core_model.specs.Fits.{once, ask_tickets}
use Rattle.core_model.specs.State.{Opening, Core}
use Rattle.generated_laws.specs.OnTime.{IsOnTime}

-- their tickets stand once, and are below the next one
abbrev pub below : ℕ → List ℕ → Bool
below next ns = list_all (λ n. nat_lt n next) ns

pub record AreFew (next : ℕ) (xs : List Asked) : Type 0 where
  pub once : once (ask_tickets xs) ≡ true
  pub below : below next (ask_tickets xs) ≡ true

-- a leasing stream that is to be opened doesn't stand created
abbrev pub IsFresh : Option Opening → Type 0
IsFresh None = Unit {0}
IsFresh (Some o) = is_some o.due ≡ true → o.stream.created ≡ false

-- no client watches, the tickets of its requests below the next one, so many steps at most, and these calls out
pub record Rests (next most : ℕ) (calls : List OutCall) (c : Core) : Type 0 where
  pub asks : AreFew next c.asks
  pub out : c.out ≡ calls
  pub streams : c.watches.streams ≡ []
  pub watches : c.watches.watches ≡ []
  -- with a step for each reply that is still to be fetched
  pub steps : c.steps + length c.asks ≤ most
  pub given : c.watches.given ≤ most
  pub namespace : c.settings.namespace ≡ []
  pub fresh : IsFresh c.leasing

pub record Stands (now next most : ℕ) (calls : List OutCall) (c : Core) : Type 0 where
  pub rests : Rests next most calls c
  pub on_time : IsOnTime now c
