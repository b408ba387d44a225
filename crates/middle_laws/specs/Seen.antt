-- A proxy before a step, seen by a view of true caches; and what it is that a ground of its reads holds only what the store has.
use Rattle.std.specs.Prelude.{◌≡◌, ℕ, true, List, Some}
use Rattle.proxy_model.specs.declared.lease.Entry.{Entry}
use Rattle.proxy_model.specs.declared.lease.Phase.TheVariants.{Held}
use Rattle.proxy_model.specs.Keyed.{at}
use Rattle.read_model.specs.State.{Ground}
use Rattle.core_model.specs.declared.event.CoreEvent.{CoreEvent}
use Rattle.core_model.specs.ClockWork.{clock_work}
use Rattle.core_model.specs.Fits.{CoreOk}
use Rattle.core_model.specs.State.{Core}
use Rattle.core_laws.specs.Steps.Kept.{IsHeard}
use Rattle.core_fits.specs.Fits.{CoreFits}
use Rattle.owner_fits.specs.Laws.{OwnersFit}
use Rattle.cache_laws.specs.Moves.Invariant.{Inv}
use Rattle.cache_laws.specs.Moves.View.{View}
use Rattle.cache_laws.specs.Store.StoreView.{is_client}
use Rattle.core_moves.specs.Sees.{Sees}
use Rattle.event_moves.specs.Events.{HasEvent}

-- the view's invariant holds, it sees the proxy as it is, and it has what the event says
pub record IsSeen (holder : ℕ → ℕ) (v : View) (p now : ℕ) (own : ℕ → ℕ) (c : Core) (e : CoreEvent) : Type 0 where
  pub heard : IsHeard c e
  pub ok : CoreOk c
  pub fits : CoreFits c
  pub owners : OwnersFit c
  pub event : HasEvent holder v p own (clock_work now c) e
  pub sees : Sees v p now own c
  pub inv : Inv holder v

-- what is held of a key is what the view has of the store, and clients may name the key
pub record IsTrueOf (v : View) (prefix k : List ℕ) (x : Entry) : Type 0 where
  pub same : v.kvs k ≡ x.kv
  pub client : is_client prefix k ≡ true

abbrev pub HoldsTrue : View → List ℕ → Ground → Type 0
HoldsTrue v prefix g = (k : List ℕ) (x : Entry) → at g.own.entries k ≡ Some x → x.phase ≡ Held → IsTrueOf v prefix k x
