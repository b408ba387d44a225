-- A store whose parts are as texts need them, and which is as small as their numbers tell.
use Rattle.std.specs.Prelude.{ℕ, ◌+◌, ◌≤◌, List, [], ◌∷◌, length}
use Rattle.store_model.specs.declared.history.KeyChange.{KeyChange}
use Rattle.store_model.specs.declared.history.KeyChange.TheVariants.{Put, Delete}
use Rattle.store_model.specs.declared.lease.Lease.{Lease}
use Rattle.store_model.specs.declared.watch.OpenWatch.{OpenWatch}
use Rattle.store_model.specs.History.{History}
use Rattle.store_model.specs.State.{State}
use Rattle.text_laws.specs.Values.Fits.{AllOf, Bytes, Number, WatchFits}

-- how many changes a history has
abbrev pub changes : History → ℕ
changes [] = 0
changes (cs ∷ h) = length cs + changes h

abbrev pub KeyChangeFits : KeyChange → Type 0
KeyChangeFits (Put key value lease) = Bytes key × Bytes value × Number lease
KeyChangeFits (Delete key) = Bytes key

abbrev pub AreFit : List KeyChange → Type 0
AreFit cs = AllOf KeyChangeFits cs

pub record LeaseFits (lease : Lease) : Type 0 where
  pub number : Number lease.number
  pub ttl : Number lease.ttl

pub record WatchStands (w : OpenWatch) : Type 0 where
  pub member : Number w.member
  pub ask : WatchFits w.ask

pub record StoreFits (most : ℕ) (s : State) : Type 0 where
  pub changes : AllOf AreFit s.history
  pub leases : AllOf LeaseFits s.leases
  pub applied : AllOf (λ r. r ≤ most) s.applied
  pub compacted : s.compacted ≤ most
  pub watches : AllOf WatchStands s.watches

-- revisions, versions and lists of its parts are at most so much
pub record HasRoom (most : ℕ) (s : State) : Type 0 where
  pub revisions : length s.history + 2 ≤ most
  pub changes : changes s.history ≤ most
  pub leases : length s.leases + 1 ≤ most
