-- What is kept of what proxies and sessions were given, in place of the items that tell it, and where the items tell what is looked up.
use Rattle.std.specs.Prelude.{◌≡◌, ℕ, Bool, false, ◌==◌, max, if◌then◌else◌, List, [], ◌∷◌, ◌++◌, Option, None, Some}
use Rattle.script_text.specs.declared.item.Item.{Item}
use Rattle.world_model.specs.Places.{kept_at}
use Rattle.world_model.specs.Reads.{given}
use Rattle.world_model.specs.Received.{or_zero}
use Rattle.world_model.specs.State.{Numbered}
use Rattle.audit_model.specs.Floors.{reported_floors}
use Rattle.audit_lives.specs.Index.{TellsAll}
use Rattle.audit_clients.specs.LeaseCalls.{KeepsLeases}
use Rattle.audit_clients.specs.Takings.{Follows}
use Rattle.audit_clients.specs.declared.given.Given.{Given}

-- the greatest of these, or 0
abbrev pub greatest : List ℕ → ℕ
greatest [] = 0
greatest (r ∷ rs) = max r (greatest rs)

-- what is kept for the proxy, or 0
abbrev pub newest_at : Numbered ℕ → ℕ → ℕ
newest_at kept p = or_zero (kept_at kept p)

-- for each proxy the greatest header revision that it was given in its life
abbrev pub KeepsNewest : Numbered ℕ → List Item → Type 0
KeepsNewest kept items = (p : ℕ) → newest_at kept p ≡ greatest (given p items)

-- it is raised to the revision for the proxies of which the test is so
abbrev pub Raises : Numbered ℕ → Numbered ℕ → (ℕ → Bool) → ℕ → Type 0
Raises old new test revision = (p : ℕ) → newest_at new p ≡ max (newest_at old p) (if test p then revision else 0)

-- the proxy begins a life, in which it was given nothing
abbrev pub Forgets : Numbered ℕ → Numbered ℕ → ℕ → Type 0
Forgets old new q = (p : ℕ) → newest_at new p ≡ (if q == p then 0 else newest_at old p)

-- this is the proxy that is told
abbrev pub is_one : Option ℕ → ℕ → Bool
is_one None p = false
is_one (Some q) p = q == p

pub record Gave (g : Given) (items : List Item) : Type 0 where
  pub floors : g.floors ≡ reported_floors items
  pub leases : KeepsLeases g.leases items
  pub newest : KeepsNewest g.newest items
  pub index : TellsAll g.index items
  pub takings : Follows g.takings items

-- the same where all but the index has gone on by this item
pub record GaveNext (g : Given) (items : List Item) (item : Item) : Type 0 where
  pub floors : g.floors ≡ reported_floors (items ++ item ∷ [])
  pub leases : KeepsLeases g.leases (items ++ item ∷ [])
  pub newest : KeepsNewest g.newest (items ++ item ∷ [])
  pub index : TellsAll g.index items
  pub takings : Follows g.takings (items ++ item ∷ [])
