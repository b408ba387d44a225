-- What holds of reads, acquires and entries.
use Rattle.std.specs.Prelude.{◌≡◌, ℕ, Bool, true, false, ◌||◌, List, Option, is_some}
use Rattle.std.specs.List.{list_all}
use Rattle.proxy_model.specs.declared.lease.Entry.{Entry}
use Rattle.proxy_model.specs.Keyed.{at}
use Rattle.proxy_model.specs.LeaseTable.{is_held, is_writing}
use Rattle.wait_model.specs.Fits.{Fits}
use Rattle.read_model.specs.declared.asked.Asked.{Asked}
use Rattle.read_model.specs.Release.{ask_stands}
use Rattle.read_model.specs.State.{Reads, Ground, ground_of}

abbrev pub is_owned : Option Entry → Bool
is_owned e = is_held e || is_writing e

-- each waiting read has what it waits for
abbrev pub AllStand : Ground → List Asked → Type 0
AllStand g xs = list_all (ask_stands g) xs ≡ true

-- of what reads wait on
pub record GroundOk (standing : Bool) (g : Ground) : Type 0 where
  pub keys : Fits g.own
  -- the marks are those of the acquires
  pub marks : (k : List ℕ) → is_some (at g.own.waits.spoiled k) ≡ is_some (at g.acquires k)
  -- without a session nothing is owned
  pub owned : standing ≡ false → (k : List ℕ) → is_owned (at g.own.entries k) ≡ false

pub record ReadsOk (standing : Bool) (r : Reads) : Type 0 where
  pub ground : GroundOk standing (ground_of r)
  pub asks : AllStand (ground_of r) r.asks
