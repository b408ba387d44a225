-- What a proxy's reads stand on: its ownership and its acquires, and the requests themselves.
use Rattle.std.specs.Prelude.{ℕ, Bool, List, Option}
use Rattle.etcd_types.specs.declared.record.Header.{Header}
use Rattle.proxy_model.specs.Keyed.{Keyed}
use Rattle.wait_model.specs.State.{Ownership}
use Rattle.read_model.specs.declared.acquire.Acquire.{Acquire}
use Rattle.read_model.specs.declared.asked.Asked.{Asked}

pub record Reads : Type 0 where
  -- the lease table and the writes
  pub own : Ownership
  -- the acquires that are due or out, by key
  pub acquires : Keyed Acquire
  -- in order of asking
  pub asks : List Asked

-- What else a step reads.
pub record Moment : Type 0 where
  -- the clock's reading, in milliseconds
  pub now : ℕ
  -- the number of the live session
  pub session : Option ℕ
  -- the leasing stream stands created
  pub created : Bool
  -- the one of the highest revision that was delivered
  pub header : Header

-- What reads wait on.
pub record Ground : Type 0 where
  pub own : Ownership
  pub acquires : Keyed Acquire

abbrev pub ground_of : Reads → Ground
ground_of r = record { own = r.own; acquires = r.acquires }

abbrev pub on : Ground → List Asked → Reads
on g xs = record { own = g.own; acquires = g.acquires; asks = xs }
