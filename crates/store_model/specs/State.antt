-- What a store holds.
use Rattle.std.specs.Prelude.{ℕ, ◌-◌, ◌≤◌, List, [], length, get_or, replicate}
use Rattle.etcd_types.specs.declared.record.Header.{Header}
use Rattle.store_model.specs.declared.lease.Lease.{Lease}
use Rattle.store_model.specs.declared.watch.OpenWatch.{OpenWatch}
use Rattle.store_model.specs.History.{History}

pub record State : Type 0 where
  pub history : History
  -- the compaction revision: revisions below it can't be read
  pub compacted : ℕ
  -- by rising numbers
  pub leases : List Lease
  -- the revision that each member has applied, from member 1 on
  pub applied : List ℕ
  -- the watches that were opened, from number 1 on
  pub watches : List OpenWatch

-- an empty store of so many members, each of which has applied revision 1
abbrev pub starting : ℕ → State
starting members = record { history = []; compacted = 0; leases = []; applied = replicate members 1; watches = [] }

abbrev pub HasMember : State → ℕ → Type 0
HasMember s member = (1 ≤ member) × (member ≤ length s.applied)

abbrev pub applied_by : State → ℕ → ℕ
applied_by s member = get_or s.applied (member - 1) 0

-- cluster 1 and raft term 1 are this store's own
abbrev pub header : ℕ → ℕ → Header
header member revision = record { cluster = 1; member = member; revision = revision; term = 1 }
