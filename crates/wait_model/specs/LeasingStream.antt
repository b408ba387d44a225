-- The leasing stream where it begins anew: what it didn't tell can't be told any more. After its created message all that was
-- found counts as deleted; a cancellation that names a compaction gives all up.
use Rattle.std.specs.Prelude.{true}
use Rattle.proxy_model.specs.LeaseTable.{given_up}
use Rattle.wait_model.specs.State.{Ownership}
use Rattle.wait_model.specs.Edits.{each}
use Rattle.wait_model.specs.ForeignOwnership.{found_gone}

abbrev pub resynced : Ownership → Ownership
resynced own = found_gone (λ k. true) own

-- each held entry leaves, each that is being written is marked, and each acquire is spoiled
abbrev pub all_given_up : Ownership → Ownership
all_given_up own =
    record { entries = each (λ k e. given_up e) own.entries; waits = record own.waits { spoiled = each (λ k s. true) own.waits.spoiled } }
