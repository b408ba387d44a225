-- What members have applied. It is this store's own that a member applies only what it is told to.
use Rattle.std.specs.Prelude.{ℕ, Bool, ◌==◌, ◌-◌, ◌||◌, nat_lt, if◌then◌else◌, length, set, Result, Ok, Err}
use Rattle.store_model.specs.declared.store_fault.StoreFault.{StoreFault}
use Rattle.store_model.specs.declared.store_fault.StoreFault.TheVariants as fault
use Rattle.store_model.specs.History.{newest}
use Rattle.store_model.specs.State.{State, applied_by}

abbrev pub lacks_member : State → ℕ → Bool
lacks_member s member = member == 0 || nat_lt (length s.applied) member

-- a member applies no revision below its own, and none above the newest
unfoldable pub applied : State → ℕ → ℕ → Result State StoreFault
applied s member revision =
    if lacks_member s member then Err (fault.NoSuchMember member)
    else if nat_lt revision (applied_by s member) || nat_lt (newest s.history) revision then Err (fault.BadApply (applied_by s member) (newest s.history))
    else Ok (record s { applied = set s.applied (member - 1) revision })
