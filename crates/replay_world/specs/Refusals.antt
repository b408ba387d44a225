-- Why a line of a proxy is refused before the proxy makes a step.
use Rattle.std.specs.Prelude.{ℕ, Bool, not, nat_lt, if◌then◌else◌, Option, None, Some}
use Rattle.core_model.specs.Lookups.{is_known}
use Rattle.world_model.specs.declared.fault.WorldFault.{WorldFault}
use Rattle.world_model.specs.declared.fault.WorldFault.TheVariants as fault
use Rattle.world_model.specs.declared.floor.Floor.{Floor}
use Rattle.world_model.specs.Places.{is_among, kept_at}
use Rattle.world_model.specs.State.{Numbered, Place}
use Rattle.world_model.specs.StoreLines.{below_floor}
use Rattle.world_model.specs.Takes.{is_watch}

-- it was not started, or this holds of it
abbrev pub fault_if : ℕ → (Place → Bool) → WorldFault → Option Place → Option WorldFault
fault_if p test why None = Some (fault.NoSuchProxy p)
fault_if p test why (Some x) = if test x then Some why else None

-- its clock is further on
abbrev pub clock_fault : ℕ → ℕ → Option Place → Option WorldFault
clock_fault p millis None = Some (fault.NoSuchProxy p)
clock_fault p millis (Some x) = if nat_lt millis x.clock then Some (fault.ClockBack x.clock millis) else None

-- it was used already
abbrev pub ticket_fault : ℕ → ℕ → Option Place → Option WorldFault
ticket_fault p ticket x = fault_if p (λ y. is_among y.tickets ticket) (fault.TicketUsed ticket) x

-- it is no watch's
abbrev pub watch_fault : ℕ → ℕ → Option Place → Option WorldFault
watch_fault p ticket x = fault_if p (λ y. not (is_watch ticket y)) (fault.NoSuchTicket ticket) x

-- the proxy doesn't know it
abbrev pub known_fault : ℕ → ℕ → Option Place → Option WorldFault
known_fault p ticket x = fault_if p (λ y. not (is_known ticket y.core)) (fault.NoSuchTicket ticket) x

-- Why a session can't expire yet.

abbrev pub below_floor_at : Numbered Place → Option Floor → Option WorldFault
below_floor_at places None = None
below_floor_at places (Some f) = below_floor f (kept_at places f.proxy)

abbrev pub not_due_at : Numbered Place → Numbered Floor → ℕ → Option WorldFault
not_due_at places floors lease = below_floor_at places (kept_at floors lease)
