-- A lease expires at the store, or a member applies revisions. A session doesn't expire below its floor.
use Rattle.std.specs.Prelude.{ℕ, nat_lt, if◌then◌else◌, [], ◌∷◌, Option, None, Some, Result, Ok, Err}
use Rattle.store_model.specs.declared.store_fault.StoreFault.{StoreFault}
use Rattle.store_model.specs.Leases.{expired}
use Rattle.store_model.specs.Members.{applied}
use Rattle.store_model.specs.State.{State}
use Rattle.script_text.specs.declared.item.Item.{Item}
use Rattle.script_text.specs.declared.item.Item.TheVariants as item
use Rattle.world_model.specs.declared.fault.WorldFault.{WorldFault}
use Rattle.world_model.specs.declared.fault.WorldFault.TheVariants as fault
use Rattle.world_model.specs.declared.floor.Floor.{Floor}
use Rattle.world_model.specs.Places.{kept_at, place_at}
use Rattle.world_model.specs.State.{Place, World}
use Rattle.world_model.specs.Steps.{Step, gains, refuses, of_store}

-- what comes of a step of the store that is no stream's
abbrev pub store_stepped : World → Item → Result State StoreFault → Step
store_stepped w told (Err why) = refuses w (of_store 0 why)
store_stepped w told (Ok s) = gains (record w { store = s }) (told ∷ [])

-- why a session can't expire yet, at this reading of its owner's clock
abbrev pub too_early : ℕ → ℕ → Option WorldFault
too_early clock floor = if nat_lt clock floor then Some (fault.NotDue clock floor) else None

abbrev pub below_floor : Floor → Option Place → Option WorldFault
below_floor f None = None
below_floor f (Some x) = too_early x.clock f.floor

abbrev pub not_due_by : World → Option Floor → Option WorldFault
not_due_by w None = None
not_due_by w (Some f) = below_floor f (place_at w f.proxy)

abbrev pub not_due : World → ℕ → Option WorldFault
not_due w lease = not_due_by w (kept_at w.floors lease)

abbrev pub expired_if : World → ℕ → Option WorldFault → State → Step
expired_if w lease (Some why) s = refuses w why
expired_if w lease None s = gains (record w { store = s }) (item.Expired lease ∷ [])

abbrev pub expired_by : World → ℕ → Result State StoreFault → Step
expired_by w lease (Err why) = refuses w (of_store 0 why)
expired_by w lease (Ok s) = expired_if w lease (not_due w lease) s

abbrev pub lease_expired : World → ℕ → Step
lease_expired w lease = expired_by w lease (expired w.store lease)

abbrev pub member_applied : World → ℕ → ℕ → Step
member_applied w member revision = store_stepped w (item.Applied member revision) (applied w.store member revision)
