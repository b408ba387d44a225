-- A proxy at its start has what holds of acquires, entries and found owners, and each step keeps it; so it holds after each step of
-- a run.
use Rattle.std.specs.Prelude.{◌≡◌, ℕ, true, false, List, [], ◌∷◌, Some}
use Rattle.proxy_model.specs.Keyed.{at}
use Rattle.proxy_model.specs.LeaseTable.{is_writing}
use Rattle.wait_model.specs.declared.write.Write.{Write}
use Rattle.wait_model.specs.Covers.{covers, leased}
use Rattle.wait_model.specs.Writes.{first_by}
use Rattle.read_model.specs.declared.acquire.Acquire.{Acquire}
use Rattle.core_model.specs.declared.event.CoreEvent.{CoreEvent}
use Rattle.core_model.specs.declared.settings.Settings.{Settings}
use Rattle.core_model.specs.DueJobs.{ForAcquire, first_job}
use Rattle.core_model.specs.Fits.{CoreOk}
use Rattle.core_model.specs.State.{Core, first_core}
use Rattle.core_model.specs.Step.{stepped}
use Rattle.core_laws.specs.Steps.Kept.{IsHeard, Timed, after, ran, AllHeard}
use Rattle.owner_fits.specs.Acquires.{standing_number, IsDueAt, AcquiresFit}
use Rattle.owner_fits.specs.Entries.{EntriesFit}
use Rattle.owner_fits.specs.Names.{NamesFit, NamesOwners}

pub record OwnersFit (c : Core) : Type 0 where
  pub acquires : AcquiresFit c.own.waits.prefix (standing_number c.seat) c.acquires c.out
  pub entries : EntriesFit c.own.waits.prefix c.own.entries c.own.waits.writes

abbrev pub StartsFit : Type 0
StartsFit = (settings : Settings) → OwnersFit (first_core settings)

abbrev pub StepsFit : Type 0
StepsFit = (c : Core) (e : CoreEvent) (now : ℕ) → IsHeard c e → CoreOk c → OwnersFit c → OwnersFit (stepped c e now).core

abbrev pub RunsFit : Type 0
RunsFit = (settings : Settings) (xs : List Timed) → AllHeard (first_core settings) xs → OwnersFit (ran (first_core settings) xs)

-- An acquire that is the first due job is the one that stands at its key.
abbrev pub DueAcquiresStand : Type 0
DueAcquiresStand = (c : Core) (k : List ℕ) (a : Acquire) → OwnersFit c → first_job c ≡ Some (ForAcquire k a) → IsDueAt c.acquires k a

-- The first write over a key that is being written is its owner's, which doesn't put it with a lease.
abbrev pub WritesAreUnleased : Type 0
WritesAreUnleased =
    (c : Core) (k : List ℕ) (w : Write) → CoreOk c → OwnersFit c → is_writing (at c.own.entries k) ≡ true → first_by (λ v. covers v k) c.own.waits.writes ≡ Some w
    → leased w.request k ≡ false

-- What is named.

abbrev pub NamesIn : Core → Type 0
NamesIn c = NamesFit c.own.entries c.own.waits.writes

abbrev pub StartsNamed : Type 0
StartsNamed = (settings : Settings) → NamesIn (first_core settings)

abbrev pub StepsName : Type 0
StepsName = (c : Core) (e : CoreEvent) (now : ℕ) → IsHeard c e → NamesOwners c e → CoreOk c → OwnersFit c → NamesIn c → NamesIn (stepped c e now).core

abbrev pub AllName : Core → List Timed → Type 0
AllName c [] = Unit {0}
AllName c (x ∷ xs) = NamesOwners c x.event × AllName (after c x) xs

abbrev pub RunsName : Type 0
RunsName = (settings : Settings) (xs : List Timed) → AllHeard (first_core settings) xs → AllName (first_core settings) xs → NamesIn (ran (first_core settings) xs)
