-- A store begins so that it fits, and stays so where a lease expires, a member applies revisions, or a watch is opened.
use Rattle.std.proofs.Common.{◌≡◌, ℕ, zero, suc, ◌-◌, ◌≤◌, ◌||◌, Bool, true, false, cond, set, replicate, Result, Ok, Err, refl, subst, arith}
use Rattle.std.specs.Prelude.{nat_lt}
use Rattle.std.proofs.lemmas.Bool.{ltb-false}
use Rattle.etcd_types.proofs.Bools.{or_second}
use Rattle.store_model.specs.declared.store_fault.StoreFault.{StoreFault}
use Rattle.store_model.specs.declared.store_fault.StoreFault.TheVariants as fault
use Rattle.store_model.specs.History.{newest}
use Rattle.store_model.specs.Leases.{ended, expired}
use Rattle.store_model.specs.Members.{lacks_member, applied}
use Rattle.store_model.specs.State.{State, applied_by}
use Rattle.store_model.specs.Transactions.{has_lease}
use Rattle.text_laws.specs.Values.Fits.{AllOf}
use Rattle.text_laws.proofs.Values.Alls.{all_push, set_all}
use Rattle.text_laws.specs.Stores.Laws.{ExpiriesFit, AppliesFit, OpeningsFit, StartsFit}
use Rattle.text_laws.specs.Stores.Stores.{WatchStands, StoreFits, HasRoom}
use Rattle.text_laws.proofs.Stores.Steps.{ended_fits}

abbrev LeftFits : ℕ → Result State StoreFault → Type 0
LeftFits most (Ok t) = StoreFits most t
LeftFits most (Err why) = Unit {0}

all_ones : (most n : ℕ) → 1 ≤ most → AllOf (λ r. r ≤ most) (replicate n 1)
all_ones most zero l = tt
all_ones most (suc n) l = (l, all_ones most n l)

pub starts_fit : StartsFit
starts_fit most members l = record { changes = tt; leases = tt; applied = all_ones most members l; compacted = omega arith; watches = tt }

left_fits : (most : ℕ) (b : Bool) (s : State) (why : StoreFault) → StoreFits most s → LeftFits most (cond b (Ok s) (Err why))
left_fits most true s why h = h
left_fits most false s why h = tt

pub expiries_fit : ExpiriesFit
unfolding expired
expiries_fit most s t lease small e h room = subst (LeftFits most) e (left_fits most (has_lease s.leases lease) (ended s lease) (fault.NoSuchLease lease) (ended_fits most lease s small h room))

applied_if : (most : ℕ) (s : State) (member revision : ℕ) (none : Bool) → StoreFits most s → HasRoom most s
    → LeftFits most (cond none (Err (fault.NoSuchMember member)) (cond (nat_lt revision (applied_by s member) || nat_lt (newest s.history) revision) (Err (fault.BadApply (applied_by s member) (newest s.history))) (Ok (record s { applied = set s.applied (member - 1) revision }))))
applied_if most s member revision true h room = tt
applied_if most s member revision false h room = by_bad (nat_lt revision (applied_by s member) || nat_lt (newest s.history) revision) refl
  where
    by_bad : (b : Bool) → nat_lt revision (applied_by s member) || nat_lt (newest s.history) revision ≡ b
        → LeftFits most (cond b (Err (fault.BadApply (applied_by s member) (newest s.history))) (Ok (record s { applied = set s.applied (member - 1) revision })))
    by_bad true e = tt
    by_bad false e =
        let l = ltb-false (newest s.history) revision (or_second (nat_lt revision (applied_by s member)) (nat_lt (newest s.history) revision) e) in
        let r = room.revisions in
        record { changes = h.changes; leases = h.leases; applied = set_all (λ n. n ≤ most) s.applied (member - 1) revision (omega (arith, l, r)) h.applied; compacted = h.compacted; watches = h.watches }

pub applies_fit : AppliesFit
unfolding applied
applies_fit most s t member revision e h room = subst (LeftFits most) e (applied_if most s member revision (lacks_member s member) h room)

pub openings_fit : OpeningsFit
openings_fit most s member ask m f h = record {
  changes = h.changes;
  leases = h.leases;
  applied = h.applied;
  compacted = h.compacted;
  watches = all_push WatchStands s.watches _ h.watches (record { member = m; ask = f });
}
