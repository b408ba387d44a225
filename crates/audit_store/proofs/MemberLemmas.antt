-- A member applies revisions, on whatever history the index keeps.
use Rattle.std.proofs.Common.{◌≡◌, ℕ, ◌-◌, ◌||◌, nat_lt, Bool, false, cond, set, Result, Ok, Err, sym, ◌∙◌, ap, subst}
use Rattle.etcd_types.proofs.Bools.{or_none}
use Rattle.store_model.specs.declared.store_fault.StoreFault.{StoreFault}
use Rattle.store_model.specs.declared.store_fault.StoreFault.TheVariants as fault
use Rattle.store_model.specs.History.{History, newest}
use Rattle.store_model.specs.State.{State, applied_by}
use Rattle.store_model.specs.Members.{lacks_member, applied}
use Rattle.store_index.specs.declared.index.Index.{Index}
use Rattle.store_index.specs.Index.{HoldsKept}
use Rattle.audit_store.specs.declared.store.Store.{Store}
use Rattle.audit_store.specs.Store.{state_of}
use Rattle.audit_store.specs.Faults.{StepsTo}

pub applies : (old new : Store) (h : History) (member revision : ℕ) → HoldsKept old.index h → lacks_member (state_of old h) member ≡ false
    → nat_lt revision (applied_by (state_of old h) member) ≡ false → nat_lt old.index.newest revision ≡ false
    → new.index ≡ old.index → new.compacted ≡ old.compacted → new.leases ≡ old.leases → new.applied ≡ set old.applied (member - 1) revision → new.watches ≡ old.watches
    → StepsTo new (applied (state_of old h) member revision)
unfolding applied
applies old new h member revision holds lacks early late i c l a w =
    let s : State = state_of old h in
    let t : State = record s { applied = set old.applied (member - 1) revision } in
    let late_too : nat_lt (newest h) revision ≡ false = ap (λ n. nat_lt n revision) (sym holds.same_newest) ∙ late in
    let may : nat_lt revision (applied_by s member) || nat_lt (newest h) revision ≡ false = or_none (nat_lt revision (applied_by s member)) (nat_lt (newest h) revision) early late_too in
    let refusal : Result State StoreFault = Err (fault.BadApply (applied_by s member) (newest h)) in (
      t,
      ap (λ (b : Bool). cond b (Err (fault.NoSuchMember member)) (cond (nat_lt revision (applied_by s member) || nat_lt (newest h) revision) refusal (Ok t))) lacks
          ∙ ap (λ (b : Bool). cond b refusal (Ok t)) may,
      record {
        history = subst (λ (x : Index). HoldsKept x h) (sym i) holds;
        rest = λ j. record { history = h; compacted = sym c j; leases = sym l j; applied = sym a j; watches = sym w j };
      },
    )
