-- What the parts of a step do with the shops that the machine represents.
use Rattle.std.proofs.Common.{◌≡◌, ℕ, ◌++◌, true, false, List, [], ◌∷◌, take, drop, map, Result, Ok, Err, refl, sym, ap, ◌∙◌, subst, ◌⊎◌, inl, inr, append-nil, take-append-drop}
use Rattle.std.proofs.Math.Logic.{∥∥₁_elim, ∥∥₁_map, ∥∥₁_prop}
use Rattle.store_model.specs.declared.store_fault.StoreFault.{StoreFault}
use Rattle.store_model.specs.declared.store_fault.StoreFault.TheVariants as fault
use Rattle.store_model.specs.State.{State}
use Rattle.store_model.specs.Leases.{lease_number}
use Rattle.store_model.specs.Watches.{Pushed, pushed}
use Rattle.store_world.specs.declared.store.Store.{Store}
use Rattle.store_world.specs.Store.{Stands}
use Rattle.store_world.specs.Faults.{StepsTo as Leads, IsFault}
use Rattle.store_world.proofs.Stores.{stand_for_states}
use Rattle.shop_model.specs.declared.event.StoreEvent.{StoreEvent}
use Rattle.shop_model.specs.declared.event.StoreEvent.TheVariants.{Exec, Open, Push}
use Rattle.shop_model.specs.declared.event.StoreOutcome.{StoreOutcome}
use Rattle.shop_model.specs.declared.event.StoreStepFault.{StoreStepFault}
use Rattle.shop_model.specs.declared.event.StoreStepFault.TheVariants as step
use Rattle.shop_model.specs.Deadlines.{deadline_number, due}
use Rattle.shop_model.specs.Shop.{Shop, first_shop, taken, lease_ended, all_ended, settled}
use Rattle.shop_model.specs.Steps.{Stepped, StepsTo, does, with_pushed, is_worn}
use Rattle.shop_model.specs.Timed.{IsTimed}
use Rattle.shop_laws.proofs.TimedSteps.{step_timed}
use Rattle.store_machine.specs.declared.kept.Kept.{Kept}
use Rattle.store_machine.specs.Rows.{rows}
use Rattle.store_machine.specs.Holding.{Holds, Timed, EndedSome, Acts, Steps, is_wanting, answer_to}
use Rattle.store_machine.proofs.Room.{same_leases}

-- ---- a step of the store that was taken, or refused

pub taken_so : (store : Store) (s : State) (r : Result State StoreFault) → Leads store r → Stands store (taken s r)
taken_so store s r x = subst (λ (y : Result State StoreFault). Stands store (taken s y)) (sym x.1) x.2

pub refused_so : (store : Store) (s : State) (f : StoreFault) (r : Result State StoreFault) → is_wanting f ≡ false → IsFault f r → Stands store s → Stands store (taken s r)
refused_so store s (fault.NoSuchLease l) r n e h = subst (λ (y : Result State StoreFault). Stands store (taken s y)) (sym e) h
refused_so store s (fault.BadApply a b) r n e h = subst (λ (y : Result State StoreFault). Stands store (taken s y)) (sym e) h
refused_so store s (fault.NoSuchMember m) r n e h = subst (λ (y : Result State StoreFault). Stands store (taken s y)) (sym e) h
refused_so store s (fault.NoSuchWatch w) r n e h = subst (λ (y : Result State StoreFault). Stands store (taken s y)) (sym e) h
refused_so store s (fault.NothingToPush w) r n e h = subst (λ (y : Result State StoreFault). Stands store (taken s y)) (sym e) h
refused_so store s (fault.NotAsked w) r n e h = subst (λ (y : Result State StoreFault). Stands store (taken s y)) (sym e) h
refused_so store s (fault.NotSynced a b) r n e h = subst (λ (y : Result State StoreFault). Stands store (taken s y)) (sym e) h
refused_so store s fault.NoMemory r n e h = absurd (cc)

-- a push that gave nothing

unpushed_at : (n : ℕ) (s : Shop) (p : Pushed) (f : StoreFault) (a : Result StoreOutcome StoreStepFault) → p ≡ Err f → a ≡ answer_to n f → with_pushed n s (Err f) ≡ (s, answer_to n f) → with_pushed n s p ≡ (s, a)
unpushed_at n s p f a e b w = ap (with_pushed n s) e ∙ w ∙ sym (ap (λ (x : Result StoreOutcome StoreStepFault). (s, x)) b)

pub unpushed_so : (n : ℕ) (s : Shop) (p : Pushed) (f : StoreFault) (a : Result StoreOutcome StoreStepFault) → is_wanting f ≡ false → IsFault f p → a ≡ answer_to n f → with_pushed n s p ≡ (s, a)
unpushed_so n s p (fault.NoSuchLease l) a w e b = unpushed_at n s p (fault.NoSuchLease l) a e b refl
unpushed_so n s p (fault.BadApply x y) a w e b = unpushed_at n s p (fault.BadApply x y) a e b refl
unpushed_so n s p (fault.NoSuchMember m) a w e b = unpushed_at n s p (fault.NoSuchMember m) a e b refl
unpushed_so n s p (fault.NoSuchWatch x) a w e b = unpushed_at n s p (fault.NoSuchWatch x) a e b refl
unpushed_so n s p (fault.NothingToPush x) a w e b = unpushed_at n s p (fault.NothingToPush x) a e b refl
unpushed_so n s p (fault.NotAsked x) a w e b = unpushed_at n s p (fault.NotAsked x) a e b refl
unpushed_so n s p (fault.NotSynced x y) a w e b = unpushed_at n s p (fault.NotSynced x y) a e b refl
unpushed_so n s p fault.NoMemory a w e b = absurd (cc)

pub acts_as : (kept : Kept) (s : Shop) (a : Result StoreOutcome StoreStepFault) (d : Stepped) → d ≡ (s, a) → Holds kept s → Acts kept a d
acts_as kept s a d e h = subst (λ (x : Stepped). Acts kept a x) (sym e) (h, refl)

-- ---- leases that end, one after the other

all_ended-append : (front back : List ℕ) (s : Shop) → all_ended (front ++ back) s ≡ all_ended back (all_ended front s)
all_ended-append [] back s = refl
all_ended-append (n ∷ front) back s = all_ended-append front back (lease_ended n s)

-- one more has ended
pub ends_one_more : (kept : Kept) (front : List ℕ) (n : ℕ) (s : Shop) → Holds kept (lease_ended n (all_ended front s)) → Holds kept (all_ended (front ++ n ∷ []) s)
ends_one_more kept front n s h = subst (Holds kept) (sym (all_ended-append front (n ∷ []) s)) h

pub ended_front : (now : ℕ) (s : Shop) (kept : Kept) (i : ℕ) (numbers : List ℕ) → numbers ≡ due now s.deadlines → Holds kept (all_ended (take i numbers) s) → EndedSome now s kept
ended_front now s kept i numbers e h = (take i numbers, drop i numbers, sym e ∙ sym (take-append-drop i numbers), h)

pub ended_none : (now : ℕ) (s : Shop) (kept : Kept) → Holds kept s → EndedSome now s kept
ended_none now s kept h = ([], due now s.deadlines, refl, h)

pub ended_all : (now : ℕ) (s : Shop) (kept : Kept) → Holds kept (all_ended (due now s.deadlines) s) → EndedSome now s kept
ended_all now s kept h = (due now s.deadlines, [], sym (append-nil (due now s.deadlines)), h)

-- the leases that are due, by the deadlines that are kept
pub due_of : (now : ℕ) (s : Shop) (kept : Kept) → Holds kept s → due now (rows kept.deadlines) ≡ due now s.deadlines
due_of now s kept h = ap (due now) (sym h.deadlines)

-- ---- the whole step

pub worn_step : (s : Shop) (e : StoreEvent) (now : ℕ) (kept : Kept) → is_worn s ≡ true → Holds kept s → Steps s e now (Err step.Worn) kept
worn_step s e now kept w h = (s, (w, refl), h)

pub wanting_step : (s : Shop) (e : StoreEvent) (now : ℕ) (kept : Kept) → is_worn s ≡ false → EndedSome now s kept ⊎ Holds kept (settled now s) → Steps s e now (Err step.NoMemory) kept
wanting_step s e now kept w b =
    elim b [ inl x ↦ (all_ended x.0 s, (w, inl (x.0, x.1, x.2, refl)), x.3) | inr h ↦ (settled now s, (w, inr refl), h) ]

-- an event that was done answers neither that the store is worn nor that memory was wanting

Plain : Result StoreOutcome StoreStepFault → Type 0
Plain (Ok outcome) = Unit {0}
Plain (Err (step.NoSuchWatch n)) = Unit {0}
Plain (Err step.Worn) = ⊥
Plain (Err step.NoMemory) = ⊥

pushed_plain : (n : ℕ) (s : Shop) (p : Pushed) → Plain (with_pushed n s p).1
unfolding Plain
pushed_plain n s (Ok p) = tt
pushed_plain n s (Err (fault.NoSuchLease l)) = tt
pushed_plain n s (Err (fault.BadApply a b)) = tt
pushed_plain n s (Err (fault.NoSuchMember m)) = tt
pushed_plain n s (Err (fault.NoSuchWatch w)) = tt
pushed_plain n s (Err (fault.NothingToPush w)) = tt
pushed_plain n s (Err (fault.NotAsked w)) = tt
pushed_plain n s (Err (fault.NotSynced a b)) = tt
pushed_plain n s (Err fault.NoMemory) = tt

does_plain : (now : ℕ) (e : StoreEvent) (s : Shop) → Plain (does now e s).1
unfolding Plain
does_plain now (Exec q) s = tt
does_plain now (Open ask) s = tt
does_plain now (Push n) s = pushed_plain n s (pushed s.store n)

done_so : (s t : Shop) (e : StoreEvent) (now : ℕ) (a : Result StoreOutcome StoreStepFault) → Plain a → is_worn s ≡ false → (t, a) ≡ does now e (settled now s) → StepsTo s e now a t
unfolding Plain
done_so s t e now (Ok outcome) p w d = (w, d)
done_so s t e now (Err (step.NoSuchWatch n)) p w d = (w, d)
done_so s t e now (Err step.Worn) p w d = absurd p
done_so s t e now (Err step.NoMemory) p w d = absurd p

pub done_step : (s : Shop) (e : StoreEvent) (now : ℕ) (a : Result StoreOutcome StoreStepFault) (kept : Kept) → is_worn s ≡ false → Acts kept a (does now e (settled now s)) → Steps s e now a kept
done_step s e now a kept w d =
    let x = does now e (settled now s) in
    (x.0, done_so s x.0 e now a (subst Plain (sym d.1) (does_plain now e (settled now s))) w (ap (λ (y : Result StoreOutcome StoreStepFault). (x.0, y)) d.1), d.0)

-- ---- each lease keeps its deadline

leases_timed : (kept kept' : Kept) (e : StoreEvent) (now : ℕ) (a : Result StoreOutcome StoreStepFault) → Timed kept → ((s : Shop) → Holds kept s → IsTimed s → Steps s e now a kept')
    → (s : State) → Stands kept.store s → Timed kept'
leases_timed kept kept' e now a t step s stands r st =
    let shop : Shop = record { store = s; deadlines = rows kept.deadlines } in
    let x = step shop (record { store = stands; deadlines = refl }) (t s stands) in
    let timed = step_timed shop x.0 e now a (t s stands) x.1 in
    sym (ap (map deadline_number) x.2.deadlines) ∙ timed ∙ sym (ap (map lease_number) (same_leases kept'.store r x.0.store st x.2.store))

pub timed_after : (kept kept' : Kept) (e : StoreEvent) (now : ℕ) (a : Result StoreOutcome StoreStepFault) → ∥ Timed kept ∥₁ → ((s : Shop) → Holds kept s → IsTimed s → Steps s e now a kept') → ∥ Timed kept' ∥₁
timed_after kept kept' e now a timed step =
    ∥∥₁_elim timed ∥∥₁_prop (λ t. ∥∥₁_map (stand_for_states kept.store) (λ x. leases_timed kept kept' e now a t step x.0 x.1))

pub first_timed : (kept : Kept) → Holds kept first_shop → ∥ Timed kept ∥₁
first_timed kept h =
    ∣ (λ r st. sym (ap (map deadline_number) h.deadlines) ∙ sym (ap (map lease_number) (same_leases kept.store r first_shop.store st h.store))) ∣₁
