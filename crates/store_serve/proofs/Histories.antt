-- What holds of a history that a hub of the store's machine allows.
use Rattle.std.proofs.Common.{◌≡◌, ℕ, ◌==◌, Bool, true, List, [], ◌∷◌, ◌++◌, Result, Ok, Err, refl, ap, subst, ◌∙◌, inl, inr, arith, eqb-true}
use Rattle.std.specs.List.{list_any}
use Rattle.std.proofs.lemmas.List.Folds.{list_any-append}
use Rattle.std.proofs.lemmas.Bool.Decides.{nat_tests}
use Rattle.etcd_types.proofs.Bools.{or_left, or_right, or_either}
use Rattle.store_model.specs.declared.store_fault.StoreFault.TheVariants as fault
use Rattle.store_model.specs.Watches.{Pushed, pushed}
use Rattle.turn_hub.specs.declared.history.Entry.{Entry}
use Rattle.turn_hub.specs.History.{Runs}
use Rattle.shop_model.specs.declared.event.StoreEvent.{StoreEvent}
use Rattle.shop_model.specs.declared.event.StoreEvent.TheVariants.{Exec, Open, Push}
use Rattle.shop_model.specs.declared.event.StoreOutcome.{StoreOutcome}
use Rattle.shop_model.specs.declared.event.StoreOutcome.TheVariants as outcome
use Rattle.shop_model.specs.declared.event.StoreStepFault.{StoreStepFault}
use Rattle.shop_model.specs.declared.event.StoreStepFault.TheVariants as step
use Rattle.shop_model.specs.Shop.{Shop, settled}
use Rattle.shop_model.specs.Steps.{StepsTo, Stepped, does, with_pushed}
use Rattle.shop_laws.specs.StayOpen.{KnowsWatch}
use Rattle.shop_laws.proofs.Watches.{opens_watch, keeps_watch}
use Rattle.store_machine.specs.declared.machine.StoreMachine.{StoreMachine}
use Rattle.store_machine.specs.Standing.{Stands, Steps}
use Rattle.shop_dialog.specs.Steps.{Step, fits, is_opening, has_opened}

-- ---- each answer is of its event's kind

same : (n : ℕ) → (n == n) ≡ true
same n = grind (arith, nat_tests)

pushed_fits : (n : ℕ) (s : Shop) (p : Pushed) → fits (Push n) (with_pushed n s p).1 ≡ true
pushed_fits n s (Ok p) = refl
pushed_fits n s (Err (fault.NothingToPush w)) = refl
pushed_fits n s (Err (fault.NoSuchLease l)) = same n
pushed_fits n s (Err (fault.BadApply a b)) = same n
pushed_fits n s (Err (fault.NoSuchMember m)) = same n
pushed_fits n s (Err (fault.NoSuchWatch w)) = same n
pushed_fits n s (Err (fault.NotAsked w)) = same n
pushed_fits n s (Err (fault.NotSynced a b)) = same n
pushed_fits n s (Err fault.NoMemory) = same n

does_fits : (now : ℕ) (e : StoreEvent) (s : Shop) → fits e (does now e s).1 ≡ true
does_fits now (Exec q) s = refl
does_fits now (Open ask) s = refl
does_fits now (Push n) s = pushed_fits n s (pushed s.store n)

did_fits : (now : ℕ) (e : StoreEvent) (s t : Shop) (a : Result StoreOutcome StoreStepFault) → (t, a) ≡ does now e s → fits e a ≡ true
did_fits now e s t a is = ap (λ (x : Stepped). fits e x.1) is ∙ does_fits now e s

pub step_fits : (s t : Shop) (e : StoreEvent) (now : ℕ) (a : Result StoreOutcome StoreStepFault) → StepsTo s e now a t → fits e a ≡ true
step_fits s t e now (Ok o) k = did_fits now e (settled now s) t (Ok o) k.1
step_fits s t e now (Err (step.NoSuchWatch n)) k = did_fits now e (settled now s) t (Err (step.NoSuchWatch n)) k.1
step_fits s t e now (Err step.Worn) k = refl
step_fits s t e now (Err step.NoMemory) k = refl

-- ---- the last step of a history

pub run_last : {M E O F : Type 0} (steps : M → E → ℕ → Result O F → M → Type 0) (front : List (Entry E O F)) (e : Entry E O F) (m n : M) → Runs steps m (front ++ e ∷ []) n
    → (l : M) × Runs steps m front l × steps l e.event e.now e.answer n
run_last steps [] e m n r = (m, refl, subst (steps m e.event e.now e.answer) r.2 r.1)
run_last steps (x ∷ xs) e m n r = let z = run_last steps xs e r.0 n r.2 in (z.0, (r.0, r.1, z.1), z.2)

-- a history of the machine is one of each shop that it represents
pub lived : (m n : StoreMachine) (seen : List Step) → Runs Steps m seen n → (s : Shop) → Stands m s → (t : Shop) × Runs StepsTo s seen t × Stands n t
lived m n [] r s stands = (s, refl, subst (λ (x : StoreMachine). Stands x s) r stands)
lived m n (e ∷ es) r s stands =
    let k = r.1 s stands in let rest = lived r.0 n es r.2 k.0 k.2 in (rest.0, (k.0, k.1, rest.1), rest.2)

-- ---- watches that were opened

abbrev opens : ℕ → Step → Bool
opens n e = is_opening n e.answer

pub opened_more : (n : ℕ) (front rest : List Step) → has_opened n front ≡ true → has_opened n (front ++ rest) ≡ true
opened_more n front rest e = list_any-append (opens n) front rest ∙ or_left (list_any (opens n) front) (list_any (opens n) rest) e

pub opened_last : (n : ℕ) (front : List Step) (e : Step) → is_opening n e.answer ≡ true → has_opened n (front ++ e ∷ []) ≡ true
opened_last n front e o =
    list_any-append (opens n) front (e ∷ [])
    ∙ or_right (list_any (opens n) front) (list_any (opens n) (e ∷ [])) (or_left (is_opening n e.answer) (list_any (opens n) []) o)

pub opens_itself : (n : ℕ) → is_opening n (Ok (outcome.Opened n)) ≡ true
opens_itself n = same n

known_on : (steps : List Step) (s t : Shop) (n : ℕ) → Runs StepsTo s steps t → KnowsWatch n s → KnowsWatch n t
known_on [] s t n r k = subst (KnowsWatch n) r k
known_on (e ∷ es) s t n r k = known_on es r.0 t n r.2 (keeps_watch s r.0 e.event e.now e.answer n r.1 k)

known_by : (s t : Shop) (e : StoreEvent) (now : ℕ) (a : Result StoreOutcome StoreStepFault) (n : ℕ) → StepsTo s e now a t → is_opening n a ≡ true → KnowsWatch n t
known_by s t e now (Ok (outcome.Opened w)) n k o = subst (λ (m : ℕ). KnowsWatch m t) (eqb-true w n o) (opens_watch s t e now w k)
known_by s t e now (Ok (outcome.Answer a)) n k o = absurd (cc)
known_by s t e now (Ok (outcome.Item i)) n k o = absurd (cc)
known_by s t e now (Ok outcome.Nothing) n k o = absurd (cc)
known_by s t e now (Err f) n k o = absurd (cc)

pub opened_known : (steps : List Step) (s t : Shop) (n : ℕ) → Runs StepsTo s steps t → has_opened n steps ≡ true → KnowsWatch n t
opened_known [] s t n r h = absurd (cc)
opened_known (e ∷ es) s t n r h =
    elim (or_either (is_opening n e.answer) (has_opened n es) h) [
      | inl here ↦ known_on es r.0 t n r.2 (known_by s r.0 e.event e.now e.answer n r.1 here)
      | inr later ↦ opened_known es r.0 t n r.2 later
    ]
