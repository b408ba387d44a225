-- The number that the leasing stream has behind a step: the one before, or the next that is given.
use Rattle.std.proofs.Common.{◌≡◌, ◌⊎◌, inl, inr, ℕ, ◌+◌, ◌==◌, Bool, true, false, cond, List, Option, None, Some, Result, refl, sym, ◌∙◌, ap}
use Rattle.std.proofs.lemmas.Bool.Decides.{nat_tests}
use Rattle.std.proofs.Common.{arith}
use Rattle.core_model.specs.declared.event.CoreEvent.{CoreEvent}
use Rattle.core_model.specs.declared.event.Outcome.{Outcome}
use Rattle.core_model.specs.declared.event.StepFault.{StepFault}
use Rattle.core_model.specs.declared.event.StepFault.TheVariants as fault
use Rattle.core_model.specs.State.{Opening, Core}
use Rattle.core_model.specs.Step.{opening_at, stepped}
use Rattle.core_model.specs.Stepped.{Stepped, faults}
use Rattle.core_laws.proofs.Watches.Touches.{Side, number_of, side, with_step, Touch, leaves, hears, ticks, joins, heard_leasing, broke_leasing, cut_leasing, told, cut, took, left_it, opens_leasing, sends, step_touches}

abbrev pub Renumbers : Side → Side → Type 0
Renumbers a d = (d.leasing ≡ a.leasing) ⊎ (d.leasing ≡ Some (a.broadcasts.given + 1))

touch_numbers : (namespace : List ℕ) (a d : Side) (e : CoreEvent) (o : Result Outcome StepFault) → Touch namespace a e d o → Renumbers a d
touch_numbers namespace a _ _ _ (leaves e o p) = inl refl
touch_numbers namespace a _ _ _ (hears call reply o p) = inl refl
touch_numbers namespace a _ _ _ (ticks word) = inr refl
touch_numbers namespace a _ _ _ (joins ticket ask word n) = inl refl
touch_numbers namespace a _ _ _ (heard_leasing number x l) = inl refl
touch_numbers namespace a _ _ _ (broke_leasing number x l) = inr refl
touch_numbers namespace a _ _ _ (cut_leasing number l) = inr refl
touch_numbers namespace a _ _ _ (told number x s f) = inl refl
touch_numbers namespace a _ _ _ (cut number s f) = inl refl
touch_numbers namespace a _ _ _ (took ticket w i is f q) = inl refl
touch_numbers namespace a _ _ _ (left_it ticket) = inl refl
touch_numbers namespace a _ _ _ (opens_leasing number member q l) = inl refl
touch_numbers namespace a _ _ _ (sends c s n f m) = inl refl

equal : (a b : ℕ) → (a == b) ≡ true → a ≡ b
equal a b e = grind (arith, nat_tests)

itself : (n : ℕ) → (n == n) ≡ true
itself n = grind (arith, nat_tests)

-- the number that is looked up is the stream's
pub number_there : (n : ℕ) (l : Option Opening) (o : Opening) → opening_at n l ≡ Some o → number_of l ≡ Some n
number_there n None o e = absurd (cc)
number_there n (Some p) o e = by (p.number == n) refl e
  where
    by : (b : Bool) → (p.number == n) ≡ b → cond b (Some p) None ≡ Some o → Some p.number ≡ Some n
    by true q f = ap (λ (k : ℕ). Some k) (equal p.number n q)
    by false q f = absurd (cc)

pub there_by_number : (n : ℕ) (l : Option Opening) → number_of l ≡ Some n → (o : Opening) × (opening_at n l ≡ Some o)
there_by_number n None e = absurd (cc)
there_by_number n (Some p) e =
    let is : p.number ≡ n = cc in
    (p, ap (λ (b : Bool). cond b (Some p) None) (ap (λ (k : ℕ). k == n) is ∙ itself n))

one_number : (a b : ℕ) → Some a ≡ Some b → a ≡ b
one_number a b e = cc

-- a stream that is the leasing stream behind the step was it before, or has a number that wasn't given
pub leasing_before : (c : Core) (e : CoreEvent) (now n : ℕ) (o : Opening) → opening_at n (stepped c e now).core.leasing ≡ Some o → ((x : Opening) × (opening_at n c.leasing ≡ Some x)) ⊎ (n ≡ c.watches.given + 1)
leasing_before c e now n o f = by (step_touches c e now)
  where
    there : number_of (stepped c e now).core.leasing ≡ Some n
    there = number_there n (stepped c e now).core.leasing o f

    by_number : Renumbers (record (side c) { broadcasts = with_step c.watches c.steps }) (side (stepped c e now).core) → ((x : Opening) × (opening_at n c.leasing ≡ Some x)) ⊎ (n ≡ c.watches.given + 1)
    by_number (inl same) = inl (there_by_number n c.leasing (sym same ∙ there))
    by_number (inr new) = inr (one_number n (c.watches.given + 1) (sym there ∙ new))

    by : (stepped c e now ≡ faults c fault.Worn) ⊎ Touch c.settings.namespace (record (side c) { broadcasts = with_step c.watches c.steps }) e (side (stepped c e now).core) (stepped c e now).outcome
        → ((x : Opening) × (opening_at n c.leasing ≡ Some x)) ⊎ (n ≡ c.watches.given + 1)
    by (inl same) = by_number (inl (ap (λ (s : Stepped). number_of s.core.leasing) same))
    by (inr t) = by_number (touch_numbers c.settings.namespace _ _ e _ t)
