-- Watches stay open, whatever steps the machine makes.
use Rattle.std.proofs.Common.{◌≡◌, ℕ, zero, suc, ◌+◌, ◌-◌, ◌==◌, ◌≤◌, ◌<◌, ◌||◌, nat_lt, Bool, true, false, cond, List, [], ◌∷◌, length, set, slice_get, Option, None, Some, Result, Ok, Err, refl, sym, ap, subst, ◌∙◌, ◌⊎◌, inl, inr, arith, length-append, length-set, eqb-true}
use Rattle.etcd_types.specs.declared.request.Request.{Request}
use Rattle.etcd_types.specs.declared.watch.Event.{Event}
use Rattle.store_model.specs.declared.store_fault.StoreFault.{StoreFault}
use Rattle.store_model.specs.declared.store_fault.StoreFault.TheVariants as fault
use Rattle.store_model.specs.declared.watch.OpenWatch.{OpenWatch}
use Rattle.store_model.specs.History.{newest}
use Rattle.store_model.specs.State.{State, applied_by}
use Rattle.store_model.specs.Leases.{expired, ended}
use Rattle.store_model.specs.Members.{applied, lacks_member}
use Rattle.store_model.specs.Transactions.{has_lease}
use Rattle.store_model.specs.Step.{Step, exec}
use Rattle.store_model.specs.Watches.{Pushed, pushed, push_to, push_events, events_for, for_watch, watch_of}
use Rattle.store_model.proofs.WatchLemmas.{pushed-some}
use Rattle.store_laws.proofs.Requests.StepCases.{StepCases, exec_by}
use Rattle.shop_model.specs.declared.event.StoreEvent.{StoreEvent}
use Rattle.shop_model.specs.declared.event.StoreEvent.TheVariants.{Exec, Open, Push}
use Rattle.shop_model.specs.declared.event.StoreOutcome.{StoreOutcome}
use Rattle.shop_model.specs.declared.event.StoreOutcome.TheVariants as outcome
use Rattle.shop_model.specs.declared.event.StoreStepFault.{StoreStepFault}
use Rattle.shop_model.specs.declared.event.StoreStepFault.TheVariants as step
use Rattle.shop_model.specs.Deadlines.{due}
use Rattle.shop_model.specs.Shop.{Shop, taken, lease_ended, all_ended, caught_up, settled}
use Rattle.shop_model.specs.Steps.{StepsTo, Begun, Stepped, does, with_pushed}
use Rattle.shop_laws.specs.StayOpen.{KnowsWatch, OpensWatch, KeepsWatch, FindsWatch}

-- ---- what a step does first

expired_watches : (s : State) (n : ℕ) (b : Bool) (e : StoreFault) → (taken s (cond b (Ok (ended s n)) (Err e))).watches ≡ s.watches
expired_watches s n true e = refl
expired_watches s n false e = refl

ended_watches : (n : ℕ) (s : Shop) → (lease_ended n s).store.watches ≡ s.store.watches
unfolding expired
ended_watches n s = expired_watches s.store n (has_lease s.store.leases n) (fault.NoSuchLease n)

all_watches : (numbers : List ℕ) (s : Shop) → (all_ended numbers s).store.watches ≡ s.store.watches
all_watches [] s = refl
all_watches (n ∷ ns) s = all_watches ns (lease_ended n s) ∙ ended_watches n s

applied_watches : (s t : State) (b c : Bool) (e f : StoreFault) → t.watches ≡ s.watches → (taken s (cond b (Err e) (cond c (Err f) (Ok t)))).watches ≡ s.watches
applied_watches s t true c e f q = refl
applied_watches s t false true e f q = refl
applied_watches s t false false e f q = q

caught_up_watches : (s : Shop) → (caught_up s).store.watches ≡ s.store.watches
unfolding applied
caught_up_watches s =
    applied_watches s.store (record s.store { applied = set s.store.applied (1 - 1) (newest s.store.history) })
    (lacks_member s.store 1) (nat_lt (newest s.store.history) (applied_by s.store 1) || nat_lt (newest s.store.history) (newest s.store.history))
    (fault.NoSuchMember 1) (fault.BadApply (applied_by s.store 1) (newest s.store.history)) refl

settled_watches : (now : ℕ) (s : Shop) → (settled now s).store.watches ≡ s.store.watches
settled_watches now s = caught_up_watches (all_ended (due now s.deadlines) s) ∙ all_watches (due now s.deadlines) s

-- ---- what the event does

Stays : (s : State) → Request → Step → Type 0
Stays s q a = a.0.watches ≡ s.watches

cases : (s : State) → StepCases s 1 (Stays s)
unfolding Stays
cases s = record {
  refuses = λ q refusal k. refl;
  runs = λ q op made b e n f r. refl;
  reads = λ ask b e. refl;
  compacts = λ revision physical e f. refl;
  grants = λ ttl number e. refl;
  revokes = λ number e. refl;
  keeps_alive = λ number. refl;
  tells = λ number keys. refl;
  lists = refl;
}

exec_watches : (q : Request) (s : State) → (exec s 1 q).0.watches ≡ s.watches
unfolding Stays
exec_watches q s = exec_by s 1 (Stays s) (cases s) q

Lasts : State → Pushed → Type 0
Lasts s (Ok p) = length p.0.watches ≡ length s.watches
Lasts s (Err e) = Unit {0}

lasts_either : (s : State) (b : Bool) (x y : Pushed) → Lasts s x → Lasts s y → Lasts s (cond b x y)
lasts_either s true x y p q = p
lasts_either s false x y p q = q

events_last : (s : State) (n : ℕ) (w : OpenWatch) (es : List Event) → Lasts s (push_events s n w es)
unfolding Lasts
events_last s n w [] = tt
events_last s n w (e ∷ es) = length-set s.watches (n - 1) _

watch_lasts : (s : State) (n : ℕ) (w : Option OpenWatch) → Lasts s (for_watch n w (push_to s n))
unfolding Lasts
watch_lasts s n None = tt
watch_lasts s n (Some w) =
    lasts_either s (w.next == 0) _ _ (length-set s.watches (n - 1) _) (lasts_either s (nat_lt w.next s.compacted) _ _ refl (events_last s n w (events_for s w)))

pushed_count : (s : Shop) (n : ℕ) (p : Pushed) → Lasts s.store p → length (with_pushed n s p).0.store.watches ≡ length s.store.watches
unfolding Lasts
pushed_count s n (Ok p) k = k
pushed_count s n (Err (fault.NothingToPush w)) k = refl
pushed_count s n (Err (fault.NoSuchLease l)) k = refl
pushed_count s n (Err (fault.BadApply a b)) k = refl
pushed_count s n (Err (fault.NoSuchMember m)) k = refl
pushed_count s n (Err (fault.NoSuchWatch w)) k = refl
pushed_count s n (Err (fault.NotAsked w)) k = refl
pushed_count s n (Err (fault.NotSynced a b)) k = refl
pushed_count s n (Err fault.NoMemory) k = refl

does_count : (now : ℕ) (e : StoreEvent) (s : Shop) → length s.store.watches ≤ length (does now e s).0.store.watches
unfolding pushed
does_count now (Exec q) s = let e = ap length (exec_watches q s.store) in omega (arith, e)
does_count now (Open ask) s = let e = length-append s.store.watches (record { member = 1; ask = ask; next = 0 } ∷ []) in omega (arith, e)
does_count now (Push n) s = let e = pushed_count s n (pushed s.store n) (watch_lasts s.store n (watch_of s.store n)) in omega (arith, e)

-- ---- the whole step

did_count : (now : ℕ) (e : StoreEvent) (s t : Shop) (a : Result StoreOutcome StoreStepFault) → (t, a) ≡ does now e (settled now s) → length s.store.watches ≤ length t.store.watches
did_count now e s t a is =
    let first = ap length (settled_watches now s) in
    let more = does_count now e (settled now s) in
    let same = ap (λ (x : Stepped). length x.0.store.watches) is in
    omega (arith, first, more, same)

begun_count : (now : ℕ) (s t : Shop) → Begun now s t → t.store.watches ≡ s.store.watches
begun_count now s t b =
    elim b [
      | inl x ↦ ap (λ (u : Shop). u.store.watches) x.3 ∙ all_watches x.0 s
      | inr e ↦ ap (λ (u : Shop). u.store.watches) e ∙ settled_watches now s
    ]

step_count : (s t : Shop) (e : StoreEvent) (now : ℕ) (a : Result StoreOutcome StoreStepFault) → StepsTo s e now a t → length s.store.watches ≤ length t.store.watches
step_count s t e now (Ok o) k = did_count now e s t (Ok o) k.1
step_count s t e now (Err (step.NoSuchWatch n)) k = did_count now e s t (Err (step.NoSuchWatch n)) k.1
step_count s t e now (Err step.Worn) k = let same = ap (λ (u : Shop). length u.store.watches) k.1 in omega (arith, same)
step_count s t e now (Err step.NoMemory) k = let same = ap length (begun_count now s t k.1) in omega (arith, same)

pub keeps_watch : KeepsWatch
keeps_watch s t e now a number k h = let more = step_count s t e now a k in let most = h.1 in (h.0, omega (arith, more, most))

-- ---- a watch that is opened

-- the number of the watch that was opened
opened_number : ℕ → Result StoreOutcome StoreStepFault → ℕ
opened_number d (Ok (outcome.Opened n)) = n
opened_number d (Ok (outcome.Answer a)) = d
opened_number d (Ok (outcome.Item i)) = d
opened_number d (Ok outcome.Nothing) = d
opened_number d (Err e) = d

pushed_opens_none : (d n : ℕ) (s : Shop) (p : Pushed) → opened_number d (with_pushed n s p).1 ≡ d
unfolding opened_number
pushed_opens_none d n s (Ok p) = refl
pushed_opens_none d n s (Err (fault.NothingToPush w)) = refl
pushed_opens_none d n s (Err (fault.NoSuchLease l)) = refl
pushed_opens_none d n s (Err (fault.BadApply a b)) = refl
pushed_opens_none d n s (Err (fault.NoSuchMember m)) = refl
pushed_opens_none d n s (Err (fault.NoSuchWatch w)) = refl
pushed_opens_none d n s (Err (fault.NotAsked w)) = refl
pushed_opens_none d n s (Err (fault.NotSynced a b)) = refl
pushed_opens_none d n s (Err fault.NoMemory) = refl

-- beside a number that it isn't, it would be that one
does_open : (now number : ℕ) (e : StoreEvent) (s t : Shop) → (t, Ok (outcome.Opened number)) ≡ does now e s → (number ≡ number + 1) ⊎ KnowsWatch number t
unfolding opened_number
does_open now number (Exec q) s t is = inl (ap (λ (x : Stepped). opened_number (number + 1) x.1) is)
does_open now number (Open ask) s t is =
    let n = ap (λ (x : Stepped). opened_number 0 x.1) is in
    let w = ap (λ (x : Stepped). length x.0.store.watches) is in
    let l = length-append s.store.watches (record { member = 1; ask = ask; next = 0 } ∷ []) in
    inr (omega (arith, n), omega (arith, n, w, l))
does_open now number (Push m) s t is = inl (ap (λ (x : Stepped). opened_number (number + 1) x.1) is ∙ pushed_opens_none (number + 1) m s (pushed s.store m))

pub opens_watch : OpensWatch
opens_watch s t e now number k = elim (does_open now number e (settled now s) t k.1) [ inl x ↦ absurd (omega (arith, x)) | inr h ↦ h ]

-- ---- a push of a watch that is known

found : {A : Type 0} (xs : List A) (n : ℕ) → n < length xs → (x : A) × (slice_get xs n ≡ Some x)
found [] n h = absurd (omega arith)
found (x ∷ xs) zero h = (x, refl)
found (x ∷ xs) (suc n) h = found xs n (omega arith)

found_by : (s : State) (number : ℕ) (b : Bool) → (number == 0) ≡ b → 1 ≤ number → number ≤ length s.watches → (w : OpenWatch) × (cond b None (slice_get s.watches (number - 1)) ≡ Some w)
found_by s number true e one most = let none = eqb-true number 0 e in absurd (omega (arith, none, one))
found_by s number false e one most = found s.watches (number - 1) (omega (arith, one, most))

watch_found : (s : State) (number : ℕ) → 1 ≤ number → number ≤ length s.watches → (w : OpenWatch) × (watch_of s number ≡ Some w)
watch_found s number one most = found_by s number (number == 0) refl one most

-- the push finds its watch
Finds : Pushed → Type 0
Finds (Ok p) = Unit {0}
Finds (Err (fault.NothingToPush w)) = Unit {0}
Finds (Err (fault.NoSuchLease l)) = ⊥
Finds (Err (fault.BadApply a b)) = ⊥
Finds (Err (fault.NoSuchMember m)) = ⊥
Finds (Err (fault.NoSuchWatch w)) = ⊥
Finds (Err (fault.NotAsked w)) = ⊥
Finds (Err (fault.NotSynced a b)) = ⊥
Finds (Err fault.NoMemory) = ⊥

finds_either : (b : Bool) (x y : Pushed) → Finds x → Finds y → Finds (cond b x y)
finds_either true x y p q = p
finds_either false x y p q = q

events_find : (s : State) (n : ℕ) (w : OpenWatch) (es : List Event) → Finds (push_events s n w es)
unfolding Finds
events_find s n w [] = tt
events_find s n w (e ∷ es) = tt

push_finds : (s : State) (n : ℕ) (w : OpenWatch) → Finds (push_to s n w)
unfolding Finds
push_finds s n w = finds_either (w.next == 0) _ _ tt (finds_either (nat_lt w.next s.compacted) _ _ tt (events_find s n w (events_for s w)))

pushed_finds : (s : State) (number : ℕ) → 1 ≤ number → number ≤ length s.watches → Finds (pushed s number)
pushed_finds s number a b = let w = watch_found s number a b in subst Finds (sym (pushed-some s number w.0 w.1)) (push_finds s number w.0)

Unknown : Result StoreOutcome StoreStepFault → Type 0
Unknown (Ok o) = ⊥
Unknown (Err (step.NoSuchWatch n)) = Unit {0}
Unknown (Err step.Worn) = ⊥
Unknown (Err step.NoMemory) = ⊥

known_by : (n : ℕ) (s : Shop) (p : Pushed) → Finds p → Unknown (with_pushed n s p).1 → ⊥
unfolding Finds Unknown
known_by n s (Ok p) f u = u
known_by n s (Err (fault.NothingToPush w)) f u = u
known_by n s (Err (fault.NoSuchLease l)) f u = f
known_by n s (Err (fault.BadApply a b)) f u = f
known_by n s (Err (fault.NoSuchMember m)) f u = f
known_by n s (Err (fault.NoSuchWatch w)) f u = f
known_by n s (Err (fault.NotAsked w)) f u = f
known_by n s (Err (fault.NotSynced a b)) f u = f
known_by n s (Err fault.NoMemory) f u = f

pub finds_watch : FindsWatch
unfolding Unknown
finds_watch s t now number watch h k =
    let x = settled now s in
    let count = ap length (settled_watches now s) in
    let most = h.1 in
    known_by number x (pushed x.store number) (pushed_finds x.store number h.0 (omega (arith, count, most)))
    (subst Unknown (ap (λ (y : Stepped). y.1) k.1) tt)
