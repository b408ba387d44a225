-- The steps of a pass at a hub.
use Rattle.std.proofs.Common.{◌≡◌, ℕ, ◌+◌, ◌<◌, ◌≤◌, ◌^◌, ◌==◌, Bool, true, false, IsTrue, List, [], ◌∷◌, ◌++◌, length, Option, None, Some, Result, Ok, Err, refl, sym, ap, ◌∙◌, append-nil, append_assoc, length-append, subst, arith}
use Rattle.std.proofs.lemmas.Grind.{common_steps}
use Rattle.turn_hub.specs.declared.view.Opening.{Opening}
use Rattle.turn_hub.specs.declared.fault.HubFault.{HubFault}
use Rattle.turn_hub.specs.declared.fault.HubFault.TheVariants.{Worn, Machine}
use Rattle.turn_hub.specs.History.{Runs, Begins, entry_of}
use Rattle.turn_hub.specs.Known.{Known, made, opening_of, base_of}
use Rattle.turn_hub.specs.Steps.{Makes, Stops, Fails, StandsAt}
use Rattle.turn_hub.specs.Views.{longer}
use Rattle.core_model.specs.declared.event.CoreEvent.{CoreEvent}
use Rattle.core_model.specs.declared.event.Outcome.{Outcome}
use Rattle.core_model.specs.declared.event.StepFault.{StepFault}
use Rattle.core_model.specs.State.{Core}
use Rattle.server_model.specs.declared.fault.TurnFault.TheVariants as turn
use Rattle.server_model.specs.Steps.{Step, MadeBy, Rested, NoEvent}
use Rattle.proxy_core.specs.Faults.{CoreSteps}
use Rattle.outside.specs.Calls.{LinkCall, Handed}
use Rattle.outside.specs.declared.parts.Part.{Part}
use Rattle.server_model.specs.Working.{Ledger, ledger}
use Rattle.server_model.specs.Rounds.{IsSpent}
use Rattle.server_model.proofs.Rounded.{spent_later}
use Rattle.proxy_parts.specs.Passes.{is_at_limit, IsSound, Grows}

module _ {M : Type 0} (steps : M → CoreEvent → ℕ → Result Outcome StepFault → M → Type 0) where
  last_step : (m n : M) (xs : List Step) (e : Step) → Runs steps m (xs ++ e ∷ []) n → (k : M) × (l : M) × steps k e.event e.now e.answer l
  last_step m n [] e r = (m, r.0, r.1)
  last_step m n (x ∷ xs) e r = last_step r.0 n xs e r.2

  -- what the machine's relation says of each step, it says of the pass's last one
  pub was_a_step : (before after : Known (Opening M) Step) (event : CoreEvent) (now : ℕ) (answer : Result Outcome StepFault)
      → Makes steps before after event now answer → (k : M) × (l : M) × steps k event now answer l
  was_a_step before after event now answer m =
      last_step (opening_of after.hub) m.allowed.0 (before.seen ++ m.between) (entry_of event now answer) (subst (λ (seen : List Step). Runs steps (opening_of after.hub) seen m.allowed.0) m.seen m.allowed.1)

  -- the same of a step that failed
  pub was_a_fault : (before after : Known (Opening M) Step) (event : CoreEvent) (now : ℕ) (x : HubFault StepFault) (fault : StepFault) → x ≡ Machine fault
      → Fails steps before after event now x → (k : M) × (l : M) × steps k event now (Err fault) l
  was_a_fault before after event now x fault e f =
      was_a_step before after event now (Err fault) (subst (λ (y : HubFault StepFault). Fails steps before after event now y) e f)

  pub made_one : (before after : Known (Opening M) Step) (event : CoreEvent) (now : ℕ) (outcome : Outcome)
      → Makes steps before after event now (Ok outcome) → MadeBy (Some (made before)) (Some (made after)) event now (Ok outcome)
  made_one before after event now outcome m = m.made

  pub made_fault : (before after : Known (Opening M) Step) (event : CoreEvent) (now : ℕ) (fault : StepFault)
      → Makes steps before after event now (Err fault) → MadeBy (Some (made before)) (Some (made after)) event now (Err (turn.Core fault))
  made_fault before after event now fault m = m.made

  pub made_none : (before after : Known (Opening M) Step) (event : CoreEvent) (now : ℕ)
      → Stops steps before after → MadeBy (Some (made before)) (Some (made after)) event now (Err turn.Worn)
  made_none before after event now s = s.made ∙ sym (append-nil (made before))

pub rested : (a b : List Step) → b ≡ a → Rested NoEvent (Some a) (Some b)
rested a b e = record { steps = []; adds = e ∙ sym (append-nil a); others = tt; none_own = tt }

-- ---- what was seen grows

pub begins_itself : (xs : List Step) → Begins xs xs
begins_itself xs = ([], sym (append-nil xs))

pub begins_then : (a b c : List Step) → Begins a b → Begins b c → Begins a c
begins_then a b c p q = (p.0 ++ q.0, q.1 ∙ ap (λ (l : List Step). l ++ q.0) p.1 ∙ append_assoc a p.0 q.0)

made_grows : (before after : Known (Opening Core) Step) (event : CoreEvent) (now : ℕ) (answer : Result Outcome StepFault) → Makes CoreSteps before after event now answer
    → Begins before.seen after.seen
made_grows before after event now answer m = (m.between ++ entry_of event now answer ∷ [], m.seen ∙ append_assoc before.seen m.between (entry_of event now answer ∷ []))

-- a step keeps what holds of a pass since it was seated
pub grows_by : (first before after : Known (Opening Core) Step) (event : CoreEvent) (now : ℕ) (answer : Result Outcome StepFault) → Makes CoreSteps before after event now answer
    → Grows first before → Grows first after
grows_by first before after event now answer m g = (m.allowed, begins_then first.seen before.seen after.seen g.1 (made_grows before after event now answer m))

pub grows_failing : (first before after : Known (Opening Core) Step) (event : CoreEvent) (now : ℕ) (x : HubFault StepFault) → Fails CoreSteps before after event now x
    → Grows first before → Grows first after
grows_failing first before after event now Worn s g = (s.allowed, begins_then first.seen before.seen after.seen g.1 s.seen)
grows_failing first before after event now (Machine fault) m g = grows_by first before after event now (Err fault) m g

-- ---- the limit of steps

same_test : (n m : ℕ) → n ≡ m → IsTrue (n == m)
same_test n m e = grind arith

test_same : (n m : ℕ) → IsTrue (n == m) → n ≡ m
test_same n m t = grind arith

pub full_at_limit : (before after : Known (Opening Core) Step) → Stops CoreSteps before after → IsTrue (is_at_limit after)
full_at_limit before after s = same_test (length after.seen + base_of after.hub) (2 ^ 62) s.full

pub worn_at_limit : (before after : Known (Opening Core) Step) (event : CoreEvent) (now : ℕ) (x : HubFault StepFault) → x ≡ Worn → Fails CoreSteps before after event now x
    → IsTrue (is_at_limit after)
worn_at_limit before after event now x e f =
    full_at_limit before after (subst (λ (y : HubFault StepFault). Fails CoreSteps before after event now y) e f)

base_same : (x y : Known (Opening Core) Step) → y.hub ≡ x.hub → base_of y.hub ≡ base_of x.hub
base_same x y e = ap (λ h. base_of h) e

-- behind the hub's last step none is made
never_behind : (before after : Known (Opening Core) Step) (event : CoreEvent) (now : ℕ) (answer : Result Outcome StepFault) → after.hub ≡ before.hub
    → Makes CoreSteps before after event now answer → IsTrue (is_at_limit before) → ⊥
never_behind before after event now answer h m l =
    let at = test_same (length before.seen + base_of before.hub) (2 ^ 62) l in
    let base = base_same before after h in
    let room = m.stands.room in
    let long : length after.seen ≡ length ((before.seen ++ m.between) ++ entry_of event now answer ∷ []) = ap length m.seen in
    grind (arith, common_steps)

pub limit_stays : (before after : Known (Opening Core) Step) (event : CoreEvent) (now : ℕ) (answer : Result Outcome StepFault) → after.hub ≡ before.hub
    → Makes CoreSteps before after event now answer → IsTrue (is_at_limit before) → IsTrue (is_at_limit after)
limit_stays before after event now answer h m l = absurd (never_behind before after event now answer h m l)

pub limit_stays_failing : (before after : Known (Opening Core) Step) (event : CoreEvent) (now : ℕ) (x : HubFault StepFault) → after.hub ≡ before.hub
    → Fails CoreSteps before after event now x → IsTrue (is_at_limit before) → IsTrue (is_at_limit after)
limit_stays_failing before after event now Worn h s l = full_at_limit before after s
limit_stays_failing before after event now (Machine fault) h m l = limit_stays before after event now (Err fault) h m l

-- what was seen more leaves it at the limit
pub limit_grows : (x y : Known (Opening Core) Step) → y.hub ≡ x.hub → Begins x.seen y.seen → StandsAt y → IsTrue (is_at_limit x) → IsTrue (is_at_limit y)
limit_grows x y h b s l =
    let at = test_same (length x.seen + base_of x.hub) (2 ^ 62) l in
    let base = base_same x y h in
    let room = s.room in
    let long : length y.seen ≡ length x.seen + length b.0 = ap length b.1 ∙ length-append x.seen b.0 in
    same_test (length y.seen + base_of y.hub) (2 ^ 62) (omega arith)

-- ---- a pass that was split off, and is joined again

pub longer_one : (a b : List Step) → Begins a b → longer a b ≡ b
longer_one a b p = by_length p.0 refl
  where
    by_length : (rest : List Step) → p.0 ≡ rest → longer a b ≡ b
    by_length [] e =
        let same : a ≡ b = sym (p.1 ∙ ap (λ (l : List Step). a ++ l) e ∙ append-nil a) in
        subst (λ (c : List Step). longer a c ≡ c) same (longer_itself a)
      where
        longer_itself : (c : List Step) → longer c c ≡ c
        longer_itself c = grind arith
    by_length (x ∷ xs) e = grind (arith, common_steps, p.1, e)

-- ---- a part's pass, from the place that it came with to the one that it leaves

-- `begun` and `begun'` are the pass that was seated, as the seat has it before and after
pub seat_grows : (old begun begun' first last final : Known (Opening Core) Step) → begun ≡ old → begun' ≡ begun → Grows old first → (Grows begun first → Grows begun' last) → final ≡ last
    → Grows old final
seat_grows old begun begun' first last final e f g k o =
    let at_first : Grows begun first = subst (λ (x : Known (Opening Core) Step). Grows x first) (sym e) g in
    let at_last : Grows old last = subst (λ (x : Known (Opening Core) Step). Grows x last) (f ∙ e) (k at_first) in
    subst (λ (x : Known (Opening Core) Step). Grows old x) (sym o) at_last

-- `before` was split off the old pass, and the new one met it
pub met_grows : (old before before' new : Known (Opening Core) Step) → before ≡ record old { own = [] } → before' ≡ before → IsSound new → Begins before'.seen new.seen → Grows old new
met_grows old before before' new a e s b = (s, subst (λ (x : Known (Opening Core) Step). Begins x.seen new.seen) (e ∙ a) b)

pub spent_met : {P C : Type 0} (hosts : List (List ℕ)) (homed : P → Type 0) (turns : ℕ) (a : Ledger (Part P C)) (calls : Option (List LinkCall)) (handed : Option (List (Handed (Part P C)))) (links spawns : ℕ)
    (mid new : Known (Opening Core) Step) → new.hub ≡ mid.hub → Begins mid.seen new.seen → StandsAt new → made new ≡ made mid
    → IsSpent hosts homed NoEvent (IsTrue (is_at_limit mid)) turns a (ledger (Some (made mid)) calls handed links spawns)
    → IsSpent hosts homed NoEvent (IsTrue (is_at_limit new)) turns a (ledger (Some (made new)) calls handed links spawns)
spent_met hosts homed turns a calls handed links spawns mid new h b s m e =
    subst (λ (xs : List Step). IsSpent hosts homed NoEvent (IsTrue (is_at_limit new)) turns a (ledger (Some xs) calls handed links spawns)) (sym m)
    (spent_later hosts homed NoEvent (IsTrue (is_at_limit mid)) (IsTrue (is_at_limit new)) turns a (ledger (Some (made mid)) calls handed links spawns) (limit_grows mid new h b s) e)
