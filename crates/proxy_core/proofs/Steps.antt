-- One step, put together: the clock work, what the event does then, and the count.
use Rattle.std.proofs.Common.{◌≡◌, ◌<◌, ℕ, ◌+◌, ◌^◌, nat_le, Bool, true, false, cond, ◌||◌, List, Option, None, Some, is_some, Result, Ok, Err, refl, sym, ◌∙◌, ap, subst, arith}
use Rattle.std.proofs.lemmas.Bool.Decides.{nat_tests}
use Rattle.etcd_types.specs.declared.key_range.KeyRange.{KeyRange}
use Rattle.proxy_model.specs.Prefixes.{leasing_range}
use Rattle.core_model.specs.declared.event.CoreEvent.{CoreEvent}
use Rattle.core_model.specs.declared.event.CoreEvent.TheVariants as event
use Rattle.core_model.specs.declared.event.Outcome.{Outcome}
use Rattle.core_model.specs.declared.event.StepFault.{StepFault}
use Rattle.core_model.specs.declared.event.StepFault.TheVariants as fault
use Rattle.core_model.specs.declared.settings.Settings.{Settings}
use Rattle.core_model.specs.ClockWork.{begun, clock_work, times_out}
use Rattle.core_model.specs.Fits.{CoreOk}
use Rattle.core_model.specs.Heard.{heard}
use Rattle.core_model.specs.Lookups.{moment, reads_of}
use Rattle.core_model.specs.Sessions.{without_session, seat_is_over, deadline_passed}
use Rattle.core_model.specs.State.{Opening, Core}
use Rattle.core_model.specs.Step.{happened, is_worn, last_number, stepped}
use Rattle.core_model.specs.Stepped.{Stepped, gives, faults, counted}
use Rattle.core_laws.specs.Steps.Kept.{HeardBytes, IsHeard}
use Rattle.core_laws.specs.Steps.Outcomes.{Gives, gave, faulted}
use Rattle.core_laws.specs.Steps.Staying.{Stays}
use Rattle.core_laws.proofs.Steps.Middle.{clock_whole}
use Rattle.core_laws.proofs.Steps.Outcomes.{steps_give}
use Rattle.core_laws.proofs.Steps.Prefixes.{session_over_same, taken_off_same}
use Rattle.core_laws.proofs.Steps.Staying.{steps_stay}
use Rattle.core_laws.proofs.Steps.Stepping.{steps_keep}
use Rattle.core_laws.proofs.Steps.Whole.{is_ok, of_ok}
use Rattle.core_face.specs.Steps.{FaultsSo}
use Rattle.core_machine.specs.Does.{FaultsBy}
use Rattle.core_machine.specs.Keeping.{Kept, Ranges, on, IsFirst, RangesOk, IsKept}
use Rattle.proxy_core.specs.Happening.{IsReady, RangesAfter}
use Rattle.proxy_core.proofs.Counts.{steps_are_left}

-- What clock work leaves.

record Left (c d : Core) : Type 0 where
  settings : d.settings ≡ c.settings
  steps : d.steps ≡ c.steps
  given : d.watches.given ≡ c.watches.given
  leasing : d.leasing ≡ c.leasing
  prefix : d.own.waits.prefix ≡ c.own.waits.prefix

either : {A : Type 0} (P : A → Type 0) (b : Bool) (x y : A) → P x → P y → P (cond b x y)
either P true x y f g = f
either P false x y f g = g

over_left : (now : ℕ) (c : Core) → Left c (without_session now c)
over_left now c =
    let d = record c { seat = None } in
    record { settings = refl; steps = refl; given = refl; leasing = refl; prefix = session_over_same (moment d now) (reads_of d) }

begun_left : (now : ℕ) (c : Core) → Left c (without_session now (begun c))
begun_left now c =
    let h : Left (begun c) (without_session now (begun c)) = over_left now (begun c) in
    record { settings = h.settings; steps = h.steps; given = h.given; leasing = h.leasing; prefix = h.prefix }

clock_left : (now : ℕ) (c : Core) → Left c (clock_work now c)
unfolding clock_work
clock_left now c =
    let d = deadline_passed now (begun c) in
    let h : Left c d = either (Left c) (seat_is_over c.seat now) (without_session now (begun c)) (begun c) (begun_left now c) (record { settings = refl; steps = refl; given = refl; leasing = refl; prefix = refl }) in
    record { settings = h.settings; steps = h.steps; given = h.given; leasing = h.leasing; prefix = taken_off_same (moment d now) (times_out now) _ (reads_of d) ∙ h.prefix }

-- What an event finds then.

neither : (a b : Bool) → a || b ≡ false → (a ≡ false) × (b ≡ false)
neither true b h = absurd (cc)
neither false b h = (refl, h)

below : (n m : ℕ) → nat_le m n ≡ false → n < m
below n m h = grind (arith, nat_tests)

ranges_of : (k : Kept) (d : Core) → Left k.core d → RangesOk k → RangesOk (on k d)
ranges_of k d h r = record {
  leasing = r.leasing ∙ ap leasing_range (sym h.prefix);
  first =
      subst (λ (p : List ℕ). IsFirst d.leasing (leasing_range p) k.ranges.first) (sym h.prefix)
      (subst (λ (o : Option Opening). IsFirst o (leasing_range k.core.own.waits.prefix) k.ranges.first) (sym h.leasing) r.first);
}

pub is_ready : (now : ℕ) (k : Kept) → IsKept k → is_worn k.core ≡ false → IsReady (on k (clock_work now k.core))
is_ready now k h w =
    let l : Left k.core (clock_work now k.core) = clock_left now k.core in
    let n = neither (nat_le last_number k.core.steps) (nat_le last_number k.core.watches.given) w in
    record {
      ok = is_ok (clock_work now k.core) (clock_whole 0 now k.core (of_ok k.core h.ok).mid);
      ranges = ranges_of k (clock_work now k.core) l h.ranges;
      steps = subst (λ (m : ℕ). m < 2 ^ 62) (sym l.steps) (below k.core.steps last_number n.0);
      given = subst (λ (m : ℕ). m < 2 ^ 62) (sym l.given) (below k.core.watches.given last_number n.1);
    }

-- The ranges beside, once the event was handled.

first_stays : (was is : Option Opening) (range : KeyRange) (old new : Option KeyRange) → new ≡ old → (is_some was ≡ true → is_some is ≡ true) → IsFirst was range old → IsFirst is range new
first_stays was (Some o) range old new e t h = tt
first_stays None None range old new e t h = e ∙ h
first_stays (Some o) None range old new e t h = let x : false ≡ true = t refl in absurd (cc)

record Goes (mid new : Kept) : Type 0 where
  prefix : new.core.own.waits.prefix ≡ mid.core.own.waits.prefix
  leasing : is_some mid.core.leasing ≡ true → is_some new.core.leasing ≡ true

same_ranges : (mid new : Kept) → Goes mid new → RangesOk mid → new.ranges ≡ mid.ranges → RangesOk new
same_ranges mid new g h r = record {
  leasing = ap (λ (x : Ranges). x.leasing) r ∙ h.leasing ∙ ap leasing_range (sym g.prefix);
  first =
      subst (λ (p : List ℕ). IsFirst new.core.leasing (leasing_range p) new.ranges.first) (sym g.prefix)
      (first_stays mid.core.leasing new.core.leasing (leasing_range mid.core.own.waits.prefix) mid.ranges.first new.ranges.first (ap (λ (x : Ranges). x.first) r) g.leasing h.first);
}

ranges_after : (e : CoreEvent) (mid new : Kept) → Goes mid new → RangesOk mid → RangesAfter e mid new → RangesOk new
ranges_after (event.Tick word) mid new g h r = record {
  leasing = r.0 ∙ h.leasing ∙ ap leasing_range (sym g.prefix);
  first = subst (λ (p : List ℕ). IsFirst new.core.leasing (leasing_range p) new.ranges.first) (sym g.prefix) r.1;
}
ranges_after (event.Ask ticket q word) mid new g h r = same_ranges mid new g h r
ranges_after (event.Answer call a) mid new g h r = same_ranges mid new g h r
ranges_after (event.Lost call) mid new g h r = same_ranges mid new g h r
ranges_after (event.Item number x) mid new g h r = same_ranges mid new g h r
ranges_after (event.Cut number) mid new g h r = same_ranges mid new g h r
ranges_after (event.Take ticket) mid new g h r = same_ranges mid new g h r
ranges_after (event.Leave ticket) mid new g h r = same_ranges mid new g h r
ranges_after event.Work mid new g h r = same_ranges mid new g h r

-- An outcome.

heard_before : (e : CoreEvent) (c d : Core) → d.settings ≡ c.settings → IsHeard d e → IsHeard c e
heard_before (event.Ask ticket q word) c d s h = tt
heard_before (event.Answer call a) c d s h = subst (λ (x : Settings). HeardBytes (heard x.namespace a)) s h
heard_before (event.Lost call) c d s h = tt
heard_before (event.Tick word) c d s h = tt
heard_before (event.Item number x) c d s h = tt
heard_before (event.Cut number) c d s h = tt
heard_before (event.Take ticket) c d s h = tt
heard_before (event.Leave ticket) c d s h = tt
heard_before event.Work c d s h = tt

abbrev pub after_one : Core → Core
after_one c = record c { steps = c.steps + 1 }

pub stepped_gives : (c : Core) (e : CoreEvent) (now : ℕ) (d : Core) (o : Outcome) → is_worn c ≡ false → happened now e (clock_work now c) ≡ gives d o → stepped c e now ≡ gives (after_one d) o
unfolding stepped
stepped_gives c e now d o w h =
    ap (λ b. cond b (faults c fault.Worn) (counted (happened now e (clock_work now c)))) w ∙ ap counted h

pub kept_after : (old new : Kept) (e : CoreEvent) (now : ℕ) (o : Outcome) → IsKept old → is_worn old.core ≡ false → happened now e (clock_work now old.core) ≡ gives new.core o → IsHeard (clock_work now old.core) e → RangesAfter e (on old (clock_work now old.core)) new → IsKept (on new (after_one new.core))
kept_after old new e now o k w h b r =
    let c = old.core in
    let mid = on old (clock_work now c) in
    let s : stepped c e now ≡ gives (after_one new.core) o = stepped_gives c e now new.core o w h in
    let l : Left c (clock_work now c) = clock_left now c in
    let y : Stays c (after_one new.core) = subst (λ (x : Stepped). Stays c x.core) s (steps_stay c e now) in
    let g : Goes mid new = record { prefix = y.prefix ∙ sym l.prefix; leasing = λ t. y.leasing (ap is_some (sym l.leasing) ∙ t) } in
    let q : RangesOk new = ranges_after e mid new g (ranges_of old (clock_work now c) l k.ranges) r in
    record {
      ok = subst (λ (x : Stepped). CoreOk x.core) s (steps_keep c e now (heard_before e c (clock_work now c) l.settings b) k.ok);
      ranges = record { leasing = q.leasing; first = q.first };
    }

-- A fault.

stepped_faults : (c : Core) (e : CoreEvent) (now : ℕ) (d : Core) (f : StepFault) → is_worn c ≡ false → happened now e (clock_work now c) ≡ faults d f → stepped c e now ≡ faults d f
unfolding stepped
stepped_faults c e now d f w h =
    ap (λ b. cond b (faults c fault.Worn) (counted (happened now e (clock_work now c)))) w ∙ ap counted h

no_outcome : (o : Outcome) (f : StepFault) (r : Result Outcome StepFault) → r ≡ Ok o → r ≡ Err f → ⊥
no_outcome o f r p q = cc

nothing_done : (c : Core) (e : CoreEvent) (now : ℕ) (d : Core) (f : StepFault) → is_worn c ≡ false → stepped c e now ≡ faults d f → d ≡ clock_work now c
nothing_done c e now d f w h = by_what (stepped c e now) h (steps_give c e now w)
  where
    by_what : {fits : Outcome → Bool} (s : Stepped) → s ≡ faults d f → Gives fits (clock_work now c) s → d ≡ clock_work now c
    by_what s q (gave o p t) = absurd (no_outcome o f s.outcome p (ap (λ (x : Stepped). x.outcome) q))
    by_what s q (faulted g p t) = ap (λ (x : Stepped). x.core) (sym q ∙ p)

still_kept : (old new : Kept) (e : CoreEvent) (now : ℕ) → IsKept old → new.core ≡ clock_work now old.core → RangesAfter e (on old (clock_work now old.core)) new → IsKept new
still_kept old new e now k s r =
    let mid = on old (clock_work now old.core) in
    let g : Goes mid new = record { prefix = ap (λ (x : Core). x.own.waits.prefix) s; leasing = λ t. ap (λ (x : Core). is_some x.leasing) s ∙ t } in
    record {
      ok = subst (λ (x : Core). CoreOk x) (sym s) (is_ok (clock_work now old.core) (clock_whole 0 now old.core (of_ok old.core k.ok).mid));
      ranges = ranges_after e mid new g (ranges_of old (clock_work now old.core) (clock_left now old.core) k.ranges) r;
    }

abbrev AfterFault : Kept → Kept → CoreEvent → ℕ → StepFault → Type 0
AfterFault old new e now f = FaultsSo old.core e now new.core f × IsKept new

pub fault_after : (old new : Kept) (e : CoreEvent) (now : ℕ) (f : StepFault) → IsKept old → is_worn old.core ≡ false → FaultsBy (clock_work now old.core) (happened now e (clock_work now old.core)) f new.core → RangesAfter e (on old (clock_work now old.core)) new → AfterFault old new e now f
fault_after old new e now fault.NoMemory k w h r = (h, still_kept old new e now k h r)
fault_after old new e now fault.Worn k w h r =
    let s = stepped_faults old.core e now new.core fault.Worn w h in (s, still_kept old new e now k (nothing_done old.core e now new.core fault.Worn w s) r)
fault_after old new e now (fault.TicketUsed n) k w h r =
    let s = stepped_faults old.core e now new.core (fault.TicketUsed n) w h in (s, still_kept old new e now k (nothing_done old.core e now new.core (fault.TicketUsed n) w s) r)
fault_after old new e now (fault.NoSuchTicket n) k w h r =
    let s = stepped_faults old.core e now new.core (fault.NoSuchTicket n) w h in (s, still_kept old new e now k (nothing_done old.core e now new.core (fault.NoSuchTicket n) w s) r)
fault_after old new e now (fault.NoSuchCall n) k w h r =
    let s = stepped_faults old.core e now new.core (fault.NoSuchCall n) w h in (s, still_kept old new e now k (nothing_done old.core e now new.core (fault.NoSuchCall n) w s) r)
fault_after old new e now (fault.NoSuchStream n) k w h r =
    let s = stepped_faults old.core e now new.core (fault.NoSuchStream n) w h in (s, still_kept old new e now k (nothing_done old.core e now new.core (fault.NoSuchStream n) w s) r)

-- The exits of a step, by what stood at each moment of it.

pub ready_then : (now : ℕ) (old mid : Kept) → IsKept old → is_worn old.core ≡ false → mid ≡ on old (clock_work now old.core) → IsReady mid
ready_then now old mid k w p = subst (λ (m : Kept). IsReady m) (sym p) (is_ready now old k w)

pub count_left : (mid new : Kept) (e : CoreEvent) (now : ℕ) (o : Outcome) → IsReady mid → happened now e mid.core ≡ gives new.core o → new.core.steps < 2 ^ 63
count_left mid new e now o r h =
    let s : new.core.steps ≡ mid.core.steps = ap (λ (x : Stepped). x.core.steps) (sym h) ∙ steps_are_left now e mid.core in
    let l : mid.core.steps < 2 ^ 62 = r.steps in
    omega arith

pub record Done (old last : Kept) (e : CoreEvent) (now : ℕ) (o : Outcome) : Type 0 where
  pub step : stepped old.core e now ≡ gives last.core o
  pub kept : IsKept last

pub is_done : (old mid new last : Kept) (e : CoreEvent) (now : ℕ) (o : Outcome) → IsKept old → is_worn old.core ≡ false → mid ≡ on old (clock_work now old.core) → happened now e mid.core ≡ gives new.core o → IsHeard mid.core e → RangesAfter e mid new → last ≡ on new (after_one new.core) → Done old last e now o
is_done old mid new last e now o k w p h b r q =
    let d = clock_work now old.core in
    let does : happened now e d ≡ gives new.core o = subst (λ (m : Kept). happened now e m.core ≡ gives new.core o) p h in
    let heard : IsHeard d e = subst (λ (m : Kept). IsHeard m.core e) p b in
    let ranges : RangesAfter e (on old d) new = subst (λ (m : Kept). RangesAfter e m new) p r in
    subst (λ (l : Kept). Done old l e now o) (sym q) (record { step = stepped_gives old.core e now new.core o w does; kept = kept_after old new e now o k w does heard ranges })

pub record Failed (old last : Kept) (e : CoreEvent) (now : ℕ) (f : StepFault) : Type 0 where
  pub step : FaultsSo old.core e now last.core f
  pub kept : IsKept last

pub has_failed : (old mid new : Kept) (e : CoreEvent) (now : ℕ) (f : StepFault) → IsKept old → is_worn old.core ≡ false → mid ≡ on old (clock_work now old.core) → FaultsBy mid.core (happened now e mid.core) f new.core → RangesAfter e mid new → Failed old new e now f
has_failed old mid new e now f k w p h r =
    let d = clock_work now old.core in
    let x = fault_after old new e now f k w (subst (λ (m : Kept). FaultsBy m.core (happened now e m.core) f new.core) p h) (subst (λ (m : Kept). RangesAfter e m new) p r) in
    record { step = x.0; kept = x.1 }
