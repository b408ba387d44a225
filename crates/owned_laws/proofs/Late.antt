-- When a proxy's own writes were asked: in time their requests aren't late, and so aren't refused for it.
use Rattle.std.proofs.Common.{◌≡◌, ℕ, ◌+◌, ◌-◌, ◌==◌, ◌≤◌, nat_le, nat_lt, Bool, true, false, not, cond, ◌&&◌, ◌||◌, List, [], ◌∷◌, ◌++◌, Option, Some, is_some, Result, Ok, Err, refl, sym, ◌∙◌, ap, subst, arith}
use Rattle.std.proofs.lemmas.Bool.Decides.{nat_tests}
use Rattle.etcd_types.specs.declared.request.Request.{Request}
use Rattle.std.specs.List.{list_all, list_any}
use Rattle.etcd_types.proofs.Bools.{and_first, and_second, and_both}
use Rattle.proxy_model.specs.declared.lease.Entry.{Entry}
use Rattle.wait_model.specs.declared.write.Write.{Write}
use Rattle.wait_model.specs.Writes.{has_ticket}
use Rattle.read_model.specs.declared.asked.Asked.{Asked}
use Rattle.read_model.specs.declared.asked.Stage.TheVariants as stage
use Rattle.read_model.specs.declared.asked.Verdict.TheVariants as verdict
use Rattle.read_model.specs.PlainRead.{in_stage}
use Rattle.read_model.specs.TakingOff.{is_writes}
use Rattle.core_model.specs.declared.event.CoreEvent.{CoreEvent}
use Rattle.core_model.specs.declared.event.CoreEvent.TheVariants as event
use Rattle.core_model.specs.declared.event.Outcome.{Outcome}
use Rattle.core_model.specs.declared.event.StepFault.{StepFault}
use Rattle.core_model.specs.Asking.{on_ask}
use Rattle.core_model.specs.ClockWork.{request_time, is_replied, times_out, timed_out_ask, begun, clock_work}
use Rattle.core_model.specs.Fits.{CoreOk}
use Rattle.core_model.specs.Lookups.{ask_at}
use Rattle.core_model.specs.Sessions.{seat_is_over, without_session, deadline_passed}
use Rattle.core_model.specs.State.{Core}
use Rattle.core_model.specs.Step.{is_worn, stepped}
use Rattle.core_model.specs.Stepped.{Stepped, counted, counted_by}
use Rattle.core_fits.specs.Fits.{EachOf}
use Rattle.core_laws.proofs.Steps.Comes.{by_test}
use Rattle.core_laws.proofs.Steps.Lists.{same_number, number_itself, number_turned}
use Rattle.core_laws.proofs.Steps.Outcomes.{worn_does_nothing}
use Rattle.keep_laws.proofs.Rows.{All}
use Rattle.cause_laws.proofs.Walks.{Calls, Moves, over_walk}
use Rattle.cause_laws.proofs.Steps.{Keeps, ask_walk, step_walk}
use Rattle.owned_laws.specs.OwnWrites.{OwnWrite, is_in_time}
use Rattle.owned_laws.proofs.Cores as cores
use Rattle.owned_laws.proofs.Grounds.{Spared}
use Rattle.owned_laws.proofs.Modes.{AllAlone, first_as, behind_as, Parts, Mode}
use Rattle.owned_laws.proofs.Own.{MissesOf, ThereMisses, Misses, rest_misses}
use Rattle.owned_laws.proofs.Ways.{present, asking, sending_as, writes_own}

-- one of this ticket was asked at this reading of the clock
abbrev pub IsAt : ℕ → ℕ → Asked → Type 0
IsAt t since a = (a.ticket == t) ≡ true → a.asked ≡ since

abbrev pub AskedAt : ℕ → ℕ → List Asked → Type 0
AskedAt t since xs = All (IsAt t since) xs

-- it asks nothing under this ticket
abbrev pub AsksOther : CoreEvent → ℕ → Type 0
AsksOther (event.Ask ticket q word) t = (ticket == t) ≡ false
AsksOther _ t = Unit {0}

-- what is in time was in time before
pub in_time_before : (now later : ℕ) (w : OwnWrite) → now ≤ later → is_in_time later w ≡ true → is_in_time now w ≡ true
in_time_before now later w l e = below now later (w.since + request_time) l e
  where
    below : (now later limit : ℕ) → now ≤ later → nat_lt later limit ≡ true → nat_lt now limit ≡ true
    below now later limit l e = grind (arith, nat_tests, l, e)

-- of all these writes
abbrev pub AllAskedAt : List OwnWrite → List Asked → Type 0
AllAskedAt [] xs = Unit {0}
AllAskedAt (v ∷ vs) xs = AskedAt v.ticket v.since xs × AllAskedAt vs xs

abbrev pub AllOther : CoreEvent → List OwnWrite → Type 0
AllOther e [] = Unit {0}
AllOther e (v ∷ vs) = AsksOther e v.ticket × AllOther e vs

pub all_other : (e : CoreEvent) → ((i : ℕ) → AsksOther e i) → (vs : List OwnWrite) → AllOther e vs
all_other e f [] = tt
all_other e f (v ∷ vs) = (f v.ticket, all_other e f vs)

abbrev pub all_in_time : ℕ → List OwnWrite → Bool
all_in_time now vs = list_all (is_in_time now) vs

pub all_before : (now later : ℕ) (vs : List OwnWrite) → now ≤ later → all_in_time later vs ≡ true → all_in_time now vs ≡ true
all_before now later [] l e = refl
all_before now later (v ∷ vs) l e =
    and_both (is_in_time now v) (all_in_time now vs) (in_time_before now later v l (and_first (is_in_time later v) (all_in_time later vs) e)) (all_before now later vs l (and_second (is_in_time later v) (all_in_time later vs) e))

pub all_front : (now : ℕ) (vs : List OwnWrite) (v : OwnWrite) → all_in_time now (vs ++ v ∷ []) ≡ true → all_in_time now vs ≡ true
all_front now [] v e = refl
all_front now (w ∷ ws) v e = and_both (is_in_time now w) (all_in_time now ws) (and_first (is_in_time now w) (all_in_time now (ws ++ v ∷ [])) e) (all_front now ws v (and_second (is_in_time now w) (all_in_time now (ws ++ v ∷ [])) e))

-- ---- steps

module _ (t since : ℕ) where
  abbrev P : Asked → Type 0
  P = IsAt t since

  at_calls : Calls P
  at_calls x step o h = h

  at_moves : Moves P
  at_moves x s o plain h = h

  at_timed : (now : ℕ) (x : Asked) → P x → P (timed_out_ask now x)
  at_timed now x h = by_test P (times_out now x) (in_stage (stage.Replied verdict.TimedOut) x) x (λ e. h) (λ e. h)

  pub stays_at : (c : Core) (e : CoreEvent) (now : ℕ) → CoreOk c → AsksOther e t → AskedAt t since c.asks → AskedAt t since (stepped c e now).core.asks
  stays_at c e now ok other h = by (is_worn c) refl
    where
      fresh : (ticket word : ℕ) (q : Request) → e ≡ event.Ask ticket q word → (ticket == t) ≡ true → now ≡ since
      fresh ticket word q f g = absurd (let z : true ≡ false = sym g ∙ subst (λ (i : CoreEvent). AsksOther i t) f other in cc)

      keeps : Keeps P P (clock_work now c) e now
      keeps = record {
        turn = λ x h. h;
        moves = at_moves;
        fresh = λ ticket word q f s o w g. fresh ticket word q f g;
        tells = λ o a b f i g. record { refused = λ x r is of h. h; stale = λ x k reply is j u of h. h };
        loses = λ o f i. record { once = λ x of r h. h; fails = λ x of r h. h };
      }

      by : (b : Bool) → is_worn c ≡ b → AskedAt t since (stepped c e now).core.asks
      by true f = subst (λ (s : Stepped). AskedAt t since s.core.asks) (sym (worn_does_nothing c e now f)) h
      by false f = step_walk P P P c e now ok f at_calls at_calls (at_timed now) keeps h

  unasked_at : (xs : List Asked) → is_some (ask_at t xs) ≡ false → AskedAt t since xs
  unasked_at [] n = tt
  unasked_at (x ∷ xs) n = by (λ m. unasked_at xs m) (x.ticket == t) refl n
    where
      by : (is_some (ask_at t xs) ≡ false → AskedAt t since xs) → (b : Bool) → (x.ticket == t) ≡ b → is_some (cond b (Some x) (ask_at t xs)) ≡ false → AskedAt t since (x ∷ xs)
      by more true e m = absurd (cc)
      by more false e m = ((λ g. absurd (let z : true ≡ false = sym g ∙ e in cc)), more m)

  -- behind its own asking
  pub begins_at : (now word : ℕ) (q : Request) (d : Core) → now ≡ since → is_some (ask_at t d.asks) ≡ false → AskedAt t since (counted (on_ask now t q word d)).core.asks
  begins_at now word q d is new = counted_at (on_ask now t q word d) (ask_walk P now t q word (λ s o w g. is) d (unasked_at d.asks new))
    where
      counted_at : (s : Stepped) → AskedAt t since s.core.asks → AskedAt t since (counted s).core.asks
      counted_at s h = by s.outcome
        where
          by : (r : Result Outcome StepFault) → AskedAt t since (counted_by s.core r).core.asks
          by (Ok o) = h
          by (Err f) = h

pub all_stay : (vs : List OwnWrite) (c : Core) (e : CoreEvent) (now : ℕ) → CoreOk c → AllOther e vs → AllAskedAt vs c.asks → AllAskedAt vs (stepped c e now).core.asks
all_stay [] c e now ok other h = tt
all_stay (v ∷ vs) c e now ok other h = (stays_at v.ticket v.since c e now ok other.0 h.0, all_stay vs c e now ok other.1 h.1)

-- behind others, one more
pub all_joined : (vs : List OwnWrite) (v : OwnWrite) (xs : List Asked) → AllAskedAt vs xs → AskedAt v.ticket v.since xs → AllAskedAt (vs ++ v ∷ []) xs
all_joined [] v xs h i = (i, tt)
all_joined (w ∷ ws) v xs h i = (h.0, all_joined ws v xs h.1 i)

-- another ticket is none of theirs

other_ticket : (ticket : ℕ) (v : OwnWrite) → (ticket == v.ticket) ≡ false → (x : Write) → x.ticket ≡ v.ticket → has_ticket ticket x ≡ false
other_ticket ticket v n x i = ap (λ (j : ℕ). j == ticket) i ∙ number_turned ticket v.ticket n

or_none : (a b : Bool) → a || b ≡ false → (a ≡ false) × (b ≡ false)
or_none true b h = absurd (cc)
or_none false b h = (refl, h)

pub behind_apart : (ticket : ℕ) (vs : List OwnWrite) → list_any (λ v. ticket == v.ticket) vs ≡ false → MissesOf (behind_as vs) (has_ticket ticket)
behind_apart ticket [] n = tt
behind_apart ticket (v ∷ vs) n = let r = or_none (ticket == v.ticket) (list_any (λ v. ticket == v.ticket) vs) n in ((λ x i. other_ticket ticket v r.0 x i.ticket), behind_apart ticket vs r.1)

pub there_apart : (k : List ℕ) (ticket : ℕ) (vs : List OwnWrite) → list_any (λ v. ticket == v.ticket) vs ≡ false → ThereMisses k vs (has_ticket ticket)
there_apart k ticket [] n = tt
there_apart k ticket (v ∷ vs) n = let r = or_none (ticket == v.ticket) (list_any (λ v. ticket == v.ticket) vs) n in ((λ x i. other_ticket ticket v r.0 x i.ticket), there_apart k ticket vs r.1)

pub part_misses : (p : Write → Bool) (vs : List OwnWrite) (c : Parts vs) → MissesOf (behind_as vs) p → MissesOf (behind_as c.rest) p
part_misses p vs c n = rest_misses p c.front c.rest (subst (λ (ws : List OwnWrite). MissesOf (behind_as ws) p) c.is n)

pub all_apart : (ticket : ℕ) (v : OwnWrite) (vs : List OwnWrite) (own : Option ℕ) → list_any (λ v. ticket == v.ticket) (v ∷ vs) ≡ false → (c : Bool) → MissesOf (first_as v own c ∷ behind_as vs) (has_ticket ticket)
all_apart ticket v vs own n c = let r = or_none (ticket == v.ticket) (list_any (λ v. ticket == v.ticket) vs) n in ((λ x i. other_ticket ticket v r.0 x i.ticket), behind_apart ticket vs r.1)

-- ---- they aren't late

abbrev AllAt : List OwnWrite → Asked → Type 0
AllAt [] a = Unit {0}
AllAt (v ∷ vs) a = IsAt v.ticket v.since a × AllAt vs a

all_first : (vs : List OwnWrite) (a : Asked) (xs : List Asked) → AllAskedAt vs (a ∷ xs) → AllAt vs a
all_first [] a xs h = tt
all_first (v ∷ vs) a xs h = (h.0.0, all_first vs a xs h.1)

all_rest : (vs : List OwnWrite) (a : Asked) (xs : List Asked) → AllAskedAt vs (a ∷ xs) → AllAskedAt vs xs
all_rest [] a xs h = tt
all_rest (v ∷ vs) a xs h = (h.0.1, all_rest vs a xs h.1)

module _ (now : ℕ) where
  not_late : (since : ℕ) → nat_lt now (since + request_time) ≡ true → nat_le request_time (now - since) ≡ false
  not_late since l = grind (arith, nat_tests, l)

  abbrev IsLate : Asked → Type 0
  IsLate a = times_out now a && is_writes a.stage ≡ true

  missed : (v : OwnWrite) → is_in_time now v ≡ true → (a : Asked) → IsAt v.ticket v.since a → IsLate a → (x : Write) → x.ticket ≡ v.ticket → has_ticket a.ticket x ≡ false
  missed v early a h late x i = by (x.ticket == a.ticket) refl
    where
      by : (b : Bool) → (x.ticket == a.ticket) ≡ b → b ≡ false
      by true f =
          let one : a.ticket ≡ v.ticket = sym (same_number x.ticket a.ticket f) ∙ i in
          let at : a.asked ≡ v.since = h (ap (λ (j : ℕ). j == v.ticket) one ∙ number_itself v.ticket) in
          absurd
          (let z : true ≡ false = sym (and_second (not (is_replied a.stage)) (nat_le request_time (now - a.asked)) (and_first (times_out now a) (is_writes a.stage) late)) ∙ ap (λ (j : ℕ). nat_le request_time (now - j)) at ∙ not_late v.since early in cc)
      by false f = refl

  behind_missed : (vs : List OwnWrite) → all_in_time now vs ≡ true → (a : Asked) → AllAt vs a → IsLate a → MissesOf (behind_as vs) (has_ticket a.ticket)
  behind_missed [] e a h late = tt
  behind_missed (v ∷ vs) e a h late =
      ((λ x i. missed v (and_first (is_in_time now v) (all_in_time now vs) e) a h.0 late x i.ticket), behind_missed vs (and_second (is_in_time now v) (all_in_time now vs) e) a h.1 late)

  there_missed : (k : List ℕ) (vs : List OwnWrite) → all_in_time now vs ≡ true → (a : Asked) → AllAt vs a → IsLate a → ThereMisses k vs (has_ticket a.ticket)
  there_missed k [] e a h late = tt
  there_missed k (v ∷ vs) e a h late =
      ((λ x i. missed v (and_first (is_in_time now v) (all_in_time now vs) e) a h.0 late x i.ticket), there_missed k vs (and_second (is_in_time now v) (all_in_time now vs) e) a h.1 late)

  each_spared : (M : Mode) (vs : List OwnWrite) → ((a : Asked) → AllAt vs a → IsLate a → Misses M (has_ticket a.ticket)) → (xs : List Asked) → AllAskedAt vs xs → EachOf (Spared M (times_out now)) xs
  each_spared M vs f [] h = tt
  each_spared M vs f (a ∷ xs) h = ((λ late. f a (all_first vs a xs h) late), each_spared M vs f xs (all_rest vs a xs h))

  passed_asks : (vs : List OwnWrite) (c : Core) → AllAskedAt vs c.asks → AllAskedAt vs (deadline_passed now (begun c)).asks
  passed_asks [] c h = tt
  passed_asks (v ∷ vs) c h = (
    by_test (λ (d : Core). AskedAt v.ticket v.since d.asks) (seat_is_over c.seat now) (without_session now (begun c)) (begun c) (λ f. over_walk (IsAt v.ticket v.since) (λ x s o plain u. u) now (begun c) h.0) (λ f. h.0),
    passed_asks vs c h.1,
  )

  pub on_time : (k : List ℕ) (n : ℕ) (v : OwnWrite) (vs : List OwnWrite) (own : Option ℕ) (alone : AllAlone k (behind_as (v ∷ vs))) (e : Entry) → all_in_time now (v ∷ vs) ≡ true → (c : Core) → AllAskedAt (v ∷ vs) c.asks → cores.OnTime (writes_own k n v vs own alone e) now c
  on_time k n v vs own alone e early c h =
      each_spared (writes_own k n v vs own alone e) (v ∷ vs)
      (λ a i late.
      ((λ z. ((λ x j. missed v (and_first (is_in_time now v) (all_in_time now vs) early) a i.0 late x j.ticket), behind_missed vs (and_second (is_in_time now v) (all_in_time now vs) early) a i.1 late)), tt)) (deadline_passed now (begun c)).asks
      (passed_asks (v ∷ vs) c h)

  pub waits_on_time : (k : List ℕ) (m n : ℕ) (vs : List OwnWrite) (alone : AllAlone k (behind_as vs)) → all_in_time now vs ≡ true → (c : Core) → AllAskedAt vs c.asks → cores.OnTime (sending_as k m n vs alone) now c
  waits_on_time k m n vs alone early c h = each_spared (sending_as k m n vs alone) vs (λ a i late. ((λ z. behind_missed vs early a i late), tt)) (deadline_passed now (begun c)).asks (passed_asks vs c h)

  pub asking_on_time : (k : List ℕ) (t : ℕ) (vs : List OwnWrite) (alone : AllAlone k (behind_as vs)) → all_in_time now vs ≡ true → (c : Core) → AllAskedAt vs c.asks → cores.OnTime (asking k t vs alone) now c
  asking_on_time k t vs alone early c h =
      each_spared (asking k t vs alone) vs (λ a i late. ((λ z. part_misses (has_ticket a.ticket) vs z (behind_missed vs early a i late)), tt)) (deadline_passed now (begun c)).asks (passed_asks vs c h)

  pub present_on_time : (k : List ℕ) (vs : List OwnWrite) → all_in_time now vs ≡ true → (c : Core) → AllAskedAt vs c.asks → cores.OnTime (present k vs) now c
  present_on_time k vs early c h = each_spared (present k vs) vs (λ a i late. ((λ z. tt), there_missed k vs early a i late)) (deadline_passed now (begun c)).asks (passed_asks vs c h)
