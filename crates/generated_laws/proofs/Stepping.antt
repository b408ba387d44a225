-- How each event of a generated script leaves a proxy that has nothing to do by its clock, no client streams, and few requests.
use Rattle.std.proofs.Common.{◌≡◌, ℕ, ◌+◌, ◌-◌, ◌≤◌, ◌<◌, ◌^◌, nat_le, true, false, not, cond, ◌&&◌, ◌||◌, List, [], ◌∷◌, ◌++◌, length, map, Option, None, Some, Ok, refl, sym, ◌∙◌, ap, subst, arith}
use Rattle.std.proofs.lemmas.Bool.Decides.{nat_tests}
use Rattle.std.specs.List.{list_all}
use Rattle.etcd_types.specs.declared.request.Request.{Request}
use Rattle.read_model.specs.declared.asked.Asked.{Asked}
use Rattle.watch_model.specs.State.{Broadcasts}
use Rattle.core_model.specs.declared.event.CoreEvent.{CoreEvent}
use Rattle.core_model.specs.declared.event.CoreEvent.TheVariants as event
use Rattle.core_model.specs.declared.event.Outcome.{Outcome}
use Rattle.core_model.specs.declared.event.Outcome.TheVariants as outcome
use Rattle.core_model.specs.declared.event.StepFault.TheVariants as fault
use Rattle.core_model.specs.declared.out_call.OutCall.{OutCall}
use Rattle.core_model.specs.declared.settings.Settings.{Settings}
use Rattle.core_model.specs.ClockWork.{timed_out_ask, requests_timed_out, begun, clock_work}
use Rattle.core_model.specs.ClockWork.{request_time, is_replied}
use Rattle.etcd_types.proofs.Bools.{and_false}
use Rattle.core_model.specs.LeasingStream.{leasing_ticked}
use Rattle.core_model.specs.Lookups.{leases}
use Rattle.core_model.specs.Sessions.{seat_is_over, without_session, deadline_passed, seat_ticked}
use Rattle.core_model.specs.State.{Seat, Opening, Core}
use Rattle.core_model.specs.Step.{ticked, on_tick, happened, last_number, is_worn, stepped}
use Rattle.core_model.specs.Stepped.{gives, faults, counted, counted_by}
use Rattle.generated_laws.specs.OnTime.{is_in_time, IsOnTime}
use Rattle.generated_laws.proofs.Asking.{Joins, replied, stands, WasAsked, IsNoWatch, ask_joins}
use Rattle.generated_laws.proofs.Ending.{Lives, Leaves}
use Rattle.generated_laws.proofs.Requests.{AllGo, all_itself, all_on, all_mapped, released_all, times_go, as_many, in_time_all, all_timed, few_on, no_such_ticket, few_pushed, few_more}
use Rattle.core_laws.proofs.Steps.Lists.{all_pushed}
use Rattle.core_laws.proofs.Steps.Comes.{by_test, passed_goes}
use Rattle.generated_laws.specs.Proxies.{AreFew, IsFresh, Rests, Stands}

-- ---- what is to hold of a proxy

leaves_rests : (now next most : ℕ) (calls : List OutCall) (c d : Core) → Leaves now c d → Rests next most calls c → Rests next most calls d
leaves_rests now next most calls c d l h = record {
  asks = few_on next c.asks d.asks l.asks h.asks;
  out = l.out ∙ h.out;
  streams = ap (λ (b : Broadcasts). b.streams) l.watches ∙ h.streams;
  watches = ap (λ (b : Broadcasts). b.watches) l.watches ∙ h.watches;
  steps = (let s = l.steps in let n = as_many c.asks d.asks l.asks in let k = h.steps in omega (arith, s, n, k));
  given = (let g = ap (λ (b : Broadcasts). b.given) l.watches in let k = h.given in omega (arith, g, k));
  namespace = ap (λ (s : Settings). s.namespace) l.settings ∙ h.namespace;
  fresh = subst IsFresh (sym l.leasing) h.fresh;
}

pub more_rests : (next most more : ℕ) (calls : List OutCall) (c : Core) → most ≤ more → Rests next most calls c → Rests next more calls c
more_rests next most more calls c e h = record {
  asks = h.asks;
  out = h.out;
  streams = h.streams;
  watches = h.watches;
  steps = (let k = h.steps in omega (arith, k, e));
  given = (let k = h.given in omega (arith, k, e));
  namespace = h.namespace;
  fresh = h.fresh;
}

pub more_stands : (now next most more : ℕ) (calls : List OutCall) (c : Core) → most ≤ more → Stands now next most calls c → Stands now next more calls c
more_stands now next most more calls c e h = record { rests = more_rests next most more calls c e h.rests; on_time = h.on_time }

-- ---- the clock's work

begun_rests : (next most : ℕ) (calls : List OutCall) (c : Core) → Rests next most calls c → Rests next most calls (begun c)
begun_rests next most calls c h = record { asks = h.asks; out = h.out; streams = h.streams; watches = h.watches; steps = h.steps; given = h.given; namespace = h.namespace; fresh = h.fresh }

deadline_leaves : (now : ℕ) (c : Core) → Leaves now c (deadline_passed now c)
deadline_leaves now c =
    by_test (Leaves now c) (seat_is_over c.seat now) (without_session now c) c
    (λ t. record { settings = refl; leasing = refl; watches = refl; out = refl; steps = refl; asks = released_all false _ _ c.asks; seat = λ h. refl })
    (λ t. record { settings = refl; leasing = refl; watches = refl; out = refl; steps = refl; asks = all_itself c.asks; seat = λ h. h })

timed_goes : (now : ℕ) (c : Core) → AllGo c.asks (requests_timed_out now c).asks
timed_goes now c =
    let xs = map (timed_out_ask now) c.asks in
    all_on c.asks xs (requests_timed_out now c).asks (all_mapped (timed_out_ask now) (times_go now) c.asks) (released_all false _ _ xs)

pub clock_leaves : (now : ℕ) (c : Core) → Leaves now (begun c) (clock_work now c)
unfolding clock_work
clock_leaves now c =
    let d = deadline_passed now (begun c) in
    let l = deadline_leaves now (begun c) in
    record {
      settings = l.settings;
      leasing = l.leasing;
      watches = l.watches;
      out = l.out;
      steps = l.steps;
      asks = all_on c.asks d.asks (requests_timed_out now d).asks l.asks (timed_goes now d);
      seat = l.seat;
    }

pub clock_on_time : (now : ℕ) (c : Core) → IsOnTime now (clock_work now c)
unfolding clock_work
clock_on_time now c =
    let d = deadline_passed now (begun c) in
    let xs = map (timed_out_ask now) d.asks in
    record {
      session = by_test (λ (e : Core). seat_is_over e.seat now ≡ false) (seat_is_over c.seat now) (without_session now (begun c)) (begun c) (λ t. refl) (λ t. t);
      asks = in_time_all now xs (requests_timed_out now d).asks (released_all false _ _ xs) (all_timed now d.asks);
      writes = passed_goes _ [] _ _ _;
    }

pub clock_stands : (now next most : ℕ) (calls : List OutCall) (c : Core) → Rests next most calls c → Stands now next most calls (clock_work now c)
clock_stands now next most calls c h = record {
  rests = leaves_rests now next most calls (begun c) (clock_work now c) (clock_leaves now c) (begun_rests next most calls c h);
  on_time = clock_on_time now c;
}

-- ---- a step is counted

-- fewer steps than a proxy may make
abbrev pub IsSmall : ℕ → Type 0
IsSmall most = most < 2 ^ 62

unworn : (steps given most : ℕ) → IsSmall most → steps ≤ most → given ≤ most → (nat_le last_number steps || nat_le last_number given) ≡ false
unworn steps given most s h k = grind (arith, nat_tests, s, h, k)

pub not_worn : (next most : ℕ) (calls : List OutCall) (c : Core) → IsSmall most → Rests next most calls c → is_worn c ≡ false
not_worn next most calls c s h = unworn c.steps c.watches.given most s (let k = h.steps in omega (arith, k)) h.given

pub stepped_is : (c : Core) (e : CoreEvent) (now : ℕ) (o : Outcome) → is_worn c ≡ false → (happened now e (clock_work now c)).outcome ≡ Ok o
    → let s = happened now e (clock_work now c) in stepped c e now ≡ gives (record s.core { steps = s.core.steps + 1 }) o
unfolding stepped
stepped_is c e now o n h =
    let s = happened now e (clock_work now c) in
    ap (λ b. cond b (faults c fault.Worn) (counted s)) n ∙ ap (counted_by s.core) h

pub counted_stands : (now next most : ℕ) (calls : List OutCall) (c : Core) → Stands now next most calls c → Stands now next (most + 1) calls (record c { steps = c.steps + 1 })
counted_stands now next most calls c h = record {
  rests = record {
    asks = h.rests.asks;
    out = h.rests.out;
    streams = h.rests.streams;
    watches = h.rests.watches;
    steps = (let k = h.rests.steps in omega (arith, k));
    given = (let k = h.rests.given in omega (arith, k));
    namespace = h.rests.namespace;
    fresh = h.rests.fresh;
  };
  on_time = record { session = h.on_time.session; asks = h.on_time.asks; writes = h.on_time.writes };
}

-- the step gave this outcome and left this state
pub record Step (now next most : ℕ) (calls : List OutCall) (c : Core) (e : CoreEvent) (d : Core) (o : Outcome) : Type 0 where
  pub step : stepped c e now ≡ gives d o
  pub stands : Stands now next most calls d

pub step_of : (now next most : ℕ) (calls : List OutCall) (c : Core) (e : CoreEvent) (o : Outcome) → is_worn c ≡ false → (happened now e (clock_work now c)).outcome ≡ Ok o → Stands now next most calls (happened now e (clock_work now c)).core
    → Step now next (most + 1) calls c e (record (happened now e (clock_work now c)).core { steps = (happened now e (clock_work now c)).core.steps + 1 }) o
step_of now next most calls c e o n h k = record { step = stepped_is c e now o n h; stands = counted_stands now next most calls (happened now e (clock_work now c)).core k }

-- ---- a tick

-- the leasing stream stays, or there is one where there was none
pub data Opens (c d : Core) : Type 0 where
  kept : d.leasing ≡ c.leasing → Opens c d
  fresh : c.leasing ≡ None → (o : Opening) → d.leasing ≡ Some o → Opens c d

pub record Ticked (now next most : ℕ) (c : Core) (word : ℕ) : Type 0 where
  pub core : Core
  pub step : Step now next most [] c (event.Tick word) core outcome.Noted
  pub leasing : Opens c core

ticked_lives : (word ttl step now : ℕ) (s : Option Seat) → Lives now s → Lives now (Some (seat_ticked word ttl step now s))
ticked_lives word ttl step now None h = refl
ticked_lives word ttl step now (Some s) h = h

-- before it is counted
pub record Ticks (now next most : ℕ) (c d : Core) : Type 0 where
  pub stands : Stands now next (most + 1) [] d
  pub leasing : Opens c d

ticks : (now word next most : ℕ) (c : Core) → Stands now next most [] c → Ticks now next most c (cond (leases c) (ticked now word c) c)
ticks now word next most c h =
    by_test (Ticks now next most c) (leases c) (ticked now word c) c (λ t. by c.leasing refl)
    (λ t. record { stands = more_stands now next most (most + 1) [] c (omega (arith)) h; leasing = kept refl })
  where
    seated : Core
    seated = record c { seat = Some (seat_ticked word c.settings.ttl c.own.waits.step now c.seat) }

    on_time : IsOnTime now seated
    on_time = record { session = ticked_lives word c.settings.ttl c.own.waits.step now c.seat h.on_time.session; asks = h.on_time.asks; writes = h.on_time.writes }

    by : (o : Option Opening) → c.leasing ≡ o → Ticks now next most c (leasing_ticked o seated)
    by None e = record {
      stands = record {
        rests = record {
          asks = h.rests.asks;
          out = h.rests.out;
          streams = h.rests.streams;
          watches = h.rests.watches;
          steps = (let k = h.rests.steps in omega (arith, k));
          given = (let k = h.rests.given in omega (arith, k));
          namespace = h.rests.namespace;
          fresh = λ t. refl;
        };
        on_time = record { session = on_time.session; asks = on_time.asks; writes = on_time.writes };
      };
      leasing = fresh e _ refl;
    }
    by (Some o) e = record {
      stands = record {
        rests = record {
          asks = h.rests.asks;
          out = h.rests.out;
          streams = h.rests.streams;
          watches = h.rests.watches;
          steps = (let k = h.rests.steps in omega (arith, k));
          given = (let k = h.rests.given in omega (arith, k));
          namespace = h.rests.namespace;
          fresh = h.rests.fresh;
        };
        on_time = on_time;
      };
      leasing = kept refl;
    }

on_open : (c d e : Core) → d.leasing ≡ c.leasing → Opens d e → Opens c e
on_open c d e l (kept s) = kept (s ∙ l)
on_open c d e l (fresh n o s) = fresh (sym l ∙ n) o s

pub tick_step : (now word next most : ℕ) (c : Core) → IsSmall most → Rests next most [] c → Ticked now next (most + 2) c word
unfolding on_tick
tick_step now word next most c s h =
    let d = clock_work now c in
    let t = ticks now word next most d (clock_stands now next most [] c h) in
    let e = cond (leases d) (ticked now word d) d in
    let k = step_of now next (most + 1) [] c (event.Tick word) outcome.Noted (not_worn next most [] c s h) refl t.stands in
    record {
      core = record e { steps = e.steps + 1 };
      step = record { step = k.step; stands = more_stands now next (most + 1 + 1) (most + 2) [] _ (omega (arith)) k.stands };
      leasing = counted_opens e (on_open c d e (clock_leaves now c).leasing t.leasing);
    }
  where
    counted_opens : (e : Core) → Opens c e → Opens c (record e { steps = e.steps + 1 })
    counted_opens e (kept l) = kept l
    counted_opens e (fresh n o l) = fresh n o l

-- ---- a request is asked

pub record Joined (now next most : ℕ) (c : Core) (q : Request) (word : ℕ) : Type 0 where
  pub core : Core
  pub given : Outcome
  pub step : Step now (next + 1) most [] c (event.Ask next q word) core given
  pub leasing : core.leasing ≡ c.leasing

fresh_in_time : (now : ℕ) (y : Asked) → y.asked ≡ now → is_in_time now y ≡ true
fresh_in_time now y e = ap (λ (n : ℕ). not (not (is_replied y.stage) && nat_le request_time (now - n))) e ∙ ap (λ b. not (not (is_replied y.stage) && b)) (no_time now) ∙ ap not (and_false (not (is_replied y.stage)))
  where
    no_time : (n : ℕ) → nat_le request_time (n - n) ≡ false
    no_time n = grind (arith, nat_tests)

pushed_many : (xs : List Asked) (y : Asked) → length (xs ++ y ∷ []) ≡ length xs + 1
pushed_many [] y = refl
pushed_many (x ∷ xs) y = let e = pushed_many xs y in grind (arith, e)

pub ask_step : (now next most : ℕ) (q : Request) (word : ℕ) (c : Core) → IsSmall most → IsNoWatch q → Rests next most [] c → Joined now next (most + 2) c q word
ask_step now next most q word c s k h =
    let d = clock_work now c in
    let st = clock_stands now next most [] c h in
    let a = ask_joins now next q word d k (no_such_ticket next d.asks st.rests.asks.below) st.rests.watches st.on_time.writes in
    let e = happened now (event.Ask next q word) d in
    let i = step_of now (next + 1) (most + 1) [] c (event.Ask next q word) a.given (not_worn next most [] c s h) a.outcome (left d e.core st a a.asks) in
    record {
      core = record e.core { steps = e.core.steps + 1 };
      given = a.given;
      step = record { step = i.step; stands = more_stands now (next + 1) (most + 1 + 1) (most + 2) [] _ (omega (arith)) i.stands };
      leasing = a.leasing ∙ (clock_leaves now c).leasing;
    }
  where
    left : (d e : Core) → Stands now next most [] d → WasAsked next now d (happened now (event.Ask next q word) d) → Joins next now d.asks (happened now (event.Ask next q word) d).core.asks → Stands now (next + 1) (most + 1) [] (happened now (event.Ask next q word) d).core
    left d e st a (replied same) = record {
      rests = record {
        asks = subst (AreFew (next + 1)) (sym same) (few_more next d.asks st.rests.asks);
        out = a.out ∙ st.rests.out;
        streams = ap (λ (b : Broadcasts). b.streams) a.watches ∙ st.rests.streams;
        watches = ap (λ (b : Broadcasts). b.watches) a.watches ∙ st.rests.watches;
        steps = (let n = ap length same in let i = a.steps in let j = st.rests.steps in omega (arith, n, i, j));
        given = (let g = ap (λ (b : Broadcasts). b.given) a.watches in let j = st.rests.given in omega (arith, g, j));
        namespace = ap (λ (x : Settings). x.namespace) a.settings ∙ st.rests.namespace;
        fresh = subst IsFresh (sym a.leasing) st.rests.fresh;
      };
      on_time = record {
        session = subst (Lives now) (sym a.seat) st.on_time.session;
        asks = subst (λ (xs : List Asked). list_all (is_in_time now) xs ≡ true) (sym same) st.on_time.asks;
        writes = a.writes;
      };
    }
    left d e st a (stands y t n same) = record {
      rests = record {
        asks = subst (AreFew (next + 1)) (sym same) (few_pushed next d.asks y t st.rests.asks);
        out = a.out ∙ st.rests.out;
        streams = ap (λ (b : Broadcasts). b.streams) a.watches ∙ st.rests.streams;
        watches = ap (λ (b : Broadcasts). b.watches) a.watches ∙ st.rests.watches;
        steps = (let n = ap length same in let m = pushed_many d.asks y in let i = a.steps in let j = st.rests.steps in omega (arith, n, m, i, j));
        given = (let g = ap (λ (b : Broadcasts). b.given) a.watches in let j = st.rests.given in omega (arith, g, j));
        namespace = ap (λ (x : Settings). x.namespace) a.settings ∙ st.rests.namespace;
        fresh = subst IsFresh (sym a.leasing) st.rests.fresh;
      };
      on_time = record {
        session = subst (Lives now) (sym a.seat) st.on_time.session;
        asks = subst (λ (xs : List Asked). list_all (is_in_time now) xs ≡ true) (sym same) (all_pushed (is_in_time now) y d.asks st.on_time.asks (fresh_in_time now y n));
        writes = a.writes;
      };
    }
