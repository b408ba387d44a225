-- What a step makes of the requests: each keeps its ticket and the reading at which it was asked, and what was replied stays replied.
use Rattle.std.proofs.Common.{◌≡◌, ℕ, ◌+◌, ◌-◌, ◌≤◌, ◌==◌, nat_le, nat_lt, Bool, true, false, not, cond, ◌&&◌, List, [], ◌∷◌, ◌++◌, length, map, filter, None, Some, refl, sym, ◌∙◌, ap, subst, arith}
use Rattle.std.proofs.lemmas.Bool.Decides.{nat_tests}
use Rattle.std.specs.List.{list_all}
use Rattle.etcd_types.proofs.Bools.{and_first, and_second, and_both, and_false, or_none, not_true, false_not}
use Rattle.wait_model.specs.declared.sending.Sending.TheVariants as sending
use Rattle.wait_model.specs.declared.wait.Settled.{Settled}
use Rattle.wait_model.specs.declared.wait.Settled.TheVariants as settled
use Rattle.read_model.specs.declared.asked.Asked.{Asked}
use Rattle.read_model.specs.declared.asked.Stage.{Stage}
use Rattle.read_model.specs.declared.asked.Stage.TheVariants as stage
use Rattle.read_model.specs.declared.asked.Verdict.{Verdict}
use Rattle.read_model.specs.declared.asked.Verdict.TheVariants as verdict
use Rattle.read_model.specs.Acquires.{is_acquiring, acquires_at, told, lost_once, told_lost}
use Rattle.read_model.specs.PlainRead.{in_stage, called, decided_ask}
use Rattle.read_model.specs.Release.{stands, ask_stands, released_ask, released_ground, released_from}
use Rattle.read_model.specs.State.{Moment, Ground}
use Rattle.read_model.specs.WriteAnswers.{settled_ask}
use Rattle.core_model.specs.ClockWork.{request_time, is_replied, times_out, timed_out_ask}
use Rattle.core_model.specs.Fits.{has_number, once, ask_tickets}
use Rattle.core_model.specs.Groups.{keeps, is_out_stage, is_due_stage, waits_next, group_sent, group_ended}
use Rattle.core_model.specs.Lookups.{has_ticket, ask_at, without_ask, stage_calls, calls_as}
use Rattle.generated_laws.specs.OnTime.{is_in_time}
use Rattle.core_laws.proofs.Steps.Comes.{by_test}
use Rattle.core_laws.proofs.Steps.Lists.{all_kept, all_pushed, once_filtered, once_pushed, map_pushed}
use Rattle.generated_laws.specs.Proxies.{AreFew, below}

pub record Goes (x y : Asked) : Type 0 where
  pub ticket : y.ticket ≡ x.ticket
  pub asked : y.asked ≡ x.asked
  pub replied : is_replied x.stage ≡ true → is_replied y.stage ≡ true

pub goes_itself : (x : Asked) → Goes x x
goes_itself x = record { ticket = refl; asked = refl; replied = λ h. h }

pub goes_on : (x y z : Asked) → Goes x y → Goes y z → Goes x z
goes_on x y z g h = record { ticket = h.ticket ∙ g.ticket; asked = h.asked ∙ g.asked; replied = λ t. h.replied (g.replied t) }

goes_if : (b : Bool) (x y : Asked) → (b ≡ true → Goes x y) → Goes x (cond b y x)
goes_if b x y h = by_test (Goes x) b y x h (λ t. goes_itself x)

-- one that wasn't replied
open_goes : (x y : Asked) → is_replied x.stage ≡ false → y.ticket ≡ x.ticket → y.asked ≡ x.asked → Goes x y
open_goes x y n t a = record { ticket = t; asked = a; replied = λ h. absurd (let e : true ≡ false = sym h ∙ n in cc) }

abbrev pub AllGo : List Asked → List Asked → Type 0
AllGo [] [] = Unit {0}
AllGo [] (y ∷ ys) = ⊥
AllGo (x ∷ xs) [] = ⊥
AllGo (x ∷ xs) (y ∷ ys) = Goes x y × AllGo xs ys

pub all_itself : (xs : List Asked) → AllGo xs xs
all_itself [] = tt
all_itself (x ∷ xs) = (goes_itself x, all_itself xs)

pub all_on : (xs ys zs : List Asked) → AllGo xs ys → AllGo ys zs → AllGo xs zs
all_on [] [] zs g h = h
all_on [] (y ∷ ys) zs g h = absurd g
all_on (x ∷ xs) [] zs g h = absurd g
all_on (x ∷ xs) (y ∷ ys) [] g h = absurd h
all_on (x ∷ xs) (y ∷ ys) (z ∷ zs) g h = (goes_on x y z g.0 h.0, all_on xs ys zs g.1 h.1)

pub all_mapped : (f : Asked → Asked) → ((x : Asked) → Goes x (f x)) → (xs : List Asked) → AllGo xs (map f xs)
all_mapped f g [] = tt
all_mapped f g (x ∷ xs) = (g x, all_mapped f g xs)

-- ---- reads

acquiring_open : (s : Stage) → is_acquiring s ≡ true → is_replied s ≡ false
acquiring_open stage.Acquiring h = refl
acquiring_open stage.Joined h = refl
acquiring_open stage.Behind h = refl
acquiring_open stage.Writes h = refl
acquiring_open (stage.Calling s) h = refl
acquiring_open (stage.Grouped s) h = refl
acquiring_open (stage.Replied v) h = absurd (cc)

acquires_open : (k : List ℕ) (a : Asked) → acquires_at k a ≡ true → is_replied a.stage ≡ false
acquires_open k a h = acquiring_open a.stage (and_first (is_acquiring a.stage) _ h)

pub told_goes : (k : List ℕ) (s : Stage) (a : Asked) → Goes a (told k s a)
told_goes k s a = goes_if (acquires_at k a) a (in_stage s a) (λ t. open_goes a (in_stage s a) (acquires_open k a t) refl refl)

pub told_lost_goes : (members step : ℕ) (k : List ℕ) (a : Asked) → Goes a (told_lost members step k a)
told_lost_goes members step k a = goes_if (acquires_at k a) a (lost_once members step a) (λ t. open_goes a (lost_once members step a) (acquires_open k a t) refl refl)

replied_stands : (g : Ground) (a : Asked) → is_replied a.stage ≡ true → ask_stands g a ≡ true
replied_stands g a h = by a.stage refl h
  where
    by : (s : Stage) → a.stage ≡ s → is_replied s ≡ true → ask_stands g a ≡ true
    by (stage.Replied v) e h = ap (stands a.ticket _ _) e
    by (stage.Grouped s) e h = absurd (cc)
    by (stage.Calling s) e h = absurd (cc)
    by stage.Acquiring e h = absurd (cc)
    by stage.Joined e h = absurd (cc)
    by stage.Behind e h = absurd (cc)
    by stage.Writes e h = absurd (cc)

released_goes : (again : Bool) (m : Moment) (g : Ground) (a : Asked) → Goes a (released_ask again m g a)
released_goes again m g a =
    by_test (Goes a) (ask_stands g a) a (cond again (decided_ask m g a) (in_stage (called g.own.waits.step) a)) (λ t. goes_itself a)
    (λ t. by_test (Goes a) again (decided_ask m g a) (in_stage (called g.own.waits.step) a) (λ u. moved t (decided_ask m g a) refl refl) (λ u. moved t (in_stage (called g.own.waits.step) a) refl refl))
  where
    moved : ask_stands g a ≡ false → (y : Asked) → y.ticket ≡ a.ticket → y.asked ≡ a.asked → Goes a y
    moved n y t b = record { ticket = t; asked = b; replied = λ h. absurd (let e : true ≡ false = sym (replied_stands g a h) ∙ n in cc) }

pub released_all : (again : Bool) (m : Moment) (g : Ground) (xs : List Asked) → AllGo xs (released_from again m g xs).asks
unfolding released_from
released_all again m g [] = tt
released_all again m g (x ∷ xs) = (released_goes again m g x, released_all again m (released_ground again m g x) xs)

-- ---- calls that end, and time that passes

pub times_go : (now : ℕ) (a : Asked) → Goes a (timed_out_ask now a)
times_go now a = goes_if (times_out now a) a (in_stage (stage.Replied verdict.TimedOut) a) (λ t. record { ticket = refl; asked = refl; replied = λ h. refl })

pub settled_goes : (s : Settled) (x : Asked) → Goes x (settled_ask s x)
settled_goes settled.Nothing x = goes_itself x
settled_goes (settled.Reply ticket a) x = goes_if (x.ticket == ticket) x (in_stage (stage.Replied (verdict.Said a)) x) (λ t. record { ticket = refl; asked = refl; replied = λ h. refl })
settled_goes (settled.Failed ticket) x = goes_if (x.ticket == ticket) x (in_stage (stage.Replied verdict.Lost) x) (λ t. record { ticket = refl; asked = refl; replied = λ h. refl })

calls_open : (n : ℕ) (s : Stage) → stage_calls n s ≡ true → is_replied s ≡ false
calls_open n (stage.Calling s) h = refl
calls_open n stage.Acquiring h = refl
calls_open n stage.Joined h = refl
calls_open n stage.Behind h = refl
calls_open n stage.Writes h = refl
calls_open n (stage.Grouped s) h = refl
calls_open n (stage.Replied v) h = absurd (cc)

-- which keeps its ticket and the time of asking
pub record Keeps (f : Asked → Asked) : Type 0 where
  pub ticket : (x : Asked) → (f x).ticket ≡ x.ticket
  pub asked : (x : Asked) → (f x).asked ≡ x.asked

pub caller_goes : (n : ℕ) (f : Asked → Asked) → Keeps f → (x : Asked) → Goes x (cond (calls_as n x) (f x) x)
caller_goes n f k x = goes_if (calls_as n x) x (f x) (λ t. open_goes x (f x) (calls_open n x.stage t) (k.ticket x) (k.asked x))

waits_open : (s : Stage) → waits_next s ≡ true → is_replied s ≡ false
waits_open (stage.Grouped s) h = refl
waits_open (stage.Calling s) h = refl
waits_open stage.Acquiring h = refl
waits_open stage.Joined h = refl
waits_open stage.Behind h = refl
waits_open stage.Writes h = refl
waits_open (stage.Replied v) h = absurd (cc)

pub group_goes : (step call lease : ℕ) (v : Verdict) (x : Asked) → Goes x (group_ended step call lease v x)
group_goes step call lease v x =
    by_test (Goes x) (is_out_stage call x.stage) (in_stage (stage.Replied v) x) (cond (keeps lease x.request && waits_next x.stage) (in_stage (stage.Grouped (Some (sending.Due step))) x) x)
    (λ t. record { ticket = refl; asked = refl; replied = λ h. refl })
    (λ t. goes_if (keeps lease x.request && waits_next x.stage) x (in_stage (stage.Grouped (Some (sending.Due step))) x) (λ w. open_goes x _ (waits_open x.stage (and_second (keeps lease x.request) (waits_next x.stage) w)) refl refl))

due_open : (s : Stage) → is_due_stage s ≡ true → is_replied s ≡ false
due_open (stage.Grouped s) h = refl
due_open (stage.Calling s) h = refl
due_open stage.Acquiring h = refl
due_open stage.Joined h = refl
due_open stage.Behind h = refl
due_open stage.Writes h = refl
due_open (stage.Replied v) h = absurd (cc)

pub group_sent_goes : (call lease : ℕ) (x : Asked) → Goes x (group_sent call lease x)
group_sent_goes call lease x =
    goes_if (keeps lease x.request && is_due_stage x.stage) x (in_stage (stage.Grouped (Some (sending.Out call))) x) (λ t. open_goes x _ (due_open x.stage (and_second (keeps lease x.request) (is_due_stage x.stage) t)) refl refl)

-- ---- what stays of a list of them

pub tickets_stay : (xs ys : List Asked) → AllGo xs ys → ask_tickets ys ≡ ask_tickets xs
tickets_stay [] [] g = refl
tickets_stay [] (y ∷ ys) g = absurd g
tickets_stay (x ∷ xs) [] g = absurd g
tickets_stay (x ∷ xs) (y ∷ ys) g = λ i. g.0.ticket i ∷ tickets_stay xs ys g.1 i

pub as_many : (xs ys : List Asked) → AllGo xs ys → length ys ≡ length xs
as_many [] [] g = refl
as_many [] (y ∷ ys) g = absurd g
as_many (x ∷ xs) [] g = absurd g
as_many (x ∷ xs) (y ∷ ys) g = let e = as_many xs ys g.1 in grind (arith, e)

in_time_goes : (now : ℕ) (x y : Asked) → Goes x y → is_in_time now x ≡ true → is_in_time now y ≡ true
in_time_goes now x y g h = by (is_replied x.stage) refl
  where
    late : Asked → Bool
    late a = nat_le request_time (now - a.asked)

    by : (b : Bool) → is_replied x.stage ≡ b → not (not (is_replied y.stage) && late y) ≡ true
    by true e = ap (λ b. not (not b && late y)) (g.replied e)
    by false e =
        let n : late x ≡ false = sym (ap (λ b. not b && late x) e) ∙ not_true (times_out now x) h in
        let m : late y ≡ false = ap (λ (i : ℕ). nat_le request_time (now - i)) g.asked ∙ n in
        ap (λ b. not (not (is_replied y.stage) && b)) m ∙ ap not (and_false (not (is_replied y.stage)))

pub in_time_all : (now : ℕ) (xs ys : List Asked) → AllGo xs ys → list_all (is_in_time now) xs ≡ true → list_all (is_in_time now) ys ≡ true
in_time_all now [] [] g h = refl
in_time_all now [] (y ∷ ys) g h = absurd g
in_time_all now (x ∷ xs) [] g h = absurd g
in_time_all now (x ∷ xs) (y ∷ ys) g h =
    and_both (is_in_time now y) (list_all (is_in_time now) ys) (in_time_goes now x y g.0 (and_first (is_in_time now x) (list_all (is_in_time now) xs) h)) (in_time_all now xs ys g.1 (and_second (is_in_time now x) (list_all (is_in_time now) xs) h))

-- the clock's work leaves none that waits for longer
timed_in_time : (now : ℕ) (a : Asked) → is_in_time now (timed_out_ask now a) ≡ true
timed_in_time now a = by_test (λ (x : Asked). is_in_time now x ≡ true) (times_out now a) (in_stage (stage.Replied verdict.TimedOut) a) a (λ t. refl) (λ t. false_not (times_out now a) t)

pub all_timed : (now : ℕ) (xs : List Asked) → list_all (is_in_time now) (map (timed_out_ask now) xs) ≡ true
all_timed now [] = refl
all_timed now (x ∷ xs) = and_both (is_in_time now (timed_out_ask now x)) (list_all (is_in_time now) (map (timed_out_ask now) xs)) (timed_in_time now x) (all_timed now xs)

-- ---- one is taken off, or comes behind

pub few_on : (next : ℕ) (xs ys : List Asked) → AllGo xs ys → AreFew next xs → AreFew next ys
few_on next xs ys g h =
    let e = tickets_stay xs ys g in
    record { once = ap once e ∙ h.once; below = ap (below next) e ∙ h.below }

below_filtered : (next : ℕ) (p : Asked → Bool) (xs : List Asked) → below next (ask_tickets xs) ≡ true → below next (ask_tickets (filter p xs)) ≡ true
below_filtered next p [] h = refl
below_filtered next p (x ∷ xs) h = by (below_filtered next p xs (and_second (nat_lt x.ticket next) (below next (ask_tickets xs)) h))
  where
    by : below next (ask_tickets (filter p xs)) ≡ true → below next (ask_tickets (cond (p x) (x ∷ filter p xs) (filter p xs))) ≡ true
    by more = by_test (λ (ys : List Asked). below next (ask_tickets ys) ≡ true) (p x) (x ∷ filter p xs) (filter p xs) (λ t. and_both (nat_lt x.ticket next) (below next (ask_tickets (filter p xs))) (and_first (nat_lt x.ticket next) (below next (ask_tickets xs)) h) more) (λ t. more)

pub few_filtered : (next : ℕ) (p : Asked → Bool) (xs : List Asked) → AreFew next xs → AreFew next (filter p xs)
few_filtered next p xs h = record { once = once_filtered (λ (a : Asked). a.ticket) p xs h.once; below = below_filtered next p xs h.below }

less_differs : (n m : ℕ) → nat_lt n m ≡ true → (n == m) ≡ false
less_differs n m h = grind (arith, nat_tests)

less_more : (n m : ℕ) → nat_lt n m ≡ true → nat_lt n (m + 1) ≡ true
less_more n m h = grind (arith, nat_tests)

less_next : (n : ℕ) → nat_lt n (n + 1) ≡ true
less_next n = grind (arith, nat_tests)

pub no_such_ticket : (next : ℕ) (xs : List Asked) → below next (ask_tickets xs) ≡ true → ask_at next xs ≡ None
no_such_ticket next [] h = refl
no_such_ticket next (x ∷ xs) h =
    ap (λ b. cond b (Some x) (ask_at next xs)) (less_differs x.ticket next (and_first (nat_lt x.ticket next) (below next (ask_tickets xs)) h)) ∙ no_such_ticket next xs (and_second (nat_lt x.ticket next) (below next (ask_tickets xs)) h)

unnamed : (next : ℕ) (ns : List ℕ) → below next ns ≡ true → has_number ns next ≡ false
unnamed next [] h = refl
unnamed next (n ∷ ns) h = or_none (n == next) (has_number ns next) (less_differs n next (and_first (nat_lt n next) (below next ns) h)) (unnamed next ns (and_second (nat_lt n next) (below next ns) h))

below_more : (next : ℕ) (ns : List ℕ) → below next ns ≡ true → below (next + 1) ns ≡ true
below_more next ns h = all_kept (λ n. nat_lt n next) (λ n. nat_lt n (next + 1)) (λ n t. less_more n next t) ns h

pub few_more : (next : ℕ) (xs : List Asked) → AreFew next xs → AreFew (next + 1) xs
few_more next xs h = record { once = h.once; below = below_more next (ask_tickets xs) h.below }

pub few_pushed : (next : ℕ) (xs : List Asked) (y : Asked) → y.ticket ≡ next → AreFew next xs → AreFew (next + 1) (xs ++ y ∷ [])
few_pushed next xs y e h =
    let same = map_pushed (λ (a : Asked). a.ticket) y xs in
    let new : has_number (ask_tickets xs) y.ticket ≡ false = ap (has_number (ask_tickets xs)) e ∙ unnamed next (ask_tickets xs) h.below in
    record {
      once = ap once same ∙ once_pushed y.ticket (ask_tickets xs) h.once new;
      below = ap (below (next + 1)) same ∙ all_pushed (λ n. nat_lt n (next + 1)) y.ticket (ask_tickets xs) (below_more next (ask_tickets xs) h.below) (ap (λ (n : ℕ). nat_lt n (next + 1)) e ∙ less_next next);
    }

-- fewer, where one is taken off
fewer : (p : Asked → Bool) (xs : List Asked) → length (filter p xs) ≤ length xs
fewer p [] = omega (arith)
fewer p (x ∷ xs) = by (fewer p xs)
  where
    by : length (filter p xs) ≤ length xs → length (cond (p x) (x ∷ filter p xs) (filter p xs)) ≤ length (x ∷ xs)
    by more = by_test (λ (ys : List Asked). length ys ≤ length (x ∷ xs)) (p x) (x ∷ filter p xs) (filter p xs) (λ t. grind (arith, more)) (λ t. grind (arith, more))

pub one_fewer : (ticket : ℕ) (xs : List Asked) (a : Asked) → ask_at ticket xs ≡ Some a → length (without_ask ticket xs) + 1 ≤ length xs
one_fewer ticket [] a h = absurd (cc)
one_fewer ticket (x ∷ xs) a h = by (x.ticket == ticket) refl h (one_fewer ticket xs a)
  where
    p : Asked → Bool
    p b = not (has_ticket ticket b)

    by : (b : Bool) → (x.ticket == ticket) ≡ b → cond b (Some x) (ask_at ticket xs) ≡ Some a → (ask_at ticket xs ≡ Some a → length (without_ask ticket xs) + 1 ≤ length xs) → length (cond (not (x.ticket == ticket)) (x ∷ filter p xs) (filter p xs)) + 1 ≤ length (x ∷ xs)
    by true e f more = subst (λ b. length (cond (not b) (x ∷ filter p xs) (filter p xs)) + 1 ≤ length (x ∷ xs)) (sym e) (let k = fewer p xs in grind (arith, k))
    by false e f more = subst (λ b. length (cond (not b) (x ∷ filter p xs) (filter p xs)) + 1 ≤ length (x ∷ xs)) (sym e) (let k = more f in grind (arith, k))
