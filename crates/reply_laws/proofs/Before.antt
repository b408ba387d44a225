-- What the clock's work makes of the requests: one that then stands at a stage of a call that is out, waits for its key or for its write, or
-- is replied ok, stood so before.
use Rattle.std.proofs.Common.{◌≡◌, ℕ, ◌==◌, Bool, true, false, not, cond, List, [], ◌∷◌, map, Some, refl, sym, ◌∙◌, ap}
use Rattle.etcd_types.proofs.Bools.{and_first, and_second, or_first, or_second, not_true}
use Rattle.wait_model.specs.declared.sending.Sending.TheVariants as sending
use Rattle.read_model.specs.declared.asked.Asked.{Asked}
use Rattle.read_model.specs.declared.asked.Stage.{Stage}
use Rattle.read_model.specs.declared.asked.Stage.TheVariants as stage
use Rattle.read_model.specs.declared.asked.Verdict.TheVariants as verdict
use Rattle.read_model.specs.PlainRead.{in_stage, called}
use Rattle.read_model.specs.Release.{ask_stands, released_ground, released_from}
use Rattle.read_model.specs.State.{Moment, Ground}
use Rattle.core_model.specs.ClockWork.{times_out, timed_out_ask, begun, clock_work}
use Rattle.core_model.specs.Fits.{has_number, once, ask_tickets}
use Rattle.core_model.specs.Lookups.{ask_at}
use Rattle.core_model.specs.Sessions.{seat_is_over, without_session, deadline_passed}
use Rattle.core_model.specs.State.{Core}
use Rattle.core_laws.proofs.Steps.Comes.{by_test}
use Rattle.core_laws.proofs.Steps.Lists.{number_itself, number_turned}
use Rattle.keep_laws.proofs.Rows.{All, all_mapped, all_kept, is_untold}
use Rattle.reply_laws.specs.Sources.{Stood}

-- a stage at which the clock's work may leave a request
abbrev pub is_quiet : Stage → Bool
is_quiet (stage.Calling (sending.Due since)) = true
is_quiet (stage.Replied v) = is_untold v
is_quiet _ = false

-- each is a request of before, at the stage at which it stood then, or at a quiet one
pub record Since (c : Core) (y : Asked) : Type 0 where
  pub before : Asked
  pub there : ask_at y.ticket c.asks ≡ Some before
  pub request : before.request ≡ y.request
  pub stage : is_quiet y.stage ≡ false → before.stage ≡ y.stage

pub since_stood : (c : Core) (y : Asked) (s : Stage) → y.stage ≡ s → is_quiet s ≡ false → Since c y → Stood c y s
since_stood c y s e q h = record { before = h.before; there = h.there; request = h.request; stage = h.stage (ap is_quiet e ∙ q) ∙ e }

-- another of the same ticket and request
pub stood_on : (c : Core) (x y : Asked) (s : Stage) → y.ticket ≡ x.ticket → y.request ≡ x.request → Stood c x s → Stood c y s
stood_on c x y s t q h = record { before = h.before; there = ap (λ (n : ℕ). ask_at n c.asks) t ∙ h.there; request = h.request ∙ sym q; stage = h.stage }

quiet_since : (c : Core) (x : Asked) (s : Stage) → is_quiet s ≡ true → Since c x → Since c (in_stage s x)
quiet_since c x s q h = record { before = h.before; there = h.there; request = h.request; stage = λ n. absurd (let e : true ≡ false = sym q ∙ n in cc) }

since_if : (c : Core) (b : Bool) (x : Asked) (s : Stage) → is_quiet s ≡ true → Since c x → Since c (cond b (in_stage s x) x)
since_if c true x s q h = quiet_since c x s q h
since_if c false x s q h = h

-- ---- at the start of the step

here : (x : Asked) (xs : List Asked) → ask_at x.ticket (x ∷ xs) ≡ Some x
here x xs = ap (λ b. cond b (Some x) (ask_at x.ticket xs)) (number_itself x.ticket)

others : (ticket : ℕ) (xs : List Asked) → has_number (ask_tickets xs) ticket ≡ false → All (λ y. (ticket == y.ticket) ≡ false) xs
others ticket [] h = tt
others ticket (x ∷ xs) h = (number_turned x.ticket ticket (or_first (x.ticket == ticket) (has_number (ask_tickets xs) ticket) h), others ticket xs (or_second (x.ticket == ticket) (has_number (ask_tickets xs) ticket) h))

abbrev pub Found : List Asked → Asked → Type 0
Found all y = ask_at y.ticket all ≡ Some y

found_behind : (x : Asked) (all xs : List Asked) → All (λ y. (x.ticket == y.ticket) ≡ false) xs → All (Found all) xs → All (Found (x ∷ all)) xs
found_behind x all [] n t = tt
found_behind x all (y ∷ ys) n t = (ap (λ b. cond b (Some x) (ask_at y.ticket all)) n.0 ∙ t.0, found_behind x all ys n.1 t.1)

pub found_all : (xs : List Asked) → once (ask_tickets xs) ≡ true → All (Found xs) xs
found_all [] h = tt
found_all (x ∷ xs) h =
    let n = not_true (has_number (ask_tickets xs) x.ticket) (and_first (not (has_number (ask_tickets xs) x.ticket)) (once (ask_tickets xs)) h) in
    (here x xs, found_behind x xs xs (others x.ticket xs n) (found_all xs (and_second (not (has_number (ask_tickets xs) x.ticket)) (once (ask_tickets xs)) h)))

pub since_start : (c : Core) → once (ask_tickets c.asks) ≡ true → All (Since c) c.asks
since_start c u = all_kept (Found c.asks) (Since c) (λ x f. record { before = x; there = f; request = refl; stage = λ n. refl }) c.asks (found_all c.asks u)

-- ---- the clock's work

released_since : (c : Core) (m : Moment) (g : Ground) (xs : List Asked) → All (Since c) xs → All (Since c) (released_from false m g xs).asks
unfolding released_from
released_since c m g [] t = tt
released_since c m g (x ∷ xs) t = (
  by_test (Since c) (ask_stands g x) x (in_stage (called g.own.waits.step) x) (λ e. t.0) (λ e. quiet_since c x (called g.own.waits.step) refl t.0),
  released_since c m (released_ground false m g x) xs t.1,
)

over_since : (c d : Core) (now : ℕ) → All (Since c) d.asks → All (Since c) (deadline_passed now d).asks
over_since c d now t = by_test (λ (x : Core). All (Since c) x.asks) (seat_is_over d.seat now) (without_session now d) d (λ e. released_since c _ _ d.asks t) (λ e. t)

timed_since : (c : Core) (now : ℕ) (x : Asked) → Since c x → Since c (timed_out_ask now x)
timed_since c now x h = since_if c (times_out now x) x (stage.Replied verdict.TimedOut) refl h

pub clock_since : (c : Core) (now : ℕ) → once (ask_tickets c.asks) ≡ true → All (Since c) (clock_work now c).asks
unfolding clock_work
clock_since c now u =
    let d = deadline_passed now (begun c) in
    released_since c _ _ (map (timed_out_ask now) d.asks) (all_mapped (Since c) (Since c) (timed_out_ask now) (timed_since c now) d.asks (over_since c (begun c) now (since_start c u)))

-- what else it leaves
pub record ClockLeaves (c d : Core) : Type 0 where
  pub out : d.out ≡ c.out
  pub settings : d.settings ≡ c.settings
  pub header : d.header ≡ c.header

pub clock_leaves : (now : ℕ) (c : Core) → ClockLeaves c (clock_work now c)
unfolding clock_work
clock_leaves now c = record {
  out = by_test (λ (d : Core). d.out ≡ c.out) (seat_is_over c.seat now) (without_session now (begun c)) (begun c) (λ e. refl) (λ e. refl);
  settings = by_test (λ (d : Core). d.settings ≡ c.settings) (seat_is_over c.seat now) (without_session now (begun c)) (begun c) (λ e. refl) (λ e. refl);
  header = by_test (λ (d : Core). d.header ≡ c.header) (seat_is_over c.seat now) (without_session now (begun c)) (begun c) (λ e. refl) (λ e. refl);
}
