-- What a step makes of the requests: each keeps its ticket and what was asked, and none begins to wait for an acquire or for an
-- owner write that didn't wait so before.
use Rattle.std.proofs.Common.{◌≡◌, ℕ, ◌+◌, ◌==◌, nat_le, Bool, true, false, cond, ◌&&◌, List, [], ◌∷◌, Option, Some, refl}
use Rattle.proxy_model.specs.declared.lease.Entry.{Entry}
use Rattle.proxy_model.specs.Keyed.{at}
use Rattle.proxy_model.specs.Limits.{capped}
use Rattle.wait_model.specs.declared.sending.Sending.TheVariants as sending
use Rattle.wait_model.specs.declared.wait.Settled.{Settled}
use Rattle.wait_model.specs.declared.wait.Settled.TheVariants as settled
use Rattle.read_model.specs.declared.acquire.Acquire.{Acquire}
use Rattle.read_model.specs.declared.asked.Asked.{Asked}
use Rattle.read_model.specs.declared.asked.Stage.{Stage}
use Rattle.read_model.specs.declared.asked.Stage.TheVariants as stage
use Rattle.read_model.specs.declared.asked.Verdict.{Verdict}
use Rattle.read_model.specs.declared.asked.Verdict.TheVariants as verdict
use Rattle.read_model.specs.Acquires.{acquires_at, told, lost_once, told_lost}
use Rattle.read_model.specs.PlainRead.{ask_key, in_stage, called, decided_ask}
use Rattle.read_model.specs.Release.{stands, ask_stands, released_ask, released_ground, released_from}
use Rattle.read_model.specs.State.{Moment, Ground}
use Rattle.read_model.specs.WriteAnswers.{settled_ask}
use Rattle.core_model.specs.ClockWork.{times_out, timed_out_ask}
use Rattle.core_model.specs.Ends.{stales_limit, stale_once}
use Rattle.core_model.specs.Groups.{keeps, is_out_stage, is_due_stage, waits_next, group_sent, group_ended}
use Rattle.core_model.specs.Lookups.{has_ticket, calls_as}
use Rattle.core_model.specs.Sending.{called_as}
use Rattle.core_laws.proofs.Steps.Comes.{by_test}
use Rattle.core_fits.specs.Fits.{EachOf, is_reading}

pub record Goes (x y : Asked) : Type 0 where
  pub ticket : y.ticket ≡ x.ticket
  pub request : y.request ≡ x.request
  pub reads : is_reading y.stage ≡ true → is_reading x.stage ≡ true

-- what holds of a request still holds where it goes so
abbrev pub Carries : (Asked → Type 0) → Type 0
Carries P = (x y : Asked) → Goes x y → P x → P y

pub goes_itself : (x : Asked) → Goes x x
goes_itself x = record { ticket = refl; request = refl; reads = λ h. h }

goes_if : (b : Bool) (x y : Asked) → (b ≡ true → Goes x y) → Goes x (cond b y x)
goes_if b x y h = by_test (Goes x) b y x h (λ t. goes_itself x)

-- it doesn't wait so
pub stops : (x y : Asked) → y.ticket ≡ x.ticket → y.request ≡ x.request → is_reading y.stage ≡ false → Goes x y
stops x y t q n = record { ticket = t; request = q; reads = λ h. absurd (cc) }

-- Reads.

pub told_goes : (k : List ℕ) (s : Stage) → is_reading s ≡ false → (a : Asked) → Goes a (told k s a)
told_goes k s n a = goes_if (acquires_at k a) a (in_stage s a) (λ t. stops a (in_stage s a) refl refl n)

pub once_stops : (members step : ℕ) (a : Asked) → Goes a (lost_once members step a)
once_stops members step a = stops a (lost_once members step a) refl refl (by_test (λ (s : Stage). is_reading s ≡ false) (nat_le members (capped (a.losses + 1))) (stage.Replied verdict.Lost) (called step) (λ t. refl) (λ t. refl))

pub stale_stops : (members step : ℕ) (a : Asked) → Goes a (stale_once members step a)
stale_stops members step a = stops a (stale_once members step a) refl refl (by_test (λ (s : Stage). is_reading s ≡ false) (nat_le (stales_limit members) (capped (a.stales + 1))) (stage.Replied verdict.Stale) (called step) (λ t. refl) (λ t. refl))

pub told_lost_goes : (members step : ℕ) (k : List ℕ) (a : Asked) → Goes a (told_lost members step k a)
told_lost_goes members step k a = goes_if (acquires_at k a) a (lost_once members step a) (λ t. once_stops members step a)

-- only one that waits so is released
unstood_reads : (ticket : ℕ) (e : Option Entry) (c : Option Acquire) (s : Stage) → stands ticket e c s ≡ false → is_reading s ≡ true
unstood_reads ticket e c stage.Acquiring h = refl
unstood_reads ticket e c stage.Joined h = refl
unstood_reads ticket e c stage.Behind h = refl
unstood_reads ticket e c stage.Writes h = absurd (cc)
unstood_reads ticket e c (stage.Calling s) h = absurd (cc)
unstood_reads ticket e c (stage.Grouped s) h = absurd (cc)
unstood_reads ticket e c (stage.Replied v) h = absurd (cc)

pub released_goes : (again : Bool) (m : Moment) (g : Ground) (a : Asked) → Goes a (released_ask again m g a)
released_goes again m g a =
    by_test (Goes a) (ask_stands g a) a (cond again (decided_ask m g a) (in_stage (called g.own.waits.step) a)) (λ t. goes_itself a)
    (λ t.
    let r = unstood_reads a.ticket (at g.own.entries (ask_key a)) (at g.acquires (ask_key a)) a.stage t in
    by_test (Goes a) again (decided_ask m g a) (in_stage (called g.own.waits.step) a)
    (λ u. record { ticket = refl; request = refl; reads = λ h. r }) (λ u. record { ticket = refl; request = refl; reads = λ h. r }))

pub released_each : (P : Asked → Type 0) → Carries P → (again : Bool) (m : Moment) (g : Ground) (xs : List Asked) → EachOf P xs → EachOf P (released_from again m g xs).asks
unfolding released_from
released_each P l again m g [] t = tt
released_each P l again m g (x ∷ xs) t = (l x (released_ask again m g x) (released_goes again m g x) t.0, released_each P l again m (released_ground again m g x) xs t.1)

-- Time that passes, and calls that end or are sent.

pub times_go : (now : ℕ) (a : Asked) → Goes a (timed_out_ask now a)
times_go now a = goes_if (times_out now a) a (in_stage (stage.Replied verdict.TimedOut) a) (λ t. stops a (in_stage (stage.Replied verdict.TimedOut) a) refl refl refl)

pub settled_goes : (s : Settled) (x : Asked) → Goes x (settled_ask s x)
settled_goes settled.Nothing x = goes_itself x
settled_goes (settled.Reply ticket a) x = goes_if (x.ticket == ticket) x (in_stage (stage.Replied (verdict.Said a)) x) (λ t. stops x (in_stage (stage.Replied (verdict.Said a)) x) refl refl refl)
settled_goes (settled.Failed ticket) x = goes_if (x.ticket == ticket) x (in_stage (stage.Replied verdict.Lost) x) (λ t. stops x (in_stage (stage.Replied verdict.Lost) x) refl refl refl)

pub caller_goes : (n : ℕ) (f : Asked → Asked) → ((x : Asked) → Goes x (f x)) → (x : Asked) → Goes x (cond (calls_as n x) (f x) x)
caller_goes n f k x = goes_if (calls_as n x) x (f x) (λ t. k x)

pub group_goes : (step call lease : ℕ) (v : Verdict) (x : Asked) → Goes x (group_ended step call lease v x)
group_goes step call lease v x =
    by_test (Goes x) (is_out_stage call x.stage) (in_stage (stage.Replied v) x) (cond (keeps lease x.request && waits_next x.stage) (in_stage (stage.Grouped (Some (sending.Due step))) x) x)
    (λ t. stops x (in_stage (stage.Replied v) x) refl refl refl)
    (λ t. goes_if (keeps lease x.request && waits_next x.stage) x (in_stage (stage.Grouped (Some (sending.Due step))) x) (λ w. stops x (in_stage (stage.Grouped (Some (sending.Due step))) x) refl refl refl))

pub group_sent_goes : (call lease : ℕ) (x : Asked) → Goes x (group_sent call lease x)
group_sent_goes call lease x =
    goes_if (keeps lease x.request && is_due_stage x.stage) x (in_stage (stage.Grouped (Some (sending.Out call))) x) (λ t. stops x (in_stage (stage.Grouped (Some (sending.Out call))) x) refl refl refl)

pub called_goes : (call ticket : ℕ) (x : Asked) → Goes x (called_as call ticket x)
called_goes call ticket x = goes_if (has_ticket ticket x) x (in_stage (stage.Calling (sending.Out call)) x) (λ t. stops x (in_stage (stage.Calling (sending.Out call)) x) refl refl refl)
