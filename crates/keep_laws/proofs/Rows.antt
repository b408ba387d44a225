-- What a step makes of the requests, as far as keepalives go: each stays as it is, or tells of no call any more.
use Rattle.std.proofs.Common.{◌≡◌, ℕ, ◌==◌, Bool, true, false, not, cond, ◌&&◌, ◌||◌, List, [], ◌∷◌, ◌++◌, map, filter, None, Some, refl, sym, ◌∙◌, ap, subst}
use Rattle.etcd_types.specs.declared.answer.Answer.TheVariants.{Done}
use Rattle.etcd_types.proofs.Bools.{and_first, and_second, or_first, or_second, not_true}
use Rattle.wait_model.specs.declared.sending.Sending.TheVariants as sending
use Rattle.wait_model.specs.declared.wait.Settled.{Settled}
use Rattle.wait_model.specs.declared.wait.Settled.TheVariants as settled
use Rattle.read_model.specs.declared.asked.Asked.{Asked}
use Rattle.read_model.specs.declared.asked.Stage.{Stage}
use Rattle.read_model.specs.declared.asked.Stage.TheVariants as stage
use Rattle.read_model.specs.declared.asked.Verdict.{Verdict}
use Rattle.read_model.specs.declared.asked.Verdict.TheVariants as verdict
use Rattle.read_model.specs.Acquires.{is_acquiring, acquires_at, told, lost_once, told_lost}
use Rattle.read_model.specs.PlainRead.{in_stage, called, decided_ask}
use Rattle.read_model.specs.Release.{stands, ask_stands, released_ask, released_ground, released_from}
use Rattle.read_model.specs.State.{Moment, Ground}
use Rattle.read_model.specs.TakingOff.{is_writes}
use Rattle.read_model.specs.WriteAnswers.{settled_ask}
use Rattle.core_model.specs.ClockWork.{times_out, timed_out_ask}
use Rattle.core_model.specs.Fits.{has_number, once, ask_tickets, writing_tickets}
use Rattle.core_model.specs.Groups.{keeps, is_out_stage, waits_next, group_ended}
use Rattle.core_model.specs.Lookups.{stage_calls, calls_as}
use Rattle.core_laws.proofs.Steps.Comes.{by_test}
use Rattle.core_laws.proofs.Steps.Lists.{same_number}

-- all of them
abbrev pub All : (Asked → Type 0) → List Asked → Type 0
All P [] = Unit {0}
All P (x ∷ xs) = P x × All P xs

pub all_mapped : (P Q : Asked → Type 0) (f : Asked → Asked) → ((x : Asked) → P x → Q (f x)) → (xs : List Asked) → All P xs → All Q (map f xs)
all_mapped P Q f h [] t = tt
all_mapped P Q f h (x ∷ xs) t = (h x t.0, all_mapped P Q f h xs t.1)

pub all_kept : (P Q : Asked → Type 0) → ((x : Asked) → P x → Q x) → (xs : List Asked) → All P xs → All Q xs
all_kept P Q h [] t = tt
all_kept P Q h (x ∷ xs) t = (h x t.0, all_kept P Q h xs t.1)

pub all_filtered : (P : Asked → Type 0) (p : Asked → Bool) (xs : List Asked) → All P xs → All P (filter p xs)
all_filtered P p [] t = tt
all_filtered P p (x ∷ xs) t = by_test (All P) (p x) (x ∷ filter p xs) (filter p xs) (λ e. (t.0, all_filtered P p xs t.1)) (λ e. all_filtered P p xs t.1)

pub all_pushed : (P : Asked → Type 0) (y : Asked) (xs : List Asked) → All P xs → P y → All P (xs ++ y ∷ [])
all_pushed P y [] t h = (h, tt)
all_pushed P y (x ∷ xs) t h = (t.0, all_pushed P y xs t.1 h)

-- the stages of a keepalive
abbrev pub is_grouped : Stage → Bool
is_grouped (stage.Grouped s) = true
is_grouped (stage.Replied v) = true
is_grouped _ = false

abbrev pub is_untold : Verdict → Bool
is_untold (verdict.Said (Done reply)) = false
is_untold _ = true

-- no call is out for it, and no reply was told
abbrev pub is_silent : Stage → Bool
is_silent (stage.Grouped None) = true
is_silent (stage.Grouped (Some (sending.Due since))) = true
is_silent (stage.Replied v) = is_untold v
is_silent _ = false

pub silent_grouped : (s : Stage) → is_silent s ≡ true → is_grouped s ≡ true
silent_grouped (stage.Grouped s) h = refl
silent_grouped (stage.Replied v) h = refl
silent_grouped (stage.Calling s) h = absurd (cc)
silent_grouped stage.Acquiring h = absurd (cc)
silent_grouped stage.Joined h = absurd (cc)
silent_grouped stage.Behind h = absurd (cc)
silent_grouped stage.Writes h = absurd (cc)

-- it stays, or, where it was at a stage of keepalives, it is at a silent one
pub data Goes (x y : Asked) : Type 0 where
  stays : y ≡ x → Goes x y
  hushes : y.ticket ≡ x.ticket → y.request ≡ x.request → (is_grouped x.stage ≡ true → is_silent y.stage ≡ true) → Goes x y

-- what holds of a request still holds where it goes so
abbrev pub Lasts : (Asked → Type 0) → Type 0
Lasts P = (x y : Asked) → Goes x y → P x → P y

pub all_go : (P : Asked → Type 0) → Lasts P → (f : Asked → Asked) → ((x : Asked) → Goes x (f x)) → (xs : List Asked) → All P xs → All P (map f xs)
all_go P l f g xs t = all_mapped P P f (λ x h. l x (f x) (g x) h) xs t

-- a change of one at a stage of no keepalive
other_goes : (x y : Asked) → is_grouped x.stage ≡ false → y.ticket ≡ x.ticket → y.request ≡ x.request → Goes x y
other_goes x y n t q = hushes t q (λ g. absurd (let e : true ≡ false = sym g ∙ n in cc))

goes_if : (b : Bool) (x y : Asked) → (b ≡ true → Goes x y) → Goes x (cond b y x)
goes_if b x y h = by_test (Goes x) b y x h (λ t. stays refl)

-- Reads.

acquiring_other : (s : Stage) → is_acquiring s ≡ true → is_grouped s ≡ false
acquiring_other stage.Acquiring h = refl
acquiring_other stage.Joined h = refl
acquiring_other stage.Behind h = refl
acquiring_other stage.Writes h = refl
acquiring_other (stage.Calling s) h = refl
acquiring_other (stage.Grouped s) h = absurd (cc)
acquiring_other (stage.Replied v) h = absurd (cc)

acquires_other : (k : List ℕ) (a : Asked) → acquires_at k a ≡ true → is_grouped a.stage ≡ false
acquires_other k a h = acquiring_other a.stage (and_first (is_acquiring a.stage) _ h)

pub told_goes : (k : List ℕ) (s : Stage) (a : Asked) → Goes a (told k s a)
told_goes k s a = goes_if (acquires_at k a) a (in_stage s a) (λ t. other_goes a (in_stage s a) (acquires_other k a t) refl refl)

pub told_lost_goes : (members step : ℕ) (k : List ℕ) (a : Asked) → Goes a (told_lost members step k a)
told_lost_goes members step k a = goes_if (acquires_at k a) a (lost_once members step a) (λ t. other_goes a (lost_once members step a) (acquires_other k a t) refl refl)

stands_so : (g : Ground) (a : Asked) → is_grouped a.stage ≡ true → ask_stands g a ≡ true
stands_so g a h = by_stage a.stage refl h
  where
    by_stage : (s : Stage) → a.stage ≡ s → is_grouped s ≡ true → ask_stands g a ≡ true
    by_stage (stage.Grouped s) e h = ap (stands a.ticket _ _) e
    by_stage (stage.Replied v) e h = ap (stands a.ticket _ _) e
    by_stage (stage.Calling s) e h = absurd (cc)
    by_stage stage.Acquiring e h = absurd (cc)
    by_stage stage.Joined e h = absurd (cc)
    by_stage stage.Behind e h = absurd (cc)
    by_stage stage.Writes e h = absurd (cc)

pub released_goes : (again : Bool) (m : Moment) (g : Ground) (a : Asked) → Goes a (released_ask again m g a)
released_goes again m g a =
    by_test (Goes a) (ask_stands g a) a (cond again (decided_ask m g a) (in_stage (called g.own.waits.step) a)) (λ t. stays refl)
    (λ t. by_test (Goes a) again (decided_ask m g a) (in_stage (called g.own.waits.step) a) (λ u. moved t (decided_ask m g a) refl refl) (λ u. moved t (in_stage (called g.own.waits.step) a) refl refl))
  where
    moved : ask_stands g a ≡ false → (y : Asked) → y.ticket ≡ a.ticket → y.request ≡ a.request → Goes a y
    moved n y t q = hushes t q (λ h. absurd (let e : true ≡ false = sym (stands_so g a h) ∙ n in cc))

pub released_all : (P : Asked → Type 0) → Lasts P → (again : Bool) (m : Moment) (g : Ground) (xs : List Asked) → All P xs → All P (released_from again m g xs).asks
unfolding released_from
released_all P l again m g [] t = tt
released_all P l again m g (x ∷ xs) t = (l x (released_ask again m g x) (released_goes again m g x) t.0, released_all P l again m (released_ground again m g x) xs t.1)

-- Requests that end by time.

pub times_go : (now : ℕ) (a : Asked) → Goes a (timed_out_ask now a)
times_go now a = goes_if (times_out now a) a (in_stage (stage.Replied verdict.TimedOut) a) (λ t. hushes refl refl (λ g. refl))

-- Writes that end: the request of one is at the stage of writes.

-- one that has this ticket is at the stage of writes
abbrev pub Writes : ℕ → Asked → Type 0
Writes ticket a = (a.ticket == ticket) ≡ true → is_writes a.stage ≡ true

none_has : (ticket : ℕ) (xs : List Asked) → has_number (ask_tickets xs) ticket ≡ false → All (Writes ticket) xs
none_has ticket [] h = tt
none_has ticket (x ∷ xs) h = (λ t. absurd (let e = or_first (x.ticket == ticket) (has_number (ask_tickets xs) ticket) h in cc), none_has ticket xs (or_second (x.ticket == ticket) (has_number (ask_tickets xs) ticket) h))

none_writes : (ticket : ℕ) (xs : List Asked) → has_number (ask_tickets xs) ticket ≡ false → has_number (writing_tickets xs) ticket ≡ false
none_writes ticket [] h = refl
none_writes ticket (x ∷ xs) h = both (is_writes x.stage) (or_first (x.ticket == ticket) (has_number (ask_tickets xs) ticket) h) (none_writes ticket xs (or_second (x.ticket == ticket) (has_number (ask_tickets xs) ticket) h))
  where
    both : (b : Bool) → (x.ticket == ticket) ≡ false → has_number (writing_tickets xs) ticket ≡ false → has_number (ask_tickets (cond b (x ∷ filter (λ a. is_writes a.stage) xs) (filter (λ a. is_writes a.stage) xs))) ticket ≡ false
    both true e rest = ap (λ c. c || has_number (writing_tickets xs) ticket) e ∙ rest
    both false e rest = rest

pub all_write : (ticket : ℕ) (xs : List Asked) → once (ask_tickets xs) ≡ true → has_number (writing_tickets xs) ticket ≡ true → All (Writes ticket) xs
all_write ticket [] u h = tt
all_write ticket (x ∷ xs) u h = by_ticket (λ t. all_write ticket xs (and_second (not (has_number (ask_tickets xs) x.ticket)) (once (ask_tickets xs)) u) t) (x.ticket == ticket) refl
  where
    once_here : has_number (ask_tickets xs) x.ticket ≡ false
    once_here = not_true (has_number (ask_tickets xs) x.ticket) (and_first (not (has_number (ask_tickets xs) x.ticket)) (once (ask_tickets xs)) u)

    by_writes : (b : Bool) → is_writes x.stage ≡ b → has_number (ask_tickets (cond b (x ∷ filter (λ a. is_writes a.stage) xs) (filter (λ a. is_writes a.stage) xs))) ticket ≡ true → has_number (ask_tickets xs) ticket ≡ false → is_writes x.stage ≡ true
    by_writes true e t n = e
    by_writes false e t n = absurd (let f : true ≡ false = sym t ∙ none_writes ticket xs n in cc)

    rest_has : (b : Bool) → (x.ticket == ticket) ≡ false → has_number (ask_tickets (cond b (x ∷ filter (λ a. is_writes a.stage) xs) (filter (λ a. is_writes a.stage) xs))) ticket ≡ true → has_number (writing_tickets xs) ticket ≡ true
    rest_has true e t = sym (ap (λ b. b || has_number (writing_tickets xs) ticket) e) ∙ t
    rest_has false e t = t

    by_ticket : (has_number (writing_tickets xs) ticket ≡ true → All (Writes ticket) xs) → (b : Bool) → (x.ticket == ticket) ≡ b → All (Writes ticket) (x ∷ xs)
    by_ticket more true e =
        let n : has_number (ask_tickets xs) ticket ≡ false = subst (λ (i : ℕ). has_number (ask_tickets xs) i ≡ false) (same_number x.ticket ticket e) once_here in
        (λ t. by_writes (is_writes x.stage) refl h n, none_has ticket xs n)
    by_ticket more false e = (λ t. absurd (let f : true ≡ false = sym t ∙ e in cc), more (rest_has (is_writes x.stage) e h))

writes_other : (s : Stage) → is_writes s ≡ true → is_grouped s ≡ false
writes_other stage.Writes h = refl
writes_other stage.Acquiring h = refl
writes_other stage.Joined h = refl
writes_other stage.Behind h = refl
writes_other (stage.Calling s) h = refl
writes_other (stage.Grouped s) h = absurd (cc)
writes_other (stage.Replied v) h = absurd (cc)

-- what it settles is of a write
abbrev pub Settles : Settled → Asked → Type 0
Settles settled.Nothing x = Unit {0}
Settles (settled.Reply ticket a) x = Writes ticket x
Settles (settled.Failed ticket) x = Writes ticket x

pub settled_goes : (s : Settled) (x : Asked) → Settles s x → Goes x (settled_ask s x)
settled_goes settled.Nothing x h = stays refl
settled_goes (settled.Reply ticket a) x h = goes_if (x.ticket == ticket) x (in_stage (stage.Replied (verdict.Said a)) x) (λ t. other_goes x _ (writes_other x.stage (h t)) refl refl)
settled_goes (settled.Failed ticket) x h = goes_if (x.ticket == ticket) x (in_stage (stage.Replied verdict.Lost) x) (λ t. other_goes x _ (writes_other x.stage (h t)) refl refl)

pub all_settled : (P : Asked → Type 0) → Lasts P → (s : Settled) (xs : List Asked) → All (Settles s) xs → All P xs → All P (map (settled_ask s) xs)
all_settled P l s [] h t = tt
all_settled P l s (x ∷ xs) h t = (l x (settled_ask s x) (settled_goes s x h.0) t.0, all_settled P l s xs h.1 t.1)

-- A request's own call.

calls_other : (n : ℕ) (s : Stage) → stage_calls n s ≡ true → is_grouped s ≡ false
calls_other n (stage.Calling s) h = refl
calls_other n stage.Acquiring h = refl
calls_other n stage.Joined h = refl
calls_other n stage.Behind h = refl
calls_other n stage.Writes h = refl
calls_other n (stage.Grouped s) h = absurd (cc)
calls_other n (stage.Replied v) h = absurd (cc)

-- which keeps its ticket and the request
pub record Keeps (f : Asked → Asked) : Type 0 where
  pub ticket : (x : Asked) → (f x).ticket ≡ x.ticket
  pub request : (x : Asked) → (f x).request ≡ x.request

pub caller_goes : (n : ℕ) (f : Asked → Asked) → Keeps f → (x : Asked) → Goes x (cond (calls_as n x) (f x) x)
caller_goes n f k x = goes_if (calls_as n x) x (f x) (λ t. other_goes x (f x) (calls_other n x.stage t) (k.ticket x) (k.request x))

-- A keepalive whose call is lost, or that waits for one that ended.

pub lost_group_goes : (step call lease : ℕ) (v : Verdict) (x : Asked) → is_untold v ≡ true → Goes x (group_ended step call lease v x)
lost_group_goes step call lease v x u =
    by_test (Goes x) (is_out_stage call x.stage) (in_stage (stage.Replied v) x) (cond (keeps lease x.request && waits_next x.stage) (in_stage (stage.Grouped (Some (sending.Due step))) x) x)
    (λ t. hushes refl refl (λ g. u))
    (λ t. goes_if (keeps lease x.request && waits_next x.stage) x (in_stage (stage.Grouped (Some (sending.Due step))) x) (λ w. hushes refl refl (λ g. refl)))
