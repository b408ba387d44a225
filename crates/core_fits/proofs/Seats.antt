-- The session's call that is out is its own, and its number is one of those that are kept for sessions.
use Rattle.std.proofs.Common.{◌≡◌, ℕ, ◌+◌, ◌%◌, ◌==◌, nat_le, true, false, not, List, [], ◌∷◌, ◌++◌, Option, None, Some, refl, sym, ◌∙◌, ap, arith}
use Rattle.std.proofs.lemmas.Bool.Decides.{nat_tests}
use Rattle.etcd_types.proofs.Bools.{or_first, or_second}
use Rattle.proxy_model.specs.declared.session.TheConstants.{FIRST_SESSION}
use Rattle.proxy_model.specs.RequestRefusals.{is_session}
use Rattle.proxy_model.specs.Session.{Session, granted, renewed, is_due}
use Rattle.wait_model.specs.declared.sending.Sending.{Sending}
use Rattle.wait_model.specs.declared.sending.Sending.TheVariants as sending
use Rattle.core_model.specs.declared.out_call.OutCall.{OutCall}
use Rattle.core_model.specs.declared.out_call.OutJob.{OutJob}
use Rattle.core_model.specs.Fits.{has_number, numbers_of, passes, is_session_job, is_call_out, is_seat_out, job_at, Agrees}
use Rattle.core_model.specs.Lookups.{without_out}
use Rattle.core_model.specs.Sending.{next_call, out_call, session_out, seat_sent}
use Rattle.core_model.specs.Sessions.{call_ticked, seat_ticked, is_sent_as, seat_granted, seat_free, seat_renewed}
use Rattle.core_model.specs.State.{Seat, Core}
use Rattle.core_laws.proofs.Steps.Calls.{not_given, is_new}
use Rattle.core_laws.proofs.Steps.Comes.{by_test}
use Rattle.core_laws.proofs.Steps.Lists.{same_number, number_turned}
use Rattle.core_fits.specs.Fits.{EachOf, IsSeatsCall, SeatHasItsJob, SeatIsNumbered}
use Rattle.core_fits.proofs.Eachs.{each_filtered, each_pushed}

abbrev pub SeatFits : Option Seat → List OutCall → Type 0
SeatFits s out = SeatHasItsJob s out × SeatIsNumbered s

-- nothing is out for it

pub free_call : (s : Session) (out : List OutCall) → EachOf (IsSeatsCall s None) out
free_call s [] = tt
free_call s (o ∷ out) = (λ h. absurd (cc), free_call s out)

due_call : (s : Session) (since : ℕ) (out : List OutCall) → EachOf (IsSeatsCall s (Some (sending.Due since))) out
due_call s since [] = tt
due_call s since (o ∷ out) = (λ h. absurd (cc), due_call s since out)

-- its call was answered or lost

pub granted_fits : (sent_at ttl : ℕ) (s : Option Seat) (out : List OutCall) → SeatFits s out → SeatFits (seat_granted sent_at ttl s) out
granted_fits sent_at ttl None out h = (tt, tt)
granted_fits sent_at ttl (Some s) out h = (free_call (granted s.session sent_at ttl) out, h.1)

pub renewed_fits : (sent_at ttl : ℕ) (s : Option Seat) (out : List OutCall) → SeatFits s out → SeatFits (seat_renewed sent_at ttl s) out
renewed_fits sent_at ttl None out h = (tt, tt)
renewed_fits sent_at ttl (Some s) out h = (free_call (renewed s.session sent_at ttl) out, h.1)

pub free_fits : (s : Option Seat) (out : List OutCall) → SeatFits s out → SeatFits (seat_free s) out
free_fits None out h = (tt, tt)
free_fits (Some s) out h = (free_call s.session out, h.1)

pub gone_fits : (call : ℕ) (s : Option Seat) (out : List OutCall) → SeatFits s out → SeatFits s (without_out call out)
gone_fits call None out h = (tt, tt)
gone_fits call (Some s) out h = (each_filtered (IsSeatsCall s.session s.call) (λ o. not (o.call == call)) out h.0, h.1)

-- a tick

drawn_number : (a b : ℕ) → nat_le a (a + b) ≡ true
drawn_number a b = grind (arith, nat_tests)

pub ticked_fits : (word ttl step now : ℕ) (s : Option Seat) (out : List OutCall) → SeatFits s out → SeatFits (Some (seat_ticked word ttl step now s)) out
ticked_fits word ttl step now None out h = (due_call (seat_ticked word ttl step now None).session step out, drawn_number FIRST_SESSION (word % FIRST_SESSION))
ticked_fits word ttl step now (Some s) out h = (by_call s.call h.0, h.1)
  where
    by_call : (o : Option Sending) → EachOf (IsSeatsCall s.session o) out → EachOf (IsSeatsCall s.session (call_ticked step now s.session o)) out
    by_call None t = by_test (λ (x : Option Sending). EachOf (IsSeatsCall s.session x) out) (is_due s.session now) (Some (sending.Due step)) None (λ e. due_call s.session step out) (λ e. free_call s.session out)
    by_call (Some call) t = t

-- its call is sent: no call before had the number

none_given : (s : Session) (n : ℕ) (out : List OutCall) → has_number (numbers_of out) n ≡ false → EachOf (IsSeatsCall s (Some (sending.Out n))) out
none_given s n [] h = tt
none_given s n (o ∷ out) h =
    let e = number_turned o.call n (or_first (o.call == n) (has_number (numbers_of out) n) h) in
    (λ t. absurd (let f : true ≡ false = sym t ∙ e in cc), none_given s n out (or_second (o.call == n) (has_number (numbers_of out) n) h))

pub sent_fits : (now : ℕ) (s : Session) (c : Core) → Agrees c → is_session s.number ≡ true → SeatFits (Some (seat_sent (next_call c) s)) (c.out ++ out_call now (session_out s.number s.standing) c ∷ [])
sent_fits now s c a n =
    (each_pushed (IsSeatsCall s (Some (sending.Out (next_call c)))) (out_call now (session_out s.number s.standing) c) c.out (none_given s (next_call c) c.out (not_given c.calls c.out a.numbers.given)) (λ t. refl), n)

-- another call is sent

pub other_fits : (now : ℕ) (j : OutJob) (c : Core) → Agrees c → SeatFits c.seat c.out → SeatFits c.seat (c.out ++ out_call now j c ∷ [])
other_fits now j c a h = by_seat c.seat a.out.seat h
  where
    by_call : (s : Session) (o : Option Sending) → is_call_out s.standing c.out o ≡ true → is_sent_as (next_call c) o ≡ true → ⊥
    by_call s None t u = absurd (cc)
    by_call s (Some (sending.Due since)) t u = absurd (cc)
    by_call s (Some (sending.Out n)) t u =
        let e = sym t ∙ ap (λ i. passes (is_session_job s.standing) (job_at i c.out)) (same_number n (next_call c) u) ∙ ap (passes (is_session_job s.standing)) (is_new c.calls c.out c.own.waits.out a.numbers) in
        absurd (cc)

    by_seat : (s : Option Seat) → is_seat_out c.out s ≡ true → SeatFits s c.out → SeatFits s (c.out ++ out_call now j c ∷ [])
    by_seat None t k = (tt, tt)
    by_seat (Some s) t k = (each_pushed (IsSeatsCall s.session s.call) (out_call now j c) c.out k.0 (λ u. absurd (by_call s.session s.call t u)), k.1)
