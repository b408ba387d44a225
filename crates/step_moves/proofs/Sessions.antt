-- The session's call is sent: its grant or its keepalive.
use Rattle.std.proofs.Common.{◌≡◌, ◌≢◌, ℕ, true, Option, None, Some, refl, sym, ◌∙◌, ap, subst}
use Rattle.proxy_model.specs.declared.session.Standing.{Standing}
use Rattle.proxy_model.specs.RequestRefusals.{is_session}
use Rattle.proxy_model.specs.Session.{Session}
use Rattle.core_model.specs.DueJobs.{ForSession}
use Rattle.core_model.specs.Sending.{next_call, session_out, seat_sent, session_sent, goes_out}
use Rattle.core_model.specs.Sessions.{session_request}
use Rattle.core_model.specs.State.{Core}
use Rattle.core_laws.proofs.Steps.Due.{DueOk}
use Rattle.cache_laws.specs.Moves.View as view
use Rattle.cache_laws.specs.Moves.View.{View, no_call}
use Rattle.cache_laws.specs.Moves.Invariant.{Inv}
use Rattle.call_laws.specs.Forms.{Grants, Keeps}
use Rattle.core_fits.specs.Fits.{SeatIsNumbered}
use Rattle.core_moves.specs.Sees.{term_by, term_of, Sees}
use Rattle.step_moves.specs.Work.{Worked}
use Rattle.step_moves.proofs.Calls.{goes_unseen}

pub not_zero : (n : ℕ) → is_session n ≡ true → n ≢ 0
not_zero n t z = absurd (let x : is_session 0 ≡ true = ap is_session (sym z) ∙ t in cc)

module _ (holder : ℕ → ℕ) (v : View) (p now : ℕ) (own : ℕ → ℕ) (c : Core) (s : Sees v p now own c) (h : Inv holder v) where
  pub session_moves : (x : Session) → DueOk c (ForSession x) → SeatIsNumbered c.seat → Worked holder v p now own c (session_sent now x c)
  session_moves x due numbered = by x.standing
    where
      d : Core
      d = record c { seat = Some (seat_sent (next_call c) x) }

      seat : term_of (Some (seat_sent (next_call c) x)) ≡ term_of c.seat
      seat = sym (ap term_of due.1 ∙ ap (λ (y : Session). term_by y.number y.standing) due.2)

      number : x.number ≢ 0
      number = not_zero x.number (subst (λ (y : Session). is_session y.number ≡ true) due.2 (subst SeatIsNumbered due.1 numbered))

      by : (t : Option Standing) → Worked holder v p now own c (goes_out now (session_out x.number t) 0 (session_request c.settings.ttl x t) c (record c { seat = Some (seat_sent (next_call c) x) }))
      by None =
          goes_unseen holder v p now own c s h _ 0 _ (record c { seat = Some (seat_sent (next_call c) x) }) (Grants c.settings.ttl x.number) (record no_call { kind = view.Grants; session = x.number }) refl
          (number, record { kind = λ e. absurd (cc); uncovered = λ k. refl }, refl) refl (λ e. absurd (cc)) (λ k. refl) seat (λ k. refl)
      by (Some y) =
          goes_unseen holder v p now own c s h _ 0 _ (record c { seat = Some (seat_sent (next_call c) x) }) (Keeps x.number) (record no_call { kind = view.Keeps; session = x.number }) refl
          (record { kind = λ e. absurd (cc); uncovered = λ k. refl }, refl) refl (λ e. absurd (cc)) (λ k. refl) seat (λ k. refl)
