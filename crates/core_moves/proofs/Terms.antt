-- A proxy's session, as the view has it: when it is live, and how a grant's and a keepalive's answer move it.
use Rattle.std.proofs.Common.{◌≡◌, ◌≢◌, ℕ, ◌≤◌, ◌+◌, ◌*◌, ◌==◌, max, nat_lt, unwrap_or, Bool, true, false, cond, List, Option, None, Some, is_some, refl, sym, ◌∙◌, ap, subst, arith}
use Rattle.etcd_types.specs.declared.answer.Answer.{Answer}
use Rattle.etcd_types.specs.declared.answer.Answer.TheVariants as answer
use Rattle.etcd_types.specs.declared.answer.Body.{Body}
use Rattle.etcd_types.specs.declared.answer.Body.TheVariants as body
use Rattle.proxy_model.specs.declared.lease.Entry.{Entry}
use Rattle.proxy_model.specs.declared.lease.Phase.{Phase}
use Rattle.proxy_model.specs.declared.lease.Phase.TheVariants.{Held, Writing, Leaving}
use Rattle.proxy_model.specs.declared.session.Standing.{Standing}
use Rattle.proxy_model.specs.Keyed.{at}
use Rattle.proxy_model.specs.Limits.{capped}
use Rattle.proxy_model.specs.Session.{Session, millis, expiry, granted, renewed, is_live_standing}
use Rattle.read_model.specs.Fits.{is_owned, GroundOk}
use Rattle.core_model.specs.declared.out_call.OutCall.{OutCall}
use Rattle.core_model.specs.Fits.{is_standing}
use Rattle.core_model.specs.Lookups.{number_if, live_number}
use Rattle.core_model.specs.State.{Seat, Core}
use Rattle.cache_laws.specs.Moves.View as view
use Rattle.cache_laws.specs.Moves.View.{Term, View, live, live_by, put}
use Rattle.cache_laws.specs.Moves.Invariant.{Inv}
use Rattle.cache_laws.specs.Moves.Sessions.{Begins, session_begun, Renews, session_renewed}
use Rattle.cache_laws.proofs.Moves.SessionProofs.{begins_keep, renews_keep}
use Rattle.row_laws.specs.Rows.{phase_of, row_of}
use Rattle.row_laws.specs.Laws.{IsLive}
use Rattle.core_moves.specs.Terms.{HasNumber}
use Rattle.core_moves.specs.Sees.{term_by, term_of, ground_in, Sees, Moves}
use Rattle.core_moves.proofs.Clocks.{put_here, put_there}

-- When it is live.

live_of : (number now : ℕ) (t : Option Standing) (n : ℕ) → number_if (is_live_standing t now) number ≡ Some n → (live_by now (term_by number t) ≡ n) × ((term_by number t).number ≡ n) × (number ≡ n)
live_of number now None n e = absurd (cc)
live_of number now (Some x) n e = by (nat_lt now x.deadline) e
  where
    by : (b : Bool) → number_if b number ≡ Some n → (cond b number 0 ≡ n) × (number ≡ n) × (number ≡ n)
    by true e = let m = ap (λ (o : Option ℕ). unwrap_or o 0) e in (m, m, m)
    by false e = absurd (cc)

pub seat_is_live : (v : View) (p now : ℕ) (own : ℕ → ℕ) (c : Core) → HasNumber c.seat → Sees v p now own c → IsLive v p (live_number c.seat now)
seat_is_live v p now own c some s = by c.seat some ((λ i. live_by (s.clock i) (s.term i))) s.term
  where
    by : (o : Option Seat) → HasNumber o → live v p ≡ live_by now (term_of o) → v.terms p ≡ term_of o → IsLive v p (live_number o now)
    by None some l t = record { some = λ n e. absurd (cc); number = λ n e. absurd (cc); not_none = λ n e. absurd (cc) }
    by (Some x) some l t =
        record {
          some = λ n e. l ∙ (live_of x.session.number now x.session.standing n e).0;
          number = λ n e. ap (λ (t : Term). t.number) t ∙ (live_of x.session.number now x.session.standing n e).1;
          not_none = λ n e z. some ((live_of x.session.number now x.session.standing n e).2 ∙ z);
        }

-- A session's term changes, and nothing else.

pub termed_moves : (holder : ℕ → ℕ) (v : View) (p now : ℕ) (own : ℕ → ℕ) (c d : Core) (t : Term) → Sees v p now own c → Inv holder (record v { terms = put v.terms p t }) → t ≡ term_of d.seat → ((k : List ℕ) → row_of own (ground_in c) k ≡ row_of own (ground_in d) k)
    → Moves holder v p now own d
termed_moves holder v p now own c d t s h is rows =
    record {
      after = record v { terms = put v.terms p t };
      inv = h;
      sees = record { clock = s.clock; term = put_here v.terms p t ∙ is; row = λ k. s.row k ∙ rows k };
      alike = record { rev = refl; made = refl; owners = refl; kvs = refl; told = refl; leases = refl; floors = refl; drawn = refl; sent = refl; calls = refl; outcomes = refl; clocks = refl; terms = λ q n. put_there v.terms p t q n; slots = λ q n. refl };
    }

-- Deadlines.

capped_most : (n : ℕ) → capped n ≤ n
capped_most n = omega arith

pub expiry_within : (sent_at ttl at time : ℕ) → at ≡ sent_at → time ≡ ttl → expiry sent_at ttl ≤ at + 1000 * time
expiry_within sent_at ttl at time a t =
    let first : expiry sent_at ttl ≤ sent_at + millis ttl = capped_most (sent_at + millis ttl) in
    let second : millis ttl ≤ ttl * 1000 = capped_most (ttl * 1000) in
    subst (λ (x : ℕ). expiry sent_at ttl ≤ x + 1000 * time) (sym a) (subst (λ (y : ℕ). expiry sent_at ttl ≤ sent_at + 1000 * y) (sym t) (omega arith))

-- A grant is answered: no entry is owned without a session.

pub unowned_phase : (e : Option Entry) → is_owned e ≡ false → (phase_of e ≢ view.Held) × (phase_of e ≢ view.Writing)
unowned_phase None o = ((λ f. cc), (λ f. cc))
unowned_phase (Some e) o = by e.phase o
  where
    by : (x : Phase) → is_owned (Some (record e { phase = x })) ≡ false → (phase_of (Some (record e { phase = x })) ≢ view.Held) × (phase_of (Some (record e { phase = x })) ≢ view.Writing)
    by Held o = absurd (cc)
    by (Writing revoked) o = absurd (cc)
    by (Leaving sent) o = ((λ f. cc), (λ f. cc))
