-- A grant and a keepalive are answered.
use Rattle.std.proofs.Common.{◌≡◌, ◌≢◌, ℕ, ◌≤◌, ◌+◌, ◌*◌, ◌==◌, max, nat_lt, Bool, true, false, cond, List, Option, None, Some, refl, sym, ◌∙◌, ap, subst, arith}
use Rattle.etcd_types.specs.declared.answer.Answer.{Answer}
use Rattle.etcd_types.specs.declared.answer.Answer.TheVariants as answer
use Rattle.etcd_types.specs.declared.answer.Body.{Body}
use Rattle.etcd_types.specs.declared.answer.Body.TheVariants as body
use Rattle.proxy_model.specs.declared.session.Standing.{Standing}
use Rattle.proxy_model.specs.Keyed.{at}
use Rattle.proxy_model.specs.Session.{expiry}
use Rattle.read_model.specs.Fits.{GroundOk}
use Rattle.core_model.specs.declared.out_call.OutCall.{OutCall}
use Rattle.core_model.specs.declared.out_call.OutJob.{OutJob}
use Rattle.core_model.specs.declared.out_call.OutJob.TheVariants as job
use Rattle.core_model.specs.Fits.{has_standing, is_standing}
use Rattle.core_model.specs.Lookups.{moment, reads_of}
use Rattle.core_model.specs.Sending.{session_out}
use Rattle.core_model.specs.Sessions.{without_session, is_over, seat_is_over, seat_calls, seat_granted, granted_by, grant_answered, seat_renewed, kept, kept_by, keep_answered}
use Rattle.core_model.specs.State.{Seat, Core}
use Rattle.cache_laws.specs.Moves.View.{Slot, Term, View, live, live_by}
use Rattle.cache_laws.specs.Moves.Invariant.{Inv}
use Rattle.cache_laws.specs.Moves.Sessions.{Begins, Renews, session_ended}
use Rattle.cache_laws.proofs.Moves.Numbers.{other_number}
use Rattle.cache_laws.proofs.Moves.SessionProofs.{begins_keep, renews_keep}
use Rattle.row_laws.specs.Rows.{row_of}
use Rattle.row_laws.proofs.EndRows.{session_over_turns}
use Rattle.call_laws.specs.Forms.{Grants, Keeps, IsFormed, GrantTold, KeepTold, Tells}
use Rattle.core_moves.specs.Answers.{SeatCalls, MovesIf}
use Rattle.core_moves.specs.Sees.{term_by, term_of, ground_in, Sees, Moves}
use Rattle.core_moves.proofs.Clocks.{stays_so, over_moves}
use Rattle.core_moves.proofs.Losing.{grant_fails_move, keep_fails_move}
use Rattle.core_moves.proofs.Terms.{termed_moves, expiry_within, unowned_phase}

-- Which session it is of.

abbrev lease_in : OutJob → ℕ
lease_in (job.Grant lease) = lease
lease_in (job.Keep lease) = lease
lease_in (job.Acquire k) = 0
lease_in job.Wait = 0
lease_in (job.Ask kind) = 0
lease_in (job.Group lease) = 0

granted_job : (n number : ℕ) (t : Option Standing) → job.Grant n ≡ session_out number t → (t ≡ None) × (n ≡ number)
granted_job n number None e = (refl, ap lease_in e)
granted_job n number (Some x) e = absurd (cc)

record Kept (n number : ℕ) (t : Option Standing) : Type 0 where
  standing : Standing
  is : t ≡ Some standing
  same : n ≡ number

kept_job : (n number : ℕ) (t : Option Standing) → job.Keep n ≡ session_out number t → Kept n number t
kept_job n number None e = absurd (cc)
kept_job n number (Some x) e = record { standing = x; is = refl; same = ap lease_in e }

module _ (holder : ℕ → ℕ) (v : View) (p now : ℕ) (own : ℕ → ℕ) (o : OutCall) (prefix : List ℕ) (c : Core) (s : Sees v p now own c) (h : Inv holder v) where
  -- A grant.

  granted_moves : (n asked ttl lease : ℕ) → o.job ≡ job.Grant n → GroundOk (is_standing c.seat) (ground_in c) → SeatCalls c.seat o → IsFormed prefix (Grants asked n) (v.calls (own o.call)) → (v.calls (own o.call)).at ≡ o.sent_at
      → GrantTold (v.outcomes (own o.call)).ttl (body.Grant lease ttl) → (x : Seat) → c.seat ≡ Some x → seat_calls o.call (Some x) ≡ true → Moves holder v p now own (record c { seat = seat_granted o.sent_at ttl c.seat })
  granted_moves n asked ttl lease is ground seat formed sent told x e calls =
      let sc : SeatCalls (Some x) o = subst (λ (y : Option Seat). SeatCalls y o) e seat in
      let j = granted_job n x.session.number x.session.standing (sym is ∙ sc.1 calls) in
      let deadline = expiry o.sent_at ttl in
      let tm : v.terms p ≡ term_by x.session.number None = s.term ∙ ap term_of e ∙ ap (term_by x.session.number) j.0 in
      let asks : (v.terms p).asked ≡ x.session.number = ap (λ (t : Term). t.asked) tm in
      let unowned = ground.owned (ap is_standing e ∙ ap has_standing j.0) in
      let begins : Begins v p (own o.call) deadline =
      record {
        asked = λ z. sc.0 (sym asks ∙ z);
        names = formed.2 ∙ j.1 ∙ sym asks;
        timed = told.1;
        within = expiry_within o.sent_at ttl (v.calls (own o.call)).at (v.outcomes (own o.call)).ttl sent told.0;
        not_held = λ k f. (unowned_phase (at c.own.entries k) (unowned k)).0 (sym (ap (λ (y : Slot). y.phase) (s.row k)) ∙ f);
        not_writing = λ k f. (unowned_phase (at c.own.entries k) (unowned k)).1 (sym (ap (λ (y : Slot). y.phase) (s.row k)) ∙ f);
      } in
      termed_moves holder v p now own c (record c { seat = seat_granted o.sent_at ttl c.seat }) (record { number = (v.terms p).asked; deadline = deadline; asked = 0 }) s (begins_keep holder v p (own o.call) deadline begins h)
      ((λ i. record { number = asks i; deadline = deadline; asked = 0 }) ∙ ap (λ (y : Option Seat). term_of (seat_granted o.sent_at ttl y)) (sym e)) (λ k. refl)

  pub grant_moves : (n asked : ℕ) (a : Answer) → o.job ≡ job.Grant n → GroundOk (is_standing c.seat) (ground_in c) → SeatCalls c.seat o → IsFormed prefix (Grants asked n) (v.calls (own o.call)) → (v.calls (own o.call)).at ≡ o.sent_at
      → Tells prefix (Grants asked n) (v.outcomes (own o.call)) a → MovesIf holder v p now own (grant_answered o a c)
  grant_moves n asked (answer.Refused r) is ground seat formed sent told = grant_fails_move holder v p now own o c s h
  grant_moves n asked (answer.Done reply) is ground seat formed sent told = by reply.body told
    where
      by : (b : Body) → GrantTold (v.outcomes (own o.call)).ttl b → MovesIf holder v p now own (granted_by o b c)
      by (body.Grant lease ttl) t = by_call (seat_calls o.call c.seat) refl
        where
          by_seat : (y : Option Seat) → c.seat ≡ y → seat_calls o.call y ≡ true → Moves holder v p now own (record c { seat = seat_granted o.sent_at ttl c.seat })
          by_seat None e f = absurd (cc)
          by_seat (Some x) e f = granted_moves n asked ttl lease is ground seat formed sent t x e f

          by_call : (b : Bool) → seat_calls o.call c.seat ≡ b → Moves holder v p now own (cond b (record c { seat = seat_granted o.sent_at ttl c.seat }) c)
          by_call true f = by_seat c.seat refl f
          by_call false f = stays_so holder v p now own c s h
      by (body.Range count more kvs) t = absurd t
      by (body.Put prev) t = absurd t
      by (body.Delete deleted prevs) t = absurd t
      by (body.Txn' succeeded m bodies) t = absurd t
      by body.Compact t = absurd t
      by body.Revoke t = absurd t
      by (body.KeepAlive lease ttl) t = absurd t
      by (body.TimeToLive lease ttl granted keys) t = absurd t
      by (body.Leases leases) t = absurd t

  -- A keepalive.

  renewed_moves : (n ttl lease : ℕ) → o.job ≡ job.Keep n → SeatCalls c.seat o → seat_is_over c.seat now ≡ false → IsFormed prefix (Keeps n) (v.calls (own o.call)) → (v.calls (own o.call)).at ≡ o.sent_at
      → (v.outcomes (own o.call)).ttl ≡ ttl → (ttl == 0) ≡ false → (x : Seat) → c.seat ≡ Some x → seat_calls o.call (Some x) ≡ true → Moves holder v p now own (record c { seat = seat_renewed o.sent_at ttl c.seat })
  renewed_moves n ttl lease is seat lives formed sent told some x e calls =
      let sc : SeatCalls (Some x) o = subst (λ (y : Option Seat). SeatCalls y o) e seat in
      let j = kept_job n x.session.number x.session.standing (sym is ∙ sc.1 calls) in
      let t = j.standing in
      let deadline = cond (ttl == 0) t.deadline (max t.deadline (expiry o.sent_at ttl)) in
      let tm : v.terms p ≡ term_by x.session.number (Some t) = s.term ∙ ap term_of e ∙ ap (term_by x.session.number) j.is in
      let over : is_over (Some t) now (record x.session { standing = Some t }) ≡ false = sym (ap (λ (y : Option Standing). is_over y now (record x.session { standing = y })) j.is) ∙ sym (ap (λ (y : Option Seat). seat_is_over y now) e) ∙ lives in
      let here : live v p ≡ x.session.number = (λ i. live_by (s.clock i) (tm i)) ∙ ap (λ (b : Bool). cond b x.session.number 0) (not_over (nat_lt now t.deadline) over) in
      let renews : Renews v p (own o.call) deadline =
      record {
        stands = λ z. sc.0 (sym here ∙ z);
        names = formed.1 ∙ j.same ∙ sym (ap (λ (y : Term). y.number) tm);
        timed = λ z. other_number ttl 0 some (sym told ∙ z);
        within =
            subst (λ (d : ℕ). d ≤ max (v.terms p).deadline ((v.calls (own o.call)).at + 1000 * (v.outcomes (own o.call)).ttl)) (sym (ap (λ (b : Bool). cond b t.deadline (max t.deadline (expiry o.sent_at ttl))) some))
            (subst (λ (d : ℕ). max t.deadline (expiry o.sent_at ttl) ≤ max d ((v.calls (own o.call)).at + 1000 * (v.outcomes (own o.call)).ttl)) (sym (ap (λ (y : Term). y.deadline) tm))
            (max_most t.deadline (expiry o.sent_at ttl) _ (expiry_within o.sent_at ttl (v.calls (own o.call)).at (v.outcomes (own o.call)).ttl sent told)));
      } in
      termed_moves holder v p now own c (record c { seat = seat_renewed o.sent_at ttl c.seat }) (record (v.terms p) { deadline = deadline }) s (renews_keep holder v p (own o.call) deadline renews h)
      (ap (λ (y : Term). record y { deadline = deadline }) tm ∙ sym (ap (λ (y : Option Standing). term_of (seat_renewed o.sent_at ttl (Some (record x { session = record x.session { standing = y } })))) j.is) ∙ ap (λ (y : Option Seat). term_of (seat_renewed o.sent_at ttl y)) (sym e)) (λ k. refl)
    where
      not_over : (b : Bool) → cond b false true ≡ false → b ≡ true
      not_over true f = refl
      not_over false f = absurd (cc)

      max_most : (a b m : ℕ) → b ≤ m → max a b ≤ max a m
      max_most a b m l = omega arith

  pub keep_moves : (n : ℕ) (a : Answer) → o.job ≡ job.Keep n → SeatCalls c.seat o → seat_is_over c.seat now ≡ false → IsFormed prefix (Keeps n) (v.calls (own o.call)) → (v.calls (own o.call)).at ≡ o.sent_at
      → Tells prefix (Keeps n) (v.outcomes (own o.call)) a → MovesIf holder v p now own (keep_answered now o a c)
  keep_moves n (answer.Refused r) is seat lives formed sent told = keep_fails_move holder v p now own o c s h
  keep_moves n (answer.Done reply) is seat lives formed sent told = by reply.body told
    where
      by : (b : Body) → KeepTold (v.outcomes (own o.call)).ttl b → MovesIf holder v p now own (kept_by now o b c)
      by (body.KeepAlive lease ttl) t = by_call (seat_calls o.call c.seat) refl
        where
          by_seat : (y : Option Seat) → c.seat ≡ y → seat_calls o.call y ≡ true → (ttl == 0) ≡ false → Moves holder v p now own (record c { seat = seat_renewed o.sent_at ttl c.seat })
          by_seat None e f z = absurd (cc)
          by_seat (Some x) e f z = renewed_moves n ttl lease is seat lives formed sent t z x e f

          by_time : (b : Bool) → (ttl == 0) ≡ b → seat_calls o.call c.seat ≡ true → Moves holder v p now own (cond b (without_session now c) (record c { seat = seat_renewed o.sent_at ttl c.seat }))
          by_time true z f = over_moves holder v p now own c (without_session now c) s h refl (session_over_turns (session_ended v p) p own (moment (record c { seat = None }) now) (reads_of (record c { seat = None })))
          by_time false z f = by_seat c.seat refl f z

          by_call : (b : Bool) → seat_calls o.call c.seat ≡ b → Moves holder v p now own (cond b (kept now o ttl c) c)
          by_call true f = by_time (ttl == 0) refl f
          by_call false f = stays_so holder v p now own c s h
      by (body.Range count more kvs) t = absurd t
      by (body.Put prev) t = absurd t
      by (body.Delete deleted prevs) t = absurd t
      by (body.Txn' succeeded m bodies) t = absurd t
      by body.Compact t = absurd t
      by (body.Grant lease ttl) t = absurd t
      by body.Revoke t = absurd t
      by (body.TimeToLive lease ttl granted keys) t = absurd t
      by (body.Leases leases) t = absurd t
