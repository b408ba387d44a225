-- What holds of each holds of what is found.
use Rattle.std.proofs.Common.{◌≡◌, ℕ, ◌==◌, Bool, true, false, cond, ◌||◌, List, [], ◌∷◌, map, filter, Option, Some, refl, sym, ◌∙◌, ap, subst}
use Rattle.etcd_types.proofs.Bools.{or_left, or_right}
use Rattle.wait_model.specs.declared.sending.Sending.TheVariants as sending
use Rattle.wait_model.specs.declared.write.Write.{Write}
use Rattle.wait_model.specs.Writes.{first_by, has_ticket}
use Rattle.read_model.specs.declared.asked.Asked.{Asked}
use Rattle.read_model.specs.TakingOff.{is_writes}
use Rattle.core_model.specs.declared.out_call.OutCall.{OutCall}
use Rattle.core_model.specs.declared.out_call.OutJob.{OutJob}
use Rattle.core_model.specs.Fits.{has_number, writing_tickets, write_tickets, passes, is_session_job, is_call_out, is_seat_out, job_at}
use Rattle.core_model.specs.Lookups.{ask_at, out_at}
use Rattle.core_model.specs.Sessions.{is_sent_as}
use Rattle.core_model.specs.State.{Seat}
use Rattle.core_laws.proofs.Steps.Comes.{by_test}
use Rattle.core_laws.proofs.Steps.Lists.{same_number, number_itself}
use Rattle.core_fits.specs.Fits.{EachOf, IsSame, IsSeatsCall, SeatHasItsJob}
use Rattle.core_fits.specs.Found.{WritingRequestsHaveWrites, SessionsCallIsOut}

-- of a request, by its ticket
pub each_ask : (P : Asked → Type 0) (ticket : ℕ) (xs : List Asked) (a : Asked) → EachOf P xs → ask_at ticket xs ≡ Some a → P a
each_ask P ticket [] a h e = absurd (cc)
each_ask P ticket (x ∷ xs) a h e =
    by_test (λ (o : Option Asked). o ≡ Some a → P a) (x.ticket == ticket) (Some x) (ask_at ticket xs) (λ t k. let i : x ≡ a = cc in subst P i h.0) (λ t k. each_ask P ticket xs a h.1 k) e

-- of the first write that passes
pub each_write : (P : Write → Type 0) (p : Write → Bool) (ws : List Write) (w : Write) → EachOf P ws → first_by p ws ≡ Some w → P w
each_write P p [] w h e = absurd (cc)
each_write P p (v ∷ ws) w h e =
    by_test (λ (o : Option Write). o ≡ Some w → P w) (p v) (Some v) (first_by p ws) (λ t k. let i : v ≡ w = cc in subst P i h.0) (λ t k. each_write P p ws w h.1 k) e

-- of a call that is out, by its number
pub each_out : (P : OutCall → Type 0) (call : ℕ) (out : List OutCall) (o : OutCall) → EachOf P out → out_at call out ≡ Some o → P o
each_out P call [] o h e = absurd (cc)
each_out P call (x ∷ out) o h e =
    by_test (λ (i : Option OutCall). i ≡ Some o → P o) (x.call == call) (Some x) (out_at call out) (λ t k. let i : x ≡ o = cc in subst P i h.0) (λ t k. each_out P call out o h.1 k) e

-- Tickets of what is found.

pub ask_ticket : (ticket : ℕ) (xs : List Asked) (a : Asked) → ask_at ticket xs ≡ Some a → a.ticket ≡ ticket
ask_ticket ticket [] a e = absurd (cc)
ask_ticket ticket (x ∷ xs) a e =
    by_test (λ (o : Option Asked). o ≡ Some a → a.ticket ≡ ticket) (x.ticket == ticket) (Some x) (ask_at ticket xs) (λ t k. let i : x ≡ a = cc in ap (λ (y : Asked). y.ticket) (sym i) ∙ same_number x.ticket ticket t) (λ t k. ask_ticket ticket xs a k) e

pub out_number : (call : ℕ) (out : List OutCall) (o : OutCall) → out_at call out ≡ Some o → o.call ≡ call
out_number call [] o e = absurd (cc)
out_number call (x ∷ out) o e =
    by_test (λ (i : Option OutCall). i ≡ Some o → o.call ≡ call) (x.call == call) (Some x) (out_at call out) (λ t k. let i : x ≡ o = cc in ap (λ (y : OutCall). y.call) (sym i) ∙ same_number x.call call t) (λ t k. out_number call out o k) e

-- A request at the stage of writes is among the tickets of writes.

is_among : (ticket : ℕ) (xs : List Asked) (a : Asked) → ask_at ticket xs ≡ Some a → is_writes a.stage ≡ true → has_number (writing_tickets xs) ticket ≡ true
is_among ticket [] a e w = absurd (cc)
is_among ticket (x ∷ xs) a e w = by_head (λ k. is_among ticket xs a k w) (x.ticket == ticket) refl e
  where
    tickets : Bool → List ℕ
    tickets b = map (λ (y : Asked). y.ticket) (cond b (x ∷ filter (λ y. is_writes y.stage) xs) (filter (λ y. is_writes y.stage) xs))

    later : (b : Bool) → has_number (writing_tickets xs) ticket ≡ true → has_number (tickets b) ticket ≡ true
    later true t = or_right (x.ticket == ticket) (has_number (writing_tickets xs) ticket) t
    later false t = t

    here : (x.ticket == ticket) ≡ true → (b : Bool) → b ≡ true → has_number (tickets b) ticket ≡ true
    here t true e = or_left (x.ticket == ticket) (has_number (writing_tickets xs) ticket) t
    here t false e = absurd (cc)

    by_head : (ask_at ticket xs ≡ Some a → has_number (writing_tickets xs) ticket ≡ true) → (b : Bool) → (x.ticket == ticket) ≡ b → cond b (Some x) (ask_at ticket xs) ≡ Some a → has_number (writing_tickets (x ∷ xs)) ticket ≡ true
    by_head more true t k = let i : x ≡ a = cc in here t (is_writes x.stage) (ap (λ (y : Asked). is_writes y.stage) i ∙ w)
    by_head more false t k = later (is_writes x.stage) (more k)

record First (ticket : ℕ) (ws : List Write) : Type 0 where
  write : Write
  found : first_by (has_ticket ticket) ws ≡ Some write
  named : write.ticket ≡ ticket

first_write : (ticket : ℕ) (ws : List Write) → has_number (write_tickets ws) ticket ≡ true → First ticket ws
first_write ticket [] h = absurd (cc)
first_write ticket (w ∷ ws) h = by_head (λ k. first_write ticket ws k) (w.ticket == ticket) refl h
  where
    by_head : (has_number (write_tickets ws) ticket ≡ true → First ticket ws) → (b : Bool) → (w.ticket == ticket) ≡ b → b || has_number (write_tickets ws) ticket ≡ true → First ticket (w ∷ ws)
    by_head more true t k = record { write = w; found = ap (λ b. cond b (Some w) (first_by (has_ticket ticket) ws)) t; named = same_number w.ticket ticket t }
    by_head more false t k = let f = more k in record { write = f.write; found = ap (λ b. cond b (Some w) (first_by (has_ticket ticket) ws)) t ∙ f.found; named = f.named }

pub writing_found : WritingRequestsHaveWrites
writing_found c ticket a k h e w =
    let ws = c.own.waits.writes in
    let f = first_write ticket ws (ap (λ (ns : List ℕ). has_number ns ticket) k.agrees.asks.writes ∙ is_among ticket c.asks a e w) in
    let s = each_write (IsSame a) (has_ticket ticket) ws f.write (each_ask (λ (b : Asked). EachOf (IsSame b) ws) ticket c.asks a h e) f.found in
    record { write = f.write; found = f.found; same = s (f.named ∙ sym (ask_ticket ticket c.asks a e)) }

-- The session's call.

record Out (call : ℕ) (out : List OutCall) : Type 0 where
  call_out : OutCall
  found : out_at call out ≡ Some call_out

out_found : (p : OutJob → Bool) (call : ℕ) (out : List OutCall) → passes p (job_at call out) ≡ true → Out call out
out_found p call [] h = absurd (cc)
out_found p call (o ∷ out) h = by_head (λ k. out_found p call out k) (o.call == call) refl h
  where
    by_head : (passes p (job_at call out) ≡ true → Out call out) → (b : Bool) → (o.call == call) ≡ b → passes p (cond b (Some o.job) (job_at call out)) ≡ true → Out call (o ∷ out)
    by_head more true t k = record { call_out = o; found = ap (λ b. cond b (Some o) (out_at call out)) t }
    by_head more false t k = let f = more k in record { call_out = f.call_out; found = ap (λ b. cond b (Some o) (out_at call out)) t ∙ f.found }

pub session_found : SessionsCallIsOut
session_found c s call k h e is =
    let seated : is_call_out s.session.standing c.out (Some (sending.Out call)) ≡ true = ap (is_call_out s.session.standing c.out) (sym is) ∙ subst (λ (x : Option Seat). is_seat_out c.out x ≡ true) e k.agrees.out.seat in
    let f = out_found (is_session_job s.session.standing) call c.out seated in
    let each : EachOf (IsSeatsCall s.session s.call) c.out = subst (λ (x : Option Seat). SeatHasItsJob x c.out) e h.seat_job in
    let calls : is_sent_as f.call_out.call s.call ≡ true = ap (is_sent_as f.call_out.call) is ∙ ap (λ (n : ℕ). call == n) (out_number call c.out f.call_out f.found) ∙ number_itself call in
    record { out = f.call_out; found = f.found; job = each_out (IsSeatsCall s.session s.call) call c.out f.call_out each f.found calls }
