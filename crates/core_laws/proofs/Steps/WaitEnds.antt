-- What the end of a call does to the writes: the one that it is of goes on, or is taken out with what its request is told; after it
-- no write has that call.
use Rattle.std.proofs.Common.{◌≡◌, ℕ, ◌+◌, ◌==◌, Bool, true, false, not, cond, ◌&&◌, ◌||◌, List, [], ◌∷◌, map, Option, None, Some, refl, sym, ◌∙◌, ap, subst}
use Rattle.std.specs.List.{list_any, list_all}
use Rattle.etcd_types.specs.declared.answer.Answer.{Answer}
use Rattle.etcd_types.specs.declared.answer.Answer.TheVariants as answer
use Rattle.etcd_types.proofs.Bools.{and_first, and_second, and_both, or_first, or_second, or_none, not_true, false_not}
use Rattle.proxy_model.specs.declared.ownership.Owner.{Owner}
use Rattle.proxy_model.specs.declared.ownership.Written.{Written}
use Rattle.proxy_model.specs.declared.ownership.Written.TheVariants.{Wrote, Blocked}
use Rattle.proxy_model.specs.Guarded.{written}
use Rattle.proxy_model.specs.Keyed.{Keyed, at, with_at}
use Rattle.proxy_model.specs.Leaving.{guard_held}
use Rattle.proxy_model.specs.Limits.{capped}
use Rattle.wait_model.specs.declared.found.Asking.{Asking}
use Rattle.wait_model.specs.declared.found.Asking.TheVariants as asking
use Rattle.wait_model.specs.declared.found.Found.{Found}
use Rattle.wait_model.specs.declared.sending.Sending.TheVariants as sending
use Rattle.wait_model.specs.declared.wait.Settled.{Settled}
use Rattle.wait_model.specs.declared.wait.Settled.TheVariants as settled
use Rattle.wait_model.specs.declared.wait.WaitCall.{WaitCall}
use Rattle.wait_model.specs.declared.wait.WaitJob.{WaitJob}
use Rattle.wait_model.specs.declared.wait.WaitJob.TheVariants as job
use Rattle.wait_model.specs.declared.write.Write.{Write}
use Rattle.wait_model.specs.declared.write.WriteStage.{WriteStage}
use Rattle.wait_model.specs.declared.write.WriteStage.TheVariants.{Waiting, Sends, Finds}
use Rattle.wait_model.specs.Covers.{is_single}
use Rattle.wait_model.specs.Edits.{without}
use Rattle.wait_model.specs.Endings.{revoke_back, revoke_answered, answered_job, without_out, answered, lost_job, lost, forgotten_by, forgotten}
use Rattle.wait_model.specs.Fits.{is_proper}
use Rattle.wait_model.specs.ForeignOwnership.{by_key, others, found_of, finding, asked_back, stage_asked}
use Rattle.wait_model.specs.GuardedAnswers.{Ending, staged_by, owns_at, other_owners, kept_entries, done_if, write_answered, write_lost}
use Rattle.wait_model.specs.Leaving.{rest as quiet_time, rescinded, if_read, rescind_answered}
use Rattle.wait_model.specs.Phases.{is_of}
use Rattle.wait_model.specs.Stages.{staged, is_owner}
use Rattle.wait_model.specs.State.{Ownership}
use Rattle.wait_model.specs.Writes.{first_by, without_first, with_first, asking_as, is_asked_as, stage_sends, sends, stage_asks, asks, has_ticket, job_of, without_call}
use Rattle.core_laws.proofs.Writes.FoundWrite.{head_found, rest_found}
use Rattle.core_laws.proofs.Writes.Kept.{first_passes}
use Rattle.core_model.specs.Fits.{has_number, once, passes, is_write_job, is_revoke_of, is_asking_out, is_found_out, is_write_out, HaveRanges, WritesOk, write_tickets}
use Rattle.core_laws.proofs.Steps.Lists.{same_number, number_turned, number_itself, one, one_is, none_is_one, but, but_none}
use Rattle.core_laws.proofs.Steps.Comes.{by_test, Calms, calm_due, stage_asked_calms, owner_asked, AllCome, all_itself, first_staged, come_none, come_writes}

-- Which calls stand at writes.

pub passed_on : {A : Type 0} (p q : A → Bool) → ((a : A) → p a ≡ true → q a ≡ true) → (o : Option A) → passes p o ≡ true → passes q o ≡ true
passed_on p q f None h = absurd (cc)
passed_on p q f (Some a) h = f a h

pub none_by : {A : Type 0} (P p : A → Bool) → ((a : A) → P a ≡ true → p a ≡ true → ⊥) → (xs : List A) → list_all P xs ≡ true → list_any p xs ≡ false
none_by P p f [] h = refl
none_by P p f (x ∷ xs) h = or_none (p x) (list_any p xs) (by_value (p x) refl) (none_by P p f xs (and_second (P x) (list_all P xs) h))
  where
    by_value : (b : Bool) → p x ≡ b → p x ≡ false
    by_value true t = absurd (f x (and_first (P x) (list_all P xs) h) t)
    by_value false t = t

abbrev pub is_revoke_job : WaitJob → Bool
is_revoke_job (job.Revoke k) = true
is_revoke_job _ = false

revoke_is : (k : List ℕ) (j : WaitJob) → is_revoke_of k j ≡ true → is_revoke_job j ≡ true
revoke_is k (job.Revoke i) h = refl
revoke_is k (job.Rescind i create) h = absurd (cc)
revoke_is k job.Write h = absurd (cc)

sends_job : (waiting : List WaitCall) (call : ℕ) (s : WriteStage) → is_write_out waiting s ≡ true → stage_sends call s ≡ true → passes is_write_job (job_of call waiting) ≡ true
sends_job waiting call Waiting h t = absurd (cc)
sends_job waiting call (Sends owner (sending.Due since)) h t = absurd (cc)
sends_job waiting call (Sends owner (sending.Out n)) h t = subst (λ (m : ℕ). passes is_write_job (job_of m waiting) ≡ true) (same_number n call t) h
sends_job waiting call (Finds found) h t = absurd (cc)

asking_job : (waiting : List WaitCall) (call : ℕ) (k : List ℕ) (r : Asking) → is_asking_out waiting k r ≡ true → asking_as call r ≡ true → passes is_revoke_job (job_of call waiting) ≡ true
asking_job waiting call k (asking.Due since) h t = absurd (cc)
asking_job waiting call k (asking.Out n) h t = passed_on (is_revoke_of k) is_revoke_job (revoke_is k) (job_of call waiting) (subst (λ (m : ℕ). passes (is_revoke_of k) (job_of m waiting) ≡ true) (same_number n call t) h)
asking_job waiting call k asking.Done h t = absurd (cc)

asks_job : (waiting : List WaitCall) (call : ℕ) (s : WriteStage) → is_write_out waiting s ≡ true → stage_asks call s ≡ true → passes is_revoke_job (job_of call waiting) ≡ false → ⊥
asks_job waiting call Waiting h t n = absurd (cc)
asks_job waiting call (Sends owner s) h t n = absurd (cc)
asks_job waiting call (Finds found) h t n =
    let e = none_by (is_found_out waiting) (is_asked_as call) (λ f u v. absurd (let x = asking_job waiting call f.key f.revoke u v in cc)) found h in cc

pub nobody_sends : (waiting : List WaitCall) (call : ℕ) (ws : List Write) → passes is_write_job (job_of call waiting) ≡ false → list_all (λ w. is_write_out waiting w.stage) ws ≡ true → list_any (sends call) ws ≡ false
nobody_sends waiting call ws n h = none_by (λ w. is_write_out waiting w.stage) (sends call) (λ w u v. absurd (let x = sends_job waiting call w.stage u v in cc)) ws h

pub nobody_asks : (waiting : List WaitCall) (call : ℕ) (ws : List Write) → passes is_revoke_job (job_of call waiting) ≡ false → list_all (λ w. is_write_out waiting w.stage) ws ≡ true → list_any (asks call) ws ≡ false
nobody_asks waiting call ws n h = none_by (λ w. is_write_out waiting w.stage) (asks call) (λ w u v. asks_job waiting call w.stage u v n) ws h

-- Without the first, or with it at another stage.

removed_none : (p : Write → Bool) (ws : List Write) → one p ws ≡ true → list_any p (without_first p ws) ≡ false
removed_none p [] h = refl
removed_none p (w ∷ ws) h = by_head (λ t. removed_none p ws t) (p w) refl h
  where
    by_head : (one p ws ≡ true → list_any p (without_first p ws) ≡ false) → (b : Bool) → p w ≡ b → cond b (not (list_any p ws)) (one p ws) ≡ true → list_any p (cond b ws (w ∷ without_first p ws)) ≡ false
    by_head i true t h = not_true (list_any p ws) h
    by_head i false t h = or_none (p w) (list_any p (without_first p ws)) t (i h)

removed_less : (p q : Write → Bool) (ws : List Write) → list_any q ws ≡ false → list_any q (without_first p ws) ≡ false
removed_less p q [] h = refl
removed_less p q (w ∷ ws) h = by_head (removed_less p q ws (or_second (q w) (list_any q ws) h)) (p w)
  where
    by_head : list_any q (without_first p ws) ≡ false → (b : Bool) → list_any q (cond b ws (w ∷ without_first p ws)) ≡ false
    by_head i true = or_second (q w) (list_any q ws) h
    by_head i false = or_none (q w) (list_any q (without_first p ws)) (or_first (q w) (list_any q ws) h) i

staged_none : (p : Write → Bool) (s : WriteStage) → ((w : Write) → p (staged w s) ≡ false) → (ws : List Write) → one p ws ≡ true → list_any p (with_first p s ws) ≡ false
staged_none p s n [] h = refl
staged_none p s n (w ∷ ws) h = by_head (λ t. staged_none p s n ws t) (p w) refl h
  where
    by_head : (one p ws ≡ true → list_any p (with_first p s ws) ≡ false) → (b : Bool) → p w ≡ b → cond b (not (list_any p ws)) (one p ws) ≡ true → list_any p (cond b (staged w s ∷ ws) (w ∷ with_first p s ws)) ≡ false
    by_head i true t h = or_none (p (staged w s)) (list_any p ws) (n w) (not_true (list_any p ws) h)
    by_head i false t h = or_none (p w) (list_any p (with_first p s ws)) t (i h)

all_removed : (P p : Write → Bool) (ws : List Write) → list_all P ws ≡ true → list_all P (without_first p ws) ≡ true
all_removed P p [] h = refl
all_removed P p (w ∷ ws) h = by_head (all_removed P p ws (and_second (P w) (list_all P ws) h)) (p w)
  where
    by_head : list_all P (without_first p ws) ≡ true → (b : Bool) → list_all P (cond b ws (w ∷ without_first p ws)) ≡ true
    by_head i true = and_second (P w) (list_all P ws) h
    by_head i false = and_both (P w) (list_all P (without_first p ws)) (and_first (P w) (list_all P ws) h) i

one_removed : (q p : Write → Bool) (ws : List Write) → one q ws ≡ true → one q (without_first p ws) ≡ true
one_removed q p [] h = refl
one_removed q p (w ∷ ws) h = by_head (λ t. one_removed q p ws t) (p w) (q w) refl h
  where
    by_head : (one q ws ≡ true → one q (without_first p ws) ≡ true) → (b c : Bool) → q w ≡ c → cond c (not (list_any q ws)) (one q ws) ≡ true → one q (cond b ws (w ∷ without_first p ws)) ≡ true
    by_head i true true t h = sym (one_is q ws) ∙ none_is_one q ws (not_true (list_any q ws) h)
    by_head i true false t h = h
    by_head i false true t h = ap (λ d. cond d (not (list_any q (without_first p ws))) (one q (without_first p ws))) t ∙ false_not (list_any q (without_first p ws)) (removed_less p q ws (not_true (list_any q ws) h))
    by_head i false false t h = ap (λ d. cond d (not (list_any q (without_first p ws))) (one q (without_first p ws))) t ∙ i h

pub removed_writes : (p : Write → Bool) (ws : List Write) (waiting : List WaitCall) → HaveRanges (without_first p ws) → WritesOk ws waiting → WritesOk (without_first p ws) waiting
removed_writes p ws waiting r h = record {
  proper = all_removed is_proper p ws h.proper;
  ranges = r;
  out = all_removed (λ w. is_write_out waiting w.stage) p ws h.out;
  sends_once = λ call. one_is (sends call) (without_first p ws) ∙ one_removed (sends call) p ws (sym (one_is (sends call) ws) ∙ h.sends_once call);
  asks_once = λ call. one_is (asks call) (without_first p ws) ∙ one_removed (asks call) p ws (sym (one_is (asks call) ws) ∙ h.asks_once call);
}

-- its ticket is gone, and the others are in the same order

pub found_ticket : (p : Write → Bool) (w : Write) (ws : List Write) → first_by p ws ≡ Some w → has_number (write_tickets ws) w.ticket ≡ true
found_ticket p w [] f = absurd (cc)
found_ticket p w (v ∷ vs) f = by_head (λ t. found_ticket p w vs t) (p v) refl
  where
    either : (b : Bool) → has_number (write_tickets vs) w.ticket ≡ true → b || has_number (write_tickets vs) w.ticket ≡ true
    either true h = refl
    either false h = h

    by_head : (first_by p vs ≡ Some w → has_number (write_tickets vs) w.ticket ≡ true) → (b : Bool) → p v ≡ b → (v.ticket == w.ticket) || has_number (write_tickets vs) w.ticket ≡ true
    by_head i true t = subst (λ (x : Write). (v.ticket == x.ticket) || has_number (write_tickets vs) x.ticket ≡ true) (head_found p v w vs t f) (ap (λ b. b || has_number (write_tickets vs) v.ticket) (number_itself v.ticket))
    by_head i false t = either (v.ticket == w.ticket) (i (rest_found p v w vs t f))

pub removed_tickets : (p : Write → Bool) (w : Write) (ws : List Write) → first_by p ws ≡ Some w → once (write_tickets ws) ≡ true → write_tickets (without_first p ws) ≡ but w.ticket (write_tickets ws)
removed_tickets p w [] f h = absurd (cc)
removed_tickets p w (v ∷ vs) f h = by_head (λ t u. removed_tickets p w vs t u) (p v) refl
  where
    new : has_number (write_tickets vs) v.ticket ≡ false
    new = not_true (has_number (write_tickets vs) v.ticket) (and_first (not (has_number (write_tickets vs) v.ticket)) (once (write_tickets vs)) h)

    rest : once (write_tickets vs) ≡ true
    rest = and_second (not (has_number (write_tickets vs) v.ticket)) (once (write_tickets vs)) h

    other : (b : Bool) → (v.ticket == w.ticket) ≡ b → has_number (write_tickets vs) w.ticket ≡ true → (v.ticket == w.ticket) ≡ false
    other true e t = absurd (let u = ap (has_number (write_tickets vs)) (same_number v.ticket w.ticket e) in let n = new in cc)
    other false e t = e

    by_head : (first_by p vs ≡ Some w → once (write_tickets vs) ≡ true → write_tickets (without_first p vs) ≡ but w.ticket (write_tickets vs)) → (b : Bool) → p v ≡ b → write_tickets (cond b vs (v ∷ without_first p vs)) ≡ cond (not (v.ticket == w.ticket)) (v.ticket ∷ but w.ticket (write_tickets vs)) (but w.ticket (write_tickets vs))
    by_head i true t =
        let e = head_found p v w vs t f in
        sym (subst (λ (x : Write). cond (not (v.ticket == x.ticket)) (v.ticket ∷ but x.ticket (write_tickets vs)) (but x.ticket (write_tickets vs)) ≡ write_tickets vs) e (ap (λ b. cond (not b) (v.ticket ∷ but v.ticket (write_tickets vs)) (but v.ticket (write_tickets vs))) (number_itself v.ticket) ∙ but_none v.ticket (write_tickets vs) new))
    by_head i false t =
        let g = rest_found p v w vs t f in
        ap (λ l. v.ticket ∷ l) (i g rest) ∙ sym (ap (λ b. cond (not b) (v.ticket ∷ but w.ticket (write_tickets vs)) (but w.ticket (write_tickets vs))) (other (v.ticket == w.ticket) refl (found_ticket p w vs g)))

-- What an ending does.

pub record IsRemoved (ticket : ℕ) (ws vs : List Write) : Type 0 where
  pub test : Write → Bool
  pub write : Write
  pub first : first_by test ws ≡ Some write
  pub named : ticket ≡ write.ticket
  pub rest : vs ≡ without_first test ws

abbrev pub EndsAs : List Write → Settled → List Write → Type 0
EndsAs ws settled.Nothing vs = AllCome ws vs
EndsAs ws (settled.Reply ticket a) vs = IsRemoved ticket ws vs
EndsAs ws (settled.Failed ticket) vs = IsRemoved ticket ws vs

pub record Ended (call : ℕ) (own : Ownership) (x : Ending) : Type 0 where
  pub how : EndsAs own.waits.writes x.settled x.own.waits.writes
  pub sends : list_any (sends call) x.own.waits.writes ≡ false
  pub asks : list_any (asks call) x.own.waits.writes ≡ false
  pub out : x.own.waits.out ≡ own.waits.out

abbrev pub EndedIf : ℕ → Ownership → Option Ending → Type 0
EndedIf call own None = Unit {0}
EndedIf call own (Some x) = Ended call own x

-- its call is none of the writes'
pub record Nobody (call : ℕ) (ws : List Write) : Type 0 where
  pub sends : list_any (sends call) ws ≡ false
  pub asks : list_any (asks call) ws ≡ false

stays : (call : ℕ) (own next : Ownership) → next.waits.writes ≡ own.waits.writes → next.waits.out ≡ own.waits.out → Nobody call own.waits.writes → Ended call own (record { own = next; settled = settled.Nothing })
stays call own next e f n = record {
  how = subst (AllCome own.waits.writes) (sym e) (all_itself own.waits.writes);
  sends = ap (list_any (sends call)) e ∙ n.sends;
  asks = ap (list_any (asks call)) e ∙ n.asks;
  out = f;
}

none_found : (p : Write → Bool) (ws : List Write) → first_by p ws ≡ None → list_any p ws ≡ false
none_found p [] f = refl
none_found p (v ∷ vs) f = by_head (λ t. none_found p vs t) (p v) f
  where
    by_head : (first_by p vs ≡ None → list_any p vs ≡ false) → (b : Bool) → cond b (Some v) (first_by p vs) ≡ None → b || list_any p vs ≡ false
    by_head i true f = absurd (cc)
    by_head i false f = i f

-- A write's own call.

found_calms : (s : WriteStage) (step : ℕ) (os : Keyed Owner) → Calms s (Finds (map (found_of step) os))
found_calms s step os = record { out = λ waiting h. all_due waiting os; sends = λ call h. absurd (cc); asks = λ call h. absurd (let n = none_due call os in cc) }
  where
    all_due : (waiting : List WaitCall) (os : Keyed Owner) → list_all (is_found_out waiting) (map (found_of step) os) ≡ true
    all_due waiting [] = refl
    all_due waiting (o ∷ os) = all_due waiting os

    none_due : (call : ℕ) (os : Keyed Owner) → list_any (is_asked_as call) (map (found_of step) os) ≡ false
    none_due call [] = refl
    none_due call (o ∷ os) = none_due call os

-- the first goes on at this stage, at which nothing is out
goes_to : (call : ℕ) (p : Write → Bool) (w : Write) (s : WriteStage) (own next : Ownership) → first_by p own.waits.writes ≡ Some w → next.waits.writes ≡ with_first p s own.waits.writes → next.waits.out ≡ own.waits.out → (is_owner s ≡ true → is_owner w.stage ≡ true) → Calms w.stage s → list_any (sends call) (with_first p s own.waits.writes) ≡ false → list_any (asks call) (with_first p s own.waits.writes) ≡ false → Ended call own (record { own = next; settled = settled.Nothing })
goes_to call p w s own next f e g o c n m = record {
  how = subst (AllCome own.waits.writes) (sym e) (first_staged p w s o c own.waits.writes f);
  sends = ap (list_any (sends call)) e ∙ n;
  asks = ap (list_any (asks call)) e ∙ m;
  out = g;
}

sends_go : (call : ℕ) (w : Write) (s : WriteStage) (own next : Ownership) → first_by (sends call) own.waits.writes ≡ Some w → one (sends call) own.waits.writes ≡ true → list_any (asks call) own.waits.writes ≡ false → next.waits.writes ≡ with_first (sends call) s own.waits.writes → next.waits.out ≡ own.waits.out → is_owner s ≡ false → stage_sends call s ≡ false → Calms w.stage s → Ended call own (record { own = next; settled = settled.Nothing })
sends_go call w s own next f h n e g o t c =
    let q = first_staged (sends call) w s (λ u. absurd (cc)) c own.waits.writes f in
    goes_to call (sends call) w s own next f e g (λ u. absurd (cc)) c (staged_none (sends call) s (λ v. t) own.waits.writes h) (come_none (asks call) (λ x y z. z.calm.asks call) own.waits.writes (with_first (sends call) s own.waits.writes) q n)

done_ends : (session : Option ℕ) (call : ℕ) (w : Write) (o : Option Written) (own : Ownership) → first_by (sends call) own.waits.writes ≡ Some w → one (sends call) own.waits.writes ≡ true → list_any (asks call) own.waits.writes ≡ false → EndedIf call own (done_if session (sends call) w o own)
done_ends session call w None own f h n = tt
done_ends session call w (Some (Wrote reply)) own f h n = record {
  how = record { test = sends call; write = w; first = f; named = refl; rest = refl };
  sends = removed_none (sends call) own.waits.writes h;
  asks = removed_less (sends call) (asks call) own.waits.writes n;
  out = refl;
}
done_ends session call w (Some (Blocked os)) own f h n =
    by_test (λ (next : Ownership). Ended call own (record { own = next; settled = settled.Nothing })) (is_owner w.stage && is_single w.request)
    (staged_by own (without (owns_at w own.entries) own.entries) (sends call) (Sends false (sending.Due own.waits.step)))
    (finding session (sends call) (by_key [] (other_owners w own.entries os)) own (kept_entries w os own.entries))
    (λ t. sends_go call w (Sends false (sending.Due own.waits.step)) own (staged_by own (without (owns_at w own.entries) own.entries) (sends call) (Sends false (sending.Due own.waits.step))) f h n refl refl refl refl (calm_due w.stage false own.waits.step))
    (λ t.
    let xs = others session (kept_entries w os own.entries) (by_key [] (other_owners w own.entries os)) in
    sends_go call w (Finds (map (found_of own.waits.step) xs)) own (finding session (sends call) (by_key [] (other_owners w own.entries os)) own (kept_entries w os own.entries)) f h n refl refl refl refl (found_calms w.stage own.waits.step xs))

write_ends : (session : Option ℕ) (call : ℕ) (o : Option Write) (a : Answer) (own : Ownership) → first_by (sends call) own.waits.writes ≡ o → one (sends call) own.waits.writes ≡ true → list_any (asks call) own.waits.writes ≡ false → EndedIf call own (write_answered session (sends call) o a own)
write_ends session call None a own f h n = stays call own own refl refl (record { sends = none_found (sends call) own.waits.writes f; asks = n })
write_ends session call (Some w) (answer.Done reply) own f h n = done_ends session call w (written own.waits.prefix w.request reply) own f h n
write_ends session call (Some w) (answer.Refused r) own f h n = record {
  how = record { test = sends call; write = w; first = f; named = refl; rest = refl };
  sends = removed_none (sends call) own.waits.writes h;
  asks = removed_less (sends call) (asks call) own.waits.writes n;
  out = refl;
}

-- A revoke call.

asked_none : (call : ℕ) (held : Bool) (s : WriteStage) → stage_asks call (stage_asked call held s) ≡ false
asked_none call held Waiting = refl
asked_none call held (Sends owner s) = refl
asked_none call held (Finds found) = each found
  where
    each : (fs : List Found) → list_any (is_asked_as call) (map (asked_back call held) fs) ≡ false
    each [] = refl
    each (f ∷ fs) =
        or_none (is_asked_as call (asked_back call held f)) (list_any (is_asked_as call) (map (asked_back call held) fs))
        (by_test (λ (x : Found). is_asked_as call x ≡ false) (is_asked_as call f) (record f { gone = f.gone || not held; revoke = asking.Done }) f (λ t. refl) (λ t. t))
        (each fs)

back_ends : (call : ℕ) (w : Write) (o : Option Bool) (own : Ownership) → first_by (asks call) own.waits.writes ≡ Some w → one (asks call) own.waits.writes ≡ true → list_any (sends call) own.waits.writes ≡ false → EndedIf call own (revoke_back (asks call) call w o own)
back_ends call w None own f h n = tt
back_ends call w (Some held) own f h n =
    let s = stage_asked call held w.stage in
    let q = first_staged (asks call) w s (owner_asked call held w.stage) (stage_asked_calms call held w.stage) own.waits.writes f in
    goes_to call (asks call) w s own (staged_by own own.entries (asks call) s) f refl refl (owner_asked call held w.stage) (stage_asked_calms call held w.stage) (come_none (sends call) (λ x y z. z.calm.sends call) own.waits.writes (with_first (asks call) s own.waits.writes) q n) (staged_none (asks call) s (λ v. asked_none call held w.stage) own.waits.writes h)

revoke_ends : (call : ℕ) (o : Option Write) (a : Answer) (own : Ownership) → first_by (asks call) own.waits.writes ≡ o → one (asks call) own.waits.writes ≡ true → list_any (sends call) own.waits.writes ≡ false → EndedIf call own (revoke_answered (asks call) call o a own)
revoke_ends call None a own f h n = stays call own own refl refl (record { sends = n; asks = none_found (asks call) own.waits.writes f })
revoke_ends call (Some w) (answer.Done reply) own f h n = back_ends call w (guard_held reply.body) own f h n
revoke_ends call (Some w) (answer.Refused r) own f h n = record {
  how = record { test = asks call; write = w; first = f; named = refl; rest = refl };
  sends = removed_less (asks call) (sends call) own.waits.writes n;
  asks = removed_none (asks call) own.waits.writes h;
  out = refl;
}

-- A rescind.

read_ends : (call : ℕ) (o : Option Bool) (own next : Ownership) → next.waits.writes ≡ own.waits.writes → next.waits.out ≡ own.waits.out → Nobody call own.waits.writes → EndedIf call own (if_read o next)
read_ends call None own next e f n = tt
read_ends call (Some held) own next e f n = stays call own next e f n

rescind_ends : (call : ℕ) (a : Answer) (own next : Ownership) → next.waits.writes ≡ own.waits.writes → next.waits.out ≡ own.waits.out → Nobody call own.waits.writes → EndedIf call own (rescind_answered a next)
rescind_ends call (answer.Done reply) own next e f n = read_ends call (guard_held reply.body) own next e f n
rescind_ends call (answer.Refused r) own next e f n = stays call own next e f n

rescinded_waits : (k : List ℕ) (create now : ℕ) (own : Ownership) → ((rescinded k create now own).waits.writes ≡ own.waits.writes) × ((rescinded k create now own).waits.out ≡ own.waits.out)
rescinded_waits k create now own =
    by_test (λ (x : Ownership). (x.waits.writes ≡ own.waits.writes) × (x.waits.out ≡ own.waits.out)) (is_of create (at own.entries k)) (record { entries = with_at own.entries k None; waits = record own.waits { quiet = with_at own.waits.quiet k (Some (capped (now + quiet_time))) } }) own (λ t. (refl, refl)) (λ t. (refl, refl))

-- A call is answered, or lost; what stands before it fits.

nobody : (call : ℕ) (own : Ownership) → WritesOk own.waits.writes own.waits.out → passes is_write_job (job_of call own.waits.out) ≡ false → passes is_revoke_job (job_of call own.waits.out) ≡ false → Nobody call own.waits.writes
nobody call own h s r = record { sends = nobody_sends own.waits.out call own.waits.writes s h.out; asks = nobody_asks own.waits.out call own.waits.writes r h.out }

pub answered_ends : (call : ℕ) (a : Answer) (session : Option ℕ) (now : ℕ) (own : Ownership) → WritesOk own.waits.writes own.waits.out → EndedIf call (without_out call own) (answered call a session now own)
unfolding answered
answered_ends call a session now own h = by_job (job_of call own.waits.out) refl
  where
    by_job : (o : Option WaitJob) → job_of call own.waits.out ≡ o → EndedIf call (without_out call own) (answered_job call a session now o (without_out call own))
    by_job None e = stays call (without_out call own) (without_out call own) refl refl (nobody call own h (ap (passes is_write_job) e) (ap (passes is_revoke_job) e))
    by_job (Some (job.Rescind k create)) e =
        let x = rescinded_waits k create now (without_out call own) in
        rescind_ends call a (without_out call own) (rescinded k create now (without_out call own)) x.0 x.1 (nobody call own h (ap (passes is_write_job) e) (ap (passes is_revoke_job) e))
    by_job (Some (job.Revoke k)) e =
        revoke_ends call (first_by (asks call) own.waits.writes) a (without_out call own) refl (sym (one_is (asks call) own.waits.writes) ∙ h.asks_once call) (nobody_sends own.waits.out call own.waits.writes (ap (passes is_write_job) e) h.out)
    by_job (Some job.Write) e =
        write_ends session call (first_by (sends call) own.waits.writes) a (without_out call own) refl (sym (one_is (sends call) own.waits.writes) ∙ h.sends_once call) (nobody_asks own.waits.out call own.waits.writes (ap (passes is_revoke_job) e) h.out)

sends_lost : (call : ℕ) (o : Option Write) (own : Ownership) → first_by (sends call) own.waits.writes ≡ o → one (sends call) own.waits.writes ≡ true → list_any (asks call) own.waits.writes ≡ false → Ended call own (write_lost (sends call) o own)
sends_lost call None own f h n = stays call own own refl refl (record { sends = none_found (sends call) own.waits.writes f; asks = n })
sends_lost call (Some w) own f h n = record {
  how = record { test = sends call; write = w; first = f; named = refl; rest = refl };
  sends = removed_none (sends call) own.waits.writes h;
  asks = removed_less (sends call) (asks call) own.waits.writes n;
  out = refl;
}

asks_lost : (call : ℕ) (o : Option Write) (own : Ownership) → first_by (asks call) own.waits.writes ≡ o → one (asks call) own.waits.writes ≡ true → list_any (sends call) own.waits.writes ≡ false → Ended call own (write_lost (asks call) o own)
asks_lost call None own f h n = stays call own own refl refl (record { sends = n; asks = none_found (asks call) own.waits.writes f })
asks_lost call (Some w) own f h n = record {
  how = record { test = asks call; write = w; first = f; named = refl; rest = refl };
  sends = removed_less (asks call) (sends call) own.waits.writes n;
  asks = removed_none (asks call) own.waits.writes h;
  out = refl;
}

pub lost_ends : (call : ℕ) (own : Ownership) → WritesOk own.waits.writes own.waits.out → Ended call (without_out call own) (lost call own)
unfolding lost
lost_ends call own h = by_job (job_of call own.waits.out) refl
  where
    by_job : (o : Option WaitJob) → job_of call own.waits.out ≡ o → Ended call (without_out call own) (lost_job call o (without_out call own))
    by_job None e = stays call (without_out call own) (without_out call own) refl refl (nobody call own h (ap (passes is_write_job) e) (ap (passes is_revoke_job) e))
    by_job (Some (job.Rescind k create)) e = record {
      how = all_itself own.waits.writes;
      sends = nobody_sends own.waits.out call own.waits.writes (ap (passes is_write_job) e) h.out;
      asks = nobody_asks own.waits.out call own.waits.writes (ap (passes is_revoke_job) e) h.out;
      out = refl;
    }
    by_job (Some (job.Revoke k)) e =
        asks_lost call (first_by (asks call) own.waits.writes) (without_out call own) refl (sym (one_is (asks call) own.waits.writes) ∙ h.asks_once call) (nobody_sends own.waits.out call own.waits.writes (ap (passes is_write_job) e) h.out)
    by_job (Some job.Write) e =
        sends_lost call (first_by (sends call) own.waits.writes) (without_out call own) refl (sym (one_is (sends call) own.waits.writes) ∙ h.sends_once call) (nobody_asks own.waits.out call own.waits.writes (ap (passes is_revoke_job) e) h.out)

-- What fits then: the call is gone from the list.

job_without : (n m : ℕ) (waiting : List WaitCall) → (n == m) ≡ false → job_of n (without_call m waiting) ≡ job_of n waiting
job_without n m [] e = refl
job_without n m (o ∷ rest) e = by_head (job_without n m rest e) (o.call == m) refl
  where
    by_head : job_of n (without_call m rest) ≡ job_of n rest → (b : Bool) → (o.call == m) ≡ b → job_of n (cond b rest (o ∷ without_call m rest)) ≡ cond (o.call == n) (Some o.job) (job_of n rest)
    by_head i true t = sym (ap (λ d. cond d (Some o.job) (job_of n rest)) (ap (λ i. i == n) (same_number o.call m t) ∙ number_turned n m e))
    by_head i false t = ap (λ x. cond (o.call == n) (Some o.job) x) i

out_without : (call : ℕ) (waiting : List WaitCall) (s : WriteStage) → stage_sends call s ≡ false → stage_asks call s ≡ false → is_write_out waiting s ≡ true → is_write_out (without_call call waiting) s ≡ true
out_without call waiting Waiting n m h = refl
out_without call waiting (Sends owner (sending.Due since)) n m h = refl
out_without call waiting (Sends owner (sending.Out i)) n m h = ap (passes is_write_job) (job_without i call waiting n) ∙ h
out_without call waiting (Finds found) n m h = each found m h
  where
    one_out : (k : List ℕ) (r : Asking) → asking_as call r ≡ false → is_asking_out waiting k r ≡ true → is_asking_out (without_call call waiting) k r ≡ true
    one_out k (asking.Due since) n h = refl
    one_out k (asking.Out i) n h = ap (passes (is_revoke_of k)) (job_without i call waiting n) ∙ h
    one_out k asking.Done n h = refl

    each : (fs : List Found) → list_any (is_asked_as call) fs ≡ false → list_all (is_found_out waiting) fs ≡ true → list_all (is_found_out (without_call call waiting)) fs ≡ true
    each [] m h = refl
    each (f ∷ fs) m h =
        and_both (is_found_out (without_call call waiting) f) (list_all (is_found_out (without_call call waiting)) fs)
        (one_out f.key f.revoke (or_first (is_asked_as call f) (list_any (is_asked_as call) fs) m) (and_first (is_found_out waiting f) (list_all (is_found_out waiting) fs) h))
        (each fs (or_second (is_asked_as call f) (list_any (is_asked_as call) fs) m) (and_second (is_found_out waiting f) (list_all (is_found_out waiting) fs) h))

without_writes : (call : ℕ) (ws : List Write) (waiting : List WaitCall) → list_any (sends call) ws ≡ false → list_any (asks call) ws ≡ false → WritesOk ws waiting → WritesOk ws (without_call call waiting)
without_writes call ws waiting n m h = record { proper = h.proper; ranges = h.ranges; out = each ws n m h.out; sends_once = h.sends_once; asks_once = h.asks_once }
  where
    each : (ws : List Write) → list_any (sends call) ws ≡ false → list_any (asks call) ws ≡ false → list_all (λ w. is_write_out waiting w.stage) ws ≡ true → list_all (λ w. is_write_out (without_call call waiting) w.stage) ws ≡ true
    each [] n m h = refl
    each (w ∷ ws) n m h =
        and_both (is_write_out (without_call call waiting) w.stage) (list_all (λ w. is_write_out (without_call call waiting) w.stage) ws)
        (out_without call waiting w.stage (or_first (sends call w) (list_any (sends call) ws) n) (or_first (asks call w) (list_any (asks call) ws) m) (and_first (is_write_out waiting w.stage) (list_all (λ w. is_write_out waiting w.stage) ws) h))
        (each ws (or_second (sends call w) (list_any (sends call) ws) n) (or_second (asks call w) (list_any (asks call) ws) m) (and_second (is_write_out waiting w.stage) (list_all (λ w. is_write_out waiting w.stage) ws) h))

how_writes : (ws vs : List Write) (waiting : List WaitCall) (s : Settled) → EndsAs ws s vs → HaveRanges vs → WritesOk ws waiting → WritesOk vs waiting
how_writes ws vs waiting settled.Nothing e r h = come_writes ws vs waiting e r h
how_writes ws vs waiting (settled.Reply ticket a) e r h = subst (λ (us : List Write). WritesOk us waiting) (sym e.rest) (removed_writes e.test ws waiting (subst HaveRanges e.rest r) h)
how_writes ws vs waiting (settled.Failed ticket) e r h = subst (λ (us : List Write). WritesOk us waiting) (sym e.rest) (removed_writes e.test ws waiting (subst HaveRanges e.rest r) h)

pub ended_writes : (call : ℕ) (own : Ownership) (x : Ending) → Ended call (without_out call own) x → HaveRanges x.own.waits.writes → WritesOk own.waits.writes own.waits.out → WritesOk x.own.waits.writes x.own.waits.out
ended_writes call own x e r h =
    subst (λ (waiting : List WaitCall). WritesOk x.own.waits.writes waiting) (sym e.out) (without_writes call x.own.waits.writes own.waits.out e.sends e.asks (how_writes own.waits.writes x.own.waits.writes own.waits.out x.settled e.how r h))

-- A request is forgotten.

pub record Forgets (ticket : ℕ) (own next : Ownership) : Type 0 where
  pub writes : WritesOk next.waits.writes next.waits.out
  pub tickets : write_tickets next.waits.writes ≡ but ticket (write_tickets own.waits.writes)
  pub out : next.waits.out ≡ own.waits.out

forgets_by : (ticket : ℕ) (own : Ownership) → WritesOk own.waits.writes own.waits.out → once (write_tickets own.waits.writes) ≡ true → (o : Option Write) → first_by (has_ticket ticket) own.waits.writes ≡ o → HaveRanges (forgotten_by (has_ticket ticket) o own).waits.writes → Forgets ticket own (forgotten_by (has_ticket ticket) o own)
forgets_by ticket own h u None f r = record { writes = h; tickets = sym (but_none ticket (write_tickets own.waits.writes) (none own.waits.writes (none_found (has_ticket ticket) own.waits.writes f))); out = refl }
  where
    none : (ws : List Write) → list_any (has_ticket ticket) ws ≡ false → has_number (write_tickets ws) ticket ≡ false
    none [] n = refl
    none (w ∷ ws) n = or_none (w.ticket == ticket) (has_number (write_tickets ws) ticket) (or_first (w.ticket == ticket) (list_any (has_ticket ticket) ws) n) (none ws (or_second (w.ticket == ticket) (list_any (has_ticket ticket) ws) n))
forgets_by ticket own h u (Some w) f r = record {
  writes = removed_writes (has_ticket ticket) own.waits.writes own.waits.out r h;
  tickets = removed_tickets (has_ticket ticket) w own.waits.writes f u ∙ ap (λ n. but n (write_tickets own.waits.writes)) (same_number w.ticket ticket (first_passes (has_ticket ticket) own.waits.writes w f));
  out = refl;
}

pub forgets : (ticket : ℕ) (own : Ownership) → WritesOk own.waits.writes own.waits.out → once (write_tickets own.waits.writes) ≡ true → HaveRanges (forgotten ticket own).waits.writes → Forgets ticket own (forgotten ticket own)
unfolding forgotten
forgets ticket own h u r = forgets_by ticket own h u (first_by (has_ticket ticket) own.waits.writes) refl r
