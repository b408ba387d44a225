-- What the sending of a rescind, of a revoke call or of a write's own call does to the writes.
use Rattle.std.proofs.Common.{◌≡◌, ℕ, ◌==◌, Bool, true, false, not, cond, ◌&&◌, ◌||◌, List, [], ◌∷◌, ◌++◌, map, Option, None, Some, is_some, refl, sym, ◌∙◌, ap, subst}
use Rattle.std.specs.List.{list_any, list_all}
use Rattle.std.specs.Option.{option_map}
use Rattle.etcd_types.specs.Keys.{same}
use Rattle.etcd_types.proofs.Bools.{and_first, and_second, and_both, or_first, or_second, or_none, not_true, false_not}
use Rattle.etcd_types.proofs.KeyOrder.{same-equal}
use Rattle.proxy_model.specs.declared.lease.Entry.{Entry}
use Rattle.proxy_model.specs.declared.lease.Phase.{Phase}
use Rattle.proxy_model.specs.declared.lease.Phase.TheVariants.{Held, Writing, Leaving}
use Rattle.proxy_model.specs.Keyed.{Keyed, at, changed_at}
use Rattle.proxy_model.proofs.KeyedLaws.{at-with_at}
use Rattle.wait_model.specs.declared.due.Due.{Due}
use Rattle.wait_model.specs.declared.due.DueCall.{DueCall}
use Rattle.wait_model.specs.declared.found.Asking.{Asking}
use Rattle.wait_model.specs.declared.found.Asking.TheVariants as asking
use Rattle.wait_model.specs.declared.found.Found.{Found}
use Rattle.wait_model.specs.declared.sending.Sending.TheVariants as sending
use Rattle.wait_model.specs.declared.wait.WaitCall.{WaitCall}
use Rattle.wait_model.specs.declared.wait.WaitJob.{WaitJob}
use Rattle.wait_model.specs.declared.wait.WaitJob.TheVariants as job
use Rattle.wait_model.specs.declared.write.Write.{Write}
use Rattle.wait_model.specs.declared.write.WriteStage.{WriteStage}
use Rattle.wait_model.specs.declared.write.WriteStage.TheVariants.{Waiting, Sends, Finds}
use Rattle.wait_model.specs.Covers.{shares}
use Rattle.wait_model.specs.DueOrder.{first_call, first_rescind}
use Rattle.wait_model.specs.Fits.{is_held_back, AllHaveCause, IsSettled, is_proper}
use Rattle.wait_model.specs.Phases.{is_leaving, is_leaving_phase, phase_sent, rescind_sent}
use Rattle.wait_model.specs.Sent.{JobSent, is_asking_due, found_sent, stage_revoking, stage_sent, is_revoke, with_out, restaged, rescind_job, revoke_job, write_job, call_of, call_sent, job_sent_after, job_sent}
use Rattle.wait_model.specs.Stages.{staged, is_waiting, is_owner, is_over, is_found_over}
use Rattle.wait_model.specs.State.{Ownership}
use Rattle.wait_model.specs.Writes.{first_by, with_first, is_asked_as, stage_sends, stage_asks, sends, asks, has_ticket, job_of}
use Rattle.core_laws.proofs.Writes.FoundWrite.{head_found, rest_found}
use Rattle.core_laws.specs.Writes.Written.{SentWritten}
use Rattle.proxy_model.specs.LeaseTable.{is_held_phase, is_writing_phase}
use Rattle.core_laws.proofs.PlainReads.Owned.{StaysAt, Stays, stays_itself}
use Rattle.core_model.specs.Fits.{passes, is_write_job, is_revoke_of, is_asking_out, is_found_out, is_write_out, HaveRanges, WritesOk, goes_on, write_tickets, calls_of}
use Rattle.core_laws.proofs.Steps.Lists.{same_number, number_itself, all_kept, all_mapped, any_kept, any_mapped, map_pushed, one, one_is, none_is_one}
use Rattle.core_laws.proofs.Steps.Comes.{by_test, proper_staged}
use Rattle.core_laws.proofs.Steps.WaitEnds.{is_revoke_job, nobody_sends, nobody_asks}

-- The list of calls grows.

pub job_grown : (p : WaitJob → Bool) (n : ℕ) (x : WaitCall) (waiting : List WaitCall) → passes p (job_of n waiting) ≡ true → passes p (job_of n (waiting ++ x ∷ [])) ≡ true
job_grown p n x [] h = absurd (cc)
job_grown p n x (o ∷ rest) h = by_head (λ t. job_grown p n x rest t) (o.call == n) h
  where
    by_head : (passes p (job_of n rest) ≡ true → passes p (job_of n (rest ++ x ∷ [])) ≡ true) → (b : Bool) → passes p (cond b (Some o.job) (job_of n rest)) ≡ true → passes p (cond b (Some o.job) (job_of n (rest ++ x ∷ []))) ≡ true
    by_head i true h = h
    by_head i false h = i h

job_last : (n : ℕ) (j : WaitJob) (waiting : List WaitCall) → job_of n waiting ≡ None → job_of n (waiting ++ (record { call = n; job = j }) ∷ []) ≡ Some j
job_last n j [] h = ap (λ b. cond b (Some j) None) (number_itself n)
job_last n j (o ∷ rest) h = by_head (λ t. job_last n j rest t) (o.call == n) h
  where
    by_head : (job_of n rest ≡ None → job_of n (rest ++ (record { call = n; job = j }) ∷ []) ≡ Some j) → (b : Bool) → cond b (Some o.job) (job_of n rest) ≡ None → cond b (Some o.job) (job_of n (rest ++ (record { call = n; job = j }) ∷ [])) ≡ Some j
    by_head i true h = absurd (cc)
    by_head i false h = i h

found_grown : (x : WaitCall) (waiting : List WaitCall) (f : Found) → is_found_out waiting f ≡ true → is_found_out (waiting ++ x ∷ []) f ≡ true
found_grown x waiting f h = by_asking f.key f.revoke h
  where
    by_asking : (k : List ℕ) (r : Asking) → is_asking_out waiting k r ≡ true → is_asking_out (waiting ++ x ∷ []) k r ≡ true
    by_asking k (asking.Due since) h = refl
    by_asking k (asking.Out n) h = job_grown (is_revoke_of k) n x waiting h
    by_asking k asking.Done h = refl

out_grown : (x : WaitCall) (waiting : List WaitCall) (s : WriteStage) → is_write_out waiting s ≡ true → is_write_out (waiting ++ x ∷ []) s ≡ true
out_grown x waiting Waiting h = refl
out_grown x waiting (Sends owner (sending.Due since)) h = refl
out_grown x waiting (Sends owner (sending.Out n)) h = job_grown is_write_job n x waiting h
out_grown x waiting (Finds found) h = all_kept (is_found_out waiting) (is_found_out (waiting ++ x ∷ [])) (found_grown x waiting) found h

-- The first of a ticket at another stage.

tickets_first : (p : Write → Bool) (s : WriteStage) (ws : List Write) → write_tickets (with_first p s ws) ≡ write_tickets ws
tickets_first p s [] = refl
tickets_first p s (w ∷ ws) = by_head (tickets_first p s ws) (p w)
  where
    by_head : write_tickets (with_first p s ws) ≡ write_tickets ws → (b : Bool) → write_tickets (cond b (staged w s ∷ ws) (w ∷ with_first p s ws)) ≡ w.ticket ∷ write_tickets ws
    by_head i true = refl
    by_head i false = ap (λ l. w.ticket ∷ l) i

all_first : (P Q : Write → Bool) (p : Write → Bool) (w : Write) (s : WriteStage) → ((v : Write) → P v ≡ true → Q v ≡ true) → (P w ≡ true → Q (staged w s) ≡ true) → (ws : List Write) → first_by p ws ≡ Some w → list_all P ws ≡ true → list_all Q (with_first p s ws) ≡ true
all_first P Q p w s f g [] e h = absurd (cc)
all_first P Q p w s f g (v ∷ vs) e h =
    by_test (λ (us : List Write). list_all Q us ≡ true) (p v) (staged v s ∷ vs) (v ∷ with_first p s vs)
    (λ t.
    let q = head_found p v w vs t e in
    and_both (Q (staged v s)) (list_all Q vs) (subst (λ (x : Write). P x ≡ true → Q (staged x s) ≡ true) (sym q) g (and_first (P v) (list_all P vs) h)) (all_kept P Q f vs (and_second (P v) (list_all P vs) h)))
    (λ t. and_both (Q v) (list_all Q (with_first p s vs)) (f v (and_first (P v) (list_all P vs) h)) (all_first P Q p w s f g vs (rest_found p v w vs t e) (and_second (P v) (list_all P vs) h)))

none_first : (q p : Write → Bool) (w : Write) (s : WriteStage) → (q (staged w s) ≡ true → q w ≡ true) → (ws : List Write) → first_by p ws ≡ Some w → list_any q ws ≡ false → list_any q (with_first p s ws) ≡ false
none_first q p w s g [] e h = absurd (cc)
none_first q p w s g (v ∷ vs) e h =
    by_test (λ (us : List Write). list_any q us ≡ false) (p v) (staged v s ∷ vs) (v ∷ with_first p s vs)
    (λ t.
    let i = head_found p v w vs t e in
    or_none (q (staged v s)) (list_any q vs) (unless (q (staged v s)) refl (subst (λ (x : Write). q (staged x s) ≡ true → q x ≡ true) (sym i) g)) (or_second (q v) (list_any q vs) h))
    (λ t. or_none (q v) (list_any q (with_first p s vs)) (or_first (q v) (list_any q vs) h) (none_first q p w s g vs (rest_found p v w vs t e) (or_second (q v) (list_any q vs) h)))
  where
    unless : (b : Bool) → q (staged v s) ≡ b → (q (staged v s) ≡ true → q v ≡ true) → q (staged v s) ≡ false
    unless true i g = absurd (let u = g i in let n = or_first (q v) (list_any q vs) h in cc)
    unless false i g = i

one_first : (q p : Write → Bool) (w : Write) (s : WriteStage) → (q (staged w s) ≡ true → q w ≡ true) → (ws : List Write) → first_by p ws ≡ Some w → one q ws ≡ true → one q (with_first p s ws) ≡ true
one_first q p w s g [] e h = absurd (cc)
one_first q p w s g (v ∷ vs) e h =
    by_test (λ (us : List Write). one q us ≡ true) (p v) (staged v s ∷ vs) (v ∷ with_first p s vs)
    (λ t. at_head (q (staged v s)) refl (q v) refl h (subst (λ (x : Write). q (staged x s) ≡ true → q x ≡ true) (sym (head_found p v w vs t e)) g))
    (λ t. at_rest (λ f u. one_first q p w s g vs f u) (rest_found p v w vs t e) (q v) h)
  where
    at_head : (b : Bool) → q (staged v s) ≡ b → (c : Bool) → q v ≡ c → cond c (not (list_any q vs)) (one q vs) ≡ true → (q (staged v s) ≡ true → q v ≡ true) → cond b (not (list_any q vs)) (one q vs) ≡ true
    at_head true i true j h g = h
    at_head true i false j h g = absurd (let u = g i in cc)
    at_head false i true j h g = sym (one_is q vs) ∙ none_is_one q vs (not_true (list_any q vs) h)
    at_head false i false j h g = h

    at_rest : (first_by p vs ≡ Some w → one q vs ≡ true → one q (with_first p s vs) ≡ true) → first_by p vs ≡ Some w → (c : Bool) → cond c (not (list_any q vs)) (one q vs) ≡ true → cond c (not (list_any q (with_first p s vs))) (one q (with_first p s vs)) ≡ true
    at_rest i f true h = false_not (list_any q (with_first p s vs)) (none_first q p w s g vs f (not_true (list_any q vs) h))
    at_rest i f false h = i f h

-- where none passed before
one_new : (q p : Write → Bool) (s : WriteStage) (ws : List Write) → list_any q ws ≡ false → one q (with_first p s ws) ≡ true
one_new q p s [] h = refl
one_new q p s (v ∷ vs) h = by_head (λ t. one_new q p s vs t) (p v)
  where
    rest : list_any q vs ≡ false
    rest = or_second (q v) (list_any q vs) h

    alone : (b : Bool) → cond b (not (list_any q vs)) (one q vs) ≡ true
    alone true = false_not (list_any q vs) rest
    alone false = sym (one_is q vs) ∙ none_is_one q vs rest

    by_head : (list_any q vs ≡ false → one q (with_first p s vs) ≡ true) → (b : Bool) → one q (cond b (staged v s ∷ vs) (v ∷ with_first p s vs)) ≡ true
    by_head i true = alone (q (staged v s))
    by_head i false = ap (λ d. cond d (not (list_any q (with_first p s vs))) (one q (with_first p s vs))) (or_first (q v) (list_any q vs) h) ∙ i rest

-- Causes.

same_causes : (es : Keyed Entry) (ss : Keyed Bool) (before other : List Write) → ((u : Write) → list_any (shares u) other ≡ list_any (shares u) before) → (ws : List Write) → AllHaveCause before es ss ws → AllHaveCause other es ss ws
same_causes es ss before other e [] h = tt
same_causes es ss before other e (w ∷ ws) h = (λ t n. h.0 t (sym (e w) ∙ n), same_causes es ss (w ∷ before) (w ∷ other) (λ u. ap (λ b. shares u w || b) (e u)) ws h.1)

causes_first : (es : Keyed Entry) (ss : Keyed Bool) (p : Write → Bool) (w : Write) (s : WriteStage) → (is_waiting s ≡ true → is_waiting w.stage ≡ true) → (earlier ws : List Write) → first_by p ws ≡ Some w → AllHaveCause earlier es ss ws → AllHaveCause earlier es ss (with_first p s ws)
causes_first es ss p w s g earlier [] e h = absurd (cc)
causes_first es ss p w s g earlier (v ∷ vs) e h =
    by_test (AllHaveCause earlier es ss) (p v) (staged v s ∷ vs) (v ∷ with_first p s vs)
    (λ t.
    let i = head_found p v w vs t e in
    (λ u n. h.0 (subst (λ (x : Write). is_waiting s ≡ true → is_waiting x.stage ≡ true) (sym i) g u) n, same_causes es ss (v ∷ earlier) (staged v s ∷ earlier) (λ u. refl) vs h.1))
    (λ t. (h.0, causes_first es ss p w s g (v ∷ earlier) vs (rest_found p v w vs t e) h.1))

held_causes : (es fs : Keyed Entry) (ss : Keyed Bool) → ((k : List ℕ) → is_held_back (at es k) (at ss k) ≡ true → is_held_back (at fs k) (at ss k) ≡ true) → (earlier ws : List Write) → AllHaveCause earlier es ss ws → AllHaveCause earlier fs ss ws
held_causes es fs ss f earlier [] h = tt
held_causes es fs ss f earlier (w ∷ ws) h = (λ t n. let x = h.0 t n in (x.0, x.1, f x.0 x.2), held_causes es fs ss f (w ∷ earlier) ws h.1)

-- A job is sent.

pub record Sent (call : ℕ) (own : Ownership) (x : JobSent) : Type 0 where
  pub writes : WritesOk x.own.waits.writes x.own.waits.out
  pub tickets : write_tickets x.own.waits.writes ≡ write_tickets own.waits.writes
  pub out : calls_of x.own.waits.out ≡ calls_of own.waits.out ++ call ∷ []
  pub unfinished : list_all goes_on own.waits.writes ≡ true → list_all goes_on x.own.waits.writes ≡ true
  pub settled : IsSettled own → IsSettled x.own
  pub stays : Stays own.entries own.waits.spoiled x.own.entries x.own.waits.spoiled

abbrev pub SentIf : ℕ → Ownership → Option JobSent → Type 0
SentIf call own None = Unit {0}
SentIf call own (Some x) = Sent call own x

leaving_sent : (o : Option Entry) → is_leaving (option_map (rescind_sent true) o) ≡ is_leaving o
leaving_sent None = refl
leaving_sent (Some e) = by_phase e.phase
  where
    by_phase : (p : Phase) → is_leaving_phase (phase_sent true p) ≡ is_leaving_phase p
    by_phase Held = refl
    by_phase (Writing revoked) = refl
    by_phase (Leaving sent) = refl

sent_stays : (o : Option Entry) (s : Option Bool) → StaysAt o (option_map (rescind_sent true) o) s s
sent_stays None s = record { writing = λ u. u; owned = λ u. u; mark = refl }
sent_stays (Some e) s = record { writing = λ u. writes_as e.phase ∙ u; owned = λ u. sym (owns_as e.phase) ∙ u; mark = refl }
  where
    writes_as : (p : Phase) → is_writing_phase (phase_sent true p) ≡ is_writing_phase p
    writes_as Held = refl
    writes_as (Writing revoked) = refl
    writes_as (Leaving sent) = refl

    owns_as : (p : Phase) → is_held_phase (phase_sent true p) || is_writing_phase (phase_sent true p) ≡ is_held_phase p || is_writing_phase p
    owns_as Held = refl
    owns_as (Writing revoked) = refl
    owns_as (Leaving sent) = refl

rescind_sends : (call : ℕ) (e : List ℕ × Entry) (own : Ownership) → WritesOk own.waits.writes own.waits.out → Sent call own (rescind_job call e own)
rescind_sends call e own h = record {
  writes = record {
    proper = h.proper;
    ranges = h.ranges;
    out = all_kept (λ w. is_write_out own.waits.out w.stage) (λ w. is_write_out (own.waits.out ++ new ∷ []) w.stage) (λ w t. out_grown new own.waits.out w.stage t) own.waits.writes h.out;
    sends_once = h.sends_once;
    asks_once = h.asks_once;
  };
  tickets = refl;
  out = map_pushed (λ (o : WaitCall). o.call) new own.waits.out;
  unfinished = λ t. t;
  settled = λ t. held_causes own.entries (changed_at own.entries e.0 (rescind_sent true)) own.waits.spoiled held [] own.waits.writes t;
  stays = λ k. subst (λ (o : Option Entry). StaysAt (at own.entries k) o (at own.waits.spoiled k) (at own.waits.spoiled k)) (sym (at-with_at own.entries e.0 k (option_map (rescind_sent true) (at own.entries e.0)))) (stays_at k (same e.0 k) refl);
}
  where
    new : WaitCall
    new = record { call = call; job = job.Rescind e.0 e.1.create }

    at_same : (k : List ℕ) (b : Bool) → same e.0 k ≡ b → is_leaving (cond b (option_map (rescind_sent true) (at own.entries e.0)) (at own.entries k)) ≡ is_leaving (at own.entries k)
    at_same k true t = leaving_sent (at own.entries e.0) ∙ ap (λ (j : List ℕ). is_leaving (at own.entries j)) (same-equal e.0 k t)
    at_same k false t = refl

    stays_at : (k : List ℕ) (b : Bool) → same e.0 k ≡ b → StaysAt (at own.entries k) (cond b (option_map (rescind_sent true) (at own.entries e.0)) (at own.entries k)) (at own.waits.spoiled k) (at own.waits.spoiled k)
    stays_at k true t = subst (λ (j : List ℕ). StaysAt (at own.entries k) (option_map (rescind_sent true) (at own.entries j)) (at own.waits.spoiled k) (at own.waits.spoiled k)) (sym (same-equal e.0 k t)) (sent_stays (at own.entries k) (at own.waits.spoiled k))
    stays_at k false t = record { writing = λ u. u; owned = λ u. u; mark = refl }

    held : (k : List ℕ) → is_held_back (at own.entries k) (at own.waits.spoiled k) ≡ true → is_held_back (at (changed_at own.entries e.0 (rescind_sent true)) k) (at own.waits.spoiled k) ≡ true
    held k t = ap (λ b. is_some (at own.waits.spoiled k) || b) (ap is_leaving (at-with_at own.entries e.0 k (option_map (rescind_sent true) (at own.entries e.0))) ∙ at_same k (same e.0 k) refl) ∙ t

-- what a stage may become when its call is sent
record Steps (call : ℕ) (waiting : List WaitCall) (j : WaitJob) (s t : WriteStage) : Type 0 where
  out : is_write_out waiting s ≡ true → is_write_out (waiting ++ (record { call = call; job = j }) ∷ []) t ≡ true
  sends : (n : ℕ) → (call == n) ≡ false → stage_sends n t ≡ true → stage_sends n s ≡ true
  asks : (n : ℕ) → (call == n) ≡ false → stage_asks n t ≡ true → stage_asks n s ≡ true
  owner : is_owner t ≡ true → is_owner s ≡ true
  waits : is_waiting t ≡ true → is_waiting s ≡ true
  goes : not (is_found_over s) ≡ true → not (is_found_over t) ≡ true

fits : (call : ℕ) (j : WaitJob) (p : Write → Bool) (w : Write) (s : WriteStage) (ws : List Write) (waiting : List WaitCall) → first_by p ws ≡ Some w → job_of call waiting ≡ None → HaveRanges (with_first p s ws) → Steps call waiting j w.stage s → WritesOk ws waiting → WritesOk (with_first p s ws) (waiting ++ (record { call = call; job = j }) ∷ [])
fits call j p w s ws waiting f n r c h = record {
  proper = all_first is_proper is_proper p w s (λ v u. u) (proper_staged w s c.owner) ws f h.proper;
  ranges = r;
  out = all_first (λ v. is_write_out waiting v.stage) (λ v. is_write_out (waiting ++ new ∷ []) v.stage) p w s (λ v u. out_grown new waiting v.stage u) c.out ws f h.out;
  sends_once = λ m. one_is (sends m) (with_first p s ws) ∙ sends_by m (call == m) refl;
  asks_once = λ m. one_is (asks m) (with_first p s ws) ∙ asks_by m (call == m) refl;
}
  where
    new : WaitCall
    new = record { call = call; job = j }

    nothing : (m : ℕ) → (call == m) ≡ true → job_of m waiting ≡ None
    nothing m e = subst (λ (i : ℕ). job_of i waiting ≡ None) (same_number call m e) n

    sends_by : (m : ℕ) (b : Bool) → (call == m) ≡ b → one (sends m) (with_first p s ws) ≡ true
    sends_by m true e = one_new (sends m) p s ws (nobody_sends waiting m ws (ap (passes is_write_job) (nothing m e)) h.out)
    sends_by m false e = one_first (sends m) p w s (c.sends m e) ws f (sym (one_is (sends m) ws) ∙ h.sends_once m)

    asks_by : (m : ℕ) (b : Bool) → (call == m) ≡ b → one (asks m) (with_first p s ws) ≡ true
    asks_by m true e = one_new (asks m) p s ws (nobody_asks waiting m ws (ap (passes is_revoke_job) (nothing m e)) h.out)
    asks_by m false e = one_first (asks m) p w s (c.asks m e) ws f (sym (one_is (asks m) ws) ∙ h.asks_once m)

steps_send : (call : ℕ) (j : WaitJob) (p : Write → Bool) (w : Write) (s : WriteStage) (own : Ownership) (due : Due) → first_by p own.waits.writes ≡ Some w → job_of call own.waits.out ≡ None → HaveRanges (with_first p s own.waits.writes) → Steps call own.waits.out j w.stage s → WritesOk own.waits.writes own.waits.out → Sent call own (record { own = record own { waits = with_out call j (restaged p s own).waits }; due = due })
steps_send call j p w s own due f n r c h = record {
  writes = fits call j p w s own.waits.writes own.waits.out f n r c h;
  tickets = tickets_first p s own.waits.writes;
  out = map_pushed (λ (o : WaitCall). o.call) (record { call = call; job = j }) own.waits.out;
  unfinished = λ t. all_first goes_on goes_on p w s (λ v u. u) c.goes own.waits.writes f t;
  settled = λ t. causes_first own.entries own.waits.spoiled p w s c.waits [] own.waits.writes f t;
  stays = stays_itself own.entries own.waits.spoiled;
}

-- A write's own call.

write_steps : (call : ℕ) (waiting : List WaitCall) (s : WriteStage) → job_of call waiting ≡ None → Steps call waiting job.Write s (stage_sent call s)
write_steps call waiting Waiting n = record { out = λ h. refl; sends = λ m e t. t; asks = λ m e t. t; owner = λ t. t; waits = λ t. t; goes = λ t. t }
write_steps call waiting (Sends owner s) n = record {
  out = λ h. ap (passes is_write_job) (job_last call job.Write waiting n);
  sends = λ m e t. absurd (cc);
  asks = λ m e t. t;
  owner = λ t. t;
  waits = λ t. t;
  goes = λ t. t;
}
write_steps call waiting (Finds found) n = record { out = λ h. out_grown (record { call = call; job = job.Write }) waiting (Finds found) h; sends = λ m e t. t; asks = λ m e t. t; owner = λ t. t; waits = λ t. t; goes = λ t. t }

-- A revoke call.

record FoundSteps (call : ℕ) (waiting : List WaitCall) (k : List ℕ) (f g : Found) : Type 0 where
  out : is_found_out waiting f ≡ true → is_found_out (waiting ++ (record { call = call; job = job.Revoke k }) ∷ []) g ≡ true
  asks : (n : ℕ) → (call == n) ≡ false → is_asked_as n g ≡ true → is_asked_as n f ≡ true
  over : is_over g ≡ true → is_over f ≡ true

found_steps : (call : ℕ) (waiting : List WaitCall) (k : List ℕ) (f : Found) → job_of call waiting ≡ None → FoundSteps call waiting k f (found_sent call k f)
found_steps call waiting k f n =
    by_test (FoundSteps call waiting k f) (same k f.key && is_asking_due f.revoke) (record f { revoke = asking.Out call }) f
    (λ t. record {
      out = λ h. ap (passes (is_revoke_of f.key)) (job_last call (job.Revoke k) waiting n) ∙ and_first (same k f.key) (is_asking_due f.revoke) t;
      asks = λ m e u. absurd (cc);
      over = λ u. absurd (let v = and_second f.gone false u in cc);
    })
    (λ t. record { out = λ h. found_grown (record { call = call; job = job.Revoke k }) waiting f h; asks = λ m e u. u; over = λ u. u })

revoke_steps : (call : ℕ) (waiting : List WaitCall) (k : List ℕ) (s : WriteStage) → job_of call waiting ≡ None → Steps call waiting (job.Revoke k) s (stage_revoking call k s)
revoke_steps call waiting k Waiting n = record { out = λ h. refl; sends = λ m e t. t; asks = λ m e t. t; owner = λ t. t; waits = λ t. t; goes = λ t. t }
revoke_steps call waiting k (Sends owner s) n = record { out = λ h. out_grown (record { call = call; job = job.Revoke k }) waiting (Sends owner s) h; sends = λ m e t. t; asks = λ m e t. t; owner = λ t. t; waits = λ t. t; goes = λ t. t }
revoke_steps call waiting k (Finds found) n = record {
  out = λ h. all_mapped (is_found_out waiting) (is_found_out (waiting ++ (record { call = call; job = job.Revoke k }) ∷ [])) (found_sent call k) (λ f u. (found_steps call waiting k f n).out u) found h;
  sends = λ m e t. t;
  asks = λ m e t. any_kept (λ f. is_asked_as m (found_sent call k f)) (is_asked_as m) (λ f u. (found_steps call waiting k f n).asks m e u) found (sym (any_mapped (is_asked_as m) (found_sent call k) found) ∙ t);
  owner = λ t. t;
  waits = λ t. t;
  goes = λ t. false_not (list_all is_over (map (found_sent call k) found)) (unless (list_all is_over found) (list_all is_over (map (found_sent call k) found)) (fewer found) (not_true (list_all is_over found) t));
}
  where
    fewer : (fs : List Found) → list_all is_over (map (found_sent call k) fs) ≡ true → list_all is_over fs ≡ true
    fewer [] t = refl
    fewer (f ∷ fs) t =
        and_both (is_over f) (list_all is_over fs) ((found_steps call waiting k f n).over (and_first (is_over (found_sent call k f)) (list_all is_over (map (found_sent call k) fs)) t)) (fewer fs (and_second (is_over (found_sent call k f)) (list_all is_over (map (found_sent call k) fs)) t))

    unless : (a b : Bool) → (b ≡ true → a ≡ true) → a ≡ false → b ≡ false
    unless a true g e = absurd (let u = g refl in cc)
    unless a false g e = refl

-- The first due job.

call_sends : (call : ℕ) (d : DueCall) (own : Ownership) → WritesOk own.waits.writes own.waits.out → job_of call own.waits.out ≡ None → (o : Option Write) → first_by (has_ticket d.place.number) own.waits.writes ≡ o → SentWritten (call_of call d o own) → SentIf call own (call_of call d o own)
call_sends call d own h n None f r = tt
call_sends call d own h n (Some w) f r = by_kind (is_revoke d.place.kind) r
  where
    by_kind : (b : Bool) → SentWritten (Some (cond b (revoke_job call d w own) (write_job call d w own))) → Sent call own (cond b (revoke_job call d w own) (write_job call d w own))
    by_kind true r = steps_send call (job.Revoke d.key) (has_ticket d.place.number) w (stage_revoking call d.key w.stage) own (revoke_job call d w own).due f n r (revoke_steps call own.waits.out d.key w.stage n) h
    by_kind false r = steps_send call job.Write (has_ticket d.place.number) w (stage_sent call w.stage) own (write_job call d w own).due f n r (write_steps call own.waits.out w.stage n) h

first_sends : (call : ℕ) (own : Ownership) → WritesOk own.waits.writes own.waits.out → job_of call own.waits.out ≡ None → (o : Option DueCall) → SentWritten (call_sent call o own) → SentIf call own (call_sent call o own)
first_sends call own h n None r = tt
first_sends call own h n (Some d) r = call_sends call d own h n (first_by (has_ticket d.place.number) own.waits.writes) refl r

after_sends : (call : ℕ) (own : Ownership) → WritesOk own.waits.writes own.waits.out → job_of call own.waits.out ≡ None → (o : Option (List ℕ × Entry)) → SentWritten (job_sent_after call o own) → SentIf call own (job_sent_after call o own)
after_sends call own h n None r = first_sends call own h n (first_call own.waits.writes) r
after_sends call own h n (Some e) r = rescind_sends call e own h

-- where the call's number is new
pub job_sends : (call : ℕ) (own : Ownership) → WritesOk own.waits.writes own.waits.out → job_of call own.waits.out ≡ None → SentWritten (job_sent call own) → SentIf call own (job_sent call own)
unfolding job_sent
job_sends call own h n r = after_sends call own h n (first_rescind own.entries) r
