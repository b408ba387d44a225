-- Each request without a reply waits for something: by its stage, and by what stands as due and as out.
use Rattle.std.proofs.Common.{◌≡◌, ◌⊎◌, inl, inr, ℕ, ◌==◌, Bool, true, false, not, cond, ◌||◌, ◌&&◌, List, [], ◌∷◌, ◌++◌, Option, None, Some, is_some, refl, sym, ◌∙◌, ap, subst}
use Rattle.std.specs.List.{list_any, list_all, flat_map}
use Rattle.etcd_types.proofs.Bools.{and_first, and_second, and_both, and_true, or_left, or_either, not_true}
use Rattle.etcd_types.proofs.KeyOrder.{same-itself}
use Rattle.etcd_types.specs.Keys.{same}
use Rattle.proxy_model.specs.declared.lease.Entry.{Entry}
use Rattle.proxy_model.specs.declared.lease.Phase.{Phase}
use Rattle.proxy_model.specs.declared.lease.Phase.TheVariants.{Held, Writing, Leaving}
use Rattle.proxy_model.specs.Keyed.{at}
use Rattle.wait_model.specs.declared.due.DueCall.{DueCall}
use Rattle.wait_model.specs.declared.found.Asking.{Asking}
use Rattle.wait_model.specs.declared.found.Asking.TheVariants as asking
use Rattle.wait_model.specs.declared.found.Found.{Found}
use Rattle.wait_model.specs.declared.sending.Sending.{Sending}
use Rattle.wait_model.specs.declared.sending.Sending.TheVariants as sending
use Rattle.wait_model.specs.declared.wait.WaitCall.{WaitCall}
use Rattle.wait_model.specs.declared.wait.WaitJob.{WaitJob}
use Rattle.wait_model.specs.declared.write.Write.{Write}
use Rattle.wait_model.specs.declared.write.WriteStage.{WriteStage}
use Rattle.wait_model.specs.declared.write.WriteStage.TheVariants.{Waiting, Sends, Finds}
use Rattle.wait_model.specs.Covers.{covers}
use Rattle.wait_model.specs.DueOrder.{due_in, due_of, due_asking, due_found, due_calls}
use Rattle.wait_model.specs.Phases.{is_leaving_phase, is_leaving, is_rescind_due_phase}
use Rattle.wait_model.specs.Stages.{is_owner, is_asked_out, is_over}
use Rattle.wait_model.specs.Writes.{first_by, job_of}
use Rattle.read_model.specs.declared.acquire.Acquire.{Acquire}
use Rattle.read_model.specs.declared.asked.Asked.{Asked}
use Rattle.read_model.specs.declared.asked.Stage.{Stage}
use Rattle.read_model.specs.declared.asked.Stage.TheVariants as stage
use Rattle.read_model.specs.PlainRead.{ask_key}
use Rattle.core_model.specs.declared.out_call.OutCall.{OutCall}
use Rattle.core_model.specs.Asking.{is_leased_read}
use Rattle.core_model.specs.ClockWork.{is_replied}
use Rattle.core_model.specs.DueJobs.{Placed, due_stage, due_ask, due_jobs, lease_of}
use Rattle.core_model.specs.Fits.{CoreOk, once, has_number, numbers_of, wait_numbers, calls_of, passes, job_at, is_wait, is_stage_out, is_acquire_of, is_acquire_out, is_out_to, is_write_job, is_revoke_of, is_write_out, is_found_out, is_asking_out, is_keepalive, group_sending, group_stands}
use Rattle.core_model.specs.State.{Core}
use Rattle.core_model.specs.WaitsFor as idle
use Rattle.core_fits.specs.Fits.{EachOf, IsSame, is_reading}
use Rattle.core_laws.proofs.Steps.Idle.{none_is_idle}
use Rattle.core_laws.proofs.Steps.Lists.{same_number, number_itself, any_mapped, any_filtered}
use Rattle.waiting_laws.specs.Calls.{asks_for, keeps_for, is_own_call, is_revoke_call, AcquireRuns, KeepaliveRuns, WriteRuns, RevokeRuns, RescindRuns, AskRuns, IsWriteOut}
use Rattle.waiting_laws.specs.Waiting.{AcquireOf, OwnerWriteOf, IsWrite, RescindOf, WaitsFor, calls, acquires, joined, behind_owner, sends, asks_owner, awaits_deletion, behind_acquire, behind_rescind, behind_write, shares_keepalive, follows_keepalive}
use Rattle.waiting_laws.specs.Laws.{RescindsAreOut, RequestsWait}
use Rattle.waiting_laws.proofs.Due.{any_front, any_back, any_given, in_asks, acquire_due, write_due, first_due}

-- ---- lists

all_among : {A : Type 0} (p : A → Bool) (x : A) (earlier later : List A) → list_all p (earlier ++ x ∷ later) ≡ true → p x ≡ true
all_among p x [] later h = and_first (p x) (list_all p later) h
all_among p x (y ∷ ys) later h = all_among p x ys later (and_second (p y) (list_all p (ys ++ x ∷ later)) h)

each_among : {A : Type 0} (P : A → Type 0) (x : A) (earlier later : List A) → EachOf P (earlier ++ x ∷ later) → P x
each_among P x [] later h = h.0
each_among P x (y ∷ ys) later h = each_among P x ys later h.1

first_holds : (p t : Write → Bool) (w : Write) (ws : List Write) → first_by t ws ≡ Some w → list_all p ws ≡ true → p w ≡ true
first_holds p t w [] e h = absurd (cc)
first_holds p t w (v ∷ vs) e h = by (t v) e (first_holds p t w vs)
  where
    same_one : Some v ≡ Some w → v ≡ w
    same_one f = cc

    by : (b : Bool) → cond b (Some v) (first_by t vs) ≡ Some w → (first_by t vs ≡ Some w → list_all p vs ≡ true → p w ≡ true) → p w ≡ true
    by true f more = ap p (sym (same_one f)) ∙ and_first (p v) (list_all p vs) h
    by false f more = more f (and_second (p v) (list_all p vs) h)

-- one for which a test fails
record Failing {A : Type 0} (p : A → Bool) (xs : List A) : Type 0 where
  before : List A
  one : A
  after : List A
  stands : xs ≡ before ++ one ∷ after
  fails : p one ≡ false

failing : {A : Type 0} (p : A → Bool) (xs : List A) → list_all p xs ≡ false → Failing p xs
failing p [] h = absurd (cc)
failing {A} p (x ∷ xs) h = by (p x) refl h (failing p xs)
  where
    later : Failing p xs → Failing p (x ∷ xs)
    later f = record { before = x ∷ f.before; one = f.one; after = f.after; stands = ap (λ (ys : List A). x ∷ ys) f.stands; fails = f.fails }

    by : (b : Bool) → p x ≡ b → b && list_all p xs ≡ false → (list_all p xs ≡ false → Failing p xs) → Failing p (x ∷ xs)
    by true e g more = later (more g)
    by false e g more = record { before = []; one = x; after = xs; stands = refl; fails = e }

-- ---- a call of a write stands in both lists

listed : (p : WaitJob → Bool) (n : ℕ) (xs : List WaitCall) → passes p (job_of n xs) ≡ true → has_number (calls_of xs) n ≡ true
listed p n [] h = absurd (cc)
listed p n (x ∷ xs) h = by (x.call == n) h (listed p n xs)
  where
    by : (b : Bool) → passes p (cond b (Some x.job) (job_of n xs)) ≡ true → (passes p (job_of n xs) ≡ true → has_number (calls_of xs) n ≡ true) → b || has_number (calls_of xs) n ≡ true
    by true t more = refl
    by false t more = more t

waits_as : ℕ → OutCall → Bool
waits_as n o = is_wait o.job && (o.call == n)

as_any : (n : ℕ) (out : List OutCall) → has_number (wait_numbers out) n ≡ list_any (λ o. is_wait o.job && (o.call == n)) out
as_any n out = any_mapped (λ m. m == n) (λ (o : OutCall). o.call) (Rattle.std.specs.Prelude.filter (λ o. is_wait o.job) out) ∙ any_filtered (λ o. o.call == n) (λ (o : OutCall). is_wait o.job) out

numbered : (n : ℕ) (out : List OutCall) → list_any (λ o. is_wait o.job && (o.call == n)) out ≡ true → has_number (numbers_of out) n ≡ true
numbered n [] h = absurd (cc)
numbered n (x ∷ xs) h = by (is_wait x.job) (x.call == n) h (numbered n xs)
  where
    by : (w b : Bool) → (w && b) || list_any (λ o. is_wait o.job && (o.call == n)) xs ≡ true → (list_any (λ o. is_wait o.job && (o.call == n)) xs ≡ true → has_number (numbers_of xs) n ≡ true) → b || has_number (numbers_of xs) n ≡ true
    by w true t more = refl
    by true false t more = more t
    by false false t more = more t

found_wait : (n : ℕ) (out : List OutCall) → once (numbers_of out) ≡ true → list_any (λ o. is_wait o.job && (o.call == n)) out ≡ true → passes is_wait (job_at n out) ≡ true
found_wait n [] o h = absurd (cc)
found_wait n (x ∷ xs) o h = by (x.call == n) refl (is_wait x.job) refl h (found_wait n xs (and_second (not (has_number (numbers_of xs) x.call)) (once (numbers_of xs)) o))
  where
    twice : x.call ≡ n → list_any (λ y. is_wait y.job && (y.call == n)) xs ≡ true → ⊥
    twice q t =
        let none : has_number (numbers_of xs) x.call ≡ false = not_true (has_number (numbers_of xs) x.call) (and_first (not (has_number (numbers_of xs) x.call)) (once (numbers_of xs)) o) in
        let some : has_number (numbers_of xs) x.call ≡ true = ap (has_number (numbers_of xs)) q ∙ numbered n xs t in
        let both : true ≡ false = sym some ∙ none in cc

    by : (b : Bool) → (x.call == n) ≡ b → (w : Bool) → is_wait x.job ≡ w → (w && b) || list_any (λ y. is_wait y.job && (y.call == n)) xs ≡ true
        → (list_any (λ y. is_wait y.job && (y.call == n)) xs ≡ true → passes is_wait (job_at n xs) ≡ true) → passes is_wait (cond b (Some x.job) (job_at n xs)) ≡ true
    by true q true u t more = u
    by true q false u t more = absurd (twice (same_number x.call n q) t)
    by false q true u t more = more t
    by false q false u t more = more t

write_out : (p : WaitJob → Bool) (c : Core) (call : ℕ) → CoreOk c → passes p (job_of call c.own.waits.out) ≡ true → IsWriteOut p c call
write_out p c call ok h =
    let n = ok.agrees.numbers in
    record { out = found_wait call c.out n.once (sym (as_any call c.out) ∙ ap (λ (ns : List ℕ). has_number ns call) (sym n.waits) ∙ listed p call c.own.waits.out h); job = h }

-- ---- an acquire that stands at its key

acquire_of : (c : Core) (k : List ℕ) (x : Acquire) → CoreOk c → at c.acquires k ≡ Some x → AcquireOf c k
acquire_of c k x ok e = record { acquire = x; stands = e; runs = by x.sending refl (sym (ap (is_acquire_out c.out k) e) ∙ ok.agrees.out.acquires k) }
  where
    by : (s : Sending) → x.sending ≡ s → is_out_to (is_acquire_of k) c.out s ≡ true → AcquireRuns c k x.ticket s
    by (sending.Due since) d o = acquire_due c k x since e d
    by (sending.Out call) d o = o

-- ---- a write's own call

own_due : (w : Write) (owner : Bool) (since : ℕ) → w.stage ≡ Sends owner (sending.Due since) → list_any (is_own_call w.ticket) (due_of w) ≡ true
own_due w owner since e = ap (λ (s : WriteStage). list_any (is_own_call w.ticket) (due_in w.ticket s)) e ∙ or_left (w.ticket == w.ticket) false (number_itself w.ticket)

-- where what is due of it is due of all
own_runs : (c : Core) (w : Write) (owner : Bool) → CoreOk c → ((p : DueCall → Bool) → list_any p (due_of w) ≡ true → list_any p (due_calls c.own.waits.writes) ≡ true)
    → (s : Sending) → w.stage ≡ Sends owner s → is_write_out c.own.waits.out w.stage ≡ true → WriteRuns c w.ticket s
own_runs c w owner ok due (sending.Due since) e o = write_due (is_own_call w.ticket) c (due (is_own_call w.ticket) (own_due w owner since e))
own_runs c w owner ok due (sending.Out call) e o = write_out is_write_job c call ok (sym (ap (is_write_out c.own.waits.out) e) ∙ o)

owner_of : (c : Core) (k : List ℕ) → CoreOk c → idle.OwnerWriteOf c.own k → OwnerWriteOf c k
owner_of c k ok h = by h.write.stage refl h.owner
  where
    by : (s : WriteStage) → h.write.stage ≡ s → is_owner s ≡ true → OwnerWriteOf c k
    by Waiting e o = absurd (cc)
    by (Sends true s) e o = record {
      write = h.write;
      first = h.first;
      sending = s;
      stands = e;
      runs = own_runs c h.write true ok (λ p t. first_due p (λ w. covers w k) h.write c.own.waits.writes h.first t) s e (first_holds (λ w. is_write_out c.own.waits.out w.stage) (λ w. covers w k) h.write c.own.waits.writes h.first ok.agrees.writes.out);
    }
    by (Sends false s) e o = absurd (cc)
    by (Finds found) e o = absurd (cc)

-- ---- a write

rescind_of : (c : Core) (k : List ℕ) → RescindsAreOut c → is_leaving (at c.own.entries k) ≡ true → RescindOf c k
rescind_of c k r l = by (at c.own.entries k) refl l
  where
    by_phase : (e : Entry) → at c.own.entries k ≡ Some e → (p : Phase) → e.phase ≡ p → is_leaving_phase p ≡ true → RescindRuns c k e
    by_phase e s Held q t = absurd (cc)
    by_phase e s (Writing revoked) q t = absurd (cc)
    by_phase e s (Leaving false) q t = inl (ap is_rescind_due_phase q)
    by_phase e s (Leaving true) q t = inr (r k e s q)

    by : (o : Option Entry) → at c.own.entries k ≡ o → is_leaving o ≡ true → RescindOf c k
    by None s t = absurd (cc)
    by (Some e) s t = record { entry = e; stands = s; runs = by_phase e s e.phase refl t }

held_waits : (c : Core) (a : Asked) → CoreOk c → RescindsAreOut c → (x : IsWrite c a) → idle.HeldBack c.own x.write → WaitsFor c a
held_waits c a ok r x h = by (or_either (is_some (at c.own.waits.spoiled h.key)) (is_leaving (at c.own.entries h.key)) h.held_back)
  where
    marked : (o : Option Acquire) → at c.acquires h.key ≡ o → is_some o ≡ true → WaitsFor c a
    marked None e t = absurd (cc)
    marked (Some y) e t = behind_acquire x (record { key = h.key; covered = h.covered; acquire = acquire_of c h.key y ok e })

    by : (is_some (at c.own.waits.spoiled h.key) ≡ true) ⊎ (is_leaving (at c.own.entries h.key) ≡ true) → WaitsFor c a
    by (inl s) = marked (at c.acquires h.key) refl (sym (ok.reads.ground.marks h.key) ∙ s)
    by (inr l) = behind_rescind x (record { key = h.key; covered = h.covered; rescind = rescind_of c h.key r l })

found_waits : (c : Core) (a : Asked) → CoreOk c → (x : IsWrite c a) → ((p : DueCall → Bool) → list_any p (due_of x.write) ≡ true → list_any p (due_calls c.own.waits.writes) ≡ true)
    → (found : List Found) → x.write.stage ≡ Finds found → list_all (is_found_out c.own.waits.out) found ≡ true → Failing is_over found → WaitsFor c a
found_waits c a ok x due found e o g = by f.revoke refl (all_among (is_found_out c.own.waits.out) f g.before g.after (sym (ap (list_all (is_found_out c.own.waits.out)) g.stands) ∙ o)) g.fails
  where
    f : Found
    f = g.one

    finds : x.write.stage ≡ Finds (g.before ++ f ∷ g.after)
    finds = e ∙ ap Finds g.stands

    asked : (since : ℕ) → f.revoke ≡ asking.Due since → list_any (is_revoke_call x.write.ticket f.key) (due_found x.write.ticket f) ≡ true
    asked since d =
        ap (λ (s : Asking). list_any (is_revoke_call x.write.ticket f.key) (due_asking x.write.ticket f s)) d
        ∙ or_left ((x.write.ticket == x.write.ticket) && same f.key f.key) false (and_both (x.write.ticket == x.write.ticket) (same f.key f.key) (number_itself x.write.ticket) (same-itself f.key))

    runs_due : (since : ℕ) → f.revoke ≡ asking.Due since → list_any (is_revoke_call x.write.ticket f.key) (due_of x.write) ≡ true
    runs_due since d = ap (λ (s : WriteStage). list_any (is_revoke_call x.write.ticket f.key) (due_in x.write.ticket s)) finds ∙ any_given (is_revoke_call x.write.ticket f.key) (due_found x.write.ticket) f g.before g.after (asked since d)

    runs_as : (s : Asking) → f.revoke ≡ s → RevokeRuns c x.write.ticket f.key s → WaitsFor c a
    runs_as s d r = asks_owner x (record { found = f; finds = record { before = g.before; after = g.after; stands = finds }; runs = subst (RevokeRuns c x.write.ticket f.key) (sym d) r })

    by : (s : Asking) → f.revoke ≡ s → is_asking_out c.own.waits.out f.key s ≡ true → f.gone && not (is_asked_out s) ≡ false → WaitsFor c a
    by (asking.Due since) d t u = runs_as (asking.Due since) d (write_due (is_revoke_call x.write.ticket f.key) c (due (is_revoke_call x.write.ticket f.key) (runs_due since d)))
    by (asking.Out call) d t u = runs_as (asking.Out call) d (write_out (is_revoke_of f.key) c call ok t)
    by asking.Done d t u = awaits_deletion x (record { found = f; finds = record { before = g.before; after = g.after; stands = finds }; answered = d; stays = sym (and_true f.gone) ∙ u })

write_waits : (c : Core) (a : Asked) → CoreOk c → RescindsAreOut c → EachOf (IsSame a) c.own.waits.writes → idle.WriteOf c.own a.ticket → WaitsFor c a
write_waits c a ok r sames h = by w.stage refl out h.waits
  where
    w : Write
    w = h.write

    x : IsWrite c a
    x = record {
      earlier = h.earlier;
      write = w;
      later = h.later;
      stands = h.stands;
      named = h.named;
      same = each_among (IsSame a) w h.earlier h.later (subst (EachOf (IsSame a)) h.stands sames) h.named;
    }

    out : is_write_out c.own.waits.out w.stage ≡ true
    out = all_among (λ v. is_write_out c.own.waits.out v.stage) w h.earlier h.later (sym (ap (list_all (λ v. is_write_out c.own.waits.out v.stage)) h.stands) ∙ ok.agrees.writes.out)

    due : (p : DueCall → Bool) → list_any p (due_of w) ≡ true → list_any p (due_calls c.own.waits.writes) ≡ true
    due p t = ap (λ (ws : List Write). list_any p (due_calls ws)) h.stands ∙ any_given p due_of w h.earlier h.later t

    by : (s : WriteStage) → w.stage ≡ s → is_write_out c.own.waits.out s ≡ true → idle.WriteWaits h.earlier c.own w s → WaitsFor c a
    by Waiting e o (inl t) = behind_write x t
    by Waiting e o (inr t) = held_waits c a ok r x t
    by (Sends owner s) e o t = sends x (record { owner = owner; sending = s; stands = e; runs = own_runs c w owner ok due s e out })
    by (Finds found) e o t = found_waits c a ok x due found e o (failing is_over found t)

-- ---- each request

ask_waits : (c : Core) (a : Asked) → CoreOk c → RescindsAreOut c → (s : Stage) → a.stage ≡ s → idle.StageWaits c a s → (is_reading s ≡ true → is_leased_read c.own.waits.prefix a.request ≡ true) → EachOf (IsSame a) c.own.waits.writes
    → group_stands c.out a.request s ≡ true → is_stage_out c.out s ≡ true → ((p : Placed → Bool) → list_any p (due_stage a s) ≡ true → list_any p (due_jobs c) ≡ true) → is_replied s ≡ false → WaitsFor c a
unfolding acquire_of
ask_waits c a ok r (stage.Calling s) e w plain alike g o due n = calls (record { sending = s; stands = e; runs = by s o due })
  where
    by : (s : Sending) → is_stage_out c.out (stage.Calling s) ≡ true → ((p : Placed → Bool) → list_any p (due_stage a (stage.Calling s)) ≡ true → list_any p (due_jobs c) ≡ true) → AskRuns c a.ticket s
    by (sending.Due since) t d = d (λ x. asks_for a.ticket x.job) (or_left (a.ticket == a.ticket) false (number_itself a.ticket))
    by (sending.Out call) t d = t
ask_waits c a ok r stage.Acquiring e w plain alike g o due n = acquires (record { acquire = acquire_of c (ask_key a) w.acquire ok w.stands; named = w.named })
ask_waits c a ok r stage.Joined e w plain alike g o due n = joined (plain refl) (acquire_of c (ask_key a) w.acquire ok w.stands)
ask_waits c a ok r stage.Behind e w plain alike g o due n = behind_owner (plain refl) (owner_of c (ask_key a) ok w)
ask_waits c a ok r stage.Writes e w plain alike g o due n = write_waits c a ok r alike w
ask_waits c a ok r (stage.Grouped None) e w plain alike g o due n = follows_keepalive (and_first (is_keepalive a.request) (group_sending c.out (lease_of a.request) None) g) (record { stands = e; out = w })
ask_waits c a ok r (stage.Grouped (Some s)) e w plain alike g o due n =
    let keeps = and_first (is_keepalive a.request) (group_sending c.out (lease_of a.request) (Some s)) g in
    let sent = and_second (is_keepalive a.request) (group_sending c.out (lease_of a.request) (Some s)) g in
    shares_keepalive keeps (record { sending = s; stands = e; runs = by s sent due })
  where
    by : (s : Sending) → group_sending c.out (lease_of a.request) (Some s) ≡ true → ((p : Placed → Bool) → list_any p (due_stage a (stage.Grouped (Some s))) ≡ true → list_any p (due_jobs c) ≡ true) → KeepaliveRuns c (lease_of a.request) a.ticket s
    by (sending.Due since) t d =
        d (λ x. keeps_for (lease_of a.request) a.ticket x.job)
        (or_left ((lease_of a.request == lease_of a.request) && (a.ticket == a.ticket)) false (and_both (lease_of a.request == lease_of a.request) (a.ticket == a.ticket) (number_itself (lease_of a.request)) (number_itself a.ticket)))
    by (sending.Out call) t d = t
ask_waits c a ok r (stage.Replied v) e w plain alike g o due n = absurd (cc)

all_wait : (c : Core) → CoreOk c → RescindsAreOut c → (asks : List Asked) → idle.AllWaitFor c asks → EachOf (λ a. is_reading a.stage ≡ true → is_leased_read c.own.waits.prefix a.request ≡ true) asks
    → EachOf (λ a. EachOf (IsSame a) c.own.waits.writes) asks → list_all (λ a. group_stands c.out a.request a.stage) asks ≡ true → list_all (λ a. is_stage_out c.out a.stage) asks ≡ true
    → ((p : Placed → Bool) → list_any p (flat_map due_ask asks) ≡ true → list_any p (due_jobs c) ≡ true) → EachOf (λ a. is_replied a.stage ≡ false → WaitsFor c a) asks
all_wait c ok r [] w plain alike g o due = tt
all_wait c ok r (a ∷ asks) w plain alike g o due =
    let groups = list_all (λ x. group_stands c.out x.request x.stage) asks in
    let outs = list_all (λ x. is_stage_out c.out x.stage) asks in (
      ask_waits c a ok r a.stage refl w.0 plain.0 alike.0 (and_first (group_stands c.out a.request a.stage) groups g) (and_first (is_stage_out c.out a.stage) outs o) (λ p t. due p (any_front p (due_ask a) (flat_map due_ask asks) t)),
      all_wait c ok r asks w.1 plain.1 alike.1 (and_second (group_stands c.out a.request a.stage) groups g) (and_second (is_stage_out c.out a.stage) outs o) (λ p t. due p (any_back p (due_ask a) (flat_map due_ask asks) t)),
    )

pub requests_wait : RequestsWait
requests_wait c ok fits r = all_wait c ok r c.asks (none_is_idle c ok) fits.read fits.write ok.agrees.groups.stand ok.agrees.out.asks (λ p t. in_asks p c t)
