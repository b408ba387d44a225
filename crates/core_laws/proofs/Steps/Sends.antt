-- The first due job is sent: what holds then.
use Rattle.std.proofs.Common.{◌≡◌, ℕ, ◌+◌, ◌==◌, nat_le, Bool, true, false, not, cond, ◌&&◌, ◌||◌, List, [], ◌∷◌, ◌++◌, map, filter, Option, None, Some, refl, sym, ◌∙◌, ap, subst, arith}
use Rattle.std.proofs.lemmas.Bool.Decides.{nat_tests}
use Rattle.std.specs.List.{list_any, list_all}
use Rattle.std.specs.Option.{option_map}
use Rattle.etcd_types.specs.Keys.{same}
use Rattle.etcd_types.proofs.Bools.{and_first, and_second, and_false, and_true, or_true, or_first, or_second, or_none, not_true, false_not}
use Rattle.proxy_model.specs.declared.session.Standing.{Standing}
use Rattle.proxy_model.specs.Keyed.{at}
use Rattle.proxy_model.specs.Session.{Session}
use Rattle.proxy_model.proofs.KeyedLaws.{at-with_at}
use Rattle.wait_model.specs.declared.sending.Sending.{Sending}
use Rattle.wait_model.specs.declared.sending.Sending.TheVariants as sending
use Rattle.wait_model.specs.Sent.{JobSent, job_sent}
use Rattle.core_laws.specs.Writes.Laws as waits
use Rattle.core_laws.proofs.Writes.Sendings as sendings
use Rattle.core_laws.proofs.Writes.WrittenKept.{ranges_stay}
use Rattle.read_model.specs.declared.acquire.Acquire.{Acquire}
use Rattle.read_model.specs.declared.asked.Asked.{Asked}
use Rattle.read_model.specs.declared.asked.Stage.{Stage}
use Rattle.read_model.specs.declared.asked.Stage.TheVariants as stage
use Rattle.read_model.specs.Acquires.{acquires_at, sent_out, acquire_sent}
use Rattle.read_model.specs.Fits.{ReadsOk}
use Rattle.read_model.specs.PlainRead.{in_stage}
use Rattle.read_model.specs.Release.{ask_stands}
use Rattle.read_model.specs.State.{ground_of}
use Rattle.read_model.specs.TakingOff.{is_writes}
use Rattle.core_laws.proofs.PlainReads.Kept.{stays_ok, sending_keeps}
use Rattle.core_model.specs.declared.out_call.OutCall.{OutCall}
use Rattle.core_model.specs.declared.out_call.OutJob.{OutJob}
use Rattle.core_model.specs.declared.out_call.OutJob.TheVariants as job
use Rattle.core_model.specs.DueJobs.{ForSession, ForAsk, ForGroup}
use Rattle.core_model.specs.Fits.{has_number, once, at_most_one, has_standing, is_standing, job_at, passes, is_session_job, is_call_out, is_seat_out, is_acquire_of, is_acquire_out, is_ask_job, is_stage_out, is_wait, calls_of, group_stands, writing_tickets, is_awaited, NumbersOk, Agrees}
use Rattle.core_model.specs.Groups.{keeps, is_due_stage, group_sent}
use Rattle.core_model.specs.Kinds.{kind_of}
use Rattle.core_model.specs.Lookups.{reads_of, with_reads, has_ticket, stage_calls, calls_as}
use Rattle.core_model.specs.Sending.{next_call, out_call, session_out, seat_sent, called_as}
use Rattle.core_model.specs.State.{Seat, Core}
use Rattle.core_laws.proofs.Steps.Agreeing.{to_written}
use Rattle.core_laws.proofs.Steps.Calls.{job_last, out_grown, is_new, is_new_wait, numbers_sent}
use Rattle.core_laws.proofs.Steps.Comes.{by_test}
use Rattle.core_laws.proofs.Steps.Due.{is_called_due, DueOk}
use Rattle.core_laws.proofs.Steps.Groups.{NoGroup, groups_pushed, groups_sent}
use Rattle.core_laws.proofs.Steps.Lists.{nothing_more, same_number, all_kept, all_mapped, one, one_is, one_of_map, once_is_one, same_numbers, but, but_none, but_numbers}
use Rattle.core_laws.proofs.Steps.Requests.{asks_changed, awaited_changed, acquires_is, same_tickets, is_writing}
use Rattle.core_laws.proofs.Steps.TakenOff.{never_both}
use Rattle.core_laws.proofs.Steps.WaitEnds.{none_by}
use Rattle.core_laws.proofs.Steps.WaitSends.{SentIf, job_sends}
use Rattle.core_laws.proofs.Steps.Whole.{Whole}

-- What stands as out is out in a longer list too.

seat_grown : (x : OutCall) (out : List OutCall) (s : Option Seat) → is_seat_out out s ≡ true → is_seat_out (out ++ x ∷ []) s ≡ true
seat_grown x out None h = refl
seat_grown x out (Some s) h = call_grown s.session.standing s.call h
  where
    call_grown : (y : Option Standing) (o : Option Sending) → is_call_out y out o ≡ true → is_call_out y (out ++ x ∷ []) o ≡ true
    call_grown y None h = refl
    call_grown y (Some z) h = out_grown (is_session_job y) x out z h

acquire_grown : (x : OutCall) (out : List OutCall) (k : List ℕ) (o : Option Acquire) → is_acquire_out out k o ≡ true → is_acquire_out (out ++ x ∷ []) k o ≡ true
acquire_grown x out k None h = refl
acquire_grown x out k (Some a) h = out_grown (is_acquire_of k) x out a.sending h

stage_grown : (x : OutCall) (out : List OutCall) (s : Stage) → is_stage_out out s ≡ true → is_stage_out (out ++ x ∷ []) s ≡ true
stage_grown x out (stage.Calling s) h = out_grown is_ask_job x out s h
stage_grown x out stage.Acquiring h = refl
stage_grown x out stage.Joined h = refl
stage_grown x out stage.Behind h = refl
stage_grown x out stage.Writes h = refl
stage_grown x out (stage.Grouped s) h = refl
stage_grown x out (stage.Replied v) h = refl

all_grown : (x : OutCall) (out : List OutCall) (xs : List Asked) → list_all (λ a. is_stage_out out a.stage) xs ≡ true → list_all (λ a. is_stage_out (out ++ x ∷ []) a.stage) xs ≡ true
all_grown x out xs h = all_kept (λ (a : Asked). is_stage_out out a.stage) (λ (a : Asked). is_stage_out (out ++ x ∷ []) a.stage) (λ a t. stage_grown x out a.stage t) xs h

-- another than a write's
plain_numbers : (c : Core) (now : ℕ) (j : OutJob) → is_wait j ≡ false → Agrees c → NumbersOk (next_call c) (c.out ++ out_call now j c ∷ []) c.own.waits.out
plain_numbers c now j w h = numbers_sent c.calls (out_call now j c) c.out c.own.waits.out c.own.waits.out refl (sym (nothing_more (calls_of c.own.waits.out)) ∙ ap (λ b. calls_of c.own.waits.out ++ cond b (next_call c ∷ []) []) (sym w)) h.numbers

newest : (c : Core) (now : ℕ) (j : OutJob) → Agrees c → job_at (next_call c) (c.out ++ out_call now j c ∷ []) ≡ Some j
newest c now j h = job_last (out_call now j c) c.out (is_new c.calls c.out c.own.waits.out h.numbers)

one_more : (n m k : ℕ) → nat_le n (m + k) ≡ true → nat_le (n + 1) (m + (k + 1)) ≡ true
one_more n m k h = grind (arith, nat_tests)

-- The session's call.

session_fits : (number : ℕ) (x : Option Standing) → is_session_job x (session_out number x) ≡ true
session_fits number None = refl
session_fits number (Some y) = refl

session_waits : (number : ℕ) (x : Option Standing) → is_wait (session_out number x) ≡ false
session_waits number None = refl
session_waits number (Some y) = refl

session_groups : (number : ℕ) (x : Option Standing) → NoGroup (session_out number x)
session_groups number None lease = refl
session_groups number (Some y) lease = refl

pub session_whole : (most : ℕ) (now : ℕ) (s : Session) (c : Core) → DueOk c (ForSession s) → Whole most c → Whole (most + 1) (record c { seat = Some (seat_sent (next_call c) s); calls = next_call c; out = c.out ++ out_call now (session_out s.number s.standing) c ∷ [] })
session_whole most now s c d w =
    let h = w.mid.agrees in
    let j = session_out s.number s.standing in
    record {
      mid = record {
        given = one_more c.calls c.steps most w.mid.given;
        reads = subst (λ b. ReadsOk b (reads_of c)) (ap is_standing d.1 ∙ ap (λ (x : Session). has_standing x.standing) d.2) w.mid.reads;
        agrees = record {
          writes = h.writes;
          asks = h.asks;
          awaited = h.awaited;
          out = record {
            seat = ap (passes (is_session_job s.standing)) (newest c now j h) ∙ session_fits s.number s.standing;
            acquires = λ k. acquire_grown (out_call now j c) c.out k (at c.acquires k) (h.out.acquires k);
            asks = all_grown (out_call now j c) c.out c.asks h.out.asks;
          };
          numbers = plain_numbers c now j (session_waits s.number s.standing) h;
          groups = groups_pushed (out_call now j c) c.out c.asks (session_groups s.number s.standing) h.groups;
          seated = or_true (has_standing s.standing);
        };
      };
      settled = w.settled;
      unfinished = w.unfinished;
    }

-- A write's, a revoke call's, a rescind.

pub writes_whole : (most : ℕ) (now : ℕ) (c : Core) (x : JobSent) → job_sent (next_call c) c.own ≡ Some x → Whole most c → Whole (most + 1) (record c { own = x.own; calls = next_call c; out = c.out ++ out_call now job.Wait c ∷ [] })
writes_whole most now c x e w =
    let h = w.mid.agrees in
    let s = subst (SentIf (next_call c) c.own) e (job_sends (next_call c) c.own h.writes (is_new_wait c.calls c.out c.own.waits.out h.numbers) ((ranges_stay c.own (to_written c.own.waits.writes h.writes.ranges)).sending (next_call c))) in
    record {
      mid = record {
        given = one_more c.calls c.steps most w.mid.given;
        reads = stays_ok (is_standing c.seat) (reads_of c) x.own (subst waits.SentKeepsIf e (sendings.sending_keeps c.own (next_call c) w.mid.reads.ground.keys)) s.stays w.mid.reads;
        agrees = record {
          writes = s.writes;
          asks = record { once = h.asks.once; writes = s.tickets ∙ h.asks.writes; calls_once = h.asks.calls_once };
          awaited = h.awaited;
          out = record {
            seat = seat_grown (out_call now job.Wait c) c.out c.seat h.out.seat;
            acquires = λ k. acquire_grown (out_call now job.Wait c) c.out k (at c.acquires k) (h.out.acquires k);
            asks = all_grown (out_call now job.Wait c) c.out c.asks h.out.asks;
          };
          numbers = numbers_sent c.calls (out_call now job.Wait c) c.out c.own.waits.out x.own.waits.out refl s.out h.numbers;
          groups = groups_pushed (out_call now job.Wait c) c.out c.asks (λ lease. refl) h.groups;
          seated = h.seated;
        };
      };
      settled = s.settled w.settled;
      unfinished = s.unfinished w.unfinished;
    }

-- An acquire's.

pub acquire_whole : (most : ℕ) (now : ℕ) (k : List ℕ) (c : Core) → Whole most c → Whole (most + 1) (record (with_reads c (acquire_sent (next_call c) k (reads_of c))) { calls = next_call c; out = c.out ++ out_call now (job.Acquire k) c ∷ [] })
acquire_whole most now k c w =
    let h = w.mid.agrees in
    record {
      mid = record {
        given = one_more c.calls c.steps most w.mid.given;
        reads = sending_keeps (is_standing c.seat) (next_call c) k (reads_of c) w.mid.reads;
        agrees = record {
          writes = h.writes;
          asks = h.asks;
          awaited = λ i. ap (is_awaited c.asks i) (at-with_at c.acquires k i (option_map (sent_out (next_call c)) (at c.acquires k))) ∙ awaited_at i (same k i);
          out = record {
            seat = seat_grown (out_call now (job.Acquire k) c) c.out c.seat h.out.seat;
            acquires = λ i. ap (is_acquire_out (c.out ++ out_call now (job.Acquire k) c ∷ []) i) (at-with_at c.acquires k i (option_map (sent_out (next_call c)) (at c.acquires k))) ∙ out_at i (same k i) refl;
            asks = all_grown (out_call now (job.Acquire k) c) c.out c.asks h.out.asks;
          };
          numbers = plain_numbers c now (job.Acquire k) refl h;
          groups = groups_pushed (out_call now (job.Acquire k) c) c.out c.asks (λ lease. refl) h.groups;
          seated = h.seated;
        };
      };
      settled = w.settled;
      unfinished = w.unfinished;
    }
  where
    sent_awaits : (i : List ℕ) (o : Option Acquire) → is_awaited c.asks i (option_map (sent_out (next_call c)) o) ≡ true
    sent_awaits i None = refl
    sent_awaits i (Some x) = refl

    awaited_at : (i : List ℕ) (b : Bool) → is_awaited c.asks i (cond b (option_map (sent_out (next_call c)) (at c.acquires k)) (at c.acquires i)) ≡ true
    awaited_at i true = sent_awaits i (at c.acquires k)
    awaited_at i false = w.mid.agrees.awaited i

    sent_is_out : (i : List ℕ) (o : Option Acquire) → same k i ≡ true → is_acquire_out (c.out ++ out_call now (job.Acquire k) c ∷ []) i (option_map (sent_out (next_call c)) o) ≡ true
    sent_is_out i None t = refl
    sent_is_out i (Some x) t = ap (passes (is_acquire_of i)) (newest c now (job.Acquire k) w.mid.agrees) ∙ t

    out_at : (i : List ℕ) (b : Bool) → same k i ≡ b → is_acquire_out (c.out ++ out_call now (job.Acquire k) c ∷ []) i (cond b (option_map (sent_out (next_call c)) (at c.acquires k)) (at c.acquires i)) ≡ true
    out_at i true t = sent_is_out i (at c.acquires k) t
    out_at i false t = acquire_grown (out_call now (job.Acquire k) c) c.out i (at c.acquires i) (w.mid.agrees.out.acquires i)

-- A request's own.

both_none : {A : Type 0} (p r : A → Bool) (xs : List A) → list_any p xs ≡ false → list_any r xs ≡ false → list_any (λ y. p y || r y) xs ≡ false
both_none p r [] e n = refl
both_none p r (x ∷ xs) e n =
    or_none (p x || r x) (list_any (λ y. p y || r y) xs) (or_none (p x) (r x) (or_first (p x) (list_any p xs) e) (or_first (r x) (list_any r xs) n)) (both_none p r xs (or_second (p x) (list_any p xs) e) (or_second (r x) (list_any r xs) n))

one_or : {A : Type 0} (p r : A → Bool) (xs : List A) → list_any r xs ≡ false → one p xs ≡ true → one (λ x. p x || r x) xs ≡ true
one_or p r [] n h = refl
one_or p r (x ∷ xs) n h = by_head (λ t. one_or p r xs rest t) (p x) (r x) (or_first (r x) (list_any r xs) n) h
  where
    rest : list_any r xs ≡ false
    rest = or_second (r x) (list_any r xs) n

    same_any : list_any p xs ≡ false → list_any (λ y. p y || r y) xs ≡ false
    same_any e = both_none p r xs e rest

    by_head : (one p xs ≡ true → one (λ y. p y || r y) xs ≡ true) → (b c : Bool) → c ≡ false → cond b (not (list_any p xs)) (one p xs) ≡ true → cond (b || c) (not (list_any (λ y. p y || r y) xs)) (one (λ y. p y || r y) xs) ≡ true
    by_head i true c e h = false_not (list_any (λ y. p y || r y) xs) (same_any (not_true (list_any p xs) h))
    by_head i false true e h = absurd (cc)
    by_head i false false e h = i h

-- a stage for the one of a ticket, which is no write
staged_tickets : (ticket : ℕ) (s : Stage) → is_writes s ≡ false → (xs : List Asked) → writing_tickets (map (λ x. cond (has_ticket ticket x) (in_stage s x) x) xs) ≡ but ticket (writing_tickets xs)
staged_tickets ticket s n xs =
    same_numbers (λ (a : Asked). a.ticket) (λ (a : Asked). a.ticket) (λ (a : Asked). is_writes a.stage && not (a.ticket == ticket)) (λ (a : Asked). is_writes a.stage) (λ x. cond (has_ticket ticket x) (in_stage s x) x)
    (λ x. by_test (λ (y : Asked). y.ticket ≡ x.ticket) (has_ticket ticket x) (in_stage s x) x (λ t. refl) (λ t. refl))
    (λ x. by_test (λ (y : Asked). is_writes y.stage ≡ is_writes x.stage && not (x.ticket == ticket)) (has_ticket ticket x) (in_stage s x) x (λ t. n ∙ sym (ap (λ b. is_writes x.stage && not b) t ∙ and_false (is_writes x.stage))) (λ t. sym (ap (λ b. is_writes x.stage && not b) t ∙ and_true (is_writes x.stage))))
    xs
    ∙ sym (but_numbers (λ (a : Asked). a.ticket) ticket (λ (a : Asked). is_writes a.stage) xs)

due_no_write : (a : Asked) → is_called_due a.stage && is_writes a.stage ≡ false
due_no_write a = by_stage a.stage
  where
    by_stage : (s : Stage) → is_called_due s && is_writes s ≡ false
    by_stage (stage.Calling s) = and_false (is_called_due (stage.Calling s))
    by_stage stage.Acquiring = refl
    by_stage stage.Joined = refl
    by_stage stage.Behind = refl
    by_stage stage.Writes = refl
    by_stage (stage.Grouped s) = refl
    by_stage (stage.Replied v) = refl

due_no_read : (k : List ℕ) (a : Asked) → is_called_due a.stage && acquires_at k a ≡ false
due_no_read k a = by_value (acquires_at k a) refl
  where
    by_value : (b : Bool) → acquires_at k a ≡ b → is_called_due a.stage && b ≡ false
    by_value true t = ap (λ (s : Stage). is_called_due s && true) (acquires_is k a t).0
    by_value false t = and_false (is_called_due a.stage)

nobody_out : (c : Core) → Agrees c → list_any (calls_as (next_call c)) c.asks ≡ false
nobody_out c h = none_by (λ (a : Asked). is_stage_out c.out a.stage) (calls_as (next_call c)) (λ a t u. none a.stage t u) c.asks h.out.asks
  where
    none : (s : Stage) → is_stage_out c.out s ≡ true → stage_calls (next_call c) s ≡ true → ⊥
    none (stage.Calling (sending.Due since)) t u = absurd (cc)
    none (stage.Calling (sending.Out n)) t u = absurd (let e = sym t ∙ ap (λ i. passes is_ask_job (job_at i c.out)) (same_number n (next_call c) u) ∙ ap (passes is_ask_job) (is_new c.calls c.out c.own.waits.out h.numbers) in cc)
    none stage.Acquiring t u = absurd (cc)
    none stage.Joined t u = absurd (cc)
    none stage.Behind t u = absurd (cc)
    none stage.Writes t u = absurd (cc)
    none (stage.Grouped s) t u = absurd (cc)
    none (stage.Replied v) t u = absurd (cc)

pub ask_whole : (most : ℕ) (now : ℕ) (a : Asked) (c : Core) → DueOk c (ForAsk a) → Whole most c → Whole (most + 1) (record c { asks = map (called_as (next_call c) a.ticket) c.asks; calls = next_call c; out = c.out ++ out_call now (job.Ask (kind_of a.request)) c ∷ [] })
ask_whole most now a c d w =
    let h = w.mid.agrees in
    record {
      mid = record {
        given = one_more c.calls c.steps most w.mid.given;
        reads = record { ground = w.mid.reads.ground; asks = all_mapped (ask_stands (ground_of (reads_of c))) (ask_stands (ground_of (reads_of c))) f (λ x t. either (λ (y : Asked). ask_stands (ground_of (reads_of c)) y ≡ true) x refl t) c.asks w.mid.reads.asks };
        agrees = record {
          writes = h.writes;
          asks = record {
            once = ap once (same_tickets f (λ x. either (λ (y : Asked). y.ticket ≡ x.ticket) x refl refl) c.asks) ∙ h.asks.once;
            writes = h.asks.writes ∙ sym (but_none a.ticket (writing_tickets c.asks) no_write) ∙ sym (staged_tickets a.ticket (stage.Calling (sending.Out (next_call c))) refl c.asks);
            calls_once = λ n. by_number n (next_call c == n) refl;
          };
          awaited = awaited_changed f c.asks c.acquires kept h.awaited;
          out = record {
            seat = seat_grown (out_call now j c) c.out c.seat h.out.seat;
            acquires = λ k. acquire_grown (out_call now j c) c.out k (at c.acquires k) (h.out.acquires k);
            asks = all_mapped (λ (x : Asked). is_stage_out c.out x.stage) (λ (x : Asked). is_stage_out (c.out ++ out_call now j c ∷ []) x.stage) f (λ x t. either (λ (y : Asked). is_stage_out (c.out ++ out_call now j c ∷ []) y.stage ≡ true) x (ap (passes is_ask_job) (newest c now j h)) (stage_grown (out_call now j c) c.out x.stage t)) c.asks h.out.asks;
          };
          numbers = plain_numbers c now j refl h;
          groups = groups_pushed (out_call now j c) c.out (map f c.asks) (λ lease. refl) (record { one = h.groups.one; stand = all_mapped (λ (x : Asked). group_stands c.out x.request x.stage) (λ (x : Asked). group_stands c.out x.request x.stage) f (λ x t. either (λ (y : Asked). group_stands c.out y.request y.stage ≡ true) x refl t) c.asks h.groups.stand });
          seated = h.seated;
        };
      };
      settled = w.settled;
      unfinished = w.unfinished;
    }
  where
    j : OutJob
    j = job.Ask (kind_of a.request)

    f : Asked → Asked
    f x = called_as (next_call c) a.ticket x

    either : (P : Asked → Type 0) (x : Asked) → P (in_stage (stage.Calling (sending.Out (next_call c))) x) → P x → P (called_as (next_call c) a.ticket x)
    either P x s t = by_test P (has_ticket a.ticket x) (in_stage (stage.Calling (sending.Out (next_call c))) x) x (λ u. s) (λ u. t)

    no_write : has_number (writing_tickets c.asks) a.ticket ≡ false
    no_write = by_value (has_number (writing_tickets c.asks) a.ticket) refl
      where
        by_value : (b : Bool) → has_number (writing_tickets c.asks) a.ticket ≡ b → has_number (writing_tickets c.asks) a.ticket ≡ false
        by_value true t = absurd (never_both (λ (x : Asked). is_called_due x.stage) (λ (x : Asked). is_writes x.stage) due_no_write a.ticket c.asks w.mid.agrees.asks.once d (is_writing a.ticket c.asks t))
        by_value false t = t

    kept : (k : List ℕ) (x : Acquire) (b : Asked) → at c.acquires k ≡ Some x → list_any (λ y. has_ticket x.ticket y && acquires_at k y) c.asks ≡ true → has_ticket x.ticket b && acquires_at k b ≡ true → called_as (next_call c) a.ticket b ≡ b
    kept k x b e r t =
        by_test (λ (y : Asked). y ≡ b) (has_ticket a.ticket b) (in_stage (stage.Calling (sending.Out (next_call c))) b) b
        (λ u.
        let n : x.ticket ≡ a.ticket = sym (same_number b.ticket x.ticket (and_first (has_ticket x.ticket b) (acquires_at k b) t)) ∙ same_number b.ticket a.ticket u in
        absurd (never_both (λ (y : Asked). is_called_due y.stage) (acquires_at k) (due_no_read k) a.ticket c.asks w.mid.agrees.asks.once d (subst (λ (m : ℕ). list_any (λ y. has_ticket m y && acquires_at k y) c.asks ≡ true) n r)))
        (λ u. refl)

    or_calls : (n : ℕ) (x : Asked) → calls_as n (called_as (next_call c) a.ticket x) ≡ true → has_ticket a.ticket x || calls_as n x ≡ true
    or_calls n x = by_test (λ (y : Asked). calls_as n y ≡ true → has_ticket a.ticket x || calls_as n x ≡ true) (has_ticket a.ticket x) (in_stage (stage.Calling (sending.Out (next_call c))) x) x (λ u t. ap (λ b. b || calls_as n x) u) (λ u t. ap (λ b. b || calls_as n x) u ∙ t)

    by_number : (n : ℕ) (b : Bool) → (next_call c == n) ≡ b → at_most_one (filter (calls_as n) (map (called_as (next_call c) a.ticket) c.asks)) ≡ true
    by_number n true e =
        let none : list_any (calls_as n) c.asks ≡ false = ap (λ i. list_any (calls_as i) c.asks) (sym (same_number (next_call c) n e)) ∙ nobody_out c w.mid.agrees in
        one_of_map (λ x. has_ticket a.ticket x || calls_as n x) (calls_as n) (called_as (next_call c) a.ticket) (or_calls n) c.asks (one_is (λ x. has_ticket a.ticket x || calls_as n x) c.asks ∙ one_or (has_ticket a.ticket) (calls_as n) c.asks none (sym (one_is (has_ticket a.ticket) c.asks) ∙ once_is_one (λ (x : Asked). x.ticket) a.ticket c.asks w.mid.agrees.asks.once))
    by_number n false e = one_of_map (calls_as n) (calls_as n) (called_as (next_call c) a.ticket) (λ x. either (λ (y : Asked). calls_as n y ≡ true → calls_as n x ≡ true) x (λ t. absurd (cc)) (λ t. t)) c.asks (w.mid.agrees.asks.calls_once n)

-- A group's.

due_stage_plain : (s : Stage) → is_due_stage s ≡ true → is_writes s ≡ false
due_stage_plain (stage.Grouped s) t = refl
due_stage_plain (stage.Calling s) t = refl
due_stage_plain stage.Acquiring t = refl
due_stage_plain stage.Joined t = refl
due_stage_plain stage.Behind t = refl
due_stage_plain stage.Writes t = absurd (cc)
due_stage_plain (stage.Replied v) t = refl

pub group_whole : (most : ℕ) (now lease ticket : ℕ) (c : Core) → DueOk c (ForGroup lease ticket) → Whole most c → Whole (most + 1) (record c { asks = map (group_sent (next_call c) lease) c.asks; calls = next_call c; out = c.out ++ out_call now (job.Group lease) c ∷ [] })
group_whole most now lease ticket c d w =
    let h = w.mid.agrees in
    record {
      mid = record {
        given = one_more c.calls c.steps most w.mid.given;
        reads = record { ground = w.mid.reads.ground; asks = all_mapped (ask_stands (ground_of (reads_of c))) (ask_stands (ground_of (reads_of c))) f (λ x t. either (λ (y : Asked). ask_stands (ground_of (reads_of c)) y ≡ true) x refl t) c.asks w.mid.reads.asks };
        agrees = record {
          writes = h.writes;
          asks = asks_changed f tickets (λ n x. either (λ (y : Asked). calls_as n y ≡ true → calls_as n x ≡ true) x (λ t. absurd (cc)) (λ t. t)) c.asks c.own.waits.writes c.own.waits.writes (h.asks.writes ∙ sym (same_numbers (λ (x : Asked). x.ticket) (λ (x : Asked). x.ticket) (λ (x : Asked). is_writes x.stage) (λ (x : Asked). is_writes x.stage) f tickets written c.asks)) h.asks;
          awaited = awaited_changed f c.asks c.acquires (λ k x b e r t. kept k b (and_second (has_ticket x.ticket b) (acquires_at k b) t)) h.awaited;
          out = record {
            seat = seat_grown (out_call now (job.Group lease) c) c.out c.seat h.out.seat;
            acquires = λ k. acquire_grown (out_call now (job.Group lease) c) c.out k (at c.acquires k) (h.out.acquires k);
            asks = all_mapped (λ (x : Asked). is_stage_out c.out x.stage) (λ (x : Asked). is_stage_out (c.out ++ out_call now (job.Group lease) c ∷ []) x.stage) f (λ x t. either (λ (y : Asked). is_stage_out (c.out ++ out_call now (job.Group lease) c ∷ []) y.stage ≡ true) x refl (stage_grown (out_call now (job.Group lease) c) c.out x.stage t)) c.asks h.out.asks;
          };
          numbers = plain_numbers c now (job.Group lease) refl h;
          groups = groups_sent (out_call now (job.Group lease) c) lease c.out c.asks refl (is_new c.calls c.out c.own.waits.out h.numbers) d h.groups;
          seated = h.seated;
        };
      };
      settled = w.settled;
      unfinished = w.unfinished;
    }
  where
    f : Asked → Asked
    f x = group_sent (next_call c) lease x

    either : (P : Asked → Type 0) (x : Asked) → P (in_stage (stage.Grouped (Some (sending.Out (next_call c)))) x) → P x → P (group_sent (next_call c) lease x)
    either P x s t = by_test P (keeps lease x.request && is_due_stage x.stage) (in_stage (stage.Grouped (Some (sending.Out (next_call c)))) x) x (λ u. s) (λ u. t)

    tickets : (x : Asked) → (group_sent (next_call c) lease x).ticket ≡ x.ticket
    tickets x = either (λ (y : Asked). y.ticket ≡ x.ticket) x refl refl

    written : (x : Asked) → is_writes (group_sent (next_call c) lease x).stage ≡ is_writes x.stage
    written x = by_test (λ (y : Asked). is_writes y.stage ≡ is_writes x.stage) (keeps lease x.request && is_due_stage x.stage) (in_stage (stage.Grouped (Some (sending.Out (next_call c)))) x) x (λ u. sym (due_stage_plain x.stage (and_second (keeps lease x.request) (is_due_stage x.stage) u))) (λ u. refl)

    kept : (k : List ℕ) (b : Asked) → acquires_at k b ≡ true → group_sent (next_call c) lease b ≡ b
    kept k b t =
        ap (λ (s : Stage). cond (keeps lease b.request && is_due_stage s) (in_stage (stage.Grouped (Some (sending.Out (next_call c)))) b) b) (acquires_is k b t).0
        ∙ ap (λ z. cond z (in_stage (stage.Grouped (Some (sending.Out (next_call c)))) b) b) (and_false (keeps lease b.request))
