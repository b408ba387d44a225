-- An answer that is heard: each ok reply that stands after it stood before, or is this answer's, or is the record of a key that is held on the
-- ground on which reads are decided again.
use Rattle.std.proofs.Common.{◌≡◌, ℕ, ◌==◌, Bool, true, false, cond, List, [], ◌∷◌, map, Option, None, Some, refl, sym, ◌∙◌, ap, subst}
use Rattle.etcd_types.specs.declared.answer.Answer.{Answer}
use Rattle.etcd_types.specs.declared.answer.Answer.TheVariants.{Done, Refused}
use Rattle.etcd_types.specs.declared.answer.Reply.{Reply}
use Rattle.etcd_types.specs.declared.record.Header.{Header}
use Rattle.etcd_types.specs.declared.record.Kv.{Kv}
use Rattle.etcd_types.specs.Keys.{same}
use Rattle.etcd_types.proofs.Bools.{and_first, and_second}
use Rattle.etcd_types.proofs.KeyOrder.{same-equal}
use Rattle.proxy_model.specs.declared.lease.Entry.{Entry}
use Rattle.proxy_model.specs.declared.lease.Phase.{Phase}
use Rattle.proxy_model.specs.declared.lease.Phase.TheVariants.{Held, Writing, Leaving}
use Rattle.proxy_model.specs.declared.ownership.Claim.{Claim}
use Rattle.proxy_model.specs.declared.ownership.Claim.TheVariants.{Acquired, OwnedBy}
use Rattle.proxy_model.specs.declared.ownership.Written.{Written}
use Rattle.proxy_model.specs.declared.ownership.Written.TheVariants.{Wrote, Blocked}
use Rattle.proxy_model.specs.Acquire.{claimed}
use Rattle.proxy_model.specs.Guarded.{written}
use Rattle.proxy_model.specs.Keyed.{at}
use Rattle.proxy_model.specs.Leaving.{guard_held}
use Rattle.wait_model.specs.declared.wait.Settled.{Settled}
use Rattle.wait_model.specs.declared.wait.Settled.TheVariants as settled
use Rattle.wait_model.specs.declared.wait.WaitJob.{WaitJob}
use Rattle.wait_model.specs.declared.wait.WaitJob.TheVariants as wait
use Rattle.wait_model.specs.declared.write.Write.{Write}
use Rattle.wait_model.specs.Endings.{answered, answered_job, revoke_back, revoke_answered, without_out}
use Rattle.wait_model.specs.GuardedAnswers.{Ending, done_if, write_answered}
use Rattle.wait_model.specs.Leaving.{rescinded, if_read, rescind_answered}
use Rattle.wait_model.specs.State.{Ownership}
use Rattle.wait_model.specs.Writes.{first_by, sends, asks, job_of}
use Rattle.read_model.specs.declared.acquire.Acquire.{Acquire}
use Rattle.read_model.specs.declared.asked.Asked.{Asked}
use Rattle.read_model.specs.declared.asked.Stage.{Stage}
use Rattle.read_model.specs.declared.asked.Stage.TheVariants as stage
use Rattle.read_model.specs.declared.asked.Verdict.TheVariants as verdict
use Rattle.read_model.specs.Acquires.{is_acquiring, acquires_at, told, acquired, acquire_done, done_by, is_to_be_held, answered_acquire, acquire_answered}
use Rattle.read_model.specs.Fits.{ReadsOk}
use Rattle.read_model.specs.PlainRead.{ask_key, shown, held_turn, read_turn, in_stage}
use Rattle.read_model.specs.Release.{stands, ask_stands, in_place}
use Rattle.read_model.specs.State.{Reads, Ground, ground_of}
use Rattle.read_model.specs.TakingOff.{is_writes}
use Rattle.read_model.specs.WriteAnswers.{settled_ask, ending, wait_answered}
use Rattle.core_laws.specs.PlainReads.InPlace.{placed_by}
use Rattle.core_laws.proofs.PlainReads.InPlace.{answers_in_place, wins_in_place}
use Rattle.core_model.specs.declared.event.CoreEvent.{CoreEvent}
use Rattle.core_model.specs.declared.out_call.OutCall.{OutCall}
use Rattle.core_model.specs.declared.out_call.OutJob.TheVariants as job
use Rattle.core_model.specs.ClockWork.{clock_work}
use Rattle.core_model.specs.Ends.{acquire_if, reads_if}
use Rattle.core_model.specs.Fits.{has_number, writing_tickets, write_tickets, AsksOk, WritesOk}
use Rattle.core_model.specs.Lookups.{moment, reads_of, live_number}
use Rattle.core_model.specs.State.{Core}
use Rattle.core_model.specs.Step.{stepped}
use Rattle.core_laws.proofs.Steps.Comes.{by_test}
use Rattle.core_laws.proofs.Steps.Lists.{same_number}
use Rattle.core_laws.proofs.Steps.WaitEnds.{IsRemoved, EndsAs, EndedIf, answered_ends, found_ticket}
use Rattle.keep_laws.proofs.Rows.{All, all_mapped, all_kept, Settles, all_write}
use Rattle.reply_laws.specs.Sources as sources
use Rattle.core_fits.specs.Fits.{is_reading}
use Rattle.reply_laws.specs.Sources.{Hears, hearing, claimed_record, Wins, Decides, shows, IsHeld, Source}
use Rattle.reply_laws.proofs.Before.{is_quiet, Since, since_stood, stood_on}
use Rattle.reply_laws.proofs.Events.{is_unsaid, OfUnsaid, released_all}

-- where it is replied ok, that has a source
abbrev pub Sourced : Core → CoreEvent → ℕ → Asked → Type 0
Sourced c e now y = (reply : Reply) → y.stage ≡ stage.Replied (verdict.Said (Done reply)) → Source c e now y reply

pub unsaid_sourced : (c : Core) (e : CoreEvent) (now : ℕ) → OfUnsaid (Sourced c e now)
unsaid_sourced c e now y u reply s = absurd (let t : true ≡ false = sym u ∙ ap is_unsaid s in cc)

pub since_sourced : (c : Core) (e : CoreEvent) (now : ℕ) (y : Asked) → Since c y → Sourced c e now y
since_sourced c e now y h reply s = sources.stood (since_stood c y (stage.Replied (verdict.Said (Done reply))) s refl h)

pub all_sourced : (c : Core) (e : CoreEvent) (now : ℕ) (xs : List Asked) → All (Since c) xs → All (Sourced c e now) xs
all_sourced c e now xs t = all_kept (Since c) (Sourced c e now) (since_sourced c e now) xs t

pub same_reply : (x y : Reply) → stage.Replied (verdict.Said (Done x)) ≡ stage.Replied (verdict.Said (Done y)) → x ≡ y
same_reply x y e = cc

-- where it is not replied now, it is as the clock's work left it
abbrev Waiting : Core → Asked → Type 0
Waiting c y = is_reading y.stage ≡ true → Since c y

record Both (c : Core) (e : CoreEvent) (now : ℕ) (y : Asked) : Type 0 where
  sourced : Sourced c e now y
  waiting : Waiting c y

-- ---- reads are decided again in place

waits_unmet : (ticket : ℕ) (e : Option Entry) (x : Option Acquire) (s : Stage) → stands ticket e x s ≡ false → is_reading s ≡ true
waits_unmet ticket e x stage.Acquiring h = refl
waits_unmet ticket e x stage.Joined h = refl
waits_unmet ticket e x stage.Behind h = refl
waits_unmet ticket e x (stage.Calling s) h = absurd (cc)
waits_unmet ticket e x stage.Writes h = absurd (cc)
waits_unmet ticket e x (stage.Grouped s) h = absurd (cc)
waits_unmet ticket e x (stage.Replied v) h = absurd (cc)

waiting_loud : (s : Stage) → is_reading s ≡ true → is_quiet s ≡ false
waiting_loud stage.Acquiring h = refl
waiting_loud stage.Joined h = refl
waiting_loud stage.Behind h = refl
waiting_loud (stage.Calling s) h = absurd (cc)
waiting_loud stage.Writes h = absurd (cc)
waiting_loud (stage.Grouped s) h = absurd (cc)
waiting_loud (stage.Replied v) h = absurd (cc)

placed_sourced : (c : Core) (e : CoreEvent) (now : ℕ) (h : Header) (g : Ground) → Decides c e now g → (stepped c e now).core.header ≡ h → (y : Asked) → Both c e now y → Sourced c e now (in_place true h g y)
placed_sourced c e now h g d top y b = by (ask_stands g y) refl
  where
    decided : is_reading y.stage ≡ true → (o : Option Entry) → at g.own.entries (ask_key y) ≡ o → Sourced c e now (in_stage (read_turn h g.own.waits.step o false None).stage y)
    decided w None f reply s = absurd (cc)
    decided w (Some x) f reply s = by_phase x.phase refl s
      where
        by_phase : (p : Phase) → x.phase ≡ p → held_turn h g.own.waits.step x.kv p ≡ stage.Replied (verdict.Said (Done reply)) → Source c e now (in_stage (read_turn h g.own.waits.step (Some x) false None).stage y) reply
        by_phase Held p t =
            sources.cached y.stage g w (stood_on c y (in_stage (read_turn h g.own.waits.step (Some x) false None).stage y) y.stage refl refl (since_stood c y y.stage refl (waiting_loud y.stage w) (b.waiting w))) d
            (record { entry = x; owned = f; held = p; told = sym (same_reply (shows h x.kv) reply t) ∙ ap (λ (k : Header). shows k x.kv) (sym top) })
        by_phase (Writing revoked) p t = absurd (cc)
        by_phase (Leaving sent) p t = absurd (cc)

    by : (t : Bool) → ask_stands g y ≡ t → Sourced c e now (cond t y (in_stage (read_turn h g.own.waits.step (at g.own.entries (ask_key y)) false None).stage y))
    by true t = b.sourced
    by false t = decided (waits_unmet y.ticket (at g.own.entries (ask_key y)) (at g.acquires (ask_key y)) y.stage t) (at g.own.entries (ask_key y)) refl

-- ---- what an answer meets

pub record Meets (c : Core) (e : CoreEvent) (now : ℕ) (d : Core) : Type 0 where
  pub since : All (Since c) d.asks
  pub own : d.own ≡ (clock_work now c).own
  pub standing : Bool
  pub reads : ReadsOk standing (reads_of d)
  pub asks : AsksOk d.asks d.own.waits.writes
  pub writes : WritesOk d.own.waits.writes d.own.waits.out
  pub top : (stepped c e now).core.header ≡ d.header

abbrev pub AllIf : (Asked → Type 0) → Option Core → Type 0
AllIf P None = Unit {0}
AllIf P (Some c) = All P c.asks

-- ---- an acquire

acquiring_is : (s : Stage) → is_acquiring s ≡ true → s ≡ stage.Acquiring
acquiring_is stage.Acquiring h = refl
acquiring_is stage.Joined h = absurd (cc)
acquiring_is stage.Behind h = absurd (cc)
acquiring_is (stage.Calling s) h = absurd (cc)
acquiring_is stage.Writes h = absurd (cc)
acquiring_is (stage.Grouped s) h = absurd (cc)
acquiring_is (stage.Replied v) h = absurd (cc)

told_both : (c : Core) (e : CoreEvent) (now : ℕ) (o : OutCall) (answer : Reply) (h : Hears c e o (Done answer)) (k : List ℕ) (claim : Claim) → o.job ≡ job.Acquire k
    → claimed (clock_work now c).own.waits.prefix k answer ≡ Some claim → (y : Asked) → Since c y → Both c e now (told k (shown answer.header (claimed_record claim)) y)
told_both c e now o answer h k claim j f y s = by (acquires_at k y) refl
  where
    x : Asked
    x = in_stage (shown answer.header (claimed_record claim)) y

    by : (b : Bool) → acquires_at k y ≡ b → Both c e now (cond b x y)
    by true t =
        let key = same-equal (ask_key y) k (and_second (is_acquiring y.stage) (same (ask_key y) k) t) in
        let stood = stood_on c y x stage.Acquiring refl refl (since_stood c y stage.Acquiring (acquiring_is y.stage (and_first (is_acquiring y.stage) (same (ask_key y) k) t)) refl s) in
        record {
          sourced = λ reply r.
              sources.acquired o answer claim (j ∙ ap (λ (i : List ℕ). job.Acquire i) (sym key)) stood h
              (ap (λ (i : List ℕ). claimed (clock_work now c).own.waits.prefix i answer) key ∙ f) (sym (same_reply (shows answer.header (claimed_record claim)) reply r));
          waiting = λ w. absurd (cc);
        }
    by false t = record { sourced = since_sourced c e now y s; waiting = λ w. s }

pub acquire_sourced : (c : Core) (e : CoreEvent) (now : ℕ) (o : OutCall) (answer : Reply) (h : Hears c e o (Done answer)) → Meets c e now (hearing now o.call h.answer c) → (k : List ℕ) → o.job ≡ job.Acquire k
    → let d = hearing now o.call h.answer c in AllIf (Sourced c e now) (acquire_if d (acquire_answered (moment d now) k (Done answer) (reads_of d)))
acquire_sourced c e now o answer h m k j = by_acquire (at (hearing now o.call h.answer c).acquires k) refl
  where
    d : Core
    d = hearing now o.call h.answer c

    prefix_is : (claim : Claim) → claimed (hearing now o.call h.answer c).own.waits.prefix k answer ≡ Some claim → claimed (clock_work now c).own.waits.prefix k answer ≡ Some claim
    prefix_is claim f = ap (λ (w : Ownership). claimed w.waits.prefix k answer) (sym m.own) ∙ f

    both : (claim : Claim) → claimed (hearing now o.call h.answer c).own.waits.prefix k answer ≡ Some claim → All (Both c e now) (map (told k (shown answer.header (claimed_record claim))) (hearing now o.call h.answer c).asks)
    both claim f = all_mapped (Since c) (Both c e now) (told k (shown answer.header (claimed_record claim))) (told_both c e now o answer h k claim j (prefix_is claim f)) (hearing now o.call h.answer c).asks m.since

    only : (xs : List Asked) → All (Both c e now) xs → All (Sourced c e now) xs
    only xs t = all_kept (Both c e now) (Sourced c e now) (λ x b. b.sourced) xs t

    by_held : (x : Acquire) → at (hearing now o.call h.answer c).acquires k ≡ Some x → (create : ℕ) (kv : Option Kv) → claimed (hearing now o.call h.answer c).own.waits.prefix k answer ≡ Some (Acquired create kv)
        → (b : Bool) → is_to_be_held (moment (hearing now o.call h.answer c) now) k x (reads_of (hearing now o.call h.answer c)) ≡ b
        → All (Sourced c e now) (acquire_done (moment (hearing now o.call h.answer c) now) k b answer.header (Acquired create kv) (reads_of (hearing now o.call h.answer c))).asks
    by_held x a create kv f true t =
        let d = hearing now o.call h.answer c in
        let mo = moment d now in
        let g = ground_of (acquired mo k true answer.header create kv (reads_of d)) in
        let wins : Decides c e now g =
        sources.wins o (record { reply = answer; hears = h; key = k; job = j; acquire = x; stands = a; held = t; create = create; kv = kv; claimed = f; ground = refl }) in
        subst (λ (r : Reads). All (Sourced c e now) r.asks) (sym (wins_in_place m.standing mo k answer.header create kv (reads_of d) m.reads))
        (all_mapped (Both c e now) (Sourced c e now) (in_place true mo.header g) (placed_sourced c e now mo.header g wins m.top) (map (told k (shown answer.header kv)) d.asks) (both (Acquired create kv) f))
    by_held x a create kv f false t = released_all (Sourced c e now) (unsaid_sourced c e now) _ _ _ (only _ (both (Acquired create kv) f))

    by_claim : (x : Acquire) → at (hearing now o.call h.answer c).acquires k ≡ Some x → (q : Option Claim) → claimed (hearing now o.call h.answer c).own.waits.prefix k answer ≡ q
        → AllIf (Sourced c e now) (acquire_if (hearing now o.call h.answer c) (done_by (moment (hearing now o.call h.answer c) now) k (is_to_be_held (moment (hearing now o.call h.answer c) now) k x (reads_of (hearing now o.call h.answer c))) answer.header q (reads_of (hearing now o.call h.answer c))))
    by_claim x a None f = tt
    by_claim x a (Some (Acquired create kv)) f = by_held x a create kv f (is_to_be_held (moment (hearing now o.call h.answer c) now) k x (reads_of (hearing now o.call h.answer c))) refl
    by_claim x a (Some (OwnedBy kv owner)) f = released_all (Sourced c e now) (unsaid_sourced c e now) _ _ _ (only _ (both (OwnedBy kv owner) f))

    by_acquire : (q : Option Acquire) → at (hearing now o.call h.answer c).acquires k ≡ q
        → AllIf (Sourced c e now) (acquire_if (hearing now o.call h.answer c) (answered_acquire (moment (hearing now o.call h.answer c) now) k q (Done answer) (reads_of (hearing now o.call h.answer c))))
    by_acquire None a = all_sourced c e now _ m.since
    by_acquire (Some x) a = by_claim x a (claimed (hearing now o.call h.answer c).own.waits.prefix k answer) refl

-- ---- a write, a revoke call, a rescind

-- a request that is told an ok reply is a write's whose own call was answered as done
record WroteBy (call ticket : ℕ) (reply : Reply) (a : Answer) (own : Ownership) : Type 0 where
  answer : Reply
  is : a ≡ Done answer
  write : Write
  first : first_by (sends call) own.waits.writes ≡ Some write
  named : write.ticket ≡ ticket
  done : written own.waits.prefix write.request answer ≡ Some (Wrote reply)

abbrev Tells : ℕ → Answer → Ownership → Option Ending → Type 0
Tells call a own None = Unit {0}
Tells call a own (Some x) = (ticket : ℕ) (reply : Reply) → x.settled ≡ settled.Reply ticket (Done reply) → WroteBy call ticket reply a own

done_tells : (session : Option ℕ) (call : ℕ) (w : Write) (answer : Reply) (own : Ownership) → first_by (sends call) own.waits.writes ≡ Some w → (o : Option Written) → written own.waits.prefix w.request answer ≡ o
    → Tells call (Done answer) own (done_if session (sends call) w o own)
done_tells session call w answer own f None e = tt
done_tells session call w answer own f (Some (Wrote reply)) e = λ ticket r s.
    let named : w.ticket ≡ ticket = cc in
    let same : reply ≡ r = cc in
    record { answer = answer; is = refl; write = w; first = f; named = named; done = e ∙ ap (λ (x : Reply). Some (Wrote x)) same }
done_tells session call w answer own f (Some (Blocked os)) e = λ ticket r s. absurd (cc)

write_tells : (session : Option ℕ) (call : ℕ) (a : Answer) (own : Ownership) (o : Option Write) → first_by (sends call) own.waits.writes ≡ o → Tells call a own (write_answered session (sends call) o a own)
write_tells session call a own None f = λ ticket reply s. absurd (cc)
write_tells session call (Done answer) own (Some w) f = done_tells session call w answer own f (written own.waits.prefix w.request answer) refl
write_tells session call (Refused r) own (Some w) f = λ ticket reply s. absurd (cc)

back_tells : (p : Write → Bool) (call : ℕ) (a : Answer) (w : Write) (o : Option Bool) (own : Ownership) → Tells call a own (revoke_back p call w o own)
back_tells p call a w None own = tt
back_tells p call a w (Some held) own = λ ticket reply s. absurd (cc)

revoke_tells : (p : Write → Bool) (call : ℕ) (o : Option Write) (a : Answer) (own : Ownership) → Tells call a own (revoke_answered p call o a own)
revoke_tells p call None a own = λ ticket reply s. absurd (cc)
revoke_tells p call (Some w) (Done answer) own = back_tells p call (Done answer) w (guard_held answer.body) own
revoke_tells p call (Some w) (Refused r) own = λ ticket reply s. absurd (cc)

read_tells : (call : ℕ) (a : Answer) (o : Option Bool) (own next : Ownership) → Tells call a own (if_read o next)
read_tells call a None own next = tt
read_tells call a (Some held) own next = λ ticket reply s. absurd (cc)

rescind_tells : (call : ℕ) (a : Answer) (own next : Ownership) → Tells call a own (rescind_answered a next)
rescind_tells call (Done answer) own next = read_tells call (Done answer) (guard_held answer.body) own next
rescind_tells call (Refused r) own next = λ ticket reply s. absurd (cc)

job_tells : (call : ℕ) (a : Answer) (session : Option ℕ) (now : ℕ) (o : Option WaitJob) (own : Ownership) → Tells call a own (answered_job call a session now o own)
job_tells call a session now None own = λ ticket reply s. absurd (cc)
job_tells call a session now (Some (wait.Rescind k create)) own = rescind_tells call a own (rescinded k create now own)
job_tells call a session now (Some (wait.Revoke k)) own = revoke_tells (asks call) call (first_by (asks call) own.waits.writes) a own
job_tells call a session now (Some wait.Write) own = write_tells session call a own (first_by (sends call) own.waits.writes) refl

outside : (call : ℕ) (a : Answer) (own : Ownership) (o : Option Ending) → Tells call a (without_out call own) o → Tells call a own o
outside call a own None h = tt
outside call a own (Some x) h = λ ticket reply s. let w = h ticket reply s in record { answer = w.answer; is = w.is; write = w.write; first = w.first; named = w.named; done = w.done }

answered_tells : (call : ℕ) (a : Answer) (session : Option ℕ) (now : ℕ) (own : Ownership) → Tells call a own (answered call a session now own)
unfolding answered
answered_tells call a session now own = outside call a own (answered_job call a session now (job_of call own.waits.out) (without_out call own)) (job_tells call a session now (job_of call own.waits.out) (without_out call own))

-- what is settled is of a request at the stage of writes

removed_named : (ticket : ℕ) (xs : List Asked) (ws vs : List Write) → AsksOk xs ws → IsRemoved ticket ws vs → has_number (writing_tickets xs) ticket ≡ true
removed_named ticket xs ws vs h e = sym (ap (λ (ns : List ℕ). has_number ns ticket) h.writes) ∙ ap (has_number (write_tickets ws)) e.named ∙ found_ticket e.test e.write ws e.first

settles_so : (xs : List Asked) (ws vs : List Write) (s : Settled) → AsksOk xs ws → EndsAs ws s vs → All (Settles s) xs
settles_so xs ws vs settled.Nothing h e = every xs
  where
    every : (ys : List Asked) → All (Settles settled.Nothing) ys
    every [] = tt
    every (y ∷ ys) = (tt, every ys)
settles_so xs ws vs (settled.Reply ticket a) h e = all_write ticket xs h.once (removed_named ticket xs ws vs h e)
settles_so xs ws vs (settled.Failed ticket) h e = all_write ticket xs h.once (removed_named ticket xs ws vs h e)

writes_is : (s : Stage) → is_writes s ≡ true → s ≡ stage.Writes
writes_is stage.Writes h = refl
writes_is stage.Acquiring h = absurd (cc)
writes_is stage.Joined h = absurd (cc)
writes_is stage.Behind h = absurd (cc)
writes_is (stage.Calling s) h = absurd (cc)
writes_is (stage.Grouped s) h = absurd (cc)
writes_is (stage.Replied v) h = absurd (cc)

settled_both : (c : Core) (e : CoreEvent) (now : ℕ) (o : OutCall) (a : Answer) → Hears c e o a → o.job ≡ job.Wait → (s : Settled)
    → ((ticket : ℕ) (reply : Reply) → s ≡ settled.Reply ticket (Done reply) → WroteBy o.call ticket reply a (clock_work now c).own) → (y : Asked) → Settles s y → Since c y → Both c e now (settled_ask s y)
settled_both c e now o a h j settled.Nothing w y t s = record { sourced = since_sourced c e now y s; waiting = λ q. s }
settled_both c e now o a h j (settled.Failed ticket) w y t s =
    by_test (Both c e now) (y.ticket == ticket) (in_stage (stage.Replied verdict.Lost) y) y
    (λ f. record { sourced = unsaid_sourced c e now (in_stage (stage.Replied verdict.Lost) y) refl; waiting = λ q. absurd (cc) }) (λ f. record { sourced = since_sourced c e now y s; waiting = λ q. s })
settled_both c e now o a h j (settled.Reply ticket (Refused r)) w y t s =
    by_test (Both c e now) (y.ticket == ticket) (in_stage (stage.Replied (verdict.Said (Refused r))) y) y
    (λ f. record { sourced = unsaid_sourced c e now (in_stage (stage.Replied (verdict.Said (Refused r))) y) refl; waiting = λ q. absurd (cc) }) (λ f. record { sourced = since_sourced c e now y s; waiting = λ q. s })
settled_both c e now o a h j (settled.Reply ticket (Done reply)) w y t s =
    let x = in_stage (stage.Replied (verdict.Said (Done reply))) y in
    by_test (Both c e now) (y.ticket == ticket) x y
    (λ f.
    let b = w ticket reply refl in
    record {
      sourced = λ r q.
          let same = same_reply reply r q in
          sources.wrote o b.answer b.write j (stood_on c y x stage.Writes refl refl (since_stood c y stage.Writes (writes_is y.stage (t f)) refl s)) (subst (Hears c e o) b.is h) b.first (b.named ∙ sym (same_number y.ticket ticket f))
          (b.done ∙ ap (λ (z : Reply). Some (Wrote z)) same);
      waiting = λ q. absurd (cc);
    })
    (λ f. record { sourced = since_sourced c e now y s; waiting = λ q. s })

all_settled : (P Q : Asked → Type 0) (s : Settled) → ((y : Asked) → Settles s y → P y → Q (settled_ask s y)) → (xs : List Asked) → All (Settles s) xs → All P xs → All Q (map (settled_ask s) xs)
all_settled P Q s f [] h t = tt
all_settled P Q s f (x ∷ xs) h t = (f x h.0 t.0, all_settled P Q s f xs h.1 t.1)

pub wait_sourced : (c : Core) (e : CoreEvent) (now : ℕ) (o : OutCall) (a : Answer) (h : Hears c e o a) → Meets c e now (hearing now o.call h.answer c) → o.job ≡ job.Wait
    → let d = hearing now o.call h.answer c in AllIf (Sourced c e now) (reads_if d (wait_answered (moment d now) o.call a (reads_of d)))
wait_sourced c e now o a h m j =
    let d = hearing now o.call h.answer c in
    let mo = moment d now in
    subst (λ (r : Option Reads). AllIf (Sourced c e now) (reads_if (hearing now o.call h.answer c) r)) (sym (answers_in_place m.standing mo o.call a (reads_of d) m.reads))
    (by (answered o.call a mo.session now d.own) refl (answered_tells o.call a mo.session now d.own) (answered_ends o.call a mo.session now d.own m.writes))
  where
    by : (q : Option Ending) → answered o.call a (live_number (hearing now o.call h.answer c).seat now) now (hearing now o.call h.answer c).own ≡ q → Tells o.call a (hearing now o.call h.answer c).own q
        → EndedIf o.call (without_out o.call (hearing now o.call h.answer c).own) q
        → AllIf (Sourced c e now) (reads_if (hearing now o.call h.answer c) (placed_by (moment (hearing now o.call h.answer c) now) q (reads_of (hearing now o.call h.answer c))))
    by None f w n = tt
    by (Some x) f w n =
        let d = hearing now o.call h.answer c in
        let g = ground_of (ending x (reads_of d)) in
        let settles : Decides c e now g = sources.settles o (record { heard = a; hears = h; job = j; ending = x; answered = f; ground = refl }) in
        let told = λ (ticket : ℕ) (reply : Reply) (s : x.settled ≡ settled.Reply ticket (Done reply)). subst (WroteBy o.call ticket reply a) m.own (w ticket reply s) in
        all_mapped (Both c e now) (Sourced c e now) (in_place true d.header g) (placed_sourced c e now d.header g settles m.top) (map (settled_ask x.settled) d.asks)
        (all_settled (Since c) (Both c e now) x.settled (settled_both c e now o a h j x.settled told) d.asks (settles_so d.asks d.own.waits.writes x.own.waits.writes x.settled m.asks n.how) m.since)
