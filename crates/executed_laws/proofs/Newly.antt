-- A request that the call of this step names waits as a read for nothing but the acquire that is for it.
use Rattle.std.proofs.Common.{◌≡◌, ◌≢◌, ◌⊎◌, inl, inr, ℕ, ◌==◌, Bool, true, false, cond, ◌&&◌, ◌||◌, List, [], ◌∷◌, map, filter, Option, None, Some, Result, Ok, Err, refl, sym, ◌∙◌, ap, subst}
use Rattle.etcd_types.proofs.Bools.{and_first, and_second}
use Rattle.etcd_types.specs.declared.request.Request.{Request}
use Rattle.proxy_model.specs.Keyed.{is_in_order}
use Rattle.wait_model.specs.declared.sending.Sending.{Sending}
use Rattle.wait_model.specs.declared.sending.Sending.TheVariants as sending
use Rattle.wait_model.specs.Sent.{JobSent, job_sent}
use Rattle.wait_model.specs.Writes as writes
use Rattle.read_model.specs.declared.acquire.Acquire.{Acquire}
use Rattle.read_model.specs.declared.asked.Asked.{Asked}
use Rattle.read_model.specs.declared.asked.Stage.{Stage}
use Rattle.read_model.specs.declared.asked.Stage.TheVariants as stage
use Rattle.read_model.specs.Acquires.{is_acquiring, acquires_at}
use Rattle.read_model.specs.PlainRead.{in_stage, ask_key}
use Rattle.read_model.specs.SessionEnd.{is_due}
use Rattle.read_model.specs.TakingOff.{is_writes}
use Rattle.watch_model.specs.declared.stream.StreamJob.{StreamJob}
use Rattle.watch_model.specs.declared.stream.StreamJob.TheVariants as stream
use Rattle.watch_model.specs.Due.{next_job}
use Rattle.core_model.specs.declared.event.CoreEvent.TheVariants as event
use Rattle.core_model.specs.declared.event.Job.TheVariants as job
use Rattle.core_model.specs.declared.event.Outcome.{Outcome}
use Rattle.core_model.specs.declared.event.Outcome.TheVariants as outcome
use Rattle.core_model.specs.declared.event.StepFault.{StepFault}
use Rattle.core_model.specs.declared.event.StepFault.TheVariants as fault
use Rattle.core_model.specs.ClockWork.{clock_work}
use Rattle.core_model.specs.DueJobs.{DueJob, ForSession, ForWrites, ForAcquire, ForAsk, ForGroup, ToOpen, ForStream, first_job}
use Rattle.core_model.specs.Fits.{CoreOk, Agrees, has_number, once, ask_tickets, is_awaited, awaits, writing_tickets}
use Rattle.core_model.specs.Lookups.{has_ticket, ask_at}
use Rattle.core_model.specs.Sending.{next_call, called_as, writes_sent, sent_by, on_work}
use Rattle.core_model.specs.State.{Core}
use Rattle.core_model.specs.Step.{is_worn, happened, stepped}
use Rattle.core_model.specs.Stepped.{faults, counted, counted_by}
use Rattle.core_model.specs.Watching.{with_watches, stream_job}
use Rattle.core_laws.proofs.Steps.Comes.{by_test}
use Rattle.core_laws.proofs.Steps.Lists.{same_number, number_itself}
use Rattle.core_laws.proofs.Steps.Middle.{clock_whole}
use Rattle.core_laws.proofs.Steps.WaitEnds.{found_ticket}
use Rattle.core_laws.proofs.Steps.Whole.{of_ok}
use Rattle.core_fits.specs.Fits.{is_reading}
use Rattle.keep_laws.proofs.Rows.{All, all_mapped, all_kept}
use Rattle.reply_laws.proofs.Before as before
use Rattle.executed_laws.proofs.Dues.{StandsIf, first_stands}
use Rattle.executed_laws.proofs.Naming.{JobNames, job_names, same_ticket, no_job, begins_none, closes_none}
use Rattle.executed_laws.proofs.Turns.{Passing, one_passing}
use Rattle.executed_laws.proofs.Waiting.{Of, not_both}
use Rattle.executed_laws.proofs.Reading.{Waits, waits_class, WaitsSo, sent_waits}

-- it stands among these, and waits so
abbrev Known : List Asked → Asked → Type 0
Known all a = (ask_at a.ticket all ≡ Some a) × Waits a

same_ask : (a b : Asked) → Some a ≡ Some b → a ≡ b
same_ask a b e = cc

-- so do all of its ticket, for there is no other
of_one : (t : ℕ) (xs : List Asked) (a : Asked) → ask_at t xs ≡ Some a → Waits a → once (ask_tickets xs) ≡ true → All (Of t Waits waits_class) xs
of_one t xs a f w u =
    all_kept (before.Found xs) (Of t Waits waits_class) (λ y g n. subst Waits (same_ask a y (sym f ∙ ap (λ (i : ℕ). ask_at i xs) (sym n) ∙ g)) w) xs (before.found_all xs u)

of_passing : (t : ℕ) (xs : List Asked) → Passing (Known xs) (has_ticket t) → once (ask_tickets xs) ≡ true → All (Of t Waits waits_class) xs
of_passing t xs p u = of_one t xs p.ask (ap (λ (i : ℕ). ask_at i xs) (sym (same_number p.ask.ticket t p.passes)) ∙ p.so.0) p.so.1 u

acquiring_is : (s : Stage) → is_acquiring s ≡ true → s ≡ stage.Acquiring
acquiring_is stage.Acquiring h = refl
acquiring_is stage.Joined h = absurd (cc)
acquiring_is stage.Behind h = absurd (cc)
acquiring_is (stage.Calling s) h = absurd (cc)
acquiring_is stage.Writes h = absurd (cc)
acquiring_is (stage.Grouped s) h = absurd (cc)
acquiring_is (stage.Replied v) h = absurd (cc)

writes_unread : (s : Stage) → is_writes s ≡ true → is_reading s ≡ false
writes_unread stage.Writes h = refl
writes_unread stage.Acquiring h = absurd (cc)
writes_unread stage.Joined h = absurd (cc)
writes_unread stage.Behind h = absurd (cc)
writes_unread (stage.Calling s) h = absurd (cc)
writes_unread (stage.Grouped s) h = absurd (cc)
writes_unread (stage.Replied v) h = absurd (cc)

unread : (a : Asked) → is_reading a.stage ≡ false → Waits a
unread a f r = not_both (is_reading a.stage) r f

-- a write's ticket is that of a request at the stage of writes
writing_one : (all : List Asked) (t : ℕ) (xs : List Asked) → All (before.Found all) xs → has_number (writing_tickets xs) t ≡ true → Passing (Known all) (has_ticket t)
writing_one all t [] f h = absurd (cc)
writing_one all t (x ∷ xs) f h = by (is_writes x.stage) refl h (writing_one all t xs f.1)
  where
    by_here : (b : Bool) → (x.ticket == t) ≡ b → is_writes x.stage ≡ true → b || has_number (writing_tickets xs) t ≡ true → (has_number (writing_tickets xs) t ≡ true → Passing (Known all) (has_ticket t)) → Passing (Known all) (has_ticket t)
    by_here true e w h more = record { ask = x; so = (f.0, unread x (writes_unread x.stage w)); passes = e }
    by_here false e w h more = more h

    by : (b : Bool) → is_writes x.stage ≡ b → has_number (map (λ a. a.ticket) (cond b (x ∷ filter (λ a. is_writes a.stage) xs) (filter (λ a. is_writes a.stage) xs))) t ≡ true → (has_number (writing_tickets xs) t ≡ true → Passing (Known all) (has_ticket t)) → Passing (Known all) (has_ticket t)
    by true w h more = by_here (x.ticket == t) refl w h more
    by false w h more = more h

sent_new : (t now : ℕ) (c : Core) (j : Option DueJob) (own member : ℕ) (q : Request) → Agrees c → StandsIf c j → (sent_by now j c).outcome ≡ Ok (outcome.Job (Some (job.Call own member t q))) → t ≢ 0 → WaitsSo t (sent_by now j c).core
sent_new t now c None own member q g k e n = absurd (no_job own member t q e)
sent_new t now c (Some (ForSession s)) own member q g k e n = absurd (n (sym (same_ticket _ _ _ own member t _ q e)))
sent_new t now c (Some ForWrites) own member q g k e n = by (job_sent (next_call c) c.own) named e
  where
    named : JobNames (Known c.asks) (job_sent (next_call c) c.own)
    named = job_names (Known c.asks) (next_call c) c.own (λ i w f. writing_one c.asks w.ticket c.asks (before.found_all c.asks g.asks.once) (ap (λ (ns : List ℕ). has_number ns w.ticket) (sym g.asks.writes) ∙ found_ticket (writes.has_ticket i) w c.own.waits.writes f))

    by_name : (i : ℕ) → i ≡ t → (i ≡ 0) ⊎ Passing (Known c.asks) (has_ticket i) → WaitsSo t c
    by_name i s (inl z) = absurd (n (sym s ∙ z))
    by_name i s (inr p) = of_passing t c.asks (subst (λ (m : ℕ). Passing (Known c.asks) (has_ticket m)) s p) g.asks.once

    by : (o : Option JobSent) → JobNames (Known c.asks) o → (writes_sent now o c).outcome ≡ Ok (outcome.Job (Some (job.Call own member t q))) → WaitsSo t (writes_sent now o c).core
    by None h f = absurd (no_job own member t q f)
    by (Some x) h f = by_name x.due.ticket (same_ticket _ _ _ own member t _ q f) h
sent_new t now c (Some (ForAcquire i x)) own member q g k e n =
    let named = same_ticket _ _ x.ticket own member t _ q e in
    let one = by_due x.sending k.1 (subst (λ (o : Option Acquire). is_awaited c.asks i o ≡ true) k.0 (g.awaited i)) in
    let here = and_first (has_ticket x.ticket one.ask) (acquires_at i one.ask) one.passes in
    let stage_is = acquiring_is one.ask.stage (and_first (is_acquiring one.ask.stage) (Rattle.etcd_types.specs.Keys.same (ask_key one.ask) i) (and_second (has_ticket x.ticket one.ask) (acquires_at i one.ask) one.passes)) in
    of_one t c.asks one.ask (ap (λ (m : ℕ). ask_at m c.asks) (sym (same_number one.ask.ticket x.ticket here ∙ named)) ∙ one.so) (λ r. stage_is) g.asks.once
  where
    by_due : (s : Sending) → is_due s ≡ true → awaits x.ticket i c.asks s ≡ true → Passing (before.Found c.asks) (λ a. has_ticket x.ticket a && acquires_at i a)
    by_due (sending.Due since) u h = one_passing (before.Found c.asks) (λ a. has_ticket x.ticket a && acquires_at i a) c.asks (before.found_all c.asks g.asks.once) h
    by_due (sending.Out call) u h = absurd (cc)
sent_new t now c (Some (ForAsk a)) own member q g k e n =
    all_mapped (λ y. Unit {0}) (Of t Waits waits_class) (called_as (next_call c) a.ticket)
    (λ y u. by_test (Of t Waits waits_class) (has_ticket a.ticket y) (in_stage (stage.Calling (sending.Out (next_call c))) y) y (λ f m r. absurd (cc))
    (λ f m r. not_both (y.ticket == a.ticket) (ap (λ (i : ℕ). i == a.ticket) (m ∙ sym (same_ticket _ _ a.ticket own member t _ q e)) ∙ number_itself a.ticket) f))
    c.asks (every c.asks)
  where
    every : (xs : List Asked) → All (λ y. Unit {0}) xs
    every [] = tt
    every (x ∷ xs) = (tt, every xs)
sent_new t now c (Some (ForGroup lease ticket)) own member q g k e n =
    sent_waits t now c (Some (ForGroup lease ticket)) (of_one t c.asks k.0 (ap (λ (i : ℕ). ask_at i c.asks) (sym (same_ticket _ _ ticket own member t _ q e)) ∙ k.1) (unread k.0 k.2) g.asks.once)
sent_new t now c (Some (ToOpen o)) own member q g k e n = absurd (begins_none _ _ _ own member t q e)
sent_new t now c (Some (ForStream x)) own member q g k e n = by (next_job c.watches (Some x)).1 e
  where
    by : (o : Option StreamJob) → (stream_job o (with_watches c (next_job c.watches (Some x)).0)).outcome ≡ Ok (outcome.Job (Some (job.Call own member t q))) → WaitsSo t (stream_job o (with_watches c (next_job c.watches (Some x)).0)).core
    by None f = absurd (no_job own member t q f)
    by (Some (stream.Close number)) f = absurd (closes_none number own member t q f)
    by (Some (stream.Open number range start)) f = absurd (begins_none _ _ _ own member t q f)

work_new : (t now : ℕ) (c : Core) (own member : ℕ) (q : Request) → Agrees c → is_in_order c.acquires ≡ true → (on_work now c).outcome ≡ Ok (outcome.Job (Some (job.Call own member t q))) → t ≢ 0 → WaitsSo t (on_work now c).core
unfolding on_work
work_new t now c own member q g o e n = sent_new t now c (first_job c) own member q g (first_stands c o g.asks.once) e n

pub sends_waits : (t : ℕ) (c : Core) (now own member : ℕ) (q : Request) → CoreOk c → is_in_order (clock_work now c).acquires ≡ true → (stepped c event.Work now).outcome ≡ Ok (outcome.Job (Some (job.Call own member t q))) → t ≢ 0
    → WaitsSo t (stepped c event.Work now).core
unfolding stepped
sends_waits t c now own member q ok o e n = by_worn (is_worn c) e
  where
    d : Core
    d = clock_work now c

    by_outcome : (r : Result Outcome StepFault) → (on_work now (clock_work now c)).outcome ≡ r → (counted_by (on_work now (clock_work now c)).core r).outcome ≡ Ok (outcome.Job (Some (job.Call own member t q))) → WaitsSo t (counted_by (on_work now (clock_work now c)).core r).core
    by_outcome (Ok x) f g = work_new t now (clock_work now c) own member q (clock_whole 0 now c (of_ok c ok).mid).mid.agrees o (f ∙ g) n
    by_outcome (Err x) f g = absurd (cc)

    by_worn : (b : Bool) → (cond b (faults c fault.Worn) (counted (happened now event.Work (clock_work now c)))).outcome ≡ Ok (outcome.Job (Some (job.Call own member t q)))
        → WaitsSo t (cond b (faults c fault.Worn) (counted (happened now event.Work (clock_work now c)))).core
    by_worn true g = absurd (cc)
    by_worn false g = by_outcome (on_work now (clock_work now c)).outcome refl g
