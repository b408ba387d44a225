-- Every step keeps the facts of a whole proxy.
use Rattle.std.proofs.Common.{◌≡◌, ℕ, Bool, true, false, [], ◌∷◌, ◌++◌, Option, None, Some, Result, Ok, Err, refl, sym, ◌∙◌, ap, subst}
use Rattle.etcd_types.specs.declared.answer.Answer.{Answer}
use Rattle.etcd_types.specs.declared.watch.WatchItem.{WatchItem}
use Rattle.proxy_model.specs.declared.session.Standing.{Standing}
use Rattle.proxy_model.specs.Session.{Session}
use Rattle.wait_model.specs.Sent.{JobSent, job_sent}
use Rattle.watch_model.specs.declared.stream.StreamJob.{StreamJob}
use Rattle.watch_model.specs.declared.stream.StreamJob.TheVariants as stream
use Rattle.watch_model.specs.Due.{next_job}
use Rattle.watch_model.specs.Lookups.{watch_at}
use Rattle.watch_model.specs.State.{Watch, Broadcasts}
use Rattle.watch_model.specs.Takes as watches
use Rattle.read_model.specs.declared.asked.Asked.{Asked}
use Rattle.read_model.specs.declared.asked.Stage.{Stage}
use Rattle.read_model.specs.declared.asked.Stage.TheVariants as stage
use Rattle.read_model.specs.SessionEnd.{is_due_acquire}
use Rattle.read_model.specs.State.{ground_of}
use Rattle.core_model.specs.declared.event.CoreEvent.{CoreEvent}
use Rattle.core_model.specs.declared.event.CoreEvent.TheVariants as event
use Rattle.core_model.specs.declared.event.Outcome.{Outcome}
use Rattle.core_model.specs.declared.event.StepFault.{StepFault}
use Rattle.core_model.specs.declared.event.StepFault.TheVariants as fault
use Rattle.core_model.specs.declared.out_call.OutCall.{OutCall}
use Rattle.core_model.specs.declared.out_call.OutJob.{OutJob}
use Rattle.core_model.specs.declared.out_call.OutJob.TheVariants as job
use Rattle.core_model.specs.ClockWork.{clock_work}
use Rattle.core_model.specs.DueJobs.{DueJob, ForSession, ForWrites, ForAcquire, ForAsk, ForGroup, ToOpen, ForStream, first_job}
use Rattle.core_model.specs.Ends.{call_gone, answered_call, lost_call, answer_of, on_answer, loss_of, on_lost}
use Rattle.core_model.specs.Fits.{job_at, CoreOk}
use Rattle.core_model.specs.Heard.{heard}
use Rattle.core_model.specs.LeasingStream.{leasing_ticked}
use Rattle.core_model.specs.Lookups.{leases, reads_of, has_ticket, without_ask, ask_at, out_at, moment}
use Rattle.core_model.specs.Sending.{next_call, out_call, session_out, seat_sent, writes_sent, sent_by, on_work}
use Rattle.core_model.specs.Sessions.{seat_ticked}
use Rattle.core_model.specs.State.{Seat, Opening, Core}
use Rattle.core_model.specs.Step.{ticked, on_tick, opening_at, on_item, on_cut, happened, is_worn, stepped}
use Rattle.core_model.specs.Stepped.{Stepped, faults, counted, counted_by}
use Rattle.core_model.specs.Takes.{item_taken, taken, on_take, has_left, watcher_left, left, on_leave}
use Rattle.core_model.specs.Takes as takes
use Rattle.core_model.specs.Watching.{taken_item, stream_job, with_watches}
use Rattle.core_laws.specs.Steps.Kept.{HeardBytes, IsHeard}
use Rattle.core_laws.proofs.Steps.Calls.{IsFound, found_is}
use Rattle.core_laws.proofs.Steps.Comes.{by_test}
use Rattle.core_laws.proofs.Steps.Due.{DueIf, first_due}
use Rattle.core_laws.proofs.Steps.Middle.{left_mid, clock_whole, lost_mid, answered_mid}
use Rattle.core_laws.proofs.Steps.Whole.{Mid, Whole, of_ok}
use Rattle.owner_fits.specs.Acquires.{number_by, standing_number, AcquiresFit}
use Rattle.owner_fits.specs.Names.{AnswerNames, NamesOwners}
use Rattle.owner_fits.proofs.Claims.{is_acquire, pushed_claims, sent_claim}
use Rattle.owner_fits.proofs.Dues.{StandsIf, first_stands}
use Rattle.owner_fits.proofs.Ending.{CoreFit, passed_fits, clock_fits, lost_fits, HeardName, answered_fits}
use Rattle.owner_fits.proofs.Grounds.{GroundFit, own_fits, off_fits}
use Rattle.owner_fits.proofs.Hearing.{still_named, still_heard}
use Rattle.owner_fits.proofs.Sending.{SentGoes, sent_goes}
use Rattle.owner_fits.proofs.AskSteps.{After, keys_of, ask_after}
use Rattle.owner_fits.proofs.ItemSteps.{item_after, cut_after}

-- Answer, Lost.

its_job : (call : ℕ) (o : OutCall) (c : Core) → IsFound call o c.out → job_at o.call c.out ≡ Some o.job
its_job call o c f = ap (λ n. job_at n c.out) f.number ∙ f.job

heard_names : (named : Bool) (call : ℕ) (x : Option Answer) (c : Core) → (named ≡ true → AnswerNames c.own call x) → HeardName named call x c
heard_names named call None c n = tt
heard_names named call (Some a) c n = n

answer_after : (named : Bool) (now call : ℕ) (a : Answer) (c : Core) → HeardBytes (heard c.settings.namespace a) → (named ≡ true → AnswerNames c.own call (heard c.settings.namespace a)) → Whole 0 c → CoreFit named c → (x : Option OutCall) → out_at call c.out ≡ x → After named (answer_of now call a x c)
answer_after named now call a c b n w h None e = h
answer_after named now call a c b n w h (Some o) e =
    let f = found_is call o c.out e in
    let d = answered_call now o a (call_gone call c) in
    let j = its_job call o c f in
    let names = subst (λ i. HeardName named i (heard c.settings.namespace a) c) (sym f.number) (heard_names named call (heard c.settings.namespace a) c n) in
    passed_fits named d
    (keys_of d (subst (λ i. Mid 0 (answered_call now o a (call_gone i c))) f.number (answered_mid 0 now o a c j b w.mid)))
    (subst (λ i. CoreFit named (answered_call now o a (call_gone i c))) f.number (answered_fits named now o a c j w.mid.agrees.out.seat names h))

loss_after : (named : Bool) (now call : ℕ) (c : Core) → Whole 0 c → CoreFit named c → (x : Option OutCall) → out_at call c.out ≡ x → After named (loss_of now call x c)
loss_after named now call c w h None e = h
loss_after named now call c w h (Some o) e =
    let f = found_is call o c.out e in
    let d = lost_call now o (call_gone call c) in
    let j = its_job call o c f in
    passed_fits named d
    (keys_of d (subst (λ i. Mid 0 (lost_call now o (call_gone i c))) f.number (lost_mid 0 now o c j w.mid)))
    (subst (λ i. CoreFit named (lost_call now o (call_gone i c))) f.number (lost_fits named now o c j w.mid.agrees.out.seat h))

-- Tick.

ticked_number : (word ttl step now : ℕ) (s : Option Seat) → standing_number (Some (seat_ticked word ttl step now s)) ≡ standing_number s
ticked_number word ttl step now None = refl
ticked_number word ttl step now (Some s) = refl

tick_after : (named : Bool) (now word : ℕ) (c : Core) → CoreFit named c → After named (on_tick now word c)
unfolding on_tick
tick_after named now word c h = by_test (CoreFit named) (leases c) (ticked now word c) c (λ t. by_opening c.leasing) (λ t. h)
  where
    seated : CoreFit named (record c { seat = Some (seat_ticked word c.settings.ttl c.own.waits.step now c.seat) })
    seated = subst (λ (x : Option ℕ). GroundFit named x c.out (ground_of (reads_of c))) (sym (ticked_number word c.settings.ttl c.own.waits.step now c.seat)) h

    by_opening : (o : Option Opening) → CoreFit named (leasing_ticked o (record c { seat = Some (seat_ticked word c.settings.ttl c.own.waits.step now c.seat) }))
    by_opening None = seated
    by_opening (Some o) = seated

-- Take, Leave.

take_after : (named : Bool) (ticket : ℕ) (c : Core) → CoreFit named c → (o : Option Asked) → After named (taken ticket o c)
take_after named ticket c h None = by_watch (watch_at ticket c.watches.watches)
  where
    by_pair : (x : Broadcasts × Option WatchItem) → After named (taken_item c x)
    by_pair (b, None) = h
    by_pair (b, Some x) = h

    by_watch : (w : Option Watch) → After named (item_taken ticket w c)
    by_watch None = h
    by_watch (Some w) = by_pair (watches.taken_from c.watches c.header w w.queue)
take_after named ticket c h (Some a) = by_stage a.stage
  where
    by_stage : (s : Stage) → After named (takes.taken_from ticket s c)
    by_stage (stage.Calling s) = h
    by_stage stage.Acquiring = h
    by_stage stage.Joined = h
    by_stage stage.Behind = h
    by_stage stage.Writes = h
    by_stage (stage.Grouped s) = h
    by_stage (stage.Replied v) = h

leave_after : (named : Bool) (now ticket : ℕ) (c : Core) → Whole 0 c → CoreFit named c → (o : Option Asked) → After named (left now ticket o c)
leave_after named now ticket c w h None = by_watch (watch_at ticket c.watches.watches)
  where
    by_watch : (x : Option Watch) → After named (watcher_left ticket x c)
    by_watch None = h
    by_watch (Some x) = h
leave_after named now ticket c w h (Some a) =
    passed_fits named (has_left now ticket c) (keys_of (has_left now ticket c) (left_mid 0 now ticket c w.mid)) (off_fits named (standing_number c.seat) c.out (moment c now) (has_ticket ticket) (without_ask ticket c.asks) (reads_of c) h)

-- Work.

pushed : (named : Bool) (session : Option ℕ) (now : ℕ) (j : OutJob) (c : Core) → is_acquire j ≡ false → session ≡ standing_number c.seat → CoreFit named c → GroundFit named session (c.out ++ out_call now j c ∷ []) (ground_of (reads_of c))
pushed named session now j c n e h = record {
  acquires = subst (λ (s : Option ℕ). AcquiresFit c.own.waits.prefix s c.acquires (c.out ++ out_call now j c ∷ [])) (sym e) (pushed_claims c.own.waits.prefix (standing_number c.seat) (out_call now j c) c.acquires c.out n h.acquires);
  entries = h.entries;
  names = h.names;
}

session_after : (named : Bool) (now : ℕ) (s : Session) (c : Core) → (x : Seat) → c.seat ≡ Some x → x.session ≡ s → CoreFit named c → GroundFit named (standing_number (Some (seat_sent (next_call c) s))) (c.out ++ out_call now (session_out s.number s.standing) c ∷ []) (ground_of (reads_of c))
session_after named now s c x e q h = pushed named (standing_number (Some (seat_sent (next_call c) s))) now (session_out s.number s.standing) c (other s.standing) (sym (ap standing_number e ∙ ap (λ (y : Session). number_by y.number y.standing) q)) h
  where
    other : (y : Option Standing) → is_acquire (session_out s.number y) ≡ false
    other None = refl
    other (Some z) = refl

writes_after : (named : Bool) (now : ℕ) (c : Core) → CoreFit named c → (x : Option JobSent) → SentGoes named c.own x → After named (writes_sent now x c)
writes_after named now c h None g = h
writes_after named now c h (Some x) g = own_fits named (standing_number c.seat) (c.out ++ out_call now job.Wait c ∷ []) c.own x.own c.acquires g (pushed named (standing_number c.seat) now job.Wait c refl refl h)

stream_after : (named : Bool) (o : Option StreamJob) (c : Core) → CoreFit named c → After named (stream_job o c)
stream_after named None c h = h
stream_after named (Some (stream.Close number)) c h = h
stream_after named (Some (stream.Open number range from)) c h = h

work_after : (named : Bool) (now : ℕ) (c : Core) → CoreFit named c → (j : Option DueJob) → DueIf c j → StandsIf c.acquires j → After named (sent_by now j c)
work_after named now c h None d s = h
work_after named now c h (Some (ForSession x)) d s = session_after named now x c d.0 d.1 d.2 h
work_after named now c h (Some ForWrites) d s = writes_after named now c h (job_sent (next_call c) c.own) (sent_goes named (next_call c) c.own)
work_after named now c h (Some (ForAcquire k x)) d s = record {
  acquires = sent_claim c.own.waits.prefix (standing_number c.seat) k (out_call now (job.Acquire k) c) c.acquires c.out refl (ap is_due_acquire s.stands ∙ s.due) h.acquires;
  entries = h.entries;
  names = h.names;
}
work_after named now c h (Some (ForAsk a)) d s = pushed named (standing_number c.seat) now _ c refl refl h
work_after named now c h (Some (ForGroup lease ticket)) d s = pushed named (standing_number c.seat) now (job.Group lease) c refl refl h
work_after named now c h (Some (ToOpen o)) d s = h
work_after named now c h (Some (ForStream x)) d s = stream_after named (next_job c.watches (Some x)).1 (with_watches c (next_job c.watches (Some x)).0) h

-- The whole step.

happened_after : (named : Bool) (now : ℕ) (e : CoreEvent) (c : Core) → IsHeard c e → (named ≡ true → NamesOwners c e) → Whole 0 c → CoreFit named c → After named (happened now e c)
unfolding on_answer on_lost on_item on_cut on_take on_leave on_work
happened_after named now (event.Ask ticket q word) c b n w h = ask_after named now ticket q word c w h
happened_after named now (event.Answer call a) c b n w h = answer_after named now call a c b n w h (out_at call c.out) refl
happened_after named now (event.Lost call) c b n w h = loss_after named now call c w h (out_at call c.out) refl
happened_after named now (event.Tick word) c b n w h = tick_after named now word c h
happened_after named now (event.Item number x) c b n w h = item_after named now number x c n w h (opening_at number c.leasing) refl
happened_after named now (event.Cut number) c b n w h = cut_after named number c h (opening_at number c.leasing)
happened_after named now (event.Take ticket) c b n w h = take_after named ticket c h (ask_at ticket c.asks)
happened_after named now (event.Leave ticket) c b n w h = leave_after named now ticket c w h (ask_at ticket c.asks)
happened_after named now event.Work c b n w h = work_after named now c h (first_job c) (first_due c w.mid.agrees) (first_stands c h.acquires.rising)

counted_after : (named : Bool) (s : Stepped) → After named s → After named (counted s)
counted_after named s h = by_outcome s.outcome
  where
    by_outcome : (o : Result Outcome StepFault) → After named (counted_by s.core o)
    by_outcome (Ok o) = h
    by_outcome (Err f) = h

pub step_fits : (named : Bool) (c : Core) (e : CoreEvent) (now : ℕ) → IsHeard c e → (named ≡ true → NamesOwners c e) → CoreOk c → CoreFit named c → CoreFit named (stepped c e now).core
unfolding stepped
step_fits named c e now b n o h =
    let w = of_ok c o in
    let d = clock_work now c in
    by_test (After named) (is_worn c) (faults c fault.Worn) (counted (happened now e d)) (λ t. h)
    (λ t. counted_after named (happened now e d) (happened_after named now e d (still_heard now e c b) (λ i. still_named now e c o.agrees (n i)) (clock_whole 0 now c w.mid) (clock_fits named now c w.mid h)))
