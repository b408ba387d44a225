-- Which faults an event may have, by its cases.
use Rattle.std.proofs.Common.{◌≡◌, ℕ, Bool, true, false, cond, Option, None, Some, Result, Ok, Err, refl, ap, subst}
use Rattle.etcd_types.specs.declared.answer.Answer.{Answer}
use Rattle.etcd_types.specs.declared.answer.Body.{Body}
use Rattle.etcd_types.specs.declared.answer.Refusal.{Refusal}
use Rattle.etcd_types.specs.declared.request.Request.{Request}
use Rattle.etcd_types.specs.declared.request.Request.TheVariants as request
use Rattle.etcd_types.specs.declared.watch.WatchItem.{WatchItem}
use Rattle.watch_model.specs.declared.stream.StreamJob.{StreamJob}
use Rattle.watch_model.specs.declared.stream.StreamJob.TheVariants as stream
use Rattle.watch_model.specs.Due.{next_job}
use Rattle.watch_model.specs.Lookups.{stream_at, watch_at}
use Rattle.watch_model.specs.State.{Stream, Watch, Broadcasts}
use Rattle.watch_model.specs.Takes.{taken_from}
use Rattle.wait_model.specs.Sent.{JobSent, job_sent}
use Rattle.read_model.specs.declared.asked.Asked.{Asked}
use Rattle.read_model.specs.declared.asked.Stage.{Stage}
use Rattle.read_model.specs.declared.asked.Stage.TheVariants as stage
use Rattle.read_model.specs.Acquires.{read_asked}
use Rattle.read_model.specs.PlainRead.{decided_ask}
use Rattle.read_model.specs.State.{Moment, ground_of}
use Rattle.core_model.specs.declared.event.CoreEvent.{CoreEvent}
use Rattle.core_model.specs.declared.event.CoreEvent.TheVariants as event
use Rattle.core_model.specs.declared.event.Outcome.{Outcome}
use Rattle.core_model.specs.declared.event.StepFault.{StepFault}
use Rattle.core_model.specs.declared.event.StepFault.TheVariants as fault
use Rattle.core_model.specs.declared.out_call.OutCall.{OutCall}
use Rattle.core_model.specs.Asking.{asked_at, is_leased_read, read_by, read_is_asked, write_is_asked, held_body, if_live, call_is_asked, answered_or_called, leased_ask, taken_in, request_asked, refused_or_taken, on_ask}
use Rattle.core_model.specs.ClockWork.{clock_work}
use Rattle.core_model.specs.DueJobs.{DueJob, ForSession, ForWrites, ForAcquire, ForAsk, ForGroup, ToOpen, ForStream, first_job}
use Rattle.core_model.specs.Ends.{answer_of, on_answer, loss_of, on_lost}
use Rattle.core_model.specs.Kinds.{writes_keys}
use Rattle.core_model.specs.Lookups.{leases, moment, reads_of, with_reads, ask_at, is_known, out_at}
use Rattle.core_model.specs.Refusals.{refusal_of}
use Rattle.core_model.specs.Sending.{next_call, writes_sent, sent_by, on_work}
use Rattle.core_model.specs.State.{Opening, Core}
use Rattle.core_model.specs.Step.{on_tick, opening_at, client_item, item_of, on_item, client_cut, cut_of, on_cut, happened, is_worn, stepped}
use Rattle.core_model.specs.Stepped.{Stepped, gives, faults, counted, counted_by}
use Rattle.core_model.specs.Takes.{item_taken, taken, on_take, watcher_left, left, on_leave}
use Rattle.core_model.specs.Takes as takes
use Rattle.core_model.specs.Watching.{taken_item, stream_job, with_watches}
use Rattle.core_laws.specs.Steps.Outcomes.{may_have, Gives, gave, faulted}
use Rattle.core_laws.proofs.Steps.Outcomes.{steps_give, worn_does_nothing}
use Rattle.core_face.specs.Steps.{takes_no_memory}
use Rattle.proxy_core.specs.Faults.{IsFaultOf, AnswersFit}

either : {A : Type 0} (P : A → Type 0) (b : Bool) (x y : A) → P x → P y → P (cond b x y)
either P true x y f g = f
either P false x y f g = g

-- a fault of the event, if it is one
abbrev FaultFits : CoreEvent → Result Outcome StepFault → Type 0
FaultFits e (Ok o) = Unit {0}
FaultFits e (Err f) = IsFaultOf e f

abbrev Fits : CoreEvent → Stepped → Type 0
Fits e s = FaultFits e s.outcome

-- Ask.

read_fits : (e : CoreEvent) (s : Stage) (c d : Core) → Fits e (read_by s c d)
read_fits e (stage.Calling s) c d = tt
read_fits e stage.Acquiring c d = tt
read_fits e stage.Joined c d = tt
read_fits e stage.Behind c d = tt
read_fits e stage.Writes c d = tt
read_fits e (stage.Grouped s) c d = tt
read_fits e (stage.Replied v) c d = tt

called_fits : (e : CoreEvent) (o : Option Body) (a : Asked) (c : Core) → Fits e (answered_or_called o a c)
called_fits e None a c = tt
called_fits e (Some b) a c = tt

taken_fits : (e : CoreEvent) (m : Moment) (a : Asked) (c : Core) → Fits e (taken_in m a c)
taken_fits e m a c =
    let other = answered_or_called (if_live m.session (held_body c.own.entries a.request)) a c in
    either (Fits e) (leases c) (leased_ask m a c) (call_is_asked a c)
    (either (Fits e) (is_leased_read c.own.waits.prefix a.request) (read_is_asked m a c) (cond (writes_keys a.request) (write_is_asked a c) other)
    (read_fits e (decided_ask m (ground_of (reads_of c)) a).stage c (with_reads c (read_asked m a (reads_of c))))
    (either (Fits e) (writes_keys a.request) (write_is_asked a c) other tt (called_fits e (if_live m.session (held_body c.own.entries a.request)) a c)))
    tt

request_fits : (e : CoreEvent) (q : Request) (m : Moment) (a : Asked) (c : Core) → Fits e (request_asked q m a c)
request_fits e (request.Watch ask) m a c = tt
request_fits e (request.Range ask) m a c = taken_fits e m a c
request_fits e (request.Put ask) m a c = taken_fits e m a c
request_fits e (request.Delete ask) m a c = taken_fits e m a c
request_fits e (request.Txn t) m a c = taken_fits e m a c
request_fits e (request.Compact revision physical) m a c = taken_fits e m a c
request_fits e (request.Grant ttl lease) m a c = taken_fits e m a c
request_fits e (request.Revoke lease) m a c = taken_fits e m a c
request_fits e (request.KeepAlive lease) m a c = taken_fits e m a c
request_fits e (request.TimeToLive lease keys) m a c = taken_fits e m a c
request_fits e request.Leases m a c = taken_fits e m a c

refused_fits : (e : CoreEvent) (r : Option Refusal) (m : Moment) (a : Asked) (c : Core) → Fits e (refused_or_taken r m a c)
refused_fits e None m a c = request_fits e a.request m a c
refused_fits e (Some r) m a c = tt

ask_fits : (now ticket : ℕ) (q : Request) (word : ℕ) (c : Core) → Fits (event.Ask ticket q word) (on_ask now ticket q word c)
unfolding on_ask
ask_fits now ticket q word c =
    either (Fits (event.Ask ticket q word)) (is_known ticket c) (faults c (fault.TicketUsed ticket)) (refused_or_taken (refusal_of c.own.waits.prefix q) (moment c now) (asked_at now ticket q word) c)
    refl (refused_fits (event.Ask ticket q word) (refusal_of c.own.waits.prefix q) (moment c now) (asked_at now ticket q word) c)

-- The others.

answer_fits : (now call : ℕ) (a : Answer) (o : Option OutCall) (c : Core) → Fits (event.Answer call a) (answer_of now call a o c)
answer_fits now call a None c = refl
answer_fits now call a (Some o) c = tt

loss_fits : (now call : ℕ) (o : Option OutCall) (c : Core) → Fits (event.Lost call) (loss_of now call o c)
loss_fits now call None c = refl
loss_fits now call (Some o) c = tt

client_item_fits : (number : ℕ) (x : WatchItem) (o : Option Stream) (c : Core) → Fits (event.Item number x) (client_item number x o c)
client_item_fits number x None c = refl
client_item_fits number x (Some s) c = tt

item_fits : (now number : ℕ) (x : WatchItem) (o : Option Opening) (c : Core) → Fits (event.Item number x) (item_of now number x o c)
item_fits now number x None c = client_item_fits number x (stream_at number c.watches.streams) c
item_fits now number x (Some o) c = tt

client_cut_fits : (number : ℕ) (o : Option Stream) (c : Core) → Fits (event.Cut number) (client_cut number o c)
client_cut_fits number None c = refl
client_cut_fits number (Some s) c = tt

cut_fits : (number : ℕ) (o : Option Opening) (c : Core) → Fits (event.Cut number) (cut_of number o c)
cut_fits number None c = client_cut_fits number (stream_at number c.watches.streams) c
cut_fits number (Some o) c = tt

stage_fits : (e : CoreEvent) (ticket : ℕ) (s : Stage) (c : Core) → Fits e (takes.taken_from ticket s c)
stage_fits e ticket (stage.Calling s) c = tt
stage_fits e ticket stage.Acquiring c = tt
stage_fits e ticket stage.Joined c = tt
stage_fits e ticket stage.Behind c = tt
stage_fits e ticket stage.Writes c = tt
stage_fits e ticket (stage.Grouped s) c = tt
stage_fits e ticket (stage.Replied v) c = tt

pair_fits : (e : CoreEvent) (c : Core) (x : Broadcasts × Option WatchItem) → Fits e (taken_item c x)
pair_fits e c (b, None) = tt
pair_fits e c (b, Some x) = tt

watch_fits : (ticket : ℕ) (o : Option Watch) (c : Core) → Fits (event.Take ticket) (item_taken ticket o c)
watch_fits ticket None c = refl
watch_fits ticket (Some w) c = pair_fits (event.Take ticket) c (taken_from c.watches c.header w w.queue)

take_fits : (ticket : ℕ) (o : Option Asked) (c : Core) → Fits (event.Take ticket) (taken ticket o c)
take_fits ticket None c = watch_fits ticket (watch_at ticket c.watches.watches) c
take_fits ticket (Some a) c = stage_fits (event.Take ticket) ticket a.stage c

watcher_fits : (ticket : ℕ) (o : Option Watch) (c : Core) → Fits (event.Leave ticket) (watcher_left ticket o c)
watcher_fits ticket None c = refl
watcher_fits ticket (Some w) c = tt

leave_fits : (now ticket : ℕ) (o : Option Asked) (c : Core) → Fits (event.Leave ticket) (left now ticket o c)
leave_fits now ticket None c = watcher_fits ticket (watch_at ticket c.watches.watches) c
leave_fits now ticket (Some a) c = tt

writes_fit : (now : ℕ) (o : Option JobSent) (c : Core) → Fits event.Work (writes_sent now o c)
writes_fit now None c = tt
writes_fit now (Some x) c = tt

stream_fits : (o : Option StreamJob) (d : Core) → Fits event.Work (stream_job o d)
stream_fits None d = tt
stream_fits (Some (stream.Close number)) d = tt
stream_fits (Some (stream.Open number range start)) d = tt

job_fits : (now : ℕ) (o : Option DueJob) (c : Core) → Fits event.Work (sent_by now o c)
job_fits now None c = tt
job_fits now (Some (ForSession s)) c = tt
job_fits now (Some ForWrites) c = writes_fit now (job_sent (next_call c) c.own) c
job_fits now (Some (ForAcquire k x)) c = tt
job_fits now (Some (ForAsk a)) c = tt
job_fits now (Some (ForGroup lease ticket)) c = tt
job_fits now (Some (ToOpen o)) c = tt
job_fits now (Some (ForStream s)) c = stream_fits (next_job c.watches (Some s)).1 (with_watches c (next_job c.watches (Some s)).0)

event_fits : (now : ℕ) (e : CoreEvent) (c : Core) → Fits e (happened now e c)
unfolding on_answer on_lost on_tick on_item on_cut on_take on_leave on_work
event_fits now (event.Ask ticket q word) c = ask_fits now ticket q word c
event_fits now (event.Answer call a) c = answer_fits now call a (out_at call c.out) c
event_fits now (event.Lost call) c = loss_fits now call (out_at call c.out) c
event_fits now (event.Tick word) c = tt
event_fits now (event.Item number x) c = item_fits now number x (opening_at number c.leasing) c
event_fits now (event.Cut number) c = cut_fits number (opening_at number c.leasing) c
event_fits now (event.Take ticket) c = take_fits ticket (ask_at ticket c.asks) c
event_fits now (event.Leave ticket) c = leave_fits now ticket (ask_at ticket c.asks) c
event_fits now event.Work c = job_fits now (first_job c) c

-- The step.

counted_fits : (e : CoreEvent) (c : Core) (r : Result Outcome StepFault) → FaultFits e r → Fits e (counted_by c r)
counted_fits e c (Ok o) h = tt
counted_fits e c (Err f) h = h

step_fits : (e : CoreEvent) (c : Core) (now : ℕ) → Fits e (stepped c e now)
unfolding stepped
step_fits e c now =
    let s = happened now e (clock_work now c) in either (Fits e) (is_worn c) (faults c fault.Worn) (counted s) tt (counted_fits e s.core s.outcome (event_fits now e (clock_work now c)))

fault_fits : (e : CoreEvent) (c d : Core) (now : ℕ) (f : StepFault) → stepped c e now ≡ faults d f → IsFaultOf e f
fault_fits e c d now f h = subst (λ (s : Stepped). Fits e s) h (step_fits e c now)

outcome_fits : (e : CoreEvent) (c d : Core) (now : ℕ) (o : Outcome) → stepped c e now ≡ gives d o → may_have e o ≡ true
outcome_fits e c d now o h = by_worn (is_worn c) refl
  where
    same : (x : Outcome) (r : Result Outcome StepFault) → r ≡ Ok x → r ≡ Ok o → x ≡ o
    same x r p q = cc

    other : (f : StepFault) (r : Result Outcome StepFault) → r ≡ Err f → r ≡ Ok o → ⊥
    other f r p q = cc

    by_what : (s : Stepped) → s.outcome ≡ Ok o → Gives (may_have e) (clock_work now c) s → may_have e o ≡ true
    by_what s q (gave x p t) = subst (λ (y : Outcome). may_have e y ≡ true) (same x s.outcome p q) t
    by_what s q (faulted f p w) = absurd (other f s.outcome (ap (λ (y : Stepped). y.outcome) p) q)

    by_worn : (b : Bool) → is_worn c ≡ b → may_have e o ≡ true
    by_worn true w =
        absurd (other fault.Worn (stepped c e now).outcome (ap (λ (y : Stepped). y.outcome) (worn_does_nothing c e now w)) (ap (λ (y : Stepped). y.outcome) h))
    by_worn false w = by_what (stepped c e now) (ap (λ (y : Stepped). y.outcome) h) (steps_give c e now w)

never_so : (b : Bool) → (b ≡ true → ⊥) → b ≡ false
never_so true n = absurd (n refl)
never_so false n = refl

pub answers_fit : AnswersFit
answers_fit e c d now (Ok o) h = outcome_fits e c d now o h.0
answers_fit e c d now (Err fault.NoMemory) h = never_so (takes_no_memory e) (λ t. h.1 t refl)
answers_fit e c d now (Err fault.Worn) h = tt
answers_fit e c d now (Err (fault.TicketUsed n)) h = fault_fits e c d now (fault.TicketUsed n) h.0
answers_fit e c d now (Err (fault.NoSuchTicket n)) h = fault_fits e c d now (fault.NoSuchTicket n) h.0
answers_fit e c d now (Err (fault.NoSuchCall n)) h = fault_fits e c d now (fault.NoSuchCall n) h.0
answers_fit e c d now (Err (fault.NoSuchStream n)) h = fault_fits e c d now (fault.NoSuchStream n) h.0
