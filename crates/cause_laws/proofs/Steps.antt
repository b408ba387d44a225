-- What a whole step makes of the requests, each with its cause.
use Rattle.std.proofs.Common.{◌≡◌, ◌⊎◌, inl, inr, ℕ, ◌==◌, Bool, true, false, not, cond, ◌&&◌, ◌||◌, List, [], ◌∷◌, ◌++◌, map, Option, None, Some, Result, Ok, Err, refl, sym, ◌∙◌, ap, subst}
use Rattle.std.specs.List.{list_any}
use Rattle.etcd_types.proofs.Bools.{and_first, and_second, or_first, or_second, or_none, or_either, not_true}
use Rattle.etcd_types.specs.declared.answer.Answer.{Answer}
use Rattle.etcd_types.specs.declared.answer.Answer.TheVariants.{Done, Refused}
use Rattle.etcd_types.specs.declared.answer.Body.{Body}
use Rattle.etcd_types.specs.declared.answer.Refusal.{Refusal}
use Rattle.etcd_types.specs.declared.request.Request.{Request}
use Rattle.etcd_types.specs.declared.request.Request.TheVariants as request
use Rattle.wait_model.specs.declared.sending.Sending.TheVariants as sending
use Rattle.wait_model.specs.Sent.{JobSent, job_sent}
use Rattle.read_model.specs.declared.asked.Asked.{Asked}
use Rattle.read_model.specs.declared.asked.Stage.{Stage}
use Rattle.read_model.specs.declared.asked.Stage.TheVariants as stage
use Rattle.read_model.specs.Acquires.{read_asked}
use Rattle.read_model.specs.PlainRead.{in_stage, decision, decided_ask, ask_key}
use Rattle.read_model.specs.State.{Moment, ground_of}
use Rattle.read_model.specs.TakingOff.{is_writes}
use Rattle.watch_model.specs.declared.stream.StreamJob.{StreamJob}
use Rattle.watch_model.specs.declared.stream.StreamJob.TheVariants as stream
use Rattle.watch_model.specs.Due.{next_job}
use Rattle.watch_model.specs.Lookups.{watch_at}
use Rattle.watch_model.specs.State.{Watch}
use Rattle.core_model.specs.declared.event.CoreEvent.{CoreEvent}
use Rattle.core_model.specs.declared.event.CoreEvent.TheVariants as event
use Rattle.core_model.specs.declared.event.Outcome.{Outcome}
use Rattle.core_model.specs.declared.event.StepFault.{StepFault}
use Rattle.core_model.specs.declared.event.StepFault.TheVariants as fault
use Rattle.core_model.specs.declared.out_call.OutCall.{OutCall}
use Rattle.core_model.specs.Asking.{asked_at, is_leased_read, read_by, read_is_asked, held_body, if_live, call_stage, call_is_asked, answered_or_called, leased_ask, taken_in, request_asked, refused_or_taken, on_ask}
use Rattle.core_model.specs.ClockWork.{is_replied, timed_out_ask, clock_work}
use Rattle.core_model.specs.DueJobs.{DueJob, ForSession, ForWrites, ForAcquire, ForAsk, ForGroup, ToOpen, ForStream, first_job}
use Rattle.core_model.specs.Ends.{answered_job, answered_call, call_gone, answer_of, on_answer, loss_of, on_lost}
use Rattle.core_model.specs.Fits.{has_number, once, ask_tickets, Agrees, CoreOk}
use Rattle.core_model.specs.Groups.{keeps, is_due_stage, is_out_for, group_since, joining, group_sent}
use Rattle.core_model.specs.Heard.{heard, answer_taken}
use Rattle.core_model.specs.Kinds.{writes_keys}
use Rattle.core_model.specs.Lookups.{leases, is_known, moment, reads_of, with_reads, has_ticket, ask_at, out_at}
use Rattle.core_model.specs.Refusals.{refusal_of}
use Rattle.core_model.specs.Sending.{next_call, called_as, writes_sent, sent_by, on_work}
use Rattle.core_model.specs.State.{Core}
use Rattle.core_model.specs.Step.{is_worn, happened, stepped}
use Rattle.core_model.specs.Stepped.{Stepped, faults, counted, counted_by}
use Rattle.core_model.specs.Takes.{watcher_left, left, on_leave}
use Rattle.core_model.specs.Watching.{with_watches, stream_job}
use Rattle.core_laws.proofs.Steps.Comes.{by_test}
use Rattle.core_laws.proofs.Steps.Due.{is_called_due, DueIf, first_due}
use Rattle.core_laws.proofs.Steps.Lists.{same_number}
use Rattle.core_laws.proofs.Steps.Middle.{clock_whole}
use Rattle.core_laws.proofs.Steps.Whole.{of_ok}
use Rattle.keep_laws.proofs.Rows.{All, all_mapped, all_kept, all_filtered, all_pushed}
use Rattle.keep_laws.proofs.Steps.{tick_step, item_step, cut_step, take_step}
use Rattle.cause_laws.proofs.Walks.{is_plain, decided_plain, Calls, Moves, Loses, Tells, released_walk, clock_walk, lost_call_walk, heard_walk}

abbrev StepAll : (Asked → Type 0) → Stepped → Type 0
StepAll P s = All P s.core.asks

-- ---- a request is asked

abbrev pub Fresh : (Asked → Type 0) → ℕ → ℕ → Request → ℕ → Type 0
Fresh P now ticket q word = (s : Stage) → is_replied s ≡ false → (is_writes s ≡ true → writes_keys q ≡ true) → P (in_stage s (asked_at now ticket q word))

joining_open : (step : ℕ) (o : Option ℕ) → is_replied (joining step o) ≡ false
joining_open step None = refl
joining_open step (Some since) = refl

call_open : (q : Request) (c : Core) → is_replied (call_stage q c) ≡ false
call_open (request.KeepAlive lease) c = by_test (λ (s : Stage). is_replied s ≡ false) (is_out_for lease c.out) (stage.Grouped None) (joining c.own.waits.step (group_since lease c.asks)) (λ t. refl) (λ t. joining_open c.own.waits.step (group_since lease c.asks))
call_open (request.Range ask) c = refl
call_open (request.Put ask) c = refl
call_open (request.Delete ask) c = refl
call_open (request.Txn t) c = refl
call_open (request.Compact revision physical) c = refl
call_open (request.Grant ttl lease) c = refl
call_open (request.Revoke lease) c = refl
call_open (request.TimeToLive lease keys) c = refl
call_open request.Leases c = refl
call_open (request.Watch ask) c = refl

joining_unwritten : (step : ℕ) (o : Option ℕ) → is_writes (joining step o) ≡ false
joining_unwritten step None = refl
joining_unwritten step (Some since) = refl

call_unwritten : (q : Request) (c : Core) → is_writes (call_stage q c) ≡ false
call_unwritten (request.KeepAlive lease) c = by_test (λ (s : Stage). is_writes s ≡ false) (is_out_for lease c.out) (stage.Grouped None) (joining c.own.waits.step (group_since lease c.asks)) (λ t. refl) (λ t. joining_unwritten c.own.waits.step (group_since lease c.asks))
call_unwritten (request.Range ask) c = refl
call_unwritten (request.Put ask) c = refl
call_unwritten (request.Delete ask) c = refl
call_unwritten (request.Txn t) c = refl
call_unwritten (request.Compact revision physical) c = refl
call_unwritten (request.Grant ttl lease) c = refl
call_unwritten (request.Revoke lease) c = refl
call_unwritten (request.TimeToLive lease keys) c = refl
call_unwritten request.Leases c = refl
call_unwritten (request.Watch ask) c = refl

-- a plain stage is no write's
pub plain_unwritten : {A : Type 0} (s : Stage) → is_plain s ≡ true → is_writes s ≡ true → A
plain_unwritten stage.Writes h w = absurd (let f : false ≡ true = h in cc)
plain_unwritten (stage.Calling s) h w = absurd (cc)
plain_unwritten stage.Acquiring h w = absurd (cc)
plain_unwritten stage.Joined h w = absurd (cc)
plain_unwritten stage.Behind h w = absurd (cc)
plain_unwritten (stage.Grouped s) h w = absurd (cc)
plain_unwritten (stage.Replied v) h w = absurd (cc)

unwritten : {A : Type 0} (s : Stage) → is_writes s ≡ false → is_writes s ≡ true → A
unwritten s n w = absurd (let e : true ≡ false = sym w ∙ n in cc)

module _ (P : Asked → Type 0) (now ticket : ℕ) (q : Request) (word : ℕ) (f : Fresh P now ticket q word) where
  either : (b : Bool) (x y : Stepped) → StepAll P x → StepAll P y → StepAll P (cond b x y)
  either true x y h i = h
  either false x y h i = i

  call_all : (r : Request) (c : Core) → All P c.asks → All P (c.asks ++ in_stage (call_stage r c) (asked_at now ticket q word) ∷ [])
  call_all r c t = all_pushed P (in_stage (call_stage r c) (asked_at now ticket q word)) c.asks t (f _ (call_open r c) (λ w. unwritten (call_stage r c) (call_unwritten r c) w))

  read_all : (m : Moment) (c : Core) → All P c.asks → StepAll P (read_is_asked m (asked_at now ticket q word) c)
  read_all m c t = by_stage (decision m (ground_of (reads_of c)) (ask_key (asked_at now ticket q word))).stage refl
    where
      pushed : is_replied (decided_ask m (ground_of (reads_of c)) (asked_at now ticket q word)).stage ≡ false → All P (c.asks ++ decided_ask m (ground_of (reads_of c)) (asked_at now ticket q word) ∷ [])
      pushed s = all_pushed P (decided_ask m (ground_of (reads_of c)) (asked_at now ticket q word)) c.asks t (f _ s (λ w. plain_unwritten _ (decided_plain _ _ _ _ _) w))

      by_stage : (s : Stage) → (decided_ask m (ground_of (reads_of c)) (asked_at now ticket q word)).stage ≡ s → StepAll P (read_by s c (with_reads c (read_asked m (asked_at now ticket q word) (reads_of c))))
      by_stage (stage.Replied v) e = t
      by_stage (stage.Calling s) e = pushed (ap is_replied e)
      by_stage stage.Acquiring e = pushed (ap is_replied e)
      by_stage stage.Joined e = pushed (ap is_replied e)
      by_stage stage.Behind e = pushed (ap is_replied e)
      by_stage stage.Writes e = pushed (ap is_replied e)
      by_stage (stage.Grouped s) e = pushed (ap is_replied e)

  body_all : (b : Option Body) (c : Core) → All P c.asks → StepAll P (answered_or_called b (asked_at now ticket q word) c)
  body_all None c t = call_all q c t
  body_all (Some b) c t = t

  taken_all : (m : Moment) (c : Core) → All P c.asks → StepAll P (taken_in m (asked_at now ticket q word) c)
  taken_all m c t =
      either (leases c) (leased_ask m (asked_at now ticket q word) c) (call_is_asked (asked_at now ticket q word) c)
      (either (is_leased_read c.own.waits.prefix q) (read_is_asked m (asked_at now ticket q word) c) _ (read_all m c t)
      (by_test (StepAll P) (writes_keys q) _ _ (λ k. all_pushed P (in_stage stage.Writes (asked_at now ticket q word)) c.asks t (f stage.Writes refl (λ w. k))) (λ k. body_all (if_live m.session (held_body c.own.entries q)) c t)))
      (call_all q c t)

  request_all : (r : Request) (m : Moment) (c : Core) → All P c.asks → StepAll P (request_asked r m (asked_at now ticket q word) c)
  request_all (request.Watch ask) m c t = t
  request_all (request.KeepAlive lease) m c t = taken_all m c t
  request_all (request.Range ask) m c t = taken_all m c t
  request_all (request.Put ask) m c t = taken_all m c t
  request_all (request.Delete ask) m c t = taken_all m c t
  request_all (request.Txn x) m c t = taken_all m c t
  request_all (request.Compact revision physical) m c t = taken_all m c t
  request_all (request.Grant ttl lease) m c t = taken_all m c t
  request_all (request.Revoke lease) m c t = taken_all m c t
  request_all (request.TimeToLive lease keys) m c t = taken_all m c t
  request_all request.Leases m c t = taken_all m c t

  pub ask_walk : (c : Core) → All P c.asks → StepAll P (on_ask now ticket q word c)
  unfolding on_ask
  ask_walk c t = either (is_known ticket c) (faults c (fault.TicketUsed ticket)) (refused_or_taken (refusal_of c.own.waits.prefix q) (moment c now) (asked_at now ticket q word) c) t (by (refusal_of c.own.waits.prefix q))
    where
      by : (o : Option Refusal) → StepAll P (refused_or_taken o (moment c now) (asked_at now ticket q word) c)
      by None = request_all q (moment c now) c t
      by (Some r) = t

-- ---- a client leaves

leave_walk : (P : Asked → Type 0) → Moves P → (now ticket : ℕ) (c : Core) → All P c.asks → StepAll P (on_leave now ticket c)
unfolding on_leave
leave_walk P l now ticket c t = by_ask (ask_at ticket c.asks)
  where
    by_watch : (w : Option Watch) → StepAll P (watcher_left ticket w c)
    by_watch None = t
    by_watch (Some w) = t

    by_ask : (o : Option Asked) → StepAll P (left now ticket o c)
    by_ask None = by_watch (watch_at ticket c.watches.watches)
    by_ask (Some a) = released_walk P l false _ _ _ (all_filtered P (λ b. not (has_ticket ticket b)) c.asks t)

-- ---- what is due is sent

none_due : (ticket : ℕ) (ys : List Asked) → has_number (ask_tickets ys) ticket ≡ false → list_any (λ b. has_ticket ticket b && is_called_due b.stage) ys ≡ false
none_due ticket [] n = refl
none_due ticket (y ∷ ys) n =
    or_none ((y.ticket == ticket) && is_called_due y.stage) (list_any (λ b. has_ticket ticket b && is_called_due b.stage) ys)
    (ap (λ b. b && is_called_due y.stage) (or_first (y.ticket == ticket) (has_number (ask_tickets ys) ticket) n)) (none_due ticket ys (or_second (y.ticket == ticket) (has_number (ask_tickets ys) ticket) n))

none_named : (ticket : ℕ) (ys : List Asked) → has_number (ask_tickets ys) ticket ≡ false → All (λ y. (y.ticket == ticket) ≡ true → is_called_due y.stage ≡ true) ys
none_named ticket [] n = tt
none_named ticket (y ∷ ys) n = (λ t. absurd (let e = or_first (y.ticket == ticket) (has_number (ask_tickets ys) ticket) n in cc), none_named ticket ys (or_second (y.ticket == ticket) (has_number (ask_tickets ys) ticket) n))

-- of this ticket only requests that are due by themselves
due_rows : (ticket : ℕ) (xs : List Asked) → once (ask_tickets xs) ≡ true → list_any (λ b. has_ticket ticket b && is_called_due b.stage) xs ≡ true → All (λ x. (x.ticket == ticket) ≡ true → is_called_due x.stage ≡ true) xs
due_rows ticket [] u h = tt
due_rows ticket (x ∷ xs) u h = by_ticket (λ t. due_rows ticket xs (and_second (not (has_number (ask_tickets xs) x.ticket)) (once (ask_tickets xs)) u) t) (x.ticket == ticket) refl
  where
    once_here : has_number (ask_tickets xs) x.ticket ≡ false
    once_here = not_true (has_number (ask_tickets xs) x.ticket) (and_first (not (has_number (ask_tickets xs) x.ticket)) (once (ask_tickets xs)) u)

    by_either : (x.ticket == ticket) ≡ true → has_number (ask_tickets xs) ticket ≡ false → (((x.ticket == ticket) && is_called_due x.stage) ≡ true) ⊎ (list_any (λ b. has_ticket ticket b && is_called_due b.stage) xs ≡ true) → is_called_due x.stage ≡ true
    by_either e n (inl t) = and_second (x.ticket == ticket) (is_called_due x.stage) t
    by_either e n (inr t) = absurd (let f : true ≡ false = sym t ∙ none_due ticket xs n in cc)

    rest_any : (x.ticket == ticket) ≡ false → list_any (λ b. has_ticket ticket b && is_called_due b.stage) xs ≡ true
    rest_any e = sym (ap (λ b. (b && is_called_due x.stage) || list_any (λ y. has_ticket ticket y && is_called_due y.stage) xs) e) ∙ h

    by_ticket : (list_any (λ b. has_ticket ticket b && is_called_due b.stage) xs ≡ true → All (λ y. (y.ticket == ticket) ≡ true → is_called_due y.stage ≡ true) xs) → (b : Bool) → (x.ticket == ticket) ≡ b → All (λ y. (y.ticket == ticket) ≡ true → is_called_due y.stage ≡ true) (x ∷ xs)
    by_ticket more true e =
        let n : has_number (ask_tickets xs) ticket ≡ false = subst (λ (i : ℕ). has_number (ask_tickets xs) i ≡ false) (same_number x.ticket ticket e) once_here in
        (λ t. by_either e n (or_either ((x.ticket == ticket) && is_called_due x.stage) (list_any (λ b. has_ticket ticket b && is_called_due b.stage) xs) h), none_named ticket xs n)
    by_ticket more false e = (λ t. absurd (let f : true ≡ false = sym t ∙ e in cc), more (rest_any e))

called_open : (s : Stage) → is_called_due s ≡ true → is_replied s ≡ false
called_open (stage.Calling s) h = refl
called_open stage.Acquiring h = refl
called_open stage.Joined h = refl
called_open stage.Behind h = refl
called_open stage.Writes h = refl
called_open (stage.Grouped s) h = refl
called_open (stage.Replied v) h = absurd (cc)

due_open : (s : Stage) → is_due_stage s ≡ true → is_replied s ≡ false
due_open (stage.Grouped s) h = refl
due_open (stage.Calling s) h = refl
due_open stage.Acquiring h = refl
due_open stage.Joined h = refl
due_open stage.Behind h = refl
due_open stage.Writes h = refl
due_open (stage.Replied v) h = absurd (cc)

call_sent_walk : (P : Asked → Type 0) → Moves P → (call ticket : ℕ) (xs : List Asked) → All (λ x. (x.ticket == ticket) ≡ true → is_called_due x.stage ≡ true) xs → All P xs → All P (map (called_as call ticket) xs)
call_sent_walk P l call ticket [] h t = tt
call_sent_walk P l call ticket (x ∷ xs) h t = (
  by_test P (x.ticket == ticket) (in_stage (stage.Calling (sending.Out call)) x) x (λ e. l x _ (called_open x.stage (h.0 e)) refl t.0) (λ e. t.0),
  call_sent_walk P l call ticket xs h.1 t.1,
)

sent_walk : (P : Asked → Type 0) → Moves P → (now : ℕ) (j : Option DueJob) (c : Core) → Agrees c → DueIf c j → All P c.asks → StepAll P (sent_by now j c)
sent_walk P l now None c h d t = t
sent_walk P l now (Some (ForSession x)) c h d t = t
sent_walk P l now (Some ForWrites) c h d t = by_job (job_sent (next_call c) c.own)
  where
    by_job : (x : Option JobSent) → StepAll P (writes_sent now x c)
    by_job None = t
    by_job (Some x) = t
sent_walk P l now (Some (ForAcquire k x)) c h d t = t
sent_walk P l now (Some (ForAsk a)) c h d t = call_sent_walk P l (next_call c) a.ticket c.asks (due_rows a.ticket c.asks h.asks.once d) t
sent_walk P l now (Some (ForGroup lease ticket)) c h d t =
    all_mapped P P (group_sent (next_call c) lease)
    (λ x u. by_test P (keeps lease x.request && is_due_stage x.stage) (in_stage (stage.Grouped (Some (sending.Out (next_call c)))) x) x (λ e. l x _ (due_open x.stage (and_second (keeps lease x.request) (is_due_stage x.stage) e)) refl u) (λ e. u))
    c.asks t
sent_walk P l now (Some (ToOpen o)) c h d t = t
sent_walk P l now (Some (ForStream x)) c h d t = by_job (next_job c.watches (Some x)).1
  where
    by_job : (o : Option StreamJob) → StepAll P (stream_job o (with_watches c (next_job c.watches (Some x)).0))
    by_job None = t
    by_job (Some (stream.Close number)) = t
    by_job (Some (stream.Open number range start)) = t

work_walk : (P : Asked → Type 0) → Moves P → (now : ℕ) (c : Core) → Agrees c → All P c.asks → StepAll P (on_work now c)
unfolding on_work
work_walk P l now c h t = sent_walk P l now (first_job c) c h (first_due c h) t

-- ---- whole steps

-- this call is lost at this step, or its answer counts as its loss; of a proxy whose clock's work is done
pub data IsLost (c : Core) (e : CoreEvent) (now : ℕ) (o : OutCall) : Type 0 where
  lost : e ≡ event.Lost o.call → IsLost c e now o
  unheard : (a : Answer) → e ≡ event.Answer o.call a → heard c.settings.namespace a ≡ None → IsLost c e now o
  unread : (a b : Answer) → e ≡ event.Answer o.call a → heard c.settings.namespace a ≡ Some b → answered_job now o o.job b (answer_taken a (call_gone o.call c)) ≡ None → IsLost c e now o

-- what keeps it, by the event; of a proxy whose clock's work is done
pub record Keeps (P Q : Asked → Type 0) (c : Core) (e : CoreEvent) (now : ℕ) : Type 0 where
  pub turn : (x : Asked) → P x → Q x
  pub moves : Moves Q
  pub fresh : (ticket word : ℕ) (q : Request) → e ≡ event.Ask ticket q word → Fresh Q now ticket q word
  pub tells : (o : OutCall) (a b : Answer) → out_at o.call c.out ≡ Some o → e ≡ event.Answer o.call a → heard c.settings.namespace a ≡ Some b → Tells P Q c.members.count c.own.waits.step c.own.waits.writes o b
  pub loses : (o : OutCall) → out_at o.call c.out ≡ Some o → IsLost c e now o → Loses P Q c.members.count c.own.waits.step c.own.waits.writes o

out_number : (call : ℕ) (out : List OutCall) (o : OutCall) → out_at call out ≡ Some o → o.call ≡ call
out_number call [] o e = absurd (cc)
out_number call (x ∷ xs) o e = by_head (λ t. out_number call xs o t) (x.call == call) refl e
  where
    by_head : (out_at call xs ≡ Some o → o.call ≡ call) → (b : Bool) → (x.call == call) ≡ b → cond b (Some x) (out_at call xs) ≡ Some o → o.call ≡ call
    by_head more true t e = let same : x ≡ o = cc in sym (ap (λ (y : OutCall). y.call) same) ∙ same_number x.call call t
    by_head more false t e = more e

lost_walk : (P Q : Asked → Type 0) (now call : ℕ) (c : Core) → Agrees c → Keeps P Q c (event.Lost call) now → All P c.asks → StepAll Q (on_lost now call c)
unfolding on_lost
lost_walk P Q now call c h k t = by (out_at call c.out) refl
  where
    by : (o : Option OutCall) → out_at call c.out ≡ o → StepAll Q (loss_of now call o c)
    by None e = all_kept P Q k.turn c.asks t
    by (Some o) e =
        let n = out_number call c.out o e in
        lost_call_walk P Q k.turn k.moves now (call_gone call c) o h.asks h.writes (k.loses o (ap (λ (i : ℕ). out_at i c.out) n ∙ e) (lost (ap (λ (i : ℕ). event.Lost i) (sym n)))) t

answer_walk : (P Q : Asked → Type 0) (now call : ℕ) (a : Answer) (c : Core) → Agrees c → Keeps P Q c (event.Answer call a) now → All P c.asks → StepAll Q (on_answer now call a c)
unfolding on_answer
answer_walk P Q now call a c h k t = by (out_at call c.out) refl
  where
    by_answer : (o : OutCall) → out_at o.call c.out ≡ Some o → o.call ≡ call → (b : Answer) → a ≡ b → All Q (answered_call now o b (call_gone call c)).asks
    by_answer o f n (Done reply) is =
        let e : event.Answer call a ≡ event.Answer o.call a = ap (λ (i : ℕ). event.Answer i a) (sym n) in
        heard_walk P Q k.turn k.moves now (answer_taken (Done reply) (call_gone call c)) o (heard c.settings.namespace (Done reply)) h.asks h.writes
        (λ b g. k.tells o a b f e (ap (heard c.settings.namespace) is ∙ g))
        (λ b g u. k.loses o f (unread a b e (ap (heard c.settings.namespace) is ∙ g) (ap (λ (x : Answer). answered_job now o o.job b (answer_taken x (call_gone o.call c))) is ∙ ap (λ (i : ℕ). answered_job now o o.job b (answer_taken (Done reply) (call_gone i c))) n ∙ u)))
        (λ g. k.loses o f (unheard a e (ap (heard c.settings.namespace) is ∙ g))) t
    by_answer o f n (Refused r) is =
        let e : event.Answer call a ≡ event.Answer o.call a = ap (λ (i : ℕ). event.Answer i a) (sym n) in
        heard_walk P Q k.turn k.moves now (answer_taken (Refused r) (call_gone call c)) o (heard c.settings.namespace (Refused r)) h.asks h.writes
        (λ b g. k.tells o a b f e (ap (heard c.settings.namespace) is ∙ g))
        (λ b g u. k.loses o f (unread a b e (ap (heard c.settings.namespace) is ∙ g) (ap (λ (x : Answer). answered_job now o o.job b (answer_taken x (call_gone o.call c))) is ∙ ap (λ (i : ℕ). answered_job now o o.job b (answer_taken (Refused r) (call_gone i c))) n ∙ u)))
        (λ g. k.loses o f (unheard a e (ap (heard c.settings.namespace) is ∙ g))) t

    by : (o : Option OutCall) → out_at call c.out ≡ o → StepAll Q (answer_of now call a o c)
    by None e = all_kept P Q k.turn c.asks t
    by (Some o) e = let n = out_number call c.out o e in by_answer o (ap (λ (i : ℕ). out_at i c.out) n ∙ e) n a refl

happened_walk : (P Q : Asked → Type 0) (now : ℕ) (e : CoreEvent) (c : Core) → Agrees c → Keeps P Q c e now → All P c.asks → StepAll Q (happened now e c)
happened_walk P Q now (event.Ask ticket q word) c h k t = ask_walk Q now ticket q word (k.fresh ticket word q refl) c (all_kept P Q k.turn c.asks t)
happened_walk P Q now (event.Answer call a) c h k t = answer_walk P Q now call a c h k t
happened_walk P Q now (event.Lost call) c h k t = lost_walk P Q now call c h k t
happened_walk P Q now (event.Tick word) c h k t = tick_step Q now word c (all_kept P Q k.turn c.asks t)
happened_walk P Q now (event.Item number x) c h k t = item_step Q now number x c (all_kept P Q k.turn c.asks t)
happened_walk P Q now (event.Cut number) c h k t = cut_step Q number c (all_kept P Q k.turn c.asks t)
happened_walk P Q now (event.Take ticket) c h k t = take_step Q ticket c (all_kept P Q k.turn c.asks t)
happened_walk P Q now (event.Leave ticket) c h k t = leave_walk Q k.moves now ticket c (all_kept P Q k.turn c.asks t)
happened_walk P Q now event.Work c h k t = work_walk Q k.moves now c h (all_kept P Q k.turn c.asks t)

counted_walk : (P : Asked → Type 0) (s : Stepped) → StepAll P s → StepAll P (counted s)
counted_walk P s t = by s.outcome
  where
    by : (o : Result Outcome StepFault) → StepAll P (counted_by s.core o)
    by (Ok o) = t
    by (Err f) = t

-- What holds of each request before a step, what then holds of each behind the clock's work, with which the step begins, and what holds of each
-- after it.
pub step_walk : (P M Q : Asked → Type 0) (c : Core) (e : CoreEvent) (now : ℕ) → CoreOk c → is_worn c ≡ false → Calls P → Calls M → ((x : Asked) → P x → M (timed_out_ask now x)) → Keeps M Q (clock_work now c) e now → All P c.asks
    → All Q (stepped c e now).core.asks
unfolding stepped
step_walk P M Q c e now ok w l m f k t =
    subst (λ b. StepAll Q (cond b (faults c fault.Worn) (counted (happened now e (clock_work now c))))) (sym w)
    (counted_walk Q (happened now e (clock_work now c)) (happened_walk M Q now e (clock_work now c) (clock_whole 0 now c (of_ok c ok).mid).mid.agrees k (clock_walk P M l m now c f t)))
