-- What holds of each revoke call that a proxy has out for a write, by the write's ticket: each step keeps it, where it holds of the call that the
-- step sends.
use Rattle.std.proofs.Common.{◌≡◌, ◌⊎◌, inl, inr, ℕ, Bool, true, false, cond, ◌&&◌, ◌||◌, List, [], ◌∷◌, map, Option, None, Some, Result, Ok, Err, refl, ◌∙◌, ap, subst}
use Rattle.std.specs.List.{list_any}
use Rattle.etcd_types.proofs.Bools.{or_either}
use Rattle.etcd_types.specs.declared.request.Request.{Request}
use Rattle.etcd_types.specs.Keys.{same}
use Rattle.proxy_model.specs.declared.lease.Entry.{Entry}
use Rattle.proxy_model.specs.Wrapped.{request_under}
use Rattle.wait_model.specs.declared.due.DueCall.{DueCall}
use Rattle.wait_model.specs.declared.found.Found.{Found}
use Rattle.wait_model.specs.declared.write.Write.{Write}
use Rattle.wait_model.specs.declared.write.WriteStage.{WriteStage}
use Rattle.wait_model.specs.declared.write.WriteStage.TheVariants.{Waiting, Sends, Finds}
use Rattle.wait_model.specs.DueOrder.{first_call, first_rescind}
use Rattle.wait_model.specs.Sent.{JobSent, is_asking_due, found_sent, stage_revoking, stage_sent, is_revoke, revoke_job, write_job, call_of, call_sent, job_sent_after, job_sent}
use Rattle.wait_model.specs.Stages.{staged}
use Rattle.wait_model.specs.State.{Ownership}
use Rattle.wait_model.specs.Writes as writes
use Rattle.wait_model.specs.Writes.{first_by, is_asked_as, stage_asks}
use Rattle.watch_model.specs.declared.stream.StreamJob.{StreamJob}
use Rattle.watch_model.specs.declared.stream.StreamJob.TheVariants as stream
use Rattle.watch_model.specs.Due.{next_job}
use Rattle.core_model.specs.declared.event.CoreEvent.{CoreEvent}
use Rattle.core_model.specs.declared.event.CoreEvent.TheVariants as event
use Rattle.core_model.specs.declared.event.Job.TheVariants as job
use Rattle.core_model.specs.declared.event.Outcome.{Outcome}
use Rattle.core_model.specs.declared.event.Outcome.TheVariants as outcome
use Rattle.core_model.specs.declared.event.StepFault.{StepFault}
use Rattle.core_model.specs.declared.event.StepFault.TheVariants as fault
use Rattle.core_model.specs.ClockWork.{clock_work}
use Rattle.core_model.specs.DueJobs.{DueJob, ForSession, ForWrites, ForAcquire, ForAsk, ForGroup, ToOpen, ForStream, first_job}
use Rattle.core_model.specs.Fits.{CoreOk, WritesOk}
use Rattle.core_model.specs.Sending.{next_call, writes_sent, sent_by, on_work}
use Rattle.core_model.specs.State.{Core}
use Rattle.core_model.specs.Step.{is_worn, happened, stepped}
use Rattle.core_model.specs.Stepped.{Stepped, faults, counted, counted_by}
use Rattle.core_model.specs.Watching.{with_watches, stream_job}
use Rattle.core_laws.proofs.Steps.Lists.{same_number}
use Rattle.core_laws.proofs.Steps.Middle.{clock_whole}
use Rattle.core_laws.proofs.Steps.Whole.{of_ok}
use Rattle.core_fits.specs.Fits.{EachOf}
use Rattle.executed_laws.proofs.CoreSends as sending_of
use Rattle.executed_laws.proofs.OwnSends.{IsAsking, asks_last}
use Rattle.executed_laws.proofs.Sends.{SendsIt, first_goes}

-- by a law of a ticket and the number of a call
abbrev pub AllAsking : (ℕ → ℕ → Type 0) → Core → Type 0
AllAsking V c = EachOf (IsAsking V) c.own.waits.writes

-- a call that is sent for a write is as the law says
abbrev pub AsksSo : (ℕ → ℕ → Type 0) → Core → Result Outcome StepFault → Type 0
AsksSo V c r = (n : ℕ) (w : Write) (q : Request) → first_by (writes.has_ticket n) c.own.waits.writes ≡ Some w → SendsIt c r w.ticket q → V w.ticket (next_call c)

-- ---- of the writes

found_goes : (n call : ℕ) (k : List ℕ) (found : List Found) → list_any (is_asked_as n) (map (found_sent call k) found) ≡ true → (call ≡ n) ⊎ (list_any (is_asked_as n) found ≡ true)
found_goes n call k [] h = absurd (cc)
found_goes n call k (f ∷ found) h =
    by (same k f.key && is_asking_due f.revoke) (or_either (is_asked_as n (found_sent call k f)) (list_any (is_asked_as n) (map (found_sent call k) found)) h) (found_goes n call k found)
  where
    later : (call ≡ n) ⊎ (list_any (is_asked_as n) found ≡ true) → (call ≡ n) ⊎ (list_any (is_asked_as n) (f ∷ found) ≡ true)
    later (inl e) = inl e
    later (inr t) = inr (ap (λ (b : Bool). is_asked_as n f || b) t ∙ or_true (is_asked_as n f))
      where
        or_true : (b : Bool) → b || true ≡ true
        or_true true = refl
        or_true false = refl

    by : (b : Bool) → (is_asked_as n (cond b (record f { revoke = Rattle.wait_model.specs.declared.found.Asking.TheVariants.Out call }) f) ≡ true) ⊎ (list_any (is_asked_as n) (map (found_sent call k) found) ≡ true)
        → (list_any (is_asked_as n) (map (found_sent call k) found) ≡ true → (call ≡ n) ⊎ (list_any (is_asked_as n) found ≡ true)) → (call ≡ n) ⊎ (list_any (is_asked_as n) (f ∷ found) ≡ true)
    by true (inl t) more = inl (same_number call n t)
    by false (inl t) more = inr (ap (λ (b : Bool). b || list_any (is_asked_as n) found) t)
    by b (inr t) more = later (more t)

revoking_goes : (V : ℕ → ℕ → Type 0) (call : ℕ) (k : List ℕ) (w : Write) → V w.ticket call → IsAsking V w → IsAsking V (staged w (stage_revoking call k w.stage))
revoking_goes V call k w v h n t = by w.stage t (h n)
  where
    of_found : (found : List Found) → (call ≡ n) ⊎ (list_any (is_asked_as n) found ≡ true) → (list_any (is_asked_as n) found ≡ true → V w.ticket n) → V w.ticket n
    of_found found (inl e) more = subst (V w.ticket) e v
    of_found found (inr t) more = more t

    by : (s : WriteStage) → stage_asks n (stage_revoking call k s) ≡ true → (stage_asks n s ≡ true → V w.ticket n) → V w.ticket n
    by Waiting e more = absurd (cc)
    by (Sends owner s) e more = absurd (cc)
    by (Finds found) e more = of_found found (found_goes n call k found e) more

sending_goes : (V : ℕ → ℕ → Type 0) (call : ℕ) (w : Write) → IsAsking V w → IsAsking V (staged w (stage_sent call w.stage))
sending_goes V call w h n t = h n (by w.stage t)
  where
    by : (s : WriteStage) → stage_asks n (stage_sent call s) ≡ true → stage_asks n s ≡ true
    by Waiting e = e
    by (Sends owner s) e = absurd (cc)
    by (Finds found) e = e

abbrev SentSo : (ℕ → ℕ → Type 0) → Option JobSent → Type 0
SentSo V None = Unit {0}
SentSo V (Some x) = EachOf (IsAsking V) x.own.waits.writes

-- a write's call is sent where this job is
abbrev WriteGoes : (ℕ → ℕ → Type 0) → ℕ → Ownership → Option JobSent → Type 0
WriteGoes V call own o = (n : ℕ) (w : Write) → first_by (writes.has_ticket n) own.waits.writes ≡ Some w → ((x : JobSent) → o ≡ Some x → x.due.ticket ≡ w.ticket → V w.ticket call)

job_of_so : (V : ℕ → ℕ → Type 0) (call : ℕ) (d : DueCall) (o : Option Write) (own : Ownership) → first_by (writes.has_ticket d.place.number) own.waits.writes ≡ o → WriteGoes V call own (call_of call d o own) → EachOf (IsAsking V) own.waits.writes → SentSo V (call_of call d o own)
job_of_so V call d None own f g h = tt
job_of_so V call d (Some w) own f g h = by (is_revoke d.place.kind) refl
  where
    by : (b : Bool) → is_revoke d.place.kind ≡ b → EachOf (IsAsking V) (cond b (revoke_job call d w own) (write_job call d w own)).own.waits.writes
    by true e =
        let is : call_of call d (Some w) own ≡ Some (revoke_job call d w own) = ap (λ (b : Bool). Some (cond b (revoke_job call d w own) (write_job call d w own))) e in
        first_goes (IsAsking V) (writes.has_ticket d.place.number) (stage_revoking call d.key w.stage) w own.waits.writes f (λ t. revoking_goes V call d.key w (g d.place.number w f (revoke_job call d w own) is refl) t) h
    by false e = first_goes (IsAsking V) (writes.has_ticket d.place.number) (stage_sent call w.stage) w own.waits.writes f (λ t. sending_goes V call w t) h

job_so : (V : ℕ → ℕ → Type 0) (call : ℕ) (own : Ownership) → WriteGoes V call own (job_sent call own) → EachOf (IsAsking V) own.waits.writes → SentSo V (job_sent call own)
unfolding job_sent
job_so V call own g h = by_entry (first_rescind own.entries) g
  where
    by_call : (o : Option DueCall) → WriteGoes V call own (call_sent call o own) → SentSo V (call_sent call o own)
    by_call None g = tt
    by_call (Some d) g = job_of_so V call d (first_by (writes.has_ticket d.place.number) own.waits.writes) own refl g h

    by_entry : (o : Option (List ℕ × Entry)) → WriteGoes V call own (job_sent_after call o own) → SentSo V (job_sent_after call o own)
    by_entry None g = by_call (first_call own.waits.writes) g
    by_entry (Some e) g = h

-- ---- all jobs

sent_so : (V : ℕ → ℕ → Type 0) (now : ℕ) (c : Core) (j : Option DueJob) → AsksSo V c (sent_by now j c).outcome → AllAsking V c → AllAsking V (sent_by now j c).core
sent_so V now c None s h = h
sent_so V now c (Some (ForSession x)) s h = h
sent_so V now c (Some ForWrites) s h = by (job_sent (next_call c) c.own) refl (job_so V (next_call c) c.own goes h)
  where
    goes : WriteGoes V (next_call c) c.own (job_sent (next_call c) c.own)
    goes n w f x e due =
        s n w x.due.request f
        (ap (λ (o : Option JobSent). (writes_sent now o c).outcome) e
        ∙ (λ i. Ok (outcome.Job (Some (job.Call (next_call c) c.members.current (due i) (request_under c.settings.namespace x.due.request))))))

    by : (o : Option JobSent) → job_sent (next_call c) c.own ≡ o → SentSo V o → AllAsking V (writes_sent now o c).core
    by None e t = h
    by (Some x) e t = t
sent_so V now c (Some (ForAcquire i x)) s h = h
sent_so V now c (Some (ForAsk a)) s h = h
sent_so V now c (Some (ForGroup lease ticket)) s h = h
sent_so V now c (Some (ToOpen o)) s h = h
sent_so V now c (Some (ForStream x)) s h = by (next_job c.watches (Some x)).1
  where
    by : (o : Option StreamJob) → AllAsking V (stream_job o (with_watches c (next_job c.watches (Some x)).0)).core
    by None = h
    by (Some (stream.Close number)) = h
    by (Some (stream.Open number range start)) = h

work_so : (V : ℕ → ℕ → Type 0) (now : ℕ) (c : Core) → AsksSo V c (on_work now c).outcome → AllAsking V c → AllAsking V (on_work now c).core
unfolding on_work
work_so V now c s h = sent_so V now c (first_job c) s h

-- ---- a whole step

happened_so : (V : ℕ → ℕ → Type 0) (now : ℕ) (e : CoreEvent) (c : Core) → WritesOk c.own.waits.writes c.own.waits.out → (e ≡ event.Work → AsksSo V c (happened now e c).outcome) → AllAsking V c → AllAsking V (happened now e c).core
happened_so V now (event.Ask ticket q word) c k s h = sending_of.asked_so (IsAsking V) (asks_last V) now ticket q word c h
happened_so V now (event.Answer call a) c k s h = sending_of.answered_so (IsAsking V) (asks_last V) now call a c k h
happened_so V now (event.Lost call) c k s h = sending_of.lost_so (IsAsking V) (asks_last V) now call c k h
happened_so V now (event.Tick word) c k s h = sending_of.tick_so (IsAsking V) (asks_last V) now word c h
happened_so V now (event.Item number x) c k s h = sending_of.item_so (IsAsking V) (asks_last V) now number x c h
happened_so V now (event.Cut number) c k s h = sending_of.cut_so (IsAsking V) (asks_last V) number c h
happened_so V now (event.Take ticket) c k s h = sending_of.take_so (IsAsking V) (asks_last V) ticket c h
happened_so V now (event.Leave ticket) c k s h = sending_of.leave_so (IsAsking V) (asks_last V) now ticket c h
happened_so V now event.Work c k s h = work_so V now c (s refl) h

counted_so : (V : ℕ → ℕ → Type 0) (c : Core) (r : Result Outcome StepFault) → AllAsking V c → AllAsking V (counted_by c r).core
counted_so V c (Ok o) h = h
counted_so V c (Err f) h = h

counted_is : (c : Core) (r : Result Outcome StepFault) → (counted_by c r).outcome ≡ r
counted_is c (Ok o) = refl
counted_is c (Err f) = refl

-- what the step sends is sent behind the clock's work
pub asks_stepped : (V : ℕ → ℕ → Type 0) (c : Core) (e : CoreEvent) (now : ℕ) → CoreOk c → (e ≡ event.Work → AsksSo V (clock_work now c) (stepped c e now).outcome) → AllAsking V c → AllAsking V (stepped c e now).core
unfolding stepped
asks_stepped V c e now ok s h = by (is_worn c) s
  where
    came : Stepped
    came = happened now e (clock_work now c)

    clocked : AllAsking V (clock_work now c)
    clocked = sending_of.clock_so (IsAsking V) (asks_last V) now c h

    by : (b : Bool) → (e ≡ event.Work → AsksSo V (clock_work now c) (cond b (faults c fault.Worn) (counted came)).outcome) → AllAsking V (cond b (faults c fault.Worn) (counted came)).core
    by true t = h
    by false t =
        counted_so V came.core came.outcome
        (happened_so V now e (clock_work now c) (clock_whole 0 now c (of_ok c ok).mid).mid.agrees.writes (λ w. subst (AsksSo V (clock_work now c)) (counted_is came.core came.outcome) (t w)) clocked)
