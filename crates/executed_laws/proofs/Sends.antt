-- What holds of each call that a proxy has out for a request, by the request's ticket: each step keeps it, where it holds of the call that
-- the step sends.
use Rattle.std.proofs.Common.{◌≡◌, ℕ, Bool, true, false, not, cond, ◌&&◌, List, [], ◌∷◌, Option, None, Some, Result, Ok, Err, refl, sym, ◌∙◌, ap, subst}
use Rattle.std.specs.Cmp.Lexicographic.{slice_cmp}
use Rattle.std.specs.FinMap.Entries.{is_sorted-where_key}
use Rattle.std.specs.Option.{option_map}
use Rattle.std.specs.Ordering.{nat_cmp}
use Rattle.etcd_types.specs.declared.request.Request.{Request}
use Rattle.etcd_types.specs.declared.request.Request.TheVariants as request
use Rattle.etcd_types.specs.Keys.{same}
use Rattle.proxy_model.specs.declared.lease.Entry.{Entry}
use Rattle.proxy_model.specs.Acquire.{acquire}
use Rattle.proxy_model.specs.Keyed.{Keyed, at, changed_at, is_in_order}
use Rattle.proxy_model.specs.PassingOn.{passed_on}
use Rattle.proxy_model.specs.Wrapped.{request_under}
use Rattle.proxy_model.proofs.KeyedLaws.{to_T, from_T, at-with_at, in_order-with_at}
use Rattle.wait_model.specs.declared.due.DueCall.{DueCall}
use Rattle.wait_model.specs.declared.sending.Sending.{Sending}
use Rattle.wait_model.specs.declared.sending.Sending.TheVariants as sending
use Rattle.wait_model.specs.declared.write.Write.{Write}
use Rattle.wait_model.specs.declared.write.WriteStage.{WriteStage}
use Rattle.wait_model.specs.declared.write.WriteStage.TheVariants.{Waiting, Sends, Finds}
use Rattle.wait_model.specs.DueOrder.{first_call, first_rescind}
use Rattle.wait_model.specs.Sent.{JobSent, stage_revoking, stage_sent, is_revoke, revoke_job, write_job, write_txn, call_of, call_sent, job_sent_after, job_sent}
use Rattle.wait_model.specs.Stages.{staged}
use Rattle.wait_model.specs.State.{Ownership}
use Rattle.wait_model.specs.Writes as writes
use Rattle.wait_model.specs.Writes.{first_by, with_first, stage_sends, sends}
use Rattle.wait_model.proofs.Tables.{at-without}
use Rattle.core_laws.proofs.Writes.FoundWrite.{head_found, rest_found}
use Rattle.read_model.specs.declared.acquire.Acquire.{Acquire}
use Rattle.read_model.specs.declared.asked.Asked.{Asked}
use Rattle.read_model.specs.declared.asked.Stage.{Stage}
use Rattle.read_model.specs.declared.asked.Stage.TheVariants as stage
use Rattle.read_model.specs.Acquires.{sent_out}
use Rattle.read_model.specs.PlainRead.{in_stage}
use Rattle.read_model.specs.SessionEnd.{is_due}
use Rattle.watch_model.specs.declared.stream.StreamJob.{StreamJob}
use Rattle.watch_model.specs.declared.stream.StreamJob.TheVariants as stream
use Rattle.watch_model.specs.Due.{next_job}
use Rattle.core_model.specs.declared.event.CoreEvent.{CoreEvent}
use Rattle.core_model.specs.declared.event.CoreEvent.TheVariants as event
use Rattle.core_model.specs.declared.event.Job.TheVariants as job
use Rattle.core_model.specs.declared.event.Outcome.{Outcome}
use Rattle.core_model.specs.declared.event.Outcome.TheVariants as outcome
use Rattle.core_model.specs.declared.event.StepFault.{StepFault}
use Rattle.core_model.specs.declared.event.StepFault.TheVariants as fault
use Rattle.core_model.specs.ClockWork.{clock_work}
use Rattle.core_model.specs.DueJobs.{DueJob, ForSession, ForWrites, ForAcquire, ForAsk, ForGroup, ToOpen, ForStream, first_job}
use Rattle.core_model.specs.Fits.{CoreOk, once, ask_tickets}
use Rattle.core_model.specs.Groups.{keeps, is_due_stage, group_sent}
use Rattle.core_model.specs.Lookups.{has_ticket, ask_at}
use Rattle.core_model.specs.Sending.{next_call, called_as, writes_sent, sent_by, on_work}
use Rattle.core_model.specs.State.{Core}
use Rattle.core_model.specs.Step.{is_worn, happened, stepped}
use Rattle.core_model.specs.Stepped.{Stepped, faults, counted, counted_by}
use Rattle.core_model.specs.Watching.{with_watches, stream_job}
use Rattle.core_laws.proofs.Steps.Comes.{by_test}
use Rattle.core_laws.proofs.Steps.Lists.{same_number}
use Rattle.core_laws.proofs.Steps.Middle.{clock_whole}
use Rattle.core_laws.proofs.Steps.Whole.{Whole, of_ok}
use Rattle.core_fits.specs.Fits.{EachOf}
use Rattle.core_fits.proofs.Eachs.{each_kept}
use Rattle.keep_laws.proofs.Rows.{All, all_mapped, all_kept}
use Rattle.reply_laws.proofs.Lasting as lasting
use Rattle.reply_laws.proofs.Lasting.{is_uncalled, Lasts}
use Rattle.executed_laws.proofs.CoreSends as sending_of
use Rattle.executed_laws.proofs.Dues.{StandsIf, first_stands}
use Rattle.executed_laws.proofs.OwnSends.{IsSent, AreSent, sends_last}

-- of a request whose own call is out
abbrev pub AskSent : (ℕ → ℕ → Type 0) → Asked → Type 0
AskSent A a = (number : ℕ) → a.stage ≡ stage.Calling (sending.Out number) → A a.ticket number

-- of the acquires that are out; they stand by rising keys
pub record AcquiresSent (K : ℕ → ℕ → Type 0) (xs : Keyed Acquire) : Type 0 where
  pub order : is_in_order xs ≡ true
  pub sent : (k : List ℕ) (number : ℕ) (x : Acquire) → at xs k ≡ Some x → x.sending ≡ sending.Out number → K x.ticket number

-- of requests by their own calls, of acquires, and of writes, by three laws of a ticket and the number of a call
pub record AllSent (A K W : ℕ → ℕ → Type 0) (c : Core) : Type 0 where
  pub asks : All (AskSent A) c.asks
  pub acquires : AcquiresSent K c.acquires
  pub writes : AreSent W c.own.waits.writes

same_acquire : (x y : Acquire) → Some x ≡ Some y → x ≡ y
same_acquire x y e = cc

due_not_out : (s : Sending) (number : ℕ) → is_due s ≡ true → s ≡ sending.Out number → ⊥
due_not_out s number d e = let f : false ≡ true = sym (ap is_due e) ∙ d in absurd (cc)

sent_lasts : (A K : ℕ → ℕ → Type 0) → Lasts (AskSent A) (AcquiresSent K)
sent_lasts A K = record {
  uncalled = λ y u number e. absurd (let f : true ≡ false = sym u ∙ ap is_uncalled e in cc);
  gone = λ xs k h. record {
    order = in_order-with_at xs k None h.order;
    sent = λ j number x e o. gone_at (same k j) j number x h (sym (at-with_at xs k j None) ∙ e) o;
  };
  due = λ xs k y d h. record {
    order = in_order-with_at xs k (Some y) h.order;
    sent = λ j number x e o. due_at' (same k j) y j number x d h (sym (at-with_at xs k j (Some y)) ∙ e) o;
  };
  less = λ xs p h. record {
    order = from_T _ (is_sorted-where_key (slice_cmp nat_cmp) (λ x. not (p x)) xs (to_T _ h.order));
    sent = λ j number x e o. gone_at (p j) j number x h (sym (at-without p xs j) ∙ e) o;
  };
}
  where
    gone_at : {xs : Keyed Acquire} (b : Bool) (j : List ℕ) (number : ℕ) (x : Acquire) → AcquiresSent K xs → cond b None (at xs j) ≡ Some x → x.sending ≡ sending.Out number → K x.ticket number
    gone_at true j number x h e o = absurd (cc)
    gone_at false j number x h e o = h.sent j number x e o

    due_at' : {xs : Keyed Acquire} (b : Bool) (y : Acquire) (j : List ℕ) (number : ℕ) (x : Acquire) → is_due y.sending ≡ true → AcquiresSent K xs → cond b (Some y) (at xs j) ≡ Some x → x.sending ≡ sending.Out number → K x.ticket number
    due_at' true y j number x d h e o = absurd (due_not_out y.sending number d (ap (λ (z : Acquire). z.sending) (same_acquire y x e) ∙ o))
    due_at' false y j number x d h e o = h.sent j number x e o

-- where the laws go over to others
pub sent_more : (A K W A' K' W' : ℕ → ℕ → Type 0) → ((t n : ℕ) → A t n → A' t n) → ((t n : ℕ) → K t n → K' t n) → ((t n : ℕ) → W t n → W' t n) → (c : Core) → AllSent A K W c → AllSent A' K' W' c
sent_more A K W A' K' W' f g h c s = record {
  asks = all_kept (AskSent A) (AskSent A') (λ x t number e. f x.ticket number (t number e)) c.asks s.asks;
  acquires = record { order = s.acquires.order; sent = λ k number x e o. g x.ticket number (s.acquires.sent k number x e o) };
  writes = each_kept (IsSent W) (IsSent W') (λ w t call e. h w.ticket call (t call e)) c.own.waits.writes s.writes;
}

-- ---- a call is sent

-- it is sent under the next number, naming this ticket
abbrev pub SendsIt : Core → Result Outcome StepFault → ℕ → Request → Type 0
SendsIt c r ticket q = r ≡ Ok (outcome.Job (Some (job.Call (next_call c) c.members.current ticket (request_under c.settings.namespace q))))

-- a call that is sent for a request, an acquire or a write is as the law of it says
pub record SendsSo (A K W : ℕ → ℕ → Type 0) (c : Core) (r : Result Outcome StepFault) : Type 0 where
  pub ask : (a : Asked) → ask_at a.ticket c.asks ≡ Some a → SendsIt c r a.ticket (Rattle.proxy_model.specs.PassingOn.numbered a.word a.request) → A a.ticket (next_call c)
  pub acquire : (k : List ℕ) (x : Acquire) → at c.acquires k ≡ Some x → is_due x.sending ≡ true → SendsIt c r x.ticket (request.Txn (acquire c.own.waits.prefix k x.session)) → K x.ticket (next_call c)
  pub write : (n : ℕ) (w : Write) → first_by (writes.has_ticket n) c.own.waits.writes ≡ Some w → SendsIt c r w.ticket (request.Txn (write_txn c.own.waits.prefix c.own.entries w)) → W w.ticket (next_call c)

acquire_goes : (K : ℕ → ℕ → Type 0) (number : ℕ) (k : List ℕ) (x : Acquire) (xs : Keyed Acquire) → at xs k ≡ Some x → K x.ticket number → AcquiresSent K xs → AcquiresSent K (changed_at xs k (sent_out number))
acquire_goes K number k x xs f t h = record {
  order = in_order-with_at xs k (option_map (sent_out number) (at xs k)) h.order;
  sent = λ j n y e o. by (same k j) j n y (sym (at-with_at xs k j (option_map (sent_out number) (at xs k))) ∙ e) o;
}
  where
    same_out : (n : ℕ) → ◌≡◌ {A = Sending} (sending.Out number) (sending.Out n) → number ≡ n
    same_out n e = cc

    by : (b : Bool) (j : List ℕ) (n : ℕ) (y : Acquire) → cond b (option_map (sent_out number) (at xs k)) (at xs j) ≡ Some y → y.sending ≡ sending.Out n → K y.ticket n
    by true j n y e o =
        let is : sent_out number x ≡ y = same_acquire (sent_out number x) y (sym (ap (option_map (sent_out number)) f) ∙ e) in
        subst (λ (m : ℕ). K y.ticket m) (same_out n (ap (λ (z : Acquire). z.sending) is ∙ o)) (subst (λ (z : Acquire). K z.ticket number) is t)
    by false j n y e o = h.sent j n y e o

-- of the writes

pub first_goes : (P : Write → Type 0) (p : Write → Bool) (s : WriteStage) (w : Write) (ws : List Write) → first_by p ws ≡ Some w → (P w → P (staged w s)) → EachOf P ws → EachOf P (with_first p s ws)
first_goes P p s w [] f g h = tt
first_goes P p s w (v ∷ vs) f g h =
    by_test (EachOf P) (p v) (staged v s ∷ vs) (v ∷ with_first p s vs)
    (λ t. let same = head_found p v w vs t f in (subst (λ (x : Write). P (staged x s)) (sym same) (g (subst P same h.0)), h.1))
    (λ t. (h.0, first_goes P p s w vs (rest_found p v w vs t f) g h.1))

revoking_goes : (W : ℕ → ℕ → Type 0) (call : ℕ) (k : List ℕ) (w : Write) → IsSent W w → IsSent W (staged w (stage_revoking call k w.stage))
revoking_goes W call k w h n t = h n (by w.stage t)
  where
    by : (s : WriteStage) → stage_sends n (stage_revoking call k s) ≡ true → stage_sends n s ≡ true
    by Waiting e = e
    by (Sends owner s) e = e
    by (Finds found) e = absurd (cc)

sending_goes : (W : ℕ → ℕ → Type 0) (call : ℕ) (w : Write) → W w.ticket call → IsSent W (staged w (stage_sent call w.stage))
sending_goes W call w h n t = by w.stage t
  where
    by : (s : WriteStage) → stage_sends n (stage_sent call s) ≡ true → W w.ticket n
    by Waiting e = absurd (cc)
    by (Sends owner s) e = subst (W w.ticket) (same_number call n e) h
    by (Finds found) e = absurd (cc)

abbrev SentSo : (ℕ → ℕ → Type 0) → Option JobSent → Type 0
SentSo W None = Unit {0}
SentSo W (Some x) = AreSent W x.own.waits.writes

-- the write's call is sent where this job is
abbrev WriteGoes : (ℕ → ℕ → Type 0) → ℕ → Ownership → Option JobSent → Type 0
WriteGoes W call own o =
    (n : ℕ) (w : Write) → first_by (writes.has_ticket n) own.waits.writes ≡ Some w
    → ((x : JobSent) → o ≡ Some x → (x.due.ticket ≡ w.ticket) × (x.due.request ≡ request.Txn (write_txn own.waits.prefix own.entries w)) → W w.ticket call)

job_of_so : (W : ℕ → ℕ → Type 0) (call : ℕ) (d : DueCall) (o : Option Write) (own : Ownership) → first_by (writes.has_ticket d.place.number) own.waits.writes ≡ o → WriteGoes W call own (call_of call d o own) → AreSent W own.waits.writes → SentSo W (call_of call d o own)
job_of_so W call d None own f g h = tt
job_of_so W call d (Some w) own f g h = by (is_revoke d.place.kind) refl
  where
    by : (b : Bool) → is_revoke d.place.kind ≡ b → AreSent W (cond b (revoke_job call d w own) (write_job call d w own)).own.waits.writes
    by true e = first_goes (IsSent W) (writes.has_ticket d.place.number) (stage_revoking call d.key w.stage) w own.waits.writes f (revoking_goes W call d.key w) h
    by false e =
        let is : call_of call d (Some w) own ≡ Some (write_job call d w own) = ap (λ (b : Bool). Some (cond b (revoke_job call d w own) (write_job call d w own))) e in
        first_goes (IsSent W) (writes.has_ticket d.place.number) (stage_sent call w.stage) w own.waits.writes f (λ t. sending_goes W call w (g d.place.number w f (write_job call d w own) is (refl, refl))) h

job_so : (W : ℕ → ℕ → Type 0) (call : ℕ) (own : Ownership) → WriteGoes W call own (job_sent call own) → AreSent W own.waits.writes → SentSo W (job_sent call own)
unfolding job_sent
job_so W call own g h = by_entry (first_rescind own.entries) g
  where
    by_call : (o : Option DueCall) → WriteGoes W call own (call_sent call o own) → SentSo W (call_sent call o own)
    by_call None g = tt
    by_call (Some d) g = job_of_so W call d (first_by (writes.has_ticket d.place.number) own.waits.writes) own refl g h

    by_entry : (o : Option (List ℕ × Entry)) → WriteGoes W call own (job_sent_after call o own) → SentSo W (job_sent_after call o own)
    by_entry None g = by_call (first_call own.waits.writes) g
    by_entry (Some e) g = h

-- all jobs

sent_so : (A K W : ℕ → ℕ → Type 0) (now : ℕ) (c : Core) (j : Option DueJob) → StandsIf c j → SendsSo A K W c (sent_by now j c).outcome → AllSent A K W c → AllSent A K W (sent_by now j c).core
sent_so A K W now c None k s h = h
sent_so A K W now c (Some (ForSession x)) k s h = record { asks = h.asks; acquires = h.acquires; writes = h.writes }
sent_so A K W now c (Some ForWrites) k s h = by (job_sent (next_call c) c.own) refl (job_so W (next_call c) c.own goes h.writes) s
  where
    goes : WriteGoes W (next_call c) c.own (job_sent (next_call c) c.own)
    goes n w f x e due =
        s.write n w f
        (ap (λ (o : Option JobSent). (writes_sent now o c).outcome) e
        ∙ (λ i. Ok (outcome.Job (Some (job.Call (next_call c) c.members.current (due.0 i) (request_under c.settings.namespace (due.1 i)))))))

    by : (o : Option JobSent) → job_sent (next_call c) c.own ≡ o → SentSo W o → SendsSo A K W c (writes_sent now (job_sent (next_call c) c.own) c).outcome → AllSent A K W (writes_sent now o c).core
    by None e t s = h
    by (Some x) e t s = record { asks = h.asks; acquires = h.acquires; writes = t }
sent_so A K W now c (Some (ForAcquire i x)) k s h = record { asks = h.asks; acquires = acquire_goes K (next_call c) i x c.acquires k.0 (s.acquire i x k.0 k.1 refl) h.acquires; writes = h.writes }
sent_so A K W now c (Some (ForAsk a)) k s h = record {
  asks = all_mapped (AskSent A) (AskSent A) (called_as (next_call c) a.ticket)
      (λ y t. by_test (AskSent A) (has_ticket a.ticket y) (in_stage (stage.Calling (sending.Out (next_call c))) y) y
      (λ e number o. subst (λ (n : ℕ). A n number) (sym (same_number y.ticket a.ticket e)) (subst (A a.ticket) (same_out number o) (s.ask a k refl))) (λ e. t)) c.asks h.asks;
  acquires = h.acquires;
  writes = h.writes;
}
  where
    same_out : (n : ℕ) → ◌≡◌ {A = Stage} (stage.Calling (sending.Out (next_call c))) (stage.Calling (sending.Out n)) → next_call c ≡ n
    same_out n e = cc
sent_so A K W now c (Some (ForGroup lease ticket)) k s h = record {
  asks = all_mapped (AskSent A) (AskSent A) (group_sent (next_call c) lease)
      (λ y t. by_test (AskSent A) (keeps lease y.request && is_due_stage y.stage) (in_stage (stage.Grouped (Some (sending.Out (next_call c)))) y) y (λ e number f. absurd (cc)) (λ e. t)) c.asks h.asks;
  acquires = h.acquires;
  writes = h.writes;
}
sent_so A K W now c (Some (ToOpen o)) k s h = record { asks = h.asks; acquires = h.acquires; writes = h.writes }
sent_so A K W now c (Some (ForStream x)) k s h = by (next_job c.watches (Some x)).1
  where
    same : AllSent A K W (with_watches c (next_job c.watches (Some x)).0)
    same = record { asks = h.asks; acquires = h.acquires; writes = h.writes }

    by : (o : Option StreamJob) → AllSent A K W (stream_job o (with_watches c (next_job c.watches (Some x)).0)).core
    by None = same
    by (Some (stream.Close number)) = same
    by (Some (stream.Open number range start)) = same

work_so : (A K W : ℕ → ℕ → Type 0) (now : ℕ) (c : Core) → once (ask_tickets c.asks) ≡ true → SendsSo A K W c (on_work now c).outcome → AllSent A K W c → AllSent A K W (on_work now c).core
unfolding on_work
work_so A K W now c u s h = sent_so A K W now c (first_job c) (first_stands c h.acquires.order u) s h

-- ---- a whole step

both : (A K W : ℕ → ℕ → Type 0) (c : Core) → All (AskSent A) c.asks × AcquiresSent K c.acquires → AreSent W c.own.waits.writes → AllSent A K W c
both A K W c h w = record { asks = h.0; acquires = h.1; writes = w }

happened_so : (A K W : ℕ → ℕ → Type 0) (now : ℕ) (e : CoreEvent) (c : Core) → Whole 0 c → (e ≡ event.Work → SendsSo A K W c (happened now e c).outcome) → AllSent A K W c → AllSent A K W (happened now e c).core
happened_so A K W now (event.Ask ticket q word) c k s h =
    both A K W _ (lasting.asked_so (AskSent A) (AcquiresSent K) (sent_lasts A K) now ticket q word c (h.asks, h.acquires)) (sending_of.asked_so (IsSent W) (sends_last W) now ticket q word c h.writes)
happened_so A K W now (event.Answer call a) c k s h =
    both A K W _ (lasting.answered_so (AskSent A) (AcquiresSent K) (sent_lasts A K) now call a c (h.asks, h.acquires)) (sending_of.answered_so (IsSent W) (sends_last W) now call a c k.mid.agrees.writes h.writes)
happened_so A K W now (event.Lost call) c k s h =
    both A K W _ (lasting.lost_so (AskSent A) (AcquiresSent K) (sent_lasts A K) now call c (h.asks, h.acquires)) (sending_of.lost_so (IsSent W) (sends_last W) now call c k.mid.agrees.writes h.writes)
happened_so A K W now (event.Tick word) c k s h = both A K W _ (lasting.tick_so (AskSent A) (AcquiresSent K) (sent_lasts A K) now word c (h.asks, h.acquires)) (sending_of.tick_so (IsSent W) (sends_last W) now word c h.writes)
happened_so A K W now (event.Item number x) c k s h = both A K W _ (lasting.item_so (AskSent A) (AcquiresSent K) (sent_lasts A K) now number x c (h.asks, h.acquires)) (sending_of.item_so (IsSent W) (sends_last W) now number x c h.writes)
happened_so A K W now (event.Cut number) c k s h = both A K W _ (lasting.cut_so (AskSent A) (AcquiresSent K) (sent_lasts A K) number c (h.asks, h.acquires)) (sending_of.cut_so (IsSent W) (sends_last W) number c h.writes)
happened_so A K W now (event.Take ticket) c k s h = both A K W _ (lasting.take_so (AskSent A) (AcquiresSent K) (sent_lasts A K) ticket c (h.asks, h.acquires)) (sending_of.take_so (IsSent W) (sends_last W) ticket c h.writes)
happened_so A K W now (event.Leave ticket) c k s h = both A K W _ (lasting.leave_so (AskSent A) (AcquiresSent K) (sent_lasts A K) now ticket c (h.asks, h.acquires)) (sending_of.leave_so (IsSent W) (sends_last W) now ticket c h.writes)
happened_so A K W now event.Work c k s h = work_so A K W now c k.mid.agrees.asks.once (s refl) h

-- behind the clock's work
pub clock_sent : (A K W : ℕ → ℕ → Type 0) (now : ℕ) (c : Core) → AllSent A K W c → AllSent A K W (clock_work now c)
clock_sent A K W now c h = both A K W (clock_work now c) (lasting.clock_so (AskSent A) (AcquiresSent K) (sent_lasts A K) now c (h.asks, h.acquires)) (sending_of.clock_so (IsSent W) (sends_last W) now c h.writes)

counted_so : (A K W : ℕ → ℕ → Type 0) (c : Core) (r : Result Outcome StepFault) → AllSent A K W c → AllSent A K W (counted_by c r).core
counted_so A K W c (Ok o) h = record { asks = h.asks; acquires = h.acquires; writes = h.writes }
counted_so A K W c (Err f) h = h

counted_is : (c : Core) (r : Result Outcome StepFault) → (counted_by c r).outcome ≡ r
counted_is c (Ok o) = refl
counted_is c (Err f) = refl

-- what the step sends is sent behind the clock's work
pub stepped_so : (A K W : ℕ → ℕ → Type 0) (c : Core) (e : CoreEvent) (now : ℕ) → CoreOk c → (e ≡ event.Work → SendsSo A K W (clock_work now c) (stepped c e now).outcome) → AllSent A K W c → AllSent A K W (stepped c e now).core
unfolding stepped
stepped_so A K W c e now ok s h = by (is_worn c) s
  where
    d : Core
    d = clock_work now c

    came : Stepped
    came = happened now e (clock_work now c)

    whole : Whole 0 (clock_work now c)
    whole = clock_whole 0 now c (of_ok c ok).mid

    clocked : AllSent A K W (clock_work now c)
    clocked = clock_sent A K W now c h

    outcome_is : (b : Bool) → b ≡ false → (cond b (faults c fault.Worn) (counted came)).outcome ≡ came.outcome
    outcome_is true e = absurd (cc)
    outcome_is false e = counted_is came.core came.outcome

    by : (b : Bool) → (e ≡ event.Work → SendsSo A K W (clock_work now c) (cond b (faults c fault.Worn) (counted came)).outcome) → AllSent A K W (cond b (faults c fault.Worn) (counted came)).core
    by true t = h
    by false t =
        counted_so A K W came.core came.outcome
        (happened_so A K W now e (clock_work now c) whole (λ w. subst (SendsSo A K W (clock_work now c)) (counted_is came.core came.outcome) (t w)) clocked)
