-- What is known of each write as a call is sent: of that which the call is of, that this call alone may do it; and of all others what was known.
use Rattle.std.proofs.Common.{◌≡◌, ℕ, ◌==◌, Bool, true, false, not, cond, ◌&&◌, ◌||◌, List, [], ◌∷◌, ◌++◌, map, Option, None, Some, Result, Ok, Err, refl, sym, ◌∙◌, ap, subst}
use Rattle.std.specs.List.{list_any}
use Rattle.etcd_types.proofs.Bools.{and_first, and_second, or_first, or_second, not_true}
use Rattle.etcd_types.specs.declared.answer.Answer.TheVariants.{Done, Refused}
use Rattle.etcd_types.specs.declared.request.Request.{Request}
use Rattle.etcd_types.specs.declared.request.Request.TheVariants as request
use Rattle.proxy_model.specs.declared.lease.Entry.{Entry}
use Rattle.proxy_model.specs.Acquire.{acquire}
use Rattle.proxy_model.specs.Foreign.{ask_revoke}
use Rattle.proxy_model.specs.Keyed.{at, is_in_order}
use Rattle.proxy_model.specs.PassingOn.{numbered}
use Rattle.proxy_model.specs.Wrapped.{request_under}
use Rattle.wait_model.specs.declared.due.DueCall.{DueCall}
use Rattle.wait_model.specs.declared.sending.Sending.{Sending}
use Rattle.wait_model.specs.declared.sending.Sending.TheVariants as sending
use Rattle.wait_model.specs.declared.write.Write.{Write}
use Rattle.wait_model.specs.declared.write.WriteStage.{WriteStage}
use Rattle.wait_model.specs.declared.write.WriteStage.TheVariants.{Waiting, Sends, Finds}
use Rattle.wait_model.specs.DueOrder.{first_call, first_rescind}
use Rattle.wait_model.specs.Sent.{JobSent, stage_revoking, stage_sent, is_revoke, revoke_job, write_job, rescind_job, write_txn, call_of, call_sent, job_sent_after, job_sent}
use Rattle.wait_model.specs.Stages.{staged, is_due}
use Rattle.wait_model.specs.State.{Ownership}
use Rattle.wait_model.specs.Writes as writes
use Rattle.wait_model.specs.Writes.{first_by, with_first}
use Rattle.core_laws.proofs.Writes.FoundWrite.{head_found, rest_found}
use Rattle.core_laws.proofs.Writes.Kept.{first_passes}
use Rattle.read_model.specs.declared.acquire.Acquire.{Acquire}
use Rattle.read_model.specs.declared.asked.Asked.{Asked}
use Rattle.read_model.specs.declared.asked.Stage.{Stage}
use Rattle.read_model.specs.declared.asked.Stage.TheVariants as stage
use Rattle.read_model.specs.declared.asked.Verdict.TheVariants as verdict
use Rattle.read_model.specs.PlainRead.{in_stage}
use Rattle.read_model.specs.SessionEnd as session_end
use Rattle.read_model.specs.TakingOff.{is_writes}
use Rattle.watch_model.specs.declared.stream.StreamJob.{StreamJob}
use Rattle.watch_model.specs.declared.stream.StreamJob.TheVariants as stream
use Rattle.watch_model.specs.Due.{next_job}
use Rattle.core_model.specs.declared.event.Job.TheVariants as job
use Rattle.core_model.specs.declared.event.Outcome.{Outcome}
use Rattle.core_model.specs.declared.event.Outcome.TheVariants as outcome
use Rattle.core_model.specs.declared.event.StepFault.{StepFault}
use Rattle.core_model.specs.DueJobs.{DueJob, ForSession, ForWrites, ForAcquire, ForAsk, ForGroup, ToOpen, ForStream, first_job}
use Rattle.core_model.specs.Fits.{Agrees, has_number, once, ask_tickets, write_tickets, writing_tickets}
use Rattle.core_model.specs.Groups.{keeps, is_due_stage, group_sent}
use Rattle.core_model.specs.Kinds.{writes_keys}
use Rattle.core_model.specs.Lookups.{has_ticket, ask_at}
use Rattle.core_model.specs.Sending.{next_call, called_as, writes_sent, sent_by, on_work}
use Rattle.core_model.specs.State.{Core}
use Rattle.core_model.specs.Watching.{with_watches, stream_job}
use Rattle.core_laws.proofs.Steps.Comes.{by_test}
use Rattle.core_laws.proofs.Steps.Due.{is_called_due, DueIf, first_due}
use Rattle.core_laws.proofs.Steps.Lists.{same_number, number_itself, number_turned}
use Rattle.core_laws.proofs.Steps.Requests.{once_writing}
use Rattle.core_laws.proofs.Steps.WaitEnds.{found_ticket}
use Rattle.core_fits.specs.Fits.{EachOf}
use Rattle.core_fits.proofs.Found.{each_write}
use Rattle.keep_laws.proofs.Rows.{All, all_mapped, all_kept, Writes, all_write}
use Rattle.keep_laws.proofs.Runs.{found}
use Rattle.reply_laws.proofs.Before as before
use Rattle.executed_laws.proofs.Dues.{StandsIf, first_stands}
use Rattle.executed_laws.proofs.Sends.{SendsIt}
use Rattle.executed_laws.proofs.Turns.{Passing, one_passing}
use Rattle.once_laws.proofs.FirstDue.{OwnDue, If, first_own}
use Rattle.once_laws.proofs.FirstGroup.{GroupsIf, first_group}
use Rattle.once_laws.proofs.FreeWrites.{StageFree, WriteFree, AreFree, OwnFree}
use Rattle.once_laws.proofs.FreeCore.{AtStage, AskFree, CoreFree, no_kind}

-- what is known before a sending, and behind it; the last says that one call at most did the write
module _ (N D M : ℕ → Type 0) (A W : ℕ → ℕ → Type 0) (N' D' M' : ℕ → Type 0) (A' W' : ℕ → ℕ → Type 0) (Off On : Type 0) where
  -- of this ticket all stays known
  pub record Goes (t : ℕ) : Type 0 where
    pub none : N t → N' t
    pub did : D t → D' t
    pub most : M t → M' t
    pub ask : (n : ℕ) → A t n → A' t n
    pub write : (n : ℕ) → W t n → W' t n

  abbrev IsCall : Result Outcome StepFault → ℕ → Type 0
  IsCall r ticket = (own : ℕ) × (member : ℕ) × (q : Request) × (r ≡ Ok (outcome.Job (Some (job.Call own member ticket q))))

  -- by what is sent
  pub record SendsFree (c : Core) (r : Result Outcome StepFault) : Type 0 where
    -- no call, or one that names another ticket
    pub unsent : ((own member ticket : ℕ) (q : Request) → r ≡ Ok (outcome.Job (Some (job.Call own member ticket q))) → ⊥) → (t : ℕ) → Goes t
    pub other : (own member ticket : ℕ) (q : Request) → r ≡ Ok (outcome.Job (Some (job.Call own member ticket q))) → (t : ℕ) → (t == ticket) ≡ false → Goes t
    -- a call of the proxy's own, an acquire, a keepalive that several share, a revoke call
    pub zero : Goes 0
    pub acquire : (k : List ℕ) (x : Acquire) → at c.acquires k ≡ Some x → session_end.is_due x.sending ≡ true → SendsIt c r x.ticket (request.Txn (acquire c.own.waits.prefix k x.session)) → Goes x.ticket
    pub group : (lease ticket : ℕ) (a : Asked) → ask_at ticket c.asks ≡ Some a → is_due_stage a.stage ≡ true → SendsIt c r ticket (request.KeepAlive lease) → Goes ticket
    pub revoke : (n : ℕ) (w : Write) (k : List ℕ) (create : ℕ) → first_by (writes.has_ticket n) c.own.waits.writes ≡ Some w → SendsIt c r w.ticket (request.Txn (ask_revoke c.own.waits.prefix k create)) → Goes w.ticket
    -- the request itself, or the write
    pub ask : (a : Asked) → ask_at a.ticket c.asks ≡ Some a → writes_keys a.request ≡ true → Off → SendsIt c r a.ticket (numbered a.word a.request) → N a.ticket → A' a.ticket (next_call c) × M' a.ticket
    pub read : (a : Asked) → ask_at a.ticket c.asks ≡ Some a → writes_keys a.request ≡ false → SendsIt c r a.ticket (numbered a.word a.request) → Goes a.ticket
    pub write : (n : ℕ) (w : Write) → first_by (writes.has_ticket n) c.own.waits.writes ≡ Some w → SendsIt c r w.ticket (request.Txn (write_txn c.own.waits.prefix c.own.entries w)) → N w.ticket → W' w.ticket (next_call c) × M' w.ticket

  stage_goes : (t : ℕ) (s : WriteStage) → Goes t → StageFree N D W t s → StageFree N' D' W' t s
  stage_goes t Waiting g h = g.none h
  stage_goes t (Sends owner (sending.Due since)) g h = g.none h
  stage_goes t (Sends owner (sending.Out n)) g h = g.write n h
  stage_goes t (Finds found) g h = g.none h

  at_goes : (t : ℕ) (s : Stage) → Goes t → AtStage N D A W Off On t s → AtStage N' D' A' W' Off On t s
  at_goes t (stage.Calling (sending.Due since)) g h = (h.0, g.none h.1)
  at_goes t (stage.Calling (sending.Out n)) g h = (h.0, g.ask n h.1)
  at_goes t stage.Acquiring g h = h
  at_goes t stage.Joined g h = h
  at_goes t stage.Behind g h = h
  at_goes t stage.Writes g h = h
  at_goes t (stage.Grouped s) g h = h
  at_goes t (stage.Replied (verdict.Said (Done reply))) g h = g.did h
  at_goes t (stage.Replied (verdict.Said (Refused r))) g h = g.none h
  at_goes t (stage.Replied verdict.TimedOut) g h = h
  at_goes t (stage.Replied verdict.Lost) g h = h
  at_goes t (stage.Replied verdict.Stale) g h = h

  abbrev Free : Core → Type 0
  Free c = CoreFree N D A W Off On c

  abbrev Free' : Core → Type 0
  Free' c = CoreFree N' D' A' W' Off On c

  abbrev Was : Asked → Type 0
  Was a = AskFree N D A W Off On a

  abbrev Now : Asked → Type 0
  Now a = AskFree N' D' A' W' Off On a

  asks_go : ((t : ℕ) → Goes t) → (xs : List Asked) → All Was xs → All Now xs
  asks_go g xs h = all_kept Was Now (λ x k w. at_goes x.ticket x.stage (g x.ticket) (k w)) xs h

  writes_go : ((t : ℕ) → Goes t) → (ws : List Write) → AreFree N D W ws → AreFree N' D' W' ws
  writes_go g [] h = tt
  writes_go g (w ∷ ws) h = (stage_goes w.ticket w.stage (g w.ticket) h.0, writes_go g ws h.1)

  pub all_go : ((t : ℕ) → Goes t) → (c : Core) → Free c → Free' c
  all_go g c h = (asks_go g c.asks h.0, writes_go g c.own.waits.writes h.1)

  abbrev MostGo : Type 0
  MostGo = (t : ℕ) → M t → M' t

  -- where the call names this ticket, of which all stays known
  every : (c : Core) (r : Result Outcome StepFault) (own member ticket : ℕ) (q : Request) → SendsFree c r → r ≡ Ok (outcome.Job (Some (job.Call own member ticket q))) → Goes ticket → (t : ℕ) → Goes t
  every c r own member ticket q s e g t = by (t == ticket) refl
    where
      by : (b : Bool) → (t == ticket) ≡ b → Goes t
      by true n = subst Goes (sym (same_number t ticket n)) g
      by false n = s.other own member ticket q e t n

  -- ---- the write's own call

  -- writes of other tickets
  others_go : (t : ℕ) (ws : List Write) → has_number (write_tickets ws) t ≡ false → ((i : ℕ) → (i == t) ≡ false → Goes i) → AreFree N D W ws → AreFree N' D' W' ws
  others_go t [] n g h = tt
  others_go t (w ∷ ws) n g h =
      (stage_goes w.ticket w.stage (g w.ticket (or_first (w.ticket == t) (has_number (write_tickets ws) t) n)) h.0, others_go t ws (or_second (w.ticket == t) (has_number (write_tickets ws) t) n) g h.1)

  first_goes : (n : ℕ) (s : WriteStage) (w : Write) (ws : List Write) → once (write_tickets ws) ≡ true → first_by (writes.has_ticket n) ws ≡ Some w → StageFree N' D' W' w.ticket s → ((i : ℕ) → (i == w.ticket) ≡ false → Goes i) → AreFree N D W ws
      → AreFree N' D' W' (with_first (writes.has_ticket n) s ws)
  first_goes n s w [] u f g i h = tt
  first_goes n s w (v ∷ vs) u f g i h =
      by_test (AreFree N' D' W') (writes.has_ticket n v) (staged v s ∷ vs) (v ∷ with_first (writes.has_ticket n) s vs)
      (λ t. let same = head_found (writes.has_ticket n) v w vs t f in (subst (λ (x : Write). StageFree N' D' W' x.ticket s) (sym same) g, others_go v.ticket vs new (λ j k. i j (ap (λ (x : Write). j == x.ticket) (sym same) ∙ k)) h.1))
      (λ t.
      let later = rest_found (writes.has_ticket n) v w vs t f in (
        stage_goes v.ticket v.stage (i v.ticket (ap (λ (m : ℕ). v.ticket == m) (same_number w.ticket n (first_passes (writes.has_ticket n) vs w later)) ∙ t)) h.0,
        first_goes n s w vs (and_second (not (has_number (write_tickets vs) v.ticket)) (once (write_tickets vs)) u) later g i h.1,
      ))
    where
      new : has_number (write_tickets vs) v.ticket ≡ false
      new = not_true (has_number (write_tickets vs) v.ticket) (and_first (not (has_number (write_tickets vs) v.ticket)) (once (write_tickets vs)) u)

  -- its request is at the stage of writes
  rows_go : (t : ℕ) (xs : List Asked) → ((i : ℕ) → (i == t) ≡ false → Goes i) → All (Writes t) xs → All Was xs → All Now xs
  rows_go t [] g r h = tt
  rows_go t (x ∷ xs) g r h = ((λ w. by (x.ticket == t) refl w), rows_go t xs g r.1 h.1)
    where
      writing : (s : Stage) → is_writes s ≡ true → AtStage N D A W Off On x.ticket s → AtStage N' D' A' W' Off On x.ticket s
      writing stage.Writes e k = k
      writing stage.Acquiring e k = absurd (cc)
      writing stage.Joined e k = absurd (cc)
      writing stage.Behind e k = absurd (cc)
      writing (stage.Calling s) e k = absurd (cc)
      writing (stage.Grouped s) e k = absurd (cc)
      writing (stage.Replied v) e k = absurd (cc)

      by : (b : Bool) → (x.ticket == t) ≡ b → writes_keys x.request ≡ true → AtStage N' D' A' W' Off On x.ticket x.stage
      by true e w = writing x.stage (r.0 e) (h.0 w)
      by false e w = at_goes x.ticket x.stage (g x.ticket e) (h.0 w)

  due_free : (t call : ℕ) (s : WriteStage) → is_due s ≡ true → StageFree N D W t s → N t
  due_free t call Waiting e h = absurd (cc)
  due_free t call (Sends owner (sending.Due since)) e h = h
  due_free t call (Sends owner (sending.Out n)) e h = absurd (cc)
  due_free t call (Finds found) e h = absurd (cc)

  sent_stage : (t call : ℕ) (s : WriteStage) → is_due s ≡ true → W' t call → StageFree N' D' W' t (stage_sent call s)
  sent_stage t call Waiting e h = absurd (cc)
  sent_stage t call (Sends owner s) e h = h
  sent_stage t call (Finds found) e h = absurd (cc)

  revoking_stage : (t call : ℕ) (k : List ℕ) (s : WriteStage) → StageFree N' D' W' t s → StageFree N' D' W' t (stage_revoking call k s)
  revoking_stage t call k Waiting h = h
  revoking_stage t call k (Sends owner s) h = h
  revoking_stage t call k (Finds found) h = h

  with_first_free : (p : Write → Bool) (s : WriteStage) (w : Write) (ws : List Write) → first_by p ws ≡ Some w → StageFree N' D' W' w.ticket s → AreFree N' D' W' ws → AreFree N' D' W' (with_first p s ws)
  with_first_free p s w [] f g h = tt
  with_first_free p s w (v ∷ vs) f g h =
      by_test (AreFree N' D' W') (p v) (staged v s ∷ vs) (v ∷ with_first p s vs) (λ t. (subst (λ (x : Write). StageFree N' D' W' x.ticket s) (sym (head_found p v w vs t f)) g, h.1)) (λ t. (h.0, with_first_free p s w vs (rest_found p v w vs t f) g h.1))

  abbrev SentFree : Core → ℕ → Option JobSent → Type 0
  SentFree c now o = Free' (writes_sent now o c).core × MostGo

  -- what the job of the writes sends
  module _ (c : Core) (now : ℕ) (agrees : Agrees c) (h : Free c) where
    abbrev Sends' : Option JobSent → Type 0
    Sends' o = SendsFree c (writes_sent now o c).outcome

    writing : (n : ℕ) (w : Write) → first_by (writes.has_ticket n) c.own.waits.writes ≡ Some w → has_number (writing_tickets c.asks) w.ticket ≡ true
    writing n w f = ap (λ (ns : List ℕ). has_number ns w.ticket) (sym agrees.asks.writes) ∙ found_ticket (writes.has_ticket n) w c.own.waits.writes f

    no_job_goes : SendsFree c (Ok (outcome.Job None)) → Free' c × MostGo
    no_job_goes s = let g = s.unsent (λ own member ticket q e. absurd (cc)) in (all_go g c h, λ t. (g t).most)

    rescind_goes : (e : List ℕ × Entry) → Sends' (Some (rescind_job (next_call c) e c.own)) → SentFree c now (Some (rescind_job (next_call c) e c.own))
    rescind_goes e s =
        let g = every c _ (next_call c) c.members.current 0 _ s refl s.zero in
        ((asks_go g c.asks h.0, writes_go g c.own.waits.writes h.1), λ t. (g t).most)

    revoke_goes : (d : DueCall) (w : Write) → first_by (writes.has_ticket d.place.number) c.own.waits.writes ≡ Some w → Sends' (Some (revoke_job (next_call c) d w c.own)) → SentFree c now (Some (revoke_job (next_call c) d w c.own))
    revoke_goes d w f s =
        let g = every c _ (next_call c) c.members.current w.ticket _ s refl (s.revoke d.place.number w d.key d.create f refl) in
        let there = stage_goes w.ticket w.stage (g w.ticket) (each_write (WriteFree N D W) (writes.has_ticket d.place.number) c.own.waits.writes w h.1 f) in
        ((asks_go g c.asks h.0, with_first_free (writes.has_ticket d.place.number) (stage_revoking (next_call c) d.key w.stage) w c.own.waits.writes f (revoking_stage w.ticket (next_call c) d.key w.stage there) (writes_go g c.own.waits.writes h.1)), λ t. (g t).most)

    own_goes : (d : DueCall) (w : Write) → first_by (writes.has_ticket d.place.number) c.own.waits.writes ≡ Some w → is_due w.stage ≡ true → Sends' (Some (write_job (next_call c) d w c.own)) → SentFree c now (Some (write_job (next_call c) d w c.own))
    own_goes d w f due s =
        let none = due_free w.ticket (next_call c) w.stage due (each_write (WriteFree N D W) (writes.has_ticket d.place.number) c.own.waits.writes w h.1 f) in
        let k = s.write d.place.number w f refl none in
        let other : (i : ℕ) → (i == w.ticket) ≡ false → Goes i = λ i e. s.other (next_call c) c.members.current w.ticket _ refl i e in (
          (
            rows_go w.ticket c.asks other (all_write w.ticket c.asks agrees.asks.once (writing d.place.number w f)) h.0,
            first_goes d.place.number (stage_sent (next_call c) w.stage) w c.own.waits.writes (once_writing c.asks c.own.waits.writes agrees.asks) f (sent_stage w.ticket (next_call c) w.stage due k.0) other h.1,
          ),
          λ t. by t (t == w.ticket) refl k.1 other,
        )
      where
        by : (t : ℕ) (b : Bool) → (t == w.ticket) ≡ b → M' w.ticket → ((i : ℕ) → (i == w.ticket) ≡ false → Goes i) → M t → M' t
        by t true e m other x = subst M' (sym (same_number t w.ticket e)) m
        by t false e m other x = (other t e).most x

    job_goes : Sends' (job_sent (next_call c) c.own) → SentFree c now (job_sent (next_call c) c.own)
    unfolding job_sent
    job_goes s = by_entry (first_rescind c.own.entries) s
      where
        by_kind : (d : DueCall) (w : Write) (b : Bool) → is_revoke d.place.kind ≡ b → first_by (writes.has_ticket d.place.number) c.own.waits.writes ≡ Some w → OwnDue c.own.waits.writes d
            → Sends' (Some (cond b (revoke_job (next_call c) d w c.own) (write_job (next_call c) d w c.own))) → SentFree c now (Some (cond b (revoke_job (next_call c) d w c.own) (write_job (next_call c) d w c.own)))
        by_kind d w true e f due s = revoke_goes d w f s
        by_kind d w false e f due s = own_goes d w f (due e w f) s

        by_write : (d : DueCall) (o : Option Write) → first_by (writes.has_ticket d.place.number) c.own.waits.writes ≡ o → OwnDue c.own.waits.writes d → Sends' (call_of (next_call c) d o c.own) → SentFree c now (call_of (next_call c) d o c.own)
        by_write d None f due s = no_job_goes s
        by_write d (Some w) f due s = by_kind d w (is_revoke d.place.kind) refl f due s

        by_call : (o : Option DueCall) → first_call c.own.waits.writes ≡ o → Sends' (call_sent (next_call c) o c.own) → SentFree c now (call_sent (next_call c) o c.own)
        by_call None e s = no_job_goes s
        by_call (Some d) e s = by_write d (first_by (writes.has_ticket d.place.number) c.own.waits.writes) refl (its e (first_own c.own.waits.writes (once_writing c.asks c.own.waits.writes agrees.asks))) s
          where
            its : first_call c.own.waits.writes ≡ Some d → If c.own.waits.writes (first_call c.own.waits.writes) → OwnDue c.own.waits.writes d
            its e k = subst (If c.own.waits.writes) e k

        by_entry : (o : Option (List ℕ × Entry)) → Sends' (job_sent_after (next_call c) o c.own) → SentFree c now (job_sent_after (next_call c) o c.own)
        by_entry None s = by_call (first_call c.own.waits.writes) refl s
        by_entry (Some e) s = rescind_goes e s

  -- ---- a request's own call

  called_none : {B : Type 0} (s : Stage) → is_called_due s ≡ true → is_writes s ≡ true → B
  called_none (stage.Calling s) e w = absurd (cc)
  called_none stage.Acquiring e w = absurd (cc)
  called_none stage.Joined e w = absurd (cc)
  called_none stage.Behind e w = absurd (cc)
  called_none stage.Writes e w = absurd (cc)
  called_none (stage.Grouped s) e w = absurd (cc)
  called_none (stage.Replied v) e w = absurd (cc)

  called_free : (t : ℕ) (s : Stage) → is_called_due s ≡ true → AtStage N D A W Off On t s → Off × N t
  called_free t (stage.Calling (sending.Due since)) e h = h
  called_free t (stage.Calling (sending.Out n)) e h = absurd (cc)
  called_free t stage.Acquiring e h = absurd (cc)
  called_free t stage.Joined e h = absurd (cc)
  called_free t stage.Behind e h = absurd (cc)
  called_free t stage.Writes e h = absurd (cc)
  called_free t (stage.Grouped s) e h = absurd (cc)
  called_free t (stage.Replied v) e h = absurd (cc)

  one_ask : (x y : Asked) → Some x ≡ Some y → x ≡ y
  one_ask x y e = cc

  module _ (c : Core) (now : ℕ) (agrees : Agrees c) (h : Free c) where
    abbrev AskGoes : Asked → Type 0
    AskGoes a = Free' (sent_by now (Some (ForAsk a)) c).core × MostGo

    -- it is due
    due_stage : (a : Asked) → ask_at a.ticket c.asks ≡ Some a → DueIf c (Some (ForAsk a)) → is_called_due a.stage ≡ true
    due_stage a k d =
        let one = one_passing (before.Found c.asks) (λ b. has_ticket a.ticket b && is_called_due b.stage) c.asks (before.found_all c.asks agrees.asks.once) d in
        let here = same_number one.ask.ticket a.ticket (and_first (has_ticket a.ticket one.ask) (is_called_due one.ask.stage) one.passes) in
        let same : one.ask ≡ a = one_ask one.ask a (sym one.so ∙ ap (λ (i : ℕ). ask_at i c.asks) here ∙ k) in
        ap (λ (x : Asked). is_called_due x.stage) (sym same) ∙ and_second (has_ticket a.ticket one.ask) (is_called_due one.ask.stage) one.passes

    unwritten : (a : Asked) → ask_at a.ticket c.asks ≡ Some a → is_called_due a.stage ≡ true → has_number (write_tickets c.own.waits.writes) a.ticket ≡ false
    unwritten a k d = by (has_number (write_tickets c.own.waits.writes) a.ticket) refl
      where
        by : (b : Bool) → has_number (write_tickets c.own.waits.writes) a.ticket ≡ b → b ≡ false
        by false e = refl
        by true e =
            let all = all_write a.ticket c.asks agrees.asks.once (ap (λ (ns : List ℕ). has_number ns a.ticket) (sym agrees.asks.writes) ∙ e) in
            let its = found (Writes a.ticket) a.ticket c.asks a k all in
            called_none a.stage d (its.0 its.1)

    -- a write
    write_called : (a : Asked) → ask_at a.ticket c.asks ≡ Some a → is_called_due a.stage ≡ true → writes_keys a.request ≡ true → SendsFree c (sent_by now (Some (ForAsk a)) c).outcome → AskGoes a
    write_called a k d w s =
        let none = called_free a.ticket a.stage d ((found Was a.ticket c.asks a k h.0).0 w) in
        let its = s.ask a k w none.0 refl none.1 in
        let other : (i : ℕ) → (i == a.ticket) ≡ false → Goes i = λ i e. s.other (next_call c) c.members.current a.ticket _ refl i e in (
          (
            all_mapped Was Now (called_as (next_call c) a.ticket)
                (λ y t. by_asked y t (has_ticket a.ticket y) refl none.0 its.0 other) c.asks h.0,
            others_go a.ticket c.own.waits.writes (unwritten a k d) other h.1,
          ),
          λ t. by t (t == a.ticket) refl its.1 other,
        )
      where
        by_asked : (y : Asked) → Was y → (b : Bool) → (y.ticket == a.ticket) ≡ b → Off → A' a.ticket (next_call c) → ((i : ℕ) → (i == a.ticket) ≡ false → Goes i) → Now (cond b (in_stage (stage.Calling (sending.Out (next_call c))) y) y)
        by_asked y t true e off x other = λ w. (off, subst (λ (n : ℕ). A' n (next_call c)) (sym (same_number y.ticket a.ticket e)) x)
        by_asked y t false e off x other = λ w. at_goes y.ticket y.stage (other y.ticket e) (t w)

        by : (t : ℕ) (b : Bool) → (t == a.ticket) ≡ b → M' a.ticket → ((i : ℕ) → (i == a.ticket) ≡ false → Goes i) → M t → M' t
        by t true e m other x = subst M' (sym (same_number t a.ticket e)) m
        by t false e m other x = (other t e).most x

    -- another request
    read_called : (a : Asked) → ask_at a.ticket c.asks ≡ Some a → writes_keys a.request ≡ false → SendsFree c (sent_by now (Some (ForAsk a)) c).outcome → AskGoes a
    read_called a k w s =
        let g = every c _ (next_call c) c.members.current a.ticket _ s refl (s.read a k w refl) in
        ((by_asks g c.asks (before.found_all c.asks agrees.asks.once) h.0, writes_go g c.own.waits.writes h.1), λ t. (g t).most)
      where
        by_asks : ((t : ℕ) → Goes t) → (xs : List Asked) → All (before.Found c.asks) xs → All Was xs → All Now (map (called_as (next_call c) a.ticket) xs)
        by_asks g [] u t = tt
        by_asks g (y ∷ ys) u t = (
          by_test Now (has_ticket a.ticket y) (in_stage (stage.Calling (sending.Out (next_call c))) y) y
              (λ e v.
              let same : y ≡ a = one_ask y a (sym u.0 ∙ ap (λ (i : ℕ). ask_at i c.asks) (same_number y.ticket a.ticket e) ∙ k) in
              no_kind (writes_keys y.request) v (ap (λ (x : Asked). writes_keys x.request) same ∙ w))
              (λ e v. at_goes y.ticket y.stage (g y.ticket) (t.0 v)),
          by_asks g ys u.1 t.1,
        )

    ask_goes : (a : Asked) → ask_at a.ticket c.asks ≡ Some a → DueIf c (Some (ForAsk a)) → SendsFree c (sent_by now (Some (ForAsk a)) c).outcome → AskGoes a
    ask_goes a k d s = by (writes_keys a.request) refl
      where
        by : (b : Bool) → writes_keys a.request ≡ b → AskGoes a
        by true w = write_called a k (due_stage a k d) w s
        by false w = read_called a k w s

    keeps_none : (lease : ℕ) (q : Request) → keeps lease q ≡ true → writes_keys q ≡ true → ⊥
    keeps_none lease (request.KeepAlive n) e w = absurd (cc)
    keeps_none lease (request.Range ask) e w = absurd (cc)
    keeps_none lease (request.Put ask) e w = absurd (cc)
    keeps_none lease (request.Delete ask) e w = absurd (cc)
    keeps_none lease (request.Txn t) e w = absurd (cc)
    keeps_none lease (request.Compact revision physical) e w = absurd (cc)
    keeps_none lease (request.Grant ttl n) e w = absurd (cc)
    keeps_none lease (request.Revoke n) e w = absurd (cc)
    keeps_none lease (request.TimeToLive n keys) e w = absurd (cc)
    keeps_none lease request.Leases e w = absurd (cc)
    keeps_none lease (request.Watch ask) e w = absurd (cc)

    -- each due job
    pub sent_free : (j : Option DueJob) → StandsIf c j → DueIf c j → GroupsIf c j → SendsFree c (sent_by now j c).outcome → Free' (sent_by now j c).core × MostGo
    sent_free None k d u s = let g = s.unsent (λ own member ticket q e. absurd (cc)) in (all_go g c h, λ t. (g t).most)
    sent_free (Some (ForSession x)) k d u s = let g = every c _ (next_call c) c.members.current 0 _ s refl s.zero in (all_go g c h, λ t. (g t).most)
    sent_free (Some ForWrites) k d u s = job_goes c now agrees h s
    sent_free (Some (ForAcquire i x)) k d u s = let g = every c _ (next_call c) c.members.current x.ticket _ s refl (s.acquire i x k.0 k.1 refl) in (all_go g c h, λ t. (g t).most)
    sent_free (Some (ForAsk a)) k d u s = ask_goes a k d s
    sent_free (Some (ForGroup lease ticket)) k d u s =
        let g = every c _ (next_call c) c.members.current ticket _ s refl (s.group lease ticket u.0 u.1 u.2 refl) in (
          (
            all_mapped Was Now (group_sent (next_call c) lease)
                (λ y t. by_test Now (keeps lease y.request && is_due_stage y.stage) (in_stage (stage.Grouped (Some (sending.Out (next_call c)))) y) y
                (λ e w. absurd (keeps_none lease y.request (and_first (keeps lease y.request) (is_due_stage y.stage) e) w)) (λ e w. at_goes y.ticket y.stage (g y.ticket) (t w))) c.asks h.0,
            writes_go g c.own.waits.writes h.1,
          ),
          λ t. (g t).most,
        )
    sent_free (Some (ToOpen o)) k d u s = let g = s.unsent (λ own member ticket q e. absurd (cc)) in (all_go g c h, λ t. (g t).most)
    sent_free (Some (ForStream x)) k d u s = by (next_job c.watches (Some x)).1 s
      where
        by : (o : Option StreamJob) → SendsFree c (stream_job o (with_watches c (next_job c.watches (Some x)).0)).outcome → Free' (stream_job o (with_watches c (next_job c.watches (Some x)).0)).core × MostGo
        by None s = let g = s.unsent (λ own member ticket q e. absurd (cc)) in (all_go g c h, λ t. (g t).most)
        by (Some (stream.Close number)) s = let g = s.unsent (λ own member ticket q e. absurd (cc)) in (all_go g c h, λ t. (g t).most)
        by (Some (stream.Open number range start)) s = let g = s.unsent (λ own member ticket q e. absurd (cc)) in (all_go g c h, λ t. (g t).most)

    pub work_free : is_in_order c.acquires ≡ true → SendsFree c (on_work now c).outcome → Free' (on_work now c).core × MostGo
    unfolding on_work
    work_free order s = sent_free (first_job c) (first_stands c order agrees.asks.once) (first_due c agrees) (first_group c agrees.asks.once) s
