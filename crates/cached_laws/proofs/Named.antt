-- The call that names a read which waits for its acquire is that acquire, under the session that it was asked under.
use Rattle.std.proofs.Common.{◌≡◌, ◌≢◌, ◌⊎◌, inl, inr, ℕ, Bool, true, false, cond, not, ◌&&◌, ◌||◌, ◌==◌, List, [], ◌∷◌, map, filter, Option, None, Some, Result, Ok, refl, sym, ◌∙◌, ap, subst}
use Rattle.std.specs.List.{list_all, list_any}
use Rattle.etcd_types.specs.declared.request.Request.{Request}
use Rattle.etcd_types.specs.declared.request.Request.TheVariants as request
use Rattle.etcd_types.specs.Keys.{same}
use Rattle.etcd_types.proofs.Bools.{and_first, and_second, and_both}
use Rattle.etcd_types.proofs.KeyOrder.{same-equal, same-itself}
use Rattle.proxy_model.specs.Acquire.{acquire}
use Rattle.proxy_model.specs.Keyed.{Keyed, at}
use Rattle.proxy_model.specs.Wrapped.{request_under}
use Rattle.wait_model.specs.declared.due.DueCall.{DueCall}
use Rattle.wait_model.specs.declared.sending.Sending.{Sending}
use Rattle.wait_model.specs.declared.sending.Sending.TheVariants as sending
use Rattle.wait_model.specs.declared.write.Write.{Write}
use Rattle.wait_model.specs.DueOrder.{first_call, first_rescind}
use Rattle.wait_model.specs.Sent.{JobSent, revoke_job, write_job, is_revoke, call_of, call_sent, job_sent_after, job_sent}
use Rattle.wait_model.specs.State.{Ownership}
use Rattle.wait_model.specs.Writes.{first_by}
use Rattle.wait_model.specs.Writes as writes
use Rattle.read_model.specs.declared.acquire.Acquire.{Acquire}
use Rattle.read_model.specs.declared.asked.Asked.{Asked}
use Rattle.read_model.specs.declared.asked.Stage.{Stage}
use Rattle.read_model.specs.declared.asked.Stage.TheVariants as stage
use Rattle.read_model.specs.Acquires.{is_acquiring, acquires_at}
use Rattle.read_model.specs.PlainRead.{ask_key}
use Rattle.read_model.specs.SessionEnd.{is_due}
use Rattle.read_model.specs.TakingOff.{is_writes}
use Rattle.watch_model.specs.declared.stream.StreamJob.{StreamJob}
use Rattle.watch_model.specs.declared.stream.StreamJob.TheVariants as stream
use Rattle.watch_model.specs.Due.{next_job}
use Rattle.core_model.specs.declared.event.Job.TheVariants as sent
use Rattle.core_model.specs.declared.event.Outcome.{Outcome}
use Rattle.core_model.specs.declared.event.Outcome.TheVariants as outcome
use Rattle.core_model.specs.declared.event.StepFault.{StepFault}
use Rattle.core_model.specs.ClockWork.{is_replied}
use Rattle.core_model.specs.DueJobs.{DueJob, ForSession, ForWrites, ForAcquire, ForAsk, ForGroup, ToOpen, ForStream, first_job}
use Rattle.core_model.specs.Fits.{Agrees, AsksOk, has_number, write_tickets, writing_tickets, awaits, is_awaited}
use Rattle.core_model.specs.Lookups.{has_ticket}
use Rattle.core_model.specs.Sending.{next_call, writes_sent, sent_by, on_work}
use Rattle.core_model.specs.State.{Core}
use Rattle.core_model.specs.Watching.{with_watches, stream_job}
use Rattle.core_laws.proofs.Steps.Lists.{same_number, number_itself}
use Rattle.cached_laws.specs.Awaited.{holds, is_over, Waits, waits, over, Calls}
use Rattle.cached_laws.proofs.Jobs.{is_calling, StandsIf}
use Rattle.cached_laws.proofs.Waiting.{mine, over_mine, elsewhere}

not_both : {A : Type 0} (b : Bool) → b ≡ true → b ≡ false → A
not_both b h i = absurd (let e : true ≡ false = sym h ∙ i in cc)

or_cases : {A : Type 0} (a b : Bool) → a || b ≡ true → (a ≡ true → A) → (b ≡ true → A) → A
or_cases true b h f g = f refl
or_cases false b h f g = g h

-- ---- the ticket that a write's job names

-- it is 0, or that of a write
abbrev NamesWrite : Ownership → Option JobSent → Type 0
NamesWrite own None = Unit {0}
NamesWrite own (Some x) = (x.due.ticket ≡ 0) ⊎ (has_number (write_tickets own.waits.writes) x.due.ticket ≡ true)

has_it : (p : Write → Bool) (ws : List Write) (w : Write) → first_by p ws ≡ Some w → has_number (write_tickets ws) w.ticket ≡ true
has_it p [] w f = absurd (cc)
has_it p (v ∷ vs) w f = by (p v) (λ g. has_it p vs w g) f
  where
    same_write : (x y : Write) → Some x ≡ Some y → x ≡ y
    same_write x y e = cc

    right : (a b : Bool) → b ≡ true → a || b ≡ true
    right true b h = refl
    right false b h = h

    by : (b : Bool) → (first_by p vs ≡ Some w → has_number (write_tickets vs) w.ticket ≡ true) → cond b (Some v) (first_by p vs) ≡ Some w → (v.ticket == w.ticket) || has_number (write_tickets vs) w.ticket ≡ true
    by true g e = ap (λ (b : Bool). b || has_number (write_tickets vs) w.ticket) (ap (λ (x : Write). x.ticket == w.ticket) (same_write v w e) ∙ number_itself w.ticket)
    by false g e = right (v.ticket == w.ticket) (has_number (write_tickets vs) w.ticket) (g e)

job_named : (call : ℕ) (own : Ownership) → NamesWrite own (job_sent call own)
unfolding job_sent
job_named call own = by_entry (first_rescind own.entries)
  where
    by_kind : (d : DueCall) (w : Write) (b : Bool) → first_by (writes.has_ticket d.place.number) own.waits.writes ≡ Some w → NamesWrite own (Some (cond b (revoke_job call d w own) (write_job call d w own)))
    by_kind d w true f = inr (has_it (writes.has_ticket d.place.number) own.waits.writes w f)
    by_kind d w false f = inr (has_it (writes.has_ticket d.place.number) own.waits.writes w f)

    by_write : (d : DueCall) (o : Option Write) → first_by (writes.has_ticket d.place.number) own.waits.writes ≡ o → NamesWrite own (call_of call d o own)
    by_write d None f = tt
    by_write d (Some w) f = by_kind d w (is_revoke d.place.kind) f

    by_call : (o : Option DueCall) → NamesWrite own (call_sent call o own)
    by_call None = tt
    by_call (Some d) = by_write d (first_by (writes.has_ticket d.place.number) own.waits.writes) refl

    by_entry : (o : Option (List ℕ × Rattle.proxy_model.specs.declared.lease.Entry.Entry)) → NamesWrite own (job_sent_after call o own)
    by_entry None = by_call (first_call own.waits.writes)
    by_entry (Some e) = inl refl

-- the acquires that are due are under the session of this number
abbrev pub DueUnder : ℕ → Keyed Acquire → Type 0
DueUnder n acquires = (i : List ℕ) (x : Acquire) → at acquires i ≡ Some x → is_due x.sending ≡ true → x.session ≡ n

module _ (ticket : ℕ) (k : List ℕ) (since : ℕ) where
  -- none of the ticket is at such a stage
  abbrev NoneAt : (Stage → Bool) → List Asked → Type 0
  NoneAt f xs = list_all (λ a. not (f a.stage && a.ticket == ticket)) xs ≡ true

  -- a stage at which none waits for an acquire, and without a reply
  pub record Idle (f : Stage → Bool) : Type 0 where
    pub waits : (s : Stage) → f s ≡ true → is_acquiring s ≡ false
    pub unreplied : (s : Stage) → f s ≡ true → is_replied s ≡ false

  none_at : (f : Stage → Bool) → Idle f → (acquires : Keyed Acquire) (xs : List Asked) → Waits ticket k since acquires xs → NoneAt f xs
  none_at f i acquires xs (waits d h) = Rattle.core_laws.proofs.Steps.Lists.all_kept (holds ticket k since) (λ a. not (f a.stage && a.ticket == ticket)) (λ a t. by a (f a.stage) refl t) xs h
    where
      by : (a : Asked) (b : Bool) → f a.stage ≡ b → holds ticket k since a ≡ true → not (b && a.ticket == ticket) ≡ true
      by a true e t = ap not ((elsewhere ticket k since a (i.waits a.stage e) (i.unreplied a.stage e)).0 t)
      by a false e t = refl
  none_at f i acquires xs (over h) = Rattle.core_laws.proofs.Steps.Lists.all_kept (is_over ticket k since) (λ a. not (f a.stage && a.ticket == ticket)) (λ a t. by a (f a.stage) refl t) xs h
    where
      by : (a : Asked) (b : Bool) → f a.stage ≡ b → is_over ticket k since a ≡ true → not (b && a.ticket == ticket) ≡ true
      by a true e t = ap not ((elsewhere ticket k since a (i.waits a.stage e) (i.unreplied a.stage e)).1 t)
      by a false e t = refl

  calling_idle : Idle is_calling
  calling_idle = record { waits = w; unreplied = r }
    where
      w : (s : Stage) → is_calling s ≡ true → is_acquiring s ≡ false
      w (stage.Calling s) h = refl
      w (stage.Grouped s) h = refl
      w (stage.Replied v) h = refl
      w stage.Acquiring h = absurd (cc)
      w stage.Joined h = refl
      w stage.Behind h = refl
      w stage.Writes h = refl

      r : (s : Stage) → is_calling s ≡ true → is_replied s ≡ false
      r (stage.Calling s) h = refl
      r (stage.Grouped s) h = refl
      r (stage.Replied v) h = absurd (cc)
      r stage.Acquiring h = refl
      r stage.Joined h = refl
      r stage.Behind h = refl
      r stage.Writes h = refl

  writes_idle : Idle is_writes
  writes_idle = record { waits = w; unreplied = r }
    where
      w : (s : Stage) → is_writes s ≡ true → is_acquiring s ≡ false
      w (stage.Calling s) h = refl
      w (stage.Grouped s) h = refl
      w (stage.Replied v) h = refl
      w stage.Acquiring h = absurd (cc)
      w stage.Joined h = refl
      w stage.Behind h = refl
      w stage.Writes h = refl

      r : (s : Stage) → is_writes s ≡ true → is_replied s ≡ false
      r (stage.Calling s) h = refl
      r (stage.Grouped s) h = refl
      r (stage.Replied v) h = absurd (cc)
      r stage.Acquiring h = refl
      r stage.Joined h = refl
      r stage.Behind h = refl
      r stage.Writes h = refl

  unwritten : (xs : List Asked) → NoneAt is_writes xs → has_number (writing_tickets xs) ticket ≡ false
  unwritten [] h = refl
  unwritten (a ∷ xs) h = by (is_writes a.stage) (and_first (not (is_writes a.stage && a.ticket == ticket)) (list_all (λ a. not (is_writes a.stage && a.ticket == ticket)) xs) h) (unwritten xs (and_second (not (is_writes a.stage && a.ticket == ticket)) (list_all (λ a. not (is_writes a.stage && a.ticket == ticket)) xs) h))
    where
      off : (b c : Bool) → not b ≡ true → c ≡ false → b || c ≡ false
      off true c h i = absurd (cc)
      off false c h i = i

      by : (b : Bool) → not (b && a.ticket == ticket) ≡ true → has_number (writing_tickets xs) ticket ≡ false → has_number (map (λ (x : Asked). x.ticket) (cond b (a ∷ filter (λ x. is_writes x.stage) xs) (filter (λ x. is_writes x.stage) xs))) ticket ≡ false
      by true t i = off (a.ticket == ticket) (has_number (writing_tickets xs) ticket) t i
      by false t i = i

  -- who waits for an acquire under this ticket waits for the one of the key
  its_key : (i : List ℕ) (acquires : Keyed Acquire) (xs : List Asked) → list_any (λ a. has_ticket ticket a && acquires_at i a) xs ≡ true → Waits ticket k since acquires xs → i ≡ k
  its_key i acquires xs f (waits d h) = found xs f h
    where
      replied_not : (s : Stage) → is_acquiring s ≡ true → is_replied s ≡ false
      replied_not stage.Acquiring e = refl
      replied_not (stage.Calling s) e = absurd (cc)
      replied_not stage.Joined e = absurd (cc)
      replied_not stage.Behind e = absurd (cc)
      replied_not stage.Writes e = absurd (cc)
      replied_not (stage.Grouped s) e = absurd (cc)
      replied_not (stage.Replied v) e = absurd (cc)

      one : (a : Asked) → holds ticket k since a ≡ true → has_ticket ticket a && acquires_at i a ≡ true → i ≡ k
      one a t e =
          let its = and_first (has_ticket ticket a) (acquires_at i a) e in
          let at_i = and_second (has_ticket ticket a) (acquires_at i a) e in
          or_cases (acquires_at k a) (is_replied a.stage) (mine ticket k since a t its).1
          (λ g. sym (same-equal (ask_key a) i (and_second (is_acquiring a.stage) (same (ask_key a) i) at_i)) ∙ same-equal (ask_key a) k (and_second (is_acquiring a.stage) (same (ask_key a) k) g))
          (λ g. not_both (is_replied a.stage) g (replied_not a.stage (and_first (is_acquiring a.stage) (same (ask_key a) i) at_i)))

      found : (ys : List Asked) → list_any (λ a. has_ticket ticket a && acquires_at i a) ys ≡ true → list_all (holds ticket k since) ys ≡ true → i ≡ k
      found [] f h = absurd (cc)
      found (y ∷ ys) f h = or_cases (has_ticket ticket y && acquires_at i y) (list_any (λ a. has_ticket ticket a && acquires_at i a) ys) f (λ e. one y (and_first (holds ticket k since y) (list_all (holds ticket k since) ys) h) e) (λ e. found ys e (and_second (holds ticket k since y) (list_all (holds ticket k since) ys) h))
  its_key i acquires xs f (over h) = found xs f h
    where
      replied_not : (s : Stage) → is_acquiring s ≡ true → is_replied s ≡ false
      replied_not stage.Acquiring e = refl
      replied_not (stage.Calling s) e = absurd (cc)
      replied_not stage.Joined e = absurd (cc)
      replied_not stage.Behind e = absurd (cc)
      replied_not stage.Writes e = absurd (cc)
      replied_not (stage.Grouped s) e = absurd (cc)
      replied_not (stage.Replied v) e = absurd (cc)

      found : (ys : List Asked) → list_any (λ a. has_ticket ticket a && acquires_at i a) ys ≡ true → list_all (is_over ticket k since) ys ≡ true → i ≡ k
      found [] f h = absurd (cc)
      found (y ∷ ys) f h =
          or_cases (has_ticket ticket y && acquires_at i y) (list_any (λ a. has_ticket ticket a && acquires_at i a) ys) f
          (λ e. not_both (is_replied y.stage) (over_mine ticket k since y (and_first (is_over ticket k since y) (list_all (is_over ticket k since) ys) h) (and_first (has_ticket ticket y) (acquires_at i y) e)) (replied_not y.stage (and_first (is_acquiring y.stage) (same (ask_key y) i) (and_second (has_ticket ticket y) (acquires_at i y) e))))
          (λ e. found ys e (and_second (is_over ticket k since y) (list_all (is_over ticket k since) ys) h))

  -- ---- the call

  abbrev pub IsAcquire : Core → ℕ → Request → Type 0
  IsAcquire c n q = q ≡ request_under c.settings.namespace (request.Txn (acquire c.own.waits.prefix k n))

  same_ticket : (a b t t' m m' : ℕ) (q q' : Request) → ◌≡◌ {A = Result Outcome StepFault} (Ok (outcome.Job (Some (sent.Call a m t q)))) (Ok (outcome.Job (Some (sent.Call b m' t' q')))) → (t ≡ t') × (q ≡ q')
  same_ticket a b t t' m m' q q' e = ((cc), (cc))

  no_call : {A : Type 0} (o : Outcome) (t : ℕ) (q : Request) → ((a m : ℕ) → ◌≡◌ {A = Result Outcome StepFault} (Ok o) (Ok (outcome.Job (Some (sent.Call a m t q)))) → A) → Calls (Ok o) t q → A
  no_call o t q f h = f h.0 h.1 h.2

  named_by : (now n : ℕ) (c : Core) (j : Option DueJob) (q : Request) → ticket ≢ 0 → Agrees c → StandsIf ticket c j → DueUnder n c.acquires → Waits ticket k since c.acquires c.asks → Calls (sent_by now j c).outcome ticket q → IsAcquire c n q
  named_by now n c None q z g s u w h = no_call (outcome.Job None) ticket q (λ a m e. absurd (cc)) h
  named_by now n c (Some (ForSession x)) q z g s u w h = absurd (z (sym (same_ticket (next_call c) h.0 0 ticket c.members.current h.1 _ q h.2).0))
  named_by now n c (Some ForWrites) q z g s u w h = by (job_sent (next_call c) c.own) (job_named (next_call c) c.own) h
    where
      unnamed : has_number (write_tickets c.own.waits.writes) ticket ≡ false
      unnamed = ap (λ (ns : List ℕ). has_number ns ticket) g.asks.writes ∙ unwritten c.asks (none_at is_writes writes_idle c.acquires c.asks w)

      by_ticket : (t : ℕ) → (t ≡ 0) ⊎ (has_number (write_tickets c.own.waits.writes) t ≡ true) → t ≡ ticket → IsAcquire c n q
      by_ticket t (inl e) f = absurd (z (sym f ∙ e))
      by_ticket t (inr e) f = not_both (has_number (write_tickets c.own.waits.writes) ticket) (ap (has_number (write_tickets c.own.waits.writes)) (sym f) ∙ e) unnamed

      by : (o : Option JobSent) → NamesWrite c.own o → Calls (writes_sent now o c).outcome ticket q → IsAcquire c n q
      by None t h = no_call (outcome.Job None) ticket q (λ a m e. absurd (cc)) h
      by (Some x) t h = by_ticket x.due.ticket t (same_ticket (next_call c) h.0 x.due.ticket ticket c.members.current h.1 _ q h.2).0
  named_by now n c (Some (ForAcquire i x)) q z g s u w h =
      let e = same_ticket (next_call c) h.0 x.ticket ticket c.members.current h.1 _ q h.2 in
      let key = its_key i c.acquires c.asks (by_due x.sending s.1 (subst (λ (o : Option Acquire). is_awaited c.asks i o ≡ true) s.0 (g.awaited i)) e.0) w in
      sym e.1 ∙ ap (λ (l : List ℕ). request_under c.settings.namespace (request.Txn (acquire c.own.waits.prefix l x.session))) key ∙ ap (λ (m : ℕ). request_under c.settings.namespace (request.Txn (acquire c.own.waits.prefix k m))) (u i x s.0 s.1)
    where
      by_due : (d : Sending) → is_due d ≡ true → awaits x.ticket i c.asks d ≡ true → x.ticket ≡ ticket → list_any (λ a. has_ticket ticket a && acquires_at i a) c.asks ≡ true
      by_due (sending.Due since) v e f = subst (λ (t : ℕ). list_any (λ a. has_ticket t a && acquires_at i a) c.asks ≡ true) f e
      by_due (sending.Out call) v e f = absurd (cc)
  named_by now n c (Some (ForAsk a)) q z g s u w h =
      not_both (a.ticket == ticket) (ap (λ (t : ℕ). t == ticket) (same_ticket (next_call c) h.0 a.ticket ticket c.members.current h.1 _ q h.2).0 ∙ number_itself ticket) (s (none_at is_calling calling_idle c.acquires c.asks w))
  named_by now n c (Some (ForGroup lease t)) q z g s u w h =
      not_both (t == ticket) (ap (λ (t : ℕ). t == ticket) (same_ticket (next_call c) h.0 t ticket c.members.current h.1 _ q h.2).0 ∙ number_itself ticket) (s (none_at is_calling calling_idle c.acquires c.asks w))
  named_by now n c (Some (ToOpen o)) q z g s u w h = absurd (let e = h.2 in cc)
  named_by now n c (Some (ForStream x)) q z g s u w h = by (next_job c.watches (Some x)).1 h
    where
      by : (o : Option StreamJob) → Calls (stream_job o (with_watches c (next_job c.watches (Some x)).0)).outcome ticket q → IsAcquire c n q
      by None h = absurd (let e = h.2 in cc)
      by (Some (stream.Close number)) h = absurd (let e = h.2 in cc)
      by (Some (stream.Open number range start)) h = absurd (let e = h.2 in cc)

  pub names_acquire : (now n : ℕ) (c : Core) (own member : ℕ) (q : Request) → ticket ≢ 0 → Agrees c → StandsIf ticket c (first_job c) → DueUnder n c.acquires → Waits ticket k since c.acquires c.asks
      → (on_work now c).outcome ≡ Ok (outcome.Job (Some (sent.Call own member ticket q))) → IsAcquire c n q
  unfolding on_work
  names_acquire now n c own member q z g s u w e = named_by now n c (first_job c) q z g s u w (own, member, e)
