-- A call that names the ticket of a write is the write's: so the owner's own write goes out with it.
use Rattle.std.proofs.Common.{◌≡◌, ℕ, ◌==◌, Bool, true, false, not, ◌&&◌, ◌||◌, List, [], ◌∷◌, Option, None, Some, Result, Ok, refl, sym, ◌∙◌, ap, subst}
use Rattle.std.specs.List.{list_all, list_any}
use Rattle.etcd_types.specs.declared.request.Request.{Request}
use Rattle.proxy_model.specs.declared.lease.Entry.{Entry}
use Rattle.proxy_model.specs.Keyed.{is_in_order}
use Rattle.proxy_model.specs.Wrapped.{request_under}
use Rattle.wait_model.specs.declared.sending.Sending.{Sending}
use Rattle.wait_model.specs.declared.sending.Sending.TheVariants as sending
use Rattle.wait_model.specs.Sent.{JobSent, job_sent}
use Rattle.read_model.specs.declared.acquire.Acquire.{Acquire}
use Rattle.read_model.specs.declared.asked.Asked.{Asked}
use Rattle.read_model.specs.declared.asked.Stage.{Stage}
use Rattle.read_model.specs.declared.asked.Stage.TheVariants as stage
use Rattle.read_model.specs.Acquires.{acquires_at}
use Rattle.read_model.specs.SessionEnd.{is_due}
use Rattle.read_model.specs.TakingOff.{is_writes}
use Rattle.watch_model.specs.Due.{next_job}
use Rattle.watch_model.specs.declared.stream.StreamJob.{StreamJob}
use Rattle.watch_model.specs.declared.stream.StreamJob.TheVariants as stream
use Rattle.core_model.specs.declared.event.Job.TheVariants as sent
use Rattle.core_model.specs.declared.event.Outcome.{Outcome}
use Rattle.core_model.specs.declared.event.Outcome.TheVariants as outcome
use Rattle.core_model.specs.declared.event.StepFault.{StepFault}
use Rattle.core_model.specs.DueJobs.{DueJob, ForSession, ForWrites, ForAcquire, ForAsk, ForGroup, ToOpen, ForStream, first_job}
use Rattle.core_model.specs.Fits.{Agrees, has_number, write_tickets, awaits, is_awaited}
use Rattle.core_model.specs.Lookups.{has_ticket}
use Rattle.core_model.specs.Sending.{next_call, sent_by, writes_sent, on_work}
use Rattle.core_model.specs.State.{Core}
use Rattle.core_model.specs.Watching.{stream_job, with_watches}
use Rattle.core_laws.proofs.Steps.Lists.{number_itself, number_turned}
use Rattle.core_laws.proofs.Steps.Requests.{once_writing}
use Rattle.keep_laws.proofs.Rows.{All, Writes, all_write}
use Rattle.cached_laws.proofs.Jobs.{is_calling, is_uncalled, StandsIf, first_stands}
use Rattle.owned_laws.specs.OwnWrites.{OwnWrite}
use Rattle.owned_laws.specs.Watched.{seat_is}
use Rattle.owned_laws.proofs.Cores as cores
use Rattle.owned_laws.proofs.Cores.{CoreSo, Stands}
use Rattle.owned_laws.proofs.Modes.{AllAlone, behind_as}
use Rattle.owned_laws.proofs.OwnSends.{has_it}
use Rattle.owned_laws.proofs.OwnWork.{own_sent}
use Rattle.owned_laws.proofs.Ways.{absent, writes_own}

clash : {A : Type 0} (b : Bool) → b ≡ true → b ≡ false → A
clash true e f = absurd (cc)
clash false e f = absurd (cc)

and_false : (b : Bool) → b && false ≡ false
and_false true = refl
and_false false = refl

abbrev Gives : Result Outcome StepFault → ℕ → ℕ → ℕ → Request → Type 0
Gives r own member t q = r ≡ Ok (outcome.Job (Some (sent.Call own member t q)))

module _ (t : ℕ) (d : Core) (agrees : Agrees d) (rising : is_in_order d.acquires ≡ true) (client : (t == 0) ≡ false) (stands : has_number (write_tickets d.own.waits.writes) t ≡ true) where
  -- the request of that ticket is at the stage of writes

  writing : All (Writes t) d.asks
  writing = all_write t d.asks agrees.asks.once (ap (λ (ns : List ℕ). has_number ns t) (sym agrees.asks.writes) ∙ stands)

  uncalled : (xs : List Asked) → All (Writes t) xs → list_all (is_uncalled t) xs ≡ true
  uncalled [] h = refl
  uncalled (x ∷ xs) h = by (uncalled xs h.1) (x.ticket == t) refl
    where
      at_writes : (s : Stage) → is_writes s ≡ true → is_calling s ≡ false
      at_writes stage.Writes e = refl
      at_writes stage.Acquiring e = absurd (cc)
      at_writes stage.Joined e = absurd (cc)
      at_writes stage.Behind e = absurd (cc)
      at_writes (stage.Calling s) e = absurd (cc)
      at_writes (stage.Grouped s) e = absurd (cc)
      at_writes (stage.Replied v) e = absurd (cc)

      by : list_all (is_uncalled t) xs ≡ true → (b : Bool) → (x.ticket == t) ≡ b → not (is_calling x.stage && (x.ticket == t)) && list_all (is_uncalled t) xs ≡ true
      by rest true e = ap (λ (b : Bool). not (b && (x.ticket == t)) && list_all (is_uncalled t) xs) (at_writes x.stage (h.0 e)) ∙ rest
      by rest false e = ap (λ (b : Bool). not (is_calling x.stage && b) && list_all (is_uncalled t) xs) e ∙ ap (λ (b : Bool). not b && list_all (is_uncalled t) xs) (and_false (is_calling x.stage)) ∙ rest

  acquires_none : (i : List ℕ) (xs : List Asked) → All (Writes t) xs → list_any (λ a. has_ticket t a && acquires_at i a) xs ≡ false
  acquires_none i [] h = refl
  acquires_none i (x ∷ xs) h = by (acquires_none i xs h.1) (x.ticket == t) refl
    where
      at_writes : (s : Stage) (y : Asked) → y.stage ≡ s → is_writes s ≡ true → acquires_at i y ≡ false
      at_writes stage.Writes y f e = ap (λ (z : Stage). Rattle.read_model.specs.Acquires.is_acquiring z && Rattle.etcd_types.specs.Keys.same (Rattle.read_model.specs.PlainRead.ask_key y) i) f
      at_writes stage.Acquiring y f e = absurd (cc)
      at_writes stage.Joined y f e = absurd (cc)
      at_writes stage.Behind y f e = absurd (cc)
      at_writes (stage.Calling s) y f e = absurd (cc)
      at_writes (stage.Grouped s) y f e = absurd (cc)
      at_writes (stage.Replied v) y f e = absurd (cc)

      by : list_any (λ a. has_ticket t a && acquires_at i a) xs ≡ false → (b : Bool) → (x.ticket == t) ≡ b → ((x.ticket == t) && acquires_at i x) || list_any (λ a. has_ticket t a && acquires_at i a) xs ≡ false
      by rest true e = ap (λ (b : Bool). ((x.ticket == t) && b) || list_any (λ a. has_ticket t a && acquires_at i a) xs) (at_writes x.stage x refl (h.0 e)) ∙ ap (λ (b : Bool). b || list_any (λ a. has_ticket t a && acquires_at i a) xs) (and_false (x.ticket == t)) ∙ rest
      by rest false e = ap (λ (b : Bool). (b && acquires_at i x) || list_any (λ a. has_ticket t a && acquires_at i a) xs) e ∙ rest

  -- ---- the job

  module _ (now own member : ℕ) (q : Request) where
    pub record IsWrites : Type 0 where
      pub first : first_job d ≡ Some ForWrites
      pub job : JobSent
      pub is : job_sent (next_call d) d.own ≡ Some job
      pub ticket : job.due.ticket ≡ t
      pub call : next_call d ≡ own

    same_call : (r : Request) (own' m' t' : ℕ) → Gives (Ok (outcome.Job (Some (sent.Call own' m' t' r)))) own member t q → (t' ≡ t) × (own' ≡ own)
    same_call r own' m' t' e = ((cc), (cc))

    none_given : {A : Type 0} → Gives (Ok (outcome.Job None)) own member t q → A
    none_given e = absurd (cc)

    named : {A : Type 0} (t' : ℕ) → t' ≡ t → (t' == t) ≡ false → A
    named t' e f = clash (t' == t) (ap (λ (m : ℕ). m == t) e ∙ number_itself t) f

    by_job : (j : Option DueJob) → first_job d ≡ j → StandsIf t d j → Gives (sent_by now j d).outcome own member t q → IsWrites
    by_job None f s e = none_given e
    by_job (Some (ForSession x)) f s e = clash (t == 0) (ap (λ (m : ℕ). m == 0) (sym (same_call _ (next_call d) d.members.current 0 e).0)) client
    by_job (Some ForWrites) f s e = by_sent (job_sent (next_call d) d.own) refl e
      where
        by_sent : (o : Option JobSent) → job_sent (next_call d) d.own ≡ o → Gives (writes_sent now o d).outcome own member t q → IsWrites
        by_sent None g h = none_given h
        by_sent (Some x) g h = let c = same_call (request_under d.settings.namespace x.due.request) (next_call d) d.members.current x.due.ticket h in record { first = f; job = x; is = g; ticket = c.0; call = c.1 }
    by_job (Some (ForAcquire i x)) f s e =
        let c = (same_call _ (next_call d) d.members.current x.ticket e).0 in
        clash (list_any (λ a. has_ticket t a && acquires_at i a) d.asks) (by_due x.sending s.1 (subst (λ (o : Option Acquire). is_awaited d.asks i o ≡ true) s.0 (agrees.awaited i)) c) (acquires_none i d.asks writing)
      where
        by_due : (y : Sending) → is_due y ≡ true → awaits x.ticket i d.asks y ≡ true → x.ticket ≡ t → list_any (λ a. has_ticket t a && acquires_at i a) d.asks ≡ true
        by_due (sending.Due since) u v g = subst (λ (m : ℕ). list_any (λ a. has_ticket m a && acquires_at i a) d.asks ≡ true) g v
        by_due (sending.Out call) u v g = absurd (cc)
    by_job (Some (ForAsk a)) f s e = named a.ticket (same_call _ (next_call d) d.members.current a.ticket e).0 (s (uncalled d.asks writing))
    by_job (Some (ForGroup lease ticket)) f s e = named ticket (same_call _ (next_call d) d.members.current ticket e).0 (s (uncalled d.asks writing))
    by_job (Some (ToOpen o)) f s e = absurd (cc)
    by_job (Some (ForStream x)) f s e = by_stream (next_job d.watches (Some x)).1 e
      where
        by_stream : (o : Option StreamJob) → Gives (stream_job o (with_watches d (next_job d.watches (Some x)).0)).outcome own member t q → IsWrites
        by_stream None h = absurd (cc)
        by_stream (Some (stream.Close number)) h = absurd (cc)
        by_stream (Some (stream.Open number range start)) h = absurd (cc)

    pub is_writes_job : Gives (on_work now d).outcome own member t q → IsWrites
    unfolding on_work
    is_writes_job e = by_job (first_job d) refl (first_stands t d rising) e

-- the first of the owner's own writes goes out with a call that names its ticket
module _ (k : List ℕ) (v : OwnWrite) (vs : List OwnWrite) (n : ℕ) (alone : AllAlone k (behind_as (v ∷ vs))) (e : Entry) (d : Core) (order : is_in_order d.own.entries ≡ true) (agrees : Agrees d) (rising : is_in_order d.acquires ≡ true) (client : (v.ticket == 0) ≡ false) where
  pub own_goes : (now own member : ℕ) (q : Request) → Stands d (first_job d) → Gives (on_work now d).outcome own member v.ticket q → CoreSo (writes_own k n v vs None alone e) d → CoreSo (writes_own k n v vs (Some own) alone e) (on_work now d).core
  own_goes now own member q stands gives so = by (seat_is n d.seat) refl
    where
      by : (b : Bool) → seat_is n d.seat ≡ b → CoreSo (writes_own k n v vs (Some own) alone e) (on_work now d).core
      by true y =
          let its = has_it k v vs (so y tt).0.case d.own.waits.writes ((so y tt).0.over refl) in
          let w = is_writes_job v.ticket d agrees rising client its now own member q gives in
          subst (λ (i : ℕ). CoreSo (writes_own k n v vs (Some i) alone e) (on_work now d).core) w.call
          (own_sent k v vs n alone e d order (once_writing d.asks d.own.waits.writes agrees.asks) (number_turned v.ticket 0 client) now w.job w.first w.is w.ticket so)
      by false y = λ z i. absurd ((cores.work_so (absent k n) now d stands (λ f s j u. (tt, ((λ c. tt), tt))) (λ u. clash (seat_is n d.seat) u y) z tt).1)
