-- Whole steps of a proxy, at a key that is watched; its acquire is won, and a plain read of it is answered from the entry.
use Rattle.std.proofs.Common.{◌≡◌, ℕ, ◌==◌, Bool, true, false, cond, not, ◌&&◌, ◌||◌, List, [], ◌∷◌, ◌++◌, Option, None, Some, is_some, Result, Ok, Err, refl, sym, ◌∙◌, ap, subst}
use Rattle.std.specs.List.{list_any}
use Rattle.etcd_types.specs.declared.answer.Answer.{Answer}
use Rattle.etcd_types.specs.declared.answer.Answer.TheVariants.{Done, Refused}
use Rattle.etcd_types.specs.declared.answer.Reply.{Reply}
use Rattle.etcd_types.specs.declared.record.Kv.{Kv}
use Rattle.etcd_types.specs.Keys.{same}
use Rattle.etcd_types.proofs.Bools.{and_first, and_second, and_both}
use Rattle.etcd_types.proofs.KeyOrder.{same-equal, same-itself}
use Rattle.proxy_model.specs.declared.lease.Entry.{Entry}
use Rattle.proxy_model.specs.declared.lease.Phase.TheVariants.{Held}
use Rattle.proxy_model.specs.declared.ownership.Claim.{Claim}
use Rattle.proxy_model.specs.declared.ownership.Claim.TheVariants.{Acquired, OwnedBy}
use Rattle.proxy_model.specs.Acquire.{claimed}
use Rattle.proxy_model.specs.Keyed.{at, is_in_order}
use Rattle.proxy_model.proofs.KeyedLaws.{at-with_at}
use Rattle.wait_model.specs.declared.sending.Sending.TheVariants as sending
use Rattle.wait_model.specs.declared.wait.WaitCall.{WaitCall}
use Rattle.wait_model.specs.declared.wait.WaitJob.TheVariants as wait
use Rattle.wait_model.specs.declared.write.Write.{Write}
use Rattle.wait_model.specs.declared.due.DueCall.{DueCall}
use Rattle.wait_model.specs.DueOrder.{first_call, first_rescind}
use Rattle.wait_model.specs.Phases.{is_session, is_rescind_due, is_rescind_due_phase}
use Rattle.wait_model.specs.Sent.{JobSent, rescind_job, revoke_job, write_job, is_revoke, call_of, call_sent, job_sent_after, job_sent}
use Rattle.wait_model.specs.State.{Ownership}
use Rattle.wait_model.specs.Writes.{first_by, has_ticket}
use Rattle.read_model.specs.declared.acquire.Acquire.{Acquire}
use Rattle.read_model.specs.declared.asked.Asked.{Asked}
use Rattle.read_model.specs.Acquires.{acquires_at, acquired, acquire_done, done_by, is_to_be_held, answered_acquire, won}
use Rattle.read_model.specs.SessionEnd.{is_due}
use Rattle.read_model.specs.State.{Reads, Moment, ground_of}
use Rattle.core_model.specs.declared.event.CoreEvent.{CoreEvent}
use Rattle.core_model.specs.declared.event.CoreEvent.TheVariants as event
use Rattle.core_model.specs.declared.event.Outcome.{Outcome}
use Rattle.core_model.specs.declared.event.StepFault.{StepFault}
use Rattle.core_model.specs.declared.out_call.OutCall.{OutCall}
use Rattle.core_model.specs.declared.out_call.OutJob.{OutJob}
use Rattle.core_model.specs.declared.out_call.OutJob.TheVariants as job
use Rattle.core_model.specs.ClockWork.{clock_work, writes_go_on}
use Rattle.core_model.specs.DueJobs.{DueJob, ForSession, ForWrites, ForAcquire, ForAsk, ForGroup, ToOpen, ForStream, first_job}
use Rattle.core_model.specs.Ends.{acquire_if, answered_job, or_lost, heard_call, answered_call, call_gone, answer_of, on_answer}
use Rattle.core_model.specs.Fits.{Agrees, passes, is_acquire_of, is_acquire_out, job_at, awaits, is_awaited}
use Rattle.core_model.specs.Heard.{heard, header_taken}
use Rattle.core_model.specs.Lookups.{is_known, live_number, moment, reads_of, ask_at, out_at}
use Rattle.core_model.specs.Sending.{next_call}
use Rattle.core_model.specs.State.{Core}
use Rattle.core_model.specs.Step.{happened, is_worn, stepped}
use Rattle.core_model.specs.Stepped.{Stepped, counted, counted_by}
use Rattle.watch_model.specs.Lookups.{watch_at}
use Rattle.core_fits.specs.Fits.{EachOf}
use Rattle.core_laws.proofs.Steps.Due.{DueIf, first_due}
use Rattle.core_laws.proofs.Steps.Lists.{same_number, number_itself}
use Rattle.core_laws.proofs.Steps.Outcomes.{worn_does_nothing}
use Rattle.owner_fits.specs.Acquires.{IsOutAs}
use Rattle.owner_fits.specs.Laws.{OwnersFit}
use Rattle.owner_fits.proofs.Runs.{due_acquires_stand}
use Rattle.step_moves.proofs.DueCalls.{rescind_stands}
use Rattle.cached_laws.specs.Awaited.{is_due_for}
use Rattle.cached_laws.proofs.Steps.{stepped_is}
use Rattle.owned_laws.specs.OwnWrites.{OwnWrite}
use Rattle.owned_laws.specs.Owned.{claim_told, claim_heard, claim_in}
use Rattle.owned_laws.proofs.Cores as cores
use Rattle.owned_laws.proofs.Cores.{CoreSo, Draws, OnTime, EndsAs, Misses, PassesIn, GoesOut, Stands}
use Rattle.owned_laws.proofs.Grounds.{GroundSo}
use Rattle.owned_laws.proofs.Modes.{IsMine, AllAlone, behind_as, first_as, Mode}
use Rattle.owned_laws.proofs.Own.{sends_misses, there_sends, Misses as MissesBy}
use Rattle.owned_laws.proofs.Ready.{Ready, released_ready, IsKeptIn, ready_goes_on}
use Rattle.wait_model.specs.Writes as writes
use Rattle.owned_laws.proofs.Ways.{CallSo, IsOutIn, NotOf, plain, present, asking, sending_as, holds, writes_own}

no_true : {A : Type 0} → false ≡ true → A
no_true e = absurd (cc)

-- ---- what comes to a proxy leaves the key as it is

abbrev pub EndsSo : Mode → Core → ℕ → Type 0
EndsSo M d call = (o : OutCall) → out_at call d.out ≡ Some o → EndsAs M d.seat o o.job

abbrev pub Leaves : Mode → Core → CoreEvent → Type 0
Leaves M d (event.Ask ticket q word) = Misses M d q
Leaves M d (event.Answer call a) = EndsSo M d call
Leaves M d (event.Lost call) = EndsSo M d call
Leaves M d (event.Tick word) = Draws M.session word
Leaves M d (event.Item number x) = PassesIn M d number x
Leaves M d event.Work = GoesOut M (first_job d) d
Leaves M d (event.Leave ticket) = MissesBy M (writes.has_ticket ticket)
Leaves M d _ = Unit {0}

pub happened_so : (M : Mode) (now : ℕ) (e : CoreEvent) (d : Core) → Stands d (first_job d) → Leaves M d e → CoreSo M d → CoreSo M (happened now e d).core
happened_so M now (event.Ask ticket q word) d s l h = cores.asked_so M now ticket q word d l h
happened_so M now (event.Answer call a) d s l h = cores.answered_so M now call a d l h
happened_so M now (event.Lost call) d s l h = cores.lost_so M now call d l h
happened_so M now (event.Tick word) d s l h = cores.tick_so M now word d l h
happened_so M now (event.Item number x) d s l h = cores.item_so M now number x d l h
happened_so M now (event.Cut number) d s l h = cores.cut_so M number d h
happened_so M now (event.Take ticket) d s l h = cores.take_so M ticket d h
happened_so M now (event.Leave ticket) d s l h = cores.leave_so M now ticket d l h
happened_so M now event.Work d s l h = cores.work_so M now d s l h

pub counted_so : (M : Mode) (s : Stepped) → CoreSo M s.core → CoreSo M (counted s).core
counted_so M s h = by s.outcome
  where
    by : (r : Result Outcome StepFault) → CoreSo M (counted_by s.core r).core
    by (Ok o) = h
    by (Err f) = h

-- by what becomes of it behind the clock's work
pub by_happened : (M : Mode) (c : Core) (e : CoreEvent) (now : ℕ) → OnTime M now c → CoreSo M c → (CoreSo M (clock_work now c) → CoreSo M (happened now e (clock_work now c)).core) → CoreSo M (stepped c e now).core
by_happened M c e now l h f = by (is_worn c) refl
  where
    by : (w : Bool) → is_worn c ≡ w → CoreSo M (stepped c e now).core
    by true w = subst (λ (s : Stepped). CoreSo M s.core) (sym (worn_does_nothing c e now w)) h
    by false w = subst (λ (s : Stepped). CoreSo M s.core) (sym (stepped_is c e now w)) (counted_so M (happened now e (clock_work now c)) (f (cores.clock_by M now c l h)))

pub steps_by : (M : Mode) (c : Core) (e : CoreEvent) (now : ℕ) → OnTime M now c → Stands (clock_work now c) (first_job (clock_work now c)) → (CoreSo M (clock_work now c) → Leaves M (clock_work now c) e) → CoreSo M c → CoreSo M (stepped c e now).core
steps_by M c e now t s l h = by_happened M c e now t h (λ d. happened_so M now e (clock_work now c) s (l d) d)

-- where no write is the owner's own
pub steps_so : (M : Mode) → cores.HasNone M → (c : Core) (e : CoreEvent) (now : ℕ) → Stands (clock_work now c) (first_job (clock_work now c)) → (CoreSo M (clock_work now c) → Leaves M (clock_work now c) e) → CoreSo M c → CoreSo M (stepped c e now).core
steps_so M n c e now s l h = steps_by M c e now (cores.none_late M n now c) s l h

-- the first due job is of what stands
pub stands : (d : Core) → Agrees d → OwnersFit d → Stands d (first_job d)
stands d a o = by (first_job d) refl
  where
    by : (j : Option DueJob) → first_job d ≡ j → Stands d j
    by None e = tt
    by (Some (ForSession s)) e = subst (DueIf d) e (first_due d a)
    by (Some ForWrites) e = tt
    by (Some (ForAcquire k x)) e = let t = due_acquires_stand d k x o e in (t.stands, t.due)
    by (Some (ForAsk x)) e = tt
    by (Some (ForGroup lease ticket)) e = tt
    by (Some (ToOpen x)) e = tt
    by (Some (ForStream x)) e = tt

-- ---- ends of other calls

its_job : (call : ℕ) (xs : List OutCall) (o : OutCall) → out_at call xs ≡ Some o → job_at call xs ≡ Some o.job
its_job call [] o e = absurd (cc)
its_job call (x ∷ xs) o e = by (x.call == call) e (λ g. its_job call xs o g)
  where
    same_call : (x y : OutCall) → Some x ≡ Some y → x ≡ y
    same_call x y e = cc

    by : (b : Bool) → cond b (Some x) (out_at call xs) ≡ Some o → (out_at call xs ≡ Some o → job_at call xs ≡ Some o.job) → cond b (Some x.job) (job_at call xs) ≡ Some o.job
    by true g r = ap (λ (y : OutCall). Some y.job) (same_call x o g)
    by false g r = r g

out_as : (d : Core) (call : ℕ) (o : OutCall) (i k : List ℕ) → OwnersFit d → out_at call d.out ≡ Some o → o.job ≡ job.Acquire i → same i k ≡ true → IsOutAs call (at d.acquires k)
out_as d call o i k f e j s = subst (λ (l : List ℕ). IsOutAs call (at d.acquires l)) (same-equal i k s) (f.acquires.awaits call i (its_job call d.out o e ∙ ap (λ (x : OutJob). Some x) j))

pub plain_ends : (k : List ℕ) (T : Rattle.owned_laws.proofs.Ways.OfRescind) (d : Core) (call : ℕ) → EndsSo (plain k T) d call
plain_ends k T d call o e = ((λ s i j n. refl), ((λ c. tt), tt))

pub asking_ends : (k : List ℕ) (t : ℕ) (vs : List OwnWrite) (alone : AllAlone k (behind_as vs)) (d : Core) (call : ℕ) → EndsSo (asking k t vs alone) d call
asking_ends k t vs alone d call o e = ((λ s i j n. refl), ((λ c. sends_misses o.call c.rest), tt))

pub present_ends : (k : List ℕ) (vs : List OwnWrite) (d : Core) (call : ℕ) → EndsSo (present k vs) d call
present_ends k vs d call o e = ((λ s i j n. refl), ((λ c. tt), there_sends k o.call vs))

same_acquire : (x y : Acquire) → Some x ≡ Some y → x ≡ y
same_acquire x y e = cc

same_out : (a b : ℕ) → sending.Out a ≡ sending.Out b → a ≡ b
same_out a b e = cc

pub sending_ends : (k : List ℕ) (m n : ℕ) (vs : List OwnWrite) (alone : AllAlone k (behind_as vs)) (d : Core) (call : ℕ) → OwnersFit d → (call == m) ≡ false → CoreSo (sending_as k m n vs alone) d → EndsSo (sending_as k m n vs alone) d call
sending_ends k m n vs alone d call f other h o e = (
  (λ s i j y.
      let a = out_as d call o i k f e j y in
      let t = (h tt tt).1 in
      let one = same_acquire a.acquire t.acquire (sym a.stands ∙ t.stands) in
      let is : call ≡ m = same_out call m (sym a.out ∙ ap (λ (x : Acquire). x.sending) one ∙ t.out) in
      absurd (let z : true ≡ false = sym (number_itself m) ∙ ap (λ (x : ℕ). x == m) (sym is) ∙ other in cc)),
  ((λ c. sends_misses o.call vs), tt),
)

pub holding_ends : (k : List ℕ) (n : ℕ) (e : Entry) (held : e.phase ≡ Held) (d : Core) (call : ℕ) → OwnersFit d → CoreSo (holds k n e held) d → EndsSo (holds k n e held) d call
holding_ends k n e held d call f h o g = (
  (λ s i j y.
      let a = out_as d call o i k f g j y in
      absurd (let z : None ≡ Some a.acquire = sym (h s tt).1 ∙ a.stands in cc)),
  ((λ c. tt), tt),
)

pub writing_ends : (k : List ℕ) (n : ℕ) (v : OwnWrite) (vs : List OwnWrite) (own : Option ℕ) (alone : AllAlone k (behind_as (v ∷ vs))) (e : Entry) (d : Core) (call : ℕ) → OwnersFit d
    → ((o : OutCall) → out_at call d.out ≡ Some o → (c : Bool) (y : Write) → IsMine (first_as v own c) y → writes.sends o.call y ≡ false) → CoreSo (writes_own k n v vs own alone e) d → EndsSo (writes_own k n v vs own alone e) d call
writing_ends k n v vs own alone e d call f misses h o g = (
  (λ s i j y.
      let a = out_as d call o i k f g j y in
      absurd (let z : None ≡ Some a.acquire = sym (h s tt).1 ∙ a.stands in cc)),
  ((λ c. (misses o g c, sends_misses o.call vs)), tt),
)

-- ---- calls of writes and entries go out

pushed : (P : WaitCall → Type 0) (x : WaitCall) (xs : List WaitCall) → EachOf P xs → P x → EachOf P (xs ++ x ∷ [])
pushed P x [] h t = (t, tt)
pushed P x (y ∷ ys) h t = (h.0, pushed P x ys h.1 t)

some_sent : (a b : JobSent) → Some a ≡ Some b → a ≡ b
some_sent a b e = cc

pub sent_each : (T : Rattle.owned_laws.proofs.Ways.OfRescind) (call : ℕ) (own : Ownership) → ((x : List ℕ × Entry) → first_rescind own.entries ≡ Some x → T call x.0 x.1.create) → EachOf (CallSo T) own.waits.out
    → (s : JobSent) → job_sent call own ≡ Some s → EachOf (CallSo T) s.own.waits.out
unfolding job_sent
sent_each T call own f h s e = by (first_rescind own.entries) refl e
  where
    by_kind : (b : Bool) (d : DueCall) (w : Write) → Some (cond b (revoke_job call d w own) (write_job call d w own)) ≡ Some s → EachOf (CallSo T) s.own.waits.out
    by_kind true d w g = subst (λ (x : JobSent). EachOf (CallSo T) x.own.waits.out) (some_sent (revoke_job call d w own) s g) (pushed (CallSo T) (record { call = call; job = wait.Revoke d.key }) own.waits.out h tt)
    by_kind false d w g = subst (λ (x : JobSent). EachOf (CallSo T) x.own.waits.out) (some_sent (write_job call d w own) s g) (pushed (CallSo T) (record { call = call; job = wait.Write }) own.waits.out h tt)

    by_write : (d : DueCall) (o : Option Write) → call_of call d o own ≡ Some s → EachOf (CallSo T) s.own.waits.out
    by_write d None g = absurd (cc)
    by_write d (Some w) g = by_kind (is_revoke d.place.kind) d w g

    by_call : (o : Option DueCall) → call_sent call o own ≡ Some s → EachOf (CallSo T) s.own.waits.out
    by_call None g = absurd (cc)
    by_call (Some d) g = by_write d (first_by (has_ticket d.place.number) own.waits.writes) g

    by : (o : Option (List ℕ × Entry)) → first_rescind own.entries ≡ o → job_sent_after call o own ≡ Some s → EachOf (CallSo T) s.own.waits.out
    by None i g = by_call (first_call own.waits.writes) g
    by (Some x) i g = subst (λ (y : JobSent). EachOf (CallSo T) y.own.waits.out) (some_sent (rescind_job call x own) s g) (pushed (CallSo T) (record { call = call; job = wait.Rescind x.0 x.1.create }) own.waits.out h (f x i))

-- a held entry isn't due to be given up
pub holding_out : (k : List ℕ) (n : ℕ) (e : Entry) (held : e.phase ≡ Held) (d : Core) → is_in_order d.own.entries ≡ true → GoesOut (holds k n e held) (first_job d) d
holding_out k n e held d order j s is t = (sent_each (NotOf k e.create) (next_call d) d.own first t.outs s is, ((λ c. tt), tt))
  where
    same_entry : (x y : Entry) → Some x ≡ Some y → x ≡ y
    same_entry x y f = cc

    first : (x : List ℕ × Entry) → first_rescind d.own.entries ≡ Some x → same x.0 k ≡ true → (e.create == x.1.create) ≡ false
    first x f s =
        let r = rescind_stands d.own.entries x order f in
        let one : x.1 ≡ e = same_entry x.1 e (sym r.0 ∙ ap (at d.own.entries) (same-equal x.0 k s) ∙ t.entry refl) in
        no_true (sym (ap is_rescind_due one ∙ ap is_rescind_due_phase held) ∙ r.1)

-- ---- from the request: none of the ticket's is due

pub unasked_so : (k : List ℕ) (t : ℕ) (d : Core) → Agrees d → is_known t d ≡ false → CoreSo (asking k t [] tt) d
unasked_so k t d a u s i = absurd (by (at d.acquires k) (a.awaited k) i)
  where
    asked : (xs : List Asked) (n : ℕ) → n ≡ t → list_any (λ x. Rattle.core_model.specs.Lookups.has_ticket n x && acquires_at k x) xs ≡ true → is_some (ask_at t xs) ≡ true
    asked [] n e f = no_true f
    asked (x ∷ xs) n e f = by_test (x.ticket == n) (x.ticket == t) (ap (λ (m : ℕ). x.ticket == m) e) f (asked xs n e)
      where
        by_test : (b c : Bool) → b ≡ c → (b && acquires_at k x) || list_any (λ x. Rattle.core_model.specs.Lookups.has_ticket n x && acquires_at k x) xs ≡ true
            → (list_any (λ x. Rattle.core_model.specs.Lookups.has_ticket n x && acquires_at k x) xs ≡ true → is_some (ask_at t xs) ≡ true) → is_some (cond c (Some x) (ask_at t xs)) ≡ true
        by_test b true g f more = refl
        by_test true false g f more = absurd (cc)
        by_test false false g f more = more f

    known : (b c : Bool) → b ≡ true → b || c ≡ false → ⊥
    known true c e f = absurd (cc)
    known false c e f = absurd (cc)

    by : (o : Option Acquire) → is_awaited d.asks k o ≡ true → is_due_for t o ≡ true → ⊥
    by None f e = no_true e
    by (Some x) f e = by_sending x.sending f (and_second (x.ticket == t) (is_due x.sending) e)
      where
        by_sending : (s : Rattle.wait_model.specs.declared.sending.Sending.Sending) → awaits x.ticket k d.asks s ≡ true → is_due s ≡ true → ⊥
        by_sending (sending.Due since) g h = known (is_some (ask_at t d.asks)) (is_some (watch_at t d.watches.watches)) (asked d.asks x.ticket (same_number x.ticket t (and_first (x.ticket == t) (is_due x.sending) e)) g) u
        by_sending (sending.Out call) g h = no_true h

-- ---- its acquire is won

pub record Wins (k : List ℕ) (n call now : ℕ) (vs : List OwnWrite) (a : Answer) (create : ℕ) (d : Core) : Type 0 where
  pub alone : AllAlone k (behind_as vs)
  pub stands : CoreSo (sending_as k call n vs alone) d
  pub agrees : Agrees d
  pub live : live_number d.seat now ≡ Some n
  pub claim : claim_in d.settings.namespace d.own.waits.prefix k (Some a) ≡ Some create
  pub outs : EachOf (CallSo (NotOf k create)) d.own.waits.out

some_number : (a b : ℕ) → ◌≡◌ {A = Option ℕ} (Some a) (Some b) → a ≡ b
some_number a b e = cc

none_number : {A : Type 0} (b : ℕ) → ◌≡◌ {A = Option ℕ} None (Some b) → A
none_number b e = absurd (cc)

none_answer : {A : Type 0} (b : Answer) → ◌≡◌ {A = Option Answer} None (Some b) → A
none_answer b e = absurd (cc)

module _ (k : List ℕ) (n call now : ℕ) (vs : List OwnWrite) (alone : AllAlone k (behind_as vs)) (create : ℕ) (d : Core) where
  -- by the acquire's answer
  won_ready : (r' : ℕ) (m : Moment) (h : Rattle.etcd_types.specs.declared.record.Header.Header) (kv : Option Kv) (r : Reads) → GroundSo (sending_as k call n vs alone) (ground_of r) → EachOf (CallSo (NotOf k r')) r.own.waits.out
      → Ready k (won true r' kv) vs (ground_of (acquire_done m k true h (Acquired r' kv) r))
  won_ready r' m h kv r t outs =
      released_ready k (won true r' kv) vs true m (acquired m k true h r' kv r) (
        record {
          entry = at-with_at r.own.entries k k (Some (won true r' kv)) ∙ ap (λ (b : Bool). cond b (Some (won true r' kv)) (at r.own.entries k)) (same-itself k);
          over = (t tt).0.over refl;
          outs = outs;
        },
        at-with_at r.acquires k k None ∙ ap (λ (b : Bool). cond b None (at r.acquires k)) (same-itself k),
      )

  abbrev Won : Core → Type 0
  Won c = IsKeptIn k n create vs c

  done_won : (c : Core) (o : OutCall) (reply : Reply) (x : Option Claim) → claim_told x ≡ Some create → GroundSo (sending_as k call n vs alone) (ground_of (reads_of c)) → EachOf (CallSo (NotOf k create)) c.own.waits.out
      → Won (writes_go_on (or_lost now o c (acquire_if c (done_by (moment c now) k true reply.header x (reads_of c)))))
  done_won c o reply None e t outs = none_number create e
  done_won c o reply (Some (OwnedBy kv owner)) e t outs = none_number create e
  done_won c o reply (Some (Acquired r kv)) e t outs =
      let same_create : create ≡ r = sym (some_number r create e) in
      let d' = Rattle.core_model.specs.Lookups.with_reads c (acquire_done (moment c now) k true reply.header (Acquired r kv) (reads_of c)) in
      ready_goes_on k n create vs (won true r kv) refl (sym same_create) alone d'
      (won_ready r (moment c now) reply.header kv (reads_of c) t (subst (λ (y : ℕ). EachOf (CallSo (NotOf k y)) c.own.waits.out) same_create outs))

  -- it is to be held: unspoiled, and under the live session
  to_hold : (c : Core) (x : Acquire) → at c.acquires k ≡ Some x → live_number c.seat now ≡ Some n → GroundSo (sending_as k call n vs alone) (ground_of (reads_of c)) → is_to_be_held (moment c now) k x (reads_of c) ≡ true
  to_hold c x f l t =
      let g = t tt in
      let one = same_acquire x g.1.acquire (sym f ∙ g.1.stands) in
      and_both (is_session (live_number c.seat now) x.session) (not (Rattle.wait_model.specs.Asked.is_spoiled k c.own))
      (ap (λ (s : Option ℕ). is_session s x.session) l ∙ ap (λ (y : Acquire). n == y.session) one ∙ ap (λ (m : ℕ). n == m) g.1.session ∙ number_itself n)
      (ap (λ (b : Option Bool). not (Rattle.wait_model.specs.Asked.is_true b)) (g.0.mark refl))

  job_won : (c : Core) (o : OutCall) (a : Answer) → claim_heard c.own.waits.prefix k (Some a) ≡ Some create → live_number c.seat now ≡ Some n → GroundSo (sending_as k call n vs alone) (ground_of (reads_of c)) → EachOf (CallSo (NotOf k create)) c.own.waits.out
      → Won (writes_go_on (or_lost now o c (answered_job now o (job.Acquire k) a c)))
  job_won c o (Refused r) e l t outs = none_number create e
  job_won c o (Done reply) e l t outs =
      let g = (t tt).1 in
      let hold = to_hold c g.acquire g.stands l t in
      subst (λ (q : Option Acquire). Won (writes_go_on (or_lost now o c (acquire_if c (answered_acquire (moment c now) k q (Done reply) (reads_of c)))))) (sym g.stands)
      (subst (λ (b : Bool). Won (writes_go_on (or_lost now o c (acquire_if c (done_by (moment c now) k b reply.header (claimed c.own.waits.prefix k reply) (reads_of c)))))) (sym hold)
      (done_won c o reply (claimed c.own.waits.prefix k reply) e t outs))

  heard_won : (c : Core) (o : OutCall) (h : Option Answer) → o.job ≡ job.Acquire k → claim_heard c.own.waits.prefix k h ≡ Some create → live_number c.seat now ≡ Some n → GroundSo (sending_as k call n vs alone) (ground_of (reads_of c)) → EachOf (CallSo (NotOf k create)) c.own.waits.out
      → Won (writes_go_on (heard_call now o h c))
  heard_won c o None j e l t outs = none_number create e
  heard_won c o (Some a) j e l t outs = subst (λ (y : OutJob). Won (writes_go_on (or_lost now o c (answered_job now o y a c)))) (sym j) (job_won c o a e l t outs)

  acquire_kept : (a : Answer) → CoreSo (sending_as k call n vs alone) d → Agrees d → live_number d.seat now ≡ Some n → claim_in d.settings.namespace d.own.waits.prefix k (Some a) ≡ Some create → EachOf (CallSo (NotOf k create)) d.own.waits.out
      → Won (on_answer now call a d).core
  unfolding on_answer
  acquire_kept a stands agrees live claim outs = by (out_at call d.out) refl
    where
      g : IsOutIn call n (at d.acquires k)
      g = (stands tt tt).1

      out : passes (is_acquire_of k) (job_at call d.out) ≡ true
      out = ap (λ (s : Rattle.wait_model.specs.declared.sending.Sending.Sending). Rattle.core_model.specs.Fits.is_out_to (is_acquire_of k) d.out s) (sym g.out) ∙ ap (is_acquire_out d.out k) (sym g.stands) ∙ agrees.out.acquires k

      is_job : (j : OutJob) → is_acquire_of k j ≡ true → j ≡ job.Acquire k
      is_job (job.Acquire i) e = ap (λ (l : List ℕ). job.Acquire l) (same-equal i k e)
      is_job (job.Grant lease) e = no_true e
      is_job (job.Keep lease) e = no_true e
      is_job job.Wait e = no_true e
      is_job (job.Ask j) e = no_true e
      is_job (job.Group lease) e = no_true e

      at_job : (xs : List OutCall) (o : OutCall) → out_at call xs ≡ Some o → passes (is_acquire_of k) (job_at call xs) ≡ true → o.job ≡ job.Acquire k
      at_job xs o f e = is_job o.job (ap (passes (is_acquire_of k)) (sym (its_job call xs o f)) ∙ e)

      none_out : (xs : List OutCall) → out_at call xs ≡ None → job_at call xs ≡ None
      none_out [] e = refl
      none_out (x ∷ xs) e = by_call (x.call == call) e (none_out xs)
        where
          by_call : (b : Bool) → cond b (Some x) (out_at call xs) ≡ None → (out_at call xs ≡ None → job_at call xs ≡ None) → cond b (Some x.job) (job_at call xs) ≡ None
          by_call true f more = absurd (cc)
          by_call false f more = more f

      by_answer : (o : OutCall) (b : Answer) → a ≡ b → o.job ≡ job.Acquire k → Won (writes_go_on (answered_call now o b (call_gone call d)))
      by_answer o (Done reply) e j =
          heard_won (header_taken reply.header (call_gone call d)) o (heard d.settings.namespace (Done reply)) j (ap (λ (x : Answer). claim_heard d.own.waits.prefix k (heard d.settings.namespace x)) (sym e) ∙ claim) live (stands tt) outs
      by_answer o (Refused r) e j =
          heard_won (call_gone call d) o (heard d.settings.namespace (Refused r)) j (ap (λ (x : Answer). claim_heard d.own.waits.prefix k (heard d.settings.namespace x)) (sym e) ∙ claim) live (stands tt) outs

      by : (q : Option OutCall) → out_at call d.out ≡ q → Won (answer_of now call a q d).core
      by None f = no_true (ap (passes (is_acquire_of k)) (sym (none_out d.out f)) ∙ out)
      by (Some o) f = by_answer o a refl (at_job d.out o f out)

pub acquire_won : (k : List ℕ) (n call now : ℕ) (vs : List OwnWrite) (create : ℕ) (d : Core) (a : Answer) → Wins k n call now vs a create d → IsKeptIn k n create vs (on_answer now call a d).core
acquire_won k n call now vs create d a w = acquire_kept k n call now vs w.alone create d a w.stands w.agrees w.live w.claim w.outs
