-- The owner's own writes at a proxy: where a write of a held key by itself is asked its call is due; and where the call of the first is
-- answered as done or refused the key is held again, or the next one begins.
use Rattle.std.proofs.Common.{◌≡◌, inl, inr, ℕ, ◌==◌, Bool, true, false, cond, not, ◌||◌, List, [], ◌∷◌, ◌++◌, map, filter, Option, None, Some, Ok, refl, sym, ◌∙◌, ap, subst}
use Rattle.etcd_types.specs.declared.answer.Answer.{Answer}
use Rattle.etcd_types.specs.declared.answer.Answer.TheVariants.{Done, Refused}
use Rattle.etcd_types.specs.declared.answer.Refusal.{Refusal}
use Rattle.etcd_types.specs.declared.request.Request.{Request}
use Rattle.etcd_types.specs.declared.request.Request.TheVariants as request
use Rattle.etcd_types.proofs.Bools.{and_first, and_second, not_true}
use Rattle.proxy_model.specs.declared.lease.Entry.{Entry}
use Rattle.proxy_model.specs.declared.lease.Phase.TheVariants.{Held}
use Rattle.proxy_model.specs.Keyed.{at}
use Rattle.wait_model.specs.declared.wait.WaitCall.{WaitCall}
use Rattle.wait_model.specs.declared.wait.WaitJob.{WaitJob}
use Rattle.wait_model.specs.declared.wait.WaitJob.TheVariants as wait
use Rattle.wait_model.specs.declared.write.Write.{Write}
use Rattle.wait_model.specs.Asked.{submitted}
use Rattle.wait_model.specs.Covers.{covers}
use Rattle.wait_model.specs.Endings.{answered}
use Rattle.wait_model.specs.GuardedAnswers.{Ending}
use Rattle.wait_model.specs.State.{Ownership}
use Rattle.wait_model.specs.Writes.{first_by, stage_sends, sends, job_of}
use Rattle.read_model.specs.declared.asked.Stage.TheVariants as stage
use Rattle.read_model.specs.Release.{released}
use Rattle.read_model.specs.WriteAnswers.{ending, answered_by}
use Rattle.core_model.specs.declared.event.Outcome.{Outcome}
use Rattle.core_model.specs.declared.out_call.OutCall.{OutCall}
use Rattle.core_model.specs.declared.out_call.OutJob.{OutJob}
use Rattle.core_model.specs.declared.out_call.OutJob.TheVariants as job
use Rattle.core_model.specs.Asking.{asked_at, write_is_asked, call_is_asked, refused_or_taken, if_unknown, on_ask}
use Rattle.core_model.specs.ClockWork.{clock_work, writes_go_on}
use Rattle.core_model.specs.Ends.{reads_if, answered_job, or_lost, heard_call, answered_call, call_gone, answer_of, on_answer}
use Rattle.core_model.specs.Fits.{Agrees, at_most_one, calls_of, has_number, is_wait, is_write_job, is_write_out, numbers_of, once, passes, wait_numbers, WritesOk}
use Rattle.core_model.specs.Heard.{heard, answer_taken}
use Rattle.core_model.specs.Kinds.{writes_keys}
use Rattle.core_model.specs.Lookups.{leases, is_known, moment, reads_of, with_reads, out_at}
use Rattle.core_model.specs.Refusals.{refusal_of}
use Rattle.core_model.specs.State.{Core}
use Rattle.core_model.specs.Stepped.{Stepped}
use Rattle.core_laws.proofs.Steps.Lists.{same_number, number_itself}
use Rattle.owner_fits.proofs.Hearing.{first_has}
use Rattle.owned_laws.specs.OwnWrites.{OwnWrite, settles, settles_as}
use Rattle.owned_laws.specs.Watched.{seat_is}
use Rattle.owned_laws.proofs.Joining.{joins_over, sending_joins, asking_joins, present_joins, writing_joins}
use Rattle.owned_laws.proofs.Cores as cores
use Rattle.owned_laws.proofs.Cores.{CoreSo}
use Rattle.owned_laws.proofs.Modes.{IsAlone, Mine, IsMine, AllAlone, behind_as, first_as}
use Rattle.owned_laws.proofs.Own.{OverOf, sends_misses, OwnSo}
use Rattle.owned_laws.proofs.OwnWrites.{After, own_answered, one_found}
use Rattle.owned_laws.proofs.Ready.{released_ready, IsBegunIn, IsKeptIn, ready_goes_on, unseated_kept, counted_kept}
use Rattle.cached_laws.proofs.Steps.{stepped_is}
use Rattle.core_model.specs.declared.event.CoreEvent.TheVariants as event
use Rattle.core_model.specs.Step.{happened, is_worn, stepped}
use Rattle.owned_laws.proofs.Ways.{absent, present, asking, holds, sending_as, writes_own}

no_true : {A : Type 0} → false ≡ true → A
no_true e = absurd (cc)

first_of : {A : Type 0} (P : A → Type 0) (b : Bool) (x y : A) → b ≡ true → P x → P (cond b x y)
first_of P true x y e h = h
first_of P false x y e h = no_true e

or_parts : (a b : Bool) → a || b ≡ false → (a ≡ false) × (b ≡ false)
or_parts true b h = absurd (cc)
or_parts false b h = (refl, h)

-- ---- a write is asked

-- handed in, before writes go on
abbrev write_handed : ℕ → ℕ → OwnWrite → Core → Core
write_handed now word v c = record c { own = submitted v.ticket v.request c.own; asks = c.asks ++ Rattle.read_model.specs.PlainRead.in_stage stage.Writes (asked_at now v.ticket v.request word) ∷ [] }

-- what holds where it is taken in as a write
module _ (now ticket word : ℕ) (q : Request) (P : Stepped → Type 0) (c : Core) (l : leases c ≡ true) (h : P (write_is_asked (asked_at now ticket q word) c)) where
  taken : (r : Request) → r ≡ q → writes_keys r ≡ true → P (Rattle.core_model.specs.Asking.request_asked r (moment c now) (asked_at now ticket r word) c)
  taken (request.Put ask) is s = first_of P (leases c) _ (call_is_asked (asked_at now ticket (request.Put ask) word) c) l (subst (λ (r : Request). P (write_is_asked (asked_at now ticket r word) c)) (sym is) h)
  taken (request.Delete ask) is s = first_of P (leases c) _ (call_is_asked (asked_at now ticket (request.Delete ask) word) c) l (subst (λ (r : Request). P (write_is_asked (asked_at now ticket r word) c)) (sym is) h)
  taken (request.Txn x) is s =
      first_of P (leases c) _ (call_is_asked (asked_at now ticket (request.Txn x) word) c) l
      (first_of P (writes_keys (request.Txn x)) (write_is_asked (asked_at now ticket (request.Txn x) word) c) _ s (subst (λ (r : Request). P (write_is_asked (asked_at now ticket r word) c)) (sym is) h))
  taken (request.Range ask) is s = no_true s
  taken (request.Compact revision physical) is s = no_true s
  taken (request.Grant ttl lease) is s = no_true s
  taken (request.Revoke lease) is s = no_true s
  taken (request.KeepAlive lease) is s = no_true s
  taken (request.TimeToLive lease keys) is s = no_true s
  taken request.Leases is s = no_true s
  taken (request.Watch ask) is s = no_true s

  -- a write that is asked and not refused
  pub write_taken : writes_keys q ≡ true → is_known ticket c ≡ false → refusal_of c.own.waits.prefix q ≡ None → P (on_ask now ticket q word c)
  unfolding on_ask
  write_taken s new served =
      subst (λ (b : Bool). P (if_unknown b ticket c (refused_or_taken (refusal_of c.own.waits.prefix q) (moment c now) (asked_at now ticket q word) c))) (sym new)
      (subst (λ (o : Option Refusal). P (refused_or_taken o (moment c now) (asked_at now ticket q word) c)) (sym served) (taken q refl s))

-- of a held key it may begin at once
module _ (k : List ℕ) (n : ℕ) (e : Entry) (held : e.phase ≡ Held) (now word : ℕ) (v : OwnWrite) (alone : IsAlone k v.request) where
  pub write_begins : (c : Core) → CoreSo (holds k n e held) c → IsBegunIn k n e.create v [] None (write_is_asked (asked_at now v.ticket v.request word) c).core
  write_begins c t = record {
    entry = e;
    created = refl;
    alone = (alone, tt);
    so = cores.go_on (writes_own k n v [] None (alone, tt) e) (write_handed now word v c)
        (λ s i.
        let r = t s i in
        (record { case = false; outs = r.0.outs; there = tt; over = λ y. joins_over k v alone [] c.own.waits.writes (r.0.over y); mark = λ y. no_true y; entry = λ y. r.0.entry y ∙ (λ i. Some (record e { phase = held i })) }, r.1));
  }

-- while another one, or the acquire, is on its way it waits
module _ (k : List ℕ) (n : ℕ) (now word : ℕ) (v : OwnWrite) (alone : IsAlone k v.request) (vs : List OwnWrite) where
  pub write_waits : (m : ℕ) (a : AllAlone k (behind_as vs)) (b : AllAlone k (behind_as (vs ++ v ∷ []))) (c : Core) → CoreSo (sending_as k m n vs a) c → CoreSo (sending_as k m n (vs ++ v ∷ []) b) (write_is_asked (asked_at now v.ticket v.request word) c).core
  write_waits m a b c t = cores.go_on (sending_as k m n (vs ++ v ∷ []) b) (write_handed now word v c) (λ s i. let r = t s i in (sending_joins k v alone vs m n a b c.own r.0, r.1))

  pub write_asking : (ticket : ℕ) (a : AllAlone k (behind_as vs)) (b : AllAlone k (behind_as (vs ++ v ∷ []))) (c : Core) → CoreSo (asking k ticket vs a) c → CoreSo (asking k ticket (vs ++ v ∷ []) b) (write_is_asked (asked_at now v.ticket v.request word) c).core
  write_asking ticket a b c t = cores.go_on (asking k ticket (vs ++ v ∷ []) b) (write_handed now word v c) (λ s i. let r = t s i in (asking_joins k v alone vs ticket a b c.own r.0, r.1))

  pub write_present : (c : Core) → CoreSo (present k vs) c → CoreSo (present k (vs ++ v ∷ [])) (write_is_asked (asked_at now v.ticket v.request word) c).core
  write_present c t = cores.go_on (present k (vs ++ v ∷ [])) (write_handed now word v c) (λ s i. let r = t s i in (present_joins k v alone vs c.own r.0, r.1))

  pub write_follows : (w : OwnWrite) (call : Option ℕ) (a : AllAlone k (behind_as (w ∷ vs))) (b : AllAlone k (behind_as (w ∷ (vs ++ v ∷ [])))) (e : Entry) (c : Core)
      → CoreSo (writes_own k n w vs call a e) c → CoreSo (writes_own k n w (vs ++ v ∷ []) call b e) (write_is_asked (asked_at now v.ticket v.request word) c).core
  write_follows w call a b e c t = cores.go_on (writes_own k n w (vs ++ v ∷ []) call b e) (write_handed now word v c) (λ s i. let r = t s i in (writing_joins k v alone vs n w call a b e c.own r.0, r.1))

-- ---- its call is answered

-- which of the writes it is
module _ (k : List ℕ) (v : OwnWrite) (vs : List OwnWrite) (out call : ℕ) (same : out ≡ call) where
  abbrev first : Mine
  first = first_as v (Some out) true

  abbrev Over : List Write → Type 0
  Over ws = OverOf k (first ∷ behind_as vs) ws

  goes_as : (y : Write) → IsMine first y → sends call y ≡ true
  goes_as y i = ap (stage_sends call) i.stage ∙ ap (λ (m : ℕ). m == call) same ∙ number_itself call

  some_goes : (ws : List Write) → Over ws → (z : Write) × ((zs : List Write) × (filter (sends call) ws ≡ z ∷ zs))
  some_goes [] o = absurd o
  some_goes (y ∷ ws) (inl o) = (y, (filter (sends call) ws, ap (λ (b : Bool). cond b (y ∷ filter (sends call) ws) (filter (sends call) ws)) (goes_as y o.0)))
  some_goes (y ∷ ws) (inr o) = by (sends call y) (some_goes ws o.1)
    where
      by : (b : Bool) → ((z : Write) × ((zs : List Write) × (filter (sends call) ws ≡ z ∷ zs))) → (z : Write) × ((zs : List Write) × (cond b (y ∷ filter (sends call) ws) (filter (sends call) ws) ≡ z ∷ zs))
      by true h = (y, (filter (sends call) ws, refl))
      by false h = h

  abbrev pub Found : List Write → Type 0
  Found ws = (x : Write) × ((first_by (sends call) ws ≡ Some x) × (covers x k ≡ true))

  found_own : (ws : List Write) → Over ws → at_most_one (filter (sends call) ws) ≡ true → Found ws
  found_own [] o once = absurd o
  found_own (y ∷ ws) (inl o) once = (y, (ap (λ (b : Bool). cond b (Some y) (first_by (sends call) ws)) (goes_as y o.0), o.1.0))
  found_own (y ∷ ws) (inr o) once = by (sends call y) once (found_own ws o.1) (some_goes ws o.1)
    where
      by : (b : Bool) → at_most_one (cond b (y ∷ filter (sends call) ws) (filter (sends call) ws)) ≡ true → (at_most_one (filter (sends call) ws) ≡ true → Found ws) → ((z : Write) × ((zs : List Write) × (filter (sends call) ws ≡ z ∷ zs)))
          → (x : Write) × ((cond b (Some y) (first_by (sends call) ws) ≡ Some x) × (covers x k ≡ true))
      by true f more h = no_true (ap (λ (xs : List Write). at_most_one (y ∷ xs)) (sym h.1.1) ∙ f)
      by false f more h = more f

  is_write : (o : Option WaitJob) → passes is_write_job o ≡ true → o ≡ Some wait.Write
  is_write None e = no_true e
  is_write (Some (wait.Rescind j create)) e = no_true e
  is_write (Some (wait.Revoke j)) e = no_true e
  is_write (Some wait.Write) e = refl

  job_is : (x : Write) (waiting : List WaitCall) → IsMine first x → is_write_out waiting x.stage ≡ true → job_of call waiting ≡ Some wait.Write
  job_is x waiting i e =
      is_write (job_of call waiting) (ap (λ (m : ℕ). passes is_write_job (job_of m waiting)) (sym same) ∙ ap (is_write_out waiting) (sym i.stage) ∙ e)

  -- in the list
  pub the_first : (own : Ownership) → WritesOk own.waits.writes own.waits.out → Over own.waits.writes → Found own.waits.writes × (job_of call own.waits.out ≡ Some wait.Write)
  the_first own ok o =
      let f = found_own own.waits.writes o (ok.sends_once call) in
      (f, job_is f.0 own.waits.out (one_found k first (behind_as vs) (sends call) (sends_misses call vs) f.0 f.1.1 own.waits.writes o f.1.0) (first_has (sends call) (λ w. is_write_out own.waits.out w.stage) f.0 own.waits.writes ok.out f.1.0))

module _ (k : List ℕ) (n : ℕ) (v : OwnWrite) (vs : List OwnWrite) (out : ℕ) (alone : AllAlone k (behind_as (v ∷ vs))) (e : Entry) where
  abbrev Mid : Ownership → Type 0
  Mid own = OwnSo (writes_own k n v vs (Some out) alone e) own

  abbrev Again : Core → Type 0
  Again c = IsKeptIn k n e.create vs c

  own_done : (now : ℕ) (o : OutCall) (a : Answer) (c : Core) → out ≡ o.call → settles c.own.waits.prefix v.request (Some a) ≡ true → WritesOk c.own.waits.writes c.own.waits.out → Mid c.own → at c.acquires k ≡ None
      → Again (writes_go_on (or_lost now o c (answered_job now o job.Wait a c)))
  own_done now o a c its s ok t none =
      by (answered o.call a (moment c now).session (moment c now).now c.own) (own_answered k n v vs out alone e o.call a (moment c now).session (moment c now).now f.0.0 c.own f.1 f.0.1.0 f.0.1.1 s t)
    where
      f : Found k v vs out o.call its c.own.waits.writes × (job_of o.call c.own.waits.out ≡ Some wait.Write)
      f = the_first k v vs out o.call its c.own ok (t.over refl)

      by : (z : Option Ending) → After k n v vs out alone e z → Again (writes_go_on (or_lost now o c (reads_if c (answered_by (moment c now) z (reads_of c)))))
      by None h = absurd h
      by (Some z) h = ready_goes_on k n e.create vs h.entry h.held h.created alone.1 (with_reads c (released true (moment c now) (ending z (reads_of c)))) (released_ready k h.entry vs true (moment c now) (ending z (reads_of c)) (h.ready, none))

  own_heard : (now : ℕ) (o : OutCall) (h : Option Answer) (c : Core) → o.job ≡ job.Wait → out ≡ o.call → settles c.own.waits.prefix v.request h ≡ true → WritesOk c.own.waits.writes c.own.waits.out → Mid c.own → at c.acquires k ≡ None
      → Again (writes_go_on (heard_call now o h c))
  own_heard now o None c j its s ok t none = no_true s
  own_heard now o (Some a) c j its s ok t none = subst (λ (y : OutJob). Again (writes_go_on (or_lost now o c (answered_job now o y a c)))) (sym j) (own_done now o a c its s ok t none)

  -- the call that is answered
  pub record IsFound (call : ℕ) (d : Core) : Type 0 where
    pub out_call : OutCall
    pub is : out_at call d.out ≡ Some out_call
    pub waits : out_call.job ≡ job.Wait
    pub its : out ≡ out_call.call

  -- the answer to the call of the first of the owner's own writes
  pub own_answer : (now call : ℕ) (a : Answer) (d : Core) → (seat_is n d.seat ≡ true → IsFound call d) → settles_as d.settings.namespace d.own.waits.prefix v.request (Some a) ≡ true → WritesOk d.own.waits.writes d.own.waits.out
      → CoreSo (writes_own k n v vs (Some out) alone e) d → Again (on_answer now call a d).core
  unfolding on_answer
  own_answer now call a d found s ok t = by_seat (seat_is n d.seat) refl
    where
      by_answer : (o : OutCall) → o.job ≡ job.Wait → out ≡ o.call → (b : Answer) → a ≡ b → seat_is n d.seat ≡ true → Again (writes_go_on (answered_call now o b (call_gone call d)))
      by_answer o j its (Done reply) f y =
          let r = t y tt in
          own_heard now o (heard d.settings.namespace (Done reply)) (answer_taken (Done reply) (call_gone call d)) j its (ap (λ (x : Answer). settles d.own.waits.prefix v.request (heard d.settings.namespace x)) (sym f) ∙ s) ok r.0 r.1
      by_answer o j its (Refused x) f y =
          let r = t y tt in
          own_heard now o (heard d.settings.namespace (Refused x)) (answer_taken (Refused x) (call_gone call d)) j its (ap (λ (x : Answer). settles d.own.waits.prefix v.request (heard d.settings.namespace x)) (sym f) ∙ s) ok r.0 r.1

      clash : {A : Type 0} → seat_is n d.seat ≡ false → seat_is n d.seat ≡ true → A
      clash f g = absurd (let z : false ≡ true = sym f ∙ g in cc)

      by_seat : (b : Bool) → seat_is n d.seat ≡ b → Again (answer_of now call a (out_at call d.out) d).core
      by_seat true y = let g = found y in subst (λ (q : Option OutCall). Again (answer_of now call a q d).core) (sym g.is) (by_answer g.out_call g.waits g.its a refl y)
      by_seat false y = unseated_kept k n e.create vs alone.1 (answer_of now call a (out_at call d.out) d).core (λ u. (cores.answered_so (absent k n) now call a d (λ p g. ((λ u i h. clash y u), ((λ c. tt), tt))) (λ u. clash y u) u tt).1)

  -- ---- which call that is

  is_wait_job : (j : OutJob) → is_wait j ≡ true → j ≡ job.Wait
  is_wait_job job.Wait h = refl
  is_wait_job (job.Grant lease) h = no_true h
  is_wait_job (job.Keep lease) h = no_true h
  is_wait_job (job.Acquire i) h = no_true h
  is_wait_job (job.Ask j) h = no_true h
  is_wait_job (job.Group lease) h = no_true h

  -- a number among those of calls of writes and entries
  numbered_wait : (call : ℕ) (xs : List OutCall) (o : OutCall) → once (numbers_of xs) ≡ true → out_at call xs ≡ Some o → has_number (wait_numbers xs) call ≡ true → (is_wait o.job ≡ true) × (o.call ≡ call)
  numbered_wait call [] o u f h = absurd (cc)
  numbered_wait call (x ∷ xs) o u f h = by_call (λ g m. numbered_wait call xs o (and_second (not (has_number (numbers_of xs) x.call)) (once (numbers_of xs)) u) g m) (x.call == call) refl f
    where
      same_out : (y z : OutCall) → Some y ≡ Some z → y ≡ z
      same_out y z g = cc

      fewer : (ys : List OutCall) → has_number (numbers_of ys) call ≡ false → has_number (wait_numbers ys) call ≡ false
      fewer [] g = refl
      fewer (y ∷ ys) g = by (is_wait y.job) (fewer ys p.1)
        where
          p : ((y.call == call) ≡ false) × (has_number (numbers_of ys) call ≡ false)
          p = or_parts (y.call == call) (has_number (numbers_of ys) call) g

          by : (b : Bool) → has_number (wait_numbers ys) call ≡ false → has_number (map (λ (z : OutCall). z.call) (cond b (y ∷ filter (λ (z : OutCall). is_wait z.job) ys) (filter (λ (z : OutCall). is_wait z.job) ys))) call ≡ false
          by true m = ap (λ (b : Bool). b || has_number (wait_numbers ys) call) p.0 ∙ m
          by false m = m

      only : has_number (numbers_of xs) x.call ≡ false
      only = not_true (has_number (numbers_of xs) x.call) (and_first (not (has_number (numbers_of xs) x.call)) (once (numbers_of xs)) u)

      by_wait : (b : Bool) → is_wait x.job ≡ b → (x.call == call) ≡ true → has_number (map (λ (z : OutCall). z.call) (cond b (x ∷ filter (λ (z : OutCall). is_wait z.job) xs) (filter (λ (z : OutCall). is_wait z.job) xs))) call ≡ true → is_wait x.job ≡ true
      by_wait true w c m = w
      by_wait false w c m =
          absurd (let z : true ≡ false = sym m ∙ fewer xs (ap (has_number (numbers_of xs)) (sym (same_number x.call call c)) ∙ only) in cc)

      behind : (b : Bool) → (x.call == call) ≡ false → has_number (map (λ (z : OutCall). z.call) (cond b (x ∷ filter (λ (z : OutCall). is_wait z.job) xs) (filter (λ (z : OutCall). is_wait z.job) xs))) call ≡ true → has_number (wait_numbers xs) call ≡ true
      behind true c m = sym (ap (λ (b : Bool). b || has_number (wait_numbers xs) call) c) ∙ m
      behind false c m = m

      by_call : (out_at call xs ≡ Some o → has_number (wait_numbers xs) call ≡ true → (is_wait o.job ≡ true) × (o.call ≡ call)) → (b : Bool) → (x.call == call) ≡ b → cond b (Some x) (out_at call xs) ≡ Some o → (is_wait o.job ≡ true) × (o.call ≡ call)
      by_call more true c g = let is = same_out x o g in (ap (λ (y : OutCall). is_wait y.job) (sym is) ∙ by_wait (is_wait x.job) refl c h, ap (λ (y : OutCall). y.call) (sym is) ∙ same_number x.call call c)
      by_call more false c g = more g (behind (is_wait x.job) c h)

  has_call : (call : ℕ) (xs : List WaitCall) → job_of call xs ≡ Some wait.Write → has_number (calls_of xs) call ≡ true
  has_call call [] h = absurd (cc)
  has_call call (x ∷ xs) h = by (x.call == call) h (λ g. has_call call xs g)
    where
      by : (b : Bool) → cond b (Some x.job) (job_of call xs) ≡ Some wait.Write → (job_of call xs ≡ Some wait.Write → has_number (calls_of xs) call ≡ true) → b || has_number (calls_of xs) call ≡ true
      by true g more = refl
      by false g more = more g

  -- where it is answered
  pub own_found : (now call : ℕ) (a : Answer) (d : Core) (o : Outcome) → out ≡ call → Agrees d → (on_answer now call a d).outcome ≡ Ok o → Mid d.own → IsFound call d
  unfolding on_answer
  own_found now call a d o its agrees is t = by (out_at call d.out) refl is
    where
      numbered : has_number (wait_numbers d.out) call ≡ true
      numbered = ap (λ (ns : List ℕ). has_number ns call) (sym agrees.numbers.waits) ∙ has_call call d.own.waits.out (the_first k v vs out call its d.own agrees.writes (t.over refl)).1

      by : (q : Option OutCall) → out_at call d.out ≡ q → (answer_of now call a q d).outcome ≡ Ok o → IsFound call d
      by None g h = absurd (cc)
      by (Some x) g h = let w = numbered_wait call d.out x agrees.numbers.once g numbered in record { out_call = x; is = g; waits = is_wait_job x.job w.0; its = its ∙ sym w.1 }

-- ---- whole steps

module _ (k : List ℕ) (n : ℕ) where
  -- behind the step of the answer
  pub own_step_answered : (v : OwnWrite) (vs : List OwnWrite) (out : ℕ) (alone : AllAlone k (behind_as (v ∷ vs))) (e : Entry) (now call : ℕ) (a : Answer) (c : Core) (o : Outcome) → is_worn c ≡ false
      → cores.OnTime (writes_own k n v vs (Some out) alone e) now c
      → let d = clock_work now c in out ≡ call → Agrees d → (happened now (event.Answer call a) d).outcome ≡ Ok o → settles_as d.settings.namespace d.own.waits.prefix v.request (Some a) ≡ true
      → CoreSo (writes_own k n v vs (Some out) alone e) c → IsKeptIn k n e.create vs (stepped c (event.Answer call a) now).core
  own_step_answered v vs out alone e now call a c o fresh late its agrees is s so =
      let d = clock_work now c in
      let t = cores.clock_by (writes_own k n v vs (Some out) alone e) now c late so in
      let r = own_answer k n v vs out alone e now call a d (λ y. own_found k n v vs out alone e now call a d o its agrees is (t y tt).0) s agrees.writes t in
      subst (λ (z : Stepped). IsKeptIn k n e.create vs z.core) (sym (stepped_is c (event.Answer call a) now fresh)) (counted_kept k n e.create vs (happened now (event.Answer call a) d) r)
