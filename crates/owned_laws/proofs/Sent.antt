-- The sending of an acquire: the call that takes the key under a session is the acquire of that key, and stands as out then.
use Rattle.std.proofs.Common.{◌≡◌, inl, inr, ℕ, suc, ◌+◌, ◌≤◌, ◌==◌, Bool, true, false, cond, ◌&&◌, ◌||◌, List, [], ◌∷◌, ◌++◌, length, length-append, Option, None, Some, Result, Ok, refl, sym, ◌∙◌, ap, subst, arith}
use Rattle.std.specs.List.{list_any}
use Rattle.std.specs.Option.{option_map}
use Rattle.etcd_types.specs.declared.operation.Op.{Op}
use Rattle.etcd_types.specs.declared.operation.Op.TheVariants as op
use Rattle.etcd_types.specs.declared.request.Request.{Request}
use Rattle.etcd_types.specs.declared.request.Request.TheVariants as request
use Rattle.etcd_types.specs.Keys.{same}
use Rattle.etcd_types.proofs.Bools.{and_first, and_second, and_both}
use Rattle.etcd_types.proofs.KeyOrder.{same-equal, same-itself}
use Rattle.proxy_model.specs.declared.lease.Entry.{Entry}
use Rattle.proxy_model.specs.Acquire.{acquire}
use Rattle.proxy_model.specs.Keyed.{at}
use Rattle.proxy_model.specs.Leaving.{rescind}
use Rattle.proxy_model.specs.RequestRefusals.{is_session, names_session, op_names_session}
use Rattle.proxy_model.specs.Wrapped.{request_under}
use Rattle.proxy_model.proofs.KeyedLaws.{at-with_at}
use Rattle.wait_model.specs.declared.write.Write.{Write}
use Rattle.wait_model.specs.Covers.{covers}
use Rattle.wait_model.specs.DueOrder.{first_rescind}
use Rattle.wait_model.specs.Sent.{JobSent, rescind_job, job_sent_after, job_sent}
use Rattle.wait_model.specs.State.{Ownership}
use Rattle.read_model.specs.declared.acquire.Acquire.{Acquire}
use Rattle.read_model.specs.Acquires.{sent_out}
use Rattle.read_model.specs.SessionEnd.{is_due}
use Rattle.watch_model.specs.Due.{next_job}
use Rattle.watch_model.specs.declared.stream.StreamJob.{StreamJob}
use Rattle.watch_model.specs.declared.stream.StreamJob.TheVariants as stream
use Rattle.core_model.specs.declared.event.Job.TheVariants as sent
use Rattle.core_model.specs.declared.event.Outcome.{Outcome}
use Rattle.core_model.specs.declared.event.Outcome.TheVariants as outcome
use Rattle.core_model.specs.declared.event.StepFault.{StepFault}
use Rattle.core_model.specs.declared.out_call.OutJob.{OutJob}
use Rattle.core_model.specs.declared.out_call.OutJob.TheVariants as job
use Rattle.core_model.specs.DueJobs.{DueJob, ForSession, ForWrites, ForAcquire, ForAsk, ForGroup, ToOpen, ForStream, first_job}
use Rattle.core_model.specs.Sending.{next_call, out_call, sent_by, writes_sent, on_work}
use Rattle.core_model.specs.Sessions.{session_request}
use Rattle.core_model.specs.State.{Core}
use Rattle.core_model.specs.Watching.{stream_job, with_watches}
use Rattle.core_laws.proofs.Steps.Lists.{same_number, number_itself}
use Rattle.cached_laws.specs.Awaited.{is_due_for}
use Rattle.owned_laws.specs.OwnWrites.{OwnWrite}
use Rattle.owned_laws.specs.Owned.{owner_key, puts_under, takes_under, rescinds}
use Rattle.owned_laws.proofs.Cores.{CoreSo, Stands}
use Rattle.owned_laws.proofs.Modes.{AllAlone, behind_as, Parts, ThereOf}
use Rattle.owned_laws.proofs.Own.{OverOf}
use Rattle.owned_laws.proofs.Ways.{present, asking, sending_as}

no_true : {A : Type 0} → false ≡ true → A
no_true e = absurd (cc)

clash : {A : Type 0} (b : Bool) → b ≡ true → b ≡ false → A
clash true e f = absurd (cc)
clash false e f = absurd (cc)

-- ---- other requests take nothing

or_parts : (a b : Bool) → a || b ≡ false → (a ≡ false) × (b ≡ false)
or_parts true b h = absurd (cc)
or_parts false b h = (refl, h)

puts_apart : (owner : List ℕ) (n : ℕ) (o : Op) → is_session n ≡ true → op_names_session o ≡ false → puts_under owner n o ≡ false
puts_apart owner n (op.Put ask) h a = by (ask.lease == n) refl
  where
    and_none : (b : Bool) → b && false ≡ false
    and_none true = refl
    and_none false = refl

    by : (b : Bool) → (ask.lease == n) ≡ b → same ask.key owner && b ≡ false
    by true e = absurd (let f : true ≡ false = sym h ∙ ap is_session (sym (same_number ask.lease n e)) ∙ a in cc)
    by false e = and_none (same ask.key owner)
puts_apart owner n (op.Range ask) h a = refl
puts_apart owner n (op.Delete ask) h a = refl
puts_apart owner n (op.Txn' compare m success j failure) h a = refl

all_apart : (owner : List ℕ) (n : ℕ) (ops : List Op) → is_session n ≡ true → list_any op_names_session ops ≡ false → list_any (puts_under owner n) ops ≡ false
all_apart owner n [] h a = refl
all_apart owner n (o ∷ ops) h a =
    let p = or_parts (op_names_session o) (list_any op_names_session ops) a in
    ap (λ (b : Bool). b || list_any (puts_under owner n) ops) (puts_apart owner n o h p.0) ∙ all_apart owner n ops h p.1

pub takes_apart : (owner : List ℕ) (n : ℕ) (q : Request) → is_session n ≡ true → names_session q ≡ false → takes_under owner n q ≡ false
takes_apart owner n (request.Txn t) h a = all_apart owner n t.success h (or_parts (list_any op_names_session t.success) (list_any op_names_session t.failure) a).0
takes_apart owner n (request.Range ask) h a = refl
takes_apart owner n (request.Put ask) h a = refl
takes_apart owner n (request.Delete ask) h a = refl
takes_apart owner n (request.Compact revision physical) h a = refl
takes_apart owner n (request.Grant ttl lease) h a = refl
takes_apart owner n (request.Revoke lease) h a = refl
takes_apart owner n (request.KeepAlive lease) h a = refl
takes_apart owner n (request.TimeToLive lease keys) h a = refl
takes_apart owner n request.Leases h a = refl
takes_apart owner n (request.Watch ask) h a = refl

-- ---- an acquire takes its key

behind_equal : (xs ys zs : List ℕ) → xs ++ ys ≡ xs ++ zs → ys ≡ zs
behind_equal [] ys zs e = e
behind_equal (x ∷ xs) ys zs e = behind_equal xs ys zs (tail_of (xs ++ ys) (xs ++ zs) x e)
  where
    tail_of : (ys zs : List ℕ) (x : ℕ) → x ∷ ys ≡ x ∷ zs → ys ≡ zs
    tail_of ys zs x e = cc

or_false : (b : Bool) → b || false ≡ true → b ≡ true
or_false true h = refl
or_false false h = no_true h

pub acquire_takes : (namespace prefix i k : List ℕ) (session n : ℕ) → takes_under (owner_key namespace prefix k) n (request_under namespace (request.Txn (acquire prefix i session))) ≡ true → (i ≡ k) × (session ≡ n)
acquire_takes namespace prefix i k session n h =
    let put = or_false (same (namespace ++ (prefix ++ i)) (namespace ++ (prefix ++ k)) && session == n) h in (
      behind_equal prefix i k (behind_equal namespace (prefix ++ i) (prefix ++ k) (same-equal (namespace ++ (prefix ++ i)) (namespace ++ (prefix ++ k)) (and_first (same (namespace ++ (prefix ++ i)) (namespace ++ (prefix ++ k))) (session == n) put))),
      same_number session n (and_second (same (namespace ++ (prefix ++ i)) (namespace ++ (prefix ++ k))) (session == n) put),
    )

-- ---- a rescind is told by what it compares

pub rescind_tells : (namespace prefix k : List ℕ) (create : ℕ) → rescinds (owner_key namespace prefix k) create (request_under namespace (request.Txn (rescind prefix k create))) ≡ true
rescind_tells namespace prefix k create =
    ap (λ (b : Bool). (b && create == create) || false) (same-itself (namespace ++ (prefix ++ k))) ∙ ap (λ (b : Bool). b || false) (number_itself create)

some_sent : (a b : JobSent) → Some a ≡ Some b → a ≡ b
some_sent a b e = cc

pub rescind_due : (call : ℕ) (own : Ownership) (x : List ℕ × Entry) (s : JobSent) → first_rescind own.entries ≡ Some x → job_sent call own ≡ Some s → s.due.request ≡ request.Txn (rescind own.waits.prefix x.0 x.1.create)
unfolding job_sent
rescind_due call own x s f e = ap (λ (y : JobSent). y.due.request) (sym (some_sent (rescind_job call x own) s (ap (λ (o : Option (List ℕ × Entry)). job_sent_after call o own) (sym f) ∙ e)))

-- what goes out of writes and entries
pub writes_out : (now : ℕ) (d : Core) (s : JobSent) → first_job d ≡ Some ForWrites → job_sent (next_call d) d.own ≡ Some s → (on_work now d).outcome ≡ Ok (outcome.Job (Some (sent.Call (next_call d) d.members.current s.due.ticket (request_under d.settings.namespace s.due.request))))
unfolding on_work
writes_out now d s f e = ap (λ (j : Option DueJob). (sent_by now j d).outcome) f ∙ ap (λ (o : Option JobSent). (writes_sent now o d).outcome) e

-- ---- the writes that are over the key are those that are there

-- as many at least
there_count : (k : List ℕ) (vs us : List OwnWrite) (ws : List Write) → ThereOf k vs ws → OverOf k (behind_as us) ws → length vs ≤ length us
there_count k [] us ws h o = omega (arith)
there_count k (v ∷ vs) us [] h o = absurd h
there_count k (v ∷ vs) [] (x ∷ ws) (inl h) o = clash (covers x k) h.0.over (or_parts (covers x k) (list_any (λ y. covers y k) ws) o).0
there_count k (v ∷ vs) [] (x ∷ ws) (inr h) o = there_count k (v ∷ vs) [] ws h (or_parts (covers x k) (list_any (λ y. covers y k) ws) o).1
there_count k (v ∷ vs) (u ∷ us) (x ∷ ws) (inl h) (inl o) = one_more (length vs) (length us) (there_count k vs us ws h.1 o.1.1)
  where
    one_more : (a b : ℕ) → a ≤ b → suc a ≤ suc b
    one_more a b l = omega (arith, l)
there_count k (v ∷ vs) (u ∷ us) (x ∷ ws) (inl h) (inr o) = clash (covers x k) h.0.over o.0
there_count k (v ∷ vs) (u ∷ us) (x ∷ ws) (inr h) (inl o) = one_less (length vs) (length us) (there_count k (v ∷ vs) us ws h o.1.1)
  where
    one_less : (a b : ℕ) → suc a ≤ b → suc a ≤ suc b
    one_less a b l = omega (arith, l)
there_count k (v ∷ vs) (u ∷ us) (x ∷ ws) (inr h) (inr o) = there_count k (v ∷ vs) (u ∷ us) ws h o.1

-- a rest that is as long is the whole
whole_rest : (front rest : List OwnWrite) → length (front ++ rest) ≤ length rest → front ≡ []
whole_rest [] rest l = refl
whole_rest (v ∷ vs) rest l = absurd (no_more (length (vs ++ rest)) (length vs) (length rest) (length-append vs rest) l)
  where
    no_more : (m a b : ℕ) → m ≡ a + b → suc m ≤ b → ⊥
    no_more m a b e l = absurd (omega (arith, e, l))

all_there : (k : List ℕ) (vs : List OwnWrite) (c : Parts vs) (ws : List Write) → ThereOf k vs ws → OverOf k (behind_as c.rest) ws → c.rest ≡ vs
all_there k vs c ws h o =
    let none = whole_rest c.front c.rest (subst (λ (us : List OwnWrite). length us ≤ length c.rest) c.is (there_count k vs c.rest ws h o)) in
    sym (c.is ∙ ap (λ (us : List OwnWrite). us ++ c.rest) none)

-- ---- the acquire goes out

-- a client's call
abbrev pub is_client : OutJob → Bool
is_client job.Wait = true
is_client (job.Ask j) = true
is_client _ = false

-- what else is out than the acquire takes nothing
abbrev pub ClientsApart : ℕ → ℕ → Core → Request → Type 0
ClientsApart now own d q = (j : OutJob) → is_client j ≡ true → next_call d ≡ own → (on_work now d).core.out ≡ d.out ++ out_call now j d ∷ [] → names_session q ≡ false

module _ (namespace leasing k : List ℕ) (n own member t now : ℕ) (vs : List OwnWrite) (alone : AllAlone k (behind_as vs)) (q : Request) (d : Core) (named : d.settings.namespace ≡ namespace) (prefix : d.own.waits.prefix ≡ leasing) (numbered : is_session n ≡ true)
    (takes : takes_under (owner_key namespace leasing k) n q ≡ true) (so : CoreSo (asking k t vs alone) d) (there : CoreSo (present k vs) d) where
  abbrev Gives : Request → ℕ → ℕ → Type 0
  Gives r t' own' = ◌≡◌ {A = Result Outcome StepFault} (Ok (outcome.Job (Some (sent.Call own' d.members.current t' (request_under d.settings.namespace r))))) (Ok (outcome.Job (Some (sent.Call own member t q))))

  same_call : (r : Request) (t' own' : ℕ) → Gives r t' own' → (request_under d.settings.namespace r ≡ q) × ((t' ≡ t) × (own' ≡ own))
  same_call r t' own' e = ((cc), ((cc), (cc)))

  abbrev Out : Core → Type 0
  Out c = CoreSo (sending_as k own n vs alone) c

  nothing : {A : Type 0} → takes_under (owner_key namespace leasing k) n q ≡ false → A
  nothing f = no_true (sym f ∙ takes)

  acquired : (i : List ℕ) (x : Acquire) → at d.acquires i ≡ Some x → is_due x.sending ≡ true → Gives (request.Txn (acquire d.own.waits.prefix i x.session)) x.ticket (next_call d) → Out (sent_by now (Some (ForAcquire i x)) d).core
  acquired i x f due e =
      let s = same_call (request.Txn (acquire d.own.waits.prefix i x.session)) x.ticket (next_call d) e in
      let r : request_under namespace (request.Txn (acquire leasing i x.session)) ≡ q =
      ap (λ (y : List ℕ). request_under y (request.Txn (acquire leasing i x.session))) (sym named) ∙ ap (λ (y : List ℕ). request_under d.settings.namespace (request.Txn (acquire y i x.session))) (sym prefix) ∙ s.0 in
      let both = acquire_takes namespace leasing i k x.session n (ap (takes_under (owner_key namespace leasing k) n) r ∙ takes) in
      let here : at d.acquires k ≡ Some x = ap (at d.acquires) (sym both.0) ∙ f in
      let due_for : is_due_for t (at d.acquires k) ≡ true =
      ap (is_due_for t) here ∙ and_both (x.ticket == t) (is_due x.sending) (ap (λ (m : ℕ). m == t) s.1.0 ∙ number_itself t) due in
      let g = (so tt due_for).0 in
      λ y z. (
        record {
          case = tt;
          outs = tt;
          there = tt;
          over = λ y. subst (λ (us : List OwnWrite). OverOf k (behind_as us) d.own.waits.writes) (all_there k vs g.case d.own.waits.writes (there tt tt).0.there (g.over refl)) (g.over refl);
          mark = λ y. g.mark refl;
          entry = λ y. no_true y;
        },
        record {
          acquire = sent_out (next_call d) x;
          stands = at-with_at d.acquires i k (option_map (sent_out (next_call d)) (at d.acquires i)) ∙ ap (λ (b : Bool). cond b (option_map (sent_out (next_call d)) (at d.acquires i)) (at d.acquires k)) (ap (λ (l : List ℕ). same l k) both.0 ∙ same-itself k) ∙ ap (option_map (sent_out (next_call d))) f;
          out = ap (λ (m : ℕ). Rattle.wait_model.specs.declared.sending.Sending.TheVariants.Out m) s.1.1;
          session = both.1;
        },
      )

  none_given : {A : Type 0} → ◌≡◌ {A = Result Outcome StepFault} (Ok (outcome.Job None)) (Ok (outcome.Job (Some (sent.Call own member t q)))) → A
  none_given e = absurd (cc)

  by_due : (j : Option DueJob) → Stands d j → (on_work now d).core ≡ (sent_by now j d).core → ClientsApart now own d q → (sent_by now j d).outcome ≡ Ok (outcome.Job (Some (sent.Call own member t q))) → Out (sent_by now j d).core
  by_due None s same a e = none_given e
  by_due (Some (ForSession x)) s same a e = by_standing x.standing (same_call (session_request d.settings.ttl x x.standing) 0 (next_call d) e).0
    where
      by_standing : (st : Option Rattle.proxy_model.specs.declared.session.Standing.Standing) → request_under d.settings.namespace (session_request d.settings.ttl x st) ≡ q → Out (sent_by now (Some (ForSession x)) d).core
      by_standing None f = nothing (ap (takes_under (owner_key namespace leasing k) n) (sym f))
      by_standing (Some y) f = nothing (ap (takes_under (owner_key namespace leasing k) n) (sym f))
  by_due (Some ForWrites) s same a e = by_sent (job_sent (next_call d) d.own) (ap (λ (c : Core). c.out) same) e
    where
      by_sent : (o : Option JobSent) → (on_work now d).core.out ≡ (writes_sent now o d).core.out → (writes_sent now o d).outcome ≡ Ok (outcome.Job (Some (sent.Call own member t q))) → Out (writes_sent now o d).core
      by_sent None f g = none_given g
      by_sent (Some x) f g = nothing (takes_apart (owner_key namespace leasing k) n q numbered (a job.Wait refl (same_call x.due.request x.due.ticket (next_call d) g).1.1 f))
  by_due (Some (ForAcquire i x)) s same a e = acquired i x s.0 s.1 e
  by_due (Some (ForAsk x)) s same a e = nothing (takes_apart (owner_key namespace leasing k) n q numbered (a (job.Ask (Rattle.core_model.specs.Kinds.kind_of x.request)) refl (same_call (Rattle.proxy_model.specs.PassingOn.numbered x.word x.request) x.ticket (next_call d) e).1.1 (ap (λ (c : Core). c.out) same)))
  by_due (Some (ForGroup lease ticket)) s same a e = nothing (ap (takes_under (owner_key namespace leasing k) n) (sym (same_call (request.KeepAlive lease) ticket (next_call d) e).0))
  by_due (Some (ToOpen x)) s same a e = absurd (cc)
  by_due (Some (ForStream x)) s same a e = by_job (next_job d.watches (Some x)).1 e
    where
      by_job : (o : Option StreamJob) → (stream_job o (with_watches d (next_job d.watches (Some x)).0)).outcome ≡ Ok (outcome.Job (Some (sent.Call own member t q))) → Out (stream_job o (with_watches d (next_job d.watches (Some x)).0)).core
      by_job None f = absurd (cc)
      by_job (Some (stream.Close number)) f = absurd (cc)
      by_job (Some (stream.Open number range start)) f = absurd (cc)

  pub acquire_out : Stands d (first_job d) → ClientsApart now own d q → (on_work now d).outcome ≡ Ok (outcome.Job (Some (sent.Call own member t q))) → Out (on_work now d).core
  unfolding on_work
  acquire_out s a e = by_due (first_job d) s refl a e
