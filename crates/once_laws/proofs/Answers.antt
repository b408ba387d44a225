-- What is known of the writes of a proxy's life as a call is answered, and as replies are taken.
use Rattle.std.proofs.Common.{◌≡◌, ◌≢◌, ◌⊎◌, inl, inr, ℕ, ◌==◌, Bool, true, false, cond, List, [], ◌∷◌, ◌++◌, Option, None, Some, Result, Ok, Err, refl, sym, ◌∙◌, ap, subst}
use Rattle.etcd_types.specs.declared.answer.Answer.{Answer}
use Rattle.etcd_types.specs.declared.answer.Answer.TheVariants.{Done, Refused}
use Rattle.etcd_types.specs.declared.answer.Refusal.{Refusal}
use Rattle.etcd_types.specs.declared.answer.Reply.{Reply}
use Rattle.etcd_types.specs.declared.request.Request.{Request}
use Rattle.etcd_types.specs.Keys.{is_empty}
use Rattle.read_model.specs.declared.asked.Asked.{Asked}
use Rattle.read_model.specs.declared.asked.Stage.{Stage}
use Rattle.read_model.specs.declared.asked.Stage.TheVariants as stage
use Rattle.read_model.specs.declared.asked.Verdict.{Verdict}
use Rattle.read_model.specs.declared.asked.Verdict.TheVariants as verdict
use Rattle.watch_model.specs.Lookups.{watch_at}
use Rattle.watch_model.specs.State.{Watch, Broadcasts}
use Rattle.watch_model.specs.Takes as watches
use Rattle.etcd_types.specs.declared.watch.WatchItem.{WatchItem}
use Rattle.core_model.specs.declared.event.Outcome.{Outcome}
use Rattle.core_model.specs.declared.event.Outcome.TheVariants as outcome
use Rattle.core_model.specs.declared.event.StepFault.{StepFault}
use Rattle.core_model.specs.declared.out_call.OutCall.{OutCall}
use Rattle.core_model.specs.declared.out_call.OutJob.{OutJob}
use Rattle.core_model.specs.declared.out_call.OutJob.TheVariants as job
use Rattle.core_model.specs.Heard.{heard, is_known}
use Rattle.core_model.specs.Kinds.{writes_keys}
use Rattle.core_model.specs.Lookups.{ask_at, out_at}
use Rattle.core_model.specs.State.{Core}
use Rattle.core_model.specs.Takes.{item_taken, taken, on_take}
use Rattle.core_model.specs.Takes as takes
use Rattle.core_model.specs.Verdicts.{reply_of}
use Rattle.core_model.specs.Watching.{taken_item}
use Rattle.core_laws.proofs.Steps.Lists.{same_number}
use Rattle.keep_laws.proofs.Rows.{All}
use Rattle.keep_laws.proofs.Runs.{found}
use Rattle.script_text.specs.declared.item.Item.{Item}
use Rattle.script_text.specs.declared.item.Item.TheVariants as item
use Rattle.world_model.specs.Lives.{asked_as}
use Rattle.renewed_laws.proofs.Stories.{Executed}
use Rattle.once_laws.specs.Once.{Did}
use Rattle.once_laws.proofs.Did.{hears_refused, refused_did_not, blocked_did_not, wrote_did, done_did}
use Rattle.once_laws.proofs.FreeCore.{AtStage, AskFree, CoreFree, Ends, EndsIf, KindsOf, KindsAt}
use Rattle.once_laws.proofs.Holds.{NotDid, spared, Alone, Asks, NoneOf, DidOf, OnlyOf}
use Rattle.once_laws.proofs.OfKinds.{KindAt, KindsOk, kinds_of}
use Rattle.once_laws.proofs.Named.{named_more}
use Rattle.once_laws.proofs.Sending.{Off, On, IsItself, IsBehind, FreeIn}

same_ask : (a b : Request) → Some a ≡ Some b → a ≡ b
same_ask a b e = cc

same_call : (a b : ℕ) → Some a ≡ Some b → a ≡ b
same_call a b e = cc

-- ---- what an answer tells

-- the call of this number at the proxy was executed to this answer
module _ (namespace prefix : List ℕ) (p : ℕ) (items told : List Item) (own : ℕ → Option ℕ) (call number : ℕ) (a : Answer) (placed : own call ≡ Some number) (executed : Executed number a items) where
  its : (c : ℕ) → own call ≡ Some c → c ≡ number
  its c e = same_call c number (sym e ∙ placed)

  none_of : (R : Request → Request → Type 0) (t : ℕ) → ((q sent : Request) → R q sent → Did namespace prefix q sent a → ⊥) → OnlyOf namespace prefix p items told own R t call → NoneOf namespace prefix p items told t
  none_of R t n o x k e w = subst (λ (q : Request). Rattle.once_laws.proofs.Named.AllNamed p t (NotDid namespace prefix p items q) told) same (named_more p t _ _ (λ c r h. by c r h) told b.others)
    where
      same : o.request ≡ x
      same = same_ask o.request x (sym o.asked ∙ e)

      b : Alone namespace prefix p items told own R t call o.request
      b = o.so k (ap writes_keys same ∙ w)

      by : (c : ℕ) (r : Request) → ((c ≡ b.call) × (r ≡ b.sent)) ⊎ NotDid namespace prefix p items o.request c r → NotDid namespace prefix p items o.request c r
      by c r (inl h) = subst (λ (y : Request). NotDid namespace prefix p items o.request c y) (sym h.1) (spared a (subst (λ (i : ℕ). Executed i a items) (sym (h.0 ∙ its b.call b.numbered)) executed) (n o.request b.sent b.is))
      by c r (inr h) = h

  did_of : (R : Request → Request → Type 0) (t : ℕ) → ((q sent : Request) → writes_keys q ≡ true → R q sent → Did namespace prefix q sent a) → OnlyOf namespace prefix p items told own R t call → DidOf namespace prefix p items told t
  did_of R t d o = record {
    request = o.request;
    asked = o.asked;
    so = λ k w.
        let b = o.so k w in
        let e = subst (λ (i : ℕ). Executed i a items) (sym (its b.call b.numbered)) executed in
        record { call = b.call; member = b.member; sent = b.sent; unsent = b.unsent; later = b.later; named = b.named; answer = a; unexecuted = e.before; rest = e.after; executed = e.story; did = d o.request b.sent w b.is };
  }

  abbrev EndsNow : Option Answer → Type 0
  EndsNow q =
      EndsIf (NoneOf namespace prefix p items told) (DidOf namespace prefix p items told) (OnlyOf namespace prefix p items told own (IsItself prefix)) (OnlyOf namespace prefix p items told own (IsBehind namespace prefix)) (Off prefix) (On prefix) call q

  to_heard : (x : Answer) (y : Answer) → heard namespace a ≡ Some x → x ≡ y → heard namespace a ≡ Some y
  to_heard x y e f = e ∙ ap (λ (z : Answer). Some z) f

  pub ends_now : (q : Option Answer) → heard namespace a ≡ q → EndsNow q
  ends_now None e = tt
  ends_now (Some x) e = record {
    writes = record {
      refused = λ r f t o. none_of (IsBehind namespace prefix) t (λ q sent k. refused_did_not namespace prefix q sent a r (hears_refused namespace a r (to_heard x (Refused r) e f))) o;
      blocked = λ reply f i r os g t o. none_of (IsBehind namespace prefix) t (λ q sent k. blocked_did_not namespace prefix i q r sent a reply os k.0 k.1 (to_heard x (Done reply) e f) g) o;
      wrote = λ reply f i r given g t o. did_of (IsBehind namespace prefix) t (λ q sent w k. wrote_did namespace prefix i q r sent a reply given w k.1 (to_heard x (Done reply) e f) g) o;
    };
    refused = λ r f t o. none_of (IsItself prefix) t (λ q sent k. refused_did_not namespace prefix q sent a r (hears_refused namespace a r (to_heard x (Refused r) e f))) o;
    done = λ reply f t o. did_of (IsItself prefix) t (λ q sent w k. done_did namespace prefix q sent a reply k (to_heard x (Done reply) e f)) o;
  }

-- the requests that a call is of are of its kind
pub kinds_at : (N D : ℕ → Type 0) (A W : ℕ → ℕ → Type 0) (L M : Type 0) (call : ℕ) (c : Core) → KindsOk c → KindsAt N D A W L M (out_at call c.out) c.asks
kinds_at N D A W L M call c h = by (out_at call c.out) refl
  where
    by_job : (o : OutCall) (j : OutJob) → out_at call c.out ≡ Some o → o.job ≡ j → KindsOf N D A W L M o j c.asks
    by_job o (job.Ask k) e f = kinds_of call c.out o k c.asks e f h
    by_job o (job.Grant lease) e f = tt
    by_job o (job.Keep lease) e f = tt
    by_job o (job.Acquire k) e f = tt
    by_job o job.Wait e f = tt
    by_job o (job.Group lease) e f = tt

    by : (o : Option OutCall) → out_at call c.out ≡ o → KindsAt N D A W L M o c.asks
    by None e = tt
    by (Some o) e = by_job o o.job e refl

-- ---- replies

-- what a reply tells of the write that was asked under the ticket
abbrev pub Holds : (namespace prefix : List ℕ) (p : ℕ) (items told : List Item) (t : ℕ) → Answer → Type 0
Holds namespace prefix p items told t (Done reply) = DidOf namespace prefix p items told t
Holds namespace prefix p items told t (Refused r) = is_known r.code ≡ true → NoneOf namespace prefix p items told t

module _ (namespace prefix : List ℕ) (p : ℕ) (items told : List Item) (own : ℕ → Option ℕ) where
  abbrev Its : Asked → Type 0
  Its a = AskFree (NoneOf namespace prefix p items told) (DidOf namespace prefix p items told) (OnlyOf namespace prefix p items told own (IsItself prefix)) (OnlyOf namespace prefix p items told own (IsBehind namespace prefix)) (Off prefix) (On prefix) a

  abbrev At : ℕ → Stage → Type 0
  At t s = AtStage (NoneOf namespace prefix p items told) (DidOf namespace prefix p items told) (OnlyOf namespace prefix p items told own (IsItself prefix)) (OnlyOf namespace prefix p items told own (IsBehind namespace prefix)) (Off prefix) (On prefix) t s

  abbrev pub Known : Asked → Type 0
  Known x = asked_as p x.ticket told ≡ Some x.request

  -- none, where it isn't a write
  none_if : (t : ℕ) (r : Request) → asked_as p t told ≡ Some r → (writes_keys r ≡ true → NoneOf namespace prefix p items told t) → NoneOf namespace prefix p items told t
  none_if t r there f x k e w = f (ap writes_keys (same_ask r x (sym there ∙ e)) ∙ w) x k e w

  did_if : (t : ℕ) (r : Request) → asked_as p t told ≡ Some r → (writes_keys r ≡ true → DidOf namespace prefix p items told t) → DidOf namespace prefix p items told t
  did_if t r there f = record {
    request = r;
    asked = there;
    so = λ k w. let d = f w in subst (λ (q : Request). Rattle.once_laws.specs.Once.Run namespace prefix told items p t q) (same_ask d.request r (sym d.asked ∙ there)) (d.so k (ap writes_keys (same_ask d.request r (sym d.asked ∙ there)) ∙ w));
  }

  stands_holds : (t : ℕ) (r : Request) (v : Verdict) → asked_as p t told ≡ Some r → (writes_keys r ≡ true → At t (stage.Replied v)) → Holds namespace prefix p items told t (reply_of v)
  stands_holds t r (verdict.Said (Done reply)) there h = did_if t r there h
  stands_holds t r (verdict.Said (Refused x)) there h = λ k. none_if t r there h
  stands_holds t r verdict.TimedOut there h = λ k. absurd (cc)
  stands_holds t r verdict.Lost there h = λ k. absurd (cc)
  stands_holds t r verdict.Stale there h = λ k. none_if t r there (λ w. absurd (h w))

  no_reply : {A : Type 0} (o : Outcome) (a : Answer) → ((b : Answer) → o ≡ outcome.Replied b → ⊥) → ◌≡◌ {A = Result Outcome StepFault} (Ok o) (Ok (outcome.Replied a)) → A
  no_reply o a n e = absurd (n a (let f : o ≡ outcome.Replied a = cc in f))

  one_answer : (a b : Answer) → ◌≡◌ {A = Result Outcome StepFault} (Ok (outcome.Replied a)) (Ok (outcome.Replied b)) → a ≡ b
  one_answer a b e = cc

  -- a reply is taken
  pub taken_holds : (ticket : ℕ) (c : Core) (a : Answer) → All Its c.asks → All Known c.asks → (on_take ticket c).outcome ≡ Ok (outcome.Replied a) → Holds namespace prefix p items told ticket a
  unfolding on_take
  taken_holds ticket c a h known = by_ask (ask_at ticket c.asks) refl
    where
      by_watch : (w : Option Watch) → (item_taken ticket w c).outcome ≡ Ok (outcome.Replied a) → Holds namespace prefix p items told ticket a
      by_watch None e = absurd (cc)
      by_watch (Some w) e = by_pair (watches.taken_from c.watches c.header w w.queue) e
        where
          by_pair : (x : Broadcasts × Option WatchItem) → (taken_item c x).outcome ≡ Ok (outcome.Replied a) → Holds namespace prefix p items told ticket a
          by_pair (b, None) e = absurd (cc)
          by_pair (b, Some x) e = absurd (cc)

      by_stage : (y : Asked) (s : Stage) → y.stage ≡ s → ask_at ticket c.asks ≡ Some y → (takes.taken_from ticket s c).outcome ≡ Ok (outcome.Replied a) → Holds namespace prefix p items told ticket a
      by_stage y (stage.Replied v) is f e =
          let k = found Known ticket c.asks y f known in
          let same = same_number y.ticket ticket k.1 in
          subst (Holds namespace prefix p items told ticket) (one_answer (reply_of v) a e)
          (subst (λ (n : ℕ). Holds namespace prefix p items told n (reply_of v)) same (stands_holds y.ticket y.request v k.0 (λ w. subst (At y.ticket) is ((found Its ticket c.asks y f h).0 w))))
      by_stage y (stage.Calling s) is f e = absurd (cc)
      by_stage y stage.Acquiring is f e = absurd (cc)
      by_stage y stage.Joined is f e = absurd (cc)
      by_stage y stage.Behind is f e = absurd (cc)
      by_stage y stage.Writes is f e = absurd (cc)
      by_stage y (stage.Grouped s) is f e = absurd (cc)

      by_ask : (o : Option Asked) → ask_at ticket c.asks ≡ o → (taken ticket o c).outcome ≡ Ok (outcome.Replied a) → Holds namespace prefix p items told ticket a
      by_ask None f e = by_watch (watch_at ticket c.watches.watches) e
      by_ask (Some y) f e = by_stage y y.stage refl f e
