-- Where a reply comes from that stands ready behind a step of a proxy: a call that was sent for its request, and is answered at this step.
use Rattle.std.proofs.Common.{◌≡◌, ◌≢◌, ℕ, ◌==◌, ◌&&◌, ◌||◌, Bool, true, false, cond, List, [], ◌∷◌, ◌++◌, Option, None, Some, refl, sym, ◌∙◌, ap, subst}
use Rattle.std.specs.List.{list_all}
use Rattle.etcd_types.proofs.Bools.{and_first, and_second}
use Rattle.etcd_types.specs.declared.answer.Answer.{Answer}
use Rattle.etcd_types.specs.declared.answer.Answer.TheVariants.{Done}
use Rattle.etcd_types.specs.declared.answer.Reply.{Reply}
use Rattle.etcd_types.specs.declared.request.Request.{Request}
use Rattle.etcd_types.specs.declared.request.Request.TheVariants as request
use Rattle.proxy_model.specs.declared.ownership.Claim.{Claim}
use Rattle.proxy_model.specs.declared.ownership.Written.TheVariants.{Wrote}
use Rattle.proxy_model.specs.Acquire.{claimed}
use Rattle.proxy_model.specs.Guarded.{written}
use Rattle.proxy_model.specs.Keyed.{at}
use Rattle.wait_model.specs.declared.sending.Sending.TheVariants as sending
use Rattle.wait_model.specs.declared.write.Write.{Write}
use Rattle.wait_model.specs.Writes.{first_by, sends}
use Rattle.core_laws.proofs.Writes.Kept.{first_passes}
use Rattle.read_model.specs.declared.asked.Asked.{Asked}
use Rattle.read_model.specs.declared.asked.Stage.{Stage}
use Rattle.read_model.specs.declared.asked.Stage.TheVariants as stage
use Rattle.read_model.specs.declared.asked.Verdict.TheVariants as verdict
use Rattle.read_model.specs.PlainRead.{ask_key, key_of}
use Rattle.read_model.specs.Release.{stands, ask_stands, names}
use Rattle.read_model.specs.State.{ground_of}
use Rattle.core_model.specs.declared.event.CoreEvent.{CoreEvent}
use Rattle.core_model.specs.declared.event.CoreEvent.TheVariants as event
use Rattle.core_model.specs.declared.out_call.OutCall.{OutCall}
use Rattle.core_model.specs.declared.out_call.OutJob.TheVariants as job
use Rattle.core_model.specs.ClockWork.{clock_work, is_replied}
use Rattle.core_model.specs.Fits.{CoreOk, job_at, group_stands, group_sending, is_keepalive}
use Rattle.core_model.specs.DueJobs.{lease_of}
use Rattle.core_model.specs.Heard.{heard}
use Rattle.core_model.specs.Lookups.{ask_at, out_at, reads_of}
use Rattle.core_model.specs.State.{Core}
use Rattle.core_model.specs.Step.{is_worn, stepped}
use Rattle.core_model.specs.Takes.{ready}
use Rattle.core_laws.proofs.Steps.Lists.{same_number}
use Rattle.core_fits.specs.Fits.{CoreFits, is_reading}
use Rattle.core_fits.proofs.Prefix.{clock_prefix}
use Rattle.core_fits.proofs.Ready.{nothing_ready}
use Rattle.owner_fits.specs.Laws.{OwnersFit}
use Rattle.script_text.specs.declared.item.Item.{Item}
use Rattle.script_text.specs.declared.item.Item.TheVariants as item
use Rattle.world_model.specs.Lives.{asked_as, is_named}
use Rattle.held_laws.proofs.Items.{asked_still}
use Rattle.keep_laws.proofs.Rows.{All}
use Rattle.keep_laws.proofs.Runs.{found}
use Rattle.prefix_laws.specs.Comes.{IsReady}
use Rattle.renewed_laws.proofs.Rows.{Row, KnownAt}
use Rattle.renewed_laws.proofs.Stories.{Life, later}
use Rattle.renewed_laws.specs.Renewals.{Renews}
use Rattle.reply_laws.specs.Sources.{Stood, Hears, Decides, wins, settles, claimed_record, shows}
use Rattle.reply_laws.proofs.Heard.{same_reply}
use Rattle.reply_laws.specs.Sources as sources
use Rattle.reply_laws.proofs.Sources.{replies_have_sources}
use Rattle.executed_laws.specs.Executed.{Story, Called, Claimed, Written, Source, IsExecuted}
use Rattle.executed_laws.specs.Executed as executed
use Rattle.executed_laws.proofs.CoreSends as sending_of
use Rattle.executed_laws.proofs.Naming.{named-append}
use Rattle.executed_laws.proofs.Tracked.{Claims, claims_behind}
use Rattle.executed_laws.proofs.Turning.{NamedWait}
use Rattle.executed_laws.proofs.Waiting.{not_both}
use Rattle.executed_laws.proofs.OwnSends.{IsSent, sends_last}
use Rattle.executed_laws.proofs.Stories.{SentFor, answered_story}
use Rattle.executed_laws.proofs.Turns.{IsPassedOn, IsAcquire, IsGuarded, Sent, one_request, each_found, first_each}

-- an answer that comes to the proxy is of a call of this life, which was executed to it; and these items tell that it came
pub record Answered (l : Life) (call : ℕ) (a : Answer) (more : List Item) : Type 0 where
  pub number : ℕ
  pub own : l.own call ≡ Some number
  pub is : l.answers number ≡ Some a
  pub tells : more ≡ item.Answered number ∷ []

-- a step of a proxy in its life, and what is known of it
pub record Steps (prefix : List ℕ) (l : Life) (own : ℕ → Option ℕ) (answers : ℕ → Option Answer) (more : List Item) (c : Core) (e : CoreEvent) (now : ℕ) : Type 0 where
  pub ok : CoreOk c
  pub fits : CoreFits c
  pub owners : OwnersFit c
  pub working : is_worn c ≡ false
  pub none : ready c ≡ None
  pub named : c.settings.namespace ≡ l.namespace
  pub prefixed : c.own.waits.prefix ≡ prefix
  pub sent : Sent prefix l c
  pub waits : NamedWait l.proxy l.told c
  pub rows : All (Row (later l own answers more)) (stepped c e now).core.asks
  pub answered : (call : ℕ) (a : Answer) → e ≡ event.Answer call a → Answered l call a more

-- ---- the story of a request whose call is answered

record IsTold (R : Request → Request → Type 0) (told : List Item) (p ticket : ℕ) (q : Request) (answer : Answer) : Type 0 where
  sent : Request
  is : R q sent
  story : Story told p ticket q sent answer

same_request : (q r : Request) → Some q ≡ Some r → q ≡ r
same_request q r e = cc

told_of : (R : Request → Request → Type 0) (l : Life) (more : List Item) (ticket call : ℕ) (a : Answer) (q : Request) → SentFor R l ticket call → Answered l call a more → asked_as l.proxy ticket (l.told ++ more) ≡ Some q
    → IsTold R (l.told ++ more) l.proxy ticket q a
told_of R l more ticket call a q s h asked =
    let same : s.request ≡ q = same_request s.request q (sym (asked_still l.proxy ticket l.told more s.request s.asked) ∙ asked) in
    let st = answered_story R l ticket call h.number a s h.own h.is in
    record {
      sent = s.sent;
      is = subst (λ (r : Request). R r s.sent) same s.is;
      story = subst (λ (r : Request). Story (l.told ++ more) l.proxy ticket r s.sent a) same (subst (λ (xs : List Item). Story (l.told ++ xs) l.proxy ticket s.request s.sent a) (sym h.tells) st);
    }

-- ---- lookups

job_found : (n : ℕ) (out : List OutCall) (o : OutCall) → out_at n out ≡ Some o → job_at n out ≡ Some o.job
job_found n [] o e = absurd (cc)
job_found n (x ∷ out) o e = by (x.call == n) e (job_found n out o)
  where
    same_call : Some x ≡ Some o → x ≡ o
    same_call f = cc

    by : (b : Bool) → cond b (Some x) (out_at n out) ≡ Some o → (out_at n out ≡ Some o → job_at n out ≡ Some o.job) → cond b (Some x.job) (job_at n out) ≡ Some o.job
    by true f more = ap (λ (y : OutCall). Some y.job) (same_call f)
    by false f more = more f

of_all : (p : Asked → Bool) (xs : List Asked) → list_all p xs ≡ true → All (λ x. p x ≡ true) xs
of_all p [] h = tt
of_all p (x ∷ xs) h = (and_first (p x) (list_all p xs) h, of_all p xs (and_second (p x) (list_all p xs) h))

keepalive_is : (q : Request) → is_keepalive q ≡ true → (lease : ℕ) × (q ≡ request.KeepAlive lease)
keepalive_is (request.KeepAlive lease) h = (lease, refl)
keepalive_is (request.Range ask) h = absurd (cc)
keepalive_is (request.Put ask) h = absurd (cc)
keepalive_is (request.Delete ask) h = absurd (cc)
keepalive_is (request.Txn t) h = absurd (cc)
keepalive_is (request.Compact revision physical) h = absurd (cc)
keepalive_is (request.Grant ttl lease) h = absurd (cc)
keepalive_is (request.Revoke lease) h = absurd (cc)
keepalive_is (request.TimeToLive lease keys) h = absurd (cc)
keepalive_is request.Leases h = absurd (cc)
keepalive_is (request.Watch ask) h = absurd (cc)

-- ---- each source

-- of a request that is replied behind the step
record Ready (l : Life) (more : List Item) (d : Core) (a : Asked) (reply : Reply) : Type 0 where
  there : ask_at a.ticket d.asks ≡ Some a
  replied : a.stage ≡ stage.Replied (verdict.Said (Done reply))
  asked : asked_as l.proxy a.ticket (l.told ++ more) ≡ Some a.request
  keeps : (lease : ℕ) → a.request ≡ request.KeepAlive lease → Renews l.namespace (l.told ++ more) l.proxy a.ticket lease reply

module _ (prefix : List ℕ) (l : Life) (own : ℕ → Option ℕ) (answers : ℕ → Option Answer) (more : List Item) (c : Core) (e : CoreEvent) (now : ℕ) (h : Steps prefix l own answers more c e now) where
  -- what is heard, under the life's namespace
  heard_as : (o : OutCall) (x : Answer) (k : Hears c e o x) → heard l.namespace k.answer ≡ Some x
  heard_as o x k = subst (λ (n : List ℕ). heard n k.answer ≡ Some x) h.named k.heard

  its_answer : (o : OutCall) (x : Answer) (k : Hears c e o x) → Answered l o.call k.answer more
  its_answer o x k = h.answered o.call k.answer k.event

  -- it stood before the step
  stood_ticket : (a : Asked) (s : Stage) (t : Stood c a s) → t.before.ticket ≡ a.ticket
  stood_ticket a s t = same_number t.before.ticket a.ticket (found (λ x. Unit {0}) a.ticket c.asks t.before t.there (every c.asks)).1
    where
      every : (xs : List Asked) → All (λ x. Unit {0}) xs
      every [] = tt
      every (x ∷ xs) = (tt, every xs)

  is_called : (a : Asked) (reply : Reply) (o : OutCall) → Ready l more (stepped c e now).core a reply → Stood c a (stage.Calling (sending.Out o.call)) → Hears c e o (Done reply) → Source l.namespace prefix (l.told ++ more) l.proxy a.ticket a.request reply
  is_called a reply o r t k =
      let s = (found _ a.ticket c.asks t.before t.there h.sent.asks).0 o.call t.stage in
      let b = told_of (IsPassedOn l.namespace) l more a.ticket o.call k.answer a.request (subst (λ (n : ℕ). SentFor (IsPassedOn l.namespace) l n o.call) (stood_ticket a (stage.Calling (sending.Out o.call)) t) s) (its_answer o (Done reply) k) r.asked in
      executed.called (record { word = b.is.0; answer = k.answer; story = subst (λ (q : Request). Story (l.told ++ more) l.proxy a.ticket a.request q k.answer) b.is.1 b.story; heard = heard_as o (Done reply) k })

  is_acquired : (a : Asked) (reply transaction : Reply) (o : OutCall) (claim : Claim) → Ready l more (stepped c e now).core a reply → o.job ≡ job.Acquire (ask_key a) → Stood c a stage.Acquiring → Hears c e o (Done transaction)
      → claimed (clock_work now c).own.waits.prefix (ask_key a) transaction ≡ Some claim → reply ≡ shows transaction.header (claimed_record claim) → Source l.namespace prefix (l.told ++ more) l.proxy a.ticket a.request reply
  is_acquired a reply transaction o claim r j t k f is =
      let key : ask_key t.before ≡ ask_key a = ap key_of t.request in
      let out = h.owners.acquires.awaits o.call (ask_key a) (job_found o.call c.out o k.out ∙ ap (λ (x : Rattle.core_model.specs.declared.out_call.OutJob.OutJob). Some x) j) in
      let s = h.sent.acquires.sent (ask_key a) o.call out.acquire out.stands out.out in
      let stood : ask_stands (ground_of (reads_of c)) t.before ≡ true = (found _ a.ticket c.asks t.before t.there (of_all (ask_stands (ground_of (reads_of c))) c.asks h.ok.reads.asks)).0 in
      let its : names t.before.ticket (at c.acquires (ask_key a)) ≡ true =
      sym (λ i. stands t.before.ticket (at c.own.entries (ask_key t.before)) (at c.acquires (key i)) (t.stage i)) ∙ stood in
      let ticket : out.acquire.ticket ≡ a.ticket = same_number out.acquire.ticket t.before.ticket (sym (ap (names t.before.ticket) out.stands) ∙ its) ∙ stood_ticket a stage.Acquiring t in
      let b = told_of (IsAcquire l.namespace prefix) l more a.ticket o.call k.answer a.request (subst (λ (n : ℕ). SentFor (IsAcquire l.namespace prefix) l n o.call) ticket s) (its_answer o (Done transaction) k) r.asked in
      executed.acquired (record {
        session = b.is.0;
        answer = k.answer;
        transaction = transaction;
        claim = claim;
        story = subst (λ (q : Request). Story (l.told ++ more) l.proxy a.ticket a.request q k.answer) b.is.1 b.story;
        heard = heard_as o (Done transaction) k;
        claimed = ap (λ (p : List ℕ). claimed p (ask_key a) transaction) (sym (clock_prefix now c ∙ h.prefixed)) ∙ f;
        is = is;
      })

  is_written : (a : Asked) (reply transaction : Reply) (o : OutCall) (w : Write) → Ready l more (stepped c e now).core a reply → Stood c a stage.Writes → Hears c e o (Done transaction) → first_by (sends o.call) (clock_work now c).own.waits.writes ≡ Some w
      → w.ticket ≡ a.ticket → written (clock_work now c).own.waits.prefix w.request transaction ≡ Some (Wrote reply) → Source l.namespace prefix (l.told ++ more) l.proxy a.ticket a.request reply
  is_written a reply transaction o w r t k first ticket f =
      let clocked = sending_of.clock_so (IsSent (SentFor (IsGuarded l.namespace prefix) l)) (sends_last (SentFor (IsGuarded l.namespace prefix) l)) now c h.sent.writes in
      let s = first_each (IsSent (SentFor (IsGuarded l.namespace prefix) l)) (sends o.call) (clock_work now c).own.waits.writes w first clocked o.call (first_passes (sends o.call) (clock_work now c).own.waits.writes w first) in
      let same : w.request ≡ a.request = one_request c now t.before a.ticket (sends o.call) w h.fits.write t.there first (ticket ∙ sym (stood_ticket a stage.Writes t)) ∙ t.request in
      let b = told_of (IsGuarded l.namespace prefix) l more a.ticket o.call k.answer a.request (subst (λ (n : ℕ). SentFor (IsGuarded l.namespace prefix) l n o.call) ticket s) (its_answer o (Done transaction) k) r.asked in
      executed.wrote (record {
        created = b.is.0;
        answer = k.answer;
        transaction = transaction;
        story = subst (λ (q : Request). Story (l.told ++ more) l.proxy a.ticket a.request q k.answer) b.is.1 b.story;
        heard = heard_as o (Done transaction) k;
        wrote = (λ i. written (sym (clock_prefix now c ∙ h.prefixed) i) (sym same i) transaction) ∙ f;
      })

  is_kept : (a : Asked) (reply : Reply) (o : OutCall) → Ready l more (stepped c e now).core a reply → Stood c a (stage.Grouped (Some (sending.Out o.call))) → Source l.namespace prefix (l.told ++ more) l.proxy a.ticket a.request reply
  is_kept a reply o r t =
      let stood : group_stands c.out t.before.request t.before.stage ≡ true = (found _ a.ticket c.asks t.before t.there (of_all (λ x. group_stands c.out x.request x.stage) c.asks h.ok.agrees.groups.stand)).0 in
      let both : is_keepalive a.request && group_sending c.out (lease_of a.request) (Some (sending.Out o.call)) ≡ true = sym (λ i. group_stands c.out (t.request i) (t.stage i)) ∙ stood in
      let lease = keepalive_is a.request (and_first (is_keepalive a.request) (group_sending c.out (lease_of a.request) (Some (sending.Out o.call))) both) in
      executed.kept lease.0 lease.1 (r.keeps lease.0 lease.1)

  decides_answer : (g : Rattle.read_model.specs.State.Ground) → Decides c e now g → (call : ℕ) × (a : Answer) × (e ≡ event.Answer call a)
  decides_answer g (wins o k) = (o.call, k.hears.answer, k.hears.event)
  decides_answer g (settles o k) = (o.call, k.hears.answer, k.hears.event)

  -- a read that waited for its key: no call named it, or it was told what its acquire found
  is_cached : (a : Asked) (reply : Reply) (s : Stage) (g : Rattle.read_model.specs.State.Ground) → Ready l more (stepped c e now).core a reply → is_reading s ≡ true → Stood c a s → Decides c e now g → Source l.namespace prefix (l.told ++ more) l.proxy a.ticket a.request reply
  is_cached a reply s g r u t d = by_zero (a.ticket == 0) refl
    where
      heard_call : (call : ℕ) × (x : Answer) × (e ≡ event.Answer call x)
      heard_call = decides_answer g d

      silent : is_named l.proxy a.ticket more ≡ false
      silent = let k = h.answered heard_call.0 heard_call.1 heard_call.2 in ap (is_named l.proxy a.ticket) k.tells

      by_named : a.ticket ≢ 0 → (b : Bool) → is_named l.proxy a.ticket l.told ≡ b → Source l.namespace prefix (l.told ++ more) l.proxy a.ticket a.request reply
      by_named n false f = executed.unsent (λ z. named-append l.proxy a.ticket l.told more ∙ (λ i. f i || silent i))
      by_named n true f =
          let k = subst (λ (x : CoreEvent). Claims c x now a) (sym heard_call.2)
          (claims_behind c now heard_call.0 heard_call.1 a.ticket s t.before a reply h.ok h.working (h.waits a.ticket n f) t.there t.stage u (subst (λ (x : CoreEvent). ask_at a.ticket (stepped c x now).core.asks ≡ Some a) heard_call.2 r.there) r.replied) in
          is_acquired a reply k.transaction k.call k.claim r k.job k.stood k.hears k.claimed (same_reply reply (shows k.transaction.header (claimed_record k.claim)) (sym r.replied ∙ k.stage))

      by_zero : (b : Bool) → (a.ticket == 0) ≡ b → Source l.namespace prefix (l.told ++ more) l.proxy a.ticket a.request reply
      by_zero true z = executed.unsent (λ n. absurd (n (same_number a.ticket 0 z)))
      by_zero false z = by_named (λ n. not_both (a.ticket == 0) (ap (λ (i : ℕ). i == 0) n) z) (is_named l.proxy a.ticket l.told) refl

  stood_no_more : {A : Type 0} (a : Asked) (reply : Reply) → Stood c a (stage.Replied (verdict.Said (Done reply))) → A
  stood_no_more a reply t =
      let unready = each_found (λ x. is_replied x.stage ≡ false) a.ticket c.asks t.before t.there (nothing_ready c h.none) in
      absurd (let f : true ≡ false = sym (ap is_replied t.stage) ∙ unready in cc)

  by_source : (a : Asked) (reply : Reply) → Ready l more (stepped c e now).core a reply → sources.Source c e now a reply → Source l.namespace prefix (l.told ++ more) l.proxy a.ticket a.request reply
  by_source a reply r (sources.stood t) = stood_no_more a reply t
  by_source a reply r (sources.called o kind j t k) = is_called a reply o r t k
  by_source a reply r (sources.acquired o transaction claim j t k f is) = is_acquired a reply transaction o claim r j t k f is
  by_source a reply r (sources.wrote o transaction w j t k first ticket f) = is_written a reply transaction o w r t k first ticket f
  by_source a reply r (sources.shared o lease j t k) = is_kept a reply o r t
  by_source a reply r (sources.cached s g u t d k) = is_cached a reply s g r u t d

  -- a reply that stands ready behind the step
  pub ready_executed : (ticket : ℕ) (reply : Reply) → IsReady (stepped c e now).core ticket reply → IsExecuted l.namespace prefix (l.told ++ more) l.proxy ticket reply
  ready_executed ticket reply r =
      let f = found (Row (later l own answers more)) ticket (stepped c e now).core.asks r.ask r.there h.rows in
      let same = same_number r.ask.ticket ticket f.1 in
      let there = ap (λ (n : ℕ). ask_at n (stepped c e now).core.asks) same ∙ r.there in
      let its : Ready l more (stepped c e now).core r.ask reply =
      record { there = there; replied = r.stage; asked = f.0.asked; keeps = λ lease is. subst (KnownAt (later l own answers more) r.ask.ticket lease) r.stage (f.0.keeps lease is).at } in
      subst (λ (n : ℕ). IsExecuted l.namespace prefix (l.told ++ more) l.proxy n reply) same (record {
        request = r.ask.request;
        asked = f.0.asked;
        source = by_source r.ask reply its (replies_have_sources c e now r.ask.ticket r.ask reply h.ok there r.stage);
      })
