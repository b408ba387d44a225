-- Where the ok reply of a request comes from: a call that names its ticket; or it is no read; or it was answered from the cache, as a plain
-- read or as a transaction without writes.
use Rattle.std.proofs.Common.{◌≡◌, ℕ, Bool, true, false, not, ◌==◌, cond, List, [], ◌∷◌, Option, Some, Ok, refl, sym, ◌∙◌, ap, subst}
use Rattle.std.specs.List.{list_all}
use Rattle.etcd_types.specs.declared.answer.Answer.{Answer}
use Rattle.etcd_types.specs.declared.answer.Answer.TheVariants.{Done}
use Rattle.etcd_types.specs.declared.answer.Reply.{Reply}
use Rattle.etcd_types.specs.declared.request.Request.{Request}
use Rattle.etcd_types.specs.declared.request.Request.TheVariants as request
use Rattle.proxy_model.specs.Keyed.{at}
use Rattle.wait_model.specs.declared.sending.Sending.TheVariants as sending
use Rattle.wait_model.specs.declared.write.Write.{Write}
use Rattle.wait_model.specs.Writes.{first_by, sends}
use Rattle.read_model.specs.declared.asked.Asked.{Asked}
use Rattle.read_model.specs.declared.asked.Stage.{Stage}
use Rattle.read_model.specs.declared.asked.Stage.TheVariants as stage
use Rattle.read_model.specs.declared.asked.Verdict.TheVariants as verdict
use Rattle.read_model.specs.PlainRead.{ask_key, key_of}
use Rattle.read_model.specs.Release.{names as names_it, stands, ask_stands}
use Rattle.read_model.specs.State.{Ground, ground_of}
use Rattle.core_model.specs.declared.event.CoreEvent.{CoreEvent}
use Rattle.core_model.specs.declared.event.CoreEvent.TheVariants as event
use Rattle.core_model.specs.declared.event.Outcome.TheVariants as outcome
use Rattle.core_model.specs.declared.out_call.OutCall.{OutCall}
use Rattle.core_model.specs.declared.out_call.OutJob.{OutJob}
use Rattle.core_model.specs.declared.out_call.OutJob.TheVariants as job
use Rattle.core_model.specs.ClockWork.{clock_work, is_replied}
use Rattle.core_model.specs.Fits.{job_at, is_keepalive, group_stands, group_sending, CoreOk}
use Rattle.core_model.specs.DueJobs.{lease_of}
use Rattle.core_model.specs.Kinds.{writes_keys}
use Rattle.core_model.specs.Lookups.{ask_at, out_at, reads_of}
use Rattle.core_model.specs.State.{Core}
use Rattle.core_model.specs.Step.{stepped}
use Rattle.core_laws.proofs.Steps.Comes.{by_test}
use Rattle.core_laws.proofs.Steps.Lists.{same_number}
use Rattle.core_fits.specs.Fits.{EachOf, IsSame, CoreFits}
use Rattle.core_fits.specs.Ready.{NoneIsReplied}
use Rattle.core_fits.proofs.CallRows.{clock_has}
use Rattle.core_fits.proofs.Found.{each_ask, each_write, ask_ticket}
use Rattle.etcd_types.proofs.Bools.{and_first, and_second}
use Rattle.owner_fits.specs.Laws.{OwnersFit}
use Rattle.cache_laws.specs.Moves.View.{View}
use Rattle.reply_laws.specs.Named.{AreNamed}
use Rattle.reply_laws.specs.Sources.{Stood, Hears, Decides, wins, settles, Source, Given}
use Rattle.reply_laws.specs.Sources as sources
use Rattle.reply_laws.proofs.Given.{given_have_sources}
use Rattle.reply_laws.proofs.Sources.{replies_have_sources}
use Rattle.middle_laws.specs.Seen.{IsSeen}
use Rattle.middle_laws.specs.Cached.{IsCachedRead, IsCachedSnapshot, header_after}
use Rattle.middle_laws.proofs.Replies.{sources_are_true, given_are_true}
use Rattle.prefix_laws.specs.Comes.{IsReady}
use Rattle.truth_laws.proofs.Writing.{EachWrites, any_ask}

-- a range, or a transaction without writes
abbrev pub is_read_only : Request → Bool
is_read_only (request.Range ask) = true
is_read_only (request.Txn t) = not (writes_keys (request.Txn t))
is_read_only _ = false

-- at these reads are decided
abbrev pub decides : CoreEvent → Bool
decides (event.Ask ticket q word) = true
decides (event.Answer call a) = true
decides _ = false

pub data From (named : ℕ → Bool) (v : View) (c : Core) (e : CoreEvent) (now ticket : ℕ) (q : Request) (reply : Reply) : Type 0 where
  is_sent : named ticket ≡ true → From named v c e now ticket q reply
  is_other : is_read_only q ≡ false → From named v c e now ticket q reply
  is_cached : decides e ≡ true → IsCachedRead v c.own.waits.prefix (header_after c e now) q reply → From named v c e now ticket q reply
  is_snapshot : decides e ≡ true → IsCachedSnapshot v c.own.waits.prefix (header_after c e now) q reply → From named v c e now ticket q reply

-- what is known of the proxy before the step
pub record Before (named : ℕ → Bool) (c : Core) : Type 0 where
  pub ok : CoreOk c
  pub fits : CoreFits c
  pub owners : OwnersFit c
  pub none : NoneIsReplied c
  pub writes : EachWrites c
  pub names : AreNamed named c

-- ---- what is found of a request

all_ask : (p : Asked → Bool) (ticket : ℕ) (xs : List Asked) (a : Asked) → list_all p xs ≡ true → ask_at ticket xs ≡ Some a → p a ≡ true
all_ask p ticket [] a h e = absurd (cc)
all_ask p ticket (x ∷ xs) a h e =
    by_test (λ (o : Option Asked). o ≡ Some a → p a ≡ true) (x.ticket == ticket) (Some x) (ask_at ticket xs) (λ t k. let i : x ≡ a = cc in ap p (sym i) ∙ and_first (p x) (list_all p xs) h)
    (λ t k. all_ask p ticket xs a (and_second (p x) (list_all p xs) h) k) e

out_job : (call : ℕ) (out : List OutCall) (o : OutCall) → out_at call out ≡ Some o → job_at call out ≡ Some o.job
out_job call [] o e = absurd (cc)
out_job call (x ∷ out) o e = by (x.call == call) (λ k. out_job call out o k) e
  where
    by : (b : Bool) → (out_at call out ≡ Some o → job_at call out ≡ Some o.job) → cond b (Some x) (out_at call out) ≡ Some o → cond b (Some x.job) (job_at call out) ≡ Some o.job
    by true more k = let i : x ≡ o = cc in ap (λ (y : OutCall). Some y.job) i
    by false more k = more k

-- a write is no read
write_is_no_read : (q : Request) → writes_keys q ≡ true → is_read_only q ≡ false
write_is_no_read (request.Range ask) w = absurd (cc)
write_is_no_read (request.Put ask) w = refl
write_is_no_read (request.Delete ask) w = refl
write_is_no_read (request.Txn t) w = ap not w
write_is_no_read (request.Compact revision physical) w = refl
write_is_no_read (request.Grant ttl lease) w = refl
write_is_no_read (request.Revoke lease) w = refl
write_is_no_read (request.KeepAlive lease) w = refl
write_is_no_read (request.TimeToLive lease keys) w = refl
write_is_no_read request.Leases w = refl
write_is_no_read (request.Watch ask) w = refl

keepalive_is_no_read : (q : Request) → is_keepalive q ≡ true → is_read_only q ≡ false
keepalive_is_no_read (request.KeepAlive lease) k = refl
keepalive_is_no_read (request.Range ask) k = absurd (cc)
keepalive_is_no_read (request.Put ask) k = absurd (cc)
keepalive_is_no_read (request.Delete ask) k = absurd (cc)
keepalive_is_no_read (request.Txn t) k = absurd (cc)
keepalive_is_no_read (request.Compact revision physical) k = absurd (cc)
keepalive_is_no_read (request.Grant ttl lease) k = absurd (cc)
keepalive_is_no_read (request.Revoke lease) k = absurd (cc)
keepalive_is_no_read (request.TimeToLive lease keys) k = absurd (cc)
keepalive_is_no_read request.Leases k = absurd (cc)
keepalive_is_no_read (request.Watch ask) k = absurd (cc)

-- ---- one source after the other

module _ (named : ℕ → Bool) (c : Core) (h : Before named c) where
  -- the acquire of its key is for it
  acquire_named : (a : Asked) (o : OutCall) → o.job ≡ job.Acquire (ask_key a) → out_at o.call c.out ≡ Some o → Stood c a stage.Acquiring → named a.ticket ≡ true
  acquire_named a o j out s =
      let w = h.owners.acquires.awaits o.call (ask_key a) (out_job o.call c.out o out ∙ ap (λ (k : OutJob). Some k) j) in
      let same : names_it s.before.ticket (Some w.acquire) ≡ true = ap (names_it s.before.ticket) (sym w.stands) ∙ stood in
      let is : w.acquire.ticket ≡ a.ticket = same_number w.acquire.ticket s.before.ticket same ∙ ticket in
      ap named (sym is) ∙ h.names.acquires (ask_key a) o.call w.acquire w.stands w.out
    where
      ticket : s.before.ticket ≡ a.ticket
      ticket = ask_ticket a.ticket c.asks s.before s.there

      key : ask_key s.before ≡ ask_key a
      key = ap key_of s.request

      stood : names_it s.before.ticket (at c.acquires (ask_key a)) ≡ true
      stood =
          ap (λ (k : List ℕ). names_it s.before.ticket (at c.acquires k)) (sym key)
          ∙ ap (λ (x : Stage). stands s.before.ticket (at c.own.entries (ask_key s.before)) (at c.acquires (ask_key s.before)) x) (sym s.stage)
          ∙ all_ask (ask_stands (ground_of (reads_of c))) a.ticket c.asks s.before h.ok.reads.asks s.there

  -- a write of its ticket is the request
  write_is_other : (a : Asked) (now call : ℕ) (w : Write) → Stood c a stage.Writes → first_by (sends call) (clock_work now c).own.waits.writes ≡ Some w → w.ticket ≡ a.ticket → is_read_only a.request ≡ false
  write_is_other a now call w s f t =
      let same : EachOf (IsSame s.before) c.own.waits.writes = each_ask (λ x. EachOf (IsSame x) c.own.waits.writes) a.ticket c.asks s.before h.fits.write s.there in
      let later = (clock_has (λ x. Unit {0}) (IsSame s.before) (record { asks = λ x y g k. tt; writes = λ v u k. k }) now c (any_ask c.asks, same)).1 in
      let keys = (clock_has (λ x. Unit {0}) (λ v. writes_keys v.request ≡ true) (record { asks = λ x y g k. tt; writes = λ v u k. k }) now c (any_ask c.asks, h.writes)).1 in
      let request_is : w.request ≡ a.request = each_write (IsSame s.before) (sends call) (clock_work now c).own.waits.writes w later f (t ∙ sym (ask_ticket a.ticket c.asks s.before s.there)) ∙ s.request in
      write_is_no_read a.request (ap writes_keys (sym request_is) ∙ each_write (λ v. writes_keys v.request ≡ true) (sends call) (clock_work now c).own.waits.writes w keys f)

  group_is_other : (a : Asked) (o : OutCall) → Stood c a (stage.Grouped (Some (sending.Out o.call))) → is_read_only a.request ≡ false
  group_is_other a o s =
      let stands' : group_stands c.out s.before.request (stage.Grouped (Some (sending.Out o.call))) ≡ true =
      ap (λ (x : Stage). group_stands c.out s.before.request x) (sym s.stage) ∙ all_ask (λ (x : Asked). group_stands c.out x.request x.stage) a.ticket c.asks s.before h.ok.agrees.groups.stand s.there in
      ap is_read_only (sym s.request) ∙ keepalive_is_no_read s.before.request (and_first (is_keepalive s.before.request) (group_sending c.out (lease_of s.before.request) (Some (sending.Out o.call))) stands')

  none_stood : {A : Type 0} (a : Asked) (reply : Reply) → Stood c a (stage.Replied (verdict.Said (Done reply))) → A
  none_stood a reply s =
      absurd (let no_way : true ≡ false = sym (ap is_replied s.stage) ∙ each_ask (λ x. is_replied x.stage ≡ false) a.ticket c.asks s.before h.none s.there in cc)

  module _ (holder : ℕ → ℕ) (v : View) (p now : ℕ) (own : ℕ → ℕ) (e : CoreEvent) (seen : decides e ≡ true → IsSeen holder v p now own c e) where
    hears_decides : (o : OutCall) (a : Answer) → Hears c e o a → decides e ≡ true
    hears_decides o a k = ap decides k.event

    decided : (g : Ground) → Decides c e now g → decides e ≡ true
    decided g (wins o k) = hears_decides o (Done k.reply) k.hears
    decided g (settles o k) = hears_decides o k.heard k.hears

    from_source : (a : Asked) (reply : Reply) → Source c e now a reply → From named v c e now a.ticket a.request reply
    from_source a reply (sources.stood s) = none_stood a reply s
    from_source a reply (sources.called o k j s x) = is_sent (h.names.asks a.ticket o.call s.before s.there s.stage)
    from_source a reply (sources.acquired o answer claim j s x f r) = is_sent (acquire_named a o j x.out s)
    from_source a reply (sources.wrote o answer w j s x f n r) = is_other (write_is_other a now o.call w s f n)
    from_source a reply (sources.shared o lease j s x) = is_other (group_is_other a o s)
    from_source a reply (sources.cached s g r st d x) = is_cached (decided g d) (sources_are_true holder v p now own c e a reply (seen (decided g d)) (sources.cached s g r st d x))

    -- it was asked before
    asked_before : (a : Asked) (reply : Reply) → Source c e now a reply → (x : Asked) × (ask_at a.ticket c.asks ≡ Some x) × (x.request ≡ a.request)
    asked_before a reply (sources.stood s) = (s.before, s.there, s.request)
    asked_before a reply (sources.called o k j s x) = (s.before, s.there, s.request)
    asked_before a reply (sources.acquired o answer claim j s x f r) = (s.before, s.there, s.request)
    asked_before a reply (sources.wrote o answer w j s x f n r) = (s.before, s.there, s.request)
    asked_before a reply (sources.shared o lease j s x) = (s.before, s.there, s.request)
    asked_before a reply (sources.cached s g r st d x) = (st.before, st.there, st.request)

    pub ready_asked : (ticket : ℕ) (reply : Reply) → (r : IsReady (stepped c e now).core ticket reply) → (x : Asked) × (ask_at ticket c.asks ≡ Some x) × (x.request ≡ r.ask.request)
    ready_asked ticket reply r =
        let b = asked_before r.ask reply (replies_have_sources c e now ticket r.ask reply h.ok r.there r.stage) in
        (b.0, ap (λ (n : ℕ). ask_at n c.asks) (sym (ask_ticket ticket (stepped c e now).core.asks r.ask r.there)) ∙ b.1, b.2)

    pub from_ready : (ticket : ℕ) (reply : Reply) → (r : IsReady (stepped c e now).core ticket reply) → From named v c e now ticket r.ask.request reply
    from_ready ticket reply r =
        let s = replies_have_sources c e now ticket r.ask reply h.ok r.there r.stage in
        subst (λ (n : ℕ). From named v c e now n r.ask.request reply) (ask_ticket ticket (stepped c e now).core.asks r.ask r.there) (from_source r.ask reply s)

    from_given : (ticket : ℕ) (q : Request) (word : ℕ) (reply : Reply) → e ≡ event.Ask ticket q word → Given c e now reply → From named v c e now ticket q reply
    from_given ticket q word reply e' (sources.taken a f there s) = absurd (let no_way : event.Take a.ticket ≡ event.Ask ticket q word = sym f ∙ e' in cc)
    from_given ticket q word reply e' (sources.held t r s l i) =
        let same : r ≡ q = same_request t r s.word ticket q word (sym s.event ∙ e') in
        let yes = ap decides e' in
        subst (λ (x : Request). From named v c e now ticket x reply) same (is_cached yes (given_are_true holder v p now own c e reply (seen yes) (sources.held t r s l i)))
      where
        same_request : (t : ℕ) (r : Request) (w : ℕ) (ticket : ℕ) (q : Request) (word : ℕ) → event.Ask t r w ≡ event.Ask ticket q word → r ≡ q
        same_request t r w ticket q word k = cc
    from_given ticket q word reply e' (sources.snapshot t r b s n l f i) =
        let same : r ≡ q = same_request t r s.word ticket q word (sym s.event ∙ e') in
        let yes = ap decides e' in
        subst (λ (x : Request). From named v c e now ticket x reply) same (is_snapshot yes (given_are_true holder v p now own c e reply (seen yes) (sources.snapshot t r b s n l f i)))
      where
        same_request : (t : ℕ) (r : Request) (w : ℕ) (ticket : ℕ) (q : Request) (word : ℕ) → event.Ask t r w ≡ event.Ask ticket q word → r ≡ q
        same_request t r w ticket q word k = cc

    pub from_at_once : (ticket : ℕ) (q : Request) (word : ℕ) (reply : Reply) → e ≡ event.Ask ticket q word → (stepped c e now).outcome ≡ Ok (outcome.Replied (Done reply)) → From named v c e now ticket q reply
    from_at_once ticket q word reply e' is = from_given ticket q word reply e' (given_have_sources c e now reply h.ok is)
