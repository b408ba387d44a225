-- Which kind of request a call that ends is of: a read where it is sent once more when it is lost, and else none.
use Rattle.std.proofs.Common.{◌≡◌, ℕ, Bool, true, false, not, cond, ◌&&◌, List, Some, refl, sym, ◌∙◌, ap}
use Rattle.etcd_types.proofs.Bools.{and_first, and_second}
use Rattle.etcd_types.proofs.KeyOrder.{same-equal}
use Rattle.etcd_types.specs.declared.request.Request.{Request}
use Rattle.etcd_types.specs.declared.request.Request.TheVariants as request
use Rattle.etcd_types.specs.Ranges.{contains}
use Rattle.etcd_types.specs.Keys.{same}
use Rattle.proxy_model.specs.Prefixes.{leasing_range}
use Rattle.wait_model.specs.declared.sending.Sending.TheVariants as sending
use Rattle.read_model.specs.declared.asked.Asked.{Asked}
use Rattle.read_model.specs.declared.asked.Stage.{Stage}
use Rattle.read_model.specs.declared.asked.Stage.TheVariants as stage
use Rattle.read_model.specs.Acquires.{is_acquiring}
use Rattle.read_model.specs.PlainRead.{ask_key, key_of}
use Rattle.read_model.specs.TakingOff.{is_writes}
use Rattle.core_model.specs.declared.out_call.CallKind.{CallKind}
use Rattle.core_model.specs.declared.out_call.OutCall.{OutCall}
use Rattle.core_model.specs.declared.out_call.OutJob.{OutJob}
use Rattle.core_model.specs.declared.out_call.OutJob.TheVariants as job
use Rattle.core_model.specs.Asking.{is_plain_request, is_leased_read}
use Rattle.core_model.specs.ClockWork.{clock_work}
use Rattle.core_model.specs.DueJobs.{lease_of}
use Rattle.core_model.specs.Fits.{CoreOk, group_stands, group_sending, is_keepalive}
use Rattle.core_model.specs.Groups.{is_out_stage}
use Rattle.core_model.specs.Kinds.{kind_of, is_read, writes_keys}
use Rattle.core_model.specs.Lookups.{stage_calls, out_at}
use Rattle.core_model.specs.State.{Core}
use Rattle.core_fits.specs.Fits.{ReadsAlone, is_reading}
use Rattle.owner_fits.specs.Laws.{OwnersFit}
use Rattle.owner_fits.proofs.Runs.{starts_fit, steps_fit}
use Rattle.script_text.specs.declared.line.Line.{Line}
use Rattle.keep_laws.proofs.Runs.{found, out_is}
use Rattle.prefix_laws.proofs.Places.{OfPlaces, Lasts, places_kept}
use Rattle.prefix_laws.proofs.Prefixes.{IsKept}
use Rattle.reply_laws.proofs.Before.{is_quiet, clock_leaves}
use Rattle.executed_laws.proofs.Sends.{AllSent, stepped_so, clock_sent}
use Rattle.executed_laws.proofs.Turns.{each_found}
use Rattle.once_laws.proofs.OfKinds.{KindAt, KindsOk, step_kinds}
use Rattle.cause_laws.proofs.Walks.{CallOf, is_own, acquires, writes, shares, ReadOf, own_read, acquire, OtherOf, own_other, write, group}
use Rattle.cause_laws.proofs.After.{EndsNow}
use Rattle.cause_laws.proofs.Named.{calls_is, acquiring_is, job_found, of_all, keepalive_is}
use Rattle.cause_laws.proofs.Writing.{IsWrite, WritesAreWrites, writes_loud}

-- a call that ends with the step is of its request's kind
pub record OfKinds (c : Core) (now : ℕ) : Type 0 where
  pub own : (o : OutCall) (y : Asked) → EndsNow c now o y → (kind : CallKind) → o.job ≡ job.Ask kind → kind_of y.request ≡ kind
  pub read : (o : OutCall) (y : Asked) → EndsNow c now o y → ReadOf o y → is_read (kind_of y.request) ≡ true
  pub other : (o : OutCall) (y : Asked) → EndsNow c now o y → OtherOf o y → is_read (kind_of y.request) ≡ false
  pub plain : (o : OutCall) (y : Asked) → EndsNow c now o y → (key : List ℕ) → o.job ≡ job.Acquire key → (is_plain_request y.request ≡ true) × (ask_key y ≡ key)

-- ---- requests

plain_reads : (q : Request) → is_plain_request q ≡ true → is_read (kind_of q) ≡ true
plain_reads (request.Range ask) h = refl
plain_reads (request.Put ask) h = absurd (cc)
plain_reads (request.Delete ask) h = absurd (cc)
plain_reads (request.Txn t) h = absurd (cc)
plain_reads (request.Compact revision physical) h = absurd (cc)
plain_reads (request.Grant ttl lease) h = absurd (cc)
plain_reads (request.Revoke lease) h = absurd (cc)
plain_reads (request.KeepAlive lease) h = absurd (cc)
plain_reads (request.TimeToLive lease keys) h = absurd (cc)
plain_reads request.Leases h = absurd (cc)
plain_reads (request.Watch ask) h = absurd (cc)

writes_no_read : (q : Request) → writes_keys q ≡ true → is_read (kind_of q) ≡ false
writes_no_read (request.Put ask) h = refl
writes_no_read (request.Delete ask) h = refl
writes_no_read (request.Txn t) h = by (writes_keys (request.Txn t)) h
  where
    by : (b : Bool) → b ≡ true → is_read (cond b Rattle.core_model.specs.declared.out_call.CallKind.TheVariants.WriteTxn Rattle.core_model.specs.declared.out_call.CallKind.TheVariants.ReadTxn) ≡ false
    by true e = refl
    by false e = absurd (cc)
writes_no_read (request.Compact revision physical) h = refl
writes_no_read (request.Grant ttl lease) h = refl
writes_no_read (request.Revoke lease) h = refl
writes_no_read (request.KeepAlive lease) h = refl
writes_no_read (request.Range ask) h = absurd (cc)
writes_no_read (request.TimeToLive lease keys) h = absurd (cc)
writes_no_read request.Leases h = absurd (cc)
writes_no_read (request.Watch ask) h = absurd (cc)

same_kind : (k i : CallKind) → job.Ask k ≡ job.Ask i → k ≡ i
same_kind k i e = cc

one_job : (j k : OutJob) → Some j ≡ Some k → j ≡ k
one_job j k e = cc

no_wait : {A : Type 0} (k : CallKind) → job.Wait ≡ job.Ask k → A
no_wait k e = absurd (cc)

no_group : {A : Type 0} (lease : ℕ) (k : CallKind) → job.Group lease ≡ job.Ask k → A
no_group lease k e = absurd (cc)

no_acquire : {A : Type 0} (key : List ℕ) (k : CallKind) → job.Acquire key ≡ job.Ask k → A
no_acquire key k e = absurd (cc)

acquires_no_wait : {A : Type 0} (key : List ℕ) → job.Acquire key ≡ job.Wait → A
acquires_no_wait key e = absurd (cc)

acquires_no_group : {A : Type 0} (key : List ℕ) (lease : ℕ) → job.Acquire key ≡ job.Group lease → A
acquires_no_group key lease e = absurd (cc)

waits_no_group : {A : Type 0} (lease : ℕ) → job.Wait ≡ job.Group lease → A
waits_no_group lease e = absurd (cc)

-- ---- a call that ends

module _ (c : Core) (now : ℕ) (kinds : KindsOk c) (writing : WritesAreWrites c) (alone : ReadsAlone c) (ok : CoreOk c) where
  module _ (o : OutCall) (y : Asked) (ends : EndsNow c now o y) where
    abbrev b : Asked
    b = ends.behind.before

    stood : (s : Stage) → y.stage ≡ s → is_quiet s ≡ false → b.stage ≡ s
    stood s e q = ends.behind.still (ap is_quiet e ∙ q) ∙ e

    its_kind : (s : Rattle.core_model.specs.declared.out_call.CallKind.CallKind) → o.job ≡ job.Ask s → stage_calls o.call y.stage ≡ true → kind_of y.request ≡ s
    its_kind s j h =
        let is = stood (stage.Calling (sending.Out o.call)) (calls_is o.call y.stage h) refl in
        let outs : out_at o.call c.out ≡ Some o = sym (ap (out_at o.call) (clock_leaves now c).out) ∙ ends.out in
        let k = (found (KindAt c.out) y.ticket c.asks b ends.behind.there kinds).0 o.call is in
        ap kind_of ends.behind.alike.request ∙ same_kind (kind_of b.request) s (sym (one_job o.job (job.Ask (kind_of b.request)) (sym (job_found o.call c.out o outs) ∙ k)) ∙ j)

    own_of : (k : CallKind) → o.job ≡ job.Ask k → kind_of y.request ≡ k
    own_of k i = by ends.of
      where
        by : CallOf (clock_work now c).own.waits.writes o y → kind_of y.request ≡ k
        by (is_own s j h) = its_kind s j h ∙ same_kind s k (sym j ∙ i)
        by (acquires key j h) = no_acquire key k (sym j ∙ i)
        by (writes j h w) = no_wait k (sym j ∙ i)
        by (shares lease j h) = no_group lease k (sym j ∙ i)

    acquired_plain : (key : List ℕ) → is_acquiring y.stage && same (ask_key y) key ≡ true → is_plain_request y.request ≡ true
    acquired_plain key h =
        let is = stood stage.Acquiring (acquiring_is y.stage (and_first (is_acquiring y.stage) (same (ask_key y) key) h)) refl in
        let leased = each_found (λ a. is_reading a.stage ≡ true → is_leased_read c.own.waits.prefix a.request ≡ true) y.ticket c.asks b ends.behind.there alone (ap is_reading is) in
        ap is_plain_request ends.behind.alike.request ∙ and_first (is_plain_request b.request) (not (contains (leasing_range c.own.waits.prefix) (key_of b.request))) leased

    acquired : (key : List ℕ) → is_acquiring y.stage && same (ask_key y) key ≡ true → is_read (kind_of y.request) ≡ true
    acquired key h = plain_reads y.request (acquired_plain key h)

    same_key : (k j : List ℕ) → job.Acquire k ≡ job.Acquire j → k ≡ j
    same_key k j e = cc

    plain_of : (key : List ℕ) → o.job ≡ job.Acquire key → (is_plain_request y.request ≡ true) × (ask_key y ≡ key)
    plain_of key i = by ends.of
      where
        by : CallOf (clock_work now c).own.waits.writes o y → (is_plain_request y.request ≡ true) × (ask_key y ≡ key)
        by (is_own s j h) = no_acquire key s (sym i ∙ j)
        by (acquires other j h) = (acquired_plain other h, same-equal (ask_key y) other (and_second (is_acquiring y.stage) (same (ask_key y) other) h) ∙ same_key other key (sym j ∙ i))
        by (writes j h w) = acquires_no_wait key (sym i ∙ j)
        by (shares lease j h) = acquires_no_group key lease (sym i ∙ j)

    read_of : ReadOf o y → is_read (kind_of y.request) ≡ true
    read_of (own_read k i r) = ap is_read (own_of k i) ∙ r
    read_of (acquire key i) = by ends.of
      where
        by : CallOf (clock_work now c).own.waits.writes o y → is_read (kind_of y.request) ≡ true
        by (is_own s j h) = no_acquire key s (sym i ∙ j)
        by (acquires other j h) = acquired other h
        by (writes j h w) = acquires_no_wait key (sym i ∙ j)
        by (shares lease j h) = acquires_no_group key lease (sym i ∙ j)

    written : is_writes y.stage ≡ true → is_read (kind_of y.request) ≡ false
    written h =
        let is = stood y.stage refl (writes_loud y.stage h) in
        ap (λ (q : Request). is_read (kind_of q)) ends.behind.alike.request ∙ writes_no_read b.request ((found IsWrite y.ticket c.asks b ends.behind.there writing).0 (ap is_writes is ∙ h))

    shared : is_out_stage o.call y.stage ≡ true → is_read (kind_of y.request) ≡ false
    shared h =
        let is = stood (stage.Grouped (Some (sending.Out o.call))) (out_is o.call y.stage h) refl in
        let stands : group_stands c.out b.request b.stage ≡ true = (found _ y.ticket c.asks b ends.behind.there (of_all (λ z. group_stands c.out z.request z.stage) c.asks ok.agrees.groups.stand)).0 in
        let both : is_keepalive b.request && group_sending c.out (lease_of b.request) (Some (sending.Out o.call)) ≡ true = sym (ap (group_stands c.out b.request) is) ∙ stands in
        let lease = keepalive_is b.request (and_first (is_keepalive b.request) (group_sending c.out (lease_of b.request) (Some (sending.Out o.call))) both) in
        ap (λ (q : Request). is_read (kind_of q)) (ends.behind.alike.request ∙ lease.1)

    other_of : OtherOf o y → is_read (kind_of y.request) ≡ false
    other_of (own_other k i r) = ap is_read (own_of k i) ∙ r
    other_of (write i) = by ends.of
      where
        by : CallOf (clock_work now c).own.waits.writes o y → is_read (kind_of y.request) ≡ false
        by (is_own s j h) = no_wait s (sym i ∙ j)
        by (acquires key j h) = acquires_no_wait key (sym j ∙ i)
        by (writes j h w) = written h
        by (shares lease j h) = waits_no_group lease (sym i ∙ j)
    other_of (group lease i) = by ends.of
      where
        by : CallOf (clock_work now c).own.waits.writes o y → is_read (kind_of y.request) ≡ false
        by (is_own s j h) = no_group lease s (sym i ∙ j)
        by (acquires key j h) = acquires_no_group key lease (sym j ∙ i)
        by (writes j h w) = waits_no_group lease (sym j ∙ i)
        by (shares l j h) = shared h

  pub of_kinds : OfKinds c now
  of_kinds = record { own = λ o y e k j. own_of o y e k j; read = λ o y e r. read_of o y e r; other = λ o y e r. other_of o y e r; plain = λ o y e key i. plain_of o y e key i }

-- ---- of each proxy behind each prefix

-- the acquires stand by rising keys
abbrev Ordered : Core → Type 0
Ordered c = AllSent (λ t n. Unit {0}) (λ t n. Unit {0}) (λ t n. Unit {0}) c

abbrev pub KindsStand : Core → Type 0
KindsStand c = (OwnersFit c × AllSent (λ t n. Unit {0}) (λ t n. Unit {0}) (λ t n. Unit {0}) c) × KindsOk c

kinds_last : Lasts KindsStand
kinds_last = record {
  start = λ s. ((starts_fit s, record { asks = tt; acquires = record { order = refl; sent = λ k number x e o. tt }; writes = tt }), tt);
  step = λ c e now b ok h. (
    (
      steps_fit c e now b ok h.0.0,
      stepped_so (λ t n. Unit {0}) (λ t n. Unit {0}) (λ t n. Unit {0}) c e now ok (λ w. record { ask = λ a f s. tt; acquire = λ i a f d s. tt; write = λ i u f s. tt }) h.0.1,
    ),
    step_kinds c e now b ok h.0.0 (clock_sent (λ t n. Unit {0}) (λ t n. Unit {0}) (λ t n. Unit {0}) now c h.0.1).acquires.order h.1,
  );
}

pub kinds_kept : (script : List Line) → IsKept script (OfPlaces KindsStand)
kinds_kept script = places_kept KindsStand kinds_last script
