-- What a proxy answers from what it holds: its record of one key, or a snapshot over several.
use Rattle.std.proofs.Common.{◌≡◌, ℕ, Bool, true, false, not, cond, List, ◌∷◌, Option, None, Some, refl, sym, ◌∙◌, ap, subst}
use Rattle.std.specs.Option.{option_map}
use Rattle.etcd_types.specs.declared.answer.Body.{Body}
use Rattle.etcd_types.specs.declared.answer.Refusal.{Refusal}
use Rattle.etcd_types.specs.declared.answer.Reply.{Reply}
use Rattle.etcd_types.specs.declared.operation.RangeAsk.{RangeAsk}
use Rattle.etcd_types.specs.declared.record.Header.{Header}
use Rattle.etcd_types.specs.declared.request.Request.{Request}
use Rattle.etcd_types.specs.declared.request.Request.TheVariants as request
use Rattle.etcd_types.specs.Ranges.{contains}
use Rattle.etcd_types.proofs.Bools.{and_first}
use Rattle.store_model.specs.Refusals.{key_not_provided}
use Rattle.proxy_model.specs.declared.lease.Entry.{Entry}
use Rattle.proxy_model.specs.declared.lease.Phase.{Phase}
use Rattle.proxy_model.specs.declared.lease.Phase.TheVariants.{Held, Writing, Leaving}
use Rattle.proxy_model.specs.Keyed.{at}
use Rattle.proxy_model.specs.LeaseTable.{is_held_phase}
use Rattle.proxy_model.specs.Prefixes.{leasing_range}
use Rattle.proxy_model.specs.RequestRefusals.{first_of, unserved, unsupported, request_lacks_key, given}
use Rattle.proxy_model.specs.Snapshot.{is_plain}
use Rattle.read_model.specs.PlainRead.{key_of}
use Rattle.read_model.specs.State.{Ground, ground_of}
use Rattle.core_model.specs.declared.event.CoreEvent.{CoreEvent}
use Rattle.core_model.specs.Asking.{is_plain_request, is_leased_read, held_record, held_body}
use Rattle.core_model.specs.ClockWork.{clock_work}
use Rattle.core_model.specs.Kinds.{writes_keys}
use Rattle.core_model.specs.Lookups.{reads_of}
use Rattle.core_model.specs.Refusals.{refusal_of}
use Rattle.core_model.specs.State.{Core}
use Rattle.core_fits.specs.Fits.{is_reading}
use Rattle.core_fits.proofs.Found.{each_ask}
use Rattle.core_fits.proofs.Prefix.{clock_prefix}
use Rattle.cache_laws.specs.Moves.View.{View}
use Rattle.cache_laws.specs.Store.StoreView.{is_client}
use Rattle.reply_laws.specs.Sources.{shows, IsHeld, stood, called, acquired, wrote, shared, cached, taken, held}
use Rattle.reply_laws.specs.Sources as sources
use Rattle.middle_laws.specs.Seen.{HoldsTrue}
use Rattle.middle_laws.specs.Cached.{header_after, IsCachedRead, records_in, IsCachedSnapshot}
use Rattle.middle_laws.specs.Laws.{SourcesAreTrue, GivenAreTrue}
use Rattle.middle_laws.proofs.Clocked.{kept_records_are_true}
use Rattle.middle_laws.proofs.Decided.{decided_records_are_true}
use Rattle.middle_laws.proofs.Snapshots.{is_one, Within, snapshot_within, keyed_txn}

-- One key.

plain_range : (q : Request) → is_plain_request q ≡ true → (ask : RangeAsk) × (q ≡ request.Range ask) × (is_plain ask ≡ true)
plain_range (request.Range ask) h = (ask, refl, h)
plain_range (request.Put ask) h = absurd (cc)
plain_range (request.Delete ask) h = absurd (cc)
plain_range (request.Txn t) h = absurd (cc)
plain_range (request.Compact revision physical) h = absurd (cc)
plain_range (request.Grant ttl lease) h = absurd (cc)
plain_range (request.Revoke lease) h = absurd (cc)
plain_range (request.KeepAlive lease) h = absurd (cc)
plain_range (request.TimeToLive lease keys) h = absurd (cc)
plain_range request.Leases h = absurd (cc)
plain_range (request.Watch ask) h = absurd (cc)

read_shown : (v : View) (prefix : List ℕ) (c : Core) (e : CoreEvent) (now : ℕ) (g : Ground) (q : Request) (reply : Reply) → HoldsTrue v prefix g → is_leased_read prefix q ≡ true → IsHeld c e now g (key_of q) reply
    → IsCachedRead v prefix (header_after c e now) q reply
read_shown v prefix c e now g q reply holds leased h =
    let (ask, is, plain) = plain_range q (and_first (is_plain_request q) (not (contains (leasing_range prefix) (key_of q))) leased) in
    let key : key_of q ≡ ask.range.key = ap key_of is in
    let t = holds (key_of q) h.entry h.owned h.held in
    record {
      ask = ask;
      range = is;
      plain = plain;
      client = subst (λ (k : List ℕ). is_client prefix k ≡ true) key t.client;
      told = h.told ∙ ap (shows (header_after c e now)) (sym t.same ∙ ap v.kvs key);
    }

pub sources_are_true : SourcesAreTrue
sources_are_true holder v p now own c e a reply s (cached stage g reading before decides h) =
    let prefix = c.own.waits.prefix in
    let alone = each_ask (λ b. is_reading b.stage ≡ true → is_leased_read prefix b.request ≡ true) a.ticket c.asks before.before s.fits.read before.there in
    let leased : is_leased_read prefix a.request ≡ true = ap (is_leased_read prefix) (sym before.request) ∙ alone (ap is_reading before.stage ∙ reading) in
    read_shown v prefix c e now g a.request reply (decided_records_are_true holder v p now own c e g s decides) leased h
sources_are_true holder v p now own c e a reply s (stood before) = tt
sources_are_true holder v p now own c e a reply s (called o kind j before hears) = tt
sources_are_true holder v p now own c e a reply s (acquired o answer claim j before hears claims told) = tt
sources_are_true holder v p now own c e a reply s (wrote o answer w j before hears found same done) = tt
sources_are_true holder v p now own c e a reply s (shared o lease j before hears) = tt

-- Several keys.

-- what is held is among the store's records
held_within : (v : View) (prefix : List ℕ) (g : Ground) → HoldsTrue v prefix g → Within (λ k. held_record (at g.own.entries k)) (records_in v prefix)
held_within v prefix g holds k kv e = by (at g.own.entries k) refl e
  where
    by : (o : Option Entry) → at g.own.entries k ≡ o → held_record o ≡ Some kv → records_in v prefix k ≡ Some kv
    by None f e = absurd (cc)
    by (Some x) f e = by_phase x.phase refl e
      where
        by_phase : (q : Phase) → x.phase ≡ q → cond (is_held_phase q) (Some x.kv) None ≡ Some kv → records_in v prefix k ≡ Some kv
        by_phase Held h e = let t = holds k x f h in (λ i. cond (t.client i) (Some (t.same i)) None) ∙ e
        by_phase (Writing revoked) h e = absurd (cc)
        by_phase (Leaving sent) h e = absurd (cc)

-- the second of the refusals
not_second : (o : Option Refusal) (b : Bool) (r : Refusal) (rest : List (Option Refusal)) → first_of (o ∷ given b r ∷ rest) ≡ None → b ≡ false
not_second (Some x) b r rest h = absurd (cc)
not_second None true r rest h = absurd (cc)
not_second None false r rest h = refl

snapshot_shown : (v : View) (prefix : List ℕ) (h : Header) (g : Ground) (q : Request) (b : Body) (reply : Reply) → HoldsTrue v prefix g → refusal_of prefix q ≡ None → writes_keys q ≡ false → held_body g.own.entries q ≡ Some b
    → reply ≡ record { header = h; body = b } → IsCachedSnapshot v prefix h q reply
snapshot_shown v prefix h g (request.Txn t) b reply holds served reads shown told =
    let lacks = not_second (option_map unsupported (unserved (request.Txn t))) (request_lacks_key (request.Txn t)) key_not_provided _ served in
    record {
      txn = t;
      asked = refl;
      reads = reads;
      named = keyed_txn t (is_one (λ k. held_record (at g.own.entries k)) t b shown) lacks;
      body = b;
      shown = snapshot_within (λ k. held_record (at g.own.entries k)) (records_in v prefix) (held_within v prefix g holds) t b shown;
      told = told;
    }
snapshot_shown v prefix h g (request.Range ask) b reply holds served reads shown told = absurd (cc)
snapshot_shown v prefix h g (request.Put ask) b reply holds served reads shown told = absurd (cc)
snapshot_shown v prefix h g (request.Delete ask) b reply holds served reads shown told = absurd (cc)
snapshot_shown v prefix h g (request.Compact revision physical) b reply holds served reads shown told = absurd (cc)
snapshot_shown v prefix h g (request.Grant ttl lease) b reply holds served reads shown told = absurd (cc)
snapshot_shown v prefix h g (request.Revoke lease) b reply holds served reads shown told = absurd (cc)
snapshot_shown v prefix h g (request.KeepAlive lease) b reply holds served reads shown told = absurd (cc)
snapshot_shown v prefix h g (request.TimeToLive lease keys) b reply holds served reads shown told = absurd (cc)
snapshot_shown v prefix h g request.Leases b reply holds served reads shown told = absurd (cc)
snapshot_shown v prefix h g (request.Watch ask) b reply holds served reads shown told = absurd (cc)

pub given_are_true : GivenAreTrue
given_are_true holder v p now own c e reply s (taken a event there ready) = tt
given_are_true holder v p now own c e reply s (held ticket q served leased h) =
    read_shown v c.own.waits.prefix c e now (ground_of (reads_of (clock_work now c))) q reply (kept_records_are_true holder v p now own c e s)
    (ap (λ (x : List ℕ). is_leased_read x q) (sym (clock_prefix now c)) ∙ leased) h
given_are_true holder v p now own c e reply s (sources.snapshot ticket q b served reads live shown told) =
    snapshot_shown v c.own.waits.prefix (header_after c e now) (ground_of (reads_of (clock_work now c))) q b reply (kept_records_are_true holder v p now own c e s)
    (ap (λ (x : List ℕ). refusal_of x q) (sym (clock_prefix now c)) ∙ served.served) reads shown told
