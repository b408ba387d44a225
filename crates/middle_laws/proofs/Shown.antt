-- What cached replies show of a store that the view shows, and of that store under the namespace.
use Rattle.std.proofs.Common.{◌≡◌, ℕ, Bool, true, false, cond, unwrap_or, List, Option, None, Some, refl, sym, ◌∙◌, ap}
use Rattle.etcd_types.specs.declared.answer.Reply.{Reply}
use Rattle.etcd_types.specs.declared.record.Kv.{Kv}
use Rattle.etcd_types.specs.declared.request.Request.TheVariants as request
use Rattle.store_model.specs.Records.{record_now}
use Rattle.store_model.specs.State.{State}
use Rattle.store_model.specs.Step.{Step}
use Rattle.store_model.proofs.RefusalLemmas.{lacks_key_is_txn}
use Rattle.store_laws.proofs.Requests.RangeProofs.{keyed-now}
use Rattle.proxy_laws.specs.Answers.{AreRecordsOf}
use Rattle.proxy_laws.proofs.SnapshotProofs.{snapshots_are_true}
use Rattle.cache_laws.proofs.Guards.AnsweredProofs.{snapshots_are_answered}
use Rattle.namespace_laws.specs.Stored.Laws.{request_lacks}
use Rattle.namespace_laws.specs.Stored.Stored.{stored_prev, stored_reply, stored_answer, stored}
use Rattle.namespace_laws.proofs.Stored.Back.{replies_unwrap}
use Rattle.namespace_laws.proofs.Stored.Records.{records_are_stored}
use Rattle.namespace_laws.proofs.Stored.Steps.{stored_stores_answer}
use Rattle.cache_laws.specs.Moves.View.{View}
use Rattle.cache_laws.specs.Store.StoreView.{is_client, Shows}
use Rattle.cache_laws.proofs.Store.Showing.{at_true}
use Rattle.reply_laws.specs.Sources.{shows}
use Rattle.middle_laws.specs.Cached.{records_in}
use Rattle.middle_laws.specs.Laws.{CachedReadsShowTheStore, CachedSnapshotsShowTheStore, with_key, CachedReadsUnwrap, CachedSnapshotsUnwrap}
use Rattle.middle_laws.proofs.Snapshots.{is_one}

record_shown : (prefix : List ℕ) (s : State) (v : View) (k : List ℕ) → Shows prefix s v → is_client prefix k ≡ true → v.kvs k ≡ record_now s.history k
record_shown prefix s v k show client = show.kvs k ∙ at_true (is_client prefix k) (record_now s.history k) None client

pub cached_reads_show : CachedReadsShowTheStore
cached_reads_show prefix s v h q reply show x = x.told ∙ ap (shows h) (record_shown prefix s v x.ask.range.key show x.client)

are_records : (prefix : List ℕ) (s : State) (v : View) → Shows prefix s v → AreRecordsOf (records_in v prefix) s
are_records prefix s v show k kv e = by (is_client prefix k) refl e
  where
    by : (b : Bool) → is_client prefix k ≡ b → cond b (Some (v.kvs k)) None ≡ Some kv → record_now s.history k ≡ kv
    by true is e = sym (record_shown prefix s v k show is) ∙ ap (λ (o : Option (Option Kv)). unwrap_or o None) e
    by false is e = absurd (cc)

pub cached_snapshots_show : CachedSnapshotsShowTheStore
cached_snapshots_show prefix s member v h q reply show x =
    let (stored, told) = snapshots_are_answered s member x.txn (is_one (records_in v prefix) x.txn x.body x.shown) x.named in
    (stored, told, snapshots_are_true s member (records_in v prefix) x.txn x.body stored (are_records prefix s v show) x.shown told ∙ sym (ap (λ (r : Reply). r.body) x.told))

-- Under the namespace.

-- a record is of its own key
told_back : (ns k : List ℕ) (o : Option Kv) → ((kv : Kv) → o ≡ Some kv → kv.key ≡ k) → o ≡ with_key k (stored_prev ns o)
told_back ns k None f = refl
told_back ns k (Some kv) f = λ i. Some (record kv { key = f kv refl i })

pub cached_reads_unwrap : CachedReadsUnwrap
cached_reads_unwrap ns prefix s v h q reply show x =
    let k = x.ask.range.key in
    cached_reads_show prefix s v h q reply show x
    ∙ ap (shows h) (told_back ns k (record_now s.history k) (keyed-now s.history k) ∙ ap (with_key k) (sym (records_are_stored ns s.history k)))

pub cached_snapshots_unwrap : CachedSnapshotsUnwrap
cached_snapshots_unwrap ns prefix s member v h q reply keys show x =
    let (bare, told, same) = cached_snapshots_show prefix s member v h q reply show x in
    let lacks : request_lacks (request.Txn x.txn) ≡ false = lacks_key_is_txn x.txn ∙ x.named in
    (stored_reply ns bare, bare, ap (λ (step : Step). step.1) (stored_stores_answer ns s member (request.Txn x.txn) keys lacks) ∙ ap (stored_answer ns) told, replies_unwrap ns bare, sym same)
