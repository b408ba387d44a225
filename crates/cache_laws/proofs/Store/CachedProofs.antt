-- What a proxy answers from its cache is what the store answers.
use Rattle.std.proofs.Common.{◌≡◌, ◌≢◌, ℕ, ◌==◌, Bool, true, false, cond, not, ◌&&◌, List, [], Option, None, Some, Ok, Err, refl, sym, ◌∙◌, ap}
use Rattle.std.specs.List.{list_all}
use Rattle.std.specs.Option.{option_to_list}
use Rattle.etcd_types.specs.declared.record.Kv.{Kv}
use Rattle.etcd_types.specs.declared.operation.RangeAsk.{RangeAsk}
use Rattle.etcd_types.specs.declared.operation.TxnAsk.{TxnAsk}
use Rattle.etcd_types.specs.declared.operation.Op.TheVariants as op
use Rattle.etcd_types.specs.declared.answer.Answer.{Answer}
use Rattle.etcd_types.specs.declared.answer.Answer.TheVariants as answer
use Rattle.etcd_types.specs.declared.answer.Body.{Body}
use Rattle.etcd_types.specs.declared.answer.Body.TheVariants as body
use Rattle.etcd_types.specs.declared.answer.Refusal.{Refusal}
use Rattle.etcd_types.specs.Ranges.{is_one}
use Rattle.store_model.specs.declared.history.KeyChange.{KeyChange}
use Rattle.store_model.specs.FirstRefusals.{first_refusal}
use Rattle.store_model.specs.Records.{record_now}
use Rattle.store_model.specs.State.{State, applied_by}
use Rattle.store_model.specs.Step.{exec, exec_op, read_applied, settled, unless}
use Rattle.store_model.specs.Transactions.{Ran, run}
use Rattle.proxy_model.specs.Snapshot.{Held, is_plain, is_unsorted, is_snapshot, names_nothing, all_held, snapshot, snapshot_by, snapshot_holds, plain_body}
use Rattle.proxy_laws.specs.Answers.{AreRecordsOf}
use Rattle.proxy_laws.proofs.SnapshotProofs.{read_same, snapshots_are_true}
use Rattle.cache_laws.specs.Moves.View as view
use Rattle.cache_laws.specs.Moves.View.{Phase, Absent, Writing, Leaving, View, live}
use Rattle.cache_laws.proofs.Moves.TruthProofs.{held_is_true}
use Rattle.cache_laws.specs.Store.StoreView.{is_client, Stands}
use Rattle.cache_laws.specs.Store.CachedReads.{HeldRecordsAreTrue, CachedReadsAreTrue, is_held, held_by, HoldsClients, CachedSnapshotsAreTrue}
use Rattle.cache_laws.proofs.Store.Showing.{at_true}
use Rattle.etcd_types.proofs.Bools.{and_first, and_second, not_true}
use Rattle.cache_laws.proofs.Guards.AnsweredProofs.{snapshots_are_answered}

pub held_records_are_true : HeldRecordsAreTrue
held_records_are_true holder p s v proxy k stands lives client held =
    sym (held_is_true holder v proxy k stands.inv lives held ∙ stands.shows.kvs k ∙ at_true (is_client p k) (record_now s.history k) None client)

abbrev some_record : Option Kv → Option (Option Kv) → Option Kv
some_record d None = d
some_record d (Some kv) = kv

are_records : (holder : ℕ → ℕ) (p : List ℕ) (s : State) (v : View) (proxy : ℕ) → Stands holder p s v → live v proxy ≢ 0 → HoldsClients p v proxy → AreRecordsOf (held_by v proxy) s
are_records holder p s v proxy stands lives clients k kv e = by_phase (v.slots proxy k).phase refl e
  where
    by_phase : (q : Phase) → (v.slots proxy k).phase ≡ q → cond (is_held q) (Some (v.slots proxy k).kv) None ≡ Some kv → record_now s.history k ≡ kv
    by_phase view.Held is f = held_records_are_true holder p s v proxy k stands lives (clients k is) is ∙ ap (some_record kv) f
    by_phase Absent is f = absurd (cc)
    by_phase Writing is f = absurd (cc)
    by_phase Leaving is f = absurd (cc)

not_serial : (ask : RangeAsk) → is_plain ask ≡ true → ask.serializable ≡ false
not_serial ask e =
    not_true ask.serializable
    (and_second (is_one ask.range && ask.revision == 0) _ (and_first _ (not ask.keys_only) (and_first _ (not ask.count_only) (and_first _ (is_unsorted ask.sort) e))))

body_in : Answer → Body
body_in (answer.Done reply) = reply.body
body_in (answer.Refused refusal) = body.Compact

pub cached_reads_are_true : CachedReadsAreTrue
unfolding exec body_in
cached_reads_are_true holder p s member v proxy ask reply stands lives plain client held told =
    by_serial ask.serializable (not_serial ask plain) told
  where
    shown : (next : List KeyChange) (b : Body) → run s (op.Range ask) [] ≡ Ok (next, b) → b ≡ plain_body (option_to_list (v.slots proxy ask.range.key).kv)
    shown next b e =
        (read_same s (λ k. Some (record_now s.history k)) ask [] next b (λ k kv f. ap (some_record None) f) plain refl refl e).1
        ∙ ap (λ (o : Option Kv). plain_body (option_to_list o)) (held_records_are_true holder p s v proxy ask.range.key stands lives client held)

    by_ran : (ran : Ran) → run s (op.Range ask) [] ≡ ran → (settled s member ran).1 ≡ answer.Done reply → reply.body ≡ plain_body (option_to_list (v.slots proxy ask.range.key).kv)
    by_ran (Ok ran) e f = sym (ap body_in f) ∙ shown ran.0 ran.1 e
    by_ran (Err refusal) e f = absurd (cc)

    by_refusal : (found : Option Refusal) → (unless s found (settled s member (run s (op.Range ask) []))).1 ≡ answer.Done reply → reply.body ≡ plain_body (option_to_list (v.slots proxy ask.range.key).kv)
    by_refusal None f = by_ran (run s (op.Range ask) []) refl f
    by_refusal (Some refusal) f = absurd (cc)

    by_serial : (b : Bool) → b ≡ false → (cond b (unless s (first_refusal (op.Range ask)) (read_applied s member (applied_by s member) ask)) (exec_op s member (op.Range ask))).1 ≡ answer.Done reply
        → reply.body ≡ plain_body (option_to_list (v.slots proxy ask.range.key).kv)
    by_serial true e f = absurd (cc)
    by_serial false e f = by_refusal (first_refusal (op.Range ask)) f

-- what is answered from a snapshot is one
is_one_of : (held : Held) (t : TxnAsk) (b : Body) → snapshot held t ≡ Some b → is_snapshot t ≡ true
is_one_of held t b e = by_test (is_snapshot t) e
  where
    by_test : (x : Bool) → cond (x && not (names_nothing t) && all_held held t) (Some (snapshot_by held t (list_all (snapshot_holds held) t.compare))) None ≡ Some b → x ≡ true
    by_test true f = refl
    by_test false f = absurd (cc)

pub cached_snapshots_are_true : CachedSnapshotsAreTrue
cached_snapshots_are_true holder p s member v proxy t b stands lives clients named shown =
    let (reply, told) = snapshots_are_answered s member t (is_one_of (held_by v proxy) t b shown) named in
    (reply, told, snapshots_are_true s member (held_by v proxy) t b reply (are_records holder p s v proxy stands lives clients) shown told)
