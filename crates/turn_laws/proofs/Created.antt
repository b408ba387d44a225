-- Each record that a store's answer shows was put, so it has a create revision.
use Rattle.std.proofs.Common.{◌≡◌, ℕ, zero, suc, ◌≤◌, ◌==◌, nat_lt, nat_le, Bool, true, false, not, cond, ◌&&◌, List, [], ◌∷◌, take, map, filter_map, flat_map, Option, None, Some, Result, Ok, Err, refl, ◌∙◌, ap, subst, arith}
use Rattle.std.proofs.lemmas.Bool.Decides.{nat_tests}
use Rattle.std.proofs.lemmas.List.Folds.{list_all-append}
use Rattle.std.specs.List.{list_all, cons_option}
use Rattle.etcd_types.proofs.Bools.{and_first, and_second, and_both}
use Rattle.etcd_types.specs.declared.answer.Answer.{Answer}
use Rattle.etcd_types.specs.declared.answer.Answer.TheVariants as answer
use Rattle.etcd_types.specs.declared.answer.Body.{Body}
use Rattle.etcd_types.specs.declared.answer.Refusal.{Refusal}
use Rattle.etcd_types.specs.declared.operation.Op.{Op}
use Rattle.etcd_types.specs.declared.operation.Op.TheVariants as op
use Rattle.etcd_types.specs.declared.operation.PutAsk.{PutAsk}
use Rattle.etcd_types.specs.declared.operation.RangeAsk.{RangeAsk}
use Rattle.etcd_types.specs.declared.operation.TxnAsk.{TxnAsk}
use Rattle.etcd_types.specs.declared.record.Kv.{Kv}
use Rattle.etcd_types.specs.declared.request.Request.{Request}
use Rattle.etcd_types.specs.declared.request.Request.TheVariants as request
use Rattle.proxy_model.specs.Fits.{branch_of}
use Rattle.proxy_model.specs.Readings.{records_of}
use Rattle.proxy_laws.proofs.Ran.{answer_branch}
use Rattle.store_model.specs.declared.history.KeyChange.{KeyChange}
use Rattle.store_model.specs.FirstRefusals.{first_refusal}
use Rattle.store_model.specs.History.{History, newest, up_to_revision}
use Rattle.store_model.specs.Ranges.{keys_in, records_now}
use Rattle.store_model.specs.Reads.{is_unsupported, limited, shown, range_body, asked_history, read}
use Rattle.store_model.specs.Records.{record_now}
use Rattle.store_model.specs.State.{State, applied_by}
use Rattle.store_model.specs.Step.{Step, unless, settled, told_at, exec, exec_op, exec_range}
use Rattle.store_model.specs.Compares.{all_hold}
use Rattle.store_model.specs.Transactions as transactions
use Rattle.store_model.specs.Transactions.{Ran, RanAll, seen, unchanged, put_on, with_body, first_then, run, run_all, has_lease}
use Rattle.store_laws.specs.Requests.Branches.{holds_now}
use Rattle.store_laws.proofs.Lives.Histories.{records_are_made}
use Rattle.core_laws.specs.Writes.Laws.{shown_records}
use Rattle.core_laws.proofs.Steps.Comes.{by_test}
use Rattle.turn_laws.specs.Known.{is_created, shows_created}
use Rattle.turn_laws.proofs.WriteCalls.{IsCreated}

abbrev created : List Kv → Type 0
created kvs = list_all is_created kvs ≡ true

-- ---- the records of a history

above : (n : ℕ) → 2 ≤ n → nat_lt 0 n ≡ true
above n l = grind (arith, nat_tests)

record_created : (h : History) (k : List ℕ) (kvs : List Kv) (o : Option Kv) → record_now h k ≡ o → created kvs → created (cons_option o kvs)
record_created h k kvs None e c = c
record_created h k kvs (Some kv) e c = and_both (nat_lt 0 kv.create) _ (above kv.create (records_are_made h k kv e).created) c

keys_created : (h : History) (ks : List (List ℕ)) → created (filter_map (record_now h) ks)
keys_created h [] = refl
keys_created h (k ∷ ks) = record_created h k (filter_map (record_now h) ks) (record_now h k) refl (keys_created h ks)

taken_created : (n : ℕ) (kvs : List Kv) → created kvs → created (take n kvs)
taken_created zero kvs c = refl
taken_created (suc n) [] c = refl
taken_created (suc n) (kv ∷ kvs) c = and_both (nat_lt 0 kv.create) _ (and_first (nat_lt 0 kv.create) _ c) (taken_created n kvs (and_second (nat_lt 0 kv.create) _ c))

bared_created : (kvs : List Kv) → created kvs → created (map (λ (kv : Kv). record kv { value = [] }) kvs)
bared_created [] c = refl
bared_created (kv ∷ kvs) c = and_both (nat_lt 0 kv.create) _ (and_first (nat_lt 0 kv.create) _ c) (bared_created kvs (and_second (nat_lt 0 kv.create) _ c))

limited_created : (n : ℕ) (kvs : List Kv) → created kvs → created (limited n kvs)
limited_created n kvs c = by_test created (n == 0) kvs (take n kvs) (λ t. c) (λ t. taken_created n kvs c)

shown_created : (ask : RangeAsk) (kvs : List Kv) → created kvs → created (shown ask kvs)
shown_created ask kvs c = by_test created ask.keys_only _ (limited ask.limit kvs) (λ t. bared_created (limited ask.limit kvs) (limited_created ask.limit kvs c)) (λ t. limited_created ask.limit kvs c)

-- ---- what operations answer: of the records in one body

abbrev BodyOk : Body → Type 0
BodyOk b = created (records_of b)

abbrev ToldOk : Result Body Refusal → Type 0
ToldOk (Ok b) = BodyOk b
ToldOk (Err why) = Unit {0}

read_created : (h : History) (latest compacted : ℕ) (ask : RangeAsk) → ToldOk (read h latest compacted ask)
read_created h latest compacted ask =
    let kvs = records_now (asked_history h ask.revision) ask.range in
    by_test ToldOk (nat_lt latest ask.revision) _ _ (λ t. tt)
    (λ t. by_test ToldOk (not (ask.revision == 0) && nat_lt ask.revision compacted) _ _ (λ u. tt)
    (λ u. by_test ToldOk (is_unsupported ask.sort) _ (Ok (range_body ask kvs)) (λ r. tt)
    (λ r. by_test BodyOk ask.count_only _ _ (λ s. refl) (λ s. shown_created ask kvs (keys_created (asked_history h ask.revision) (keys_in (asked_history h ask.revision) ask.range))))))

abbrev RanOk : Ran → Type 0
RanOk (Ok ran) = BodyOk ran.1
RanOk (Err why) = Unit {0}

unchanged_created : (made : List KeyChange) (r : Result Body Refusal) → ToldOk r → RanOk (unchanged made r)
unchanged_created made (Ok b) h = h
unchanged_created made (Err why) h = tt

put_created : (ask : PutAsk) (made : List KeyChange) (o : Option Kv) → RanOk (put_on ask made o)
put_created ask made None = by_test RanOk ask.ignore_lease _ _ (λ t. tt) (λ t. refl)
put_created ask made (Some old) = refl

answered_created : (b : Bool) (r : RanAll) → RanOk (transactions.answered b r)
answered_created b (Ok ran) = refl
answered_created b (Err why) = tt

op_created : (s : State) (o : Op) (made : List KeyChange) → RanOk (run s o made)
op_created s (op.Range ask) made = unchanged_created made _ (read_created (seen s made) (newest (seen s made)) s.compacted ask)
op_created s (op.Put ask) made = by_test RanOk (not (ask.lease == 0) && not (has_lease s.leases ask.lease)) _ _ (λ t. tt) (λ t. put_created ask made (record_now (seen s made) ask.key))
op_created s (op.Delete ask) made = refl
op_created s (op.Txn' compare m success n failure) made = by_test RanOk (all_hold (seen s made) compare) _ _ (λ t. answered_created true (transactions.run_row s success made)) (λ t. answered_created false (transactions.run_row s failure made))

abbrev AllOk : RanAll → Type 0
AllOk (Ok ran) = created (flat_map records_of ran.1)
AllOk (Err why) = Unit {0}

more_created : (b : Body) (r : RanAll) → BodyOk b → AllOk r → AllOk (with_body b r)
more_created b (Ok ran) h c = list_all-append is_created (records_of b) (flat_map records_of ran.1) ∙ and_both (list_all is_created (records_of b)) _ h c
more_created b (Err why) h c = tt

all_created : (s : State) (ops : List Op) (made : List KeyChange) → AllOk (run_all s ops made)
all_created s [] made = refl
all_created s (o ∷ ops) made = by (run s o made) (op_created s o made) (λ next. all_created s ops next)
  where
    by : (r : Ran) → RanOk r → ((next : List KeyChange) → AllOk (run_all s ops next)) → AllOk (first_then r (λ next. run_all s ops next))
    by (Ok ran) h more = more_created ran.1 (run_all s ops ran.0) h (more ran.0)
    by (Err why) h more = tt

-- ---- and whole answers: a transaction shows those of the operations that ran, and nothing else shows any

txn_created : (s : State) (member : ℕ) (t : TxnAsk) (a : Answer) → (exec s member (request.Txn t)).1 ≡ a → IsCreated a
txn_created s member t (answer.Refused why) e = tt
txn_created s member t (answer.Done reply) e =
    (let (made, bodies, ran) = answer_branch s member t reply e in
    ap (λ (o : Option (Bool × List Body)). list_all is_created (shown_records o)) ran.branch ∙ subst AllOk ran.ran (all_created s (cond (holds_now s t) t.success t.failure) []))

abbrev StepOk : Step → Type 0
StepOk x = IsCreated x.1

unless_created : (s : State) (o : Option Refusal) (x : Step) → StepOk x → StepOk (unless s o x)
unless_created s None x h = h
unless_created s (Some why) x h = tt

-- a body that is of no transaction
abbrev IsPlain : Body → Type 0
IsPlain b = branch_of b ≡ None

abbrev PlainIf : Ran → Type 0
PlainIf (Ok ran) = IsPlain ran.1
PlainIf (Err why) = Unit {0}

plain_created : (b : Body) → IsPlain b → shows_created b ≡ true
plain_created b e = ap (λ (o : Option (Bool × List Body)). list_all is_created (shown_records o)) e

settled_created : (s : State) (member : ℕ) (r : Ran) → PlainIf r → StepOk (settled s member r)
settled_created s member (Ok ran) h = plain_created ran.1 h
settled_created s member (Err why) h = tt

abbrev PlainTold : Result Body Refusal → Type 0
PlainTold (Ok b) = IsPlain b
PlainTold (Err why) = Unit {0}

read_plain : (h : History) (latest compacted : ℕ) (ask : RangeAsk) → PlainTold (read h latest compacted ask)
read_plain h latest compacted ask =
    by_test PlainTold (nat_lt latest ask.revision) _ _ (λ t. tt)
    (λ t. by_test PlainTold (not (ask.revision == 0) && nat_lt ask.revision compacted) _ _ (λ u. tt)
    (λ u. by_test PlainTold (is_unsupported ask.sort) _ _ (λ r. tt) (λ r. by_test IsPlain ask.count_only _ _ (λ s. refl) (λ s. refl))))

unchanged_plain : (made : List KeyChange) (r : Result Body Refusal) → PlainTold r → PlainIf (unchanged made r)
unchanged_plain made (Ok b) h = h
unchanged_plain made (Err why) h = tt

put_plain : (ask : PutAsk) (made : List KeyChange) (o : Option Kv) → PlainIf (put_on ask made o)
put_plain ask made None = by_test PlainIf ask.ignore_lease _ _ (λ t. tt) (λ t. refl)
put_plain ask made (Some old) = refl

told_created : (s : State) (member revision : ℕ) (r : Result Body Refusal) → PlainTold r → StepOk (told_at s member revision r)
told_created s member revision (Ok b) h = plain_created b h
told_created s member revision (Err why) h = tt

range_created : (s : State) (member : ℕ) (ask : RangeAsk) → StepOk (exec_range s member ask)
range_created s member ask =
    let at = applied_by s member in
    by_test StepOk ask.serializable _ (exec_op s member (op.Range ask))
    (λ t. unless_created s (first_refusal (op.Range ask)) _ (by_test StepOk (nat_lt at s.compacted) _ _ (λ u. tt) (λ u. told_created s member at _ (read_plain (up_to_revision s.history at) at s.compacted ask))))
    (λ t. unless_created s (first_refusal (op.Range ask)) _ (settled_created s member (run s (op.Range ask) []) (unchanged_plain [] _ (read_plain (seen s []) (newest (seen s [])) s.compacted ask))))

pub answers_are_created : (s : State) (member : ℕ) (q : Request) → IsCreated (exec s member q).1
unfolding exec
answers_are_created s member (request.Txn t) = txn_created s member t (exec_op s member (op.Txn t)).1 refl
answers_are_created s member (request.Range ask) = range_created s member ask
answers_are_created s member (request.Put ask) =
    unless_created s (first_refusal (op.Put ask)) _
    (settled_created s member (run s (op.Put ask) []) (by_test PlainIf (not (ask.lease == 0) && not (has_lease s.leases ask.lease)) _ _ (λ t. tt) (λ t. put_plain ask [] (record_now (seen s []) ask.key))))
answers_are_created s member (request.Delete ask) = unless_created s (first_refusal (op.Delete ask)) _ (settled_created s member (run s (op.Delete ask) []) refl)
answers_are_created s member (request.Compact revision physical) = by_test StepOk (nat_le revision s.compacted) _ _ (λ t. tt) (λ t. by_test StepOk (nat_lt (newest s.history) revision) _ _ (λ u. tt) (λ u. refl))
answers_are_created s member (request.Grant ttl lease) = by_test StepOk (has_lease s.leases lease) _ _ (λ t. tt) (λ t. refl)
answers_are_created s member (request.Revoke lease) = by_test StepOk (has_lease s.leases lease) _ _ (λ t. refl) (λ t. tt)
answers_are_created s member (request.KeepAlive lease) = refl
answers_are_created s member (request.TimeToLive lease keys) = by_test (λ (b : Body). shows_created b ≡ true) (has_lease s.leases lease) _ _ (λ t. refl) (λ t. refl)
answers_are_created s member request.Leases = refl
answers_are_created s member (request.Watch ask) = tt
