-- Operations and transactions that run whatever the store holds, or that want of a lease alone refuses.
use Rattle.std.proofs.Common.{◌≡◌, sym, ℕ, Bool, true, false, cond, not, ◌&&◌, ◌||◌, ◌==◌, nat_lt, List, [], ◌∷◌, Option, None, Some, Result, Ok, Err, refl, ◌∙◌, ap, arith}
use Rattle.std.specs.List.{list_all}
use Rattle.std.proofs.lemmas.Bool.Decides.{nat_tests}
use Rattle.etcd_types.specs.declared.record.Kv.{Kv}
use Rattle.etcd_types.specs.declared.operation.RangeAsk.{RangeAsk}
use Rattle.etcd_types.specs.declared.operation.PutAsk.{PutAsk}
use Rattle.etcd_types.specs.declared.operation.TxnAsk.{TxnAsk}
use Rattle.etcd_types.specs.declared.operation.Op.{Op}
use Rattle.etcd_types.specs.declared.operation.Op.TheVariants.{Range, Put, Delete, Txn, Txn'}
use Rattle.etcd_types.specs.declared.request.Request.TheVariants as request
use Rattle.etcd_types.specs.declared.answer.Answer.{Answer}
use Rattle.etcd_types.specs.declared.answer.Answer.TheVariants as answer
use Rattle.etcd_types.specs.declared.answer.Body.{Body}
use Rattle.etcd_types.specs.declared.answer.Refusal.{Refusal}
use Rattle.etcd_types.specs.declared.answer.Reply.{Reply}
use Rattle.store_model.specs.declared.history.KeyChange.{KeyChange}
use Rattle.store_model.specs.History.{History, newest}
use Rattle.store_model.specs.Records.{record_now}
use Rattle.store_model.specs.Reads.{read, is_unsupported}
use Rattle.store_model.specs.State.{State}
use Rattle.store_model.specs.Compares.{all_hold}
use Rattle.store_model.specs.FirstRefusals.{first_of_three, exceeds, exceeds_txn, lacks_key, txn_lacks_key, repeats_key, txn_repeats_key, operations_limit}
use Rattle.store_model.specs.Transactions.{run_put, Ran, RanAll, seen, unchanged, run, run_all, run_txn, put_on, has_lease, answered, with_body, first_then}
use Rattle.store_model.specs.Step.{exec, unless, settled}
use Rattle.store_model.proofs.RefusalLemmas.{exceeds_is_txn, lacks_key_is_txn, repeats_key_is_txn}
use Rattle.store_model.proofs.TransactionLemmas.{run_is_txn}
use Rattle.proxy_model.specs.Prefixes.{only}
use Rattle.store_model.specs.Refusals.{lease_not_found}
use Rattle.cache_laws.specs.Guards.Answered.{IsAnswered}
use Rattle.store_laws.specs.Lives.Sound.{is_granted}
use Rattle.etcd_types.proofs.Bools.{and_first, and_second, not_true}

abbrev plain_range : RangeAsk → Bool
plain_range ask = ask.revision == 0 && not (is_unsupported ask.sort)

abbrev pub op_runs : State → Op → Bool
op_runs s (Range ask) = plain_range ask
op_runs s (Put ask) = is_granted s.leases ask.lease && not ask.ignore_lease
op_runs s (Delete ask) = true
op_runs s (Txn' compare m success n failure) = false

abbrev pub Runs : {A : Type 0} → Result A Refusal → Type 0
Runs (Ok x) = Unit {0}
Runs (Err refusal) = ⊥

runs_last : {A : Type 0} (b : Bool) (x : Result A Refusal) (refusal : Refusal) → b ≡ false → Runs x → Runs (cond b (Err refusal) x)
runs_last true x refusal e h = absurd (cc)
runs_last false x refusal e h = h

runs_unchanged : (made : List KeyChange) (r : Result Body Refusal) → Runs r → Runs (unchanged made r)
runs_unchanged made (Ok b) h = tt
runs_unchanged made (Err refusal) h = h

not_ahead : (latest revision : ℕ) → (revision == 0) ≡ true → nat_lt latest revision ≡ false
not_ahead latest revision e = grind (arith, nat_tests)

read_runs : (h : History) (latest compacted : ℕ) (ask : RangeAsk) → plain_range ask ≡ true → Runs (read h latest compacted ask)
read_runs h latest compacted ask p =
    let now = and_first (ask.revision == 0) _ p in
    runs_last (nat_lt latest ask.revision) _ _ (not_ahead latest ask.revision now)
    (runs_last (not (ask.revision == 0) && nat_lt ask.revision compacted) _ _ (ap (λ (b : Bool). not b && nat_lt ask.revision compacted) now)
    (runs_last (is_unsupported ask.sort) _ _ (not_true (is_unsupported ask.sort) (and_second (ask.revision == 0) _ p)) tt))

put_on_runs : (ask : PutAsk) (made : List KeyChange) (old : Option Kv) → ask.ignore_lease ≡ false → Runs (put_on ask made old)
put_on_runs ask made None e = runs_last ask.ignore_lease _ _ e tt
put_on_runs ask made (Some kv) e = tt

known_lease : (none known : Bool) → none || known ≡ true → not none && not known ≡ false
known_lease true known e = refl
known_lease false true e = refl
known_lease false false e = absurd (cc)

op_ran : (s : State) (op : Op) (made : List KeyChange) → op_runs s op ≡ true → Runs (run s op made)
op_ran s (Range ask) made p = runs_unchanged made (read (seen s made) (newest (seen s made)) s.compacted ask) (read_runs (seen s made) (newest (seen s made)) s.compacted ask p)
op_ran s (Put ask) made p =
    runs_last (not (ask.lease == 0) && not (has_lease s.leases ask.lease)) _ _ (known_lease (ask.lease == 0) (has_lease s.leases ask.lease) (and_first (is_granted s.leases ask.lease) _ p))
    (put_on_runs ask made (record_now (seen s made) ask.key) (not_true ask.ignore_lease (and_second (is_granted s.leases ask.lease) _ p)))
op_ran s (Delete ask) made p = tt
op_ran s (Txn' compare m success n failure) made p = absurd (cc)

runs_with_body : (b : Body) (r : RanAll) → Runs r → Runs (with_body b r)
runs_with_body b (Ok ran) h = tt
runs_with_body b (Err refusal) h = h

runs_then : (r : Ran) (rest : List KeyChange → RanAll) → Runs r → ((next : List KeyChange) → Runs (rest next)) → Runs (first_then r rest)
runs_then (Ok ran) rest h j = runs_with_body ran.1 (rest ran.0) (j ran.0)
runs_then (Err refusal) rest h j = h

all_ran : (s : State) (ops : List Op) (made : List KeyChange) → list_all (op_runs s) ops ≡ true → Runs (run_all s ops made)
all_ran s [] made p = tt
all_ran s (op ∷ ops) made p =
    runs_then (run s op made) (λ next. run_all s ops next) (op_ran s op made (and_first (op_runs s op) _ p)) (λ next. all_ran s ops next (and_second (op_runs s op) _ p))

pub runs_answered : (b : Bool) (r : RanAll) → Runs r → Runs (answered b r)
runs_answered b (Ok ran) h = tt
runs_answered b (Err refusal) h = h

txn_runs : (s : State) (t : TxnAsk) → list_all (op_runs s) t.success ≡ true → list_all (op_runs s) t.failure ≡ true → Runs (run_txn s t [])
txn_runs s t e f = by_branch (all_hold (seen s []) t.compare)
  where
    by_branch : (h : Bool) → Runs (cond h (answered true (run_all s t.success [])) (answered false (run_all s t.failure [])))
    by_branch true = runs_answered true (run_all s t.success []) (all_ran s t.success [] e)
    by_branch false = runs_answered false (run_all s t.failure []) (all_ran s t.failure [] f)

settled_answers : (s : State) (member : ℕ) (r : Ran) → Runs r → (reply : Reply) × ((settled s member r).1 ≡ answer.Done reply)
settled_answers s member (Ok ran) h = (_, refl)
settled_answers s member (Err refusal) h = absurd h

none_first : (many empty twice : Bool) → many ≡ false → empty ≡ false → twice ≡ false → first_of_three many empty twice ≡ None
none_first true empty twice e f g = absurd (cc)
none_first false true twice e f g = absurd (cc)
none_first false false true e f g = absurd (cc)
none_first false false false e f g = refl

pub ran_answers : (s : State) (member : ℕ) (t : TxnAsk) → exceeds_txn operations_limit t ≡ false → txn_lacks_key t ≡ false → txn_repeats_key t ≡ false → Runs (run_txn s t []) → IsAnswered s member t
unfolding exec
ran_answers s member t many empty twice ran =
    let none = none_first (exceeds operations_limit (Txn t)) (lacks_key (Txn t)) (repeats_key (Txn t)) (exceeds_is_txn operations_limit t ∙ many) (lacks_key_is_txn t ∙ empty) (repeats_key_is_txn t ∙ twice) in
    let told = settled_answers s member (run_txn s t []) ran in
    (told.0, ap (λ (o : Option Refusal). (unless s o (settled s member (run s (Txn t) []))).1) none ∙ ap (λ (r : Ran). (settled s member r).1) (run_is_txn s t []) ∙ told.1)

pub txn_answers : (s : State) (member : ℕ) (t : TxnAsk) → exceeds_txn operations_limit t ≡ false → txn_lacks_key t ≡ false → txn_repeats_key t ≡ false
    → list_all (op_runs s) t.success ≡ true → list_all (op_runs s) t.failure ≡ true → IsAnswered s member t
txn_answers s member t many empty twice e f = ran_answers s member t many empty twice (txn_runs s t e f)

-- operations that are refused for want of a lease alone

abbrev pub Only : {A : Type 0} → Result A Refusal → Type 0
Only (Ok x) = Unit {0}
Only (Err refusal) = refusal ≡ lease_not_found

only_runs : {A : Type 0} (r : Result A Refusal) → Runs r → Only r
only_runs (Ok x) h = tt
only_runs (Err refusal) h = absurd h

only_either : {A : Type 0} (b : Bool) (x : Result A Refusal) → Only x → Only (cond b (Err lease_not_found) x)
only_either true x h = refl
only_either false x h = h

only_with_body : (b : Body) (r : RanAll) → Only r → Only (with_body b r)
only_with_body b (Ok ran) h = tt
only_with_body b (Err refusal) h = h

only_then : (r : Ran) (rest : List KeyChange → RanAll) → Only r → ((next : List KeyChange) → Only (rest next)) → Only (first_then r rest)
only_then (Ok ran) rest h j = only_with_body ran.1 (rest ran.0) (j ran.0)
only_then (Err refusal) rest h j = h

only_answered : (b : Bool) (r : RanAll) → Only r → Only (answered b r)
only_answered b (Ok ran) h = tt
only_answered b (Err refusal) h = h

only_put : (s : State) (ask : PutAsk) (made : List KeyChange) → ask.ignore_lease ≡ false → Only (run_put s ask made)
only_put s ask made e =
    only_either (not (ask.lease == 0) && not (has_lease s.leases ask.lease)) _ (only_runs _ (put_on_runs ask made (record_now (seen s made) ask.key) e))

-- operations that are refused for want of their lease alone
abbrev pub op_only : Op → Bool
op_only (Range ask) = plain_range ask
op_only (Put ask) = not ask.ignore_lease
op_only (Delete ask) = true
op_only (Txn' compare m success n failure) = false

only_op : (s : State) (op : Op) (made : List KeyChange) → op_only op ≡ true → Only (run s op made)
only_op s (Range ask) made p = only_runs _ (op_ran s (Range ask) made p)
only_op s (Put ask) made p = only_put s ask made (not_true ask.ignore_lease p)
only_op s (Delete ask) made p = tt
only_op s (Txn' compare m success n failure) made p = absurd (cc)

only_all : (s : State) (ops : List Op) (made : List KeyChange) → list_all op_only ops ≡ true → Only (run_all s ops made)
only_all s [] made p = tt
only_all s (op ∷ ops) made p =
    only_then (run s op made) (λ next. run_all s ops next) (only_op s op made (and_first (op_only op) _ p)) (λ next. only_all s ops next (and_second (op_only op) _ p))

pub only_txn : (s : State) (t : TxnAsk) → list_all op_only t.success ≡ true → list_all op_only t.failure ≡ true → Only (run_txn s t [])
only_txn s t e f = by_branch (all_hold (seen s []) t.compare)
  where
    by_branch : (h : Bool) → Only (cond h (answered true (run_all s t.success [])) (answered false (run_all s t.failure [])))
    by_branch true = only_answered true (run_all s t.success []) (only_all s t.success [] e)
    by_branch false = only_answered false (run_all s t.failure []) (only_all s t.failure [] f)

refusal_or : Refusal → Answer → Refusal
refusal_or d (answer.Done reply) = d
refusal_or d (answer.Refused refusal) = refusal

only_settled : (s : State) (member : ℕ) (r : Ran) (refusal : Refusal) → Only r → (settled s member r).1 ≡ answer.Refused refusal → refusal ≡ lease_not_found
unfolding refusal_or
only_settled s member (Ok ran) refusal h e = absurd (cc)
only_settled s member (Err other) refusal h e = ap (refusal_or other) (sym e) ∙ h

pub only_refused : (s : State) (member : ℕ) (t : TxnAsk) (refusal : Refusal) → exceeds_txn operations_limit t ≡ false → txn_lacks_key t ≡ false → txn_repeats_key t ≡ false → Only (run_txn s t [])
    → (exec s member (request.Txn t)).1 ≡ answer.Refused refusal → refusal ≡ lease_not_found
unfolding exec
only_refused s member t refusal many empty twice only e =
    let none = none_first (exceeds operations_limit (Txn t)) (lacks_key (Txn t)) (repeats_key (Txn t)) (exceeds_is_txn operations_limit t ∙ many) (lacks_key_is_txn t ∙ empty) (repeats_key_is_txn t ∙ twice) in
    only_settled s member (run_txn s t []) refusal only
    (sym (ap (λ (o : Option Refusal). (unless s o (settled s member (run s (Txn t) []))).1) none ∙ ap (λ (r : Ran). (settled s member r).1) (run_is_txn s t [])) ∙ e)
