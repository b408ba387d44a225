-- A transaction that writes nothing leaves the store as it is.
use Rattle.std.proofs.Common.{◌≡◌, ℕ, Bool, true, false, cond, List, [], ◌∷◌, map, Option, None, Some, Result, Ok, Err, refl, sym, ap, subst}
use Rattle.std.specs.Ordering.{is_lt, is_eq}
use Rattle.etcd_types.specs.declared.answer.Body.{Body}
use Rattle.etcd_types.specs.declared.answer.Refusal.{Refusal}
use Rattle.etcd_types.specs.declared.key_range.KeyRange.{KeyRange}
use Rattle.etcd_types.specs.declared.operation.Op.{Op, Row_of-Op, end_of-Op, more_of-Op}
use Rattle.etcd_types.specs.declared.operation.Op.TheVariants as op
use Rattle.etcd_types.specs.declared.operation.TxnAsk.{TxnAsk}
use Rattle.etcd_types.specs.declared.request.Request.{Request}
use Rattle.etcd_types.specs.declared.request.Request.TheVariants as request
use Rattle.audit_store.specs.declared.store.Store.{Store}
use Rattle.audit_store.specs.Store.{Stands, Takes}
use Rattle.etcd_types.specs.declared.answer.Answer.{Answer}
use Rattle.core_model.specs.Kinds.{has_some, writes_keys}
use Rattle.proxy_model.specs.Prefixes.{only}
use Rattle.proxy_model.specs.SeveralKeys.{range_cmp, with_range, with_written, with_written_row, with_all_written}
use Rattle.proxy_model.specs.Wrapped.{compare_under, operation_under, range_under, row_under, request_under, transaction_under}
use Rattle.store_model.proofs.TransactionLemmas.{run_is_txn}
use Rattle.store_model.specs.declared.history.KeyChange.{KeyChange}
use Rattle.store_model.specs.Compares.{all_hold}
use Rattle.store_model.specs.FirstRefusals.{first_refusal}
use Rattle.store_model.specs.State.{State}
use Rattle.store_model.specs.History.{newest, with_revision}
use Rattle.store_model.specs.Reads.{read}
use Rattle.store_model.specs.Step.{Step, exec, settled, unless}
use Rattle.store_model.specs.Transactions.{Ran, RanAll, answered, first_then, run, run_all, run_txn, seen, unchanged, with_body}

-- what has run made no change more
abbrev Same : List KeyChange → Ran → Type 0
Same made (Ok ran) = ran.0 ≡ made
Same made (Err why) = Unit {0}

abbrev SameAll : List KeyChange → RanAll → Type 0
SameAll made (Ok ran) = ran.0 ≡ made
SameAll made (Err why) = Unit {0}

unchanged_same : (made : List KeyChange) (r : Result Body Refusal) → Same made (unchanged made r)
unchanged_same made (Ok body) = refl
unchanged_same made (Err why) = tt

answered_same : (made : List KeyChange) (succeeded : Bool) (r : RanAll) → SameAll made r → Same made (answered succeeded r)
answered_same made succeeded (Ok ran) e = e
answered_same made succeeded (Err why) e = tt

bodied : (made : List KeyChange) (b : Body) (r : RanAll) → SameAll made r → SameAll made (with_body b r)
bodied made b (Ok ran) e = e
bodied made b (Err why) e = tt

then_same : (made : List KeyChange) (r : Ran) (f : List KeyChange → RanAll) → Same made r → SameAll made (f made) → SameAll made (first_then r f)
then_same made (Ok ran) f e a = bodied made ran.1 (f ran.0) (subst (λ (x : List KeyChange). SameAll made (f x)) (sym e) a)
then_same made (Err why) f e a = tt

txn_same : (s : State) (t : TxnAsk) (made : List KeyChange) → SameAll made (run_all s t.success made) → SameAll made (run_all s t.failure made) → Same made (run_txn s t made)
txn_same s t made a b = by (all_hold (seen s made) t.compare)
  where
    by : (holds : Bool) → Same made (cond holds (answered true (run_all s t.success made)) (answered false (run_all s t.failure made)))
    by true = answered_same made true (run_all s t.success made) a
    by false = answered_same made false (run_all s t.failure made) b

has_range : (r : KeyRange) (rs : List KeyRange) → has_some (with_range r rs) ≡ true
has_range r [] = refl
has_range r (x ∷ rs) = by_order (is_lt (range_cmp r x)) (is_eq (range_cmp r x))
  where
    by_order : (lt eq : Bool) → has_some (cond lt (r ∷ x ∷ rs) (cond eq (x ∷ rs) (x ∷ with_range r rs))) ≡ true
    by_order true eq = refl
    by_order false true = refl
    by_order false false = refl

both_ways : (b : Bool) → b ≡ true → b ≡ false → ⊥
both_ways true t f = cc
both_ways false t f = cc

-- where these write nothing, nothing was written before them either, and they make no change
mutual
  op_quiet : (p : List ℕ) (o : Op) (rs : List KeyRange) → has_some (with_written o rs) ≡ false → (has_some rs ≡ false) × ((s : State) (made : List KeyChange) → Same made (run s (operation_under p o) made))
  op_quiet p (op.Range ask) rs h = (h, λ s made. unchanged_same made (read (seen s made) (newest (seen s made)) s.compacted (range_under p ask)))
  op_quiet p (op.Put ask) rs h = absurd (both_ways (has_some (with_range (only ask.key) rs)) (has_range (only ask.key) rs) h)
  op_quiet p (op.Delete ask) rs h = absurd (both_ways (has_some (with_range ask.range rs)) (has_range ask.range rs) h)
  op_quiet p (op.Txn' compare m success n failure) rs h =
      let second = row_quiet p failure (with_written_row success rs) h in
      let first = row_quiet p success rs second.0 in
      let t : TxnAsk = record { compare = map (compare_under p) compare; success = row_under p success; failure = row_under p failure } in
      (first.0, λ s made. subst (Same made) (sym (run_is_txn s t made)) (txn_same s t made (first.1 s made) (second.1 s made)))

  row_quiet : {m : _} (p : List ℕ) (ops : Row_of-Op m) (rs : List KeyRange) → has_some (with_written_row ops rs) ≡ false → (has_some rs ≡ false) × ((s : State) (made : List KeyChange) → SameAll made (run_all s (row_under p ops) made))
  row_quiet p end_of-Op rs h = (h, λ s made. refl)
  row_quiet p (more_of-Op o rest) rs h =
      let later = row_quiet p rest (with_written o rs) h in
      let one = op_quiet p o rs later.0 in
      (one.0, λ s made. then_same made (run s (operation_under p o) made) (λ next. run_all s (row_under p rest) next) (one.1 s made) (later.1 s made))

all_quiet : (p : List ℕ) (ops : List Op) (rs : List KeyRange) → has_some (with_all_written ops rs) ≡ false → (has_some rs ≡ false) × ((s : State) (made : List KeyChange) → SameAll made (run_all s (map (operation_under p) ops) made))
all_quiet p [] rs h = (h, λ s made. refl)
all_quiet p (o ∷ ops) rs h =
    let later = all_quiet p ops (with_written o rs) h in
    let one = op_quiet p o rs later.0 in
    (one.0, λ s made. then_same made (run s (operation_under p o) made) (λ next. run_all s (map (operation_under p) ops) next) (one.1 s made) (later.1 s made))

settled_leaves : (s : State) (member : ℕ) (r : Ran) → Same [] r → (settled s member r).0 ≡ s
settled_leaves s member (Ok ran) e = ap (λ (made : List KeyChange). record s { history = with_revision s.history made }) e
settled_leaves s member (Err why) e = refl

unless_leaves : (s : State) (why : Option Refusal) (step : Step) → step.0 ≡ s → (unless s why step).0 ≡ s
unless_leaves s None step e = e
unless_leaves s (Some refusal) step e = refl

pub reads_leave : (s : State) (p : List ℕ) (t : TxnAsk) → writes_keys (request.Txn t) ≡ false → (exec s 1 (request_under p (request.Txn t))).0 ≡ s
unfolding exec
reads_leave s p t h =
    let under = transaction_under p t in
    let second = all_quiet p t.failure (with_all_written t.success []) h in
    let first = all_quiet p t.success [] second.0 in
    unless_leaves s (first_refusal (op.Txn under)) (settled s 1 (run s (op.Txn under) []))
    (settled_leaves s 1 (run s (op.Txn under) [])
    (subst (Same []) (sym (run_is_txn s under [])) (txn_same s under [] (first.1 s []) (second.1 s []))))

-- what the store answers to it, and that it stays
pub left_so : (s : State) (p : List ℕ) (t : TxnAsk) (q : Request) (new : Store) (answer : Answer) → q ≡ request_under p (request.Txn t) → writes_keys (request.Txn t) ≡ false
    → Takes new answer (exec s 1 q) → Stands new s × (answer ≡ (exec s 1 (request_under p (request.Txn t))).1)
left_so s p t q new answer e w taken =
    let under = subst (λ (r : Request). Takes new answer (exec s 1 r)) e taken in
    (subst (Stands new) (reads_leave s p t w) under.state, under.answered)
