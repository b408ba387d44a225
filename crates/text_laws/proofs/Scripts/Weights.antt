-- A request that a proxy sends has at most 384 puts and deletions, where a store doesn't refuse it.
use Rattle.std.proofs.Common.{◌≡◌, ℕ, ◌-◌, ◌≤◌, ◌||◌, Bool, true, false, List, length, None, Some, refl, sym, subst, arith}
use Rattle.std.specs.Prelude.{nat_lt}
use Rattle.std.proofs.lemmas.Bool.{ltb-false}
use Rattle.etcd_types.proofs.Bools.{or_first, or_second}
use Rattle.etcd_types.specs.declared.operation.Compare.{Compare}
use Rattle.etcd_types.specs.declared.operation.Op.{Op, Row_of-Op, end_of-Op, more_of-Op}
use Rattle.etcd_types.specs.declared.operation.Op.TheBlock.{hidden-the_row-Op-0, items_hidden-the_row-Op-0}
use Rattle.etcd_types.specs.declared.operation.Op.TheVariants as op
use Rattle.etcd_types.specs.declared.operation.TxnAsk.{TxnAsk}
use Rattle.etcd_types.specs.declared.request.Request.{Request}
use Rattle.etcd_types.specs.declared.request.Request.TheVariants as request
use Rattle.store_model.specs.FirstRefusals.{row_items, longest, exceeds, exceeds_row, operations_limit, first_of_three, lacks_key, repeats_key, first_refusal}
use Rattle.store_laws.proofs.Requests.StepCases.{op_of, same_op}
use Rattle.text_laws.specs.Growth.Growth.{weight, weights}
use Rattle.text_laws.specs.Sent.Sends.{IsFlat, FlatRow, OneOp, NarrowOps, Narrow}
use Rattle.text_laws.proofs.Sent.Nesting.{row_flat, hidden_flat}

one_weight : (o : Op) → IsFlat o → weight o ≤ 1
one_weight (op.Range ask) h = omega arith
one_weight (op.Put ask) h = omega arith
one_weight (op.Delete ask) h = omega arith
one_weight (op.Txn' compare m success n failure) h = absurd h

flat_weights : {m : _} (ops : Row_of-Op m) → FlatRow ops → weights ops ≤ length (row_items ops)
flat_weights end_of-Op h = omega arith
flat_weights (more_of-Op one rest) h = let a = one_weight one h.0 in let b = flat_weights rest h.1 in omega (arith, a, b)

-- what a transaction that doesn't exceed the limit is
record Inside {m n : _} (limit : ℕ) (compare : List Compare) (success : Row_of-Op m) (failure : Row_of-Op n) : Type 0 where
  first : length (row_items success) ≤ limit
  second : length (row_items failure) ≤ limit
  within : exceeds_row (limit - longest compare (row_items success) (row_items failure)) success ≡ false

inside : {m n : _} (limit : ℕ) (compare : List Compare) (success : Row_of-Op m) (failure : Row_of-Op n)
    → nat_lt limit (longest compare (row_items success) (row_items failure)) || exceeds_row (limit - longest compare (row_items success) (row_items failure)) success || exceeds_row (limit - longest compare (row_items success) (row_items failure)) failure ≡ false
    → Inside limit compare success failure
inside limit compare success failure e =
    let most = longest compare (row_items success) (row_items failure) in
    let a = or_first (nat_lt limit most || exceeds_row (limit - most) success) (exceeds_row (limit - most) failure) e in
    let l = ltb-false limit most (or_first (nat_lt limit most) (exceeds_row (limit - most) success) a) in
    record { first = omega (arith, l); second = omega (arith, l); within = or_second (nat_lt limit most) (exceeds_row (limit - most) success) a }

one_op_weight : (limit : ℕ) (o : Op) → limit ≤ 128 → OneOp o → exceeds limit o ≡ false → weight o ≤ 256
one_op_weight limit (op.Range ask) l h e = omega arith
one_op_weight limit (op.Put ask) l h e = omega arith
one_op_weight limit (op.Delete ask) l h e = omega arith
one_op_weight limit (op.Txn' compare m success n failure) l h e =
    let i = inside limit compare success failure e in
    let a = i.first in
    let b = i.second in
    let c = flat_weights success h.0 in
    let d = flat_weights failure h.1 in
    omega (arith, a, b, c, d, l)

row_weight : {m : _} (limit : ℕ) (ops : Row_of-Op m) → limit ≤ 128 → NarrowOps (row_items ops) → exceeds_row limit ops ≡ false → length (row_items ops) ≤ 128 → weights ops ≤ 256
row_weight limit end_of-Op l h e few = omega arith
row_weight limit (more_of-Op one end_of-Op) l h e few = let w = one_op_weight limit one l h (or_first (exceeds limit one) (exceeds_row limit end_of-Op) e) in omega (arith, w)
row_weight limit (more_of-Op one (more_of-Op two rest)) l h e few = let w = flat_weights (more_of-Op one (more_of-Op two rest)) (row_flat (more_of-Op one (more_of-Op two rest)) h) in omega (arith, w, few)

txn_weight : (t : TxnAsk) → Narrow (request.Txn t) → exceeds operations_limit (op.Txn t) ≡ false → weight (op.Txn t) ≤ 384
txn_weight t h e =
    let success = hidden-the_row-Op-0 t.success in
    let failure = hidden-the_row-Op-0 t.failure in
    let i = inside operations_limit t.compare success failure e in
    let most = longest t.compare (row_items success) (row_items failure) in
    let first = i.first in
    let second = i.second in
    let narrow : NarrowOps (row_items success) = subst NarrowOps (sym (items_hidden-the_row-Op-0 t.success)) h.0 in
    let a = row_weight (operations_limit - most) success (omega arith) narrow i.within (omega (arith, first)) in
    let b = flat_weights failure (hidden_flat t.failure h.1) in
    omega (arith, a, b, second)

not_exceeded : (o : Op) → first_refusal o ≡ None → exceeds operations_limit o ≡ false
not_exceeded o e = by_test (exceeds operations_limit o) (lacks_key o) (repeats_key o) e
  where
    by_test : (a b c : Bool) → first_of_three a b c ≡ None → a ≡ false
    by_test true b c f = absurd (cc)
    by_test false b c f = refl

abbrev LightOp : Op → Type 0
LightOp o = first_refusal o ≡ None → weight o ≤ 384

pub light : (q : Request) → Narrow q → (o : Op) → op_of q ≡ Some o → first_refusal o ≡ None → weight o ≤ 384
light (request.Txn t) h o e f = subst LightOp (same_op (op.Txn t) o e) (λ g. txn_weight t h (not_exceeded (op.Txn t) g)) f
light (request.Range ask) h o e f = subst LightOp (same_op (op.Range ask) o e) (λ g. omega arith) f
light (request.Put ask) h o e f = subst LightOp (same_op (op.Put ask) o e) (λ g. omega arith) f
light (request.Delete ask) h o e f = subst LightOp (same_op (op.Delete ask) o e) (λ g. omega arith) f
light (request.Compact revision physical) h o e f = absurd (cc)
light (request.Grant ttl lease) h o e f = absurd (cc)
light (request.Revoke lease) h o e f = absurd (cc)
light (request.KeepAlive lease) h o e f = absurd (cc)
light (request.TimeToLive lease keys) h o e f = absurd (cc)
light request.Leases h o e f = absurd (cc)
light (request.Watch ask) h o e f = absurd (cc)
