-- One round of a transaction's reading.
use Rattle.std.proofs.Common.{◌≡◌, ◌-◌, ℕ, zero, suc, None, Err, refl, arith}
use Rattle.serde_json.specs.Data.{Members}
use Rattle.json_model.specs.declared.fault.FieldFault.TheVariants.{WrongKind}
use Rattle.json_model.specs.FieldNames as names
use Rattle.json_model.specs.declared.extra.Reading.{Reading}
use Rattle.json_model.specs.Transactions.{txn_by, txn_in}
use Rattle.json_model.specs.Extras.{txn_extra_by, txn_extra}

pub txn_in_none : (n : ℕ) (ms : Members) → n ≡ 0 → txn_in n ms ≡ Err (WrongKind names.request_txn.0)
unfolding txn_in
txn_in_none zero ms e = refl
txn_in_none (suc n) ms e = absurd (cc)

pub txn_in_more : (n : ℕ) (ms : Members) → (n ≡ 0 → ⊥) → txn_in n ms ≡ txn_by (txn_in (n - 1)) ms
unfolding txn_in
txn_in_more zero ms e = absurd (e refl)
txn_in_more (suc n) ms e = let less : suc n - 1 ≡ n = omega arith in rw less refl

pub txn_extra_none : (reading : Reading) (n : ℕ) (ms : Members) → n ≡ 0 → txn_extra reading n ms ≡ None
unfolding txn_extra
txn_extra_none reading zero ms e = refl
txn_extra_none reading (suc n) ms e = absurd (cc)

pub txn_extra_more : (reading : Reading) (n : ℕ) (ms : Members) → (n ≡ 0 → ⊥) → txn_extra reading n ms ≡ txn_extra_by reading (txn_extra reading (n - 1)) ms
unfolding txn_extra
txn_extra_more reading zero ms e = absurd (e refl)
txn_extra_more reading (suc n) ms e = let less : suc n - 1 ≡ n = omega arith in rw less refl
