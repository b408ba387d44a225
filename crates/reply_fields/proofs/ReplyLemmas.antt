-- One round of a transaction's reply.
use Rattle.std.proofs.Common.{◌≡◌, ◌-◌, ℕ, zero, suc, Err, refl, arith}
use Rattle.serde_json.specs.Data.{Members}
use Rattle.json_model.specs.declared.fault.FieldFault.TheVariants.{WrongKind}
use Rattle.json_model.specs.FieldNames as names
use Rattle.json_model.specs.Replies.{txn_body_by, txn_body}

pub txn_body_none : (n : ℕ) (ms : Members) → n ≡ 0 → txn_body n ms ≡ Err (WrongKind names.responses.0)
unfolding txn_body
txn_body_none zero ms e = refl
txn_body_none (suc n) ms e = absurd (cc)

pub txn_body_more : (n : ℕ) (ms : Members) → (n ≡ 0 → ⊥) → txn_body n ms ≡ txn_body_by (txn_body (n - 1)) ms
unfolding txn_body
txn_body_more zero ms e = absurd (e refl)
txn_body_more (suc n) ms e = let less : suc n - 1 ≡ n = omega arith in rw less refl
