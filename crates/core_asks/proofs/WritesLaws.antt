-- Whether operations put or delete, one after the other.
use Rattle.std.proofs.Common.{◌≡◌, ℕ, ◌+◌, ◌<◌, Bool, true, false, cond, ◌||◌, List, [], ◌∷◌, length, drop, get_or, refl, sym, ◌∙◌, ap}
use Rattle.std.specs.Ordering.{is_lt, is_eq}
use Rattle.std.proofs.lemmas.List.{drop_more}
use Rattle.etcd_types.specs.declared.key_range.KeyRange.{KeyRange}
use Rattle.etcd_types.specs.declared.operation.Op.{Op, Row_of-Op, end_of-Op, more_of-Op}
use Rattle.etcd_types.specs.declared.operation.Op.TheVariants as op
use Rattle.etcd_types.specs.declared.operation.TxnAsk.{TxnAsk}
use Rattle.proxy_model.specs.Prefixes.{only}
use Rattle.proxy_model.specs.SeveralKeys.{range_cmp, with_range, with_written, with_written_row, with_all_written}
use Rattle.proxy_model.proofs.WrittenLaws.{with_written_is_txn}
use Rattle.core_model.specs.Kinds.{has_some}

has_range : (r : KeyRange) (rs : List KeyRange) → has_some (with_range r rs) ≡ true
has_range r [] = refl
has_range r (s ∷ rs) = by_order (is_lt (range_cmp r s)) (is_eq (range_cmp r s))
  where
    by_order : (lt eq : Bool) → has_some (cond lt (r ∷ s ∷ rs) (cond eq (s ∷ rs) (s ∷ with_range r rs))) ≡ true
    by_order true eq = refl
    by_order false true = refl
    by_order false false = refl

-- what was written stays written
mutual
  stays : (o : Op) (rs : List KeyRange) → has_some rs ≡ true → has_some (with_written o rs) ≡ true
  stays (op.Range ask) rs h = h
  stays (op.Put ask) rs h = has_range (only ask.key) rs
  stays (op.Delete ask) rs h = has_range ask.range rs
  stays (op.Txn' compare m success n failure) rs h = stays_row failure (with_written_row success rs) (stays_row success rs h)

  stays_row : {m : _} (ops : Row_of-Op m) (rs : List KeyRange) → has_some rs ≡ true → has_some (with_written_row ops rs) ≡ true
  stays_row end_of-Op rs h = h
  stays_row (more_of-Op o rest) rs h = stays_row rest (with_written o rs) (stays o rs h)

stays_all : (ops : List Op) (rs : List KeyRange) → has_some rs ≡ true → has_some (with_all_written ops rs) ≡ true
stays_all [] rs h = h
stays_all (o ∷ ops) rs h = stays_all ops (with_written o rs) (stays o rs h)

-- the operations write, or what came before them did
pub one_writes : (ops : List Op) (rs : List KeyRange) → has_some (with_all_written ops rs) ≡ has_some rs || has_some (with_all_written ops [])
one_writes ops [] = refl
one_writes ops (r ∷ rs) = stays_all ops (r ∷ rs) refl

pub txn_writes : (t : TxnAsk) → has_some (with_written (op.Txn t) []) ≡ has_some (with_all_written t.success []) || has_some (with_all_written t.failure [])
txn_writes t = ap has_some (with_written_is_txn t []) ∙ one_writes t.failure (with_all_written t.success [])

pub ruleset of_writes = (one_writes, txn_writes)

none_written : (rs : List KeyRange) → has_some rs ≡ false → rs ≡ []
none_written [] h = refl
none_written (r ∷ rs) h = cc

-- one more of what is walked over doesn't write
pub writes_more : (ops : List Op) (i : ℕ) (o : Op) (all : Bool) → i < length ops → o ≡ get_or ops i o → has_some (with_written o []) ≡ false → has_some (with_all_written (drop i ops) []) ≡ all → has_some (with_all_written (drop (i + 1) ops) []) ≡ all
writes_more ops i o all l e n h =
    let rest = drop (i + 1) ops in
    ap (λ (rs : List KeyRange). has_some (with_all_written rest rs)) (sym (none_written (with_written o []) n))
    ∙ ap (λ (p : Op). has_some (with_all_written rest (with_written p []))) e
    ∙ ap (λ (os : List Op). has_some (with_all_written os [])) (sym (drop_more ops i o l))
    ∙ h

-- one of them writes
pub writes_found : (ops : List Op) (i : ℕ) (o : Op) (all : Bool) → i < length ops → o ≡ get_or ops i o → has_some (with_written o []) ≡ true → has_some (with_all_written (drop i ops) []) ≡ all → true ≡ all
writes_found ops i o all l e n h =
    let rest = drop (i + 1) ops in
    sym (stays_all rest (with_written o []) n)
    ∙ ap (λ (p : Op). has_some (with_all_written rest (with_written p []))) e
    ∙ ap (λ (os : List Op). has_some (with_all_written os [])) (sym (drop_more ops i o l))
    ∙ h

-- A transaction whose success branch writes, or of whose branches it is the failure's to say.

pub txn_then : (t : TxnAsk) (r : Bool) → r ≡ has_some (with_all_written t.success []) → r ≡ true → r ≡ has_some (with_written (op.Txn t) [])
txn_then t r h e = e ∙ sym (txn_writes t ∙ ap (λ b. b || has_some (with_all_written t.failure [])) (sym h ∙ e))

pub txn_else : (t : TxnAsk) (s r : Bool) → s ≡ has_some (with_all_written t.success []) → s ≡ false → r ≡ has_some (with_all_written t.failure []) → r ≡ has_some (with_written (op.Txn t) [])
txn_else t s r h e i = i ∙ sym (txn_writes t ∙ ap (λ b. b || has_some (with_all_written t.failure [])) (sym h ∙ e))

pub request_then : (t : TxnAsk) (r : Bool) → r ≡ has_some (with_all_written t.success []) → r ≡ true → r ≡ has_some (with_all_written t.failure (with_all_written t.success []))
request_then t r h e =
    e ∙ sym (one_writes t.failure (with_all_written t.success []) ∙ ap (λ b. b || has_some (with_all_written t.failure [])) (sym h ∙ e))
