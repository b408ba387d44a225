-- Whether a request has an empty key is seen of the request under the namespace, too.
use Rattle.std.proofs.Common.{◌≡◌, ℕ, ◌+◌, ◌<◌, nat_le, Bool, true, false, ◌||◌, List, [], ◌∷◌, ◌++◌, append-nil, length, length-append, map, refl, sym, ◌∙◌, ap, arith}
use Rattle.std.specs.List.{list_any}
use Rattle.std.proofs.lemmas.Bool.Decides.{nat_tests}
use Rattle.etcd_types.specs.Keys.{is_empty}
use Rattle.etcd_types.specs.declared.operation.Compare.{Compare}
use Rattle.etcd_types.specs.declared.operation.TxnAsk.{TxnAsk}
use Rattle.etcd_types.specs.declared.operation.Op.{Op, Row_of-Op, end_of-Op, more_of-Op}
use Rattle.etcd_types.specs.declared.operation.Op.TheVariants.{Range, Put, Delete, Txn, Txn'}
use Rattle.etcd_types.specs.declared.operation.Op.TheBlock.{hidden-the_row-Op-0, items-the_row-Op, items_hidden-the_row-Op-0}
use Rattle.etcd_types.specs.declared.request.Request.{Request}
use Rattle.etcd_types.specs.declared.request.Request.TheVariants as request
use Rattle.proxy_model.specs.Wrapped.{compare_under, operation_under, row_under, transaction_under, request_under}
use Rattle.store_model.specs.FirstRefusals.{compare_lacks_key, lacks_key, lacks_key_row}
use Rattle.store_model.proofs.RefusalLemmas.{lacks_key_is_txn}
use Rattle.namespace_laws.specs.Stored.Laws.{request_lacks}

-- no longer than the namespace, whose length is `n`
abbrev compare_ends : ℕ → Compare → Bool
compare_ends n c = nat_le (length c.range.key) n

abbrev mutual
  ends : ℕ → Op → Bool
  ends n (Range ask) = nat_le (length ask.range.key) n
  ends n (Put ask) = nat_le (length ask.key) n
  ends n (Delete ask) = nat_le (length ask.range.key) n
  ends n (Txn' compare m success k failure) = list_any (compare_ends n) compare || ends_row n success || ends_row n failure

  ends_row : {m : _} → ℕ → Row_of-Op m → Bool
  ends_row n end_of-Op = false
  ends_row n (more_of-Op op rest) = ends n op || ends_row n rest

abbrev txn_ends : ℕ → TxnAsk → Bool
txn_ends n txn = list_any (compare_ends n) txn.compare || list_any (ends n) txn.success || list_any (ends n) txn.failure

ends_row-items : {m : _} (n : ℕ) (ops : Row_of-Op m) → ends_row n ops ≡ list_any (ends n) (items-the_row-Op m ops)
ends_row-items n end_of-Op = refl
ends_row-items n (more_of-Op op rest) = ap (λ (b : Bool). ends n op || b) (ends_row-items n rest)

ends_row-hidden : (n : ℕ) (ops : List Op) → ends_row n (hidden-the_row-Op-0 ops) ≡ list_any (ends n) ops
ends_row-hidden n ops = ends_row-items n (hidden-the_row-Op-0 ops) ∙ ap (λ (l : List Op). list_any (ends n) l) (items_hidden-the_row-Op-0 ops)

ends_is_txn : (n : ℕ) (txn : TxnAsk) → ends n (Txn txn) ≡ txn_ends n txn
ends_is_txn n txn = simp ends_row-hidden refl

key_ends : (ns k : List ℕ) → nat_le (length (ns ++ k)) (length ns) ≡ is_empty k
key_ends ns [] = ap (λ (xs : List ℕ). nat_le (length xs) (length ns)) (append-nil ns) ∙ itself (length ns)
  where
    itself : (n : ℕ) → nat_le n n ≡ true
    itself n = grind (arith, nat_tests)
key_ends ns (b ∷ bs) = ap (λ (m : ℕ). nat_le m (length ns)) (length-append ns (b ∷ bs)) ∙ longer (length ns) (length (b ∷ bs)) (omega arith)
  where
    longer : (n m : ℕ) → 0 < m → nat_le (n + m) n ≡ false
    longer n m l = grind (arith, nat_tests)

compares_end : (ns : List ℕ) (cs : List Compare) → list_any (compare_ends (length ns)) (map (compare_under ns) cs) ≡ list_any compare_lacks_key cs
compares_end ns [] = refl
compares_end ns (c ∷ cs) = λ i. key_ends ns c.range.key i || compares_end ns cs i

mutual
  op_ends : (ns : List ℕ) (o : Op) → ends (length ns) (operation_under ns o) ≡ lacks_key o
  op_ends ns (Range ask) = key_ends ns ask.range.key
  op_ends ns (Put ask) = key_ends ns ask.key
  op_ends ns (Delete ask) = key_ends ns ask.range.key
  op_ends ns (Txn' compare m success n failure) =
      ends_is_txn (length ns) (record { compare = map (compare_under ns) compare; success = row_under ns success; failure = row_under ns failure })
      ∙ (λ i. compares_end ns compare i || row_ends ns success i || row_ends ns failure i)

  row_ends : {m : _} (ns : List ℕ) (row : Row_of-Op m) → list_any (ends (length ns)) (row_under ns row) ≡ lacks_key_row row
  row_ends ns end_of-Op = refl
  row_ends ns (more_of-Op o rest) = λ i. op_ends ns o i || row_ends ns rest i

ops_end : (ns : List ℕ) (os : List Op) → list_any (ends (length ns)) (map (operation_under ns) os) ≡ list_any lacks_key os
ops_end ns [] = refl
ops_end ns (o ∷ os) = λ i. op_ends ns o i || ops_end ns os i

abbrev request_ends : ℕ → Request → Bool
request_ends n (request.Range ask) = ends n (Range ask)
request_ends n (request.Put ask) = ends n (Put ask)
request_ends n (request.Delete ask) = ends n (Delete ask)
request_ends n (request.Txn t) = ends n (Txn t)
request_ends n _ = false

ends_under : (ns : List ℕ) (q : Request) → request_ends (length ns) (request_under ns q) ≡ request_lacks q
ends_under ns (request.Range ask) = key_ends ns ask.range.key
ends_under ns (request.Put ask) = key_ends ns ask.key
ends_under ns (request.Delete ask) = key_ends ns ask.range.key
ends_under ns (request.Txn t) =
    ends_is_txn (length ns) (transaction_under ns t) ∙ (λ i. compares_end ns t.compare i || ops_end ns t.success i || ops_end ns t.failure i) ∙ sym (lacks_key_is_txn t)
ends_under ns (request.Compact revision physical) = refl
ends_under ns (request.Grant ttl lease) = refl
ends_under ns (request.Revoke lease) = refl
ends_under ns (request.KeepAlive lease) = refl
ends_under ns (request.TimeToLive lease keys) = refl
ends_under ns request.Leases = refl
ends_under ns (request.Watch ask) = refl

pub lack_alike : (ns : List ℕ) (q r : Request) → request_under ns q ≡ request_under ns r → request_lacks q ≡ request_lacks r
lack_alike ns q r e = sym (ends_under ns q) ∙ ap (request_ends (length ns)) e ∙ ends_under ns r
