-- A snapshot over what is held is the same over all that is known, where that has what is held.
use Rattle.std.proofs.Common.{◌≡◌, ℕ, Bool, true, false, not, ◌&&◌, ◌||◌, cond, is_some, unwrap_or, List, [], ◌∷◌, map, Option, None, Some, refl, sym, ◌∙◌, ap}
use Rattle.std.specs.List.{list_all, list_any}
use Rattle.std.specs.Option.{option_to_list}
use Rattle.etcd_types.specs.declared.answer.Body.{Body}
use Rattle.etcd_types.specs.declared.answer.Body.TheVariants as body
use Rattle.etcd_types.specs.declared.operation.Compare.{Compare}
use Rattle.etcd_types.specs.declared.operation.Op.{Op}
use Rattle.etcd_types.specs.declared.operation.Op.TheVariants as op
use Rattle.etcd_types.specs.declared.operation.TxnAsk.{TxnAsk}
use Rattle.etcd_types.specs.declared.record.Kv.{Kv}
use Rattle.etcd_types.specs.declared.request.Request.TheVariants as request
use Rattle.etcd_types.specs.Keys.{is_empty}
use Rattle.etcd_types.proofs.Bools.{and_first, and_second, and_both, or_first, or_second, or_none}
use Rattle.store_model.specs.Compares.{holds_of}
use Rattle.store_model.specs.FirstRefusals.{compare_lacks_key, lacks_key, txn_lacks_key}
use Rattle.proxy_model.specs.RequestRefusals.{op_lacks_key, request_lacks_key}
use Rattle.proxy_model.specs.Snapshot.{Held, record_held, is_plain, is_plain_read, is_snapshot, names_nothing, is_compare_held, is_read_held, all_held, snapshot_holds, snapshot_body, snapshot_by, plain_body, snapshot}

-- what is answered as a snapshot is one
pub is_one : (held : Held) (t : TxnAsk) (b : Body) → snapshot held t ≡ Some b → is_snapshot t ≡ true
is_one held t b e = by (is_snapshot t) e
  where
    by : (x : Bool) → cond (x && not (names_nothing t) && all_held held t) (Some (snapshot_by held t (list_all (snapshot_holds held) t.compare))) None ≡ Some b → x ≡ true
    by true f = refl
    by false f = absurd (cc)

-- What the one holds, the other has.

abbrev pub Within : Held → Held → Type 0
Within held all = (k : List ℕ) (kv : Option Kv) → held k ≡ Some kv → all k ≡ Some kv

module _ (held all : Held) (w : Within held all) where
  same_at : (k : List ℕ) → is_some (held k) ≡ true → all k ≡ held k
  same_at k h = by (held k) refl h
    where
      by : (o : Option (Option Kv)) → held k ≡ o → is_some o ≡ true → all k ≡ held k
      by None f t = absurd (cc)
      by (Some kv) f t = w k kv f ∙ sym f

  some_at : (k : List ℕ) → is_some (held k) ≡ true → is_some (all k) ≡ true
  some_at k h = ap (λ (o : Option (Option Kv)). is_some o) (same_at k h) ∙ h

  record_at : (k : List ℕ) → is_some (held k) ≡ true → record_held all k ≡ record_held held k
  record_at k h = ap (λ (o : Option (Option Kv)). unwrap_or o None) (same_at k h)

  compares_held : (cs : List Compare) → list_all (is_compare_held held) cs ≡ true → list_all (is_compare_held all) cs ≡ true
  compares_held [] h = refl
  compares_held (c ∷ cs) h =
      and_both (is_compare_held all c) (list_all (is_compare_held all) cs) (some_at c.range.key (and_first (is_compare_held held c) (list_all (is_compare_held held) cs) h))
      (compares_held cs (and_second (is_compare_held held c) (list_all (is_compare_held held) cs) h))

  reads_held : (os : List Op) → list_all (is_read_held held) os ≡ true → list_all (is_read_held all) os ≡ true
  reads_held [] h = refl
  reads_held (op.Range ask ∷ os) h =
      and_both (is_some (all ask.range.key)) (list_all (is_read_held all) os) (some_at ask.range.key (and_first (is_some (held ask.range.key)) (list_all (is_read_held held) os) h))
      (reads_held os (and_second (is_some (held ask.range.key)) (list_all (is_read_held held) os) h))
  reads_held (op.Put ask ∷ os) h = absurd (cc)
  reads_held (op.Delete ask ∷ os) h = absurd (cc)
  reads_held (op.Txn' compare m success n failure ∷ os) h = absurd (cc)

  compares_same : (cs : List Compare) → list_all (is_compare_held held) cs ≡ true → list_all (snapshot_holds all) cs ≡ list_all (snapshot_holds held) cs
  compares_same [] h = refl
  compares_same (c ∷ cs) h =
      let first : snapshot_holds all c ≡ snapshot_holds held c = ap (λ (o : Option Kv). holds_of c (option_to_list o)) (record_at c.range.key (and_first (is_compare_held held c) (list_all (is_compare_held held) cs) h)) in
      let rest = compares_same cs (and_second (is_compare_held held c) (list_all (is_compare_held held) cs) h) in
      λ i. first i && rest i

  bodies_same : (os : List Op) → list_all (is_read_held held) os ≡ true → map (snapshot_body all) os ≡ map (snapshot_body held) os
  bodies_same [] h = refl
  bodies_same (op.Range ask ∷ os) h =
      let first : snapshot_body all (op.Range ask) ≡ snapshot_body held (op.Range ask) = ap (λ (o : Option Kv). plain_body (option_to_list o)) (record_at ask.range.key (and_first (is_some (held ask.range.key)) (list_all (is_read_held held) os) h)) in
      let rest = bodies_same os (and_second (is_some (held ask.range.key)) (list_all (is_read_held held) os) h) in
      λ i. first i ∷ rest i
  bodies_same (op.Put ask ∷ os) h = absurd (cc)
  bodies_same (op.Delete ask ∷ os) h = absurd (cc)
  bodies_same (op.Txn' compare m success n failure ∷ os) h = absurd (cc)

  pub snapshot_within : (t : TxnAsk) (b : Body) → snapshot held t ≡ Some b → snapshot all t ≡ Some b
  snapshot_within t b e = by (is_snapshot t && not (names_nothing t)) (all_held held t) refl refl e
    where
      told : Bool
      told = list_all (snapshot_holds held) t.compare

      by : (x y : Bool) → (is_snapshot t && not (names_nothing t)) ≡ x → all_held held t ≡ y → cond (x && y) (Some (snapshot_by held t told)) None ≡ Some b → snapshot all t ≡ Some b
      by true false f g h = absurd (cc)
      by false y f g h = absurd (cc)
      by true true f g h = (λ i. cond (f i && all_there i) (Some (whole i)) None) ∙ h
        where
          both : list_all (is_compare_held held) t.compare && list_all (is_read_held held) t.success ≡ true
          both = and_first _ (list_all (is_read_held held) t.failure) g

          compares : list_all (is_compare_held held) t.compare ≡ true
          compares = and_first _ (list_all (is_read_held held) t.success) both

          success : list_all (is_read_held held) t.success ≡ true
          success = and_second (list_all (is_compare_held held) t.compare) _ both

          failure : list_all (is_read_held held) t.failure ≡ true
          failure = and_second _ (list_all (is_read_held held) t.failure) g

          all_there : all_held all t ≡ true
          all_there = and_both _ (list_all (is_read_held all) t.failure) (and_both (list_all (is_compare_held all) t.compare) (list_all (is_read_held all) t.success) (compares_held t.compare compares) (reads_held t.success success)) (reads_held t.failure failure)

          by_branch : (s : Bool) → map (snapshot_body all) (cond s t.success t.failure) ≡ map (snapshot_body held) (cond s t.success t.failure)
          by_branch true = bodies_same t.success success
          by_branch false = bodies_same t.failure failure

          whole : snapshot_by all t (list_all (snapshot_holds all) t.compare) ≡ snapshot_by held t told
          whole = ap (λ s. snapshot_by all t s) (compares_same t.compare compares) ∙ ap (λ (bs : List Body). body.Txn told bs) (by_branch told)

-- Its keys aren't empty, where the proxy doesn't refuse it for that.

keyed_ops : (os : List Op) → list_all is_plain_read os ≡ true → list_any op_lacks_key os ≡ false → list_any lacks_key os ≡ false
keyed_ops [] p h = refl
keyed_ops (op.Range ask ∷ os) p h =
    or_none (is_empty ask.range.key) (list_any lacks_key os) (or_first (is_empty ask.range.key) (list_any op_lacks_key os) h)
    (keyed_ops os (and_second (is_plain ask) (list_all is_plain_read os) p) (or_second (is_empty ask.range.key) (list_any op_lacks_key os) h))
keyed_ops (op.Put ask ∷ os) p h = absurd (cc)
keyed_ops (op.Delete ask ∷ os) p h = absurd (cc)
keyed_ops (op.Txn' compare m success n failure ∷ os) p h = absurd (cc)

pub keyed_txn : (t : TxnAsk) → is_snapshot t ≡ true → request_lacks_key (request.Txn t) ≡ false → txn_lacks_key t ≡ false
keyed_txn t s h =
    let compares = list_any compare_lacks_key t.compare in
    let first = or_first (compares || list_any op_lacks_key t.success) (list_any op_lacks_key t.failure) h in
    let success = and_second _ (list_all is_plain_read t.success) (and_first _ (list_all is_plain_read t.failure) s) in
    or_none (compares || list_any lacks_key t.success) (list_any lacks_key t.failure)
    (or_none compares (list_any lacks_key t.success) (or_first compares (list_any op_lacks_key t.success) first) (keyed_ops t.success success (or_second compares (list_any op_lacks_key t.success) first)))
    (keyed_ops t.failure (and_second _ (list_all is_plain_read t.failure) s) (or_second (compares || list_any op_lacks_key t.success) (list_any op_lacks_key t.failure) h))
