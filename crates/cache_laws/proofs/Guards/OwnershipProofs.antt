-- Every key of the leasing range is an ownership key.
use Rattle.std.proofs.Common.{◌≡◌, ℕ, Bool, true, false, cond, not, ◌&&◌, ◌||◌, List, [], ◌∷◌, ◌++◌, length, drop, map, Option, None, Some, refl, sym, ◌∙◌, ap, subst}
use Rattle.std.specs.List.{list_all}
use Rattle.etcd_types.specs.declared.key_range.KeyRange.{KeyRange}
use Rattle.etcd_types.specs.declared.operation.PutAsk.{PutAsk}
use Rattle.etcd_types.specs.declared.operation.DeleteAsk.{DeleteAsk}
use Rattle.etcd_types.specs.declared.operation.TxnAsk.{TxnAsk}
use Rattle.etcd_types.specs.declared.operation.Op.{Op, Row_of-Op, end_of-Op, more_of-Op}
use Rattle.etcd_types.specs.declared.operation.Op.TheVariants as op
use Rattle.etcd_types.specs.declared.operation.Op.TheBlock.{hidden-the_row-Op-0, items-the_row-Op, items_hidden-the_row-Op-0}
use Rattle.etcd_types.specs.declared.request.Request.{Request}
use Rattle.etcd_types.specs.declared.request.Request.TheVariants as request
use Rattle.etcd_types.specs.Keys.{is_empty, is_zero, up_to, before}
use Rattle.etcd_types.specs.Ranges.{is_one, contains}
use Rattle.etcd_types.proofs.KeyOrder.{up_to-along, same-itself, before-along, before-up_to}
use Rattle.store_laws.specs.Requests.NamedKeys.{names, names_row}
use Rattle.proxy_model.proofs.Prefixed.{prefix_first, behind}
use Rattle.proxy_model.specs.Acquire.{acquire}
use Rattle.proxy_model.specs.Foreign.{ask_revoke}
use Rattle.proxy_model.specs.Leaving.{rescind}
use Rattle.proxy_model.specs.Guarded.{guarded, write_ops, read_owners, delete_part, IsWrite}
use Rattle.proxy_model.specs.Prefixes.{leasing_range, prefix_end, end_under, under, without}
use Rattle.proxy_model.specs.SeveralKeys.{written_ranges, parts}
use Rattle.namespace_keys.proofs.Keys.{wrapped_keys_are_unwrapped, unwrapped_keys_were_wrapped}
use Rattle.cache_laws.proofs.Guards.Compares.{one_key}
use Rattle.store_model.proofs.RangeLemmas.{range_has}
use Rattle.proxy_model.proofs.PrefixEnds.{end_not_empty}
use Rattle.store_model.specs.Leaves.{all_leaves, all_leaves_row}
use Rattle.store_laws.specs.Lives.TestedKeys.{puts_pass, any_delete}
use Rattle.etcd_types.proofs.Bools.{and_first, and_second, and_both, or_left, or_right, not_true, or_first, or_second}
use Rattle.store_laws.proofs.Lives.Histories.{passed-now}
use Rattle.cache_laws.specs.Guards.Covers.{puts_out, deletes_out, stays_out}
use Rattle.cache_laws.specs.Guards.OwnershipKeys.{is_key, has_owner, WritesPutOwned, OwnersPutOwned, ReadsPutOwned, FoundOwnersAreNamed}
use Rattle.cache_laws.proofs.Guards.CoversProofs.{in_leasing}

-- tests of leaves by the lists of a transaction

leaves_row-items : {m : _} (p : PutAsk → Bool) (d : DeleteAsk → Bool) (ops : Row_of-Op m) → all_leaves_row p d ops ≡ list_all (all_leaves p d) (items-the_row-Op m ops)
leaves_row-items p d end_of-Op = refl
leaves_row-items p d (more_of-Op o rest) = λ i. all_leaves p d o && leaves_row-items p d rest i

leaves_row-hidden : (p : PutAsk → Bool) (d : DeleteAsk → Bool) (ops : List Op) → all_leaves_row p d (hidden-the_row-Op-0 ops) ≡ list_all (all_leaves p d) ops
leaves_row-hidden p d ops = leaves_row-items p d (hidden-the_row-Op-0 ops) ∙ ap (list_all (all_leaves p d)) (items_hidden-the_row-Op-0 ops)

pub leaves_is_txn : (p : PutAsk → Bool) (d : DeleteAsk → Bool) (t : TxnAsk) → all_leaves p d (op.Txn t) ≡ list_all (all_leaves p d) t.success && list_all (all_leaves p d) t.failure
leaves_is_txn p d t = λ i. leaves_row-hidden p d t.success i && leaves_row-hidden p d t.failure i

-- a weaker test passes too
mutual
  pub weaker : (p q : PutAsk → Bool) (d e : DeleteAsk → Bool) (o : Op) → ((ask : PutAsk) → p ask ≡ true → q ask ≡ true) → ((ask : DeleteAsk) → d ask ≡ true → e ask ≡ true) → all_leaves p d o ≡ true → all_leaves q e o ≡ true
  weaker p q d e (op.Range ask) f g a = refl
  weaker p q d e (op.Put ask) f g a = f ask a
  weaker p q d e (op.Delete ask) f g a = g ask a
  weaker p q d e (op.Txn' compare m success n failure) f g a =
      and_both (all_leaves_row q e success) _ (weaker_row p q d e success f g (and_first (all_leaves_row p d success) _ a)) (weaker_row p q d e failure f g (and_second (all_leaves_row p d success) _ a))

  weaker_row : {m : _} (p q : PutAsk → Bool) (d e : DeleteAsk → Bool) (ops : Row_of-Op m) → ((ask : PutAsk) → p ask ≡ true → q ask ≡ true) → ((ask : DeleteAsk) → d ask ≡ true → e ask ≡ true) → all_leaves_row p d ops ≡ true → all_leaves_row q e ops ≡ true
  weaker_row p q d e end_of-Op f g a = refl
  weaker_row p q d e (more_of-Op o rest) f g a =
      and_both (all_leaves q e o) _ (weaker p q d e o f g (and_first (all_leaves p d o) _ a)) (weaker_row p q d e rest f g (and_second (all_leaves p d o) _ a))

owned_passes : (p k : List ℕ) → is_empty k ≡ false → has_owner p (p ++ k) ≡ true
owned_passes p k n = or_right (not (contains (leasing_range p) (p ++ k))) _ (ap is_key (wrapped_keys_are_unwrapped p k) ∙ ap not n)

pub reads_pass : (p : PutAsk → Bool) (d : DeleteAsk → Bool) (prefix : List ℕ) (rs : List KeyRange) → list_all (all_leaves p d) (map (read_owners prefix) rs) ≡ true
reads_pass p d prefix [] = refl
reads_pass p d prefix (r ∷ rs) = reads_pass p d prefix rs

pub parts_pass : (p : PutAsk → Bool) (prev_kv : Bool) (rs : List KeyRange) → list_all (all_leaves p any_delete) (map (delete_part prev_kv) rs) ≡ true
parts_pass p prev_kv [] = refl
parts_pass p prev_kv (r ∷ rs) = parts_pass p prev_kv rs

ops_pass : (p : List ℕ) (write : Request) → IsWrite write → stays_out p write ≡ true → list_all (all_leaves (puts_pass (has_owner p)) any_delete) (write_ops p write) ≡ true
ops_pass p (request.Put ask) w s = and_both (has_owner p ask.key) true (or_left (not (contains (leasing_range p) ask.key)) _ s) refl
ops_pass p (request.Delete ask) w s = parts_pass (puts_pass (has_owner p)) ask.prev_kv (parts p ask.range)
ops_pass p (request.Txn t) w s =
    and_both (all_leaves (puts_pass (has_owner p)) any_delete (op.Txn t)) true
    (weaker (puts_out p) (puts_pass (has_owner p)) (deletes_out p) any_delete (op.Txn t) (λ ask a. or_left (not (contains (leasing_range p) ask.key)) _ a) (λ ask a. refl) s) refl
ops_pass p write w s = absurd w

pub writes_put_owned : WritesPutOwned
writes_put_owned p write created w s =
    leaves_is_txn (puts_pass (has_owner p)) any_delete (guarded p write created)
    ∙ and_both (list_all (all_leaves (puts_pass (has_owner p)) any_delete) (write_ops p write)) _ (ops_pass p write w s) (reads_pass (puts_pass (has_owner p)) any_delete p (written_ranges write))

pub owners_put_owned : OwnersPutOwned
owners_put_owned p k n ne = (
  leaves_is_txn (puts_pass (has_owner p)) any_delete (acquire p k n) ∙ (λ i. (true && (owned_passes p k ne i && true)) && true),
  leaves_is_txn (puts_pass (has_owner p)) any_delete (rescind p k n),
  leaves_is_txn (puts_pass (has_owner p)) any_delete (ask_revoke p k n) ∙ (λ i. (owned_passes p k ne i && true) && true),
)

-- what names no key puts none
mutual
  pub unnamed_passes : (test : List ℕ → Bool) (o : Op) → ((k : List ℕ) → names k o ≡ false) → all_leaves (puts_pass test) any_delete o ≡ true
  unnamed_passes test (op.Range ask) n = refl
  unnamed_passes test (op.Put ask) n = absurd (let e = n ask.key in let f = same-itself ask.key in cc)
  unnamed_passes test (op.Delete ask) n = refl
  unnamed_passes test (op.Txn' compare m success r failure) n =
      and_both (all_leaves_row (puts_pass test) any_delete success) _ (row_unnamed_passes test success (λ k. or_first (names_row k success) _ (n k))) (row_unnamed_passes test failure (λ k. or_second (names_row k success) _ (n k)))

  row_unnamed_passes : {m : _} (test : List ℕ → Bool) (ops : Row_of-Op m) → ((k : List ℕ) → names_row k ops ≡ false) → all_leaves_row (puts_pass test) any_delete ops ≡ true
  row_unnamed_passes test end_of-Op n = refl
  row_unnamed_passes test (more_of-Op o rest) n =
      and_both (all_leaves (puts_pass test) any_delete o) _ (unnamed_passes test o (λ k. or_first (names k o) _ (n k))) (row_unnamed_passes test rest (λ k. or_second (names k o) _ (n k)))

pub reads_put_owned : ReadsPutOwned
reads_put_owned p t n = unnamed_passes (has_owner p) (op.Txn t) n

-- the keys of a range under the prefix are in the leasing range

from_or : (a b : Bool) → a ≡ false → a || b ≡ true → b ≡ true
from_or true b e f = absurd (cc)
from_or false b e f = f

or_map : (a b c : Bool) → (b ≡ true → c ≡ true) → a || b ≡ true → a || c ≡ true
or_map true b c f e = refl
or_map false b c f e = f e

leasing_has : (p k : List ℕ) → is_empty k ≡ false → contains (leasing_range p) k ≡ up_to p k && (is_zero (prefix_end p) || before k (prefix_end p))
leasing_has p k n = range_has (leasing_range p) k (end_not_empty p) n

ends_within : (p j e : List ℕ) → is_empty p ≡ false → is_empty e ≡ false → is_zero (end_under p e) || before j (end_under p e) ≡ true → is_zero (prefix_end p) || before j (prefix_end p) ≡ true
ends_within p j e np ne l = by_empty (is_empty e) (is_zero e) ne refl l
  where
    longer : (p : List ℕ) → is_empty p ≡ false → is_zero (p ++ e) ≡ false
    longer [] n = absurd (cc)
    longer (b ∷ bs) n = two b bs e ne
      where
        two : (b : ℕ) (bs e : List ℕ) → is_empty e ≡ false → is_zero (b ∷ (bs ++ e)) ≡ false
        two b [] [] n = absurd (cc)
        two b [] (c ∷ cs) n = refl
        two b (c ∷ cs) e n = refl

    not_empty : (p : List ℕ) → is_empty p ≡ false → is_empty (p ++ e) ≡ false
    not_empty [] n = absurd (cc)
    not_empty (b ∷ bs) n = refl

    by_empty : (t z : Bool) → t ≡ false → is_zero e ≡ z → is_zero (cond t [] (cond z (prefix_end p) (p ++ e))) || before j (cond t [] (cond z (prefix_end p) (p ++ e))) ≡ true → is_zero (prefix_end p) || before j (prefix_end p) ≡ true
    by_empty true z f g l = absurd (cc)
    by_empty false true f g l = l
    by_empty false false f g l =
        let below = from_or (is_zero (p ++ e)) (before j (p ++ e)) (longer p np) l in
        or_map (is_zero (prefix_end p)) (before (p ++ e) (prefix_end p)) (before j (prefix_end p)) (λ h. before-along j (p ++ e) (prefix_end p) below (before-up_to (p ++ e) (prefix_end p) h))
        (and_second (up_to p (p ++ e)) _ (sym (leasing_has p (p ++ e) (not_empty p np)) ∙ in_leasing p e ne))

within : (p j : List ℕ) (r : KeyRange) → is_empty p ≡ false → is_empty j ≡ false → is_empty r.key ≡ false → contains (under p r) j ≡ true → contains (leasing_range p) j ≡ true
within p j r np nj nr c = by_one (is_empty r.end) refl
  where
    under_one : is_empty r.end ≡ true → is_one (under p r) ≡ true
    under_one e = ap (λ t. is_empty (cond t [] (cond (is_zero r.end) (prefix_end p) (p ++ r.end)))) e

    under_more : is_empty r.end ≡ false → is_empty (end_under p r.end) ≡ false
    under_more e = by_tests (is_empty r.end) (is_zero r.end) e
      where
        joined : (p : List ℕ) → is_empty p ≡ false → is_empty (p ++ r.end) ≡ false
        joined [] n = absurd (cc)
        joined (b ∷ bs) n = refl

        by_tests : (t z : Bool) → t ≡ false → is_empty (cond t [] (cond z (prefix_end p) (p ++ r.end))) ≡ false
        by_tests true z f = absurd (cc)
        by_tests false true f = end_not_empty p
        by_tests false false f = joined p np

    by_one : (t : Bool) → is_empty r.end ≡ t → contains (leasing_range p) j ≡ true
    by_one true e =
        subst (λ (k : List ℕ). contains (leasing_range p) k ≡ true) (sym (one_key (under p r) j (under_one e) c)) (in_leasing p r.key nr)
    by_one false e =
        let has = sym (range_has (under p r) j (under_more e) nj) ∙ c in
        leasing_has p j nj
        ∙ and_both (up_to p j) _ (up_to-along p (p ++ r.key) j (prefix_first p r.key) (and_first (up_to (p ++ r.key) j) _ has)) (ends_within p j r.end np e (and_second (up_to (p ++ r.key) j) _ has))

rest_of : (p x : List ℕ) → drop (length p) (p ++ x) ≡ x
rest_of [] x = refl
rest_of (b ∷ bs) x = rest_of bs x

named_by : (p k : List ℕ) (o : Option (List ℕ)) → without p k ≡ o → is_key o ≡ true → (p ++ drop (length p) k ≡ k) × (is_empty (drop (length p) k) ≡ false)
named_by p k None e s = absurd (cc)
named_by p k (Some rest) e s =
    let is = unwrapped_keys_were_wrapped p k rest e in
    subst (λ (j : List ℕ). (p ++ drop (length p) j ≡ j) × (is_empty (drop (length p) j) ≡ false)) (sym is) (behind p rest, ap is_empty (rest_of p rest) ∙ not_true (is_empty rest) s)

pub found_owners_are_named : FoundOwnersAreNamed
found_owners_are_named p h r kv all found nk np nr c =
    let passes = passed-now (has_owner p) h kv.key kv all found in
    let inside = within p kv.key r np nk nr c in
    named_by p kv.key (without p kv.key) refl (from_or (not (contains (leasing_range p) kv.key)) (is_key (without p kv.key)) (ap not inside) passes)
