-- A guarded write is a move of the view.
use Rattle.std.proofs.Common.{◌≡◌, ℕ, ◌==◌, Bool, true, false, cond, not, ◌&&◌, ◌||◌, List, [], ◌∷◌, ◌++◌, map, Option, None, Some, refl, sym, ◌∙◌, ap, subst, arith}
use Rattle.std.specs.List.{list_all}
use Rattle.std.proofs.lemmas.Bool.Decides.{nat_tests}
use Rattle.etcd_types.specs.declared.record.Kv.{Kv}
use Rattle.etcd_types.specs.declared.key_range.KeyRange.{KeyRange}
use Rattle.etcd_types.specs.declared.operation.TxnAsk.{TxnAsk}
use Rattle.etcd_types.specs.declared.operation.Op.{Op}
use Rattle.etcd_types.specs.declared.operation.Op.TheVariants as op
use Rattle.etcd_types.specs.declared.request.Request.{Request}
use Rattle.etcd_types.specs.declared.request.Request.TheVariants as request
use Rattle.etcd_types.specs.Keys.{is_empty, same}
use Rattle.etcd_types.specs.Ranges.{contains}
use Rattle.etcd_types.specs.Records.{after_put}
use Rattle.store_model.specs.History.{newest}
use Rattle.store_model.specs.Records.{record_now}
use Rattle.store_model.specs.State.{State}
use Rattle.store_laws.proofs.Requests.RequestProofs.{make_one_revision}
use Rattle.proxy_model.specs.Guarded.{guarded, delete_part, IsWrite}
use Rattle.proxy_model.specs.SeveralKeys.{parts}
use Rattle.cache_laws.proofs.Guards.GuardProofs.{writes_are_guarded, writes_leave}
use Rattle.cache_laws.specs.Moves.View.{Owner, nobody, Outcome}
use Rattle.cache_laws.specs.Store.StoreView.{is_client, owner_in, owner_at, kv_at}
use Rattle.cache_laws.specs.Store.CallSteps.{op_unleased, is_unleased, write_outcome, WritesStep}
use Rattle.cache_laws.proofs.Store.Showing.{named, at_true, at_false, owner_stays, kv_stays, txn_leases, ran_of, call_stands}
use Rattle.store_laws.specs.Requests.Branches.{holds_now, after_txn}
use Rattle.etcd_types.proofs.Bools.{and_first, and_second}
use Rattle.store_model.specs.LeftRecords.{lease_of, put_under_lease, left_op, left_by}
use Rattle.cache_laws.specs.Guards.Covers.{covers}
use Rattle.cache_laws.specs.Guards.GuardLaw.{running_ops, IsGuarded}
use Rattle.store_laws.proofs.Lives.SoundProofs.{requests_keep_sound}
use Rattle.store_laws.proofs.Lives.TestedProofs.{keys_stay_tested}
use Rattle.cache_laws.specs.Guards.OwnershipKeys.{has_owner}
use Rattle.cache_laws.proofs.Guards.OwnershipProofs.{writes_put_owned}
use Rattle.cache_laws.proofs.Guards.AloneProofs.{writes_put_alone}

-- the lease of what operations leave
unleased_one : (revision : ℕ) (k : List ℕ) (o : Op) (old : Option Kv) → op_unleased k o ≡ true → lease_of old ≡ 0 → lease_of (left_op revision k o old) ≡ 0
unleased_one revision k (op.Range ask) old a e = e
unleased_one revision k (op.Put ask) old a e = by_test (same ask.key k) refl
  where
    new_lease : (old : Option Kv) (v : List ℕ) (lease : ℕ) → (after_put old k v lease revision).lease ≡ lease
    new_lease None v lease = refl
    new_lease (Some kv) v lease = refl

    zero_lease : (b : Bool) → not b || ask.lease == 0 ≡ true → b ≡ true → ask.lease ≡ 0
    zero_lease b h f = grind (arith, nat_tests)

    none : (i : Bool) → ask.lease ≡ 0 → cond i (lease_of old) ask.lease ≡ 0
    none true f = e
    none false f = f

    by_test : (t : Bool) → same ask.key k ≡ t → lease_of (cond t (Some (after_put old k ask.value (put_under_lease ask old) revision)) old) ≡ 0
    by_test true f = new_lease old ask.value (put_under_lease ask old) ∙ none ask.ignore_lease (zero_lease (same ask.key k) a f)
    by_test false f = e
unleased_one revision k (op.Delete ask) old a e = by_test (contains ask.range k)
  where
    by_test : (t : Bool) → lease_of (cond t None old) ≡ 0
    by_test true = refl
    by_test false = e
unleased_one revision k (op.Txn' compare m success n failure) old a e = e

unleased_all : (revision : ℕ) (k : List ℕ) (ops : List Op) (old : Option Kv) → list_all (op_unleased k) ops ≡ true → lease_of old ≡ 0 → lease_of (left_by revision k ops old) ≡ 0
unleased_all revision k [] old a e = e
unleased_all revision k (o ∷ ops) old a e =
    unleased_all revision k ops (left_op revision k o old) (and_second (op_unleased k o) _ a) (unleased_one revision k o old (and_first (op_unleased k o) _ a) e)

-- of the branch that runs
running_unleased : (s : State) (p : List ℕ) (write : Request) (k : List ℕ) → IsWrite write → is_unleased k write ≡ true → list_all (op_unleased k) (running_ops s p write) ≡ true
running_unleased s p (request.Put ask) k w e = λ i. e i && true
running_unleased s p (request.Delete ask) k w e = parts_unleased (parts p ask.range)
  where
    parts_unleased : (rs : List KeyRange) → list_all (op_unleased k) (map (delete_part ask.prev_kv) rs) ≡ true
    parts_unleased [] = refl
    parts_unleased (r ∷ rs) = parts_unleased rs
running_unleased s p (request.Txn t) k w e = by_branch (holds_now s t)
  where
    by_branch : (b : Bool) → list_all (op_unleased k) (cond b t.success t.failure) ≡ true
    by_branch true = and_first (list_all (op_unleased k) t.success) _ e
    by_branch false = and_second (list_all (op_unleased k) t.success) _ e
running_unleased s p write k w e = absurd w

pub writes_step : WritesStep
writes_step holder s member p write created reply v i w np out flat modes free told is_out call stands =
    call_stands holder p s t v i o stands (record { sound = requests_keep_sound s member (request.Txn u) stands.orderly.sound; owned = keys_stay_tested (has_owner p) s member (request.Txn u) stands.orderly.owned (writes_put_owned p write created w out); alone = writes_put_alone s member p write created w out stands.orderly.alone })
    (make_one_revision s member (request.Txn u)) (txn_leases s member u) (λ k. refl) (λ k. refl)
    (record {
      ran = ran_of s t o stands.shows (make_one_revision s member (request.Txn u)) is_out refl;
      kind = λ e. (let f = call.kind in absurd (cc));
      untimed = refl;
      guarded = λ ok k c.
          let both = sym (call.covers k) ∙ c in
          let client = and_first (is_client p k) _ both in
          ap (λ (o : Owner). o.create) (stands.shows.owners k ∙ at_false (is_empty k) (owner_in (record_now s.history (p ++ k))) nobody (named p k client))
          ∙ law.guards ok k (named p k client) (and_second (is_client p k) _ both) ∙ sym (call.guards k);
      others = λ k c. same_owner k;
      others_kv = λ k c. kv_stays s.history t.history p k (λ client. law.others k (named p k client) (uncovered k client (sym (call.covers k) ∙ c))) ∙ sym (stands.shows.kvs k);
      failed = λ f k. same_owner k;
      failed_kv = λ f k. kv_stays s.history t.history p k (λ client. law.failed f k) ∙ sym (stands.shows.kvs k);
      kept = λ q k. same_owner k;
      left = λ ok q k c g. left ok k (and_first (is_client p k) _ (sym (call.covers k) ∙ c));
      unleased = λ ok q k c g e.
          (let client = and_first (is_client p k) _ (sym (call.covers k) ∙ c) in
          ap lease_of (left ok k client)
          ∙ unleased_all (newest t.history) k (running_ops s p write) (v.kvs k) (running_unleased s p write k w (free k (λ z. g (call.guards k ∙ z)))) e);
      gone = λ n k c ok. absurd (n call.kind);
    })
  where
    u : TxnAsk
    u = guarded p write created

    t : State
    t = after_txn s member (guarded p write created)

    o : Outcome
    o = write_outcome s (after_txn s member (guarded p write created)) p write (holds_now s (guarded p write created))

    law : IsGuarded p write created s (after_txn s member (guarded p write created))
    law = writes_are_guarded s member p write created w np out modes

    same_owner : (k : List ℕ) → owner_at (after_txn s member (guarded p write created)).history p k ≡ v.owners k
    same_owner k = owner_stays s.history (after_txn s member (guarded p write created)).history p k (λ n. law.owners k n) ∙ sym (stands.shows.owners k)

    uncovered : (k : List ℕ) → is_client p k ≡ true → is_client p k && covers write k ≡ false → covers write k ≡ false
    uncovered k e f = subst (λ (b : Bool). b && covers write k ≡ false) e f

    left : holds_now s (guarded p write created) ≡ true → (k : List ℕ) → is_client p k ≡ true
        → kv_at (after_txn s member (guarded p write created)).history p k ≡ left_by (newest (after_txn s member (guarded p write created)).history) k (running_ops s p write) (v.kvs k)
    left ok k client =
        at_true (is_client p k) (record_now (after_txn s member (guarded p write created)).history k) None client
        ∙ writes_leave s member p write created reply w flat told ok k
        ∙ ap (left_by (newest (after_txn s member (guarded p write created)).history) k (running_ops s p write)) (sym (stands.shows.kvs k ∙ at_true (is_client p k) (record_now s.history k) None client))
