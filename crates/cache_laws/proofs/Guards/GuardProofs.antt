-- What a proxy's own transactions change.
use Rattle.std.proofs.Common.{◌≡◌, ℕ, ◌+◌, Bool, true, false, cond, ◌||◌, List, [], ◌∷◌, ◌++◌, map, Option, None, Some, Ok, inl, refl, sym, ◌∙◌, ap}
use Rattle.std.specs.List.{list_all, list_any}
use Rattle.std.specs.Ordering.{nat_cmp, is_eq}
use Rattle.std.specs.Option.{option_to_list}
use Rattle.etcd_types.specs.declared.record.Kv.{Kv}
use Rattle.etcd_types.specs.declared.key_range.KeyRange.{KeyRange}
use Rattle.etcd_types.specs.declared.operation.TxnAsk.{TxnAsk}
use Rattle.etcd_types.specs.declared.operation.Target.TheVariants as target
use Rattle.etcd_types.specs.declared.operation.Op.{Op}
use Rattle.etcd_types.specs.declared.operation.Op.TheVariants as op
use Rattle.etcd_types.specs.declared.request.Request.TheVariants as request
use Rattle.etcd_types.specs.declared.answer.Body.{Body}
use Rattle.etcd_types.specs.Keys.{same}
use Rattle.etcd_types.specs.Records.{after_put}
use Rattle.etcd_types.proofs.KeyOrder.{same-equal, same-itself}
use Rattle.store_model.specs.declared.history.KeyChange.{KeyChange}
use Rattle.store_model.specs.History.{History, newest, with_revision}
use Rattle.store_model.specs.Records.{record_now}
use Rattle.store_model.specs.State.{State}
use Rattle.store_model.specs.Compares.{holds_of, compare_holds}
use Rattle.store_model.specs.Transactions.{run, run_all}
use Rattle.store_model.proofs.TransactionLemmas.{run_is_txn}
use Rattle.store_laws.specs.Requests.NamedKeys.{names}
use Rattle.proxy_model.specs.Acquire.{acquire}
use Rattle.proxy_model.specs.Asks.{created_at, equals}
use Rattle.proxy_model.specs.Foreign.{ask_revoke, revoke_word}
use Rattle.proxy_model.specs.Guarded.{guarded, delete_part}
use Rattle.proxy_model.specs.Leaving.{rescind}
use Rattle.proxy_model.specs.Prefixes.{only}
use Rattle.proxy_model.specs.SeveralKeys.{written_ranges, parts}
use Rattle.proxy_laws.proofs.OneKey.{records_one}
use Rattle.cache_laws.proofs.Guards.Compares.{equal_numbers, holds-create, none-created, held-guard}
use Rattle.store_laws.specs.Requests.Branches.{holds_now, after_txn, branch_now}
use Rattle.store_model.proofs.RunLemmas.{first_then_ok, same_ok, txn_ran}
use Rattle.etcd_types.proofs.Bools.{and_first, and_second}
use Rattle.store_model.specs.LeftRecords.{lease_of, left_by, is_flat}
use Rattle.cache_laws.specs.Guards.GuardLaw.{create_of, WritesAreGuarded, WritesLeave, AcquiresClaim, RescindsDelete, RevokesMark}
use Rattle.store_laws.proofs.Requests.Branches.{branches_are_named, answered_did, RanTxn}
use Rattle.cache_laws.proofs.Guards.Revisions.{left_at_newest, newest-one_more}
use Rattle.cache_laws.proofs.Guards.CoversProofs.{named_by, owners_unnamed, in_leasing, reads_name_nothing, not_empty_with}

-- the branch that runs, by whether the compares hold

branch_is : (s : State) (t : TxnAsk) (h : Bool) → holds_now s t ≡ h → branch_now s t ≡ cond h t.success t.failure
branch_is s t h e = ap (λ (b : Bool). cond b t.success t.failure) e

-- where neither branch names the key, the one that runs doesn't
neither : (s : State) (t : TxnAsk) (k : List ℕ) → list_any (names k) t.success ≡ false → list_any (names k) t.failure ≡ false → list_any (names k) (branch_now s t) ≡ false
neither s t k e f = by_branch (holds_now s t)
  where
    by_branch : (h : Bool) → list_any (names k) (cond h t.success t.failure) ≡ false
    by_branch true = e
    by_branch false = f

pub writes_are_guarded : WritesAreGuarded
writes_are_guarded s member p write created w np out modes =
    let t = guarded p write created in
    record {
      failed = λ e k. branches_are_named s member t k (ap (list_any (names k)) (branch_is s t false e) ∙ reads_name_nothing k p (written_ranges write));
      guards = λ e k n c. held-guard s.history p created (written_ranges write) k n e c modes;
      others = λ k n c. branches_are_named s member t k (neither s t k (named_by p write k w np n c) (reads_name_nothing k p (written_ranges write)));
      owners = λ k n.
          branches_are_named s member t (p ++ k)
          (neither s t (p ++ k) (owners_unnamed p write k w np (not_empty_with p k np) (in_leasing p k n) out) (reads_name_nothing (p ++ k) p (written_ranges write)));
    }

-- what is left

left_flat : (s : State) (member : ℕ) (t : TxnAsk) (r : RanTxn s member t) (k : List ℕ) → list_all is_flat (branch_now s t) ≡ true
    → record_now (after_txn s member t).history k ≡ left_by (newest (after_txn s member t).history) k (branch_now s t) (record_now s.history k)
left_flat s member t r k f =
    ap (λ (h : History). record_now h k) r.after ∙ left_at_newest s (branch_now s t) r.made r.bodies k f r.ran
    ∙ ap (λ (h : History). left_by (newest h) k (branch_now s t) (record_now s.history k)) (sym r.after)

-- a transaction within the write's
nested_ran : (s : State) (t : TxnAsk) (made : List KeyChange) (bodies : List Body) → run_all s (op.Txn t ∷ []) [] ≡ Ok (made, bodies) → (inner : List Body) × (run_all s (branch_now s t) [] ≡ Ok (made, inner))
nested_ran s t made bodies e =
    let (mid, b, others, first, later, is) = first_then_ok (run s (op.Txn t) []) (λ x. run_all s [] x) made bodies e in
    let (inner, all, told) = txn_ran s t [] mid b (sym (run_is_txn s t []) ∙ first) in
    let ends : mid ≡ made = ap (λ (x : List KeyChange × List Body). x.0) (same_ok (mid, []) (made, others) later) in
    (inner, all ∙ ap (λ (m : List KeyChange). Ok (m, inner)) ends)

flat_parts : (prev_kv : Bool) (rs : List KeyRange) → list_all is_flat (map (delete_part prev_kv) rs) ≡ true
flat_parts prev_kv [] = refl
flat_parts prev_kv (r ∷ rs) = flat_parts prev_kv rs

pub writes_leave : WritesLeave
writes_leave s member p (request.Put ask) created reply w f e h k =
    let t = guarded p (request.Put ask) created in
    let r = answered_did s member t reply e in
    let is = branch_is s t true h in
    left_flat s member t r k (ap (list_all is_flat) is) ∙ ap (λ (ops : List Op). left_by (newest (after_txn s member t).history) k ops (record_now s.history k)) is
writes_leave s member p (request.Delete ask) created reply w f e h k =
    let t = guarded p (request.Delete ask) created in
    let r = answered_did s member t reply e in
    let is = branch_is s t true h in
    left_flat s member t r k (ap (list_all is_flat) is ∙ flat_parts ask.prev_kv (parts p ask.range)) ∙ ap (λ (ops : List Op). left_by (newest (after_txn s member t).history) k ops (record_now s.history k)) is
writes_leave s member p (request.Txn u) created reply w f e h k =
    let t = guarded p (request.Txn u) created in
    let r = answered_did s member t reply e in
    let ran : run_all s (op.Txn u ∷ []) [] ≡ Ok (r.made, r.bodies) = ap (λ (ops : List Op). run_all s ops []) (sym (branch_is s t true h)) ∙ r.ran in
    let (inner, all) = nested_ran s u r.made r.bodies ran in
    ap (λ (h : History). record_now h k) r.after ∙ left_at_newest s (branch_now s u) r.made inner k (either (holds_now s u)) all
    ∙ ap (λ (h : History). left_by (newest h) k (branch_now s u) (record_now s.history k)) (sym r.after)
  where
    either : (b : Bool) → list_all is_flat (cond b u.success u.failure) ≡ true
    either true = and_first (list_all is_flat u.success) _ f
    either false = and_second (list_all is_flat u.success) _ f
writes_leave s member p write created reply w f e h k = absurd w

-- one ownership key

unlike : (own j : List ℕ) → (j ≡ own → ⊥) → same own j ≡ false
unlike own j d = by_test (same own j) refl
  where
    by_test : (t : Bool) → same own j ≡ t → t ≡ false
    by_test true e = absurd (d (sym (same-equal own j e)))
    by_test false e = refl

unlike_back : (own j : List ℕ) → (j ≡ own → ⊥) → same j own ≡ false
unlike_back own j d = by_test (same j own) refl
  where
    by_test : (t : Bool) → same j own ≡ t → t ≡ false
    by_test true e = absurd (d (same-equal j own e))
    by_test false e = refl

at_itself : (own : List ℕ) (x old : Option Kv) → cond (same own own) x old ≡ x
at_itself own x old = ap (λ (t : Bool). cond t x old) (same-itself own)

own_guard : (s : State) (own : List ℕ) (create : ℕ) → compare_holds s.history (created_at (only own) create) ≡ true → create_of (record_now s.history own) ≡ create
own_guard s own create e = holds-create s.history (only own) create own (same-itself own) e (inl refl)

pub rescinds_delete : RescindsDelete
rescinds_delete s member p k create reply e =
    let t = rescind p k create in
    let own = p ++ k in
    let r = answered_did s member t reply e in
    record {
      failed = λ h j. branches_are_named s member t j (ap (list_any (names j)) (branch_is s t false h));
      guard = λ h. own_guard s own create (and_first (compare_holds s.history (created_at (only own) create)) _ h);
      left = λ h. left_flat s member t r own (ap (list_all is_flat) (branch_is s t true h))
          ∙ ap (λ (ops : List Op). left_by (newest (after_txn s member t).history) own ops (record_now s.history own)) (branch_is s t true h)
          ∙ at_itself own None (record_now s.history own);
      others = λ j d. branches_are_named s member t j (neither s t j (ap (λ (b : Bool). b || false) (unlike_back own j d)) refl);
    }

pub revokes_mark : RevokesMark
revokes_mark s member p k create reply e =
    let t = ask_revoke p k create in
    let own = p ++ k in
    let r = answered_did s member t reply e in
    let old = record_now s.history own in
    record {
      failed = λ h j. branches_are_named s member t j (ap (list_any (names j)) (branch_is s t false h));
      guard = λ h. own_guard s own create (and_first (compare_holds s.history (created_at (only own) create)) _ h);
      left = λ h. left_flat s member t r own (ap (list_all is_flat) (branch_is s t true h))
          ∙ ap (λ (ops : List Op). left_by (newest (after_txn s member t).history) own ops old) (branch_is s t true h)
          ∙ at_itself own (Some (after_put old own revoke_word (lease_of old) (newest (after_txn s member t).history))) old;
      others = λ j d. branches_are_named s member t j (neither s t j (ap (λ (b : Bool). b || false) (unlike own j d)) refl);
    }

none_or : (o : Option Kv) → o ≡ None → (lease : ℕ) (own : List ℕ) (revision : ℕ) → after_put o own [] lease revision ≡ after_put None own [] lease revision
none_or o e lease own revision = ap (λ (x : Option Kv). after_put x own [] lease revision) e

unleased_by : (k : List ℕ) (o : Option Kv) → holds_of (equals target.Lease (only k) 0) (option_to_list o) ≡ true → lease_of o ≡ 0
unleased_by k None e = refl
unleased_by k (Some kv) e = equal_numbers kv.lease 0 (and_first (is_eq (nat_cmp kv.lease 0)) _ e)

-- a transaction that left a record where none was made a revision
newer : (s : State) (member : ℕ) (t : TxnAsk) (own : List ℕ) (kv : Kv) → RanTxn s member t → record_now s.history own ≡ None → record_now (after_txn s member t).history own ≡ Some kv
    → newest (after_txn s member t).history ≡ newest s.history + 1
newer s member t own kv r none some = by_made r.made r.after
  where
    by_made : (made : List KeyChange) → (after_txn s member t).history ≡ with_revision s.history made → newest (after_txn s member t).history ≡ newest s.history + 1
    by_made [] e = absurd (let f : None ≡ Some kv = sym none ∙ ap (λ (h : History). record_now h own) (sym e) ∙ some in cc)
    by_made (c ∷ cs) e = ap newest e ∙ newest-one_more s.history c cs

pub acquires_claim : AcquiresClaim
acquires_claim s member p k lease reply e =
    let t = acquire p k lease in
    let own = p ++ k in
    let r = answered_did s member t reply e in
    let old = record_now s.history own in
    let free : holds_now s t ≡ true → old ≡ None = λ h. none-created s.history own (own_guard s own 0 (and_first (compare_holds s.history (created_at (only own) 0)) _ h)) in
    let owned : holds_now s t ≡ true → record_now (after_txn s member t).history own ≡ Some (after_put None own [] lease (newest (after_txn s member t).history)) = λ h.
    left_flat s member t r own (ap (list_all is_flat) (branch_is s t true h))
    ∙ ap (λ (ops : List Op). left_by (newest (after_txn s member t).history) own ops old) (branch_is s t true h)
    ∙ at_itself own (Some (after_put old own [] lease (newest (after_txn s member t).history))) old
    ∙ ap Some (none_or old (free h) lease own (newest (after_txn s member t).history)) in
    record {
      failed = λ h j. branches_are_named s member t j (ap (list_any (names j)) (branch_is s t false h));
      free = free;
      unleased = λ h.
          unleased_by k (record_now s.history k)
          (ap (holds_of (equals target.Lease (only k) 0)) (sym (records_one s.history (only k) refl))
          ∙ and_first (compare_holds s.history (equals target.Lease (only k) 0)) _ (and_second (compare_holds s.history (created_at (only own) 0)) _ h));
      newer = λ h. newer s member t own (after_put None own [] lease (newest (after_txn s member t).history)) r (free h) (owned h);
      owned = owned;
      others = λ j d. branches_are_named s member t j (neither s t j (ap (λ (b : Bool). b || false) (unlike own j d)) refl);
    }
