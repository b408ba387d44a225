-- A put of an ownership key makes a revision of its own.
use Rattle.std.proofs.Common.{◌≡◌, ℕ, ◌==◌, Bool, true, false, cond, not, List, [], ◌∷◌, ◌++◌, length, map, Ok, inl, inr, refl, sym, ◌∙◌, ap, subst}
use Rattle.std.specs.List.{list_all}
use Rattle.std.proofs.lemmas.List.Folds.{list_all-append}
use Rattle.etcd_types.proofs.Bools.{and_first, and_second, and_both, or_left, or_right}
use Rattle.etcd_types.specs.declared.record.Kv.{Kv}
use Rattle.etcd_types.specs.declared.operation.PutAsk.{PutAsk}
use Rattle.etcd_types.specs.declared.operation.RangeAsk.{RangeAsk}
use Rattle.etcd_types.specs.declared.operation.DeleteAsk.{DeleteAsk}
use Rattle.etcd_types.specs.declared.operation.TxnAsk.{TxnAsk}
use Rattle.etcd_types.specs.declared.operation.Op.{Op}
use Rattle.etcd_types.specs.declared.operation.Op.TheVariants as op
use Rattle.etcd_types.specs.declared.request.Request.{Request}
use Rattle.etcd_types.specs.declared.request.Request.TheVariants as request
use Rattle.etcd_types.specs.declared.answer.Body.{Body}
use Rattle.etcd_types.specs.Ranges.{contains}
use Rattle.store_model.specs.declared.history.KeyChange.{KeyChange}
use Rattle.store_model.specs.declared.history.KeyChange.TheVariants as change
use Rattle.store_model.specs.History.{newest}
use Rattle.store_model.specs.Leases.{attached, expired}
use Rattle.store_model.specs.Leaves.{all_leaves}
use Rattle.store_model.specs.Ranges.{records_now}
use Rattle.store_model.specs.Reads.{read}
use Rattle.store_model.specs.State.{State}
use Rattle.store_model.specs.Transactions.{seen, run, run_all, run_put, run_delete, deletion, has_lease}
use Rattle.store_model.proofs.RunLemmas.{first_then_ok, same_ok, unchanged_ok, put_ok, delete_ok}
use Rattle.store_laws.specs.Requests.Branches.{holds_now, branch_now, after_txn}
use Rattle.store_laws.proofs.Requests.Branches.{did}
use Rattle.store_laws.proofs.Requests.Lifted.{Keeps, Holds, lifted_all}
use Rattle.store_laws.specs.Lives.TestedKeys.{any_delete}
use Rattle.store_laws.proofs.Lives.Histories.{with_revision-all}
use Rattle.store_laws.proofs.Lives.TestedProofs.{expired_by}
use Rattle.proxy_model.specs.Acquire.{acquire}
use Rattle.proxy_model.specs.Asks.{range_ask}
use Rattle.proxy_model.specs.Foreign.{ask_revoke, revoke_word}
use Rattle.proxy_model.specs.Guarded.{guarded, write_ops, IsWrite}
use Rattle.proxy_model.specs.Leaving.{rescind}
use Rattle.proxy_model.specs.Prefixes.{only, leasing_range}
use Rattle.proxy_model.specs.SeveralKeys.{written_ranges, parts}
use Rattle.cache_laws.specs.Guards.Covers.{puts_out, deletes_out, stays_out}
use Rattle.cache_laws.specs.Guards.OwnerEvents.{puts_no_owner, puts_alone, PutAlone, WritesPutAlone, OwnersPutAlone, ReadsPutAlone, EndsPutAlone}
use Rattle.cache_laws.proofs.Guards.OwnershipProofs.{leaves_is_txn, weaker, reads_pass, parts_pass, unnamed_passes}

-- what is made by operations whose puts are outside

deletions_pass : (p : List ℕ) (kvs : List Kv) → list_all (puts_no_owner p) (map deletion kvs) ≡ true
deletions_pass p [] = refl
deletions_pass p (kv ∷ kvs) = deletions_pass p kvs

both_pass : (p : List ℕ) (cs ds : List KeyChange) → list_all (puts_no_owner p) cs ≡ true → list_all (puts_no_owner p) ds ≡ true → list_all (puts_no_owner p) (cs ++ ds) ≡ true
both_pass p cs ds e f = list_all-append (puts_no_owner p) cs ds ∙ and_both (list_all (puts_no_owner p) cs) _ e f

keep_out : (p : List ℕ) (s : State) → Keeps s (λ made. list_all (puts_no_owner p) made ≡ true) (puts_out p) any_delete
keep_out p s = record { put = puts; delete = deletes }
  where
    puts : (ask : PutAsk) (made : List KeyChange) → puts_out p ask ≡ true → list_all (puts_no_owner p) made ≡ true → Holds (λ made. list_all (puts_no_owner p) made ≡ true) (run_put s ask made)
    puts ask made out h next b e =
        let m = put_ok s ask made next b e in
        subst (λ (cs : List KeyChange). list_all (puts_no_owner p) cs ≡ true) (sym m.made_so) (both_pass p made (change.Put ask.key ask.value m.lease ∷ []) h (and_both (puts_out p ask) true out refl))

    deletes : (ask : DeleteAsk) (made : List KeyChange) → any_delete ask ≡ true → list_all (puts_no_owner p) made ≡ true → Holds (λ made. list_all (puts_no_owner p) made ≡ true) (run_delete s ask made)
    deletes ask made any h next b e =
        subst (λ (cs : List KeyChange). list_all (puts_no_owner p) cs ≡ true) (sym (delete_ok s ask made next b e)) (both_pass p made (map deletion (records_now (seen s made) ask.range)) h (deletions_pass p (records_now (seen s made) ask.range)))

outs : (p : List ℕ) (s : State) (ops : List Op) (made : List KeyChange) (bs : List Body) → list_all (all_leaves (puts_out p) any_delete) ops ≡ true → run_all s ops [] ≡ Ok (made, bs) → puts_alone p made ≡ true
outs p s ops made bs a e =
    or_left (list_all (puts_no_owner p) made) _ (lifted_all s (λ cs. list_all (puts_no_owner p) cs ≡ true) (puts_out p) any_delete (keep_out p s) ops [] a refl made bs e)

-- a transaction

txn_alone : (s : State) (member : ℕ) (t : TxnAsk) (p : List ℕ) → PutAlone p s.history → ((made : List KeyChange) (bs : List Body) → run_all s (branch_now s t) [] ≡ Ok (made, bs) → puts_alone p made ≡ true)
    → PutAlone p (after_txn s member t).history
txn_alone s member t p h f =
    elim (did s member t) [
      | inl e ↦ ap (λ (u : State). list_all (puts_alone p) u.history) e ∙ h
      | inr r ↦ ap (list_all (puts_alone p)) r.after ∙ with_revision-all (puts_alone p) s.history r.made h (λ c cs e. f r.made r.bodies r.ran)
    ]

either_branch : (s : State) (t : TxnAsk) (p : List ℕ) → list_all (all_leaves (puts_out p) any_delete) t.success ≡ true → list_all (all_leaves (puts_out p) any_delete) t.failure ≡ true
    → list_all (all_leaves (puts_out p) any_delete) (branch_now s t) ≡ true
either_branch s t p e f = by_branch (holds_now s t)
  where
    by_branch : (b : Bool) → list_all (all_leaves (puts_out p) any_delete) (cond b t.success t.failure) ≡ true
    by_branch true = e
    by_branch false = f

write_out : (p : List ℕ) (write : Request) → IsWrite write → stays_out p write ≡ true → list_all (all_leaves (puts_out p) any_delete) (write_ops p write) ≡ true
write_out p (request.Put ask) w s = and_both (puts_out p ask) true s refl
write_out p (request.Delete ask) w s = parts_pass (puts_out p) ask.prev_kv (parts p ask.range)
write_out p (request.Txn t) w s =
    and_both (all_leaves (puts_out p) any_delete (op.Txn t)) true (weaker (puts_out p) (puts_out p) (deletes_out p) any_delete (op.Txn t) (λ ask a. a) (λ ask a. refl) s) refl
write_out p write w s = absurd w

pub writes_put_alone : WritesPutAlone
writes_put_alone s member p write created w out h =
    let t = guarded p write created in
    txn_alone s member t p h (λ made bs. outs p s (branch_now s t) made bs (either_branch s t p (write_out p write w out) (reads_pass (puts_out p) any_delete p (written_ranges write))))

pub reads_put_alone : ReadsPutAlone
reads_put_alone s member p t n h =
    let passes = sym (leaves_is_txn (puts_out p) any_delete t) ∙ unnamed_passes (λ k. not (contains (leasing_range p) k)) (op.Txn t) n in
    txn_alone s member t p h (λ made bs. outs p s (branch_now s t) made bs (either_branch s t p (and_first (list_all (all_leaves (puts_out p) any_delete) t.success) _ passes) (and_second (list_all (all_leaves (puts_out p) any_delete) t.success) _ passes)))

-- one put

one_put : (s : State) (ask : PutAsk) (made : List KeyChange) (bs : List Body) → run_all s (op.Put ask ∷ []) [] ≡ Ok (made, bs) → (length made == 1) ≡ true
one_put s ask made bs e =
    let (mid, b, others, first, later, is) = first_then_ok (run s (op.Put ask) []) (λ x. run_all s [] x) made bs e in
    ap (λ (cs : List KeyChange). length cs == 1) (sym (ap (λ (x : List KeyChange × List Body). x.0) (same_ok (mid, []) (made, others) later)) ∙ (put_ok s ask [] mid b first).made_so)

read_and_put : (s : State) (read_ask : RangeAsk) (ask : PutAsk) (made : List KeyChange) (bs : List Body) → run_all s (op.Range read_ask ∷ op.Put ask ∷ []) [] ≡ Ok (made, bs) → (length made == 1) ≡ true
read_and_put s read_ask ask made bs e =
    let (mid, b, others, first, later, is) = first_then_ok (run s (op.Range read_ask) []) (λ x. run_all s (op.Put ask ∷ []) x) made bs e in
    let same = (unchanged_ok [] (read (seen s []) (newest (seen s [])) s.compacted read_ask) mid b first).0 in
    let again : run_all s (op.Put ask ∷ []) [] ≡ Ok (made, others) = ap (λ (m : List KeyChange). run_all s (op.Put ask ∷ []) m) same ∙ later in
    one_put s ask made others again

alone_by : (s : State) (t : TxnAsk) (p : List ℕ) (made : List KeyChange) (bs : List Body) → (run_all s t.success [] ≡ Ok (made, bs) → puts_alone p made ≡ true) → (run_all s t.failure [] ≡ Ok (made, bs) → puts_alone p made ≡ true)
    → run_all s (branch_now s t) [] ≡ Ok (made, bs) → puts_alone p made ≡ true
alone_by s t p made bs f g = by_branch (holds_now s t)
  where
    by_branch : (b : Bool) → run_all s (cond b t.success t.failure) [] ≡ Ok (made, bs) → puts_alone p made ≡ true
    by_branch true = f
    by_branch false = g

pub owners_put_alone : OwnersPutAlone
owners_put_alone s member p k n h = (
  txn_alone s member (acquire p k n) p h
      (λ made bs. alone_by s (acquire p k n) p made bs (λ e. or_right (list_all (puts_no_owner p) made) _ (read_and_put s (range_ask (only k)) (record { key = p ++ k; value = []; lease = n; prev_kv = false; ignore_lease = false }) made bs e)) (outs p s (acquire p k n).failure made bs refl)),
  txn_alone s member (rescind p k n) p h
      (λ made bs. alone_by s (rescind p k n) p made bs (outs p s (rescind p k n).success made bs refl) (outs p s (rescind p k n).failure made bs refl)),
  txn_alone s member (ask_revoke p k n) p h
      (λ made bs. alone_by s (ask_revoke p k n) p made bs (λ e. or_right (list_all (puts_no_owner p) made) _ (one_put s (record { key = p ++ k; value = revoke_word; lease = 0; prev_kv = false; ignore_lease = true }) made bs e)) (outs p s (ask_revoke p k n).failure made bs refl)),
)

pub ends_put_alone : EndsPutAlone
unfolding expired
ends_put_alone s t p lease e h =
    expired_by (λ u. PutAlone p u.history) s t lease (has_lease s.leases lease) e
    (with_revision-all (puts_alone p) s.history (map deletion (attached s.history lease)) h (λ c cs f. or_left (list_all (puts_no_owner p) (map deletion (attached s.history lease))) _ (deletions_pass p (attached s.history lease))))
