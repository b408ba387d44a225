-- What a transaction did: nothing, or what the list that ran made; and what that leaves of a record.
use Rattle.std.proofs.Common.{◌≡◌, ℕ, ◌+◌, Bool, true, false, cond, ◌||◌, List, [], ◌∷◌, length, map, Option, None, Some, Ok, Err, refl, sym, ◌∙◌, ap, ◌⊎◌, inl, inr, arith}
use Rattle.std.specs.List.{list_all, list_any}
use Rattle.etcd_types.specs.declared.record.Kv.{Kv}
use Rattle.etcd_types.specs.declared.operation.PutAsk.{PutAsk}
use Rattle.etcd_types.specs.declared.operation.TxnAsk.{TxnAsk}
use Rattle.etcd_types.specs.declared.operation.Op.{Op, Row_of-Op, end_of-Op, more_of-Op}
use Rattle.etcd_types.specs.declared.operation.Op.TheVariants.{Range, Put, Delete, Txn, Txn'}
use Rattle.etcd_types.specs.declared.operation.Op.TheBlock.{hidden-the_row-Op-0, items-the_row-Op, items_hidden-the_row-Op-0}
use Rattle.etcd_types.specs.declared.request.Request.TheVariants as request
use Rattle.etcd_types.specs.declared.answer.Answer.TheVariants as answer
use Rattle.etcd_types.specs.declared.answer.Body.{Body}
use Rattle.etcd_types.specs.declared.answer.Refusal.{Refusal}
use Rattle.etcd_types.specs.declared.answer.Reply.{Reply}
use Rattle.etcd_types.specs.Keys.{same}
use Rattle.etcd_types.specs.Records.{after_put}
use Rattle.etcd_types.proofs.Bools.{and_first, and_second}
use Rattle.etcd_types.proofs.KeyOrder.{same-equal}
use Rattle.store_model.specs.declared.history.KeyChange.{KeyChange}
use Rattle.store_model.specs.declared.history.KeyChange.TheVariants as change
use Rattle.store_model.specs.History.{newest, with_revision}
use Rattle.store_model.specs.Records.{record_now}
use Rattle.store_model.specs.Ranges.{records_now}
use Rattle.store_model.specs.Reads.{read}
use Rattle.store_model.specs.State.{State}
use Rattle.store_model.specs.LeftRecords.{lease_of, put_under_lease, left_op, left_by, is_flat}
use Rattle.store_model.specs.Transactions.{Ran, seen, run, run_all, run_txn, deletion}
use Rattle.store_model.specs.FirstRefusals.{first_refusal}
use Rattle.store_model.specs.Step.{Step, exec, exec_op, settled}
use Rattle.store_model.proofs.RunLemmas.{same_ok, unchanged_ok, first_then_ok, txn_ran, PutMade, put_ok, delete_ok, seen-record, deletions-record}
use Rattle.store_model.proofs.StepLemmas.{exec_txn-refused, exec_txn-runs}
use Rattle.store_laws.specs.Requests.Branches.{branch_now, after_txn, BranchesAreNamed, BranchesLeave}
use Rattle.store_laws.specs.Requests.NamedKeys.{names, names_row}
use Rattle.store_laws.proofs.Requests.Deletions.{deleted-record}
use Rattle.store_laws.proofs.Requests.Lifted.{lifted_all}
use Rattle.store_laws.proofs.Requests.NamedProofs.{Stands, apart_put, apart_delete, apart_all, keep_standing}

-- What a transaction did: nothing, or what its branch made.

pub record RanTxn (s : State) (member : ℕ) (t : TxnAsk) : Type 0 where
  pub made : List KeyChange
  pub bodies : List Body
  pub ran : run_all s (branch_now s t) [] ≡ Ok (made, bodies)
  pub after : (after_txn s member t).history ≡ with_revision s.history made

abbrev pub Did : State → ℕ → TxnAsk → Type 0
Did s member t = (after_txn s member t ≡ s) ⊎ RanTxn s member t

pub did : (s : State) (member : ℕ) (t : TxnAsk) → Did s member t
unfolding exec
did s member t = by_refusal (first_refusal (Txn t)) refl
  where
    by_ran : (ran : Ran) → run_txn s t [] ≡ ran → (exec_op s member (Txn t) ≡ settled s member ran) → Did s member t
    by_ran (Ok ran) e f =
        let (bodies, all, is) = txn_ran s t [] ran.0 ran.1 e in
        inr (record { made = ran.0; bodies = bodies; ran = all; after = ap (λ (step : Step). step.0.history) f })
    by_ran (Err refusal) e f = inl (ap (λ (step : Step). step.0) f)

    by_refusal : (found : Option Refusal) → first_refusal (Txn t) ≡ found → Did s member t
    by_refusal None f = by_ran (run_txn s t []) refl (exec_txn-runs s member t f)
    by_refusal (Some refusal) f = inl (ap (λ (step : Step). step.0) (exec_txn-refused s member t refusal f))

-- and what it did where it was answered
pub answered_did : (s : State) (member : ℕ) (t : TxnAsk) (reply : Reply) → (exec s member (request.Txn t)).1 ≡ answer.Done reply → RanTxn s member t
unfolding exec
answered_did s member t reply e = by_refusal (first_refusal (Txn t)) refl
  where
    by_ran : (ran : Ran) → run_txn s t [] ≡ ran → (exec_op s member (Txn t) ≡ settled s member ran) → RanTxn s member t
    by_ran (Ok ran) r f =
        let (bodies, all, is) = txn_ran s t [] ran.0 ran.1 r in
        record { made = ran.0; bodies = bodies; ran = all; after = ap (λ (step : Step). step.0.history) f }
    by_ran (Err refusal) r f = absurd (let g : answer.Refused refusal ≡ answer.Done reply = ap (λ (step : Step). step.1) (sym f) ∙ e in cc)

    by_refusal : (found : Option Refusal) → first_refusal (Txn t) ≡ found → RanTxn s member t
    by_refusal None f = by_ran (run_txn s t []) refl (exec_txn-runs s member t f)
    by_refusal (Some refusal) f =
        absurd (let g : answer.Refused refusal ≡ answer.Done reply = ap (λ (step : Step). step.1) (sym (exec_txn-refused s member t refusal f)) ∙ e in cc)

pub branches_are_named : BranchesAreNamed
branches_are_named s member t k n =
    elim (did s member t) [
      | inl e ↦ ap (λ (u : State). record_now u.history k) e
      | inr r ↦
          ap (λ h. record_now h k) r.after
          ∙ lifted_all s (Stands s k) (apart_put k) (apart_delete k) (keep_standing s k) (branch_now s t) [] (apart_all k (branch_now s t) n) refl r.made r.bodies r.ran
    ]

-- What flat operations leave at a key.

put_leaves_lease : (s : State) (ask : PutAsk) (made next : List KeyChange) (b : Body) (m : PutMade s ask made next b) (k : List ℕ) → same ask.key k ≡ true → m.lease ≡ put_under_lease ask (record_now (seen s made) k)
put_leaves_lease s ask made next b m k is = by_ignored ask.ignore_lease refl
  where
    by_ignored : (i : Bool) → ask.ignore_lease ≡ i → m.lease ≡ cond i (lease_of (record_now (seen s made) k)) ask.lease
    by_ignored true e =
        let (kv, found, lease) = m.kept e in
        lease ∙ ap lease_of (sym found) ∙ ap (λ (j : List ℕ). lease_of (record_now (seen s made) j)) (same-equal ask.key k is)
    by_ignored false e = m.named e

put_by : (t : Bool) (a b : Kv) (old : Option Kv) → (t ≡ true → a ≡ b) → cond t (Some a) old ≡ cond t (Some b) old
put_by true a b old f = ap Some (f refl)
put_by false a b old f = refl

left_one : (s : State) (op : Op) (made next : List KeyChange) (b : Body) (k : List ℕ) → is_flat op ≡ true → run s op made ≡ Ok (next, b)
    → record_now (seen s next) k ≡ left_op (length s.history + 2) k op (record_now (seen s made) k)
left_one s (Range ask) made next b k f e =
    ap (λ (cs : List KeyChange). record_now (seen s cs) k) (sym (unchanged_ok made (read (seen s made) (newest (seen s made)) s.compacted ask) next b e).0)
left_one s (Put ask) made next b k f e =
    let m = put_ok s ask made next b e in
    let old = record_now (seen s made) k in
    ap (λ (cs : List KeyChange). record_now (seen s cs) k) m.made_so ∙ seen-record s made (change.Put ask.key ask.value m.lease ∷ []) k
    ∙ put_by (same ask.key k) _ _ old (λ is. ap (λ (lease : ℕ). after_put old k ask.value lease (length s.history + 2)) (put_leaves_lease s ask made next b m k is))
left_one s (Delete ask) made next b k f e =
    let gone = records_now (seen s made) ask.range in
    let old = record_now (seen s made) k in
    ap (λ (cs : List KeyChange). record_now (seen s cs) k) (delete_ok s ask made next b e) ∙ seen-record s made (map deletion gone) k
    ∙ deletions-record (length s.history + 2) k gone old ∙ deleted-record (seen s made) ask.range k
left_one s (Txn' compare m success n failure) made next b k f e = absurd (cc)

pub left_all : (s : State) (ops : List Op) (made next : List KeyChange) (bs : List Body) (k : List ℕ) → list_all is_flat ops ≡ true → run_all s ops made ≡ Ok (next, bs)
    → record_now (seen s next) k ≡ left_by (length s.history + 2) k ops (record_now (seen s made) k)
left_all s [] made next bs k f e =
    ap (λ (cs : List KeyChange). record_now (seen s cs) k) (sym (ap (λ (x : List KeyChange × List Body). x.0) (same_ok (made, []) (next, bs) e)))
left_all s (op ∷ ops) made next bs k f e =
    let (mid, b, others, first, later, is) = first_then_ok (run s op made) (λ x. run_all s ops x) next bs e in
    left_all s ops mid next others k (and_second (is_flat op) _ f) later ∙ ap (left_by (length s.history + 2) k ops) (left_one s op made mid b k (and_first (is_flat op) _ f) first)

pub branches_leave : BranchesLeave
branches_leave s member t reply k f e =
    let r = answered_did s member t reply e in
    let next : length s.history + 2 ≡ newest s.history + 1 = omega arith in
    ap (λ h. record_now h k) r.after ∙ left_all s (branch_now s t) [] r.made r.bodies k f r.ran
    ∙ ap (λ (revision : ℕ). left_by revision k (branch_now s t) (record_now s.history k)) next

-- of a transaction by its lists

names_row-items : {m : _} (k : List ℕ) (ops : Row_of-Op m) → names_row k ops ≡ list_any (names k) (items-the_row-Op m ops)
names_row-items k end_of-Op = refl
names_row-items k (more_of-Op op rest) = λ i. names k op || names_row-items k rest i

names_row-hidden : (k : List ℕ) (ops : List Op) → names_row k (hidden-the_row-Op-0 ops) ≡ list_any (names k) ops
names_row-hidden k ops = names_row-items k (hidden-the_row-Op-0 ops) ∙ ap (list_any (names k)) (items_hidden-the_row-Op-0 ops)

pub names_is_txn : (k : List ℕ) (t : TxnAsk) → names k (Txn t) ≡ list_any (names k) t.success || list_any (names k) t.failure
names_is_txn k t = λ i. names_row-hidden k t.success i || names_row-hidden k t.failure i
