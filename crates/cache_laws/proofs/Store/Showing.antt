-- The view shows the store that a step leaves.
use Rattle.std.proofs.Common.{◌≡◌, ℕ, ◌+◌, ◌-◌, ◌≤◌, ◌==◌, Bool, true, false, cond, not, List, [], ◌∷◌, ◌++◌, length, Option, None, Some, Ok, Err, refl, sym, ◌∙◌, ap, subst, arith}
use Rattle.std.proofs.lemmas.List.{length-append, take-append-le, take_all}
use Rattle.etcd_types.specs.declared.operation.TxnAsk.{TxnAsk}
use Rattle.etcd_types.specs.declared.operation.Op.{Op}
use Rattle.etcd_types.specs.declared.operation.Op.TheVariants as op
use Rattle.etcd_types.specs.declared.answer.Refusal.{Refusal}
use Rattle.etcd_types.specs.Keys.{is_empty}
use Rattle.etcd_types.specs.Ranges.{contains}
use Rattle.store_model.specs.declared.history.KeyChange.{KeyChange}
use Rattle.store_model.specs.FirstRefusals.{first_refusal}
use Rattle.store_model.specs.History.{History, newest, with_revision, up_to_revision}
use Rattle.store_model.specs.Records.{record_now}
use Rattle.store_model.specs.State.{State}
use Rattle.store_model.specs.Step.{exec, exec_op, settled, unless}
use Rattle.store_model.specs.Transactions.{Ran, run, has_lease}
use Rattle.store_laws.specs.Requests.Requests.{GainsOneRevision}
use Rattle.proxy_model.specs.Prefixes.{leasing_range}
use Rattle.cache_laws.specs.Moves.View.{nobody, Outcome, View, put}
use Rattle.cache_laws.specs.Moves.StoreMoves.{executed, Ran as MoveRan, CallRan}
use Rattle.cache_laws.proofs.Moves.StoreProofs.{calls_keep}
use Rattle.cache_laws.proofs.Moves.Numbers.{same_number, other_number}
use Rattle.cache_laws.specs.Store.StoreView.{is_client, owner_in, owner_at, kv_at, Shows, Stands, IsOrderly}
use Rattle.cache_laws.specs.Store.CallSteps.{IsOut}
use Rattle.etcd_types.proofs.Bools.{and_first, and_second, not_true}
use Rattle.store_laws.specs.Requests.Branches.{after_txn}

pub named : (p k : List ℕ) → is_client p k ≡ true → is_empty k ≡ false
named p k e = not_true (is_empty k) (and_first (not (is_empty k)) _ e)

pub outside : (p k : List ℕ) → is_client p k ≡ true → contains (leasing_range p) k ≡ false
outside p k e = not_true (contains (leasing_range p) k) (and_second (not (is_empty k)) _ e)

-- revisions rise, by one at most
rises : (h : History) (made : List KeyChange) → (newest h ≤ newest (with_revision h made)) × (newest (with_revision h made) ≤ newest h + 1)
rises h [] = (omega arith, omega arith)
rises h (c ∷ cs) = let e = length-append h ((c ∷ cs) ∷ []) in let l : length ((c ∷ cs) ∷ []) ≡ 1 = refl in (omega arith, omega arith)

pub gained : (s t : State) → GainsOneRevision s t → (newest s.history ≤ newest t.history) × (newest t.history ≤ newest s.history + 1)
gained s t g = subst (λ (h : History). (newest s.history ≤ newest h) × (newest h ≤ newest s.history + 1)) (sym g.1) (rises s.history g.0)

-- and leave what was
earlier : (h : History) (made : List KeyChange) (r : ℕ) → r ≤ newest h → up_to_revision (with_revision h made) r ≡ up_to_revision h r
earlier h [] r l = refl
earlier h (c ∷ cs) r l = take-append-le (r - 1) h ((c ∷ cs) ∷ []) (omega arith)

whole : (h : History) → up_to_revision h (newest h) ≡ h
whole h = take_all (newest h - 1) h (omega arith)

-- what stands at a key, where its records stand
pub chosen : {A : Type 0} (t : Bool) (x y z : A) → (t ≡ true → x ≡ y) → cond t x z ≡ cond t y z
chosen true x y z f = f refl
chosen false x y z f = refl

pub chosen_else : {A : Type 0} (t : Bool) (x y z : A) → (t ≡ false → x ≡ y) → cond t z x ≡ cond t z y
chosen_else true x y z f = refl
chosen_else false x y z f = f refl

pub at_true : {A : Type 0} (t : Bool) (x z : A) → t ≡ true → cond t x z ≡ x
at_true true x z e = refl
at_true false x z e = absurd (cc)

pub at_false : {A : Type 0} (t : Bool) (x z : A) → t ≡ false → cond t z x ≡ x
at_false true x z e = absurd (cc)
at_false false x z e = refl

pub owner_stays : (h j : History) (p k : List ℕ) → (is_empty k ≡ false → record_now j (p ++ k) ≡ record_now h (p ++ k)) → owner_at j p k ≡ owner_at h p k
owner_stays h j p k f = chosen_else (is_empty k) _ _ nobody (λ e. ap owner_in (f e))

pub kv_stays : (h j : History) (p k : List ℕ) → (is_client p k ≡ true → record_now j k ≡ record_now h k) → kv_at j p k ≡ kv_at h p k
kv_stays h j p k f = chosen (is_client p k) _ _ None f

-- the store that a step leaves
pub next_shows : (p : List ℕ) (s t : State) (v w : View) → Shows p s v → GainsOneRevision s t → w.rev ≡ newest t.history → ((k : List ℕ) → w.owners k ≡ owner_at t.history p k) → ((k : List ℕ) → w.kvs k ≡ kv_at t.history p k)
    → ((r : ℕ) (k : List ℕ) → w.told r k ≡ put v.told (newest t.history) (owner_at t.history p) r k) → ((n : ℕ) → w.leases n ≡ has_lease t.leases n) → Shows p t w
next_shows p s t v w shows gains rev owners kvs told leases =
    record { rev = rev; owners = owners; kvs = kvs; told = λ r k l. told r k ∙ by_test r k l (r == newest t.history) refl; leases = leases }
  where
    by_test : (r : ℕ) (k : List ℕ) → r ≤ newest t.history → (b : Bool) → (r == newest t.history) ≡ b → cond b (owner_at t.history p) (v.told r) k ≡ owner_at (up_to_revision t.history r) p k
    by_test r k l true e = ap (λ (h : History). owner_at h p k) (sym (ap (up_to_revision t.history) (same_number r (newest t.history) e) ∙ whole t.history))
    by_test r k l false e =
        let n = other_number r (newest t.history) e in
        let g = gained s t gains in
        let g0 = g.0 in
        let g1 = g.1 in
        let before : r ≤ newest s.history = grind arith in
        shows.told r k before ∙ ap (λ (h : History). owner_at h p k) (sym (ap (λ (h : History). up_to_revision h r) gains.1 ∙ earlier s.history gains.0 r before))

-- a step that leaves the leases
pub op_leases : (s : State) (member : ℕ) (o : Op) → (exec_op s member o).0.leases ≡ s.leases
op_leases s member o = by_refusal (first_refusal o)
  where
    by_ran : (ran : Ran) → (settled s member ran).0.leases ≡ s.leases
    by_ran (Ok ran) = refl
    by_ran (Err refusal) = refl

    by_refusal : (found : Option Refusal) → (unless s found (settled s member (run s o []))).0.leases ≡ s.leases
    by_refusal None = by_ran (run s o [])
    by_refusal (Some refusal) = refl

pub txn_leases : (s : State) (member : ℕ) (t : TxnAsk) → (after_txn s member t).leases ≡ s.leases
unfolding exec
txn_leases s member t = op_leases s member (op.Txn t)

pub ran_of : {p : List ℕ} {v : View} {i : ℕ} (s t : State) (o : Outcome) → Shows p s v → GainsOneRevision s t → IsOut v i → o.done ≡ true → MoveRan v i o (newest t.history)
ran_of s t o shows gains out done =
    let e = shows.rev in
    let g = gained s t gains in
    let g0 = g.0 in
    let g1 = g.1 in
    record { sent = out.sent; fresh = out.fresh; done = done; past = omega arith; next = omega arith }

-- a call that is no acquire
pub call_stands : (holder : ℕ → ℕ) (p : List ℕ) (s t : State) (v : View) (i : ℕ) (o : Outcome) → Stands holder p s v → IsOrderly p t → GainsOneRevision s t → t.leases ≡ s.leases
    → ((k : List ℕ) → o.owners k ≡ owner_at t.history p k) → ((k : List ℕ) → o.kvs k ≡ kv_at t.history p k) → CallRan v i o (newest t.history) → Stands holder p t (executed v i o (newest t.history))
call_stands holder p s t v i o stands orderly gains leases owners kvs ran =
    record {
      shows = next_shows p s t v (executed v i o (newest t.history)) stands.shows gains refl owners kvs (λ r k. chosen_at r k (r == newest t.history)) (λ n. stands.shows.leases n ∙ ap (λ ls. has_lease ls n) (sym leases));
      inv = calls_keep holder v i o (newest t.history) ran stands.inv;
      orderly = orderly;
    }
  where
    chosen_at : (r : ℕ) (k : List ℕ) (b : Bool) → cond b o.owners (v.told r) k ≡ cond b (owner_at t.history p) (v.told r) k
    chosen_at r k true = owners k
    chosen_at r k false = refl
