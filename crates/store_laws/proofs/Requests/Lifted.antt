-- What each put and each deletion keeps of the changes made so far, every operation keeps, however its transactions nest.
use Rattle.std.proofs.Common.{◌≡◌, Bool, true, false, cond, List, [], ◌∷◌, Ok, ap, subst}
use Rattle.std.specs.List.{list_all}
use Rattle.etcd_types.specs.declared.operation.PutAsk.{PutAsk}
use Rattle.etcd_types.specs.declared.operation.DeleteAsk.{DeleteAsk}
use Rattle.etcd_types.specs.declared.operation.Op.{Op, Row_of-Op, end_of-Op, more_of-Op}
use Rattle.etcd_types.specs.declared.operation.Op.TheVariants.{Range, Put, Delete, Txn'}
use Rattle.etcd_types.specs.declared.answer.Body.{Body}
use Rattle.etcd_types.proofs.Bools.{and_first, and_second}
use Rattle.store_model.specs.declared.history.KeyChange.{KeyChange}
use Rattle.store_model.specs.History.{newest}
use Rattle.store_model.specs.Reads.{read}
use Rattle.store_model.specs.State.{State}
use Rattle.store_model.specs.Compares.{all_hold}
use Rattle.store_model.specs.Leaves.{all_leaves, all_leaves_row}
use Rattle.store_model.specs.Transactions.{Ran, RanAll, seen, run, run_row, run_all, run_put, run_delete}
use Rattle.store_model.proofs.RunLemmas.{same_ok, unchanged_ok, branch_ok, first_then_ok}

-- where an operation ran, what it made has the property
abbrev pub Holds : (List KeyChange → Type 0) → Ran → Type 0
Holds P ran = (next : List KeyChange) (b : Body) → ran ≡ Ok (next, b) → P next

abbrev pub HoldsAll : (List KeyChange → Type 0) → RanAll → Type 0
HoldsAll P ran = (next : List KeyChange) (bs : List Body) → ran ≡ Ok (next, bs) → P next

-- the puts and the deletions that pass these tests keep it
pub record Keeps (s : State) (P : List KeyChange → Type 0) (p : PutAsk → Bool) (d : DeleteAsk → Bool) : Type 0 where
  pub put : (ask : PutAsk) (made : List KeyChange) → p ask ≡ true → P made → Holds P (run_put s ask made)
  pub delete : (ask : DeleteAsk) (made : List KeyChange) → d ask ≡ true → P made → Holds P (run_delete s ask made)

either_all : (P : List KeyChange → Type 0) (t : Bool) (success failure : RanAll) → HoldsAll P success → HoldsAll P failure → HoldsAll P (cond t success failure)
either_all P true success failure f g = f
either_all P false success failure f g = g

mutual
  pub lifted : (s : State) (P : List KeyChange → Type 0) (p : PutAsk → Bool) (d : DeleteAsk → Bool) → Keeps s P p d
      → (op : Op) (made : List KeyChange) → all_leaves p d op ≡ true → P made → Holds P (run s op made)
  lifted s P p d k (Range ask) made a h = λ next b e. subst P (unchanged_ok made (read (seen s made) (newest (seen s made)) s.compacted ask) next b e).0 h
  lifted s P p d k (Put ask) made a h = k.put ask made a h
  lifted s P p d k (Delete ask) made a h = k.delete ask made a h
  lifted s P p d k (Txn' compare m success n failure) made a h = λ next b e.
      let (bs, all, is) = branch_ok (all_hold (seen s made) compare) (run_row s success made) (run_row s failure made) next b e in
      either_all P (all_hold (seen s made) compare) (run_row s success made) (run_row s failure made)
      (lifted_row s P p d k success made (and_first (all_leaves_row p d success) _ a) h)
      (lifted_row s P p d k failure made (and_second (all_leaves_row p d success) _ a) h)
      next bs all

  pub lifted_row : {m : _} (s : State) (P : List KeyChange → Type 0) (p : PutAsk → Bool) (d : DeleteAsk → Bool) → Keeps s P p d
      → (ops : Row_of-Op m) (made : List KeyChange) → all_leaves_row p d ops ≡ true → P made → HoldsAll P (run_row s ops made)
  lifted_row s P p d k end_of-Op made a h = λ next bs e. subst P (ap (λ (x : List KeyChange × List Body). x.0) (same_ok (made, []) (next, bs) e)) h
  lifted_row s P p d k (more_of-Op op rest) made a h = λ next bs e.
      let (mid, b, others, first, later, is) = first_then_ok (run s op made) (λ x. run_row s rest x) next bs e in
      lifted_row s P p d k rest mid (and_second (all_leaves p d op) _ a) (lifted s P p d k op made (and_first (all_leaves p d op) _ a) h mid b first) next others later

-- of a list of operations
pub lifted_all : (s : State) (P : List KeyChange → Type 0) (p : PutAsk → Bool) (d : DeleteAsk → Bool) → Keeps s P p d
    → (ops : List Op) (made : List KeyChange) → list_all (all_leaves p d) ops ≡ true → P made → HoldsAll P (run_all s ops made)
lifted_all s P p d k [] made a h = λ next bs e. subst P (ap (λ (x : List KeyChange × List Body). x.0) (same_ok (made, []) (next, bs) e)) h
lifted_all s P p d k (op ∷ ops) made a h = λ next bs e.
    let (mid, b, others, first, later, is) = first_then_ok (run s op made) (λ x. run_all s ops x) next bs e in
    lifted_all s P p d k ops mid (and_second (all_leaves p d op) _ a) (lifted s P p d k op made (and_first (all_leaves p d op) _ a) h mid b first) next others later
