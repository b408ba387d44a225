-- Operations and bodies within transactions: what is done along a row is done along the list.
use Rattle.std.proofs.Common.{◌≡◌, ℕ, Bool, List, ◌∷◌, map, refl, ◌∙◌, ap, Ok}
use Rattle.etcd_types.specs.declared.operation.TxnAsk.{TxnAsk}
use Rattle.etcd_types.specs.declared.operation.Op.{Op, Row_of-Op, end_of-Op, more_of-Op, items-the_row-Op}
use Rattle.etcd_types.specs.declared.operation.Op.TheVariants as operation
use Rattle.etcd_types.specs.declared.operation.Op.TheBlock.{hidden-the_row-Op-0, items_hidden-the_row-Op-0}
use Rattle.etcd_types.specs.declared.answer.Body.{Body, Row_of-Body, end_of-Body, more_of-Body, items-the_row-Body}
use Rattle.etcd_types.specs.declared.answer.Body.TheVariants as body
use Rattle.etcd_types.specs.declared.answer.Body.TheBlock.{hidden-the_row-Body-0, items_hidden-the_row-Body-0}
use Rattle.namespace_keys.specs.declared.fault.KeyFault.{KeyFault}
use Rattle.namespace_keys.specs.declared.fault.KeyFault.TheVariants.{ForeignKey, NoMemory}
use Rattle.namespace_keys.specs.Returned.{Fails}
use Rattle.proxy_model.specs.Wrapped.{compare_under, operation_under, row_under, transaction_under}
use Rattle.proxy_model.specs.Unwrapped.{Unwrapped, ◌>>=◌, body_without, row_without, bodies_without}

row_under-items : {m : _} (p : List ℕ) (row : Row_of-Op m) → row_under p row ≡ map (operation_under p) (items-the_row-Op m row)
row_under-items p end_of-Op = refl
row_under-items p (more_of-Op one rest) = λ i. operation_under p one ∷ row_under-items p rest i

row_under-hidden : (p : List ℕ) (ops : List Op) → row_under p (hidden-the_row-Op-0 ops) ≡ map (operation_under p) ops
row_under-hidden p ops =
    row_under-items p (hidden-the_row-Op-0 ops) ∙ ap (λ (l : List Op). map (operation_under p) l) (items_hidden-the_row-Op-0 ops)

pub operation_under-Txn : (p : List ℕ) (ask : TxnAsk) → operation_under p (operation.Txn ask) ≡ operation.Txn (transaction_under p ask)
operation_under-Txn p ask =
    λ i. operation.Txn (record { compare = map (compare_under p) ask.compare; success = row_under-hidden p ask.success i; failure = row_under-hidden p ask.failure i })

pub ruleset nested_operations = (operation_under-Txn)

row_without-items : {m : _} (p : List ℕ) (row : Row_of-Body m) → row_without p row ≡ bodies_without p (items-the_row-Body m row)
row_without-items p end_of-Body = refl
row_without-items p (more_of-Body one rest) = λ i. body_without p one >>= λ x. row_without-items p rest i >>= λ xs. Ok (x ∷ xs)

row_without-hidden : (p : List ℕ) (all : List Body) → row_without p (hidden-the_row-Body-0 all) ≡ bodies_without p all
row_without-hidden p all =
    row_without-items p (hidden-the_row-Body-0 all) ∙ ap (λ (l : List Body). bodies_without p l) (items_hidden-the_row-Body-0 all)

body_without-Txn : (p : List ℕ) (succeeded : Bool) (all : List Body) → body_without p (body.Txn succeeded all) ≡ (bodies_without p all >>= λ xs. Ok (body.Txn succeeded xs))
body_without-Txn p succeeded all = λ i. row_without-hidden p all i >>= λ xs. Ok (body.Txn succeeded xs)

pub transaction_unwraps : (p : List ℕ) (succeeded : Bool) (all xs : List Body) (b : Body) → b ≡ body.Txn succeeded all → bodies_without p all ≡ Ok xs
    → body_without p b ≡ Ok (body.Txn succeeded xs)
transaction_unwraps p succeeded all xs b is h =
    ap (body_without p) is ∙ body_without-Txn p succeeded all ∙ ap (λ (r : Unwrapped (List Body)). r >>= λ xs. Ok (body.Txn succeeded xs)) h

pub transaction_fails : (p : List ℕ) (succeeded : Bool) (all : List Body) (b : Body) (fault : KeyFault) → b ≡ body.Txn succeeded all → Fails fault (bodies_without p all)
    → Fails fault (body_without p b)
transaction_fails p succeeded all b (ForeignKey k) is h =
    ap (body_without p) is ∙ body_without-Txn p succeeded all ∙ ap (λ (r : Unwrapped (List Body)). r >>= λ xs. Ok (body.Txn succeeded xs)) h
transaction_fails p succeeded all b NoMemory is h = tt
