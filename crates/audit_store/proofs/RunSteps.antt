-- Operations that run one behind another: one more, and the last.
use Rattle.std.proofs.Common.{◌≡◌, ℕ, ◌<◌, ◌≤◌, ◌+◌, List, [], ◌∷◌, ◌++◌, append_assoc, append-nil, length, drop, get_or, Result, Ok, Err, refl, sym, ◌∙◌, ap, subst}
use Rattle.std.proofs.lemmas.List.{at_drop_more, drop_all}
use Rattle.etcd_types.specs.declared.answer.Body.{Body}
use Rattle.etcd_types.specs.declared.answer.Refusal.{Refusal}
use Rattle.etcd_types.specs.declared.operation.Op.{Op}
use Rattle.store_model.specs.declared.history.KeyChange.{KeyChange}
use Rattle.store_model.specs.State.{State}
use Rattle.store_model.specs.Transactions.{Ran, RanAll, first_then, run, run_all, with_body}
use Rattle.audit_store.specs.Running.{Runs, with_bodies}

grouped : (bodies : List Body) (body : Body) (r : RanAll) → with_bodies (bodies ++ body ∷ []) r ≡ with_bodies bodies (with_body body r)
grouped bodies body (Ok ran) = ap (λ (bs : List Body). Ok (ran.0, bs)) (append_assoc bodies (body ∷ []) ran.1)
grouped bodies body (Err refusal) = refl

pub ran_on : (s : State) (ops : List Op) (place : ℕ) (op : Op) (made next : List KeyChange) (bodies more : List Body) (body : Body) (told : Result Body Refusal) (whole : RanAll) → place < length ops → op ≡ get_or ops place op
    → told ≡ Ok body → Runs told next (run s op made) → more ≡ bodies ++ body ∷ [] → with_bodies bodies (run_all s (drop place ops) made) ≡ whole → with_bodies more (run_all s (drop (place + 1) ops) next) ≡ whole
ran_on s ops place op made next bodies more body told whole l is ok ran grown before =
    ap (λ (bs : List Body). with_bodies bs (run_all s rest next)) grown
    ∙ grouped bodies body (run_all s rest next)
    ∙ ap (with_bodies bodies) (sym (ap (λ (os : List Op). run_all s os made) here ∙ ap (λ (r : Ran). first_then r (λ m. run_all s rest m)) one))
    ∙ before
  where
    rest : List Op
    rest = drop (place + 1) ops

    here : drop place ops ≡ op ∷ rest
    here = at_drop_more (λ (os : List Op). os) ops place op l ∙ ap (λ (o : Op). o ∷ rest) (sym is)

    one : run s op made ≡ Ok (next, body)
    one = subst (λ (r : Result Body Refusal). Runs r next (run s op made)) ok ran

pub ran_all : (s : State) (ops : List Op) (place : ℕ) (made : List KeyChange) (bodies : List Body) (whole : RanAll) → length ops ≤ place → with_bodies bodies (run_all s (drop place ops) made) ≡ whole → whole ≡ Ok (made, bodies)
ran_all s ops place made bodies whole l before =
    sym before ∙ ap (λ (os : List Op). with_bodies bodies (run_all s os made)) (drop_all place ops l) ∙ ap (λ (bs : List Body). Ok (made, bs)) (append-nil bodies)
