-- How many changes the operations of one request make: each puts one key, or deletes keys that were put.
use Rattle.std.specs.Prelude.{◌≡◌, ◌≤◌, ◌+◌, ◌*◌, ◌^◌, ℕ, List, [], ◌∷◌, ◌++◌, length, None, Some}
use Rattle.etcd_types.specs.declared.key_range.KeyRange.{KeyRange}
use Rattle.etcd_types.specs.declared.operation.Op.{Op, Row_of-Op, end_of-Op, more_of-Op}
use Rattle.etcd_types.specs.declared.operation.Op.TheVariants as op
use Rattle.etcd_types.specs.declared.request.Request.{Request}
use Rattle.store_model.specs.declared.history.KeyChange.{KeyChange}
use Rattle.store_model.specs.declared.history.KeyChange.TheVariants.{Put, Delete}
use Rattle.store_model.specs.FirstRefusals.{first_refusal}
use Rattle.store_model.specs.History.{History}
use Rattle.store_model.specs.Ranges.{records_now}
use Rattle.store_model.specs.State.{State}
use Rattle.store_model.specs.Step.{exec}
use Rattle.store_laws.proofs.Requests.StepCases.{op_of}
use Rattle.text_laws.specs.Stores.Stores.{changes}

-- the keys that were put, each as often as it was
abbrev pub put_keys : List KeyChange → List (List ℕ)
put_keys [] = []
put_keys (Put key value lease ∷ cs) = key ∷ put_keys cs
put_keys (Delete key ∷ cs) = put_keys cs

abbrev pub keys_put : History → List (List ℕ)
keys_put [] = []
keys_put (cs ∷ h) = put_keys cs ++ keys_put h

abbrev pub puts : History → ℕ
puts h = length (keys_put h)

-- how many puts and deletions an operation has, those of both branches of a transaction
abbrev mutual
  pub weight : Op → ℕ
  weight (op.Range ask) = 0
  weight (op.Put ask) = 1
  weight (op.Delete ask) = 1
  weight (op.Txn' compare m success n failure) = weights success + weights failure

  pub weights : {m : _} → Row_of-Op m → ℕ
  weights end_of-Op = 0
  weights (more_of-Op one rest) = weight one + weights rest

-- a range has no more records than were put
abbrev pub RecordsWerePut : Type 0
RecordsWerePut = (h : History) (range : KeyRange) → length (records_now h range) ≤ puts h

-- by a step of a store the puts grow by the operations that it runs, and the changes by as many as these times what was put
pub record GrewBy (w : ℕ) (s t : State) : Type 0 where
  pub puts : puts t.history ≤ puts s.history + w
  pub changes : changes t.history ≤ changes s.history + (w + 1) * 2 ^ 30

abbrev pub StepsGrowLittle : Type 0
StepsGrowLittle =
    (w : ℕ) (s : State) (member : ℕ) (q : Request) → ((o : Op) → op_of q ≡ Some o → first_refusal o ≡ None → weight o ≤ w) → puts s.history + w ≤ 2 ^ 30 → GrewBy w s (exec s member q).0
