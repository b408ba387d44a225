-- Which keys a history has: what every put's key has in common, every key of the history has in common.
use Rattle.std.specs.Prelude.{◌≡◌, ℕ, Bool, true, not, List, Ok}
use Rattle.std.specs.List.{list_all}
use Rattle.etcd_types.specs.declared.operation.PutAsk.{PutAsk}
use Rattle.etcd_types.specs.declared.operation.DeleteAsk.{DeleteAsk}
use Rattle.etcd_types.specs.declared.operation.Op.TheVariants as op
use Rattle.etcd_types.specs.declared.request.Request.{Request}
use Rattle.etcd_types.specs.declared.request.Request.TheVariants as request
use Rattle.etcd_types.specs.Keys.{is_empty}
use Rattle.store_model.specs.declared.history.KeyChange.{KeyChange}
use Rattle.store_model.specs.History.{changed_key}
use Rattle.store_model.specs.State.{State}
use Rattle.store_model.specs.Leaves.{all_leaves}
use Rattle.store_model.specs.Leases.{expired}
use Rattle.store_model.specs.Step.{exec}

-- the keys of changes pass a test
abbrev pub keys_pass : (List ℕ → Bool) → List KeyChange → Bool
keys_pass test cs = list_all (λ c. test (changed_key c)) cs

abbrev pub is_named : List ℕ → Bool
is_named k = not (is_empty k)

abbrev pub has_key : KeyChange → Bool
has_key c = is_named (changed_key c)

-- no key is empty
abbrev pub have_keys : List KeyChange → Bool
have_keys cs = keys_pass is_named cs

abbrev pub puts_pass : (List ℕ → Bool) → PutAsk → Bool
puts_pass test ask = test ask.key

abbrev pub any_delete : DeleteAsk → Bool
any_delete ask = true

-- the keys that a request puts pass it, in both lists of a transaction
abbrev pub request_passes : (List ℕ → Bool) → Request → Bool
request_passes test (request.Put ask) = test ask.key
request_passes test (request.Txn t) = all_leaves (puts_pass test) any_delete (op.Txn t)
request_passes test _ = true

-- whatever the test, where all keys that are put pass it, so do all keys of the history
abbrev pub KeysStayTested : Type 0
KeysStayTested =
    (test : List ℕ → Bool) (s : State) (member : ℕ) (q : Request) → list_all (keys_pass test) s.history ≡ true → request_passes test q ≡ true
    → list_all (keys_pass test) (exec s member q).0.history ≡ true

-- a lease that ends deletes keys that were put
abbrev pub ExpiriesKeepTested : Type 0
ExpiriesKeepTested =
    (test : List ℕ → Bool) (s t : State) (lease : ℕ) → expired s lease ≡ Ok t → list_all (keys_pass test) s.history ≡ true
    → list_all (keys_pass test) t.history ≡ true
