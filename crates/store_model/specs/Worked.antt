-- Small histories and requests, of which the worked steps speak: keys a, b and c, values x and y.
use Rattle.std.specs.Prelude.{◌≡◌, ℕ, true, false, List, [], ◌∷◌, None, Some}
use Rattle.etcd_types.specs.declared.record.Kv.{Kv}
use Rattle.etcd_types.specs.declared.key_range.KeyRange.{KeyRange}
use Rattle.etcd_types.specs.declared.operation.Sort.{Sort}
use Rattle.etcd_types.specs.declared.operation.RangeAsk.{RangeAsk}
use Rattle.etcd_types.specs.declared.operation.PutAsk.{PutAsk}
use Rattle.etcd_types.specs.declared.operation.DeleteAsk.{DeleteAsk}
use Rattle.etcd_types.specs.declared.operation.Compare.{Compare}
use Rattle.etcd_types.specs.declared.operation.Target.TheVariants as target
use Rattle.etcd_types.specs.declared.operation.Relation.TheVariants as relation
use Rattle.etcd_types.specs.declared.operation.TxnAsk.{TxnAsk}
use Rattle.etcd_types.specs.declared.operation.Op.TheVariants as op
use Rattle.etcd_types.specs.declared.request.Request.TheVariants as request
use Rattle.etcd_types.specs.declared.answer.Answer.TheVariants as answer
use Rattle.etcd_types.specs.declared.answer.Body.{Body}
use Rattle.etcd_types.specs.declared.answer.Body.TheVariants as body
use Rattle.etcd_types.specs.declared.answer.Refusal.{Refusal}
use Rattle.store_model.specs.declared.history.KeyChange.TheVariants.{Put, Delete}
use Rattle.store_model.specs.History.{History}
use Rattle.store_model.specs.State.{State, header}
use Rattle.store_model.specs.Step.{Step, exec}
use Rattle.store_model.specs.Refusals.{future_revision, key_not_provided, lease_not_found}

abbrev pub key_a : List ℕ
key_a = 97 ∷ []

abbrev pub key_b : List ℕ
key_b = 98 ∷ []

abbrev pub value_x : List ℕ
value_x = 120 ∷ []

abbrev pub value_y : List ℕ
value_y = 121 ∷ []

-- the one key, the keys from a on
abbrev pub only : List ℕ → KeyRange
only key = record { key = key; end = [] }

abbrev pub from_a : KeyRange
from_a = record { key = key_a; end = 0 ∷ [] }

abbrev pub unsorted : Sort
unsorted = record { order = 0; target = 0; min_mod = 0; max_mod = 0; min_create = 0; max_create = 0 }

abbrev pub ask : KeyRange → ℕ → RangeAsk
ask range revision =
    record { range = range; revision = revision; limit = 0; serializable = false; keys_only = false; count_only = false; sort = unsorted }

abbrev pub put : List ℕ → List ℕ → ℕ → PutAsk
put key value lease = record { key = key; value = value; lease = lease; prev_kv = true; ignore_lease = false }

abbrev pub delete : KeyRange → DeleteAsk
delete range = record { range = range; prev_kv = true }

abbrev pub has_version : List ℕ → ℕ → Compare
has_version key number =
    record { range = only key; target = target.Version; relation = relation.Equal; number = number; value = [] }

abbrev pub put_if_absent : TxnAsk
put_if_absent =
    record {
      compare = has_version key_b 0 ∷ [];
      success = op.Put (put key_b value_y 0) ∷ op.Range (ask from_a 0) ∷ [];
      failure = op.Delete (delete (only key_b)) ∷ [];
    }

abbrev pub of_history : History → State
of_history history = record { history = history; compacted = 0; leases = []; applied = 1 ∷ 1 ∷ []; watches = [] }

-- a was put
abbrev pub one_put : State
one_put = of_history ((Put key_a value_x 0 ∷ []) ∷ [])

-- a was put, put again, and deleted
abbrev pub one_life : State
one_life = of_history ((Put key_a value_x 0 ∷ []) ∷ (Put key_a value_y 0 ∷ []) ∷ (Delete key_a ∷ []) ∷ [])

-- a and b were put in one revision
abbrev pub two_puts : State
two_puts = of_history ((Put key_b value_y 0 ∷ Put key_a value_x 0 ∷ []) ∷ [])

abbrev pub record_of : List ℕ → List ℕ → ℕ → ℕ → ℕ → Kv
record_of key value create modified version =
    record { key = key; value = value; create = create; modified = modified; version = version; lease = 0 }

abbrev pub told : State → ℕ → Body → Step
told s revision body = (s, answer.Done (record { header = header 1 revision; body = body }))

abbrev pub refuses : State → Refusal → Step
refuses s refusal = (s, answer.Refused refusal)

abbrev pub PutsIntoEmpty : Type 0
PutsIntoEmpty = exec (of_history []) 1 (request.Put (put key_a value_x 0)) ≡ told one_put 2 (body.Put None)

abbrev pub ReadsRecord : Type 0
ReadsRecord = exec one_put 1 (request.Range (ask (only key_a) 0)) ≡ told one_put 2 (body.Range 1 false (record_of key_a value_x 2 2 1 ∷ []))

abbrev pub ReadsAbsent : Type 0
ReadsAbsent = exec one_put 1 (request.Range (ask (only key_b) 0)) ≡ told one_put 2 (body.Range 0 false [])

abbrev pub PutsAgain : Type 0
PutsAgain =
    exec one_put 1 (request.Put (put key_a value_y 0))
    ≡ told (of_history ((Put key_a value_x 0 ∷ []) ∷ (Put key_a value_y 0 ∷ []) ∷ [])) 3 (body.Put (Some (record_of key_a value_x 2 2 1)))

abbrev pub Deletes : Type 0
Deletes =
    exec (of_history ((Put key_a value_x 0 ∷ []) ∷ (Put key_a value_y 0 ∷ []) ∷ [])) 1 (request.Delete (delete from_a))
    ≡ told one_life 4 (body.Delete 1 (record_of key_a value_y 2 3 2 ∷ []))

abbrev pub DeletesNothing : Type 0
DeletesNothing = exec one_put 1 (request.Delete (delete (only key_b))) ≡ told one_put 2 (body.Delete 0 [])

abbrev pub ReadsEarlier : Type 0
ReadsEarlier = exec one_life 1 (request.Range (ask (only key_a) 3)) ≡ told one_life 4 (body.Range 1 false (record_of key_a value_y 2 3 2 ∷ []))

abbrev pub RefusesFuture : Type 0
RefusesFuture = exec one_life 1 (request.Range (ask (only key_a) 5)) ≡ refuses one_life future_revision

abbrev pub ReadsInOrder : Type 0
ReadsInOrder =
    exec two_puts 1 (request.Range (ask from_a 0))
    ≡ told two_puts 2 (body.Range 2 false (record_of key_a value_x 2 2 1 ∷ record_of key_b value_y 2 2 1 ∷ []))

abbrev pub ReadsLimited : Type 0
ReadsLimited =
    exec two_puts 1 (request.Range (record (ask from_a 0) { limit = 1; keys_only = true }))
    ≡ told two_puts 2 (body.Range 2 true (record_of key_a [] 2 2 1 ∷ []))

abbrev pub RefusesEmptyKey : Type 0
RefusesEmptyKey = exec one_put 1 (request.Put (put [] value_x 0)) ≡ refuses one_put key_not_provided

abbrev pub RefusesUnknownLease : Type 0
RefusesUnknownLease = exec one_put 1 (request.Put (put key_a value_x 7)) ≡ refuses one_put lease_not_found

-- member 2 has applied nothing yet
abbrev pub ReadsApplied : Type 0
ReadsApplied =
    exec one_put 2 (request.Range (record (ask (only key_a) 0) { serializable = true }))
    ≡ (one_put, answer.Done (record { header = header 2 1; body = body.Range 0 false [] }))

abbrev pub RunsTransaction : Type 0
RunsTransaction =
    exec one_put 1 (request.Txn put_if_absent)
    ≡ told (of_history ((Put key_a value_x 0 ∷ []) ∷ (Put key_b value_y 0 ∷ []) ∷ [])) 3
    (body.Txn true (body.Put None ∷ body.Range 2 false (record_of key_a value_x 2 2 1 ∷ record_of key_b value_y 3 3 1 ∷ []) ∷ []))
