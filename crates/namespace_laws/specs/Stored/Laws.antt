-- What a store under a namespace does (etcd's documentation of clientv3's package `namespace`): all that the store of the bare
-- keys does. No key of that store is empty, and the request names none.
use Rattle.std.specs.Prelude.{◌≡◌, ℕ, Bool, true, false, List, ◌++◌, Ok}
use Rattle.std.specs.List.{list_all}
use Rattle.etcd_types.specs.declared.operation.Op.TheVariants.{Range, Put, Delete, Txn}
use Rattle.etcd_types.specs.declared.answer.Reply.{Reply}
use Rattle.etcd_types.specs.declared.request.Request.{Request}
use Rattle.etcd_types.specs.declared.request.Request.TheVariants as request
use Rattle.store_model.specs.History.{History}
use Rattle.store_model.specs.Records.{record_now}
use Rattle.store_model.specs.State.{State}
use Rattle.store_model.specs.FirstRefusals.{lacks_key}
use Rattle.store_model.specs.Leases.{expired}
use Rattle.store_model.specs.Step.{exec}
use Rattle.proxy_model.specs.Wrapped.{request_under}
use Rattle.proxy_model.specs.Unwrapped.{reply_without}
use Rattle.store_laws.specs.Lives.TestedKeys.{have_keys}
use Rattle.namespace_laws.specs.Stored.Stored.{stored, stored_after, stored_history, stored_prev, stored_reply, stored_step}

-- some key of a put, a range, a deletion or a compare is empty
abbrev pub request_lacks : Request → Bool
request_lacks (request.Range ask) = lacks_key (Range ask)
request_lacks (request.Put ask) = lacks_key (Put ask)
request_lacks (request.Delete ask) = lacks_key (Delete ask)
request_lacks (request.Txn t) = lacks_key (Txn t)
request_lacks _ = false

-- the request under the namespace, executed by the store under the namespace, does and answers what the request does and is
-- answered by the store of the bare keys
abbrev pub StoredStoresAnswer : Type 0
StoredStoresAnswer =
    (ns : List ℕ) (s : State) (member : ℕ) (q : Request) → list_all have_keys s.history ≡ true → request_lacks q ≡ false
    → exec (stored ns s) member (request_under ns q) ≡ stored_step ns (exec s member q)

-- so does a lease that expires, or isn't there
abbrev pub ExpiriesAreStored : Type 0
ExpiriesAreStored =
    (ns : List ℕ) (s : State) (lease : ℕ) → list_all have_keys s.history ≡ true → expired (stored ns s) lease ≡ stored_after ns (expired s lease)

-- what it answers unwraps, with no foreign key
abbrev pub RepliesUnwrap : Type 0
RepliesUnwrap = (ns : List ℕ) (reply : Reply) → reply_without ns (stored_reply ns reply) ≡ Ok reply

-- the record of a key under the namespace
abbrev pub RecordsAreStored : Type 0
RecordsAreStored = (ns : List ℕ) (h : History) (k : List ℕ) → record_now (stored_history ns h) (ns ++ k) ≡ stored_prev ns (record_now h k)
