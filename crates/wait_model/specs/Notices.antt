-- Notices on the leasing stream: a put of the revoking word asks this proxy to give a key up; a deletion of an ownership key
-- frees the writes that found it, and takes an older entry.
use Rattle.std.specs.Prelude.{ℕ, ◌==◌, nat_lt, if◌then◌else◌, List, [], ◌∷◌, length, drop, Option, None, Some, is_some}
use Rattle.etcd_types.specs.declared.watch.Event.{Event}
use Rattle.etcd_types.specs.declared.watch.Change.{Change}
use Rattle.etcd_types.specs.declared.watch.Change.TheVariants as change
use Rattle.etcd_types.specs.Keys.{same}
use Rattle.proxy_model.specs.declared.lease.Entry.{Entry}
use Rattle.proxy_model.specs.declared.lease.Phase.{Phase}
use Rattle.proxy_model.specs.declared.lease.Phase.TheVariants.{Held, Writing, Leaving}
use Rattle.proxy_model.specs.Foreign.{revoke_word}
use Rattle.proxy_model.specs.Keyed.{at, with_at}
use Rattle.proxy_model.specs.LeaseTable.{marked, given_up}
use Rattle.wait_model.specs.State.{Ownership}
use Rattle.wait_model.specs.Asked.{acquire_spoiled}
use Rattle.wait_model.specs.ForeignOwnership.{found_gone}
use Rattle.wait_model.specs.Phases.{is_session, own_entry}

-- The revoking word, in an ownership key of this create revision and lease: an acquire of the key is spoiled; else an entry of
-- this create revision is given up; else, where there is none and the lease is the live session, it becomes one that leaves.

abbrev pub revoked_turn : Option ℕ → ℕ → ℕ → Option Entry → Option Entry
revoked_turn session create lease None = if is_session session lease then Some (own_entry create) else None
revoked_turn session create lease (Some e) = if e.create == create then Some (given_up e) else Some e

abbrev pub put_noticed : Option ℕ → List ℕ → ℕ → ℕ → Ownership → Ownership
put_noticed session k create lease own =
    if is_some (at own.waits.spoiled k) then acquire_spoiled k own
    else record own { entries = with_at own.entries k (revoked_turn session create lease (at own.entries k)) }

-- A deletion at this revision: it takes a held entry that was created before, and marks one that is being written.

abbrev pub deleted_phase : Entry → Phase → Option Entry
deleted_phase e Held = None
deleted_phase e (Writing revoked) = Some (marked e)
deleted_phase e (Leaving sent) = Some e

abbrev pub deleted_turn : ℕ → Option Entry → Option Entry
deleted_turn revision None = None
deleted_turn revision (Some e) = if nat_lt e.create revision then deleted_phase e e.phase else Some e

abbrev pub delete_noticed : List ℕ → ℕ → Ownership → Ownership
delete_noticed k revision own =
    found_gone (same k) (record own { entries = with_at own.entries k (deleted_turn revision (at own.entries k)) })

-- A whole message: the events of ownership keys, in order. A put of anything else does nothing.

abbrev pub owned_key : List ℕ → List ℕ → List ℕ
owned_key prefix k = drop (length prefix) k

abbrev pub noticed : Option ℕ → Change → Ownership → Ownership
noticed session (change.Put kv) own =
    if same kv.value revoke_word then put_noticed session (owned_key own.waits.prefix kv.key) kv.create kv.lease own else own
noticed session (change.Delete k revision) own = delete_noticed (owned_key own.waits.prefix k) revision own

abbrev pub all_noticed : Option ℕ → List Event → Ownership → Ownership
all_noticed session [] own = own
all_noticed session (e ∷ es) own = all_noticed session es (noticed session e.change own)
