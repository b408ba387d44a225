-- What is sent, read off what stands: a rescind, a revoke call, a write's own call.
use Rattle.std.specs.Prelude.{ℕ, if◌then◌else◌, List, [], ◌∷◌, Option, None, Some}
use Rattle.std.specs.List.{flat_map}
use Rattle.etcd_types.specs.declared.key_range.KeyRange.{KeyRange}
use Rattle.etcd_types.specs.declared.request.Request.TheVariants as request
use Rattle.proxy_model.specs.declared.lease.Entry.{Entry}
use Rattle.proxy_model.specs.declared.ownership.Owned.{Owned}
use Rattle.proxy_model.specs.Foreign.{ask_revoke}
use Rattle.proxy_model.specs.Keyed.{Keyed, at}
use Rattle.proxy_model.specs.LeaseTable.{is_writing_phase}
use Rattle.proxy_model.specs.Leaving.{rescind}
use Rattle.wait_model.specs.declared.due.Due.{Due}
use Rattle.wait_model.specs.declared.due.DueCall.{DueCall}
use Rattle.wait_model.specs.declared.due.DueKind.TheVariants as kind
use Rattle.wait_model.specs.declared.write.Write.{Write}
use Rattle.wait_model.specs.Sent.{write_txn, kind_of}

abbrev pub rescind_due : List ℕ → List ℕ → ℕ → Due
rescind_due prefix k create = record { kind = kind.Rescind; ticket = 0; request = request.Txn (rescind prefix k create) }

abbrev pub revoke_due : List ℕ → ℕ → DueCall → Due
revoke_due prefix ticket d = record { kind = kind.AskRevoke; ticket = ticket; request = request.Txn (ask_revoke prefix d.key d.create) }

abbrev pub write_due : List ℕ → Keyed Entry → Write → Due
write_due prefix es w = record { kind = kind_of w; ticket = w.ticket; request = request.Txn (write_txn prefix es w) }

-- The entries that an owner's write compares: those of its keys that are being written.

abbrev pub owned_if : List ℕ → Option Entry → List Owned
owned_if k None = []
owned_if k (Some e) = if is_writing_phase e.phase then record { key = k; create = e.create } ∷ [] else []

abbrev pub owned_at : Keyed Entry → KeyRange → List Owned
owned_at es r = owned_if r.key (at es r.key)

abbrev pub owned_over : Keyed Entry → List KeyRange → List Owned
owned_over es rs = flat_map (owned_at es) rs
