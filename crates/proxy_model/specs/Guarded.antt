-- A write behind the ownership keys of all that it writes: it is done where each of these is as the proxy knows it, and else
-- shows the ones that are there. An owner write, a guest write, and a write of several keys are of this form.
use Rattle.std.specs.Prelude.{ℕ, Bool, true, false, List, [], ◌∷◌, map, if◌then◌else◌, Option}
use Rattle.std.specs.List.{flat_map}
use Rattle.etcd_types.specs.declared.key_range.KeyRange.{KeyRange}
use Rattle.etcd_types.specs.declared.operation.Op.{Op}
use Rattle.etcd_types.specs.declared.operation.Op.TheVariants as op
use Rattle.etcd_types.specs.declared.operation.TxnAsk.{TxnAsk}
use Rattle.etcd_types.specs.declared.operation.Compare.{Compare}
use Rattle.etcd_types.specs.declared.request.Request.{Request}
use Rattle.etcd_types.specs.declared.request.Request.TheVariants as request
use Rattle.etcd_types.specs.declared.record.Header.{Header}
use Rattle.etcd_types.specs.declared.answer.Body.{Body}
use Rattle.etcd_types.specs.declared.answer.Reply.{Reply}
use Rattle.etcd_types.specs.Keys.{same}
use Rattle.etcd_types.specs.Ranges.{is_one}
use Rattle.proxy_model.specs.declared.ownership.Owner.{Owner}
use Rattle.proxy_model.specs.declared.ownership.Owned.{Owned}
use Rattle.proxy_model.specs.declared.ownership.Written.{Written}
use Rattle.proxy_model.specs.declared.ownership.Written.TheVariants.{Wrote, Blocked}
use Rattle.proxy_model.specs.Prefixes.{under}
use Rattle.proxy_model.specs.Asks.{read_op, created_at}
use Rattle.proxy_model.specs.Fits.{branch_of, fits_txn}
use Rattle.proxy_model.specs.Foreign.{owner_of}
use Rattle.proxy_model.specs.Readings.{records_of, first_body, reading}
use Rattle.proxy_model.specs.SeveralKeys.{written_ranges, parts, joined}

-- the create revision of an owned key's ownership key; of every other key the one given
abbrev pub create_or : ℕ → List Owned → List ℕ → ℕ
create_or other [] k = other
create_or other (o ∷ os) k = if same o.key k then o.create else create_or other os k

abbrev pub delete_part : Bool → KeyRange → Op
delete_part prev_kv r = op.Delete (record { range = r; prev_kv = prev_kv })

-- the write itself: a range delete goes round the leasing range, a client's transaction is sent within this one
abbrev pub write_ops : List ℕ → Request → List Op
write_ops p (request.Put ask) = op.Put ask ∷ []
write_ops p (request.Delete ask) = map (delete_part ask.prev_kv) (parts p ask.range)
write_ops p (request.Txn t) = op.Txn t ∷ []
write_ops p _ = []

abbrev pub guard : List ℕ → (List ℕ → ℕ) → KeyRange → Compare
guard p created r = created_at (under p r) (created r.key)

abbrev pub read_owners : List ℕ → KeyRange → Op
read_owners p r = read_op (under p r)

-- `created` says at which revision the ownership key of a key was created; 0 stands for there being none
abbrev pub guarded : List ℕ → Request → (List ℕ → ℕ) → TxnAsk
guarded p write created =
    record {
      compare = map (guard p created) (written_ranges write);
      success = write_ops p write;
      failure = map (read_owners p) (written_ranges write);
    }

abbrev pub answer_of : Request → List Body → Body
answer_of (request.Delete ask) bs = if is_one ask.range then first_body bs else joined bs
answer_of _ bs = first_body bs

-- the owner that each record found shows, in the order of the answer
abbrev pub owners_in : List ℕ → List Body → List Owner
owners_in p bs = map (owner_of p) (flat_map records_of bs)

abbrev pub written_of : List ℕ → Request → Header → Bool → List Body → Written
written_of p write header succeeded bs =
    if succeeded then Wrote (record { header = header; body = answer_of write bs }) else Blocked (owners_in p bs)

-- what the answer says, or nothing where it can't be one to this write; the revisions compared have no part in that
abbrev pub written : List ℕ → Request → Reply → Option Written
written p write reply =
    reading (fits_txn (guarded p write (λ k. 0)) reply.body) (branch_of reply.body) (written_of p write reply.header)

-- Which writes there are.

-- a put, a delete, or a transaction
abbrev pub IsWrite : Request → Type 0
IsWrite (request.Put ask) = Unit {0}
IsWrite (request.Delete ask) = Unit {0}
IsWrite (request.Txn t) = Unit {0}
IsWrite _ = ⊥

-- a write of one key: a put, or a delete with an empty end
abbrev pub is_one_key : Op → Bool
is_one_key (op.Put ask) = true
is_one_key (op.Delete ask) = is_one ask.range
is_one_key _ = false

-- an operation as a request by itself
abbrev pub alone : Op → Request
alone (op.Range ask) = request.Range ask
alone (op.Put ask) = request.Put ask
alone (op.Delete ask) = request.Delete ask
alone o = request.Leases
