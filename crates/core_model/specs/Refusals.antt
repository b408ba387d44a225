-- Refusals of a request by a proxy that leases: beside those that every proxy has, the leasing range is the proxies' own, and a
-- transaction may write so many ranges alone as can be guarded in one transaction.
use Rattle.std.specs.Prelude.{ℕ, Bool, true, false, not, ◌&&◌, ◌||◌, nat_lt, List, [], ◌∷◌, length, Option, codes}
use Rattle.std.specs.List.{list_any}
use Rattle.std.specs.Option.{option_map}
use Rattle.etcd_types.specs.declared.answer.Refusal.{Refusal}
use Rattle.etcd_types.specs.declared.code.TheConstants.{PERMISSION_DENIED}
use Rattle.etcd_types.specs.declared.key_range.KeyRange.{KeyRange}
use Rattle.etcd_types.specs.declared.operation.Op.{Op}
use Rattle.etcd_types.specs.declared.operation.Op.TheVariants as op
use Rattle.etcd_types.specs.declared.request.Request.{Request}
use Rattle.etcd_types.specs.declared.request.Request.TheVariants as request
use Rattle.etcd_types.specs.Keys.{is_empty}
use Rattle.etcd_types.specs.Ranges.{contains, overlaps}
use Rattle.store_model.specs.FirstRefusals.{operations_limit}
use Rattle.store_model.specs.Refusals.{key_not_provided, too_many_operations}
use Rattle.proxy_model.specs.Prefixes.{leasing_range}
use Rattle.proxy_model.specs.RequestRefusals.{first_of, unserved, unsupported, request_lacks_key, names_session, reserved_lease, given}
use Rattle.proxy_model.specs.SeveralKeys.{written_ranges}

-- a put or a delete in a transaction that touches these keys: a delete by any key of its range
abbrev pub op_touches : KeyRange → Op → Bool
op_touches keys (op.Put ask) = contains keys ask.key
op_touches keys (op.Delete ask) = contains keys ask.range.key || overlaps ask.range keys
op_touches keys _ = false

-- one that a transaction has, or a put or a delete by its key: a delete of a range goes round the leasing range
abbrev pub touches : KeyRange → Request → Bool
touches keys (request.Put ask) = contains keys ask.key
touches keys (request.Delete ask) = contains keys ask.range.key
touches keys (request.Txn t) = list_any (op_touches keys) t.success || list_any (op_touches keys) t.failure
touches keys _ = false

abbrev pub reserved_range : Refusal
reserved_range = record { code = PERMISSION_DENIED; text = codes "proxy: key is in the leasing range" }

abbrev pub is_txn : Request → Bool
is_txn (request.Txn t) = true
is_txn _ = false

-- more ranges over both branches than one transaction can compare
abbrev pub writes_too_much : Request → Bool
writes_too_much q = is_txn q && nat_lt operations_limit (length (written_ranges q))

-- the refusals in their order: a field that isn't served, an empty key, the leasing range, a reserved lease number, too many ranges
abbrev pub refusals : List ℕ → Request → List (Option Refusal)
refusals prefix q =
    option_map unsupported (unserved q)
    ∷ given (request_lacks_key q) key_not_provided
    ∷ given (not (is_empty prefix) && touches (leasing_range prefix) q) reserved_range
    ∷ given (names_session q) reserved_lease
    ∷ given (not (is_empty prefix) && writes_too_much q) too_many_operations
    ∷ []

-- an empty prefix stands for leasing being off
abbrev pub refusal_of : List ℕ → Request → Option Refusal
refusal_of prefix q = first_of (refusals prefix q)
