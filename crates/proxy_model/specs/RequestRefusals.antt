-- Refusals of a request: what a proxy refuses before it does anything else, in this order. Codes are gRPC's.
use Rattle.std.specs.Prelude.{ℕ, ◌++◌, ◌||◌, nat_le, Bool, false, if◌then◌else◌, List, [], ◌∷◌, Option, None, Some, codes}
use Rattle.std.specs.List.{list_any}
use Rattle.std.specs.Option.{option_map}
use Rattle.etcd_types.specs.Keys.{is_empty}
use Rattle.etcd_types.specs.declared.answer.Refusal.{Refusal}
use Rattle.etcd_types.specs.declared.code.TheConstants.{PERMISSION_DENIED, UNIMPLEMENTED}
use Rattle.etcd_types.specs.declared.operation.Op.{Op}
use Rattle.etcd_types.specs.declared.operation.Op.TheVariants as op
use Rattle.etcd_types.specs.declared.request.Request.{Request}
use Rattle.etcd_types.specs.declared.request.Request.TheVariants.{Range, Put, Delete, Txn, Grant, Revoke, KeepAlive, TimeToLive}
use Rattle.store_model.specs.FirstRefusals.{compare_lacks_key}
use Rattle.store_model.specs.Refusals.{key_not_provided}
use Rattle.proxy_model.specs.declared.session.TheConstants.{FIRST_SESSION}
use Rattle.proxy_model.specs.declared.unserved.Unserved.{Unserved}
use Rattle.proxy_model.specs.declared.unserved.Unserved.TheVariants.{IgnoreLease, NestedTxn}

-- the first of them that is there
abbrev pub first_of : {A : Type 0} → List (Option A) → Option A
first_of [] = None
first_of (None ∷ rest) = first_of rest
first_of (Some x ∷ rest) = Some x

-- what isn't served of an operation: a put that keeps its key's lease, a transaction within a transaction
abbrev pub unserved_op : Op → Option Unserved
unserved_op (op.Put ask) = if ask.ignore_lease then Some IgnoreLease else None
unserved_op (op.Txn' compare m success n failure) = Some NestedTxn
unserved_op _ = None

abbrev pub unserved_ops : List Op → Option Unserved
unserved_ops [] = None
unserved_ops (o ∷ ops) = first_of (unserved_op o ∷ unserved_ops ops ∷ [])

-- the first such field in the order of the request's text
abbrev pub unserved : Request → Option Unserved
unserved (Put ask) = unserved_op (op.Put ask)
unserved (Txn txn) = first_of (unserved_ops txn.success ∷ unserved_ops txn.failure ∷ [])
unserved _ = None

abbrev pub field_name : Unserved → List ℕ
field_name IgnoreLease = codes "ignore_lease"
field_name NestedTxn = codes "request_txn"

abbrev pub unsupported : Unserved → Refusal
unsupported field = record { code = UNIMPLEMENTED; text = codes "proxy: unsupported: " ++ field_name field }

-- an empty key of an operation; a transaction within a transaction is refused before
abbrev pub op_lacks_key : Op → Bool
op_lacks_key (op.Range ask) = is_empty ask.range.key
op_lacks_key (op.Put ask) = is_empty ask.key
op_lacks_key (op.Delete ask) = is_empty ask.range.key
op_lacks_key (op.Txn' compare m success n failure) = false

-- a key of a range, a put, a deletion or a compare is empty
abbrev pub request_lacks_key : Request → Bool
request_lacks_key (Range ask) = is_empty ask.range.key
request_lacks_key (Put ask) = is_empty ask.key
request_lacks_key (Delete ask) = is_empty ask.range.key
request_lacks_key (Txn txn) =
    list_any compare_lacks_key txn.compare || list_any op_lacks_key txn.success || list_any op_lacks_key txn.failure
request_lacks_key _ = false

-- lease numbers from the first session's on are sessions, which are the proxies' own
abbrev pub is_session : ℕ → Bool
is_session lease = nat_le FIRST_SESSION lease

abbrev pub op_names_session : Op → Bool
op_names_session (op.Put ask) = is_session ask.lease
op_names_session _ = false

-- a compare may hold any number
abbrev pub names_session : Request → Bool
names_session (Put ask) = is_session ask.lease
names_session (Txn txn) = list_any op_names_session txn.success || list_any op_names_session txn.failure
names_session (Grant ttl lease) = is_session lease
names_session (Revoke lease) = is_session lease
names_session (KeepAlive lease) = is_session lease
names_session (TimeToLive lease keys) = is_session lease
names_session _ = false

abbrev pub reserved_lease : Refusal
reserved_lease = record { code = PERMISSION_DENIED; text = codes "proxy: lease number is reserved" }

abbrev pub given : Bool → Refusal → Option Refusal
given applies refusal = if applies then Some refusal else None

-- the refusals in their order: a field that isn't served, an empty key, a reserved lease number
abbrev pub refusals : Request → List (Option Refusal)
refusals request =
    option_map unsupported (unserved request)
    ∷ given (request_lacks_key request) key_not_provided
    ∷ given (names_session request) reserved_lease
    ∷ []

abbrev pub refusal_of : Request → Option Refusal
refusal_of request = first_of (refusals request)
