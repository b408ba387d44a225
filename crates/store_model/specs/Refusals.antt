-- The refusals of a store: the gRPC codes and texts of etcd's `rpctypes`, and two that are this store's own.
use Rattle.std.specs.Prelude.{codes}
use Rattle.etcd_types.specs.declared.answer.Refusal.{Refusal}
use Rattle.etcd_types.specs.declared.code.TheConstants.{INVALID_ARGUMENT, NOT_FOUND, FAILED_PRECONDITION, OUT_OF_RANGE, UNIMPLEMENTED}

abbrev pub key_not_provided : Refusal
key_not_provided = record { code = INVALID_ARGUMENT; text = codes "etcdserver: key is not provided" }

abbrev pub duplicate_key : Refusal
duplicate_key = record { code = INVALID_ARGUMENT; text = codes "etcdserver: duplicate key given in txn request" }

abbrev pub too_many_operations : Refusal
too_many_operations = record { code = INVALID_ARGUMENT; text = codes "etcdserver: too many operations in txn request" }

-- own: a put that ignores its lease finds no key
abbrev pub key_not_found : Refusal
key_not_found = record { code = INVALID_ARGUMENT; text = codes "etcdserver: key not found" }

abbrev pub lease_not_found : Refusal
lease_not_found = record { code = NOT_FOUND; text = codes "etcdserver: requested lease not found" }

abbrev pub lease_exists : Refusal
lease_exists = record { code = FAILED_PRECONDITION; text = codes "etcdserver: lease already exists" }

abbrev pub compacted_revision : Refusal
compacted_revision = record { code = OUT_OF_RANGE; text = codes "etcdserver: mvcc: required revision has been compacted" }

abbrev pub future_revision : Refusal
future_revision = record { code = OUT_OF_RANGE; text = codes "etcdserver: mvcc: required revision is a future revision" }

-- own: a sort or a filter of a range
abbrev pub unsupported : Refusal
unsupported = record { code = UNIMPLEMENTED; text = codes "store: unsupported" }
