-- Whether two headers, or two records, are the same in every field.
use Rattle.std.specs.Prelude.{Bool, true, false, ◌==◌, ◌&&◌, Option, None, Some}
use Rattle.etcd_types.specs.declared.record.Header.{Header}
use Rattle.etcd_types.specs.declared.record.Kv.{Kv}
use Rattle.etcd_types.specs.Keys.{same}

abbrev pub same_header : Header → Header → Bool
same_header told due =
    told.cluster == due.cluster && told.member == due.member && told.revision == due.revision && told.term == due.term

abbrev pub same_kv : Kv → Kv → Bool
same_kv told due =
    same told.key due.key
    && same told.value due.value
    && told.create == due.create
    && told.modified == due.modified
    && told.version == due.version
    && told.lease == due.lease

abbrev pub same_prev : Option Kv → Option Kv → Bool
same_prev None None = true
same_prev None (Some due) = false
same_prev (Some told) None = false
same_prev (Some told) (Some due) = same_kv told due
