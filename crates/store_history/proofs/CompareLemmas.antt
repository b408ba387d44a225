-- A compare of a range with keys speaks of each of them.
use Rattle.std.proofs.Common.{◌≡◌, false, ◌==◌, List, [], ◌∷◌, length, refl}
use Rattle.std.specs.List.{list_all}
use Rattle.etcd_types.specs.declared.record.Kv.{Kv}
use Rattle.etcd_types.specs.declared.operation.Compare.{Compare}
use Rattle.store_model.specs.Compares.{record_holds, holds_of}

pub holds_of-some : (c : Compare) (kvs : List Kv) → false ≡ (length kvs == 0) → holds_of c kvs ≡ list_all (record_holds c) kvs
holds_of-some c [] h = absurd (cc)
holds_of-some c (kv ∷ kvs) h = refl

pub ruleset of_compares = (holds_of-some)
