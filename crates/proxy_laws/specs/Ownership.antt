-- The keys of a range, under a prefix.
use Rattle.std.specs.Prelude.{◌≡◌, ℕ, true, false, List, ◌++◌}
use Rattle.etcd_types.specs.declared.record.Kv.{Kv}
use Rattle.etcd_types.specs.declared.key_range.KeyRange.{KeyRange}
use Rattle.etcd_types.specs.Keys.{is_empty}
use Rattle.etcd_types.specs.Ranges.{contains}
use Rattle.proxy_model.specs.Foreign.{owner_of}
use Rattle.proxy_model.specs.Prefixes.{are_bytes, under}

-- a key is in a range exactly where, with the prefix, it is in the range under the prefix
abbrev pub RangesStayUnderPrefix : Type 0
RangesStayUnderPrefix =
    (p k : List ℕ) (r : KeyRange) → is_empty k ≡ false → contains (under p r) (p ++ k) ≡ contains r k

-- an ownership key that was found is the prefix and the key that its owner is told for
abbrev pub OwnersAreNamed : Type 0
OwnersAreNamed =
    (p : List ℕ) (r : KeyRange) (kv : Kv) → are_bytes kv.key ≡ true → is_empty kv.key ≡ false → contains (under p r) kv.key ≡ true
    → p ++ (owner_of p kv).key ≡ kv.key
