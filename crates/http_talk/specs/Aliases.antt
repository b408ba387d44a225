-- Aliases: other paths of the same requests, which the document of etcd's API and its gateway of version 3.3 have. The JSON mapping knows
-- none of them: a path is rewritten before it is looked up.
use Rattle.std.specs.Prelude.{ℕ, List, ◌++◌, take, drop, if◌then◌else◌, codes, nat_eq}
use Rattle.std.specs.Cmp.Lexicographic.{pointwise}

-- what is below `/v3beta` is below `/v3`
abbrev pub v3_path : List ℕ → List ℕ
v3_path path =
    if pointwise nat_eq (take 8 path) (codes "/v3beta/") then codes "/v3/" ++ drop 8 path
    else path

-- three calls on leases stand below those on keys too
abbrev pub lease_path : List ℕ → List ℕ
lease_path path =
    if pointwise nat_eq path (codes "/v3/kv/lease/revoke") then codes "/v3/lease/revoke"
    else if pointwise nat_eq path (codes "/v3/kv/lease/timetolive") then codes "/v3/lease/timetolive"
    else if pointwise nat_eq path (codes "/v3/kv/lease/leases") then codes "/v3/lease/leases"
    else path

-- the path that an alias stands for; any other stands for itself
abbrev pub plain_path : List ℕ → List ℕ
plain_path path = lease_path (v3_path path)
