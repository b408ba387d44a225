-- The paths of the API (etcd's JSON gateway).
use Rattle.std.specs.Prelude.{ℕ, if◌then◌else◌, Bool, List, [], ◌∷◌, codes, Result, Ok, Err}
use Rattle.std.specs.Str.{bytes_eq}
use Rattle.json_model.specs.declared.path.Path.{Path}
use Rattle.json_model.specs.declared.path.Path.TheVariants.{Range, Put, DeleteRange, Txn, Compaction, LeaseGrant, LeaseRevoke, LeaseKeepAlive, LeaseTimeToLive, LeaseLeases, Watch}
use Rattle.json_model.specs.declared.fault.ApiFault.{ApiFault}
use Rattle.json_model.specs.declared.fault.ApiFault.TheVariants.{NoSuchPath}

abbrev pub path_text : Path → List ℕ
path_text Range = codes "/v3/kv/range"
path_text Put = codes "/v3/kv/put"
path_text DeleteRange = codes "/v3/kv/deleterange"
path_text Txn = codes "/v3/kv/txn"
path_text Compaction = codes "/v3/kv/compaction"
path_text LeaseGrant = codes "/v3/lease/grant"
path_text LeaseRevoke = codes "/v3/lease/revoke"
path_text LeaseKeepAlive = codes "/v3/lease/keepalive"
path_text LeaseTimeToLive = codes "/v3/lease/timetolive"
path_text LeaseLeases = codes "/v3/lease/leases"
path_text Watch = codes "/v3/watch"

abbrev pub is_path : List ℕ → Path → Bool
is_path text path = bytes_eq text (path_text path)

abbrev pub path_among : List ℕ → List Path → Result Path ApiFault
path_among text [] = Err NoSuchPath
path_among text (path ∷ paths) = if is_path text path then Ok path else path_among text paths

abbrev pub all_paths : List Path
all_paths =
    Range ∷ Put ∷ DeleteRange ∷ Txn ∷ Compaction ∷ LeaseGrant ∷ LeaseRevoke ∷ LeaseKeepAlive ∷ LeaseTimeToLive ∷ LeaseLeases ∷ Watch ∷ []

-- the path with this text
unfoldable pub path_of : List ℕ → Result Path ApiFault
path_of text = path_among text all_paths
