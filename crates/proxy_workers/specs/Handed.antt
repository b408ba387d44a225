-- A stream that is to be followed, as a worker hands it over.
use Rattle.std.specs.Prelude.{◌≡◌, ℕ, List}
use Rattle.outside.specs.declared.parts.Part.{Part}
use Rattle.etcd_types.specs.declared.request.Request.{Request}
use Rattle.server_model.specs.Calls.{call_of}
use Rattle.server_model.specs.Working.{IsAt, follower}

-- the stream of a request to a host, with a place at this home
abbrev pub IsFollower : {P C H : Type 0} → (P → H) → H → List ℕ → ℕ → ℕ → Request → Part P C → Type 0
IsFollower {P} home_of home host stream member request part =
    (place : P) × IsAt home_of home place × (part ≡ follower place stream member (call_of host request))
