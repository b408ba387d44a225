-- How kinds of requests and states of members are named in texts: a kind by its path in the JSON mapping (etcd API reference, gRPC gateway).
use Rattle.std.specs.Prelude.{ℕ, List, codes}
use Rattle.outside.specs.declared.marks.RequestKind.{RequestKind}
use Rattle.outside.specs.declared.marks.RequestKind.TheVariants as kind
use Rattle.metrics_text.specs.declared.figures.MemberState.{MemberState}
use Rattle.metrics_text.specs.declared.figures.MemberState.TheVariants as state

-- what is no request of these has no path here: its bytes are its client's
unfoldable pub path_of : RequestKind → List ℕ
path_of kind.Range = codes "/v3/kv/range"
path_of kind.Put = codes "/v3/kv/put"
path_of kind.Delete = codes "/v3/kv/deleterange"
path_of kind.Txn = codes "/v3/kv/txn"
path_of kind.Compact = codes "/v3/kv/compaction"
path_of kind.Grant = codes "/v3/lease/grant"
path_of kind.Revoke = codes "/v3/lease/revoke"
path_of kind.KeepAlive = codes "/v3/lease/keepalive"
path_of kind.TimeToLive = codes "/v3/lease/timetolive"
path_of kind.Leases = codes "/v3/lease/leases"
path_of kind.Watch = codes "/v3/watch"
path_of kind.Other = codes "other"

unfoldable pub state_text : MemberState → List ℕ
state_text state.Up = codes "up"
state_text state.Suspect = codes "suspect"
state_text state.Down = codes "down"
state_text state.Barred = codes "barred"

-- one that is in doubt counts as up: calls still go to it
unfoldable pub is_up : MemberState → ℕ
is_up state.Up = 1
is_up state.Suspect = 1
is_up state.Down = 0
is_up state.Barred = 0
