-- The JSON mapping of requests: which request a path and a body are, or which fault they have. Faults are decided in this
-- order: the path, the JSON, the fields, and last what isn't served.
use Rattle.std.specs.Prelude.{ℕ, List, [], ◌∷◌, Option, Some, None, Result, Ok, Err}
use Rattle.serde_json.specs.Data.{Members, no_members}
use Rattle.serde_json.specs.Read.{max_depth}
use Rattle.etcd_types.specs.declared.request.Request.{Request}
use Rattle.etcd_types.specs.declared.request.Request.TheVariants as request
use Rattle.json_model.specs.declared.extra.Extra.{Extra}
use Rattle.json_model.specs.declared.extra.Reading.{Reading}
use Rattle.json_model.specs.declared.path.Path.{Path}
use Rattle.json_model.specs.declared.path.Path.TheVariants.{Range, Put, DeleteRange, Txn, Compaction, LeaseGrant, LeaseRevoke, LeaseKeepAlive, LeaseTimeToLive, LeaseLeases, Watch}
use Rattle.json_model.specs.declared.fault.FieldFault.{FieldFault}
use Rattle.json_model.specs.declared.fault.ApiFault.{ApiFault}
use Rattle.json_model.specs.declared.fault.ApiFault.TheVariants.{NotJson, Unsupported}
use Rattle.json_model.specs.Faults.{◌>>=◌, of_request}
use Rattle.json_model.specs.Texts.{object_of}
use Rattle.json_model.specs.Paths.{path_of}
use Rattle.json_model.specs.Requests.{range_in, put_in, delete_in, compact_in, grant_in, lease_in, time_to_live_in, leases_in}
use Rattle.json_model.specs.Transactions.{txn_in}
use Rattle.json_model.specs.Watches.{watch_in}
use Rattle.json_model.specs.Extras.{extra_name, extra_in}

-- an empty body is an empty object
abbrev pub body_members : List ℕ → Option Members
body_members [] = Some no_members
body_members (b ∷ bs) = object_of (b ∷ bs)

abbrev pub or_not_json : Option Members → Result Members ApiFault
or_not_json None = Err NotJson
or_not_json (Some ms) = Ok ms

-- what the fields say; a number is how many transactions may stand round one another
abbrev pub request_in : ℕ → Path → Members → Result Request FieldFault
request_in n Range ms = range_in ms >>= λ ask. Ok (request.Range ask)
request_in n Put ms = put_in ms >>= λ ask. Ok (request.Put ask)
request_in n DeleteRange ms = delete_in ms >>= λ ask. Ok (request.Delete ask)
request_in n Txn ms = txn_in n ms >>= λ ask. Ok (request.Txn ask)
request_in n Compaction ms = compact_in ms
request_in n LeaseGrant ms = grant_in ms
request_in n LeaseRevoke ms = lease_in ms >>= λ lease. Ok (request.Revoke lease)
request_in n LeaseKeepAlive ms = lease_in ms >>= λ lease. Ok (request.KeepAlive lease)
request_in n LeaseTimeToLive ms = time_to_live_in ms
request_in n LeaseLeases ms = leases_in ms
request_in n Watch ms = watch_in ms >>= λ ask. Ok (request.Watch ask)

abbrev pub served : Option Extra → Request → Result Request ApiFault
served None request = Ok request
served (Some extra) request = Err (Unsupported (extra_name extra))

-- JSON nests at most `max_depth` deep, so no transaction stands in so many
unfoldable pub request_of : Reading → List ℕ → List ℕ → Result Request ApiFault
request_of reading text body = do
  path ← path_of text
  ms ← or_not_json (body_members body)
  request ← of_request (request_in max_depth path ms)
  served (extra_in reading max_depth path ms) request
