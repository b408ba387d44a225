-- The kinds of a client's requests (etcd API reference: the services KV, Watch and Lease).
use Rattle.etcd_types.specs.declared.request.Request.{Request}
use Rattle.etcd_types.specs.declared.request.Request.TheVariants as request
use Rattle.outside.specs.declared.marks.RequestKind.{RequestKind}
use Rattle.outside.specs.declared.marks.RequestKind.TheVariants as kind

abbrev pub kind_of_request : Request → RequestKind
kind_of_request (request.Range ask) = kind.Range
kind_of_request (request.Put ask) = kind.Put
kind_of_request (request.Delete ask) = kind.Delete
kind_of_request (request.Txn ask) = kind.Txn
kind_of_request (request.Compact revision physical) = kind.Compact
kind_of_request (request.Grant ttl lease) = kind.Grant
kind_of_request (request.Revoke lease) = kind.Revoke
kind_of_request (request.KeepAlive lease) = kind.KeepAlive
kind_of_request (request.TimeToLive lease keys) = kind.TimeToLive
kind_of_request request.Leases = kind.Leases
kind_of_request (request.Watch ask) = kind.Watch
