-- The names of the API's fields (etcd API reference). Each has its plain name, and the lowerCamelCase one that is made from it.
use Rattle.std.specs.Prelude.{ℕ, List, codes}
use Rattle.json_model.specs.Names.{camel}

abbrev pub FieldName : Type 0
FieldName = List ℕ × List ℕ

abbrev pub named : List ℕ → FieldName
named plain = (plain, camel plain)

abbrev pub key : FieldName
key = named (codes "key")

abbrev pub range_end : FieldName
range_end = named (codes "range_end")

abbrev pub limit : FieldName
limit = named (codes "limit")

abbrev pub revision : FieldName
revision = named (codes "revision")

abbrev pub sort_order : FieldName
sort_order = named (codes "sort_order")

abbrev pub sort_target : FieldName
sort_target = named (codes "sort_target")

abbrev pub serializable : FieldName
serializable = named (codes "serializable")

abbrev pub keys_only : FieldName
keys_only = named (codes "keys_only")

abbrev pub count_only : FieldName
count_only = named (codes "count_only")

abbrev pub min_mod_revision : FieldName
min_mod_revision = named (codes "min_mod_revision")

abbrev pub max_mod_revision : FieldName
max_mod_revision = named (codes "max_mod_revision")

abbrev pub min_create_revision : FieldName
min_create_revision = named (codes "min_create_revision")

abbrev pub max_create_revision : FieldName
max_create_revision = named (codes "max_create_revision")

abbrev pub value : FieldName
value = named (codes "value")

abbrev pub lease : FieldName
lease = named (codes "lease")

abbrev pub prev_kv : FieldName
prev_kv = named (codes "prev_kv")

abbrev pub ignore_value : FieldName
ignore_value = named (codes "ignore_value")

abbrev pub ignore_lease : FieldName
ignore_lease = named (codes "ignore_lease")

abbrev pub compare : FieldName
compare = named (codes "compare")

abbrev pub success : FieldName
success = named (codes "success")

abbrev pub failure : FieldName
failure = named (codes "failure")

abbrev pub result : FieldName
result = named (codes "result")

abbrev pub target : FieldName
target = named (codes "target")

abbrev pub version : FieldName
version = named (codes "version")

abbrev pub create_revision : FieldName
create_revision = named (codes "create_revision")

abbrev pub mod_revision : FieldName
mod_revision = named (codes "mod_revision")

abbrev pub request_range : FieldName
request_range = named (codes "request_range")

abbrev pub request_put : FieldName
request_put = named (codes "request_put")

abbrev pub request_delete_range : FieldName
request_delete_range = named (codes "request_delete_range")

abbrev pub request_txn : FieldName
request_txn = named (codes "request_txn")

abbrev pub physical : FieldName
physical = named (codes "physical")

abbrev pub TTL : FieldName
TTL = named (codes "TTL")

abbrev pub ID : FieldName
ID = named (codes "ID")

abbrev pub keys : FieldName
keys = named (codes "keys")

abbrev pub create_request : FieldName
create_request = named (codes "create_request")

abbrev pub cancel_request : FieldName
cancel_request = named (codes "cancel_request")

abbrev pub progress_request : FieldName
progress_request = named (codes "progress_request")

abbrev pub start_revision : FieldName
start_revision = named (codes "start_revision")

abbrev pub progress_notify : FieldName
progress_notify = named (codes "progress_notify")

abbrev pub filters : FieldName
filters = named (codes "filters")

abbrev pub watch_id : FieldName
watch_id = named (codes "watch_id")

abbrev pub fragment : FieldName
fragment = named (codes "fragment")

abbrev pub header : FieldName
header = named (codes "header")

abbrev pub kvs : FieldName
kvs = named (codes "kvs")

abbrev pub more : FieldName
more = named (codes "more")

abbrev pub count : FieldName
count = named (codes "count")

abbrev pub deleted : FieldName
deleted = named (codes "deleted")

abbrev pub prev_kvs : FieldName
prev_kvs = named (codes "prev_kvs")

abbrev pub succeeded : FieldName
succeeded = named (codes "succeeded")

abbrev pub responses : FieldName
responses = named (codes "responses")

abbrev pub grantedTTL : FieldName
grantedTTL = named (codes "grantedTTL")

abbrev pub leases : FieldName
leases = named (codes "leases")

abbrev pub response_range : FieldName
response_range = named (codes "response_range")

abbrev pub response_put : FieldName
response_put = named (codes "response_put")

abbrev pub response_delete_range : FieldName
response_delete_range = named (codes "response_delete_range")

abbrev pub response_txn : FieldName
response_txn = named (codes "response_txn")

abbrev pub cluster_id : FieldName
cluster_id = named (codes "cluster_id")

abbrev pub member_id : FieldName
member_id = named (codes "member_id")

abbrev pub raft_term : FieldName
raft_term = named (codes "raft_term")

abbrev pub created : FieldName
created = named (codes "created")

abbrev pub canceled : FieldName
canceled = named (codes "canceled")

abbrev pub compact_revision : FieldName
compact_revision = named (codes "compact_revision")

abbrev pub events : FieldName
events = named (codes "events")

abbrev pub kind : FieldName
kind = named (codes "type")

abbrev pub kv : FieldName
kv = named (codes "kv")

abbrev pub code : FieldName
code = named (codes "code")

abbrev pub message : FieldName
message = named (codes "message")
