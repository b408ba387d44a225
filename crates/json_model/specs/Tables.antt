-- The tables of the API: the fields of each object in the order in which they are looked at, and the names of each enum
-- from number 0 (etcd API reference: `etcdserverpb` and `mvccpb`).
use Rattle.std.specs.Prelude.{ℕ, List, codes}

unfoldable pub range_fields : List ℕ
range_fields = codes "key range_end limit revision sort_order sort_target serializable keys_only count_only min_mod_revision max_mod_revision min_create_revision max_create_revision"

unfoldable pub put_fields : List ℕ
put_fields = codes "key value lease prev_kv ignore_value ignore_lease"

unfoldable pub delete_fields : List ℕ
delete_fields = codes "key range_end prev_kv"

unfoldable pub txn_fields : List ℕ
txn_fields = codes "compare success failure"

unfoldable pub compare_fields : List ℕ
compare_fields = codes "result target key version create_revision mod_revision value lease range_end"

unfoldable pub operation_fields : List ℕ
operation_fields = codes "request_range request_put request_delete_range request_txn"

unfoldable pub compaction_fields : List ℕ
compaction_fields = codes "revision physical"

unfoldable pub grant_fields : List ℕ
grant_fields = codes "TTL ID"

unfoldable pub lease_fields : List ℕ
lease_fields = codes "ID"

unfoldable pub time_to_live_fields : List ℕ
time_to_live_fields = codes "ID keys"

unfoldable pub watch_fields : List ℕ
watch_fields = codes "create_request cancel_request progress_request"

unfoldable pub create_fields : List ℕ
create_fields = codes "key range_end start_revision progress_notify filters prev_kv watch_id fragment"

-- ---- the fields of replies that have two names; others have one, and can't be named twice

unfoldable pub header_fields : List ℕ
header_fields = codes "cluster_id member_id raft_term"

unfoldable pub record_fields : List ℕ
record_fields = codes "create_revision mod_revision"

unfoldable pub put_reply_fields : List ℕ
put_reply_fields = codes "prev_kv"

unfoldable pub delete_reply_fields : List ℕ
delete_reply_fields = codes "prev_kvs"

unfoldable pub response_fields : List ℕ
response_fields = codes "response_range response_put response_delete_range response_txn"

unfoldable pub event_fields : List ℕ
event_fields = codes "prev_kv"

unfoldable pub message_fields : List ℕ
message_fields = codes "compact_revision"

unfoldable pub no_fields : List ℕ
no_fields = codes ""

-- ---- enums

abbrev pub sort_orders : List ℕ
sort_orders = codes "NONE ASCEND DESCEND"

abbrev pub sort_targets : List ℕ
sort_targets = codes "KEY VERSION CREATE MOD VALUE"

abbrev pub relations : List ℕ
relations = codes "EQUAL GREATER LESS NOT_EQUAL"

abbrev pub targets : List ℕ
targets = codes "VERSION CREATE MOD VALUE LEASE"

abbrev pub filters : List ℕ
filters = codes "NOPUT NODELETE"

abbrev pub event_types : List ℕ
event_types = codes "PUT DELETE"
