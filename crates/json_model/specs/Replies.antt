-- What a reply of a member says: unknown fields are left aside, and a field that is named twice isn't in the mapping.
use Rattle.std.specs.Prelude.{ℕ, zero, suc, List, Option, Some, None, Result, Ok, Err}
use Rattle.serde_json.specs.Data.{Data, Members}
use Rattle.etcd_types.specs.declared.record.Header.{Header}
use Rattle.etcd_types.specs.declared.record.Kv.{Kv}
use Rattle.etcd_types.specs.declared.answer.Body.{Body}
use Rattle.etcd_types.specs.declared.answer.Body.TheVariants as body
use Rattle.json_model.specs.declared.fault.FieldFault.{FieldFault}
use Rattle.json_model.specs.declared.fault.FieldFault.TheVariants.{WrongKind}
use Rattle.json_model.specs.Faults.{◌>>=◌}
use Rattle.json_model.specs.FieldNames as names
use Rattle.json_model.specs.Known.{once}
use Rattle.json_model.specs.Tables.{header_fields, record_fields, delete_reply_fields, put_reply_fields, response_fields}
use Rattle.json_model.specs.Fields.{value_at, number_at, wide_at, signed_at, bytes_at, bytes_from, flag_at, list_at, child_at, members_from, items_or_none, members_or_none, each}

unfoldable pub numbers_in : Members → Result (ℕ × ℕ × ℕ × ℕ) FieldFault
numbers_in ms = do
  cluster ← wide_at names.cluster_id ms
  member ← wide_at names.member_id ms
  revision ← number_at names.revision ms
  term ← number_at names.raft_term ms
  Ok (cluster, member, revision, term)

unfoldable pub header_from : Members → Result Header FieldFault
header_from ms = do
  known ← once ms header_fields
  numbers ← numbers_in ms
  Ok (record { cluster = numbers.0; member = numbers.1; revision = numbers.2; term = numbers.3 })

-- a missing header is four zeros
unfoldable pub header_in : Members → Result Header FieldFault
header_in ms = do
  header ← child_at names.header ms
  header_from (members_or_none header)

unfoldable pub revisions_in : Members → Result (ℕ × ℕ × ℕ × ℕ) FieldFault
revisions_in ms = do
  create ← number_at names.create_revision ms
  modified ← number_at names.mod_revision ms
  version ← number_at names.version ms
  lease ← number_at names.lease ms
  Ok (create, modified, version, lease)

unfoldable pub record_from : Members → Result Kv FieldFault
record_from ms = do
  known ← once ms record_fields
  key ← bytes_at names.key ms
  value ← bytes_at names.value ms
  revisions ← revisions_in ms
  Ok (record {
    key = key;
    value = value;
    create = revisions.0;
    modified = revisions.1;
    version = revisions.2;
    lease = revisions.3;
  })

-- a record that is a member of the list of this name
abbrev pub record_of : List ℕ → Data → Result Kv FieldFault
record_of name d = members_from name d >>= record_from

abbrev pub records_at : names.FieldName → Members → Result (List Kv) FieldFault
records_at name ms = list_at name ms >>= λ ds. each (record_of name.0) (items_or_none ds)

abbrev pub record_or_none : Option Members → Result (Option Kv) FieldFault
record_or_none None = Ok None
record_or_none (Some ms) = record_from ms >>= λ kv. Ok (Some kv)

abbrev pub prev_in : Members → Result (Option Kv) FieldFault
prev_in ms = child_at names.prev_kv ms >>= record_or_none

-- ---- bodies

unfoldable pub range_body : Members → Result Body FieldFault
range_body ms = do
  kvs ← records_at names.kvs ms
  more ← flag_at names.more ms
  count ← number_at names.count ms
  Ok (body.Range count more kvs)

unfoldable pub put_body : Members → Result Body FieldFault
put_body ms = do
  known ← once ms put_reply_fields
  prev ← prev_in ms
  Ok (body.Put prev)

unfoldable pub delete_body : Members → Result Body FieldFault
delete_body ms = do
  known ← once ms delete_reply_fields
  deleted ← number_at names.deleted ms
  prevs ← records_at names.prev_kvs ms
  Ok (body.Delete deleted prevs)

-- a lease's number and time to live
unfoldable pub lease_numbers : Members → Result (ℕ × ℕ) FieldFault
lease_numbers ms = do
  lease ← number_at names.ID ms
  ttl ← number_at names.TTL ms
  Ok (lease, ttl)

abbrev pub grant_body : Members → Result Body FieldFault
grant_body ms = lease_numbers ms >>= λ numbers. Ok (body.Grant numbers.0 numbers.1)

abbrev pub keep_alive_body : Members → Result Body FieldFault
keep_alive_body ms = lease_numbers ms >>= λ numbers. Ok (body.KeepAlive numbers.0 numbers.1)

abbrev pub keys_in : Members → Result (List (List ℕ)) FieldFault
keys_in ms = list_at names.keys ms >>= λ ds. each (bytes_from names.keys.0) (items_or_none ds)

unfoldable pub time_to_live_body : Members → Result Body FieldFault
time_to_live_body ms = do
  lease ← number_at names.ID ms
  ttl ← signed_at names.TTL ms
  granted ← number_at names.grantedTTL ms
  keys ← keys_in ms
  Ok (body.TimeToLive lease ttl granted keys)

unfoldable pub lease_of : Data → Result ℕ FieldFault
lease_of d = do
  ms ← members_from names.leases.0 d
  number_at names.ID ms

abbrev pub leases_body : Members → Result Body FieldFault
leases_body ms = list_at names.leases ms >>= λ ds. each lease_of (items_or_none ds) >>= λ leases. Ok (body.Leases leases)

-- ---- transactions, of which at most so many may stand round one another

-- the header of a response within a transaction is read and left aside
unfoldable pub within_response : (Members → Result Body FieldFault) → List ℕ → Data → Result Body FieldFault
within_response read name d = do
  ms ← members_from name d
  header ← header_in ms
  read ms

-- exactly one of the four is there
abbrev pub the_response : (Members → Result Body FieldFault) → Option Data → Option Data → Option Data → Option Data → Result Body FieldFault
the_response inner (Some d) None None None = within_response range_body names.response_range.0 d
the_response inner None (Some d) None None = within_response put_body names.response_put.0 d
the_response inner None None (Some d) None = within_response delete_body names.response_delete_range.0 d
the_response inner None None None (Some d) = within_response inner names.response_txn.0 d
the_response inner range put delete txn = Err (WrongKind names.responses.0)

abbrev pub response_among : (Members → Result Body FieldFault) → Members → Result Body FieldFault
response_among inner ms =
    the_response inner (value_at names.response_range ms) (value_at names.response_put ms) (value_at names.response_delete_range ms) (value_at names.response_txn ms)

unfoldable pub response_by : (Members → Result Body FieldFault) → Data → Result Body FieldFault
response_by inner d = do
  ms ← members_from names.responses.0 d
  known ← once ms response_fields
  response_among inner ms

abbrev pub responses_by : (Members → Result Body FieldFault) → Members → Result (List Body) FieldFault
responses_by inner ms = list_at names.responses ms >>= λ ds. each (response_by inner) (items_or_none ds)

unfoldable pub txn_body_by : (Members → Result Body FieldFault) → Members → Result Body FieldFault
txn_body_by inner ms = do
  succeeded ← flag_at names.succeeded ms
  bodies ← responses_by inner ms
  Ok (body.Txn succeeded bodies)

unfoldable pub txn_body : ℕ → Members → Result Body FieldFault
txn_body zero ms = Err (WrongKind names.responses.0)
txn_body (suc n) ms = txn_body_by (txn_body n) ms
