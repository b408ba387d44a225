-- A request's text is read as the request.
use Rattle.std.proofs.Common.{◌≡◌, ℕ, ◌≤◌, List, Some, None, Ok, refl, arith}
use Rattle.serde_json.specs.Data.{object, Members, depth}
use Rattle.serde_json.specs.Read.{max_depth}
use Rattle.etcd_types.specs.declared.operation.TxnAsk.{TxnAsk}
use Rattle.etcd_types.specs.declared.request.Request.{Request}
use Rattle.etcd_types.specs.declared.request.Request.TheVariants as request
use Rattle.json_model.specs.declared.extra.Reading.{Reading}
use Rattle.json_model.specs.declared.path.Path.{Path}
use Rattle.json_model.specs.declared.path.Path.TheVariants.{Range, Put, DeleteRange, Txn, Compaction, LeaseGrant, LeaseRevoke, LeaseKeepAlive, LeaseTimeToLive, LeaseLeases, Watch}
use Rattle.json_model.specs.Paths.{path_text, path_of}
use Rattle.json_model.specs.Written.{members_of}
use Rattle.json_model.specs.WrittenRequests.{txn_written, request_path, request_written, request_value, request_text}
use Rattle.json_model.specs.Extras.{extra_in}
use Rattle.json_model.specs.Transactions.{txn_in}
use Rattle.json_model.specs.Mapping.{body_members, request_in, request_of}
use Rattle.json_model.specs.Fits.{TxnFits, ValuesFit, RequestFits, RequestServed}
use Rattle.json_model.proofs.WrittenTexts.{object_back}
use Rattle.json_laws.proofs.RequestsBack.{range_back, put_back, delete_back, compact_back, grant_back, lease_back, time_to_live_back, leases_back}
use Rattle.json_laws.proofs.ComparesBack.{watch_back}
use Rattle.json_laws.proofs.TransactionsBack.{txn_back}
use Rattle.json_laws.proofs.PlainRequests.{request_plain}
use Rattle.json_laws.proofs.ServedLemmas.{request_none}

path_back : (p : Path) → path_of (path_text p) ≡ Ok p
unfolding path_of
path_back Range = refl
path_back Put = refl
path_back DeleteRange = refl
path_back Txn = refl
path_back Compaction = refl
path_back LeaseGrant = refl
path_back LeaseRevoke = refl
path_back LeaseKeepAlive = refl
path_back LeaseTimeToLive = refl
path_back LeaseLeases = refl
path_back Watch = refl

-- a transaction's members nest one less deep than its object
txn_deep : (t : TxnAsk) → TxnFits t → depth (object (members_of (txn_written t))) ≤ max_depth → txn_in max_depth (members_of (txn_written t)) ≡ Ok t
txn_deep t h d = txn_back 126 t h (omega arith)

fields_back : (r : Request) → ValuesFit r → depth (request_value r) ≤ max_depth → request_in max_depth (request_path r) (members_of (request_written r)) ≡ Ok r
fields_back (request.Range a) h d = rw (range_back a h) refl
fields_back (request.Put a) h d = rw (put_back a h) refl
fields_back (request.Delete a) h d = rw (delete_back a h) refl
fields_back (request.Txn t) h d = rw (txn_deep t h d) refl
fields_back (request.Compact revision physical) h d = compact_back revision physical h
fields_back (request.Grant ttl lease) h d = grant_back ttl lease h.0 h.1
fields_back (request.Revoke lease) h d = rw (lease_back lease h) refl
fields_back (request.KeepAlive lease) h d = rw (lease_back lease h) refl
fields_back (request.TimeToLive lease keys) h d = time_to_live_back lease keys h
fields_back request.Leases h d = leases_back
fields_back (request.Watch a) h d = rw (watch_back a h) refl

body_back : (r : Request) → RequestFits r → body_members (request_text r) ≡ Some (members_of (request_written r))
body_back r h = object_back (members_of (request_written r)) (request_plain r h.0) h.1

request_by : (reading : Reading) (text body : List ℕ) (path : Path) (ms : Members) (r : Request) → path_of text ≡ Ok path → body_members body ≡ Some ms → request_in max_depth path ms ≡ Ok r
    → extra_in reading max_depth path ms ≡ None → request_of reading text body ≡ Ok r
unfolding request_of
request_by reading text body path ms r p b f e = rw (p, b, f, e) refl

pub request_back : (reading : Reading) (r : Request) → RequestFits r → RequestServed reading r → request_of reading (path_text (request_path r)) (request_text r) ≡ Ok r
request_back reading r h s =
    request_by reading (path_text (request_path r)) (request_text r) (request_path r) (members_of (request_written r)) r
    (path_back (request_path r)) (body_back r h) (fields_back r h.0 h.1) (request_none reading max_depth r s)
