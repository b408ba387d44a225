-- The answers and the messages of watches that are read back as they are written: numbers in the API's ranges, bytes that
-- are bytes, refusals with a code above 0 and a text in UTF-8, and within a transaction ranges, puts, deletes and
-- transactions alone.
use Rattle.std.specs.Prelude.{◌≡◌, ◌<◌, ◌≤◌, ◌^◌, if◌then◌else◌, ℤ, pos, negsuc, Option, Some, None, ⊤, IsUtf8}
use Rattle.std.specs.List.{AllByRecursion}
use Rattle.base64.specs.GeneralPurpose.{IsBytes}
use Rattle.serde_json.specs.Data.{Data, depth}
use Rattle.serde_json.specs.Read.{max_depth}
use Rattle.etcd_types.specs.declared.record.Header.{Header}
use Rattle.etcd_types.specs.declared.record.Kv.{Kv}
use Rattle.etcd_types.specs.declared.request.Request.{Request}
use Rattle.etcd_types.specs.declared.answer.Body.{Body, Row_of-Body, end_of-Body, more_of-Body}
use Rattle.etcd_types.specs.declared.answer.Body.TheVariants.{Range, Put, Delete, Txn', Compact, Grant, Revoke, KeepAlive, TimeToLive, Leases}
use Rattle.etcd_types.specs.declared.answer.Reply.{Reply}
use Rattle.etcd_types.specs.declared.answer.Refusal.{Refusal}
use Rattle.etcd_types.specs.declared.answer.Answer.{Answer}
use Rattle.etcd_types.specs.declared.answer.Answer.TheVariants.{Done, Refused}
use Rattle.etcd_types.specs.declared.watch.Change.{Change}
use Rattle.etcd_types.specs.declared.watch.Change.TheVariants as change
use Rattle.etcd_types.specs.declared.watch.Event.{Event}
use Rattle.etcd_types.specs.declared.watch.WatchItem.{WatchItem}
use Rattle.etcd_types.specs.declared.watch.WatchItem.TheVariants.{Created, Events, Canceled}
use Rattle.json_model.specs.declared.path.Path.{Path}
use Rattle.json_model.specs.declared.path.Path.TheVariants as path
use Rattle.json_model.specs.Fits.{IsNumber}
use Rattle.json_model.specs.WrittenRequests.{request_path}
use Rattle.json_model.specs.WrittenReplies.{in_result, reply_value, is_keep_alive}

-- a number of 64 bits with a sign
abbrev pub IsSigned : ℤ → Type 0
IsSigned (pos n) = n < 2 ^ 63
IsSigned (negsuc n) = n < 2 ^ 63

-- a cluster's and a member's number have 64 bits
pub record HeaderFits (h : Header) : Type 0 where
  pub cluster : h.cluster < 2 ^ 64
  pub member : h.member < 2 ^ 64
  pub revision : IsNumber h.revision
  pub term : IsNumber h.term

pub record RecordFits (kv : Kv) : Type 0 where
  pub key : IsBytes kv.key
  pub value : IsBytes kv.value
  pub create : IsNumber kv.create
  pub modified : IsNumber kv.modified
  pub version : IsNumber kv.version
  pub lease : IsNumber kv.lease

abbrev pub PrevFits : Option Kv → Type 0
PrevFits None = ⊤
PrevFits (Some kv) = RecordFits kv

-- what may stand within a transaction
abbrev mutual
  pub ResponseFits : Body → Type 0
  ResponseFits (Range count more kvs) = IsNumber count × AllByRecursion RecordFits kvs
  ResponseFits (Put prev) = PrevFits prev
  ResponseFits (Delete deleted prevs) = IsNumber deleted × AllByRecursion RecordFits prevs
  ResponseFits (Txn' succeeded m bodies) = ResponsesFit bodies
  ResponseFits Compact = ⊥
  ResponseFits (Grant lease ttl) = ⊥
  ResponseFits Revoke = ⊥
  ResponseFits (KeepAlive lease ttl) = ⊥
  ResponseFits (TimeToLive lease ttl granted keys) = ⊥
  ResponseFits (Leases leases) = ⊥

  pub ResponsesFit : {m : _} → Row_of-Body m → Type 0
  ResponsesFit end_of-Body = ⊤
  ResponsesFit (more_of-Body first rest) = ResponseFits first × ResponsesFit rest

abbrev pub BodyFits : Body → Type 0
BodyFits (Range count more kvs) = ResponseFits (Range count more kvs)
BodyFits (Put prev) = ResponseFits (Put prev)
BodyFits (Delete deleted prevs) = ResponseFits (Delete deleted prevs)
BodyFits (Txn' succeeded m bodies) = ResponseFits (Txn' succeeded m bodies)
BodyFits Compact = ⊤
BodyFits (Grant lease ttl) = IsNumber lease × IsNumber ttl
BodyFits Revoke = ⊤
BodyFits (KeepAlive lease ttl) = IsNumber lease × IsNumber ttl
BodyFits (TimeToLive lease ttl granted keys) = IsNumber lease × IsSigned ttl × IsNumber granted × AllByRecursion IsBytes keys
BodyFits (Leases leases) = AllByRecursion IsNumber leases

-- the path of the requests that have such a reply
abbrev pub reply_path : Body → Path
reply_path (Range count more kvs) = path.Range
reply_path (Put prev) = path.Put
reply_path (Delete deleted prevs) = path.DeleteRange
reply_path (Txn' succeeded m bodies) = path.Txn
reply_path Compact = path.Compaction
reply_path (Grant lease ttl) = path.LeaseGrant
reply_path Revoke = path.LeaseRevoke
reply_path (KeepAlive lease ttl) = path.LeaseKeepAlive
reply_path (TimeToLive lease ttl granted keys) = path.LeaseTimeToLive
reply_path (Leases leases) = path.LeaseLeases

-- the whole value of a reply's text
abbrev pub reply_whole : Reply → Data
reply_whole r = if is_keep_alive r.body then in_result (reply_value r) else reply_value r

-- a reply to the request, whose text nests no deeper than JSON may
pub record ReplyFits (request : Request) (r : Reply) : Type 0 where
  pub asked : request_path request ≡ reply_path r.body
  pub header : HeaderFits r.header
  pub body : BodyFits r.body
  pub shallow : depth (reply_whole r) ≤ max_depth

-- code 0 is no refusal's
pub record RefusalFits (r : Refusal) : Type 0 where
  pub some : 0 < r.code
  pub code : r.code < 2 ^ 32
  pub text : IsUtf8 r.text

abbrev pub AnswerFits : Request → Answer → Type 0
AnswerFits request (Done reply) = ReplyFits request reply
AnswerFits request (Refused refusal) = RefusalFits refusal

-- ---- messages of a watch

abbrev pub ChangeFits : Change → Type 0
ChangeFits (change.Put kv) = RecordFits kv
ChangeFits (change.Delete key modified) = IsBytes key × IsNumber modified

pub record EventFits (e : Event) : Type 0 where
  pub change : ChangeFits e.change
  pub prev : PrevFits e.prev

abbrev pub ItemFits : WatchItem → Type 0
ItemFits (Created h) = HeaderFits h
ItemFits (Events h events) = HeaderFits h × AllByRecursion EventFits events
ItemFits (Canceled h compact) = HeaderFits h × IsNumber compact
