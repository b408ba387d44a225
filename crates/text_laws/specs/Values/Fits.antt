-- Values whose parts are as their texts need them: bytes, numbers below 2^63, lists of fewer than 2^63 members, transactions that
-- nest at most so deep, compares with one operand. Revisions, versions, and how many records there are or were deleted, are at most
-- `most`, which is itself below 2^63.
use Rattle.std.specs.Prelude.{◌≡◌, ℕ, zero, suc, ◌^◌, ◌<◌, ◌≤◌, true, ◌==◌, List, [], ◌∷◌, length, Option, None, Some}
use Rattle.text_model.specs.Words.{max_number}
use Rattle.etcd_types.specs.Keys.{is_empty}
use Rattle.etcd_types.specs.declared.key_range.KeyRange.{KeyRange}
use Rattle.etcd_types.specs.declared.record.Header.{Header}
use Rattle.etcd_types.specs.declared.record.Kv.{Kv}
use Rattle.etcd_types.specs.declared.answer.Body.{Body, Row_of-Body, end_of-Body, more_of-Body}
use Rattle.etcd_types.specs.declared.answer.Body.TheVariants as body
use Rattle.etcd_types.specs.declared.answer.Reply.{Reply}
use Rattle.etcd_types.specs.declared.answer.Refusal.{Refusal}
use Rattle.etcd_types.specs.declared.answer.Answer.{Answer}
use Rattle.etcd_types.specs.declared.answer.Answer.TheVariants.{Done, Refused}
use Rattle.etcd_types.specs.declared.operation.Sort.{Sort}
use Rattle.etcd_types.specs.declared.operation.RangeAsk.{RangeAsk}
use Rattle.etcd_types.specs.declared.operation.PutAsk.{PutAsk}
use Rattle.etcd_types.specs.declared.operation.DeleteAsk.{DeleteAsk}
use Rattle.etcd_types.specs.declared.operation.Target.{Target}
use Rattle.etcd_types.specs.declared.operation.Target.TheVariants.{Version, Create, Modified, Value, Lease}
use Rattle.etcd_types.specs.declared.operation.Compare.{Compare}
use Rattle.etcd_types.specs.declared.operation.TxnAsk.{TxnAsk}
use Rattle.etcd_types.specs.declared.operation.Op.{Op, Row_of-Op, end_of-Op, more_of-Op}
use Rattle.etcd_types.specs.declared.operation.Op.TheVariants as op
use Rattle.etcd_types.specs.declared.request.WatchAsk.{WatchAsk}
use Rattle.etcd_types.specs.declared.request.Request.{Request}
use Rattle.etcd_types.specs.declared.request.Request.TheVariants as request
use Rattle.etcd_types.specs.declared.watch.Change.{Change}
use Rattle.etcd_types.specs.declared.watch.Change.TheVariants as change
use Rattle.etcd_types.specs.declared.watch.Event.{Event}
use Rattle.etcd_types.specs.declared.watch.WatchItem.{WatchItem}
use Rattle.etcd_types.specs.declared.watch.WatchItem.TheVariants as item
use Rattle.message_text.specs.Answers.{is_ttl}

abbrev pub AllOf : {A : Type 0} → (A → Type 0) → List A → Type 0
AllOf P [] = Unit {0}
AllOf P (x ∷ xs) = P x × AllOf P xs

abbrev pub If : {A : Type 0} → (A → Type 0) → Option A → Type 0
If P None = Unit {0}
If P (Some x) = P x

abbrev pub IsByte : ℕ → Type 0
IsByte n = n < 256

abbrev pub Bytes : List ℕ → Type 0
Bytes bs = AllOf IsByte bs

-- a number of a text
abbrev pub Number : ℕ → Type 0
Number n = n ≤ max_number

-- a list whose length is a number of a text
abbrev pub Few : {A : Type 0} → List A → Type 0
Few xs = Number (length xs)

-- ---- records and answers

pub record HeaderFits (most : ℕ) (h : Header) : Type 0 where
  pub cluster : Number h.cluster
  pub member : Number h.member
  pub revision : h.revision ≤ most
  pub term : Number h.term

pub record KvFits (most : ℕ) (kv : Kv) : Type 0 where
  pub key : Bytes kv.key
  pub value : Bytes kv.value
  pub create : kv.create ≤ most
  pub modified : kv.modified ≤ most
  pub version : kv.version ≤ most
  pub lease : Number kv.lease

abbrev pub PrevFits : ℕ → Option Kv → Type 0
PrevFits most o = If (KvFits most) o

pub record KvsFit (most : ℕ) (kvs : List Kv) : Type 0 where
  pub all : AllOf (KvFits most) kvs
  pub few : length kvs ≤ most

-- what may stand one deeper
abbrev pub Within : (ℕ → Type 0) → ℕ → Type 0
Within P zero = ⊥
Within P (suc n) = P n

abbrev pub row_length : {m : _} → Row_of-Body m → ℕ
row_length end_of-Body = 0
row_length (more_of-Body one rest) = suc (row_length rest)

-- a transaction answers at most 128 bodies, which nest at most so deep
abbrev mutual
  pub BodyFits : ℕ → ℕ → Body → Type 0
  BodyFits most deep (body.Range count more kvs) = Number count × KvsFit most kvs
  BodyFits most deep (body.Put prev) = PrevFits most prev
  BodyFits most deep (body.Delete deleted prevs) = (deleted ≤ most) × KvsFit most prevs
  BodyFits most deep (body.Txn' succeeded m inner) = Within (λ n. RowFits most n inner) deep × (row_length inner ≤ 128)
  BodyFits most deep body.Compact = Unit {0}
  BodyFits most deep (body.Grant lease ttl) = Number lease × Number ttl
  BodyFits most deep body.Revoke = Unit {0}
  BodyFits most deep (body.KeepAlive lease ttl) = Number lease × Number ttl
  BodyFits most deep (body.TimeToLive lease ttl granted keys) = Number lease × (is_ttl ttl ≡ true) × Number granted × AllOf Bytes keys × Few keys
  BodyFits most deep (body.Leases leases) = AllOf Number leases × Few leases

  pub RowFits : {m : _} → ℕ → ℕ → Row_of-Body m → Type 0
  RowFits most deep end_of-Body = Unit {0}
  RowFits most deep (more_of-Body one rest) = BodyFits most deep one × RowFits most deep rest

-- bodies nest at most 128 deep
abbrev pub ReplyFits : ℕ → Reply → Type 0
ReplyFits most reply = HeaderFits most reply.header × BodyFits most 128 reply.body

abbrev pub RefusalFits : Refusal → Type 0
RefusalFits r = (r.code < 2 ^ 32) × Bytes r.text

abbrev pub AnswerFits : ℕ → Answer → Type 0
AnswerFits most (Done reply) = ReplyFits most reply
AnswerFits most (Refused r) = RefusalFits r

-- ---- messages of watches

abbrev pub ChangeFits : ℕ → Change → Type 0
ChangeFits most (change.Put kv) = KvFits most kv
ChangeFits most (change.Delete key modified) = Bytes key × (modified ≤ most)

abbrev pub EventFits : ℕ → Event → Type 0
EventFits most e = ChangeFits most e.change × PrevFits most e.prev

abbrev pub EventsFit : ℕ → List Event → Type 0
EventsFit most es = AllOf (EventFits most) es × Few es

abbrev pub MessageFits : ℕ → WatchItem → Type 0
MessageFits most (item.Created h) = HeaderFits most h
MessageFits most (item.Events h es) = HeaderFits most h × EventsFit most es
MessageFits most (item.Canceled h compaction) = HeaderFits most h × (compaction ≤ most)

-- ---- requests

abbrev pub RangeFits : KeyRange → Type 0
RangeFits r = Bytes r.key × Bytes r.end

pub record SortFits (s : Sort) : Type 0 where
  pub order : s.order ≤ 2
  pub target : s.target ≤ 4
  pub min_mod : Number s.min_mod
  pub max_mod : Number s.max_mod
  pub min_create : Number s.min_create
  pub max_create : Number s.max_create

pub record RangeAskFits (ask : RangeAsk) : Type 0 where
  pub range : RangeFits ask.range
  pub revision : Number ask.revision
  pub limit : Number ask.limit
  pub sort : SortFits ask.sort

pub record PutFits (ask : PutAsk) : Type 0 where
  pub key : Bytes ask.key
  pub value : Bytes ask.value
  pub lease : Number ask.lease

abbrev pub DeleteFits : DeleteAsk → Type 0
DeleteFits ask = RangeFits ask.range

-- the operand that the target doesn't use is 0 or empty
abbrev pub OperandFits : Target → ℕ → List ℕ → Type 0
OperandFits Version n v = Number n × (is_empty v ≡ true)
OperandFits Create n v = Number n × (is_empty v ≡ true)
OperandFits Modified n v = Number n × (is_empty v ≡ true)
OperandFits Value n v = (n == 0 ≡ true) × Bytes v
OperandFits Lease n v = Number n × (is_empty v ≡ true)

abbrev pub CompareFits : Compare → Type 0
CompareFits c = RangeFits c.range × OperandFits c.target c.number c.value

abbrev pub ComparesFit : List Compare → Type 0
ComparesFit cs = AllOf CompareFits cs × Few cs

abbrev pub op_row_length : {m : _} → Row_of-Op m → ℕ
op_row_length end_of-Op = 0
op_row_length (more_of-Op one rest) = suc (op_row_length rest)

-- transactions nest at most so deep in it
abbrev mutual
  pub OpFits : ℕ → Op → Type 0
  OpFits deep (op.Range ask) = RangeAskFits ask
  OpFits deep (op.Put ask) = PutFits ask
  OpFits deep (op.Delete ask) = DeleteFits ask
  OpFits deep (op.Txn' compare m success n failure) =
      ComparesFit compare × Within (λ k. OpRowFits k success × OpRowFits k failure) deep × Number (op_row_length success) × Number (op_row_length failure)

  pub OpRowFits : {m : _} → ℕ → Row_of-Op m → Type 0
  OpRowFits deep end_of-Op = Unit {0}
  OpRowFits deep (more_of-Op one rest) = OpFits deep one × OpRowFits deep rest

abbrev pub OpsFit : ℕ → List Op → Type 0
OpsFit deep ops = AllOf (OpFits deep) ops × Few ops

pub record TxnFits (deep : ℕ) (t : TxnAsk) : Type 0 where
  pub compare : ComparesFit t.compare
  pub success : OpsFit deep t.success
  pub failure : OpsFit deep t.failure

abbrev pub WatchFits : WatchAsk → Type 0
WatchFits ask = RangeFits ask.range × Number ask.start

-- operations nest at most so deep in a transaction
abbrev pub RequestFits : ℕ → Request → Type 0
RequestFits deep (request.Range ask) = RangeAskFits ask
RequestFits deep (request.Put ask) = PutFits ask
RequestFits deep (request.Delete ask) = DeleteFits ask
RequestFits deep (request.Txn t) = TxnFits deep t
RequestFits deep (request.Compact revision physical) = Number revision
RequestFits deep (request.Grant ttl lease) = Number ttl × Number lease
RequestFits deep (request.Revoke lease) = Number lease
RequestFits deep (request.KeepAlive lease) = Number lease
RequestFits deep (request.TimeToLive lease keys) = Number lease
RequestFits deep request.Leases = Unit {0}
RequestFits deep (request.Watch ask) = WatchFits ask
