-- A proxy all whose requests, keys and numbers are as the texts of what it sends need them.
use Rattle.std.specs.Prelude.{ℕ, ◌≤◌, List, [], ◌∷◌, Some, Result, Ok}
use Rattle.etcd_types.specs.declared.operation.Op.{Op, Row_of-Op, end_of-Op, more_of-Op}
use Rattle.etcd_types.specs.declared.operation.Op.TheVariants as op
use Rattle.etcd_types.specs.declared.request.Request.{Request}
use Rattle.etcd_types.specs.declared.request.Request.TheVariants as request
use Rattle.proxy_model.specs.declared.lease.Entry.{Entry}
use Rattle.proxy_model.specs.Keyed.{Keyed}
use Rattle.proxy_model.specs.Members.{Members}
use Rattle.proxy_model.specs.SeveralKeys.{written_ranges}
use Rattle.proxy_model.specs.Upstream.{Upstream}
use Rattle.wait_model.specs.declared.found.Found.{Found}
use Rattle.wait_model.specs.declared.write.Write.{Write}
use Rattle.wait_model.specs.declared.write.WriteStage.{WriteStage}
use Rattle.wait_model.specs.declared.write.WriteStage.TheVariants.{Waiting, Sends, Finds}
use Rattle.wait_model.specs.State.{Ownership}
use Rattle.watch_model.specs.State.{Stream, Watch, Broadcasts}
use Rattle.read_model.specs.declared.acquire.Acquire.{Acquire}
use Rattle.read_model.specs.declared.asked.Asked.{Asked}
use Rattle.read_model.specs.State.{Reads, Ground, ground_of}
use Rattle.core_model.specs.declared.event.CoreEvent.{CoreEvent}
use Rattle.core_model.specs.declared.event.CoreEvent.TheVariants as event
use Rattle.core_model.specs.declared.event.Job.{Job}
use Rattle.core_model.specs.declared.event.Job.TheVariants as job
use Rattle.core_model.specs.declared.event.Outcome.{Outcome}
use Rattle.core_model.specs.declared.event.Outcome.TheVariants as outcome
use Rattle.core_model.specs.declared.event.StepFault.{StepFault}
use Rattle.core_model.specs.declared.out_call.OutCall.{OutCall}
use Rattle.core_model.specs.declared.out_call.OutJob.{OutJob}
use Rattle.core_model.specs.declared.out_call.OutJob.TheVariants as for_job
use Rattle.core_model.specs.declared.settings.Settings.{Settings}
use Rattle.core_model.specs.Lookups.{reads_of}
use Rattle.core_model.specs.State.{Seat, Opening, Core}
use Rattle.text_laws.specs.Values.Fits.{AllOf, If, Bytes, Number, Few, AnswerFits, MessageFits, RangeFits, RequestFits}

-- ---- what is kept by key

abbrev pub KeyedFits : {A : Type 0} → (A → Type 0) → Keyed A → Type 0
KeyedFits P es = AllOf (λ e. Bytes e.0 × P e.1) es

abbrev pub EntryFits : Entry → Type 0
EntryFits e = Number e.create

pub record AcquireFits (x : Acquire) : Type 0 where
  pub ticket : Number x.ticket
  pub session : Number x.session

-- ---- how requests nest: a client's doesn't, and one that is sent has a transaction for its only operation at most

abbrev pub IsFlat : Op → Type 0
IsFlat (op.Range ask) = Unit {0}
IsFlat (op.Put ask) = Unit {0}
IsFlat (op.Delete ask) = Unit {0}
IsFlat (op.Txn' compare m success n failure) = ⊥

abbrev pub FlatRow : {m : _} → Row_of-Op m → Type 0
FlatRow end_of-Op = Unit {0}
FlatRow (more_of-Op one rest) = IsFlat one × FlatRow rest

abbrev pub FlatAsk : Request → Type 0
FlatAsk (request.Txn t) = AllOf IsFlat t.success × AllOf IsFlat t.failure
FlatAsk _ = Unit {0}

abbrev pub OneOp : Op → Type 0
OneOp (op.Range ask) = Unit {0}
OneOp (op.Put ask) = Unit {0}
OneOp (op.Delete ask) = Unit {0}
OneOp (op.Txn' compare m success n failure) = FlatRow success × FlatRow failure

abbrev pub NarrowOps : List Op → Type 0
NarrowOps [] = Unit {0}
NarrowOps (o ∷ []) = OneOp o
NarrowOps (o ∷ p ∷ ops) = AllOf IsFlat (o ∷ p ∷ ops)

abbrev pub Narrow : Request → Type 0
Narrow (request.Txn t) = NarrowOps t.success × AllOf IsFlat t.failure
Narrow _ = Unit {0}

-- ---- writes

abbrev pub FoundFits : Found → Type 0
FoundFits f = Bytes f.key × Number f.create

abbrev pub StageFits : WriteStage → Type 0
StageFits Waiting = Unit {0}
StageFits (Sends owner s) = Unit {0}
StageFits (Finds found) = AllOf FoundFits found

-- a write is sent within a transaction
pub record WriteFits (w : Write) : Type 0 where
  pub ticket : Number w.ticket
  pub request : RequestFits 126 w.request
  pub flat : FlatAsk w.request
  pub stage : StageFits w.stage
  pub few : Few (written_ranges w.request)

pub record OwnFits (own : Ownership) : Type 0 where
  pub prefix : Bytes own.waits.prefix
  pub entries : KeyedFits EntryFits own.entries
  pub writes : AllOf WriteFits own.waits.writes

-- ---- requests

pub record AskFits (a : Asked) : Type 0 where
  pub ticket : Number a.ticket
  pub request : RequestFits 127 a.request
  pub flat : FlatAsk a.request

pub record GroundFits (g : Ground) : Type 0 where
  pub own : OwnFits g.own
  pub acquires : KeyedFits AcquireFits g.acquires

pub record ReadsFit (r : Reads) : Type 0 where
  pub ground : GroundFits (ground_of r)
  pub asks : AllOf AskFits r.asks

-- ---- streams

pub record UpstreamFits (u : Upstream) : Type 0 where
  pub range : RangeFits u.range
  pub next : Number u.next

abbrev pub StreamFits : Stream → Type 0
StreamFits s = UpstreamFits s.stream

pub record WatchFits (w : Watch) : Type 0 where
  pub range : RangeFits w.ask.range
  pub next : Number w.next

pub record BroadcastsFit (b : Broadcasts) : Type 0 where
  pub streams : AllOf StreamFits b.streams
  pub watches : AllOf WatchFits b.watches

abbrev pub OpeningFits : Opening → Type 0
OpeningFits o = UpstreamFits o.stream

-- ---- a proxy

abbrev pub JobFits : OutJob → Type 0
JobFits (for_job.Acquire key) = Bytes key
JobFits _ = Unit {0}

abbrev pub OutFits : OutCall → Type 0
OutFits o = JobFits o.job

pub record SettingsFit (s : Settings) : Type 0 where
  pub members : 1 ≤ s.members
  pub few : Number s.members
  pub namespace : Bytes s.namespace
  pub leasing : Bytes s.leasing
  pub ttl : Number s.ttl

pub record MembersFit (m : Members) : Type 0 where
  pub some : 1 ≤ m.count
  pub current : m.current ≤ m.count
  pub few : Number m.count

abbrev pub SeatFits : Seat → Type 0
SeatFits s = Number s.session.number

pub record CoreFits (c : Core) : Type 0 where
  pub settings : SettingsFit c.settings
  pub members : MembersFit c.members
  pub seat : If SeatFits c.seat
  pub leasing : If OpeningFits c.leasing
  pub reads : ReadsFit (reads_of c)
  pub out : AllOf OutFits c.out
  pub watches : BroadcastsFit c.watches

-- ---- what comes to it, and what it sends

-- revisions are at most `most`, so that the one behind each is a number of a text, too
abbrev pub EventFits : ℕ → CoreEvent → Type 0
EventFits most (event.Ask ticket q word) = Number ticket × RequestFits 127 q
EventFits most (event.Answer call a) = AnswerFits most a
EventFits most (event.Item stream x) = MessageFits most x
EventFits most _ = Unit {0}

abbrev pub SentFits : Job → Type 0
SentFits (job.Call call member ticket q) = Number member × Number ticket × RequestFits 127 q × Narrow q
SentFits (job.Begin stream member q) = Number member × RequestFits 127 q
SentFits (job.Close stream) = Unit {0}

abbrev pub OutcomeFits : Result Outcome StepFault → Type 0
OutcomeFits (Ok (outcome.Job (Some j))) = SentFits j
OutcomeFits _ = Unit {0}
