-- Worked transcripts: each keeps the rules, or the first item that breaks one is named.
use Rattle.std.specs.Prelude.{◌≡◌, ℕ, List, [], ◌∷◌, ◌++◌, codes, Option, None, Some, Bool, true, false}
use Rattle.etcd_types.specs.declared.answer.Answer.{Answer}
use Rattle.etcd_types.specs.declared.answer.Body.TheVariants as body
use Rattle.etcd_types.specs.declared.operation.Op.TheVariants as op
use Rattle.etcd_types.specs.declared.operation.Relation.TheVariants as relation
use Rattle.etcd_types.specs.declared.operation.Target.TheVariants as target
use Rattle.etcd_types.specs.declared.record.Kv.{Kv}
use Rattle.etcd_types.specs.declared.request.Request.{Request}
use Rattle.etcd_types.specs.declared.request.Request.TheVariants as request
use Rattle.etcd_types.specs.declared.watch.Change.TheVariants as change
use Rattle.etcd_types.specs.declared.watch.Event.{Event}
use Rattle.etcd_types.specs.declared.watch.WatchItem.{WatchItem}
use Rattle.etcd_types.specs.declared.watch.WatchItem.TheVariants as message
use Rattle.core_model.specs.WorkedRuns.{head, done, get_a, put_a, none_there}
use Rattle.proxy_model.specs.Asks.{range_ask}
use Rattle.proxy_model.specs.Prefixes.{only}
use Rattle.script_text.specs.declared.item.Item.{Item}
use Rattle.script_text.specs.declared.item.Item.TheVariants as item
use Rattle.audit_model.specs.declared.fault.AuditFault.{AuditFault}
use Rattle.audit_model.specs.declared.fault.AuditFault.TheVariants as fault
use Rattle.audit_model.specs.Broken.{first_broken, Meets}
use Rattle.audit_model.specs.Summaries.{summary}

-- it keeps the rules, and these are its counts
pub record Counts (items : List Item) (i u w : ℕ) : Type 0 where
  pub meets : Meets items
  pub counts : summary items ≡ record { items = i; unsent = u; watches = w }

abbrev BreaksAt : List Item → ℕ → AuditFault → Type 0
BreaksAt items position f = first_broken items ≡ Some (record { position = position; why = f })

-- ---- a put, and two reads behind it

abbrev record_of : List ℕ → Kv
record_of value = record { key = codes "a"; value = value; create = 2; modified = 2; version = 1; lease = 0 }

abbrev put_x : Request
put_x = put_a (codes "x")

abbrev put_done : Answer
put_done = done 2 (body.Put None)

abbrev shows_x : Answer
shows_x = done 2 (body.Range 1 false (record_of (codes "x") ∷ []))

abbrev started : List Item
started = item.World 1 [] [] ∷ item.Started 1 ∷ []

abbrev asked : List Item
asked = started ++ item.Asked 1 1 put_x ∷ []

abbrev sent : List Item
sent = asked ++ item.Sent 1 1 1 1 put_x ∷ []

abbrev executed : List Item
executed = sent ++ item.Executed 1 put_done ∷ []

abbrev put : List Item
put = executed ++ item.Answered 1 ∷ item.Reply 1 1 put_done ∷ []

-- a read of a that is sent
abbrev read : List Item
read =
    put
    ++ item.Asked 1 2 get_a
    ∷ item.Sent 1 2 1 2 get_a
    ∷ item.Executed 2 shows_x
    ∷ item.Answered 2
    ∷ item.Reply 1 2 shows_x
    ∷ []

abbrev pub PutIsInOrder : Type 0
PutIsInOrder = Counts read 12 0 0

abbrev pub OtherAnswerIsNamed : Type 0
OtherAnswerIsNamed =
    BreaksAt (put ++ item.Asked 1 2 get_a ∷ item.Sent 1 2 1 2 get_a ∷ item.Executed 2 (done 2 (body.Range 1 false (record_of (codes "y") ∷ []))) ∷ []) 10 (fault.Answer 2)

abbrev pub NothingKeepsTheRules : Type 0
NothingKeepsTheRules = Counts [] 0 0 0

abbrev pub StartIsNoFirstItem : Type 0
StartIsNoFirstItem = BreaksAt (item.Started 1 ∷ []) 1 (fault.Order 1)

abbrev pub WorldIsOnce : Type 0
WorldIsOnce = BreaksAt (item.World 1 [] [] ∷ item.World 1 [] [] ∷ []) 2 (fault.Order 0)

abbrev pub ProxyIsStartedFirst : Type 0
ProxyIsStartedFirst = BreaksAt (item.World 1 [] [] ∷ item.Asked 1 1 put_x ∷ []) 2 (fault.Order 1)

abbrev pub CallsAreNumbered : Type 0
CallsAreNumbered = BreaksAt (asked ++ item.Sent 1 2 1 1 put_x ∷ []) 4 (fault.Order 2)

abbrev pub MembersAreTheWorlds : Type 0
MembersAreTheWorlds = BreaksAt (asked ++ item.Sent 1 1 2 1 put_x ∷ []) 4 (fault.Order 1)

abbrev pub CallIsExecutedFirst : Type 0
CallIsExecutedFirst = BreaksAt (sent ++ item.Answered 1 ∷ []) 5 (fault.Order 1)

abbrev pub CallIsExecutedOnce : Type 0
CallIsExecutedOnce = BreaksAt (executed ++ item.Executed 1 put_done ∷ []) 6 (fault.Order 1)

abbrev pub TicketIsRepliedOnce : Type 0
TicketIsRepliedOnce = BreaksAt (put ++ item.Reply 1 1 put_done ∷ []) 8 (fault.Order 1)

abbrev pub ClocksRise : Type 0
ClocksRise = BreaksAt (started ++ item.Clock 1 5 ∷ item.Clock 1 4 ∷ []) 4 (fault.Order 1)

abbrev pub EarlierLifesCallIsRefused : Type 0
EarlierLifesCallIsRefused = BreaksAt (executed ++ item.Restarted 1 ∷ item.Answered 1 ∷ []) 7 (fault.Order 1)

abbrev pub TicketsAreALifes : Type 0
TicketsAreALifes = Counts (put ++ item.Restarted 1 ∷ item.Asked 1 1 put_x ∷ []) 9 0 0

-- ---- unsent replies

abbrev unsent_read : Request → Answer → List Item
unsent_read q a = put ++ item.Asked 1 2 q ∷ item.Reply 1 2 a ∷ []

abbrev pub UnsentReadIsTrue : Type 0
UnsentReadIsTrue = Counts (unsent_read get_a shows_x) 9 1 0

-- a call that names its ticket later makes it one that was sent
abbrev pub LaterCallNamesIt : Type 0
LaterCallNamesIt = Counts (unsent_read get_a shows_x ++ item.Sent 1 2 1 2 get_a ∷ []) 10 0 0

abbrev pub UnsentReadShowsTheStore : Type 0
UnsentReadShowsTheStore = BreaksAt (unsent_read get_a (done 2 none_there)) 9 (fault.Unsent 2)

abbrev pub NoHeaderIsNewer : Type 0
NoHeaderIsNewer = BreaksAt (unsent_read get_a (done 3 (body.Range 1 false (record_of (codes "x") ∷ [])))) 9 (fault.Unsent 2)

-- nor is one older than what the proxy was given: here the answer to the put
abbrev pub NoHeaderIsOlder : Type 0
NoHeaderIsOlder = BreaksAt (unsent_read get_a (done 1 (body.Range 1 false (record_of (codes "x") ∷ [])))) 9 (fault.Unsent 2)

abbrev serializable_get : Request
serializable_get = request.Range (record (range_ask (only (codes "a"))) { serializable = true })

abbrev pub NoSerializableReadIsUnsent : Type 0
NoSerializableReadIsUnsent = BreaksAt (unsent_read serializable_get shows_x) 9 (fault.Unsent 2)

-- where a's value is x, it is read
abbrev reads_x : Request
reads_x =
    request.Txn
    (record {
      compare = record { range = only (codes "a"); target = target.Value; relation = relation.Equal; number = 0; value = codes "x" } ∷ [];
      success = op.Range (range_ask (only (codes "a"))) ∷ [];
      failure = [];
    })

abbrev pub SnapshotIsTrue : Type 0
SnapshotIsTrue = Counts (unsent_read reads_x (done 2 (body.Txn true (body.Range 1 false (record_of (codes "x") ∷ []) ∷ [])))) 9 0 0

abbrev pub SnapshotIsTheStores : Type 0
SnapshotIsTheStores = BreaksAt (unsent_read reads_x (done 2 (body.Txn false []))) 9 (fault.Unsent 2)

-- ---- a watch

abbrev asks_a : Bool → Request
asks_a flag =
    request.Watch (record { range = only (codes "a"); start = 0; no_put = false; no_delete = false; prev_kv = flag; progress = true })

abbrev watch_a : Request
watch_a = asks_a false

abbrev upstream_of_a : Request
upstream_of_a = asks_a true

abbrev created : WatchItem
created = message.Created (head 1)

abbrev put_event : List ℕ → Option Kv → Event
put_event value prev = record { change = change.Put (record_of value); prev = prev }

abbrev event_of : List ℕ → WatchItem
event_of value = message.Events (head 2) (put_event value None ∷ [])

abbrev progress : ℕ → WatchItem
progress revision = message.Events (head revision) []

abbrev watched : List Item
watched =
    started
    ++ item.Asked 1 1 watch_a
    ∷ item.Opened 1 1 1 upstream_of_a
    ∷ item.Pushed 1 created
    ∷ item.Delivered 1
    ∷ item.Asked 1 2 put_x
    ∷ item.Sent 1 1 1 2 put_x
    ∷ item.Executed 1 put_done
    ∷ item.Answered 1
    ∷ item.Reply 1 2 put_done
    ∷ []

abbrev delivered : List Item
delivered = watched ++ item.Pushed 1 (event_of (codes "x")) ∷ item.Delivered 1 ∷ []

abbrev taken : List Item
taken = delivered ++ item.Taken 1 1 created ∷ item.Taken 1 1 (event_of (codes "x")) ∷ []

abbrev pub WatchTakesItsEvents : Type 0
WatchTakesItsEvents = Counts taken 15 0 1

abbrev pub CreatedIsFirst : Type 0
CreatedIsFirst = BreaksAt (delivered ++ item.Taken 1 1 (event_of (codes "x")) ∷ []) 14 (fault.Watch 1)

abbrev pub EventsComeOnce : Type 0
EventsComeOnce = BreaksAt (taken ++ item.Taken 1 1 (event_of (codes "x")) ∷ []) 16 (fault.Watch 1)

abbrev pub MessagesAreTheStores : Type 0
MessagesAreTheStores = BreaksAt (watched ++ item.Pushed 1 (event_of (codes "y")) ∷ []) 12 (fault.Push 1)

-- a stream that has something to push has no message on its progress
abbrev pub StreamIsSynced : Type 0
StreamIsSynced = BreaksAt (watched ++ item.Pushed 1 (progress 2) ∷ []) 12 (fault.Push 1)

-- all events up to its revision were taken, and no later one
pub record ProgressIsRight : Type 0 where
  pub older : BreaksAt (taken ++ item.Taken 1 1 (progress 1) ∷ []) 16 (fault.Watch 1)
  pub same : Counts (taken ++ item.Taken 1 1 (progress 2) ∷ []) 16 0 1
  pub newer : BreaksAt (taken ++ item.Taken 1 1 (progress 3) ∷ []) 16 (fault.Watch 1)

abbrev pub ProgressIsEqual : Type 0
ProgressIsEqual = ProgressIsRight

-- a record before the event stands only where it was asked for
abbrev pub PrevIsAskedFor : Type 0
PrevIsAskedFor =
    BreaksAt
    (delivered ++ item.Taken 1 1 created ∷ item.Taken 1 1 (message.Events (head 2) (put_event (codes "x") (Some (record_of (codes "w"))) ∷ [])) ∷ [])
    15
    (fault.Watch 1)

abbrev pub CancellationIsPushed : Type 0
CancellationIsPushed = BreaksAt (taken ++ item.Taken 1 1 (message.Canceled (head 2) 5) ∷ []) 16 (fault.Watch 1)

-- ---- a session

abbrev session : ℕ
session = 4611686018427387908

abbrev granted : List Item
granted =
    started ++ item.Sent 1 1 1 0 (request.Grant 60 session) ∷ item.Executed 1 (done 1 (body.Grant session 60)) ∷ []

abbrev pub SessionIsEarly : Type 0
SessionIsEarly = BreaksAt (granted ++ item.Expired session ∷ []) 5 (fault.Early 0 60000)

abbrev pub SessionExpires : Type 0
SessionExpires = Counts (granted ++ item.Clock 1 60000 ∷ item.Expired session ∷ []) 6 0 0

-- ---- the store's own items

pub record StoreHasThem : Type 0 where
  pub lease : BreaksAt (item.World 1 [] [] ∷ item.Expired 7 ∷ []) 2 (fault.Order 7)
  pub member : BreaksAt (item.World 1 [] [] ∷ item.Applied 2 1 ∷ []) 2 (fault.Order 2)

abbrev pub StoreItemsAreTheStores : Type 0
StoreItemsAreTheStores = StoreHasThem
