-- Worked scripts: what their lines gain, or why a line is refused. Leasing is by the prefix L/ where it is on.
use Rattle.std.specs.Prelude.{◌≡◌, List, [], ◌∷◌, ◌++◌, codes, None, Some, Err, true, false}
use Rattle.etcd_types.specs.declared.answer.Answer.TheVariants as answer
use Rattle.etcd_types.specs.declared.answer.Body.TheVariants as body
use Rattle.etcd_types.specs.declared.request.Request.{Request}
use Rattle.etcd_types.specs.declared.request.Request.TheVariants as request
use Rattle.etcd_types.specs.declared.watch.WatchItem.TheVariants as message
use Rattle.proxy_model.specs.PassingOn.{call_lost}
use Rattle.core_model.specs.WorkedRuns.{head, done, get_a, put_a, none_there, taken_at, session, acquire_of_a, watch_of_owners}
use Rattle.script_text.specs.declared.item.Item.{Item}
use Rattle.script_text.specs.declared.item.Item.TheVariants as item
use Rattle.script_text.specs.declared.line.Line.{Line}
use Rattle.script_text.specs.declared.line.Line.TheVariants as line
use Rattle.world_model.specs.declared.fault.LineRefusal.TheVariants as refusal
use Rattle.world_model.specs.declared.fault.WorldFault.{WorldFault}
use Rattle.world_model.specs.declared.fault.WorldFault.TheVariants as fault
use Rattle.world_model.specs.Generated.{made, generated, summary}
use Rattle.world_model.specs.LiveSessions.{session_of, is_live}
use Rattle.world_model.specs.Lives.{is_named}
use Rattle.world_model.specs.Reads.{shown_now, given}
use Rattle.world_model.specs.Transcript.{transcript, world_behind}

-- a script is refused at its last line
abbrev RefusedAs : List Line → WorldFault → Type 0
RefusedAs lines why = world_behind lines ≡ Err (refusal.World why)

-- One proxy, no leasing.

abbrev put_x : Request
put_x = put_a (codes "x")

abbrev sending_put : List Line
sending_put = line.World 1 [] [] ∷ line.Start 1 ∷ line.Ask 1 1 put_x ∷ line.Send 1 ∷ []

abbrev put_is_sent : List Item
put_is_sent = item.World 1 [] [] ∷ item.Started 1 ∷ item.Asked 1 1 put_x ∷ item.Sent 1 1 1 1 put_x ∷ []

abbrev pub PutIsPassedOn : Type 0
PutIsPassedOn =
    transcript (sending_put ++ line.Exec 1 ∷ line.Answer 1 ∷ [])
    ≡ put_is_sent ++ item.Executed 1 (done 2 (body.Put None)) ∷ item.Answered 1 ∷ item.Reply 1 1 (done 2 (body.Put None)) ∷ []

-- a call that was lost is executed all the same
abbrev pub LostCallIsExecuted : Type 0
LostCallIsExecuted =
    transcript (sending_put ++ line.Lose 1 ∷ line.Exec 1 ∷ [])
    ≡ put_is_sent ++ item.Lost 1 ∷ item.Reply 1 1 (answer.Refused call_lost) ∷ item.Executed 1 (done 2 (body.Put None)) ∷ []

-- and once
abbrev pub CallIsExecutedOnce : Type 0
CallIsExecutedOnce = RefusedAs (sending_put ++ line.Exec 1 ∷ line.Exec 1 ∷ []) (fault.NoSuchCall 1)

-- a proxy that was started again takes no earlier answer, though it has sent a call since
abbrev pub RestartedTakesNoAnswer : Type 0
RestartedTakesNoAnswer =
    RefusedAs (sending_put ++ line.Exec 1 ∷ line.Start 1 ∷ line.Ask 1 1 get_a ∷ line.Send 1 ∷ line.Answer 1 ∷ []) (fault.NoSuchCall 1)

-- a ticket is one proxy's
abbrev pub TicketsAreAProxys : Type 0
TicketsAreAProxys =
    transcript (sending_put ++ line.Start 2 ∷ line.Ask 2 1 get_a ∷ line.Exec 1 ∷ line.Answer 1 ∷ [])
    ≡ put_is_sent
    ++ item.Started 2
    ∷ item.Asked 2 1 get_a
    ∷ item.Executed 1 (done 2 (body.Put None))
    ∷ item.Answered 1
    ∷ item.Reply 1 1 (done 2 (body.Put None))
    ∷ []

abbrev watch_a : Request
watch_a =
    request.Watch (record { range = record { key = codes "a"; end = [] }; start = 0; no_put = false; no_delete = false; prev_kv = false; progress = false })

abbrev upstream_of_a : Request
upstream_of_a =
    request.Watch (record { range = record { key = codes "a"; end = [] }; start = 0; no_put = false; no_delete = false; prev_kv = true; progress = true })

abbrev watching : List Line
watching = line.World 1 [] [] ∷ line.Start 1 ∷ line.Ask 1 1 watch_a ∷ line.Send 1 ∷ line.Push 1 ∷ []

abbrev pub WatchIsCreated : Type 0
WatchIsCreated =
    transcript (watching ++ line.Deliver 1 ∷ line.Take 1 1 ∷ line.Take 1 1 ∷ [])
    ≡ item.World 1 [] []
    ∷ item.Started 1
    ∷ item.Asked 1 1 watch_a
    ∷ item.Opened 1 1 1 upstream_of_a
    ∷ item.Pushed 1 (message.Created (head 1))
    ∷ item.Delivered 1
    ∷ item.Taken 1 1 (message.Created (head 1))
    ∷ item.Pending 1 1
    ∷ []

-- what wasn't delivered before a cut is not delivered after it
abbrev pub CutDropsMessages : Type 0
CutDropsMessages = RefusedAs (watching ++ line.Cut 1 ∷ line.Deliver 1 ∷ []) (fault.NoSuchStream 1)

-- Two proxies, leasing by L/; the first one has a session and its leasing stream.

abbrev opening : List Line
opening =
    line.World 1 [] (codes "L/")
    ∷ line.Start 1
    ∷ line.Start 2
    ∷ line.Tick 1
    ∷ line.Send 1
    ∷ line.Exec 1
    ∷ line.Answer 1
    ∷ line.Send 1
    ∷ line.Push 1
    ∷ line.Deliver 1
    ∷ []

abbrev opened : List Item
opened =
    item.World 1 [] (codes "L/")
    ∷ item.Started 1
    ∷ item.Started 2
    ∷ item.Ticked 1
    ∷ item.Sent 1 1 1 0 (request.Grant 60 session)
    ∷ item.Executed 1 (done 1 (body.Grant session 60))
    ∷ item.Answered 1
    ∷ item.Opened 1 1 1 watch_of_owners
    ∷ item.Pushed 1 (message.Created (head 1))
    ∷ item.Delivered 1
    ∷ []

abbrev second_read : List Item
second_read =
    opened
    ++ item.Asked 1 1 get_a
    ∷ item.Sent 1 2 1 1 acquire_of_a
    ∷ item.Executed 2 (done 2 (taken_at none_there))
    ∷ item.Answered 2
    ∷ item.Reply 1 1 (done 2 none_there)
    ∷ item.Asked 1 2 get_a
    ∷ []

-- an absent key is read twice; the second read is cached
abbrev pub SecondReadIsCached : Type 0
SecondReadIsCached =
    transcript (opening ++ line.Ask 1 1 get_a ∷ line.Send 1 ∷ line.Exec 2 ∷ line.Answer 2 ∷ line.Ask 1 2 get_a ∷ [])
    ≡ second_read ++ item.Reply 1 2 (done 2 none_there) ∷ []

abbrev delete_k4 : Request
delete_k4 = request.Delete (record { range = record { key = codes "k4"; end = [] }; prev_kv = false })

-- a session doesn't expire before its owner's clock reads its floor
abbrev pub SessionIsNotDue : Type 0
SessionIsNotDue =
    RefusedAs (opening ++ line.Clock 2 60000 ∷ line.Clock 1 59999 ∷ line.Expire session ∷ []) (fault.NotDue 59999 60000)

abbrev pub SessionExpires : Type 0
SessionExpires =
    transcript (opening ++ line.Clock 1 60000 ∷ line.Expire session ∷ [])
    ≡ opened ++ item.Clock 1 60000 ∷ item.Expired session ∷ []

-- clocks outlive a start
abbrev pub ClocksOutliveStarts : Type 0
ClocksOutliveStarts = RefusedAs (opening ++ line.Clock 2 7 ∷ line.Start 2 ∷ line.Clock 2 6 ∷ []) (fault.ClockBack 7 6)

-- What a transcript tells: the proxy has its session, and is live below the deadline.

abbrev pub SessionIsTold : Type 0
SessionIsTold = session_of 1 opened ≡ Some (record { number = session; deadline = 60000; ended = false })

abbrev pub LiveBelowDeadline : Type 0
LiveBelowDeadline = is_live 1 (opened ++ item.Clock 1 59999 ∷ []) ≡ true

abbrev pub NotLiveAtDeadline : Type 0
NotLiveAtDeadline = is_live 1 (opened ++ item.Clock 1 60000 ∷ []) ≡ false

-- it ends by a step at its deadline, and no later keepalive helps it
abbrev pub EndsByStep : Type 0
EndsByStep =
    session_of 1 (opened ++ item.Clock 1 60000 ∷ item.Ticked 1 ∷ []) ≡ Some (record { number = session; deadline = 60000; ended = true })

-- the cached read of an absent key: no call names it, and what the store holds for its key is nothing
abbrev pub CachedReadIsUnsent : Type 0
CachedReadIsUnsent = is_named 1 2 second_read ≡ false

abbrev pub CachedReadShowsStore : Type 0
CachedReadShowsStore = shown_now second_read (codes "a") ≡ none_there

abbrev pub RevisionsAreGiven : Type 0
RevisionsAreGiven = given 1 second_read ≡ 1 ∷ 1 ∷ 2 ∷ []

-- of the generated script of 1: the deletion that it asks deletes nothing
abbrev pub OneIsGenerated : Type 0
OneIsGenerated =
    generated 1
    ≡ line.World 2 [] (codes "L/")
    ∷ line.Start 1
    ∷ line.Start 2
    ∷ line.Start 3
    ∷ line.Tick 1
    ∷ line.Tick 2
    ∷ line.Tick 3
    ∷ line.Send 1
    ∷ line.Exec 1
    ∷ line.Answer 1
    ∷ line.Send 1
    ∷ line.Send 2
    ∷ line.Exec 2
    ∷ line.Answer 2
    ∷ line.Send 2
    ∷ line.Send 3
    ∷ line.Exec 3
    ∷ line.Answer 3
    ∷ line.Send 3
    ∷ line.Push 1
    ∷ line.Deliver 1
    ∷ line.Push 2
    ∷ line.Deliver 2
    ∷ line.Push 3
    ∷ line.Deliver 3
    ∷ line.Ask 3 1 delete_k4
    ∷ line.Send 3
    ∷ line.Exec 4
    ∷ line.Answer 4
    ∷ []

abbrev pub OneIsSummed : Type 0
OneIsSummed = summary (made 1).items ≡ record { asked = 1; replied = 1; unsent = 0; revision = 1 }
