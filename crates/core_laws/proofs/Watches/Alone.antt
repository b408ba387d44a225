-- Every step of a proxy leaves the streams of one range that stand created with different next, and a watch that is asked opens a stream
-- only where it finds none to join.
use Rattle.std.proofs.Common.{◌≡◌, inl, inr, ℕ, true, false, cond, List, Option, None, Some, is_some, Ok, Err, Result, refl, sym, ap, subst}
use Rattle.etcd_types.specs.declared.record.Header.{Header}
use Rattle.etcd_types.specs.declared.request.Request.TheVariants as request
use Rattle.etcd_types.specs.declared.request.WatchAsk.{WatchAsk}
use Rattle.etcd_types.specs.declared.watch.WatchItem.{WatchItem}
use Rattle.etcd_types.specs.declared.watch.WatchItem.TheVariants as item
use Rattle.proxy_model.specs.Unwrapped.{Unwrapped, item_without}
use Rattle.watch_model.specs.Joining.{new_watch, watched_range, seated_at, stream_to_join}
use Rattle.watch_model.specs.Lookups.{stream_at, is_begun, numbered}
use Rattle.watch_model.specs.State.{Stream, Broadcasts}
use Rattle.watch_laws.specs.Alone.{StandAlone}
use Rattle.watch_laws.proofs.Seating.{each_found}
use Rattle.watch_laws.proofs.Standing.{cuts_leave, creations_leave, deliveries_leave, cancellations_leave, joins_leave, takes_leave, leaving_leaves, sent_leaves}
use Rattle.core_model.specs.declared.event.CoreEvent.{CoreEvent}
use Rattle.core_model.specs.declared.event.CoreEvent.TheVariants as event
use Rattle.core_model.specs.declared.event.Outcome.{Outcome}
use Rattle.core_model.specs.declared.event.StepFault.{StepFault}
use Rattle.core_model.specs.Stepped.{Stepped}
use Rattle.core_laws.specs.Watches.Streams.{StepsLeaveAlone, JoinsAmong, StepsJoin}
use Rattle.core_laws.proofs.Watches.Runs.{itself, among}
use Rattle.core_laws.proofs.Watches.Touches.{Side, told_message, told_unwrapped, told_stream, Touch, leaves, hears, ticks, joins, heard_leasing, broke_leasing, cut_leasing, told, cut, took, left_it, opens_leasing, sends, step_touches}

message_leaves : (b : Broadcasts) (s : Stream) (last : Header) (x : WatchItem) → stream_at s.number b.streams ≡ Some s → StandAlone b.streams → StandAlone (told_message b s last x).streams
message_leaves b s last (item.Created header) e h = creations_leave b s header last e h
message_leaves b s last (item.Events header events) e h = deliveries_leave b s header events e h
message_leaves b s last (item.Canceled header compact) e h = cancellations_leave b s header compact last h

unwrapped_leaves : (b : Broadcasts) (s : Stream) (last : Header) (x : Unwrapped WatchItem) → stream_at s.number b.streams ≡ Some s → StandAlone b.streams → StandAlone (told_unwrapped b s last x).streams
unwrapped_leaves b s last (Ok x) e h = message_leaves b s last x e h
unwrapped_leaves b s last (Err foreign) e h = cuts_leave b s h

told_leaves : (b : Broadcasts) (s : Stream) (last : Header) (namespace : List ℕ) (x : WatchItem) → stream_at s.number b.streams ≡ Some s → StandAlone b.streams → StandAlone (told_stream b s last namespace x).streams
told_leaves b s last namespace x e h =
    elim (is_begun s.phase) as (λ c. StandAlone (cond c (told_unwrapped b s last (item_without namespace x)) b).streams) [ true ↦ unwrapped_leaves b s last (item_without namespace x) e h | false ↦ h ]

touch_leaves : (namespace : List ℕ) (a d : Side) (e : CoreEvent) (o : Result Outcome StepFault) → numbered 0 a.broadcasts.given a.broadcasts.streams ≡ true → StandAlone a.broadcasts.streams → Touch namespace a e d o → StandAlone d.broadcasts.streams
touch_leaves namespace a _ _ _ n h (leaves e o p) = h
touch_leaves namespace a _ _ _ n h (hears call reply o p) = h
touch_leaves namespace a _ _ _ n h (ticks word) = h
touch_leaves namespace a _ _ _ n h (joins ticket ask word f) = joins_leave a.broadcasts ticket ask a.header h
touch_leaves namespace a _ _ _ n h (heard_leasing number x l) = h
touch_leaves namespace a _ _ _ n h (broke_leasing number x l) = h
touch_leaves namespace a _ _ _ n h (cut_leasing number l) = h
touch_leaves namespace a _ _ _ n h (told number x s f) = told_leaves a.broadcasts s _ namespace x (itself number a.broadcasts.streams s f) h
touch_leaves namespace a _ _ _ n h (cut number s f) = cuts_leave a.broadcasts s h
touch_leaves namespace a _ _ _ n h (took ticket w i is f q) = takes_leave a.broadcasts a.header w h
touch_leaves namespace a _ _ _ n h (left_it ticket) = leaving_leaves a.broadcasts ticket h
touch_leaves namespace a _ _ _ n h (opens_leasing number member q l) = h
touch_leaves namespace a _ _ _ n h (sends c s m l i) =
    sent_leaves a.broadcasts s s.phase refl (among (λ t. stream_at t.number a.broadcasts.streams ≡ Some t) a.broadcasts.streams s i (each_found a.broadcasts.given a.broadcasts.streams n)) h

pub steps_leave_alone : StepsLeaveAlone
steps_leave_alone c e now w h =
    elim (step_touches c e now) [
      | inl worn ↦ subst (λ (s : Stepped). StandAlone s.core.watches.streams) (sym worn) h
      | inr t ↦ touch_leaves c.settings.namespace _ _ e _ w.numbers h t
    ]

-- ---- a watch that is asked

found_keeps : (b : Broadcasts) (ticket : ℕ) (ask : WatchAsk) (last : Header) (o : Option Stream) → is_some o ≡ true → (seated_at b.streams b.given b.step last (new_watch ticket ask) o).streams ≡ b.streams
found_keeps b ticket ask last None h = absurd (cc)
found_keeps b ticket ask last (Some s) h = refl

pub same_joins : (ss us : List Stream) (header : Header) (e : CoreEvent) → us ≡ ss → JoinsAmong ss header e us
same_joins ss us header (event.Ask ticket (request.Watch ask) word) s = λ h. s
same_joins ss us header (event.Ask ticket (request.Range ask) word) s = tt
same_joins ss us header (event.Ask ticket (request.Put ask) word) s = tt
same_joins ss us header (event.Ask ticket (request.Delete ask) word) s = tt
same_joins ss us header (event.Ask ticket (request.Txn t) word) s = tt
same_joins ss us header (event.Ask ticket (request.Compact revision physical) word) s = tt
same_joins ss us header (event.Ask ticket (request.Grant ttl lease) word) s = tt
same_joins ss us header (event.Ask ticket (request.Revoke lease) word) s = tt
same_joins ss us header (event.Ask ticket (request.KeepAlive lease) word) s = tt
same_joins ss us header (event.Ask ticket (request.TimeToLive lease keys) word) s = tt
same_joins ss us header (event.Ask ticket request.Leases word) s = tt
same_joins ss us header (event.Answer call a) s = tt
same_joins ss us header (event.Lost call) s = tt
same_joins ss us header (event.Tick word) s = tt
same_joins ss us header (event.Item number x) s = tt
same_joins ss us header (event.Cut number) s = tt
same_joins ss us header (event.Take ticket) s = tt
same_joins ss us header (event.Leave ticket) s = tt
same_joins ss us header event.Work s = tt

touch_joins : (namespace : List ℕ) (a d : Side) (e : CoreEvent) (o : Result Outcome StepFault) → Touch namespace a e d o → JoinsAmong a.broadcasts.streams a.header e d.broadcasts.streams
touch_joins namespace a _ _ _ (leaves e o p) = same_joins a.broadcasts.streams a.broadcasts.streams a.header e refl
touch_joins namespace a _ _ _ (hears call reply o p) = tt
touch_joins namespace a _ _ _ (ticks word) = tt
touch_joins namespace a _ _ _ (joins ticket ask word f) =
    λ h. found_keeps a.broadcasts ticket ask a.header (stream_to_join a.broadcasts.streams (watched_range ask.range) ask.start a.header.revision) h
touch_joins namespace a _ _ _ (heard_leasing number x l) = tt
touch_joins namespace a _ _ _ (broke_leasing number x l) = tt
touch_joins namespace a _ _ _ (cut_leasing number l) = tt
touch_joins namespace a _ _ _ (told number x s f) = tt
touch_joins namespace a _ _ _ (cut number s f) = tt
touch_joins namespace a _ _ _ (took ticket w i is f q) = tt
touch_joins namespace a _ _ _ (left_it ticket) = tt
touch_joins namespace a _ _ _ (opens_leasing number member q l) = tt
touch_joins namespace a _ _ _ (sends c s m l i) = tt

pub steps_join : StepsJoin
steps_join c e now =
    elim (step_touches c e now) [
      | inl worn ↦ same_joins c.watches.streams _ c.header e (ap (λ (s : Stepped). s.core.watches.streams) worn)
      | inr t ↦ touch_joins c.settings.namespace _ _ e _ t
    ]
