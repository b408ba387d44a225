-- What an unanswered request waits for, and a watch that wasn't cancelled. A request: a call that is due or out and names its ticket; a
-- plain read: an acquire or an owner write of its key; a write: an acquire of a covered key or a rescind of a covered entry, the deletion
-- of an owner that was asked, or an earlier write that shares a key; a keepalive: the call that it shares or the one before it.
use Rattle.std.specs.Prelude.{◌≡◌, ℕ, Bool, true, false, List, ◌∷◌, ◌++◌, None, Some}
use Rattle.std.specs.List.{list_any}
use Rattle.proxy_model.specs.declared.lease.Entry.{Entry}
use Rattle.proxy_model.specs.Keyed.{at}
use Rattle.wait_model.specs.declared.found.Asking.TheVariants as asking
use Rattle.wait_model.specs.declared.found.Found.{Found}
use Rattle.wait_model.specs.declared.sending.Sending.{Sending}
use Rattle.wait_model.specs.declared.write.Write.{Write}
use Rattle.wait_model.specs.declared.write.WriteStage.TheVariants.{Sends, Finds}
use Rattle.wait_model.specs.Covers.{covers, shares}
use Rattle.wait_model.specs.Writes.{first_by}
use Rattle.read_model.specs.declared.acquire.Acquire.{Acquire}
use Rattle.read_model.specs.declared.asked.Asked.{Asked}
use Rattle.read_model.specs.declared.asked.Stage.TheVariants as stage
use Rattle.read_model.specs.PlainRead.{ask_key}
use Rattle.watch_model.specs.declared.place.WatchPlace.{WatchPlace}
use Rattle.watch_model.specs.declared.place.WatchPlace.TheVariants as place
use Rattle.watch_model.specs.declared.stream.StreamPhase.{StreamPhase}
use Rattle.watch_model.specs.declared.stream.StreamPhase.TheVariants as phase
use Rattle.watch_model.specs.Lookups.{stream_at}
use Rattle.watch_model.specs.Queues.{is_nil}
use Rattle.watch_model.specs.State.{Stream, Watch}
use Rattle.core_model.specs.Asking.{is_leased_read}
use Rattle.core_model.specs.ClockWork.{is_replied}
use Rattle.core_model.specs.DueJobs.{lease_of}
use Rattle.core_model.specs.Fits.{is_keepalive}
use Rattle.core_model.specs.Groups.{is_out_for}
use Rattle.core_model.specs.State.{Core}
use Rattle.core_fits.specs.Fits.{EachOf}
use Rattle.waiting_laws.specs.Calls.{has_due, is_of_stream, AskRuns, AcquireRuns, KeepaliveRuns, WriteRuns, RevokeRuns, RescindRuns}

-- ---- a call that names its ticket

-- its own
pub record HasCall (c : Core) (a : Asked) : Type 0 where
  pub sending : Sending
  pub stands : a.stage ≡ stage.Calling sending
  pub runs : AskRuns c a.ticket sending

-- an acquire of a key that is due or out
pub record AcquireOf (c : Core) (k : List ℕ) : Type 0 where
  pub acquire : Acquire
  pub stands : at c.acquires k ≡ Some acquire
  pub runs : AcquireRuns c k acquire.ticket acquire.sending

-- the acquire of its key, which is for it
pub record HasAcquire (c : Core) (a : Asked) : Type 0 where
  pub acquire : AcquireOf c (ask_key a)
  pub named : acquire.acquire.ticket ≡ a.ticket

-- ---- a plain read: an acquire or an owner write of its key

abbrev pub IsPlainRead : Core → Asked → Type 0
IsPlainRead c a = is_leased_read c.own.waits.prefix a.request ≡ true

-- the first write over the key is its owner's, whose call is due or out
pub record OwnerWriteOf (c : Core) (k : List ℕ) : Type 0 where
  pub write : Write
  pub first : first_by (λ w. covers w k) c.own.waits.writes ≡ Some write
  pub sending : Sending
  pub stands : write.stage ≡ Sends true sending
  pub runs : WriteRuns c write.ticket sending

-- ---- a write

-- the request, as it stands among the writes in order of asking
pub record IsWrite (c : Core) (a : Asked) : Type 0 where
  pub earlier : List Write
  pub write : Write
  pub later : List Write
  pub stands : c.own.waits.writes ≡ earlier ++ write ∷ later
  pub named : write.ticket ≡ a.ticket
  pub same : write.request ≡ a.request

-- its own call
pub record SendsCall (c : Core) (w : Write) : Type 0 where
  pub owner : Bool
  pub sending : Sending
  pub stands : w.stage ≡ Sends owner sending
  pub runs : WriteRuns c w.ticket sending

-- an owner that an answer to its own call showed
pub record FindsOwner (w : Write) (f : Found) : Type 0 where
  pub before : List Found
  pub after : List Found
  pub stands : w.stage ≡ Finds (before ++ f ∷ after)

-- the call that asks the owner to give its key up
pub record AsksOwner (c : Core) (w : Write) : Type 0 where
  pub found : Found
  pub finds : FindsOwner w found
  pub runs : RevokeRuns c w.ticket found.key found.revoke

-- that call was answered, as succeeded since the owner isn't gone by it; and no deletion was delivered
pub record AwaitsDeletion (w : Write) : Type 0 where
  pub found : Found
  pub finds : FindsOwner w found
  pub answered : found.revoke ≡ asking.Done
  pub stays : found.gone ≡ false

-- an acquire of a key that it covers
pub record IsBehindAcquire (c : Core) (w : Write) : Type 0 where
  pub key : List ℕ
  pub covered : covers w key ≡ true
  pub acquire : AcquireOf c key

-- the rescind of an entry
pub record RescindOf (c : Core) (k : List ℕ) : Type 0 where
  pub entry : Entry
  pub stands : at c.own.entries k ≡ Some entry
  pub runs : RescindRuns c k entry

-- the rescind of an entry that it covers
pub record IsBehindRescind (c : Core) (w : Write) : Type 0 where
  pub key : List ℕ
  pub covered : covers w key ≡ true
  pub rescind : RescindOf c key

-- an earlier write that shares a key with it
abbrev pub IsBehindWrite : List Write → Write → Type 0
IsBehindWrite earlier w = list_any (shares w) earlier ≡ true

-- ---- a keepalive

-- its group's call
pub record SharesKeepalive (c : Core) (a : Asked) : Type 0 where
  pub sending : Sending
  pub stands : a.stage ≡ stage.Grouped (Some sending)
  pub runs : KeepaliveRuns c (lease_of a.request) a.ticket sending

-- the one of the lease that is out before
pub record FollowsKeepalive (c : Core) (a : Asked) : Type 0 where
  pub stands : a.stage ≡ stage.Grouped None
  pub out : is_out_for (lease_of a.request) c.out ≡ true

-- ---- one of these

pub data WaitsFor (c : Core) (a : Asked) : Type 0 where
  calls : HasCall c a → WaitsFor c a
  acquires : HasAcquire c a → WaitsFor c a
  joined : IsPlainRead c a → AcquireOf c (ask_key a) → WaitsFor c a
  behind_owner : IsPlainRead c a → OwnerWriteOf c (ask_key a) → WaitsFor c a
  sends : (x : IsWrite c a) → SendsCall c x.write → WaitsFor c a
  asks_owner : (x : IsWrite c a) → AsksOwner c x.write → WaitsFor c a
  awaits_deletion : (x : IsWrite c a) → AwaitsDeletion x.write → WaitsFor c a
  behind_acquire : (x : IsWrite c a) → IsBehindAcquire c x.write → WaitsFor c a
  behind_rescind : (x : IsWrite c a) → IsBehindRescind c x.write → WaitsFor c a
  behind_write : (x : IsWrite c a) → IsBehindWrite x.earlier x.write → WaitsFor c a
  shares_keepalive : is_keepalive a.request ≡ true → SharesKeepalive c a → WaitsFor c a
  follows_keepalive : is_keepalive a.request ≡ true → FollowsKeepalive c a → WaitsFor c a

-- no request without a reply waits for nothing
abbrev pub EachRequestWaits : Core → Type 0
EachRequestWaits c = EachOf (λ a. is_replied a.stage ≡ false → WaitsFor c a) c.asks

-- ---- a watch that wasn't cancelled

abbrev pub is_ended : WatchPlace → Bool
is_ended place.Ended = true
is_ended _ = false

-- the stream is due, or it was begun, and isn't to be closed
abbrev pub StreamRuns : Core → ℕ → StreamPhase → Type 0
StreamRuns c number (phase.Due since) = has_due (is_of_stream number) c ≡ true
StreamRuns c number phase.Begun = Unit {0}
StreamRuns c number (phase.Closing since) = ⊥

pub record IsMember (c : Core) (w : Watch) : Type 0 where
  pub stream : Stream
  pub joined : w.place ≡ place.In stream.number
  pub stands : stream_at stream.number c.watches.streams ≡ Some stream
  pub runs : StreamRuns c stream.number stream.phase

-- it was split off, and events stand in its queue
pub record HasQueue (w : Watch) : Type 0 where
  pub split : w.place ≡ place.Split
  pub queued : is_nil w.queue ≡ false

pub data WatchWaitsFor (c : Core) (w : Watch) : Type 0 where
  member : IsMember c w → WatchWaitsFor c w
  queued : HasQueue w → WatchWaitsFor c w

abbrev pub EachWatchWaits : Core → Type 0
EachWatchWaits c = EachOf (λ w. is_ended w.place ≡ false → WatchWaitsFor c w) c.watches.watches

-- ---- neither

pub record NothingIsIdle (c : Core) : Type 0 where
  pub requests : EachRequestWaits c
  pub watches : EachWatchWaits c
