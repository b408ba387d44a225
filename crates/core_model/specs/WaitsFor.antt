-- What a request without a reply waits for, read off the state: a call that names it, an acquire or an owner write of its key, what
-- holds its write back, an owner that was asked and whose deletion isn't told yet, an earlier write, or a keepalive that is out.
use Rattle.std.specs.Prelude.{◌≡◌, ◌⊎◌, ℕ, Bool, true, false, not, List, [], ◌∷◌, ◌++◌, Option, None, Some}
use Rattle.std.specs.List.{list_any, list_all}
use Rattle.proxy_model.specs.Keyed.{at}
use Rattle.wait_model.specs.declared.sending.Sending.{Sending}
use Rattle.wait_model.specs.declared.write.Write.{Write}
use Rattle.wait_model.specs.declared.write.WriteStage.{WriteStage}
use Rattle.wait_model.specs.declared.write.WriteStage.TheVariants.{Waiting, Sends, Finds}
use Rattle.wait_model.specs.Covers.{covers, shares}
use Rattle.wait_model.specs.Fits.{is_held_back}
use Rattle.wait_model.specs.Stages.{is_owner, is_over}
use Rattle.wait_model.specs.State.{Ownership}
use Rattle.wait_model.specs.Writes.{first_by}
use Rattle.read_model.specs.declared.acquire.Acquire.{Acquire}
use Rattle.read_model.specs.declared.asked.Asked.{Asked}
use Rattle.read_model.specs.declared.asked.Stage.{Stage}
use Rattle.read_model.specs.declared.asked.Stage.TheVariants as stage
use Rattle.read_model.specs.PlainRead.{ask_key}
use Rattle.core_model.specs.DueJobs.{lease_of}
use Rattle.core_model.specs.Groups.{is_out_for}
use Rattle.etcd_types.specs.declared.watch.WatchItem.{WatchItem}
use Rattle.watch_model.specs.declared.place.WatchPlace.{WatchPlace}
use Rattle.watch_model.specs.declared.place.WatchPlace.TheVariants as place
use Rattle.watch_model.specs.Lookups.{stream_at, is_closing}
use Rattle.watch_model.specs.Queues.{is_nil}
use Rattle.watch_model.specs.State.{Stream, Watch}
use Rattle.core_model.specs.State.{Core}

-- A write that waits.

-- an acquire of a key that it covers, or an entry there that is given up
pub record HeldBack (own : Ownership) (w : Write) : Type 0 where
  pub key : List ℕ
  pub covered : covers w key ≡ true
  pub held_back : is_held_back (at own.entries key) (at own.waits.spoiled key) ≡ true

-- an earlier write that shares a key with it, or something at one of its keys; its own call; or one of the owners that its call
-- found: the call that asks it is due or out, or was answered, and its deletion isn't told
abbrev pub WriteWaits : List Write → Ownership → Write → WriteStage → Type 0
WriteWaits earlier own w Waiting = (list_any (shares w) earlier ≡ true) ⊎ HeldBack own w
WriteWaits earlier own w (Sends owner s) = Unit {0}
WriteWaits earlier own w (Finds found) = list_all is_over found ≡ false

-- the write of this ticket, among those in order of asking
pub record WriteOf (own : Ownership) (ticket : ℕ) : Type 0 where
  pub earlier : List Write
  pub write : Write
  pub later : List Write
  pub stands : own.waits.writes ≡ earlier ++ write ∷ later
  pub named : write.ticket ≡ ticket
  pub waits : WriteWaits earlier own write write.stage

-- A read that waits.

-- the acquire of its key, which is due or out
pub record AcquireOf (c : Core) (key : List ℕ) : Type 0 where
  pub acquire : Acquire
  pub stands : at c.acquires key ≡ Some acquire

-- and which names it
pub record OwnAcquire (c : Core) (key : List ℕ) (ticket : ℕ) : Type 0 where
  pub acquire : Acquire
  pub stands : at c.acquires key ≡ Some acquire
  pub named : acquire.ticket ≡ ticket

-- the first write over its key is an owner write, whose call is due or out
pub record OwnerWriteOf (own : Ownership) (key : List ℕ) : Type 0 where
  pub write : Write
  pub first : first_by (λ w. covers w key) own.waits.writes ≡ Some write
  pub owner : is_owner write.stage ≡ true

-- A keepalive: its group's call that is due or out, or the one that is out before.
abbrev pub KeepaliveWaits : Core → ℕ → Option Sending → Type 0
KeepaliveWaits c lease None = is_out_for lease c.out ≡ true
KeepaliveWaits c lease (Some s) = Unit {0}

abbrev pub StageWaits : Core → Asked → Stage → Type 0
StageWaits c a (stage.Calling s) = Unit {0}
StageWaits c a stage.Acquiring = OwnAcquire c (ask_key a) a.ticket
StageWaits c a stage.Joined = AcquireOf c (ask_key a)
StageWaits c a stage.Behind = OwnerWriteOf c.own (ask_key a)
StageWaits c a stage.Writes = WriteOf c.own a.ticket
StageWaits c a (stage.Grouped s) = KeepaliveWaits c (lease_of a.request) s
StageWaits c a (stage.Replied v) = Unit {0}

-- a request whose reply stands waits for nothing but to be taken
abbrev pub WaitsFor : Core → Asked → Type 0
WaitsFor c a = StageWaits c a a.stage

abbrev pub AllWaitFor : Core → List Asked → Type 0
AllWaitFor c [] = Unit {0}
AllWaitFor c (a ∷ rest) = WaitsFor c a × AllWaitFor c rest

-- no request waits for nothing
abbrev pub NoneIsIdle : Core → Type 0
NoneIsIdle c = AllWaitFor c c.asks

-- A watch that wasn't cancelled: its stream, which is to be opened, is being opened or stands; or, split off, that its queue is taken.

abbrev pub is_kept : Option Stream → Bool
is_kept None = false
is_kept (Some s) = not (is_closing s.phase)

abbrev pub WatchWaits : List Stream → WatchPlace → List WatchItem → Type 0
WatchWaits streams (place.In number) queue = is_kept (stream_at number streams) ≡ true
WatchWaits streams place.Split queue = is_nil queue ≡ false
WatchWaits streams place.Ended queue = Unit {0}

abbrev pub AllWatchesWait : List Stream → List Watch → Type 0
AllWatchesWait streams [] = Unit {0}
AllWatchesWait streams (w ∷ ws) = WatchWaits streams w.place w.queue × AllWatchesWait streams ws

abbrev pub NoWatchIsIdle : Core → Type 0
NoWatchIsIdle c = AllWatchesWait c.watches.streams c.watches.watches
