-- The world of a replay: a store of several members, and the proxies before it.
use Rattle.std.specs.Prelude.{ℕ, ◌+◌, Bool, List, []}
use Rattle.std.specs.BTreeSet.{BTreeSet}
use Rattle.etcd_types.specs.declared.watch.WatchItem.{WatchItem}
use Rattle.store_model.specs.State.{State, starting}
use Rattle.core_model.specs.State.{Core}
use Rattle.world_model.specs.declared.floor.Floor.{Floor}
use Rattle.world_model.specs.declared.sent_call.SentCall.{SentCall}

-- What is kept by number: each number once, and rising.
abbrev pub Numbered : Type 0 → Type 0
Numbered A = List (ℕ × A)

-- A proxy since its last start.
pub record Place : Type 0 where
  -- its clock's reading in milliseconds, which outlives its starts
  pub clock : ℕ
  -- how often it was started
  pub life : ℕ
  pub core : Core
  -- the tickets that were asked or posted, and of those the posted ones
  pub tickets : BTreeSet ℕ
  pub posted : BTreeSet ℕ
  -- the world's numbers of its calls, in the order in which it sent them
  pub calls : List ℕ
  -- the world's numbers of its streams, by the proxy's own
  pub streams : Numbered ℕ

-- A stream that a proxy opened at a member of the store. The store numbers its watches as the world numbers its streams.
pub record OpenedStream : Type 0 where
  pub proxy : ℕ
  -- how often that proxy had been started when it opened the stream
  pub life : ℕ
  -- the proxy's own number of the stream
  pub own : ℕ
  -- the messages that were pushed and aren't delivered, in order
  pub waiting : List WatchItem
  -- it was cut or closed
  pub ended : Bool
  -- a cancellation was pushed
  pub cancelled : Bool

-- Calls and streams are numbered from 1 over all proxies, in the order in which they were sent or opened.
pub record World : Type 0 where
  pub members : ℕ
  pub namespace : List ℕ
  pub leasing : List ℕ
  -- by their numbers
  pub places : Numbered Place
  pub calls : List SentCall
  pub streams : List OpenedStream
  -- of the sessions that were granted, by their numbers
  pub floors : Numbered Floor
  pub store : State
  -- the lines taken behind the first
  pub lines : ℕ

abbrev pub no_numbers : BTreeSet ℕ
no_numbers = record { keys = [] }

abbrev pub starting_world : ℕ → List ℕ → List ℕ → World
starting_world members namespace leasing =
    record {
      members = members;
      namespace = namespace;
      leasing = leasing;
      places = [];
      calls = [];
      streams = [];
      floors = [];
      store = starting members;
      lines = 0;
    }

-- the number of the line that the world is given next, which is the line's random word
abbrev pub word : World → ℕ
word w = w.lines + 2
