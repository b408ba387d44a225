-- What each line promises to whoever waits at a proxy of the world, where its proxies are sound and what the line brings to one is made of
-- bytes: they are sound again, and no request and no watch of any of them waits for nothing. Nothing is held back of their watches, their
-- streams are merged, and their queues are bounded. Nothing is said of a line that ran out of memory.
use Rattle.std.specs.Prelude.{◌≡◌, ◌≢◌, ◌<◌, ℕ, ◌+◌, ◌^◌, List, [], ◌∷◌, ◌++◌, length, Result, Ok, Err, Some}
use Rattle.etcd_types.specs.declared.key_range.KeyRange.{KeyRange}
use Rattle.core_model.specs.State.{Core}
use Rattle.held_laws.specs.Laws.{HoldsNothingBack}
use Rattle.core_laws.specs.Watches.Streams.{QueuesAreBounded}
use Rattle.prefix_laws.specs.Lines.{OfProxies, BringsBytes, BringsAtMost, AreSound}
use Rattle.replay_world.specs.World.{Parts, Stands}
use Rattle.script_text.specs.declared.item.Item.{Item}
use Rattle.script_text.specs.declared.line.Line.{Line}
use Rattle.waiting_laws.specs.Sound.{IsSound}
use Rattle.waiting_laws.specs.Waiting.{NothingIsIdle}
use Rattle.watch_model.specs.Lookups.{watch_at, own_next}
use Rattle.watch_model.specs.State.{Watch}
use Rattle.watch_model.specs.Story.{NoTwins}
use Rattle.world_model.specs.declared.fault.WorldFault.{WorldFault}
use Rattle.world_model.specs.declared.fault.WorldFault.TheVariants as fault
use Rattle.world_model.specs.Places.{kept_at, place_at}
use Rattle.world_model.specs.State.{Place, World}
use Rattle.world_model.specs.Transcript.{transcript, world_behind}

-- of each proxy
abbrev pub OfEach : (Core → Type 0) → Parts → Type 0
OfEach P x = (p : ℕ) (y : Place) → kept_at x.places p ≡ Some y → P y.core

-- it didn't run out of memory
abbrev pub HadMemory : Result (List Item) WorldFault → Type 0
HadMemory result = result ≢ Err fault.NoMemory

abbrev pub StaysSound : World → Line → Result (List Item) WorldFault → Parts → Type 0
StaysSound w l result new = HadMemory result → BringsBytes w l → AreSound w → OfEach IsSound new

-- no request and no watch waits for nothing
abbrev pub LeavesNoneIdle : World → Line → Result (List Item) WorldFault → Parts → Type 0
LeavesNoneIdle w l result new = HadMemory result → BringsBytes w l → AreSound w → OfEach NothingIsIdle new

-- no two streams of one range that stand created have equal next
abbrev pub AreMerged : Core → Type 0
AreMerged c = (range : KeyRange) → NoTwins range c.watches.streams

abbrev pub LeavesStreamsMerged : World → Line → Result (List Item) WorldFault → Parts → Type 0
LeavesStreamsMerged w l result new = HadMemory result → BringsBytes w l → AreSound w → OfEach AreMerged new

-- no queue has more than 1,024 events, or than one message, where no message has more than `most`
abbrev pub LeavesQueuesBounded : World → Line → Result (List Item) WorldFault → Parts → Type 0
LeavesQueuesBounded w l result new = (most : ℕ) → HadMemory result → BringsAtMost most w l → OfProxies (QueuesAreBounded most) w → OfEach (QueuesAreBounded most) new

-- Behind these lines, which were all taken: what was taken of a watch and what stands in its queue are all that the history has for it from its
-- start to below its next, each once and in order.
pub record HoldsBehind (lines : List Line) (new : Parts) : Type 0 where
  pub world : World
  pub stands : Stands new world
  pub behind : world_behind lines ≡ Ok (Some world)
  pub held : (p ticket : ℕ) (x : Place) (v : Watch) → place_at world p ≡ Some x → watch_at ticket x.core.watches.watches ≡ Some v → HoldsNothingBack (transcript lines) world p ticket (own_next x.core.watches.streams v) v

-- a line that was taken behind others, of fewer than 2^60
abbrev pub LeavesAllHeld : World → Line → Parts → Type 0
LeavesAllHeld w l new = (lines : List Line) → length lines + 1 < 2 ^ 60 → world_behind lines ≡ Ok (Some w) → HoldsBehind (lines ++ l ∷ []) new
