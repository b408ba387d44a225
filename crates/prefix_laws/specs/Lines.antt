-- What each line keeps of every proxy of a world, whether it is taken or refused: where they are sound they stay so, and where their queues
-- are bounded they stay so. The premises are about what the line brings: the answer that it gives to a proxy shows bytes, and the message
-- that it delivers has at most so many events.
use Rattle.std.specs.Prelude.{◌≡◌, ℕ, List, ◌∷◌, Some}
use Rattle.etcd_types.specs.declared.answer.Answer.{Answer}
use Rattle.etcd_types.specs.declared.watch.WatchItem.{WatchItem}
use Rattle.core_model.specs.declared.event.CoreEvent.{CoreEvent}
use Rattle.core_model.specs.declared.event.CoreEvent.TheVariants as event
use Rattle.core_model.specs.State.{Core}
use Rattle.core_laws.specs.Steps.Kept.{IsHeard}
use Rattle.core_laws.specs.Watches.Streams.{HasAtMost, QueuesAreBounded}
use Rattle.script_text.specs.declared.line.Line.{Line}
use Rattle.script_text.specs.declared.line.Line.TheVariants as line
use Rattle.waiting_laws.specs.Sound.{IsSound}
use Rattle.world_model.specs.declared.sent_call.SentCall.{SentCall}
use Rattle.world_model.specs.Places.{nth, place_at, call_place, stream_place}
use Rattle.world_model.specs.State.{Place, OpenedStream, World}
use Rattle.world_model.specs.Transcript.{done}

-- of each of its proxies
abbrev pub OfProxies : (Core → Type 0) → World → Type 0
OfProxies P w = (p : ℕ) (x : Place) → place_at w p ≡ Some x → P x.core

-- what an answer or a message of this line brings to a proxy
abbrev pub Brings : (Core → CoreEvent → Type 0) → World → Line → Type 0
Brings Fits w (line.Answer number) =
    (call : SentCall) (x : Place) (a : Answer) → nth w.calls number ≡ Some call → call_place w call ≡ Some x → call.executed ≡ Some a → Fits x.core (event.Answer call.own a)
Brings Fits w (line.Deliver number) =
    (s : OpenedStream) (x : Place) (i : WatchItem) (rest : List WatchItem) → nth w.streams number ≡ Some s → stream_place w s ≡ Some x → s.waiting ≡ i ∷ rest → Fits x.core (event.Item s.own i)
Brings Fits w _ = Unit {0}

-- the answer shows bytes
abbrev pub BringsBytes : World → Line → Type 0
BringsBytes w l = Brings IsHeard w l

-- the message has at most so many events
abbrev pub BringsAtMost : ℕ → World → Line → Type 0
BringsAtMost most w l = Brings (λ c e. HasAtMost most e) w l

abbrev pub AreSound : World → Type 0
AreSound w = OfProxies IsSound w

abbrev pub LinesStaySound : Type 0
LinesStaySound = (w : World) (l : Line) → BringsBytes w l → AreSound w → AreSound (done w l).world

abbrev pub LinesStayBounded : Type 0
LinesStayBounded = (most : ℕ) (w : World) (l : Line) → BringsAtMost most w l → OfProxies (QueuesAreBounded most) w → OfProxies (QueuesAreBounded most) (done w l).world
