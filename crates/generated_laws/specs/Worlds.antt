-- What is to hold of the world between the lines of a generated script: each of its proxies stands, and each stream that wasn't cancelled
-- is the leasing stream of its proxy, of which the store's watch and the proxy have come to the same revision.
use Rattle.std.specs.Prelude.{◌≡◌, ℕ, ◌≤◌, ◌==◌, true, false, List, [], length, Option, None, Some, is_some}
use Rattle.store_model.specs.declared.watch.OpenWatch.{OpenWatch}
use Rattle.store_model.specs.History.{newest}
use Rattle.store_model.specs.Watches.{watch_of}
use Rattle.proxy_model.specs.Upstream.{Upstream}
use Rattle.core_model.specs.declared.out_call.OutCall.{OutCall}
use Rattle.core_model.specs.State.{Opening}
use Rattle.world_model.specs.Places.{is_among, nth, place_at}
use Rattle.world_model.specs.State.{Place, OpenedStream, World}
use Rattle.generated_laws.specs.OnTime.{IsOnTime}
use Rattle.generated_laws.specs.Proxies.{Rests}

-- A proxy's place.

-- with these calls out, all its tickets below the next one, and its clock at most at this reading
pub record PlaceRests (next most clock : ℕ) (out : List OutCall) (x : Place) : Type 0 where
  pub core : Rests next most out x.core
  pub reads : x.clock ≤ clock
  pub tickets : (t : ℕ) → next ≤ t → is_among x.tickets t ≡ false

-- and nothing to do by its clock
pub record PlaceStands (next most clock : ℕ) (out : List OutCall) (x : Place) : Type 0 where
  pub rests : PlaceRests next most clock out x
  pub on_time : IsOnTime x.clock x.core

-- Streams.

-- of a proxy: how often it was started, and its leasing stream
pub record Held : Type 0 where
  pub life : ℕ
  pub leasing : Option Opening

abbrev pub held_of : Option Place → Option Held
held_of None = None
held_of (Some x) = Some (record { life = x.life; leasing = x.core.leasing })

-- the store's watch isn't created yet, and begins where the proxy's stream does; or both go on from the same revision
pub data Agree (v : OpenWatch) (u : Upstream) : Type 0 where
  begins : v.next ≡ 0 → u.created ≡ false → v.ask.start ≡ u.next → Agree v u
  goes : (v.next == 0) ≡ false → v.next ≡ u.next → Agree v u

-- it is the leasing stream that its proxy has, all whose messages were delivered
pub record Linked (held : Option Held) (watch : Option OpenWatch) (s : OpenedStream) : Type 0 where
  pub opening : Opening
  pub stands : held ≡ Some (record { life = s.life; leasing = Some opening })
  pub number : opening.number ≡ s.own
  pub due : opening.due ≡ None
  pub waiting : s.waiting ≡ []
  pub ended : s.ended ≡ false
  pub opened : OpenWatch
  pub watched : watch ≡ Some opened
  pub range : opened.ask.range ≡ opening.stream.range
  pub agree : Agree opened opening.stream

abbrev pub StreamStands : Option Held → Option OpenWatch → OpenedStream → Type 0
StreamStands held watch s = s.cancelled ≡ false → Linked held watch s

-- The world.

abbrev pub IsProxy : ℕ → Type 0
IsProxy p = (1 ≤ p) × (p ≤ 3)

-- of each proxy one stream at most wasn't cancelled
abbrev pub OneEach : List OpenedStream → Type 0
OneEach streams = (n q : ℕ) (s t : OpenedStream) → nth streams n ≡ Some s → nth streams q ≡ Some t → s.cancelled ≡ false → t.cancelled ≡ false → s.proxy ≡ t.proxy → n ≡ q

-- all places of proxies are as `P` says
pub record Runs (P : ℕ → Place → Type 0) (most : ℕ) (w : World) : Type 0 where
  pub places : (p : ℕ) (x : Place) → place_at w p ≡ Some x → P p x
  pub there : (p : ℕ) → IsProxy p → is_some (place_at w p) ≡ true
  pub streams : (number : ℕ) (s : OpenedStream) → nth w.streams number ≡ Some s → StreamStands (held_of (place_at w s.proxy)) (watch_of w.store number) s
  pub one : OneEach w.streams
  pub many : length w.store.watches ≡ length w.streams
  pub short : newest w.store.history ≤ most

abbrev pub All : ℕ → ℕ → ℕ → ℕ → Place → Type 0
All next most clock p x = PlaceStands next most clock [] x

-- but for one of them
abbrev pub But : ℕ → ℕ → ℕ → ℕ → ℕ → Place → Type 0
But q next most clock p x = (p == q) ≡ false → PlaceStands next most clock [] x

abbrev pub Running : ℕ → ℕ → ℕ → World → Type 0
Running next most clock w = Runs (All next most clock) most w
