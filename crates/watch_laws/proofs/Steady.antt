-- Of each watch: what the small changes keep, each call keeps.
use Rattle.std.proofs.Common.{◌≡◌, ℕ, ◌+◌, ◌≤◌, max, Bool, true, false, not, cond, ◌||◌, ◌==◌, nat_lt, List, [], ◌∷◌, ◌++◌, map, Option, None, Some, refl, arith}
use Rattle.etcd_types.specs.declared.key_range.KeyRange.{KeyRange}
use Rattle.etcd_types.specs.declared.record.Header.{Header}
use Rattle.etcd_types.specs.declared.watch.WatchItem.TheVariants as item
use Rattle.proxy_model.specs.Upstream.{created}
use Rattle.watch_model.specs.declared.stream.StreamPhase.{StreamPhase}
use Rattle.watch_model.specs.declared.stream.StreamPhase.TheVariants as phase
use Rattle.watch_model.specs.declared.place.WatchPlace.{WatchPlace}
use Rattle.watch_model.specs.declared.place.WatchPlace.TheVariants as place
use Rattle.watch_model.specs.State.{Stream, Watch, Broadcasts}
use Rattle.watch_model.specs.Lookups.{with_stream, without_stream, without_watch, watch_at, has_member, member_changed, is_in, is_begun, is_closing, stream_at}
use Rattle.watch_model.specs.Joining.{decided, told, told_if, created_header, Seated, seated_at, seated, stream_to_join}
use Rattle.watch_model.specs.Merging.{merged_watch, merged}
use Rattle.watch_model.specs.Delivery.{created_stream, created_watch, is_awaited, stands_created}
use Rattle.watch_model.specs.Cuts.{renumbered, reopened, cut_stream, ended, leaving, left_one, left_by, left_over, left_as, cancelled_stream}
use Rattle.watch_model.specs.Splitting.{emptied_as, emptied, left_place}
use Rattle.watch_model.specs.Leaving.{removed}
use Rattle.watch_model.specs.Due.{first_due, sent, next_job}
use Rattle.watch_model.specs.Story.{EachWatch}
use Rattle.watch_model.proofs.Streams.{each_mapped}
use Rattle.watch_laws.proofs.Seating.{each_other}

pub record Steady (P : Watch → Type 0) : Type 0 where
  pub placed : (w : Watch) (p : WatchPlace) → P w → P (record w { place = p })
  pub told : (w : Watch) (header : Header) → P w → P (record w { told = true; queue = w.queue ++ item.Created header ∷ [] })
  pub decided : (w : Watch) (n : ℕ) → (w.next == 0) ≡ true → P w → P (record w { start = n; next = n })
  pub ahead : (w : Watch) (n : ℕ) → w.next ≤ n → P w → P (record w { next = n })
  pub ended : (w : Watch) (header : Header) (compact : ℕ) → P w → P (record w { queue = w.queue ++ item.Canceled header compact ∷ [] })

decided_steady : (P : Watch → Type 0) → Steady P → (n : ℕ) (w : Watch) → P w → P (decided n w)
decided_steady P k n w p = elim (w.next == 0) as (λ b. (w.next == 0) ≡ b → P (cond b (record w { start = n; next = n }) w)) [ true ↦ λ e. k.decided w n e p | false ↦ λ e. p ] refl

told_steady : (P : Watch → Type 0) → Steady P → (last : Header) (w : Watch) → P w → P (told last w)
told_steady P k last w p = elim w.told as (λ b. P (cond b w (record w { told = true; queue = w.queue ++ item.Created (created_header last w) ∷ [] }))) [ true ↦ p | false ↦ k.told w (created_header last w) p ]

told_if_steady : (P : Watch → Type 0) → Steady P → (b : Bool) (last : Header) (w : Watch) → P w → P (told_if b last w)
told_if_steady P k true last w p = told_steady P k last w p
told_if_steady P k false last w p = p

-- A watch joins.

pub seat_steady : (P : Watch → Type 0) → Steady P → (ss : List Stream) (given step : ℕ) (last : Header) (w : Watch) → P w → P (seated ss given step last w).watch
seat_steady P k ss given step last w p = go (stream_to_join ss w.ask.range w.next last.revision)
  where
    go : (o : Option Stream) → P (seated_at ss given step last w o).watch
    go (Some s) = told_if_steady P k s.stream.created last (record (decided s.stream.next w) { place = place.In s.number }) (k.placed (decided s.stream.next w) (place.In s.number) (decided_steady P k s.stream.next w p))
    go None = k.placed w (place.In (given + 1)) p

-- A merge, a cut, a stream without members.

pub merged_steady : (P : Watch → Type 0) → Steady P → (range : KeyRange) (b : Broadcasts) → EachWatch P b.watches → EachWatch P (merged range b).watches
merged_steady P k range b h = each_mapped P P (merged_watch range b.streams) (λ w p. k.placed w (merged_watch range b.streams w).place p) b.watches h

pub cut_steady : (P : Watch → Type 0) → Steady P → (b : Broadcasts) (s : Stream) → EachWatch P b.watches → EachWatch P (cut_stream b s).watches
cut_steady P k b s h =
    elim (is_closing s.phase) as (λ c. EachWatch P (cond c (record b { streams = without_stream s.number b.streams }) (reopened b s)).watches) [
      | true ↦ h
      | false ↦ each_mapped P P (renumbered s.number (b.given + 1)) moves b.watches h
    ]
  where
    moves : (w : Watch) → P w → P (renumbered s.number (b.given + 1) w)
    moves w p = elim (is_in s.number w.place) as (λ c. P (cond c (record w { place = place.In (b.given + 1) }) w)) [ true ↦ k.placed w (place.In (b.given + 1)) p | false ↦ p ]

pub emptied_steady : (P : Watch → Type 0) (n : ℕ) (b : Broadcasts) → EachWatch P b.watches → EachWatch P (emptied n b).watches
emptied_steady P n b h = elim (has_member n b.watches) as (λ c. EachWatch P (cond c b (record b { streams = emptied_as n b.step b.streams (stream_at n b.streams) })).watches) [ true ↦ h | false ↦ h ]

pub place_steady : (P : Watch → Type 0) (p : WatchPlace) (b : Broadcasts) → EachWatch P b.watches → EachWatch P (left_place p b).watches
place_steady P (place.In n) b h = emptied_steady P n b h
place_steady P place.Split b h = h
place_steady P place.Ended b h = h

pub removed_steady : (P : Watch → Type 0) (b : Broadcasts) (ticket : ℕ) → EachWatch P b.watches → EachWatch P (removed b ticket (watch_at ticket b.watches)).watches
removed_steady P b ticket h = go (watch_at ticket b.watches)
  where
    go : (o : Option Watch) → EachWatch P (removed b ticket o).watches
    go None = h
    go (Some w) = place_steady P w.place (record b { watches = without_watch ticket b.watches }) (each_other P ticket b.watches h)

pub job_steady : (P : Watch → Type 0) (b : Broadcasts) → EachWatch P b.watches → EachWatch P (next_job b (first_due b.streams)).0.watches
job_steady P b h = go (first_due b.streams)
  where
    sends : (s : Stream) (p : StreamPhase) → EachWatch P (sent b s p).0.watches
    sends s (phase.Closing since) = h
    sends s (phase.Due since) = h
    sends s phase.Begun = h

    go : (o : Option Stream) → EachWatch P (next_job b o).0.watches
    go None = h
    go (Some s) = sends s s.phase

-- A created message.

pub created_steady : (P : Watch → Type 0) → Steady P → (b : Broadcasts) (s : Stream) (header last : Header) → EachWatch P b.watches → EachWatch P (stands_created b s header last).watches
created_steady P k b s header last h =
    let g = created_watch (created s.stream header.revision).next last in
    let told : Broadcasts = record b { streams = with_stream s.number (created_stream header.revision) b.streams; watches = map (member_changed s.number g) b.watches } in
    elim (is_awaited s) as (λ c. EachWatch P (cond c (merged s.stream.range told) b).watches) [
      | true ↦ merged_steady P k s.stream.range told (each_mapped P P (member_changed s.number g) tells b.watches h)
      | false ↦ h
    ]
  where
    next : ℕ
    next = (created s.stream header.revision).next

    tells : (w : Watch) → P w → P (member_changed s.number (created_watch (created s.stream header.revision).next last) w)
    tells w p = elim (is_in s.number w.place) as (λ c. P (cond c (created_watch next last w) w)) [ true ↦ told_steady P k last (decided next w) (decided_steady P k next w p) | false ↦ p ]

-- A cancellation.

at_most : (a n : ℕ) → a ≤ max a n
at_most a n = omega arith

left_steady : (P : Watch → Type 0) → Steady P → (n next : ℕ) (header : Header) (compact step : ℕ) (last : Header) (ss : List Stream) (given : ℕ) (w : Watch) → P w → P (left_by n next header compact step last ss given w).watch
left_steady P k n next header compact step last ss given w p =
    let v = leaving next w in
    let q : P v = k.placed (record w { next = max w.next next }) place.Split (k.ahead w (max w.next next) (at_most w.next next) p) in
    let out : Seated = record { streams = ss; given = given; watch = w } in
    let gone : Seated = record { streams = ss; given = given; watch = ended header compact v } in
    elim (is_in n w.place) as (λ b. P (cond b (left_one header compact step last ss given v) out).watch) [
      | true ↦ elim (nat_lt v.next compact) as (λ c. P (cond c gone (seated ss given step last v)).watch) [
        | true ↦ k.placed (record v { queue = v.queue ++ item.Canceled header compact ∷ [] }) place.Ended (k.ended v header compact q)
        | false ↦ seat_steady P k ss given step last v q
      ]
      | false ↦ p
    ]

over_steady : (P : Watch → Type 0) → Steady P → (n next : ℕ) (header : Header) (compact step : ℕ) (last : Header) (ss : List Stream) (given : ℕ) (ws : List Watch) → EachWatch P ws → EachWatch P (left_over n next header compact step last ss given ws).watches
over_steady P k n next header compact step last ss given [] h = tt
over_steady P k n next header compact step last ss given (w ∷ ws) h =
    let x = left_by n next header compact step last ss given w in
    (left_steady P k n next header compact step last ss given w h.0, over_steady P k n next header compact step last x.streams x.given ws h.1)

pub cancelled_steady : (P : Watch → Type 0) → Steady P → (b : Broadcasts) (s : Stream) (header : Header) (compact : ℕ) (last : Header) → EachWatch P b.watches → EachWatch P (cancelled_stream b s header compact last).watches
cancelled_steady P k b s header compact last h =
    let rest = without_stream s.number b.streams in
    let leaves : Broadcasts = left_as b (left_over s.number s.stream.next header compact b.step last rest b.given b.watches) in
    elim (not (is_begun s.phase)) as (λ c. EachWatch P (cond c b (cond (compact == 0 || s.stream.next == 0) (cut_stream b s) leaves)).watches) [
      | true ↦ h
      | false ↦ elim (compact == 0 || s.stream.next == 0) as (λ d. EachWatch P (cond d (cut_stream b s) leaves).watches) [
        | true ↦ cut_steady P k b s h
        | false ↦ over_steady P k s.number s.stream.next header compact b.step last rest b.given b.watches h
      ]
    ]
