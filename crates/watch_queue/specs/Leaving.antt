-- A watch whose stream was cancelled: what it is given, or what it needs to join again, is made ready first.
use Rattle.std.specs.Prelude.{◌≡◌, Bool, true, false, nat_lt, max, if◌then◌else◌, List, [], ◌∷◌, Some}
use Rattle.etcd_types.specs.declared.record.Header.{Header}
use Rattle.etcd_types.specs.declared.watch.WatchItem.TheVariants as item
use Rattle.watch_model.specs.Lookups.{is_in}
use Rattle.watch_model.specs.Joining.{created_header}
use Rattle.watch_queue.specs.Watching.{shown}
use Rattle.watch_queue.specs.declared.leaving.Cancellation.{Cancellation}
use Rattle.watch_queue.specs.declared.watching.Watching.{Watching}

-- it is behind the compaction
abbrev pub is_behind : Cancellation → Watching → Bool
is_behind c w = nat_lt (max w.next c.next) c.compact

abbrev pub prepared_told : Header → Watching → Watching
prepared_told last w = if w.told then w else record w { queue = record { items = w.queue.items; staged = item.Created (created_header last (shown w)) ∷ [] } }

abbrev pub prepared_end : Cancellation → Watching → Watching
prepared_end c w = record w { queue = record { items = w.queue.items; staged = item.Canceled c.header c.compact ∷ [] } }

abbrev pub prepared_again : Header → Watching → Watching
prepared_again last w = prepared_told last (record w { spare = Some w.ask.range })

abbrev pub prepared_left : Cancellation → Watching → Watching
prepared_left c w = if is_in c.stream w.place then if is_behind c w then prepared_end c w else prepared_again c.last w else w

-- what was made ready for a watch, at its own next

pub record IsReadyToEnd (c : Cancellation) (w : Watching) : Type 0 where
  pub staged : w.queue.staged ≡ item.Canceled c.header c.compact ∷ []

pub record IsReadyToJoin (last : Header) (w : Watching) : Type 0 where
  pub spare : w.spare ≡ Some w.ask.range
  pub staged : w.told ≡ false → w.queue.staged ≡ item.Created (created_header last (shown w)) ∷ []

pub record IsReady (c : Cancellation) (w : Watching) : Type 0 where
  pub ends : is_in c.stream w.place ≡ true → is_behind c w ≡ true → IsReadyToEnd c w
  pub joins : is_in c.stream w.place ≡ true → is_behind c w ≡ false → IsReadyToJoin c.last w

abbrev pub AllReady : Cancellation → List Watching → Type 0
AllReady c [] = Unit {0}
AllReady c (w ∷ ws) = IsReady c w × AllReady c ws
