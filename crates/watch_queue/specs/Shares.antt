-- The messages that members share are those of the batch: with the records before the changes, and without them.
use Rattle.std.specs.Prelude.{◌≡◌, false, List, map, IfSome}
use Rattle.etcd_types.specs.declared.record.Header.{Header}
use Rattle.etcd_types.specs.declared.watch.Event.{Event}
use Rattle.etcd_types.specs.declared.watch.WatchItem.TheVariants as item
use Rattle.watch_model.specs.Delivery.{shown_event}
use Rattle.watch_queue.specs.declared.shares.Shares.{Shares}

pub record IsOf (header : Header) (es : List Event) (s : Shares) : Type 0 where
  pub whole : IfSome s.whole (λ t. t ≡ item.Events header es)
  pub bare : IfSome s.bare (λ t. t ≡ item.Events header (map (shown_event false) es))
