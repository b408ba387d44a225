-- What a proxy has of its client streams and watches.
use Rattle.std.specs.Prelude.{ℕ, Bool, List, []}
use Rattle.etcd_types.specs.declared.request.WatchAsk.{WatchAsk}
use Rattle.etcd_types.specs.declared.watch.WatchItem.{WatchItem}
use Rattle.watch_model.specs.declared.stream.Stream.{Stream as StreamParts}
use Rattle.watch_model.specs.declared.place.WatchPlace.{WatchPlace}

abbrev pub Stream : Type 0
Stream = StreamParts

pub record Watch : Type 0 where
  pub ticket : ℕ
  -- as asked, but that an empty key of the range is read as one zero byte
  pub ask : WatchAsk
  -- the first revision of which it is to have the events; 0 as long as only its stream's created message can tell it
  pub start : ℕ
  -- its own next revision, or the one that it brought to its stream where the stream's is greater; 0 as long as start is
  pub next : ℕ
  -- its created item was queued
  pub told : Bool
  pub queue : List WatchItem
  pub place : WatchPlace

pub record Broadcasts : Type 0 where
  -- by rising numbers
  pub streams : List Stream
  -- by rising tickets
  pub watches : List Watch
  -- stream numbers given, of the leasing stream too
  pub given : ℕ
  -- what becomes due is due since this step
  pub step : ℕ

abbrev pub first_broadcasts : Broadcasts
first_broadcasts = record { streams = []; watches = []; given = 0; step = 0 }
