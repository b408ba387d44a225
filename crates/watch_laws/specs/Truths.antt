-- A message without events is true: where a watch is told of a revision, all events up to it were queued before.
use Rattle.std.specs.Prelude.{◌+◌, ◌≤◌, ◌≡◌, true, nat_le, max, ◌++◌, Some}
use Rattle.etcd_types.specs.declared.record.Header.{Header}
use Rattle.watch_model.specs.State.{Stream, Watch, Broadcasts}
use Rattle.watch_model.specs.Queues.{queued_events}
use Rattle.watch_model.specs.Lookups.{stream_at, watch_at, is_in}
use Rattle.watch_model.specs.Story.{Story, Received, between, changes, wanted, Rising, TellsNone, Holds}

-- of a member that may be told of it: what its taker has, and what is queued
abbrev pub ProgressIsTrue : Type 0
ProgressIsTrue =
    (story : Story) (got : Received) (b : Broadcasts) (s : Stream) (header : Header) (w : Watch)
    → Rising story → header.revision + 1 ≤ 0xffff_ffff_ffff_ffff → stream_at s.number b.streams ≡ Some s → TellsNone story s header.revision → Holds story got b
    → watch_at w.ticket b.watches ≡ Some w → is_in s.number w.place ≡ true → nat_le (max w.next s.stream.next) (header.revision + 1) ≡ true
    → changes (got w.ticket ++ queued_events w.queue) ≡ wanted w.ask (between w.start (header.revision + 1) (story w.ask.range))
