-- Client watches: a watch joins a stream of its range when it is asked, and takes the messages that were queued for it. Streams are
-- opened without filters and with the records before, and ask for progress, so that watches of any kind can share them.
use Rattle.std.specs.Prelude.{ℕ, true, false, if◌then◌else◌, Ok, Err, Option, None, Some}
use Rattle.etcd_types.specs.declared.key_range.KeyRange.{KeyRange}
use Rattle.etcd_types.specs.declared.request.Request.{Request}
use Rattle.etcd_types.specs.declared.request.Request.TheVariants as request
use Rattle.etcd_types.specs.declared.request.WatchAsk.{WatchAsk}
use Rattle.etcd_types.specs.declared.watch.WatchItem.{WatchItem}
use Rattle.etcd_types.specs.declared.watch.WatchItem.TheVariants as item
use Rattle.proxy_model.specs.Unwrapped.{Unwrapped, item_without}
use Rattle.watch_model.specs.declared.stream.StreamJob.{StreamJob}
use Rattle.watch_model.specs.declared.stream.StreamJob.TheVariants as job
use Rattle.watch_model.specs.Cuts.{cut_stream, cancelled_stream}
use Rattle.watch_model.specs.Delivery.{delivered_stream, stands_created}
use Rattle.watch_model.specs.Due.{next_job}
use Rattle.watch_model.specs.Joining.{joined}
use Rattle.watch_model.specs.Leaving.{removed}
use Rattle.watch_model.specs.Lookups.{watch_at, is_begun}
use Rattle.watch_model.specs.State.{Stream, Watch, Broadcasts}
use Rattle.watch_model.specs.Takes.{taken_from}
use Rattle.core_model.specs.declared.event.Job.TheVariants as sent
use Rattle.core_model.specs.declared.event.Outcome.TheVariants as outcome
use Rattle.core_model.specs.Heard.{header_taken}
use Rattle.core_model.specs.LeasingStream.{item_header}
use Rattle.core_model.specs.State.{Core}
use Rattle.core_model.specs.Stepped.{Stepped, gives}
use Rattle.proxy_model.specs.Wrapped.{request_under}

abbrev pub with_watches : Core → Broadcasts → Core
with_watches c b = record c { watches = b }

-- A watch is asked; what it waits for is its stream.
abbrev pub watch_is_asked : ℕ → WatchAsk → Core → Stepped
watch_is_asked ticket ask c = gives (with_watches c (joined c.watches ticket ask c.header)) outcome.Waiting

-- A message of a stream.

abbrev pub stream_message : Stream → WatchItem → Core → Core
stream_message s (item.Created h) c = with_watches c (stands_created c.watches s h c.header)
stream_message s (item.Events h events) c = with_watches c (delivered_stream c.watches s h events)
stream_message s (item.Canceled h compaction) c = with_watches c (cancelled_stream c.watches s h compaction c.header)

-- one that can't be read breaks the stream off
abbrev pub unwrapped_message : Stream → Unwrapped WatchItem → Core → Core
unwrapped_message s (Ok x) c = stream_message s x c
unwrapped_message s (Err foreign) c = with_watches c (cut_stream c.watches s)

-- a message of a stream that is to be opened or closed tells nothing but its header
abbrev pub message_if_begun : Stream → WatchItem → Core → Core
message_if_begun s x c = if is_begun s.phase then unwrapped_message s (item_without c.settings.namespace x) c else c

abbrev pub stream_item : Stream → WatchItem → Core → Core
stream_item s x c = message_if_begun s x (header_taken (item_header x) c)

abbrev pub stream_cut : Stream → Core → Core
stream_cut s c = with_watches c (cut_stream c.watches s)

-- The first message of a watch's queue is taken, or the watch is left.

abbrev pub taken_item : Core → Broadcasts × Option WatchItem → Stepped
taken_item c (b, None) = gives c outcome.Pending
taken_item c (b, Some x) = gives (with_watches c b) (outcome.Item x)

abbrev pub watch_taken : Watch → Core → Stepped
watch_taken w c = taken_item c (taken_from c.watches c.header w w.queue)

abbrev pub watch_left : ℕ → Core → Core
watch_left ticket c = with_watches c (removed c.watches ticket (watch_at ticket c.watches.watches))

-- Openings and closings.

abbrev pub watch_from : KeyRange → ℕ → Request
watch_from range start =
    request.Watch (record { range = range; start = start; no_put = false; no_delete = false; prev_kv = true; progress = true })

abbrev pub stream_job : Option StreamJob → Core → Stepped
stream_job None c = gives c (outcome.Job None)
stream_job (Some (job.Close number)) c = gives c (outcome.Job (Some (sent.Close number)))
stream_job (Some (job.Open number range start)) c =
    gives c (outcome.Job (Some (sent.Begin number c.members.current (request_under c.settings.namespace (watch_from range start)))))

abbrev pub streams_sent : Core → Broadcasts × Option StreamJob → Stepped
streams_sent c x = stream_job x.1 (with_watches c x.0)

abbrev pub stream_sent : Stream → Core → Stepped
stream_sent s c = streams_sent c (next_job c.watches (Some s))
