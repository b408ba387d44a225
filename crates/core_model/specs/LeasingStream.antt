-- The leasing stream, by which a proxy is told of the ownership keys: opened at the first tick, and again wherever it broke off.
-- Each time that it is due it has a new number.
use Rattle.std.specs.Prelude.{ℕ, ◌+◌, Bool, false, not, ◌==◌, ◌||◌, if◌then◌else◌, List, Ok, Err, Option, None, Some}
use Rattle.etcd_types.specs.declared.record.Header.{Header}
use Rattle.etcd_types.specs.declared.request.Request.{Request}
use Rattle.etcd_types.specs.declared.request.Request.TheVariants as request
use Rattle.etcd_types.specs.declared.watch.Event.{Event}
use Rattle.etcd_types.specs.declared.watch.WatchItem.{WatchItem}
use Rattle.etcd_types.specs.declared.watch.WatchItem.TheVariants as item
use Rattle.proxy_model.specs.Prefixes.{leasing_range}
use Rattle.proxy_model.specs.Unwrapped.{Unwrapped, item_without}
use Rattle.proxy_model.specs.Upstream.{Upstream, opened, created, advance, cut}
use Rattle.wait_model.specs.LeasingStream.{resynced, all_given_up}
use Rattle.wait_model.specs.Notices.{all_noticed}
use Rattle.wait_model.specs.State.{Ownership}
use Rattle.watch_model.specs.Delivery.{is_batch, last_revision}
use Rattle.core_model.specs.Heard.{header_taken}
use Rattle.core_model.specs.Lookups.{live_number}
use Rattle.core_model.specs.State.{Opening, Core}

abbrev pub opening_of : ℕ → ℕ → Upstream → Opening
opening_of number step stream = record { number = number; due = Some step; stream = stream }

-- due, under the next number
abbrev pub due_anew : Upstream → Core → Core
due_anew stream c =
    record c { leasing = Some (opening_of (c.watches.given + 1) c.own.waits.step stream); watches = record c.watches { given = c.watches.given + 1 } }

abbrev pub leasing_ticked : Option Opening → Core → Core
leasing_ticked None c = due_anew (opened (leasing_range c.own.waits.prefix) 0) c
leasing_ticked (Some o) c = c

-- it broke off, and goes on from its next revision
abbrev pub leasing_cut : Opening → Core → Core
leasing_cut o c = due_anew (cut o.stream) c

-- A message.

abbrev pub stream_is : Opening → Upstream → Core → Core
stream_is o stream c = record c { leasing = Some (record o { stream = stream }) }

-- opened from 0, it can't tell what became of the ownership keys before
abbrev pub own_created : ℕ → Ownership → Ownership
own_created next own = if next == 0 then resynced own else own

abbrev pub leasing_created : Opening → Header → Core → Core
leasing_created o h c =
    if o.stream.created then c else record (stream_is o (created o.stream h.revision) c) { own = own_created o.stream.next c.own }

-- what a compaction took can't be told, so all is given up and it begins anew; a cancellation without one is a cut
abbrev pub leasing_cancelled : Opening → ℕ → Core → Core
leasing_cancelled o compaction c =
    if compaction == 0 then leasing_cut o c
    else due_anew (opened o.stream.range 0) (record c { own = all_given_up c.own })

-- of a batch its last revision, and of a message without events that of its header
abbrev pub told_revision : Header → List Event → ℕ
told_revision h events = last_revision h.revision events

abbrev pub is_readable : Upstream → List Event → Bool
is_readable stream events = not (stream.next == 0 || not (is_batch stream.range stream.next events))

abbrev pub leasing_told : ℕ → Opening → Header → List Event → Core → Core
leasing_told now o h events c =
    if is_readable o.stream events then
    record (stream_is o (advance o.stream (told_revision h events)) c) { own = all_noticed (live_number c.seat now) events c.own }
    else leasing_cut o c

abbrev pub leasing_message : ℕ → Opening → WatchItem → Core → Core
leasing_message now o (item.Created h) c = leasing_created o h c
leasing_message now o (item.Events h events) c = leasing_told now o h events c
leasing_message now o (item.Canceled h compaction) c = leasing_cancelled o compaction c

abbrev pub unwrapped_message : ℕ → Opening → Unwrapped WatchItem → Core → Core
unwrapped_message now o (Ok x) c = leasing_message now o x c
unwrapped_message now o (Err foreign) c = leasing_cut o c

-- a message of a stream that is still to be opened tells nothing but its header
abbrev pub message_if_sent : ℕ → Opening → Option ℕ → WatchItem → Core → Core
message_if_sent now o None x c = unwrapped_message now o (item_without c.settings.namespace x) c
message_if_sent now o (Some since) x c = c

abbrev pub item_header : WatchItem → Header
item_header (item.Created h) = h
item_header (item.Events h events) = h
item_header (item.Canceled h compaction) = h

abbrev pub leasing_item : ℕ → Opening → WatchItem → Core → Core
leasing_item now o x c = message_if_sent now o o.due x (header_taken (item_header x) c)

-- Its opening is sent: without filters, and without the records before.

abbrev pub watch_of : Upstream → Request
watch_of stream =
    request.Watch (record { range = stream.range; start = stream.next; no_put = false; no_delete = false; prev_kv = false; progress = false })

abbrev pub opening_sent : Opening → Opening
opening_sent o = record o { due = None }
