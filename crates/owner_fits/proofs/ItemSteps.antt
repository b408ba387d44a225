-- A message or the cut of a stream keeps the facts of a whole proxy.
use Rattle.std.proofs.Common.{◌≡◌, ℕ, ◌==◌, Bool, true, List, Option, None, Some, Ok, Err, refl}
use Rattle.etcd_types.specs.declared.record.Header.{Header}
use Rattle.etcd_types.specs.declared.watch.Event.{Event}
use Rattle.etcd_types.specs.declared.watch.WatchItem.{WatchItem}
use Rattle.etcd_types.specs.declared.watch.WatchItem.TheVariants as item
use Rattle.proxy_model.specs.Unwrapped.{Unwrapped, item_without}
use Rattle.proxy_model.specs.Upstream.{created, advance, opened}
use Rattle.wait_model.specs.Fits.{Fits}
use Rattle.wait_model.specs.LeasingStream.{resynced, all_given_up}
use Rattle.wait_model.specs.Notices.{all_noticed}
use Rattle.wait_model.specs.State.{Ownership}
use Rattle.core_laws.proofs.Writes.Steps as waits
use Rattle.watch_model.specs.Lookups.{stream_at, is_begun}
use Rattle.watch_model.specs.State.{Stream}
use Rattle.core_model.specs.Heard.{header_taken}
use Rattle.core_model.specs.LeasingStream.{leasing_ticked, leasing_cut, due_anew, stream_is, own_created, leasing_created, leasing_cancelled, told_revision, is_readable, leasing_told, leasing_message, message_if_sent, item_header, leasing_item}
use Rattle.core_model.specs.LeasingStream as leasing
use Rattle.core_model.specs.Lookups.{live_number}
use Rattle.core_model.specs.State.{Opening, Core}
use Rattle.core_model.specs.Step.{opening_at, client_item, item_of, client_cut, cut_of}
use Rattle.core_model.specs.Watching.{stream_message, stream_item, taken_item, stream_job, with_watches}
use Rattle.core_model.specs.Watching as watching
use Rattle.core_laws.proofs.Steps.Comes.{by_test}
use Rattle.core_laws.proofs.Steps.Whole.{Whole}
use Rattle.owner_fits.specs.Acquires.{standing_number}
use Rattle.owner_fits.specs.Names.{events_named, ItemNames}
use Rattle.owner_fits.proofs.Ending.{CoreFit, passed_fits}
use Rattle.owner_fits.proofs.Grounds.{own_fits}
use Rattle.owner_fits.proofs.Owning.{OwnGoes, message_goes, resync_goes, given_up_goes}
use Rattle.owner_fits.proofs.AskSteps.{After, keys_of}

-- before the waiting writes go on
record Ready (named : Bool) (c : Core) : Type 0 where
  fit : CoreFit named c
  keys : Fits c.own

own_ready : (named : Bool) (c : Core) (next : Ownership) → OwnGoes named c.own next → Fits next → CoreFit named c → Ready named (record c { own = next })
own_ready named c next g f h = record { fit = own_fits named (standing_number c.seat) c.out c.own next c.acquires g h; keys = f }

created_ready : (named : Bool) (o : Opening) (d : Header) (c : Core) → Ready named c → Ready named (leasing_created o d c)
created_ready named o d c r =
    by_test (Ready named) o.stream.created c (record (stream_is o (created o.stream d.revision) c) { own = own_created o.stream.next c.own }) (λ t. r)
    (λ t. by_test (λ (own : Ownership). Ready named (record (stream_is o (created o.stream d.revision) c) { own = own })) (o.stream.next == 0) (resynced c.own) c.own
    (λ u. own_ready named (stream_is o (created o.stream d.revision) c) (resynced c.own) (resync_goes named c.own) (waits.notices_keep c.own r.keys).resync r.fit)
    (λ u. record { fit = r.fit; keys = r.keys }))

told_ready : (named : Bool) (now : ℕ) (o : Opening) (d : Header) (es : List Event) (c : Core) → (named ≡ true → events_named c.own.waits.prefix es ≡ true) → Ready named c → Ready named (leasing_told now o d es c)
told_ready named now o d es c n r =
    let s = stream_is o (advance o.stream (told_revision d es)) c in
    let session = live_number c.seat now in
    by_test (Ready named) (is_readable o.stream es) (record s { own = all_noticed session es c.own }) (leasing_cut o c)
    (λ t. own_ready named s (all_noticed session es c.own) (message_goes named session es c.own n) ((waits.notices_keep c.own r.keys).message session es) r.fit)
    (λ t. record { fit = r.fit; keys = r.keys })

cancelled_ready : (named : Bool) (o : Opening) (compaction : ℕ) (c : Core) → Ready named c → Ready named (leasing_cancelled o compaction c)
cancelled_ready named o compaction c r =
    let d = record c { own = all_given_up c.own } in
    let x = own_ready named c (all_given_up c.own) (given_up_goes named c.own) (waits.notices_keep c.own r.keys).compaction r.fit in
    by_test (Ready named) (compaction == 0) (leasing_cut o c) (due_anew (opened o.stream.range 0) d) (λ t. record { fit = r.fit; keys = r.keys }) (λ t. record { fit = x.fit; keys = x.keys })

-- the events of this message are named
abbrev Told : Bool → WatchItem → Core → Type 0
Told named x c = named ≡ true → (h : Header) (events : List Event) → item_without c.settings.namespace x ≡ Ok (item.Events h events) → events_named c.own.waits.prefix events ≡ true

leasing_ready : (named : Bool) (now : ℕ) (o : Opening) (x : WatchItem) (c : Core) → (o.due ≡ None → Told named x c) → Ready named c → Ready named (leasing_item now o x c)
leasing_ready named now o x c n r = by_due o.due refl
  where
    d : Core
    d = header_taken (item_header x) c

    header : Ready named (header_taken (item_header x) c)
    header = record { fit = r.fit; keys = r.keys }

    by_message : (y : WatchItem) → item_without c.settings.namespace x ≡ Ok y → Told named x c → Ready named (leasing_message now o y (header_taken (item_header x) c))
    by_message (item.Created h) e t = created_ready named o h d header
    by_message (item.Events h es) e t = told_ready named now o h es d (λ b. t b h es e) header
    by_message (item.Canceled h compaction) e t = cancelled_ready named o compaction d header

    by_text : (u : Unwrapped WatchItem) → item_without c.settings.namespace x ≡ u → Told named x c → Ready named (leasing.unwrapped_message now o u (header_taken (item_header x) c))
    by_text (Ok y) e t = by_message y e t
    by_text (Err foreign) e t = record { fit = r.fit; keys = r.keys }

    by_due : (s : Option ℕ) → o.due ≡ s → Ready named (message_if_sent now o s x (header_taken (item_header x) c))
    by_due None e = by_text (item_without c.settings.namespace x) refl (n e)
    by_due (Some since) e = header

stream_ready : (named : Bool) (s : Stream) (x : WatchItem) (c : Core) → Ready named c → Ready named (stream_item s x c)
stream_ready named s x c r =
    by_test (Ready named) (is_begun s.phase) (watching.unwrapped_message s (item_without c.settings.namespace x) (header_taken (item_header x) c)) (header_taken (item_header x) c)
    (λ t. by_text (item_without c.settings.namespace x)) (λ t. record { fit = r.fit; keys = r.keys })
  where
    by_message : (y : WatchItem) → Ready named (stream_message s y (header_taken (item_header x) c))
    by_message (item.Created d) = record { fit = r.fit; keys = r.keys }
    by_message (item.Events d es) = record { fit = r.fit; keys = r.keys }
    by_message (item.Canceled d compaction) = record { fit = r.fit; keys = r.keys }

    by_text : (u : Unwrapped WatchItem) → Ready named (watching.unwrapped_message s u (header_taken (item_header x) c))
    by_text (Ok y) = by_message y
    by_text (Err foreign) = record { fit = r.fit; keys = r.keys }

pub item_after : (named : Bool) (now number : ℕ) (x : WatchItem) (c : Core) → (named ≡ true → ItemNames c number x) → Whole 0 c → CoreFit named c → (o : Option Opening) → opening_at number c.leasing ≡ o → After named (item_of now number x o c)
item_after named now number x c n w h None e = by_stream (stream_at number c.watches.streams)
  where
    by_stream : (s : Option Stream) → After named (client_item number x s c)
    by_stream None = h
    by_stream (Some s) = let r = stream_ready named s x c (record { fit = h; keys = keys_of c w.mid }) in passed_fits named (stream_item s x c) r.keys r.fit
item_after named now number x c n w h (Some o) e =
    let r = leasing_ready named now o x c (λ d b header es i. n b o header es e d i) (record { fit = h; keys = keys_of c w.mid }) in
    passed_fits named (leasing_item now o x c) r.keys r.fit

pub cut_after : (named : Bool) (number : ℕ) (c : Core) → CoreFit named c → (o : Option Opening) → After named (cut_of number o c)
cut_after named number c h None = by_stream (stream_at number c.watches.streams)
  where
    by_stream : (s : Option Stream) → After named (client_cut number s c)
    by_stream None = h
    by_stream (Some s) = h
cut_after named number c h (Some o) = h
