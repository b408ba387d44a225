-- Messages of streams. One of the leasing stream leaves the same whether its header is taken before it or behind it.
use Rattle.std.proofs.Common.{◌≡◌, ℕ, ◌==◌, Bool, true, false, if◌then◌else◌, List, Option, None, Some, Ok, Err, is_some, refl, ap, ◌∙◌}
use Rattle.etcd_types.specs.declared.record.Header.{Header}
use Rattle.etcd_types.specs.declared.watch.WatchItem.{WatchItem}
use Rattle.etcd_types.specs.declared.watch.WatchItem.TheVariants as item
use Rattle.proxy_model.specs.Unwrapped.{item_without}
use Rattle.proxy_model.specs.Upstream.{opened, created, advance}
use Rattle.wait_model.specs.LeasingStream.{all_given_up}
use Rattle.wait_model.specs.Notices.{all_noticed}
use Rattle.core_model.specs.Heard.{header_taken}
use Rattle.core_model.specs.LeasingStream.{due_anew, leasing_cut, stream_is, own_created, told_revision, is_readable, leasing_message, unwrapped_message, message_if_sent, item_header, leasing_item}
use Rattle.core_model.specs.Lookups.{live_number}
use Rattle.core_model.specs.State.{Opening, Core}
use Rattle.core_model.specs.Step.{opening_at}
use Rattle.watch_model.specs.Delivery.{found_stream}
use Rattle.watch_model.specs.State.{Stream, Broadcasts}
use Rattle.core_machine.specs.Items.{watches_told, watches_told_if}

either_later : (b : Bool) (h : Header) (c d : Core) → (if b then header_taken h c else header_taken h d) ≡ header_taken h (if b then c else d)
either_later true h c d = refl
either_later false h c d = refl

message_later : (now : ℕ) (o : Opening) (x : WatchItem) (h : Header) (c : Core) → leasing_message now o x (header_taken h c) ≡ header_taken h (leasing_message now o x c)
message_later now o (item.Created g) h c =
    either_later o.stream.created h c (record (stream_is o (created o.stream g.revision) c) { own = own_created o.stream.next c.own })
message_later now o (item.Events g events) h c =
    either_later (is_readable o.stream events) h
    (record (stream_is o (advance o.stream (told_revision g events)) c) { own = all_noticed (live_number c.seat now) events c.own }) (leasing_cut o c)
message_later now o (item.Canceled g compaction) h c =
    either_later (compaction == 0) h (leasing_cut o c) (due_anew (opened o.stream.range 0) (record c { own = all_given_up c.own }))

if_sent : (now : ℕ) (o : Opening) (due : Option ℕ) (x : WatchItem) (c : Core) → is_some due ≡ false → message_if_sent now o due x c ≡ unwrapped_message now o (item_without c.settings.namespace x) c
if_sent now o None x c e = refl
if_sent now o (Some since) x c e = cc

if_due : (now : ℕ) (o : Opening) (due : Option ℕ) (x : WatchItem) (c : Core) → is_some due ≡ true → message_if_sent now o due x c ≡ c
if_due now o None x c e = cc
if_due now o (Some since) x c e = refl

-- one of a stream that is still to be opened
pub header_alone : (now : ℕ) (o : Opening) (x : WatchItem) (c : Core) → is_some o.due ≡ true → leasing_item now o x c ≡ header_taken (item_header x) c
header_alone now o x c e = if_due now o o.due x (header_taken (item_header x) c) e

pub message_heard :
    (now : ℕ) (o : Opening) (x y : WatchItem) (c : Core)
    → is_some o.due ≡ false → item_without c.settings.namespace x ≡ Ok y → leasing_item now o x c ≡ header_taken (item_header x) (leasing_message now o y c)
message_heard now o x y c e u =
    let d = header_taken (item_header x) c in
    if_sent now o o.due x d e ∙ ap (λ z. unwrapped_message now o z d) u ∙ message_later now o y (item_header x) c

pub message_foreign :
    (now : ℕ) (o : Opening) (x : WatchItem) (k : List ℕ) (c : Core)
    → is_some o.due ≡ false → item_without c.settings.namespace x ≡ Err k → leasing_item now o x c ≡ leasing_cut o (header_taken (item_header x) c)
message_foreign now o x k c e u =
    let d = header_taken (item_header x) c in if_sent now o o.due x d e ∙ ap (λ z. unwrapped_message now o z d) u

-- Of what number it is.

the_one : (b : Bool) (p o : Opening) → (if b then Some p else None) ≡ Some o → Some p ≡ Some o
the_one true p o e = e
the_one false p o e = cc

pub opened_at : (number : ℕ) (leasing : Option Opening) (o : Opening) → opening_at number leasing ≡ Some o → leasing ≡ Some o
opened_at number None o e = e
opened_at number (Some p) o e = the_one (p.number == number) p o e

-- One of a client stream that is known.

pub told_found : (s : Option Stream) (x : WatchItem) (last : Header) (b new : Broadcasts) → found_stream s (λ s. watches_told s x last b) ≡ Some new → new ≡ watches_told_if s x last b
told_found None x last b new e = cc
told_found (Some s) x last b new e = cc
