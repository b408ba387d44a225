-- A delivery by its cases.
use Rattle.std.proofs.Common.{◌≡◌, ℕ, true, false, cond, List, map, Option, Some, get_or, ap, sym, ◌∙◌}
use Rattle.etcd_types.specs.declared.key_range.KeyRange.{KeyRange}
use Rattle.etcd_types.specs.declared.record.Header.{Header}
use Rattle.etcd_types.specs.declared.watch.Event.{Event}
use Rattle.watch_model.specs.State.{Stream, Broadcasts}
use Rattle.watch_model.specs.Lookups.{stream_at, is_begun, with_stream, member_changed}
use Rattle.proxy_model.specs.Upstream.{created}
use Rattle.watch_streams.specs.Places.{IsAt}
use Rattle.watch_model.specs.Merging.{merged}
use Rattle.watch_model.specs.Cuts.{cut_stream, cut_at}
use Rattle.watch_model.specs.Delivery.{is_awaited, created_stream, created_watch, stands_created, on_stream, is_told, found_stream, given_message, delivered_message, delivered_stream, delivered}
use Rattle.watch_model.proofs.Streams.{at_number}

pub found_is : (b : Broadcasts) (n i : ℕ) (s : Stream) → IsAt n b.streams i → s ≡ get_or b.streams i s → stream_at n b.streams ≡ Some s
found_is b n i s p g = p.is s ∙ ap (λ (t : Stream). Some t) (sym g)

delivered_by : (b : Broadcasts) (n : ℕ) (header : Header) (es : List Event) (s : Stream) → stream_at n b.streams ≡ Some s → delivered b n header es ≡ Some (delivered_stream b s header es)
unfolding delivered
delivered_by b n header es s e = ap (λ (o : Option Stream). found_stream o (λ s. delivered_stream b s header es)) e

pub delivered_away : (b : Broadcasts) (n : ℕ) (header : Header) (es : List Event) (s : Stream) → stream_at n b.streams ≡ Some s → is_begun s.phase ≡ false → delivered b n header es ≡ Some b
delivered_away b n header es s e f =
    delivered_by b n header es s e
    ∙ ap (λ c. Some (cond c (cond (is_told s es) (merged s.stream.range (delivered_message b s header es)) (cut_stream b s)) b)) f

pub delivered_cut : (b c : Broadcasts) (n : ℕ) (header : Header) (es : List Event) (s : Stream) → stream_at n b.streams ≡ Some s → is_begun s.phase ≡ true → is_told s es ≡ false → c ≡ cut_at b (stream_at n b.streams)
    → delivered b n header es ≡ Some c
delivered_cut b c n header es s e f g k =
    delivered_by b n header es s e
    ∙ ap (λ t. Some (cond t (cond (is_told s es) (merged s.stream.range (delivered_message b s header es)) (cut_stream b s)) b)) f
    ∙ ap (λ t. Some (cond t (merged s.stream.range (delivered_message b s header es)) (cut_stream b s))) g
    ∙ ap (λ (x : Broadcasts). Some x) (sym (k ∙ ap (cut_at b) e))

pub delivered_gives : (b c d : Broadcasts) (n next : ℕ) (range : KeyRange) (header : Header) (es : List Event) (s : Stream) → stream_at n b.streams ≡ Some s → is_begun s.phase ≡ true → is_told s es ≡ true
    → next ≡ s.stream.next → range ≡ s.stream.range → c ≡ given_message b n next header es → d ≡ merged range c → delivered b n header es ≡ Some d
delivered_gives b c d n next range header es s e f g m r k l =
    delivered_by b n header es s e
    ∙ ap (λ t. Some (cond t (cond (is_told s es) (merged s.stream.range (delivered_message b s header es)) (cut_stream b s)) b)) f
    ∙ ap (λ t. Some (cond t (merged s.stream.range (delivered_message b s header es)) (cut_stream b s))) g
    ∙ ap (λ (x : Broadcasts). Some (merged s.stream.range x)) ((λ i. given_message b (at_number n b.streams s e i) (sym m i) header es) ∙ sym k)
    ∙ ap (λ (x : KeyRange). Some (merged x c)) (sym r)
    ∙ ap (λ (x : Broadcasts). Some x) (sym l)

-- A created message by its cases.

pub created_gives : (b c d : Broadcasts) (n next : ℕ) (range : KeyRange) (header last : Header) (s : Stream) → stream_at n b.streams ≡ Some s → is_awaited s ≡ true → next ≡ (created s.stream header.revision).next → range ≡ s.stream.range
    → c ≡ record b { streams = with_stream n (created_stream header.revision) b.streams; watches = map (member_changed n (created_watch next last)) b.watches } → d ≡ merged range c
    → on_stream b n (λ s. stands_created b s header last) ≡ Some d
created_gives b c d n next range header last s e f m r k l =
    let q : s.number ≡ n = at_number n b.streams s e in
    let all : ℕ → ℕ → Broadcasts = λ k m. record b { streams = with_stream k (created_stream header.revision) b.streams; watches = map (member_changed k (created_watch m last)) b.watches } in
    ap (λ (o : Option Stream). found_stream o (λ s. stands_created b s header last)) e
    ∙ ap (λ t. Some (cond t (merged s.stream.range (all s.number (created s.stream header.revision).next)) b)) f
    ∙ (λ i. Some (merged (sym r i) (all (q i) (sym m i))))
    ∙ ap (λ (x : Broadcasts). Some (merged range x)) (sym k)
    ∙ ap (λ (x : Broadcasts). Some x) (sym l)
