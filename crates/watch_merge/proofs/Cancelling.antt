-- A cancellation by its cases.
use Rattle.std.proofs.Common.{◌≡◌, ℕ, true, false, not, cond, ◌||◌, ◌==◌, Option, Some, ap, sym, ◌∙◌}
use Rattle.etcd_types.specs.declared.record.Header.{Header}
use Rattle.watch_model.specs.State.{Stream, Broadcasts}
use Rattle.watch_model.specs.Lookups.{stream_at, is_begun, without_stream}
use Rattle.watch_model.specs.Delivery.{on_stream, found_stream}
use Rattle.watch_model.specs.Cuts.{cut_stream, cut_at, left_over, left_as, cancelled_stream}
use Rattle.watch_model.proofs.Streams.{at_number}

abbrev leaves : Broadcasts → ℕ → ℕ → Header → ℕ → Header → Broadcasts
leaves b n next header compact last = left_as b (left_over n next header compact b.step last (without_stream n b.streams) b.given b.watches)

cancelled_by : (b : Broadcasts) (n : ℕ) (header : Header) (compact : ℕ) (last : Header) (s : Stream) → stream_at n b.streams ≡ Some s
    → on_stream b n (λ s. cancelled_stream b s header compact last) ≡ Some (cancelled_stream b s header compact last)
cancelled_by b n header compact last s e = ap (λ (o : Option Stream). found_stream o (λ s. cancelled_stream b s header compact last)) e

pub cancelled_away : (b : Broadcasts) (n : ℕ) (header : Header) (compact : ℕ) (last : Header) (s : Stream) → stream_at n b.streams ≡ Some s → is_begun s.phase ≡ false
    → on_stream b n (λ s. cancelled_stream b s header compact last) ≡ Some b
cancelled_away b n header compact last s e f =
    cancelled_by b n header compact last s e
    ∙ ap (λ t. Some (cond (not t) b (cond (compact == 0 || s.stream.next == 0) (cut_stream b s) (leaves b s.number s.stream.next header compact last)))) f

-- its opening was sent: by whether it is a cut
cancelled_begun : (b : Broadcasts) (n next : ℕ) (header : Header) (compact : ℕ) (last : Header) (s : Stream) → stream_at n b.streams ≡ Some s → is_begun s.phase ≡ true → next ≡ s.stream.next
    → on_stream b n (λ s. cancelled_stream b s header compact last) ≡ Some (cond (compact == 0 || next == 0) (cut_stream b s) (leaves b n next header compact last))
cancelled_begun b n next header compact last s e f m =
    cancelled_by b n header compact last s e
    ∙ ap (λ t. Some (cond (not t) b (cond (compact == 0 || s.stream.next == 0) (cut_stream b s) (leaves b s.number s.stream.next header compact last)))) f
    ∙ (λ i. Some (cond (compact == 0 || sym m i == 0) (cut_stream b s) (leaves b (at_number n b.streams s e i) (sym m i) header compact last)))

pub cancelled_cut : (b c : Broadcasts) (n next : ℕ) (header : Header) (compact : ℕ) (last : Header) (s : Stream) → stream_at n b.streams ≡ Some s → is_begun s.phase ≡ true → next ≡ s.stream.next
    → (compact == 0 || next == 0) ≡ true → c ≡ cut_at b (stream_at n b.streams) → on_stream b n (λ s. cancelled_stream b s header compact last) ≡ Some c
cancelled_cut b c n next header compact last s e f m z k =
    cancelled_begun b n next header compact last s e f m
    ∙ ap (λ t. Some (cond t (cut_stream b s) (leaves b n next header compact last))) z
    ∙ ap (λ (x : Broadcasts). Some x) (sym (k ∙ ap (cut_at b) e))

pub cancelled_gives : (b d : Broadcasts) (n next : ℕ) (header : Header) (compact : ℕ) (last : Header) (s : Stream) → stream_at n b.streams ≡ Some s → is_begun s.phase ≡ true → next ≡ s.stream.next
    → (compact == 0 || next == 0) ≡ false → d ≡ left_as b (left_over n next header compact b.step last (without_stream n b.streams) b.given b.watches) → on_stream b n (λ s. cancelled_stream b s header compact last) ≡ Some d
cancelled_gives b d n next header compact last s e f m z k =
    cancelled_begun b n next header compact last s e f m
    ∙ ap (λ t. Some (cond t (cut_stream b s) (leaves b n next header compact last))) z
    ∙ ap (λ (x : Broadcasts). Some x) (sym k)
