-- What a step does to the client streams that it isn't about: each is left as it was, or is due to be closed, or is gone; and what a
-- message does to its own.
use Rattle.std.proofs.Common.{◌≡◌, ℕ, ◌+◌, ◌≤◌, Bool, true, false, not, cond, ◌&&◌, ◌||◌, ◌==◌, nat_le, nat_lt, List, [], ◌∷◌, ◌++◌, map, Option, None, Some, Ok, Err, ◌⊎◌, inl, inr, option_map, refl, ap, sym, subst, ◌∙◌, arith}
use Rattle.std.proofs.lemmas.Bool.Decides.{nat_tests}
use Rattle.etcd_types.specs.declared.key_range.KeyRange.{KeyRange}
use Rattle.etcd_types.specs.declared.record.Header.{Header}
use Rattle.etcd_types.specs.declared.request.WatchAsk.{WatchAsk}
use Rattle.etcd_types.specs.declared.watch.Event.{Event}
use Rattle.etcd_types.specs.declared.watch.WatchItem.{WatchItem}
use Rattle.etcd_types.specs.declared.watch.WatchItem.TheVariants as item
use Rattle.proxy_model.specs.Unwrapped.{Unwrapped, item_without}
use Rattle.proxy_model.specs.Upstream.{created}
use Rattle.watch_model.specs.declared.stream.StreamPhase.{StreamPhase}
use Rattle.watch_model.specs.declared.stream.StreamPhase.TheVariants as phase
use Rattle.watch_model.specs.declared.place.WatchPlace.{WatchPlace}
use Rattle.watch_model.specs.declared.place.WatchPlace.TheVariants as place
use Rattle.watch_model.specs.State.{Stream, Watch, Broadcasts}
use Rattle.watch_model.specs.Lookups.{stream_at, with_stream, without_stream, changed_stream, member_changed, has_member, is_in, is_closing, is_begun, is_due, without_watch}
use Rattle.watch_model.specs.Joining.{stream_to_join, new_stream, Seated, seated_at, seated, new_watch, joined}
use Rattle.watch_model.specs.Merging.{merged_stream, merged, kept_by}
use Rattle.watch_model.specs.Splitting.{closed, emptied_as, emptied, left_place}
use Rattle.watch_model.specs.Leaving.{removed}
use Rattle.watch_model.specs.Delivery.{advanced, last_revision, progressed, given_batch, delivered_message, delivered_stream, is_told, is_awaited, created_stream, created_watch, stands_created}
use Rattle.watch_model.specs.Cuts.{reopened, cut_stream, ended, leaving, left_one, left_by, left_over, cancelled_stream}
use Rattle.watch_model.specs.Takes.{is_last, after_take, taken_from}
use Rattle.watch_model.specs.Due.{begun, sent, next_job}
use Rattle.watch_laws.proofs.Bounds.{back}
use Rattle.watch_model.proofs.Numbers.{merged-keeps}
use Rattle.watch_model.proofs.Streams.{at-map, number_itself, changed-keeps, at-with_stream, others-with_stream, at-without, or_stream, at-push}
use Rattle.core_laws.proofs.Watches.Touches.{told_unwrapped, told_stream}

-- Of the numbers that were given: a stream that isn't due to be closed was there before as it is, but for the one numbered `m`; and
-- where there was none there is none.
pub record Stays (m given : ℕ) (ss us : List Stream) : Type 0 where
  pub same : (n : ℕ) (t : Stream) → n ≤ given → (n == m) ≡ false → stream_at n us ≡ Some t → is_closing t.phase ≡ false → stream_at n ss ≡ Some t
  pub none : (n : ℕ) → n ≤ given → stream_at n ss ≡ None → stream_at n us ≡ None

pub stays_same : (m given : ℕ) (ss : List Stream) → Stays m given ss ss
stays_same m given ss = record { same = λ n t l d e c. e; none = λ n l e. e }

pub stays_on : (m given : ℕ) (ss us vs : List Stream) → Stays m given ss us → Stays m given us vs → Stays m given ss vs
stays_on m given ss us vs h k = record {
  same = λ n t l d e c. h.same n t l d (k.same n t l d e c) c;
  none = λ n l e. k.none n l (h.none n l e);
}

some_is : (s t : Stream) → Some s ≡ Some t → s ≡ t
some_is s t e = cc

no_some : {A : Type 0} (s : Stream) → ◌≡◌ {A = Option Stream} None (Some s) → A
no_some s e = absurd (cc)

-- ---- each change of the list

mapped_none : (f : Stream → Stream) → ((s : Stream) → (f s).number ≡ s.number) → (n : ℕ) (ss : List Stream) → stream_at n ss ≡ None → stream_at n (map f ss) ≡ None
mapped_none f k n ss e = at-map f k n ss ∙ ap (option_map f) e

pub merged_stays : (m given : ℕ) (range : KeyRange) (b : Broadcasts) → Stays m given b.streams (merged range b).streams
merged_stays m given range b = record {
  same = λ n t l d e c. by n t (back f (stream_at n b.streams) t (sym (at-map f keeps n b.streams) ∙ e)) c;
  none = λ n l e. mapped_none f keeps n b.streams e;
}
  where
    f : Stream → Stream
    f = merged_stream range b.streams b.step

    keeps : (s : Stream) → (merged_stream range b.streams b.step s).number ≡ s.number
    keeps = merged-keeps range b.streams b.step

    itself : (s : Stream) → is_closing (merged_stream range b.streams b.step s).phase ≡ false → merged_stream range b.streams b.step s ≡ s
    itself s = elim (kept_by range b.streams s == s.number) as (λ c. is_closing (cond c s (record s { phase = phase.Closing b.step })).phase ≡ false → cond c s (record s { phase = phase.Closing b.step }) ≡ s) [
      | true ↦ λ e. refl
      | false ↦ λ e. absurd (cc)
    ]

    by : (n : ℕ) (t : Stream) → ((s : Stream) × (stream_at n b.streams ≡ Some s) × (merged_stream range b.streams b.step s ≡ t)) → is_closing t.phase ≡ false → stream_at n b.streams ≡ Some t
    by n t h c =
        let s = h.0 in
        let one : merged_stream range b.streams b.step s ≡ s = itself s (subst (λ (x : Stream). is_closing x.phase ≡ false) (sym h.2) c) in
        h.1 ∙ ap (λ (x : Stream). Some x) (sym one ∙ h.2)

pub with_stays : (m given : ℕ) (f : Stream → Stream) → ((s : Stream) → (f s).number ≡ s.number) → (ss : List Stream) → Stays m given ss (with_stream m f ss)
with_stays m given f k ss = record {
  same = λ n t l d e c. sym (others-with_stream m f k ss (place.In n) d) ∙ e;
  none = λ n l e. mapped_none (changed_stream m f) (changed-keeps m f k) n ss e;
}

-- without the stream of the number n
gone_none : (n k : ℕ) (ss : List Stream) → (k == n) ≡ true → stream_at k (without_stream n ss) ≡ None
gone_none n k [] e = refl
gone_none n k (s ∷ ss) e =
    elim (s.number == n) as (λ b. (s.number == n) ≡ b → stream_at k (cond (not b) (s ∷ without_stream n ss) (without_stream n ss)) ≡ None) [
      | true ↦ λ q. gone_none n k ss e
      | false ↦ λ q.
          let other : (s.number == k) ≡ false = apart s.number n k q e in
          ap (λ b. cond b (Some s) (stream_at k (without_stream n ss))) other ∙ gone_none n k ss e
    ] refl
  where
    apart : (a b c : ℕ) → (a == b) ≡ false → (c == b) ≡ true → (a == c) ≡ false
    apart a b c e f = grind (arith, nat_tests)

pub without_at : (n k : ℕ) (ss : List Stream) (t : Stream) → stream_at k (without_stream n ss) ≡ Some t → stream_at k ss ≡ Some t
without_at n k ss t e =
    elim (k == n) as (λ b. (k == n) ≡ b → stream_at k ss ≡ Some t) [
      | true ↦ λ q. no_some t (sym (gone_none n k ss q) ∙ e)
      | false ↦ λ q. sym (at-without n k ss q) ∙ e
    ] refl

without_none : (n k : ℕ) (ss : List Stream) → stream_at k ss ≡ None → stream_at k (without_stream n ss) ≡ None
without_none n k ss e =
    elim (k == n) as (λ b. (k == n) ≡ b → stream_at k (without_stream n ss) ≡ None) [
      | true ↦ λ q. gone_none n k ss q
      | false ↦ λ q. at-without n k ss q ∙ e
    ] refl

pub without_stays : (m given n : ℕ) (ss : List Stream) → Stays m given ss (without_stream n ss)
without_stays m given n ss = record { same = λ k t l d e c. without_at n k ss t e; none = λ k l e. without_none n k ss e }

older : (n given k : ℕ) → n ≤ given → k ≡ given + 1 → (k == n) ≡ false
older n given k l e = grind (arith, nat_tests)

push_at : (given n : ℕ) (ss : List Stream) (t : Stream) → n ≤ given → t.number ≡ given + 1 → stream_at n (ss ++ t ∷ []) ≡ stream_at n ss
push_at given n ss t l e =
    at-push n ss t ∙ ap (λ b. or_stream (stream_at n ss) (cond b (Some t) None)) (older n given t.number l e) ∙ or_none (stream_at n ss)
  where
    or_none : (o : Option Stream) → or_stream o None ≡ o
    or_none None = refl
    or_none (Some s) = refl

pub push_stays : (m given : ℕ) (ss : List Stream) (t : Stream) → t.number ≡ given + 1 → Stays m given ss (ss ++ t ∷ [])
push_stays m given ss t e = record {
  same = λ n u l d f c. sym (push_at given n ss t l e) ∙ f;
  none = λ n l f. push_at given n ss t l e ∙ f;
}

closed_at : (n step : ℕ) (ss : List Stream) (t : Stream) → stream_at n (with_stream n (closed step) ss) ≡ Some t → is_closing t.phase ≡ true
closed_at n step ss t e = by (stream_at n ss) refl
  where
    by : (o : Option Stream) → stream_at n ss ≡ o → is_closing t.phase ≡ true
    by None f = no_some t (sym (mapped_none (changed_stream n (closed step)) (changed-keeps n (closed step) (λ s. refl)) n ss f) ∙ e)
    by (Some s) f =
        let one : closed step s ≡ t = some_is (closed step s) t (sym (at-with_stream n (closed step) (λ s. refl) ss s f) ∙ e) in
        ap (λ (x : Stream). is_closing x.phase) (sym one)

emptied_as_stays : (m given n step : ℕ) (ss : List Stream) (o : Option Stream) → Stays m given ss (emptied_as n step ss o)
emptied_as_stays m given n step ss None = stays_same m given ss
emptied_as_stays m given n step ss (Some s) =
    elim (is_due s.phase) as (λ b. Stays m given ss (cond b (without_stream n ss) (with_stream n (closed step) ss))) [
      | true ↦ without_stays m given n ss
      | false ↦ record {
        same = λ k t l d e c. by k t (k == n) refl e c;
        none = λ k l e. mapped_none (changed_stream n (closed step)) (changed-keeps n (closed step) (λ s. refl)) k ss e;
      }
    ]
  where
    equal : (a b : ℕ) → (a == b) ≡ true → a ≡ b
    equal a b e = grind (arith, nat_tests)

    by : (k : ℕ) (t : Stream) (b : Bool) → (k == n) ≡ b → stream_at k (with_stream n (closed step) ss) ≡ Some t → is_closing t.phase ≡ false → stream_at k ss ≡ Some t
    by k t true q e c =
        let here : stream_at n (with_stream n (closed step) ss) ≡ Some t = subst (λ (j : ℕ). stream_at j (with_stream n (closed step) ss) ≡ Some t) (equal k n q) e in
        let is : is_closing t.phase ≡ true = closed_at n step ss t here in
        absurd (let no : true ≡ false = sym is ∙ c in cc)
    by k t false q e c = sym (others-with_stream n (closed step) (λ s. refl) ss (place.In k) q) ∙ e

pub emptied_stays : (m given n : ℕ) (b : Broadcasts) → Stays m given b.streams (emptied n b).streams
emptied_stays m given n b =
    elim (has_member n b.watches) as (λ c. Stays m given b.streams (cond c b (record b { streams = emptied_as n b.step b.streams (stream_at n b.streams) })).streams) [
      | true ↦ stays_same m given b.streams
      | false ↦ emptied_as_stays m given n b.step b.streams (stream_at n b.streams)
    ]

-- ---- joins

-- as many numbers were given, or one more
pub record Sits (given : ℕ) (ss : List Stream) (x : Seated) : Type 0 where
  pub more : given ≤ x.given
  pub at : (n : ℕ) → n ≤ given → stream_at n x.streams ≡ stream_at n ss

pub sits : (ss : List Stream) (given step : ℕ) (last : Header) (w : Watch) → Sits given ss (seated ss given step last w)
sits ss given step last w = by (stream_to_join ss w.ask.range w.next last.revision)
  where
    by : (o : Option Stream) → Sits given ss (seated_at ss given step last w o)
    by (Some s) = record { more = omega arith; at = λ n l. refl }
    by None = record { more = omega arith; at = λ n l. push_at given n ss (new_stream (given + 1) step w.ask.range w.next) l refl }

pub sits_stay : (m given : ℕ) (ss us : List Stream) → ((n : ℕ) → n ≤ given → stream_at n us ≡ stream_at n ss) → Stays m given ss us
sits_stay m given ss us h = record { same = λ n t l d e c. sym (h n l) ∙ e; none = λ n l e. h n l ∙ e }

-- ---- cuts and cancellations

pub cut_stays : (m given : ℕ) (b : Broadcasts) (s : Stream) → given ≡ b.given → Stays m given b.streams (cut_stream b s).streams
cut_stays m given b s e =
    elim (is_closing s.phase) as (λ c. Stays m given b.streams (cond c (record b { streams = without_stream s.number b.streams }) (reopened b s)).streams) [
      | true ↦ without_stays m given s.number b.streams
      | false ↦ stays_on m given b.streams (without_stream s.number b.streams) _ (without_stays m given s.number b.streams) (push_stays m given (without_stream s.number b.streams) _ (ap (λ (k : ℕ). k + 1) (sym e)))
    ]

-- the stream itself is gone
pub cut_gone : (b : Broadcasts) (s : Stream) → s.number ≤ b.given → stream_at s.number (cut_stream b s).streams ≡ None
cut_gone b s l =
    elim (is_closing s.phase) as (λ c. stream_at s.number (cond c (record b { streams = without_stream s.number b.streams }) (reopened b s)).streams ≡ None) [
      | true ↦ gone_none s.number s.number b.streams (number_itself s.number)
      | false ↦ push_at b.given s.number (without_stream s.number b.streams) _ l refl ∙ gone_none s.number s.number b.streams (number_itself s.number)
    ]

left_by_sits : (n next : ℕ) (header : Header) (compact step : ℕ) (last : Header) (ss : List Stream) (given : ℕ) (w : Watch) → Sits given ss (left_by n next header compact step last ss given w)
left_by_sits n next header compact step last ss given w =
    let v = leaving next w in
    let out : Seated = record { streams = ss; given = given; watch = w } in
    let gone : Seated = record { streams = ss; given = given; watch = ended header compact v } in
    elim (is_in n w.place) as (λ b. Sits given ss (cond b (left_one header compact step last ss given v) out)) [
      | true ↦ elim (nat_lt v.next compact) as (λ c. Sits given ss (cond c gone (seated ss given step last v))) [
        | true ↦ record { more = omega arith; at = λ k l. refl }
        | false ↦ sits ss given step last v
      ]
      | false ↦ record { more = omega arith; at = λ k l. refl }
    ]

left_at : (n next : ℕ) (header : Header) (compact step : ℕ) (last : Header) (ss : List Stream) (given : ℕ) (ws : List Watch) (k : ℕ) → k ≤ given
    → stream_at k (left_over n next header compact step last ss given ws).streams ≡ stream_at k ss
left_at n next header compact step last ss given [] k l = refl
left_at n next header compact step last ss given (w ∷ ws) k l =
    let x = left_by n next header compact step last ss given w in
    let s = left_by_sits n next header compact step last ss given w in
    left_at n next header compact step last x.streams x.given ws k (let m = s.more in omega (arith, l, m)) ∙ s.at k l

pub cancelled_stays : (m : ℕ) (b : Broadcasts) (s : Stream) (header : Header) (compact : ℕ) (last : Header) → Stays m b.given b.streams (cancelled_stream b s header compact last).streams
cancelled_stays m b s header compact last =
    let rest = without_stream s.number b.streams in
    let l = left_over s.number s.stream.next header compact b.step last rest b.given b.watches in
    elim (not (is_begun s.phase)) as (λ c. Stays m b.given b.streams (cond c b (cond (compact == 0 || s.stream.next == 0) (cut_stream b s) (record b { streams = l.streams; given = l.given; watches = l.watches }))).streams) [
      | true ↦ stays_same m b.given b.streams
      | false ↦ elim (compact == 0 || s.stream.next == 0) as (λ d. Stays m b.given b.streams (cond d (cut_stream b s) (record b { streams = l.streams; given = l.given; watches = l.watches })).streams) [
        | true ↦ cut_stays m b.given b s refl
        | false ↦ stays_on m b.given b.streams rest _ (without_stays m b.given s.number b.streams) (sits_stay m b.given rest _ (λ k le. left_at s.number s.stream.next header compact b.step last rest b.given b.watches k le))
      ]
    ]

pub cancelled_gone : (b : Broadcasts) (s : Stream) (header : Header) (compact : ℕ) (last : Header) → is_begun s.phase ≡ true → s.number ≤ b.given → stream_at s.number (cancelled_stream b s header compact last).streams ≡ None
cancelled_gone b s header compact last is le =
    let rest = without_stream s.number b.streams in
    let l = left_over s.number s.stream.next header compact b.step last rest b.given b.watches in
    ap (λ c. stream_at s.number (cond (not c) b (cond (compact == 0 || s.stream.next == 0) (cut_stream b s) (record b { streams = l.streams; given = l.given; watches = l.watches }))).streams) is
    ∙ (elim (compact == 0 || s.stream.next == 0) as (λ d. stream_at s.number (cond d (cut_stream b s) (record b { streams = l.streams; given = l.given; watches = l.watches })).streams ≡ None) [
      | true ↦ cut_gone b s le
      | false ↦ left_at s.number s.stream.next header compact b.step last rest b.given b.watches s.number le ∙ gone_none s.number s.number b.streams (number_itself s.number)
    ])

-- ---- messages

message_stays : (b : Broadcasts) (s : Stream) (h : Header) (es : List Event) → Stays s.number b.given b.streams (delivered_message b s h es).streams
message_stays b s h [] =
    let us = with_stream s.number (advanced h.revision) b.streams in
    elim (nat_le s.stream.next (h.revision + 1)) as (λ c. Stays s.number b.given b.streams (cond c (record b { streams = us; watches = map (member_changed s.number (progressed s.stream.next h)) b.watches }) b).streams) [
      | true ↦ with_stays s.number b.given (advanced h.revision) (λ s. refl) b.streams
      | false ↦ stays_same s.number b.given b.streams
    ]
message_stays b s h (e ∷ es) =
    let us = with_stream s.number (advanced (last_revision 0 (e ∷ es))) b.streams in
    stays_on s.number b.given b.streams us _ (with_stays s.number b.given (advanced (last_revision 0 (e ∷ es))) (λ s. refl) b.streams) (emptied_stays s.number b.given s.number (record b { streams = us; watches = map (member_changed s.number (given_batch s.stream.next h (e ∷ es))) b.watches }))

pub delivered_stays : (b : Broadcasts) (s : Stream) (h : Header) (es : List Event) → Stays s.number b.given b.streams (delivered_stream b s h es).streams
delivered_stays b s h es =
    let d = delivered_message b s h es in
    elim (is_begun s.phase) as (λ c. Stays s.number b.given b.streams (cond c (cond (is_told s es) (merged s.stream.range d) (cut_stream b s)) b).streams) [
      | true ↦ elim (is_told s es) as (λ c. Stays s.number b.given b.streams (cond c (merged s.stream.range d) (cut_stream b s)).streams) [
        | true ↦ stays_on s.number b.given b.streams d.streams _ (message_stays b s h es) (merged_stays s.number b.given s.stream.range d)
        | false ↦ cut_stays s.number b.given b s refl
      ]
      | false ↦ stays_same s.number b.given b.streams
    ]

pub created_stays : (b : Broadcasts) (s : Stream) (h last : Header) → Stays s.number b.given b.streams (stands_created b s h last).streams
created_stays b s h last =
    let f = created_stream h.revision in
    let d : Broadcasts = record b { streams = with_stream s.number f b.streams; watches = map (member_changed s.number (created_watch (created s.stream h.revision).next last)) b.watches } in
    elim (is_awaited s) as (λ c. Stays s.number b.given b.streams (cond c (merged s.stream.range d) b).streams) [
      | true ↦ stays_on s.number b.given b.streams d.streams _ (with_stays s.number b.given f (λ s. refl) b.streams) (merged_stays s.number b.given s.stream.range d)
      | false ↦ stays_same s.number b.given b.streams
    ]

unwrapped_stays : (b : Broadcasts) (s : Stream) (last : Header) (u : Unwrapped WatchItem) → Stays s.number b.given b.streams (told_unwrapped b s last u).streams
unwrapped_stays b s last (Ok (item.Created h)) = created_stays b s h last
unwrapped_stays b s last (Ok (item.Events h es)) = delivered_stays b s h es
unwrapped_stays b s last (Ok (item.Canceled h compact)) = cancelled_stays s.number b s h compact last
unwrapped_stays b s last (Err foreign) = cut_stays s.number b.given b s refl

pub told_stays : (b : Broadcasts) (s : Stream) (last : Header) (namespace : List ℕ) (x : WatchItem) → Stays s.number b.given b.streams (told_stream b s last namespace x).streams
told_stays b s last namespace x =
    elim (is_begun s.phase) as (λ c. Stays s.number b.given b.streams (cond c (told_unwrapped b s last (item_without namespace x)) b).streams) [
      | true ↦ unwrapped_stays b s last (item_without namespace x)
      | false ↦ stays_same s.number b.given b.streams
    ]

-- ---- the stream itself

-- what a message leaves of its own stream, where that isn't due to be closed
abbrev pub AfterEvents : Stream → Header → List Event → Stream → Type 0
AfterEvents s h [] t = (nat_le s.stream.next (h.revision + 1) ≡ true × (t ≡ advanced h.revision s)) ⊎ ((nat_le s.stream.next (h.revision + 1) ≡ false) × (t ≡ s))
AfterEvents s h (e ∷ es) t = t ≡ advanced (last_revision 0 (e ∷ es)) s

abbrev pub AfterMessage : Stream → Unwrapped WatchItem → Stream → Type 0
AfterMessage s (Ok (item.Created h)) t = ((s.stream.created ≡ false) × (t ≡ created_stream h.revision s)) ⊎ ((s.stream.created ≡ true) × (t ≡ s))
AfterMessage s (Ok (item.Events h es)) t = (is_told s es ≡ true) × AfterEvents s h es t
AfterMessage s (Ok (item.Canceled h compact)) t = ⊥
AfterMessage s (Err foreign) t = ⊥

abbrev At : Stream → List Stream → (Stream → Type 0) → Type 0
At s us P = (t : Stream) → stream_at s.number us ≡ Some t → is_closing t.phase ≡ false → P t

-- behind a merge
merged_at : (s : Stream) (range : KeyRange) (b : Broadcasts) (P : Stream → Type 0) → At s b.streams P → At s (merged range b).streams P
merged_at s range b P h t e c =
    let m = merged_stays (s.number + 1) s.number range b in
    h t (m.same s.number t (omega arith) (apart s.number) e c) c
  where
    apart : (n : ℕ) → (n == n + 1) ≡ false
    apart n = grind (arith, nat_tests)

with_at : (s : Stream) (f : Stream → Stream) → ((s : Stream) → (f s).number ≡ s.number) → (b : Broadcasts) (P : Stream → Type 0) → stream_at s.number b.streams ≡ Some s → P (f s) → At s (with_stream s.number f b.streams) P
with_at s f k b P e h t g c = subst P (some_is (f s) t (sym (at-with_stream s.number f k b.streams s e) ∙ g)) h

gone_at : (s : Stream) (us : List Stream) (P : Stream → Type 0) → stream_at s.number us ≡ None → At s us P
gone_at s us P e t g c = no_some t (sym e ∙ g)

message_at : (b : Broadcasts) (s : Stream) (h : Header) (es : List Event) → stream_at s.number b.streams ≡ Some s → At s (delivered_message b s h es).streams (AfterEvents s h es)
message_at b s h [] e =
    let us = with_stream s.number (advanced h.revision) b.streams in
    elim (nat_le s.stream.next (h.revision + 1)) as (λ c. nat_le s.stream.next (h.revision + 1) ≡ c → At s (cond c (record b { streams = us; watches = map (member_changed s.number (progressed s.stream.next h)) b.watches }) b).streams (AfterEvents s h [])) [
      | true ↦ λ q. with_at s (advanced h.revision) (λ s. refl) b (AfterEvents s h []) e (inl (q, refl))
      | false ↦ λ q t g c. inr (q, sym (some_is s t (sym e ∙ g)))
    ] refl
message_at b s h (x ∷ es) e =
    let P = AfterEvents s h (x ∷ es) in
    let f = advanced (last_revision 0 (x ∷ es)) in
    λ t g c.
    let m = emptied_stays (s.number + 1) s.number s.number (record b { streams = with_stream s.number f b.streams; watches = map (member_changed s.number (given_batch s.stream.next h (x ∷ es))) b.watches }) in
    with_at s f (λ s. refl) b P e refl t (m.same s.number t (omega arith) (apart s.number) g c) c
  where
    apart : (n : ℕ) → (n == n + 1) ≡ false
    apart n = grind (arith, nat_tests)

begun_open : (p : StreamPhase) → is_begun p ≡ true → is_closing p ≡ false
begun_open (phase.Due since) e = refl
begun_open (phase.Closing since) e = absurd (cc)
begun_open phase.Begun e = refl

and_no : (b : Bool) → (b && false) ≡ false
and_no true = refl
and_no false = refl

pub told_at : (b : Broadcasts) (s : Stream) (last : Header) (namespace : List ℕ) (x : WatchItem) → stream_at s.number b.streams ≡ Some s → is_begun s.phase ≡ true → s.number ≤ b.given
    → (t : Stream) → stream_at s.number (told_stream b s last namespace x).streams ≡ Some t → is_closing t.phase ≡ false → AfterMessage s (item_without namespace x) t
told_at b s last namespace x e is l t g c =
    by (item_without namespace x) t (sym (ap (λ b'. stream_at s.number (cond b' (told_unwrapped b s last (item_without namespace x)) b).streams) is) ∙ g) c
  where
    by : (u : Unwrapped WatchItem) → At s (told_unwrapped b s last u).streams (AfterMessage s u)
    by (Ok (item.Created h)) =
        let P = AfterMessage s (Ok (item.Created h)) in
        let d : Broadcasts = record b { streams = with_stream s.number (created_stream h.revision) b.streams; watches = map (member_changed s.number (created_watch (created s.stream h.revision).next last)) b.watches } in
        elim s.stream.created as (λ c. s.stream.created ≡ c → At s (cond (is_begun s.phase && not c) (merged s.stream.range d) b).streams P) [
          | true ↦ λ q. subst (λ z. At s (cond z (merged s.stream.range d) b).streams P) (sym (and_no (is_begun s.phase))) (λ t g c. inr (q, sym (some_is s t (sym e ∙ g))))
          | false ↦ λ q. subst (λ z. At s (cond (z && true) (merged s.stream.range d) b).streams P) (sym is) (merged_at s s.stream.range d P (with_at s (created_stream h.revision) (λ s. refl) b P e (inl (q, refl))))
        ] refl
    by (Ok (item.Events h es)) =
        let P = AfterMessage s (Ok (item.Events h es)) in
        let d = delivered_message b s h es in
        subst (λ z. At s (cond z (cond (is_told s es) (merged s.stream.range d) (cut_stream b s)) b).streams P) (sym is)
        (elim (is_told s es) as (λ c. is_told s es ≡ c → At s (cond c (merged s.stream.range d) (cut_stream b s)).streams P) [
          | true ↦ λ q. merged_at s s.stream.range d P (λ t g c. (q, message_at b s h es e t g c))
          | false ↦ λ q. gone_at s (cut_stream b s).streams P (cut_gone b s l)
        ] refl)
    by (Ok (item.Canceled h compact)) = gone_at s (cancelled_stream b s h compact last).streams (λ t. ⊥) (cancelled_gone b s h compact last is l)
    by (Err foreign) = gone_at s (cut_stream b s).streams (λ t. ⊥) (cut_gone b s l)

-- ---- takes, leaving and jobs

pub taken_stays : (m : ℕ) (b : Broadcasts) (last : Header) (w : Watch) → Stays m b.given b.streams (taken_from b last w w.queue).0.streams
taken_stays m b last w = by w.queue
  where
    after : (is : List WatchItem) (p : WatchPlace) (v : Watch) → Stays m b.given b.streams (after_take b last v is p).streams
    after [] place.Split v = sits_stay m b.given b.streams _ (sits b.streams b.given b.step last v).at
    after [] (place.In n) v = stays_same m b.given b.streams
    after [] place.Ended v = stays_same m b.given b.streams
    after (i ∷ is) place.Split v = stays_same m b.given b.streams
    after (i ∷ is) (place.In n) v = stays_same m b.given b.streams
    after (i ∷ is) place.Ended v = stays_same m b.given b.streams

    by : (q : List WatchItem) → Stays m b.given b.streams (taken_from b last w q).0.streams
    by [] = stays_same m b.given b.streams
    by (i ∷ is) =
        let v : Watch = record w { queue = is } in
        elim (is_last i) as (λ c. Stays m b.given b.streams (cond c (record b { watches = without_watch w.ticket b.watches }) (after_take b last v is w.place)).streams) [
          | true ↦ stays_same m b.given b.streams
          | false ↦ after is w.place v
        ]

pub removed_stays : (m : ℕ) (b : Broadcasts) (ticket : ℕ) (o : Option Watch) → Stays m b.given b.streams (removed b ticket o).streams
removed_stays m b ticket None = stays_same m b.given b.streams
removed_stays m b ticket (Some w) = by w.place
  where
    by : (p : WatchPlace) → Stays m b.given b.streams (left_place p (record b { watches = without_watch ticket b.watches })).streams
    by (place.In n) = emptied_stays m b.given n (record b { watches = without_watch ticket b.watches })
    by place.Split = stays_same m b.given b.streams
    by place.Ended = stays_same m b.given b.streams

pub joined_stays : (m : ℕ) (b : Broadcasts) (ticket : ℕ) (ask : WatchAsk) (last : Header) → Stays m b.given b.streams (joined b ticket ask last).streams
joined_stays m b ticket ask last = sits_stay m b.given b.streams _ (sits b.streams b.given b.step last (new_watch ticket ask)).at

pub sent_stays : (b : Broadcasts) (s : Stream) → Stays s.number b.given b.streams (next_job b (Some s)).0.streams
sent_stays b s = by s.phase
  where
    by : (p : StreamPhase) → Stays s.number b.given b.streams (sent b s p).0.streams
    by (phase.Closing since) = without_stays s.number b.given s.number b.streams
    by (phase.Due since) = with_stays s.number b.given begun (λ s. refl) b.streams
    by phase.Begun = stays_same s.number b.given b.streams

-- ---- numbers are only given

abbrev Grows : Broadcasts → Broadcasts → Type 0
Grows b d = b.given ≤ d.given

still_grows : (b : Broadcasts) → Grows b b
still_grows b = omega arith

cut_grows : (b : Broadcasts) (s : Stream) → Grows b (cut_stream b s)
cut_grows b s =
    elim (is_closing s.phase) as (λ c. Grows b (cond c (record b { streams = without_stream s.number b.streams }) (reopened b s))) [
      | true ↦ still_grows b
      | false ↦ (let l : b.given ≤ b.given + 1 = omega arith in l)
    ]

emptied_given : (n : ℕ) (b : Broadcasts) → (emptied n b).given ≡ b.given
emptied_given n b = elim (has_member n b.watches) as (λ c. (cond c b (record b { streams = emptied_as n b.step b.streams (stream_at n b.streams) })).given ≡ b.given) [ true ↦ refl | false ↦ refl ]

message_given : (b : Broadcasts) (s : Stream) (h : Header) (es : List Event) → (delivered_message b s h es).given ≡ b.given
message_given b s h [] =
    elim (nat_le s.stream.next (h.revision + 1)) as (λ c. (cond c (record b { streams = with_stream s.number (advanced h.revision) b.streams; watches = map (member_changed s.number (progressed s.stream.next h)) b.watches }) b).given ≡ b.given) [ true ↦ refl | false ↦ refl ]
message_given b s h (e ∷ es) = emptied_given s.number (record b { streams = with_stream s.number (advanced (last_revision 0 (e ∷ es))) b.streams; watches = map (member_changed s.number (given_batch s.stream.next h (e ∷ es))) b.watches })

same_grows : (b d : Broadcasts) → d.given ≡ b.given → Grows b d
same_grows b d e = omega (arith, e)

delivered_grows : (b : Broadcasts) (s : Stream) (h : Header) (es : List Event) → Grows b (delivered_stream b s h es)
delivered_grows b s h es =
    let d = delivered_message b s h es in
    elim (is_begun s.phase) as (λ c. Grows b (cond c (cond (is_told s es) (merged s.stream.range d) (cut_stream b s)) b)) [
      | true ↦ elim (is_told s es) as (λ c. Grows b (cond c (merged s.stream.range d) (cut_stream b s))) [
        | true ↦ same_grows b (merged s.stream.range d) (message_given b s h es)
        | false ↦ cut_grows b s
      ]
      | false ↦ still_grows b
    ]

left_grows : (n next : ℕ) (header : Header) (compact step : ℕ) (last : Header) (ss : List Stream) (given : ℕ) (ws : List Watch) → given ≤ (left_over n next header compact step last ss given ws).given
left_grows n next header compact step last ss given [] = omega arith
left_grows n next header compact step last ss given (w ∷ ws) =
    let x = left_by n next header compact step last ss given w in
    let s = left_by_sits n next header compact step last ss given w in
    let m = s.more in
    let k = left_grows n next header compact step last x.streams x.given ws in
    omega (arith, m, k)

cancelled_grows : (b : Broadcasts) (s : Stream) (header : Header) (compact : ℕ) (last : Header) → Grows b (cancelled_stream b s header compact last)
cancelled_grows b s header compact last =
    let rest = without_stream s.number b.streams in
    let l = left_over s.number s.stream.next header compact b.step last rest b.given b.watches in
    elim (not (is_begun s.phase)) as (λ c. Grows b (cond c b (cond (compact == 0 || s.stream.next == 0) (cut_stream b s) (record b { streams = l.streams; given = l.given; watches = l.watches })))) [
      | true ↦ still_grows b
      | false ↦ elim (compact == 0 || s.stream.next == 0) as (λ d. Grows b (cond d (cut_stream b s) (record b { streams = l.streams; given = l.given; watches = l.watches }))) [
        | true ↦ cut_grows b s
        | false ↦ left_grows s.number s.stream.next header compact b.step last rest b.given b.watches
      ]
    ]

created_grows : (b : Broadcasts) (s : Stream) (h last : Header) → Grows b (stands_created b s h last)
created_grows b s h last =
    let d : Broadcasts = record b { streams = with_stream s.number (created_stream h.revision) b.streams; watches = map (member_changed s.number (created_watch (created s.stream h.revision).next last)) b.watches } in
    elim (is_awaited s) as (λ c. Grows b (cond c (merged s.stream.range d) b)) [ true ↦ same_grows b (merged s.stream.range d) refl | false ↦ still_grows b ]

unwrapped_grows : (b : Broadcasts) (s : Stream) (last : Header) (u : Unwrapped WatchItem) → Grows b (told_unwrapped b s last u)
unwrapped_grows b s last (Ok (item.Created h)) = created_grows b s h last
unwrapped_grows b s last (Ok (item.Events h es)) = delivered_grows b s h es
unwrapped_grows b s last (Ok (item.Canceled h compact)) = cancelled_grows b s h compact last
unwrapped_grows b s last (Err foreign) = cut_grows b s

pub told_grows : (b : Broadcasts) (s : Stream) (last : Header) (namespace : List ℕ) (x : WatchItem) → b.given ≤ (told_stream b s last namespace x).given
told_grows b s last namespace x =
    elim (is_begun s.phase) as (λ c. Grows b (cond c (told_unwrapped b s last (item_without namespace x)) b)) [
      | true ↦ unwrapped_grows b s last (item_without namespace x)
      | false ↦ still_grows b
    ]

pub cuts_grow : (b : Broadcasts) (s : Stream) → b.given ≤ (cut_stream b s).given
cuts_grow b s = cut_grows b s

pub joined_grows : (b : Broadcasts) (ticket : ℕ) (ask : WatchAsk) (last : Header) → b.given ≤ (joined b ticket ask last).given
joined_grows b ticket ask last = (sits b.streams b.given b.step last (new_watch ticket ask)).more

pub taken_grows : (b : Broadcasts) (last : Header) (w : Watch) → b.given ≤ (taken_from b last w w.queue).0.given
taken_grows b last w = by w.queue
  where
    after : (is : List WatchItem) (p : WatchPlace) (v : Watch) → Grows b (after_take b last v is p)
    after [] place.Split v = (sits b.streams b.given b.step last v).more
    after [] (place.In n) v = still_grows b
    after [] place.Ended v = still_grows b
    after (i ∷ is) place.Split v = still_grows b
    after (i ∷ is) (place.In n) v = still_grows b
    after (i ∷ is) place.Ended v = still_grows b

    by : (q : List WatchItem) → Grows b (taken_from b last w q).0
    by [] = still_grows b
    by (i ∷ is) =
        let v : Watch = record w { queue = is } in
        elim (is_last i) as (λ c. Grows b (cond c (record b { watches = without_watch w.ticket b.watches }) (after_take b last v is w.place))) [
          | true ↦ still_grows b
          | false ↦ after is w.place v
        ]

place_grows : (p : WatchPlace) (b : Broadcasts) → Grows b (left_place p b)
place_grows (place.In n) b = same_grows b (emptied n b) (emptied_given n b)
place_grows place.Split b = still_grows b
place_grows place.Ended b = still_grows b

pub removed_grows : (b : Broadcasts) (ticket : ℕ) (o : Option Watch) → b.given ≤ (removed b ticket o).given
removed_grows b ticket None = still_grows b
removed_grows b ticket (Some w) = place_grows w.place (record b { watches = without_watch ticket b.watches })

pub sent_grows : (b : Broadcasts) (s : Stream) → b.given ≤ (next_job b (Some s)).0.given
sent_grows b s = by s.phase
  where
    by : (p : StreamPhase) → Grows b (sent b s p).0
    by (phase.Closing since) = still_grows b
    by (phase.Due since) = still_grows b
    by phase.Begun = still_grows b
