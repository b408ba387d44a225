-- Each call leaves the streams that stand created alone at their next, of each range.
use Rattle.std.proofs.Common.{◌≡◌, ℕ, ◌+◌, true, false, not, cond, ◌||◌, ◌==◌, nat_le, nat_lt, List, [], ◌∷◌, ◌++◌, map, Option, None, Some, refl, ap, sym, subst, ◌∙◌, ◌⊎◌, inl, inr, arith}
use Rattle.std.proofs.lemmas.Bool.Decides.{nat_tests}
use Rattle.etcd_types.specs.declared.key_range.KeyRange.{KeyRange}
use Rattle.etcd_types.specs.declared.record.Header.{Header}
use Rattle.etcd_types.specs.declared.request.WatchAsk.{WatchAsk}
use Rattle.etcd_types.specs.declared.watch.Event.{Event}
use Rattle.etcd_types.specs.declared.watch.WatchItem.{WatchItem}
use Rattle.proxy_model.specs.Upstream.{created, cut}
use Rattle.watch_model.specs.declared.stream.StreamPhase.{StreamPhase}
use Rattle.watch_model.specs.declared.stream.StreamPhase.TheVariants as phase
use Rattle.watch_model.specs.declared.place.WatchPlace.{WatchPlace}
use Rattle.watch_model.specs.declared.place.WatchPlace.TheVariants as place
use Rattle.watch_model.specs.State.{Stream, Watch, Broadcasts}
use Rattle.watch_model.specs.Lookups.{same_range, stream_at, watch_at, changed_stream, with_stream, without_stream, without_watch, watch_changed, has_member, member_changed, is_in, is_begun, is_closing, is_due, is_standing, numbered}
use Rattle.watch_model.specs.Joining.{new_watch, new_stream, Seated, seated_at, seated, stream_to_join, joined}
use Rattle.watch_model.specs.Merging.{is_of, kept_by, merged_stream, merged}
use Rattle.watch_model.specs.Delivery.{given_batch, progressed, advanced, created_stream, created_watch, delivered_stream, delivered_message, given_events, is_told, is_awaited, stands_created, last_revision}
use Rattle.watch_model.specs.Cuts.{reopened, cut_stream, ended, leaving, left_one, left_by, left_over, left_as, cancelled_stream}
use Rattle.watch_model.specs.Splitting.{closed, emptied_as, emptied, left_place, split, split_slow}
use Rattle.watch_model.specs.Leaving.{removed}
use Rattle.watch_model.specs.Takes.{is_last, after_take, taken_from}
use Rattle.watch_model.specs.Due.{begun, is_before, earlier_of, earlier, first_from, first_due, sent, next_job}
use Rattle.watch_model.specs.Story.{NoTwins}
use Rattle.watch_laws.specs.Alone.{StandAlone}
use Rattle.watch_model.proofs.Streams.{KeepsNumber, at-map, at_number, at-without, changed-keeps, or_stream, at-push}
use Rattle.watch_model.proofs.Numbers.{merged-keeps}
use Rattle.watch_laws.proofs.Steps.{two_tests, same_ranges}
use Rattle.watch_laws.proofs.Seating.{EachStream, AllSome, each_found}
use Rattle.watch_laws.proofs.Bounds.{back, merged_alone}

-- A stream that neither stands created nor is due and created.

pub record IsHarmless (s : Stream) : Type 0 where
  pub standing : is_standing s ≡ false
  pub due : is_due s.phase ≡ true → s.stream.created ≡ false

-- each stream of us is harmless, or stood in ss as it is
abbrev pub From : List Stream → List Stream → Type 0
From ss us = (k : ℕ) (s : Stream) → stream_at k us ≡ Some s → IsHarmless s ⊎ (stream_at k ss ≡ Some s)

from_itself : (ss : List Stream) → From ss ss
from_itself ss k s e = inr e

then_from : (ss us vs : List Stream) → From ss us → From us vs → From ss vs
then_from ss us vs f g k s e = elim (g k s e) [ inl h ↦ inl h | inr p ↦ f k s p ]

not_of : (range : KeyRange) (s : Stream) → IsHarmless s → is_of range s ≡ true → ⊥
not_of range s h e = let p = two_tests (same_range s.stream.range range) (is_standing s) e in let a = p.1 in let b = h.standing in cc

twins_from : (range : KeyRange) (ss us : List Stream) → From ss us → NoTwins range ss → NoTwins range us
twins_from range ss us f a j k s t p q d e n =
    elim (f j s p) [
      | inl h ↦ absurd (not_of range s h d)
      | inr x ↦ elim (f k t q) [ inl h ↦ absurd (not_of range t h e) | inr y ↦ a j k s t x y d e n ]
    ]

abbrev AreFresh : List Stream → Type 0
AreFresh ss = (k : ℕ) (s : Stream) → stream_at k ss ≡ Some s → is_due s.phase ≡ true → s.stream.created ≡ false

fresh_from : (ss us : List Stream) → From ss us → AreFresh ss → AreFresh us
fresh_from ss us f a k s p d = elim (f k s p) [ inl h ↦ h.due d | inr q ↦ a k s q d ]

alone_from : (ss us : List Stream) → From ss us → StandAlone ss → StandAlone us
alone_from ss us f a = record { alone = λ range. twins_from range ss us f (a.alone range); fresh = fresh_from ss us f a.fresh }

-- Changes of the list.

closing_harmless : (s : Stream) (step : ℕ) → IsHarmless (record s { phase = phase.Closing step })
closing_harmless s step = record { standing = refl; due = λ e. absurd (cc) }

pub none_without : (n k : ℕ) (ss : List Stream) → (k == n) ≡ true → stream_at k (without_stream n ss) ≡ None
none_without n k [] e = refl
none_without n k (s ∷ ss) e =
    elim (s.number == n) as (λ b. (s.number == n) ≡ b → stream_at k (cond (not b) (s ∷ without_stream n ss) (without_stream n ss)) ≡ None) [
      | true ↦ λ q. none_without n k ss e
      | false ↦ λ q. ap (λ b. cond b (Some s) (stream_at k (without_stream n ss))) (other s.number n k q e) ∙ none_without n k ss e
    ] refl
  where
    other : (a n k : ℕ) → (a == n) ≡ false → (k == n) ≡ true → (a == k) ≡ false
    other a n k e f = grind (arith, nat_tests)

from_without : (n : ℕ) (ss : List Stream) → From ss (without_stream n ss)
from_without n ss k s e =
    elim (k == n) as (λ b. (k == n) ≡ b → IsHarmless s ⊎ (stream_at k ss ≡ Some s)) [
      | true ↦ λ q. absurd (let none = none_without n k ss q in cc)
      | false ↦ λ q. inr (sym (at-without n k ss q) ∙ e)
    ] refl

-- what stood there before a change of one
abbrev Changed : ℕ → (Stream → Stream) → List Stream → ℕ → Stream → Type 0
Changed n f ss k s = (t : Stream) × (stream_at k ss ≡ Some t) × (changed_stream n f t ≡ s)

changed_at : (n : ℕ) (f : Stream → Stream) → KeepsNumber f → (ss : List Stream) (k : ℕ) (s : Stream) → stream_at k (with_stream n f ss) ≡ Some s → Changed n f ss k s
changed_at n f h ss k s e = back (changed_stream n f) (stream_at k ss) s (sym (at-map (changed_stream n f) (changed-keeps n f h) k ss) ∙ e)

from_changed : (n : ℕ) (f : Stream → Stream) → KeepsNumber f → (ss : List Stream) → ((k : ℕ) (t : Stream) → stream_at k ss ≡ Some t → (t.number == n) ≡ true → IsHarmless (f t)) → From ss (with_stream n f ss)
from_changed n f h ss g k s e =
    let x = changed_at n f h ss k s e in
    let t = x.0 in
    elim (t.number == n) as (λ b. (t.number == n) ≡ b → cond b (f t) t ≡ s → IsHarmless s ⊎ (stream_at k ss ≡ Some s)) [
      | true ↦ λ q c. inl (subst IsHarmless c (g k t x.1 q))
      | false ↦ λ q c. inr (x.1 ∙ ap (λ (u : Stream). Some u) c)
    ] refl x.2

from_emptied : (n step : ℕ) (ss : List Stream) (o : Option Stream) → From ss (emptied_as n step ss o)
from_emptied n step ss None = from_itself ss
from_emptied n step ss (Some t) =
    elim (is_due t.phase) as (λ b. From ss (cond b (without_stream n ss) (with_stream n (closed step) ss))) [
      | true ↦ from_without n ss
      | false ↦ from_changed n (closed step) (λ s. refl) ss (λ k t e q. closing_harmless t step)
    ]

from_left : (n : ℕ) (b : Broadcasts) → From b.streams (emptied n b).streams
from_left n b =
    elim (has_member n b.watches) as (λ c. From b.streams (cond c b (record b { streams = emptied_as n b.step b.streams (stream_at n b.streams) })).streams) [
      | true ↦ from_itself b.streams
      | false ↦ from_emptied n b.step b.streams (stream_at n b.streams)
    ]

from_merged : (range : KeyRange) (step : ℕ) (ss : List Stream) → From ss (map (merged_stream range ss step) ss)
from_merged range step ss k s e =
    let x = back (merged_stream range ss step) (stream_at k ss) s (sym (at-map (merged_stream range ss step) (merged-keeps range ss step) k ss) ∙ e) in
    let t = x.0 in
    elim (kept_by range ss t == t.number) as (λ b. cond b t (record t { phase = phase.Closing step }) ≡ s → IsHarmless s ⊎ (stream_at k ss ≡ Some s)) [
      | true ↦ λ c. inr (x.1 ∙ ap (λ (u : Stream). Some u) c)
      | false ↦ λ c. inl (subst IsHarmless c (closing_harmless t step))
    ] x.2

from_push : (ss : List Stream) (t : Stream) → IsHarmless t → From ss (ss ++ t ∷ [])
from_push ss t h k s e = go (stream_at k ss) refl (sym (at-push k ss t) ∙ e)
  where
    go : (o : Option Stream) → stream_at k ss ≡ o → or_stream o (cond (t.number == k) (Some t) None) ≡ Some s → IsHarmless s ⊎ (stream_at k ss ≡ Some s)
    go (Some x) q c = inr (q ∙ c)
    go None q c =
        elim (t.number == k) as (λ b. cond b (Some t) None ≡ Some s → IsHarmless s ⊎ (stream_at k ss ≡ Some s)) [
          | true ↦ λ d. let one : t ≡ s = cc in inl (subst IsHarmless one h)
          | false ↦ λ d. absurd (cc)
        ] c

from_reopened : (b : Broadcasts) (s : Stream) → From b.streams (reopened b s).streams
from_reopened b s =
    let rest = without_stream s.number b.streams in
    let again : Stream = record { number = b.given + 1; phase = phase.Due b.step; stream = cut s.stream } in
    then_from b.streams rest (rest ++ again ∷ []) (from_without s.number b.streams) (from_push rest again (record { standing = refl; due = λ e. refl }))

from_cut : (b : Broadcasts) (s : Stream) → From b.streams (cut_stream b s).streams
from_cut b s =
    elim (is_closing s.phase) as (λ c. From b.streams (cond c (record b { streams = without_stream s.number b.streams }) (reopened b s)).streams) [ true ↦ from_without s.number b.streams | false ↦ from_reopened b s ]

from_seated : (ss : List Stream) (given step : ℕ) (last : Header) (w : Watch) → From ss (seated ss given step last w).streams
from_seated ss given step last w = go (stream_to_join ss w.ask.range w.next last.revision)
  where
    go : (o : Option Stream) → From ss (seated_at ss given step last w o).streams
    go (Some s) = from_itself ss
    go None = from_push ss (new_stream (given + 1) step w.ask.range w.next) (record { standing = refl; due = λ e. refl })

from_left_by : (n next : ℕ) (header : Header) (compact step : ℕ) (last : Header) (ss : List Stream) (given : ℕ) (w : Watch) → From ss (left_by n next header compact step last ss given w).streams
from_left_by n next header compact step last ss given w =
    let v = leaving next w in
    let out : Seated = record { streams = ss; given = given; watch = w } in
    let gone : Seated = record { streams = ss; given = given; watch = ended header compact v } in
    elim (is_in n w.place) as (λ b. From ss (cond b (left_one header compact step last ss given v) out).streams) [
      | true ↦ elim (nat_lt v.next compact) as (λ c. From ss (cond c gone (seated ss given step last v)).streams) [ true ↦ from_itself ss | false ↦ from_seated ss given step last v ]
      | false ↦ from_itself ss
    ]

from_left_over : (n next : ℕ) (header : Header) (compact step : ℕ) (last : Header) (ss : List Stream) (given : ℕ) (ws : List Watch) → From ss (left_over n next header compact step last ss given ws).streams
from_left_over n next header compact step last ss given [] = from_itself ss
from_left_over n next header compact step last ss given (w ∷ ws) =
    let x = left_by n next header compact step last ss given w in
    then_from ss x.streams _ (from_left_by n next header compact step last ss given w) (from_left_over n next header compact step last x.streams x.given ws)

from_place : (p : WatchPlace) (b : Broadcasts) → From b.streams (left_place p b).streams
from_place (place.In n) b = from_left n b
from_place place.Split b = from_itself b.streams
from_place place.Ended b = from_itself b.streams

-- The calls that make no stream stand.

pub joins_leave : (b : Broadcasts) (ticket : ℕ) (ask : WatchAsk) (last : Header) → StandAlone b.streams → StandAlone (joined b ticket ask last).streams
joins_leave b ticket ask last a = alone_from b.streams _ (from_seated b.streams b.given b.step last (new_watch ticket ask)) a

pub merges_leave : (range : KeyRange) (b : Broadcasts) → StandAlone b.streams → StandAlone (merged range b).streams
merges_leave range b a = alone_from b.streams _ (from_merged range b.step b.streams) a

pub cuts_leave : (b : Broadcasts) (s : Stream) → StandAlone b.streams → StandAlone (cut_stream b s).streams
cuts_leave b s a = alone_from b.streams _ (from_cut b s) a

pub cancellations_leave : (b : Broadcasts) (s : Stream) (header : Header) (compact : ℕ) (last : Header) → StandAlone b.streams → StandAlone (cancelled_stream b s header compact last).streams
cancellations_leave b s header compact last a =
    let rest = without_stream s.number b.streams in
    let leaves : Broadcasts = left_as b (left_over s.number s.stream.next header compact b.step last rest b.given b.watches) in
    elim (not (is_begun s.phase)) as (λ c. StandAlone (cond c b (cond (compact == 0 || s.stream.next == 0) (cut_stream b s) leaves)).streams) [
      | true ↦ a
      | false ↦ elim (compact == 0 || s.stream.next == 0) as (λ d. StandAlone (cond d (cut_stream b s) leaves).streams) [
        | true ↦ cuts_leave b s a
        | false ↦ alone_from b.streams _ (then_from b.streams rest _ (from_without s.number b.streams) (from_left_over s.number s.stream.next header compact b.step last rest b.given b.watches)) a
      ]
    ]

after_leaves : (b : Broadcasts) (last : Header) (w : Watch) (is : List WatchItem) (p : WatchPlace) → StandAlone b.streams → StandAlone (after_take b last w is p).streams
after_leaves b last w [] place.Split a = alone_from b.streams _ (from_seated b.streams b.given b.step last w) a
after_leaves b last w (j ∷ is) place.Split a = a
after_leaves b last w [] (place.In n) a = a
after_leaves b last w (j ∷ is) (place.In n) a = a
after_leaves b last w [] place.Ended a = a
after_leaves b last w (j ∷ is) place.Ended a = a

pub takes_leave : (b : Broadcasts) (last : Header) (w : Watch) → StandAlone b.streams → StandAlone (taken_from b last w w.queue).0.streams
takes_leave b last w a = go w.queue
  where
    go : (q : List WatchItem) → StandAlone (taken_from b last w q).0.streams
    go [] = a
    go (i ∷ is) = elim (is_last i) as (λ c. StandAlone (cond c (record b { watches = without_watch w.ticket b.watches }) (after_take b last (record w { queue = is }) is w.place)).streams) [ true ↦ a | false ↦ after_leaves b last (record w { queue = is }) is w.place a ]

pub leaving_leaves : (b : Broadcasts) (ticket : ℕ) → StandAlone b.streams → StandAlone (removed b ticket (watch_at ticket b.watches)).streams
leaving_leaves b ticket a = go (watch_at ticket b.watches)
  where
    go : (o : Option Watch) → StandAlone (removed b ticket o).streams
    go None = a
    go (Some w) = alone_from b.streams _ (from_place w.place (record b { watches = without_watch ticket b.watches })) a

pub splits_leave : (b : Broadcasts) (ticket next : ℕ) → StandAlone b.streams → StandAlone (split_slow b ticket next (watch_at ticket b.watches)).streams
splits_leave b ticket next a = go (watch_at ticket b.watches)
  where
    go : (o : Option Watch) → StandAlone (split_slow b ticket next o).streams
    go None = a
    go (Some w) = alone_from b.streams _ (from_place w.place (record b { watches = map (watch_changed ticket (split next)) b.watches })) a

-- Jobs.

chosen_first : (P : Stream → Type 0) (s : Stream) (o : Option Stream) (p : StreamPhase) → P s → AllSome P o → AllSome P (earlier o s p)
chosen_first P s o phase.Begun j h = h
chosen_first P s o (phase.Due since) j h = first_of o h
  where
    first_of : (o : Option Stream) → AllSome P o → AllSome P (earlier_of s o)
    first_of None h = j
    first_of (Some t) h = elim (is_before s.phase t.phase) as (λ b. AllSome P (cond b (Some s) (Some t))) [ true ↦ j | false ↦ h ]
chosen_first P s o (phase.Closing since) j h = first_of o h
  where
    first_of : (o : Option Stream) → AllSome P o → AllSome P (earlier_of s o)
    first_of None h = j
    first_of (Some t) h = elim (is_before s.phase t.phase) as (λ b. AllSome P (cond b (Some s) (Some t))) [ true ↦ j | false ↦ h ]

pub first_is : (P : Stream → Type 0) (ss : List Stream) (o : Option Stream) → EachStream P ss → AllSome P o → AllSome P (first_from o ss)
first_is P [] o p h = h
first_is P (s ∷ ss) o p h = first_is P ss (earlier o s s.phase) p.1 (chosen_first P s o s.phase p.0 h)

begun_harmless : (t : Stream) → t.stream.created ≡ false → IsHarmless (begun t)
begun_harmless t e = record { standing = e; due = λ d. absurd (cc) }

pub sent_leaves : (b : Broadcasts) (s : Stream) (p : StreamPhase) → s.phase ≡ p → stream_at s.number b.streams ≡ Some s → StandAlone b.streams → StandAlone (sent b s p).0.streams
sent_leaves b s (phase.Closing since) e f a = alone_from b.streams _ (from_without s.number b.streams) a
sent_leaves b s phase.Begun e f a = a
sent_leaves b s (phase.Due since) e f a =
    alone_from b.streams _ (from_changed s.number begun (λ s. refl) b.streams (λ k t g q. begun_harmless t (a.fresh k t g (ap (λ (x : Stream). is_due x.phase) (it k t g q) ∙ ap is_due e)))) a
  where
    equal : (a b : ℕ) → (a == b) ≡ true → a ≡ b
    equal a b e = grind (arith, nat_tests)

    it : (k : ℕ) (t : Stream) → stream_at k b.streams ≡ Some t → (t.number == s.number) ≡ true → t ≡ s
    it k t g q =
        let same : k ≡ s.number = sym (at_number k b.streams t g) ∙ equal t.number s.number q in
        let both : Some t ≡ Some s = sym g ∙ ap (λ (n : ℕ). stream_at n b.streams) same ∙ f in cc

pub jobs_leave : (b : Broadcasts) → numbered 0 b.given b.streams ≡ true → StandAlone b.streams → StandAlone (next_job b (first_due b.streams)).0.streams
jobs_leave b n a = go (first_due b.streams) (first_is (λ t. stream_at t.number b.streams ≡ Some t) b.streams None (each_found b.given b.streams n) tt)
  where
    go : (o : Option Stream) → AllSome (λ t. stream_at t.number b.streams ≡ Some t) o → StandAlone (next_job b o).0.streams
    go None h = a
    go (Some s) h = sent_leaves b s s.phase refl h a

-- The calls that may make one stand, or move its next: its range is merged then.

equal_numbers : (a b : ℕ) → (a == b) ≡ true → a ≡ b
equal_numbers a b e = grind (arith, nat_tests)

-- a change of a stream whose opening was sent, which keeps its range and phase
pub record Moves (ss : List Stream) (s : Stream) (f : Stream → Stream) : Type 0 where
  pub at : stream_at s.number ss ≡ Some s
  pub begun : is_begun s.phase ≡ true
  pub number : KeepsNumber f
  pub range : (t : Stream) → (f t).stream.range ≡ t.stream.range
  pub phase : (t : Stream) → (f t).phase ≡ t.phase

-- what is at a number afterwards
moved_at : (ss : List Stream) (s : Stream) (f : Stream → Stream) → Moves ss s f → (k : ℕ) (u : Stream) → stream_at k (with_stream s.number f ss) ≡ Some u → (f s ≡ u) ⊎ (stream_at k ss ≡ Some u)
moved_at ss s f m k u e =
    let x = changed_at s.number f m.number ss k u e in
    let t = x.0 in
    elim (t.number == s.number) as (λ b. (t.number == s.number) ≡ b → cond b (f t) t ≡ u → (f s ≡ u) ⊎ (stream_at k ss ≡ Some u)) [
      | true ↦ λ q c.
          let same : k ≡ s.number = sym (at_number k ss t x.1) ∙ equal_numbers t.number s.number q in
          let both : Some s ≡ Some t = sym m.at ∙ ap (λ (n : ℕ). stream_at n ss) (sym same) ∙ x.1 in
          let one : s ≡ t = cc in
          inl (ap f one ∙ c)
      | false ↦ λ q c. inr (x.1 ∙ ap (λ (v : Stream). Some v) c)
    ] refl x.2

still_of : (ss : List Stream) (s : Stream) (f : Stream → Stream) → Moves ss s f → (range : KeyRange) → same_range s.stream.range range ≡ false
    → (k : ℕ) (u : Stream) → stream_at k (with_stream s.number f ss) ≡ Some u → is_of range u ≡ true → stream_at k ss ≡ Some u
still_of ss s f m range r k u e o =
    elim (moved_at ss s f m k u e) [
      | inl c ↦ absurd (
          let p = two_tests (same_range u.stream.range range) (is_standing u) o in
          let q : same_range s.stream.range range ≡ true = ap (λ (k : KeyRange). same_range k range) (sym (m.range s) ∙ ap (λ (t : Stream). t.stream.range) c) ∙ p.0 in cc)
      | inr q ↦ q
    ]

moved_twins : (ss : List Stream) (s : Stream) (f : Stream → Stream) → Moves ss s f → (range : KeyRange) → same_range s.stream.range range ≡ false → NoTwins range ss → NoTwins range (with_stream s.number f ss)
moved_twins ss s f m range r a j k t u p q d e n = a j k t u (still_of ss s f m range r j t p d) (still_of ss s f m range r k u q e) d e n

-- its opening was sent
pub not_closing : (p : StreamPhase) → is_begun p ≡ true → is_closing p ≡ false
not_closing (phase.Due since) e = absurd (cc)
not_closing phase.Begun e = refl
not_closing (phase.Closing since) e = absurd (cc)

not_due : (p : StreamPhase) → is_begun p ≡ true → is_due p ≡ false
not_due (phase.Due since) e = absurd (cc)
not_due phase.Begun e = refl
not_due (phase.Closing since) e = absurd (cc)

moved_fresh : (ss : List Stream) (s : Stream) (f : Stream → Stream) → Moves ss s f → AreFresh ss → AreFresh (with_stream s.number f ss)
moved_fresh ss s f m a k u e d =
    elim (moved_at ss s f m k u e) [
      | inl c ↦ absurd (let q : is_due u.phase ≡ false = ap (λ (t : Stream). is_due t.phase) (sym c) ∙ ap is_due (m.phase s) ∙ not_due s.phase m.begun in cc)
      | inr q ↦ a k u q d
    ]

-- vs: the streams after the change, some of which were closed
moved_merged : (ss vs : List Stream) (s : Stream) (f : Stream → Stream) (step : ℕ) → Moves ss s f → From (with_stream s.number f ss) vs → StandAlone ss → StandAlone (map (merged_stream s.stream.range vs step) vs)
moved_merged ss vs s f step m g a =
    let us = map (merged_stream s.stream.range vs step) vs in
    record {
      alone = λ range. elim (same_range s.stream.range range) as (λ b. same_range s.stream.range range ≡ b → NoTwins range us) [
        | true ↦ λ r. subst (λ (k : KeyRange). NoTwins k us) (same_ranges s.stream.range range r) (merged_alone s.stream.range vs step)
        | false ↦ λ r. twins_from range vs us (from_merged s.stream.range step vs) (twins_from range (with_stream s.number f ss) vs g (moved_twins ss s f m range r (a.alone range)))
      ] refl;
      fresh = fresh_from vs us (from_merged s.stream.range step vs) (fresh_from (with_stream s.number f ss) vs g (moved_fresh ss s f m a.fresh));
    }

moves : (b : Broadcasts) (s : Stream) (f : Stream → Stream) → stream_at s.number b.streams ≡ Some s → is_begun s.phase ≡ true → KeepsNumber f → ((t : Stream) → (f t).stream.range ≡ t.stream.range) → ((t : Stream) → (f t).phase ≡ t.phase) → Moves b.streams s f
moves b s f e q n r p = record { at = e; begun = q; number = n; range = r; phase = p }

pub creations_leave : (b : Broadcasts) (s : Stream) (header last : Header) → stream_at s.number b.streams ≡ Some s → StandAlone b.streams → StandAlone (stands_created b s header last).streams
creations_leave b s header last e a =
    elim (is_awaited s) as (λ c. is_awaited s ≡ c → StandAlone (cond c (merged s.stream.range (record b { streams = with_stream s.number (created_stream header.revision) b.streams; watches = map (member_changed s.number (created_watch (created s.stream header.revision).next last)) b.watches })) b).streams) [
      | true ↦ λ q.
          let opened = (two_tests (is_begun s.phase) (not s.stream.created) q).0 in
          let f = created_stream header.revision in
          moved_merged b.streams (with_stream s.number f b.streams) s f b.step (moves b s f e opened (λ t. refl) (λ t. refl) (λ t. refl)) (from_itself (with_stream s.number f b.streams)) a
      | false ↦ λ q. a
    ] refl

message_leaves : (b : Broadcasts) (s : Stream) (header : Header) (es : List Event) → is_begun s.phase ≡ true → stream_at s.number b.streams ≡ Some s → StandAlone b.streams → StandAlone (merged s.stream.range (delivered_message b s header es)).streams
message_leaves b s header [] q e a =
    let f = advanced header.revision in
    let us = with_stream s.number f b.streams in
    elim (nat_le s.stream.next (header.revision + 1)) as (λ c. StandAlone (merged s.stream.range (cond c (record b { streams = us; watches = map (member_changed s.number (progressed s.stream.next header)) b.watches }) b)).streams) [
      | true ↦ moved_merged b.streams us s f b.step (moves b s f e q (λ t. refl) (λ t. refl) (λ t. refl)) (from_itself us) a
      | false ↦ merges_leave s.stream.range b a
    ]
message_leaves b s header (x ∷ es) q e a =
    let f = advanced (last_revision 0 (x ∷ es)) in
    let given = given_events b s.number s.stream.next header (x ∷ es) in
    moved_merged b.streams given.streams s f given.step (moves b s f e q (λ t. refl) (λ t. refl) (λ t. refl))
    (from_left s.number (record b { streams = with_stream s.number f b.streams; watches = map (member_changed s.number (given_batch s.stream.next header (x ∷ es))) b.watches })) a

pub deliveries_leave : (b : Broadcasts) (s : Stream) (header : Header) (es : List Event) → stream_at s.number b.streams ≡ Some s → StandAlone b.streams → StandAlone (delivered_stream b s header es).streams
deliveries_leave b s header es e a =
    elim (is_begun s.phase) as (λ c. is_begun s.phase ≡ c → StandAlone (cond c (cond (is_told s es) (merged s.stream.range (delivered_message b s header es)) (cut_stream b s)) b).streams) [
      | true ↦ λ q. elim (is_told s es) as (λ d. StandAlone (cond d (merged s.stream.range (delivered_message b s header es)) (cut_stream b s)).streams) [
        | true ↦ message_leaves b s header es q e a
        | false ↦ cuts_leave b s a
      ]
      | false ↦ λ q. a
    ] refl
