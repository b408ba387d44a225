-- What the steps of a proxy's streams do to the stories of its watches.
use Rattle.std.proofs.Common.{◌≡◌, ◌⊎◌, inl, inr, ℕ, ◌+◌, ◌-◌, ◌≤◌, Bool, true, false, cond, ◌==◌, List, [], ◌∷◌, ◌++◌, map, Option, None, Some, is_some, option_map, refl, ap, sym, subst, ◌∙◌, arith}
use Rattle.etcd_types.specs.declared.key_range.KeyRange.{KeyRange}
use Rattle.etcd_types.specs.declared.record.Header.{Header}
use Rattle.proxy_model.specs.Upstream.{created}
use Rattle.store_model.specs.History.{newest}
use Rattle.watch_model.specs.declared.place.WatchPlace.{WatchPlace}
use Rattle.watch_model.specs.declared.place.WatchPlace.TheVariants as place
use Rattle.watch_model.specs.declared.stream.StreamPhase.{StreamPhase}
use Rattle.watch_model.specs.declared.stream.StreamPhase.TheVariants as phase
use Rattle.watch_model.specs.Joining.{told_if, decided, seated_in, stream_to_join, new_stream, Seated, seated_at, seated}
use Rattle.watch_model.specs.Lookups.{same_range, stream_at, place_stream, with_stream, without_stream, changed_stream, is_begun, is_closing, is_due, is_standing, has_member, numbered}
use Rattle.watch_model.specs.Merging.{is_of, keeper, kept_by, merged_number, merged_place, merged_stream, merged_watch, merged}
use Rattle.watch_model.specs.Splitting.{closed, emptied_as, emptied}
use Rattle.watch_model.specs.State.{Stream, Watch, Broadcasts}
use Rattle.watch_model.specs.Story.{EachWatch, is_member as stays_in}
use Rattle.watch_model.proofs.Numbers.{merged-keeps}
use Rattle.watch_model.proofs.Streams.{at-map, at_number, number_itself, or_stream, at-push, none_above, numbered-push, changed-keeps, each_mapped, each_outside}
use Rattle.watch_laws.proofs.Bounds.{keeper_same}
use Rattle.watch_laws.proofs.Seating.{AllSome, MayJoin, join_is, seated_place}
use Rattle.watch_laws.proofs.Steps.{Keeper, keeper_is, same_ranges, two_tests, emptied-other}
use Rattle.world_model.specs.Answers.{seen}
use Rattle.world_model.specs.State.{OpenedStream}
use Rattle.received_laws.proofs.Starting.{join_most}
use Rattle.watch_stories.specs.Stories.{member}
use Rattle.watch_stories.proofs.Facts.{View, IsOpen, OkAt, AreOpen, open_at, Fewer, fewer_open, fewer_same, without_fewer, push_fewer, closing_fewer}
use Rattle.watch_stories.proofs.Points.{AtPhase, StandsAt, Fits, Has, Joins, told_if_has, seat_has, due_has, fresh_has, merged_has}

-- each watch of a proxy has a story
abbrev pub Sees : View → List Stream → List Watch → Type 0
Sees v ss ws = EachWatch (λ w. Has v (place_stream ss w.place) w) ws

none_here : {A : Type 0} (t : Stream) → ◌≡◌ {A = Option Stream} None (Some t) → A
none_here t e = absurd (cc)

some_number : (a b : ℕ) → Some a ≡ Some b → a ≡ b
some_number a b e = cc

-- a watch whose stream is another value of the same
pub same_has : (v : View) (o x : Option Stream) (w : Watch) → x ≡ o → Has v o w → Has v x w
same_has v o x w e h = subst (λ (y : Option Stream). Has v y w) (sym e) h

-- it is a member of a stream that was begun
pub member_spot : (v : View) (s : Stream) (w : Watch) (own : ℕ) (o : IsOpen v own s) → is_begun s.phase ≡ true → w.place ≡ place.In own → (h : Has v (Some s) w) → h.point.spot ≡ member o.number
member_spot v s w own o b at h = by s.phase b (subst (λ (p : WatchPlace). StandsAt v.kept (Some s) p h.point.spot) at h.spot)
  where
    by : (p : StreamPhase) → is_begun p ≡ true → AtPhase v.kept own p h.point.spot → h.point.spot ≡ member o.number
    by phase.Begun e k = k.2 ∙ ap (λ (n : ℕ). member n) (some_number k.0 o.number (sym k.1 ∙ o.kept_is))
    by (phase.Due since) e k = absurd (cc)
    by (phase.Closing since) e k = absurd (cc)

-- the watch with its place written out
placed_has : (v : View) (o : Option Stream) (w : Watch) (p : WatchPlace) → w.place ≡ p → Has v o w → Has v o (record w { place = p })
placed_has v o w p e h = record {
  ask = h.ask;
  asked = h.asked;
  same = h.same;
  point = h.point;
  story = h.story;
  start = h.start;
  next = h.next;
  zero = h.zero;
  told = h.told;
  spot = subst (λ (q : WatchPlace). StandsAt v.kept o q h.point.spot) e h.spot;
  given = h.given;
  bounded = h.bounded;
  cancels = h.cancels;
  fits = by o h.fits;
}
  where
    by : (o : Option Stream) → Fits o w → Fits o (record w { place = p })
    by None f = tt
    by (Some s) f = f

-- ---- streams of one range and next become one

merged_itself : (range : KeyRange) (ss : List Stream) (step : ℕ) (s : Stream) → kept_by range ss s ≡ s.number → merged_stream range ss step s ≡ s
merged_itself range ss step s e = ap (λ b. cond b s (record s { phase = phase.Closing step })) (ap (λ (n : ℕ). n == s.number) e ∙ number_itself s.number)

pub merged_fewer : (range : KeyRange) (ss : List Stream) (step : ℕ) → Fewer ss (map (merged_stream range ss step) ss)
merged_fewer range ss step = closing_fewer (merged_stream range ss step) (merged-keeps range ss step) either ss
  where
    either : (s : Stream) → (merged_stream range ss step s ≡ s) ⊎ (is_closing (merged_stream range ss step s).phase ≡ true)
    either s = elim (kept_by range ss s == s.number) as (λ b. (cond b s (record s { phase = phase.Closing step }) ≡ s) ⊎ (is_closing (cond b s (record s { phase = phase.Closing step })).phase ≡ true)) [
      | true ↦ inl refl
      | false ↦ inr refl
    ]

merged_one : (v : View) (streams : List OpenedStream) (range : KeyRange) (ss : List Stream) (step high : ℕ) → numbered 0 high ss ≡ true → AreOpen v streams ss → (w : Watch) (p : WatchPlace) → w.place ≡ p → Has v (place_stream ss p) w
    → Has v (place_stream (map (merged_stream range ss step) ss) (merged_place range ss p)) (record w { place = merged_place range ss p })
merged_one v streams range ss step high h known w place.Split q k = placed_has v None w place.Split q k
merged_one v streams range ss step high h known w place.Ended q k = placed_has v None w place.Ended q k
merged_one v streams range ss step high h known w (place.In n) q k = go (stream_at n ss) refl k
  where
    us : List Stream
    us = map (merged_stream range ss step) ss

    nowhere : {A : Type 0} → Has v None w → A
    nowhere k = absurd (subst (λ (p : WatchPlace). StandsAt v.kept None p k.point.spot) q k.spot)

    -- it stays where it is
    stays : (s : Stream) → stream_at n ss ≡ Some s → Has v (Some s) w → (j : ℕ) → j ≡ s.number → kept_by range ss s ≡ s.number → Has v (stream_at j us) (record w { place = place.In j })
    stays s e k j f g =
        let number : s.number ≡ n = at_number n ss s e in
        let itself : stream_at s.number ss ≡ Some s = ap (λ (m : ℕ). stream_at m ss) number ∙ e in
        let at : stream_at j us ≡ Some s =
        ap (λ (m : ℕ). stream_at m us) f ∙ at-map (merged_stream range ss step) (merged-keeps range ss step) s.number ss ∙ ap (option_map (merged_stream range ss step)) itself ∙ ap (λ (x : Stream). Some x) (merged_itself range ss step s g) in
        same_has v (Some s) (stream_at j us) (record w { place = place.In j }) at (placed_has v (Some s) w (place.In j) (q ∙ ap (λ (m : ℕ). place.In m) (sym number ∙ sym f)) k)

    go : (o : Option Stream) → stream_at n ss ≡ o → Has v o w → Has v (stream_at (merged_number range ss n o) us) (record w { place = place.In (merged_number range ss n o) })
    go None e k = nowhere k
    go (Some s) e k = by (is_of range s) refl
      where
        number : s.number ≡ n
        number = at_number n ss s e

        itself : stream_at s.number ss ≡ Some s
        itself = ap (λ (m : ℕ). stream_at m ss) number ∙ e

        by : (c : Bool) → is_of range s ≡ c → Has v (stream_at (cond (is_of range s) (keeper range s.stream.next s.number ss) s.number) us) (record w { place = place.In (cond (is_of range s) (keeper range s.stream.next s.number ss) s.number) })
        by false c =
            let kept : kept_by range ss s ≡ s.number = ap (λ b. cond b (keeper range s.stream.next s.number ss) s.number) c in
            stays s e k (kept_by range ss s) kept kept
        by true c =
            let kept : kept_by range ss s ≡ keeper range s.stream.next s.number ss = ap (λ b. cond b (keeper range s.stream.next s.number ss) s.number) c in
            subst (λ (j : ℕ). Has v (stream_at j us) (record w { place = place.In j })) (sym kept) (keeps (keeper_is range s.stream.next s.number 0 high ss h))
          where
            begun : is_begun s.phase ≡ true
            begun = (two_tests (is_begun s.phase) s.stream.created (two_tests (same_range s.stream.range range) (is_standing s) c).1).0

            keeps : (keeper range s.stream.next s.number ss ≡ s.number) ⊎ Keeper range s.stream.next (keeper range s.stream.next s.number ss) ss
                → Has v (stream_at (keeper range s.stream.next s.number ss) us) (record w { place = place.In (keeper range s.stream.next s.number ss) })
            keeps (inl f) = stays s e k (keeper range s.stream.next s.number ss) f (ap (λ b. cond b (keeper range s.stream.next s.number ss) s.number) c ∙ f)
            keeps (inr m) =
                let j = keeper range s.stream.next s.number ss in
                let t = m.stream in
                let its : t.number ≡ j = at_number j ss t m.at in
                let t_begun = (two_tests (is_begun t.phase) t.stream.created (two_tests (same_range t.stream.range range) (is_standing t) m.of_is).1).0 in
                -- it keeps itself
                let own : kept_by range ss t ≡ t.number =
                ap (λ b. cond b (keeper range t.stream.next t.number ss) t.number) m.of_is ∙ ap (λ (x : ℕ). keeper range x t.number ss) m.next_is ∙ keeper_same range t.number s.number s.number ss s itself c ∙ sym its in
                let at : stream_at j us ≡ Some t =
                at-map (merged_stream range ss step) (merged-keeps range ss step) j ss ∙ ap (option_map (merged_stream range ss step)) m.at ∙ ap (λ (x : Stream). Some x) (merged_itself range ss step t own) in
                let a = (open_at v streams ss n s known e begun).its in
                let b = (open_at v streams ss t.number t known (ap (λ (x : ℕ). stream_at x ss) its ∙ m.at) t_begun).its in
                let ranges : t.stream.range ≡ s.stream.range = same_ranges t.stream.range range m.range_is ∙ sym (same_ranges s.stream.range range (two_tests (same_range s.stream.range range) (is_standing s) c).0) in
                same_has v (Some t) (stream_at j us) (record w { place = place.In j }) at
                (subst (λ (x : ℕ). Has v (Some t) (record w { place = place.In x })) its
                (merged_has v s t n w a b t_begun m.next_is (ranges ∙ k.fits.0) k (member_spot v s w n a begun q k)))

pub merged_sees : (v : View) (streams : List OpenedStream) (range : KeyRange) (b : Broadcasts) → numbered 0 b.given b.streams ≡ true → AreOpen v streams b.streams → Sees v b.streams b.watches → Sees v (merged range b).streams (merged range b).watches
merged_sees v streams range b n known h =
    each_mapped (λ w. Has v (place_stream b.streams w.place) w) (λ w. Has v (place_stream (map (merged_stream range b.streams b.step) b.streams) w.place) w) (merged_watch range b.streams)
    (λ w k. merged_one v streams range b.streams b.step b.given n known w w.place refl k) b.watches h

-- ---- a stream without members

pub emptied_fewer : (n : ℕ) (b : Broadcasts) → Fewer b.streams (emptied n b).streams
emptied_fewer n b =
    elim (has_member n b.watches) as (λ c. Fewer b.streams (cond c b (record b { streams = emptied_as n b.step b.streams (stream_at n b.streams) })).streams) [
      | true ↦ fewer_same b.streams
      | false ↦ by (stream_at n b.streams)
    ]
  where
    close : (s : Stream) → (changed_stream n (closed b.step) s ≡ s) ⊎ (is_closing (changed_stream n (closed b.step) s).phase ≡ true)
    close s = elim (s.number == n) as (λ c. (cond c (closed b.step s) s ≡ s) ⊎ (is_closing (cond c (closed b.step s) s).phase ≡ true)) [ true ↦ inr refl | false ↦ inl refl ]

    by : (o : Option Stream) → Fewer b.streams (emptied_as n b.step b.streams o)
    by None = fewer_same b.streams
    by (Some s) = elim (is_due s.phase) as (λ c. Fewer b.streams (cond c (without_stream n b.streams) (with_stream n (closed b.step) b.streams))) [
      | true ↦ without_fewer n b.streams
      | false ↦ closing_fewer (changed_stream n (closed b.step)) (changed-keeps n (closed b.step) (λ s. refl)) close b.streams
    ]

pub emptied_sees : (v : View) (n : ℕ) (b : Broadcasts) → Sees v b.streams b.watches → Sees v (emptied n b).streams (emptied n b).watches
emptied_sees v n b h =
    let ss = emptied_as n b.step b.streams (stream_at n b.streams) in
    elim (has_member n b.watches) as (λ c. has_member n b.watches ≡ c → let d : Broadcasts = cond c b (record b { streams = ss }) in Sees v d.streams d.watches) [
      | true ↦ λ e. h
      | false ↦ λ e.
          each_outside (λ w. Has v (place_stream b.streams w.place) w) (λ w. Has v (place_stream ss w.place) w) n
          (λ w d k. same_has v (place_stream b.streams w.place) (place_stream ss w.place) w (emptied-other n b.step b.streams (stream_at n b.streams) w.place d) k) b.watches e h
    ] refl

-- ---- a watch joins

pub record SeatHas (v : View) (streams : List OpenedStream) (ss : List Stream) (x : Seated) : Type 0 where
  pub numbers : numbered 0 x.given x.streams ≡ true
  pub known : AreOpen v streams x.streams
  pub watch : Has v (place_stream x.streams x.watch.place) x.watch
  pub others : (p : WatchPlace) → is_some (place_stream ss p) ≡ stays_in p → place_stream x.streams p ≡ place_stream ss p

there_push : (ss : List Stream) (t : Stream) (p : WatchPlace) → is_some (place_stream ss p) ≡ stays_in p → place_stream (ss ++ t ∷ []) p ≡ place_stream ss p
there_push ss t (place.In k) e = at-push k ss t ∙ there (stream_at k ss) (cond (t.number == k) (Some t) None) e
  where
    there : (o x : Option Stream) → is_some o ≡ true → or_stream o x ≡ o
    there None x e = absurd (cc)
    there (Some s) x e = refl
there_push ss t place.Split e = refl
there_push ss t place.Ended e = refl

pub seat_sees : (v : View) (streams : List OpenedStream) (ss : List Stream) (given step : ℕ) (last : Header) (w : Watch) → numbered 0 given ss ≡ true → AreOpen v streams ss → last.revision ≤ newest (seen v.items).store.history
    → Joins v w → SeatHas v streams ss (seated ss given step last w)
seat_sees v streams ss given step last w n known high j =
    go (stream_to_join ss w.ask.range w.next last.revision) (join_is given ss w.ask.range w.next last.revision n) (λ z. join_most ss w.ask.range w.next last.revision z)
  where
    bound : (s : Stream) → ((w.next == 0) ≡ true → s.stream.next ≤ last.revision + 1) → (w.next == 0) ≡ true → s.stream.next ≤ newest (seen v.items).store.history + 1
    bound s b z = let k = b z in omega (arith, k, high)

    sat : (s : Stream) → stream_at s.number ss ≡ Some s → s.stream.range ≡ w.ask.range → is_closing s.phase ≡ false → ((w.next == 0) ≡ false → s.stream.next ≤ w.next) → ((w.next == 0) ≡ true → s.stream.next ≤ last.revision + 1)
        → (p : StreamPhase) → s.phase ≡ p → Has v (Some s) (seated_in last s w)
    sat s at range closing behind b phase.Begun e =
        let begun : is_begun s.phase ≡ true = ap is_begun e in
        let o = (open_at v streams ss s.number s known at begun).its in
        let k = seat_has v w s o begun range behind (bound s b) j in
        told_if_has v s s.stream.created last (record (decided s.stream.next w) { place = place.In s.number }) s.number o (λ c. c) k.0 k.1
    sat s at range closing behind b (phase.Due since) e =
        let fresh : s.stream.created ≡ false = subst (OkAt v streams s.number s) e (known s.number s at) in
        subst (λ c. Has v (Some s) (told_if c last (record (decided s.stream.next w) { place = place.In s.number }))) (sym fresh) (due_has v w s since e range behind (bound s b) j)
    sat s at range closing behind b (phase.Closing since) e = absurd (let no : true ≡ false = sym (ap is_closing e) ∙ closing in cc)

    go : (o : Option Stream) → AllSome (MayJoin ss w.ask.range w.next) o → ((w.next == 0) ≡ true → AllSome (λ s. s.stream.next ≤ last.revision + 1) o) → SeatHas v streams ss (seated_at ss given step last w o)
    go (Some s) m b = record {
      numbers = n;
      known = known;
      watch =
          same_has v (Some s) (place_stream ss (seated_in last s w).place) (seated_in last s w) (ap (place_stream ss) (seated_place last s w) ∙ m.found)
          (sat s m.found (same_ranges s.stream.range w.ask.range m.range_is) m.open_is (λ z. (m.behind z).1) b s.phase refl);
      others = λ p e. refl;
    }
    go None m b =
        let k = given + 1 in
        let new = new_stream k step w.ask.range w.next in
        let fresh : stream_at k (ss ++ new ∷ []) ≡ Some new =
        at-push k ss new ∙ ap (λ o. or_stream o (cond (k == k) (Some new) None)) (none_above 0 given k ss n (omega arith)) ∙ ap (λ c. cond c (Some new) None) (number_itself k) in
        record {
          numbers = numbered-push 0 given ss new (omega arith) refl n;
          known = fewer_open v streams ss (ss ++ new ∷ []) (push_fewer ss new (record { since = step; due = refl; created = refl })) known;
          watch = same_has v (Some new) (stream_at k (ss ++ new ∷ [])) (record w { place = place.In k }) fresh (fresh_has v w new step k refl refl refl j);
          others = λ p e. there_push ss new p e;
        }
