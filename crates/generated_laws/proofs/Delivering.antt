-- What the store pushes into a stream by a generated script is taken, and so is its delivery.
use Rattle.std.proofs.Common.{◌≡◌, ◌⊎◌, inl, inr, ℕ, ◌+◌, ◌-◌, ◌≤◌, ◌==◌, Bool, true, false, cond, List, [], ◌∷◌, ◌++◌, length, length-set, Option, None, Some, is_ok, refl, sym, ◌∙◌, ap, subst, arith}
use Rattle.std.proofs.lemmas.Bool.Decides.{nat_tests}
use Rattle.etcd_types.specs.declared.request.WatchAsk.{WatchAsk}
use Rattle.etcd_types.specs.declared.watch.WatchItem.{WatchItem}
use Rattle.etcd_types.specs.declared.watch.WatchItem.TheVariants as message
use Rattle.proxy_model.specs.Unwrapped.{item_without}
use Rattle.proxy_model.specs.Upstream.{created, advance}
use Rattle.script_text.specs.declared.item.Item.TheVariants as item
use Rattle.script_text.specs.declared.line.Line.TheVariants as line
use Rattle.store_model.specs.declared.watch.OpenWatch.{OpenWatch}
use Rattle.store_model.specs.History.{newest}
use Rattle.store_model.specs.Watches.{watch_of, pushed}
use Rattle.core_model.specs.declared.event.CoreEvent.TheVariants as event
use Rattle.core_model.specs.LeasingStream.{told_revision}
use Rattle.core_model.specs.State.{Opening}
use Rattle.world_model.specs.declared.fault.WorldFault.TheVariants as fault
use Rattle.world_model.specs.Gains.{all_fetched}
use Rattle.world_model.specs.Places.{nth, with_nth, with_stream, place_at, with_place, with_core, if_life, place_in, unless, stream_place}
use Rattle.world_model.specs.Questions.{is_there, pushes_if, can_push_of, can_push}
use Rattle.world_model.specs.State.{Place, OpenedStream, World}
use Rattle.world_model.specs.Steps.{Step, after_core, steps}
use Rattle.world_model.specs.Streams.{is_cancellation, with_message, pushed_as, pushed_at, open_place, pushed_of, was_delivered, delivered_as, delivered_at, delivered_of, delivered}
use Rattle.world_model.specs.Transcript.{counted, step}
use Rattle.generated_laws.proofs.Events.{Tells, Told, item_step}
use Rattle.held_laws.proofs.Kept.{nth_itself, nth_other}
use Rattle.held_laws.proofs.Worlds.{equal, placed_itself, placed_other, nth_changed}
use Rattle.generated_laws.proofs.Lines.{small, Both}
use Rattle.generated_laws.proofs.Pushing.{item_itself, AgreesAfter, Message, message_of}
use Rattle.generated_laws.proofs.Stepping.{IsSmall}
use Rattle.generated_laws.proofs.Worlds.{more_place, FetchedSo, fetched_so, fetched_place, but_one, more_but, replaced, LineTaken, takes_line}
use Rattle.generated_laws.specs.Worlds.{All, Held, Linked, OneEach, PlaceStands, Running, StreamStands, held_of}

-- a stream that stands, at the place of its proxy
pub record Open (next most clock number : ℕ) (w : World) (s : OpenedStream) (x : Place) : Type 0 where
  pub running : Running next most clock w
  pub stream : nth w.streams number ≡ Some s
  pub uncancelled : s.cancelled ≡ false
  pub at : place_at w s.proxy ≡ Some x
  pub linked : Linked (held_of (place_at w s.proxy)) (watch_of w.store number) s
  pub life : x.life ≡ s.life
  pub leasing : x.core.leasing ≡ Some linked.opening
  pub message : is_ok (pushed w.store number) ≡ true

tied : (n m : ℕ) → n ≡ m → (n == m) ≡ true
tied n m e = grind (arith, nat_tests, e)

differ : (n q : ℕ) → n ≡ q → (q == n) ≡ false → ⊥
differ n q e d = let t : true ≡ false = sym (tied q n (sym e)) ∙ d in cc

-- the world takes both, and has as many streams
pub record BothSame (next most clock number : ℕ) (w : World) : Type 0 where
  pub both : Both (All next (most + 3) clock) (most + 3) w (line.Push number) (line.Deliver number)
  pub same : length both.then.after.streams ≡ length w.streams

le_on : (a b c : ℕ) → a ≤ b + 1 → b ≡ c → a ≤ c + 1
le_on a b c h e = omega (arith, h, e)

pub open_lines : (next most clock number : ℕ) (w : World) (s : OpenedStream) (x : Place) → IsSmall (most + 3) → Open next most clock number w s x → BothSame next most clock number w
open_lines next most clock number w s x small' h = record {
  both = record {
    between = w1;
    items = item.Pushed number i ∷ [];
    taken = ap (λ (t : Step). counted (step t)) (ap (pushed_of w number (pushed w.store)) h.stream ∙ ap (pushed_at w number (pushed w.store) s) opened ∙ ap (pushed_as w number s) m.pushed);
    then = then;
    streams = le_on (length then.after.streams) (length w1.streams) (length w.streams) then.streams (length-set w.streams (number - 1) s1);
  };
  same = as_many;
}
  where
    p : ℕ
    p = s.proxy

    o : Opening
    o = h.linked.opening

    r : PlaceStands next most clock [] x
    r = h.running.places p x h.at

    stands : stream_place w s ≡ Some x
    stands = ap (λ b. unless b (place_in w s.proxy s.life)) h.linked.ended ∙ ap (if_life s.life) h.at ∙ ap (λ b. cond b (Some x) None) (tied x.life s.life h.life)

    opened : open_place w s ≡ Some x
    opened = ap (λ b. unless b (stream_place w s)) h.uncancelled ∙ stands

    m : Message w.store number h.linked.opened o.stream
    m = message_of w.store number h.linked.opened o.stream (let a = h.running.short in let b = small' in omega (arith, a, b)) h.linked.watched h.linked.range h.linked.agree h.message

    i : WatchItem
    i = m.message

    s1 : OpenedStream
    s1 = with_message i s

    v1 : World
    v1 = record w { streams = with_nth w.streams number s1; store = m.after }

    w1 : World
    w1 = record v1 { lines = v1.lines + 1 }

    s2 : OpenedStream
    s2 = record s1 { waiting = [] }

    v2 : World
    v2 = with_stream w1 number s2

    t : Told x.clock next (most + 2) x.core o i i
    t = item_step x.clock next most o i i x.core (small most 3 small') h.leasing h.linked.due (ap (λ (n : List ℕ). item_without n i) r.rests.core.namespace ∙ item_itself i) m.can r.rests.core

    y : Place
    y = with_core x t.core

    z : Place
    z = (all_fetched y []).place

    f : FetchedSo next (most + 2) [] y z
    f = fetched_so next (most + 2) [] (length y.core.asks) y [] (small (most + 2) 1 (omega (arith, small'))) t.step.stands

    there : nth w1.streams number ≡ Some s1
    there = nth_itself w.streams number s s1 h.stream

    of_new : (j : WatchItem) → AgreesAfter m.after number h.linked.opened o.stream j → Tells o j t.core.leasing → is_cancellation j ≡ false → Linked (held_of (place_at (with_place v2 p z) p)) (watch_of m.after number) s2
    of_new (message.Created g) (v, at, ask, agree) l c = record {
      opening = record o { stream = created o.stream g.revision };
      stands = ap held_of (placed_itself v2 v2 p z) ∙ (λ k. Some (record { life = (f.life ∙ h.life) k; leasing = (f.leasing ∙ l) k }));
      number = h.linked.number;
      due = h.linked.due;
      waiting = refl;
      ended = h.linked.ended;
      opened = v;
      watched = at;
      range = ap (λ (a : WatchAsk). a.range) ask ∙ h.linked.range;
      agree = agree;
    }
    of_new (message.Events g es) (v, at, ask, agree) l c = record {
      opening = record o { stream = advance o.stream (told_revision g es) };
      stands = ap held_of (placed_itself v2 v2 p z) ∙ (λ k. Some (record { life = (f.life ∙ h.life) k; leasing = (f.leasing ∙ l) k }));
      number = h.linked.number;
      due = h.linked.due;
      waiting = refl;
      ended = h.linked.ended;
      opened = v;
      watched = at;
      range = ap (λ (a : WatchAsk). a.range) ask ∙ h.linked.range;
      agree = agree;
    }
    of_new (message.Canceled g compaction) a l c = absurd (cc)

    -- a stream of the world behind the lines
    was : (q : ℕ) (u : OpenedStream) → nth v2.streams q ≡ Some u → ((q ≡ number) × (s2 ≡ u)) ⊎ (((q == number) ≡ false) × (nth w.streams q ≡ Some u))
    was q u e = by (nth_changed w1.streams number q s1 s2 u there e)
      where
        by : ((q ≡ number) × (s2 ≡ u)) ⊎ (((q == number) ≡ false) × (nth w1.streams q ≡ Some u)) → ((q ≡ number) × (s2 ≡ u)) ⊎ (((q == number) ≡ false) × (nth w.streams q ≡ Some u))
        by (inl d) = inl d
        by (inr d) = inr (d.0, sym (nth_other w.streams number q s s1 h.stream d.0) ∙ d.1)

    of_old : (q : ℕ) (u : OpenedStream) → (q == number) ≡ false → nth w.streams q ≡ Some u → u.cancelled ≡ false → (b : Bool) → (u.proxy == p) ≡ b → Linked (held_of (place_at (with_place v2 p z) u.proxy)) (watch_of m.after q) u
    of_old q u n e c true d = absurd (differ number q (h.running.one number q s u h.stream e h.uncancelled c (sym (equal u.proxy p d))) n)
    of_old q u n e c false d =
        subst (λ (k : Option Held). Linked k (watch_of m.after q) u) (ap held_of (sym (placed_other w v2 p u.proxy z refl d)))
        (subst (λ (k : Option OpenWatch). Linked (held_of (place_at w u.proxy)) k u) (sym (m.others q n)) (h.running.streams q u e c))

    streams : (q : ℕ) (u : OpenedStream) → nth v2.streams q ≡ Some u → StreamStands (held_of (place_at (with_place v2 p z) u.proxy)) (watch_of m.after q) u
    streams q u e c = by (was q u e)
      where
        by : ((q ≡ number) × (s2 ≡ u)) ⊎ (((q == number) ≡ false) × (nth w.streams q ≡ Some u)) → Linked (held_of (place_at (with_place v2 p z) u.proxy)) (watch_of m.after q) u
        by (inl d) =
            subst (λ (k : OpenedStream). Linked (held_of (place_at (with_place v2 p z) k.proxy)) (watch_of m.after q) k) d.1
            (subst (λ (n : ℕ). Linked (held_of (place_at (with_place v2 p z) p)) (watch_of m.after n) s2) (sym d.0) (of_new i m.agrees t.leasing (ap (λ (k : OpenedStream). k.cancelled) d.1 ∙ c)))
        by (inr d) = of_old q u d.0 d.1 c (u.proxy == p) refl

    -- it was one before, of the same proxy
    before : (q : ℕ) (u : OpenedStream) → nth v2.streams q ≡ Some u → u.cancelled ≡ false → (k : OpenedStream) × (nth w.streams q ≡ Some k) × (k.cancelled ≡ false) × (k.proxy ≡ u.proxy)
    before q u e c = by (was q u e)
      where
        by : ((q ≡ number) × (s2 ≡ u)) ⊎ (((q == number) ≡ false) × (nth w.streams q ≡ Some u)) → (k : OpenedStream) × (nth w.streams q ≡ Some k) × (k.cancelled ≡ false) × (k.proxy ≡ u.proxy)
        by (inl d) = (s, ap (nth w.streams) d.0 ∙ h.stream, h.uncancelled, ap (λ (k : OpenedStream). k.proxy) d.1)
        by (inr d) = (u, d.1, c, refl)

    one : OneEach v2.streams
    one n q a b d e c g k =
        let j = before n a d c in
        let l = before q b e g in
        h.running.one n q j.0 l.0 j.1 l.1 j.2 l.2 (j.3 ∙ k ∙ sym l.3)

    as_many : length v2.streams ≡ length w.streams
    as_many = length-set w1.streams (number - 1) s2 ∙ length-set w.streams (number - 1) s1

    then : LineTaken (All next (most + 3) clock) (most + 3) w1 (line.Deliver number)
    then =
        takes_line (All next (most + 3) clock) (most + 3) w1 (line.Deliver number) (delivered w1 number) (with_place v2 p z) _ refl
        (ap (delivered_of w1 number) there ∙ ap (delivered_at w1 number s1) stands ∙ ap (λ (ws : List WatchItem). delivered_as w1 number s1 x (ws ++ i ∷ [])) h.linked.waiting
        ∙ ap (λ (n : ℕ). steps w1 p x (event.Item n i) (fault.NoSuchStream number) (was_delivered w1 number s1 [])) (sym h.linked.number) ∙ ap (after_core w1 p x (fault.NoSuchStream number) (was_delivered w1 number s1 [])) t.step.step)
        (replaced (All next (most + 3) clock) p next (most + 3) clock w v2 z (more_but p next most (most + 3) clock clock w (omega (arith)) (omega (arith)) (but_one p next most clock w h.running)) refl
        (more_place next (most + 2 + 1) (most + 3) clock clock [] z (omega (arith)) (omega (arith)) (fetched_place next (most + 2) clock [] y [] (small (most + 2) 1 (omega (arith, small'))) r.rests.reads r.rests.tickets t.step.stands))
        (λ a b c d. d) streams one (m.many ∙ h.running.many ∙ sym as_many) (let a = h.running.short in let b = ap newest m.history in omega (arith, a, b)))
        (let a = as_many in let b = length-set w.streams (number - 1) s1 in omega (arith, a, b))

-- ---- where the world says that it can be pushed

abbrev leasing_in : Option Held → Option Opening
leasing_in None = None
leasing_in (Some g) = g.leasing

abbrev life_in : Option Held → ℕ
life_in None = 0
life_in (Some g) = g.life

pub push_lines : (next most clock number : ℕ) (w : World) → IsSmall (most + 3) → Running next most clock w → can_push w number ≡ true → BothSame next most clock number w
push_lines next most clock number w s h c = by_stream (nth w.streams number) refl c
  where
    by_place : (t : OpenedStream) → nth w.streams number ≡ Some t → t.cancelled ≡ false → (l : Linked (held_of (place_at w t.proxy)) (watch_of w.store number) t) → pushes_if w number (is_there (open_place w t)) ≡ true → (o : Option Place) → place_at w t.proxy ≡ o
        → BothSame next most clock number w
    by_place t e u l k None at = absurd (no_held (sym (ap held_of at) ∙ l.stands))
      where
        no_held : {g : Held} → ◌≡◌ {A = Option Held} None (Some g) → ⊥
        no_held a = cc
    by_place t e u l k (Some x) at =
        let held = sym (ap held_of at) ∙ l.stands in
        let life : x.life ≡ t.life = ap life_in held in
        let leasing : x.core.leasing ≡ Some l.opening = ap leasing_in held in
        let opened : open_place w t ≡ Some x = ap (λ b. unless b (stream_place w t)) u ∙ ap (λ b. unless b (place_in w t.proxy t.life)) l.ended ∙ ap (if_life t.life) at ∙ ap (λ b. cond b (Some x) None) (tied x.life t.life life) in
        open_lines next most clock number w t x s (record { running = h; stream = e; uncancelled = u; at = at; linked = l; life = life; leasing = leasing; message = sym (ap (λ (o : Option Place). pushes_if w number (is_there o)) opened) ∙ k })

    by_cancelled : (t : OpenedStream) → nth w.streams number ≡ Some t → (b : Bool) → t.cancelled ≡ b → pushes_if w number (is_there (open_place w t)) ≡ true → BothSame next most clock number w
    by_cancelled t e true u k = absurd (let f : false ≡ true = sym (ap (λ b. pushes_if w number (is_there (unless b (stream_place w t)))) u) ∙ k in cc)
    by_cancelled t e false u k = by_place t e u (h.streams number t e u) k (place_at w t.proxy) refl

    by_stream : (o : Option OpenedStream) → nth w.streams number ≡ o → can_push_of w number o ≡ true → BothSame next most clock number w
    by_stream None e k = absurd (cc)
    by_stream (Some t) e k = by_cancelled t e t.cancelled refl k
