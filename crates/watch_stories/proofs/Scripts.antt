-- Each message that is taken of a watch is of that watch's story, in every script.
use Rattle.std.proofs.Common.{◌≡◌, ◌⊎◌, inl, inr, ℕ, ◌+◌, ◌<◌, ◌^◌, Bool, true, false, cond, ◌==◌, List, [], ◌∷◌, ◌++◌, append-nil, append_assoc, length, slice_get, ◌-◌, Option, None, Some, Ok, Err, refl, ap, sym, subst, ◌∙◌, arith}
use Rattle.std.specs.Prelude.{flat_map}
use Rattle.std.specs.BTreeSet.{BTreeSet}
use Rattle.etcd_types.specs.declared.answer.Answer.{Answer}
use Rattle.etcd_types.specs.declared.record.Header.{Header}
use Rattle.etcd_types.specs.declared.request.WatchAsk.{WatchAsk}
use Rattle.etcd_types.specs.declared.watch.Event.{Event}
use Rattle.etcd_types.specs.declared.watch.WatchItem.{WatchItem}
use Rattle.etcd_types.specs.declared.watch.WatchItem.TheVariants as message
use Rattle.script_text.specs.declared.item.Item.{Item}
use Rattle.script_text.specs.declared.item.Item.TheVariants as item
use Rattle.script_text.specs.declared.line.Line.{Line}
use Rattle.script_text.specs.declared.line.Line.TheVariants as line
use Rattle.store_laws.proofs.Lives.SoundProofs.{starts_sound}
use Rattle.watch_model.specs.Lookups.{place_stream, watch_at}
use Rattle.watch_model.specs.Queues.{item_events, queued_events}
use Rattle.watch_model.specs.State.{Stream, Watch}
use Rattle.watch_model.specs.Story.{Story as Told}
use Rattle.watch_laws.proofs.Seating.{found}
use Rattle.core_model.specs.declared.event.CoreEvent.{CoreEvent}
use Rattle.core_model.specs.declared.event.CoreEvent.TheVariants as event
use Rattle.core_model.specs.declared.event.Outcome.{Outcome}
use Rattle.core_model.specs.declared.event.Outcome.TheVariants as outcome
use Rattle.core_model.specs.Step.{stepped}
use Rattle.world_model.specs.Gains.{Replies, body_if, line_if, all_fetched, reply_items}
use Rattle.world_model.specs.Lives.{namespace_of}
use Rattle.world_model.specs.Places.{nth, is_among, with_core}
use Rattle.world_model.specs.State.{Place, World, starting_world}
use Rattle.world_model.specs.Transcript.{Taken, taken, items_and_then, transcript_from, transcript}
use Rattle.world_laws.proofs.Effects.{Turn, ticks, asks_it, posts_it, calls, opens, closes, answers, loses, delivers, cuts, takes, waits, leaves, Begins, first, again, Effect, starts, sets, refuses_post, executes, expires, applies, pushes, turns}
use Rattle.core_laws.proofs.Watches.Touches.{Side, Touch, leaves as leaves_all, took}
use Rattle.held_laws.proofs.Growing.{Grows}
use Rattle.core_laws.proofs.Watches.Holding.{watch_itself}
use Rattle.held_laws.proofs.Items.{queued-append}
use Rattle.held_laws.proofs.Lines.{begun_world}
use Rattle.held_laws.proofs.Messages.{GoOn, AreMessages}
use Rattle.held_laws.proofs.Places.{taken_of, counted_side, stepping}
use Rattle.held_laws.proofs.Pushes.{Whole}
use Rattle.held_laws.proofs.Runs.{Took as TookLine, TookIf, took as took_line, last_as, last_from, last_grows, Kept, kept_on, few}
use Rattle.held_laws.proofs.Stories.{story_by, IsShort}
use Rattle.held_laws.proofs.Telling.{own_only, own_strips}
use Rattle.held_laws.proofs.Worlds.{WorldOk}
use Rattle.held_laws.proofs.Written.{HasMessages}
use Rattle.received_laws.proofs.Newest.{NewestOk, effect_newest}
use Rattle.received_laws.proofs.Within.{InFirst, InSecond, cut_at}
use Rattle.watch_stories.specs.Laws.{EachScriptsTakesAreOfStories}
use Rattle.watch_stories.specs.Stories.{Shows, IsOfAStory}
use Rattle.watch_stories.proofs.Facts.{View}
use Rattle.watch_stories.proofs.Points.{Has, AreUpTo, OnlyOver}
use Rattle.watch_stories.proofs.Turns.{view, WorldHas, At, ok_of, both_of}
use Rattle.watch_stories.proofs.Worlds.{effect_has}

-- ---- a message is taken

contrary : {A : Type 0} (b : Bool) → b ≡ true → b ≡ false → A
contrary b t f = absurd (let no : true ≡ false = sym t ∙ f in cc)

no_cons : {A : Type 0} (got : List WatchItem) (i : WatchItem) (is : List WatchItem) → got ++ i ∷ is ≡ [] → A
no_cons [] i is e = absurd (cc)
no_cons (g ∷ got) i is e = absurd (cc)

-- a created message comes first, and shows a start that was left open
go_none : {A : Type 0} (story : Told) (whole : Whole) (ask : WatchAsk) (start : ℕ) (es : List Event) (got : List WatchItem) (g : Header) (is : List WatchItem) → GoOn story whole ask start es (got ++ message.Created g ∷ is) → A
go_none story whole ask start es [] g is h = absurd h.0
go_none story whole ask start es (i ∷ got) g is h = go_none story whole ask start (es ++ item_events i) got g is h.2

created_shows : (story : Told) (whole : Whole) (ask : WatchAsk) (start : ℕ) (got : List WatchItem) (g : Header) (is : List WatchItem) → AreMessages story whole ask start (got ++ message.Created g ∷ is) → (ask.start == 0) ≡ true → g.revision + 1 ≡ start
created_shows story whole ask start [] g is h z = h.0 z
created_shows story whole ask start (message.Created f ∷ got) g is h z = go_none story whole ask start [] got g is h.1
created_shows story whole ask start (message.Events f es ∷ got) g is h z = absurd h
created_shows story whole ask start (message.Canceled f c ∷ got) g is h z = absurd h

shows_is : (story : Told) (whole : Whole) (items : List Item) (p : ℕ) (v : View) (o : Option Stream) (w : Watch) (i : WatchItem) (is : List WatchItem) (got : List WatchItem) (h : Has v o w) → w.queue ≡ i ∷ is → AreMessages story whole w.ask w.start (got ++ w.queue) → Shows h.ask h.point i
shows_is story whole items p v o w (message.Created g) is got h q m = λ z.
    created_shows story whole w.ask w.start got g is (subst (λ (l : List WatchItem). AreMessages story whole w.ask w.start (got ++ l)) q m) (ap (λ (a : WatchAsk). a.start == 0) h.same ∙ z) ∙ sym h.start
shows_is story whole items p v o w (message.Events g es) is got h q m = tt
shows_is story whole items p v o w (message.Canceled g c) is got h q m = (subst (OnlyOver h.point.spot) q h.cancels).0

record Stands (x : Place) (ticket : ℕ) (i : WatchItem) : Type 0 where
  pub watch : Watch
  pub behind : List WatchItem
  pub there : watch_at ticket x.core.watches.watches ≡ Some watch
  pub queue : watch.queue ≡ i ∷ behind

took_of : (namespace : List ℕ) (x : Place) (d : Side) (ticket : ℕ) (i : WatchItem) → Touch namespace (counted_side x.core) (event.Take ticket) d (Ok (outcome.Item i)) → Stands x ticket i
took_of namespace x _ _ _ (took ticket w i is e q) = record { watch = w; behind = is; there = e; queue = q }
took_of namespace x _ ticket i (leaves_all e o q) = absurd (cc)

-- with what is known of the messages that were taken with it
abbrev pub IsStory : List ℕ → ℕ → ℕ → List Item → WatchItem → Type 0
IsStory namespace p ticket items i = (h : IsOfAStory namespace p ticket items i) × AreUpTo h.point.next (taken_of p items ticket ++ i ∷ [])

up_front : (n : ℕ) (xs ys : List WatchItem) → AreUpTo n (xs ++ ys) → AreUpTo n xs
up_front n [] ys h = tt
up_front n (x ∷ xs) ys h = (h.0, up_front n xs ys h.1)

taken_story : (namespace : List ℕ) (whole : Whole) (items : List Item) (w : World) (p : ℕ) (x : Place) (ticket : ℕ) (i : WatchItem) → At namespace whole items w p x → (stepped x.core (event.Take ticket) x.clock).outcome ≡ Ok (outcome.Item i) → IsStory namespace p ticket items i
taken_story namespace whole items w p x ticket i a out =
    let ok = ok_of namespace whole items w p x a in
    let s = took_of namespace x _ ticket i (stepping namespace x.core (event.Take ticket) x.clock (outcome.Item i) ok.namespace_is out).touch in
    let both = both_of namespace whole items w p x a in
    let ws = x.core.watches.watches in
    let u = s.watch in
    let v = view namespace items p x in
    let story = story_by (own_only namespace) namespace whole in
    let h = found (λ y. Has v (place_stream x.core.watches.streams y.place) y) ticket ws u s.there both.watches in
    let m = found (HasMessages story whole (taken_of p items)) ticket ws u s.there ok.messages.watches in
    let same : u.ticket ≡ ticket = watch_itself ticket ws u s.there in
    let got = taken_of p items u.ticket in
    subst (λ (t : ℕ). IsStory namespace p t items i) same (
      (record {
        ask = h.ask;
        asked = h.asked;
        point = h.point;
        story = h.story;
        told = h.told (told_is u.told got u.queue s.behind m.untold s.queue);
        rest = queued_events s.behind;
        given = h.given ∙ ap (λ (l : List WatchItem). queued_events (got ++ l)) s.queue ∙ ap queued_events (sym (append_assoc got (i ∷ []) s.behind)) ∙ queued-append (got ++ i ∷ []) s.behind;
        shows = shows_is story whole items p v (place_stream x.core.watches.streams u.place) u i s.behind got h s.queue m.messages;
      }),
      (up_front h.point.next (got ++ i ∷ []) s.behind (subst (AreUpTo h.point.next) (ap (λ (l : List WatchItem). got ++ l) s.queue ∙ sym (append_assoc got (i ∷ []) s.behind)) h.bounded)),
    )
  where
    told_is : (b : Bool) (got q is : List WatchItem) → (b ≡ false → got ++ q ≡ []) → q ≡ i ∷ is → b ≡ true
    told_is true got q is n e = refl
    told_is false got q is n e = no_cons got i is (ap (λ (l : List WatchItem). got ++ l) (sym e) ∙ n refl)

-- ---- items by which nothing is taken

abbrev is_taken : Item → Bool
is_taken (item.Taken p ticket i) = true
is_taken _ = false

abbrev NoTake : List Item → Type 0
NoTake [] = Unit {0}
NoTake (i ∷ is) = (is_taken i ≡ false) × NoTake is

none-append : (xs ys : List Item) → NoTake xs → NoTake ys → NoTake (xs ++ ys)
none-append [] ys h k = k
none-append (x ∷ xs) ys h k = (h.0, none-append xs ys h.1 k)

none_within : {A : Type 0} (xs front : List Item) (p ticket : ℕ) (i : WatchItem) (back : List Item) → NoTake xs → xs ≡ front ++ item.Taken p ticket i ∷ back → A
none_within [] [] p ticket i back h e = absurd (cc)
none_within [] (y ∷ front) p ticket i back h e = absurd (cc)
none_within (x ∷ xs) [] p ticket i back h e = contrary (is_taken x) (ap is_taken (heads x (item.Taken p ticket i) xs back e)) h.0
  where
    heads : (x y : Item) (xs ys : List Item) → x ∷ xs ≡ y ∷ ys → x ≡ y
    heads x y xs ys e = cc
none_within (x ∷ xs) (y ∷ front) p ticket i back h e = none_within xs front p ticket i back h.1 (tails x y xs (front ++ item.Taken p ticket i ∷ back) e)
  where
    tails : (x y : Item) (xs ys : List Item) → x ∷ xs ≡ y ∷ ys → xs ≡ ys
    tails x y xs ys e = cc

body_none : (b : Bool) (p ticket : ℕ) (a : Answer) → NoTake (body_if b p ticket a)
body_none false p ticket a = tt
body_none true p ticket a = (refl, tt)

reply_none : (p : ℕ) (posted : BTreeSet ℕ) (r : ℕ × Answer) → NoTake (reply_items p posted r)
reply_none p posted r = (refl, body_none (is_among posted r.0) p r.0 r.1)

replies_none : (p : ℕ) (posted : BTreeSet ℕ) (got : Replies) → NoTake (flat_map (reply_items p posted) got)
replies_none p posted [] = tt
replies_none p posted (r ∷ got) = none-append (reply_items p posted r) (flat_map (reply_items p posted) got) (reply_none p posted r) (replies_none p posted got)

line_none : (b : Bool) (p ticket : ℕ) (i : WatchItem) → NoTake (line_if b p ticket i)
line_none false p ticket i = tt
line_none true p ticket i = (refl, tt)

-- ---- each line

-- each message that is taken by it
abbrev TakesHave : List ℕ → List Item → List Item → Type 0
TakesHave namespace items gained = (front back : List Item) (p ticket : ℕ) (i : WatchItem) → gained ≡ front ++ item.Taken p ticket i ∷ back → IsStory namespace p ticket (items ++ front) i

none_have : (namespace : List ℕ) (items gained : List Item) → NoTake gained → TakesHave namespace items gained
none_have namespace items gained n front back p ticket i e = none_within gained front p ticket i back n e

begins_none : (w : World) (p clock life' : ℕ) (i : Item) → Begins w p clock life' i → NoTake (i ∷ [])
begins_none w p _ _ _ (first e) = (refl, tt)
begins_none w p _ _ _ (again x e) = (refl, tt)

-- the message is the first of these items
first_have : (namespace : List ℕ) (items : List Item) (p ticket : ℕ) (i : WatchItem) (rest : List Item) → NoTake rest → IsStory namespace p ticket items i → TakesHave namespace items (item.Taken p ticket i ∷ rest)
first_have namespace items p ticket i rest n h [] back q t j e =
    subst (λ (l : List Item). IsStory namespace q t l j) (sym (append-nil items))
    (subst (λ (m : WatchItem). IsStory namespace q t items m) (message_is e) (subst (λ (k : ℕ). IsStory namespace q k items i) (ticket_is e) (subst (λ (k : ℕ). IsStory namespace k ticket items i) (proxy_is e) h)))
  where
    proxy_is : item.Taken p ticket i ∷ rest ≡ item.Taken q t j ∷ back → p ≡ q
    proxy_is e = cc

    ticket_is : item.Taken p ticket i ∷ rest ≡ item.Taken q t j ∷ back → ticket ≡ t
    ticket_is e = cc

    message_is : item.Taken p ticket i ∷ rest ≡ item.Taken q t j ∷ back → i ≡ j
    message_is e = cc
first_have namespace items p ticket i rest n h (y ∷ front) back q t j e = none_within rest front q t j back n (tails (item.Taken p ticket i) y rest (front ++ item.Taken q t j ∷ back) e)
  where
    tails : (x y : Item) (xs ys : List Item) → x ∷ xs ≡ y ∷ ys → xs ≡ ys
    tails x y xs ys e = cc

turn_have : (namespace : List ℕ) (whole : Whole) (items rest : List Item) (w : World) (p : ℕ) (x : Place) (e : CoreEvent) (o : Outcome) (v : World) (y : Place) (own : List Item) (told : Replies) → At namespace whole items w p x → (stepped x.core e x.clock).outcome ≡ Ok o → NoTake rest
    → Turn w p (with_core x (stepped x.core e x.clock).core) e o v y own told → TakesHave namespace items (own ++ rest)
turn_have namespace whole items rest w p x _ _ _ _ _ _ a out n (ticks o) = none_have namespace items _ (refl, n)
turn_have namespace whole items rest w p x _ _ _ _ _ _ a out n (asks_it ticket q o free) = none_have namespace items _ (refl, n)
turn_have namespace whole items rest w p x _ _ _ _ _ _ a out n (posts_it ticket path body q o free) = none_have namespace items _ (refl, (refl, n))
turn_have namespace whole items rest w p x _ _ _ _ _ _ a out n (calls own via ticket q) = none_have namespace items _ (refl, n)
turn_have namespace whole items rest w p x _ _ _ _ _ _ a out n (opens own via ask) = none_have namespace items _ (refl, n)
turn_have namespace whole items rest w p x _ _ _ _ _ _ a out n (closes own number e) = none_have namespace items _ (refl, n)
turn_have namespace whole items rest w p x _ _ _ _ _ _ a out n (answers number call reply o e f) = none_have namespace items _ (refl, n)
turn_have namespace whole items rest w p x _ _ _ _ _ _ a out n (loses number call o e) = none_have namespace items _ (refl, n)
turn_have namespace whole items rest w p x _ _ _ _ _ _ a out n (delivers number s i left o e f g h k) = none_have namespace items _ (refl, n)
turn_have namespace whole items rest w p x _ _ _ _ _ _ a out n (cuts number s o e f g h) = none_have namespace items _ (refl, n)
turn_have namespace whole items rest w p x _ _ _ _ _ _ a out n (takes ticket i) =
    first_have namespace items p ticket i (line_if (is_among x.posted ticket) p ticket i ++ rest) (none-append (line_if (is_among x.posted ticket) p ticket i) rest (line_none (is_among x.posted ticket) p ticket i) n)
    (taken_story namespace whole items w p x ticket i a out)
turn_have namespace whole items rest w p x _ _ _ _ _ _ a out n (waits ticket o m) = none_have namespace items _ (refl, n)
turn_have namespace whole items rest w p x _ _ _ _ _ _ a out n (leaves ticket o) = none_have namespace items _ (refl, n)

effect_takes : (namespace : List ℕ) (whole : Whole) (items : List Item) (w after : World) (gained : List Item) → Kept namespace whole (own_only namespace) items w → NewestOk w → WorldHas namespace items w → Effect w after gained → TakesHave namespace items gained
effect_takes namespace whole items w _ _ kept new h (starts p clock life' i b) = none_have namespace items _ (begins_none w p clock life' i b)
effect_takes namespace whole items w _ _ kept new h (sets p millis x e forward) = none_have namespace items _ (refl, tt)
effect_takes namespace whole items w _ _ kept new h (refuses_post p ticket path body a x e) = none_have namespace items _ (refl, reply_none p _ (ticket, a))
effect_takes namespace whole items w _ _ kept new h (executes number call e fresh) = none_have namespace items _ (refl, tt)
effect_takes namespace whole items w _ _ kept new h (expires lease t e due) = none_have namespace items _ (refl, tt)
effect_takes namespace whole items w _ _ kept new h (applies via revision t e) = none_have namespace items _ (refl, tt)
effect_takes namespace whole items w _ _ kept new h (pushes number s t i a b c k) = none_have namespace items _ (refl, tt)
effect_takes namespace whole items w _ _ kept new h (turns p x e o v y own told at out t) =
    turn_have namespace whole items _ w p x e o v y own told (record { kept = kept; new = new; at = at; has = h }) out (replies_none p _ (all_fetched y told).replies) t

-- ---- all lines

newest_on : (namespace : List ℕ) (whole : Whole) (items : List Item) (w : World) (gained : World × List Item) → TookLine w gained → WorldOk namespace whole (own_only namespace) items w → NewestOk w → NewestOk gained.0
newest_on namespace whole items w gained t ok new =
    let k = effect_newest namespace whole (own_only namespace) items w t.after gained.1 ok new t.effect in
    subst NewestOk (sym t.counted) (record { sound = k.sound; newest = record { places = k.newest.places; calls = k.newest.calls; streams = k.newest.streams } })

has_on : (namespace : List ℕ) (whole : Whole) (items : List Item) (w : World) (gained : World × List Item) → TookLine w gained → Kept namespace whole (own_only namespace) items w → NewestOk w → WorldHas namespace items w → WorldHas namespace (items ++ gained.1) gained.0
has_on namespace whole items w gained t kept new h =
    let k = effect_has namespace whole items w t.after gained.1 kept new h t.effect in
    subst (WorldHas namespace (items ++ gained.1)) (sym t.counted) (record { places = k.places; fresh = k.fresh })

nothing_there : {A : Type 0} (front back : List Item) (i : Item) → [] ≡ front ++ i ∷ back → A
nothing_there [] back i e = absurd (cc)
nothing_there (x ∷ front) back i e = absurd (cc)

all_takes : (namespace : List ℕ) (whole : Whole) → IsShort whole → (lines : List Line) (items : List Item) (w : World) → whole.history ≡ (last_from w lines).store.history → whole.items ≡ items ++ transcript_from (Some w) lines
    → Kept namespace whole (own_only namespace) items w → NewestOk w → WorldHas namespace items w → TakesHave namespace items (transcript_from (Some w) lines)
all_takes namespace whole short [] items w e a one new h front back p ticket i c = nothing_there front back (item.Taken p ticket i) c
all_takes namespace whole short (l ∷ lines) items w e a one new h front back p ticket i c = by (taken w l) (took_line w l) e a c (λ items v. all_takes namespace whole short lines items v)
  where
    by : (t : Taken) → TookIf w t → whole.history ≡ (last_as (λ v. last_from v lines) w t).store.history
        → whole.items ≡ items ++ items_and_then t (λ after. transcript_from (Some after) lines) → items_and_then t (λ after. transcript_from (Some after) lines) ≡ front ++ item.Taken p ticket i ∷ back
        → ((items : List Item) (v : World) → whole.history ≡ (last_from v lines).store.history → whole.items ≡ items ++ transcript_from (Some v) lines → Kept namespace whole (own_only namespace) items v → NewestOk v → WorldHas namespace items v
        → TakesHave namespace items (transcript_from (Some v) lines))
        → IsStory namespace p ticket (items ++ front) i
    by (Err why) t e a c ih = nothing_there front back (item.Taken p ticket i) c
    by (Ok gained) t e a c ih = cut (cut_at gained.1 rest front (item.Taken p ticket i ∷ back) c)
      where
        rest : List Item
        rest = transcript_from (Some gained.0) lines

        grown : Grows gained.0.store (last_from gained.0 lines).store
        grown = last_grows lines gained.0

        all : whole.items ≡ (items ++ gained.1) ++ rest
        all = a ∙ sym (append_assoc items gained.1 rest)

        later : TakesHave namespace (items ++ gained.1) rest
        later = ih (items ++ gained.1) gained.0 e all (kept_on namespace whole (own_only namespace) (own_strips namespace) short items w gained t grown.0 rest (e ∙ grown.1) all one) (newest_on namespace whole items w gained t one.ok new) (has_on namespace whole items w gained t one new h)

        same_rest : (xs ys zs : List Item) → xs ++ ys ≡ xs ++ zs → ys ≡ zs
        same_rest [] ys zs e = e
        same_rest (x ∷ xs) ys zs e = same_rest xs ys zs (tails x x (xs ++ ys) (xs ++ zs) e)
          where
            tails : (x y : Item) (xs ys : List Item) → x ∷ xs ≡ y ∷ ys → xs ≡ ys
            tails x y xs ys e = cc

        -- in the line's items, or the first behind them
        within : (left : List Item) → gained.1 ≡ front ++ left → IsStory namespace p ticket (items ++ front) i
        within [] d =
            let here : gained.1 ≡ front = d ∙ append-nil front in
            subst (λ (l : List Item). IsStory namespace p ticket l i) (append-nil (items ++ gained.1) ∙ ap (λ (l : List Item). items ++ l) here)
            (later [] back p ticket i (same_rest front rest (item.Taken p ticket i ∷ back) (ap (λ (l : List Item). l ++ rest) (sym here) ∙ c)))
        within (y ∷ left) d =
            let more = same_rest front ((y ∷ left) ++ rest) (item.Taken p ticket i ∷ back) (sym (append_assoc front (y ∷ left) rest) ∙ ap (λ (l : List Item). l ++ rest) (sym d) ∙ c) in
            effect_takes namespace whole items w t.after gained.1 one new h t.effect front left p ticket i (d ∙ ap (λ (z : Item). front ++ z ∷ left) (heads y (item.Taken p ticket i) (left ++ rest) back more))
          where
            heads : (x y : Item) (xs ys : List Item) → x ∷ xs ≡ y ∷ ys → x ≡ y
            heads x y xs ys e = cc

        cut : InFirst gained.1 front ⊎ InSecond gained.1 rest front (item.Taken p ticket i ∷ back) → IsStory namespace p ticket (items ++ front) i
        cut (inl k) = within k.rest k.parts
        cut (inr k) =
            subst (λ (l : List Item). IsStory namespace p ticket l i) (append_assoc items gained.1 k.begin ∙ ap (λ (l : List Item). items ++ l) (sym k.whole)) (later k.begin back p ticket i k.parts)

-- ---- whole scripts

none_nth : {A : Type 0} (X : Type 0) (x : X) (number : ℕ) → nth [] number ≡ Some x → A
none_nth X x number e = by (number == 0) e
  where
    by : {A : Type 0} → (b : Bool) → cond b None (slice_get [] (number - 1)) ≡ Some x → A
    by true e = absurd (cc)
    by false e = absurd (cc)

starting_newest : (members : ℕ) (namespace leasing : List ℕ) → NewestOk (starting_world members namespace leasing)
starting_newest members namespace leasing = record {
  sound = starts_sound members;
  newest = record { places = λ p x e. absurd (cc); calls = λ number call a e f. none_nth _ call number e; streams = λ number s e. none_nth _ s number e };
}

starting_has : (members : ℕ) (namespace leasing : List ℕ) → WorldHas namespace (item.World members namespace leasing ∷ []) (starting_world members namespace leasing)
starting_has members namespace leasing = record { places = λ p x e. absurd (cc); fresh = λ n e. record { pushes = refl; delivered = refl; unopened = λ q. refl } }

in_world : (members : ℕ) (namespace leasing : List ℕ) (lines : List Line) (before after : List Item) (p ticket : ℕ) (i : WatchItem) → length lines < 2 ^ 60
    → item.World members namespace leasing ∷ transcript_from (Some (starting_world members namespace leasing)) lines ≡ before ++ item.Taken p ticket i ∷ after → IsStory namespace p ticket before i
in_world members namespace leasing lines [] after p ticket i n c = absurd (cc)
in_world members namespace leasing lines (j ∷ front) after p ticket i n c =
    let first' = starting_world members namespace leasing in
    let start : List Item = item.World members namespace leasing ∷ [] in
    let items = start ++ transcript_from (Some first') lines in
    let last = last_from first' lines in
    let whole : Whole = record { history = last.store.history; items = items } in
    let short : IsShort whole = few lines first' items (omega arith) n in
    let one : Kept namespace whole (own_only namespace) start first' = record { ok = begun_world namespace leasing members whole (own_only namespace); told = record { store = refl; calls = refl } } in
    let at = all_takes namespace whole short lines start first' refl refl one (starting_newest members namespace leasing) (starting_has members namespace leasing) front after p ticket i (tails (item.World members namespace leasing) j (transcript_from (Some first') lines) (front ++ item.Taken p ticket i ∷ after) c) in
    subst (λ (k : Item). IsStory namespace p ticket (k ∷ front) i) (heads (item.World members namespace leasing) j (transcript_from (Some first') lines) (front ++ item.Taken p ticket i ∷ after) c) at
  where
    tails : (x y : Item) (xs ys : List Item) → x ∷ xs ≡ y ∷ ys → xs ≡ ys
    tails x y xs ys e = cc

    heads : (x y : Item) (xs ys : List Item) → x ∷ xs ≡ y ∷ ys → x ≡ y
    heads x y xs ys e = cc

pub takes_stand : (lines : List Line) → length lines < 2 ^ 60 → (before after : List Item) (p ticket : ℕ) (i : WatchItem) → transcript lines ≡ before ++ item.Taken p ticket i ∷ after → IsStory (namespace_of (transcript lines)) p ticket before i
takes_stand [] n before after p ticket i c = nothing_there before after (item.Taken p ticket i) c
takes_stand (line.World members namespace leasing ∷ lines) n before after p ticket i c = in_world members namespace leasing lines before after p ticket i (omega (arith, n)) c
takes_stand (line.Start p' ∷ lines) n before after p ticket i c = nothing_there before after (item.Taken p ticket i) c
takes_stand (line.Clock p' millis ∷ lines) n before after p ticket i c = nothing_there before after (item.Taken p ticket i) c
takes_stand (line.Ask p' ticket' q ∷ lines) n before after p ticket i c = nothing_there before after (item.Taken p ticket i) c
takes_stand (line.Post p' ticket' path body ∷ lines) n before after p ticket i c = nothing_there before after (item.Taken p ticket i) c
takes_stand (line.Tick p' ∷ lines) n before after p ticket i c = nothing_there before after (item.Taken p ticket i) c
takes_stand (line.Send p' ∷ lines) n before after p ticket i c = nothing_there before after (item.Taken p ticket i) c
takes_stand (line.Exec number ∷ lines) n before after p ticket i c = nothing_there before after (item.Taken p ticket i) c
takes_stand (line.Answer number ∷ lines) n before after p ticket i c = nothing_there before after (item.Taken p ticket i) c
takes_stand (line.Lose number ∷ lines) n before after p ticket i c = nothing_there before after (item.Taken p ticket i) c
takes_stand (line.Push number ∷ lines) n before after p ticket i c = nothing_there before after (item.Taken p ticket i) c
takes_stand (line.Progress number ∷ lines) n before after p ticket i c = nothing_there before after (item.Taken p ticket i) c
takes_stand (line.Deliver number ∷ lines) n before after p ticket i c = nothing_there before after (item.Taken p ticket i) c
takes_stand (line.Cut number ∷ lines) n before after p ticket i c = nothing_there before after (item.Taken p ticket i) c
takes_stand (line.Take p' ticket' ∷ lines) n before after p ticket i c = nothing_there before after (item.Taken p ticket i) c
takes_stand (line.Leave p' ticket' ∷ lines) n before after p ticket i c = nothing_there before after (item.Taken p ticket i) c
takes_stand (line.Expire lease ∷ lines) n before after p ticket i c = nothing_there before after (item.Taken p ticket i) c
takes_stand (line.Apply member revision ∷ lines) n before after p ticket i c = nothing_there before after (item.Taken p ticket i) c

pub takes_are : EachScriptsTakesAreOfStories
takes_are lines n before after p ticket i c = (takes_stand lines n before after p ticket i c).0
