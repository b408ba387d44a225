-- What was taken of any watch of a script are its messages in order, and a front of what the history has for it.
use Rattle.std.proofs.Common.{◌≡◌, ◌≢◌, ◌⊎◌, inl, inr, ℕ, ◌+◌, ◌-◌, ◌≤◌, ◌==◌, ◌<◌, ◌^◌, Bool, true, false, cond, List, [], ◌∷◌, ◌++◌, append_assoc, append-nil, length, filter, slice_get, None, Some, Ok, Err, refl, ap, sym, subst, ◌∙◌, arith}
use Rattle.std.proofs.lemmas.Bool.Decides.{nat_tests}
use Rattle.etcd_types.specs.declared.request.Request.{Request}
use Rattle.etcd_types.specs.declared.request.Request.TheVariants as request
use Rattle.etcd_types.specs.declared.request.WatchAsk.{WatchAsk}
use Rattle.etcd_types.specs.declared.watch.Event.{Event}
use Rattle.etcd_types.specs.declared.watch.WatchItem.{WatchItem}
use Rattle.etcd_types.specs.declared.watch.WatchItem.TheVariants as message
use Rattle.store_model.specs.History.{History, newest}
use Rattle.store_model.specs.State.{State}
use Rattle.store_laws.proofs.Lives.SoundProofs.{starts_sound}
use Rattle.core_model.specs.declared.event.CoreEvent.TheVariants as event
use Rattle.core_model.specs.declared.event.Outcome.TheVariants as outcome
use Rattle.script_text.specs.declared.item.Item.{Item}
use Rattle.script_text.specs.declared.item.Item.TheVariants as item
use Rattle.script_text.specs.declared.line.Line.{Line}
use Rattle.script_text.specs.declared.line.Line.TheVariants as line
use Rattle.watch_model.specs.Lookups.{watch_at, own_next}
use Rattle.watch_model.specs.Queues.{queued_events}
use Rattle.watch_model.specs.State.{Watch}
use Rattle.watch_model.specs.Story.{Story, EachWatch}
use Rattle.watch_laws.proofs.Seating.{found}
use Rattle.world_model.specs.Answers.{seen}
use Rattle.world_model.specs.Lives.{life, namespace_of, asked_as}
use Rattle.world_model.specs.Places.{nth}
use Rattle.world_model.specs.Received.{history_events, taken_for, TellsFront, HasReceived, WatchesReceive}
use Rattle.world_model.specs.State.{Place, World, starting_world}
use Rattle.world_model.specs.Transcript.{Taken, taken, items_and_then, transcript_from, transcript}
use Rattle.core_laws.proofs.Watches.Touches.{Side, Touch, leaves, took}
use Rattle.held_laws.specs.Laws.{is_below}
use Rattle.received_laws.proofs.Changing.{TakesOne, Changes, effect_changes}
use Rattle.received_laws.proofs.Fronts.{tells_fewer, tells_all}
use Rattle.held_laws.proofs.Growing.{Grows}
use Rattle.core_laws.proofs.Watches.Holding.{watch_itself}
use Rattle.held_laws.proofs.Items.{life_still, taken_still, taken-append, queued-append, asked_still}
use Rattle.held_laws.proofs.Lines.{begun_world}
use Rattle.held_laws.proofs.Messages.{AreMessages, messages_front}
use Rattle.received_laws.proofs.Newest.{NewestOk, effect_newest}
use Rattle.held_laws.proofs.Nothing.{all_known}
use Rattle.held_laws.proofs.Places.{taken_of, PlaceOk, counted_side, stepping}
use Rattle.held_laws.proofs.Pushes.{Whole}
use Rattle.held_laws.proofs.Runs.{Took as TookLine, TookIf, took as took_line, last_as, last_from, last_grows, Kept, kept_on, runs, few}
use Rattle.received_laws.proofs.Sights.{AreOfLines, lines_front, effect_lines, seen_grown}
use Rattle.received_laws.proofs.Starting.{QueueOk, queue_later, queue_push, StartOk}
use Rattle.held_laws.proofs.Stories.{story_by, IsShort}
use Rattle.received_laws.proofs.Taking.{kept_ask, well_formed, decided_start, received_front, progress_true, cancellation_true}
use Rattle.held_laws.proofs.Telling.{own_only, own_or_whole, own_strips, whole_strips}
use Rattle.held_laws.proofs.Worlds.{WorldOk}
use Rattle.received_laws.proofs.Within.{changes_front, InFirst, InSecond, cut_at}
use Rattle.held_laws.proofs.Written.{HasMessages}

-- the messages of a watch as one of the stories tells them
abbrev pub AreTaken : Story → Whole → WatchAsk → ℕ → List WatchItem → Type 0
AreTaken story whole ask start taken = AreMessages story whole (kept_ask ask) start taken

pub record FrontOk (whole : Whole) (namespace : List ℕ) (items : List Item) (p ticket : ℕ) : Type 0 where
  pub ask : WatchAsk
  pub asked : asked_as p ticket (life p items) ≡ Some (request.Watch ask)
  pub start : ℕ
  pub asked_start : (ask.start == 0) ≡ false → start ≡ ask.start
  pub front : TellsFront whole.items ask namespace (queued_events (taken_of p items ticket)) (history_events whole.history namespace ask start)
  -- a start that was left open isn't past the revision behind the newest
  pub decided : (ask.start == 0) ≡ true → start ≤ newest (seen items).store.history + 1
  -- a message without events tells no revision above the newest
  pub progress : QueueOk (newest (seen items).store.history) (taken_of p items ticket)
  pub own : AreTaken (story_by (own_only namespace) namespace whole) whole ask start (taken_of p items ticket)
  pub every : AreTaken (story_by (own_or_whole namespace) namespace whole) whole ask start (taken_of p items ticket)

-- nothing was taken, or a front
abbrev pub IsFrontOk : Whole → List ℕ → List Item → ℕ → ℕ → Type 0
IsFrontOk whole namespace items p ticket = (taken_of p items ticket ≡ []) ⊎ FrontOk whole namespace items p ticket

abbrev pub FrontsOk : Whole → List ℕ → List Item → Type 0
FrontsOk whole namespace items = (p ticket : ℕ) → IsFrontOk whole namespace items p ticket

-- ---- a line by which nothing is taken under this ticket

same_front : (whole : Whole) (namespace : List ℕ) (items more : List Item) (p ticket : ℕ) → newest (seen items).store.history ≤ newest (seen (items ++ more)).store.history → life p (items ++ more) ≡ life p items ++ more → taken_of p (items ++ more) ticket ≡ taken_of p items ticket → IsFrontOk whole namespace items p ticket
    → IsFrontOk whole namespace (items ++ more) p ticket
same_front whole namespace items more p ticket grown lives same (inl e) = inl (same ∙ e)
same_front whole namespace items more p ticket grown lives same (inr k) = inr (record {
  ask = k.ask;
  asked = ap (asked_as p ticket) lives ∙ asked_still p ticket (life p items) more (request.Watch k.ask) k.asked;
  start = k.start;
  asked_start = k.asked_start;
  front = subst (λ (ts : List WatchItem). TellsFront whole.items k.ask namespace (queued_events ts) (history_events whole.history namespace k.ask k.start)) (sym same) k.front;
  decided = λ z. let l = k.decided z in omega (arith, l, grown);
  progress = subst (QueueOk (newest (seen (items ++ more)).store.history)) (sym same) (queue_later (newest (seen items).store.history) (newest (seen (items ++ more)).store.history) (taken_of p items ticket) grown k.progress);
  own = subst (AreTaken (story_by (own_only namespace) namespace whole) whole k.ask k.start) (sym same) k.own;
  every = subst (AreTaken (story_by (own_or_whole namespace) namespace whole) whole k.ask k.start) (sym same) k.every;
})

-- ---- a message is taken

record Standing (x : Place) (ticket : ℕ) (i : WatchItem) : Type 0 where
  pub watch : Watch
  pub behind : List WatchItem
  pub there : watch_at ticket x.core.watches.watches ≡ Some watch
  pub queue : watch.queue ≡ i ∷ behind

took_of : (namespace : List ℕ) (x : Place) (d : Side) (ticket : ℕ) (i : WatchItem) → Touch namespace (counted_side x.core) (event.Take ticket) d (Ok (outcome.Item i)) → Standing x ticket i
took_of namespace x _ _ _ (took ticket w i is e q) = record { watch = w; behind = is; there = e; queue = q }
took_of namespace x _ ticket i (leaves e o q) = absurd (cc)

-- by one of the stories
messages_taken : (story : Story) (whole : Whole) (namespace : List ℕ) (items : List Item) (p : ℕ) (x : Place) (ticket : ℕ) (i : WatchItem) (s : Standing x ticket i) (ask : WatchAsk) → s.watch.ask ≡ kept_ask ask
    → EachWatch (HasMessages story whole (taken_of p items)) x.core.watches.watches → AreTaken story whole ask s.watch.start (taken_of p items ticket ++ i ∷ [])
messages_taken story whole namespace items p x ticket i s ask same h =
    let v = s.watch in
    let ws = x.core.watches.watches in
    let has = (found (HasMessages story whole (taken_of p items)) ticket ws v s.there h).messages in
    let queue : taken_of p items v.ticket ++ v.queue ≡ (taken_of p items ticket ++ i ∷ []) ++ s.behind =
    (λ j. taken_of p items (watch_itself ticket ws v s.there j) ++ s.queue j) ∙ sym (append_assoc (taken_of p items ticket) (i ∷ []) s.behind) in
    messages_front story whole (kept_ask ask) v.start (taken_of p items ticket ++ i ∷ []) s.behind
    (subst (λ (a : WatchAsk). AreMessages story whole a v.start ((taken_of p items ticket ++ i ∷ []) ++ s.behind)) same (subst (AreMessages story whole v.ask v.start) queue has))

front_taken : (whole : Whole) (namespace : List ℕ) (items more : List Item) (p : ℕ) (x : Place) (ticket : ℕ) (i : WatchItem) → Standing x ticket i → (high : ℕ) → high ≤ newest (seen (items ++ more)).store.history → EachWatch (StartOk high) x.core.watches.watches → PlaceOk namespace whole (own_only namespace) items p x → PlaceOk namespace whole (own_or_whole namespace) items p x
    → life p (items ++ more) ≡ life p items ++ more → taken_of p (items ++ more) ticket ≡ taken_of p items ticket ++ i ∷ [] → QueueOk (newest (seen (items ++ more)).store.history) (taken_of p items ticket) → FrontOk whole namespace (items ++ more) p ticket
front_taken whole namespace items more p x ticket i s high grown starts one two lives gained before =
    let v = s.watch in
    let next = own_next x.core.watches.streams v in
    let k = all_known namespace whole items p x ticket v one two s.there in
    let old = taken_of p items ticket in
    let queued : queued_events old ++ queued_events v.queue ≡ queued_events (old ++ i ∷ []) ++ queued_events s.behind =
    ap (λ (q : List WatchItem). queued_events old ++ queued_events q) s.queue ∙ sym (queued-append old (i ∷ s.behind)) ∙ ap queued_events (sym (append_assoc old (i ∷ []) s.behind)) ∙ queued-append (old ++ i ∷ []) s.behind in
    let below = subst (λ (es : List Event). TellsFront whole.items k.ask namespace es (filter_of k.ask v.start next)) queued k.records in
    let front = tells_all whole.items whole.history k.ask namespace v.start next (queued_events (old ++ i ∷ [])) (tells_fewer whole.items k.ask namespace (queued_events (old ++ i ∷ [])) (queued_events s.behind) (filter_of k.ask v.start next) below) in
    record {
      ask = k.ask;
      asked = ap (asked_as p ticket) lives ∙ asked_still p ticket (life p items) more (request.Watch k.ask) k.asked;
      start = v.start;
      asked_start = k.start;
      front = subst (λ (ts : List WatchItem). TellsFront whole.items k.ask namespace (queued_events ts) (history_events whole.history namespace k.ask v.start)) (sym gained) front;
      decided = λ z. let l = (found (StartOk high) ticket x.core.watches.watches v s.there starts).0 (ap (λ (a : WatchAsk). a.start == 0) k.same ∙ z) in omega (arith, l, grown);
      progress =
          let now = newest (seen (items ++ more)).store.history in
          let q : QueueOk high (i ∷ s.behind) = subst (QueueOk high) s.queue (found (StartOk high) ticket x.core.watches.watches v s.there starts).1 in
          subst (QueueOk now) (sym gained) (queue_push now old i before (queue_later high now (i ∷ s.behind) grown q).0);
      own =
          subst (AreTaken (story_by (own_only namespace) namespace whole) whole k.ask v.start) (sym gained)
          (messages_taken (story_by (own_only namespace) namespace whole) whole namespace items p x ticket i s k.ask k.same one.messages.watches);
      every =
          subst (AreTaken (story_by (own_or_whole namespace) namespace whole) whole k.ask v.start) (sym gained)
          (messages_taken (story_by (own_or_whole namespace) namespace whole) whole namespace items p x ticket i s k.ask k.same two.messages.watches);
    }
  where
    filter_of : WatchAsk → ℕ → ℕ → List Event
    filter_of ask start next = filter (is_below next) (history_events whole.history namespace ask start)

-- ---- each line

taken_gains : (w : World) (items more : List Item) (p : ℕ) (t : TakesOne w p more) (n : ℕ) → taken_of p (items ++ more) n ≡ taken_of p items n ++ cond (n == t.ticket) (t.message ∷ []) []
taken_gains w items more p t n =
    ap (taken_for p n) (t.lives items) ∙ taken-append p n (life p items) more ∙ ap (λ (l : List WatchItem). taken_for p n (life p items) ++ l) (t.taken n)

same_ticket : (a b : ℕ) → (a == b) ≡ true → a ≡ b
same_ticket a b e = grind (arith, nat_tests)

changed_fronts : (whole : Whole) (namespace : List ℕ) (items more : List Item) (w : World) (p ticket : ℕ) → newest (seen items).store.history ≤ newest (seen (items ++ more)).store.history → NewestOk w → Kept namespace whole (own_only namespace) items w → Kept namespace whole (own_or_whole namespace) items w
    → IsFrontOk whole namespace items p ticket → Changes w p more → IsFrontOk whole namespace (items ++ more) p ticket
changed_fronts whole namespace items more w p ticket grown new one two h (inl s) = same_front whole namespace items more p ticket grown (life_still p items more s) (taken_still p ticket items more s) h
changed_fronts whole namespace items more w p ticket grown new one two h (inr (inl s)) = inl (ap (taken_for p ticket) (s.anew items))
changed_fronts whole namespace items more w p ticket grown new one two h (inr (inr t)) = by (ticket == t.ticket) refl
  where
    first : PlaceOk namespace whole (own_only namespace) items p t.place
    first = one.ok.places p t.place t.at

    second : PlaceOk namespace whole (own_or_whole namespace) items p t.place
    second = two.ok.places p t.place t.at

    stands : Standing t.place t.ticket t.message
    stands = took_of namespace t.place _ t.ticket t.message (stepping namespace t.place.core (event.Take t.ticket) t.place.clock (outcome.Item t.message) first.namespace_is t.out).touch

    before : IsFrontOk whole namespace items p ticket → QueueOk (newest (seen (items ++ more)).store.history) (taken_of p items ticket)
    before (inl none) = subst (QueueOk (newest (seen (items ++ more)).store.history)) (sym none) tt
    before (inr k) = queue_later (newest (seen items).store.history) (newest (seen (items ++ more)).store.history) (taken_of p items ticket) grown k.progress

    higher : newest w.store.history ≤ newest (seen (items ++ more)).store.history
    higher = let same : newest (seen items).store.history ≡ newest w.store.history = ap (λ (t : State). newest t.history) one.told.store in omega (arith, same, grown)

    by : (b : Bool) → (ticket == t.ticket) ≡ b → IsFrontOk whole namespace (items ++ more) p ticket
    by true e =
        let gains : taken_of p (items ++ more) t.ticket ≡ taken_of p items t.ticket ++ t.message ∷ [] =
        taken_gains w items more p t t.ticket ∙ ap (λ b. taken_of p items t.ticket ++ cond b (t.message ∷ []) []) (ap (λ (n : ℕ). n == t.ticket) (sym (same_ticket ticket t.ticket e)) ∙ e) in
        subst (λ (n : ℕ). IsFrontOk whole namespace (items ++ more) p n) (sym (same_ticket ticket t.ticket e))
        (inr (front_taken whole namespace items more p t.place t.ticket t.message stands (newest w.store.history) higher (new.newest.places p t.place t.at).watches first second (t.lives items) gains (subst (λ (n : ℕ). QueueOk (newest (seen (items ++ more)).store.history) (taken_of p items n)) (same_ticket ticket t.ticket e) (before h))))
    by false e =
        same_front whole namespace items more p ticket grown (t.lives items) (taken_gains w items more p t ticket ∙ ap (λ b. taken_of p items ticket ++ cond b (t.message ∷ []) []) e ∙ append-nil (taken_of p items ticket)) h

none_before : (front back : List Item) → [] ≡ front ++ back → front ≡ []
none_before [] back e = refl
none_before (i ∷ front) back e = absurd (cc)

newest_on : (namespace : List ℕ) (whole : Whole) (items : List Item) (w : World) (gained : World × List Item) → TookLine w gained → WorldOk namespace whole (own_only namespace) items w → NewestOk w → NewestOk gained.0
newest_on namespace whole items w gained t ok new =
    let k = effect_newest namespace whole (own_only namespace) items w t.after gained.1 ok new t.effect in
    subst NewestOk (sym t.counted) (record { sound = k.sound; newest = record { places = k.newest.places; calls = k.newest.calls; streams = k.newest.streams } })

-- at each step of the script
fronts : (namespace : List ℕ) (whole : Whole) → IsShort whole → (lines : List Line) (items : List Item) (w : World) → whole.history ≡ (last_from w lines).store.history
    → whole.items ≡ items ++ transcript_from (Some w) lines → Kept namespace whole (own_only namespace) items w → Kept namespace whole (own_or_whole namespace) items w → NewestOk w → FrontsOk whole namespace items
    → (front back : List Item) → transcript_from (Some w) lines ≡ front ++ back → FrontsOk whole namespace (items ++ front)
fronts namespace whole short [] items w e a one two new h front back c = subst (λ (l : List Item). FrontsOk whole namespace (items ++ l)) (sym (none_before front back c)) (subst (FrontsOk whole namespace) (sym (append-nil items)) h)
fronts namespace whole short (l ∷ lines) items w e a one two new h front back c = by (taken w l) (took_line w l) e a c (λ items v. fronts namespace whole short lines items v)
  where
    by : (t : Taken) → TookIf w t → whole.history ≡ (last_as (λ v. last_from v lines) w t).store.history
        → whole.items ≡ items ++ items_and_then t (λ after. transcript_from (Some after) lines) → items_and_then t (λ after. transcript_from (Some after) lines) ≡ front ++ back
        → ((items : List Item) (v : World) → whole.history ≡ (last_from v lines).store.history → whole.items ≡ items ++ transcript_from (Some v) lines → Kept namespace whole (own_only namespace) items v
        → Kept namespace whole (own_or_whole namespace) items v → NewestOk v → FrontsOk whole namespace items
        → (front back : List Item) → transcript_from (Some v) lines ≡ front ++ back → FrontsOk whole namespace (items ++ front))
        → FrontsOk whole namespace (items ++ front)
    by (Ok gained) t e a c ih = cut (cut_at gained.1 rest front back c)
      where
        rest : List Item
        rest = transcript_from (Some gained.0) lines

        grown : Grows gained.0.store (last_from gained.0 lines).store
        grown = last_grows lines gained.0

        all : whole.items ≡ (items ++ gained.1) ++ rest
        all = a ∙ sym (append_assoc items gained.1 rest)

        -- behind a part of the line's items, or behind all of them
        part : (xs ys : List Item) → gained.1 ≡ xs ++ ys → FrontsOk whole namespace (items ++ xs)
        part xs ys d p ticket =
            changed_fronts whole namespace items xs w p ticket (seen_grown items xs (lines_front xs ys (subst AreOfLines d (effect_lines w t.after gained.1 t.effect)))) new one two (h p ticket)
            (changes_front w p xs ys (subst (Changes w p) d (effect_changes w t.after gained.1 p t.effect)))

        cut : InFirst gained.1 front ⊎ InSecond gained.1 rest front back → FrontsOk whole namespace (items ++ front)
        cut (inl k) = part front k.rest k.parts
        cut (inr k) =
            subst (λ (l : List Item). FrontsOk whole namespace (items ++ l)) (sym k.whole)
            (subst (FrontsOk whole namespace) (append_assoc items gained.1 k.begin)
            (ih (items ++ gained.1) gained.0 e all (kept_on namespace whole (own_only namespace) (own_strips namespace) short items w gained t grown.0 rest (e ∙ grown.1) all one)
            (kept_on namespace whole (own_or_whole namespace) (whole_strips namespace) short items w gained t grown.0 rest (e ∙ grown.1) all two)
            (newest_on namespace whole items w gained t one.ok new) (part gained.1 [] (sym (append-nil gained.1))) k.begin back k.parts))
    by (Err why) t e a c ih = subst (λ (l : List Item). FrontsOk whole namespace (items ++ l)) (sym (none_before front back c)) (subst (FrontsOk whole namespace) (sym (append-nil items)) h)

-- ---- whole scripts

one_ask : (a b : WatchAsk) → Some (request.Watch a) ≡ Some (request.Watch b) → a ≡ b
one_ask a b e = cc

parts : (whole : Whole) (items : List Item) (ask : WatchAsk) (start : ℕ) (taken : List WatchItem) → whole.history ≡ (seen whole.items).store.history → ((ask.start == 0) ≡ false → start ≡ ask.start)
    → ((ask.start == 0) ≡ true → taken ≢ [] → start ≤ newest (seen items).store.history + 1)
    → TellsFront whole.items ask (namespace_of whole.items) (queued_events taken) (history_events whole.history (namespace_of whole.items) ask start)
    → AreTaken (story_by (own_only (namespace_of whole.items)) (namespace_of whole.items) whole) whole ask start taken
    → AreTaken (story_by (own_or_whole (namespace_of whole.items)) (namespace_of whole.items) whole) whole ask start taken → HasReceived whole.items items ask taken
parts whole items ask start taken s a d t one two =
    let namespace = namespace_of whole.items in
    let story = story_by (own_only namespace) namespace whole in
    record {
      formed = well_formed story whole (kept_ask ask) start taken one;
      decided = λ z. decided_start story whole ask start taken (newest (seen items).store.history) z a (d (ap (λ (n : ℕ). n == 0) z)) one;
      front = received_front story whole whole.items namespace ask start taken s a one t;
      progress = progress_true whole whole.items namespace ask start taken s a one two;
      cancelled = cancellation_true story whole ask start taken a one;
    }

-- nothing was taken, or what was is a front
received : (whole : Whole) (items : List Item) (p ticket : ℕ) (ask : WatchAsk) → whole.history ≡ (seen whole.items).store.history → asked_as p ticket (life p items) ≡ Some (request.Watch ask)
    → IsFrontOk whole (namespace_of whole.items) items p ticket → HasReceived whole.items items ask (taken_of p items ticket)
received whole items p ticket ask s e (inl none) = subst (HasReceived whole.items items ask) (sym none) (parts whole items ask ask.start [] s (λ z. refl) (λ z n. absurd (n refl)) tt tt tt)
received whole items p ticket ask s e (inr k) =
    let same : k.ask ≡ ask = one_ask k.ask ask (sym k.asked ∙ e) in
    subst (λ (a : WatchAsk). HasReceived whole.items items a (taken_of p items ticket)) same (parts whole items k.ask k.start (taken_of p items ticket) s k.asked_start (λ z n. k.decided z) k.front k.own k.every)

none_there : {A B : Type 0} (x : A) (number : ℕ) → nth [] number ≡ Some x → B
none_there x number e = by (number == 0) e
  where
    by : {B : Type 0} → (b : Bool) → cond b None (slice_get [] (number - 1)) ≡ Some x → B
    by true e = absurd (cc)
    by false e = absurd (cc)

starting_newest : (members : ℕ) (namespace leasing : List ℕ) → NewestOk (starting_world members namespace leasing)
starting_newest members namespace leasing = record {
  sound = starts_sound members;
  newest = record { places = λ p x e. absurd (cc); calls = λ number call a e f. none_there call number e; streams = λ number s e. none_there s number e };
}

-- nothing is asked before the world is made
none_asked : {A : Type 0} (earlier later : List Item) (p ticket : ℕ) (q : Request) → [] ≡ earlier ++ later → asked_as p ticket (life p earlier) ≡ Some q → A
none_asked [] later p ticket q e f = absurd (cc)
none_asked (i ∷ earlier) later p ticket q e f = absurd (cc)

-- of a transcript, of the items so far, of what a watch asked and of the messages that it took
abbrev About : Type 1
About = List Item → List Item → WatchAsk → List WatchItem → Type 0

-- what follows from a front
abbrev Gives : About → Type 0
Gives Q =
    (whole : Whole) (items : List Item) (p ticket : ℕ) (ask : WatchAsk) → IsShort whole → whole.history ≡ (seen whole.items).store.history → asked_as p ticket (life p items) ≡ Some (request.Watch ask)
    → IsFrontOk whole (namespace_of whole.items) items p ticket → Q whole.items items ask (taken_of p items ticket)

in_world : (Q : About) → Gives Q → (members : ℕ) (namespace leasing : List ℕ) (lines : List Line) (earlier later : List Item) (p ticket : ℕ) (ask : WatchAsk) → length lines < 2 ^ 60
    → item.World members namespace leasing ∷ transcript_from (Some (starting_world members namespace leasing)) lines ≡ earlier ++ later → asked_as p ticket (life p earlier) ≡ Some (request.Watch ask)
    → Q (item.World members namespace leasing ∷ transcript_from (Some (starting_world members namespace leasing)) lines) earlier ask (taken_for p ticket (life p earlier))
in_world Q gives members namespace leasing lines [] later p ticket ask n c e = absurd (cc)
in_world Q gives members namespace leasing lines (i ∷ front) later p ticket ask n c e =
    let first = starting_world members namespace leasing in
    let start : List Item = item.World members namespace leasing ∷ [] in
    let items = start ++ transcript_from (Some first) lines in
    let last = last_from first lines in
    let whole : Whole = record { history = last.store.history; items = items } in
    let short : IsShort whole = few lines first items (omega arith) n in
    let one : Kept namespace whole (own_only namespace) start first = record { ok = begun_world namespace leasing members whole (own_only namespace); told = record { store = refl; calls = refl } } in
    let two : Kept namespace whole (own_or_whole namespace) start first = record { ok = begun_world namespace leasing members whole (own_or_whole namespace); told = record { store = refl; calls = refl } } in
    let at = fronts namespace whole short lines start first refl refl one two (starting_newest members namespace leasing) (λ p ticket. inl refl) front later (tails (item.World members namespace leasing) i (transcript_from (Some first) lines) (front ++ later) c) in
    let told : (seen items).store ≡ last.store = (runs namespace whole (own_only namespace) (own_strips namespace) short lines start first refl refl one).told.store in
    let here : IsFrontOk whole namespace (i ∷ front) p ticket =
    subst (λ (j : Item). IsFrontOk whole namespace (j ∷ front) p ticket) (heads (item.World members namespace leasing) i (transcript_from (Some first) lines) (front ++ later) c) (at p ticket) in
    gives whole (i ∷ front) p ticket ask short (ap (λ (s : State). s.history) (sym told)) e here
  where
    tails : (x y : Item) (xs ys : List Item) → x ∷ xs ≡ y ∷ ys → xs ≡ ys
    tails x y xs ys e = cc

    heads : (x y : Item) (xs ys : List Item) → x ∷ xs ≡ y ∷ ys → x ≡ y
    heads x y xs ys e = cc

receives_at : (Q : About) → Gives Q → (lines : List Line) (earlier later : List Item) (p ticket : ℕ) (ask : WatchAsk) → length lines < 2 ^ 60 → transcript lines ≡ earlier ++ later
    → asked_as p ticket (life p earlier) ≡ Some (request.Watch ask) → Q (transcript lines) earlier ask (taken_for p ticket (life p earlier))
receives_at Q gives [] earlier later p ticket ask n c e = none_asked earlier later p ticket (request.Watch ask) c e
receives_at Q gives (line.World members namespace leasing ∷ lines) earlier later p ticket ask n c e = in_world Q gives members namespace leasing lines earlier later p ticket ask (omega (arith, n)) c e
receives_at Q gives (line.Start p' ∷ lines) earlier later p ticket ask n c e = none_asked earlier later p ticket (request.Watch ask) c e
receives_at Q gives (line.Clock p' millis ∷ lines) earlier later p ticket ask n c e = none_asked earlier later p ticket (request.Watch ask) c e
receives_at Q gives (line.Ask p' ticket' q ∷ lines) earlier later p ticket ask n c e = none_asked earlier later p ticket (request.Watch ask) c e
receives_at Q gives (line.Post p' ticket' path body ∷ lines) earlier later p ticket ask n c e = none_asked earlier later p ticket (request.Watch ask) c e
receives_at Q gives (line.Tick p' ∷ lines) earlier later p ticket ask n c e = none_asked earlier later p ticket (request.Watch ask) c e
receives_at Q gives (line.Send p' ∷ lines) earlier later p ticket ask n c e = none_asked earlier later p ticket (request.Watch ask) c e
receives_at Q gives (line.Exec number ∷ lines) earlier later p ticket ask n c e = none_asked earlier later p ticket (request.Watch ask) c e
receives_at Q gives (line.Answer number ∷ lines) earlier later p ticket ask n c e = none_asked earlier later p ticket (request.Watch ask) c e
receives_at Q gives (line.Lose number ∷ lines) earlier later p ticket ask n c e = none_asked earlier later p ticket (request.Watch ask) c e
receives_at Q gives (line.Push number ∷ lines) earlier later p ticket ask n c e = none_asked earlier later p ticket (request.Watch ask) c e
receives_at Q gives (line.Progress number ∷ lines) earlier later p ticket ask n c e = none_asked earlier later p ticket (request.Watch ask) c e
receives_at Q gives (line.Deliver number ∷ lines) earlier later p ticket ask n c e = none_asked earlier later p ticket (request.Watch ask) c e
receives_at Q gives (line.Cut number ∷ lines) earlier later p ticket ask n c e = none_asked earlier later p ticket (request.Watch ask) c e
receives_at Q gives (line.Take p' ticket' ∷ lines) earlier later p ticket ask n c e = none_asked earlier later p ticket (request.Watch ask) c e
receives_at Q gives (line.Leave p' ticket' ∷ lines) earlier later p ticket ask n c e = none_asked earlier later p ticket (request.Watch ask) c e
receives_at Q gives (line.Expire lease ∷ lines) earlier later p ticket ask n c e = none_asked earlier later p ticket (request.Watch ask) c e
receives_at Q gives (line.Apply member revision ∷ lines) earlier later p ticket ask n c e = none_asked earlier later p ticket (request.Watch ask) c e

pub receives : (lines : List Line) → length lines < 2 ^ 60 → WatchesReceive (transcript lines)
receives lines n earlier later p ticket ask c e = receives_at HasReceived (λ whole items p ticket ask short s e k. received whole items p ticket ask s e k) lines earlier later p ticket ask n c e

-- ---- the first message

abbrev pub is_begun : List WatchItem → Bool
is_begun [] = true
is_begun (message.Created h ∷ is) = true
is_begun (message.Events h es ∷ is) = false
is_begun (message.Canceled h compaction ∷ is) = false

messages_begun : (story : Story) (whole : Whole) (ask : WatchAsk) (start : ℕ) (taken : List WatchItem) → AreMessages story whole ask start taken → is_begun taken ≡ true
messages_begun story whole ask start [] h = refl
messages_begun story whole ask start (message.Created g ∷ is) h = refl
messages_begun story whole ask start (message.Events g es ∷ is) h = absurd h
messages_begun story whole ask start (message.Canceled g compaction ∷ is) h = absurd h

front_begun : Gives (λ whole items ask taken. is_begun taken ≡ true)
front_begun whole items p ticket ask short s e (inl none) = ap is_begun none
front_begun whole items p ticket ask short s e (inr k) = messages_begun (story_by (own_only (namespace_of whole.items)) (namespace_of whole.items) whole) whole (kept_ask k.ask) k.start (taken_of p items ticket) k.own

-- it is that the watch was created
pub begins_created : (lines : List Line) → length lines < 2 ^ 60 → (earlier later : List Item) (p ticket : ℕ) (ask : WatchAsk) → transcript lines ≡ earlier ++ later → asked_as p ticket (life p earlier) ≡ Some (request.Watch ask)
    → is_begun (taken_for p ticket (life p earlier)) ≡ true
begins_created lines n earlier later p ticket ask c e = receives_at (λ whole items ask taken. is_begun taken ≡ true) front_begun lines earlier later p ticket ask n c e

-- ---- messages without events

front_progress : Gives (λ whole items ask taken. QueueOk (newest (seen items).store.history) taken)
front_progress whole items p ticket ask short s e (inl none) = subst (QueueOk (newest (seen items).store.history)) (sym none) tt
front_progress whole items p ticket ask short s e (inr k) = k.progress

-- each tells a revision that there is
pub progress_within : (lines : List Line) → length lines < 2 ^ 60 → (earlier later : List Item) (p ticket : ℕ) (ask : WatchAsk) → transcript lines ≡ earlier ++ later → asked_as p ticket (life p earlier) ≡ Some (request.Watch ask)
    → QueueOk (newest (seen earlier).store.history) (taken_for p ticket (life p earlier))
progress_within lines n earlier later p ticket ask c e = receives_at (λ whole items ask taken. QueueOk (newest (seen items).store.history) taken) front_progress lines earlier later p ticket ask n c e

-- revisions are numbers of 64 bits
front_fits : Gives (λ whole items ask taken. newest (seen whole).store.history + 2 ≤ 0xffff_ffff_ffff_ffff)
front_fits whole items p ticket ask short s e k = subst (λ (h : History). newest h + 2 ≤ 0xffff_ffff_ffff_ffff) s short

pub revisions_fit : (lines : List Line) → length lines < 2 ^ 60 → (earlier later : List Item) (p ticket : ℕ) (ask : WatchAsk) → transcript lines ≡ earlier ++ later → asked_as p ticket (life p earlier) ≡ Some (request.Watch ask)
    → newest (seen (transcript lines)).store.history + 2 ≤ 0xffff_ffff_ffff_ffff
revisions_fit lines n earlier later p ticket ask c e = receives_at (λ whole items ask taken. newest (seen whole).store.history + 2 ≤ 0xffff_ffff_ffff_ffff) front_fits lines earlier later p ticket ask n c e
