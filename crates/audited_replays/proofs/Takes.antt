-- The messages with events that a watch of a replay takes go on with the history's.
use Rattle.std.proofs.Common.{◌≡◌, inl, inr, ℕ, ◌+◌, ◌≤◌, ◌<◌, ◌^◌, ◌==◌, nat_lt, nat_le, Bool, true, false, cond, not, ◌&&◌, ◌||◌, List, [], ◌∷◌, ◌++◌, append_assoc, append-nil, length, Option, None, Some, is_some, Ok, refl, sym, ◌∙◌, ap, subst, arith, map, filter, ◌⊎◌, max}
use Rattle.std.specs.Prelude.{flat_map}
use Rattle.std.specs.List.{list_all, list_any}
use Rattle.std.specs.BTreeSet.{BTreeSet}
use Rattle.std.proofs.lemmas.Bool.Decides.{nat_tests}
use Rattle.std.proofs.lemmas.List.{length-append}
use Rattle.std.proofs.lemmas.List.Folds.{list_all-append, list_any-append}
use Rattle.etcd_types.proofs.Bools.{and_first, and_second, and_both, or_left, or_right, or_either, or_none}
use Rattle.etcd_types.specs.declared.answer.Answer.{Answer}
use Rattle.etcd_types.specs.declared.record.Header.{Header}
use Rattle.etcd_types.specs.declared.record.Kv.{Kv}
use Rattle.etcd_types.specs.declared.request.Request.{Request}
use Rattle.etcd_types.specs.declared.request.Request.TheVariants as request
use Rattle.etcd_types.specs.declared.request.WatchAsk.{WatchAsk}
use Rattle.etcd_types.specs.declared.watch.Change.{Change}
use Rattle.etcd_types.specs.declared.watch.Event.{Event}
use Rattle.etcd_types.specs.declared.watch.WatchItem.{WatchItem}
use Rattle.etcd_types.specs.declared.watch.WatchItem.TheVariants.{Created, Events, Canceled}
use Rattle.core_laws.proofs.Steps.Lists.{number_itself}
use Rattle.core_model.specs.declared.event.CoreEvent.{CoreEvent}
use Rattle.core_model.specs.declared.event.Outcome.{Outcome}
use Rattle.equal_values.proofs.Values.{prev-itself, event-itself}
use Rattle.equal_values.specs.Messages.{same_change}
use Rattle.equal_values.specs.Records.{same_prev}
use Rattle.held_laws.proofs.Items.{or_later, taken-append, queued-append, asked-append}
use Rattle.prefix_laws.proofs.Prefixes.{IsNext, left_behind}
use Rattle.prefix_laws.proofs.Told.{AllItems, items-append, IsTold, every_item}
use Rattle.received_laws.proofs.Receiving.{receives, is_begun, begins_created, progress_within, revisions_fit}
use Rattle.renewed_laws.proofs.Gains.{stepped_to}
use Rattle.renewed_laws.proofs.Lives.{life_on}
use Rattle.renewed_laws.proofs.Worlds.{WorldOk}
use Rattle.renewed_laws.specs.Renewals.{AnswersShowBytes}
use Rattle.script_text.specs.declared.item.Item.{Item}
use Rattle.script_text.specs.declared.item.Item.TheVariants as item
use Rattle.script_text.specs.declared.line.Line.{Line}
use Rattle.store_model.specs.Events.{event_revision, visible_prev}
use Rattle.truth_laws.proofs.Reached.{Reached, reached_kept}
use Rattle.watch_model.specs.Queues.{queued_events, is_nil}
use Rattle.world_laws.proofs.Counting.{words_are}
use Rattle.world_laws.proofs.Effects.{Turn, ticks, asks_it, posts_it, calls, opens, closes, answers, loses, delivers, cuts, takes, waits, leaves, Begins, first, again, Effect, starts, sets, refuses_post, executes, expires, applies, pushes, turns, effect}
use Rattle.world_laws.proofs.Quiet.{saw_all-append, IsQuiet, both_quiet, replies_quiet, taken_quiet}
use Rattle.received_laws.proofs.Starting.{ProgressOk, QueueOk}
use Rattle.store_model.specs.History.{newest}
use Rattle.equal_values.specs.Lists.{same_all}
use Rattle.equal_values.proofs.Members.{all-itself}
use Rattle.watch_stories.proofs.Points.{AreUpTo}
use Rattle.watch_stories.proofs.Scripts.{takes_stand}
use Rattle.watch_stories.proofs.Ends.{cancelled_below}
use Rattle.world_model.specs.Answers.{Seen, unseen, saw_all, seen}
use Rattle.world_model.specs.Gains.{Replies, all_fetched, body_if, reply_items, line_if, taken_items}
use Rattle.world_model.specs.Lives.{world_of, life, namespace_of, asked_as}
use Rattle.world_model.specs.Places.{is_among, with_posted}
use Rattle.world_model.specs.Received.{taken_for, start_of, history_events, stored_change, ends_well, is_well_formed, WasCompacted, TellsPrev, TellsEvent, TellsFront, ReceivedFront, HasReceived, is_up_to, HasAllUpTo, WasPushed, last_from, or_zero}
use Rattle.world_model.specs.State.{Place, World}
use Rattle.world_model.specs.Transcript.{done, counted_as, transcript}
use Rattle.audit_model.specs.Streams.{is_cancellation}
use Rattle.audit_model.specs.Takes.{tells_prev, tells_event, tells_front, is_front, comes_in_turn, takes_from, has_all_up_to, takes_for, takes_so, pushes_cancellation, next_taken}
use Rattle.audited_replays.specs.Rules.{OfEach, TakesAreKept}
use Rattle.audited_replays.proofs.Compacted.{no_later_world, all_rises}

-- ---- a take ends its line, but for replies

abbrev is_no_push : Item → Bool
is_no_push (item.Pushed stream m) = false
is_no_push _ = true

record TakenSo (script : List Line) (before : List Item) (i : Item) : Type 0 where
  front : List Line
  short : length front ≤ length script
  post : List Item
  told : transcript front ≡ before ++ i ∷ post
  quiet : (s : Seen) → saw_all s (i ∷ post) ≡ s
  unpushed : list_all is_no_push post ≡ true
  namespace : namespace_of (before ++ i ∷ post) ≡ namespace_of before

abbrev IsTaken : List Line → List Item → Item → Type 0
IsTaken script before (item.Taken p ticket m) = TakenSo script before (item.Taken p ticket m)
IsTaken script before _ = Unit {0}

abbrev is_no_take : Item → Bool
is_no_take (item.Taken p ticket m) = false
is_no_take _ = true

free : (script : List Line) (before : List Item) (i : Item) → is_no_take i ≡ true → IsTaken script before i
free script before (item.Taken p ticket m) e = absurd (cc)
free script before _ e = tt

all_free : (script : List Line) (before items : List Item) → list_all is_no_take items ≡ true → AllItems (IsTaken script) before items
all_free script before [] e = tt
all_free script before (i ∷ items) e = (free script before i (and_first (is_no_take i) (list_all is_no_take items) e), all_free script (before ++ i ∷ []) items (and_second (is_no_take i) (list_all is_no_take items) e))

reply_no_take : (p : ℕ) (posted : BTreeSet ℕ) (r : ℕ × Answer) → list_all is_no_take (reply_items p posted r) ≡ true
reply_no_take p posted r = by (is_among posted r.0)
  where
    by : (b : Bool) → list_all is_no_take (item.Reply p r.0 r.1 ∷ body_if b p r.0 r.1) ≡ true
    by true = refl
    by false = refl

replies_no_take : (p : ℕ) (posted : BTreeSet ℕ) (rs : Replies) → list_all is_no_take (flat_map (reply_items p posted) rs) ≡ true
replies_no_take p posted [] = refl
replies_no_take p posted (r ∷ rs) =
    list_all-append is_no_take (reply_items p posted r) (flat_map (reply_items p posted) rs)
    ∙ and_both (list_all is_no_take (reply_items p posted r)) (list_all is_no_take (flat_map (reply_items p posted) rs)) (reply_no_take p posted r) (replies_no_take p posted rs)

reply_no_push : (p : ℕ) (posted : BTreeSet ℕ) (r : ℕ × Answer) → list_all is_no_push (reply_items p posted r) ≡ true
reply_no_push p posted r = by (is_among posted r.0)
  where
    by : (b : Bool) → list_all is_no_push (item.Reply p r.0 r.1 ∷ body_if b p r.0 r.1) ≡ true
    by true = refl
    by false = refl

replies_no_push : (p : ℕ) (posted : BTreeSet ℕ) (rs : Replies) → list_all is_no_push (flat_map (reply_items p posted) rs) ≡ true
replies_no_push p posted [] = refl
replies_no_push p posted (r ∷ rs) =
    list_all-append is_no_push (reply_items p posted r) (flat_map (reply_items p posted) rs)
    ∙ and_both (list_all is_no_push (reply_items p posted r)) (list_all is_no_push (flat_map (reply_items p posted) rs)) (reply_no_push p posted r) (replies_no_push p posted rs)

line_no_push : (b : Bool) (p ticket : ℕ) (i : WatchItem) → list_all is_no_push (line_if b p ticket i) ≡ true
line_no_push true p ticket i = refl
line_no_push false p ticket i = refl

begun_no_take : (w : World) (p clock life' : ℕ) (i : Item) → Begins w p clock life' i → is_no_take i ≡ true
begun_no_take w p _ _ _ (first e) = refl
begun_no_take w p _ _ _ (again x e) = refl

-- the script's front up to this line
record FrontOf (script : List Line) (items gained : List Item) : Type 0 where
  front : List Line
  short : length front ≤ length script
  told : transcript front ≡ items ++ gained
  namespace : namespace_of (items ++ gained) ≡ namespace_of items

line_no_take : (b : Bool) (p ticket : ℕ) (i : WatchItem) → list_all is_no_take (line_if b p ticket i) ≡ true
line_no_take true p ticket i = refl
line_no_take false p ticket i = refl

turn_taken : (script : List Line) (items rest : List Item) (w : World) (p : ℕ) (x : Place) (e : CoreEvent) (o : Outcome) (v : World) (y : Place) (own : List Item) (told : Replies) → IsQuiet rest → list_all is_no_push rest ≡ true → FrontOf script items (own ++ rest) → Turn w p x e o v y own told
    → AllItems (IsTaken script) items own
turn_taken script items rest w p x _ _ _ _ _ _ q silent f (takes ticket i) = (
  record {
    front = f.front;
    short = f.short;
    post = line_if (is_among x.posted ticket) p ticket i ++ rest;
    told = f.told;
    quiet = (both_quiet (taken_items p x.posted ticket i) rest (taken_quiet p x.posted ticket i) q).tell_nothing;
    unpushed = list_all-append is_no_push (line_if (is_among x.posted ticket) p ticket i) rest ∙ and_both (list_all is_no_push (line_if (is_among x.posted ticket) p ticket i)) (list_all is_no_push rest) (line_no_push (is_among x.posted ticket) p ticket i) silent;
    namespace = f.namespace;
  },
  all_free script (items ++ item.Taken p ticket i ∷ []) (line_if (is_among x.posted ticket) p ticket i) (line_no_take (is_among x.posted ticket) p ticket i),
)
turn_taken script items rest w p x _ _ _ _ _ _ q silent f (ticks o) = (tt, tt)
turn_taken script items rest w p x _ _ _ _ _ _ q silent f (asks_it ticket r o u) = (tt, tt)
turn_taken script items rest w p x _ _ _ _ _ _ q silent f (posts_it ticket path body r o u) = (tt, (tt, tt))
turn_taken script items rest w p x _ _ _ _ _ _ q silent f (calls own member ticket r) = (tt, tt)
turn_taken script items rest w p x _ _ _ _ _ _ q silent f (opens own member ask) = (tt, tt)
turn_taken script items rest w p x _ _ _ _ _ _ q silent f (closes own number e) = (tt, tt)
turn_taken script items rest w p x _ _ _ _ _ _ q silent f (answers number call a o e g) = (tt, tt)
turn_taken script items rest w p x _ _ _ _ _ _ q silent f (loses number call o e) = (tt, tt)
turn_taken script items rest w p x _ _ _ _ _ _ q silent f (delivers number s i more o a c d g k) = (tt, tt)
turn_taken script items rest w p x _ _ _ _ _ _ q silent f (cuts number s o a c d g) = (tt, tt)
turn_taken script items rest w p x _ _ _ _ _ _ q silent f (waits ticket o u) = (tt, tt)
turn_taken script items rest w p x _ _ _ _ _ _ q silent f (leaves ticket o) = (tt, tt)

effect_taken : (script : List Line) (items : List Item) (w after : World) (gained : List Item) → FrontOf script items gained → Effect w after gained → AllItems (IsTaken script) items gained
effect_taken script items w _ _ f (starts p clock life' i k) = (free script items i (begun_no_take w p clock life' i k), tt)
effect_taken script items w _ _ f (sets p millis x at forward) = (tt, tt)
effect_taken script items w _ _ f (refuses_post p ticket path body a x at) =
    (tt, all_free script (items ++ item.Posted p ticket path body ∷ []) (reply_items p (with_posted ticket x).posted (ticket, a)) (reply_no_take p (with_posted ticket x).posted (ticket, a)))
effect_taken script items w _ _ f (executes number call at fresh) = (tt, tt)
effect_taken script items w _ _ f (expires lease t at due) = (tt, tt)
effect_taken script items w _ _ f (applies member revision t at) = (tt, tt)
effect_taken script items w _ _ f (pushes number s t i at a c k) = (tt, tt)
effect_taken script items w _ _ f (turns p x ev o v y own told at out t) =
    let fetched = all_fetched y told in
    let rest = flat_map (reply_items p fetched.place.posted) fetched.replies in
    items-append (IsTaken script) items own rest (turn_taken script items rest w p (stepped_to x ev) ev o v y own told (replies_quiet p fetched.place.posted fetched.replies) (replies_no_push p fetched.place.posted fetched.replies) f t)
    (all_free script (items ++ own) rest (replies_no_take p fetched.place.posted fetched.replies))

front_of : (script : List Line) (namespace : List ℕ) (items : List Item) (w : World) (l : Line) (gained : List Item) → IsNext script w l → (done w l).gained ≡ Ok gained → WorldOk namespace items w → Reached items w → FrontOf script items gained
front_of script namespace items w l gained n e ok r =
    let after = record (done w l).world { lines = (done w l).world.lines + 1 } in
    let reached = (reached_kept script).goes_on namespace items w l gained n e ok r in
    let left = left_behind script w l n.after (after, gained) (ap (counted_as (done w l).world) e) (record { before = n.before; split = n.split; behind = n.behind }) in
    let a = words_are reached.front after reached.behind in
    let b = words_are left.before after left.behind in
    let c = ap length left.split ∙ length-append left.before n.after in
    record {
      front = reached.front;
      short = omega (arith, a, b, c);
      told = reached.told;
      namespace = ap (λ (x : List ℕ × List ℕ). x.0) (r.world gained ∙ sym (r.world []) ∙ ap world_of (append-nil items));
    }

takes_told : (script : List Line) → IsTold script Reached (IsTaken script)
takes_told script = record {
  first = λ members namespace leasing. tt;
  line = λ namespace items w l gained n e ok r. effect_taken script items w (done w l).world gained (front_of script namespace items w l gained n e ok r) (effect w l gained e);
}

take_so : (lines : List Line) → AnswersShowBytes (transcript lines) → (earlier later : List Item) (p ticket : ℕ) (i : WatchItem) → transcript lines ≡ earlier ++ item.Taken p ticket i ∷ later → TakenSo lines earlier (item.Taken p ticket i)
take_so lines s earlier later p ticket i e = every_item Reached (IsTaken lines) lines (reached_kept lines) (takes_told lines) s earlier later (item.Taken p ticket i) e

-- ---- what it tells

change_itself : (a : Change) → same_change a a ≡ true
change_itself a = and_first (same_change a a) (same_prev None None) (event-itself (record { change = a; prev = None }))

-- what can't be seen any more stays so
less_too : (c d r : ℕ) → c ≤ d → nat_lt d r ≡ true → nat_lt c r ≡ true
less_too c d r h e = grind (arith, nat_tests)

low_too : (c d r : ℕ) → c ≤ d → nat_le d r ≡ true → nat_le c r ≡ true
low_too c d r h e = grind (arith, nat_tests)

still_seen : (c d r m : ℕ) → c ≤ d → nat_lt d r || nat_le d m ≡ true → nat_lt c r || nat_le c m ≡ true
still_seen c d r m h e = elim (or_either (nat_lt d r) (nat_le d m) e) [
  | inl f ↦ or_left (nat_lt c r) (nat_le c m) (less_too c d r h f)
  | inr f ↦ or_right (nat_lt c r) (nat_le c m) (low_too c d m h f)
]

gone_too : (c d r : ℕ) (kv : Kv) → c ≤ d → visible_prev c r (Some kv) ≡ None → not (is_some (visible_prev d r (Some kv))) ≡ true
gone_too c d r kv h e = by (nat_lt d r || nat_le d kv.modified) refl
  where
    by : (b : Bool) → (nat_lt d r || nat_le d kv.modified) ≡ b → not (is_some (cond b (Some kv) None)) ≡ true
    by false f = refl
    by true f = absurd (let no_way : Some kv ≡ None = sym (ap (λ b. cond b (Some kv) None) (still_seen c d r kv.modified h f)) ∙ e in cc)

module _ (front : List Line) (earlier post : List Item) (i : Item) (told : transcript front ≡ earlier ++ i ∷ post) (quiet : (s : Seen) → saw_all s (i ∷ post) ≡ s) (ask : WatchAsk) where
  same_seen : seen (transcript front) ≡ seen earlier
  same_seen = ap seen told ∙ saw_all-append unseen earlier (i ∷ post) ∙ quiet (seen earlier)

  was_low : (e : Event) (k : WasCompacted (transcript front) e) → (seen k.before).store.compacted ≤ (seen earlier).store.compacted
  was_low e k =
      let more = item.Pushed k.stream k.message ∷ k.after in
      let rises = all_rises (seen k.before) more (no_later_world front k.before k.after (item.Pushed k.stream k.message) k.pushed) in
      let same : saw_all (seen k.before) more ≡ seen earlier = sym (saw_all-append unseen k.before more) ∙ sym (ap seen k.pushed) ∙ same_seen in
      subst (λ (s : Seen). (seen k.before).store.compacted ≤ s.store.compacted) same rises

  prev_so : (namespace : List ℕ) (b : Bool) (o : Option Kv) (e : Event) → TellsPrev (transcript front) b namespace o e → tells_prev b (seen earlier).store.compacted namespace o e ≡ true
  prev_so namespace false o e t = ap (λ (x : Option Kv). not (is_some x)) t
  prev_so namespace true None e t = by e.prev refl
    where
      by : (q : Option Kv) → e.prev ≡ q → not (is_some (visible_prev (seen earlier).store.compacted (event_revision e) q)) ≡ true
      by None f = refl
      by (Some kv) f =
          let k = t (λ n. absurd (let no_way : None ≡ Some kv = sym n ∙ f in cc)) in
          gone_too (seen k.before).store.compacted (seen earlier).store.compacted (event_revision e) kv (was_low e k) (ap (visible_prev (seen k.before).store.compacted (event_revision e)) (sym f) ∙ k.gone)
  prev_so namespace true (Some kv) e t = ap (λ (x : Option Kv). same_prev x e.prev) t ∙ prev-itself e.prev

  event_tells : (namespace : List ℕ) (one e : Event) → TellsEvent (transcript front) ask namespace one e → tells_event ask.prev_kv (seen earlier).store.compacted namespace one e ≡ true
  event_tells namespace one e k =
      and_both (same_change (stored_change namespace one.change) e.change) (tells_prev ask.prev_kv (seen earlier).store.compacted namespace one.prev e)
      (ap (λ (c : Change). same_change c e.change) k.same_change ∙ change_itself e.change) (prev_so namespace ask.prev_kv one.prev e k.true_prev)

  front_tells : (namespace : List ℕ) (got es : List Event) → TellsFront (transcript front) ask namespace got es → tells_front ask.prev_kv (seen earlier).store.compacted namespace got es ≡ true
  front_tells namespace [] es h = refl
  front_tells namespace (one ∷ got) [] h = absurd h
  front_tells namespace (one ∷ got) (e ∷ es) h =
      and_both (tells_event ask.prev_kv (seen earlier).store.compacted namespace one e) (tells_front ask.prev_kv (seen earlier).store.compacted namespace got es) (event_tells namespace one e h.0) (front_tells namespace got es h.1)

no_end : {A : Type 0} (xs : List Event) (y : Event) (ys : List Event) → xs ++ y ∷ ys ≡ [] → A
no_end [] y ys e = absurd (cc)
no_end (x ∷ xs) y ys e = absurd (cc)

-- ---- the turn of a message

-- behind the created message comes no other
no_second : {A : Type 0} (ts : List WatchItem) (h : Header) → ends_well (ts ++ Created h ∷ []) ≡ true → A
no_second [] h e = absurd (cc)
no_second (Created g ∷ ts) h e = absurd (cc)
no_second (Events g es ∷ ts) h e = no_second ts h e
no_second (Canceled g compaction ∷ []) h e = absurd (cc)
no_second (Canceled g compaction ∷ t ∷ ts) h e = absurd (cc)

-- and behind a cancellation none
none_cancelled : (ts : List WatchItem) (i : WatchItem) → ends_well (ts ++ i ∷ []) ≡ true → list_any is_cancellation ts ≡ false
none_cancelled [] i e = refl
none_cancelled (Created g ∷ ts) i e = absurd (cc)
none_cancelled (Events g es ∷ ts) i e = none_cancelled ts i e
none_cancelled (Canceled g compaction ∷ []) i e = absurd (cc)
none_cancelled (Canceled g compaction ∷ t ∷ ts) i e = absurd (cc)

in_turn : (taken : List WatchItem) (i : WatchItem) → is_well_formed (taken ++ i ∷ []) ≡ true → is_begun (taken ++ i ∷ []) ≡ true → comes_in_turn taken i ≡ true
in_turn [] (Created h) f b = refl
in_turn [] (Events h es) f b = absurd (cc)
in_turn [] (Canceled h compaction) f b = absurd (cc)
in_turn (Events g es ∷ ts) i f b = absurd (cc)
in_turn (Canceled g compaction ∷ ts) i f b = absurd (cc)
in_turn (Created g ∷ ts) (Created h) f b = no_second ts h f
in_turn (Created g ∷ ts) (Events h es) f b = ap not (none_cancelled ts (Events h es) f)
in_turn (Created g ∷ ts) (Canceled h compaction) f b = ap not (none_cancelled ts (Canceled h compaction) f)

queue_front : (n : ℕ) (xs ys : List WatchItem) → QueueOk n (xs ++ ys) → QueueOk n xs
queue_front n [] ys h = tt
queue_front n (x ∷ xs) ys h = (h.0, queue_front n xs ys h.1)

queue_last : (high : ℕ) (is : List WatchItem) (i : WatchItem) → QueueOk high (is ++ i ∷ []) → ProgressOk high i
queue_last high [] i h = h.0
queue_last high (j ∷ is) i h = queue_last high is i h.1

at_most : (n m : ℕ) → n ≤ m → nat_le n m ≡ true
at_most n m h = grind (arith, nat_tests)

-- ---- one take

module _ (lines : List Line) (few : length lines < 2 ^ 60) (shows : AnswersShowBytes (transcript lines)) (earlier later : List Item) (p ticket : ℕ) (m : WatchItem) (is : transcript lines ≡ earlier ++ item.Taken p ticket m ∷ later) where
  at : TakenSo lines earlier (item.Taken p ticket m)
  at = take_so lines shows earlier later p ticket m is

  on : life p (earlier ++ item.Taken p ticket m ∷ []) ≡ life p earlier ++ item.Taken p ticket m ∷ []
  on = life_on p earlier (item.Taken p ticket m ∷ []) (λ l. refl)

  short : length at.front < 2 ^ 60
  short = let a = at.short in omega (arith, a, few)

  now_taken : taken_for p ticket (life p (earlier ++ item.Taken p ticket m ∷ [])) ≡ taken_for p ticket (life p earlier) ++ m ∷ []
  now_taken =
      ap (taken_for p ticket) on ∙ taken-append p ticket (life p earlier) (item.Taken p ticket m ∷ [])
      ∙ ap (λ b. taken_for p ticket (life p earlier) ++ (cond (b && (ticket == ticket)) (m ∷ []) [] ++ [])) (number_itself p)
      ∙ ap (λ b. taken_for p ticket (life p earlier) ++ (cond b (m ∷ []) [] ++ [])) (number_itself ticket)

  still_asked : (ask : WatchAsk) → asked_as p ticket (life p earlier) ≡ Some (request.Watch ask) → asked_as p ticket (life p (earlier ++ item.Taken p ticket m ∷ [])) ≡ Some (request.Watch ask)
  still_asked ask asked =
      let one = item.Taken p ticket m ∷ [] in
      ap (asked_as p ticket) on ∙ asked-append p ticket (life p earlier) one ∙ ap (λ (o : Option Request). or_later o (asked_as p ticket one)) asked

  split : transcript at.front ≡ (earlier ++ item.Taken p ticket m ∷ []) ++ at.post
  split = at.told ∙ sym (append_assoc earlier (item.Taken p ticket m ∷ []) at.post)

  received : (ask : WatchAsk) → asked_as p ticket (life p earlier) ≡ Some (request.Watch ask)
      → HasReceived (transcript at.front) (earlier ++ item.Taken p ticket m ∷ []) ask (taken_for p ticket (life p earlier) ++ m ∷ [])
  received ask asked =
      let one = item.Taken p ticket m ∷ [] in
      subst (HasReceived (transcript at.front) (earlier ++ one) ask) now_taken (receives at.front short (earlier ++ one) at.post p ticket ask split (still_asked ask asked))

  -- it comes in turn
  turn_so : (ask : WatchAsk) → asked_as p ticket (life p earlier) ≡ Some (request.Watch ask) → comes_in_turn (taken_for p ticket (life p earlier)) m ≡ true
  turn_so ask asked =
      let one = item.Taken p ticket m ∷ [] in
      in_turn (taken_for p ticket (life p earlier)) m (received ask asked).formed
      (subst (λ (l : List WatchItem). is_begun l ≡ true) now_taken (begins_created at.front short (earlier ++ one) at.post p ticket ask split (still_asked ask asked)))

  -- the revisions that its messages tell
  begun_so : (ask : WatchAsk) → asked_as p ticket (life p earlier) ≡ Some (request.Watch ask) → is_begun (taken_for p ticket (life p earlier) ++ m ∷ []) ≡ true
  begun_so ask asked =
      let one = item.Taken p ticket m ∷ [] in
      subst (λ (l : List WatchItem). is_begun l ≡ true) now_taken (begins_created at.front short (earlier ++ one) at.post p ticket ask split (still_asked ask asked))

  queues_so : (ask : WatchAsk) → asked_as p ticket (life p earlier) ≡ Some (request.Watch ask) → QueueOk (newest (seen earlier).store.history) (taken_for p ticket (life p earlier) ++ m ∷ [])
  queues_so ask asked =
      let one = item.Taken p ticket m ∷ [] in
      let same : seen (earlier ++ one) ≡ seen earlier = saw_all-append unseen earlier one in
      let q = progress_within at.front short (earlier ++ one) at.post p ticket ask split (still_asked ask asked) in
      subst (λ (s : Seen). QueueOk (newest s.store.history) (taken_for p ticket (life p earlier) ++ m ∷ [])) same (subst (QueueOk (newest (seen (earlier ++ one)).store.history)) now_taken q)

  queue_so : (ask : WatchAsk) → asked_as p ticket (life p earlier) ≡ Some (request.Watch ask) → QueueOk (newest (seen earlier).store.history) (taken_for p ticket (life p earlier))
  queue_so ask asked = queue_front (newest (seen earlier).store.history) (taken_for p ticket (life p earlier)) (m ∷ []) (queues_so ask asked)

  fits_so : (ask : WatchAsk) → asked_as p ticket (life p earlier) ≡ Some (request.Watch ask) → newest (seen earlier).store.history + 2 ≤ 0xffff_ffff_ffff_ffff
  fits_so ask asked =
      let one = item.Taken p ticket m ∷ [] in
      subst (λ (s : Seen). newest s.store.history + 2 ≤ 0xffff_ffff_ffff_ffff) (same_seen at.front earlier at.post (item.Taken p ticket m) at.told at.quiet ask) (revisions_fit at.front short (earlier ++ one) at.post p ticket ask split (still_asked ask asked))

  same_space : namespace_of (transcript at.front) ≡ namespace_of earlier
  same_space = ap namespace_of at.told ∙ at.namespace

  -- the events that were taken
  front_so : (ask : WatchAsk) (start : ℕ) (all : List Event) → TellsFront (transcript at.front) ask (namespace_of (transcript at.front)) all (history_events (seen (transcript at.front)).store.history (namespace_of (transcript at.front)) ask start)
      → is_front (seen earlier).store (namespace_of earlier) ask start all ≡ true
  front_so ask start all k =
      let here : TellsFront (transcript at.front) ask (namespace_of earlier) all (history_events (seen earlier).store.history (namespace_of earlier) ask start) =
      subst (λ (s : Seen). TellsFront (transcript at.front) ask (namespace_of earlier) all (history_events s.store.history (namespace_of earlier) ask start)) (same_seen at.front earlier at.post (item.Taken p ticket m) at.told at.quiet ask)
      (subst (λ (n : List ℕ). TellsFront (transcript at.front) ask n all (history_events (seen (transcript at.front)).store.history n ask start)) same_space k) in
      front_tells at.front earlier at.post (item.Taken p ticket m) at.told at.quiet ask (namespace_of earlier) all (history_events (seen earlier).store.history (namespace_of earlier) ask start) here

  -- all events up to a revision
  all_so : (ask : WatchAsk) (start revision : ℕ) (all : List Event) → HasAllUpTo (seen (transcript at.front)).store.history (namespace_of (transcript at.front)) ask (Some start) all revision
      → has_all_up_to (seen earlier).store (namespace_of earlier) ask start all revision ≡ true
  all_so ask start revision all k =
      let here : HasAllUpTo (seen earlier).store.history (namespace_of earlier) ask (Some start) all revision =
      subst (λ (s : Seen). HasAllUpTo s.store.history (namespace_of earlier) ask (Some start) all revision) (same_seen at.front earlier at.post (item.Taken p ticket m) at.told at.quiet ask)
      (subst (λ (n : List ℕ). HasAllUpTo (seen (transcript at.front)).store.history n ask (Some start) all revision) same_space k) in
      let due = map (λ e. e.change) (filter (is_up_to revision) (history_events (seen earlier).store.history (namespace_of earlier) ask start)) in
      ap (λ (l : List Change). same_all same_change l due) here ∙ all-itself same_change change_itself due

  -- a message without events tells a revision that there is
  within : (ask : WatchAsk) → asked_as p ticket (life p earlier) ≡ Some (request.Watch ask) → ProgressOk (newest (seen earlier).store.history) m
  within ask asked = queue_last (newest (seen earlier).store.history) (taken_for p ticket (life p earlier)) m (queues_so ask asked)

-- ---- a message with events

module _ (lines : List Line) (few : length lines < 2 ^ 60) (shows : AnswersShowBytes (transcript lines)) (earlier later : List Item) (p ticket : ℕ) (h : Header) (e : Event) (es : List Event) (is : transcript lines ≡ earlier ++ item.Taken p ticket (Events h (e ∷ es)) ∷ later) where
  got : queued_events (taken_for p ticket (life p earlier) ++ Events h (e ∷ es) ∷ []) ≡ queued_events (taken_for p ticket (life p earlier)) ++ e ∷ es
  got = queued-append (taken_for p ticket (life p earlier)) (Events h (e ∷ es) ∷ []) ∙ ap (λ (l : List Event). queued_events (taken_for p ticket (life p earlier)) ++ e ∷ l) (append-nil es)

  watch_so : (ask : WatchAsk) → asked_as p ticket (life p earlier) ≡ Some (request.Watch ask)
      → takes_from earlier ask (start_of ask (taken_for p ticket (life p earlier) ++ Events h (e ∷ es) ∷ [])) (taken_for p ticket (life p earlier)) (Events h (e ∷ es)) ≡ true
  watch_so ask asked = by (start_of ask (taken_for p ticket (life p earlier) ++ Events h (e ∷ es) ∷ [])) (received lines few shows earlier later p ticket (Events h (e ∷ es)) is ask asked).front
    where
      by : (o : Option ℕ) → ReceivedFront (transcript (at lines few shows earlier later p ticket (Events h (e ∷ es)) is).front) ask (namespace_of (transcript (at lines few shows earlier later p ticket (Events h (e ∷ es)) is).front)) (queued_events (taken_for p ticket (life p earlier) ++ Events h (e ∷ es) ∷ [])) o
          → takes_from earlier ask o (taken_for p ticket (life p earlier)) (Events h (e ∷ es)) ≡ true
      by None k = no_end (queued_events (taken_for p ticket (life p earlier))) e es (sym got ∙ k)
      by (Some start) k =
          front_so lines few shows earlier later p ticket (Events h (e ∷ es)) is ask start (queued_events (taken_for p ticket (life p earlier)) ++ e ∷ es)
          (subst (λ (l : List Event). TellsFront (transcript (at lines few shows earlier later p ticket (Events h (e ∷ es)) is).front) ask (namespace_of (transcript (at lines few shows earlier later p ticket (Events h (e ∷ es)) is).front)) l (history_events (seen (transcript (at lines few shows earlier later p ticket (Events h (e ∷ es)) is).front)).store.history (namespace_of (transcript (at lines few shows earlier later p ticket (Events h (e ∷ es)) is).front)) ask start)) got k)

-- ---- the created message, and one without events

created_kept : (earlier : List Item) (ask : WatchAsk) (h : Header) (taken : List WatchItem) → comes_in_turn taken (Created h) ≡ true → takes_from earlier ask (start_of ask (taken ++ Created h ∷ [])) taken (Created h) ≡ true
created_kept earlier ask h [] c = by (ask.start == 0)
  where
    by : (b : Bool) → takes_from earlier ask (cond b (Some (h.revision + 1)) (Some ask.start)) [] (Created h) ≡ true
    by true = refl
    by false = refl
created_kept earlier ask h (t ∷ ts) c = absurd (cc)

progress_kept : (lines : List Line) (few : length lines < 2 ^ 60) (shows : AnswersShowBytes (transcript lines)) (earlier later : List Item) (p ticket : ℕ) (h : Header) (is : transcript lines ≡ earlier ++ item.Taken p ticket (Events h []) ∷ later)
    → (ask : WatchAsk) → asked_as p ticket (life p earlier) ≡ Some (request.Watch ask)
    → takes_from earlier ask (start_of ask (taken_for p ticket (life p earlier) ++ Events h [] ∷ [])) (taken_for p ticket (life p earlier)) (Events h []) ≡ true
progress_kept lines few shows earlier later p ticket h is ask asked =
    let k = (received lines few shows earlier later p ticket (Events h []) is ask asked).progress (taken_for p ticket (life p earlier)) [] h refl in
    by (start_of ask (taken_for p ticket (life p earlier) ++ Events h [] ∷ [])) k.0 k.1
  where
    by : (o : Option ℕ) → ask.progress ≡ true → HasAllUpTo (seen (transcript (at lines few shows earlier later p ticket (Events h []) is).front)).store.history (namespace_of (transcript (at lines few shows earlier later p ticket (Events h []) is).front)) ask o (queued_events (taken_for p ticket (life p earlier))) h.revision
        → takes_from earlier ask o (taken_for p ticket (life p earlier)) (Events h []) ≡ true
    by None progress all = absurd all
    by (Some start) progress all =
        let high = newest (seen earlier).store.history in
        let has = has_all_up_to (seen earlier).store (namespace_of earlier) ask start (queued_events (taken_for p ticket (life p earlier))) h.revision in
        and_both (ask.progress && nat_le h.revision high) has
        (and_both ask.progress (nat_le h.revision high) progress (at_most h.revision high (within lines few shows earlier later p ticket (Events h []) is ask asked)))
        (all_so lines few shows earlier later p ticket (Events h []) is ask start h.revision (queued_events (taken_for p ticket (life p earlier))) all)

-- ---- a cancellation was pushed

no_push : (c : ℕ) (i : Item) → is_no_push i ≡ true → pushes_cancellation c i ≡ false
no_push c (item.Pushed stream m) e = absurd (cc)
no_push c _ e = refl

none_pushed : (c : ℕ) (items : List Item) → list_all is_no_push items ≡ true → list_any (pushes_cancellation c) items ≡ false
none_pushed c [] e = refl
none_pushed c (i ∷ items) e =
    or_none (pushes_cancellation c i) (list_any (pushes_cancellation c) items) (no_push c i (and_first (is_no_push i) (list_all is_no_push items) e)) (none_pushed c items (and_second (is_no_push i) (list_all is_no_push items) e))

was_pushed : (whole earlier post : List Item) (p ticket c : ℕ) (m : WatchItem) → whole ≡ earlier ++ item.Taken p ticket m ∷ post → list_all is_no_push post ≡ true → WasPushed whole c → list_any (pushes_cancellation c) earlier ≡ true
was_pushed whole earlier post p ticket c m e u k =
    let f = pushes_cancellation c in
    let it = item.Pushed k.stream (Canceled k.header c) in
    let there : list_any f whole ≡ true =
    ap (list_any f) k.pushed ∙ list_any-append f k.before (it ∷ k.after) ∙ or_right (list_any f k.before) ((c == c) || list_any f k.after) (or_left (c == c) (list_any f k.after) (number_itself c)) in
    by (or_either (list_any f earlier) (list_any f (item.Taken p ticket m ∷ post)) (sym (ap (list_any f) e ∙ list_any-append f earlier (item.Taken p ticket m ∷ post)) ∙ there))
  where
    by : (list_any (pushes_cancellation c) earlier ≡ true) ⊎ (list_any (pushes_cancellation c) (item.Taken p ticket m ∷ post) ≡ true) → list_any (pushes_cancellation c) earlier ≡ true
    by (inl a) = a
    by (inr b) = absurd (let no_way : true ≡ false = sym b ∙ none_pushed c post u in cc)

below : (n m : ℕ) → n < m → nat_lt n m ≡ true
below n m h = grind (arith, nat_tests)

-- ---- and lies above all that was taken

last_max : (a b c : ℕ) (es : List Event) → last_from a es < c → b < c → last_from (max a b) es < c
last_max a b c [] h k = omega (arith, h, k)
last_max a b c (e ∷ es) h k =
    let r = event_revision e + 1 in
    let same : max (max a r) b ≡ max (max a b) r = omega arith in
    subst (λ (n : ℕ). last_from n es < c) same (last_max (max a r) b c es h k)

last-append : (n : ℕ) (xs ys : List Event) → last_from n (xs ++ ys) ≡ last_from (last_from n xs) ys
last-append n [] ys = refl
last-append n (x ∷ xs) ys = last-append (max n (event_revision x + 1)) xs ys

next_below : (high top c n : ℕ) (taken : List WatchItem) → last_from n (queued_events taken) < c → AreUpTo top taken → top < c → QueueOk high taken → high + 2 ≤ 0xffff_ffff_ffff_ffff → next_taken n taken < c
next_below high top c n [] h u t q l = h
next_below high top c n (Created g ∷ ts) h u t q l = next_below high top c n ts h u.1 t q.1 l
next_below high top c n (Canceled g d ∷ ts) h u t q l = next_below high top c n ts h u.1 t q.1 l
next_below high top c n (Events g [] ∷ ts) h u t q l =
    let bound = u.0 in
    let there = q.0 in
    let low : g.revision + 1 < c = omega (arith, bound, t, there, l) in
    next_below high top c (max n (g.revision + 1)) ts (last_max n (g.revision + 1) c (queued_events ts) h low) u.1 t q.1 l
next_below high top c n (Events g (e ∷ es) ∷ ts) h u t q l =
    next_below high top c (last_from n (e ∷ es)) ts (subst (λ (k : ℕ). k < c) (last-append n (e ∷ es) (queued_events ts)) h) u.1 t q.1 l

-- a start is decided once the watch was created
decided_from : (ask : WatchAsk) (taken : List WatchItem) (i : WatchItem) → is_begun (taken ++ i ∷ []) ≡ true → (start : ℕ) × (start_of ask (taken ++ i ∷ []) ≡ Some start)
decided_from ask taken i b = by (taken ++ i ∷ []) (some taken i) b
  where
    some : (xs : List WatchItem) (y : WatchItem) → is_nil (xs ++ y ∷ []) ≡ false
    some [] y = refl
    some (x ∷ xs) y = refl

    start_at : (b : Bool) (r : ℕ) → (start : ℕ) × (cond b (Some r) (Some ask.start) ≡ Some start)
    start_at true r = (r, refl)
    start_at false r = (ask.start, refl)

    by : (l : List WatchItem) → is_nil l ≡ false → is_begun l ≡ true → (start : ℕ) × (start_of ask l ≡ Some start)
    by [] n b = absurd (cc)
    by (Created g ∷ l) n b = start_at (ask.start == 0) (g.revision + 1)
    by (Events g es ∷ l) n b = absurd (cc)
    by (Canceled g c ∷ l) n b = absurd (cc)

up_front : (n : ℕ) (xs ys : List WatchItem) → AreUpTo n (xs ++ ys) → AreUpTo n xs
up_front n [] ys h = tt
up_front n (x ∷ xs) ys h = (h.0, up_front n xs ys h.1)

cancel_kept : (lines : List Line) (few : length lines < 2 ^ 60) (shows : AnswersShowBytes (transcript lines)) (earlier later : List Item) (p ticket : ℕ) (h : Header) (c : ℕ) (is : transcript lines ≡ earlier ++ item.Taken p ticket (Canceled h c) ∷ later)
    → (ask : WatchAsk) → asked_as p ticket (life p earlier) ≡ Some (request.Watch ask)
    → takes_from earlier ask (start_of ask (taken_for p ticket (life p earlier) ++ Canceled h c ∷ [])) (taken_for p ticket (life p earlier)) (Canceled h c) ≡ true
cancel_kept lines few shows earlier later p ticket h c is ask asked =
    let m = Canceled h c in
    let taken = taken_for p ticket (life p earlier) in
    let t = at lines few shows earlier later p ticket m is in
    let k = (received lines few shows earlier later p ticket m is ask asked).cancelled taken h c refl in
    let d = decided_from ask taken m (begun_so lines few shows earlier later p ticket m is ask asked) in
    let pushed = was_pushed (transcript t.front) earlier t.post p ticket c m t.told t.unpushed k.0 in
    let events : queued_events (taken ++ m ∷ []) ≡ queued_events taken = queued-append taken (m ∷ []) ∙ append-nil (queued_events taken) in
    let last : last_from d.0 (queued_events taken) < c = subst (λ (n : ℕ). n < c) (λ j. last_from (or_zero (d.1 j)) (events j)) k.1 in
    let story = cancelled_below (namespace_of (transcript lines)) p ticket earlier h c (takes_stand lines few earlier later p ticket m is) in
    let low = next_below (newest (seen earlier).store.history) story.next c d.0 taken last (up_front story.next taken (m ∷ []) story.bounded) story.below (queue_so lines few shows earlier later p ticket m is ask asked) (fits_so lines few shows earlier later p ticket m is ask asked) in
    subst (λ (o : Option ℕ). takes_from earlier ask o taken m ≡ true) (sym d.1)
    (and_both (list_any (pushes_cancellation c) earlier) (nat_lt (next_taken d.0 taken) c) pushed (below (next_taken d.0 taken) c low))

-- ---- all messages

module _ (lines : List Line) (few : length lines < 2 ^ 60) (shows : AnswersShowBytes (transcript lines)) (earlier later : List Item) (p ticket : ℕ) where
  from_so : (m : WatchItem) → transcript lines ≡ earlier ++ item.Taken p ticket m ∷ later → (ask : WatchAsk) → asked_as p ticket (life p earlier) ≡ Some (request.Watch ask) → comes_in_turn (taken_for p ticket (life p earlier)) m ≡ true
      → takes_from earlier ask (start_of ask (taken_for p ticket (life p earlier) ++ m ∷ [])) (taken_for p ticket (life p earlier)) m ≡ true
  from_so (Created h) is ask asked turn = created_kept earlier ask h (taken_for p ticket (life p earlier)) turn
  from_so (Events h []) is ask asked turn = progress_kept lines few shows earlier later p ticket h is ask asked
  from_so (Events h (e ∷ es)) is ask asked turn = watch_so lines few shows earlier later p ticket h e es is ask asked
  from_so (Canceled h c) is ask asked turn = cancel_kept lines few shows earlier later p ticket h c is ask asked

  take_kept : (m : WatchItem) → transcript lines ≡ earlier ++ item.Taken p ticket m ∷ later → (o : Option Request) → asked_as p ticket (life p earlier) ≡ o → takes_for earlier o (taken_for p ticket (life p earlier)) m ≡ true
  take_kept m is (Some (request.Watch ask)) asked =
      let taken = taken_for p ticket (life p earlier) in
      let turn = turn_so lines few shows earlier later p ticket m is ask asked in
      and_both (comes_in_turn taken m) (takes_from earlier ask (start_of ask (taken ++ m ∷ [])) taken m) turn (from_so m is ask asked turn)
  take_kept m is None asked = refl
  take_kept m is (Some (request.Range ask)) asked = refl
  take_kept m is (Some (request.Put ask)) asked = refl
  take_kept m is (Some (request.Delete ask)) asked = refl
  take_kept m is (Some (request.Txn t)) asked = refl
  take_kept m is (Some (request.Compact revision physical)) asked = refl
  take_kept m is (Some (request.Grant ttl lease)) asked = refl
  take_kept m is (Some (request.Revoke lease)) asked = refl
  take_kept m is (Some (request.KeepAlive lease)) asked = refl
  take_kept m is (Some (request.TimeToLive lease keys)) asked = refl
  take_kept m is (Some request.Leases) asked = refl

takes_kept_in : (lines : List Line) → length lines < 2 ^ 60 → AnswersShowBytes (transcript lines) → OfEach (λ before i. takes_so before i ≡ true) (transcript lines)
takes_kept_in lines few shows earlier later (item.Taken p ticket m) is = take_kept lines few shows earlier later p ticket m is (asked_as p ticket (life p earlier)) refl
takes_kept_in lines few shows earlier later _ is = refl

pub takes_kept : TakesAreKept
takes_kept lines m few s = takes_kept_in lines few s
