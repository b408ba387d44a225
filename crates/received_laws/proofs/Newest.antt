-- Of the world behind each line: no header that a proxy heard, or can hear, is above the store's newest revision, and a start that was
-- left open is at most the one behind it.
use Rattle.std.proofs.Common.{◌≡◌, inl, inr, ℕ, zero, suc, ◌-◌, ◌≤◌, Bool, true, false, cond, not, ◌&&◌, ◌==◌, nat_le, nat_lt, List, [], ◌∷◌, ◌++◌, Option, None, Some, Ok, Err, refl, ap, sym, subst, ◌∙◌, arith}
use Rattle.std.proofs.lemmas.Bool.Decides.{nat_tests}
use Rattle.std.specs.Prelude.{get_or}
use Rattle.std.specs.List.{list_all}
use Rattle.etcd_types.specs.declared.answer.Answer.{Answer}
use Rattle.etcd_types.specs.declared.answer.Answer.TheVariants as answer
use Rattle.etcd_types.specs.declared.request.Request.{Request}
use Rattle.etcd_types.specs.declared.watch.Change.{Change}
use Rattle.etcd_types.specs.declared.watch.Event.{Event}
use Rattle.etcd_types.specs.declared.watch.WatchItem.{WatchItem}
use Rattle.store_model.specs.declared.watch.OpenWatch.{OpenWatch}
use Rattle.store_model.specs.History.{History, newest}
use Rattle.store_model.specs.State.{State, applied_by}
use Rattle.store_model.specs.Step.{exec}
use Rattle.store_model.specs.Watches.{Pushed, watch_of, events_for, push_events, push_to, for_watch, pushed, is_synced, progress_to, progressed}
use Rattle.store_laws.specs.Requests.Answered.{is_serializable}
use Rattle.store_laws.proofs.Requests.AnsweredProofs.{replies_tell_revisions}
use Rattle.store_laws.specs.Lives.Sound.{Sound, is_reached}
use Rattle.store_laws.proofs.Lives.SoundProofs.{requests_keep_sound, expiries_keep_sound, applies_keep_sound, openings_keep_sound, messages_keep_sound}
use Rattle.core_model.specs.LeasingStream.{item_header}
use Rattle.core_model.specs.declared.event.CoreEvent.{CoreEvent}
use Rattle.core_model.specs.declared.event.Outcome.{Outcome}
use Rattle.core_model.specs.State.{Core}
use Rattle.core_model.specs.Step.{stepped}
use Rattle.script_text.specs.declared.item.Item.{Item}
use Rattle.world_model.specs.declared.sent_call.SentCall.{SentCall}
use Rattle.world_model.specs.Gains.{Replies, all_fetched}
use Rattle.world_model.specs.Places.{nth, with_nth, place_at, with_place, with_core, with_posted, ended}
use Rattle.world_model.specs.Sends.{closed_in}
use Rattle.world_model.specs.Starts.{new_place}
use Rattle.world_model.specs.Streams.{with_message}
use Rattle.world_model.specs.State.{Place, OpenedStream, World}
use Rattle.world_laws.proofs.Effects.{Turn, ticks, asks_it, posts_it, calls, opens, closes, answers, loses, delivers, cuts, takes, waits, leaves, IsPushed, Effect, starts, sets, refuses_post, executes, expires, applies, pushes, turns}
use Rattle.core_laws.proofs.Watches.Touches.{Side, side, Aged}
use Rattle.held_laws.proofs.Growing.{Grows, closed_store, turn_grows, exec_leaves, expired_leaves, applied_leaves, message_leaves}
use Rattle.held_laws.proofs.Opens.{nth_push}
use Rattle.held_laws.proofs.Places.{PlaceOk, counted_side, stepping, all_so}
use Rattle.held_laws.proofs.Pushes.{Whole}
use Rattle.received_laws.proofs.Starting.{StartsOk, AnswerWithin, IsWithin, starts_later, touch_starts}
use Rattle.held_laws.proofs.Stories.{story_by, newest_front}
use Rattle.held_laws.proofs.Places.{got_of}
use Rattle.held_laws.proofs.Holding.{stepped_ok}
use Rattle.held_laws.proofs.Worlds.{WorldOk, equal, nth_changed, one_place, placed_itself, placed_other}

-- of the messages that wait to be delivered
abbrev pub AllWithin : ℕ → List WatchItem → Type 0
AllWithin high [] = Unit {0}
AllWithin high (i ∷ is) = ((item_header i).revision ≤ high) × AllWithin high is

pub record IsNewest (high : ℕ) (w : World) : Type 0 where
  pub places : (p : ℕ) (x : Place) → place_at w p ≡ Some x → StartsOk high (side x.core)
  pub calls : (number : ℕ) (call : SentCall) (a : Answer) → nth w.calls number ≡ Some call → call.executed ≡ Some a → AnswerWithin high a
  pub streams : (number : ℕ) (s : OpenedStream) → nth w.streams number ≡ Some s → AllWithin high s.waiting

pub record NewestOk (w : World) : Type 0 where
  pub sound : Sound w.store
  pub newest : IsNewest (newest w.store.history) w

-- ---- a greater newest revision

within_later : (low high : ℕ) (is : List WatchItem) → low ≤ high → AllWithin low is → AllWithin high is
within_later low high [] l h = tt
within_later low high (i ∷ is) l h = (let k = h.0 in omega (arith, l, k), within_later low high is l h.1)

within_push : (high : ℕ) (is : List WatchItem) (i : WatchItem) → AllWithin high is → (item_header i).revision ≤ high → AllWithin high (is ++ i ∷ [])
within_push high [] i h k = (k, tt)
within_push high (j ∷ is) i h k = (h.0, within_push high is i h.1 k)

answer_later : (low high : ℕ) (a : Answer) → low ≤ high → AnswerWithin low a → AnswerWithin high a
answer_later low high (answer.Done reply) l h = omega (arith, l, h)
answer_later low high (answer.Refused r) l h = tt

newest_later : (low high : ℕ) (w : World) → low ≤ high → IsNewest low w → IsNewest high w
newest_later low high w l h = record {
  places = λ p x e. starts_later low high (side x.core) l (h.places p x e);
  calls = λ number call a e f. answer_later low high a l (h.calls number call a e f);
  streams = λ number s e. within_later low high s.waiting l (h.streams number s e);
}

pub grown_newest : (s t : State) → Grows s t → newest s.history ≤ newest t.history
grown_newest s t g = let a = newest_front s.history g.0 in let e : newest t.history ≡ newest (s.history ++ g.0) = ap newest g.1 in omega (arith, a, e)

-- ---- what the store answers and pushes

reached_at : (h : History) (rs : List ℕ) (i : ℕ) → list_all (is_reached h) rs ≡ true → get_or rs i 0 ≤ newest h
reached_at h [] i e = omega arith
reached_at h (r ∷ rs) zero e = at_least r (newest h) (list_all (is_reached h) rs) e
  where
    at_least : (r n : ℕ) (b : Bool) → (nat_le r n && b) ≡ true → r ≤ n
    at_least r n b e = grind (arith, nat_tests)
reached_at h (r ∷ rs) (suc i) e = reached_at h rs i (rest (is_reached h r) (list_all (is_reached h) rs) e)
  where
    rest : (a b : Bool) → (a && b) ≡ true → b ≡ true
    rest true b e = e
    rest false b e = absurd (cc)

exec_within : (s : State) (member : ℕ) (q : Request) → Sound s → AnswerWithin (newest (exec s member q).0.history) (exec s member q).1
exec_within s member q sound = by (exec s member q).1 refl
  where
    by : (a : Answer) → (exec s member q).1 ≡ a → AnswerWithin (newest (exec s member q).0.history) a
    by (answer.Refused r) e = tt
    by (answer.Done reply) e = told (is_serializable q) (replies_tell_revisions s member q reply e).0
      where
        grown : newest s.history ≤ newest (exec s member q).0.history
        grown = grown_newest s (exec s member q).0 (exec_leaves s member q).grown

        told : (b : Bool) → reply.header.revision ≡ cond b (applied_by s member) (newest (exec s member q).0.history) → reply.header.revision ≤ newest (exec s member q).0.history
        told true e = let l = reached_at s.history s.applied (member - 1) sound.applied in omega (arith, e, l, grown)
        told false e = omega (arith, e)

-- a message of the store tells its newest revision
abbrev IsNew : State → Pushed → Type 0
IsNew s (Ok p) = (item_header p.1).revision ≡ newest s.history
IsNew s (Err why) = Unit {0}

either : {A : Type 0} (P : A → Type 0) (b : Bool) (x y : A) → P x → P y → P (cond b x y)
either P true x y f g = f
either P false x y f g = g

events_new : (s : State) (number : ℕ) (w : OpenWatch) (es : List Event) → IsNew s (push_events s number w es)
events_new s number w [] = tt
events_new s number w (e ∷ es) = refl

push_new : (s : State) (number : ℕ) (o : Option OpenWatch) → IsNew s (for_watch number o (push_to s number))
push_new s number None = tt
push_new s number (Some w) = either (IsNew s) (w.next == 0) _ _ refl (either (IsNew s) (nat_lt w.next s.compacted) _ _ refl (events_new s number w (events_for s w)))

progress_new : (s : State) (number : ℕ) (o : Option OpenWatch) → IsNew s (for_watch number o (progress_to s number))
progress_new s number None = tt
progress_new s number (Some w) = either (IsNew s) (not w.ask.progress) _ _ tt (either (IsNew s) (is_synced s w) _ _ refl tt)

pushed_new : (s : State) (number : ℕ) → IsNew s (pushed s number)
unfolding pushed
pushed_new s number = push_new s number (watch_of s number)

progressed_new : (s : State) (number : ℕ) → IsNew s (progressed s number)
unfolding progressed
progressed_new s number = progress_new s number (watch_of s number)

message_new : (s t : State) (i : WatchItem) (number : ℕ) → IsPushed s number t i → (item_header i).revision ≡ newest s.history
message_new s t i number (inl e) = subst (IsNew s) e (pushed_new s number)
message_new s t i number (inr e) = subst (IsNew s) e (progressed_new s number)

-- ---- one of the places, calls and streams is put anew

put_places : (high : ℕ) (w v : World) (p : ℕ) (z : Place) → v.places ≡ w.places → IsNewest high w → StartsOk high (side z.core) → (q : ℕ) (y : Place) → place_at (with_place v p z) q ≡ Some y → StartsOk high (side y.core)
put_places high w v p z same h k q y e = by (q == p) refl
  where
    by : (b : Bool) → (q == p) ≡ b → StartsOk high (side y.core)
    by true n = subst (λ (x : Place). StartsOk high (side x.core)) (one_place z y (sym (placed_itself w v p z) ∙ ap (place_at (with_place v p z)) (sym (equal q p n)) ∙ e)) k
    by false n = h.places q y (sym (placed_other w v p q z same n) ∙ e)

put_calls : (high : ℕ) (cs : List SentCall) (number : ℕ) (old new : SentCall) → nth cs number ≡ Some old → ((a : Answer) → new.executed ≡ Some a → AnswerWithin high a)
    → ((n : ℕ) (call : SentCall) (a : Answer) → nth cs n ≡ Some call → call.executed ≡ Some a → AnswerWithin high a)
    → (n : ℕ) (call : SentCall) (a : Answer) → nth (with_nth cs number new) n ≡ Some call → call.executed ≡ Some a → AnswerWithin high a
put_calls high cs number old new there k h n call a e f = elim (nth_changed cs number n old new call there e) [
  | inl c ↦ k a (ap (λ (x : SentCall). x.executed) c.1 ∙ f)
  | inr c ↦ h n call a c.1 f
]

more_calls : (high : ℕ) (cs : List SentCall) (new : SentCall) → new.executed ≡ None → ((n : ℕ) (call : SentCall) (a : Answer) → nth cs n ≡ Some call → call.executed ≡ Some a → AnswerWithin high a)
    → (n : ℕ) (call : SentCall) (a : Answer) → nth (cs ++ new ∷ []) n ≡ Some call → call.executed ≡ Some a → AnswerWithin high a
more_calls high cs new none h n call a e f = elim (nth_push cs new n call e) [
  | inl c ↦ h n call a c f
  | inr c ↦ no_answer (sym none ∙ ap (λ (x : SentCall). x.executed) c.1 ∙ f)
]
  where
    no_answer : {A : Type 0} → ◌≡◌ {A = Option Answer} None (Some a) → A
    no_answer e = absurd (cc)

put_streams : (high : ℕ) (ss : List OpenedStream) (number : ℕ) (old new : OpenedStream) → nth ss number ≡ Some old → AllWithin high new.waiting → ((n : ℕ) (s : OpenedStream) → nth ss n ≡ Some s → AllWithin high s.waiting)
    → (n : ℕ) (s : OpenedStream) → nth (with_nth ss number new) n ≡ Some s → AllWithin high s.waiting
put_streams high ss number old new there k h n s e = elim (nth_changed ss number n old new s there e) [
  | inl c ↦ subst (λ (x : OpenedStream). AllWithin high x.waiting) c.1 k
  | inr c ↦ h n s c.1
]

more_streams : (high : ℕ) (ss : List OpenedStream) (new : OpenedStream) → new.waiting ≡ [] → ((n : ℕ) (s : OpenedStream) → nth ss n ≡ Some s → AllWithin high s.waiting)
    → (n : ℕ) (s : OpenedStream) → nth (ss ++ new ∷ []) n ≡ Some s → AllWithin high s.waiting
more_streams high ss new none h n s e = elim (nth_push ss new n s e) [
  | inl c ↦ h n s c
  | inr c ↦ subst (λ (x : OpenedStream). AllWithin high x.waiting) c.1 (subst (AllWithin high) (sym none) tt)
]

-- ---- a turn of a proxy

closed_streams : (high : ℕ) (w : World) (number : ℕ) (o : Option OpenedStream) → nth w.streams number ≡ o → IsNewest high w → (n : ℕ) (s : OpenedStream) → nth (closed_in w number o).streams n ≡ Some s → AllWithin high s.waiting
closed_streams high w number None e h = h.streams
closed_streams high w number (Some s) e h = put_streams high w.streams number s (ended s) e tt h.streams

-- what the world is behind it, but for the proxy itself
record Rest (high : ℕ) (w v : World) (e : CoreEvent) : Type 0 where
  pub within : IsWithin high e
  pub places : v.places ≡ w.places
  pub calls : (number : ℕ) (call : SentCall) (a : Answer) → nth v.calls number ≡ Some call → call.executed ≡ Some a → AnswerWithin high a
  pub streams : (number : ℕ) (s : OpenedStream) → nth v.streams number ≡ Some s → AllWithin high s.waiting

closed_places : (w : World) (number : ℕ) (o : Option OpenedStream) → (closed_in w number o).places ≡ w.places
closed_places w number None = refl
closed_places w number (Some s) = refl

closed_calls : (w : World) (number : ℕ) (o : Option OpenedStream) → (closed_in w number o).calls ≡ w.calls
closed_calls w number None = refl
closed_calls w number (Some s) = refl

turn_rest : (high : ℕ) (w : World) (p : ℕ) (x : Place) (e : CoreEvent) (o : Outcome) (v : World) (y : Place) (own : List Item) (told : Replies) → IsNewest high w → Turn w p x e o v y own told → Rest high w v e
turn_rest high w p x _ _ _ _ _ _ h (ticks o) = record { within = tt; places = refl; calls = h.calls; streams = h.streams }
turn_rest high w p x _ _ _ _ _ _ h (asks_it ticket q o n) = record { within = tt; places = refl; calls = h.calls; streams = h.streams }
turn_rest high w p x _ _ _ _ _ _ h (posts_it ticket path body q o n) = record { within = tt; places = refl; calls = h.calls; streams = h.streams }
turn_rest high w p x _ _ _ _ _ _ h (calls own member ticket q) = record { within = tt; places = refl; calls = more_calls high w.calls _ refl h.calls; streams = h.streams }
turn_rest high w p x _ _ _ _ _ _ h (opens own member ask) = record { within = tt; places = refl; calls = h.calls; streams = more_streams high w.streams _ refl h.streams }
turn_rest high w p x _ _ _ _ _ _ h (closes own number e) = record {
  within = tt;
  places = closed_places w number (nth w.streams number);
  calls = subst (λ (cs : List SentCall). (n : ℕ) (call : SentCall) (a : Answer) → nth cs n ≡ Some call → call.executed ≡ Some a → AnswerWithin high a) (sym (closed_calls w number (nth w.streams number))) h.calls;
  streams = closed_streams high w number (nth w.streams number) refl h;
}
turn_rest high w p x _ _ _ _ _ _ h (answers number call a o e f) = record {
  within = h.calls number call a e f;
  places = refl;
  calls = put_calls high w.calls number call (record call { settled = true }) e (λ a g. h.calls number call a e g) h.calls;
  streams = h.streams;
}
turn_rest high w p x _ _ _ _ _ _ h (loses number call o e) = record {
  within = tt;
  places = refl;
  calls = put_calls high w.calls number call (record call { settled = true }) e (λ a g. h.calls number call a e g) h.calls;
  streams = h.streams;
}
turn_rest high w p x _ _ _ _ _ _ h (delivers number s i rest o e f g j k) =
    let all : AllWithin high (i ∷ rest) = subst (AllWithin high) k (h.streams number s e) in
    record { within = all.0; places = refl; calls = h.calls; streams = put_streams high w.streams number s (record s { waiting = rest }) e all.1 h.streams }
turn_rest high w p x _ _ _ _ _ _ h (cuts number s o e f g j) = record { within = tt; places = refl; calls = h.calls; streams = put_streams high w.streams number s (ended s) e tt h.streams }
turn_rest high w p x _ _ _ _ _ _ h (takes ticket i) = record { within = tt; places = refl; calls = h.calls; streams = h.streams }
turn_rest high w p x _ _ _ _ _ _ h (waits ticket o n) = record { within = tt; places = refl; calls = h.calls; streams = h.streams }
turn_rest high w p x _ _ _ _ _ _ h (leaves ticket o) = record { within = tt; places = refl; calls = h.calls; streams = h.streams }

aged_starts : (high : ℕ) (a b : Side) → Aged a b → StartsOk high a → StartsOk high b
aged_starts high a b g h = subst (StartsOk high) (sym g.1) (record { header = h.header; watches = h.watches })

-- the proxy itself
turned_starts : (high : ℕ) (namespace : List ℕ) (whole : Whole) (f : Change → Option Change) (items : List Item) (p : ℕ) (x y : Place) (e : CoreEvent) (o : Outcome) → PlaceOk namespace whole f items p x → (stepped x.core e x.clock).outcome ≡ Ok o
    → IsWithin high e → y.core ≡ (stepped x.core e x.clock).core → (told : Replies) → StartsOk high (side x.core) → StartsOk high (side (all_fetched y told).place.core)
turned_starts high namespace whole f items p x y e o ok out within same told h =
    let story = story_by f namespace whole in
    let d = (stepped x.core e x.clock).core in
    let touch = (stepping namespace x.core e x.clock o ok.namespace_is out).touch in
    let holds = (stepped_ok story (got_of p items) (side x.core) x.core.steps ok.holds).holds in
    let behind = touch_starts story (got_of p items) high namespace (counted_side x.core) (side d) e (Ok o) within holds touch (record { header = h.header; watches = h.watches }) in
    aged_starts high (side y.core) (side (all_fetched y told).place.core) (all_so y told).aged (subst (λ (c : Core). StartsOk high (side c)) (sym same) behind)

turn_place : (w : World) (p : ℕ) (x : Place) (e : CoreEvent) (o : Outcome) (v : World) (y : Place) (own : List Item) (told : Replies) → Turn w p x e o v y own told → y.core ≡ x.core
turn_place w p x _ _ _ _ _ _ (ticks o) = refl
turn_place w p x _ _ _ _ _ _ (asks_it ticket q o n) = refl
turn_place w p x _ _ _ _ _ _ (posts_it ticket path body q o n) = refl
turn_place w p x _ _ _ _ _ _ (calls own member ticket q) = refl
turn_place w p x _ _ _ _ _ _ (opens own member ask) = refl
turn_place w p x _ _ _ _ _ _ (closes own number e) = refl
turn_place w p x _ _ _ _ _ _ (answers number call a o e f) = refl
turn_place w p x _ _ _ _ _ _ (loses number call o e) = refl
turn_place w p x _ _ _ _ _ _ (delivers number s i rest o e f g h k) = refl
turn_place w p x _ _ _ _ _ _ (cuts number s o e f g h) = refl
turn_place w p x _ _ _ _ _ _ (takes ticket i) = refl
turn_place w p x _ _ _ _ _ _ (waits ticket o n) = refl
turn_place w p x _ _ _ _ _ _ (leaves ticket o) = refl

turn_sound : (w : World) (p : ℕ) (x : Place) (e : CoreEvent) (o : Outcome) (v : World) (y : Place) (own : List Item) (told : Replies) → Turn w p x e o v y own told → Sound w.store → Sound v.store
turn_sound w p x _ _ _ _ _ _ (ticks o) h = h
turn_sound w p x _ _ _ _ _ _ (asks_it ticket q o n) h = h
turn_sound w p x _ _ _ _ _ _ (posts_it ticket path body q o n) h = h
turn_sound w p x _ _ _ _ _ _ (calls own member ticket q) h = h
turn_sound w p x _ _ _ _ _ _ (opens own member ask) h = openings_keep_sound w.store member ask h
turn_sound w p x _ _ _ _ _ _ (closes own number e) h = subst Sound (sym (closed_store w number (nth w.streams number))) h
turn_sound w p x _ _ _ _ _ _ (answers number call a o e f) h = h
turn_sound w p x _ _ _ _ _ _ (loses number call o e) h = h
turn_sound w p x _ _ _ _ _ _ (delivers number s i rest o e f g j k) h = h
turn_sound w p x _ _ _ _ _ _ (cuts number s o e f g j) h = h
turn_sound w p x _ _ _ _ _ _ (takes ticket i) h = h
turn_sound w p x _ _ _ _ _ _ (waits ticket o n) h = h
turn_sound w p x _ _ _ _ _ _ (leaves ticket o) h = h

-- ---- each line

new_starts : (high : ℕ) (w : World) (clock life : ℕ) → StartsOk high (side (new_place w clock life).core)
new_starts high w clock life = record { header = omega arith; watches = tt }

pub effect_newest : (namespace : List ℕ) (whole : Whole) (f : Change → Option Change) (items : List Item) (w after : World) (gained : List Item) → WorldOk namespace whole f items w → NewestOk w → Effect w after gained → NewestOk after
effect_newest namespace whole f items w _ _ ok h (starts p clock life i b) = record {
  sound = h.sound;
  newest = record { places = put_places (newest w.store.history) w w p (new_place w clock life) refl h.newest (new_starts (newest w.store.history) w clock life); calls = h.newest.calls; streams = h.newest.streams };
}
effect_newest namespace whole f items w _ _ ok h (sets p millis x e forward) = record {
  sound = h.sound;
  newest = record { places = put_places (newest w.store.history) w w p (record x { clock = millis }) refl h.newest (h.newest.places p x e); calls = h.newest.calls; streams = h.newest.streams };
}
effect_newest namespace whole f items w _ _ ok h (refuses_post p ticket path body a x e) = record {
  sound = h.sound;
  newest = record { places = put_places (newest w.store.history) w w p (with_posted ticket x) refl h.newest (h.newest.places p x e); calls = h.newest.calls; streams = h.newest.streams };
}
effect_newest namespace whole f items w _ _ ok h (executes number call e fresh) =
    let t = (exec w.store call.member call.request).0 in
    let a = (exec w.store call.member call.request).1 in
    let k = newest_later (newest w.store.history) (newest t.history) w (grown_newest w.store t (exec_leaves w.store call.member call.request).grown) h.newest in
    record {
      sound = requests_keep_sound w.store call.member call.request h.sound;
      newest = record {
        places = k.places;
        calls = put_calls (newest t.history) w.calls number call (record call { executed = Some a }) e (λ b g. subst (AnswerWithin (newest t.history)) (one_answer a b g) (exec_within w.store call.member call.request h.sound)) k.calls;
        streams = k.streams;
      };
    }
  where
    one_answer : (a b : Answer) → Some a ≡ Some b → a ≡ b
    one_answer a b e = cc
effect_newest namespace whole f items w _ _ ok h (expires lease t e due) =
    let k = newest_later (newest w.store.history) (newest t.history) w (grown_newest w.store t (expired_leaves w.store t lease e).grown) h.newest in
    record { sound = expiries_keep_sound w.store t lease e h.sound; newest = record { places = k.places; calls = k.calls; streams = k.streams } }
effect_newest namespace whole f items w _ _ ok h (applies member revision t e) =
    let k = newest_later (newest w.store.history) (newest t.history) w (grown_newest w.store t (applied_leaves w.store t member revision e).grown) h.newest in
    record { sound = applies_keep_sound w.store t member revision e h.sound; newest = record { places = k.places; calls = k.calls; streams = k.streams } }
effect_newest namespace whole f items w _ _ ok h (pushes number s t i e a b q) =
    let same : newest t.history ≡ newest w.store.history = ap newest (message_leaves w.store t i number q).history in
    let k = newest_later (newest w.store.history) (newest t.history) w (omega (arith, same)) h.newest in
    let new = message_new w.store t i number q in
    record {
      sound = messages_keep_sound w.store t i number q h.sound;
      newest = record {
        places = k.places;
        calls = k.calls;
        streams = put_streams (newest t.history) w.streams number s (with_message i s) e (within_push (newest t.history) s.waiting i (k.streams number s e) (omega (arith, same, new))) k.streams;
      };
    }
effect_newest namespace whole f items w _ _ ok h (turns p x e o v y own told at out t) =
    let low = newest w.store.history in
    let high = newest v.store.history in
    let core = turn_place w p (with_core x (stepped x.core e x.clock).core) e o v y own told t in
    let rest = turn_rest low w p (with_core x (stepped x.core e x.clock).core) e o v y own told h.newest t in
    let grown : low ≤ high = grown_newest w.store v.store (turn_grows w p (with_core x (stepped x.core e x.clock).core) e o v y own told t) in
    let place = turned_starts low namespace whole f items p x y e o (ok.places p x at) out rest.within core told (h.newest.places p x at) in
    let k = newest_later low high (with_place v p (all_fetched y told).place) grown (record { places = put_places low w v p (all_fetched y told).place rest.places h.newest place; calls = rest.calls; streams = rest.streams }) in
    record { sound = turn_sound w p (with_core x (stepped x.core e x.clock).core) e o v y own told t h.sound; newest = k }
