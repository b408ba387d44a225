-- What each line does to the store is the image of what it does to the store of the bare keys.
use Rattle.std.proofs.Common.{◌≡◌, inl, inr, ℕ, ◌+◌, Bool, true, false, not, List, [], ◌∷◌, ◌++◌, Option, None, Some, Result, Ok, Err, refl, sym, ◌∙◌, ap, subst}
use Rattle.std.specs.BTreeSet.{BTreeSet}
use Rattle.std.specs.Prelude.{flat_map}
use Rattle.etcd_types.specs.declared.answer.Answer.{Answer}
use Rattle.etcd_types.specs.declared.request.Request.TheVariants as request
use Rattle.etcd_types.specs.declared.request.WatchAsk.{WatchAsk}
use Rattle.etcd_types.specs.declared.watch.WatchItem.{WatchItem}
use Rattle.etcd_types.proofs.Bools.{and_first, and_second, and_both}
use Rattle.script_text.specs.declared.item.Item.{Item}
use Rattle.script_text.specs.declared.item.Item.TheVariants as item
use Rattle.script_text.specs.declared.line.Line.{Line}
use Rattle.store_model.specs.declared.store_fault.StoreFault.{StoreFault}
use Rattle.store_model.specs.Leases.{expired}
use Rattle.store_model.specs.Members.{applied}
use Rattle.store_model.specs.State.{State}
use Rattle.store_model.specs.Step.{Step, exec}
use Rattle.store_model.specs.Watches.{Pushed, opened, pushed as push_of, progressed}
use Rattle.store_laws.specs.Lives.Sound.{Sound}
use Rattle.store_laws.proofs.Lives.SoundProofs.{requests_keep_sound, expiries_keep_sound, applies_keep_sound, openings_keep_sound, messages_keep_sound}
use Rattle.namespace_laws.specs.Stored.Stored.{stored, stored_after, stored_step}
use Rattle.namespace_laws.specs.Stored.StoredWatches.{stored_item, stored_pushed}
use Rattle.namespace_laws.proofs.Stored.Steps.{stored_stores_answer, expiries_are_stored}
use Rattle.namespace_laws.proofs.Stored.Watches.{openings_are_stored, pushes_are_stored, progress_is_stored, applies_are_stored}
use Rattle.core_model.specs.declared.event.CoreEvent.{CoreEvent}
use Rattle.core_model.specs.declared.event.Outcome.{Outcome}
use Rattle.core_model.specs.Step.{stepped}
use Rattle.world_model.specs.declared.fault.LineRefusal.{LineRefusal}
use Rattle.world_model.specs.declared.sent_call.SentCall.{SentCall}
use Rattle.world_model.specs.Gains.{Replies, all_fetched, body_if, reply_items, line_if}
use Rattle.world_model.specs.Places.{nth, is_among, with_core}
use Rattle.world_model.specs.Sends.{closed_in}
use Rattle.world_model.specs.State.{Place, OpenedStream, World}
use Rattle.world_model.specs.Transcript.{done, counted_as}
use Rattle.namespace_laws.specs.Images.Moves as moves
use Rattle.namespace_laws.specs.Images.Moves.{tells, tell_nothing, BareStep, ImageGoesOn, LinesMoveTheImage}
use Rattle.namespace_laws.specs.Images.Named.{WatchUnder}
use Rattle.world_laws.proofs.Effects.{Turn, ticks, asks_it, posts_it, calls, opens, closes, answers, loses, delivers, cuts, takes, waits, leaves, Begins, first, again, IsPushed, Effect, starts, sets, refuses_post, executes, expires, applies, pushes, turns, effect}
use Rattle.namespace_laws.proofs.Images.JobNaming.{OutcomeUnder}
use Rattle.namespace_laws.proofs.Images.WorldsUnder.{SentUnder, WorldUnder, same_watch, call_under, turn_under, worlds_under}

-- Of two pairs that are one, each part is.

first_or : {A B E : Type 0} → A → Result (A × B) E → A
first_or a (Ok x) = x.0
first_or a (Err e) = a

second_or : {A B E : Type 0} → B → Result (A × B) E → B
second_or b (Ok x) = x.1
second_or b (Err e) = b

ok_first : {A B E : Type 0} {a c : A} {b d : B} → ◌≡◌ {A = Result (A × B) E} (Ok (a, b)) (Ok (c, d)) → a ≡ c
unfolding first_or
ok_first {a = a} e = ap (first_or a) e

ok_second : {A B E : Type 0} {a c : A} {b d : B} → ◌≡◌ {A = Result (A × B) E} (Ok (a, b)) (Ok (c, d)) → b ≡ d
unfolding second_or
ok_second {b = b} e = ap (second_or b) e

-- Items that tell nothing of the store.

abbrev Quiet : List Item → Type 0
Quiet items = tell_nothing items ≡ true

both_quiet : (xs ys : List Item) → Quiet xs → Quiet ys → Quiet (xs ++ ys)
both_quiet [] ys h k = k
both_quiet (x ∷ xs) ys h k =
    and_both (not (tells x)) (tell_nothing (xs ++ ys)) (and_first (not (tells x)) (tell_nothing xs) h) (both_quiet xs ys (and_second (not (tells x)) (tell_nothing xs) h) k)

body_quiet : (b : Bool) (p ticket : ℕ) (a : Answer) → Quiet (body_if b p ticket a)
body_quiet false p ticket a = refl
body_quiet true p ticket a = refl

line_quiet : (b : Bool) (p ticket : ℕ) (i : WatchItem) → Quiet (line_if b p ticket i)
line_quiet false p ticket i = refl
line_quiet true p ticket i = refl

replies_quiet : (p : ℕ) (posted : BTreeSet ℕ) (got : Replies) → Quiet (flat_map (reply_items p posted) got)
replies_quiet p posted [] = refl
replies_quiet p posted (r ∷ got) = both_quiet (reply_items p posted r) (flat_map (reply_items p posted) got) (body_quiet (is_among posted r.0) p r.0 r.1) (replies_quiet p posted got)

-- A step of the store.

-- behind a line of `w` the store is `t`, and the items were gained
record Moved (w : World) (c : State) (items : List Item) (t : State) : Type 0 where
  bare : State
  sound : Sound bare
  store : t ≡ stored w.namespace bare
  step : BareStep w c items bare

stays : (w : World) (c : State) (items : List Item) (t : State) → Sound c → t ≡ stored w.namespace c → Quiet items → Moved w c items t
stays w c items t h e q = record { bare = c; sound = h; store = e; step = moves.leaves refl q }

executes_so : (w : World) (c : State) (number : ℕ) (call : SentCall) → nth w.calls number ≡ Some call → SentUnder w.namespace call → Sound c → w.store ≡ stored w.namespace c
    → Moved w c (item.Executed number (exec w.store call.member call.request).1 ∷ []) (exec w.store call.member call.request).0
executes_so w c number call e u h is =
    let so : exec w.store call.member call.request ≡ stored_step w.namespace (exec c call.member u.bare) =
    (λ i. exec (is i) call.member (u.under i)) ∙ stored_stores_answer w.namespace c call.member u.bare h.keys u.keys in
    record {
      bare = (exec c call.member u.bare).0;
      sound = requests_keep_sound c call.member u.bare h;
      store = ap (λ (s : Step). s.0) so;
      step = moves.executes number call u.bare e u.under u.keys refl (ap (λ (s : Step). item.Executed number s.1 ∷ []) so);
    }

after_so : (ns : List ℕ) (r : Result State StoreFault) (t : State) → stored_after ns r ≡ Ok t → (d : State) × (r ≡ Ok d) × (t ≡ stored ns d)
after_so ns (Ok d) t e = (d, refl, cc)
after_so ns (Err fault) t e = absurd (cc)

expires_so : (w : World) (c : State) (lease : ℕ) (t : State) → expired w.store lease ≡ Ok t → Sound c → w.store ≡ stored w.namespace c → Moved w c (item.Expired lease ∷ []) t
expires_so w c lease t e h is =
    let d = after_so w.namespace (expired c lease) t (sym (ap (λ (s : State). expired s lease) is ∙ expiries_are_stored w.namespace c lease h.keys) ∙ e) in
    record { bare = d.0; sound = expiries_keep_sound c d.0 lease d.1 h; store = d.2; step = moves.expires lease d.1 refl }

applies_so : (w : World) (c : State) (member revision : ℕ) (t : State) → applied w.store member revision ≡ Ok t → Sound c → w.store ≡ stored w.namespace c → Moved w c (item.Applied member revision ∷ []) t
applies_so w c member revision t e h is =
    let d = after_so w.namespace (applied c member revision) t (sym (ap (λ (s : State). applied s member revision) is ∙ applies_are_stored w.namespace c member revision) ∙ e) in
    record { bare = d.0; sound = applies_keep_sound c d.0 member revision d.1 h; store = d.2; step = moves.applies member revision d.1 refl }

message_so : (ns : List ℕ) (r : Pushed) (t : State) (i : WatchItem) → stored_pushed ns r ≡ Ok (t, i) → (d : State) × (j : WatchItem) × (r ≡ Ok (d, j)) × (t ≡ stored ns d) × (i ≡ stored_item ns j)
message_so ns (Ok p) t i e = (p.0, p.1, refl, sym (ok_first e), sym (ok_second e))
message_so ns (Err fault) t i e = absurd (cc)

pushes_so : (w : World) (c : State) (number : ℕ) (t : State) (i : WatchItem) → IsPushed w.store number t i → Sound c → w.store ≡ stored w.namespace c → Moved w c (item.Pushed number i ∷ []) t
pushes_so w c number t i (inl e) h is =
    let d = message_so w.namespace (push_of c number) t i (sym (ap (λ (s : State). push_of s number) is ∙ pushes_are_stored w.namespace c number h.keys) ∙ e) in
    record { bare = d.0; sound = messages_keep_sound c d.0 d.1 number (inl d.2) h; store = d.3; step = moves.pushes number d.1 (inl d.2) (ap (λ (j : WatchItem). item.Pushed number j ∷ []) d.4) }
pushes_so w c number t i (inr e) h is =
    let d = message_so w.namespace (progressed c number) t i (sym (ap (λ (s : State). progressed s number) is ∙ progress_is_stored w.namespace c number h.keys) ∙ e) in
    record { bare = d.0; sound = messages_keep_sound c d.0 d.1 number (inr d.2) h; store = d.3; step = moves.pushes number d.1 (inr d.2) (ap (λ (j : WatchItem). item.Pushed number j ∷ []) d.4) }

opens_so : (w : World) (c : State) (p stream member : ℕ) (ask : WatchAsk) (rest : List Item) → WatchUnder w.namespace (request.Watch ask) → Quiet rest → Sound c → w.store ≡ stored w.namespace c
    → Moved w c (item.Opened p stream member (request.Watch ask) ∷ rest) (opened w.store member ask).0
opens_so w c p stream member ask rest u q h is =
    let same = same_watch w.namespace ask u.bare u.under in
    record {
      bare = (opened c member u.bare).0;
      sound = openings_keep_sound c member u.bare h;
      store = ap (λ (x : State × ℕ). x.0) ((λ i. opened (is i) member (same i)) ∙ openings_are_stored w.namespace c member u.bare);
      step = moves.opens p stream member u.bare rest refl (ap (λ (a : WatchAsk). item.Opened p stream member (request.Watch a) ∷ rest) same) q;
    }

-- A step of a proxy.

closed_store : (w : World) (number : ℕ) (o : Option OpenedStream) → (closed_in w number o).store ≡ w.store
closed_store w number None = refl
closed_store w number (Some s) = refl

turn_so : (w v : World) (c : State) (p : ℕ) (x y : Place) (e : CoreEvent) (o : Outcome) (own rest : List Item) (told : Replies) → Turn w p x e o v y own told → OutcomeUnder w.namespace (Ok o)
    → Quiet rest → Sound c → w.store ≡ stored w.namespace c → Moved w c (own ++ rest) v.store
turn_so w v c p x y e o own rest told (ticks z) u q h is = stays w c _ w.store h is q
turn_so w v c p x y e o own rest told (asks_it ticket r z f) u q h is = stays w c _ w.store h is q
turn_so w v c p x y e o own rest told (posts_it ticket path body r z f) u q h is = stays w c _ w.store h is q
turn_so w v c p x y e o own rest told (calls number member ticket r) u q h is = stays w c _ w.store h is q
turn_so w v c p x y e o own rest told (opens number member ask) u q h is = opens_so w c p _ member ask rest u q h is
turn_so w v c p x y e o own rest told (closes number stream f) u q h is = stays w c _ _ h (closed_store w stream (nth w.streams stream) ∙ is) q
turn_so w v c p x y e o own rest told (answers number call a z f g) u q h is = stays w c _ w.store h is q
turn_so w v c p x y e o own rest told (loses number call z f) u q h is = stays w c _ w.store h is q
turn_so w v c p x y e o own rest told (delivers number s i later z f g a b r) u q h is = stays w c _ w.store h is q
turn_so w v c p x y e o own rest told (cuts number s z f g a b) u q h is = stays w c _ w.store h is q
turn_so w v c p x y e o own rest told (takes ticket i) u q h is = stays w c _ w.store h is (both_quiet (line_if (is_among x.posted ticket) p ticket i) rest (line_quiet (is_among x.posted ticket) p ticket i) q)
turn_so w v c p x y e o own rest told (waits ticket z f) u q h is = stays w c _ w.store h is q
turn_so w v c p x y e o own rest told (leaves ticket z) u q h is = stays w c _ w.store h is q

-- Lines.

begins_quiet : (w : World) (p clock life : ℕ) (i : Item) → Begins w p clock life i → Quiet (i ∷ [])
begins_quiet w p clock life i (first e) = refl
begins_quiet w p clock life i (again x e) = refl

record Gone (w after : World) (items : List Item) (c : State) : Type 0 where
  namespace : after.namespace ≡ w.namespace
  moved : Moved w c items after.store

effect_so : (w after : World) (items : List Item) (c : State) → Effect w after items → WorldUnder w → Sound c → w.store ≡ stored w.namespace c → Gone w after items c
effect_so w after items c (starts p clock life i b) k h is = record { namespace = refl; moved = stays w c _ w.store h is (begins_quiet w p clock life i b) }
effect_so w after items c (sets p millis x e forward) k h is = record { namespace = refl; moved = stays w c _ w.store h is refl }
effect_so w after items c (refuses_post p ticket path body a x e) k h is =
    record { namespace = refl; moved = stays w c _ w.store h is (body_quiet (is_among _ ticket) p ticket a) }
effect_so w after items c (executes number call e fresh) k h is = record { namespace = refl; moved = executes_so w c number call e (call_under w number call e k) h is }
effect_so w after items c (expires lease t e due) k h is = record { namespace = refl; moved = expires_so w c lease t e h is }
effect_so w after items c (applies member revision t e) k h is = record { namespace = refl; moved = applies_so w c member revision t e h is }
effect_so w after items c (pushes number s t i e a b f) k h is = record { namespace = refl; moved = pushes_so w c number t i f h is }
effect_so w after items c (turns p x e o v y own told at f t) k h is =
    let r = turn_under w v p x y e o own told at f t k in
    let rest = flat_map (reply_items p (all_fetched y told).place.posted) (all_fetched y told).replies in
    record { namespace = r.0.namespace; moved = turn_so w v c p (with_core x (stepped x.core e x.clock).core) y e o own rest told t r.1 (replies_quiet p (all_fetched y told).place.posted (all_fetched y told).replies) h is }

line_so : (w : World) (c : State) (l : Line) (after : World) (items : List Item) (r : Result (List Item) LineRefusal) → (done w l).gained ≡ r → counted_as (done w l).world r ≡ Ok (after, items)
    → WorldUnder w → Sound c → w.store ≡ stored w.namespace c → ImageGoesOn w after items c
line_so w c l after items (Err why) e t k h is = absurd (cc)
line_so w c l after items (Ok gained) e t k h is =
    let g = effect_so w (done w l).world gained c (effect w l gained e) k h is in
    let same : after ≡ record (done w l).world { lines = (done w l).world.lines + 1 } = sym (ok_first t) in
    let told : gained ≡ items = ok_second t in
    record {
      bare = g.moved.bare;
      sound = g.moved.sound;
      namespace = ap (λ (v : World). v.namespace) same ∙ g.namespace;
      store = ap (λ (v : World). v.store) same ∙ g.moved.store;
      step = subst (λ (xs : List Item). BareStep w c xs g.moved.bare) told g.moved.step;
    }

pub lines_move_the_image : LinesMoveTheImage
lines_move_the_image lines w c l after items e t h is = line_so w c l after items (done w l).gained refl t (worlds_under lines w e) h is
