-- What becomes of the place of each proxy with a line that is taken: it stays, with items that tell nothing of it; its clock is set; a
-- ticket of a body that is no request is noted; it is new; or it made a step, and then its ready replies were fetched.
use Rattle.std.proofs.Common.{◌≡◌, ℕ, ◌==◌, Bool, true, false, ◌&&◌, List, [], ◌∷◌, ◌++◌, inl, inr, Option, None, Some, Ok, refl, sym, ◌∙◌, ap, subst}
use Rattle.std.specs.Prelude.{flat_map}
use Rattle.std.specs.List.{list_all}
use Rattle.std.specs.BTreeSet.{BTreeSet}
use Rattle.std.proofs.lemmas.List.Folds.{list_all-append}
use Rattle.etcd_types.proofs.Bools.{and_both}
use Rattle.etcd_types.specs.declared.answer.Answer.{Answer}
use Rattle.etcd_types.specs.declared.watch.WatchItem.{WatchItem}
use Rattle.core_model.specs.declared.event.CoreEvent.{CoreEvent}
use Rattle.core_model.specs.declared.event.Outcome.{Outcome}
use Rattle.core_model.specs.Step.{stepped}
use Rattle.script_text.specs.declared.item.Item.{Item}
use Rattle.script_text.specs.declared.item.Item.TheVariants as item
use Rattle.world_model.specs.Gains.{Replies, all_fetched, body_if, reply_items, line_if, taken_items}
use Rattle.world_model.specs.declared.sent_call.SentCall.{SentCall}
use Rattle.world_model.specs.Places.{nth, with_nth, kept_at, place_at, is_among, ended, with_place, with_posted}
use Rattle.world_model.specs.Sends.{closed_in, new_call, new_stream}
use Rattle.world_model.specs.Streams.{with_message}
use Rattle.world_model.specs.Starts.{new_place}
use Rattle.world_model.specs.State.{Place, OpenedStream, World}
use Rattle.world_laws.proofs.Effects.{Turn, ticks, asks_it, posts_it, calls, opens, closes, answers, loses, delivers, cuts, takes, waits, leaves, Begins, first, again, Effect, starts, sets, refuses_post, executes, expires, applies, pushes, turns}
use Rattle.core_laws.proofs.Steps.Lists.{number_itself}
use Rattle.held_laws.proofs.Opens.{nth_push}
use Rattle.held_laws.proofs.Worlds.{equal, nth_changed, one_place, placed_itself, placed_other}
use Rattle.renewed_laws.proofs.Gains.{stepped_to}
use Rattle.ledger_laws.proofs.Lives.{KeptAs, WasStream, Beside, was_itself, call_itself, stay_itself, stay_pushed, beside_itself, call_changed, stay_changed, were_changed}
use Rattle.ledger_laws.proofs.Quiet.{Quiet, other_quiet, aside_quiet, is_of, is_aside, asides_of, replies_of}

-- a step of the proxy, and what the line gains by it
pub record Stepped (w : World) (gained : List Item) (q : ℕ) (y : Place) : Type 0 where
  pub place : Place
  pub event : CoreEvent
  pub outcome : Outcome
  pub world : World
  pub behind : Place
  pub own : List Item
  pub told : Replies
  pub at : place_at w q ≡ Some place
  pub out : (stepped place.core event place.clock).outcome ≡ Ok outcome
  pub turn : Turn w q (stepped_to place event) event outcome world behind own told
  pub is : y ≡ (all_fetched behind told).place
  pub gains : gained ≡ own ++ flat_map (reply_items q (all_fetched behind told).place.posted) (all_fetched behind told).replies

-- the calls and streams of another proxy stay as they were
abbrev pub BesideIn : ℕ → World → World → Type 0
BesideIn q w v = Beside q w.calls v.calls w.streams v.streams

pub data PlaceAfter (w after : World) (gained : List Item) (q : ℕ) (y : Place) : Type 0 where
  stays : place_at w q ≡ Some y → Quiet q gained → BesideIn q w after → PlaceAfter w after gained q y
  sets_it : (x : Place) (millis : ℕ) → place_at w q ≡ Some x → y ≡ record x { clock = millis } → Quiet q gained → BesideIn q w after → PlaceAfter w after gained q y
  marks : (x : Place) (ticket : ℕ) (path body : List ℕ) (a : Answer) → place_at w q ≡ Some x → y ≡ with_posted ticket x
      → gained ≡ item.Posted q ticket path body ∷ reply_items q (with_posted ticket x).posted (ticket, a) → BesideIn q w after → PlaceAfter w after gained q y
  begins_it : (clock life : ℕ) (i : Item) → Begins w q clock life i → y ≡ new_place w clock life → gained ≡ i ∷ [] → after.calls ≡ w.calls → after.streams ≡ w.streams → PlaceAfter w after gained q y
  steps_it : (s : Stepped w gained q y) → after.calls ≡ s.world.calls → after.streams ≡ s.world.streams → PlaceAfter w after gained q y

-- ---- whose items a line has

taken_aside : (p : ℕ) (posted : BTreeSet ℕ) (ticket : ℕ) (i : WatchItem) → list_all is_aside (taken_items p posted ticket i) ≡ true
taken_aside p posted ticket i = by (is_among posted ticket)
  where
    by : (b : Bool) → list_all is_aside (item.Taken p ticket i ∷ line_if b p ticket i) ≡ true
    by true = refl
    by false = refl

pub turn_of : (w : World) (p : ℕ) (x : Place) (e : CoreEvent) (o : Outcome) (v : World) (y : Place) (own : List Item) (told : Replies) → Turn w p x e o v y own told → list_all (is_of p) own ≡ true
turn_of w p x _ _ _ _ _ _ (asks_it ticket q o n) = ap (λ b. b && true) (number_itself p)
turn_of w p x _ _ _ _ _ _ (posts_it ticket path body q o n) = ap (λ b. b && (b && true)) (number_itself p)
turn_of w p x _ _ _ _ _ _ (ticks o) = refl
turn_of w p x _ _ _ _ _ _ (calls own member ticket q) = refl
turn_of w p x _ _ _ _ _ _ (opens own member ask) = refl
turn_of w p x _ _ _ _ _ _ (closes own number e) = refl
turn_of w p x _ _ _ _ _ _ (answers number call a o e f) = refl
turn_of w p x _ _ _ _ _ _ (loses number call o e) = refl
turn_of w p x _ _ _ _ _ _ (delivers number s i rest o a b c f g) = refl
turn_of w p x _ _ _ _ _ _ (cuts number s o a b c f) = refl
turn_of w p x _ _ _ _ _ _ (takes ticket i) = asides_of p (taken_items p x.posted ticket i) (taken_aside p x.posted ticket i)
turn_of w p x _ _ _ _ _ _ (waits ticket o n) = refl
turn_of w p x _ _ _ _ _ _ (leaves ticket o) = refl

pub turn_places : (w : World) (p : ℕ) (x : Place) (e : CoreEvent) (o : Outcome) (v : World) (y : Place) (own : List Item) (told : Replies) → Turn w p x e o v y own told → v.places ≡ w.places
turn_places w p x _ _ _ _ _ _ (closes own number e) = by (nth w.streams number)
  where
    by : (o : Option OpenedStream) → (closed_in w number o).places ≡ w.places
    by None = refl
    by (Some s) = refl
turn_places w p x _ _ _ _ _ _ (ticks o) = refl
turn_places w p x _ _ _ _ _ _ (asks_it ticket q o n) = refl
turn_places w p x _ _ _ _ _ _ (posts_it ticket path body q o n) = refl
turn_places w p x _ _ _ _ _ _ (calls own member ticket q) = refl
turn_places w p x _ _ _ _ _ _ (opens own member ask) = refl
turn_places w p x _ _ _ _ _ _ (answers number call a o e f) = refl
turn_places w p x _ _ _ _ _ _ (loses number call o e) = refl
turn_places w p x _ _ _ _ _ _ (delivers number s i rest o a b c f g) = refl
turn_places w p x _ _ _ _ _ _ (cuts number s o a b c f) = refl
turn_places w p x _ _ _ _ _ _ (takes ticket i) = refl
turn_places w p x _ _ _ _ _ _ (waits ticket o n) = refl
turn_places w p x _ _ _ _ _ _ (leaves ticket o) = refl

-- ---- calls and streams of other proxies

-- the streams that a proxy has by its own numbers are of its life
abbrev pub KeepsStreams : World → Type 0
KeepsStreams w = (p : ℕ) (x : Place) → place_at w p ≡ Some x → (own n : ℕ) → kept_at x.streams own ≡ Some n → KeptAs w.streams p x.life own n

not_itself : {A : Type 0} (q p : ℕ) → (q == p) ≡ false → p ≡ q → A
not_itself q p n e = absurd (let yes' : true ≡ false = sym (number_itself q) ∙ ap (λ (k : ℕ). q == k) (sym e) ∙ n in cc)

-- one of its own ends
ended_beside : (q p number : ℕ) (streams : List OpenedStream) (s : OpenedStream) → (q == p) ≡ false → nth streams number ≡ Some s → s.proxy ≡ p → (n : ℕ) (u : OpenedStream) → nth (with_nth streams number (ended s)) n ≡ Some u → u.proxy ≡ q → WasStream streams n u
ended_beside q p number streams s n at proxy k u e of' = elim (nth_changed streams number k s (ended s) u at e) [
  | inl h ↦ not_itself q p n (sym proxy ∙ ap (λ (x : OpenedStream). x.proxy) h.1 ∙ of')
  | inr h ↦ was_itself streams k u h.1
]

ends_beside : (q p number : ℕ) (calls : List SentCall) (streams later : List OpenedStream) (s : OpenedStream) → (q == p) ≡ false → nth streams number ≡ Some s → s.proxy ≡ p → later ≡ with_nth streams number (ended s) → Beside q calls calls streams later
ends_beside q p number cs streams later s n at proxy is =
    subst (λ (l : List OpenedStream). Beside q cs cs streams l) (sym is) (record {
      calls_were = λ k c e f. call_itself cs k c e;
      streams_were = λ k u e f. ended_beside q p number streams s n at proxy k u e f;
      stay = stay_changed streams number s (ended s) at refl refl refl;
    })

pub closed_calls : (w : World) (number : ℕ) (o : Option OpenedStream) → (closed_in w number o).calls ≡ w.calls
closed_calls w number None = refl
closed_calls w number (Some s) = refl

pub turn_beside : (w : World) (p : ℕ) (x : Place) (e : CoreEvent) (o : Outcome) (v : World) (y : Place) (own : List Item) (told : Replies) → ((k n : ℕ) → kept_at x.streams k ≡ Some n → KeptAs w.streams p x.life k n)
    → Turn w p x e o v y own told → (q : ℕ) → (q == p) ≡ false → BesideIn q w v
turn_beside w p x _ _ _ _ _ _ k (ticks o) q n = beside_itself q w.calls w.streams
turn_beside w p x _ _ _ _ _ _ k (asks_it ticket r o u) q n = beside_itself q w.calls w.streams
turn_beside w p x _ _ _ _ _ _ k (posts_it ticket path body r o u) q n = beside_itself q w.calls w.streams
turn_beside w p x _ _ _ _ _ _ k (calls own member ticket r) q n = record {
  calls_were = λ m c e f. elim (nth_push w.calls (new_call p x own member r) m c e) [ inl a ↦ call_itself w.calls m c a | inr b ↦ not_itself q p n (ap (λ (d : SentCall). d.proxy) b.1 ∙ f) ];
  streams_were = λ m s e f. was_itself w.streams m s e;
  stay = stay_itself w.streams;
}
turn_beside w p x _ _ _ _ _ _ k (opens own member ask) q n = record {
  calls_were = λ m c e f. call_itself w.calls m c e;
  streams_were = λ m s e f. elim (nth_push w.streams (new_stream p x own) m s e) [ inl a ↦ was_itself w.streams m s a | inr b ↦ not_itself q p n (ap (λ (d : OpenedStream). d.proxy) b.1 ∙ f) ];
  stay = stay_pushed w.streams (new_stream p x own);
}
turn_beside w p x _ _ _ _ _ _ k (closes own number e) q n =
    let s = k own number e in
    let b = ends_beside q p number w.calls w.streams (closed_in w number (nth w.streams number)).streams s.stream n s.there s.proxy (ap (λ (o : Option OpenedStream). (closed_in w number o).streams) s.there) in
    subst (λ (cs : List SentCall). Beside q w.calls cs w.streams (closed_in w number (nth w.streams number)).streams) (sym (closed_calls w number (nth w.streams number))) b
turn_beside w p x _ _ _ _ _ _ k (answers number call a o e f) q n = record {
  calls_were = λ m c g h. call_changed w.calls number call (record call { settled = true }) e refl refl m c g;
  streams_were = λ m s g h. was_itself w.streams m s g;
  stay = stay_itself w.streams;
}
turn_beside w p x _ _ _ _ _ _ k (loses number call o e) q n = record {
  calls_were = λ m c g h. call_changed w.calls number call (record call { settled = true }) e refl refl m c g;
  streams_were = λ m s g h. was_itself w.streams m s g;
  stay = stay_itself w.streams;
}
turn_beside w p x _ _ _ _ _ _ k (delivers number s i rest o a b c f g) q n = record {
  calls_were = λ m t e h. call_itself w.calls m t e;
  streams_were = λ m t e h. were_changed w.streams number s (record s { waiting = rest }) a refl refl refl (λ e. e) m t e;
  stay = stay_changed w.streams number s (record s { waiting = rest }) a refl refl refl;
}
turn_beside w p x _ _ _ _ _ _ k (cuts number s o a b c f) q n = ends_beside q p number w.calls w.streams _ s n a b refl
turn_beside w p x _ _ _ _ _ _ k (takes ticket i) q n = beside_itself q w.calls w.streams
turn_beside w p x _ _ _ _ _ _ k (waits ticket o u) q n = beside_itself q w.calls w.streams
turn_beside w p x _ _ _ _ _ _ k (leaves ticket o) q n = beside_itself q w.calls w.streams

-- ---- each line

-- one is put anew
put_after : (w v : World) (gained : List Item) (p : ℕ) (z : Place) → v.places ≡ w.places → list_all (is_of p) gained ≡ true → ((q : ℕ) → (q == p) ≡ false → BesideIn q w v) → PlaceAfter w (with_place v p z) gained p z
    → (q : ℕ) (y : Place) → place_at (with_place v p z) q ≡ Some y → PlaceAfter w (with_place v p z) gained q y
put_after w v gained p z same all beside g q y at = by (q == p) refl
  where
    by : (b : Bool) → (q == p) ≡ b → PlaceAfter w (with_place v p z) gained q y
    by true n =
        let there : q ≡ p = equal q p n in
        let one : z ≡ y = one_place z y (sym (placed_itself w v p z) ∙ ap (place_at (with_place v p z)) (sym there) ∙ at) in
        subst (λ (i : ℕ). PlaceAfter w (with_place v p z) gained i y) (sym there) (subst (PlaceAfter w (with_place v p z) gained p) one g)
    by false n = stays (sym (placed_other w v p q z same n) ∙ at) (other_quiet p q gained n all) (beside q n)

begun_of : (w : World) (p clock life : ℕ) (i : Item) → Begins w p clock life i → list_all (is_of p) (i ∷ []) ≡ true
begun_of w p _ _ _ (first e) = ap (λ b. b && true) (number_itself p)
begun_of w p _ _ _ (again x e) = ap (λ b. b && true) (number_itself p)

posted_of : (p ticket : ℕ) (path body : List ℕ) (b : Bool) (a : Answer) → list_all (is_of p) (item.Posted p ticket path body ∷ item.Reply p ticket a ∷ body_if b p ticket a) ≡ true
posted_of p ticket path body true a = ap (λ b. b && (b && (true && true))) (number_itself p)
posted_of p ticket path body false a = ap (λ b. b && (b && true)) (number_itself p)

-- calls as they were but for one, which is executed
executed_beside : (w : World) (number : ℕ) (call next : SentCall) (q : ℕ) → nth w.calls number ≡ Some call → next.proxy ≡ call.proxy → next.life ≡ call.life → Beside q w.calls (with_nth w.calls number next) w.streams w.streams
executed_beside w number call next q at proxy lived =
    record { calls_were = λ m c e f. call_changed w.calls number call next at proxy lived m c e; streams_were = λ m s e f. was_itself w.streams m s e; stay = stay_itself w.streams }

pushed_beside : (w : World) (number : ℕ) (s : OpenedStream) (i : WatchItem) (q : ℕ) → nth w.streams number ≡ Some s → Beside q w.calls w.calls w.streams (with_nth w.streams number (with_message i s))
pushed_beside w number s i q at = record {
  calls_were = λ m c e f. call_itself w.calls m c e;
  streams_were = λ m t e f. were_changed w.streams number s (with_message i s) at refl refl refl (λ e. e) m t e;
  stay = stay_changed w.streams number s (with_message i s) at refl refl refl;
}

pub effect_places : (w after : World) (gained : List Item) → KeepsStreams w → Effect w after gained → (q : ℕ) (y : Place) → place_at after q ≡ Some y → PlaceAfter w after gained q y
effect_places w _ _ k (starts p clock life i b) = put_after w w (i ∷ []) p (new_place w clock life) refl (begun_of w p clock life i b) (λ q n. beside_itself q w.calls w.streams) (begins_it clock life i b refl refl refl refl)
effect_places w _ _ k (sets p millis x e forward) =
    put_after w w (item.Clock p millis ∷ []) p (record x { clock = millis }) refl refl (λ q n. beside_itself q w.calls w.streams)
    (sets_it x millis e refl (aside_quiet p (item.Clock p millis ∷ []) refl) (beside_itself p w.calls w.streams))
effect_places w _ _ k (refuses_post p ticket path body a x e) =
    put_after w w _ p (with_posted ticket x) refl (posted_of p ticket path body (is_among (with_posted ticket x).posted ticket) a) (λ q n. beside_itself q w.calls w.streams)
    (marks x ticket path body a e refl refl (beside_itself p w.calls w.streams))
effect_places w _ _ k (executes number call e fresh) = λ q y at. stays at (aside_quiet q _ refl) (executed_beside w number call _ q e refl refl)
effect_places w _ _ k (expires lease t e due) = λ q y at. stays at (aside_quiet q (item.Expired lease ∷ []) refl) (beside_itself q w.calls w.streams)
effect_places w _ _ k (applies member revision t e) = λ q y at. stays at (aside_quiet q (item.Applied member revision ∷ []) refl) (beside_itself q w.calls w.streams)
effect_places w _ _ k (pushes number s t i e a b m) = λ q y at. stays at (aside_quiet q (item.Pushed number i ∷ []) refl) (pushed_beside w number s i q e)
effect_places w _ _ k (turns p x e o v y own told at out t) =
    let f = all_fetched y told in
    let rest = flat_map (reply_items p f.place.posted) f.replies in
    put_after w v (own ++ rest) p f.place (turn_places w p (stepped_to x e) e o v y own told t)
    (list_all-append (is_of p) own rest ∙ and_both (list_all (is_of p) own) (list_all (is_of p) rest) (turn_of w p (stepped_to x e) e o v y own told t) (replies_of p f.place.posted f.replies))
    (turn_beside w p (stepped_to x e) e o v y own told (k p x at) t)
    (steps_it (record { place = x; event = e; outcome = o; world = v; behind = y; own = own; told = told; at = at; out = out; turn = t; is = refl; gains = refl }) refl refl)
