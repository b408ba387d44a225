-- Behind each prefix of a script: every header revision that a proxy was given in its life is at most that of its cached header, and that
-- is no newer than the store.
use Rattle.std.proofs.Common.{◌≡◌, ℕ, ◌+◌, ◌-◌, ◌≤◌, Bool, true, false, cond, ◌==◌, nat_le, List, [], ◌∷◌, ◌++◌, append_assoc, append-nil, slice_get, Option, None, Some, refl, sym, ◌∙◌, ap, subst, arith}
use Rattle.std.specs.Prelude.{flat_map}
use Rattle.std.specs.List.{list_all}
use Rattle.etcd_types.specs.declared.answer.Answer.TheVariants.{Done, Refused}
use Rattle.etcd_types.specs.declared.watch.WatchItem.{WatchItem}
use Rattle.core_model.specs.declared.event.CoreEvent.{CoreEvent}
use Rattle.core_model.specs.declared.event.CoreEvent.TheVariants as event
use Rattle.core_model.specs.declared.event.Outcome.{Outcome}
use Rattle.core_model.specs.State.{Core}
use Rattle.core_model.specs.Step.{stepped}
use Rattle.core_fits.specs.Fits.{EachOf}
use Rattle.core_laws.proofs.Steps.Lists.{number_itself, number_turned}
use Rattle.core_laws.proofs.Watches.Touches.{Side}
use Rattle.script_text.specs.declared.item.Item.{Item}
use Rattle.script_text.specs.declared.item.Item.TheVariants as item
use Rattle.script_text.specs.declared.line.Line.{Line}
use Rattle.store_model.specs.History.{newest}
use Rattle.store_model.specs.State.{State}
use Rattle.store_model.specs.Step.{exec}
use Rattle.store_laws.specs.Lives.Sound.{Sound}
use Rattle.store_laws.proofs.Lives.SoundProofs.{requests_keep_sound, starts_sound, expiries_keep_sound, applies_keep_sound, messages_keep_sound}
use Rattle.world_model.specs.Floors.{floors_after}
use Rattle.world_model.specs.Gains.{Replies, all_fetched, reply_items}
use Rattle.world_model.specs.Places.{nth, with_nth, kept_at, place_at, with_place, with_posted, with_call}
use Rattle.world_model.specs.Reads.{given}
use Rattle.world_model.specs.Sends.{closed_in}
use Rattle.world_model.specs.Starts.{new_place}
use Rattle.world_model.specs.State.{Numbered, Place, OpenedStream, World, starting_world}
use Rattle.world_model.specs.Transcript.{done}
use Rattle.world_laws.proofs.Effects.{Turn, ticks, asks_it, posts_it, calls, opens, closes, answers, loses, delivers as delivers_it, cuts, takes, waits, leaves, Begins, first, again, Effect, starts, sets, executes, expires, applies, pushes, turns}
use Rattle.world_laws.proofs.Effects as effects
use Rattle.held_laws.proofs.Growing.{exec_leaves, expired_leaves, applied_leaves, message_leaves, turn_grows}
use Rattle.held_laws.proofs.Places.{all_so}
use Rattle.held_laws.proofs.Worlds.{equal, one_place, no_place, placed_itself, placed_other}
use Rattle.renewed_laws.proofs.Gains.{is_other, stepped_to, Gain, gain}
use Rattle.renewed_laws.proofs.Gains as gains
use Rattle.renewed_laws.proofs.Worlds.{answer_by}
use Rattle.prefix_laws.proofs.Prefixes.{IsKept}
use Rattle.truth_laws.proofs.Facts.{told_of, waits_in, Facts, IsUpTo, Goes, Stays, stays_itself, mute_goes, facts_on}
use Rattle.truth_laws.proofs.Going.{settled_stays, turn_goes, executed_goes, pushed_goes, no_answer, untrue, same_items}
use Rattle.truth_laws.proofs.Headers.{revision_of, TakesIn, header_goes, header_taken_in}
use Rattle.truth_laws.proofs.Stores.{grown, turn_sound}
use Rattle.truth_laws.proofs.Telling.{given-append, IsMute, nothing-append, answered_mute, started_mute, restarted_mute, posted_nothing, clock_nothing, expired_nothing, applied_nothing, answer_nothing, replies_nothing}
use Rattle.truth_laws.proofs.Giving.{AreUpTo, up_to_more, up_to-append, nothing_given, other_given, Gives, answered_gives, answer_takes, turn_gives, turn_takes}

-- ---- what is kept

pub record HeadOk (items : List Item) (w : World) (p : ℕ) (x : Place) : Type 0 where
  pub given : AreUpTo (revision_of x.core) (given p items)
  pub below : revision_of x.core ≤ newest w.store.history

pub record HeadsOk (items : List Item) (w : World) : Type 0 where
  pub facts : Facts items (told_of w)
  pub sound : Sound w.store
  pub places : (p : ℕ) (x : Place) → place_at w p ≡ Some x → HeadOk items w p x

-- behind a step of a proxy, before its replies are told
pub record HeadBehind (items own : List Item) (w : World) (p : ℕ) (c : Core) : Type 0 where
  pub given : AreUpTo (revision_of c) (given p (items ++ own))
  pub below : revision_of c ≤ newest w.store.history

pub head_behind : (items own : List Item) (w : World) (p : ℕ) (x : Place) (e : CoreEvent) → HeadOk items w p x → Gives p (revision_of (stepped x.core e x.clock).core) items own → TakesIn (newest w.store.history) e
    → HeadBehind items own w p (stepped x.core e x.clock).core
head_behind items own w p x e h g t =
    let c = (stepped x.core e x.clock).core in
    let k = header_goes x.core e x.clock in
    record {
      given = subst (AreUpTo (revision_of c)) (sym g.itself) (up_to-append (revision_of c) (given p items) g.more (up_to_more (revision_of x.core) (revision_of c) (given p items) k.rises h.given) g.few);
      below = k.bounded (newest w.store.history) t h.below;
    }

-- ---- a step of a proxy, with its replies

fetched_header : (y : Place) (told : Replies) → revision_of (all_fetched y told).place.core ≡ revision_of y.core
fetched_header y told = ap (λ (s : Side). s.header.revision) (all_so y told).aged.1

other_head : (items more : List Item) (w v : World) (q : ℕ) (y : Place) → given q (items ++ more) ≡ given q items → newest w.store.history ≤ newest v.store.history → HeadOk items w q y → HeadOk (items ++ more) v q y
other_head items more w v q y same up h = record { given = subst (AreUpTo (revision_of y.core)) (sym same) h.given; below = (let l = h.below in omega (arith, l, up)) }

-- one place is put anew
placed_heads : (items more : List Item) (w v : World) (p : ℕ) (z : Place) → v.places ≡ w.places → ((q : ℕ) → (q == p) ≡ false → given q (items ++ more) ≡ given q items) → newest w.store.history ≤ newest v.store.history
    → HeadsOk items w → HeadOk (items ++ more) v p z → (q : ℕ) (y : Place) → place_at (with_place v p z) q ≡ Some y → HeadOk (items ++ more) (with_place v p z) q y
placed_heads items more w v p z same others up h k q y at = by (q == p) refl
  where
    by : (b : Bool) → (q == p) ≡ b → HeadOk (items ++ more) (with_place v p z) q y
    by true n =
        let there : q ≡ p = equal q p n in
        let one : z ≡ y = one_place z y (sym (placed_itself w v p z) ∙ ap (place_at (with_place v p z)) (sym there) ∙ at) in
        let here : HeadOk (items ++ more) v p y = subst (HeadOk (items ++ more) v p) one k in
        let back : p ≡ q = sym there in
        record { given = subst (λ (i : ℕ). AreUpTo (revision_of y.core) (given i (items ++ more))) back here.given; below = here.below }
    by false n =
        let o = other_head items more w v q y (others q n) up (h.places q y (sym (placed_other w v p q z same n) ∙ at)) in
        record { given = o.given; below = o.below }

step_heads : (items own : List Item) (w v : World) (p : ℕ) (x y : Place) (e : CoreEvent) (told : Replies) → HeadsOk items w → place_at w p ≡ Some x → v.places ≡ w.places → newest w.store.history ≤ newest v.store.history → Sound v.store
    → y.core ≡ (stepped x.core e x.clock).core → Goes own (told_of w) (told_of v) → Gives p (revision_of (stepped x.core e x.clock).core) items own → TakesIn (newest w.store.history) e
    → HeadsOk (items ++ (own ++ flat_map (reply_items p (all_fetched y told).place.posted) (all_fetched y told).replies)) (with_place v p (all_fetched y told).place)
step_heads items own w v p x y e told h at same up sound core goes gives taken =
    let f = all_fetched y told in
    let rest = flat_map (reply_items p f.place.posted) f.replies in
    let quiet = replies_nothing p f.place.posted f.replies in
    let b = head_behind items own w p x e (h.places p x at) gives taken in
    let still : (q : ℕ) → given q (items ++ (own ++ rest)) ≡ given q (items ++ own) = λ q. ap (given q) (sym (append_assoc items own rest)) ∙ nothing_given q (items ++ own) rest quiet in
    let header : revision_of (stepped x.core e x.clock).core ≡ revision_of f.place.core = sym (fetched_header y told ∙ ap revision_of core) in
    record {
      facts = subst (λ (xs : List Item). Facts xs (told_of v)) (append_assoc items own rest)
          (facts_on (items ++ own) rest (told_of v) (told_of v) (facts_on items own (told_of w) (told_of v) h.facts goes) (mute_goes rest (told_of v) (told_of v) quiet.mute (stays_itself (told_of v))));
      sound = sound;
      places = placed_heads items (own ++ rest) w v p f.place same (λ q n. still q ∙ gives.others q n) up h (record {
        given = subst (λ (n : ℕ). AreUpTo n (given p (items ++ (own ++ rest)))) header (subst (AreUpTo (revision_of (stepped x.core e x.clock).core)) (sym (still p)) b.given);
        below = (let l = b.below in omega (arith, l, up, header));
      });
    }

-- ---- lines that are no step

record Anew (p : ℕ) (items : List Item) (i : Item) : Type 0 where
  itself : given p (items ++ i ∷ []) ≡ []
  others : (q : ℕ) → (q == p) ≡ false → given q (items ++ i ∷ []) ≡ given q items
  mute : IsMute (i ∷ [])

begun_given : (w : World) (p clock life : ℕ) (i : Item) (items : List Item) → Begins w p clock life i → Anew p items i
begun_given w p _ _ _ items (first e) = record { itself = by_itself; others = by_other; mute = started_mute p }
  where
    by_itself : given p (items ++ item.Started p ∷ []) ≡ []
    by_itself = given-append p [] items (item.Started p ∷ []) [] ∙ ap (λ c. cond c [] (given p items ++ [])) (number_itself p)

    by_other : (q : ℕ) → (q == p) ≡ false → given q (items ++ item.Started p ∷ []) ≡ given q items
    by_other q n = given-append q [] items (item.Started p ∷ []) [] ∙ ap (λ c. cond c [] (given q items ++ [])) (number_turned q p n) ∙ append-nil (given q items)
begun_given w p _ _ _ items (again x e) = record { itself = by_itself; others = by_other; mute = restarted_mute p }
  where
    by_itself : given p (items ++ item.Restarted p ∷ []) ≡ []
    by_itself = given-append p [] items (item.Restarted p ∷ []) [] ∙ ap (λ c. cond c [] (given p items ++ [])) (number_itself p)

    by_other : (q : ℕ) → (q == p) ≡ false → given q (items ++ item.Restarted p ∷ []) ≡ given q items
    by_other q n = given-append q [] items (item.Restarted p ∷ []) [] ∙ ap (λ c. cond c [] (given q items ++ [])) (number_turned q p n) ∙ append-nil (given q items)

-- the places stay, and nothing is given
kept_heads : (items more : List Item) (w v : World) → v.places ≡ w.places → ((q : ℕ) → given q (items ++ more) ≡ given q items) → newest w.store.history ≤ newest v.store.history → Sound v.store → Goes more (told_of w) (told_of v)
    → HeadsOk items w → HeadsOk (items ++ more) v
kept_heads items more w v same quiet up sound goes h = record {
  facts = facts_on items more (told_of w) (told_of v) h.facts goes;
  sound = sound;
  places = λ q y at. other_head items more w v q y (quiet q) up (h.places q y (ap (λ (ps : Numbered Place). kept_at ps q) (sym same) ∙ at));
}

turn_places : (w : World) (p : ℕ) (x : Place) (e : CoreEvent) (o : Outcome) (v : World) (y : Place) (own : List Item) (told : Replies) → Turn w p x e o v y own told → (v.places ≡ w.places) × (y.core ≡ x.core)
turn_places w p x _ _ _ _ _ _ (ticks o) = (refl, refl)
turn_places w p x _ _ _ _ _ _ (asks_it ticket q o n) = (refl, refl)
turn_places w p x _ _ _ _ _ _ (posts_it ticket path body q o n) = (refl, refl)
turn_places w p x _ _ _ _ _ _ (calls own member ticket q) = (refl, refl)
turn_places w p x _ _ _ _ _ _ (opens own member ask) = (refl, refl)
turn_places w p x _ _ _ _ _ _ (closes own number e) = (closed_places (nth w.streams number), refl)
  where
    closed_places : (o : Option OpenedStream) → (closed_in w number o).places ≡ w.places
    closed_places None = refl
    closed_places (Some s) = refl
turn_places w p x _ _ _ _ _ _ (answers number call a o e k) = (refl, refl)
turn_places w p x _ _ _ _ _ _ (loses number call o e) = (refl, refl)
turn_places w p x _ _ _ _ _ _ (delivers_it number s i more o a b c d e) = (refl, refl)
turn_places w p x _ _ _ _ _ _ (cuts number s o a b c d) = (refl, refl)
turn_places w p x _ _ _ _ _ _ (takes ticket i) = (refl, refl)
turn_places w p x _ _ _ _ _ _ (waits ticket o n) = (refl, refl)
turn_places w p x _ _ _ _ _ _ (leaves ticket o) = (refl, refl)

store_stays : (w : World) (t : State) → newest w.store.history ≤ newest t.history → Stays (told_of w) (told_of (record w { store = t }))
store_stays w t up = record { rises = up; senders = λ n. refl; answers = λ n. refl; openers = λ n. refl; waiting = λ n is e. e }

effect_heads : (items : List Item) (w after : World) (gained : List Item) → HeadsOk items w → Effect w after gained → is_other gained ≡ true → HeadsOk (items ++ gained) after
effect_heads items w _ _ h (starts p clock life' i b) other =
    let g = begun_given w p clock life' i items b in
    record {
      facts = facts_on items (i ∷ []) (told_of w) (told_of w) h.facts (mute_goes (i ∷ []) (told_of w) (told_of w) g.mute (stays_itself (told_of w)));
      sound = h.sound;
      places = placed_heads items (i ∷ []) w w p (new_place w clock life') refl g.others (omega arith) h (record { given = ap (list_all (λ r. nat_le r 0)) g.itself; below = omega arith });
    }
effect_heads items w _ _ h (sets p millis x at forward) other =
    let quiet : (q : ℕ) → given q (items ++ item.Clock p millis ∷ []) ≡ given q items = λ q. nothing_given q items (item.Clock p millis ∷ []) (clock_nothing p millis) in
    let k = h.places p x at in
    record {
      facts = facts_on items (item.Clock p millis ∷ []) (told_of w) (told_of w) h.facts (mute_goes _ (told_of w) (told_of w) (clock_nothing p millis).mute (stays_itself (told_of w)));
      sound = h.sound;
      places = placed_heads items (item.Clock p millis ∷ []) w w p (record x { clock = millis }) refl (λ q n. quiet q) (omega arith) h (record { given = subst (AreUpTo (revision_of x.core)) (sym (quiet p)) k.given; below = k.below });
    }
effect_heads items w _ _ h (effects.refuses_post p ticket path body a x at) other = absurd (cc)
effect_heads items w _ _ h (executes number call at fresh) other =
    let x = exec w.store call.member call.request in
    let after : World = record w { calls = with_nth w.calls number (record call { executed = Some x.1 }); store = x.0; floors = floors_after call x.1 w.floors } in
    kept_heads items (item.Executed number x.1 ∷ []) w after refl (λ q. other_given q items (item.Executed number x.1) refl refl) (grown w.store x.0 (exec_leaves w.store call.member call.request).grown)
    (requests_keep_sound w.store call.member call.request h.sound) (executed_goes w after number call h.sound at fresh refl refl refl) h
effect_heads items w _ _ h (expires lease t e due) other =
    kept_heads items (item.Expired lease ∷ []) w _ refl (λ q. nothing_given q items _ (expired_nothing lease)) (grown w.store t (expired_leaves w.store t lease e).grown) (expiries_keep_sound w.store t lease e h.sound)
    (mute_goes _ (told_of w) _ (expired_nothing lease).mute (store_stays w t (grown w.store t (expired_leaves w.store t lease e).grown))) h
effect_heads items w _ _ h (applies member revision t e) other =
    kept_heads items (item.Applied member revision ∷ []) w _ refl (λ q. nothing_given q items _ (applied_nothing member revision)) (grown w.store t (applied_leaves w.store t member revision e).grown) (applies_keep_sound w.store t member revision e h.sound)
    (mute_goes _ (told_of w) _ (applied_nothing member revision).mute (store_stays w t (grown w.store t (applied_leaves w.store t member revision e).grown))) h
effect_heads items w _ _ h (pushes number s t i at goes_on uncut k) other =
    kept_heads items (item.Pushed number i ∷ []) w _ refl (λ q. other_given q items (item.Pushed number i) refl refl) (let e : newest t.history ≡ newest w.store.history = ap newest (message_leaves w.store t i number k).history in omega (arith, e))
    (messages_keep_sound w.store t i number k h.sound) (pushed_goes w number s t i at goes_on k) h
effect_heads items w _ _ h (turns p x e o v y own told at is t) other =
    let s = turn_places w p (stepped_to x e) e o v y own told t in
    step_heads items own w v p x y e told h at s.0 (grown w.store v.store (turn_grows w p (stepped_to x e) e o v y own told t)) (turn_sound w p (stepped_to x e) e o v y own told t h.sound) s.1
    (turn_goes w p (stepped_to x e) e o v y own told t) (turn_gives w items _ p x e o v y own told h.facts is t other) (turn_takes w items p (stepped_to x e) e o v y own told h.facts t)

gain_heads : (items : List Item) (w after : World) (gained : List Item) → HeadsOk items w → Gain w after gained → HeadsOk (items ++ gained) after
gain_heads items w _ _ h (gains.answers number call x a o there is at lived out) =
    step_heads items (item.Answered number ∷ []) w (with_call w number (record call { settled = true })) call.proxy x (stepped_to x (event.Answer call.own a)) (event.Answer call.own a) [] h at refl (omega arith) h.sound refl
    (mute_goes _ (told_of w) _ (answered_mute number) (settled_stays w number call there))
    (answered_gives w items number call a _ h.facts there is (header_taken_in x.core (event.Answer call.own a) x.clock o out)) (answer_takes w items number call a h.facts there is)
gain_heads items w _ _ h (gains.refuses_post p ticket path body r x at) =
    let own = item.Posted p ticket path body ∷ reply_items p (with_posted ticket x).posted (ticket, Refused r) in
    let quiet = nothing-append (item.Posted p ticket path body ∷ []) (reply_items p (with_posted ticket x).posted (ticket, Refused r)) (posted_nothing p ticket path body) (answer_nothing p (with_posted ticket x).posted (ticket, Refused r)) in
    let k = h.places p x at in
    record {
      facts = facts_on items own (told_of w) (told_of w) h.facts (mute_goes own (told_of w) (told_of w) quiet.mute (stays_itself (told_of w)));
      sound = h.sound;
      places = placed_heads items own w w p (with_posted ticket x) refl (λ q n. nothing_given q items own quiet) (omega arith) h
          (record { given = subst (AreUpTo (revision_of x.core)) (sym (nothing_given p items own quiet)) k.given; below = k.below });
    }
gain_heads items w _ _ h (gains.other after gained e o) = effect_heads items w after gained h e o

recounted : (items : List Item) (w : World) (n : ℕ) → HeadsOk items w → HeadsOk items (record w { lines = n })
recounted items w n h = record { facts = h.facts; sound = h.sound; places = λ p x at. let k = h.places p x at in record { given = k.given; below = k.below } }

begins_heads : (members : ℕ) (namespace leasing : List ℕ) → HeadsOk (item.World members namespace leasing ∷ []) (starting_world members namespace leasing)
begins_heads members namespace leasing = record {
  facts = record {
    sent = λ p n e. untrue e;
    executed = λ n a e. no_answer a e;
    opened = λ p n e. untrue e;
    queued = λ n is e. record { taken = []; pushed = none_waits n is e; count = refl };
    answers = λ n reply e. no_answer (Done reply) (sym (ap answer_by (nth_none n)) ∙ e);
    messages = λ n is e. subst (EachOf (IsUpTo 1)) (none_waits n is e) tt;
  };
  sound = starts_sound members;
  places = λ p x e. no_place x e;
}
  where
    none_by : {A : Type 0} (n : ℕ) (b : Bool) → cond {A = Option A} b None (slice_get [] (n - 1)) ≡ None
    none_by n true = refl
    none_by n false = refl

    nth_none : {A : Type 0} (n : ℕ) → nth {A = A} [] n ≡ None
    nth_none n = none_by n (n == 0)

    none_waits : (n : ℕ) (is : List WatchItem) → waits_in (nth {A = OpenedStream} [] n) ≡ Some is → [] ≡ is
    none_waits n is e = same_items [] is (sym (ap waits_in (nth_none n)) ∙ e)

pub heads_kept : (script : List Line) → IsKept script HeadsOk
heads_kept script = record {
  begins = begins_heads;
  goes_on = λ namespace items w l gained n e ok h. recounted (items ++ gained) (done w l).world ((done w l).world.lines + 1) (gain_heads items w (done w l).world gained h (gain w l gained e));
}
