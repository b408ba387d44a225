-- What is known of the writes of each proxy holds behind each prefix of a script, and each item tells it by those before.
use Rattle.std.proofs.Common.{◌≡◌, ◌≢◌, ◌⊎◌, inl, inr, ℕ, ◌+◌, ◌==◌, ◌||◌, ◌&&◌, Bool, true, false, not, cond, List, [], ◌∷◌, ◌++◌, append_assoc, append-nil, length, Option, None, Some, is_some, Result, Ok, Err, refl, sym, ◌∙◌, ap, subst}
use Rattle.std.specs.Prelude.{flat_map}
use Rattle.std.specs.List.{list_all}
use Rattle.std.specs.BTreeSet.{BTreeSet}
use Rattle.etcd_types.specs.declared.answer.Answer.{Answer}
use Rattle.etcd_types.specs.declared.answer.Answer.TheVariants.{Refused}
use Rattle.etcd_types.specs.declared.answer.Refusal.{Refusal}
use Rattle.etcd_types.specs.declared.request.Request.{Request}
use Rattle.etcd_types.specs.declared.request.Request.TheVariants as request
use Rattle.core_model.specs.declared.event.CoreEvent.{CoreEvent}
use Rattle.core_model.specs.declared.event.CoreEvent.TheVariants as event
use Rattle.core_model.specs.declared.event.Job.TheVariants as job
use Rattle.core_model.specs.declared.event.Outcome.{Outcome}
use Rattle.core_model.specs.declared.event.Outcome.TheVariants as outcome
use Rattle.core_model.specs.declared.event.StepFault.{StepFault}
use Rattle.core_model.specs.declared.event.StepFault.TheVariants as fault
use Rattle.core_model.specs.State.{Core}
use Rattle.core_model.specs.Step.{is_worn, stepped}
use Rattle.core_model.specs.Stepped.{Stepped}
use Rattle.core_laws.proofs.Steps.Lists.{number_turned}
use Rattle.core_laws.proofs.Steps.Outcomes.{worn_does_nothing}
use Rattle.store_model.specs.Step.{exec}
use Rattle.script_text.specs.declared.item.Item.{Item}
use Rattle.script_text.specs.declared.item.Item.TheVariants as item
use Rattle.script_text.specs.declared.line.Line.{Line}
use Rattle.world_model.specs.declared.sent_call.SentCall.{SentCall}
use Rattle.world_model.specs.Gains.{Replies, all_fetched, body_if, reply_items}
use Rattle.world_model.specs.Lives.{life, asked_as, is_named, world_of}
use Rattle.world_model.specs.Places.{nth, with_nth, is_among, kept_at, place_at, with_place, with_posted, with_call}
use Rattle.world_model.specs.Sends as sends
use Rattle.world_model.specs.Starts.{new_place}
use Rattle.world_model.specs.State.{Numbered, Place, World}
use Rattle.world_model.specs.Transcript.{done}
use Rattle.world_laws.proofs.Effects.{Turn, ticks, asks_it, posts_it, calls, opens, closes, answers, loses, delivers, cuts, takes, waits, leaves, Begins, first, again, Effect, starts, sets, executes, expires, applies, pushes, turns}
use Rattle.world_laws.proofs.Effects as effects
use Rattle.held_laws.proofs.Items.{asked-append, or_later, reply_silent, reply_unasking}
use Rattle.held_laws.proofs.Kept.{nth_itself}
use Rattle.held_laws.proofs.Lines.{start_silent, started_life}
use Rattle.held_laws.proofs.Opens.{last_nth}
use Rattle.held_laws.proofs.Worlds.{equal, no_place, one_place, placed_itself, placed_other, asked_asks, posted_asks}
use Rattle.prefix_laws.proofs.Prefixes.{IsKept}
use Rattle.renewed_laws.proofs.Calls.{Counts, work_counts}
use Rattle.renewed_laws.proofs.Gains.{is_other, stepped_to, Gain, gain}
use Rattle.renewed_laws.proofs.Gains as gains
use Rattle.renewed_laws.proofs.Lives.{Lives, IsStill, life_on, lives-append, still-append}
use Rattle.renewed_laws.proofs.Lines.{ran_executes}
use Rattle.renewed_laws.proofs.Stories.{Executed, IsExecuted}
use Rattle.renewed_laws.proofs.Turns.{answer_turned, turned}
use Rattle.renewed_laws.proofs.Worlds.{answer_by, WorldOk, Executes, same_executes, Turned}
use Rattle.executed_laws.proofs.Keeping.{PlaceSent}
use Rattle.executed_laws.proofs.Naming.{Unnamed, Unnaming, unnaming-append, reply_unnaming, taken_unnaming, turn_names, turn_others}
use Rattle.executed_laws.proofs.Sends.{clock_sent}
use Rattle.executed_laws.proofs.Turns.{begin_no_call, close_no_call}
use Rattle.executed_laws.proofs.Worlds.{BeginsAs, AllKept, all_kept, begins_on}
use Rattle.once_laws.proofs.FreeCore.{CoreFree}
use Rattle.once_laws.proofs.Holds.{MostOf}
use Rattle.once_laws.proofs.Turning.{Before, Behind, quiet, unsent, asked_turn, answered_turn, lost_turn, sent_turn}
use Rattle.once_laws.proofs.Lines.{later_place, later_most, other_most, Leaves, most_now, once_on, TurnOk, turn_leaves, turn_once}
use Rattle.once_laws.proofs.Worlds.{PlaceOnce, KnownCall, WorldOnce, Lasting, is_plain, turn_plain, same_lasting, changed_lasting, turn_lasting}

-- ---- a turn, by what it is

not_worn : (c : Core) (e : CoreEvent) (now : ℕ) (o : Outcome) → (stepped c e now).outcome ≡ Ok o → is_worn c ≡ false
not_worn c e now o is = by (is_worn c) refl
  where
    by : (b : Bool) → is_worn c ≡ b → b ≡ false
    by false u = refl
    by true u = absurd (let f : ◌≡◌ {A = Result Outcome StepFault} (Err fault.Worn) (Ok o) = sym (ap (λ (s : Stepped). s.outcome) (worn_does_nothing c e now u)) ∙ is in cc)

turn_behind : (namespace prefix : List ℕ) (items rest : List Item) (w : World) (p : ℕ) (x : Place) (e : CoreEvent) (o : Outcome) (v : World) (y : Place) (own : List Item) (told : Replies) → Before namespace prefix items w p x → (stepped x.core e x.clock).outcome ≡ Ok o
    → Turn w p (stepped_to x e) e o v y own told → is_other (own ++ rest) ≡ true → Turned namespace items own w v p x y e told → Behind namespace prefix items own p x y e told
turn_behind namespace prefix items rest w p x _ _ v y own told b is (ticks o) other t = quiet namespace prefix items own w v p x y _ told b t (λ i. refl) tt tt
turn_behind namespace prefix items rest w p x _ _ v y own told b is (asks_it ticket q o n) other t =
    let free = (b.world.places p x b.at).unasked ticket n in
    let there = asked-append p ticket (life p items) (item.Asked p ticket q ∷ []) ∙ ap (λ (a : Option Request). or_later a (asked_as p ticket (item.Asked p ticket q ∷ []))) free ∙ (asked_asks p ticket q).asks in
    asked_turn namespace prefix items own w v p x y _ told b t ticket q o refl refl is free there (λ i. refl)
turn_behind namespace prefix items rest w p x _ _ v y own told b is (posts_it ticket path body q o n) other t =
    let free = (b.world.places p x b.at).unasked ticket n in
    let posted = item.Posted p ticket path body ∷ item.Asked p ticket q ∷ [] in
    let there = asked-append p ticket (life p items) posted ∙ ap (λ (a : Option Request). or_later a (asked_as p ticket posted)) free ∙ (posted_asks p ticket path body q).asks in
    asked_turn namespace prefix items own w v p x y _ told b t ticket q o refl refl is free there (λ i. refl)
turn_behind namespace prefix items rest w p x _ _ v y own told b is (calls n member ticket q) other t =
    let k = b.world.places p x b.at in
    let counts : Counts x.core (stepped x.core event.Work x.clock).core (Ok (outcome.Job (Some (job.Call n member ticket q)))) = subst (Counts x.core (stepped x.core event.Work x.clock).core) is (work_counts x.core x.clock) in
    let own_is : n ≡ length x.calls + 1 = counts.0 ∙ ap (λ (i : ℕ). i + 1) (sym k.count) in
    let placed : nth (x.calls ++ sends.next_call w ∷ []) n ≡ Some (sends.next_call w) = ap (nth (x.calls ++ sends.next_call w ∷ [])) own_is ∙ last_nth x.calls (sends.next_call w) in
    sent_turn namespace prefix items own w v p x y _ told b t n member ticket q refl (not_worn x.core event.Work x.clock _ is) refl refl placed is
turn_behind namespace prefix items rest w p x _ _ v y own told b is (opens n member ask) other t =
    unsent namespace prefix items own w v p x y _ told b t refl (λ i. refl) _ (not_worn x.core event.Work x.clock _ is) is (begin_no_call n member (request.Watch ask)) refl
turn_behind namespace prefix items rest w p x _ _ v y own told b is (closes n number f) other t =
    unsent namespace prefix items own w v p x y _ told b t refl (λ i. refl) _ (not_worn x.core event.Work x.clock _ is) is (close_no_call n) refl
turn_behind namespace prefix items rest w p x _ _ v y own told b is (answers number call a o f k) other t = absurd (cc)
turn_behind namespace prefix items rest w p x _ _ v y own told b is (loses number call o f) other t = lost_turn namespace prefix items own w v p x y _ told b t number call.own refl refl refl
turn_behind namespace prefix items rest w p x _ _ v y own told b is (delivers number s i more o f g h k l) other t = quiet namespace prefix items own w v p x y _ told b t (λ i. refl) tt tt
turn_behind namespace prefix items rest w p x _ _ v y own told b is (cuts number s o f g h k) other t = quiet namespace prefix items own w v p x y _ told b t (λ i. refl) tt tt
turn_behind namespace prefix items rest w p x _ _ v y own told b is (takes ticket i) other t = quiet namespace prefix items own w v p x y _ told b t (λ j. taken_unnaming p p _ ticket i j) tt tt
turn_behind namespace prefix items rest w p x _ _ v y own told b is (waits ticket o f) other t = quiet namespace prefix items own w v p x y _ told b t (λ i. refl) tt tt
turn_behind namespace prefix items rest w p x _ _ v y own told b is (leaves ticket o) other t = quiet namespace prefix items own w v p x y _ told b t (λ i. refl) tt tt

before_of : (items : List Item) (w : World) (p : ℕ) (x : Place) → WorldOk w.namespace items w → AllKept items w → WorldOnce w.namespace w.leasing items w → place_at w p ≡ Some x → Before w.namespace w.leasing items w p x
before_of items w p x h k o at =
    record { world = h; at = at; sent = k.sent.places p x at; fits = k.fits p x at; owners = k.owners p x at; free = (o.places p x at).free; kinds = (o.places p x at).kinds; executed = o.executed }

pub turn_ok : (items rest : List Item) (w : World) (p : ℕ) (x : Place) (e : CoreEvent) (o : Outcome) (v : World) (y : Place) (own : List Item) (told : Replies) → WorldOk w.namespace items w → AllKept items w → WorldOnce w.namespace w.leasing items w → place_at w p ≡ Some x
    → (stepped x.core e x.clock).outcome ≡ Ok o → Turn w p (stepped_to x e) e o v y own told → is_other (own ++ rest) ≡ true → TurnOk w.namespace w.leasing items own w v p x y e told
turn_ok items rest w p x e o v y own told h k c at is t other =
    let b = before_of items w p x h k c at in
    let turn = turned w.namespace items rest w p x e o v y own told h at is t other in
    record {
      before = b;
      turned = turn;
      behind = turn_behind w.namespace w.leasing items rest w p x e o v y own told b is t other turn;
      names = turn_names (Rattle.renewed_laws.proofs.Worlds.life_of w.namespace w.calls items p x) w p x e o v y own told (h.places p x at).core (clock_sent _ _ _ x.clock x.core b.sent.sent).acquires.order (h.places p x at).rows refl is t;
      others = turn_others w p (stepped_to x e) e o v y own told t;
      plain = turn_plain w p (stepped_to x e) e o v y own told t;
      lasting = turn_lasting w p (stepped_to x e) e o v y own told t;
    }

-- a call is answered
pub answer_ok : (items : List Item) (w : World) (number : ℕ) (call : SentCall) (x : Place) (a : Answer) → WorldOk w.namespace items w → AllKept items w → WorldOnce w.namespace w.leasing items w → nth w.calls number ≡ Some call → call.executed ≡ Some a
    → place_at w call.proxy ≡ Some x → call.life ≡ x.life
    → TurnOk w.namespace w.leasing items (item.Answered number ∷ []) w (with_call w number (record call { settled = true })) call.proxy x (stepped_to x (event.Answer call.own a)) (event.Answer call.own a) []
answer_ok items w number call x a h k c there is at lived =
    let v = with_call w number (record call { settled = true }) in
    let b = before_of items w call.proxy x h k c at in
    let turn = answer_turned w.namespace items w number call x a h there is at lived in
    let known = h.calls number call there in
    let one : known.place ≡ x = one_place known.place x (sym known.at ∙ at) in
    let placed : nth x.calls call.own ≡ Some number = ap (λ (y : Place). nth y.calls call.own) (sym one) ∙ known.own (lived ∙ ap (λ (y : Place). y.life) (sym one)) in
    record {
      before = b;
      turned = turn;
      behind = answered_turn w.namespace w.leasing items (item.Answered number ∷ []) w v call.proxy x (stepped_to x (event.Answer call.own a)) (event.Answer call.own a) [] b turn number call a refl refl refl placed there is;
      names = λ i n e. refl;
      others = λ q n i. refl;
      plain = refl;
      lasting = changed_lasting w v number call (record call { settled = true }) there refl (λ d. d);
    }

-- ---- other lines

-- the items tell of no execution, and every proxy is as it was
stay_once : (items more : List Item) (w after : World) → ((q : ℕ) (y : Place) → place_at after q ≡ Some y → (x : Place) × (place_at w q ≡ Some x) × (x.core ≡ y.core) × (x.calls ≡ y.calls)) → ((q : ℕ) → IsStill q more) → ((q : ℕ) → Unnaming q more) → Executes w.calls after.calls more
    → ((call : ℕ) (a : Answer) → Executed call a (items ++ more) → KnownCall after call) → ((q : ℕ) (x : Place) → place_at w q ≡ Some x → Unnamed q (life q items)) → WorldOnce w.namespace w.leasing items w → WorldOnce w.namespace w.leasing (items ++ more) after
stay_once items more w after same still silent g once unnamed h = record {
  places = λ q y at.
      let s = same q y at in
      let k = later_place w.namespace w.leasing items more q s.0 (still q).0 (silent q) (unnamed q s.0 s.1) (h.places q s.0 s.1) in
      record {
        free = subst (λ (c : Core). Rattle.once_laws.proofs.Sending.FreeIn w.namespace w.leasing q (items ++ more) (life q (items ++ more)) (nth y.calls) c) s.2
            (subst (λ (ns : List ℕ). Rattle.once_laws.proofs.Sending.FreeIn w.namespace w.leasing q (items ++ more) (life q (items ++ more)) (nth ns) s.0.core) s.3 k.free);
        kinds = subst Rattle.once_laws.proofs.OfKinds.KindsOk s.2 k.kinds;
      };
  most = λ q i. later_most w.namespace w.leasing items more q i (still q) (silent q i) (h.most q i);
  executed = λ call. g call items (h.executed call);
  once = once;
}

kept_same : (w after : World) → after.places ≡ w.places → (q : ℕ) (y : Place) → place_at after q ≡ Some y → (x : Place) × (place_at w q ≡ Some x) × (x.core ≡ y.core) × (x.calls ≡ y.calls)
kept_same w after e q y at = (y, ap (λ (ps : Numbered Place). kept_at ps q) (sym e) ∙ at, refl, refl)

put_same : (w : World) (p : ℕ) (x z : Place) → place_at w p ≡ Some x → x.core ≡ z.core → x.calls ≡ z.calls → (q : ℕ) (y : Place) → place_at (with_place w p z) q ≡ Some y → (x : Place) × (place_at w q ≡ Some x) × (x.core ≡ y.core) × (x.calls ≡ y.calls)
put_same w p x z at core sent q y e = by (q == p) refl
  where
    by : (b : Bool) → (q == p) ≡ b → (x : Place) × (place_at w q ≡ Some x) × (x.core ≡ y.core) × (x.calls ≡ y.calls)
    by true n =
        let there : q ≡ p = equal q p n in
        let one : z ≡ y = one_place z y (sym (placed_itself w w p z) ∙ ap (place_at (with_place w p z)) (sym there) ∙ e) in
        (x, ap (place_at w) there ∙ at, core ∙ ap (λ (a : Place). a.core) one, sent ∙ ap (λ (a : Place). a.calls) one)
    by false n = (y, sym (placed_other w w p q z refl n) ∙ e, refl, refl)

plain_once : (items more : List Item) (w after : World) → list_all is_plain more ≡ true → after.calls ≡ w.calls → WorldOnce w.namespace w.leasing items w → (call : ℕ) (a : Answer) → Executed call a (items ++ more) → KnownCall after call
plain_once items more w after plain same h = once_on items more w after plain (same_lasting w after same) h.once

-- the store executes a call
last_executed : (items : List Item) (n : ℕ) (b : Answer) (call : ℕ) (a : Answer) → Executed call a (items ++ item.Executed n b ∷ []) → (Executed call a items) ⊎ (call ≡ n)
last_executed items n b call a e = by items e.before e.story
  where
    one : (i : Item) (xs ys : List Item) (j : Item) → i ∷ xs ≡ j ∷ ys → (i ≡ j) × (xs ≡ ys)
    one i xs ys j f = (cc, cc)

    same : item.Executed n b ≡ item.Executed call a → call ≡ n
    same f = cc

    none : {A : Type 0} (before : List Item) → [] ≡ before ++ item.Executed call a ∷ e.after → A
    none [] f = absurd (cc)
    none (j ∷ before) f = absurd (cc)

    by : (xs before : List Item) → xs ++ item.Executed n b ∷ [] ≡ before ++ item.Executed call a ∷ e.after → (Executed call a xs) ⊎ (call ≡ n)
    by [] [] f = inr (same (one (item.Executed n b) [] e.after (item.Executed call a) f).0)
    by [] (j ∷ before) f = none before (one (item.Executed n b) [] (before ++ item.Executed call a ∷ e.after) j f).1
    by (i ∷ xs) [] f = inl (record { before = []; after = xs; story = ap (λ (j : Item). j ∷ xs) (one i (xs ++ item.Executed n b ∷ []) e.after (item.Executed call a) f).0 })
    by (i ∷ xs) (j ∷ before) f = more (by xs before (one i (xs ++ item.Executed n b ∷ []) (before ++ item.Executed call a ∷ e.after) j f).1)
      where
        more : (Executed call a xs) ⊎ (call ≡ n) → (Executed call a (i ∷ xs)) ⊎ (call ≡ n)
        more (inl k) = inl (record { before = i ∷ k.before; after = k.after; story = ap (λ (ys : List Item). i ∷ ys) k.story })
        more (inr k) = inr k

ran_once : (items : List Item) (w after : World) (number : ℕ) (call : SentCall) (a : Answer) → nth w.calls number ≡ Some call → after.calls ≡ with_nth w.calls number (record call { executed = Some a }) → WorldOnce w.namespace w.leasing items w
    → (c : ℕ) (b : Answer) → Executed c b (items ++ item.Executed number a ∷ []) → KnownCall after c
ran_once items w after number call a there same h c b e = by (last_executed items number a c b e)
  where
    by : (Executed c b items) ⊎ (c ≡ number) → KnownCall after c
    by (inl k) = changed_lasting w after number call (record call { executed = Some a }) there same (λ d. refl) c (h.once c b k)
    by (inr k) = record {
      sent = record call { executed = Some a };
      there = ap (λ (cs : List SentCall). nth cs c) same ∙ ap (nth (with_nth w.calls number (record call { executed = Some a }))) k ∙ nth_itself w.calls number call (record call { executed = Some a }) there;
      done = refl;
    }

-- a proxy is started
start_unnaming : (w : World) (p clock life' : ℕ) (i : Item) (q : ℕ) → Begins w p clock life' i → Unnaming q (i ∷ [])
start_unnaming w p _ _ _ q (first e) t = refl
start_unnaming w p _ _ _ q (again x e) t = refl

start_plain : (w : World) (p clock life' : ℕ) (i : Item) → Begins w p clock life' i → list_all is_plain (i ∷ []) ≡ true
start_plain w p _ _ _ (first e) = refl
start_plain w p _ _ _ (again x e) = refl

nothing_asked : (p t : ℕ) (told : List Item) (q : Request) → told ≡ [] → asked_as p t told ≡ Some q → ⊥
nothing_asked p t told q e f = absurd (let g : None ≡ Some q = sym (ap (asked_as p t) e) ∙ f in cc)

pub start_once : (items : List Item) (w : World) (p clock life' : ℕ) (i : Item) → Begins w p clock life' i → ((q : ℕ) (x : Place) → place_at w q ≡ Some x → Unnamed q (life q items)) → WorldOnce w.namespace w.leasing items w
    → WorldOnce w.namespace w.leasing (items ++ i ∷ []) (with_place w p (new_place w clock life'))
start_once items w p clock life' i b unnamed h = record {
  places = λ q y at. by_place q y at (q == p) refl;
  most = λ q t. by_most q t (q == p) refl;
  executed = λ call. same_executes w.calls (i ∷ []) call items (h.executed call);
  once = λ call a e. let k = plain_once items (i ∷ []) w w (start_plain w p clock life' i b) refl h call a e in record { sent = k.sent; there = k.there; done = k.done };
}
  where
    gone : life p (items ++ i ∷ []) ≡ []
    gone = started_life items p clock life' w i b

    by_place : (q : ℕ) (y : Place) → place_at (with_place w p (new_place w clock life')) q ≡ Some y → (c : Bool) → (q == p) ≡ c → PlaceOnce w.namespace w.leasing (items ++ i ∷ []) q y
    by_place q y at true n =
        let there : q ≡ p = equal q p n in
        let one : new_place w clock life' ≡ y = one_place (new_place w clock life') y (sym (placed_itself w w p (new_place w clock life')) ∙ ap (place_at (with_place w p (new_place w clock life'))) (sym there) ∙ at) in
        subst (PlaceOnce w.namespace w.leasing (items ++ i ∷ []) q) one (record { free = (tt, tt); kinds = tt })
    by_place q y at false n =
        let there : place_at w q ≡ Some y = sym (placed_other w w p q (new_place w clock life') refl n) ∙ at in
        let k = start_silent p clock life' w i q n b in
        later_place w.namespace w.leasing items (i ∷ []) q y k.0.lives (start_unnaming w p clock life' i q b) (unnamed q y there) (h.places q y there)

    by_most : (q t : ℕ) (c : Bool) → (q == p) ≡ c → MostOf w.namespace w.leasing q (items ++ i ∷ []) (life q (items ++ i ∷ [])) t
    by_most q t true n = λ r k e u. absurd (nothing_asked q t (life q (items ++ i ∷ [])) r (ap (λ (j : ℕ). life j (items ++ i ∷ [])) (equal q p n) ∙ gone) e)
    by_most q t false n =
        let k = start_silent p clock life' w i q n b in
        later_most w.namespace w.leasing items (i ∷ []) q t (k.0.lives, k.1) (start_unnaming w p clock life' i q b t) (h.most q t)

-- ---- each line

pub unnamed_of : (items : List Item) (w : World) → AllKept items w → (q : ℕ) (x : Place) → place_at w q ≡ Some x → Unnamed q (life q items)
unnamed_of items w k q x at = (k.sent.places q x at).unnamed

one_still : (i : Item) → ((q : ℕ) (xs : List Item) → Rattle.world_model.specs.Lives.life_from q xs (i ∷ []) ≡ xs ++ i ∷ []) → ((q t : ℕ) → asked_as q t (i ∷ []) ≡ None) → (q : ℕ) → IsStill q (i ∷ [])
one_still i l a q = (l q, a q)

effect_once : (items : List Item) (w after : World) (gained : List Item) → WorldOk w.namespace items w → AllKept items w → Effect w after gained → is_other gained ≡ true → WorldOnce w.namespace w.leasing items w → WorldOnce w.namespace w.leasing (items ++ gained) after
effect_once items w _ _ h k (starts p clock life' i b) o c = start_once items w p clock life' i b (unnamed_of items w k) c
effect_once items w _ _ h k (sets p millis x e forward) o c =
    stay_once items (item.Clock p millis ∷ []) w (with_place w p (record x { clock = millis })) (put_same w p x (record x { clock = millis }) e refl refl) (λ q. (λ xs. refl, λ t. refl)) (λ q t. refl) (same_executes w.calls (item.Clock p millis ∷ []))
    (plain_once items (item.Clock p millis ∷ []) w (with_place w p (record x { clock = millis })) refl refl c) (unnamed_of items w k) c
effect_once items w _ _ h k (effects.refuses_post p ticket path body a x e) o c = absurd (cc)
effect_once items w after _ h k (executes number call e fresh) o c =
    let a = (exec w.store call.member call.request).1 in
    stay_once items (item.Executed number a ∷ []) w after (kept_same w after refl) (λ q. (λ xs. refl, λ t. refl)) (λ q t. refl) (ran_executes w.calls number call a e) (ran_once items w after number call a e refl c) (unnamed_of items w k) c
effect_once items w after _ h k (expires lease t e due) o c =
    stay_once items (item.Expired lease ∷ []) w after (kept_same w after refl) (λ q. (λ xs. refl, λ t. refl)) (λ q t. refl) (same_executes w.calls (item.Expired lease ∷ [])) (plain_once items (item.Expired lease ∷ []) w after refl refl c) (unnamed_of items w k) c
effect_once items w after _ h k (applies member revision t e) o c =
    stay_once items (item.Applied member revision ∷ []) w after (kept_same w after refl) (λ q. (λ xs. refl, λ t. refl)) (λ q t. refl) (same_executes w.calls (item.Applied member revision ∷ []))
    (plain_once items (item.Applied member revision ∷ []) w after refl refl c) (unnamed_of items w k) c
effect_once items w after _ h k (pushes number st t i e a b d) o c =
    stay_once items (item.Pushed number i ∷ []) w after (kept_same w after refl) (λ q. (λ xs. refl, λ t. refl)) (λ q t. refl) (same_executes w.calls (item.Pushed number i ∷ [])) (plain_once items (item.Pushed number i ∷ []) w after refl refl c) (unnamed_of items w k) c
effect_once items w _ _ h k (turns p x e out v y own told at is t) o c =
    let f = all_fetched y told in
    turn_once w.namespace w.leasing items own w v p x y e told (turn_ok items (flat_map (reply_items p f.place.posted) f.replies) w p x e out v y own told h k c at is t o) (unnamed_of items w k) c

refused_plain : (p ticket : ℕ) (b : Bool) (r : Refusal) (path body : List ℕ) → list_all is_plain (item.Posted p ticket path body ∷ item.Reply p ticket (Refused r) ∷ body_if b p ticket (Refused r)) ≡ true
refused_plain p ticket true r path body = refl
refused_plain p ticket false r path body = refl

pub gain_once : (items : List Item) (w after : World) (gained : List Item) → WorldOk w.namespace items w → AllKept items w → Gain w after gained → WorldOnce w.namespace w.leasing items w → WorldOnce w.namespace w.leasing (items ++ gained) after
gain_once items w _ _ h k (gains.answers number call x a o there is at lived out) c =
    turn_once w.namespace w.leasing items (item.Answered number ∷ []) w (with_call w number (record call { settled = true })) call.proxy x (stepped_to x (event.Answer call.own a)) (event.Answer call.own a) []
    (answer_ok items w number call x a h k c there is at lived) (unnamed_of items w k) c
gain_once items w _ _ h k (gains.refuses_post p ticket path body r x e) c =
    let posted = (with_posted ticket x).posted in
    let rest = reply_items p posted (ticket, Refused r) in
    stay_once items (item.Posted p ticket path body ∷ rest) w (with_place w p (with_posted ticket x)) (put_same w p x (with_posted ticket x) e refl refl)
    (λ q. still-append q (item.Posted p ticket path body ∷ []) rest (λ xs. refl, λ t. refl) ((reply_silent q p posted (ticket, Refused r)).lives, reply_unasking q p posted (ticket, Refused r)))
    (λ q t. reply_unnaming q p posted (ticket, Refused r) t) (same_executes w.calls (item.Posted p ticket path body ∷ rest))
    (plain_once items (item.Posted p ticket path body ∷ rest) w (with_place w p (with_posted ticket x)) (refused_plain p ticket (is_among posted ticket) r path body) refl c) (unnamed_of items w k) c
gain_once items w _ _ h k (gains.other after gained e o) c = effect_once items w after gained h k e o c

-- ---- the script

pub record OnceKept (items : List Item) (w : World) : Type 0 where
  pub kept : AllKept items w
  pub once : WorldOnce w.namespace w.leasing items w

pub names_are : (items : List Item) (namespace prefix : List ℕ) → BeginsAs items namespace prefix → world_of items ≡ (namespace, prefix)
names_are items namespace prefix b = ap world_of b.is

same_names : (items : List Item) (a b c d : List ℕ) → world_of items ≡ (a, b) → world_of items ≡ (c, d) → (a ≡ c) × (b ≡ d)
same_names items a b c d e f = (ap (λ (n : List ℕ × List ℕ). n.0) (sym e ∙ f), ap (λ (n : List ℕ × List ℕ). n.1) (sym e ∙ f))

pub once_kept : (script : List Line) → IsKept script OnceKept
once_kept script = record {
  begins = λ members namespace leasing. record {
    kept = (all_kept script).begins members namespace leasing;
    once = record { places = λ p x e. no_place x e; most = λ p t q n e u. absurd (let f : None ≡ Some q = e in cc); executed = λ call. by_none members namespace leasing call; once = λ call a e. absurd (none_there members namespace leasing call a e) };
  };
  goes_on = λ namespace items w l gained n e ok h.
      let named : WorldOk w.namespace items w = subst (λ (ns : List ℕ). WorldOk ns items w) (sym ok.namespace_is) ok in
      let kept = (all_kept script).goes_on namespace items w l gained n e ok h.kept in
      let once = gain_once items w (done w l).world gained named h.kept (gain w l gained e) h.once in
      let s = same_names (items ++ gained) w.namespace w.leasing (done w l).world.namespace (done w l).world.leasing (names_are (items ++ gained) w.namespace w.leasing (begins_on items gained w.namespace w.leasing h.kept.sent.begins))
      (names_are (items ++ gained) (done w l).world.namespace (done w l).world.leasing kept.sent.begins) in
      let here : WorldOnce w.namespace w.leasing (items ++ gained) (record (done w l).world { lines = (done w l).world.lines + 1 }) = record { places = λ p x at. once.places p x at; most = once.most; executed = once.executed; once = λ call a k. let c = once.once call a k in record { sent = c.sent; there = c.there; done = c.done } } in
      record {
        kept = kept;
        once = subst (λ (ns : List ℕ). WorldOnce ns (done w l).world.leasing (items ++ gained) (record (done w l).world { lines = (done w l).world.lines + 1 })) s.0
            (subst (λ (ns : List ℕ). WorldOnce w.namespace ns (items ++ gained) (record (done w l).world { lines = (done w l).world.lines + 1 })) s.1 here);
      };
}
  where
    none_there : (members : ℕ) (namespace leasing : List ℕ) (call : ℕ) (a : Answer) → Executed call a (item.World members namespace leasing ∷ []) → ⊥
    none_there members namespace leasing call a e = by e.before e.story
      where
        by : (xs : List Item) → item.World members namespace leasing ∷ [] ≡ xs ++ item.Executed call a ∷ e.after → ⊥
        by [] f = absurd (cc)
        by (x ∷ []) f = absurd (cc)
        by (x ∷ y ∷ xs) f = absurd (cc)

    by_none : (members : ℕ) (namespace leasing : List ℕ) (call : ℕ) → IsExecuted call (Rattle.renewed_laws.proofs.Worlds.answers_of [] call) (item.World members namespace leasing ∷ [])
    by_none members namespace leasing call = none (nth [] call) refl
      where
        none : (o : Option SentCall) → nth [] call ≡ o → IsExecuted call (answer_by o) (item.World members namespace leasing ∷ [])
        none None e = tt
        none (Some c) e = absurd (let f : None ≡ Some c = sym (empty (call == 0)) ∙ e in cc)
          where
            empty : (b : Bool) → cond {A = Option SentCall} b None None ≡ None
            empty true = refl
            empty false = refl
