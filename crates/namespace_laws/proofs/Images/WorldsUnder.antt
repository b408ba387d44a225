-- Every line keeps it so that all proxies of the world are named, its calls are under the namespace, and its store lived by steps
-- under the namespace.
use Rattle.std.proofs.Common.{◌≡◌, inl, inr, ℕ, zero, suc, true, not, List, [], ◌∷◌, ◌++◌, map, Option, None, Some, Result, Ok, Err, refl, sym, ◌∙◌, ap, subst}
use Rattle.std.specs.List.{list_all}
use Rattle.etcd_types.specs.declared.request.Request.{Request}
use Rattle.etcd_types.specs.declared.request.Request.TheVariants as request
use Rattle.etcd_types.specs.declared.request.WatchAsk.{WatchAsk}
use Rattle.etcd_types.specs.declared.watch.WatchItem.{WatchItem}
use Rattle.proxy_model.specs.Wrapped.{request_under, watch_under}
use Rattle.script_text.specs.declared.item.Item.{Item}
use Rattle.script_text.specs.declared.line.Line.{Line}
use Rattle.store_model.specs.State.{State, starting}
use Rattle.store_model.specs.Step.{exec}
use Rattle.store_model.specs.Watches.{opened}
use Rattle.store_laws.specs.Lives.Lives as lives
use Rattle.store_laws.specs.Lives.Lives.{StoreStep, state_or, pushed_or, lived}
use Rattle.core_model.specs.declared.event.CoreEvent.{CoreEvent}
use Rattle.core_model.specs.declared.event.CoreEvent.TheVariants as event
use Rattle.core_model.specs.declared.event.Outcome.{Outcome}
use Rattle.core_model.specs.declared.event.Outcome.TheVariants as outcome
use Rattle.core_model.specs.declared.event.StepFault.{StepFault}
use Rattle.core_model.specs.Step.{stepped}
use Rattle.core_model.specs.Takes.{ready}
use Rattle.core_laws.proofs.Steps.Lists.{all_pushed, map_pushed}
use Rattle.core_laws.proofs.Steps.Staying.{steps_stay}
use Rattle.namespace_laws.specs.Stored.Lives.{step_under, step_lacks}
use Rattle.world_model.specs.declared.sent_call.SentCall.{SentCall}
use Rattle.world_model.specs.Gains.{Replies, fetched, fetched_as, fetched_if, all_fetched}
use Rattle.world_model.specs.Places.{nth, place_at, with_core, with_place, with_ticket, with_posted}
use Rattle.world_model.specs.Sends.{new_call, closed_in}
use Rattle.world_model.specs.Starts.{settings, new_place}
use Rattle.world_model.specs.State.{Place, OpenedStream, World}
use Rattle.world_model.specs.Transcript.{world_behind}
use Rattle.namespace_laws.specs.Images.Named.{CoreNamed, CallUnder, WatchUnder}
use Rattle.namespace_laws.proofs.Images.Alls.{all_if, AllKept, kept_all, with_kept_all, AllOf, nth_all, with_nth_all, append_all}
use Rattle.world_laws.proofs.Effects.{Turn, ticks, asks_it, posts_it, calls, opens, closes, answers, loses, delivers, cuts, takes, waits, leaves, IsPushed, Effect, starts, sets, refuses_post, executes, expires, applies, pushes, turns}
use Rattle.namespace_laws.proofs.Images.Inductions.{IsKept, every_world}
use Rattle.namespace_laws.proofs.Images.JobNaming.{OutcomeUnder}
use Rattle.namespace_laws.proofs.Images.StepNaming.{starts_named, steps_stay_named, outcomes_under}

-- The store lived by steps under the namespace, none of which has an empty key.
pub record LivesUnder (ns : List ℕ) (members : ℕ) (s : State) : Type 0 where
  pub steps : List StoreStep
  pub keys : list_all (λ e. not (step_lacks e)) steps ≡ true
  pub store : s ≡ lived (starting members) (map (step_under ns) steps)

lived-append : (s : State) (es : List StoreStep) (e : StoreStep) → lived s (es ++ e ∷ []) ≡ lives.stepped (lived s es) e
lived-append s [] e = refl
lived-append s (f ∷ es) e = lived-append (lives.stepped s f) es e

one_more : (ns : List ℕ) (members : ℕ) (s t : State) (e : StoreStep) → not (step_lacks e) ≡ true → t ≡ lives.stepped s (step_under ns e) → LivesUnder ns members s → LivesUnder ns members t
one_more ns members s t e k is h = record {
  steps = h.steps ++ e ∷ [];
  keys = all_pushed (λ x. not (step_lacks x)) e h.steps h.keys k;
  store =
      is ∙ ap (λ (u : State). lives.stepped u (step_under ns e)) h.store ∙ sym (lived-append (starting members) (map (step_under ns) h.steps) (step_under ns e))
      ∙ ap (lived (starting members)) (sym (map_pushed (step_under ns) e h.steps));
}

-- A proxy of the world, and the world.

pub record PlaceUnder (ns p : List ℕ) (x : Place) : Type 0 where
  pub namespace : x.core.settings.namespace ≡ ns
  pub core : CoreNamed p x.core

abbrev pub SentUnder : List ℕ → SentCall → Type 0
SentUnder ns call = CallUnder ns call.request

pub record WorldUnder (w : World) : Type 0 where
  pub places : AllKept (PlaceUnder w.namespace w.leasing) w.places
  pub calls : AllOf (SentUnder w.namespace) w.calls
  pub store : LivesUnder w.namespace w.members w.store

-- A step of a proxy.

same_core : (ns p : List ℕ) (x y : Place) → y.core ≡ x.core → PlaceUnder ns p x → PlaceUnder ns p y
same_core ns p x y e h = record { namespace = ap (λ c. c.settings.namespace) e ∙ h.namespace; core = subst (CoreNamed p) (sym e) h.core }

step_under_so : (ns p : List ℕ) (x : Place) (e : CoreEvent) → PlaceUnder ns p x → PlaceUnder ns p (with_core x (stepped x.core e x.clock).core)
step_under_so ns p x e h = record {
  namespace = ap (λ s. s.namespace) (steps_stay x.core e x.clock).settings ∙ h.namespace;
  core = steps_stay_named p x.core e x.clock h.core;
}

-- the replies are fetched
fetched_under : (ns p : List ℕ) (n : ℕ) (x : Place) (got : Replies) → PlaceUnder ns p x → PlaceUnder ns p (fetched n x got).place
fetched_under ns p zero x got h = h
fetched_under ns p (suc n) x got h = by_ticket (ready x.core) (λ y g k. fetched_under ns p n y g k)
  where
    by_outcome : (ticket : ℕ) (y : Place) (r : Result Outcome StepFault) → PlaceUnder ns p y → ((y : Place) (g : Replies) → PlaceUnder ns p y → PlaceUnder ns p (fetched n y g).place) → PlaceUnder ns p (fetched_as (fetched n) y ticket got r).place
    by_outcome ticket y (Ok (outcome.Replied a)) k more = more y _ k
    by_outcome ticket y (Ok outcome.Waiting) k more = k
    by_outcome ticket y (Ok outcome.Pending) k more = k
    by_outcome ticket y (Ok outcome.Noted) k more = k
    by_outcome ticket y (Ok (outcome.Item i)) k more = k
    by_outcome ticket y (Ok (outcome.Job j)) k more = k
    by_outcome ticket y (Err f) k more = k

    by_ticket : (o : Option ℕ) → ((y : Place) (g : Replies) → PlaceUnder ns p y → PlaceUnder ns p (fetched n y g).place) → PlaceUnder ns p (fetched_if (fetched n) x got o).place
    by_ticket None more = h
    by_ticket (Some ticket) more = by_outcome ticket _ (stepped x.core (event.Take ticket) x.clock).outcome (step_under_so ns p x (event.Take ticket) h) more

-- What comes of it: the world and the place.

pub record TurnUnder (w v : World) (y : Place) : Type 0 where
  pub world : WorldUnder v
  pub namespace : v.namespace ≡ w.namespace
  pub leasing : v.leasing ≡ w.leasing
  pub place : PlaceUnder w.namespace w.leasing y

still_so : (w : World) (y : Place) → WorldUnder w → PlaceUnder w.namespace w.leasing y → TurnUnder w w y
still_so w y h n = record { world = h; namespace = refl; leasing = refl; place = n }

-- a change of one call that keeps its request
pub call_under : (w : World) (number : ℕ) (call : SentCall) → nth w.calls number ≡ Some call → WorldUnder w → SentUnder w.namespace call
call_under w number call e h = all_if (SentUnder w.namespace) (nth w.calls number) call e (nth_all (SentUnder w.namespace) w.calls number h.calls)

pub same_watch : (ns : List ℕ) (ask bare : WatchAsk) → request.Watch ask ≡ request_under ns (request.Watch bare) → ask ≡ watch_under ns bare
same_watch ns ask bare e = cc

opens_so : (w : World) (member : ℕ) (ask : WatchAsk) → WatchUnder w.namespace (request.Watch ask) → LivesUnder w.namespace w.members w.store → LivesUnder w.namespace w.members (opened w.store member ask).0
opens_so w member ask u h =
    one_more w.namespace w.members w.store (opened w.store member ask).0 (lives.opens member u.bare) refl
    (ap (λ (a : WatchAsk). (opened w.store member a).0) (same_watch w.namespace ask u.bare u.under)) h

closed_so : (w : World) (number : ℕ) (o : Option OpenedStream) (y : Place) → WorldUnder w → PlaceUnder w.namespace w.leasing y → TurnUnder w (closed_in w number o) y
closed_so w number None y h n = still_so w y h n
closed_so w number (Some s) y h n = record { world = record { places = h.places; calls = h.calls; store = h.store }; namespace = refl; leasing = refl; place = n }

turn_so : (w v : World) (p : ℕ) (x y : Place) (e : CoreEvent) (o : Outcome) (own : List Item) (told : Replies) → Turn w p x e o v y own told → OutcomeUnder w.namespace (Ok o)
    → WorldUnder w → PlaceUnder w.namespace w.leasing x → TurnUnder w v y
turn_so w v p x y e o own told (ticks z) u h n = still_so w x h n
turn_so w v p x y e o own told (asks_it ticket q z f) u h n = still_so w (with_ticket ticket x) h (same_core w.namespace w.leasing x (with_ticket ticket x) refl n)
turn_so w v p x y e o own told (posts_it ticket path body q z f) u h n = still_so w (with_posted ticket x) h (same_core w.namespace w.leasing x (with_posted ticket x) refl n)
turn_so w v p x y e o own told (calls number member ticket q) u h n = record {
  world = record { places = h.places; calls = append_all (SentUnder w.namespace) w.calls (new_call p x number member q) u h.calls; store = h.store };
  namespace = refl;
  leasing = refl;
  place = same_core w.namespace w.leasing x _ refl n;
}
turn_so w v p x y e o own told (opens number member ask) u h n = record {
  world = record { places = h.places; calls = h.calls; store = opens_so w member ask u h.store };
  namespace = refl;
  leasing = refl;
  place = same_core w.namespace w.leasing x _ refl n;
}
turn_so w v p x y e o own told (closes number stream at) u h n = closed_so w stream (nth w.streams stream) x h n
turn_so w v p x y e o own told (answers number call a z f g) u h n = record {
  world = record { places = h.places; calls = with_nth_all (SentUnder w.namespace) w.calls number _ (call_under w number call f h) h.calls; store = h.store };
  namespace = refl;
  leasing = refl;
  place = n;
}
turn_so w v p x y e o own told (loses number call z f) u h n = record {
  world = record { places = h.places; calls = with_nth_all (SentUnder w.namespace) w.calls number _ (call_under w number call f h) h.calls; store = h.store };
  namespace = refl;
  leasing = refl;
  place = n;
}
turn_so w v p x y e o own told (delivers number s i rest z f g a b r) u h n =
    record { world = record { places = h.places; calls = h.calls; store = h.store }; namespace = refl; leasing = refl; place = n }
turn_so w v p x y e o own told (cuts number s z f g a b) u h n =
    record { world = record { places = h.places; calls = h.calls; store = h.store }; namespace = refl; leasing = refl; place = n }
turn_so w v p x y e o own told (takes ticket i) u h n = still_so w x h n
turn_so w v p x y e o own told (waits ticket z f) u h n = still_so w x h n
turn_so w v p x y e o own told (leaves ticket z) u h n = still_so w x h n

-- Lines.

with_place_so : (w : World) (p : ℕ) (x : Place) → PlaceUnder w.namespace w.leasing x → WorldUnder w → WorldUnder (with_place w p x)
with_place_so w p x n h = record { places = with_kept_all (PlaceUnder w.namespace w.leasing) w.places p x n h.places; calls = h.calls; store = h.store }

pub place_so : (w : World) (p : ℕ) (x : Place) → place_at w p ≡ Some x → WorldUnder w → PlaceUnder w.namespace w.leasing x
place_so w p x e h = all_if (PlaceUnder w.namespace w.leasing) (place_at w p) x e (kept_all (PlaceUnder w.namespace w.leasing) w.places p h.places)

-- the store made a step
with_store_so : (w : World) (t : State) → LivesUnder w.namespace w.members t → WorldUnder w → WorldUnder (record w { store = t })
with_store_so w t s h = record { places = h.places; calls = h.calls; store = s }

pushes_so : (w : World) (number : ℕ) (t : State) (i : WatchItem) → IsPushed w.store number t i → LivesUnder w.namespace w.members w.store → LivesUnder w.namespace w.members t
pushes_so w number t i (inl e) h = one_more w.namespace w.members w.store t (lives.pushes number) refl (sym (ap (pushed_or w.store) e)) h
pushes_so w number t i (inr e) h = one_more w.namespace w.members w.store t (lives.progresses number) refl (sym (ap (pushed_or w.store) e)) h

executes_so : (w : World) (call : SentCall) → SentUnder w.namespace call → LivesUnder w.namespace w.members w.store → LivesUnder w.namespace w.members (exec w.store call.member call.request).0
executes_so w call u h =
    one_more w.namespace w.members w.store _ (lives.executes call.member u.bare) (ap not u.keys)
    (ap (λ (q : Request). (exec w.store call.member q).0) u.under) h

-- what comes of a turn, and that what it sends is under the namespace
pub turn_under : (w v : World) (p : ℕ) (x y : Place) (e : CoreEvent) (o : Outcome) (own : List Item) (told : Replies) → place_at w p ≡ Some x → (stepped x.core e x.clock).outcome ≡ Ok o
    → Turn w p (with_core x (stepped x.core e x.clock).core) e o v y own told → WorldUnder w → TurnUnder w v y × OutcomeUnder w.namespace (Ok o)
turn_under w v p x y e o own told at is t h =
    let n = place_so w p x at h in
    let u : OutcomeUnder w.namespace (Ok o) = subst (λ (ns : List ℕ). OutcomeUnder ns (Ok o)) n.namespace (subst (OutcomeUnder x.core.settings.namespace) is (outcomes_under w.leasing x.core e x.clock n.core)) in
    (turn_so w v p (with_core x (stepped x.core e x.clock).core) y e o own told t u h (step_under_so w.namespace w.leasing x e n), u)

effect_so : (w after : World) (items : List Item) → Effect w after items → WorldUnder w → WorldUnder after
effect_so w after items (starts p clock life i b) h = with_place_so w p (new_place w clock life) (record { namespace = refl; core = starts_named (settings w) }) h
effect_so w after items (sets p millis x e forward) h = with_place_so w p (record x { clock = millis }) (same_core w.namespace w.leasing x _ refl (place_so w p x e h)) h
effect_so w after items (refuses_post p ticket path body a x e) h = with_place_so w p (with_posted ticket x) (same_core w.namespace w.leasing x _ refl (place_so w p x e h)) h
effect_so w after items (executes number call e fresh) h =
    let u = call_under w number call e h in
    record { places = h.places; calls = with_nth_all (SentUnder w.namespace) w.calls number _ u h.calls; store = executes_so w call u h.store }
effect_so w after items (expires lease t e due) h = with_store_so w t (one_more w.namespace w.members w.store t (lives.expires lease) refl (sym (ap (state_or w.store) e)) h.store) h
effect_so w after items (applies member revision t e) h = with_store_so w t (one_more w.namespace w.members w.store t (lives.applies member revision) refl (sym (ap (state_or w.store) e)) h.store) h
effect_so w after items (pushes number s t i e a b f) h = record { places = h.places; calls = h.calls; store = pushes_so w number t i f h.store }
effect_so w after items (turns p x e o v y own told at is t) h =
    let r = (turn_under w v p x y e o own told at is t h).0 in
    let z = (all_fetched y told).place in
    let k : PlaceUnder w.namespace w.leasing z = fetched_under w.namespace w.leasing _ y told r.place in
    let l : PlaceUnder v.namespace v.leasing z = subst (λ (ns : List ℕ). PlaceUnder ns v.leasing z) (sym r.namespace) (subst (λ (q : List ℕ). PlaceUnder w.namespace q z) (sym r.leasing) k) in
    with_place_so v p z l r.world

-- All lines.

pub is_kept : IsKept WorldUnder
is_kept = record {
  begins = λ members namespace leasing. record { places = tt; calls = tt; store = record { steps = []; keys = refl; store = refl } };
  goes_on = effect_so;
  counts = λ w n h. record { places = h.places; calls = h.calls; store = h.store };
}

pub worlds_under : (lines : List Line) (w : World) → world_behind lines ≡ Ok (Some w) → WorldUnder w
worlds_under lines w e = every_world WorldUnder is_kept lines w e
