-- Behind each prefix of a script: what is out at each proxy was sent for the request that it names, its parts fit, and no reply is left.
use Rattle.std.proofs.Common.{◌≡◌, ◌≢◌, ℕ, ◌+◌, ◌==◌, true, false, List, [], ◌∷◌, ◌++◌, Option, None, Some, refl, sym, ap, subst}
use Rattle.std.specs.Prelude.{flat_map}
use Rattle.etcd_types.specs.declared.answer.Answer.{Answer}
use Rattle.etcd_types.specs.declared.answer.Answer.TheVariants.{Refused}
use Rattle.etcd_types.specs.declared.request.Request.{Request}
use Rattle.store_model.specs.Step.{exec}
use Rattle.core_model.specs.declared.event.CoreEvent.{CoreEvent}
use Rattle.core_model.specs.declared.event.CoreEvent.TheVariants as event
use Rattle.core_model.specs.declared.event.Outcome.{Outcome}
use Rattle.core_model.specs.Step.{stepped}
use Rattle.core_fits.specs.Fits.{CoreFits}
use Rattle.core_fits.proofs.Fit.{fits_start, fits_step}
use Rattle.owner_fits.specs.Laws.{OwnersFit}
use Rattle.owner_fits.proofs.Runs.{starts_fit, steps_fit}
use Rattle.script_text.specs.declared.item.Item.{Item}
use Rattle.script_text.specs.declared.item.Item.TheVariants as item
use Rattle.script_text.specs.declared.line.Line.{Line}
use Rattle.world_model.specs.Gains.{Replies, all_fetched, reply_items}
use Rattle.world_model.specs.Lives.{life, asked_as, is_named}
use Rattle.world_model.specs.Places.{nth, with_place, with_posted, with_call}
use Rattle.world_model.specs.Sends.{closed_in}
use Rattle.world_model.specs.Starts.{new_place}
use Rattle.world_model.specs.State.{Place, OpenedStream, World}
use Rattle.world_model.specs.Transcript.{done}
use Rattle.world_laws.proofs.Effects.{Turn, ticks, asks_it, posts_it, calls, opens, closes, answers, loses, delivers, cuts, takes, waits, leaves, Begins, first, again, Effect, starts, sets, executes, expires, applies, pushes, turns}
use Rattle.world_laws.proofs.Effects as effects
use Rattle.held_laws.proofs.Items.{reply_silent, reply_unasking}
use Rattle.held_laws.proofs.Lines.{start_silent, started_life}
use Rattle.held_laws.proofs.Worlds.{no_place}
use Rattle.prefix_laws.proofs.Prefixes.{IsKept}
use Rattle.prefix_laws.proofs.Places.{OfPlaces, Lasts, places_kept, NoneLeft, none_kept}
use Rattle.renewed_laws.proofs.Gains.{is_other, stepped_to, Gain, gain}
use Rattle.renewed_laws.proofs.Gains as gains
use Rattle.renewed_laws.proofs.Lives.{IsStill, still-append}
use Rattle.renewed_laws.proofs.Lines.{ran_executes}
use Rattle.renewed_laws.proofs.Stories.{later}
use Rattle.renewed_laws.proofs.Turns.{answer_turned, turned}
use Rattle.renewed_laws.proofs.Worlds.{answers_of, life_of, WorldOk, Executes, same_executes, Turned}
use Rattle.executed_laws.proofs.Naming.{Unnaming, reply_unnaming, turn_names, turn_others}
use Rattle.executed_laws.proofs.Reading.{WaitsSo}
use Rattle.executed_laws.proofs.Sends.{clock_sent}
use Rattle.executed_laws.proofs.Turning.{turn_free, turn_new}
use Rattle.executed_laws.proofs.Keeping.{Sending, turn_sends, PlaceSent, PlacesSent, placed_sent, stay_sent, same_sent, new_sent_place, turn_placed}

-- the items begin with the world's
pub record BeginsAs (items : List Item) (namespace leasing : List ℕ) : Type 0 where
  pub members : ℕ
  pub rest : List Item
  pub is : items ≡ item.World members namespace leasing ∷ rest

pub begins_on : (items more : List Item) (namespace leasing : List ℕ) → BeginsAs items namespace leasing → BeginsAs (items ++ more) namespace leasing
begins_on items more namespace leasing b = record { members = b.members; rest = b.rest ++ more; is = ap (λ (xs : List Item). xs ++ more) b.is }

pub record WorldSent (items : List Item) (w : World) : Type 0 where
  pub begins : BeginsAs items w.namespace w.leasing
  pub places : PlacesSent w.namespace w.leasing w.calls items w

pub record AllKept (items : List Item) (w : World) : Type 0 where
  pub sent : WorldSent items w
  pub fits : OfPlaces CoreFits items w
  pub owners : OfPlaces OwnersFit items w
  pub none : OfPlaces NoneLeft items w

-- ---- what a line leaves

-- with the world's names as they were
record Leaves (w : World) (items gained : List Item) (after : World) : Type 0 where
  namespace : after.namespace ≡ w.namespace
  leasing : after.leasing ≡ w.leasing
  places : PlacesSent w.namespace w.leasing after.calls (items ++ gained) after

closed_leasing : (w : World) (number : ℕ) (o : Option OpenedStream) → (closed_in w number o).leasing ≡ w.leasing
closed_leasing w number None = refl
closed_leasing w number (Some s) = refl

turn_leasing : (w : World) (p : ℕ) (x : Place) (e : CoreEvent) (o : Outcome) (v : World) (y : Place) (own : List Item) (told : Replies) → Turn w p x e o v y own told → v.leasing ≡ w.leasing
turn_leasing w p x _ _ _ _ _ _ (ticks o) = refl
turn_leasing w p x _ _ _ _ _ _ (asks_it ticket q o t) = refl
turn_leasing w p x _ _ _ _ _ _ (posts_it ticket path body q o t) = refl
turn_leasing w p x _ _ _ _ _ _ (calls own member ticket q) = refl
turn_leasing w p x _ _ _ _ _ _ (opens own member ask) = refl
turn_leasing w p x _ _ _ _ _ _ (closes own number e) = closed_leasing w number (nth w.streams number)
turn_leasing w p x _ _ _ _ _ _ (answers number call a o e k) = refl
turn_leasing w p x _ _ _ _ _ _ (loses number call o e) = refl
turn_leasing w p x _ _ _ _ _ _ (delivers number s i more o a b c d e) = refl
turn_leasing w p x _ _ _ _ _ _ (cuts number s o a b c d) = refl
turn_leasing w p x _ _ _ _ _ _ (takes ticket i) = refl
turn_leasing w p x _ _ _ _ _ _ (waits ticket o t) = refl
turn_leasing w p x _ _ _ _ _ _ (leaves ticket o) = refl

turn_leaves : (items own : List Item) (w v : World) (p : ℕ) (x y : Place) (e : CoreEvent) (told : Replies) → WorldOk w.namespace items w → (t : Turned w.namespace items own w v p x y e told) → v.leasing ≡ w.leasing
    → Sending w.leasing (later (life_of w.namespace w.calls items p x) (nth y.calls) (answers_of v.calls) own) x.core e x.clock
    → ((t : ℕ) → t ≢ 0 → asked_as p t (life p items) ≡ None → is_named p t own ≡ false) → ((q : ℕ) → (q == p) ≡ false → Unnaming q own)
    → ((ticket word : ℕ) (q : Request) → e ≡ event.Ask ticket q word → asked_as p ticket (life p items) ≡ None) → ((t : ℕ) → t ≢ 0 → is_named p t own ≡ true → WaitsSo t (stepped x.core e x.clock).core) → PlacesSent w.namespace w.leasing w.calls items w
    → let f = all_fetched y told in Leaves w items (own ++ flat_map (reply_items p f.place.posted) f.replies) (with_place v p f.place)
turn_leaves items own w v p x y e told h t l sends names others free new s = record { namespace = t.namespace_is; leasing = l; places = turn_placed w.leasing w.namespace items own w v p x y e told h t sends names others free new s }

start_unnaming : (w : World) (p clock life' : ℕ) (i : Item) (q : ℕ) → Begins w p clock life' i → Unnaming q (i ∷ [])
start_unnaming w p _ _ _ q (first e) t = refl
start_unnaming w p _ _ _ q (again x e) t = refl

-- the store makes a step
store_leaves : (items : List Item) (i : Item) (w after : World) → after.namespace ≡ w.namespace → after.leasing ≡ w.leasing → after.places ≡ w.places → ((q : ℕ) → IsStill q (i ∷ [])) → ((q : ℕ) → Unnaming q (i ∷ [])) → Executes w.calls after.calls (i ∷ [])
    → PlacesSent w.namespace w.leasing w.calls items w → Leaves w items (i ∷ []) after
store_leaves items i w after n l p quiet silent g s = record { namespace = n; leasing = l; places = stay_sent w.namespace w.leasing items (i ∷ []) w after p quiet silent g s }

effect_leaves : (items : List Item) (w after : World) (gained : List Item) → WorldOk w.namespace items w → OfPlaces CoreFits items w → PlacesSent w.namespace w.leasing w.calls items w → Effect w after gained → is_other gained ≡ true → Leaves w items gained after
effect_leaves items w _ _ h fits s (starts p clock life' i b) o = record {
  namespace = refl;
  leasing = refl;
  places = placed_sent w.namespace w.leasing items (i ∷ []) w w p (new_place w clock life') refl (λ q n. let k = start_silent p clock life' w i q n b in (k.0.lives, k.1)) (λ q n. start_unnaming w p clock life' i q b) (same_executes w.calls (i ∷ [])) s
      (new_sent_place w.namespace (items ++ i ∷ []) w p clock life' (started_life items p clock life' w i b));
}
effect_leaves items w _ _ h fits s (sets p millis x e forward) o = record {
  namespace = refl;
  leasing = refl;
  places = same_sent w.namespace w.leasing items (item.Clock p millis ∷ []) w p x (record x { clock = millis }) e refl refl (λ q. (λ xs. refl, λ t. refl)) (λ q t. refl) s;
}
effect_leaves items w _ _ h fits s (effects.refuses_post p ticket path body a x e) o = absurd (cc)
effect_leaves items w _ _ h fits s (executes number call e fresh) o =
    let a = (exec w.store call.member call.request).1 in
    store_leaves items (item.Executed number a) w _ refl refl refl (λ q. (λ xs. refl, λ t. refl)) (λ q t. refl) (ran_executes w.calls number call a e) s
effect_leaves items w _ _ h fits s (expires lease t e due) o = store_leaves items (item.Expired lease) w _ refl refl refl (λ q. (λ xs. refl, λ t. refl)) (λ q t. refl) (same_executes w.calls (item.Expired lease ∷ [])) s
effect_leaves items w _ _ h fits s (applies member revision t e) o =
    store_leaves items (item.Applied member revision) w _ refl refl refl (λ q. (λ xs. refl, λ t. refl)) (λ q t. refl) (same_executes w.calls (item.Applied member revision ∷ [])) s
effect_leaves items w _ _ h fits s (pushes number st t i e a b k) o = store_leaves items (item.Pushed number i) w _ refl refl refl (λ q. (λ xs. refl, λ t. refl)) (λ q t. refl) (same_executes w.calls (item.Pushed number i ∷ [])) s
effect_leaves items w _ _ h fits s (turns p x e out v y own told at is t) o =
    let z = (all_fetched y told).place in
    turn_leaves items own w v p x y e told h (turned w.namespace items (flat_map (reply_items p z.posted) (all_fetched y told).replies) w p x e out v y own told h at is t o) (turn_leasing w p (stepped_to x e) e out v y own told t)
    (turn_sends w.leasing w.namespace items w p x e out v y own told h at is (fits p x at).write (s p x at).prefixed t)
    (turn_names (life_of w.namespace w.calls items p x) w p x e out v y own told (h.places p x at).core (clock_sent _ _ _ x.clock x.core (s p x at).sent).acquires.order (h.places p x at).rows refl is t) (turn_others w p (stepped_to x e) e out v y own told t)
    (turn_free w.namespace items w p x e out v y own told h at t) (turn_new w p x e out v y own told (h.places p x at).core (clock_sent _ _ _ x.clock x.core (s p x at).sent).acquires.order is t) s

answer_no_work : (call : ℕ) (a : Answer) → event.Answer call a ≡ event.Work → ⊥
answer_no_work call a e = absurd (cc)

answer_no_ask : (call : ℕ) (a : Answer) (ticket word : ℕ) (q : Request) → event.Answer call a ≡ event.Ask ticket q word → ⊥
answer_no_ask call a ticket word q e = absurd (cc)

none_named : false ≡ true → ⊥
none_named e = absurd (cc)

gain_leaves : (items : List Item) (w after : World) (gained : List Item) → WorldOk w.namespace items w → OfPlaces CoreFits items w → PlacesSent w.namespace w.leasing w.calls items w → Gain w after gained → Leaves w items gained after
gain_leaves items w _ _ h fits s (gains.answers number call x a o there is at lived out) =
    turn_leaves items (item.Answered number ∷ []) w (with_call w number (record call { settled = true })) call.proxy x (stepped_to x (event.Answer call.own a)) (event.Answer call.own a) [] h
    (answer_turned w.namespace items w number call x a h there is at lived) refl (λ f. absurd (answer_no_work call.own a f)) (λ t n none. refl) (λ q n t. refl) (λ ticket k q f. absurd (answer_no_ask call.own a ticket k q f)) (λ t n f. absurd (none_named f)) s
gain_leaves items w _ _ h fits s (gains.refuses_post p ticket path body r x e) =
    let posted = (with_posted ticket x).posted in
    let rest = reply_items p posted (ticket, Refused r) in
    record {
      namespace = refl;
      leasing = refl;
      places = same_sent w.namespace w.leasing items (item.Posted p ticket path body ∷ rest) w p x (with_posted ticket x) e refl refl
          (λ q. still-append q (item.Posted p ticket path body ∷ []) rest (λ xs. refl, λ t. refl) ((reply_silent q p posted (ticket, Refused r)).lives, reply_unasking q p posted (ticket, Refused r))) (λ q t. reply_unnaming q p posted (ticket, Refused r) t) s;
    }
gain_leaves items w _ _ h fits s (gains.other after gained e o) = effect_leaves items w after gained h fits s e o

-- ---- the script

sent_after : (items gained : List Item) (w after : World) → BeginsAs items w.namespace w.leasing → Leaves w items gained after → WorldSent (items ++ gained) (record after { lines = after.lines + 1 })
sent_after items gained w after b h = record {
  begins = subst (λ (n : List ℕ). BeginsAs (items ++ gained) n after.leasing) (sym h.namespace) (subst (λ (n : List ℕ). BeginsAs (items ++ gained) w.namespace n) (sym h.leasing) (begins_on items gained w.namespace w.leasing b));
  places = λ p x e.
      subst (λ (n : List ℕ). PlaceSent n after.leasing after.calls (items ++ gained) p x) (sym h.namespace)
      (subst (λ (n : List ℕ). PlaceSent w.namespace n after.calls (items ++ gained) p x) (sym h.leasing) (h.places p x e));
}

owners_last : Lasts OwnersFit
owners_last = record { start = starts_fit; step = λ c e now b ok h. steps_fit c e now b ok h }

fits_last : Lasts CoreFits
fits_last = record { start = fits_start; step = λ c e now b ok h. fits_step c e now ok h }

pub all_kept : (script : List Line) → IsKept script AllKept
all_kept script = record {
  begins = λ members namespace leasing. record {
    sent = record { begins = record { members = members; rest = []; is = refl }; places = λ p x e. no_place x e };
    fits = λ p x e. no_place x e;
    owners = λ p x e. no_place x e;
    none = λ p x e. no_place x e;
  };
  goes_on = λ namespace items w l gained n e ok h.
      let named : WorldOk w.namespace items w = subst (λ (ns : List ℕ). WorldOk ns items w) (sym ok.namespace_is) ok in
      record {
        sent = sent_after items gained w (done w l).world h.sent.begins (gain_leaves items w (done w l).world gained named h.fits h.sent.places (gain w l gained e));
        fits = (places_kept CoreFits fits_last script).goes_on namespace items w l gained n e ok h.fits;
        owners = (places_kept OwnersFit owners_last script).goes_on namespace items w l gained n e ok h.owners;
        none = (none_kept script).goes_on namespace items w l gained n e ok h.none;
      };
}
