-- Every proxy of a world has the world's leasing prefix, which no line changes.
use Rattle.std.proofs.Common.{◌≡◌, ℕ, ◌==◌, Bool, true, false, List, [], ◌∷◌, length, Option, None, Some, Ok, refl, sym, ◌∙◌, ap}
use Rattle.std.specs.Prelude.{flat_map}
use Rattle.core_model.specs.declared.event.CoreEvent.{CoreEvent}
use Rattle.core_model.specs.declared.event.CoreEvent.TheVariants as event
use Rattle.core_model.specs.declared.event.Outcome.{Outcome}
use Rattle.core_model.specs.State.{Core}
use Rattle.core_laws.proofs.Steps.Staying.{steps_stay}
use Rattle.script_text.specs.declared.item.Item.{Item}
use Rattle.script_text.specs.declared.item.Item.TheVariants as item
use Rattle.script_text.specs.declared.line.Line.{Line}
use Rattle.world_model.specs.Gains.{Replies, all_fetched, reply_items}
use Rattle.world_model.specs.Places.{nth, kept_at, place_at, with_place, with_posted, with_call}
use Rattle.world_model.specs.Sends.{closed_in}
use Rattle.world_model.specs.Starts.{new_place}
use Rattle.world_model.specs.State.{Numbered, Place, OpenedStream, World}
use Rattle.world_model.specs.Transcript.{done}
use Rattle.world_laws.proofs.Effects.{Turn, ticks, asks_it, posts_it, calls, opens, closes, answers, loses, delivers, cuts, takes, waits, leaves, Effect, starts, sets, executes, expires, applies, pushes, turns}
use Rattle.world_laws.proofs.Effects as effects
use Rattle.held_laws.proofs.Worlds.{equal, one_place, placed_itself, placed_other}
use Rattle.renewed_laws.proofs.Gains.{is_other, stepped_to, Gain, gain}
use Rattle.renewed_laws.proofs.Gains as gains
use Rattle.renewed_laws.proofs.Turns.{answer_turned, turned}
use Rattle.renewed_laws.proofs.Worlds.{WorldOk, Turned}
use Rattle.prefix_laws.proofs.Places.{fetched_so}

-- the namespace and the leasing prefix
pub record SameNames (w v : World) : Type 0 where
  pub namespace : v.namespace ≡ w.namespace
  pub leasing : v.leasing ≡ w.leasing

closed_names : (w : World) (number : ℕ) (o : Option OpenedStream) → SameNames w (closed_in w number o)
closed_names w number None = record { namespace = refl; leasing = refl }
closed_names w number (Some s) = record { namespace = refl; leasing = refl }

turn_names : (w : World) (p : ℕ) (x : Place) (e : CoreEvent) (o : Outcome) (v : World) (y : Place) (own : List Item) (told : Replies) → Turn w p x e o v y own told → SameNames w v
turn_names w p x _ _ _ _ _ _ (ticks o) = record { namespace = refl; leasing = refl }
turn_names w p x _ _ _ _ _ _ (asks_it ticket q o n) = record { namespace = refl; leasing = refl }
turn_names w p x _ _ _ _ _ _ (posts_it ticket path body q o n) = record { namespace = refl; leasing = refl }
turn_names w p x _ _ _ _ _ _ (calls own member ticket q) = record { namespace = refl; leasing = refl }
turn_names w p x _ _ _ _ _ _ (opens own member ask) = record { namespace = refl; leasing = refl }
turn_names w p x _ _ _ _ _ _ (closes own number e) = closed_names w number (nth w.streams number)
turn_names w p x _ _ _ _ _ _ (answers number call a o e k) = record { namespace = refl; leasing = refl }
turn_names w p x _ _ _ _ _ _ (loses number call o e) = record { namespace = refl; leasing = refl }
turn_names w p x _ _ _ _ _ _ (delivers number s i more o a b c d e) = record { namespace = refl; leasing = refl }
turn_names w p x _ _ _ _ _ _ (cuts number s o a b c d) = record { namespace = refl; leasing = refl }
turn_names w p x _ _ _ _ _ _ (takes ticket i) = record { namespace = refl; leasing = refl }
turn_names w p x _ _ _ _ _ _ (waits ticket o n) = record { namespace = refl; leasing = refl }
turn_names w p x _ _ _ _ _ _ (leaves ticket o) = record { namespace = refl; leasing = refl }

abbrev pub AllLease : World → List ℕ → Type 0
AllLease w prefix = (q : ℕ) (x : Place) → place_at w q ≡ Some x → x.core.own.waits.prefix ≡ prefix

-- what a line leaves: the same names, and each proxy has them
pub record Leases (w after : World) : Type 0 where
  pub names : SameNames w after
  pub places : AllLease w w.leasing → AllLease after w.leasing

placed_leases : (w v : World) (p : ℕ) (z : Place) → SameNames w v → v.places ≡ w.places → (AllLease w w.leasing → z.core.own.waits.prefix ≡ w.leasing) → Leases w (with_place v p z)
placed_leases w v p z n same g = record { names = record { namespace = n.namespace; leasing = n.leasing }; places = λ h q y at. by h q y at (q == p) refl }
  where
    by : AllLease w w.leasing → (q : ℕ) (y : Place) → place_at (with_place v p z) q ≡ Some y → (b : Bool) → (q == p) ≡ b → y.core.own.waits.prefix ≡ w.leasing
    by h q y at true e =
        let one : z ≡ y = one_place z y (sym (placed_itself w v p z) ∙ ap (place_at (with_place v p z)) (sym (equal q p e)) ∙ at) in
        ap (λ (x : Place). x.core.own.waits.prefix) (sym one) ∙ g h
    by h q y at false e = h q y (sym (placed_other w v p q z same e) ∙ at)

stays_so : (w after : World) → SameNames w after → after.places ≡ w.places → Leases w after
stays_so w after n same = record { names = n; places = λ h q x at. h q x (sym (kept_there same q) ∙ at) }
  where
    kept_there : after.places ≡ w.places → (q : ℕ) → place_at after q ≡ place_at w q
    kept_there e q = ap (λ (ps : Numbered Place). kept_at ps q) e

turned_leases : (namespace : List ℕ) (items own : List Item) (w v : World) (p : ℕ) (x y : Place) (e : CoreEvent) (told : Replies) → Turned namespace items own w v p x y e told → SameNames w v → Leases w (with_place v p (all_fetched y told).place)
turned_leases namespace items own w v p x y e told t n =
    placed_leases w v p (all_fetched y told).place n t.places
    (λ h. fetched_so (λ (c : Core). c.own.waits.prefix ≡ w.leasing) (λ c ticket now k. (steps_stay c (event.Take ticket) now).prefix ∙ k) (length y.core.asks) y told
    (ap (λ (c : Core). c.own.waits.prefix) t.core ∙ (steps_stay x.core e x.clock).prefix ∙ h p x t.at))

effect_leases : (namespace : List ℕ) (items : List Item) (w after : World) (gained : List Item) → WorldOk namespace items w → Effect w after gained → is_other gained ≡ true → Leases w after
effect_leases namespace items w _ _ h (starts p clock life' i b) o = placed_leases w w p (new_place w clock life') (record { namespace = refl; leasing = refl }) refl (λ g. refl)
effect_leases namespace items w _ _ h (sets p millis x e forward) o = placed_leases w w p (record x { clock = millis }) (record { namespace = refl; leasing = refl }) refl (λ g. g p x e)
effect_leases namespace items w _ _ h (effects.refuses_post p ticket path body a x e) o = placed_leases w w p (with_posted ticket x) (record { namespace = refl; leasing = refl }) refl (λ g. g p x e)
effect_leases namespace items w _ _ h (executes number call e fresh) o = stays_so w _ (record { namespace = refl; leasing = refl }) refl
effect_leases namespace items w _ _ h (expires lease t e due) o = stays_so w _ (record { namespace = refl; leasing = refl }) refl
effect_leases namespace items w _ _ h (applies member revision t e) o = stays_so w _ (record { namespace = refl; leasing = refl }) refl
effect_leases namespace items w _ _ h (pushes number st t i e a b k) o = stays_so w _ (record { namespace = refl; leasing = refl }) refl
effect_leases namespace items w _ _ h (turns p x e out v z own told at is t) o =
    turned_leases namespace items own w v p x z e told (turned namespace items (flat_map (reply_items p (all_fetched z told).place.posted) (all_fetched z told).replies) w p x e out v z own told h at is t o)
    (turn_names w p (stepped_to x e) e out v z own told t)

gain_leases : (namespace : List ℕ) (items : List Item) (w after : World) (gained : List Item) → WorldOk namespace items w → Gain w after gained → Leases w after
gain_leases namespace items w _ _ h (gains.answers number call x a o there is at lived out) =
    turned_leases namespace items (item.Answered number ∷ []) w (with_call w number (record call { settled = true })) call.proxy x (stepped_to x (event.Answer call.own a)) (event.Answer call.own a) []
    (answer_turned namespace items w number call x a h there is at lived) (record { namespace = refl; leasing = refl })
gain_leases namespace items w _ _ h (gains.refuses_post p ticket path body r x e) = placed_leases w w p (with_posted ticket x) (record { namespace = refl; leasing = refl }) refl (λ g. g p x e)
gain_leases namespace items w _ _ h (gains.other after gained e o) = effect_leases namespace items w after gained h e o

pub line_leases : (namespace : List ℕ) (items : List Item) (w : World) (l : Line) (gained : List Item) → (done w l).gained ≡ Ok gained → WorldOk namespace items w → Leases w (done w l).world
line_leases namespace items w l gained e h = gain_leases namespace items w (done w l).world gained h (gain w l gained e)
