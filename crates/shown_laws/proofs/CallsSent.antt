-- The numbers that proxies have of their calls are of calls that were sent: each line keeps that, and the leasing prefix.
use Rattle.std.proofs.Common.{◌≡◌, ◌⊎◌, inl, inr, ℕ, ◌+◌, ◌-◌, ◌≤◌, ◌==◌, Bool, true, false, cond, List, [], ◌∷◌, ◌++◌, length, length-append, slice_get, Option, None, Some, refl, sym, ◌∙◌, ap, subst, arith}
use Rattle.std.proofs.lemmas.List.{length-set}
use Rattle.store_model.specs.Step.{exec}
use Rattle.core_model.specs.declared.event.CoreEvent.{CoreEvent}
use Rattle.core_model.specs.declared.event.Outcome.{Outcome}
use Rattle.core_model.specs.Step.{stepped}
use Rattle.script_text.specs.declared.item.Item.{Item}
use Rattle.world_model.specs.Gains.{Replies, all_fetched}
use Rattle.world_model.specs.Places.{nth, place_at, with_core, with_place, with_posted}
use Rattle.world_model.specs.Sends.{new_call, closed_in}
use Rattle.world_model.specs.Starts.{new_place}
use Rattle.world_model.specs.State.{Place, OpenedStream, World}
use Rattle.world_laws.proofs.Effects.{Turn, ticks, asks_it, posts_it, calls, opens, closes, answers, loses, delivers, cuts, takes, waits, leaves, Effect, starts, sets, refuses_post, executes, expires, applies, pushes, turns}
use Rattle.held_laws.proofs.Opens.{nth_push}
use Rattle.held_laws.proofs.Worlds.{equal, one_place, placed_itself, placed_other}
use Rattle.bridge_laws.specs.Shown.{or_zero, numbers}
use Rattle.shown_laws.specs.Sendings.{CallsAreSent}
use Rattle.shown_laws.proofs.Fetches.{fetched_keeps}

-- a proxy's numbers are at most so many
abbrev Within : ℕ → List ℕ → Type 0
Within most ns = (n : ℕ) → numbers ns n ≤ most

none_within : (most : ℕ) → Within most []
none_within most n = by (n == 0)
  where
    by : (b : Bool) → or_zero (cond b None (slice_get [] (n - 1))) ≤ most
    by true = omega arith
    by false = omega arith

one_within : (most : ℕ) (ns : List ℕ) → Within most ns → Within (most + 1) (ns ++ (most + 1) ∷ [])
one_within most ns h n = by (nth (ns ++ (most + 1) ∷ []) n) refl
  where
    was : (m : ℕ) → nth ns n ≡ Some m → m ≤ most + 1
    was m e = let l = h n in let k : or_zero (nth ns n) ≡ m = ap or_zero e in omega (arith, l, k)

    by_push : (m : ℕ) → (nth ns n ≡ Some m) ⊎ ((n ≡ length ns + 1) × (most + 1 ≡ m)) → m ≤ most + 1
    by_push m (inl e) = was m e
    by_push m (inr e) = let k = e.1 in omega (arith, k)

    by : (o : Option ℕ) → nth (ns ++ (most + 1) ∷ []) n ≡ o → or_zero o ≤ most + 1
    by None e = omega arith
    by (Some m) e = by_push m (nth_push ns (most + 1) n m e)

-- one place is put anew, in a world of at least as many calls
placed_sent : (w v : World) (p : ℕ) (z : Place) → v.places ≡ w.places → length w.calls ≤ length v.calls → Within (length v.calls) z.calls → CallsAreSent w → CallsAreSent (with_place v p z)
placed_sent w v p z same more here h q y at n = by (q == p) refl
  where
    by : (b : Bool) → (q == p) ≡ b → numbers y.calls n ≤ length v.calls
    by true e =
        let one : z ≡ y = one_place z y (sym (placed_itself w v p z) ∙ ap (place_at (with_place v p z)) (sym (equal q p e)) ∙ at) in
        subst (λ (x : Place). numbers x.calls n ≤ length v.calls) one (here n)
    by false e = let l = h q y (sym (placed_other w v p q z same e) ∙ at) n in omega (arith, l, more)

-- ---- a turn

record TurnSent (w v : World) (y : Place) : Type 0 where
  places : v.places ≡ w.places
  leasing : v.leasing ≡ w.leasing
  more : length w.calls ≤ length v.calls
  here : Within (length v.calls) y.calls

quiet_sent : (w v : World) (y : Place) → v.places ≡ w.places → v.leasing ≡ w.leasing → length v.calls ≡ length w.calls → Within (length w.calls) y.calls → TurnSent w v y
quiet_sent w v y p l e h = record { places = p; leasing = l; more = omega (arith, e); here = λ n. let k = h n in omega (arith, e, k) }

turn_sent : (w : World) (p : ℕ) (x : Place) (e : CoreEvent) (o : Outcome) (v : World) (y : Place) (own : List Item) (told : Replies) → Turn w p x e o v y own told → Within (length w.calls) x.calls → TurnSent w v y
turn_sent w p x _ _ _ _ _ _ (ticks o) h = quiet_sent w w x refl refl refl h
turn_sent w p x _ _ _ _ _ _ (asks_it ticket q o n) h = quiet_sent w w _ refl refl refl h
turn_sent w p x _ _ _ _ _ _ (posts_it ticket path body q o n) h = quiet_sent w w _ refl refl refl h
turn_sent w p x _ _ _ _ _ _ (calls own member ticket q) h =
    let l = length-append w.calls (new_call p x own member q ∷ []) in
    record { places = refl; leasing = refl; more = omega (arith, l); here = λ n. let k = one_within (length w.calls) x.calls h n in omega (arith, k, l) }
turn_sent w p x _ _ _ _ _ _ (opens own member ask) h = quiet_sent w _ _ refl refl refl h
turn_sent w p x _ _ _ _ _ _ (closes own number e) h = by (nth w.streams number)
  where
    by : (s : Option OpenedStream) → TurnSent w (closed_in w number s) x
    by None = quiet_sent w w x refl refl refl h
    by (Some s) = quiet_sent w _ x refl refl refl h
turn_sent w p x _ _ _ _ _ _ (answers number call a o e f) h = quiet_sent w _ x refl refl (length-set w.calls (number - 1) _) h
turn_sent w p x _ _ _ _ _ _ (loses number call o e) h = quiet_sent w _ x refl refl (length-set w.calls (number - 1) _) h
turn_sent w p x _ _ _ _ _ _ (delivers number s i rest o e f g k l) h = quiet_sent w _ x refl refl refl h
turn_sent w p x _ _ _ _ _ _ (cuts number s o e f g k) h = quiet_sent w _ x refl refl refl h
turn_sent w p x _ _ _ _ _ _ (takes ticket i) h = quiet_sent w w x refl refl refl h
turn_sent w p x _ _ _ _ _ _ (waits ticket o n) h = quiet_sent w w x refl refl refl h
turn_sent w p x _ _ _ _ _ _ (leaves ticket o) h = quiet_sent w w x refl refl refl h

fetched_calls : (x : Place) (told : Replies) → (all_fetched x told).place.calls ≡ x.calls
fetched_calls x told = fetched_keeps (λ y. y.calls ≡ x.calls) (λ ticket y e. e) (length x.core.asks) x told refl

-- ---- a line

pub record LineSent (w after : World) : Type 0 where
  pub sent : CallsAreSent after
  pub leasing : after.leasing ≡ w.leasing

pub effect_sent : (w after : World) (gained : List Item) → Effect w after gained → CallsAreSent w → LineSent w after
effect_sent w _ _ (starts p clock life i b) h = record { sent = placed_sent w w p (new_place w clock life) refl (omega arith) (none_within (length w.calls)) h; leasing = refl }
effect_sent w _ _ (sets p millis x e forward) h = record { sent = placed_sent w w p (record x { clock = millis }) refl (omega arith) (λ n. h p x e n) h; leasing = refl }
effect_sent w _ _ (refuses_post p ticket path body a x e) h = record { sent = placed_sent w w p (with_posted ticket x) refl (omega arith) (λ n. h p x e n) h; leasing = refl }
effect_sent w _ _ (executes number call e fresh) h = record {
  sent = λ q y at n. let l = h q y at n in let k = length-set w.calls (number - 1) (record call { executed = Some (exec w.store call.member call.request).1 }) in omega (arith, l, k);
  leasing = refl;
}
effect_sent w _ _ (expires lease t e due) h = record { sent = h; leasing = refl }
effect_sent w _ _ (applies member revision t e) h = record { sent = h; leasing = refl }
effect_sent w _ _ (pushes number s t i e a b k) h = record { sent = h; leasing = refl }
effect_sent w _ _ (turns p x e o v y own told at is t) h =
    let s = turn_sent w p (with_core x (stepped x.core e x.clock).core) e o v y own told t (λ n. h p x at n) in
    record {
      sent = placed_sent w v p (all_fetched y told).place s.places s.more (λ n. subst (λ (ns : List ℕ). numbers ns n ≤ length v.calls) (sym (fetched_calls y told)) (s.here n)) h;
      leasing = s.leasing;
    }
