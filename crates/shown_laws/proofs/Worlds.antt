-- Each line leaves a world that is shown, so the world behind each prefix of a script is.
use Rattle.std.proofs.Common.{◌≡◌, ℕ, ◌+◌, ◌<◌, ◌^◌, nat_lt, Bool, true, false, cond, List, [], ◌∷◌, ◌++◌, length, length-append, Option, None, Some, Result, Ok, refl, sym, ◌∙◌, ap, subst, arith}
use Rattle.std.specs.Prelude.{flat_map}
use Rattle.etcd_types.specs.Keys.{is_empty}
use Rattle.proxy_model.specs.declared.session.TheConstants.{FIRST_SESSION}
use Rattle.store_model.specs.declared.store_fault.StoreFault.{StoreFault}
use Rattle.store_model.specs.Leases.{expired}
use Rattle.store_model.specs.Members.{applied}
use Rattle.store_model.specs.State.{State}
use Rattle.core_model.specs.declared.event.CoreEvent.{CoreEvent}
use Rattle.core_model.specs.declared.event.CoreEvent.TheVariants as event
use Rattle.core_model.specs.declared.event.Outcome.{Outcome}
use Rattle.core_model.specs.Step.{stepped}
use Rattle.script_text.specs.declared.item.Item.{Item}
use Rattle.script_text.specs.declared.item.Item.TheVariants as item
use Rattle.script_text.specs.declared.line.Line.{Line}
use Rattle.script_text.specs.declared.line.Line.TheVariants as line
use Rattle.world_model.specs.declared.fault.WorldFault.{WorldFault}
use Rattle.world_model.specs.declared.fault.WorldFault.TheVariants as fault
use Rattle.world_model.specs.Gains.{Replies, all_fetched, reply_items}
use Rattle.world_model.specs.Places.{nth, place_at, with_place, with_call}
use Rattle.world_model.specs.Starts.{new_place, started_over, clock_set_at}
use Rattle.world_model.specs.State.{Place, World, word}
use Rattle.world_model.specs.Steps.{at_place_of, gains, refuses}
use Rattle.world_model.specs.StoreLines.{not_due, expired_if, expired_by, store_stepped}
use Rattle.world_model.specs.Transcript.{done}
use Rattle.world_laws.specs.Laws.{IsOwn, GainsItsOwn}
use Rattle.world_laws.proofs.Effects.{Turn, ticks, asks_it, posts_it, calls, opens, closes, answers, loses, delivers, cuts, takes, waits, leaves, Begins, first, again, Effect, starts, sets, refuses_post, executes, expires, applies, pushes, turns, effect}
use Rattle.world_laws.proofs.Lines.{gains_own, taken_keeps}
use Rattle.held_laws.proofs.Worlds.{no_place}
use Rattle.renewed_laws.proofs.Gains as gains
use Rattle.renewed_laws.proofs.Gains.{is_other, stepped_to, Gain, gain}
use Rattle.renewed_laws.proofs.Worlds.{WorldOk}
use Rattle.prefix_laws.proofs.Prefixes.{IsNext, next_word, IsKept, every_told}
use Rattle.bridge_laws.specs.Holder.{holder_of}
use Rattle.bridge_laws.specs.Shown.{Shown}
use Rattle.bridge_laws.proofs.Begins.{begins_shown}
use Rattle.bridge_laws.proofs.Clocks.{clocks_stay_shown}
use Rattle.bridge_laws.proofs.Executes.{executions_stay_shown}
use Rattle.bridge_laws.proofs.Placed.{posts_stay_shown}
use Rattle.bridge_laws.proofs.Pushes.{pushes_stay_shown}
use Rattle.bridge_laws.proofs.Starts.{starts_stay_shown}
use Rattle.bridge_laws.proofs.Stores.{counts_stay_shown, expiries_stay_shown, applies_stay_shown}
use Rattle.turn_laws.specs.Known.{WorldKnown}
use Rattle.turn_laws.proofs.Behind.{worlds_are_known}
use Rattle.turn_laws.proofs.Turns.{turns_stay}
use Rattle.shown_laws.specs.Sendings.{CallsAreSent}
use Rattle.shown_laws.specs.Worlds.{EachWorldIsShown}
use Rattle.shown_laws.proofs.CallsSent.{effect_sent}
use Rattle.shown_laws.proofs.Fetches.{fetches_stay_shown}
use Rattle.shown_laws.proofs.Lists.{nth_in}
use Rattle.shown_laws.proofs.Sendings.{sendings_stay_shown}

-- ---- which line it is

-- only a tick's line gains this item
ticked_line : (l : Line) (p : ℕ) → IsOwn l (item.Ticked p) → l ≡ line.Tick p
ticked_line (line.Tick q) p h = ap line.Tick (sym h)
ticked_line (line.World members namespace leasing) p h = absurd h
ticked_line (line.Start q) p h = absurd h
ticked_line (line.Clock q millis) p h = absurd h
ticked_line (line.Ask q ticket asked) p h = absurd h
ticked_line (line.Post q ticket path body) p h = absurd h
ticked_line (line.Send q) p h = absurd h
ticked_line (line.Exec number) p h = absurd h
ticked_line (line.Answer number) p h = absurd h
ticked_line (line.Lose number) p h = absurd h
ticked_line (line.Push number) p h = absurd h
ticked_line (line.Progress number) p h = absurd h
ticked_line (line.Deliver number) p h = absurd h
ticked_line (line.Cut number) p h = absurd h
ticked_line (line.Take q ticket) p h = absurd h
ticked_line (line.Leave q ticket) p h = absurd h
ticked_line (line.Expire lease) p h = absurd h
ticked_line (line.Apply member revision) p h = absurd h

first_item : (i j : Item) (is js : List Item) → i ∷ is ≡ j ∷ js → i ≡ j
first_item i j is js e = cc

tick_is : (l : Line) (p : ℕ) (rest : List Item) → GainsItsOwn l (item.Ticked p ∷ rest) → l ≡ line.Tick p
tick_is l p rest g = ticked_line l p (subst (IsOwn l) (sym (first_item (item.Ticked p) g.own rest g.rest g.gained)) g.repeats)

-- ---- what holds behind a prefix of the script

pub record ShownBehind (script : List Line) (w : World) : Type 0 where
  pub sent : CallsAreSent w
  pub shown : is_empty w.leasing ≡ false → Shown (holder_of script) w

module _ (script : List Line) (few : length script < 2 ^ 60) where
  abbrev holder : ℕ → ℕ
  holder = holder_of script

  module _ (items : List Item) (w : World) (l : Line) (n : IsNext script w l) (ok : WorldOk w.namespace items w) (sent : CallsAreSent w) (h : Shown holder w) where
    abbrev counted : World → World
    counted v = record v { lines = w.lines + 1 }

    before : WorldKnown w
    before = worlds_are_known n.before w (let k = length-append n.before (l ∷ n.after) in let s = ap (λ (xs : List Line). length xs) n.split in omega (arith, few, k, s)) n.behind

    small : word w < FIRST_SESSION
    small = let k = nth_in script (word w) l (next_word script w l n) in omega (arith, k, few)

    count : (v : World) → v.lines ≡ w.lines → Shown holder v → Shown holder (counted v)
    count v e s = counts_stay_shown holder v (w.lines + 1) (omega (arith, e)) s

    turn_shown : (p : ℕ) (x : Place) (e : CoreEvent) (o : Outcome) (v : World) (y : Place) (own : List Item) (told : Replies) (rest : List Item) → place_at w p ≡ Some x → (stepped x.core e x.clock).outcome ≡ Ok o
        → GainsItsOwn l (own ++ rest) → is_other (own ++ rest) ≡ true → Turn w p (stepped_to x e) e o v y own told → Shown holder (counted (with_place v p y))
    turn_shown p x _ _ _ _ _ _ rest at is g other (ticks o) =
        let tick : nth script (word w) ≡ Some (line.Tick p) = next_word script w l n ∙ ap (λ (k : Line). Some k) (tick_is l p rest g) in
        turns_stay script items w p x _ _ _ _ _ _ (ticks o) (tick, small) at is ok before h
    turn_shown p x _ _ _ _ _ _ rest at is g other (calls own member ticket q) =
        count _ refl (sendings_stay_shown holder w p x own member ticket q at (ok.places p x at).count sent is h)
    turn_shown p x _ _ _ _ _ _ rest at is g other (answers number call a o e f) = absurd (cc)
    turn_shown p x _ _ _ _ _ _ rest at is g other (asks_it ticket q o m) = turns_stay script items w p x _ _ _ _ _ _ (asks_it ticket q o m) tt at is ok before h
    turn_shown p x _ _ _ _ _ _ rest at is g other (posts_it ticket path body q o m) = turns_stay script items w p x _ _ _ _ _ _ (posts_it ticket path body q o m) tt at is ok before h
    turn_shown p x _ _ _ _ _ _ rest at is g other (opens own member ask) = turns_stay script items w p x _ _ _ _ _ _ (opens own member ask) tt at is ok before h
    turn_shown p x _ _ _ _ _ _ rest at is g other (closes own number e) = turns_stay script items w p x _ _ _ _ _ _ (closes own number e) tt at is ok before h
    turn_shown p x _ _ _ _ _ _ rest at is g other (loses number call o e) = turns_stay script items w p x _ _ _ _ _ _ (loses number call o e) tt at is ok before h
    turn_shown p x _ _ _ _ _ _ rest at is g other (delivers number s i more o a b c d e) = turns_stay script items w p x _ _ _ _ _ _ (delivers number s i more o a b c d e) tt at is ok before h
    turn_shown p x _ _ _ _ _ _ rest at is g other (cuts number s o a b c d) = turns_stay script items w p x _ _ _ _ _ _ (cuts number s o a b c d) tt at is ok before h
    turn_shown p x _ _ _ _ _ _ rest at is g other (takes ticket i) = turns_stay script items w p x _ _ _ _ _ _ (takes ticket i) tt at is ok before h
    turn_shown p x _ _ _ _ _ _ rest at is g other (waits ticket o m) = turns_stay script items w p x _ _ _ _ _ _ (waits ticket o m) tt at is ok before h
    turn_shown p x _ _ _ _ _ _ rest at is g other (leaves ticket o) = turns_stay script items w p x _ _ _ _ _ _ (leaves ticket o) tt at is ok before h

    -- and then its ready replies are fetched
    fetch_shown : (v : World) (p : ℕ) (y : Place) (told : Replies) → Shown holder (counted (with_place v p y)) → Shown holder (counted (with_place v p (all_fetched y told).place))
    fetch_shown v p y told s = fetches_stay_shown holder (counted v) p y told s

    start_shown : (p clock life : ℕ) (i : Item) → Begins w p clock life i → Shown holder (with_place w p (new_place w clock life))
    start_shown p _ _ _ (first e) = subst (λ (o : Option Place). Shown holder (started_over w p o).world) e (starts_stay_shown holder w p h)
    start_shown p _ _ _ (again x e) = subst (λ (o : Option Place). Shown holder (started_over w p o).world) e (starts_stay_shown holder w p h)

    clock_shown : (p millis : ℕ) (x : Place) → place_at w p ≡ Some x → nat_lt millis x.clock ≡ false → Shown holder (with_place w p (record x { clock = millis }))
    clock_shown p millis x e forward =
        subst (λ (b : Bool). Shown holder (cond b (refuses w (fault.ClockBack x.clock millis)) (gains (with_place w p (record x { clock = millis })) (item.Clock p millis ∷ []))).world) forward
        (subst (λ (o : Option Place). Shown holder (at_place_of w p o (clock_set_at w p millis)).world) e (clocks_stay_shown holder w p millis h))

    expiry_shown : (lease : ℕ) (t : State) → expired w.store lease ≡ Ok t → not_due w lease ≡ None → Shown holder (record w { store = t })
    expiry_shown lease t e due =
        subst (λ (o : Option WorldFault). Shown holder (expired_if w lease o t).world) due
        (subst (λ (r : Result State StoreFault). Shown holder (expired_by w lease r).world) e (expiries_stay_shown holder w lease h))

    apply_shown : (member revision : ℕ) (t : State) → applied w.store member revision ≡ Ok t → Shown holder (record w { store = t })
    apply_shown member revision t e = subst (λ (r : Result State StoreFault). Shown holder (store_stepped w (item.Applied member revision) r).world) e (applies_stay_shown holder w member revision h)

    effect_shown : (after : World) (gained : List Item) → GainsItsOwn l gained → is_other gained ≡ true → Effect w after gained → Shown holder (counted after)
    effect_shown _ _ g other (starts p clock life i b) = count _ refl (start_shown p clock life i b)
    effect_shown _ _ g other (sets p millis x e forward) = count _ refl (clock_shown p millis x e forward)
    effect_shown _ _ g other (refuses_post p ticket path body a x e) = absurd (cc)
    effect_shown _ _ g other (executes number call e fresh) = let k = ok.calls number call e in count _ refl (executions_stay_shown holder w number call k.place e fresh k.at h)
    effect_shown _ _ g other (expires lease t e due) = count _ refl (expiry_shown lease t e due)
    effect_shown _ _ g other (applies member revision t e) = count _ refl (apply_shown member revision t e)
    effect_shown _ _ g other (pushes number s t i e a b k) = count _ refl (pushes_stay_shown holder w number s t i e k h)
    effect_shown _ _ g other (turns p x e o v y own told at is t) =
        fetch_shown v p y told (turn_shown p x e o v y own told (flat_map (reply_items p (all_fetched y told).place.posted) (all_fetched y told).replies) at is g other t)

    gain_shown : (after : World) (gained : List Item) → GainsItsOwn l gained → Gain w after gained → Shown holder (counted after)
    gain_shown _ _ g (gains.answers number call x a o there is at lived e) =
        fetch_shown (with_call w number (record call { settled = true })) call.proxy (stepped_to x (event.Answer call.own a)) []
        (turns_stay script items w call.proxy x _ _ _ _ _ _ (answers number call a o there is) (refl, lived) at e ok before h)
    gain_shown _ _ g (gains.refuses_post p ticket path body r x e) = count _ refl (posts_stay_shown holder w p ticket x e h)
    gain_shown _ _ g (gains.other after gained e o) = effect_shown after gained g o e

  line_shown : (namespace : List ℕ) (items : List Item) (w : World) (l : Line) (gained : List Item) → IsNext script w l → (done w l).gained ≡ Ok gained → WorldOk namespace items w → CallsAreSent w → Shown holder w
      → Shown holder (record (done w l).world { lines = (done w l).world.lines + 1 })
  line_shown namespace items w l gained n e ok sent h =
      let after = (done w l).world in
      subst (λ (k : ℕ). Shown holder (record after { lines = k + 1 })) (sym (taken_keeps w l gained e).lines)
      (gain_shown items w l n (subst (λ (ns : List ℕ). WorldOk ns items w) (sym ok.namespace_is) ok) sent h after gained (gains_own w l gained e) (gain w l gained e))

  pub shown_kept : IsKept script (λ items w. ShownBehind script w)
  shown_kept = record {
    begins = λ members namespace leasing. record { sent = λ p x e. no_place x e; shown = λ on. begins_shown holder members namespace leasing on };
    goes_on = λ namespace items w l gained n e ok h.
        let s = effect_sent w (done w l).world gained (effect w l gained e) h.sent in
        record { sent = s.sent; shown = λ on. line_shown namespace items w l gained n e ok h.sent (h.shown (ap is_empty (sym s.leasing) ∙ on)) };
  }

pub each_world_is_shown : EachWorldIsShown
each_world_is_shown lines w few s e on = (every_told (λ items w. ShownBehind lines w) lines (shown_kept lines few) w s e).so.shown on
