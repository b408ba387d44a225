-- The events of the whole history for a watch are those that a watch of the store which asks for the records before would be told.
use Rattle.std.proofs.Common.{◌≡◌, ℕ, Bool, true, false, cond, List, [], ◌∷◌, map, filter, Option, refl, sym, ◌∙◌, ap}
use Rattle.etcd_types.specs.declared.key_range.KeyRange.{KeyRange}
use Rattle.etcd_types.specs.declared.record.Kv.{Kv}
use Rattle.etcd_types.specs.declared.request.WatchAsk.{WatchAsk}
use Rattle.etcd_types.specs.declared.watch.Change.{Change}
use Rattle.etcd_types.specs.declared.watch.Change.TheVariants as change
use Rattle.etcd_types.specs.declared.watch.Event.{Event}
use Rattle.proxy_model.specs.Prefixes.{under}
use Rattle.store_model.specs.Events.{change_passes, event_revision, events, events_after, passes, told_event, visible_prev, watch_events}
use Rattle.store_model.specs.History.{History}
use Rattle.watch_model.specs.Joining.{watched_range}
use Rattle.world_model.specs.Received.{history_events, is_from}
use Rattle.audit_clients.specs.Stored.{with_prev}
use Rattle.audit_store.proofs.VisibleEvents.{all_visible}

told_whole : (p : List ℕ) (ask : WatchAsk) (e : Event) → told_event 0 (with_prev p ask) e ≡ e
told_whole p ask e = ap (λ (prev : Option Kv). record { change = e.change; prev = prev }) (all_visible (event_revision e) e.prev)

pub all_told : (p : List ℕ) (ask : WatchAsk) (es : List Event) → map (told_event 0 (with_prev p ask)) es ≡ es
all_told p ask [] = refl
all_told p ask (e ∷ es) = λ i. told_whole p ask e i ∷ all_told p ask es i

change_so : (p : List ℕ) (ask : WatchAsk) (c : Change) → change_passes (with_prev p ask) c ≡ change_passes ask c
change_so p ask (change.Put kv) = refl
change_so p ask (change.Delete key modified) = refl

pub passing_so : (p : List ℕ) (ask : WatchAsk) (es : List Event) → filter (passes (with_prev p ask)) es ≡ filter (passes ask) es
passing_so p ask [] = refl
passing_so p ask (e ∷ es) = λ i. cond (change_so p ask e.change i) (e ∷ passing_so p ask es i) (passing_so p ask es i)

pub swapped : {A : Type 0} (f g : A → Bool) (xs : List A) → filter f (filter g xs) ≡ filter g (filter f xs)
swapped f g [] = refl
swapped f g (x ∷ xs) = by (f x) (g x) refl refl (swapped f g xs)
  where
    by : (a b : Bool) → f x ≡ a → g x ≡ b → filter f (filter g xs) ≡ filter g (filter f xs) → filter f (cond (g x) (x ∷ filter g xs) (filter g xs)) ≡ filter g (cond (f x) (x ∷ filter f xs) (filter f xs))
    by true true e h rest =
        ap (λ (t : Bool). filter f (cond t (x ∷ filter g xs) (filter g xs))) h
        ∙ ap (λ (t : Bool). cond t (x ∷ filter f (filter g xs)) (filter f (filter g xs))) e
        ∙ (λ i. x ∷ rest i)
        ∙ sym
        (ap (λ (t : Bool). filter g (cond t (x ∷ filter f xs) (filter f xs))) e
        ∙ ap (λ (t : Bool). cond t (x ∷ filter g (filter f xs)) (filter g (filter f xs))) h)
    by true false e h rest =
        ap (λ (t : Bool). filter f (cond t (x ∷ filter g xs) (filter g xs))) h
        ∙ rest
        ∙ sym
        (ap (λ (t : Bool). filter g (cond t (x ∷ filter f xs) (filter f xs))) e
        ∙ ap (λ (t : Bool). cond t (x ∷ filter g (filter f xs)) (filter g (filter f xs))) h)
    by false true e h rest =
        ap (λ (t : Bool). filter f (cond t (x ∷ filter g xs) (filter g xs))) h
        ∙ ap (λ (t : Bool). cond t (x ∷ filter f (filter g xs)) (filter f (filter g xs))) e
        ∙ rest
        ∙ sym (ap (λ (t : Bool). filter g (cond t (x ∷ filter f xs) (filter f xs))) e)
    by false false e h rest =
        ap (λ (t : Bool). filter f (cond t (x ∷ filter g xs) (filter g xs))) h
        ∙ rest
        ∙ sym (ap (λ (t : Bool). filter g (cond t (x ∷ filter f xs) (filter f xs))) e)

pub from_begin : (range : KeyRange) (h : History) → events h range 0 ≡ events_after range [] h
from_begin range [] = refl
from_begin range (cs ∷ h) = refl
