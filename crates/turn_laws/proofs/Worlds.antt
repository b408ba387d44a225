-- What a turn does to the world beside its proxy leaves a world that is shown: a call is settled, a stream changes or is opened.
use Rattle.std.proofs.Common.{◌≡◌, ◌⊎◌, inl, inr, ℕ, ◌+◌, ◌==◌, ◌-◌, true, false, cond, List, [], ◌∷◌, ◌++◌, length, map, slice_get, None, Some, refl, sym, ◌∙◌, ap, subst, arith}
use Rattle.std.proofs.lemmas.Bool.Decides.{nat_tests}
use Rattle.std.proofs.lemmas.List.{length-set}
use Rattle.etcd_types.specs.declared.key_range.KeyRange.{KeyRange}
use Rattle.etcd_types.specs.declared.request.WatchAsk.{WatchAsk}
use Rattle.proxy_model.specs.Prefixes.{leasing_range}
use Rattle.proxy_model.specs.Wrapped.{watch_under}
use Rattle.store_model.specs.declared.watch.OpenWatch.{OpenWatch}
use Rattle.store_model.specs.History.{History}
use Rattle.store_model.specs.State.{State}
use Rattle.store_model.specs.Watches.{opened, watch_of}
use Rattle.store_laws.proofs.Lives.SoundProofs.{openings_keep_sound}
use Rattle.store_laws.proofs.Events.LeavingProofs.{openings_leave_watches}
use Rattle.cache_laws.proofs.Store.ReadSteps.{unseen_step}
use Rattle.namespace_laws.specs.Stored.Stored.{stored_watch}
use Rattle.namespace_laws.proofs.Stored.Watches.{openings_are_stored}
use Rattle.core_fits.specs.Fits.{EachOf}
use Rattle.core_model.specs.State.{Opening}
use Rattle.core_model.specs.Step.{opening_at}
use Rattle.world_model.specs.declared.sent_call.SentCall.{SentCall}
use Rattle.world_model.specs.Places.{nth, place_at, with_call, with_stream}
use Rattle.world_model.specs.State.{Place, OpenedStream, World}
use Rattle.held_laws.proofs.Opens.{nth_push, last_nth}
use Rattle.held_laws.proofs.Worlds.{nth_changed}
use Rattle.bridge_laws.specs.Messages.{MessageShown, StreamShown, LeasingWatched}
use Rattle.bridge_laws.specs.Shown.{CallShown, Shown}

-- ---- a call is settled

pub settled_shown : (holder : ℕ → ℕ) (w : World) (number : ℕ) (call : SentCall) → nth w.calls number ≡ Some call → Shown holder w → Shown holder (with_call w number (record call { settled = true }))
settled_shown holder w number call at h = record {
  leases = h.leases;
  bare = h.bare;
  store = h.store;
  view = h.view;
  stands = h.stands;
  forms = h.forms;
  count = h.count ∙ sym (length-set w.calls (number - 1) t);
  calls = λ i s e. by i s (nth_changed w.calls number i call t s at e);
  places = h.places;
  absent = h.absent;
  floors = h.floors;
  drawn = h.drawn;
  streams = h.streams;
  watched = h.watched;
}
  where
    t : SentCall
    t = record call { settled = true }

    Of : ℕ → SentCall → Type 0
    Of i s = CallShown holder w.namespace w.leasing (h.view.calls i) (h.view.outcomes i) (h.forms i) s

    here : CallShown holder w.namespace w.leasing (h.view.calls number) (h.view.outcomes number) (h.forms number) t
    here = let c = h.calls number call at in record { asked = c.asked; keys = c.keys; formed = c.formed; proxy = c.proxy; clock = c.clock; granted = c.granted; done = c.done; tells = c.tells }

    by : (i : ℕ) (s : SentCall) → ((i ≡ number) × (t ≡ s)) ⊎ (((i == number) ≡ false) × (nth w.calls i ≡ Some s)) → CallShown holder w.namespace w.leasing (h.view.calls i) (h.view.outcomes i) (h.forms i) s
    by i s (inl g) =
        subst (λ (j : ℕ). CallShown holder w.namespace w.leasing (h.view.calls j) (h.view.outcomes j) (h.forms j) s) (sym g.0)
        (subst (CallShown holder w.namespace w.leasing (h.view.calls number) (h.view.outcomes number) (h.forms number)) g.1 here)
    by i s (inr g) = h.calls i s g.1

-- ---- a stream has fewer messages that wait, or ends

-- what the stream `t` keeps of `s`
pub record Keeps (s t : OpenedStream) : Type 0 where
  pub proxy : t.proxy ≡ s.proxy
  pub life : t.life ≡ s.life
  pub own : t.own ≡ s.own
  pub lasts : t.ended ≡ false → s.ended ≡ false
  pub waiting : (ns : List ℕ) (g : History) (r : KeyRange) → EachOf (MessageShown ns g r) s.waiting → EachOf (MessageShown ns g r) t.waiting

pub stream_shown : (holder : ℕ → ℕ) (w : World) (number : ℕ) (s t : OpenedStream) → nth w.streams number ≡ Some s → Keeps s t → Shown holder w → Shown holder (with_stream w number t)
stream_shown holder w number s t at k h = record {
  leases = h.leases;
  bare = h.bare;
  store = h.store;
  view = h.view;
  stands = h.stands;
  forms = h.forms;
  count = h.count;
  calls = h.calls;
  places = h.places;
  absent = h.absent;
  floors = h.floors;
  drawn = h.drawn;
  streams = λ m u e. by m u (nth_changed w.streams number m s t u at e);
  watched = λ p x m u there e. seen p x m u there (nth_changed w.streams number m s t u at e);
}
  where
    here : StreamShown w.namespace h.bare number t
    here = let o = h.streams number s at in record { watch = o.watch; at = o.at; waiting = k.waiting w.namespace h.bare.history o.watch.ask.range o.waiting }

    by : (m : ℕ) (u : OpenedStream) → ((m ≡ number) × (t ≡ u)) ⊎ (((m == number) ≡ false) × (nth w.streams m ≡ Some u)) → StreamShown w.namespace h.bare m u
    by m u (inl g) = subst (λ (j : ℕ). StreamShown w.namespace h.bare j u) (sym g.0) (subst (StreamShown w.namespace h.bare number) g.1 here)
    by m u (inr g) = h.streams m u g.1

    still : (p : ℕ) (x : Place) → place_at w p ≡ Some x → LeasingWatched w.leasing h.bare p number t x
    still p x there o watch mine lives lasts opens found =
        h.watched p x number s there at o watch (sym k.proxy ∙ mine) (sym k.life ∙ lives) (k.lasts lasts) (ap (λ (n : ℕ). opening_at n x.core.leasing) (sym k.own) ∙ opens) found

    seen : (p : ℕ) (x : Place) (m : ℕ) (u : OpenedStream) → place_at w p ≡ Some x → ((m ≡ number) × (t ≡ u)) ⊎ (((m == number) ≡ false) × (nth w.streams m ≡ Some u)) → LeasingWatched w.leasing h.bare p m u x
    seen p x m u there (inl g) =
        subst (λ (j : ℕ). LeasingWatched w.leasing h.bare p j u x) (sym g.0) (subst (λ (a : OpenedStream). LeasingWatched w.leasing h.bare p number a x) g.1 (still p x there))
    seen p x m u there (inr g) = h.watched p x m u there g.1

-- ---- a stream is opened at the store

mapped_length : {A B : Type 0} (f : A → B) (xs : List A) → length (map f xs) ≡ length xs
mapped_length f [] = refl
mapped_length f (x ∷ xs) = let e = mapped_length f xs in omega (arith, e)

get_past : {A B : Type 0} (xs : List A) (x : A) → slice_get xs (length xs) ≡ Some x → B
get_past [] x e = absurd (cc)
get_past (y ∷ ys) x e = get_past ys x e

past : {A B : Type 0} (xs : List A) (number : ℕ) (x : A) → nth xs number ≡ Some x → number ≡ length xs + 1 → B
past xs number x e is =
    get_past xs x (sym (ap (λ b. cond b None (slice_get xs (length xs + 1 - 1))) (more (length xs)) ∙ ap (slice_get xs) (less (length xs))) ∙ ap (nth xs) (sym is) ∙ e)
  where
    more : (n : ℕ) → (n + 1 == 0) ≡ false
    more n = grind (arith, nat_tests)

    less : (n : ℕ) → n + 1 - 1 ≡ n
    less n = omega arith

-- `new` is the stream, of the watch of this bare ask; where it is its proxy's leasing stream, that is of the ownership keys
pub opened_shown : (holder : ℕ → ℕ) (w : World) (member : ℕ) (ask bare : WatchAsk) (new : OpenedStream) → ask ≡ watch_under w.namespace bare → length w.store.watches ≡ length w.streams → new.waiting ≡ []
    → ((p : ℕ) (x : Place) (o : Opening) → place_at w p ≡ Some x → new.proxy ≡ p → new.life ≡ x.life → opening_at new.own x.core.leasing ≡ Some o → bare.range ≡ leasing_range w.leasing)
    → Shown holder w → Shown holder (record w { streams = w.streams ++ new ∷ []; store = (opened w.store member ask).0 })
opened_shown holder w member ask bare new under many empty of h = record {
  leases = h.leases;
  bare = s;
  store = ap (λ (a : WatchAsk). (opened w.store member a).0) under ∙ ap (λ (t : State). (opened t member (watch_under w.namespace bare)).0) h.store ∙ ap (λ (r : State × ℕ). r.0) (openings_are_stored w.namespace h.bare member bare);
  view = h.view;
  stands = unseen_step holder w.leasing h.bare s h.view refl refl (openings_keep_sound h.bare member bare h.stands.orderly.sound) h.stands;
  forms = h.forms;
  count = h.count;
  calls = h.calls;
  places = h.places;
  absent = h.absent;
  floors = h.floors;
  drawn = h.drawn;
  streams = λ m u e. by m u (nth_push w.streams new m u e);
  watched = λ p x m u there e. seen p x m u there (nth_push w.streams new m u e);
}
  where
    s : State
    s = (opened h.bare member bare).0

    watch : OpenWatch
    watch = record { member = member; ask = bare; next = 0 }

    count : length h.bare.watches ≡ length w.streams
    count = sym (mapped_length (stored_watch w.namespace) h.bare.watches) ∙ ap (λ (t : State). length t.watches) (sym h.store) ∙ many

    there_now : (m : ℕ) → m ≡ length w.streams + 1 → watch_of s m ≡ Some watch
    there_now m e = ap (watch_of s) (e ∙ ap (λ (n : ℕ). n + 1) (sym count)) ∙ last_nth h.bare.watches watch

    -- a watch that was there, or the new one
    old : (m : ℕ) (v : OpenWatch) → watch_of s m ≡ Some v → (watch_of h.bare m ≡ Some v) ⊎ ((m ≡ length w.streams + 1) × (watch ≡ v))
    old m v e = again (nth_push h.bare.watches watch m v e)
      where
        again : (nth h.bare.watches m ≡ Some v) ⊎ ((m ≡ length h.bare.watches + 1) × (watch ≡ v)) → (watch_of h.bare m ≡ Some v) ⊎ ((m ≡ length w.streams + 1) × (watch ≡ v))
        again (inl g) = inl g
        again (inr g) = inr (g.0 ∙ ap (λ (n : ℕ). n + 1) count, g.1)

    by : (m : ℕ) (u : OpenedStream) → (nth w.streams m ≡ Some u) ⊎ ((m ≡ length w.streams + 1) × (new ≡ u)) → StreamShown w.namespace s m u
    by m u (inl g) = let k = h.streams m u g in record { watch = k.watch; at = (openings_leave_watches h.bare member bare m k.watch k.at).same_watch ∙ k.at; waiting = k.waiting }
    by m u (inr g) = record { watch = watch; at = there_now m g.0; waiting = subst (λ (t : OpenedStream). EachOf (MessageShown w.namespace s.history bare.range) t.waiting) g.1 (subst (EachOf (MessageShown w.namespace s.history bare.range)) (sym empty) tt) }

    mine : (p : ℕ) (x : Place) (m : ℕ) (u : OpenedStream) → place_at w p ≡ Some x → (o : Opening) (v : OpenWatch) → u.proxy ≡ p → u.life ≡ x.life → u.ended ≡ false → opening_at u.own x.core.leasing ≡ Some o
        → (nth w.streams m ≡ Some u) ⊎ ((m ≡ length w.streams + 1) × (new ≡ u)) → (watch_of h.bare m ≡ Some v) ⊎ ((m ≡ length w.streams + 1) × (watch ≡ v)) → v.ask.range ≡ leasing_range w.leasing
    mine p x m u there o v proxy lives lasts opens (inl g) (inl f) = h.watched p x m u there g o v proxy lives lasts opens f
    mine p x m u there o v proxy lives lasts opens (inl g) (inr f) = past w.streams m u g f.0
    mine p x m u there o v proxy lives lasts opens (inr g) (inl f) = past h.bare.watches m v f (g.0 ∙ ap (λ (n : ℕ). n + 1) (sym count))
    mine p x m u there o v proxy lives lasts opens (inr g) (inr f) =
        sym (ap (λ (a : OpenWatch). a.ask.range) f.1)
        ∙ of p x o there (ap (λ (a : OpenedStream). a.proxy) g.1 ∙ proxy) (ap (λ (a : OpenedStream). a.life) g.1 ∙ lives) (ap (λ (a : OpenedStream). opening_at a.own x.core.leasing) g.1 ∙ opens)

    seen : (p : ℕ) (x : Place) (m : ℕ) (u : OpenedStream) → place_at w p ≡ Some x → (nth w.streams m ≡ Some u) ⊎ ((m ≡ length w.streams + 1) × (new ≡ u)) → LeasingWatched w.leasing s p m u x
    seen p x m u there g o v proxy lives lasts opens found = mine p x m u there o v proxy lives lasts opens g (old m v found)
