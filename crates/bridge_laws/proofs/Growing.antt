-- A history that goes on has the events that it had: what is on the way stays what the store tells.
use Rattle.std.proofs.Common.{◌≡◌, ℕ, zero, suc, ◌-◌, List, [], ◌∷◌, ◌++◌, append_assoc, take, drop, inl, inr, ◌⊎◌, sym, ◌∙◌, ap, subst, arith}
use Rattle.std.specs.List.{Contains}
use Rattle.std.proofs.lemmas.List.Elements.{Contains-append_left, Contains-append_right, Contains-append_cases}
use Rattle.etcd_types.specs.declared.key_range.KeyRange.{KeyRange}
use Rattle.etcd_types.specs.declared.watch.Event.{Event}
use Rattle.etcd_types.specs.declared.watch.WatchItem.{WatchItem}
use Rattle.etcd_types.specs.declared.watch.WatchItem.TheVariants as item
use Rattle.store_model.specs.declared.history.KeyChange.{KeyChange}
use Rattle.store_model.specs.Events.{events_of_changes, events_after, events}
use Rattle.store_model.specs.History.{History, with_revision}
use Rattle.store_model.specs.State.{State}
use Rattle.store_model.specs.Watches.{watch_of}
use Rattle.core_fits.specs.Fits.{EachOf}
use Rattle.world_model.specs.State.{OpenedStream}
use Rattle.bridge_laws.specs.Messages.{IsTold, AreEvents, MessageShown, StreamShown}

nowhere : {A B : Type 0} (x : A) → Contains [] x → B
nowhere x c = absurd (let l = c.1 in omega (arith, l))

by_part : (range : KeyRange) (before h more : History) (cs : List KeyChange) (e : Event) → Contains (events_of_changes range before [] cs) e ⊎ Contains (events_after range (before ++ cs ∷ []) (h ++ more)) e
    → Contains (events_after range before ((cs ∷ h) ++ more)) e
by_part range before h more cs e (inl a) = Contains-append_left (events_of_changes range before [] cs) (events_after range (before ++ cs ∷ []) (h ++ more)) e a
by_part range before h more cs e (inr b) = Contains-append_right (events_of_changes range before [] cs) (events_after range (before ++ cs ∷ []) (h ++ more)) e b

on_right : {A B C : Type 0} → (B → C) → A ⊎ B → A ⊎ C
on_right f (inl a) = inl a
on_right f (inr b) = inr (f b)

grown_after : (range : KeyRange) (before h more : History) (e : Event) → Contains (events_after range before h) e → Contains (events_after range before (h ++ more)) e
grown_after range before [] more e c = nowhere e c
grown_after range before (cs ∷ h) more e c =
    by_part range before h more cs e
    (on_right (λ b. grown_after range (before ++ cs ∷ []) h more e b) (Contains-append_cases (events_of_changes range before [] cs) (events_after range (before ++ cs ∷ []) h) e c))

grown_from : (range : KeyRange) (before h more : History) (n : ℕ) (e : Event) → Contains (events_after range (before ++ take n h) (drop n h)) e → Contains (events_after range (before ++ take n (h ++ more)) (drop n (h ++ more))) e
grown_from range before h more zero e c = grown_after range (before ++ []) h more e c
grown_from range before [] more (suc n) e c = nowhere e c
grown_from range before (cs ∷ h) more (suc n) e c =
    let At : History → History → Type 0 = λ b g. Contains (events_after range b g) e in
    subst (λ (b : History). At b (drop n (h ++ more))) (append_assoc before (cs ∷ []) (take n (h ++ more)))
    (grown_from range (before ++ cs ∷ []) h more n e (subst (λ (b : History). At b (drop n h)) (sym (append_assoc before (cs ∷ []) (take n h))) c))

pub grown : (h : History) (made : List KeyChange) (range : KeyRange) (from : ℕ) (e : Event) → Contains (events h range from) e → Contains (events (with_revision h made) range from) e
grown h [] range from e c = c
grown h (m ∷ ms) range from e c = grown_from range [] h ((m ∷ ms) ∷ []) (from - 2) e c

each_grown : (h : History) (made : List KeyChange) (range : KeyRange) (from : ℕ) (es : List Event) → EachOf (IsTold h range from) es → EachOf (IsTold (with_revision h made) range from) es
each_grown h made range from [] c = tt
each_grown h made range from (e ∷ es) c = ((c.0.0, grown h made range from c.0.0 c.0.1, c.0.2), each_grown h made range from es c.1)

are_grown : (h : History) (made : List KeyChange) (range : KeyRange) (b : WatchItem) → AreEvents h range b → AreEvents (with_revision h made) range b
are_grown h made range (item.Created header) c = tt
are_grown h made range (item.Events header es) c = (c.0, each_grown h made range c.0 es c.1)
are_grown h made range (item.Canceled header compact) c = tt

messages_grown : (ns : List ℕ) (h : History) (made : List KeyChange) (range : KeyRange) (is : List WatchItem) → EachOf (MessageShown ns h range) is → EachOf (MessageShown ns (with_revision h made) range) is
messages_grown ns h made range [] c = tt
messages_grown ns h made range (i ∷ is) c = ((c.0.0, c.0.1, are_grown h made range c.0.0 c.0.2), messages_grown ns h made range is c.1)

-- the store goes on by at most one revision, and its watches stay
pub stream_grown : (ns : List ℕ) (s t : State) (made : List KeyChange) (number : ℕ) (x : OpenedStream) → t.history ≡ with_revision s.history made → t.watches ≡ s.watches → StreamShown ns s number x → StreamShown ns t number x
stream_grown ns s t made number x history watches h = record {
  watch = h.watch;
  at = ap (λ ws. watch_of (record s { watches = ws }) number) watches ∙ h.at;
  waiting = subst (λ (g : History). EachOf (MessageShown ns g h.watch.ask.range) x.waiting) (sym history) (messages_grown ns s.history made h.watch.ask.range x.waiting h.waiting);
}
