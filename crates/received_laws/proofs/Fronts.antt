-- Of a list that rises, what is below a revision is a front; and what tells a list tells more of it, and its fronts tell it too.
use Rattle.std.proofs.Common.{◌≡◌, ℕ, ◌≤◌, Bool, true, false, cond, ◌&&◌, nat_le, nat_lt, List, [], ◌∷◌, ◌++◌, filter, refl, ap, sym, subst, ◌∙◌, arith}
use Rattle.std.proofs.lemmas.Bool.Decides.{nat_tests}
use Rattle.etcd_types.specs.declared.request.WatchAsk.{WatchAsk}
use Rattle.etcd_types.specs.declared.watch.Event.{Event}
use Rattle.proxy_model.specs.Prefixes.{under}
use Rattle.script_text.specs.declared.item.Item.{Item}
use Rattle.store_model.specs.Events.{events_after, event_revision, passes}
use Rattle.store_model.specs.History.{History}
use Rattle.watch_model.specs.Joining.{watched_range}
use Rattle.watch_model.specs.Story.{rises, changes}
use Rattle.watch_laws.proofs.Histories.{story_rises}
use Rattle.world_model.specs.Received.{is_from, history_events, TellsFront}
use Rattle.held_laws.specs.Laws.{is_below}

abbrev pub IsRising : ℕ → List Event → Type 0
IsRising from [] = Unit {0}
IsRising from (e ∷ es) = (from ≤ event_revision e) × IsRising (event_revision e) es

is_rising : (from : ℕ) (es : List Event) → rises from (changes es) ≡ true → IsRising from es
is_rising from [] r = tt
is_rising from (e ∷ es) r = (first from (event_revision e) (rises (event_revision e) (changes es)) r, is_rising (event_revision e) es (second from (event_revision e) (rises (event_revision e) (changes es)) r))
  where
    first : (a b : ℕ) (c : Bool) → (nat_le a b && c) ≡ true → a ≤ b
    first a b c e = grind (arith, nat_tests)

    second : (a b : ℕ) (c : Bool) → (nat_le a b && c) ≡ true → c ≡ true
    second a b c e = grind (arith, nat_tests)

lower : (a b : ℕ) (es : List Event) → a ≤ b → IsRising b es → IsRising a es
lower a b [] l h = tt
lower a b (e ∷ es) l h = (let k = h.0 in omega (arith, l, k), h.1)

left_rising : (p : Event → Bool) (from : ℕ) (es : List Event) → IsRising from es → IsRising from (filter p es)
left_rising p from [] h = tt
left_rising p from (e ∷ es) h = by (p e) (left_rising p (event_revision e) es h.1)
  where
    by : (b : Bool) → IsRising (event_revision e) (filter p es) → IsRising from (cond b (e ∷ filter p es) (filter p es))
    by true rest = (h.0, rest)
    by false rest = lower from (event_revision e) (filter p es) h.0 rest

-- what is below is a front
abbrev pub IsFront : List Event → List Event → Type 0
IsFront front es = (rest : List Event) × (es ≡ front ++ rest)

none_below : (n from : ℕ) (es : List Event) → n ≤ from → IsRising from es → filter (is_below n) es ≡ []
none_below n from [] l h = refl
none_below n from (e ∷ es) l h =
    let k = h.0 in
    ap (λ b. cond b (e ∷ filter (is_below n) es) (filter (is_below n) es)) (not_below n (event_revision e) (omega (arith, l, k))) ∙ none_below n (event_revision e) es (omega (arith, l, k)) h.1
  where
    not_below : (n r : ℕ) → n ≤ r → nat_lt r n ≡ false
    not_below n r l = grind (arith, nat_tests)

below_front : (n from : ℕ) (es : List Event) → IsRising from es → IsFront (filter (is_below n) es) es
below_front n from [] h = ([], refl)
below_front n from (e ∷ es) h = by (is_below n e) refl (below_front n (event_revision e) es h.1)
  where
    not_less : (n r : ℕ) → nat_lt r n ≡ false → n ≤ r
    not_less n r l = grind (arith, nat_tests)

    by : (b : Bool) → is_below n e ≡ b → IsFront (filter (is_below n) es) es → IsFront (cond b (e ∷ filter (is_below n) es) (filter (is_below n) es)) (e ∷ es)
    by true q k = (k.0, ap (λ (l : List Event). e ∷ l) k.1)
    by false q k = (e ∷ es, ap (λ (l : List Event). l ++ e ∷ es) (sym (none_below n (event_revision e) es (not_less n (event_revision e) q) h.1)))

history_front : (h : History) (namespace : List ℕ) (ask : WatchAsk) (start n : ℕ) → IsFront (filter (is_below n) (history_events h namespace ask start)) (history_events h namespace ask start)
history_front h namespace ask start n =
    let range = under namespace (watched_range ask.range) in
    below_front n 0 (history_events h namespace ask start)
    (left_rising (passes ask) 0 (filter (is_from start) (events_after range [] h)) (left_rising (is_from start) 0 (events_after range [] h) (is_rising 0 (events_after range [] h) (story_rises h range))))

-- what tells a front tells the whole
tells_more : (items : List Item) (ask : WatchAsk) (namespace : List ℕ) (got es more : List Event) → TellsFront items ask namespace got es → TellsFront items ask namespace got (es ++ more)
tells_more items ask namespace [] es more h = tt
tells_more items ask namespace (t ∷ got) [] more h = absurd h
tells_more items ask namespace (t ∷ got) (e ∷ es) more h = (h.0, tells_more items ask namespace got es more h.1)

-- and a front of what tells it
pub tells_fewer : (items : List Item) (ask : WatchAsk) (namespace : List ℕ) (got more es : List Event) → TellsFront items ask namespace (got ++ more) es → TellsFront items ask namespace got es
tells_fewer items ask namespace [] more es h = tt
tells_fewer items ask namespace (t ∷ got) more [] h = absurd h
tells_fewer items ask namespace (t ∷ got) more (e ∷ es) h = (h.0, tells_fewer items ask namespace got more es h.1)

pub tells_all : (items : List Item) (h : History) (ask : WatchAsk) (namespace : List ℕ) (start n : ℕ) (got : List Event) → TellsFront items ask namespace got (filter (is_below n) (history_events h namespace ask start))
    → TellsFront items ask namespace got (history_events h namespace ask start)
tells_all items h ask namespace start n got t =
    let front = history_front h namespace ask start n in
    subst (TellsFront items ask namespace got) (sym front.1) (tells_more items ask namespace got (filter (is_below n) (history_events h namespace ask start)) front.0 t)
