-- The events that can be seen at a compaction, from those of the whole history.
use Rattle.std.proofs.Common.{◌≡◌, ℕ, ◌+◌, Bool, true, false, cond, ◌||◌, nat_lt, List, [], ◌∷◌, map, filter, Option, None, Some, refl, sym, ◌∙◌, ap, arith}
use Rattle.std.proofs.lemmas.Bool.{le-leb}
use Rattle.etcd_types.specs.declared.record.Kv.{Kv}
use Rattle.etcd_types.specs.declared.request.WatchAsk.{WatchAsk}
use Rattle.etcd_types.specs.declared.watch.Event.{Event}
use Rattle.store_model.specs.Events.{event_revision, events, passes, told_event, visible_prev, watch_events}
use Rattle.store_model.specs.History.{History}
use Rattle.store_model.specs.Watches.{next_after}
use Rattle.audit_store.specs.Visible.{visible_event}

or_true : (b : Bool) → b || true ≡ true
or_true true = refl
or_true false = refl

-- nothing is compacted at revision 0
pub all_visible : (revision : ℕ) (prev : Option Kv) → visible_prev 0 revision prev ≡ prev
all_visible revision None = refl
all_visible revision (Some kv) =
    ap (λ (b : Bool). cond (nat_lt 0 revision || b) (Some kv) None) (le-leb 0 kv.modified (omega arith))
    ∙ ap (λ (b : Bool). cond b (Some kv) None) (or_true (nat_lt 0 revision))

asked_visible : (compacted revision : ℕ) (prev : Option Kv) (asked : Bool) → visible_prev compacted revision (cond asked (visible_prev 0 revision prev) None) ≡ cond asked (visible_prev compacted revision prev) None
asked_visible compacted revision prev true = ap (visible_prev compacted revision) (all_visible revision prev)
asked_visible compacted revision prev false = refl

told_visible : (compacted : ℕ) (ask : WatchAsk) (e : Event) → visible_event compacted (told_event 0 ask e) ≡ told_event compacted ask e
told_visible compacted ask e = ap (λ (prev : Option Kv). record { change = e.change; prev = prev }) (asked_visible compacted (event_revision e) e.prev ask.prev_kv)

all_told : (compacted : ℕ) (ask : WatchAsk) (es : List Event) → map (visible_event compacted) (map (told_event 0 ask) es) ≡ map (told_event compacted ask) es
all_told compacted ask [] = refl
all_told compacted ask (e ∷ es) = λ i. told_visible compacted ask e i ∷ all_told compacted ask es i

-- what a watch is told at the compaction is what can be seen there of what it is told with nothing compacted
pub seen_of : (h : History) (none compacted from : ℕ) (ask : WatchAsk) (all visible : List Event) → none ≡ 0 → all ≡ watch_events h none ask from → visible ≡ map (visible_event compacted) all
    → visible ≡ watch_events h compacted ask from
seen_of h none compacted from ask all visible z a v =
    v ∙ ap (map (visible_event compacted)) (a ∙ ap (λ (n : ℕ). watch_events h n ask from) z) ∙ all_told compacted ask (filter (passes ask) (events h ask.range from))

goes_on : (compacted next : ℕ) (es : List Event) → next_after next (map (visible_event compacted) es) ≡ next_after next es
goes_on compacted next [] = refl
goes_on compacted next (e ∷ es) = goes_on compacted (event_revision e + 1) es

pub next_seen : (compacted from next : ℕ) (all visible : List Event) → next ≡ next_after from all → visible ≡ map (visible_event compacted) all → next ≡ next_after from visible
next_seen compacted from next all visible n v = n ∙ sym (ap (next_after from) v ∙ goes_on compacted from all)
