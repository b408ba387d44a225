-- Events that are told at the places of those that are due, place by place.
use Rattle.std.proofs.Common.{◌≡◌, ℕ, ◌<◌, ◌≤◌, ◌+◌, Bool, true, false, ◌&&◌, List, length, drop, get_or, sym, ◌∙◌, ap}
use Rattle.etcd_types.specs.declared.watch.Event.{Event}
use Rattle.audit_model.specs.Takes.{tells_event, tells_front}
use Rattle.audit_lives.proofs.Walks.{at_place, none_left}

abbrev pub front_at : Bool → ℕ → List ℕ → List Event → List Event → ℕ → Bool
front_at prev_kv compacted p told due place = tells_front prev_kv compacted p (drop place told) (drop place due)

pub front_short : (prev_kv : Bool) (compacted : ℕ) (p : List ℕ) (told due : List Event) (place : ℕ) (one : Event) → place < length told → one ≡ get_or told place one → length due ≤ place
    → front_at prev_kv compacted p told due place ≡ false
front_short prev_kv compacted p told due place one l is s =
    λ i. tells_front prev_kv compacted p (at_place told place one l is i) (none_left due place s i)

front_step : (prev_kv : Bool) (compacted : ℕ) (p : List ℕ) (told due : List Event) (place : ℕ) (one e : Event) → place < length told → one ≡ get_or told place one → place < length due → e ≡ get_or due place e
    → front_at prev_kv compacted p told due place ≡ tells_event prev_kv compacted p one e && front_at prev_kv compacted p told due (place + 1)
front_step prev_kv compacted p told due place one e l is m es =
    λ i. tells_front prev_kv compacted p (at_place told place one l is i) (at_place due place e m es i)

pub front_goes_on : (prev_kv : Bool) (compacted : ℕ) (p : List ℕ) (told due : List Event) (place : ℕ) (one e : Event) → place < length told → one ≡ get_or told place one → place < length due → e ≡ get_or due place e
    → tells_event prev_kv compacted p one e ≡ true → front_at prev_kv compacted p told due (place + 1) ≡ front_at prev_kv compacted p told due place
front_goes_on prev_kv compacted p told due place one e l is m es t =
    sym (front_step prev_kv compacted p told due place one e l is m es ∙ ap (λ (b : Bool). b && front_at prev_kv compacted p told due (place + 1)) t)

pub front_differs : (prev_kv : Bool) (compacted : ℕ) (p : List ℕ) (told due : List Event) (place : ℕ) (one e : Event) → place < length told → one ≡ get_or told place one → place < length due → e ≡ get_or due place e
    → tells_event prev_kv compacted p one e ≡ false → front_at prev_kv compacted p told due place ≡ false
front_differs prev_kv compacted p told due place one e l is m es t =
    front_step prev_kv compacted p told due place one e l is m es ∙ ap (λ (b : Bool). b && front_at prev_kv compacted p told due (place + 1)) t

pub front_ends : (prev_kv : Bool) (compacted : ℕ) (p : List ℕ) (told due : List Event) (place : ℕ) → length told ≤ place → front_at prev_kv compacted p told due place ≡ true
front_ends prev_kv compacted p told due place l = ap (λ (es : List Event). tells_front prev_kv compacted p es (drop place due)) (none_left told place l)
