-- What a watch took stays a prefix of its events while the history and the compaction revision grow.
use Rattle.std.proofs.Common.{◌≡◌, ℕ, ◌<◌, ◌≤◌, Bool, true, false, not, cond, ◌&&◌, ◌||◌, nat_le, nat_lt, List, [], ◌∷◌, ◌++◌, Option, None, Some, is_some, refl, ap, arith}
use Rattle.std.proofs.lemmas.Bool.Decides.{nat_tests}
use Rattle.etcd_types.specs.declared.record.Kv.{Kv}
use Rattle.etcd_types.specs.declared.watch.Event.{Event}
use Rattle.etcd_types.proofs.Bools.{and_both, and_first, and_second, or_first, or_none, or_second}
use Rattle.store_model.specs.Events.{event_revision, visible_prev}
use Rattle.world_model.specs.Received.{stored_change}
use Rattle.equal_values.specs.Messages.{same_change}
use Rattle.audit_model.specs.Takes.{tells_event, tells_front, tells_prev}

not_above : (c d r : ℕ) → c ≤ d → nat_lt c r ≡ false → nat_lt d r ≡ false
not_above c d r l e = grind (arith, nat_tests)

not_up_to : (c d r : ℕ) → c ≤ d → nat_le c r ≡ false → nat_le d r ≡ false
not_up_to c d r l e = grind (arith, nat_tests)

-- what can't be seen at a compaction can't be seen at a later one
still_gone : (c d revision : ℕ) (prev : Option Kv) → c ≤ d → not (is_some (visible_prev c revision prev)) ≡ true → not (is_some (visible_prev d revision prev)) ≡ true
still_gone c d revision None l e = refl
still_gone c d revision (Some kv) l e = by (nat_lt c revision || nat_le c kv.modified) refl e
  where
    by : (b : Bool) → (nat_lt c revision || nat_le c kv.modified) ≡ b → not (is_some (cond b (Some kv) None)) ≡ true → not (is_some (visible_prev d revision (Some kv))) ≡ true
    by true h n = absurd (cc)
    by false h n =
        ap (λ (b : Bool). not (is_some (cond b (Some kv) None)))
        (or_none (nat_lt d revision) (nat_le d kv.modified)
        (not_above c d revision l (or_first (nat_lt c revision) (nat_le c kv.modified) h))
        (not_up_to c d kv.modified l (or_second (nat_lt c revision) (nat_le c kv.modified) h)))

prev_still : (flag : Bool) (c d : ℕ) (namespace : List ℕ) (told : Option Kv) (e : Event) → c ≤ d → tells_prev flag c namespace told e ≡ true → tells_prev flag d namespace told e ≡ true
prev_still false c d namespace told e l h = h
prev_still true c d namespace None e l h = still_gone c d (event_revision e) e.prev l h
prev_still true c d namespace (Some kv) e l h = h

event_still : (flag : Bool) (c d : ℕ) (namespace : List ℕ) (told e : Event) → c ≤ d → tells_event flag c namespace told e ≡ true → tells_event flag d namespace told e ≡ true
event_still flag c d namespace told e l h =
    let change = same_change (stored_change namespace told.change) e.change in
    let was = tells_prev flag c namespace told.prev e in
    and_both change (tells_prev flag d namespace told.prev e) (and_first change was h) (prev_still flag c d namespace told.prev e l (and_second change was h))

pub front_still : (flag : Bool) (c d : ℕ) (namespace : List ℕ) (got due more : List Event) → c ≤ d → tells_front flag c namespace got due ≡ true → tells_front flag d namespace got (due ++ more) ≡ true
front_still flag c d namespace [] due more l h = refl
front_still flag c d namespace (t ∷ ts) [] more l h = absurd (cc)
front_still flag c d namespace (t ∷ ts) (e ∷ es) more l h =
    let one = tells_event flag c namespace t e in
    let rest = tells_front flag c namespace ts es in
    and_both (tells_event flag d namespace t e) (tells_front flag d namespace ts (es ++ more))
    (event_still flag c d namespace t e l (and_first one rest h)) (front_still flag c d namespace ts es more l (and_second one rest h))
