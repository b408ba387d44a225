-- A created item, made ready and then queued, is what the definitions say.
use Rattle.std.proofs.Common.{◌≡◌, ℕ, Bool, true, false, cond, ◌==◌, List, [], ◌∷◌, ◌++◌, Option, map, drop, refl, ap, ◌∙◌}
use Rattle.etcd_types.specs.declared.key_range.KeyRange.{KeyRange}
use Rattle.etcd_types.specs.declared.record.Header.{Header}
use Rattle.etcd_types.specs.declared.request.WatchAsk.{WatchAsk}
use Rattle.etcd_types.specs.declared.watch.WatchItem.TheVariants as item
use Rattle.watch_model.specs.declared.place.WatchPlace.{WatchPlace}
use Rattle.watch_model.specs.declared.place.WatchPlace.TheVariants as place
use Rattle.watch_model.specs.State.{Watch}
use Rattle.watch_model.specs.Lookups.{is_in, member_changed}
use Rattle.watch_model.specs.Joining.{created_header, decided, told, seated_as}
use Rattle.watch_model.specs.Delivery.{created_watch}
use Rattle.watch_queue.specs.Queued.{Queued}
use Rattle.watch_queue.specs.declared.watching.Watching.{Watching}
use Rattle.watch_queue.specs.Watching.{shown}
use Rattle.watch_queue.specs.Entering.{prepared_created, prepared_member, begun_member, decided_to, told_to, created_to, entered}

abbrev begun_if : Bool → ℕ → Watching → Watching
begun_if z n w = cond z (record w { start = n; next = n }) w

abbrev shown_if : Bool → ℕ → Watch → Watch
shown_if z n w = cond z (record w { start = n; next = n }) w

abbrev ready_if : Bool → Bool → ℕ → Header → Watching → Watching
ready_if t z n last w = cond t w (record w { queue = record { items = w.queue.items; staged = item.Created (created_header last (shown_if z n (shown w))) ∷ [] } })

by_fields : (n : ℕ) (last : Header) (ticket : ℕ) (ask : WatchAsk) (start next : ℕ) (t : Bool) (queue : Queued) (p : WatchPlace) (spare : Option KeyRange) (z : Bool)
    → let w : Watching = record { ticket = ticket; ask = ask; start = start; next = next; told = t; queue = queue; place = p; spare = spare } in
    shown (told_to (begun_if z n (ready_if t z n last w))) ≡ told last (shown_if z n (shown w))
by_fields n last ticket ask start next true queue p spare true = refl
by_fields n last ticket ask start next true queue p spare false = refl
by_fields n last ticket ask start next false queue p spare true = refl
by_fields n last ticket ask start next false queue p spare false = refl

pub ready_next : (n : ℕ) (last : Header) (w : Watching) → (prepared_created n last w).next ≡ w.next
ready_next n last w =
    elim w.told as (λ t. (ready_if t (w.next == 0) n last w).next ≡ w.next) [ true ↦ refl | false ↦ refl ]

pub ready_kept : (n : ℕ) (last : Header) (w : Watching) → shown (prepared_created n last w) ≡ shown w
ready_kept n last w = elim w.told as (λ t. shown (ready_if t (w.next == 0) n last w) ≡ shown w) [ true ↦ refl | false ↦ refl ]

pub created_is : (n : ℕ) (last : Header) (w : Watching) → shown (created_to n (prepared_created n last w)) ≡ created_watch n last (shown w)
created_is n last w =
    ap (λ (k : ℕ). shown (told_to (begun_if (k == 0) n (prepared_created n last w)))) (ready_next n last w)
    ∙ by_fields n last w.ticket w.ask w.start w.next w.told w.queue w.place w.spare (w.next == 0)

told_place : (last : Header) (v : Watch) (p : WatchPlace) → record (told last v) { place = p } ≡ told last (record v { place = p })
told_place last v p =
    elim v.told as (λ t. record (cond t v (record v { told = true; queue = v.queue ++ item.Created (created_header last v) ∷ [] })) { place = p }
    ≡ cond t (record v { place = p }) (record v { told = true; queue = v.queue ++ item.Created (created_header last v) ∷ []; place = p })) [ true ↦ refl | false ↦ refl ]

-- it enters a stream that stands created
entered_created : (number next : ℕ) (last : Header) (w : Watching) → shown (entered number next true (prepared_created next last w)) ≡ seated_as last number next true (shown w)
entered_created number next last w = ap (λ (v : Watch). record v { place = place.In number }) (created_is next last w) ∙ told_place last (decided next (shown w)) (place.In number)

decided_is : (n : ℕ) (v : Watching) → shown (decided_to n v) ≡ decided n (shown v)
decided_is n v = elim (v.next == 0) as (λ z. shown (begun_if z n v) ≡ shown_if z n (shown v)) [ true ↦ refl | false ↦ refl ]

-- it enters one, after its created item was made ready where that stands created
pub entered_is : (number next : ℕ) (created : Bool) (last : Header) (v w : Watching) → v ≡ cond created (prepared_created next last w) w → shown (entered number next created v) ≡ seated_as last number next created (shown w)
entered_is number next true last v w e = ap (λ (v : Watching). shown (entered number next true v)) e ∙ entered_created number next last w
entered_is number next false last v w e = ap (λ (v : Watching). shown (entered number next false v)) e ∙ ap (λ (v : Watch). record v { place = place.In number }) (decided_is next w)

-- without its first item
abbrev pub later : Watching → Watching
later w = record w { queue = record { items = drop 1 w.queue.items; staged = w.queue.staged } }

later_by : (n : ℕ) (last : Header) (ticket : ℕ) (ask : WatchAsk) (start next : ℕ) (t : Bool) (queue : Queued) (p : WatchPlace) (spare : Option KeyRange) (z : Bool)
    → let w : Watching = record { ticket = ticket; ask = ask; start = start; next = next; told = t; queue = queue; place = p; spare = spare } in
    later (ready_if t z n last w) ≡ ready_if t z n last (later w)
later_by n last ticket ask start next true queue p spare true = refl
later_by n last ticket ask start next true queue p spare false = refl
later_by n last ticket ask start next false queue p spare true = refl
later_by n last ticket ask start next false queue p spare false = refl

-- taking doesn't touch what was made ready
pub later_is : (next : ℕ) (created : Bool) (last : Header) (w : Watching) → later (cond created (prepared_created next last w) w) ≡ cond created (prepared_created next last (later w)) (later w)
later_is next true last w = later_by next last w.ticket w.ask w.start w.next w.told w.queue w.place w.spare (w.next == 0)
later_is next false last w = refl

-- The members of a stream.

pub member_kept : (n next : ℕ) (last : Header) (w : Watching) → shown (prepared_member n next last w) ≡ shown w
member_kept n next last w = elim (is_in n w.place) as (λ b. shown (cond b (prepared_created next last w) w) ≡ shown w) [ true ↦ ready_kept next last w | false ↦ refl ]

member_is : (n next : ℕ) (last : Header) (w : Watching) → shown (begun_member n next (prepared_member n next last w)) ≡ member_changed n (created_watch next last) (shown w)
member_is n next last w =
    let v = prepared_member n next last w in
    ap (λ (x : Watch). shown (cond (is_in n x.place) (created_to next v) v)) (member_kept n next last w)
    ∙ elim (is_in n w.place) as (λ b. shown (cond b (created_to next (cond b (prepared_created next last w) w)) (cond b (prepared_created next last w) w)) ≡ cond b (created_watch next last (shown w)) (shown w)) [
      | true ↦ created_is next last w
      | false ↦ refl
    ]

pub all_created : (n next : ℕ) (last : Header) (ws : List Watching)
    → map shown (map (begun_member n next) (map (prepared_member n next last) ws)) ≡ map (member_changed n (created_watch next last)) (map shown ws)
all_created n next last [] = refl
all_created n next last (w ∷ ws) = λ i. member_is n next last w i ∷ all_created n next last ws i
