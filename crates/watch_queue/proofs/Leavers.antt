-- What is made ready for a watch that leaves a cancelled stream is there when it leaves.
use Rattle.std.proofs.Common.{◌≡◌, ℕ, Bool, true, false, cond, ◌==◌, List, [], ◌∷◌, Some, map, refl, ap, sym, ◌∙◌}
use Rattle.etcd_types.specs.declared.record.Header.{Header}
use Rattle.etcd_types.specs.declared.watch.WatchItem.TheVariants as item
use Rattle.watch_model.specs.Lookups.{is_in}
use Rattle.watch_model.specs.Joining.{created_header, decided, seated_as}
use Rattle.watch_queue.specs.declared.leaving.Cancellation.{Cancellation}
use Rattle.watch_queue.specs.declared.watching.Watching.{Watching}
use Rattle.watch_queue.specs.Watching.{shown}
use Rattle.watch_queue.specs.Entering.{prepared_created, entered}
use Rattle.watch_queue.specs.Leaving.{is_behind, prepared_end, prepared_again, prepared_left, IsReadyToJoin, IsReady, AllReady}
use Rattle.watch_queue.proofs.Entered.{entered_is}

again_kept : (last : Header) (w : Watching) → shown (prepared_again last w) ≡ shown w
again_kept last w =
    let v : Watching = record w { spare = Some w.ask.range } in
    elim w.told as (λ t. shown (cond t v (record v { queue = record { items = w.queue.items; staged = item.Created (created_header last (shown w)) ∷ [] } })) ≡ shown w) [ true ↦ refl | false ↦ refl ]

pub left_kept : (c : Cancellation) (w : Watching) → shown (prepared_left c w) ≡ shown w
left_kept c w =
    elim (is_in c.stream w.place) as (λ b. shown (cond b (cond (is_behind c w) (prepared_end c w) (prepared_again c.last w)) w) ≡ shown w) [
      | true ↦ elim (is_behind c w) as (λ d. shown (cond d (prepared_end c w) (prepared_again c.last w)) ≡ shown w) [ true ↦ refl | false ↦ again_kept c.last w ]
      | false ↦ refl
    ]

-- it joins again
again_ready : (c : Cancellation) (w : Watching) → is_in c.stream w.place ≡ true → is_behind c w ≡ false → IsReady c (prepared_again c.last w)
again_ready c w e f =
    let v : Watching = record w { spare = Some w.ask.range } in
    let told : Watching = record v { queue = record { items = w.queue.items; staged = item.Created (created_header c.last (shown w)) ∷ [] } } in
    elim w.told as (λ t. w.told ≡ t → IsReady c (cond t v told)) [
      | true ↦ λ q. record { ends = λ a b. absurd (cc); joins = λ a b. record { spare = refl; staged = λ r. absurd (cc) } }
      | false ↦ λ q. record { ends = λ a b. absurd (cc); joins = λ a b. record { spare = refl; staged = λ r. refl } }
    ] refl

left_ready : (c : Cancellation) (w : Watching) → IsReady c (prepared_left c w)
left_ready c w =
    elim (is_in c.stream w.place) as (λ b. is_in c.stream w.place ≡ b → IsReady c (cond b (cond (is_behind c w) (prepared_end c w) (prepared_again c.last w)) w)) [
      | true ↦ λ e. elim (is_behind c w) as (λ d. is_behind c w ≡ d → IsReady c (cond d (prepared_end c w) (prepared_again c.last w))) [
        | true ↦ λ f. record { ends = λ a b. record { staged = refl }; joins = λ a b. absurd (cc) }
        | false ↦ λ f. again_ready c w e f
      ] refl
      | false ↦ λ e. record { ends = λ a b. absurd (cc); joins = λ a b. absurd (cc) }
    ] refl

pub all_ready : (c : Cancellation) (ws : List Watching) → AllReady c (map (prepared_left c) ws)
all_ready c [] = tt
all_ready c (w ∷ ws) = (left_ready c w, all_ready c ws)

-- a watch whose next is known and whose created item is ready, or was queued
ready_still : (next : ℕ) (last : Header) (v : Watching) → (v.next == 0) ≡ false → IsReadyToJoin last v → v ≡ prepared_created next last v
ready_still next last v z h =
    elim v.told as (λ t. v.told ≡ t → v ≡ cond t v (record v { queue = record { items = v.queue.items; staged = item.Created (created_header last (decided next (shown v))) ∷ [] } })) [
      | true ↦ λ e. refl
      | false ↦ λ e.
          let header : created_header last (shown v) ≡ created_header last (decided next (shown v)) = ap (λ b. created_header last (cond b (record (shown v) { start = next; next = next }) (shown v))) (sym z) in
          λ i. record v { queue = record { items = v.queue.items; staged = (h.staged e ∙ ap (λ (x : Header). item.Created x ∷ []) header) i } }
    ] refl

pub entered_again : (number next : ℕ) (created : Bool) (last : Header) (v : Watching) → IsReadyToJoin last v → (v.next == 0) ≡ false → shown (entered number next created v) ≡ seated_as last number next created (shown v)
entered_again number next true last v h z = entered_is number next true last v v (ready_still next last v z h)
entered_again number next false last v h z = entered_is number next false last v v refl
