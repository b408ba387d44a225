-- A created message, and a watch that joins: nothing is held back.
use Rattle.std.proofs.Common.{◌≡◌, ℕ, ◌+◌, ◌≤◌, max, true, false, cond, ◌==◌, List, [], ◌∷◌, ◌++◌, map, Option, None, Some, refl, ap, sym, subst, ◌∙◌, append-nil, arith}
use Rattle.std.proofs.lemmas.Bool.Decides.{nat_tests}
use Rattle.etcd_types.specs.declared.record.Header.{Header}
use Rattle.etcd_types.specs.declared.watch.Event.{Event}
use Rattle.etcd_types.specs.declared.watch.WatchItem.TheVariants as item
use Rattle.proxy_model.specs.Limits.{capped}
use Rattle.proxy_model.specs.Upstream.{created}
use Rattle.watch_model.specs.Queues.{queued_events}
use Rattle.watch_model.specs.declared.place.WatchPlace.TheVariants as place
use Rattle.watch_model.specs.State.{Stream, Watch, Broadcasts}
use Rattle.watch_model.specs.Lookups.{stream_at, place_stream, next_of, with_stream, member_changed}
use Rattle.watch_model.specs.Joining.{decided, told, told_if, created_header, seated_in, new_stream}
use Rattle.watch_model.specs.Delivery.{created_stream, created_watch}
use Rattle.watch_model.specs.Story.{Story, Received, between, changes, wanted, WatchOk, Holds}
use Rattle.watch_laws.proofs.Between.{none_between}
use Rattle.watch_laws.proofs.Keeping.{queued_events-append}
use Rattle.watch_model.proofs.Streams.{at-with_stream, others-with_stream, numbered-map, changed-keeps, each_mapped}
use Rattle.watch_laws.proofs.Steps.{on_members}

pub told_ok : (story : Story) (got : List Event) (o : Option Stream) (last : Header) (w : Watch) → WatchOk story got o w → WatchOk story got o (told last w)
told_ok story got o last w h =
    elim w.told as (λ b. WatchOk story got o (cond b w (record w { told = true; queue = w.queue ++ item.Created (created_header last w) ∷ [] }))) [
      | true ↦ h
      | false ↦ record {
        member = h.member;
        range = h.range;
        decided = h.decided;
        starts = h.starts;
        kept = ap (λ (l : List Event). changes (got ++ l)) (queued_events-append w.queue (item.Created (created_header last w) ∷ []) ∙ append-nil (queued_events w.queue)) ∙ h.kept;
      }
    ]

is_zero : (n : ℕ) → (n == 0) ≡ true → n ≡ 0
is_zero n e = grind (arith, nat_tests)

no_start : (s n : ℕ) → s ≤ max n 0 → n ≡ 0 → s ≡ 0
no_start s n l e = omega arith

at_itself : (n : ℕ) → max n n ≡ n
at_itself n = omega arith

-- nothing was told to a watch whose start isn't decided
nothing_yet : (story : Story) (got : List Event) (o : Option Stream) (w : Watch) → w.next ≡ 0 → next_of o ≡ 0 → WatchOk story got o w → changes (got ++ queued_events w.queue) ≡ []
nothing_yet story got o w e z h = h.kept ∙ ap (wanted w.ask) (none_between w.start (max w.next (next_of o)) (story w.ask.range) (omega (arith, e, z)))

-- its start is decided: it begins where the stream p goes on
pub begins_ok : (story : Story) (got : List Event) (o : Option Stream) (p : Stream) (w : Watch) (m : ℕ) → w.next ≡ 0 → next_of o ≡ 0 → p.stream.range ≡ w.ask.range → WatchOk story got o w
    → WatchOk story got (Some p) (record w { start = p.stream.next; next = p.stream.next; place = place.In m })
begins_ok story got o p w m e z k h = record {
  member = refl;
  range = λ t f. let one : p ≡ t = cc in ap (λ (x : Stream). x.stream.range) (sym one) ∙ k;
  decided = λ t f. let one : p ≡ t = cc in ap (λ (x : Stream). x.stream.next == 0) one;
  starts = omega arith;
  kept =
      nothing_yet story got o w e z h
      ∙ sym (ap (wanted w.ask) (none_between p.stream.next (max p.stream.next p.stream.next) (story w.ask.range) (omega arith)));
}

-- its start is decided: it is a member of p, which is not ahead of it
pub enters_ok : (story : Story) (got : List Event) (p : Stream) (w : Watch) (m : ℕ) → (w.next == 0) ≡ (p.stream.next == 0) → p.stream.next ≤ w.next → p.stream.range ≡ w.ask.range → WatchOk story got None w
    → WatchOk story got (Some p) (record w { place = place.In m })
enters_ok story got p w m z l k h =
    let same : max w.next 0 ≡ max w.next p.stream.next = omega arith in
    record {
      member = refl;
      range = λ t f. let one : p ≡ t = cc in ap (λ (x : Stream). x.stream.range) (sym one) ∙ k;
      decided = λ t f. let one : p ≡ t = cc in z ∙ ap (λ (x : Stream). x.stream.next == 0) one;
      starts = subst (λ (n : ℕ). w.start ≤ n) same h.starts;
      kept = h.kept ∙ ap (λ (n : ℕ). wanted w.ask (between w.start n (story w.ask.range))) same;
    }

-- A watch that joins: a stream that stands for it, or a new one.

pub seated_ok : (story : Story) (got : List Event) (last : Header) (s : Stream) (w : Watch) → s.stream.range ≡ w.ask.range → ((w.next == 0) ≡ false → ((s.stream.next == 0) ≡ false) × (s.stream.next ≤ w.next))
    → WatchOk story got None w → WatchOk story got (Some s) (seated_in last s w)
seated_ok story got last s w k j h =
    let v : Watch = record (decided s.stream.next w) { place = place.In s.number } in
    let ok : WatchOk story got (Some s) v = elim (w.next == 0) as (λ b. (w.next == 0) ≡ b → WatchOk story got (Some s) (record (cond b (record w { start = s.stream.next; next = s.stream.next }) w) { place = place.In s.number })) [
      | true ↦ λ e. begins_ok story got None s w s.number (is_zero w.next e) refl k h
      | false ↦ λ e. let p = j e in enters_ok story got s w s.number (e ∙ sym p.0) p.1 k h
    ] refl in
    elim s.stream.created as (λ b. WatchOk story got (Some s) (told_if b last v)) [ true ↦ told_ok story got (Some s) last v ok | false ↦ ok ]

pub seated_fresh_ok : (story : Story) (got : List Event) (number step : ℕ) (w : Watch) → WatchOk story got None w
    → WatchOk story got (Some (new_stream number step w.ask.range w.next)) (record w { place = place.In number })
seated_fresh_ok story got number step w h = enters_ok story got (new_stream number step w.ask.range w.next) w number refl (omega arith) refl h

-- The created message.

created_one : (story : Story) (got : Received) (last : Header) (s : Stream) (revision : ℕ) (w : Watch) → w.place ≡ place.In s.number → WatchOk story (got w.ticket) (Some s) w
    → let v : Watch = created_watch (created s.stream revision).next last w in WatchOk story (got v.ticket) (Some (created_stream revision s)) v
created_one story got last s revision w q h =
    let p = created_stream revision s in
    let v : Watch = decided p.stream.next w in
    let ok : WatchOk story (got v.ticket) (Some p) v = elim (w.next == 0) as (λ b. (w.next == 0) ≡ b → WatchOk story (got (cond b (record w { start = p.stream.next; next = p.stream.next }) w).ticket) (Some p) (cond b (record w { start = p.stream.next; next = p.stream.next }) w)) [
      | true ↦ λ e.
          let z : s.stream.next ≡ 0 = is_zero s.stream.next (sym (h.decided s refl) ∙ e) in
          let b = begins_ok story (got w.ticket) (Some s) p w s.number (is_zero w.next e) z (h.range s refl) h in
          record { member = h.member; range = b.range; decided = b.decided; starts = b.starts; kept = b.kept }
      | false ↦ λ e.
          let z : (s.stream.next == 0) ≡ false = sym (h.decided s refl) ∙ e in
          let n : p.stream.next ≡ s.stream.next = ap (λ b. cond b (capped (revision + 1)) s.stream.next) z in
          record {
            member = h.member;
            range = λ t f. let one : p ≡ t = cc in ap (λ (x : Stream). x.stream.range) (sym one) ∙ h.range s refl;
            decided = λ t f. let one : p ≡ t = cc in h.decided s refl ∙ ap (λ (k : ℕ). k == 0) (sym n) ∙ ap (λ (x : Stream). x.stream.next == 0) one;
            starts = subst (λ (k : ℕ). w.start ≤ max w.next k) (sym n) h.starts;
            kept = h.kept ∙ ap (λ (k : ℕ). wanted w.ask (between w.start (max w.next k) (story w.ask.range))) (sym n);
          }
    ] refl in
    elim v.told as (λ b. WatchOk story (got (cond b v (record v { told = true; queue = v.queue ++ item.Created (created_header last v) ∷ [] })).ticket) (Some p) (cond b v (record v { told = true; queue = v.queue ++ item.Created (created_header last v) ∷ [] }))) [
      | true ↦ ok
      | false ↦ told_ok story (got v.ticket) (Some p) last (record v { told = false }) (record { member = ok.member; range = ok.range; decided = ok.decided; starts = ok.starts; kept = ok.kept })
    ]

place_kept : (last : Header) (next : ℕ) (w : Watch) → (created_watch next last w).place ≡ w.place
place_kept last next w = after_told (decided next w) ∙ elim (w.next == 0) as (λ b. (cond b (record w { start = next; next = next }) w).place ≡ w.place) [ true ↦ refl | false ↦ refl ]
  where
    after_told : (v : Watch) → (told last v).place ≡ v.place
    after_told v = elim v.told as (λ b. (cond b v (record v { told = true; queue = v.queue ++ item.Created (created_header last v) ∷ [] })).place ≡ v.place) [ true ↦ refl | false ↦ refl ]

pub created_holds : (story : Story) (got : Received) (b : Broadcasts) (s : Stream) (last : Header) (revision : ℕ) → stream_at s.number b.streams ≡ Some s → Holds story got b
    → Holds story got (record b {
      streams = with_stream s.number (created_stream revision) b.streams;
      watches = map (member_changed s.number (created_watch (created s.stream revision).next last)) b.watches;
    })
created_holds story got b s last revision e h =
    let n = s.number in
    let f = created_stream revision in
    let g = created_watch (created s.stream revision).next last in
    let us = with_stream n f b.streams in
    record {
      numbers = numbered-map _ (changed-keeps n f (λ s. refl)) 0 b.given b.streams h.numbers;
      watches =
          each_mapped (λ w. WatchOk story (got w.ticket) (place_stream b.streams w.place) w) (λ w. WatchOk story (got w.ticket) (place_stream us w.place) w) (member_changed n g)
          (on_members story got n s g b.streams us e
          (λ w p k. subst (λ (o : Option Stream). WatchOk story (got (g w).ticket) o (g w)) (sym (ap (place_stream us) (place_kept last (created s.stream revision).next w ∙ p) ∙ at-with_stream n f (λ s. refl) b.streams s e)) (created_one story got last s revision w p k))
          (λ w d k. subst (λ (o : Option Stream). WatchOk story (got w.ticket) o w) (sym (others-with_stream n f (λ s. refl) b.streams w.place d)) k))
          b.watches h.watches;
    }
