-- Each step keeps the tickets of the watches.
use Rattle.std.proofs.Common.{◌≡◌, ℕ, ◌+◌, Bool, true, false, cond, ◌&&◌, ◌==◌, nat_le, nat_lt, max, List, [], ◌∷◌, ◌++◌, length, Option, None, Some, refl, sym, subst, ◌∙◌}
use Rattle.etcd_types.specs.declared.record.Header.{Header}
use Rattle.etcd_types.specs.declared.watch.Event.{Event}
use Rattle.etcd_types.specs.declared.watch.WatchItem.TheVariants as item
use Rattle.watch_model.specs.declared.place.WatchPlace.TheVariants as place
use Rattle.watch_model.specs.State.{Stream, Watch}
use Rattle.watch_model.specs.Lookups.{is_in, tickets_from}
use Rattle.watch_model.specs.Queues.{would_pass, chosen, with_progress}
use Rattle.watch_model.specs.Joining.{decided, told, told_if, created_header, seated_as, Seated, seated_at, seated, stream_to_join}
use Rattle.watch_model.specs.Delivery.{shown_events, queued, given_batch, progressed, created_watch}
use Rattle.watch_model.specs.Cuts.{renumbered, ended, leaving, left_one, left_by, left_over}
use Rattle.watch_model.proofs.Tickets.{KeepsTicket, rest_from, first_from}

queued-keeps : (header : Header) (own : ℕ) (xs : List Event) (w : Watch) → (queued header own xs w).ticket ≡ w.ticket
queued-keeps header own [] w = refl
queued-keeps header own (x ∷ xs) w =
    elim (would_pass w.queue (length (x ∷ xs))) as (λ b. (cond b (record w { next = own; place = place.Split }) (record w { queue = w.queue ++ item.Events header (x ∷ xs) ∷ [] })).ticket ≡ w.ticket) [ true ↦ refl | false ↦ refl ]

pub given-keeps : (next : ℕ) (header : Header) (es : List Event) → KeepsTicket (given_batch next header es)
given-keeps next header es w = queued-keeps header (max w.next next) (shown_events w.ask (chosen w.ask (max w.next next) es)) w

pub progressed-keeps : (next : ℕ) (header : Header) → KeepsTicket (progressed next header)
progressed-keeps next header w =
    elim (w.ask.progress && nat_le (max w.next next) (header.revision + 1)) as (λ b. (cond b (record w { queue = with_progress w.queue (item.Events header []) }) w).ticket ≡ w.ticket) [ true ↦ refl | false ↦ refl ]

pub decided-keeps : (next : ℕ) → KeepsTicket (decided next)
decided-keeps next w = elim (w.next == 0) as (λ b. (cond b (record w { start = next; next = next }) w).ticket ≡ w.ticket) [ true ↦ refl | false ↦ refl ]

pub told-keeps : (last : Header) → KeepsTicket (told last)
told-keeps last w = elim w.told as (λ b. (cond b w (record w { told = true; queue = w.queue ++ item.Created (created_header last w) ∷ [] })).ticket ≡ w.ticket) [ true ↦ refl | false ↦ refl ]

pub created-keeps : (next : ℕ) (last : Header) → KeepsTicket (created_watch next last)
created-keeps next last w = told-keeps last (decided next w) ∙ decided-keeps next w

pub renumbered-keeps : (n m : ℕ) → KeepsTicket (renumbered n m)
renumbered-keeps n m w = elim (is_in n w.place) as (λ b. (cond b (record w { place = place.In m }) w).ticket ≡ w.ticket) [ true ↦ refl | false ↦ refl ]

told_if-keeps : (b : Bool) (last : Header) → KeepsTicket (told_if b last)
told_if-keeps true last w = told-keeps last w
told_if-keeps false last w = refl

pub seated-keeps : (last : Header) (number next : ℕ) (created : Bool) → KeepsTicket (seated_as last number next created)
seated-keeps last number next created w = told_if-keeps created last (record (decided next w) { place = place.In number }) ∙ decided-keeps next w

pub joined-keeps : (ss : List Stream) (given step : ℕ) (last : Header) (w : Watch) → (seated ss given step last w).watch.ticket ≡ w.ticket
joined-keeps ss given step last w = go (stream_to_join ss w.ask.range w.next last.revision)
  where
    go : (o : Option Stream) → (seated_at ss given step last w o).watch.ticket ≡ w.ticket
    go (Some s) = seated-keeps last s.number s.stream.next s.stream.created w
    go None = refl

pub left-keeps : (n next : ℕ) (header : Header) (compact step : ℕ) (last : Header) (ss : List Stream) (given : ℕ) (w : Watch) → (left_by n next header compact step last ss given w).watch.ticket ≡ w.ticket
left-keeps n next header compact step last ss given w =
    let v = leaving next w in
    let out : Seated = record { streams = ss; given = given; watch = w } in
    let gone : Seated = record { streams = ss; given = given; watch = ended header compact v } in
    elim (is_in n w.place) as (λ b. (cond b (left_one header compact step last ss given v) out).watch.ticket ≡ w.ticket) [
      | true ↦ elim (nat_lt v.next compact) as (λ c. (cond c gone (seated ss given step last v)).watch.ticket ≡ w.ticket) [ true ↦ refl | false ↦ joined-keeps ss given step last v ]
      | false ↦ refl
    ]

pub left-tickets : (n next : ℕ) (header : Header) (compact step : ℕ) (last : Header) (low : ℕ) (ss : List Stream) (given : ℕ) (ws : List Watch)
    → tickets_from low ws ≡ true → tickets_from low (left_over n next header compact step last ss given ws).watches ≡ true
left-tickets n next header compact step last low ss given [] h = refl
left-tickets n next header compact step last low ss given (w ∷ ws) h =
    let x = left_by n next header compact step last ss given w in
    let rest = (left_over n next header compact step last x.streams x.given ws).watches in
    let p = rest_from low w ws h in
    subst (λ (t : ℕ). (nat_le low t && tickets_from (t + 1) rest) ≡ true) (sym (left-keeps n next header compact step last ss given w))
    (first_from low w.ticket rest p.0 (left-tickets n next header compact step last (w.ticket + 1) x.streams x.given ws p.1))
