-- Each change of the list of streams keeps that their numbers rise.
use Rattle.std.proofs.Common.{◌≡◌, ℕ, ◌+◌, true, false, cond, ◌==◌, nat_lt, List, [], ◌∷◌, Option, None, Some, refl, arith}
use Rattle.etcd_types.specs.declared.key_range.KeyRange.{KeyRange}
use Rattle.watch_model.specs.declared.stream.StreamPhase.TheVariants as phase
use Rattle.watch_model.specs.State.{Stream, Watch}
use Rattle.watch_model.specs.Lookups.{with_stream, without_stream, is_in, is_due, numbered}
use Rattle.etcd_types.specs.declared.record.Header.{Header}
use Rattle.watch_model.specs.Joining.{new_stream, Seated, seated_at, seated, stream_to_join}
use Rattle.watch_model.specs.Merging.{kept_by, merged_stream}
use Rattle.watch_model.specs.Cuts.{ended, leaving, left_one, left_by, left_over}
use Rattle.watch_model.specs.Splitting.{closed, emptied_as}
use Rattle.watch_model.specs.Delivery.{advanced}
use Rattle.watch_model.proofs.Streams.{KeepsNumber, numbered-map, changed-keeps, numbered-without, numbered-push}

pub emptied-numbered : (n step low high : ℕ) (ss : List Stream) (o : Option Stream) → numbered low high ss ≡ true → numbered low high (emptied_as n step ss o) ≡ true
emptied-numbered n step low high ss None h = h
emptied-numbered n step low high ss (Some s) h =
    elim (is_due s.phase) as (λ b. numbered low high (cond b (without_stream n ss) (with_stream n (closed step) ss)) ≡ true) [
      | true ↦ numbered-without n low high ss h
      | false ↦ numbered-map _ (changed-keeps n (closed step) (λ s. refl)) low high ss h
    ]

pub merged-keeps : (range : KeyRange) (ss : List Stream) (step : ℕ) → KeepsNumber (merged_stream range ss step)
merged-keeps range ss step s = elim (kept_by range ss s == s.number) as (λ b. (cond b s (record s { phase = phase.Closing step })).number ≡ s.number) [ true ↦ refl | false ↦ refl ]

pub advanced-numbered : (n last high : ℕ) (ss : List Stream) → numbered 0 high ss ≡ true → numbered 0 high (with_stream n (advanced last) ss) ≡ true
advanced-numbered n last high ss h = numbered-map _ (changed-keeps n (advanced last) (λ s. refl)) 0 high ss h

pub seated-numbered : (ss : List Stream) (given step : ℕ) (last : Header) (w : Watch) → numbered 0 given ss ≡ true → numbered 0 (seated ss given step last w).given (seated ss given step last w).streams ≡ true
seated-numbered ss given step last w h = go (stream_to_join ss w.ask.range w.next last.revision)
  where
    go : (o : Option Stream) → numbered 0 (seated_at ss given step last w o).given (seated_at ss given step last w o).streams ≡ true
    go (Some s) = h
    go None = numbered-push 0 given ss (new_stream (given + 1) step w.ask.range w.next) (omega arith) refl h

left_by-numbered : (n next : ℕ) (header : Header) (compact step : ℕ) (last : Header) (ss : List Stream) (given : ℕ) (w : Watch)
    → numbered 0 given ss ≡ true → let x = left_by n next header compact step last ss given w in numbered 0 x.given x.streams ≡ true
left_by-numbered n next header compact step last ss given w h =
    let v = leaving next w in
    let out : Seated = record { streams = ss; given = given; watch = w } in
    let gone : Seated = record { streams = ss; given = given; watch = ended header compact v } in
    elim (is_in n w.place) as (λ b. numbered 0 (cond b (left_one header compact step last ss given v) out).given (cond b (left_one header compact step last ss given v) out).streams ≡ true) [
      | true ↦ elim (nat_lt v.next compact) as (λ c. numbered 0 (cond c gone (seated ss given step last v)).given (cond c gone (seated ss given step last v)).streams ≡ true) [
        | true ↦ h
        | false ↦ seated-numbered ss given step last v h
      ]
      | false ↦ h
    ]

pub left-numbered : (n next : ℕ) (header : Header) (compact step : ℕ) (last : Header) (ss : List Stream) (given : ℕ) (ws : List Watch)
    → numbered 0 given ss ≡ true → let l = left_over n next header compact step last ss given ws in numbered 0 l.given l.streams ≡ true
left-numbered n next header compact step last ss given [] h = h
left-numbered n next header compact step last ss given (w ∷ ws) h =
    let x = left_by n next header compact step last ss given w in
    left-numbered n next header compact step last x.streams x.given ws (left_by-numbered n next header compact step last ss given w h)
