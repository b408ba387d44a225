-- A message without events is true.
use Rattle.std.proofs.Common.{◌≡◌, ℕ, ◌+◌, ◌≤◌, max, true, nat_le, List, [], ◌++◌, Option, Some, refl, ap, sym, subst, ◌∙◌, append-nil, arith}
use Rattle.std.proofs.lemmas.Bool.Decides.{nat_tests}
use Rattle.etcd_types.specs.declared.key_range.KeyRange.{KeyRange}
use Rattle.etcd_types.specs.declared.record.Header.{Header}
use Rattle.etcd_types.specs.declared.watch.Event.{Event}
use Rattle.proxy_model.specs.Limits.{capped}
use Rattle.watch_model.specs.State.{Stream, Watch, Broadcasts}
use Rattle.watch_model.specs.Queues.{queued_events}
use Rattle.watch_model.specs.Lookups.{stream_at, watch_at, place_stream, is_in}
use Rattle.watch_model.specs.Story.{Story, Received, between, changes, wanted, WatchOk, Rising, TellsNone, Holds}
use Rattle.watch_laws.proofs.Between.{told_between}
use Rattle.watch_laws.proofs.Keeping.{goes_on}
use Rattle.watch_laws.proofs.Steps.{in_place}
use Rattle.watch_laws.proofs.Seating.{found}

up_to : (own r m : ℕ) → nat_le own (r + 1) ≡ true → r + 1 ≤ 0xffff_ffff_ffff_ffff → m ≡ capped (r + 1) → max own m ≡ r + 1
up_to own r m e l k =
    let a : own ≤ r + 1 = grind (arith, nat_tests) in
    let fits : capped (r + 1) ≡ r + 1 = omega (arith, l) in
    let b : m ≡ r + 1 = k ∙ fits in
    omega (arith, a, b)

at_least : (a n : ℕ) → n ≤ max a n
at_least a n = omega arith

pub member_told : (story : Story) (got : List Event) (s : Stream) (header : Header) (w : Watch) → Rising story → header.revision + 1 ≤ 0xffff_ffff_ffff_ffff → TellsNone story s header.revision → WatchOk story got (Some s) w
    → nat_le (max w.next s.stream.next) (header.revision + 1) ≡ true → changes (got ++ queued_events w.queue) ≡ wanted w.ask (between w.start (header.revision + 1) (story w.ask.range))
member_told story got s header w r l t h e =
    let own = max w.next s.stream.next in
    let m = capped (header.revision + 1) in
    let none : [] ≡ between s.stream.next m (story w.ask.range) = sym (sym (ap (λ (k : KeyRange). between s.stream.next m (story k)) (h.range s refl)) ∙ t) in
    let told : [] ≡ wanted w.ask (between own m (story w.ask.range)) = told_between w.ask s.stream.next own m (story w.ask.range) [] (at_least w.next s.stream.next) none in
    sym (append-nil (changes (got ++ queued_events w.queue)))
    ∙ goes_on story got w own m 0 [] (r w.ask.range) h.starts h.kept told
    ∙ ap (λ (n : ℕ). wanted w.ask (between w.start n (story w.ask.range))) (up_to own header.revision m e l refl)

pub progress_is_true : (story : Story) (got : Received) (b : Broadcasts) (s : Stream) (header : Header) (w : Watch)
    → Rising story → header.revision + 1 ≤ 0xffff_ffff_ffff_ffff → stream_at s.number b.streams ≡ Some s → TellsNone story s header.revision → Holds story got b
    → watch_at w.ticket b.watches ≡ Some w → is_in s.number w.place ≡ true → nat_le (max w.next s.stream.next) (header.revision + 1) ≡ true
    → changes (got w.ticket ++ queued_events w.queue) ≡ wanted w.ask (between w.start (header.revision + 1) (story w.ask.range))
progress_is_true story got b s header w r l e t h f i n =
    let ok = found (λ u. WatchOk story (got u.ticket) (place_stream b.streams u.place) u) w.ticket b.watches w f h.watches in
    let member = subst (λ (o : Option Stream). WatchOk story (got w.ticket) o w) (ap (place_stream b.streams) (in_place s.number w.place i) ∙ e) ok in
    member_told story (got w.ticket) s header w r l t member n
