-- What a proxy has of a stream and what the world has of it fit: the messages that weren't delivered go on from where the proxy's stream is.
use Rattle.std.proofs.Common.{◌≡◌, ◌⊎◌, inl, inr, ℕ, ◌+◌, ◌≤◌, ◌<◌, max, Bool, true, false, not, cond, ◌&&◌, ◌==◌, nat_le, List, [], ◌∷◌, ◌++◌, Option, Some, Ok, Err, refl, ap, sym, subst, ◌∙◌, arith}
use Rattle.std.proofs.lemmas.Bool.Decides.{nat_tests}
use Rattle.etcd_types.specs.declared.key_range.KeyRange.{KeyRange}
use Rattle.etcd_types.specs.Ranges.{contains}
use Rattle.etcd_types.specs.declared.record.Header.{Header}
use Rattle.etcd_types.specs.declared.request.WatchAsk.{WatchAsk}
use Rattle.etcd_types.specs.declared.watch.Change.{Change}
use Rattle.etcd_types.specs.declared.watch.Event.{Event}
use Rattle.etcd_types.specs.declared.watch.WatchItem.{WatchItem}
use Rattle.etcd_types.specs.declared.watch.WatchItem.TheVariants as item
use Rattle.proxy_model.specs.Limits.{capped}
use Rattle.proxy_model.specs.Prefixes.{under}
use Rattle.proxy_model.specs.Unwrapped.{Unwrapped, ◌>>=◌, events_without, item_without}
use Rattle.store_model.specs.declared.watch.OpenWatch.{OpenWatch}
use Rattle.store_model.specs.Events.{change_revision}
use Rattle.store_model.specs.History.{newest}
use Rattle.store_model.specs.State.{State}
use Rattle.store_model.specs.Watches.{watch_of, first_next, next_after}
use Rattle.watch_model.specs.Delivery.{changed_key, is_batch, last_revision, is_told, created_stream}
use Rattle.watch_model.specs.Lookups.{stream_at, is_begun, is_closing}
use Rattle.watch_model.specs.State.{Stream}
use Rattle.watch_laws.specs.Calls.{TellsMessage}
use Rattle.world_model.specs.Places.{kept_at}
use Rattle.world_model.specs.State.{Numbered, OpenedStream}
use Rattle.core_laws.proofs.Watches.Touches.{Side}
use Rattle.held_laws.proofs.StreamSteps.{Stays, AfterEvents, AfterMessage}
use Rattle.held_laws.proofs.Pushes.{Whole, Says, begins, tells, reaches, SaysAll, says-push}
use Rattle.held_laws.proofs.Stories.{Strips, story_by, PassesAll, IsShort, Unwraps, unwraps, batch_fits, newest_front, next_is_last, message_told}

-- how a stream of the proxy stands to the next of what comes: it waits to be created; or it is there, and stands created; or it can't be told anything
pub data Stands (next start : ℕ) (t : Stream) : Type 0 where
  waits : next ≡ 0 → start ≡ t.stream.next → Stands next start t
  goes : (next == 0) ≡ false → next ≡ t.stream.next → t.stream.created ≡ true → Stands next start t
  never : t.stream.next ≡ 0 → t.stream.created ≡ true → Stands next start t

-- the store's watch is the one of this stream, and its undelivered messages go on from the stream's next
pub record Linked (namespace : List ℕ) (whole : Whole) (store : State) (number : ℕ) (waiting : List WatchItem) (t : Stream) : Type 0 where
  pub watch : OpenWatch
  pub at : watch_of store number ≡ Some watch
  pub range : watch.ask.range ≡ under namespace t.stream.range
  pub passes : PassesAll watch.ask
  pub next : ℕ
  pub chain : SaysAll whole watch.ask next waiting watch.next
  pub stands : Stands next watch.ask.start t

-- of a stream of this proxy's life, where its side is `a`, and `kept` its streams by its own numbers
pub record StreamOk (namespace : List ℕ) (whole : Whole) (store : State) (number : ℕ) (s : OpenedStream) (a : Side) (kept : Numbered ℕ) : Type 0 where
  pub given : s.own ≤ a.broadcasts.given
  pub mine : (t : Stream) → stream_at s.own a.broadcasts.streams ≡ Some t → is_closing t.phase ≡ false → kept_at kept s.own ≡ Some number
  pub begun : (t : Stream) → stream_at s.own a.broadcasts.streams ≡ Some t → is_closing t.phase ≡ false → is_begun t.phase ≡ true
  pub link : s.ended ≡ false → (t : Stream) → stream_at s.own a.broadcasts.streams ≡ Some t → is_closing t.phase ≡ false → Linked namespace whole store number s.waiting t

-- ---- what leaves it

pub moved : (namespace : List ℕ) (whole : Whole) (store : State) (number : ℕ) (s : OpenedStream) (a d : Side) (kept : Numbered ℕ) (m : ℕ) → (s.own == m) ≡ false
    → a.broadcasts.given ≤ d.broadcasts.given → Stays m a.broadcasts.given a.broadcasts.streams d.broadcasts.streams → StreamOk namespace whole store number s a kept → StreamOk namespace whole store number s d kept
moved namespace whole store number s a d kept m n g y h = record {
  given = (let l = h.given in omega (arith, l, g));
  mine = λ t e c. h.mine t (y.same s.own t h.given n e c) c;
  begun = λ t e c. h.begun t (y.same s.own t h.given n e c) c;
  link = λ q t e c. h.link q t (y.same s.own t h.given n e c) c;
}

same_link : (namespace : List ℕ) (whole : Whole) (store after : State) (number : ℕ) (waiting : List WatchItem) (t : Stream) → watch_of after number ≡ watch_of store number → Linked namespace whole store number waiting t
    → Linked namespace whole after number waiting t
same_link namespace whole store after number waiting t e h = record { watch = h.watch; at = e ∙ h.at; range = h.range; passes = h.passes; next = h.next; chain = h.chain; stands = h.stands }

-- the store as far as this watch goes
pub restored : (namespace : List ℕ) (whole : Whole) (store after : State) (number : ℕ) (s : OpenedStream) (a : Side) (kept : Numbered ℕ) → watch_of after number ≡ watch_of store number
    → StreamOk namespace whole store number s a kept → StreamOk namespace whole after number s a kept
restored namespace whole store after number s a kept e h = record {
  given = h.given;
  mine = h.mine;
  begun = h.begun;
  link = λ q t f c. same_link namespace whole store after number s.waiting t e (h.link q t f c);
}

-- an opening, or a closing, of the stream `m` that was due or closed: no stream of the world is that one
pub reopened : (namespace : List ℕ) (whole : Whole) (store : State) (number : ℕ) (s : OpenedStream) (a d : Side) (kept : Numbered ℕ) (u : Stream) → stream_at u.number a.broadcasts.streams ≡ Some u → is_begun u.phase ≡ false
    → a.broadcasts.given ≤ d.broadcasts.given → Stays u.number a.broadcasts.given a.broadcasts.streams d.broadcasts.streams
    → (is_closing u.phase ≡ true → (t : Stream) → stream_at u.number d.broadcasts.streams ≡ Some t → is_closing t.phase ≡ true)
    → StreamOk namespace whole store number s a kept → StreamOk namespace whole store number s d kept
reopened namespace whole store number s a d kept u at b g y closes h = by (s.own == u.number) refl
  where
    equal : (x y : ℕ) → (x == y) ≡ true → x ≡ y
    equal x y e = grind (arith, nat_tests)

    -- the stream of this number isn't one that is open
    no_open : {A : Type 0} → s.own ≡ u.number → (t : Stream) → stream_at s.own d.broadcasts.streams ≡ Some t → is_closing t.phase ≡ false → A
    no_open q t e c = by_phase (is_closing u.phase) refl
      where
        here : stream_at s.own a.broadcasts.streams ≡ Some u
        here = ap (λ (n : ℕ). stream_at n a.broadcasts.streams) q ∙ at

        by_phase : {A : Type 0} → (x : Bool) → is_closing u.phase ≡ x → A
        by_phase false r = absurd (let yes' : is_begun u.phase ≡ true = h.begun u here r in cc)
        by_phase true r = absurd (let yes' : is_closing t.phase ≡ true = closes r t (ap (λ (n : ℕ). stream_at n d.broadcasts.streams) (sym q) ∙ e) in cc)

    by : (x : Bool) → (s.own == u.number) ≡ x → StreamOk namespace whole store number s d kept
    by false n = moved namespace whole store number s a d kept u.number n g y h
    by true n = record {
      given = (let l = h.given in omega (arith, l, g));
      mine = λ t e c. no_open (equal s.own u.number n) t e c;
      begun = λ t e c. no_open (equal s.own u.number n) t e c;
      link = λ q t e c. no_open (equal s.own u.number n) t e c;
    }

-- ---- a message is pushed

pub pushed_link : (namespace : List ℕ) (whole : Whole) (store after : State) (number : ℕ) (waiting : List WatchItem) (i : WatchItem) (t : Stream)
    → ((w : OpenWatch) → watch_of store number ≡ Some w → (next : ℕ) × (watch_of after number ≡ Some (record w { next = next })) × Says whole w.ask w.next i next)
    → Linked namespace whole store number waiting t → Linked namespace whole after number (waiting ++ i ∷ []) t
pushed_link namespace whole store after number waiting i t said h =
    let k = said h.watch h.at in record {
      watch = record h.watch { next = k.0 };
      at = k.1;
      range = h.range;
      passes = h.passes;
      next = h.next;
      chain = says-push whole h.watch.ask h.next h.watch.next k.0 waiting i h.chain k.2;
      stands = h.stands;
    }

-- ---- a message is delivered

zero_is : (n : ℕ) → (n == 0) ≡ true → n ≡ 0
zero_is n e = grind (arith, nat_tests)

no_zero : {A : Type 0} (n : ℕ) → (n == 0) ≡ false → n ≡ 0 → A
no_zero n e z = absurd (let t : (n == 0) ≡ true = grind (arith, nat_tests) in cc)

above : (n m : ℕ) → (n == 0) ≡ false → n ≤ m → (m == 0) ≡ false
above n m e l = grind (arith, nat_tests)

less_not : (a n r k : ℕ) → nat_le a (r + 1) ≡ false → r ≡ k → n ≡ a → k + 1 ≤ n
less_not a n r k e f g = grind (arith, nat_tests)

not_zero : (n : ℕ) → (n + 1 == 0) ≡ false
not_zero n = grind (arith, nat_tests)

greater_not_zero : (n k : ℕ) → (max n (k + 1) == 0) ≡ false
greater_not_zero n k = let l : k + 1 ≤ max n (k + 1) = omega arith in above (k + 1) (max n (k + 1)) (not_zero k) l

-- behind its created message
created_stands : (whole : Whole) (start : ℕ) (ask : WatchAsk) (n m : ℕ) (h : Header) (t u : Stream) → IsShort whole → start ≡ ask.start → Says whole ask n (item.Created h) m → Stands n start t
    → ((t.stream.created ≡ false) × (u ≡ created_stream h.revision t)) ⊎ ((t.stream.created ≡ true) × (u ≡ t)) → Stands m start u
created_stands whole start ask _ _ _ t u short same (begins h now more w r) (waits z e) (inl c) =
    let f = newest_front now more in
    let w' : newest whole.history ≡ newest (now ++ more) = ap newest w in
    let fits : capped (h.revision + 1) ≡ newest now + 1 = omega (arith, f, w', short, r) in
    let next : u.stream.next ≡ cond (t.stream.next == 0) (capped (h.revision + 1)) t.stream.next = ap (λ (x : Stream). x.stream.next) c.1 in
    by (t.stream.next == 0) refl fits next
  where
    by : (b : Bool) → (t.stream.next == 0) ≡ b → capped (h.revision + 1) ≡ newest now + 1 → u.stream.next ≡ cond (t.stream.next == 0) (capped (h.revision + 1)) t.stream.next → Stands (first_next (newest now) ask.start) start u
    by true q fits next =
        let s : (ask.start == 0) ≡ true = ap (λ (n : ℕ). n == 0) (sym same ∙ e) ∙ q in
        let m : first_next (newest now) ask.start ≡ newest now + 1 = ap (λ b. cond b (newest now + 1) ask.start) s in
        goes (ap (λ (n : ℕ). n == 0) m ∙ not_zero (newest now)) (m ∙ sym fits ∙ sym (next ∙ ap (λ b. cond b (capped (h.revision + 1)) t.stream.next) q)) (ap (λ (x : Stream). x.stream.created) c.1)
    by false q fits next =
        let s : (ask.start == 0) ≡ false = ap (λ (n : ℕ). n == 0) (sym same ∙ e) ∙ q in
        let m : first_next (newest now) ask.start ≡ ask.start = ap (λ b. cond b (newest now + 1) ask.start) s in
        goes (ap (λ (n : ℕ). n == 0) m ∙ s) (m ∙ sym same ∙ e ∙ sym (next ∙ ap (λ b. cond b (capped (h.revision + 1)) t.stream.next) q)) (ap (λ (x : Stream). x.stream.created) c.1)
created_stands whole start ask _ _ _ t u short same (begins h now more w r) (waits z e) (inr c) = by (t.stream.next == 0) refl
  where
    by : (b : Bool) → (t.stream.next == 0) ≡ b → Stands (first_next (newest now) ask.start) start u
    by true q = never (ap (λ (x : Stream). x.stream.next) c.1 ∙ zero_is t.stream.next q) (ap (λ (x : Stream). x.stream.created) c.1 ∙ c.0)
    by false q =
        let s : (ask.start == 0) ≡ false = ap (λ (n : ℕ). n == 0) (sym same ∙ e) ∙ q in
        let m : first_next (newest now) ask.start ≡ ask.start = ap (λ b. cond b (newest now + 1) ask.start) s in
        goes (ap (λ (n : ℕ). n == 0) m ∙ s) (m ∙ sym same ∙ e ∙ sym (ap (λ (x : Stream). x.stream.next) c.1)) (ap (λ (x : Stream). x.stream.created) c.1 ∙ c.0)
created_stands whole start ask _ _ _ t u short same (begins h now more w r) (goes z e d) c = absurd (let y : false ≡ true = sym z in cc)
created_stands whole start ask _ _ _ t u short same (begins h now more w r) (never z e) (inl c) = absurd (let y : true ≡ false = sym e ∙ c.0 in cc)
created_stands whole start ask _ _ _ t u short same (begins h now more w r) (never z e) (inr c) = never (ap (λ (x : Stream). x.stream.next) c.1 ∙ z) (ap (λ (x : Stream). x.stream.created) c.1 ∙ e)

at_least : (a b : ℕ) → nat_le a b ≡ true → a ≤ b
at_least a b e = grind (arith, nat_tests)

three : (a b c : Bool) → (a && b && c) ≡ true → (a ≡ true) × (c ≡ true)
three true true c e = (refl, e)
three true false c e = absurd (cc)
three false b c e = absurd (cc)

-- only a watch that was created is told events
says_known : (whole : Whole) (ask : WatchAsk) (n m : ℕ) (h : Header) (es : List Event) → Says whole ask n (item.Events h es) m → (n == 0) ≡ false
says_known whole ask _ _ _ _ (tells h n compacted e es now more w z q a) = z
says_known whole ask _ _ _ _ (reaches h n compacted now more w z q r) = z

-- a batch that is told begins no sooner than the stream's next
batch_behind : (range : KeyRange) (n : ℕ) (e : Event) (es : List Event) → is_batch range n (e ∷ es) ≡ true → n ≤ last_revision 0 (e ∷ es)
batch_behind range n e [] h = at_least n (change_revision e.change) (three (nat_le n (change_revision e.change)) (contains range (changed_key e.change)) true h).0
batch_behind range n e (x ∷ es) h =
    let p = three (nat_le n (change_revision e.change)) (contains range (changed_key e.change)) (is_batch range (change_revision e.change) (x ∷ es)) h in
    let here : n ≤ change_revision e.change = at_least n (change_revision e.change) p.0 in
    let more : change_revision e.change ≤ last_revision 0 (x ∷ es) = batch_behind range (change_revision e.change) x es p.1 in
    omega (arith, here, more)

told_parts : (t : Stream) (es : List Event) → is_told t es ≡ true → ((t.stream.next == 0) ≡ false) × (is_batch t.stream.range t.stream.next es ≡ true)
told_parts t es h = by (t.stream.next == 0) (is_batch t.stream.range t.stream.next es) h
  where
    by : (a b : Bool) → (not a && b) ≡ true → (a ≡ false) × (b ≡ true)
    by true b h = absurd (cc)
    by false b h = (refl, h)

-- behind a batch, or a message without events
events_stand : (namespace : List ℕ) (f : Change → Option Change) → Strips namespace f → (whole : Whole) (start n m : ℕ) (ask : WatchAsk) (h : Header) (es us : List Event) (t u : Stream) → IsShort whole → PassesAll ask
    → Says whole ask n (item.Events h es) m → events_without namespace es ≡ Ok us → Stands n start t → (is_told t us ≡ true) × AfterEvents t h us u → Stands m start u
events_stand namespace f k whole start _ _ ask _ _ us t u short p (tells h n compacted e es now more w z q a) x (waits v y) c = no_zero n z v
events_stand namespace f k whole start _ _ ask _ _ us t u short p (reaches h n compacted now more w z q r) x (waits v y) c = no_zero n z v
events_stand namespace f k whole start _ _ ask _ _ us t u short p (tells h n compacted e es now more w z q a) x (never v y) c = no_zero t.stream.next (told_parts t us c.0).0 v
events_stand namespace f k whole start _ _ ask _ _ us t u short p (reaches h n compacted now more w z q r) x (never v y) c = no_zero t.stream.next (told_parts t us c.0).0 v
events_stand namespace f k whole start _ _ ask _ _ us t u short p (reaches h n compacted now more w z q r) x (goes v y d) c =
    by us x c.1
  where
    ok_is : (a b : List Event) → ◌≡◌ {A = Unwrapped (List Event)} (Ok a) (Ok b) → a ≡ b
    ok_is a b e = cc

    some_list : (a : Event) (more' : List Event) → [] ≡ a ∷ more' → ⊥
    some_list a more' e = cc

    m : ℕ
    m = max n (newest now + 1)

    high : (m == 0) ≡ false
    high = greater_not_zero n (newest now)

    by : (us : List Event) → events_without namespace [] ≡ Ok us → AfterEvents t h us u → Stands m start u
    by (a ∷ rest) x c = absurd (some_list a rest (ok_is [] (a ∷ rest) x))
    by [] x (inl c) =
        let f = newest_front now more in
        let w' : newest whole.history ≡ newest (now ++ more) = ap newest w in
        let fits : capped (h.revision + 1) ≡ newest now + 1 = omega (arith, f, w', short, r) in
        let next : u.stream.next ≡ max t.stream.next (capped (h.revision + 1)) = ap (λ (x : Stream). x.stream.next) c.1 in
        goes high (ap (λ (j : ℕ). max j (newest now + 1)) y ∙ ap (max t.stream.next) (sym fits) ∙ sym next) (ap (λ (x : Stream). x.stream.created) c.1 ∙ d)
    by [] x (inr c) =
        let behind : newest now + 1 ≤ n = less_not t.stream.next n h.revision (newest now) c.0 r y in
        let same : m ≡ n = omega (arith, behind) in
        goes high (same ∙ y ∙ sym (ap (λ (x : Stream). x.stream.next) c.1)) (ap (λ (x : Stream). x.stream.created) c.1 ∙ d)
events_stand namespace f k whole start _ _ ask _ _ us t u short p (tells h n compacted e es now more w z q a) x (goes v y d) c =
    by us (unwraps namespace f k (e ∷ es) us x) (told_parts t us c.0).1 c.1
  where
    nothing : {A : Type 0} (a : Event) (rest : List Event) → a ∷ rest ≡ [] → A
    nothing a rest e = absurd (cc)

    fits : last_revision 0 (e ∷ es) < newest whole.history + 1
    fits = batch_fits whole now more compacted n ask (e ∷ es) short p w q

    by : (us : List Event) → Unwraps f (e ∷ es) us → is_batch t.stream.range t.stream.next us ≡ true → AfterEvents t h us u → Stands (next_after n (e ∷ es)) start u
    by [] l b c = nothing e es (l.some refl)
    by (a ∷ rest) l b c =
        let last : last_revision 0 (a ∷ rest) ≡ last_revision 0 (e ∷ es) = l.last 0 in
        let ahead : t.stream.next ≤ last_revision 0 (a ∷ rest) = batch_behind t.stream.range t.stream.next a rest b in
        let short' = short in
        let fit = fits in
        let next : u.stream.next ≡ max t.stream.next (capped (last_revision 0 (a ∷ rest) + 1)) = ap (λ (x : Stream). x.stream.next) c in
        let whole' : max t.stream.next (capped (last_revision 0 (a ∷ rest) + 1)) ≡ last_revision 0 (e ∷ es) + 1 = omega (arith, ahead, last, fit, short') in
        let m = next_is_last n e es in
        goes (ap (λ (j : ℕ). j == 0) m ∙ not_zero (last_revision 0 (e ∷ es))) (m ∙ sym whole' ∙ sym next) (ap (λ (x : Stream). x.stream.created) c ∙ d)

-- one message
message_stands : (namespace : List ℕ) (f : Change → Option Change) → Strips namespace f → (whole : Whole) (n m : ℕ) (ask : WatchAsk) (i : WatchItem) (t u : Stream) → IsShort whole → PassesAll ask
    → Says whole ask n i m → Stands n ask.start t → AfterMessage t (item_without namespace i) u → Stands m ask.start u
message_stands namespace f k whole n m ask (item.Created h) t u short p s st c = created_stands whole ask.start ask n m h t u short refl s st c
message_stands namespace f k whole n m ask (item.Canceled h compact) t u short p s st c = absurd c
message_stands namespace f k whole n m ask (item.Events h es) t u short p s st c = by (events_without namespace es) refl c
  where
    by : (r : Unwrapped (List Event)) → events_without namespace es ≡ r → AfterMessage t (r >>= λ us. Ok (item.Events h us)) u → Stands m ask.start u
    by (Err foreign) e c = absurd c
    by (Ok us) e c = events_stand namespace f k whole ask.start n m ask h es us t u short p s e st c

-- the range of the stream stays
range_stays : (t u : Stream) (x : Unwrapped WatchItem) → AfterMessage t x u → u.stream.range ≡ t.stream.range
range_stays t u (Ok (item.Created h)) (inl c) = ap (λ (x : Stream). x.stream.range) c.1
range_stays t u (Ok (item.Created h)) (inr c) = ap (λ (x : Stream). x.stream.range) c.1
range_stays t u (Ok (item.Events h [])) (d, inl c) = ap (λ (x : Stream). x.stream.range) c.1
range_stays t u (Ok (item.Events h [])) (d, inr c) = ap (λ (x : Stream). x.stream.range) c.1
range_stays t u (Ok (item.Events h (e ∷ es))) (d, c) = ap (λ (x : Stream). x.stream.range) c
range_stays t u (Ok (item.Canceled h compact)) c = absurd c
range_stays t u (Err foreign) c = absurd c

pub delivered_link : (namespace : List ℕ) (f : Change → Option Change) → Strips namespace f → (whole : Whole) (store : State) (number : ℕ) (i : WatchItem) (rest : List WatchItem) (t u : Stream) → IsShort whole
    → Linked namespace whole store number (i ∷ rest) t → AfterMessage t (item_without namespace i) u → Linked namespace whole store number rest u
delivered_link namespace f k whole store number i rest t u short h c = record {
  watch = h.watch;
  at = h.at;
  range = h.range ∙ ap (under namespace) (sym (range_stays t u (item_without namespace i) c));
  passes = h.passes;
  next = h.chain.0;
  chain = h.chain.2;
  stands = message_stands namespace f k whole h.next h.chain.0 h.watch.ask i t u short h.passes h.chain.1 h.stands c;
}

-- ---- what is delivered is true

pub delivered_true : (namespace : List ℕ) (f : Change → Option Change) → Strips namespace f → (whole : Whole) (store : State) (number : ℕ) (i : WatchItem) (rest : List WatchItem) (t : Stream) → IsShort whole
    → Linked namespace whole store number (i ∷ rest) t → (h : Header) (us : List Event) → item_without namespace i ≡ Ok (item.Events h us) → (t.stream.next == 0) ≡ false → TellsMessage (story_by f namespace whole) t h us
delivered_true namespace f k whole store number (item.Created h) rest t short l g us e z = absurd (cc)
delivered_true namespace f k whole store number (item.Canceled h compact) rest t short l g us e z = absurd (cc)
delivered_true namespace f k whole store number (item.Events h es) rest t short l g us e z = by (events_without namespace es) refl e
  where
    same_events : (a : Header) (b : Header) (xs ys : List Event) → ◌≡◌ {A = Unwrapped WatchItem} (Ok (item.Events a xs)) (Ok (item.Events b ys)) → (a ≡ b) × (xs ≡ ys)
    same_events a b xs ys e = (cc, cc)

    next_of : (n : ℕ) → (n == 0) ≡ false → Stands n l.watch.ask.start t → t.stream.next ≡ n
    next_of n s (goes v y d) = sym y
    next_of n s (never v y) = no_zero t.stream.next z v
    next_of n s (waits v y) = no_zero n s v

    by : (r : Unwrapped (List Event)) → events_without namespace es ≡ r → (r >>= λ xs. Ok (item.Events h xs)) ≡ Ok (item.Events g us) → TellsMessage (story_by f namespace whole) t g us
    by (Err foreign) x e = absurd (cc)
    by (Ok xs) x e =
        let same = same_events h g xs us e in
        let told = message_told namespace f k whole l.watch.ask t l.next l.chain.0 h es xs short l.passes l.range (next_of l.next (says_known whole l.watch.ask l.next l.chain.0 h es l.chain.1) l.stands) l.chain.1 x in
        subst (λ (y : Header). TellsMessage (story_by f namespace whole) t y us) same.0 (subst (TellsMessage (story_by f namespace whole) t h) same.1 told)
