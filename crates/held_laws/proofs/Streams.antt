-- What a step of a proxy does to how its streams fit those of the world.
use Rattle.std.proofs.Common.{◌≡◌, inl, inr, ℕ, ◌+◌, ◌≤◌, Bool, true, false, cond, ◌==◌, List, [], ◌∷◌, ◌++◌, filter, Option, None, Some, Result, Ok, Err, refl, ap, sym, subst, ◌∙◌, arith}
use Rattle.std.proofs.lemmas.Bool.Decides.{nat_tests}
use Rattle.etcd_types.specs.declared.record.Header.{Header}
use Rattle.etcd_types.specs.declared.watch.Change.{Change}
use Rattle.etcd_types.specs.declared.watch.Event.{Event}
use Rattle.etcd_types.specs.declared.watch.WatchItem.{WatchItem}
use Rattle.etcd_types.specs.declared.watch.WatchItem.TheVariants as item
use Rattle.proxy_model.specs.Prefixes.{under}
use Rattle.proxy_model.specs.Unwrapped.{Unwrapped, ◌>>=◌, event_without, events_without, item_without}
use Rattle.store_model.specs.Events.{events_after}
use Rattle.store_model.specs.History.{newest}
use Rattle.etcd_types.specs.declared.key_range.KeyRange.{KeyRange}
use Rattle.store_model.specs.State.{State}
use Rattle.watch_model.specs.declared.stream.StreamPhase.{StreamPhase}
use Rattle.watch_model.specs.declared.stream.StreamPhase.TheVariants as phase
use Rattle.watch_model.specs.Cuts.{cut_stream}
use Rattle.watch_model.specs.Due.{sent, next_job}
use Rattle.watch_model.specs.Lookups.{stream_at, is_begun, is_closing, numbered}
use Rattle.watch_model.specs.State.{Stream, Broadcasts}
use Rattle.watch_model.proofs.Streams.{at_number, number_itself}
use Rattle.watch_laws.proofs.Seating.{each_found}
use Rattle.watch_laws.proofs.Standing.{none_without}
use Rattle.core_model.specs.declared.event.CoreEvent.{CoreEvent}
use Rattle.core_model.specs.declared.event.CoreEvent.TheVariants as event
use Rattle.core_model.specs.declared.event.Outcome.{Outcome}
use Rattle.core_model.specs.declared.event.Outcome.TheVariants as outcome
use Rattle.core_model.specs.declared.event.Job.TheVariants as job
use Rattle.core_model.specs.declared.event.StepFault.{StepFault}
use Rattle.core_model.specs.Heard.{later_header}
use Rattle.core_model.specs.LeasingStream.{item_header}
use Rattle.world_model.specs.Places.{kept_at, ended}
use Rattle.world_model.specs.Received.{WasPushed}
use Rattle.world_model.specs.State.{Numbered, OpenedStream}
use Rattle.held_laws.proofs.Pushes.{Whole, Says, ends, tells, reaches}
use Rattle.held_laws.proofs.Holding.{IsApart, IsTold}
use Rattle.core_laws.proofs.Watches.Runs.{among}
use Rattle.held_laws.proofs.Links.{Stands, waits, goes, never, Linked, StreamOk, moved, reopened, delivered_link, delivered_true}
use Rattle.held_laws.proofs.Records.{TellsEach, in_span, message_tells}
use Rattle.held_laws.proofs.Told.{BatchTold, IsBatchTold}
use Rattle.held_laws.proofs.Stories.{Strips, story_by, IsShort, newest_front}
use Rattle.held_laws.proofs.Writing.{Fits, SaidOk, IsSaid}
use Rattle.held_laws.proofs.StreamSteps.{Stays, stays_same, told_stays, told_at, told_grows, cut_stays, cut_gone, cuts_grow, taken_stays, taken_grows, removed_stays, removed_grows, joined_stays, joined_grows, sent_stays, sent_grows, AfterMessage}
use Rattle.core_laws.proofs.Watches.Touches.{Side, with_step, is_other, is_plain, told_unwrapped, told_stream, Touch, leaves, hears, ticks, joins, heard_leasing, broke_leasing, cut_leasing, told, cut, took, left_it, opens_leasing, sends, IsAmong}

fresh_number : (n g : ℕ) → n ≤ g → (n == g + 1) ≡ false
fresh_number n g l = grind (arith, nat_tests)

equal : (x y : ℕ) → (x == y) ≡ true → x ≡ y
equal x y e = grind (arith, nat_tests)

no_zero : {A : Type 0} (n : ℕ) → (n == 0) ≡ false → n ≡ 0 → A
no_zero n e z = absurd (let t : (n == 0) ≡ true = grind (arith, nat_tests) in cc)

ok_is : (x y : List Event) → ◌≡◌ {A = Unwrapped (List Event)} (Ok x) (Ok y) → x ≡ y
ok_is x y e = cc

none_here : {A : Type 0} (t : Stream) → ◌≡◌ {A = Option Stream} None (Some t) → A
none_here t e = absurd (cc)

some_is : (s t : Stream) → Some s ≡ Some t → s ≡ t
some_is s t e = cc

-- the same streams, and at least as many numbers
same_streams : (namespace : List ℕ) (whole : Whole) (store : State) (number : ℕ) (s : OpenedStream) (a d : Side) (kept : Numbered ℕ) → d.broadcasts.streams ≡ a.broadcasts.streams → a.broadcasts.given ≤ d.broadcasts.given
    → StreamOk namespace whole store number s a kept → StreamOk namespace whole store number s d kept
same_streams namespace whole store number s a d kept e g h =
    moved namespace whole store number s a d kept (a.broadcasts.given + 1) (fresh_number s.own a.broadcasts.given h.given) g
    (subst (λ us. Stays (a.broadcasts.given + 1) a.broadcasts.given a.broadcasts.streams us) (sym e) (stays_same (a.broadcasts.given + 1) a.broadcasts.given a.broadcasts.streams)) h

pub aged_ok : (namespace : List ℕ) (whole : Whole) (store : State) (number : ℕ) (s : OpenedStream) (a : Side) (n : ℕ) (kept : Numbered ℕ) → StreamOk namespace whole store number s a kept
    → StreamOk namespace whole store number s (record a { broadcasts = with_step a.broadcasts n }) kept
aged_ok namespace whole store number s a n kept h = record { given = h.given; mine = h.mine; begun = h.begun; link = h.link }

-- ---- steps that are of no stream, or of one that the world doesn't have

untouched : (namespace : List ℕ) (whole : Whole) (store : State) (number : ℕ) (s : OpenedStream) (a : Side) (b : Broadcasts) (kept : Numbered ℕ) → a.broadcasts.given ≤ b.given
    → Stays (a.broadcasts.given + 1) a.broadcasts.given a.broadcasts.streams b.streams → StreamOk namespace whole store number s a kept → StreamOk namespace whole store number s (record a { broadcasts = b }) kept
untouched namespace whole store number s a b kept g y h =
    moved namespace whole store number s a (record a { broadcasts = b }) kept (a.broadcasts.given + 1) (fresh_number s.own a.broadcasts.given h.given) g y h

pub found_is : (a : Side) (s : Stream) → numbered 0 a.broadcasts.given a.broadcasts.streams ≡ true → IsAmong s a.broadcasts.streams → stream_at s.number a.broadcasts.streams ≡ Some s
found_is a s n i = among (λ (t : Stream). stream_at t.number a.broadcasts.streams ≡ Some t) a.broadcasts.streams s i (each_found a.broadcasts.given a.broadcasts.streams n)

pub sent_streams : (namespace : List ℕ) (whole : Whole) (store : State) (number : ℕ) (s : OpenedStream) (a : Side) (u : Stream) (kept : Numbered ℕ) → stream_at u.number a.broadcasts.streams ≡ Some u
    → StreamOk namespace whole store number s a kept → StreamOk namespace whole store number s (record a { broadcasts = (next_job a.broadcasts (Some u)).0 }) kept
sent_streams namespace whole store number s a u kept f h = by u.phase refl
  where
    at_phase : (p : StreamPhase) → u.phase ≡ p → is_begun u.phase ≡ false → (is_closing u.phase ≡ true → (t : Stream) → stream_at u.number (sent a.broadcasts u p).0.streams ≡ Some t → is_closing t.phase ≡ true)
        → StreamOk namespace whole store number s (record a { broadcasts = (sent a.broadcasts u p).0 }) kept
    at_phase p e b c =
        reopened namespace whole store number s a (record a { broadcasts = (sent a.broadcasts u p).0 }) kept u f b
        (subst (λ (q : StreamPhase). a.broadcasts.given ≤ (sent a.broadcasts u q).0.given) e (sent_grows a.broadcasts u))
        (subst (λ (q : StreamPhase). Stays u.number a.broadcasts.given a.broadcasts.streams (sent a.broadcasts u q).0.streams) e (sent_stays a.broadcasts u)) c h

    by : (p : StreamPhase) → u.phase ≡ p → StreamOk namespace whole store number s (record a { broadcasts = (sent a.broadcasts u p).0 }) kept
    by (phase.Closing since) e = at_phase (phase.Closing since) e (ap is_begun e) (λ q t g. none_here t (sym (none_without u.number u.number a.broadcasts.streams (number_itself u.number)) ∙ g))
    by (phase.Due since) e = at_phase (phase.Due since) e (ap is_begun e) (λ q t g. absurd (let no' : true ≡ false = sym q ∙ ap is_closing e in cc))
    by phase.Begun e = h

pub touch_streams : (namespace : List ℕ) (whole : Whole) (store : State) (number : ℕ) (s : OpenedStream) (a d : Side) (kept : Numbered ℕ) (e : CoreEvent) (o : Result Outcome StepFault) → is_other e ≡ true
    → numbered 0 a.broadcasts.given a.broadcasts.streams ≡ true → Touch namespace a e d o → StreamOk namespace whole store number s a kept → StreamOk namespace whole store number s d kept
touch_streams namespace whole store number s a _ kept _ _ q n (leaves e o p) h = h
touch_streams namespace whole store number s a _ kept _ _ q n (hears call reply o p) h = record { given = h.given; mine = h.mine; begun = h.begun; link = h.link }
touch_streams namespace whole store number s a _ kept _ _ q n (ticks word) h = same_streams namespace whole store number s a _ kept refl (omega arith) h
touch_streams namespace whole store number s a _ kept _ _ q n (joins ticket ask word f) h =
    untouched namespace whole store number s a _ kept (joined_grows a.broadcasts ticket ask a.header) (joined_stays (a.broadcasts.given + 1) a.broadcasts ticket ask a.header) h
touch_streams namespace whole store number s a _ kept _ _ q n (heard_leasing k x l) h = absurd (cc)
touch_streams namespace whole store number s a _ kept _ _ q n (broke_leasing k x l) h = absurd (cc)
touch_streams namespace whole store number s a _ kept _ _ q n (cut_leasing k l) h = absurd (cc)
touch_streams namespace whole store number s a _ kept _ _ q n (told k x t f) h = absurd (cc)
touch_streams namespace whole store number s a _ kept _ _ q n (cut k t f) h = absurd (cc)
touch_streams namespace whole store number s a _ kept _ _ q n (took ticket w i is f g) h =
    untouched namespace whole store number s a _ kept (taken_grows a.broadcasts a.header w) (taken_stays (a.broadcasts.given + 1) a.broadcasts a.header w) h
touch_streams namespace whole store number s a _ kept _ _ q n (left_it ticket) h =
    untouched namespace whole store number s a _ kept (removed_grows a.broadcasts ticket _) (removed_stays (a.broadcasts.given + 1) a.broadcasts ticket _) h
touch_streams namespace whole store number s a _ kept _ _ q n (opens_leasing k member r l) h = h
touch_streams namespace whole store number s a _ kept _ _ q n (sends c u m is f) h = sent_streams namespace whole store number s a u kept (found_is a u n f) h

-- ---- a message is delivered

unplain : {A : Type 0} (e : CoreEvent) (o : Outcome) → is_other e ≡ false → is_plain e (Ok o) ≡ true → A
unplain e (outcome.Item i) n p = absurd (cc)
unplain e (outcome.Replied a) n p = absurd (let no' : true ≡ false = sym p ∙ n in cc)
unplain e outcome.Waiting n p = absurd (let no' : true ≡ false = sym p ∙ n in cc)
unplain e outcome.Pending n p = absurd (let no' : true ≡ false = sym p ∙ n in cc)
unplain e outcome.Noted n p = absurd (let no' : true ≡ false = sym p ∙ n in cc)
unplain e (outcome.Job None) n p = absurd (let no' : true ≡ false = sym p ∙ n in cc)
unplain e (outcome.Job (Some (job.Call own member ticket q))) n p = absurd (let no' : true ≡ false = sym p ∙ n in cc)
unplain e (outcome.Job (Some (job.Begin own member q))) n p = absurd (cc)
unplain e (outcome.Job (Some (job.Close own))) n p = absurd (cc)

-- the leasing stream's number is no client stream's
pub apart_none : (l : Option ℕ) (b : Broadcasts) (number : ℕ) → l ≡ Some number → IsApart l b → stream_at number b.streams ≡ None
apart_none None b number e i = absurd (cc)
apart_none (Some n) b number e i = let one : n ≡ number = cc in ap (λ (k : ℕ). stream_at k b.streams) (sym one) ∙ i.1

-- of a stream of the world that no client stream has
pub nothing_there : (namespace : List ℕ) (whole : Whole) (store : State) (number : ℕ) (s : OpenedStream) (d : Side) (kept : Numbered ℕ) → s.own ≤ d.broadcasts.given → stream_at s.own d.broadcasts.streams ≡ None
    → StreamOk namespace whole store number s d kept
nothing_there namespace whole store number s d kept g n = record {
  given = g;
  mine = λ t e c. none_here t (sym n ∙ e);
  begun = λ t e c. none_here t (sym n ∙ e);
  link = λ q t e c. none_here t (sym n ∙ e);
}

phase_stays : (t u : Stream) (x : Unwrapped WatchItem) → AfterMessage t x u → u.phase ≡ t.phase
phase_stays t u (Ok (item.Created h)) (inl c) = ap (λ (x : Stream). x.phase) c.1
phase_stays t u (Ok (item.Created h)) (inr c) = ap (λ (x : Stream). x.phase) c.1
phase_stays t u (Ok (item.Events h [])) (d, inl c) = ap (λ (x : Stream). x.phase) c.1
phase_stays t u (Ok (item.Events h [])) (d, inr c) = ap (λ (x : Stream). x.phase) c.1
phase_stays t u (Ok (item.Events h (e ∷ es))) (d, c) = ap (λ (x : Stream). x.phase) c
phase_stays t u (Ok (item.Canceled h compact)) c = absurd c
phase_stays t u (Err foreign) c = absurd c

open_begun : (p : StreamPhase) → is_begun p ≡ true → is_closing p ≡ false
open_begun (phase.Due since) e = refl
open_begun (phase.Closing since) e = absurd (cc)
open_begun phase.Begun e = refl

told_itself : (namespace : List ℕ) (f : Change → Option Change) → Strips namespace f → (whole : Whole) (store : State) (number : ℕ) (s : OpenedStream) (x : WatchItem) (rest : List WatchItem) (a : Side) (kept : Numbered ℕ) (t : Stream) (h : Header)
    → IsShort whole → s.ended ≡ false → s.waiting ≡ x ∷ rest → stream_at s.own a.broadcasts.streams ≡ Some t → StreamOk namespace whole store number s a kept
    → StreamOk namespace whole store number (record s { waiting = rest }) (record { broadcasts = told_stream a.broadcasts t h namespace x; header = h; leasing = a.leasing }) kept
told_itself namespace f k whole store number s x rest a kept t h short live waiting at ok = by (is_begun t.phase) refl
  where
    b : Broadcasts
    b = a.broadcasts

    same : t.number ≡ s.own
    same = at_number s.own a.broadcasts.streams t at

    itself : stream_at t.number a.broadcasts.streams ≡ Some t
    itself = ap (λ (n : ℕ). stream_at n a.broadcasts.streams) same ∙ at

    grown : s.own ≤ (told_stream a.broadcasts t h namespace x).given
    grown = let l = ok.given in let g = told_grows a.broadcasts t h namespace x in omega (arith, l, g)

    after : is_begun t.phase ≡ true → (u : Stream) → stream_at s.own (told_stream a.broadcasts t h namespace x).streams ≡ Some u → is_closing u.phase ≡ false → AfterMessage t (item_without namespace x) u
    after q u e c =
        told_at a.broadcasts t h namespace x itself q (let l = ok.given in omega (arith, l, same)) u
        (ap (λ (n : ℕ). stream_at n (told_stream a.broadcasts t h namespace x).streams) same ∙ e) c

    still : is_begun t.phase ≡ false → (u : Stream) → stream_at s.own (told_stream a.broadcasts t h namespace x).streams ≡ Some u → t ≡ u
    still q u e = some_is t u (sym at ∙ sym (ap (λ c. stream_at s.own (cond c (told_unwrapped a.broadcasts t h (item_without namespace x)) a.broadcasts).streams) q) ∙ e)

    no_begun : {A : Type 0} → is_begun t.phase ≡ false → (u : Stream) → stream_at s.own (told_stream a.broadcasts t h namespace x).streams ≡ Some u → is_closing u.phase ≡ false → A
    no_begun q u e c =
        let one = still q u e in
        absurd (let yes' : true ≡ false = sym (ok.begun t at (ap (λ (x : Stream). is_closing x.phase) one ∙ c)) ∙ q in cc)

    by : (c : Bool) → is_begun t.phase ≡ c
        → StreamOk namespace whole store number (record s { waiting = rest }) (record { broadcasts = told_stream a.broadcasts t h namespace x; header = h; leasing = a.leasing }) kept
    by true q = record {
      given = grown;
      mine = λ u e c. ok.mine t at (open_begun t.phase q);
      begun = λ u e c. ap is_begun (phase_stays t u (item_without namespace x) (after q u e c)) ∙ q;
      link = λ l u e c.
          delivered_link namespace f k whole store number x rest t u short
          (subst (λ (is : List WatchItem). Linked namespace whole store number is t) waiting (ok.link live t at (open_begun t.phase q))) (after q u e c);
    }
    by false q = record {
      given = grown;
      mine = λ u e c. no_begun q u e c;
      begun = λ u e c. no_begun q u e c;
      link = λ l u e c. no_begun q u e c;
    }

pub delivered_itself : (namespace : List ℕ) (f : Change → Option Change) → Strips namespace f → (whole : Whole) (store : State) (number : ℕ) (s : OpenedStream) (x : WatchItem) (rest : List WatchItem) (a d : Side) (kept : Numbered ℕ) (own : ℕ) (o : Outcome)
    → IsShort whole → s.own ≡ own → s.ended ≡ false → s.waiting ≡ x ∷ rest → IsApart a.leasing a.broadcasts → Touch namespace a (event.Item own x) d (Ok o) → StreamOk namespace whole store number s a kept
    → StreamOk namespace whole store number (record s { waiting = rest }) d kept
delivered_itself namespace f k whole store number s x rest a _ kept own _ short is live waiting ap' (leaves e o p) ok = unplain (event.Item own x) _ refl p
delivered_itself namespace f k whole store number s x rest a _ kept _ _ short is live waiting ap' (heard_leasing n y l) ok =
    nothing_there namespace whole store number (record s { waiting = rest }) _ kept ok.given (ap (λ (j : ℕ). stream_at j a.broadcasts.streams) is ∙ apart_none a.leasing a.broadcasts n l ap')
delivered_itself namespace f k whole store number s x rest a _ kept _ _ short is live waiting ap' (broke_leasing n y l) ok =
    nothing_there namespace whole store number (record s { waiting = rest }) _ kept (let g = ok.given in omega (arith, g)) (ap (λ (j : ℕ). stream_at j a.broadcasts.streams) is ∙ apart_none a.leasing a.broadcasts n l ap')
delivered_itself namespace f k whole store number s x rest a _ kept _ _ short is live waiting ap' (told n y t e) ok =
    told_itself namespace f k whole store number s y rest a kept t _ short live waiting (ap (λ (j : ℕ). stream_at j a.broadcasts.streams) is ∙ e) ok

-- another stream of the world, where the one that is told has this number
pub delivered_others : (namespace : List ℕ) (whole : Whole) (store : State) (number other : ℕ) (s : OpenedStream) (x : WatchItem) (a d : Side) (kept : Numbered ℕ) (own : ℕ) (o : Outcome)
    → ((t : Stream) → stream_at own a.broadcasts.streams ≡ Some t → is_closing t.phase ≡ false → kept_at kept own ≡ Some number) → (number ≡ other → ⊥)
    → Touch namespace a (event.Item own x) d (Ok o) → StreamOk namespace whole store other s a kept → StreamOk namespace whole store other s d kept
delivered_others namespace whole store number other s x a _ kept own _ mine n (leaves e o p) ok = unplain (event.Item own x) _ refl p
delivered_others namespace whole store number other s x a _ kept _ _ mine n (heard_leasing k y l) ok = record { given = ok.given; mine = ok.mine; begun = ok.begun; link = ok.link }
delivered_others namespace whole store number other s x a _ kept _ _ mine n (broke_leasing k y l) ok = same_streams namespace whole store other s a _ kept refl (omega arith) ok
delivered_others namespace whole store number other s x a _ kept _ _ mine n (told own y t e) ok = by (s.own == t.number) refl
  where
    d : Side
    d = record { broadcasts = told_stream a.broadcasts t (later_header a.header (item_header y)) namespace y; header = later_header a.header (item_header y); leasing = a.leasing }

    h : Header
    h = later_header a.header (item_header y)

    some_number : (i j : ℕ) → Some i ≡ Some j → i ≡ j
    some_number i j e = cc

    here : s.own ≡ t.number → stream_at s.own a.broadcasts.streams ≡ Some t
    here q = ap (λ (j : ℕ). stream_at j a.broadcasts.streams) (q ∙ at_number own a.broadcasts.streams t e) ∙ e

    -- an open stream of that number is the one that is told
    open_is : s.own ≡ t.number → is_closing t.phase ≡ false → ⊥
    open_is q c =
        n (some_number number other (sym (mine t e c) ∙ ap (kept_at kept) (sym (q ∙ at_number own a.broadcasts.streams t e)) ∙ ok.mine t (here q) c))

    not_begun : (p : StreamPhase) → is_closing p ≡ true → is_begun p ≡ false
    not_begun (phase.Due since) e = absurd (cc)
    not_begun (phase.Closing since) e = refl
    not_begun phase.Begun e = absurd (cc)

    no_open : {A : Type 0} → s.own ≡ t.number → (u : Stream) → stream_at s.own (told_stream a.broadcasts t (later_header a.header (item_header y)) namespace y).streams ≡ Some u → is_closing u.phase ≡ false → A
    no_open q u f c = by_phase (is_closing t.phase) refl
      where
        by_phase : {A : Type 0} → (b : Bool) → is_closing t.phase ≡ b → A
        by_phase false r = absurd (open_is q r)
        by_phase true r =
            let one : t ≡ u = some_is t u (sym (here q) ∙ sym (ap (λ c. stream_at s.own (cond c (told_unwrapped a.broadcasts t (later_header a.header (item_header y)) (item_without namespace y)) a.broadcasts).streams) (not_begun t.phase r)) ∙ f) in
            absurd (let no' : true ≡ false = sym r ∙ ap (λ (x : Stream). is_closing x.phase) one ∙ c in cc)

    by : (b : Bool) → (s.own == t.number) ≡ b → StreamOk namespace whole store other s d kept
    by false q = moved namespace whole store other s a d kept t.number q (told_grows a.broadcasts t h namespace y) (told_stays a.broadcasts t h namespace y) ok
    by true q =
        let same = equal s.own t.number q in record {
          given = (let l = ok.given in let g = told_grows a.broadcasts t h namespace y in omega (arith, l, g));
          mine = λ u f c. no_open same u f c;
          begun = λ u f c. no_open same u f c;
          link = λ z u f c. no_open same u f c;
        }

-- what is delivered of a stream is true
pub delivered_tells : (namespace : List ℕ) (f : Change → Option Change) → Strips namespace f → (whole : Whole) (store : State) (number : ℕ) (s : OpenedStream) (x : WatchItem) (rest : List WatchItem) (a : Side) (kept : Numbered ℕ)
    → IsShort whole → s.ended ≡ false → s.waiting ≡ x ∷ rest → StreamOk namespace whole store number s a kept → IsTold (story_by f namespace whole) namespace a (event.Item s.own x)
delivered_tells namespace f k whole store number s x rest a kept short live waiting ok t h es at q z u =
    delivered_true namespace f k whole store number x rest t short
    (subst (λ (is : List WatchItem). Linked namespace whole store number is t) waiting (ok.link live t at (open_begun t.phase q))) h es u z

-- and each event of it, with the record before
batch_of : (namespace : List ℕ) (whole : Whole) (store : State) (number : ℕ) (i : WatchItem) (rest : List WatchItem) (t : Stream) → Linked namespace whole store number (i ∷ rest) t → (h : Header) (us : List Event) → item_without namespace i ≡ Ok (item.Events h us)
    → (t.stream.next == 0) ≡ false → BatchTold whole namespace t us
batch_of namespace whole store number (item.Created h) rest t l g us e z = absurd (cc)
batch_of namespace whole store number (item.Canceled h compact) rest t l g us e z = absurd (cc)
batch_of namespace whole store number (item.Events h es) rest t l g us e z = by (events_without namespace es) refl e
  where
    same_events : (a : Header) (b : Header) (xs ys : List Event) → ◌≡◌ {A = Unwrapped WatchItem} (Ok (item.Events a xs)) (Ok (item.Events b ys)) → xs ≡ ys
    same_events a b xs ys e = cc

    some_batch : (n b : ℕ) (us : List Event) → n ≡ t.stream.next → TellsEach whole.items true namespace us (filter (in_span n b) (events_after (under namespace t.stream.range) [] whole.history)) → BatchTold whole namespace t us
    some_batch n b [] e h = tt
    some_batch n b (u ∷ us) e h = (b, subst (λ (k : ℕ). TellsEach whole.items true namespace (u ∷ us) (filter (in_span k b) (events_after (under namespace t.stream.range) [] whole.history))) e h)

    next_of : (n : ℕ) → (n == 0) ≡ false → Stands n l.watch.ask.start t → n ≡ t.stream.next
    next_of n s (goes v y d) = y
    next_of n s (never v y) = no_zero t.stream.next z v
    next_of n s (waits v y) = no_zero n s v

    told : (n m : ℕ) (es : List Event) (xs : List Event) → Says whole l.watch.ask n (item.Events h es) m → Stands n l.watch.ask.start t → events_without namespace es ≡ Ok xs → BatchTold whole namespace t xs
    told _ _ _ xs (tells h n compacted e es now more w z q a) st x =
        some_batch n (newest now + 1) xs (next_of n z st)
        (subst (λ (r : KeyRange). TellsEach whole.items true namespace xs (filter (in_span n (newest now + 1)) (events_after r [] whole.history))) l.range (message_tells whole namespace l.watch.ask n compacted h (e ∷ es) xs now more l.passes w q a x))
    told _ _ _ xs (reaches h n compacted now more w z q r) st x = subst (BatchTold whole namespace t) (ok_is [] xs x) tt

    by : (r : Unwrapped (List Event)) → events_without namespace es ≡ r → (r >>= λ xs. Ok (item.Events h xs)) ≡ Ok (item.Events g us) → BatchTold whole namespace t us
    by (Err foreign) x e = absurd (cc)
    by (Ok xs) x e = subst (BatchTold whole namespace t) (same_events h g xs us e) (told l.next l.chain.0 es xs l.chain.1 l.stands x)

pub delivered_batch : (namespace : List ℕ) (whole : Whole) (store : State) (number : ℕ) (s : OpenedStream) (x : WatchItem) (rest : List WatchItem) (a : Side) (kept : Numbered ℕ) → s.ended ≡ false → s.waiting ≡ x ∷ rest
    → StreamOk namespace whole store number s a kept → IsBatchTold whole namespace a (event.Item s.own x)
delivered_batch namespace whole store number s x rest a kept live waiting ok t h es at q z u =
    batch_of namespace whole store number x rest t (subst (λ (is : List WatchItem). Linked namespace whole store number is t) waiting (ok.link live t at (open_begun t.phase q))) h es u z

-- only to a stream that stands created, and a cancellation names a compaction of the store
said_of : (namespace : List ℕ) (whole : Whole) (store : State) (number : ℕ) (i : WatchItem) (rest : List WatchItem) (t : Stream) → IsShort whole → Linked namespace whole store number (i ∷ rest) t → SaidOk whole t (item_without namespace i)
said_of namespace whole store number (item.Created h) rest t short l = tt
said_of namespace whole store number (item.Canceled h compact) rest t short l = by l.next l.chain.0 l.chain.1 l.stands
  where
    stands : (n : ℕ) → (n == 0) ≡ false → Stands n l.watch.ask.start t → t.stream.created ≡ true
    stands n z (goes v y d) = d
    stands n z (never v d) = d
    stands n z (waits v y) = no_zero n z v

    by : (n m : ℕ) → Says whole l.watch.ask n (item.Canceled h compact) m → Stands n l.watch.ask.start t → (t.stream.created ≡ true) × WasPushed whole.items compact
    by _ _ (ends h n compact z b w) st = (stands n z st, record { before = w.before; stream = w.stream; header = h; after = w.after; pushed = w.pushed; compacted = w.compaction })
said_of namespace whole store number (item.Events h es) rest t short l = by (events_without namespace es) refl
  where
    stands : (n : ℕ) → (n == 0) ≡ false → Stands n l.watch.ask.start t → t.stream.created ≡ true
    stands n z (goes v y d) = d
    stands n z (never v d) = d
    stands n z (waits v y) = no_zero n z v

    none_of : (xs : List Event) → events_without namespace [] ≡ Ok xs → h.revision + 1 ≤ 0xffff_ffff_ffff_ffff → Fits h xs
    none_of [] e l = l
    none_of (x ∷ xs) e l = tt

    some_of : (y : Event) (ys xs : List Event) → events_without namespace (y ∷ ys) ≡ Ok xs → Fits h xs
    some_of y ys (x ∷ xs) e = tt
    some_of y ys [] e = absurd (by (event_without namespace y) e)
      where
        by : (r : Unwrapped Event) → (r >>= λ z. events_without namespace ys >>= λ zs. Ok (z ∷ zs)) ≡ Ok [] → ⊥
        by (Err foreign) e = absurd (cc)
        by (Ok z) e = more (events_without namespace ys) e
          where
            more : (r : Unwrapped (List Event)) → (r >>= λ zs. Ok (z ∷ zs)) ≡ Ok [] → ⊥
            more (Err foreign) e = absurd (cc)
            more (Ok zs) e = absurd (cc)

    told : (n m : ℕ) (es xs : List Event) → Says whole l.watch.ask n (item.Events h es) m → events_without namespace es ≡ Ok xs → Stands n l.watch.ask.start t → (t.stream.created ≡ true) × Fits h xs
    told _ _ _ xs (tells h n compacted e es now more w z q a) x st = (stands n z st, some_of e es xs x)
    told _ _ _ xs (reaches h n compacted now more w z q r) x st =
        let f = newest_front now more in
        let w' : newest whole.history ≡ newest (now ++ more) = ap newest w in
        (stands n z st, none_of xs x (omega (arith, f, w', short, r)))

    by : (r : Unwrapped (List Event)) → events_without namespace es ≡ r → SaidOk whole t (r >>= λ us. Ok (item.Events h us))
    by (Err foreign) e = tt
    by (Ok us) e = λ z. told l.next l.chain.0 es us l.chain.1 e l.stands

pub delivered_said : (namespace : List ℕ) (whole : Whole) (store : State) (number : ℕ) (s : OpenedStream) (x : WatchItem) (rest : List WatchItem) (a : Side) (kept : Numbered ℕ) → IsShort whole → s.ended ≡ false → s.waiting ≡ x ∷ rest
    → StreamOk namespace whole store number s a kept → IsSaid whole namespace a (event.Item s.own x)
delivered_said namespace whole store number s x rest a kept short live waiting ok t at q =
    said_of namespace whole store number x rest t short (subst (λ (is : List WatchItem). Linked namespace whole store number is t) waiting (ok.link live t at (open_begun t.phase q)))

-- ---- a cut

pub cut_itself : (namespace : List ℕ) (whole : Whole) (store : State) (number : ℕ) (s : OpenedStream) (a d : Side) (kept : Numbered ℕ) (own : ℕ) (o : Outcome) → s.own ≡ own → IsApart a.leasing a.broadcasts
    → Touch namespace a (event.Cut own) d (Ok o) → StreamOk namespace whole store number s a kept → StreamOk namespace whole store number (ended s) d kept
cut_itself namespace whole store number s a _ kept own _ is ap' (leaves e o p) ok = unplain (event.Cut own) _ refl p
cut_itself namespace whole store number s a _ kept _ _ is ap' (cut_leasing n l) ok =
    nothing_there namespace whole store number (ended s) _ kept (let g = ok.given in omega (arith, g)) (ap (λ (j : ℕ). stream_at j a.broadcasts.streams) is ∙ apart_none a.leasing a.broadcasts n l ap')
cut_itself namespace whole store number s a _ kept _ _ is ap' (cut n t e) ok =
    let same : t.number ≡ s.own = at_number n a.broadcasts.streams t e ∙ sym is in
    nothing_there namespace whole store number (ended s) _ kept (let l = ok.given in let g = cuts_grow a.broadcasts t in omega (arith, l, g))
    (ap (λ (j : ℕ). stream_at j (cut_stream a.broadcasts t).streams) (sym same) ∙ cut_gone a.broadcasts t (let l = ok.given in omega (arith, l, same)))

pub cut_others : (namespace : List ℕ) (whole : Whole) (store : State) (other : ℕ) (s : OpenedStream) (a d : Side) (kept : Numbered ℕ) (own : ℕ) (o : Outcome)
    → Touch namespace a (event.Cut own) d (Ok o) → StreamOk namespace whole store other s a kept → StreamOk namespace whole store other s d kept
cut_others namespace whole store other s a _ kept own _ (leaves e o p) ok = unplain (event.Cut own) _ refl p
cut_others namespace whole store other s a _ kept _ _ (cut_leasing n l) ok = same_streams namespace whole store other s a _ kept refl (omega arith) ok
cut_others namespace whole store other s a _ kept _ _ (cut n t e) ok = by (s.own == t.number) refl
  where
    d : Side
    d = record a { broadcasts = cut_stream a.broadcasts t }

    by : (b : Bool) → (s.own == t.number) ≡ b → StreamOk namespace whole store other s d kept
    by false q = moved namespace whole store other s a d kept t.number q (cuts_grow a.broadcasts t) (cut_stays t.number a.broadcasts.given a.broadcasts t refl) ok
    by true q =
        let same = equal s.own t.number q in
        nothing_there namespace whole store other s d kept (let l = ok.given in let g = cuts_grow a.broadcasts t in omega (arith, l, g))
        (ap (λ (j : ℕ). stream_at j (cut_stream a.broadcasts t).streams) same ∙ cut_gone a.broadcasts t (let l = ok.given in omega (arith, l, same)))
