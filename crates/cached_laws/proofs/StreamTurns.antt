-- A turn of a proxy, and the leasing stream that items tell of.
use Rattle.std.proofs.Common.{◌≡◌, ℕ, ◌+◌, ◌==◌, ◌≤◌, Bool, true, false, cond, not, ◌&&◌, List, [], ◌∷◌, ◌++◌, append_assoc, length, Option, None, Some, is_some, Result, Ok, Err, refl, sym, ◌∙◌, ap, subst, arith}
use Rattle.std.specs.List.{list_all}
use Rattle.etcd_types.specs.declared.key_range.KeyRange.{KeyRange}
use Rattle.etcd_types.specs.declared.request.Request.{Request}
use Rattle.etcd_types.specs.declared.request.Request.TheVariants as request
use Rattle.etcd_types.specs.declared.request.WatchAsk.{WatchAsk}
use Rattle.etcd_types.specs.declared.watch.WatchItem.{WatchItem}
use Rattle.etcd_types.specs.Keys.{same}
use Rattle.etcd_types.proofs.Bools.{and_first, and_second, and_both, and_false}
use Rattle.etcd_types.proofs.KeyOrder.{same-itself}
use Rattle.proxy_model.specs.Prefixes.{leasing_range, under}
use Rattle.proxy_model.specs.Unwrapped.{item_without}
use Rattle.proxy_model.specs.Upstream.{Upstream, opened}
use Rattle.proxy_model.specs.Wrapped.{request_under}
use Rattle.watch_model.specs.Lookups.{stream_at}
use Rattle.watch_model.specs.State.{Broadcasts}
use Rattle.core_model.specs.declared.event.CoreEvent.{CoreEvent}
use Rattle.core_model.specs.declared.event.CoreEvent.TheVariants as event
use Rattle.core_model.specs.declared.event.Job.TheVariants as job
use Rattle.core_model.specs.declared.event.Outcome.{Outcome}
use Rattle.core_model.specs.declared.event.Outcome.TheVariants as outcome
use Rattle.core_model.specs.declared.event.StepFault.{StepFault}
use Rattle.core_model.specs.declared.settings.Settings.{Settings}
use Rattle.core_model.specs.ClockWork.{begun, clock_work}
use Rattle.core_model.specs.LeasingStream.{watch_of, opening_sent}
use Rattle.core_model.specs.Sessions.{without_session, seat_is_over}
use Rattle.core_model.specs.State.{Opening, Core}
use Rattle.core_model.specs.Step.{opening_at, happened, stepped}
use Rattle.core_model.specs.Stepped.{Stepped, counted, counted_by}
use Rattle.core_model.specs.Watching.{watch_from}
use Rattle.core_laws.proofs.Steps.Lists.{same_number, number_itself, number_turned}
use Rattle.core_fits.specs.Fits.{IsOfLeasing}
use Rattle.script_text.specs.declared.item.Item.{Item}
use Rattle.script_text.specs.declared.item.Item.TheVariants as item
use Rattle.held_laws.proofs.Opens.{last_nth}
use Rattle.session_laws.proofs.Lists.{nth_front, nth_next, nth_pushed}
use Rattle.session_laws.proofs.Steps.{gave}
use Rattle.world_model.specs.Gains.{Replies, taken_items, line_if}
use Rattle.world_model.specs.Lives.{begins, next_message}
use Rattle.world_model.specs.Places.{nth, with_nth, is_among, ended}
use Rattle.world_model.specs.Sends.{next_stream, new_stream, closed_in}
use Rattle.world_model.specs.State.{Place, OpenedStream, World, word}
use Rattle.world_laws.proofs.Effects.{Turn, ticks, asks_it, posts_it, calls, opens, closes, answers, loses, delivers, cuts, takes, waits, leaves}
use Rattle.truth_laws.proofs.Facts.{told_of as facts_of, Facts}
use Rattle.owner_fits.specs.Laws.{OwnersFit}
use Rattle.cached_laws.specs.Streams.{ToldStream, is_leasing_watch, opened_by, told_in, numbered, delivered_by, cut_by, stream_by, leasing_of}
use Rattle.cached_laws.proofs.Folds.{told_next}
use Rattle.cached_laws.proofs.Jobs.{first_stands}
use Rattle.cached_laws.proofs.NewTold.{next_is}
use Rattle.cached_laws.proofs.Openings.{TickGoes, tick_goes, ItemGoes, item_goes, CutGoes, cut_goes, WorkGoes, work_goes, IsAnew}
use Rattle.cached_laws.proofs.Openings as openings
use Rattle.cached_laws.proofs.Steps.{clock_leasing, clock_settings}
use Rattle.cached_laws.proofs.StreamTold.{Its, StreamTold, IsOpen, Forth, Back, forth_itself, forth_changed, back_changed, keeps, anew_told, goes_told, dry_told, is_dry, delivered_other, cut_other, delivered_itself, cut_itself, none_told, not_told}

same_opening : (a b : Opening) → Some a ≡ Some b → a ≡ b
same_opening a b e = cc

its_opening : (number : ℕ) (l : Option Opening) (o : Opening) → opening_at number l ≡ Some o → (l ≡ Some o) × (o.number ≡ number)
its_opening number None o e = absurd (cc)
its_opening number (Some y) o e = by (y.number == number) refl e
  where
    by : (b : Bool) → (y.number == number) ≡ b → cond b (Some y) None ≡ Some o → (Some y ≡ Some o) × (o.number ≡ number)
    by true f g = (g, ap (λ (z : Opening). z.number) (sym (same_opening y o g)) ∙ same_number y.number number f)
    by false f g = absurd (cc)

found_opening : (number : ℕ) (l : Option Opening) (o : Opening) → l ≡ Some o → o.number ≡ number → opening_at number l ≡ Some o
found_opening number l o e n = ap (opening_at number) e ∙ ap (λ (m : ℕ). cond (m == number) (Some o) None) n ∙ ap (λ (b : Bool). cond b (Some o) None) (number_itself number)

clock_watches : (now : ℕ) (c : Core) → ((clock_work now c).watches.given ≡ c.watches.given) × ((clock_work now c).watches.streams ≡ c.watches.streams)
unfolding clock_work
clock_watches now c = by (seat_is_over c.seat now)
  where
    by : (b : Bool) → ((cond b (without_session now (begun c)) (begun c)).watches.given ≡ c.watches.given) × ((cond b (without_session now (begun c)) (begun c)).watches.streams ≡ c.watches.streams)
    by true = (refl, refl)
    by false = (refl, refl)

-- a fetch leaves the leasing stream
pub take_leasing : (c : Core) (ticket now : ℕ) → (stepped c (event.Take ticket) now).core.leasing ≡ c.leasing
take_leasing c ticket now = by (Rattle.core_model.specs.Step.is_worn c) refl
  where
    counted_is : (s : Stepped) → (counted s).core.leasing ≡ s.core.leasing
    counted_is s = by_outcome s.outcome
      where
        by_outcome : (r : Result Outcome StepFault) → (counted_by s.core r).core.leasing ≡ s.core.leasing
        by_outcome (Ok o) = refl
        by_outcome (Err f) = refl

    by : (b : Bool) → Rattle.core_model.specs.Step.is_worn c ≡ b → (stepped c (event.Take ticket) now).core.leasing ≡ c.leasing
    by true w = ap (λ (s : Stepped). s.core.leasing) (Rattle.core_laws.proofs.Steps.Outcomes.worn_does_nothing c (event.Take ticket) now w)
    by false w =
        ap (λ (s : Stepped). s.core.leasing) (Rattle.cached_laws.proofs.Steps.stepped_is c (event.Take ticket) now w) ∙ counted_is (happened now (event.Take ticket) (clock_work now c))
        ∙ openings.take_so c.leasing ticket (clock_work now c) (clock_leasing now c)

-- the stream that is opened last
pub pushed_forth : (streams : List OpenedStream) (t : OpenedStream) → Forth streams (streams ++ t ∷ [])
pushed_forth streams t = record { on = λ p life own n h. record { at = h.at; there = nth_front streams t n h.at h.there; mine = h.mine; lives = h.lives; own = h.own } }

some_stream : (a b : OpenedStream) → Some a ≡ Some b → a ≡ b
some_stream a b e = cc

pub pushed_back : (streams : List OpenedStream) (t : OpenedStream) (p life own n : ℕ) → Its (streams ++ t ∷ []) p life own n → ((n ≡ length streams + 1) → t.proxy ≡ p → t.own ≡ own → Its streams p life own n) → Its streams p life own n
pushed_back streams t p life own n h last = by (n == length streams + 1) refl
  where
    by : (b : Bool) → (n == length streams + 1) ≡ b → Its streams p life own n
    by true e =
        let is = same_number n (length streams + 1) e in
        let one : t ≡ h.at = some_stream t h.at (sym (last_nth streams t) ∙ ap (nth (streams ++ t ∷ [])) (sym is) ∙ h.there) in
        last is (ap (λ (y : OpenedStream). y.proxy) one ∙ h.mine) (ap (λ (y : OpenedStream). y.own) one ∙ h.own)
    by false e = record { at = h.at; there = sym (nth_pushed streams t n e) ∙ h.there; mine = h.mine; lives = h.lives; own = h.own }

abbrev prev_of : Request → Bool
prev_of (request.Watch ask) = ask.prev_kv
prev_of (request.Range ask) = false
prev_of (request.Put ask) = false
prev_of (request.Delete ask) = false
prev_of (request.Txn t) = false
prev_of (request.Compact revision physical) = false
prev_of (request.Grant ttl lease) = false
prev_of (request.Revoke lease) = false
prev_of (request.KeepAlive lease) = false
prev_of (request.TimeToLive lease keys) = false
prev_of request.Leases = false

same_watch : (a b : WatchAsk) → request.Watch a ≡ request.Watch b → a ≡ b
same_watch a b e = cc

same_begin : (a b m m' : ℕ) (q q' : Request) → ◌≡◌ {A = Result Outcome StepFault} (Ok (outcome.Job (Some (job.Begin a m q)))) (Ok (outcome.Job (Some (job.Begin b m' q')))) → (a ≡ b) × (q ≡ q')
same_begin a b m m' q q' e = ((cc), (cc))

abbrev start_of : Request → ℕ
start_of (request.Watch a) = a.start
start_of (request.Range a) = 0
start_of (request.Put a) = 0
start_of (request.Delete a) = 0
start_of (request.Txn a) = 0
start_of (request.Compact a b) = 0
start_of (request.Grant a b) = 0
start_of (request.Revoke a) = 0
start_of (request.KeepAlive a) = 0
start_of (request.TimeToLive a b) = 0
start_of request.Leases = 0

abbrev range_of : Request → KeyRange
range_of (request.Watch a) = a.range
range_of (request.Range a) = a.range
range_of (request.Put a) = record { key = []; end = [] }
range_of (request.Delete a) = a.range
range_of (request.Txn a) = record { key = []; end = [] }
range_of (request.Compact a b) = record { key = []; end = [] }
range_of (request.Grant a b) = record { key = []; end = [] }
range_of (request.Revoke a) = record { key = []; end = [] }
range_of (request.KeepAlive a) = record { key = []; end = [] }
range_of (request.TimeToLive a b) = record { key = []; end = [] }
range_of request.Leases = record { key = []; end = [] }

module _ (namespace leasing : List ℕ) (items : List Item) (w : World) (p : ℕ) (x : Place) (ns : x.core.settings.namespace ≡ namespace) (prefix : x.core.own.waits.prefix ≡ leasing) (range : IsOfLeasing x.core.own.waits.prefix x.core.leasing) (owners : OwnersFit (clock_work x.clock x.core))
    (facts : Facts items (facts_of w)) (given : (m n : ℕ) → Its w.streams p x.life m n → m ≤ x.core.watches.given) (apart : (o : Opening) → x.core.leasing ≡ Some o → stream_at o.number x.core.watches.streams ≡ None)
    (h : StreamTold (leasing_of namespace leasing p items) w.streams p x.life x.core.leasing) where
  abbrev Told : List Item → Option ToldStream
  Told xs = leasing_of namespace leasing p xs

  abbrev d : Core
  d = clock_work x.clock x.core

  abbrev After : List Item → List OpenedStream → CoreEvent → Type 0
  After xs streams e = StreamTold (Told xs) streams p x.life (stepped x.core e x.clock).core.leasing

  counted_leasing : (s : Stepped) → (counted s).core.leasing ≡ s.core.leasing
  counted_leasing s = by s.outcome
    where
      by : (r : Result Outcome StepFault) → (counted_by s.core r).core.leasing ≡ s.core.leasing
      by (Ok o) = refl
      by (Err f) = refl

  stepped_leasing : (e : CoreEvent) (o : Outcome) → (stepped x.core e x.clock).outcome ≡ Ok o → (stepped x.core e x.clock).core.leasing ≡ (happened x.clock e d).core.leasing
  stepped_leasing e o is = ap (λ (s : Stepped). s.core.leasing) (Rattle.cached_laws.proofs.Steps.stepped_is x.core e x.clock (gave x.core e x.clock o is).0) ∙ counted_leasing (happened x.clock e d)

  -- before the event, behind the clock's work
  there : d.leasing ≡ x.core.leasing
  there = clock_leasing x.clock x.core

  known : (m n : ℕ) → Its w.streams p x.life m n → m ≤ d.watches.given
  known m n t = subst (λ (g : ℕ). m ≤ g) (sym (clock_watches x.clock x.core).0) (given m n t)

  -- nothing becomes of the leasing stream, and the items tell nothing of it
  pub stays : (e : CoreEvent) (o : Outcome) (own : List Item) (after : List OpenedStream) → (stepped x.core e x.clock).outcome ≡ Ok o → list_all (is_dry p) own ≡ true → Forth w.streams after → ((y : Opening) → x.core.leasing ≡ Some y → Back w.streams after p x.life y.number)
      → (happened x.clock e d).core.leasing ≡ d.leasing → After (items ++ own) after e
  stays e o own after is g f b same = keeps (Told items) (Told (items ++ own)) w.streams after p x.life x.core.leasing (stepped x.core e x.clock).core.leasing (dry_told namespace leasing p items own g) (stepped_leasing e o is ∙ same ∙ there) f b h

  here : Forth w.streams w.streams
  here = forth_itself w.streams

  back_here : (y : Opening) → x.core.leasing ≡ Some y → Back w.streams w.streams p x.life y.number
  back_here y e n t = t

  -- it is due anew, and nothing is told as open
  begins_anew : (e : CoreEvent) (o : Outcome) (own : List Item) (after : List OpenedStream) → (stepped x.core e x.clock).outcome ≡ Ok o → Told (items ++ own) ≡ None → ((m n : ℕ) → Its after p x.life m n → Its w.streams p x.life m n) → IsAnew d (happened x.clock e d).core.leasing
      → After (items ++ own) after e
  begins_anew e o own after is none back a =
      subst (λ (t : Option ToldStream). StreamTold t after p x.life (stepped x.core e x.clock).core.leasing) (sym none)
      (subst (λ (l : Option Opening). StreamTold None after p x.life l) (sym (stepped_leasing e o is)) (anew_told after p x.life d (happened x.clock e d).core.leasing a (λ m n t. known m n (back m n t))))

  -- a job that opens nothing
  pub worked : (o : Outcome) (own : List Item) (after : List OpenedStream) → (stepped x.core event.Work x.clock).outcome ≡ Ok o → ((a m : ℕ) (q : Request) → ◌≡◌ {A = Result Outcome StepFault} (Ok o) (Ok (outcome.Job (Some (job.Begin a m q)))) → ⊥) → list_all (is_dry p) own ≡ true → Forth w.streams after
      → ((y : Opening) → x.core.leasing ≡ Some y → Back w.streams after p x.life y.number) → After (items ++ own) after event.Work
  worked o own after is none g f b = by (work_goes 0 x.clock d (first_stands 0 d owners.acquires.rising))
    where
      happens : (happened x.clock event.Work d).outcome ≡ Ok o
      happens = (gave x.core event.Work x.clock o is).1

      by : WorkGoes d (happened x.clock event.Work d).core.leasing (happened x.clock event.Work d).outcome → After (items ++ own) after event.Work
      by (openings.stays e k) = stays event.Work o own after is g f b e
      by (openings.opens y m since e due l r) = absurd (none y.number m _ (sym happens ∙ r))

  pub ticked : (draw : ℕ) (o : Outcome) → (stepped x.core (event.Tick draw) x.clock).outcome ≡ Ok o → After (items ++ item.Ticked p ∷ []) w.streams (event.Tick draw)
  ticked draw o is = by (tick_goes x.clock draw d)
    where
      by : TickGoes d (happened x.clock (event.Tick draw) d).core.leasing → After (items ++ item.Ticked p ∷ []) w.streams (event.Tick draw)
      by (openings.stays e) = stays (event.Tick draw) o (item.Ticked p ∷ []) w.streams is refl here back_here e
      by (openings.begins e a) =
          begins_anew (event.Tick draw) o (item.Ticked p ∷ []) w.streams is (dry_told namespace leasing p items (item.Ticked p ∷ []) refl ∙ none_told (Told items) w.streams p x.life x.core.leasing (sym there ∙ e) h) (λ m n t. t) a

  -- a message

  its_told : (s : OpenedStream) (number : ℕ) (o : Opening) → nth w.streams number ≡ Some s → s.proxy ≡ p → s.life ≡ x.life → opening_at s.own d.leasing ≡ Some o → (o.due ≡ None) × (Told items ≡ Some (record { number = number; stream = o.stream }))
  its_told s number o a b c e = let i = its_opening s.own d.leasing o e in h.single o number (sym there ∙ i.0) (record { at = s; there = a; mine = b; lives = c; own = sym i.1 })

  pub delivered : (s : OpenedStream) (number : ℕ) (i : WatchItem) (rest : List WatchItem) (o : Outcome) → nth w.streams number ≡ Some s → s.proxy ≡ p → s.ended ≡ false → s.life ≡ x.life → s.waiting ≡ i ∷ rest → (stepped x.core (event.Item s.own i) x.clock).outcome ≡ Ok o
      → After (items ++ item.Delivered number ∷ []) (with_nth w.streams number (record s { waiting = rest })) (event.Item s.own i)
  delivered s number i rest o a b live c waiting is = by (item_goes x.clock s.own i d)
    where
      after : List OpenedStream
      after = with_nth w.streams number (record s { waiting = rest })

      told' : Told (items ++ item.Delivered number ∷ []) ≡ delivered_by namespace number (Some i) (Told items)
      told' = told_next p None (stream_by namespace leasing p) items (item.Delivered number) ∙ ap (λ (y : Option WatchItem). delivered_by namespace number y (Told items)) (next_is items w number s i rest facts a live waiting)

      forth : Forth w.streams after
      forth = forth_changed w.streams number s (record s { waiting = rest }) a refl refl refl

      back : (m : ℕ) → Back w.streams after p x.life m
      back m = back_changed w.streams number s (record s { waiting = rest }) a refl refl refl p x.life m

      without : (u : Upstream) → told_in u (item_without d.settings.namespace i) ≡ told_in u (item_without namespace i)
      without u = ap (λ (y : Settings). told_in u (item_without y.namespace i)) (clock_settings x.clock x.core) ∙ ap (λ (y : List ℕ). told_in u (item_without y i)) ns

      by : ItemGoes d s.own i (happened x.clock (event.Item s.own i) d).core.leasing → After (items ++ item.Delivered number ∷ []) after (event.Item s.own i)
      by (openings.stays e none) =
          keeps (Told items) (Told (items ++ item.Delivered number ∷ [])) w.streams after p x.life x.core.leasing (stepped x.core (event.Item s.own i) x.clock).core.leasing
          (told' ∙ delivered_other namespace number (Some i) (Told items) (not_told (Told items) w.streams p x.life number x.core.leasing s a h (λ y f g k l. none y (found_opening s.own d.leasing y (there ∙ f) (sym l)) g)))
          (stepped_leasing (event.Item s.own i) o is ∙ e ∙ there) forth (λ y f. back y.number) h
      by (openings.goes_on y u f due e l) =
          let t = its_told s number y a b c f in
          let new : Told (items ++ item.Delivered number ∷ []) ≡ Some (record { number = number; stream = u }) =
          told' ∙ ap (delivered_by namespace number (Some i)) t.1 ∙ delivered_itself namespace number y.stream i ∙ ap (numbered number) (sym (without y.stream) ∙ e) in
          let old : StreamTold (Some (record { number = number; stream = y.stream })) w.streams p x.life (Some y) =
          subst (λ (k : Option ToldStream). StreamTold k w.streams p x.life (Some y)) t.1 (subst (λ (k : Option Opening). StreamTold (Told items) w.streams p x.life k) (sym there ∙ (its_opening s.own d.leasing y f).0) h) in
          subst (λ (k : Option ToldStream). StreamTold k after p x.life (stepped x.core (event.Item s.own i) x.clock).core.leasing) (sym new)
          (subst (λ (k : Option Opening). StreamTold (Some (record { number = number; stream = u })) after p x.life k) (sym (stepped_leasing (event.Item s.own i) o is ∙ l)) (goes_told w.streams after p x.life number y u due forth (back y.number) old))
      by (openings.breaks y f e new) =
          let t = its_told s number y a b c f in
          begins_anew (event.Item s.own i) o (item.Delivered number ∷ []) after is
          (told' ∙ ap (delivered_by namespace number (Some i)) t.1 ∙ delivered_itself namespace number y.stream i ∙ ap (numbered number) (sym (without y.stream) ∙ e)) (λ m n k. back m n k) new

  pub was_cut : (s : OpenedStream) (number : ℕ) (o : Outcome) → nth w.streams number ≡ Some s → s.proxy ≡ p → s.life ≡ x.life → (stepped x.core (event.Cut s.own) x.clock).outcome ≡ Ok o
      → After (items ++ item.Cut number ∷ []) (with_nth w.streams number (ended s)) (event.Cut s.own)
  was_cut s number o a b c is = by (cut_goes s.own d)
    where
      after : List OpenedStream
      after = with_nth w.streams number (ended s)

      told' : Told (items ++ item.Cut number ∷ []) ≡ cut_by number (Told items)
      told' = told_next p None (stream_by namespace leasing p) items (item.Cut number)

      back : (m : ℕ) → Back w.streams after p x.life m
      back m = back_changed w.streams number s (ended s) a refl refl refl p x.life m

      none_there : {A : Type 0} (y : Opening) → ◌≡◌ {A = Option Opening} None (Some y) → A
      none_there y e = absurd (cc)

      by : CutGoes d s.own (happened x.clock (event.Cut s.own) d).core.leasing → After (items ++ item.Cut number ∷ []) after (event.Cut s.own)
      by (openings.stays e none) =
          keeps (Told items) (Told (items ++ item.Cut number ∷ [])) w.streams after p x.life x.core.leasing (stepped x.core (event.Cut s.own) x.clock).core.leasing
          (told' ∙ cut_other number (Told items) (not_told (Told items) w.streams p x.life number x.core.leasing s a h (λ y f g k l. none_there y (sym none ∙ found_opening s.own d.leasing y (there ∙ f) (sym l)))))
          (stepped_leasing (event.Cut s.own) o is ∙ e ∙ there) (forth_changed w.streams number s (ended s) a refl refl refl) (λ y f. back y.number) h
      by (openings.breaks y f new) =
          let t = its_told s number y a b c f in
          begins_anew (event.Cut s.own) o (item.Cut number ∷ []) after is (told' ∙ ap (cut_by number) t.1 ∙ cut_itself number y.stream) (λ m n k. back m n k) new

  -- an opening

  pub was_opened : (own member : ℕ) (ask : WatchAsk) → (stepped x.core event.Work x.clock).outcome ≡ Ok (outcome.Job (Some (job.Begin own member (request.Watch ask)))) → (t : OpenedStream) → t.proxy ≡ p → t.life ≡ x.life → t.own ≡ own
      → After (items ++ item.Opened p (length w.streams + 1) member (request.Watch ask) ∷ []) (w.streams ++ t ∷ []) event.Work
  was_opened own member ask is t mine lives number = by (work_goes 0 x.clock d (first_stands 0 d owners.acquires.rising))
    where
      last : ℕ
      last = length w.streams + 1

      after : List OpenedStream
      after = w.streams ++ t ∷ []

      happens : (happened x.clock event.Work d).outcome ≡ Ok (outcome.Job (Some (job.Begin own member (request.Watch ask))))
      happens = (gave x.core event.Work x.clock (outcome.Job (Some (job.Begin own member (request.Watch ask)))) is).1

      told' : Told (items ++ item.Opened p (length w.streams + 1) member (request.Watch ask) ∷ []) ≡ opened_by namespace leasing (length w.streams + 1) (request.Watch ask) (Told items)
      told' = told_next p None (stream_by namespace leasing p) items (item.Opened p (length w.streams + 1) member (request.Watch ask)) ∙ ap (λ (b : Bool). cond b (opened_by namespace leasing (length w.streams + 1) (request.Watch ask) (Told items)) (Told items)) (number_itself p)

      under_is : (q : Request) → request_under d.settings.namespace q ≡ request_under namespace q
      under_is q = ap (λ (y : Settings). request_under y.namespace q) (clock_settings x.clock x.core) ∙ ap (λ (y : List ℕ). request_under y q) ns

      clients : (r : KeyRange) (start : ℕ) → request.Watch ask ≡ request_under d.settings.namespace (watch_from r start) → is_leasing_watch namespace leasing ask ≡ false
      clients r start e =
          ap (λ (b : Bool). same ask.range.key (under namespace (leasing_range leasing)).key && same ask.range.end (under namespace (leasing_range leasing)).end && not b) (ap prev_of e)
          ∙ and_false (same ask.range.key (under namespace (leasing_range leasing)).key && same ask.range.end (under namespace (leasing_range leasing)).end)

      by : WorkGoes d (happened x.clock event.Work d).core.leasing (happened x.clock event.Work d).outcome → After (items ++ item.Opened p (length w.streams + 1) member (request.Watch ask) ∷ []) (w.streams ++ t ∷ []) event.Work
      by (openings.stays e f) =
          let c = f own member (request.Watch ask) happens in
          keeps (Told items) (Told (items ++ item.Opened p (length w.streams + 1) member (request.Watch ask) ∷ [])) w.streams (w.streams ++ t ∷ []) p x.life x.core.leasing (stepped x.core event.Work x.clock).core.leasing
          (told' ∙ ap (λ (b : Bool). cond b (Some (record { number = length w.streams + 1; stream = opened (leasing_range leasing) ask.start })) (Told items)) (clients c.0 c.1 c.2))
          (stepped_leasing event.Work (outcome.Job (Some (job.Begin own member (request.Watch ask)))) is ∙ e ∙ there) (pushed_forth w.streams t)
          (λ y g n k. pushed_back w.streams t p x.life y.number n k (λ i m o. absurd (c.3 (ap (λ (j : ℕ). stream_at j d.watches.streams) (sym number ∙ o) ∙ ap (stream_at y.number) (clock_watches x.clock x.core).1 ∙ apart y g)))) h
      by (openings.opens y m since e due l r) =
          let s = same_begin y.number own m member (request_under d.settings.namespace (watch_of y.stream)) (request.Watch ask) (sym r ∙ happens) in
          let leads : x.core.leasing ≡ Some y = sym there ∙ e in
          let stream_range : y.stream.range ≡ leasing_range leasing = subst (IsOfLeasing x.core.own.waits.prefix) leads range ∙ ap leasing_range prefix in
          let fresh : y.stream.created ≡ false = h.fresh y since leads due in
          opened_told y since leads due stream_range fresh s.0 (sym s.1 ∙ under_is (watch_of y.stream)) l
        where
          opened_told : (y : Opening) (since : ℕ) → x.core.leasing ≡ Some y → y.due ≡ Some since → y.stream.range ≡ leasing_range leasing → y.stream.created ≡ false → y.number ≡ own → request.Watch ask ≡ request_under namespace (watch_of y.stream)
              → (happened x.clock event.Work d).core.leasing ≡ Some (opening_sent y) → After (items ++ item.Opened p (length w.streams + 1) member (request.Watch ask) ∷ []) (w.streams ++ t ∷ []) event.Work
          opened_told y since leads due r fresh its asks l =
              let ranges : ask.range ≡ under namespace (leasing_range leasing) = ap range_of asks ∙ ap (under namespace) r in
              let yes : is_leasing_watch namespace leasing ask ≡ true =
              and_both (same ask.range.key (under namespace (leasing_range leasing)).key && same ask.range.end (under namespace (leasing_range leasing)).end) (not ask.prev_kv)
              (and_both (same ask.range.key (under namespace (leasing_range leasing)).key) (same ask.range.end (under namespace (leasing_range leasing)).end)
              (ap (λ (z : KeyRange). same z.key (under namespace (leasing_range leasing)).key) ranges ∙ same-itself (under namespace (leasing_range leasing)).key)
              (ap (λ (z : KeyRange). same z.end (under namespace (leasing_range leasing)).end) ranges ∙ same-itself (under namespace (leasing_range leasing)).end))
              (ap (λ (q : Request). not (prev_of q)) asks) in
              let told_stream : Told (items ++ item.Opened p (length w.streams + 1) member (request.Watch ask) ∷ []) ≡ Some (record { number = length w.streams + 1; stream = opened (leasing_range leasing) ask.start }) =
              told' ∙ ap (λ (b : Bool). cond b (Some (record { number = length w.streams + 1; stream = opened (leasing_range leasing) ask.start })) (Told items)) yes in
              let same_stream : y.stream ≡ opened (leasing_range leasing) ask.start = λ i. record { range = r i; next = (sym (ap start_of asks)) i; created = fresh i } in
              subst (λ (k : Option ToldStream). StreamTold k (w.streams ++ t ∷ []) p x.life (stepped x.core event.Work x.clock).core.leasing) (sym told_stream)
              (subst (λ (k : Option Opening). StreamTold (Some (record { number = length w.streams + 1; stream = opened (leasing_range leasing) ask.start })) (w.streams ++ t ∷ []) p x.life k)
              (sym (stepped_leasing event.Work (outcome.Job (Some (job.Begin own member (request.Watch ask)))) is ∙ l))
              (record {
                told_open = λ s i.
                    subst (λ (z : ToldStream). IsOpen (w.streams ++ t ∷ []) p x.life z (Some (opening_sent y))) (some_told (record { number = length w.streams + 1; stream = opened (leasing_range leasing) ask.start }) s i)
                    (record { opening = opening_sent y; is = refl; due = refl; stream = same_stream; at = t; there = last_nth w.streams t; mine = mine; lives = lives; own = number ∙ sym its });
                single = λ z n i k.
                    let one : opening_sent y ≡ z = same_opening (opening_sent y) z i in
                    only z n one k;
                fresh = λ z q i k. absurd (let f : None ≡ Some q = ap (λ (v : Opening). v.due) (same_opening (opening_sent y) z i) ∙ k in cc);
              }))
            where
              some_told : (a b : ToldStream) → Some a ≡ Some b → a ≡ b
              some_told a b e = cc

              no_due : {A : Type 0} → ◌≡◌ {A = Option ℕ} (Some since) None → A
              no_due e = absurd (cc)

              only : (z : Opening) (n : ℕ) → opening_sent y ≡ z → Its (w.streams ++ t ∷ []) p x.life z.number n
                  → (z.due ≡ None) × (◌≡◌ {A = Option ToldStream} (Some (record { number = length w.streams + 1; stream = opened (leasing_range leasing) ask.start })) (Some (record { number = n; stream = z.stream })))
              only z n one k = by_last (n == length w.streams + 1) refl
                where
                  by_last : (b : Bool) → (n == length w.streams + 1) ≡ b → (z.due ≡ None) × (◌≡◌ {A = Option ToldStream} (Some (record { number = length w.streams + 1; stream = opened (leasing_range leasing) ask.start })) (Some (record { number = n; stream = z.stream })))
                  by_last true e = (
                    ap (λ (v : Opening). v.due) (sym one),
                    λ i. Some (record { number = (sym (same_number n (length w.streams + 1) e)) i; stream = (sym (λ j. record { range = r j; next = (sym (ap start_of asks)) j; created = fresh j }) ∙ ap (λ (v : Opening). v.stream) one) i }),
                  )
                  by_last false e =
                      let earlier : Its w.streams p x.life y.number n = record { at = k.at; there = sym (nth_pushed w.streams t n e) ∙ k.there; mine = k.mine; lives = k.lives; own = k.own ∙ ap (λ (v : Opening). v.number) (sym one) } in
                      no_due (sym due ∙ (h.single y n leads earlier).0)
