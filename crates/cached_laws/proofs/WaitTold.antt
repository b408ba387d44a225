-- Line by line: a read that items tell as awaited waits for its acquire, under the session that they tell.
use Rattle.std.proofs.Common.{◌≡◌, ℕ, ◌+◌, ◌%◌, ◌==◌, ◌<◌, ◌≤◌, nat_lt, nat_le, Bool, true, false, cond, not, ◌&&◌, ◌||◌, List, [], ◌∷◌, ◌++◌, append_assoc, Option, None, Some, is_some, Result, Ok, Err, refl, sym, ◌∙◌, ap, subst, arith}
use Rattle.std.proofs.lemmas.Bool.Decides.{nat_tests}
use Rattle.std.specs.List.{list_all}
use Rattle.etcd_types.specs.declared.answer.Refusal.{Refusal}
use Rattle.etcd_types.specs.declared.operation.RangeAsk.{RangeAsk}
use Rattle.etcd_types.specs.declared.request.Request.{Request}
use Rattle.etcd_types.specs.declared.request.Request.TheVariants as request
use Rattle.etcd_types.specs.declared.watch.WatchItem.{WatchItem}
use Rattle.etcd_types.specs.Keys.{is_empty}
use Rattle.etcd_types.specs.Ranges.{contains}
use Rattle.etcd_types.proofs.Bools.{and_first, and_second, and_both}
use Rattle.proxy_model.specs.declared.session.Standing.{Standing}
use Rattle.proxy_model.specs.declared.session.TheConstants.{FIRST_SESSION}
use Rattle.proxy_model.specs.Prefixes.{leasing_range}
use Rattle.proxy_model.specs.RequestRefusals.{first_of, given}
use Rattle.proxy_model.specs.Session.{is_live_standing}
use Rattle.proxy_model.specs.Session as proxy
use Rattle.read_model.specs.PlainRead.{key_of}
use Rattle.core_model.specs.declared.event.CoreEvent.{CoreEvent}
use Rattle.core_model.specs.declared.event.CoreEvent.TheVariants as event
use Rattle.core_model.specs.declared.event.Job.TheVariants as job
use Rattle.core_model.specs.declared.event.Outcome.{Outcome}
use Rattle.core_model.specs.declared.event.Outcome.TheVariants as outcome
use Rattle.core_model.specs.declared.event.StepFault.{StepFault}
use Rattle.core_model.specs.Asking.{asked_at, is_leased_read, refused_or_taken, if_unknown, on_ask}
use Rattle.core_model.specs.ClockWork.{clock_work}
use Rattle.core_model.specs.Fits.{CoreOk}
use Rattle.core_model.specs.Lookups.{leases, live_number, moment, is_known, stands_created}
use Rattle.core_model.specs.Refusals.{refusal_of}
use Rattle.core_model.specs.Sessions.{drawn_session}
use Rattle.core_model.specs.State.{Seat, Core}
use Rattle.core_model.specs.Step.{happened, is_worn, stepped}
use Rattle.core_laws.specs.Steps.Kept.{IsHeard}
use Rattle.core_laws.proofs.Steps.Lists.{same_number, number_itself}
use Rattle.core_fits.proofs.Prefix.{clock_prefix}
use Rattle.owner_fits.specs.Laws.{OwnersFit}
use Rattle.script_text.specs.declared.item.Item.{Item}
use Rattle.script_text.specs.declared.item.Item.TheVariants as item
use Rattle.world_model.specs.Gains.{Replies, taken_items, line_if}
use Rattle.world_model.specs.Lives.{clock_of}
use Rattle.world_model.specs.LiveSessions.{Session, session_of, is_live_at, is_live}
use Rattle.world_model.specs.Places.{is_among}
use Rattle.world_model.specs.Sends.{next_call}
use Rattle.world_model.specs.State.{Place, World, word}
use Rattle.world_laws.proofs.Effects.{Turn, ticks, asks_it, posts_it, calls, opens, closes, answers, loses, delivers, cuts, takes, waits, leaves}
use Rattle.session_laws.specs.Told.{Live, live_if, live_as, told_live, standing_live, seat_live, last_reading}
use Rattle.session_laws.proofs.Passing.{seat_after}
use Rattle.session_laws.proofs.Items.{session_next, clock-append}
use Rattle.session_laws.proofs.Known.{AreAlike, IsBelow, SeatAndOut, clock_seat, after_live}
use Rattle.session_laws.proofs.Steps.{gave}
use Rattle.session_laws.proofs.Turns.{bound_of}
use Rattle.cached_laws.specs.Awaited.{seat_is, IsAwaited, Calls, Leaves}
use Rattle.cached_laws.specs.Folds.{told_of}
use Rattle.cached_laws.specs.Laws.{IsNewRead}
use Rattle.cached_laws.specs.NewKeys.{new_by, is_new_key}
use Rattle.cached_laws.specs.Reads.{Awaited, is_served, must_acquire, awaited_under, awaited}
use Rattle.cached_laws.specs.Streams.{is_created, leasing_of, is_up, stream_by}
use Rattle.cached_laws.proofs.Folds.{told_next}
use Rattle.cached_laws.proofs.NewTold.{NewOk}
use Rattle.cached_laws.proofs.Steps.{awaited_reads_wait, new_reads_wait, to_reads, of_reads, clock_leasing}
use Rattle.cached_laws.proofs.Telling.{is_aside, waited_aside, waited_sent, waited_asked}
use Rattle.cached_laws.proofs.Untouched as untouched

-- the read of this ticket waits so, under a session that was drawn already
pub record IsWaited (bound t : ℕ) (a : Awaited) (c : Core) : Type 0 where
  pub below : a.session < bound
  pub since : ℕ
  pub waits : IsAwaited t a.key since a.session c

abbrev pub WaitOk : List ℕ → List ℕ → ℕ → List Item → ℕ → Core → Type 0
WaitOk namespace leasing bound items p c = (t : ℕ) (a : Awaited) → awaited namespace leasing p t items ≡ Some a → IsWaited bound t a c

pub wait_more : (namespace leasing : List ℕ) (bound next : ℕ) (items more : List Item) (p : ℕ) (c : Core) → bound ≤ next → list_all (is_aside namespace leasing p) more ≡ true → WaitOk namespace leasing bound items p c → WaitOk namespace leasing next (items ++ more) p c
wait_more namespace leasing bound next items more p c l g h t a e =
    let k = h t a (sym (waited_aside namespace leasing p t items more g) ∙ e) in
    record { below = (let b = k.below in omega (arith, b, l)); since = k.since; waits = k.waits }

-- ---- sessions

-- the session that is told as live is the proxy's
pub record Seated (n now : ℕ) (seat : Option Seat) : Type 0 where
  pub its : Seat
  pub there : seat ≡ Some its
  pub number : its.session.number ≡ n
  pub live : proxy.is_live its.session now ≡ true

some_live : (b : Bool) (l : Live) (m : Live) → live_if b l ≡ Some m → (b ≡ true) × (l ≡ m)
some_live true l m e = (refl, (let f : Some l ≡ Some m = e in cc))
some_live false l m e = absurd (cc)

seated : (now : ℕ) (seat : Option Seat) (m : Live) → seat_live now seat ≡ Some m → Seated m.number now seat
seated now None m e = absurd (cc)
seated now (Some s) m e = by s.session.standing refl e
  where
    by : (t : Option Standing) → s.session.standing ≡ t → standing_live now s.session.number t ≡ Some m → Seated m.number now (Some s)
    by None f g = absurd (cc)
    by (Some x) f g =
        let both = some_live (nat_lt now x.deadline) (record { number = s.session.number; deadline = x.deadline }) m g in
        record { its = s; there = refl; number = ap (λ (l : Live). l.number) both.1; live = ap (λ (y : Option Standing). is_live_standing y now) f ∙ both.0 }

pub told_seated : (now : ℕ) (told : Option Session) (s : Session) (seat : Option Seat) → told ≡ Some s → is_live_at now told ≡ true → told_live now told ≡ seat_live now seat → Seated s.number now seat
told_seated now told s seat is live e =
    let yes : not s.ended && nat_lt now s.deadline ≡ true = sym (ap (is_live_at now) is) ∙ live in
    seated now seat (live_as s) (sym e ∙ ap (told_live now) is ∙ ap (λ (b : Bool). live_if b (live_as s)) yes)

-- it is so behind the clock's work
pub seated_behind : (n now : ℕ) (c : Core) → Seated n now c.seat → Seated n now (clock_work now c).seat
seated_behind n now c h = seated' (seat_live now (clock_work now c).seat) refl
  where
    same : seat_live now (clock_work now c).seat ≡ seat_live now c.seat
    same = ap (seat_live now) (clock_seat now c).seat_is ∙ after_live now now c.seat (omega arith)

    was : (t : Option Standing) → h.its.session.standing ≡ t → is_live_standing t now ≡ true → (m : Live) × (seat_live now c.seat ≡ Some m) × (m.number ≡ n)
    was None f g = absurd (cc)
    was (Some x) f g = (
      record { number = h.its.session.number; deadline = x.deadline },
      ap (seat_live now) h.there ∙ ap (standing_live now h.its.session.number) f ∙ ap (λ (b : Bool). live_if b (record { number = h.its.session.number; deadline = x.deadline })) g,
      h.number,
    )

    seated' : (o : Option Live) → seat_live now (clock_work now c).seat ≡ o → Seated n now (clock_work now c).seat
    seated' o e =
        let w = was h.its.session.standing refl h.live in
        subst (λ (m : ℕ). Seated m now (clock_work now c).seat) w.2 (seated now (clock_work now c).seat w.0 (same ∙ w.1))

pub seated_is : (n now : ℕ) (seat : Option Seat) → Seated n now seat → seat_is n seat ≡ true
seated_is n now seat h = ap (seat_is n) h.there ∙ ap (λ (m : ℕ). m == n) h.number ∙ number_itself n

seated_number : (n now : ℕ) (seat : Option Seat) → Seated n now seat → live_number seat now ≡ Some n
seated_number n now seat h =
    ap (λ (s : Option Seat). live_number s now) h.there ∙ ap (λ (b : Bool). cond b (Some h.its.session.number) None) h.live ∙ ap (λ (m : ℕ). Some m) h.number

-- ---- a request that must acquire

served : (o : Option Refusal) → is_served o ≡ true → o ≡ None
served None h = refl
served (Some r) h = absurd (cc)

second_given : (a : Option Refusal) (b : Bool) (r : Refusal) (rest : List (Option Refusal)) → first_of (a ∷ given b r ∷ rest) ≡ None → b ≡ false
second_given (Some x) b r rest h = absurd (cc)
second_given None true r rest h = absurd (cc)
second_given None false r rest h = refl

abbrev rest_of : List (Option Refusal) → List (Option Refusal)
rest_of [] = []
rest_of (a ∷ []) = []
rest_of (a ∷ b ∷ rest) = rest

-- without a leasing prefix no read is outside the leasing range
everything : (k : List ℕ) → contains (leasing_range []) k ≡ true
everything [] = refl
everything (x ∷ xs) = refl

prefixed : (prefix k : List ℕ) → contains (leasing_range prefix) k ≡ false → not (is_empty prefix) ≡ true
prefixed [] k h = absurd (let f : true ≡ false = sym (everything k) ∙ h in cc)
prefixed (x ∷ xs) k h = refl

outside : (b c : Bool) → b && not c ≡ true → c ≡ false
outside true true e = absurd (cc)
outside true false e = refl
outside false c e = absurd (cc)

unknown_gives : (c : Core) (now ticket word : ℕ) (q : Request) (o : Outcome) → (on_ask now ticket q word c).outcome ≡ Ok o → is_known ticket c ≡ false
unfolding on_ask
unknown_gives c now ticket word q o e = by (is_known ticket c) e
  where
    by : (b : Bool) → (if_unknown b ticket c (refused_or_taken (refusal_of c.own.waits.prefix q) (moment c now) (asked_at now ticket q word) c)).outcome ≡ Ok o → b ≡ false
    by true f = absurd (cc)
    by false f = refl

module _ (namespace leasing : List ℕ) (p : ℕ) (x : Place) (prefix : x.core.own.waits.prefix ≡ leasing) (below : x.clock < last_reading) where
  abbrev d : Core
  d = clock_work x.clock x.core

  -- what is known at the request, behind these items
  pub record AtAsk (bound : ℕ) (before : List Item) : Type 0 where
    pub clock : clock_of p before ≡ x.clock
    pub live : told_live x.clock (session_of p before) ≡ seat_live x.clock x.core.seat
    pub bounded : IsBelow bound x.core.seat
    pub up : is_up namespace leasing p before ≡ true → stands_created x.core.leasing ≡ true
    pub new : NewOk namespace leasing before p x.core

  less : (n bound : ℕ) → nat_lt n bound ≡ true → n < bound
  less n bound e = grind (arith, nat_tests)

  range_waits : (bound next : ℕ) (before : List Item) (ticket word : ℕ) (ask : RangeAsk) (s : Session) (o : Outcome) → bound ≤ next → AtAsk bound before → session_of p before ≡ Some s → must_acquire namespace leasing p before (request.Range ask) ≡ true
      → (stepped x.core (event.Ask ticket (request.Range ask) word) x.clock).outcome ≡ Ok o
      → IsWaited next ticket (record { key = ask.range.key; session = s.number }) (stepped x.core (event.Ask ticket (request.Range ask) word) x.clock).core
  range_waits bound next before ticket draw ask s o l h is must gives =
      let q = request.Range ask in
      let t1 = is_leased_read leasing q in
      let t2 = is_served (refusal_of leasing q) in
      let t3 = is_live p before in
      let t4 = is_up namespace leasing p before in
      let t5 = is_new_key namespace leasing ask.range.key p before in
      let m5 = and_second (t1 && t2 && t3 && t4) t5 must in
      let r4 = and_first (t1 && t2 && t3 && t4) t5 must in
      let m4 = and_second (t1 && t2 && t3) t4 r4 in
      let r3 = and_first (t1 && t2 && t3) t4 r4 in
      let m3 = and_second (t1 && t2) t3 r3 in
      let r2 = and_first (t1 && t2) t3 r3 in
      let m2 = and_second t1 t2 r2 in
      let m1 = and_first t1 t2 r2 in
      let refused : refusal_of leasing q ≡ None = served (refusal_of leasing q) m2 in
      let seat = told_seated x.clock (session_of p before) s x.core.seat is (sym (ap (λ (t : ℕ). is_live_at t (session_of p before)) h.clock) ∙ m3) h.live in
      let behind = seated_behind s.number x.clock x.core seat in
      let pre : d.own.waits.prefix ≡ leasing = clock_prefix x.clock x.core ∙ prefix in
      let g = gave x.core (event.Ask ticket q draw) x.clock o gives in
      let out : contains (leasing_range leasing) ask.range.key ≡ false = outside (Rattle.proxy_model.specs.Snapshot.is_plain ask) (contains (leasing_range leasing) ask.range.key) m1 in
      record {
        below = (let b = less s.number bound (ap (λ (n : ℕ). nat_lt n bound) (sym seat.number) ∙ h.bounded seat.its seat.there) in omega (arith, b, l));
        since = x.clock;
        waits = new_reads_wait x.core x.clock ticket draw ask s.number g.0 (record {
          leased = record {
            unknown = unknown_gives d x.clock ticket draw q o g.1;
            served = ap (λ (y : List ℕ). refusal_of y q) pre ∙ refused;
            leasing = ap (λ (y : List ℕ). not (is_empty y)) pre ∙ prefixed leasing ask.range.key out;
            plain = ap (λ (y : List ℕ). is_leased_read y q) pre ∙ m1;
          };
          key = second_given (Rattle.std.specs.Option.option_map Rattle.proxy_model.specs.RequestRefusals.unsupported (Rattle.proxy_model.specs.RequestRefusals.unserved q)) (is_empty ask.range.key) Rattle.store_model.specs.Refusals.key_not_provided (rest_of (Rattle.core_model.specs.Refusals.refusals leasing q)) refused;
          new = of_reads ask.range.key d (untouched.clock_so ask.range.key x.clock x.core (to_reads ask.range.key x.core (h.new ask.range.key m5)));
          live = seated_number s.number x.clock d.seat behind;
          up = ap stands_created (clock_leasing x.clock x.core) ∙ h.up m4;
        });
      }

  under_some : (q : Request) (told : Option Session) (a : Awaited) → awaited_under q told ≡ Some a → (s : Session) × (told ≡ Some s) × (a ≡ record { key = key_of q; session = s.number })
  under_some q None a e = absurd (cc)
  under_some q (Some s) a e = (s, refl, (let f : ◌≡◌ {A = Option Awaited} (Some (record { key = key_of q; session = s.number })) (Some a) = e in sym (cc)))

  asked_waits : (bound next : ℕ) (before : List Item) (ticket word : ℕ) (q : Request) (a : Awaited) (o : Outcome) → bound ≤ next → AtAsk bound before → must_acquire namespace leasing p before q ≡ true → awaited_under q (session_of p before) ≡ Some a
      → (stepped x.core (event.Ask ticket q word) x.clock).outcome ≡ Ok o → IsWaited next ticket a (stepped x.core (event.Ask ticket q word) x.clock).core
  asked_waits bound next before ticket word (request.Range ask) a o l h must under gives =
      let u = under_some (request.Range ask) (session_of p before) a under in
      subst (λ (y : Awaited). IsWaited next ticket y (stepped x.core (event.Ask ticket (request.Range ask) word) x.clock).core) (sym u.2) (range_waits bound next before ticket word ask u.0 o l h u.1 must gives)
  asked_waits bound next before ticket word (request.Put ask) a o l h must under gives = absurd (cc)
  asked_waits bound next before ticket word (request.Delete ask) a o l h must under gives = absurd (cc)
  asked_waits bound next before ticket word (request.Txn t) a o l h must under gives = absurd (cc)
  asked_waits bound next before ticket word (request.Compact revision physical) a o l h must under gives = absurd (cc)
  asked_waits bound next before ticket word (request.Grant ttl lease) a o l h must under gives = absurd (cc)
  asked_waits bound next before ticket word (request.Revoke lease) a o l h must under gives = absurd (cc)
  asked_waits bound next before ticket word (request.KeepAlive lease) a o l h must under gives = absurd (cc)
  asked_waits bound next before ticket word (request.TimeToLive lease keys) a o l h must under gives = absurd (cc)
  asked_waits bound next before ticket word request.Leases a o l h must under gives = absurd (cc)
  asked_waits bound next before ticket word (request.Watch ask) a o l h must under gives = absurd (cc)

  -- ---- a turn

  module _ (w : World) (items : List Item) (small : word w < FIRST_SESSION) (ok : CoreOk x.core) (owners : OwnersFit x.core) (h : WaitOk namespace leasing (bound_of w) items p x.core) (known : AtAsk (bound_of w) items) where
    abbrev next : ℕ
    next = bound_of w + 1

    older : (e : CoreEvent) (t : ℕ) (a : Awaited) → ((n : ℕ) → n < bound_of w → Leaves t n e (stepped x.core e x.clock).outcome) → awaited namespace leasing p t items ≡ Some a → IsWaited next t a (stepped x.core e x.clock).core
    older e t a lets f =
        let k = h t a f in
        record { below = (let b = k.below in omega (arith, b)); since = k.since; waits = awaited_reads_wait x.core t a.key k.since a.session e x.clock ok owners (lets a.session k.below) k.waits }

    still : (e : CoreEvent) (own : List Item) → list_all (is_aside namespace leasing p) own ≡ true → ((t n : ℕ) → n < bound_of w → Leaves t n e (stepped x.core e x.clock).outcome) → WaitOk namespace leasing next (items ++ own) p (stepped x.core e x.clock).core
    still e own g lets t a f = older e t a (lets t) (sym (waited_aside namespace leasing p t items own g) ∙ f)

    drawn : (n : ℕ) → n < bound_of w → (drawn_session (word w) == n) ≡ false
    drawn n l = apart (drawn_session (word w)) n (is (word w) small) l
      where
        is : (m : ℕ) → m < FIRST_SESSION → drawn_session m ≡ FIRST_SESSION + m
        is m k = omega (arith, k)

        apart : (s n : ℕ) → s ≡ FIRST_SESSION + word w → n < bound_of w → (s == n) ≡ false
        apart s n e k = by (s == n) refl
          where
            none : s ≡ n → ⊥
            none f = absurd (omega (arith, e, k, f))

            by : (b : Bool) → (s == n) ≡ b → b ≡ false
            by true f = absurd (none (same_number s n f))
            by false f = refl

    other_ask : (ticket word' : ℕ) (q : Request) (o : Outcome) (t : ℕ) (a : Awaited) → (ticket == t) ≡ false → awaited namespace leasing p t items ≡ Some a → IsWaited next t a (stepped x.core (event.Ask ticket q word') x.clock).core
    other_ask ticket word' q o t a n f = older (event.Ask ticket q word') t a (λ m l. n) f

    -- behind these items, which tell of the ticket what was told before
    ask_waits : (before : List Item) (ticket word' : ℕ) (q : Request) (o : Outcome) → AtAsk (bound_of w) before → ((t : ℕ) → awaited namespace leasing p t before ≡ awaited namespace leasing p t items) → (stepped x.core (event.Ask ticket q word') x.clock).outcome ≡ Ok o
        → WaitOk namespace leasing next (before ++ item.Asked p ticket q ∷ []) p (stepped x.core (event.Ask ticket q word') x.clock).core
    ask_waits before ticket word' q o at same gives t a f = by (ticket == t) refl (sym (waited_asked namespace leasing p t before ticket q) ∙ f)
      where
        by_must : (b : Bool) → must_acquire namespace leasing p before q ≡ b → ticket ≡ t → cond b (awaited_under q (session_of p before)) None ≡ Some a → IsWaited next t a (stepped x.core (event.Ask ticket q word') x.clock).core
        by_must true e its g = subst (λ (n : ℕ). IsWaited next n a (stepped x.core (event.Ask ticket q word') x.clock).core) its (asked_waits (bound_of w) next before ticket word' q a o (omega arith) at e g gives)
        by_must false e its g = absurd (cc)

        by : (b : Bool) → (ticket == t) ≡ b → cond b (cond (must_acquire namespace leasing p before q) (awaited_under q (session_of p before)) None) (awaited namespace leasing p t before) ≡ Some a → IsWaited next t a (stepped x.core (event.Ask ticket q word') x.clock).core
        by true e g = by_must (must_acquire namespace leasing p before q) refl (same_number ticket t e) g
        by false e g = other_ask ticket word' q o t a e (sym (same t) ∙ g)

    posted_at : (ticket : ℕ) (path body : List ℕ) → AtAsk (bound_of w) (items ++ item.Posted p ticket path body ∷ [])
    posted_at ticket path body =
        let i = item.Posted p ticket path body in
        record {
          clock = clock-append p 0 items (i ∷ []) ∙ known.clock;
          live = ap (told_live x.clock) (session_next p items i) ∙ known.live;
          bounded = known.bounded;
          up = λ e. known.up (sym (ap is_created (told_next p None (stream_by namespace leasing p) items i)) ∙ e);
          new = λ k e. known.new k (sym (told_next p true (new_by namespace leasing k p) items i ∙ and_one (is_new_key namespace leasing k p items)) ∙ e);
        }
      where
        and_one : (a : Bool) → a && true ≡ a
        and_one true = refl
        and_one false = refl

    no_call : (r : Result Outcome StepFault) (o : Outcome) (t : ℕ) → r ≡ Ok o → ((own member : ℕ) (q : Request) → ◌≡◌ {A = Result Outcome StepFault} (Ok o) (Ok (outcome.Job (Some (job.Call own member t q)))) → ⊥) → (q : Request) → Calls r t q → ⊥
    no_call r o t is n q c = n c.0 c.1 q (sym is ∙ c.2)

    same_ticket : (a b m m' t t' : ℕ) (q q' : Request) → ◌≡◌ {A = Result Outcome StepFault} (Ok (outcome.Job (Some (job.Call a m t q)))) (Ok (outcome.Job (Some (job.Call b m' t' q')))) → t ≡ t'
    same_ticket a b m m' t t' q q' e = cc

    taken_aside : (b : Bool) (ticket : ℕ) (i : WatchItem) → list_all (is_aside namespace leasing p) (item.Taken p ticket i ∷ line_if b p ticket i) ≡ true
    taken_aside true ticket i = refl
    taken_aside false ticket i = refl

    sent_waits : (own member ticket : ℕ) (q : Request) (number : ℕ) → (stepped x.core event.Work x.clock).outcome ≡ Ok (outcome.Job (Some (job.Call own member ticket q))) → WaitOk namespace leasing next (items ++ item.Sent p number member ticket q ∷ []) p (stepped x.core event.Work x.clock).core
    sent_waits own member ticket q number is t a f = by (ticket == t) refl (sym (waited_sent namespace leasing p t items number member ticket q) ∙ f)
      where
        other : ticket ≡ t → (ticket == t) ≡ false → ⊥
        other i e = absurd (let f : true ≡ false = sym (number_itself t) ∙ ap (λ (n : ℕ). n == t) (sym i) ∙ e in cc)

        by : (b : Bool) → (ticket == t) ≡ b → cond b None (awaited namespace leasing p t items) ≡ Some a → IsWaited next t a (stepped x.core event.Work x.clock).core
        by true e g = absurd (cc)
        by false e g = older event.Work t a (λ n l q' c. other (sym (same_ticket c.0 own c.1 member t ticket q' q (sym c.2 ∙ is))) e) g

    pub wait_turn : (z : Place) (e : CoreEvent) (o : Outcome) (v : World) (y : Place) (own : List Item) (told : Replies) → Turn w p z e o v y own told → (stepped x.core e x.clock).outcome ≡ Ok o → WaitOk namespace leasing next (items ++ own) p (stepped x.core e x.clock).core
    wait_turn z _ _ _ _ _ _ (ticks o) is = still (event.Tick (word w)) (item.Ticked p ∷ []) refl (λ t n l. drawn n l)
    wait_turn z _ _ _ _ _ _ (asks_it ticket q o f) is = ask_waits items ticket (word w) q o known (λ t. refl) is
    wait_turn z _ _ _ _ _ _ (posts_it ticket path body q o f) is =
        subst (λ (xs : List Item). WaitOk namespace leasing next xs p (stepped x.core (event.Ask ticket q (word w)) x.clock).core) (append_assoc items (item.Posted p ticket path body ∷ []) (item.Asked p ticket q ∷ []))
        (ask_waits (items ++ item.Posted p ticket path body ∷ []) ticket (word w) q o (posted_at ticket path body) (λ t. waited_aside namespace leasing p t items (item.Posted p ticket path body ∷ []) refl) is)
    wait_turn z _ _ _ _ _ _ (calls own member ticket q) is = λ t a f. sent_waits own member ticket q (next_call w) is t a f
    wait_turn z _ _ _ _ _ _ (opens own member ask) is = still event.Work _ refl (λ t n l. no_call (stepped x.core event.Work x.clock).outcome _ t is (λ a b q e. absurd (cc)))
    wait_turn z _ _ _ _ _ _ (closes own number e) is = still event.Work (item.Closed p number ∷ []) refl (λ t n l. no_call (stepped x.core event.Work x.clock).outcome _ t is (λ a b q e. absurd (cc)))
    wait_turn z _ _ _ _ _ _ (answers number call a o e f) is = still (event.Answer call.own a) (item.Answered number ∷ []) refl (λ t n l. tt)
    wait_turn z _ _ _ _ _ _ (loses number call o e) is = still (event.Lost call.own) (item.Lost number ∷ []) refl (λ t n l. tt)
    wait_turn z _ _ _ _ _ _ (delivers number s i rest o a b c d e) is = still (event.Item s.own i) (item.Delivered number ∷ []) refl (λ t n l. tt)
    wait_turn z _ _ _ _ _ _ (cuts number s o a b c d) is = still (event.Cut s.own) (item.Cut number ∷ []) refl (λ t n l. tt)
    wait_turn z _ _ _ _ _ _ (takes ticket i) is = still (event.Take ticket) (taken_items p z.posted ticket i) (taken_aside (is_among z.posted ticket) ticket i) (λ t n l. tt)
    wait_turn z _ _ _ _ _ _ (waits ticket o f) is = still (event.Take ticket) (item.Pending p ticket ∷ []) refl (λ t n l. tt)
    wait_turn z _ _ _ _ _ _ (leaves ticket o) is = still (event.Leave ticket) (item.Left p ticket ∷ []) refl (λ t n l. tt)

    -- a reply is fetched
    pub fetch_waits : (now ticket : ℕ) (c : Core) (bound : ℕ) (xs : List Item) → CoreOk c → OwnersFit c → WaitOk namespace leasing bound xs p c → WaitOk namespace leasing bound xs p (stepped c (event.Take ticket) now).core
    fetch_waits now ticket c bound xs k o g t a f = let u = g t a f in record { below = u.below; since = u.since; waits = awaited_reads_wait c t a.key u.since a.session (event.Take ticket) now k o tt u.waits }
