-- Each turn of a proxy that sends no call leaves a world that is shown.
use Rattle.std.proofs.Common.{◌≡◌, ◌≢◌, ◌⊎◌, inl, inr, ℕ, ◌+◌, ◌≤◌, ◌<◌, nat_lt, nat_le, Bool, true, false, ◌&&◌, List, [], ◌∷◌, ◌++◌, Option, None, Some, Ok, refl, sym, ◌∙◌, ap, subst, arith}
use Rattle.std.proofs.lemmas.Bool.Decides.{nat_tests}
use Rattle.etcd_types.specs.declared.request.Request.TheVariants as request
use Rattle.etcd_types.specs.declared.request.WatchAsk.{WatchAsk}
use Rattle.etcd_types.specs.declared.watch.WatchItem.{WatchItem}
use Rattle.proxy_model.specs.declared.session.TheConstants.{FIRST_SESSION}
use Rattle.proxy_model.specs.Prefixes.{leasing_range}
use Rattle.proxy_model.specs.Wrapped.{watch_under}
use Rattle.store_model.specs.Watches.{opened}
use Rattle.watch_model.specs.Lookups.{stream_at, numbered}
use Rattle.watch_model.specs.State.{Stream}
use Rattle.core_model.specs.declared.event.CoreEvent.{CoreEvent}
use Rattle.core_model.specs.declared.event.CoreEvent.TheVariants as event
use Rattle.core_model.specs.declared.event.Job.TheVariants as job
use Rattle.core_model.specs.declared.event.Outcome.{Outcome}
use Rattle.core_model.specs.declared.event.Outcome.TheVariants as outcome
use Rattle.core_model.specs.ClockWork.{clock_work}
use Rattle.core_model.specs.Heard.{heard}
use Rattle.core_model.specs.State.{Opening, Core}
use Rattle.core_model.specs.Step.{opening_at, stepped}
use Rattle.core_laws.specs.Steps.Kept.{HeardBytes, IsHeard}
use Rattle.core_fits.specs.Fits.{EachOf, IsOfLeasing}
use Rattle.owner_fits.specs.Names.{NamesOwners}
use Rattle.core_moves.specs.Clients.{TickMoves}
use Rattle.core_moves.specs.Sees.{Moves}
use Rattle.event_moves.specs.Events.{HasEvent, word_in, EventMoved}
use Rattle.event_moves.proofs.Events.{events_move}
use Rattle.step_moves.specs.Work.{call_in}
use Rattle.script_text.specs.declared.line.Line.{Line}
use Rattle.script_text.specs.declared.line.Line.TheVariants as line
use Rattle.world_model.specs.Places.{nth, with_kept, place_at, ended, with_core, with_place}
use Rattle.world_model.specs.Sends.{next_stream, new_stream, closed_in}
use Rattle.world_model.specs.State.{Place, OpenedStream, World, word}
use Rattle.world_laws.proofs.Effects.{ticks, asks_it, posts_it, calls, opens, closes, answers, loses, delivers, cuts, takes, waits, leaves}
use Rattle.core_laws.proofs.Watches.Touches.{side, IsAmong}
use Rattle.held_laws.proofs.Streams.{apart_none, found_is}
use Rattle.held_laws.proofs.Worlds.{one_place, placed_itself}
use Rattle.renewed_laws.proofs.Calls.{Counts, work_counts, is_work, other_counts}
use Rattle.bridge_laws.specs.Holder.{holder_of}
use Rattle.bridge_laws.specs.Messages.{MessageShown}
use Rattle.bridge_laws.specs.Shown.{numbers, PlaceShown, Shown}
use Rattle.bridge_laws.proofs.Holding.{ticks_draw}
use Rattle.bridge_laws.proofs.Stores.{counts_stay_shown}
use Rattle.bridge_laws.proofs.Turns.{turns_stay_shown, ticks_stay_shown}
use Rattle.turn_laws.specs.Known.{WorldKnown}
use Rattle.turn_laws.specs.Laws.{TurnsStay}
use Rattle.turn_laws.proofs.Answering.{view_answered, answer_names}
use Rattle.turn_laws.proofs.Clocked.{not_worn}
use Rattle.turn_laws.proofs.Items.{view_tells, item_names}
use Rattle.turn_laws.proofs.Jobs.{job_moves, job_begins}
use Rattle.turn_laws.proofs.Keeping.{Beside, keeps_place}
use Rattle.turn_laws.proofs.Numbers.{number_there, leasing_before}
use Rattle.turn_laws.proofs.Openings.{Opened}
use Rattle.turn_laws.proofs.Worlds.{Keeps, settled_shown, stream_shown, opened_shown}

not_work : (e : CoreEvent) → is_work e ≡ false → e ≢ event.Work
not_work e n q = absurd (let t : true ≡ false = sym (ap is_work q) ∙ n in cc)

-- a client stream's number was given
among_given : (low high : ℕ) (s : Stream) (ss : List Stream) → numbered low high ss ≡ true → IsAmong s ss → s.number ≤ high
among_given low high s [] h i = absurd i
among_given low high s (t ∷ ss) h i = by (λ g j. among_given t.number high s ss g j) i
  where
    here : (a b c : Bool) → a && b && c ≡ true → b ≡ true
    here true true c e = refl
    here true false c e = absurd (cc)
    here false b c e = absurd (cc)

    later : (a b c : Bool) → a && b && c ≡ true → c ≡ true
    later true true c e = e
    later true false c e = absurd (cc)
    later false b c e = absurd (cc)

    up_to : (n : ℕ) → nat_le n high ≡ true → n ≤ high
    up_to n e = grind (arith, nat_tests)

    by : (numbered t.number high ss ≡ true → IsAmong s ss → s.number ≤ high) → (s ≡ t) ⊎ IsAmong s ss → s.number ≤ high
    by more (inl e) = up_to s.number (ap (λ (u : Stream). nat_le u.number high) e ∙ here (nat_lt low t.number) (nat_le t.number high) (numbered t.number high ss) h)
    by more (inr j) = more (later (nat_lt low t.number) (nat_le t.number high) (numbered t.number high ss) h) j

-- ---- the turn, before the world beside

module _ (lines : List Line) (w : World) (p : ℕ) (x : Place) (at : place_at w p ≡ Some x) (known : WorldKnown w) (h : Shown (holder_of lines) w) where
  abbrev k : PlaceShown w.namespace w.leasing h.view h.forms p x
  k = h.places p x at

  -- of an event that isn't the sending of a job
  plain_turn : (e : CoreEvent) (y : Place) → is_work e ≡ false → word_in e ≡ None → IsHeard x.core e → NamesOwners x.core e → HasEvent (holder_of lines) h.view p (numbers x.calls) (clock_work x.clock x.core) e
      → Beside x y (stepped x.core e x.clock).core → Shown (holder_of lines) (with_place w p y)
  plain_turn e y n none heard names has b =
      let d = (stepped x.core e x.clock).core in
      let moved = events_move (holder_of lines) h.view p x.clock (numbers x.calls) e x.core (not_work e n) heard k.may.ok k.may.fits k.may.owners has k.sees h.stands.inv in
      let m : Moves (holder_of lines) h.view p x.clock (numbers x.calls) d = subst (λ (o : Option ℕ). EventMoved (holder_of lines) h.view p x.clock (numbers x.calls) o d) none moved in
      turns_stay_shown (holder_of lines) w h p x y at (keeps_place (holder_of lines) w h p x y e at known.streams heard names (other_counts x.core e x.clock n) b)
      (subst (Moves (holder_of lines) h.view p x.clock (numbers x.calls)) (sym b.core) m)

  -- of a job that isn't a call
  job_turn : (o : Outcome) (y : Place) → (stepped x.core event.Work x.clock).outcome ≡ Ok o → call_in (Ok o) ≡ None → (stepped x.core event.Work x.clock).core.calls ≡ x.core.calls
      → Beside x y (stepped x.core event.Work x.clock).core → Shown (holder_of lines) (with_place w p y)
  job_turn o y out none same b =
      turns_stay_shown (holder_of lines) w h p x y at (keeps_place (holder_of lines) w h p x y event.Work at known.streams tt tt same b)
      (subst (Moves (holder_of lines) h.view p x.clock (numbers x.calls)) (sym b.core) (job_moves (holder_of lines) h.view p x.clock (numbers x.calls) x.core o out none k.may.ok k.sees h.stands.inv))

  -- the line is counted
  counted : (u : World) → u.lines ≡ w.lines → Shown (holder_of lines) u → Shown (holder_of lines) (record u { lines = w.lines + 1 })
  counted u e s = counts_stay_shown (holder_of lines) u (w.lines + 1) (omega (arith, e)) s

  ticked : (y : Place) → Beside x y (stepped x.core (event.Tick (word w)) x.clock).core → nth lines (word w) ≡ Some (line.Tick p) → word w < FIRST_SESSION → Shown (holder_of lines) (record (with_place w p y) { lines = w.lines + 1 })
  ticked y b l small =
      let e = event.Tick (word w) in
      let moved = events_move (holder_of lines) h.view p x.clock (numbers x.calls) e x.core (not_work e refl) tt k.may.ok k.may.fits k.may.owners (λ none. ticks_draw lines w p h l small) k.sees h.stands.inv in
      ticks_stay_shown (holder_of lines) w h p x y at (keeps_place (holder_of lines) w h p x y e at known.streams tt tt (other_counts x.core e x.clock refl) b)
      (subst (TickMoves (holder_of lines) h.view p x.clock (numbers x.calls) (word w)) (sym b.core) moved)

  -- ---- streams

  -- a stream that is begun is a watch of the ownership keys where it is the leasing stream then
  begins_leasing : (own : ℕ) (ask : WatchAsk) (b : Opened w.leasing x.core own ask) (o : Opening) → opening_at own (stepped x.core event.Work x.clock).core.leasing ≡ Some o → b.bare.range ≡ leasing_range w.leasing
  begins_leasing own ask b o is = by b.of
    where
      none_there : {A : Type 0} (s : Stream) → ◌≡◌ {A = Option Stream} None (Some s) → A
      none_there s e = absurd (cc)

      too_new : {A : Type 0} (n given : ℕ) → n ≤ given → n ≡ given + 1 → A
      too_new n given l e = absurd (omega (arith, l, e))

      by_number : (s : Stream) → IsAmong s x.core.watches.streams → s.number ≡ own → ((z : Opening) × (opening_at own x.core.leasing ≡ Some z)) ⊎ (own ≡ x.core.watches.given + 1) → b.bare.range ≡ leasing_range w.leasing
      by_number s i e (inl z) =
          let apart = known.streams.apart p x at in
          let none : stream_at own x.core.watches.streams ≡ None = apart_none (side x.core).leasing x.core.watches own (number_there own x.core.leasing z.0 z.1) apart in
          let found : stream_at s.number x.core.watches.streams ≡ Some s = found_is (side x.core) s (known.streams.numbers p x at) i in
          none_there s (sym none ∙ ap (λ (n : ℕ). stream_at n x.core.watches.streams) (sym e) ∙ found)
      by_number s i e (inr new) = too_new s.number x.core.watches.given (among_given 0 x.core.watches.given s x.core.watches.streams (known.streams.numbers p x at) i) (e ∙ new)

      by : (b.bare.range ≡ leasing_range w.leasing) ⊎ ((s : Stream) × IsAmong s x.core.watches.streams × (s.number ≡ own)) → b.bare.range ≡ leasing_range w.leasing
      by (inl e) = e
      by (inr s) = by_number s.0 s.1 s.2 (leasing_before x.core event.Work x.clock own o is)

  begun : (own member : ℕ) (ask : WatchAsk) → (stepped x.core event.Work x.clock).outcome ≡ Ok (outcome.Job (Some (job.Begin own member (request.Watch ask))))
      → let y = record (with_core x (stepped x.core event.Work x.clock).core) { streams = with_kept x.streams own (next_stream w) } in
      let new = new_stream p (with_core x (stepped x.core event.Work x.clock).core) own in
      Shown (holder_of lines) (with_place (record w { streams = w.streams ++ new ∷ []; store = (opened w.store member ask).0 }) p y)
  begun own member ask out =
      let d = (stepped x.core event.Work x.clock).core in
      let y : Place = record (with_core x d) { streams = with_kept x.streams own (next_stream w) } in
      let new : OpenedStream = new_stream p (with_core x d) own in
      let o = outcome.Job (Some (job.Begin own member (request.Watch ask))) in
      let same : d.calls ≡ x.core.calls = subst (Counts x.core d) out (work_counts x.core x.clock) in
      let b : Opened w.leasing x.core own ask = job_begins w.leasing x.core x.clock own member ask out (subst (λ (q : List ℕ). IsOfLeasing q x.core.leasing) k.prefix k.may.fits.range) in
      let u : World = with_place w p y in
      let turned : Shown (holder_of lines) u = job_turn o y out refl same (record { core = refl; clock = refl; calls = refl; life = refl }) in
      opened_shown (holder_of lines) u member ask b.bare new (b.under ∙ ap (λ (n : List ℕ). watch_under n b.bare) k.namespace) known.streams.many refl
      (λ q z op there mine lives is.
      let one : y ≡ z = one_place y z (sym (placed_itself w w p y) ∙ ap (place_at u) mine ∙ there) in
      begins_leasing own ask b op (ap (λ (t : Place). opening_at own t.core.leasing) one ∙ is))
      turned

  ended_keeps : (s : OpenedStream) → Keeps s (ended s)
  ended_keeps s = record { proxy = refl; life = refl; own = refl; lasts = λ e. absurd (cc); waiting = λ ns g r m. tt }

  rest_keeps : (s : OpenedStream) (i : WatchItem) (rest : List WatchItem) → s.waiting ≡ i ∷ rest → Keeps s (record s { waiting = rest })
  rest_keeps s i rest e = record { proxy = refl; life = refl; own = refl; lasts = λ l. l; waiting = λ ns g r m. (subst (EachOf (MessageShown ns g r)) e m).1 }

  closed : (own number : ℕ) (y : Place) (o : Option OpenedStream) → nth w.streams number ≡ o → Shown (holder_of lines) (with_place w p y) → Shown (holder_of lines) (record (with_place (closed_in w number o) p y) { lines = w.lines + 1 })
  closed own number y None e s = counted (with_place w p y) refl s
  closed own number y (Some t) e s = counted (with_place (closed_in w number (Some t)) p y) refl (stream_shown (holder_of lines) (with_place w p y) number t (ended t) e (ended_keeps t) s)

-- ---- all turns

beside : (x : Place) (d : Core) → Beside x (with_core x d) d
beside x d = record { core = refl; clock = refl; calls = refl; life = refl }

pub turns_stay : TurnsStay
turns_stay lines items w p x _ _ _ _ _ _ (ticks o) quiet at out ok known h = ticked lines w p x at known h _ (beside x _) quiet.0 quiet.1
turns_stay lines items w p x _ _ _ _ _ _ (asks_it ticket q o n) quiet at out ok known h =
    counted lines w p x at known h _ refl (plain_turn lines w p x at known h (event.Ask ticket q (word w)) _ refl refl tt tt tt (record { core = refl; clock = refl; calls = refl; life = refl }))
turns_stay lines items w p x _ _ _ _ _ _ (posts_it ticket path body q o n) quiet at out ok known h =
    counted lines w p x at known h _ refl (plain_turn lines w p x at known h (event.Ask ticket q (word w)) _ refl refl tt tt tt (record { core = refl; clock = refl; calls = refl; life = refl }))
turns_stay lines items w p x _ _ _ _ _ _ (calls own member ticket q) quiet at out ok known h = absurd quiet
turns_stay lines items w p x _ _ _ _ _ _ (opens own member ask) quiet at out ok known h =
    counted lines w p x at known h _ refl (begun lines w p x at known h own member ask out)
turns_stay lines items w p x _ _ _ _ _ _ (closes own number e) quiet at out ok known h =
    closed lines w p x at known h own number _ (nth w.streams number) refl
    (job_turn lines w p x at known h _ _ out refl (subst (Counts x.core (stepped x.core event.Work x.clock).core) out (work_counts x.core x.clock)) (beside x _))
turns_stay lines items w p x _ _ _ _ _ _ (answers number call a o there is) quiet at out ok known h =
    let known_call = ok.calls number call there in
    let one : known_call.place ≡ x = one_place known_call.place x (sym known_call.at ∙ ap (place_at w) quiet.0 ∙ at) in
    let own : nth x.calls call.own ≡ Some number = ap (λ (y : Place). nth y.calls call.own) (sym one) ∙ known_call.own (quiet.1 ∙ ap (λ (y : Place). y.life) (sym one)) in
    let bytes : HeardBytes (heard x.core.settings.namespace a) = subst (λ (n : List ℕ). HeardBytes (heard n a)) (sym (h.places p x at).namespace) (known_call.heard a is) in
    let worn = not_worn x.core (event.Answer call.own a) x.clock o out in
    counted lines w p x at known h _ refl
    (settled_shown (holder_of lines) (with_place w p (with_core x (stepped x.core (event.Answer call.own a) x.clock).core)) number call there
    (plain_turn lines w p x at known h (event.Answer call.own a) _ refl refl bytes (answer_names (holder_of lines) w h p x at number call a there is own known.answers) (view_answered (holder_of lines) w h p x at number call a there is own worn) (beside x _)))
turns_stay lines items w p x _ _ _ _ _ _ (loses number call o there) quiet at out ok known h =
    counted lines w p x at known h _ refl
    (settled_shown (holder_of lines) (with_place w p (with_core x (stepped x.core (event.Lost call.own) x.clock).core)) number call there
    (plain_turn lines w p x at known h (event.Lost call.own) _ refl refl tt tt tt (beside x _)))
turns_stay lines items w p x _ _ _ _ _ _ (delivers number s i rest o there mine lasts lives waiting) quiet at out ok known h =
    counted lines w p x at known h _ refl
    (stream_shown (holder_of lines) (with_place w p (with_core x (stepped x.core (event.Item s.own i) x.clock).core)) number s (record s { waiting = rest }) there (rest_keeps lines w p x at known h s i rest waiting)
    (plain_turn lines w p x at known h (event.Item s.own i) _ refl refl tt (item_names (holder_of lines) w h p x at number s i rest there mine lives lasts waiting)
    (view_tells (holder_of lines) w h p x at number s i rest there mine lives lasts waiting) (beside x _)))
turns_stay lines items w p x _ _ _ _ _ _ (cuts number s o there mine lasts lives) quiet at out ok known h =
    counted lines w p x at known h _ refl
    (stream_shown (holder_of lines) (with_place w p (with_core x (stepped x.core (event.Cut s.own) x.clock).core)) number s (ended s) there (ended_keeps lines w p x at known h s)
    (plain_turn lines w p x at known h (event.Cut s.own) _ refl refl tt tt tt (beside x _)))
turns_stay lines items w p x _ _ _ _ _ _ (takes ticket i) quiet at out ok known h =
    counted lines w p x at known h _ refl (plain_turn lines w p x at known h (event.Take ticket) _ refl refl tt tt tt (beside x _))
turns_stay lines items w p x _ _ _ _ _ _ (waits ticket o n) quiet at out ok known h =
    counted lines w p x at known h _ refl (plain_turn lines w p x at known h (event.Take ticket) _ refl refl tt tt tt (beside x _))
turns_stay lines items w p x _ _ _ _ _ _ (leaves ticket o) quiet at out ok known h =
    counted lines w p x at known h _ refl (plain_turn lines w p x at known h (event.Leave ticket) _ refl refl tt tt tt (beside x _))
