-- What each turn of a proxy leaves at its place: what is told of its session and its calls lasts.
use Rattle.std.proofs.Common.{◌≡◌, ℕ, ◌+◌, ◌==◌, ◌<◌, ◌≤◌, nat_lt, nat_le, Bool, true, false, cond, List, [], ◌∷◌, ◌++◌, Option, None, Some, Result, Ok, refl, sym, ◌∙◌, ap, subst, arith}
use Rattle.std.proofs.lemmas.Bool.Decides.{nat_tests}
use Rattle.std.specs.List.{list_all}
use Rattle.etcd_types.specs.declared.answer.Answer.{Answer}
use Rattle.etcd_types.specs.declared.request.Request.{Request}
use Rattle.etcd_types.specs.declared.request.Request.TheVariants as request
use Rattle.proxy_model.specs.declared.session.TheConstants.{FIRST_SESSION}
use Rattle.core_model.specs.declared.event.CoreEvent.{CoreEvent}
use Rattle.core_model.specs.declared.event.CoreEvent.TheVariants as event
use Rattle.core_model.specs.declared.event.Job.{Job}
use Rattle.core_model.specs.declared.event.Job.TheVariants as job
use Rattle.core_model.specs.declared.event.Outcome.{Outcome}
use Rattle.core_model.specs.declared.event.Outcome.TheVariants as outcome
use Rattle.core_model.specs.declared.event.StepFault.{StepFault}
use Rattle.core_model.specs.ClockWork.{begun, clock_work}
use Rattle.core_model.specs.Sending.{on_work}
use Rattle.core_model.specs.Sessions.{drawn_session, seat_is_over, without_session}
use Rattle.core_model.specs.State.{Core}
use Rattle.core_model.specs.Step.{happened, stepped}
use Rattle.core_laws.specs.Steps.Kept.{IsHeard}
use Rattle.core_fits.proofs.Prefix.{clock_prefix}
use Rattle.script_text.specs.declared.item.Item.{Item}
use Rattle.script_text.specs.declared.item.Item.TheVariants as item
use Rattle.world_model.specs.declared.sent_call.SentCall.{SentCall}
use Rattle.world_model.specs.Gains.{Replies}
use Rattle.world_model.specs.Lives.{clock_of}
use Rattle.world_model.specs.LiveSessions.{Session, session_of, session_at, heard_answer}
use Rattle.world_model.specs.Places.{nth, with_nth, place_at, with_call}
use Rattle.world_model.specs.Sends.{next_call, new_call, closed_in}
use Rattle.world_model.specs.State.{Place, OpenedStream, World, word}
use Rattle.world_laws.proofs.Effects.{Turn, ticks, asks_it, posts_it, calls, opens, closes, answers, loses, delivers, cuts, takes, waits, leaves}
use Rattle.held_laws.proofs.Opens.{last_nth}
use Rattle.renewed_laws.proofs.Gains.{stepped_to}
use Rattle.renewed_laws.proofs.Turns.{call_turned}
use Rattle.renewed_laws.proofs.Worlds.{WorldOk, Comes, was, new}
use Rattle.session_laws.proofs.Answers.{AnswerFits}
use Rattle.session_laws.proofs.Calls.{CallTold, is_beside, untold_on, sent_new, sent_other}
use Rattle.session_laws.proofs.Items.{is_still, still_quiet, clock-append}
use Rattle.session_laws.proofs.Known.{Known}
use Rattle.session_laws.proofs.Lists.{nth_front, nth_next}
use Rattle.session_laws.proofs.Places.{CallOf, PlaceTold, Grow, grow_itself, place_later, place_steps, quiet_place}
use Rattle.session_laws.proofs.Steps as steps
use Rattle.session_laws.proofs.Steps.{Ready, known_more, gave, found_out}
use Rattle.session_laws.proofs.Works.{SendsKnown}
use Rattle.session_laws.proofs.Worlds.{CallsTold, AnswersFit, WorldTold, told_beside, pushed_calls, IfThere, if_there, there_if, fits_as, grow_changed, grow_pushed, settled_calls, settled_answers, taken_still, place_as, TurnTold, answered_quiet, answered_told}

abbrev pub bound_of : World → ℕ
bound_of w = FIRST_SESSION + word w

drawn_is : (n : ℕ) → n < FIRST_SESSION → drawn_session n ≡ FIRST_SESSION + n
drawn_is n l = omega (arith, l)

at_least : (n : ℕ) → nat_le n n ≡ true
at_least n = grind (arith, nat_tests)

one_more : (n : ℕ) → nat_lt n (n + 1) ≡ true
one_more n = grind (arith, nat_tests)

clock_settings : (now : ℕ) (c : Core) → (clock_work now c).settings.namespace ≡ c.settings.namespace
unfolding clock_work
clock_settings now c = by (seat_is_over c.seat now)
  where
    by : (b : Bool) → (cond b (without_session now (begun c)) (begun c)).settings.namespace ≡ c.settings.namespace
    by true = refl
    by false = refl

module _ (namespace : List ℕ) (items : List Item) (w : World) (p : ℕ) (x : Place) (ok : WorldOk namespace items w) (at : place_at w p ≡ Some x) (h : WorldTold items w (bound_of w)) where
  abbrev next : ℕ
  next = bound_of w + 1

  later : bound_of w ≤ next
  later = omega arith

  here : PlaceTold w.calls (bound_of w) items p x
  here = h.places p x at

  -- a turn whose items tell nothing of sessions and calls, in a world with the same calls
  beside : (own : List Item) (v : World) (z : Place) (e : CoreEvent) (o : Outcome) → v.places ≡ w.places → v.calls ≡ w.calls → z.core ≡ (stepped x.core e x.clock).core → z.clock ≡ x.clock → z.calls ≡ x.calls
      → ((q : ℕ) → list_all (is_still q) own ≡ true) → list_all is_beside own ≡ true → IsHeard x.core e → (stepped x.core e x.clock).outcome ≡ Ok o
      → (Known (CallOf w.calls p x.calls) here.namespace here.prefix (bound_of w) x.clock (session_of p items) (clock_work x.clock x.core) → Ready x.clock (clock_work x.clock x.core)
      → Known (CallOf w.calls p x.calls) here.namespace here.prefix next x.clock (session_of p items) (happened x.clock e (clock_work x.clock x.core)).core)
      → TurnTold items own w v p x z e next
  beside own v z e o places listed core lock mine still told heard is goes = record {
    places = places;
    grow = subst (Grow w.calls) (sym listed) (grow_itself w.calls);
    quiet = λ q n. still_quiet q items own (still q);
    place = subst (λ (cs : List SentCall). PlaceTold cs next (items ++ own) p z) (sym listed)
        (place_as w.calls next (items ++ own) p (stepped_to x e) z core lock (λ a b i. ap (λ (ns : List ℕ). nth ns a) mine ∙ i)
        (quiet_place w.calls (bound_of w) next items own p x e o (ok.places p x at).core heard is (still_quiet p items own (still p)) here goes));
    core = core;
    calls = subst (CallsTold (items ++ own)) (sym listed) (told_beside items own w.calls told h.calls);
    answers = subst AnswersFit (sym listed) h.answers;
  }

  -- with the bound of the next line
  rises : (d : Core) → Known (CallOf w.calls p x.calls) here.namespace here.prefix (bound_of w) x.clock (session_of p items) d → Known (CallOf w.calls p x.calls) here.namespace here.prefix next x.clock (session_of p items) d
  rises d k = known_more (CallOf w.calls p x.calls) (CallOf w.calls p x.calls) (bound_of w) next (λ n q a e. e) later here.namespace here.prefix x.clock (session_of p items) d k

  settings_are : (clock_work x.clock x.core).settings.namespace ≡ here.namespace
  settings_are = clock_settings x.clock x.core ∙ here.namespace_is

  prefix_is : (clock_work x.clock x.core).own.waits.prefix ≡ here.prefix
  prefix_is = clock_prefix x.clock x.core ∙ here.prefix_is

  -- what is due is sent, and isn't a call
  no_call : (j : Job) → (stepped x.core event.Work x.clock).outcome ≡ Ok (outcome.Job (Some j)) → ((own member ticket : ℕ) (q : Request) → j ≡ job.Call own member ticket q → ⊥)
      → Known (CallOf w.calls p x.calls) here.namespace here.prefix (bound_of w) x.clock (session_of p items) (clock_work x.clock x.core) → Ready x.clock (clock_work x.clock x.core)
      → Known (CallOf w.calls p x.calls) here.namespace here.prefix next x.clock (session_of p items) (happened x.clock event.Work (clock_work x.clock x.core)).core
  no_call j is none k r =
      rises (happened x.clock event.Work (clock_work x.clock x.core)).core
      (steps.works (CallOf w.calls p x.calls) here.namespace here.prefix (bound_of w) x.clock (session_of p items) (clock_work x.clock x.core) k here.below r settings_are prefix_is
      (λ own member ticket q e. absurd (none own member ticket q (same j (job.Call own member ticket q) (sym (gave x.core event.Work x.clock (outcome.Job (Some j)) is).1 ∙ e)))))
    where
      same : (i j : Job) → ◌≡◌ {A = Result Outcome StepFault} (Ok (outcome.Job (Some i))) (Ok (outcome.Job (Some j))) → i ≡ j
      same i j e = cc

  -- a call is sent
  sends : (own member ticket : ℕ) (q : Request) → (stepped x.core event.Work x.clock).outcome ≡ Ok (outcome.Job (Some (job.Call own member ticket q)))
      → TurnTold items (item.Sent p (next_call w) member ticket q ∷ []) w (record w { calls = w.calls ++ new_call p (stepped_to x event.Work) own member q ∷ [] }) p x (record (stepped_to x event.Work) { calls = x.calls ++ next_call w ∷ [] }) event.Work next
  sends own member ticket q is = record {
    places = refl;
    grow = grow;
    quiet = λ i n. still_quiet i items sentItems refl;
    place = quiet_place after next next items sentItems p y event.Work (outcome.Job (Some (job.Call own member ticket q))) (ok.places p x at).core tt is (still_quiet p items sentItems refl) there
        (λ k r. steps.works (CallOf after p y.calls) there.namespace there.prefix next x.clock (session_of p items) (clock_work x.clock x.core) k here.below r (clock_settings x.clock x.core ∙ there.namespace_is) (clock_prefix x.clock x.core ∙ there.prefix_is) known_call);
    core = refl;
    calls = pushed_calls (CallTold (items ++ sentItems)) w.calls call (sent_new items (next_call w) member ticket call refl here.clock (subst (CallTold items (next_call w)) (nth_next w.calls) (h.calls (next_call w))))
        (λ other n. untold_on items sentItems other (nth w.calls other) (sent_other p (next_call w) member ticket other q n) (h.calls other));
    answers = λ number c a e f.
        there_if fits_as (nth after number) c (pushed_calls (λ n o. IfThere fits_as o) w.calls call (λ b i. absurd (cc)) (λ n i. if_there fits_as (nth w.calls n) (λ d j b k. h.answers n d b j k)) number) e a f;
  }
    where
      call : SentCall
      call = new_call p (stepped_to x event.Work) own member q

      after : List SentCall
      after = w.calls ++ call ∷ []

      y : Place
      y = record x { calls = x.calls ++ next_call w ∷ [] }

      sentItems : List Item
      sentItems = item.Sent p (next_call w) member ticket q ∷ []

      grow : Grow w.calls after
      grow = grow_pushed w.calls call

      there : PlaceTold after next items p y
      there = place_later w.calls after (bound_of w) next items items p x y refl refl (λ n m e. nth_front x.calls (next_call w) n m e) (record { clock = refl; live = λ t l. refl }) grow later here

      own_there : nth y.calls own ≡ Some (next_call w)
      own_there = by ((call_turned namespace items w p x own member ticket q ok at is).calls (next_call w) call (last_nth w.calls call))
        where
          by : Comes w.calls p x.life y.calls (next_call w) call → nth y.calls own ≡ Some (next_call w)
          by (was s e a b c d) = absurd (let f : None ≡ Some s = sym (nth_next w.calls) ∙ e in cc)
          by (new a b c d) = c

      same_call : (o m t : ℕ) (r : Request) → ◌≡◌ {A = Result Outcome StepFault} (Ok (outcome.Job (Some (job.Call own member ticket q)))) (Ok (outcome.Job (Some (job.Call o m t r)))) → (own ≡ o) × (q ≡ r)
      same_call o m t r e = ((cc), (cc))

      known_call : SendsKnown (CallOf after p y.calls) x.clock (on_work x.clock (clock_work x.clock x.core))
      known_call o m t r e =
          let s = same_call o m t r (sym (gave x.core event.Work x.clock (outcome.Job (Some (job.Call own member ticket q))) is).1 ∙ e) in
          record { number = next_call w; call = call; there = ap (nth y.calls) (sym s.0) ∙ own_there; is = last_nth w.calls call; asked = s.1; clock = refl; proxy = refl }

  closed_same : (number : ℕ) (o : Option OpenedStream) → ((closed_in w number o).places ≡ w.places) × ((closed_in w number o).calls ≡ w.calls)
  closed_same number None = (refl, refl)
  closed_same number (Some s) = (refl, refl)

  pub turn_told : (e : CoreEvent) (o : Outcome) (v : World) (z : Place) (own : List Item) (told : Replies) → word w < FIRST_SESSION → IsHeard x.core e → (stepped x.core e x.clock).outcome ≡ Ok o → ((number : ℕ) → own ≡ item.Answered number ∷ [] → ⊥) → Turn w p (stepped_to x e) e o v z own told
      → TurnTold items own w v p x z e next
  turn_told _ _ _ _ _ _ small heard is other (ticks o) =
      beside (item.Ticked p ∷ []) w (stepped_to x (event.Tick (word w))) (event.Tick (word w)) o refl refl refl refl refl (λ q. refl) refl tt is
      (λ k r. steps.ticks (CallOf w.calls p x.calls) here.namespace here.prefix (bound_of w) x.clock (session_of p items) (clock_work x.clock x.core) k here.below r next (word w) later
      (ap (nat_le (bound_of w)) (drawn_is (word w) small) ∙ at_least (bound_of w)) (ap (λ (n : ℕ). nat_lt n next) (drawn_is (word w) small) ∙ one_more (bound_of w)))
  turn_told _ _ _ _ _ _ small heard is other (asks_it ticket q o n) =
      beside (item.Asked p ticket q ∷ []) w _ (event.Ask ticket q (word w)) o refl refl refl refl refl (λ i. refl) refl tt is
      (λ k r. rises _ (steps.asks (CallOf w.calls p x.calls) here.namespace here.prefix (bound_of w) x.clock (session_of p items) (clock_work x.clock x.core) k here.below r ticket q (word w)))
  turn_told _ _ _ _ _ _ small heard is other (posts_it ticket path body q o n) =
      beside (item.Posted p ticket path body ∷ item.Asked p ticket q ∷ []) w _ (event.Ask ticket q (word w)) o refl refl refl refl refl (λ i. refl) refl tt is
      (λ k r. rises _ (steps.asks (CallOf w.calls p x.calls) here.namespace here.prefix (bound_of w) x.clock (session_of p items) (clock_work x.clock x.core) k here.below r ticket q (word w)))
  turn_told _ _ _ _ _ _ small heard is other (calls own member ticket q) = sends own member ticket q is
  turn_told _ _ _ _ _ _ small heard is other (opens own member ask) =
      beside _ _ _ event.Work (outcome.Job (Some (job.Begin own member (request.Watch ask)))) refl refl refl refl refl (λ i. refl) refl tt is
      (no_call (job.Begin own member (request.Watch ask)) is (λ a b c d e. absurd (cc)))
  turn_told _ _ _ _ _ _ small heard is other (closes own number e) =
      let s = closed_same number (nth w.streams number) in
      beside (item.Closed p number ∷ []) (closed_in w number (nth w.streams number)) (stepped_to x event.Work) event.Work (outcome.Job (Some (job.Close own))) s.0 s.1 refl refl refl (λ i. refl) refl tt is
      (no_call (job.Close own) is (λ a b c d f. absurd (cc)))
  turn_told _ _ _ _ _ _ small heard is other (answers number call a o e k) = absurd (other number refl)
  turn_told _ _ _ _ _ _ small heard is other (loses number call o e) = record {
    places = refl;
    grow = grow_changed w.calls number call (record call { settled = true }) e refl refl refl;
    quiet = λ q n. still_quiet q items (item.Lost number ∷ []) refl;
    place = place_later w.calls (with_nth w.calls number (record call { settled = true })) next next (items ++ item.Lost number ∷ []) (items ++ item.Lost number ∷ []) p (stepped_to x (event.Lost call.own)) (stepped_to x (event.Lost call.own)) refl refl (λ a b i. i)
        (record { clock = refl; live = λ t l. refl }) (grow_changed w.calls number call (record call { settled = true }) e refl refl refl) (omega arith)
        (quiet_place w.calls (bound_of w) next items (item.Lost number ∷ []) p x (event.Lost call.own) o (ok.places p x at).core tt is (still_quiet p items (item.Lost number ∷ []) refl) here
        (λ k r. rises _ (steps.loses (CallOf w.calls p x.calls) here.namespace here.prefix (bound_of w) x.clock (session_of p items) (clock_work x.clock x.core) k here.below r call.own)));
    core = refl;
    calls = settled_calls (items ++ item.Lost number ∷ []) w.calls number call e (told_beside items (item.Lost number ∷ []) w.calls refl h.calls);
    answers = settled_answers w.calls number call e h.answers;
  }
  turn_told _ _ _ _ _ _ small heard is other (delivers number s i more o a b c d e) =
      beside (item.Delivered number ∷ []) _ (stepped_to x (event.Item s.own i)) (event.Item s.own i) o refl refl refl refl refl (λ q. refl) refl tt is
      (λ k r. rises _ (steps.items (CallOf w.calls p x.calls) here.namespace here.prefix (bound_of w) x.clock (session_of p items) (clock_work x.clock x.core) k here.below r s.own i))
  turn_told _ _ _ _ _ _ small heard is other (cuts number s o a b c d) =
      beside (item.Cut number ∷ []) _ (stepped_to x (event.Cut s.own)) (event.Cut s.own) o refl refl refl refl refl (λ q. refl) refl tt is
      (λ k r. rises _ (steps.cuts (CallOf w.calls p x.calls) here.namespace here.prefix (bound_of w) x.clock (session_of p items) (clock_work x.clock x.core) k here.below r s.own))
  turn_told _ _ _ _ _ _ small heard is other (takes ticket i) =
      beside _ w (stepped_to x (event.Take ticket)) (event.Take ticket) (outcome.Item i) refl refl refl refl refl (λ q. (taken_still q p x.posted ticket i).0) (taken_still 0 p x.posted ticket i).1 tt is
      (λ k r. rises _ (steps.takes (CallOf w.calls p x.calls) here.namespace here.prefix (bound_of w) x.clock (session_of p items) (clock_work x.clock x.core) k here.below r ticket))
  turn_told _ _ _ _ _ _ small heard is other (waits ticket o n) =
      beside (item.Pending p ticket ∷ []) w (stepped_to x (event.Take ticket)) (event.Take ticket) o refl refl refl refl refl (λ q. refl) refl tt is
      (λ k r. rises _ (steps.takes (CallOf w.calls p x.calls) here.namespace here.prefix (bound_of w) x.clock (session_of p items) (clock_work x.clock x.core) k here.below r ticket))
  turn_told _ _ _ _ _ _ small heard is other (leaves ticket o) =
      beside (item.Left p ticket ∷ []) w (stepped_to x (event.Leave ticket)) (event.Leave ticket) o refl refl refl refl refl (λ q. refl) refl tt is
      (λ k r. rises _ (steps.leaves (CallOf w.calls p x.calls) here.namespace here.prefix (bound_of w) x.clock (session_of p items) (clock_work x.clock x.core) k here.below r ticket))

  -- an answer is delivered, to a call of this life
  pub answer_told : (number : ℕ) (call : SentCall) (a : Answer) (o : Outcome) → call.proxy ≡ p → call.life ≡ x.life → nth w.calls number ≡ Some call → call.executed ≡ Some a → IsHeard x.core (event.Answer call.own a) → (stepped x.core (event.Answer call.own a) x.clock).outcome ≡ Ok o
      → TurnTold items (item.Answered number ∷ []) w (with_call w number (record call { settled = true })) p x (stepped_to x (event.Answer call.own a)) (event.Answer call.own a) next
  answer_told number call a o mine lived e ran heard is = record {
    places = refl;
    grow = grown;
    quiet = λ q n. answered_quiet items number call q this (subst (λ (i : ℕ). (q == i) ≡ false) (sym mine) n);
    place = place_later w.calls after next next (items ++ item.Answered number ∷ []) (items ++ item.Answered number ∷ []) p (stepped_to x e') (stepped_to x e') refl refl (λ m b i. i) (record { clock = refl; live = λ t l. refl }) grown (omega arith) told;
    core = refl;
    calls = settled_calls (items ++ item.Answered number ∷ []) w.calls number call e (told_beside items (item.Answered number ∷ []) w.calls refl h.calls);
    answers = settled_answers w.calls number call e h.answers;
  }
    where
      e' : CoreEvent
      e' = event.Answer call.own a

      after : List SentCall
      after = with_nth w.calls number (record call { settled = true })

      grown : Grow w.calls after
      grown = grow_changed w.calls number call (record call { settled = true }) e refl refl refl

      this : CallTold items number (Some call)
      this = subst (CallTold items number) e (h.calls number)

      behind : Option Session
      behind = session_of p (items ++ item.Answered number ∷ [])

      tells : behind ≡ heard_answer call.clock call.request (Some a) (session_at x.clock (session_of p items))
      tells = subst (λ (i : ℕ). session_of i (items ++ item.Answered number ∷ []) ≡ heard_answer call.clock call.request (Some a) (session_at x.clock (session_of i items))) mine
          (answered_told items number call a x.clock ran (ap (λ (i : ℕ). clock_of i items) mine ∙ here.clock) this)

      own_there : nth x.calls call.own ≡ Some number
      own_there = let k = ok.calls number call e in by k.place (sym k.at ∙ ap (place_at w) mine ∙ at) k.own
        where
          by : (y : Place) → Some y ≡ Some x → (call.life ≡ y.life → nth y.calls call.own ≡ Some number) → nth x.calls call.own ≡ Some number
          by y i f = let same : y ≡ x = cc in subst (λ (z : Place). call.life ≡ z.life → nth z.calls call.own ≡ Some number) same f lived

      hears : (q : Request) (t : ℕ) → CallOf w.calls p x.calls call.own q t → (behind ≡ heard_answer t q (Some a) (session_at x.clock (session_of p items))) × AnswerFits q a
      hears q t c =
          let same : c.number ≡ number = (let f : Some c.number ≡ Some number = sym c.there ∙ own_there in cc) in
          let one : c.call ≡ call = (let f : Some c.call ≡ Some call = sym c.is ∙ ap (nth w.calls) same ∙ e in cc) in
          let r : call.request ≡ q = ap (λ (y : SentCall). y.request) (sym one) ∙ c.asked in
          let s : call.clock ≡ t = ap (λ (y : SentCall). y.clock) (sym one) ∙ c.clock in (
            tells ∙ ap (λ (i : ℕ). heard_answer i call.request (Some a) (session_at x.clock (session_of p items))) s ∙ ap (λ (i : Request). heard_answer t i (Some a) (session_at x.clock (session_of p items))) r,
            subst (λ (i : Request). AnswerFits i a) r (h.answers number call a e ran),
          )

      told : PlaceTold w.calls next (items ++ item.Answered number ∷ []) p (stepped_to x e')
      told =
          place_steps w.calls (bound_of w) next items (items ++ item.Answered number ∷ []) p x e' o (ok.places p x at).core heard is (clock-append p 0 items (item.Answered number ∷ []) ∙ here.clock) here
          (λ k r. let f = found_out x.clock call.own a (clock_work x.clock x.core) o (gave x.core e' x.clock o is).1 in
          known_more (CallOf w.calls p x.calls) (CallOf w.calls p x.calls) (bound_of w) next (λ n q b i. i) later here.namespace here.prefix x.clock behind (happened x.clock e' (clock_work x.clock x.core)).core
          (steps.answers (CallOf w.calls p x.calls) here.namespace here.prefix (bound_of w) x.clock (session_of p items) (clock_work x.clock x.core) k here.below r call.own f.0 f.1 behind a hears))
