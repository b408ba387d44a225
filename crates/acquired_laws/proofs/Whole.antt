-- Behind each prefix of a script, line by line, and must acquire of every script.
use Rattle.std.proofs.Common.{◌≡◌, ◌≢◌, ◌⊎◌, inl, inr, ℕ, ◌+◌, ◌-◌, ◌==◌, ◌≤◌, ◌<◌, ◌^◌, Bool, true, false, cond, not, ◌&&◌, ◌||◌, List, [], ◌∷◌, ◌++◌, append_assoc, append-nil, length, slice_get, Option, None, Some, is_some, Result, Ok, Err, refl, sym, ◌∙◌, ap, subst, arith}
use Rattle.std.proofs.lemmas.Bool.Decides.{nat_tests}
use Rattle.std.proofs.lemmas.Option.{slice_get_within}
use Rattle.std.proofs.lemmas.List.Folds.{list_all-append}
use Rattle.std.specs.Prelude.{flat_map}
use Rattle.std.specs.List.{list_all, list_any}
use Rattle.std.specs.BTreeSet.{BTreeSet}
use Rattle.etcd_types.specs.declared.answer.Answer.{Answer}
use Rattle.etcd_types.specs.declared.request.Request.TheVariants as request
use Rattle.etcd_types.specs.declared.watch.WatchItem.{WatchItem}
use Rattle.etcd_types.proofs.Bools.{and_first, and_second, and_both}
use Rattle.proxy_model.specs.declared.session.TheConstants.{FIRST_SESSION}
use Rattle.store_model.specs.Step.{exec}
use Rattle.watch_model.specs.Lookups.{stream_at}
use Rattle.core_model.specs.declared.event.CoreEvent.{CoreEvent}
use Rattle.core_model.specs.declared.event.CoreEvent.TheVariants as event
use Rattle.core_model.specs.declared.event.Job.TheVariants as job
use Rattle.core_model.specs.declared.event.Outcome.{Outcome}
use Rattle.core_model.specs.declared.event.Outcome.TheVariants as outcome
use Rattle.core_model.specs.Fits.{CoreOk}
use Rattle.core_model.specs.State.{Opening, Core, first_core}
use Rattle.core_model.specs.Step.{stepped, is_worn}
use Rattle.core_laws.specs.Steps.Kept.{IsHeard}
use Rattle.core_laws.proofs.Steps.Lists.{same_number, number_itself, number_turned}
use Rattle.core_laws.proofs.Steps.Stepping.{steps_keep}
use Rattle.core_laws.proofs.Steps.Staying.{steps_stay}
use Rattle.core_laws.proofs.Steps.Outcomes.{worn_does_nothing}
use Rattle.core_fits.specs.Fits.{CoreFits}
use Rattle.owner_fits.specs.Laws.{OwnersFit}
use Rattle.owner_fits.proofs.Runs.{steps_fit}
use Rattle.script_text.specs.declared.item.Item.{Item}
use Rattle.script_text.specs.declared.item.Item.TheVariants as item
use Rattle.script_text.specs.declared.line.Line.{Line}
use Rattle.world_model.specs.declared.sent_call.SentCall.{SentCall}
use Rattle.world_model.specs.Gains.{Replies, all_fetched, fetched, body_if, reply_items, line_if}
use Rattle.world_model.specs.Lives.{begins, world_of, opened_it, is_stream_of}
use Rattle.world_model.specs.Places.{nth, with_nth, place_at, with_place, with_posted, with_call, with_stream, ended, is_among}
use Rattle.world_model.specs.Sends.{next_stream, new_stream, closed_in}
use Rattle.world_model.specs.Starts.{settings, new_place}
use Rattle.world_model.specs.State.{Place, OpenedStream, World, word}
use Rattle.world_model.specs.Transcript.{done}
use Rattle.world_laws.proofs.Effects.{Turn, ticks, asks_it, posts_it, calls, opens, closes, answers, loses, delivers, cuts, takes, waits, leaves, Begins, first, again, Effect, starts, sets, executes, expires, applies, pushes, turns}
use Rattle.world_laws.proofs.Effects as effects
use Rattle.world_laws.proofs.Lines.{taken_keeps}
use Rattle.held_laws.proofs.Places.{all_so}
use Rattle.held_laws.proofs.Worlds.{equal, one_place, no_place, placed_itself, placed_other}
use Rattle.held_laws.proofs.Opens.{last_nth}
use Rattle.renewed_laws.proofs.Gains.{is_other, stepped_to, Gain, gain}
use Rattle.renewed_laws.proofs.Gains as gains
use Rattle.renewed_laws.proofs.Worlds.{WorldOk}
use Rattle.prefix_laws.proofs.Fetched.{turn_heard}
use Rattle.prefix_laws.proofs.Places.{OfPlaces, fetched_so}
use Rattle.prefix_laws.proofs.Prefixes.{IsNext}
use Rattle.turn_laws.specs.Known.{StreamsKnown}
use Rattle.truth_laws.proofs.Facts.{told_of as facts_of, Facts}
use Rattle.session_laws.proofs.Lists.{nth_pushed}
use Rattle.session_laws.proofs.Places.{PlaceTold}
use Rattle.session_laws.proofs.Turns.{bound_of}
use Rattle.session_laws.proofs.Worlds.{WorldTold}
use Rattle.cached_laws.specs.NewKeys.{is_new_key}
use Rattle.cached_laws.specs.Reads.{awaited}
use Rattle.cached_laws.specs.Streams.{ToldStream, stream_by, leasing_of, opened_by, is_up}
use Rattle.cached_laws.proofs.Folds.{told_next}
use Rattle.cached_laws.proofs.NewTold.{NewOk, new_more, Turning, turn_going, new_turn}
use Rattle.cached_laws.proofs.Steps.{starts_untouched, new_keys_stay_new}
use Rattle.cached_laws.proofs.StreamTold.{Its, StreamTold, Forth, Back, forth_itself, forth_changed, back_changed, keeps, dry_told, is_dry, delivered_other, cut_other, not_told, stands}
use Rattle.cached_laws.proofs.StreamTurns as streams
use Rattle.cached_laws.proofs.Telling.{is_going, is_aside, waited_started}
use Rattle.cached_laws.proofs.WaitTold.{WaitOk, wait_more, AtAsk, wait_turn, fetch_waits}
use Rattle.cached_laws.proofs.Openings as openings
use Rattle.proxy_model.specs.Acquire.{acquire}
use Rattle.proxy_model.specs.Wrapped.{request_under}
use Rattle.etcd_types.specs.declared.request.Request.{Request}
use Rattle.core_model.specs.ClockWork.{clock_work}
use Rattle.script_text.specs.declared.line.Line.TheVariants as line
use Rattle.world_model.specs.Lives.{clock_of}
use Rattle.world_model.specs.LiveSessions.{Session, session_of, is_live, is_live_at}
use Rattle.world_model.specs.State.{starting_world}
use Rattle.world_model.specs.Transcript.{transcript, world_behind}
use Rattle.renewed_laws.specs.Renewals.{AnswersShowBytes}
use Rattle.prefix_laws.proofs.Places.{Lasts, places_kept}
use Rattle.prefix_laws.proofs.Prefixes.{IsKept, next_word}
use Rattle.prefix_laws.proofs.Told.{AllItems, IsTold, is_told, every_item, items-append, replies_told}
use Rattle.core_fits.proofs.Fit.{fits_start, fits_step}
use Rattle.owner_fits.proofs.Runs.{starts_fit}
use Rattle.turn_laws.proofs.Behind.{worlds_are_known}
use Rattle.truth_laws.proofs.Heads.{HeadsOk, heads_kept}
use Rattle.session_laws.specs.Told.{sets_clock_below}
use Rattle.session_laws.proofs.Whole.{told_kept}
use Rattle.cached_laws.specs.Awaited.{IsAwaited, seat_is}
use Rattle.cached_laws.specs.Reads.{Awaited, MustAcquire}
use Rattle.acquired_laws.specs.Scripts.{EachScriptAcquires}
use Rattle.cached_laws.proofs.Steps.{awaited_reads_acquire}
use Rattle.cached_laws.proofs.Worlds.{ProxyTold, AllTold, Beside, replies_plain, opened_front, opened_on, OpenedBy, same_opened, changed_opened, TurnGoes, turn_goes, turn_aside, taken_dry, other_stream}
use Rattle.cached_laws.proofs.WaitTold.{told_seated, seated_behind, seated_is}

module _ (namespace : List ℕ) (items : List Item) (w : World) (b : Beside namespace items w) (h : AllTold items w (bound_of w)) where
  abbrev next : ℕ
  next = bound_of w + 1

  abbrev lea : List ℕ
  lea = w.leasing

  abbrev nsp : List ℕ
  nsp = w.namespace

  later : bound_of w ≤ next
  later = omega arith

  -- at a place whose core, life and calls are as they were, behind items that tell nothing of it
  aside : (more : List Item) (all : List OpenedStream) (q : ℕ) (x y : Place) → y.core ≡ x.core → y.life ≡ x.life → list_all (is_going q) more ≡ true → list_all (is_aside nsp lea q) more ≡ true → leasing_of nsp lea q (items ++ more) ≡ leasing_of nsp lea q items
      → Forth w.streams all → ((o : Opening) → Back w.streams all q x.life o.number) → ProxyTold nsp lea (bound_of w) items w.streams q x → ProxyTold nsp lea next (items ++ more) all q y
  aside more all q x y same life g a s f k t = record {
    prefix = ap (λ (c : Core). c.own.waits.prefix) same ∙ t.prefix;
    new = subst (NewOk nsp lea (items ++ more) q) (sym same) (new_more nsp lea items more q x.core g t.new);
    waits = subst (WaitOk nsp lea next (items ++ more) q) (sym same) (wait_more nsp lea (bound_of w) next items more q x.core later a t.waits);
    stream = subst (λ (n : ℕ). StreamTold (leasing_of nsp lea q (items ++ more)) all q n y.core.leasing) (sym life)
        (keeps (leasing_of nsp lea q items) (leasing_of nsp lea q (items ++ more)) w.streams all q x.life x.core.leasing y.core.leasing s (ap (λ (c : Core). c.leasing) same) f (λ o e. k o) t.stream);
  }

  -- ---- a proxy turns

  module _ (p : ℕ) (x : Place) (at : place_at w p ≡ Some x) where
    here : ProxyTold nsp lea (bound_of w) items w.streams p x
    here = h.places p x at

    turning : Turning nsp lea items w p x
    turning = record {
      namespace_is = (b.ok.places p x at).namespace_is ∙ sym b.ok.namespace_is;
      prefix_is = here.prefix;
      range = (b.fits p x at).range;
      facts = b.facts;
      opened = h.opened;
    }

    core_ok : CoreOk x.core
    core_ok = (b.ok.places p x at).core

    at_ask : AtAsk nsp lea p x here.prefix (b.sessions.places p x at).below (bound_of w) items
    at_ask =
        let s = b.sessions.places p x at in
        record {
          clock = s.clock;
          live = s.known.live x.clock (omega arith) s.below;
          bounded = s.known.below;
          up = λ e. stands (leasing_of nsp lea p items) w.streams p x.life x.core here.stream e;
          new = here.new;
        }

    behind : OwnersFit (clock_work x.clock x.core)
    behind = Rattle.cached_laws.proofs.Steps.owners_behind x.clock x.core core_ok (b.owners p x at)

    given : (m n : ℕ) → Its w.streams p x.life m n → m ≤ x.core.watches.given
    given m n t = subst (λ (j : ℕ). j ≤ x.core.watches.given) t.own (b.streams.given n t.at x t.there (ap (place_at w) t.mine ∙ at) t.lives)

    apart : (o : Opening) → x.core.leasing ≡ Some o → stream_at o.number x.core.watches.streams ≡ None
    apart o e = by x.core.leasing e (b.streams.apart p x at)
      where
        by : (l : Option Opening) → l ≡ Some o → Rattle.held_laws.proofs.Holding.IsApart (Rattle.std.specs.Option.option_map (λ (y : Opening). y.number) l) x.core.watches → stream_at o.number x.core.watches.streams ≡ None
        by None f k = absurd (cc)
        by (Some y) f k = ap (λ (j : Opening). stream_at j.number x.core.watches.streams) (sym (some_opening y o f)) ∙ k.1
          where
            some_opening : (y o : Opening) → Some y ≡ Some o → y ≡ o
            some_opening y o f = cc

    -- the leasing stream
    stream_turn : (e : CoreEvent) (o : Outcome) (v : World) (y : Place) (own : List Item) (told : Replies) → (stepped x.core e x.clock).outcome ≡ Ok o → Turn w p (stepped_to x e) e o v y own told
        → StreamTold (leasing_of nsp lea p (items ++ own)) v.streams p x.life (stepped x.core e x.clock).core.leasing
    stream_turn _ _ _ _ _ _ is (ticks o) = streams.ticked nsp lea items w p x turning.namespace_is here.prefix turning.range behind b.facts given apart here.stream (word w) o is
    stream_turn _ _ _ _ _ _ is (asks_it ticket q o n) =
        streams.stays nsp lea items w p x turning.namespace_is here.prefix turning.range behind b.facts given apart here.stream (event.Ask ticket q (word w)) o (item.Asked p ticket q ∷ []) w.streams is refl (forth_itself w.streams) (λ y e n t. t)
        (openings.asked_so (clock_work x.clock x.core).leasing x.clock ticket q (word w) (clock_work x.clock x.core) refl)
    stream_turn _ _ _ _ _ _ is (posts_it ticket path body q o n) =
        streams.stays nsp lea items w p x turning.namespace_is here.prefix turning.range behind b.facts given apart here.stream (event.Ask ticket q (word w)) o (item.Posted p ticket path body ∷ item.Asked p ticket q ∷ []) w.streams is refl (forth_itself w.streams) (λ y e n t. t)
        (openings.asked_so (clock_work x.clock x.core).leasing x.clock ticket q (word w) (clock_work x.clock x.core) refl)
    stream_turn _ _ _ _ _ _ is (calls own member ticket q) =
        streams.worked nsp lea items w p x turning.namespace_is here.prefix turning.range behind b.facts given apart here.stream _ (item.Sent p (Rattle.world_model.specs.Sends.next_call w) member ticket q ∷ []) w.streams is (λ a m r e. absurd (cc)) refl (forth_itself w.streams) (λ y e n t. t)
    stream_turn _ _ _ _ _ _ is (opens own member ask) =
        streams.was_opened nsp lea items w p x turning.namespace_is here.prefix turning.range behind b.facts given apart here.stream own member ask is (new_stream p (stepped_to x event.Work) own) refl refl refl
    stream_turn _ _ _ _ _ _ is (closes own number e) =
        streams.worked nsp lea items w p x turning.namespace_is here.prefix turning.range behind b.facts given apart here.stream _ (item.Closed p number ∷ []) (closed_in w number (nth w.streams number)).streams is (λ a m r e. absurd (cc)) refl (closes_forth number (nth w.streams number) refl) (λ y e n t. closes_back number (nth w.streams number) refl y.number n t)
      where
        closes_forth : (number : ℕ) (o : Option OpenedStream) → nth w.streams number ≡ o → Forth w.streams (closed_in w number o).streams
        closes_forth number None e = forth_itself w.streams
        closes_forth number (Some s) e = forth_changed w.streams number s (ended s) e refl refl refl

        closes_back : (number : ℕ) (o : Option OpenedStream) → nth w.streams number ≡ o → (m : ℕ) → Back w.streams (closed_in w number o).streams p x.life m
        closes_back number None e m n t = t
        closes_back number (Some s) e m n t = back_changed w.streams number s (ended s) e refl refl refl p x.life m n t
    stream_turn _ _ _ _ _ _ is (answers number call a o e f) =
        streams.stays nsp lea items w p x turning.namespace_is here.prefix turning.range behind b.facts given apart here.stream (event.Answer call.own a) o (item.Answered number ∷ []) w.streams is refl (forth_itself w.streams) (λ y e n t. t)
        (openings.answered_so (clock_work x.clock x.core).leasing x.clock call.own a (clock_work x.clock x.core) refl)
    stream_turn _ _ _ _ _ _ is (loses number call o e) =
        streams.stays nsp lea items w p x turning.namespace_is here.prefix turning.range behind b.facts given apart here.stream (event.Lost call.own) o (item.Lost number ∷ []) w.streams is refl (forth_itself w.streams) (λ y e n t. t)
        (openings.lost_so (clock_work x.clock x.core).leasing x.clock call.own (clock_work x.clock x.core) refl)
    stream_turn _ _ _ _ _ _ is (delivers number s i rest o a c d e f) =
        streams.delivered nsp lea items w p x turning.namespace_is here.prefix turning.range behind b.facts given apart here.stream s number i rest o a c d e f is
    stream_turn _ _ _ _ _ _ is (cuts number s o a c d e) =
        streams.was_cut nsp lea items w p x turning.namespace_is here.prefix turning.range behind b.facts given apart here.stream s number o a c e is
    stream_turn _ _ _ _ _ _ is (takes ticket i) =
        streams.stays nsp lea items w p x turning.namespace_is here.prefix turning.range behind b.facts given apart here.stream (event.Take ticket) (outcome.Item i) _ w.streams is (taken_dry p p (is_among x.posted ticket) ticket i) (forth_itself w.streams) (λ y e n t. t)
        (openings.take_so (clock_work x.clock x.core).leasing ticket (clock_work x.clock x.core) refl)
    stream_turn _ _ _ _ _ _ is (waits ticket o n) =
        streams.stays nsp lea items w p x turning.namespace_is here.prefix turning.range behind b.facts given apart here.stream (event.Take ticket) o (item.Pending p ticket ∷ []) w.streams is refl (forth_itself w.streams) (λ y e n t. t)
        (openings.take_so (clock_work x.clock x.core).leasing ticket (clock_work x.clock x.core) refl)
    stream_turn _ _ _ _ _ _ is (leaves ticket o) =
        streams.stays nsp lea items w p x turning.namespace_is here.prefix turning.range behind b.facts given apart here.stream (event.Leave ticket) o (item.Left p ticket ∷ []) w.streams is refl (forth_itself w.streams) (λ y e n t. t)
        (openings.leave_so (clock_work x.clock x.core).leasing x.clock ticket (clock_work x.clock x.core) refl)

    -- a fetch leaves what is told

    pub record Kept (xs : List Item) (all : List OpenedStream) (c : Core) : Type 0 where
      pub ok : CoreOk c
      pub owners : OwnersFit c
      pub prefix : c.own.waits.prefix ≡ lea
      pub new : NewOk nsp lea xs p c
      pub waits : WaitOk nsp lea next xs p c
      pub stream : StreamTold (leasing_of nsp lea p xs) all p x.life c.leasing

    fetch_kept : (xs : List Item) (all : List OpenedStream) (c : Core) (ticket now : ℕ) → Kept xs all c → Kept xs all (stepped c (event.Take ticket) now).core
    fetch_kept xs all c ticket now k = record {
      ok = steps_keep c (event.Take ticket) now tt k.ok;
      owners = steps_fit c (event.Take ticket) now tt k.ok k.owners;
      prefix = (steps_stay c (event.Take ticket) now).prefix ∙ k.prefix;
      new = λ j e. new_keys_stay_new j c (event.Take ticket) now tt k.ok tt (k.new j e);
      waits = λ t a e. fetch_waits nsp lea p x here.prefix (b.sessions.places p x at).below w items b.small core_ok (b.owners p x at) here.waits at_ask now ticket c next xs k.ok k.owners k.waits t a e;
      stream = subst (StreamTold (leasing_of nsp lea p xs) all p x.life) (sym (streams.take_leasing c ticket now)) k.stream;
    }

    -- the proxy behind its turn, with the replies
    pub turned_told : (e : CoreEvent) (o : Outcome) (v : World) (y : Place) (own : List Item) (told : Replies) → (stepped x.core e x.clock).outcome ≡ Ok o → IsHeard x.core e → Turn w p (stepped_to x e) e o v y own told
        → let f = all_fetched y told in ProxyTold nsp lea next (items ++ (own ++ flat_map (reply_items p f.place.posted) f.replies)) v.streams p f.place
    turned_told e o v y own told is heard t =
        let f = all_fetched y told in
        let rest = flat_map (reply_items p f.place.posted) f.replies in
        let g = turn_goes w p (stepped_to x e) e o v y own told t in
        let stood : Kept (items ++ own) v.streams (stepped x.core e x.clock).core = record {
          ok = steps_keep x.core e x.clock heard core_ok;
          owners = steps_fit x.core e x.clock heard core_ok (b.owners p x at);
          prefix = (steps_stay x.core e x.clock).prefix ∙ here.prefix;
          new = new_turn nsp lea items w p x (stepped_to x e) e o v y own told turning heard core_ok t here.new;
          waits = wait_turn nsp lea p x here.prefix (b.sessions.places p x at).below w items b.small core_ok (b.owners p x at) here.waits at_ask (stepped_to x e) e o v y own told t is;
          stream = stream_turn e o v y own told is t;
        } in
        let k = fetched_so (Kept (items ++ own) v.streams) (λ c ticket now m. fetch_kept (items ++ own) v.streams c ticket now m) (length y.core.asks) y told (subst (Kept (items ++ own) v.streams) (sym g.core) stood) in
        let life : f.place.life ≡ x.life = (all_so y told).life ∙ g.life in
        let same : (items ++ own) ++ rest ≡ items ++ (own ++ rest) = append_assoc items own rest in
        subst (λ (xs : List Item). ProxyTold nsp lea next xs v.streams p f.place) same (record {
          prefix = k.prefix;
          new = new_more nsp lea (items ++ own) rest p f.place.core (replies_plain (is_going p) (λ a c d. refl) (λ a c d i. refl) p f.place.posted f.replies) k.new;
          waits = wait_more nsp lea next next (items ++ own) rest p f.place.core (omega arith) (replies_plain (is_aside nsp lea p) (λ a c d. refl) (λ a c d i. refl) p f.place.posted f.replies) k.waits;
          stream = subst (λ (n : ℕ). StreamTold (leasing_of nsp lea p ((items ++ own) ++ rest)) v.streams p n f.place.core.leasing) (sym life)
              (keeps (leasing_of nsp lea p (items ++ own)) (leasing_of nsp lea p ((items ++ own) ++ rest)) v.streams v.streams p x.life f.place.core.leasing f.place.core.leasing (dry_told nsp lea p (items ++ own) rest (replies_plain (is_dry p) (λ a c d. refl) (λ a c d i. refl) p f.place.posted f.replies)) refl
              (forth_itself v.streams) (λ y e n t. t) k.stream);
        })

    -- all of them behind a turn
    pub all_turned : (e : CoreEvent) (o : Outcome) (v : World) (y : Place) (own : List Item) (told : Replies) → (stepped x.core e x.clock).outcome ≡ Ok o → IsHeard x.core e → Turn w p (stepped_to x e) e o v y own told
        → let f = all_fetched y told in AllTold (items ++ (own ++ flat_map (reply_items p f.place.posted) f.replies)) (with_place v p f.place) next
    all_turned e o v y own told is heard t =
        let f = all_fetched y told in
        let rest = flat_map (reply_items p f.place.posted) f.replies in
        let g = turn_goes w p (stepped_to x e) e o v y own told t in
        record {
          names = (h.names.0, h.names.1 ++ (own ++ rest), ap (λ (xs : List Item). xs ++ (own ++ rest)) h.names.2 ∙ (λ i. item.World h.names.0 ((sym g.namespace) i) ((sym g.leasing) i) ∷ (h.names.1 ++ (own ++ rest))));
          opened = opened_on items own rest w.streams v.streams g.opened h.opened;
          places = λ q z k.
              subst (λ (l : List ℕ). ProxyTold v.namespace l next (items ++ (own ++ rest)) v.streams q z) (sym g.leasing)
              (subst (λ (l : List ℕ). ProxyTold l lea next (items ++ (own ++ rest)) v.streams q z) (sym g.namespace) (by q z k (q == p) refl));
        }
      where
        by : (q : ℕ) (z : Place) → place_at (with_place v p (all_fetched y told).place) q ≡ Some z → (c : Bool) → (q == p) ≡ c
            → ProxyTold nsp lea next (items ++ (own ++ flat_map (reply_items p (all_fetched y told).place.posted) (all_fetched y told).replies)) v.streams q z
        by q z k true n =
            let f = all_fetched y told in
            let g = turn_goes w p (stepped_to x e) e o v y own told t in
            let there : q ≡ p = equal q p n in
            let one : f.place ≡ z = one_place f.place z (sym (placed_itself w v p f.place) ∙ ap (place_at (with_place v p f.place)) (sym there) ∙ k) in
            subst (λ (i : ℕ). ProxyTold nsp lea next (items ++ (own ++ flat_map (reply_items p f.place.posted) f.replies)) v.streams i z) (sym there)
            (subst (ProxyTold nsp lea next (items ++ (own ++ flat_map (reply_items p f.place.posted) f.replies)) v.streams p) one (turned_told e o v y own told is heard t))
        by q z k false n =
            let f = all_fetched y told in
            let rest = flat_map (reply_items p f.place.posted) f.replies in
            let g = turn_goes w p (stepped_to x e) e o v y own told t in
            let was : place_at w q ≡ Some z = sym (placed_other w v p q f.place g.places n) ∙ k in
            let prior = h.places q z was in
            aside (own ++ rest) v.streams q z z refl refl
            (list_all-append (is_going q) own rest ∙ and_both (list_all (is_going q) own) (list_all (is_going q) rest) (turn_going q w p (stepped_to x e) e o v y own told t) (replies_plain (is_going q) (λ a c d. refl) (λ a c d i. refl) p f.place.posted f.replies))
            (list_all-append (is_aside nsp lea q) own rest ∙ and_both (list_all (is_aside nsp lea q) own) (list_all (is_aside nsp lea q) rest) (turn_aside nsp lea w p (stepped_to x e) e o v y own told q n t) (replies_plain (is_aside nsp lea q) (λ a c d. refl) (λ a c d i. refl) p f.place.posted f.replies))
            (ap (leasing_of nsp lea q) (sym (append_assoc items own rest)) ∙ dry_told nsp lea q (items ++ own) rest (replies_plain (is_dry q) (λ a c d. refl) (λ a c d i. refl) p f.place.posted f.replies)
            ∙ other_stream nsp lea items w p (stepped_to x e) e o v y own told q z.life z.core.leasing n t prior.stream)
            g.forth (λ m j. g.back q z.life m.number n j) prior

  -- ---- lines of no turn

  grown : (more : List Item) → (members : ℕ) × (rest : List Item) × (items ++ more ≡ item.World members w.namespace w.leasing ∷ rest)
  grown more = (h.names.0, h.names.1 ++ more, ap (λ (xs : List Item). xs ++ more) h.names.2)

  -- items that tell nothing of any proxy, where the places stay
  plain_told : (more : List Item) (v : World) → v.namespace ≡ w.namespace → v.leasing ≡ w.leasing → v.places ≡ w.places → Forth w.streams v.streams → ((q life m : ℕ) → Back w.streams v.streams q life m) → OpenedBy w.streams v.streams more
      → ((q : ℕ) → (list_all (is_going q) more ≡ true) × ((list_all (is_aside nsp lea q) more ≡ true) × (list_all (is_dry q) more ≡ true))) → AllTold (items ++ more) v next
  plain_told more v n l ps f bk op quiet = record {
    names = (h.names.0, h.names.1 ++ more, ap (λ (xs : List Item). xs ++ more) h.names.2 ∙ (λ i. item.World h.names.0 ((sym n) i) ((sym l) i) ∷ (h.names.1 ++ more)));
    opened = λ number s at. subst (λ (xs : List Item). opened_it s.proxy number (items ++ xs) ≡ true) (append-nil more) (opened_on items more [] w.streams v.streams op h.opened number s at);
    places = λ q z k.
        let was : place_at w q ≡ Some z = ap (λ (xs : Rattle.world_model.specs.State.Numbered Place). Rattle.world_model.specs.Places.kept_at xs q) (sym ps) ∙ k in
        let t = quiet q in
        subst (λ (y : List ℕ). ProxyTold v.namespace y next (items ++ more) v.streams q z) (sym l)
        (subst (λ (y : List ℕ). ProxyTold y lea next (items ++ more) v.streams q z) (sym n)
        (aside more v.streams q z z refl refl t.0 t.1.0 (dry_told nsp lea q items more t.1.1) f (λ o. bk q z.life o.number) (h.places q z was)));
  }

  -- one place is put anew, whose core stays
  placed_told : (more : List Item) (p : ℕ) (x y : Place) → place_at w p ≡ Some x → y.core ≡ x.core → y.life ≡ x.life → ((q : ℕ) → (list_all (is_going q) more ≡ true) × ((list_all (is_aside nsp lea q) more ≡ true) × (list_all (is_dry q) more ≡ true)))
      → OpenedBy w.streams w.streams more → AllTold (items ++ more) (with_place w p y) next
  placed_told more p x y at same life quiet op = record {
    names = grown more;
    opened = λ number s k. subst (λ (xs : List Item). opened_it s.proxy number (items ++ xs) ≡ true) (append-nil more) (opened_on items more [] w.streams w.streams op h.opened number s k);
    places = λ q z k. by q z k (q == p) refl;
  }
    where
      stays : (q : ℕ) (a z : Place) → z.core ≡ a.core → z.life ≡ a.life → place_at w q ≡ Some a → ProxyTold nsp lea next (items ++ more) w.streams q z
      stays q a z c l k = let t = quiet q in aside more w.streams q a z c l t.0 t.1.0 (dry_told nsp lea q items more t.1.1) (forth_itself w.streams) (λ o n j. j) (h.places q a k)

      by : (q : ℕ) (z : Place) → place_at (with_place w p y) q ≡ Some z → (c : Bool) → (q == p) ≡ c → ProxyTold nsp lea next (items ++ more) w.streams q z
      by q z k true n =
          let there : q ≡ p = equal q p n in
          let one : y ≡ z = one_place y z (sym (placed_itself w w p y) ∙ ap (place_at (with_place w p y)) (sym there) ∙ k) in
          stays q x z (ap (λ (v : Place). v.core) (sym one) ∙ same) (ap (λ (v : Place). v.life) (sym one) ∙ life) (ap (place_at w) there ∙ at)
      by q z k false n = stays q z z refl refl (sym (placed_other w w p q y refl n) ∙ k)

  -- a proxy starts
  start_told : (p clock life : ℕ) (i : Item) → ((q : ℕ) → begins q i ≡ (p == q)) → ((q : ℕ) → is_aside nsp lea q i ≡ not (p == q)) → ((q : ℕ) → is_dry q i ≡ not (p == q)) → AllTold (items ++ i ∷ []) (with_place w p (new_place w clock life)) next
  start_told p clock life i begun asides dries = record {
    names = grown (i ∷ []);
    opened = λ number s k. opened_front s.proxy number items (i ∷ []) (h.opened number s k);
    places = λ q z k. by q z k (q == p) refl;
  }
    where
      none : {A : Type 0} (a : Awaited) → ◌≡◌ {A = Option Awaited} None (Some a) → A
      none a e = absurd (cc)

      no_stream : {A : Type 0} (s : ToldStream) → ◌≡◌ {A = Option ToldStream} None (Some s) → A
      no_stream s e = absurd (cc)

      fresh : ProxyTold nsp lea next (items ++ i ∷ []) w.streams p (new_place w clock life)
      fresh = record {
        prefix = refl;
        new = λ k e. starts_untouched k (settings w);
        waits = λ t a e. none a (sym (waited_started nsp lea p t items i (begun p ∙ number_itself p)) ∙ e);
        stream = record {
          told_open = λ s e. no_stream s (sym (told_next p None (stream_by nsp lea p) items i ∙ ap (λ (c : Bool). cond c None (stream_by nsp lea p items i (leasing_of nsp lea p items))) (begun p ∙ number_itself p)) ∙ e);
          single = λ o n e k. absurd (cc);
          fresh = λ o since e d. absurd (cc);
        };
      }

      other : (q : ℕ) → (q == p) ≡ false → not (p == q) ≡ true
      other q n = ap not (number_turned q p n)

      by : (q : ℕ) (z : Place) → place_at (with_place w p (new_place w clock life)) q ≡ Some z → (c : Bool) → (q == p) ≡ c → ProxyTold nsp lea next (items ++ i ∷ []) w.streams q z
      by q z k true n =
          let there : q ≡ p = equal q p n in
          let one : new_place w clock life ≡ z = one_place (new_place w clock life) z (sym (placed_itself w w p (new_place w clock life)) ∙ ap (place_at (with_place w p (new_place w clock life))) (sym there) ∙ k) in
          subst (λ (j : ℕ). ProxyTold nsp lea next (items ++ i ∷ []) w.streams j z) (sym there) (subst (ProxyTold nsp lea next (items ++ i ∷ []) w.streams p) one fresh)
      by q z k false n =
          aside (i ∷ []) w.streams q z z refl refl (ap (λ (c : Bool). not c && true) (begun q ∙ number_turned q p n)) (ap (λ (c : Bool). c && true) (asides q ∙ other q n))
          (dry_told nsp lea q items (i ∷ []) (ap (λ (c : Bool). c && true) (dries q ∙ other q n))) (forth_itself w.streams) (λ o m j. j) (h.places q z (sym (placed_other w w p q (new_place w clock life) refl n) ∙ k))

  posted_quiet : (q p ticket : ℕ) (path body : List ℕ) (posted : BTreeSet ℕ) (r : ℕ × Answer) (f : ℕ → Item → Bool) → f q (item.Posted p ticket path body) ≡ true → ((t : ℕ) (a : Answer) → f q (item.Reply p t a) ≡ true) → ((t status : ℕ) (text : List ℕ) → f q (item.Body p t status text) ≡ true)
      → list_all (f q) (item.Posted p ticket path body ∷ reply_items p posted r) ≡ true
  posted_quiet q p ticket path body posted r f a c d = by (is_among posted r.0)
    where
      by : (e : Bool) → list_all (f q) (item.Posted p ticket path body ∷ item.Reply p r.0 r.1 ∷ body_if e p r.0 r.1) ≡ true
      by true = and_both (f q (item.Posted p ticket path body)) (f q (item.Reply p r.0 r.1) && (f q (item.Body p r.0 _ _) && true)) a
          (and_both (f q (item.Reply p r.0 r.1)) (f q (item.Body p r.0 _ _) && true) (c r.0 r.1) (and_both (f q (item.Body p r.0 _ _)) true (d r.0 _ _) refl))
      by false = and_both (f q (item.Posted p ticket path body)) (f q (item.Reply p r.0 r.1) && true) a (and_both (f q (item.Reply p r.0 r.1)) true (c r.0 r.1) refl)

  -- ---- a line

  effect_told : (after : World) (gained : List Item) → Effect w after gained → is_other gained ≡ true → AllTold (items ++ gained) after next
  effect_told _ _ (starts p clock life i c) other = started c
    where
      started : {k l : ℕ} {j : Item} → Begins w p k l j → AllTold (items ++ j ∷ []) (with_place w p (new_place w k l)) next
      started (first e) = start_told p 0 1 (item.Started p) (λ q. refl) (λ q. refl) (λ q. refl)
      started (again x e) = start_told p x.clock (x.life + 1) (item.Restarted p) (λ q. refl) (λ q. refl) (λ q. refl)
  effect_told _ _ (sets p millis x at forward) other = placed_told (item.Clock p millis ∷ []) p x (record x { clock = millis }) at refl refl (λ q. (refl, (refl, refl))) (same_opened w.streams (item.Clock p millis ∷ []))
  effect_told _ _ (effects.refuses_post p ticket path body a x at) other = absurd (cc)
  effect_told _ _ (executes number call e fresh) other = plain_told (item.Executed number (exec w.store call.member call.request).1 ∷ []) _ refl refl refl (forth_itself w.streams) (λ q life m n t. t) (same_opened w.streams (item.Executed number (exec w.store call.member call.request).1 ∷ [])) (λ q. (refl, (refl, refl)))
  effect_told _ _ (expires lease t e due) other = plain_told (item.Expired lease ∷ []) _ refl refl refl (forth_itself w.streams) (λ q life m n t. t) (same_opened w.streams (item.Expired lease ∷ [])) (λ q. (refl, (refl, refl)))
  effect_told _ _ (applies member revision t e) other = plain_told (item.Applied member revision ∷ []) _ refl refl refl (forth_itself w.streams) (λ q life m n t. t) (same_opened w.streams (item.Applied member revision ∷ [])) (λ q. (refl, (refl, refl)))
  effect_told _ _ (pushes number s t i at e f k) other =
      plain_told (item.Pushed number i ∷ []) _ refl refl refl (forth_changed w.streams number s (Rattle.world_model.specs.Streams.with_message i s) at refl refl refl) (λ q life m. back_changed w.streams number s (Rattle.world_model.specs.Streams.with_message i s) at refl refl refl q life m)
      (changed_opened w.streams number s (Rattle.world_model.specs.Streams.with_message i s) (item.Pushed number i ∷ []) at refl) (λ q. (refl, (refl, refl)))
  effect_told _ _ (turns p x e o v y own told at is t) other = all_turned p x at e o v y own told is (turn_heard namespace items w p x e o v y own told b.ok at t) t

  pub gain_told : (after : World) (gained : List Item) → Gain w after gained → AllTold (items ++ gained) after next
  gain_told _ _ (gains.answers number call x a o there is at lived out) =
      let t : Turn w call.proxy (stepped_to x (event.Answer call.own a)) (event.Answer call.own a) o (with_call w number (record call { settled = true })) (stepped_to x (event.Answer call.own a)) (item.Answered number ∷ []) [] = answers number call a o there is in
      all_turned call.proxy x at (event.Answer call.own a) o (with_call w number (record call { settled = true })) (stepped_to x (event.Answer call.own a)) (item.Answered number ∷ []) [] out
      (turn_heard namespace items w call.proxy x (event.Answer call.own a) o (with_call w number (record call { settled = true })) (stepped_to x (event.Answer call.own a)) (item.Answered number ∷ []) [] b.ok at t) t
  gain_told _ _ (gains.refuses_post p ticket path body r x at) =
      placed_told _ p x (with_posted ticket x) at refl refl
      (λ q. (posted_quiet q p ticket path body (with_posted ticket x).posted (ticket, _) is_going refl (λ t a. refl) (λ t c d. refl), (posted_quiet q p ticket path body (with_posted ticket x).posted (ticket, _) (is_aside nsp lea) refl (λ t a. refl) (λ t c d. refl), posted_quiet q p ticket path body (with_posted ticket x).posted (ticket, _) is_dry refl (λ t a. refl) (λ t c d. refl))))
      (same_opened w.streams (item.Posted p ticket path body ∷ reply_items p (with_posted ticket x).posted (ticket, Rattle.etcd_types.specs.declared.answer.Answer.TheVariants.Refused r)))
  gain_told _ _ (gains.other after gained e o) = effect_told after gained e o

-- ---- a call that names an awaited read

module _ (namespace : List ℕ) (items : List Item) (w : World) (b : Beside namespace items w) (h : AllTold items w (bound_of w)) where
  -- what a call's item tells
  abbrev pub Sends : ℕ → ℕ → Request → Type 0
  Sends p ticket q =
      (a : Awaited) (s : Session) → ticket ≢ 0 → awaited (world_of items).0 (world_of items).1 p ticket items ≡ Some a → session_of p items ≡ Some s → s.number ≡ a.session → is_live p items ≡ true
      → q ≡ request_under (world_of items).0 (request.Txn (acquire (world_of items).1 a.key a.session))

  sent_acquires : (p : ℕ) (x : Place) → place_at w p ≡ Some x → (own member ticket : ℕ) (q : Request) → (stepped x.core event.Work x.clock).outcome ≡ Ok (outcome.Job (Some (job.Call own member ticket q))) → Sends p ticket q
  sent_acquires p x at own member ticket q is a s z f g n live =
      let t = h.places p x at in
      let k = b.sessions.places p x at in
      let world : world_of items ≡ (w.namespace, w.leasing) = ap world_of h.names.2 in
      let waited = t.waits ticket a ((λ i. awaited ((sym world) i).0 ((sym world) i).1 p ticket items) ∙ f) in
      let seat = told_seated x.clock (session_of p items) s x.core.seat g (sym (ap (λ (m : ℕ). is_live_at m (session_of p items)) k.clock) ∙ live) (k.known.live x.clock (omega arith) k.below) in
      let sits = seated_is s.number x.clock (clock_work x.clock x.core).seat (seated_behind s.number x.clock x.core seat) in
      awaited_reads_acquire x.core ticket a.key waited.since a.session x.clock q z (b.ok.places p x at).core (b.owners p x at) waited.waits (subst (λ (m : ℕ). seat_is m (clock_work x.clock x.core).seat ≡ true) n sits) (own, member, is)
      ∙ ap (λ (y : List ℕ). request_under y (request.Txn (acquire x.core.own.waits.prefix a.key a.session))) ((b.ok.places p x at).namespace_is ∙ sym b.ok.namespace_is)
      ∙ ap (λ (y : List ℕ). request_under w.namespace (request.Txn (acquire y a.key a.session))) t.prefix
      ∙ (λ i. request_under ((sym world) i).0 (request.Txn (acquire ((sym world) i).1 a.key a.session)))

-- each item
abbrev Acquires : List Item → Item → Type 0
Acquires before (item.Sent p call member ticket q) =
    (a : Awaited) (s : Session) → ticket ≢ 0 → awaited (world_of before).0 (world_of before).1 p ticket before ≡ Some a → session_of p before ≡ Some s → s.number ≡ a.session → is_live p before ≡ true
    → q ≡ request_under (world_of before).0 (request.Txn (acquire (world_of before).1 a.key a.session))
Acquires before _ = Unit {0}

abbrev is_unsent : Item → Bool
is_unsent (item.Sent p call member ticket q) = false
is_unsent _ = true

one_unsent : (before : List Item) (i : Item) → is_unsent i ≡ true → Acquires before i
one_unsent before (item.Sent p call member ticket q) h = absurd (cc)
one_unsent before (item.Started q) h = tt
one_unsent before (item.Restarted q) h = tt
one_unsent before (item.World members namespace leasing) h = tt
one_unsent before (item.Clock q millis) h = tt
one_unsent before (item.Asked q ticket r) h = tt
one_unsent before (item.Posted q ticket path body) h = tt
one_unsent before (item.Ticked q) h = tt
one_unsent before (item.Opened q stream member r) h = tt
one_unsent before (item.Closed q stream) h = tt
one_unsent before (item.Executed call a) h = tt
one_unsent before (item.Answered call) h = tt
one_unsent before (item.Lost call) h = tt
one_unsent before (item.Pushed stream i) h = tt
one_unsent before (item.Delivered stream) h = tt
one_unsent before (item.Cut stream) h = tt
one_unsent before (item.Taken q ticket i) h = tt
one_unsent before (item.Pending q ticket) h = tt
one_unsent before (item.Left q ticket) h = tt
one_unsent before (item.Reply q ticket a) h = tt
one_unsent before (item.Body q ticket status text) h = tt
one_unsent before (item.Expired lease) h = tt
one_unsent before (item.Applied member revision) h = tt

all_unsent : (before xs : List Item) → list_all is_unsent xs ≡ true → AllItems Acquires before xs
all_unsent before [] h = tt
all_unsent before (x ∷ xs) h = (one_unsent before x (and_first (is_unsent x) (list_all is_unsent xs) h), all_unsent (before ++ x ∷ []) xs (and_second (is_unsent x) (list_all is_unsent xs) h))

replies_unsent : (p : ℕ) (posted : BTreeSet ℕ) (rs : Replies) → list_all is_unsent (flat_map (reply_items p posted) rs) ≡ true
replies_unsent p posted rs = replies_plain is_unsent (λ a c d. refl) (λ a c d i. refl) p posted rs

module _ (namespace : List ℕ) (items : List Item) (w : World) (b : Beside namespace items w) (h : AllTold items w (bound_of w)) where
  quiet_own : (own : List Item) (p : ℕ) (posted : BTreeSet ℕ) (rs : Replies) → list_all is_unsent own ≡ true → AllItems Acquires items (own ++ flat_map (reply_items p posted) rs)
  quiet_own own p posted rs e = all_unsent items (own ++ flat_map (reply_items p posted) rs) (list_all-append is_unsent own (flat_map (reply_items p posted) rs) ∙ and_both (list_all is_unsent own) (list_all is_unsent (flat_map (reply_items p posted) rs)) e (replies_unsent p posted rs))

  taken_unsent : (p : ℕ) (c : Bool) (ticket : ℕ) (i : WatchItem) → list_all is_unsent (item.Taken p ticket i ∷ line_if c p ticket i) ≡ true
  taken_unsent p true ticket i = refl
  taken_unsent p false ticket i = refl

  turn_items : (p : ℕ) (x : Place) → place_at w p ≡ Some x → (posted : BTreeSet ℕ) (rs : Replies) (e : CoreEvent) (o : Outcome) (v : World) (y : Place) (own : List Item) (told : Replies) → (stepped x.core e x.clock).outcome ≡ Ok o → Turn w p (stepped_to x e) e o v y own told
      → AllItems Acquires items (own ++ flat_map (reply_items p posted) rs)
  turn_items p x at posted rs _ _ _ _ _ _ is (calls own member ticket q) = (sent_acquires namespace items w b h p x at own member ticket q is, all_unsent _ (flat_map (reply_items p posted) rs) (replies_unsent p posted rs))
  turn_items p x at posted rs _ _ _ _ _ _ is (ticks o) = quiet_own (item.Ticked p ∷ []) p posted rs refl
  turn_items p x at posted rs _ _ _ _ _ _ is (asks_it ticket q o n) = quiet_own (item.Asked p ticket q ∷ []) p posted rs refl
  turn_items p x at posted rs _ _ _ _ _ _ is (posts_it ticket path body q o n) = quiet_own (item.Posted p ticket path body ∷ item.Asked p ticket q ∷ []) p posted rs refl
  turn_items p x at posted rs _ _ _ _ _ _ is (opens own member ask) = quiet_own (item.Opened p (next_stream w) member (request.Watch ask) ∷ []) p posted rs refl
  turn_items p x at posted rs _ _ _ _ _ _ is (closes own number e) = quiet_own (item.Closed p number ∷ []) p posted rs refl
  turn_items p x at posted rs _ _ _ _ _ _ is (answers number call a o e f) = quiet_own (item.Answered number ∷ []) p posted rs refl
  turn_items p x at posted rs _ _ _ _ _ _ is (loses number call o e) = quiet_own (item.Lost number ∷ []) p posted rs refl
  turn_items p x at posted rs _ _ _ _ _ _ is (delivers number s i rest o a c d e f) = quiet_own (item.Delivered number ∷ []) p posted rs refl
  turn_items p x at posted rs _ _ _ _ _ _ is (cuts number s o a c d e) = quiet_own (item.Cut number ∷ []) p posted rs refl
  turn_items p x at posted rs _ _ _ _ _ _ is (takes ticket i) = quiet_own (item.Taken p ticket i ∷ line_if (is_among x.posted ticket) p ticket i) p posted rs (taken_unsent p (is_among x.posted ticket) ticket i)
  turn_items p x at posted rs _ _ _ _ _ _ is (waits ticket o n) = quiet_own (item.Pending p ticket ∷ []) p posted rs refl
  turn_items p x at posted rs _ _ _ _ _ _ is (leaves ticket o) = quiet_own (item.Left p ticket ∷ []) p posted rs refl

  effect_items : (after : World) (gained : List Item) → Effect w after gained → is_other gained ≡ true → AllItems Acquires items gained
  effect_items _ _ (starts p clock life i c) other = started c
    where
      started : {k l : ℕ} {j : Item} → Begins w p k l j → AllItems Acquires items (j ∷ [])
      started (first e) = (tt, tt)
      started (again x e) = (tt, tt)
  effect_items _ _ (sets p millis x at forward) other = (tt, tt)
  effect_items _ _ (effects.refuses_post p ticket path body a x at) other = absurd (cc)
  effect_items _ _ (executes number call e fresh) other = (tt, tt)
  effect_items _ _ (expires lease t e due) other = (tt, tt)
  effect_items _ _ (applies member revision t e) other = (tt, tt)
  effect_items _ _ (pushes number s t i at e f k) other = (tt, tt)
  effect_items _ _ (turns p x e o v y own told at is t) other = turn_items p x at (all_fetched y told).place.posted (all_fetched y told).replies e o v y own told is t

  gain_items : (after : World) (gained : List Item) → Gain w after gained → AllItems Acquires items gained
  gain_items _ _ (gains.answers number call x a o there is at lived out) = quiet_own (item.Answered number ∷ []) call.proxy (all_fetched (stepped_to x (event.Answer call.own a)) []).place.posted (all_fetched (stepped_to x (event.Answer call.own a)) []).replies refl
  gain_items _ _ (gains.refuses_post p ticket path body r x at) = all_unsent items (item.Posted p ticket path body ∷ item.Reply p ticket (Rattle.etcd_types.specs.declared.answer.Answer.TheVariants.Refused r) ∷ body_if (is_among (with_posted ticket x).posted ticket) p ticket (Rattle.etcd_types.specs.declared.answer.Answer.TheVariants.Refused r)) (by (Rattle.etcd_types.specs.declared.answer.Answer.TheVariants.Refused r) (is_among (with_posted ticket x).posted ticket))
    where
      by : (a : Answer) (c : Bool) → list_all is_unsent (item.Posted p ticket path body ∷ item.Reply p ticket a ∷ body_if c p ticket a) ≡ true
      by a true = refl
      by a false = refl
  gain_items _ _ (gains.other after gained e o) = effect_items after gained e o

-- ---- a script

abbrev pub Base : List Item → World → Type 0
Base items w = WorldTold items w (bound_of w) × (HeadsOk items w × (OfPlaces OwnersFit items w × OfPlaces CoreFits items w))

abbrev pub AllKnown : List Item → World → Type 0
AllKnown items w = Base items w × AllTold items w (bound_of w)

module _ (script : List Line) (fits : list_all sets_clock_below script ≡ true) (few : length script < 2 ^ 60) where
  owners_kept : IsKept script (OfPlaces OwnersFit)
  owners_kept = places_kept OwnersFit (record { start = starts_fit; step = λ c e now b ok h. steps_fit c e now b ok h }) script

  fits_kept : IsKept script (OfPlaces CoreFits)
  fits_kept = places_kept CoreFits (record { start = fits_start; step = λ c e now b ok h. fits_step c e now ok h }) script

  sessions : IsKept script (λ items w. WorldTold items w (bound_of w))
  sessions = told_kept script fits few

  heads : IsKept script HeadsOk
  heads = heads_kept script

  front : (before after : List Line) (l : Line) → script ≡ before ++ l ∷ after → length before < 2 ^ 60
  front before after l e =
      let n : length script ≡ length before + length (l ∷ after) = ap (λ (xs : List Line). length xs) e ∙ Rattle.std.proofs.Common.length-append before (l ∷ after) in
      omega (arith, n, few)

  nth_in : {A : Type 0} (xs : List A) (n : ℕ) (x : A) → nth xs n ≡ Some x → n ≤ length xs
  nth_in xs n x e = by (n == 0) refl e
    where
      back : (n m : ℕ) → (n == 0) ≡ false → n - 1 < m → n ≤ m
      back n m z l = grind (arith, nat_tests)

      by : (b : Bool) → (n == 0) ≡ b → cond b None (slice_get xs (n - 1)) ≡ Some x → n ≤ length xs
      by true z f = absurd (cc)
      by false z f = back n (length xs) z (slice_get_within xs (n - 1) x f)

  pub beside : (namespace : List ℕ) (items : List Item) (w : World) (l : Line) → IsNext script w l → WorldOk namespace items w → Base items w → Beside namespace items w
  beside namespace items w l n ok h = record {
    ok = ok;
    sessions = h.0;
    facts = h.1.0.facts;
    owners = h.1.1.0;
    fits = h.1.1.1;
    streams = (worlds_are_known n.before w (front n.before n.after l n.split) n.behind).streams;
    small = (let k = nth_in script (word w) l (next_word script w l n) in omega (arith, k, few));
  }

  lined : (w v : World) (items : List Item) → v.lines ≡ w.lines → AllTold items v (bound_of w + 1) → AllTold items (record v { lines = v.lines + 1 }) (bound_of (record v { lines = v.lines + 1 }))
  lined w v items e h =
      let same : bound_of w + 1 ≡ bound_of (record v { lines = v.lines + 1 }) = omega (arith, e) in
      record { names = h.names; opened = h.opened; places = λ p x at. subst (λ (b : ℕ). ProxyTold v.namespace v.leasing b items v.streams p x) same (h.places p x at) }

  no_stream : (number : ℕ) (s : OpenedStream) → nth [] number ≡ Some s → false ≡ true
  no_stream number s e = by (number == 0) e
    where
      by : (b : Bool) → cond b None (slice_get [] (number - 1)) ≡ Some s → false ≡ true
      by true f = absurd (cc)
      by false f = absurd (cc)

  pub all_kept : IsKept script AllKnown
  all_kept = record {
    begins = λ members namespace leasing. (
      (sessions.begins members namespace leasing, (heads.begins members namespace leasing, (owners_kept.begins members namespace leasing, fits_kept.begins members namespace leasing))),
      record { names = (members, [], refl); opened = λ number s e. absurd (let f = no_stream number s e in cc); places = λ p x e. no_place x e },
    );
    goes_on = λ namespace items w l gained n e ok h. (
      (sessions.goes_on namespace items w l gained n e ok h.0.0, (heads.goes_on namespace items w l gained n e ok h.0.1.0, (owners_kept.goes_on namespace items w l gained n e ok h.0.1.1.0, fits_kept.goes_on namespace items w l gained n e ok h.0.1.1.1))),
      lined w (done w l).world (items ++ gained) (taken_keeps w l gained e).lines (gain_told namespace items w (beside namespace items w l n ok h.0) h.1 (done w l).world gained (gain w l gained e)),
    );
  }

  all_told : IsTold script AllKnown Acquires
  all_told = record {
    first = λ members namespace leasing. tt;
    line = λ namespace items w l gained n e ok h. gain_items namespace items w (beside namespace items w l n ok h.0) h.1 (done w l).world gained (gain w l gained e);
  }

pub each_script_acquires : EachScriptAcquires
each_script_acquires lines fits few shown earlier later p call member ticket q a s z e f g n live =
    every_item AllKnown Acquires lines (all_kept lines fits few) (all_told lines fits few) shown earlier later (item.Sent p call member ticket q) e a s z f g n live
