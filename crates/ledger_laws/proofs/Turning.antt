-- What a step of a proxy does to what is known of its life.
use Rattle.std.proofs.Common.{◌≡◌, ◌⊎◌, inl, inr, ℕ, ◌+◌, ◌≤◌, ◌==◌, Bool, true, false, cond, ◌&&◌, ◌||◌, List, [], ◌∷◌, ◌++◌, length, Option, None, Some, Ok, refl, sym, ◌∙◌, ap, subst, arith}
use Rattle.std.specs.List.{list_all}
use Rattle.std.specs.BTreeSet.{BTreeSet}
use Rattle.std.proofs.lemmas.List.Folds.{list_any-append}
use Rattle.etcd_types.proofs.Bools.{or_either}
use Rattle.etcd_types.specs.declared.request.Request.{Request}
use Rattle.etcd_types.specs.declared.request.Request.TheVariants as request
use Rattle.etcd_types.specs.declared.request.WatchAsk.{WatchAsk}
use Rattle.etcd_types.specs.declared.watch.WatchItem.{WatchItem}
use Rattle.core_laws.specs.Watches.Laws.{AreWaiting}
use Rattle.core_laws.proofs.Steps.Lists.{number_itself}
use Rattle.core_laws.proofs.Watches.Runs.{steps_keep}
use Rattle.core_laws.proofs.Watches.Touches.{side, number_of, Touch}
use Rattle.core_model.specs.declared.event.CoreEvent.{CoreEvent}
use Rattle.core_model.specs.declared.event.CoreEvent.TheVariants as event
use Rattle.core_model.specs.declared.event.Outcome.{Outcome}
use Rattle.core_model.specs.State.{Core}
use Rattle.core_model.specs.Step.{stepped}
use Rattle.held_laws.proofs.Firm.{Firm, NewHas, touch_firm}
use Rattle.held_laws.proofs.Holding.{IsApart}
use Rattle.held_laws.proofs.Items.{asked-append, or_later}
use Rattle.held_laws.proofs.Kept.{kept_itself, kept_other, among_new, among_still}
use Rattle.held_laws.proofs.Opens.{nth_push, last_nth}
use Rattle.held_laws.proofs.Places.{counted_side, stepping}
use Rattle.held_laws.proofs.Worlds.{nth_changed, equal}
use Rattle.renewed_laws.proofs.Gains.{stepped_to}
use Rattle.renewed_laws.proofs.Lives.{Lives, life_on}
use Rattle.script_text.specs.declared.item.Item.{Item}
use Rattle.script_text.specs.declared.item.Item.TheVariants as item
use Rattle.watch_laws.proofs.Seating.{each_along}
use Rattle.watch_model.specs.Lookups.{stream_at}
use Rattle.watch_model.specs.State.{Watch}
use Rattle.watch_model.specs.Story.{EachWatch}
use Rattle.world_laws.proofs.Effects.{Turn, ticks, asks_it, posts_it, calls, opens, closes, answers, loses, delivers, cuts, takes, waits, leaves}
use Rattle.world_model.specs.declared.sent_call.SentCall.{SentCall}
use Rattle.world_model.specs.Gains.{Replies, line_if, taken_items}
use Rattle.world_model.specs.Lives.{life, asked_as, sent_it, opened_it}
use Rattle.world_model.specs.Places.{nth, with_nth, kept_at, with_kept, is_among, with_number, ended}
use Rattle.world_model.specs.Sends.{next_call, next_stream, new_call, new_stream, closed_in}
use Rattle.world_model.specs.State.{Place, OpenedStream, World}
use Rattle.audit_model.specs.Order.{gives_ticket, is_given_ticket, is_watch_of}
use Rattle.ledger_laws.proofs.Lives.{KeptAs, IsGone, WatchAsked, LifeSays, WasCall, WasStream, StreamsStay, was_itself, call_itself, stay_itself, stay_pushed, call_changed, stay_changed, were_changed, sent_more, sent_later, opened_more, opened_later, watch_more}
use Rattle.ledger_laws.proofs.Places.{closed_calls}
use Rattle.ledger_laws.proofs.Quiet.{is_aside, aside_quiet}
use Rattle.ledger_laws.proofs.Streaming.{NoneComes, touch_none, touch_apart, number_given, cut_is_gone, begun_given, closing_gone}

-- What a turn at the place `x` leaves: `d` is the proxy's core behind it, `z` the place.
pub record TurnFacts (items own : List Item) (sent after : List SentCall) (streams later : List OpenedStream) (p : ℕ) (x z : Place) (e : CoreEvent) (d : Core) : Type 0 where
  pub core : z.core ≡ d
  pub lived : z.life ≡ x.life
  pub grows : (t : ℕ) → is_among x.tickets t ≡ true → is_among z.tickets t ≡ true
  pub given : (t : ℕ) → is_given_ticket p t own ≡ true → is_among z.tickets t ≡ true
  pub sent_so : (n : ℕ) (c : SentCall) → nth after n ≡ Some c → WasCall sent n c ⊎ (sent_it p n own ≡ true)
  pub opened_so : (n : ℕ) (s : OpenedStream) → nth later n ≡ Some s → ((t : OpenedStream) × (nth streams n ≡ Some t) × (s.proxy ≡ t.proxy) × (s.life ≡ t.life)) ⊎ (opened_it p n own ≡ true)
  pub gone_so : (n : ℕ) (s : OpenedStream) → nth later n ≡ Some s → WasStream streams n s ⊎ IsGone d.watches s
  pub kept_so : (k n : ℕ) → kept_at z.streams k ≡ Some n → (kept_at x.streams k ≡ Some n) ⊎ KeptAs later p x.life k n
  pub stay : StreamsStay streams later
  pub asks : NewHas (WatchAsked p (life p items ++ own)) e

counted_apart : (x : Place) → IsApart (number_of x.core.leasing) x.core.watches → IsApart (number_of x.core.leasing) (counted_side x.core).broadcasts
counted_apart x = by (number_of x.core.leasing)
  where
    by : (l : Option ℕ) → IsApart l x.core.watches → IsApart l (counted_side x.core).broadcasts
    by None k = tt
    by (Some n) k = k

-- by the ticket of a watch alone
asked_firm : (p : ℕ) (told : List Item) → Firm (WatchAsked p told)
asked_firm p told = record { steady = record { placed = λ w q k. k; told = λ w h k. k; decided = λ w n e k. k; ahead = λ w n l k. k; ended = λ w h c k. k }; queued = λ w q k. k }

-- so its life goes on
pub turn_lives : (sent after : List SentCall) (streams later : List OpenedStream) (items own : List Item) (p : ℕ) (x z : Place) (e : CoreEvent) (o : Outcome) → (stepped x.core e x.clock).outcome ≡ Ok o → Lives p own
    → TurnFacts items own sent after streams later p x z e (stepped x.core e x.clock).core → LifeSays sent streams items p x → LifeSays after later (items ++ own) p z
turn_lives sent after streams later items own p x z e o out lives f h = record {
  tickets = λ t g. by_ticket t (or_either (is_given_ticket p t (life p items)) (is_given_ticket p t own) (sym (list_any-append (gives_ticket p t) (life p items) own) ∙ sym (ap (is_given_ticket p t) on) ∙ g));
  sent = λ n c g q l. ap (sent_it p n) on ∙ by_call n c q (l ∙ f.lived) (f.sent_so n c g);
  opened = λ n s g q l. ap (opened_it p n) on ∙ by_stream n s q (l ∙ f.lived) (f.opened_so n s g);
  kept = λ k n g. by_kept k n (f.kept_so k n g);
  gone = λ n s g q l. subst (λ (c : Core). IsGone c.watches s) (sym f.core) (by_gone n s q (l ∙ f.lived) (f.gone_so n s g));
  apart = subst (λ (c : Core). IsApart (number_of c.leasing) c.watches) (sym f.core) (touch_apart x.core.settings.namespace (counted_side x.core) (side d) e (Ok o) h.waiting.numbers touch (counted_apart x h.apart));
  waiting = subst (λ (c : Core). AreWaiting c.watches) (sym f.core) (steps_keep x.core e x.clock h.waiting);
  watches = subst (λ (c : Core). EachWatch (WatchAsked p (life p (items ++ own))) c.watches.watches) (sym f.core)
      (subst (λ (l : List Item). EachWatch (WatchAsked p l) d.watches.watches) (sym on)
      (touch_firm (WatchAsked p (life p items ++ own)) (asked_firm p (life p items ++ own)) x.core.settings.namespace (counted_side x.core) (side d) e (Ok o) f.asks touch
      (each_along (WatchAsked p (life p items)) (WatchAsked p (life p items ++ own)) (λ v k. watch_more p v.ticket (life p items) own k) x.core.watches.watches h.watches)));
}
  where
    d : Core
    d = (stepped x.core e x.clock).core

    touch : Touch x.core.settings.namespace (counted_side x.core) e (side d) (Ok o)
    touch = (stepping x.core.settings.namespace x.core e x.clock o refl out).touch

    none : NoneComes (counted_side x.core).broadcasts d.watches
    none = touch_none x.core.settings.namespace (counted_side x.core) (side d) e (Ok o) touch

    on : life p (items ++ own) ≡ life p items ++ own
    on = life_on p items own lives

    by_ticket : (t : ℕ) → (is_given_ticket p t (life p items) ≡ true) ⊎ (is_given_ticket p t own ≡ true) → is_among z.tickets t ≡ true
    by_ticket t (inl g) = f.grows t (h.tickets t g)
    by_ticket t (inr g) = f.given t g

    by_call : (n : ℕ) (c : SentCall) → c.proxy ≡ p → c.life ≡ x.life → WasCall sent n c ⊎ (sent_it p n own ≡ true) → sent_it p n (life p items ++ own) ≡ true
    by_call n c q l (inl w) = sent_more p n (life p items) own (h.sent n w.call w.there (sym w.proxy ∙ q) (sym w.lived ∙ l))
    by_call n c q l (inr g) = sent_later p n (life p items) own g

    by_stream : (n : ℕ) (s : OpenedStream) → s.proxy ≡ p → s.life ≡ x.life → ((t : OpenedStream) × (nth streams n ≡ Some t) × (s.proxy ≡ t.proxy) × (s.life ≡ t.life)) ⊎ (opened_it p n own ≡ true) → opened_it p n (life p items ++ own) ≡ true
    by_stream n s q l (inl w) = opened_more p n (life p items) own (h.opened n w.0 w.1 (sym w.2 ∙ q) (sym w.3 ∙ l))
    by_stream n s q l (inr g) = opened_later p n (life p items) own g

    by_kept : (k n : ℕ) → (kept_at x.streams k ≡ Some n) ⊎ KeptAs later p x.life k n → KeptAs later p z.life k n
    by_kept k n (inl g) =
        let a = h.kept k n g in
        let w = f.stay n a.stream a.there in
        record { stream = w.stream; there = w.there; proxy = w.proxy ∙ a.proxy; lived = w.lived ∙ a.lived ∙ sym f.lived; number = w.number ∙ a.number }
    by_kept k n (inr a) = record { stream = a.stream; there = a.there; proxy = a.proxy; lived = a.lived ∙ sym f.lived; number = a.number }

    by_gone : (n : ℕ) (s : OpenedStream) → s.proxy ≡ p → s.life ≡ x.life → WasStream streams n s ⊎ IsGone d.watches s → IsGone d.watches s
    by_gone n s q l (inr g) = g
    by_gone n s q l (inl w) =
        let g = h.gone n w.stream w.there (sym w.proxy ∙ q) (sym w.lived ∙ l) in
        let up = none.given in
        let le = g.given in
        let same = w.number in
        record { given = omega (arith, le, up, same); none = λ t. ap (λ (m : ℕ). stream_at m d.watches.streams) same ∙ none.none w.stream.own le (g.none (w.ends t)) }

-- ---- the turns

-- no call or stream of the world changes, and no ticket is given
quiet_facts : (items own : List Item) (w : World) (p : ℕ) (x z : Place) (e : CoreEvent) (d : Core) → z.core ≡ d → z.life ≡ x.life → z.tickets ≡ x.tickets → z.streams ≡ x.streams → list_all is_aside own ≡ true
    → NewHas (WatchAsked p (life p items ++ own)) e → TurnFacts items own w.calls w.calls w.streams w.streams p x z e d
quiet_facts items own w p x z e d core lived tickets kept aside asks = record {
  core = core;
  lived = lived;
  grows = λ t g. ap (λ (ts : BTreeSet ℕ). is_among ts t) tickets ∙ g;
  given = λ t g. absurd (let no_way : true ≡ false = sym g ∙ (aside_quiet p own aside).given t in cc);
  sent_so = λ n c g. inl (call_itself w.calls n c g);
  opened_so = λ n s g. inl (s, g, refl, refl);
  gone_so = λ n s g. inl (was_itself w.streams n s g);
  kept_so = λ k n g. inl (sym (ap (λ m. kept_at m k) kept) ∙ g);
  stay = stay_itself w.streams;
  asks = asks;
}

-- a ticket is given
pub given_new : (ts : BTreeSet ℕ) (p ticket t : ℕ) (b : Bool) → ((p == p) && (ticket == t)) || b ≡ true → (b ≡ true → is_among (with_number ts ticket) t ≡ true) → is_among (with_number ts ticket) t ≡ true
given_new ts p ticket t b g later = by (ticket == t) refl (sym (ap (λ c. (c && (ticket == t)) || b) (number_itself p)) ∙ g)
  where
    by : (c : Bool) → (ticket == t) ≡ c → (c || b) ≡ true → is_among (with_number ts ticket) t ≡ true
    by true q g = subst (λ (n : ℕ). is_among (with_number ts ticket) n ≡ true) (equal ticket t q) (among_new ts ticket)
    by false q g = later g

-- a watch that is asked, where the ticket wasn't given
new_asked : (p ticket : ℕ) (told : List Item) (q : Request) (ask : WatchAsk) → asked_as p ticket told ≡ None → q ≡ request.Watch ask → is_watch_of (or_later (asked_as p ticket told) (cond ((p == p) && (ticket == ticket)) (Some q) None)) ≡ true
new_asked p ticket told q ask none e =
    ap (λ (r : Option Request). is_watch_of (or_later r (cond ((p == p) && (ticket == ticket)) (Some q) None))) none
    ∙ ap (λ b. is_watch_of (cond (b && (ticket == ticket)) (Some q) None)) (number_itself p) ∙ ap (λ b. is_watch_of (cond b (Some q) None)) (number_itself ticket)
    ∙ ap (λ (r : Request). is_watch_of (Some r)) e

asked_facts : (items own : List Item) (w : World) (p ticket : ℕ) (q : Request) (word : ℕ) (x z : Place) (d : Core) → z.core ≡ d → z.life ≡ x.life → z.tickets ≡ with_number x.tickets ticket → z.streams ≡ x.streams
    → ((t : ℕ) → is_given_ticket p t own ≡ true → is_among (with_number x.tickets ticket) t ≡ true) → asked_as p ticket own ≡ cond ((p == p) && (ticket == ticket)) (Some q) None → asked_as p ticket (life p items) ≡ None
    → TurnFacts items own w.calls w.calls w.streams w.streams p x z (event.Ask ticket q word) d
asked_facts items own w p ticket q word x z d core lived tickets kept given asked none = record {
  core = core;
  lived = lived;
  grows = λ t g. ap (λ (ts : BTreeSet ℕ). is_among ts t) tickets ∙ among_still x.tickets ticket t g;
  given = λ t g. ap (λ (ts : BTreeSet ℕ). is_among ts t) tickets ∙ given t g;
  sent_so = λ n c g. inl (call_itself w.calls n c g);
  opened_so = λ n s g. inl (s, g, refl, refl);
  gone_so = λ n s g. inl (was_itself w.streams n s g);
  kept_so = λ k n g. inl (sym (ap (λ m. kept_at m k) kept) ∙ g);
  stay = stay_itself w.streams;
  asks = λ ask same. ap is_watch_of (asked-append p ticket (life p items) own ∙ ap (or_later (asked_as p ticket (life p items))) asked) ∙ new_asked p ticket (life p items) q ask none same;
}

some_one : {A : Type 0} (a b : A) → Some a ≡ Some b → a ≡ b
some_one a b e = cc

or_no : (b : Bool) → b ≡ true → b || false ≡ true
or_no true e = refl
or_no false e = absurd (cc)

-- the calls of the world change in what no life sees
settled_facts : (items own : List Item) (w : World) (p number : ℕ) (call next : SentCall) (x z : Place) (e : CoreEvent) (d : Core) → z.core ≡ d → z.life ≡ x.life → z.tickets ≡ x.tickets → z.streams ≡ x.streams → list_all is_aside own ≡ true
    → NewHas (WatchAsked p (life p items ++ own)) e → nth w.calls number ≡ Some call → next.proxy ≡ call.proxy → next.life ≡ call.life → TurnFacts items own w.calls (with_nth w.calls number next) w.streams w.streams p x z e d
settled_facts items own w p number call next x z e d core lived tickets kept aside asks at proxy life_is =
    let q = quiet_facts items own w p x z e d core lived tickets kept aside asks in
    record { core = q.core; lived = q.lived; grows = q.grows; given = q.given; sent_so = λ n c g. inl (call_changed w.calls number call next at proxy life_is n c g); opened_so = q.opened_so; gone_so = q.gone_so; kept_so = q.kept_so; stay = q.stay; asks = q.asks }

-- one of its streams ends
ended_facts : (items own : List Item) (w : World) (p number : ℕ) (s : OpenedStream) (x z : Place) (e : CoreEvent) (d : Core) → z.core ≡ d → z.life ≡ x.life → z.tickets ≡ x.tickets → z.streams ≡ x.streams → list_all is_aside own ≡ true
    → NewHas (WatchAsked p (life p items ++ own)) e → nth w.streams number ≡ Some s → IsGone d.watches (ended s) → TurnFacts items own w.calls w.calls w.streams (with_nth w.streams number (ended s)) p x z e d
ended_facts items own w p number s x z e d core lived tickets kept aside asks at gone =
    let q = quiet_facts items own w p x z e d core lived tickets kept aside asks in record {
      core = q.core;
      lived = q.lived;
      grows = q.grows;
      given = q.given;
      sent_so = q.sent_so;
      opened_so = λ n u g. elim (nth_changed w.streams number n s (ended s) u at g) [
        | inl h ↦ inl (s, ap (nth w.streams) h.0 ∙ at, sym (ap (λ (y : OpenedStream). y.proxy) h.1), sym (ap (λ (y : OpenedStream). y.life) h.1))
        | inr h ↦ inl (u, h.1, refl, refl)
      ];
      gone_so = λ n u g. elim (nth_changed w.streams number n s (ended s) u at g) [
        | inl h ↦ inr (subst (IsGone d.watches) h.1 gone)
        | inr h ↦ inl (was_itself w.streams n u h.1)
      ];
      kept_so = λ k n g. inl (sym (ap (λ m. kept_at m k) kept) ∙ g);
      stay = stay_changed w.streams number s (ended s) at refl refl refl;
      asks = q.asks;
    }

-- a message of one is delivered
moved_facts : (items own : List Item) (w : World) (p number : ℕ) (s t : OpenedStream) (x z : Place) (e : CoreEvent) (d : Core) → z.core ≡ d → z.life ≡ x.life → z.tickets ≡ x.tickets → z.streams ≡ x.streams → list_all is_aside own ≡ true
    → NewHas (WatchAsked p (life p items ++ own)) e → nth w.streams number ≡ Some s → t.proxy ≡ s.proxy → t.life ≡ s.life → t.own ≡ s.own → (t.ended ≡ true → s.ended ≡ true)
    → TurnFacts items own w.calls w.calls w.streams (with_nth w.streams number t) p x z e d
moved_facts items own w p number s t x z e d core lived tickets kept aside asks at proxy life_is own_is ends =
    let q = quiet_facts items own w p x z e d core lived tickets kept aside asks in
    let were = were_changed w.streams number s t at proxy life_is own_is ends in record {
      core = q.core;
      lived = q.lived;
      grows = q.grows;
      given = q.given;
      sent_so = q.sent_so;
      opened_so = λ n u g. let k = were n u g in inl (k.stream, k.there, k.proxy, k.lived);
      gone_so = λ n u g. inl (were n u g);
      kept_so = λ k n g. inl (sym (ap (λ m. kept_at m k) kept) ∙ g);
      stay = stay_changed w.streams number s t at proxy life_is own_is;
      asks = q.asks;
    }

-- a call is sent
call_facts : (items : List Item) (w : World) (p own member ticket : ℕ) (q : Request) (x z : Place) (d : Core) → z.core ≡ d → z.life ≡ x.life → z.tickets ≡ x.tickets → z.streams ≡ x.streams
    → (new : SentCall) → TurnFacts items (item.Sent p (next_call w) member ticket q ∷ []) w.calls (w.calls ++ new ∷ []) w.streams w.streams p x z event.Work d
call_facts items w p own member ticket q x z d core lived tickets kept new =
    let f = quiet_facts items (item.Sent p (next_call w) member ticket q ∷ []) w p x z event.Work d core lived tickets kept refl tt in
    record { core = f.core; lived = f.lived; grows = f.grows; given = f.given; sent_so = λ n c g. by n c (nth_push w.calls new n c g); opened_so = f.opened_so; gone_so = f.gone_so; kept_so = f.kept_so; stay = f.stay; asks = tt }
  where
    by : (n : ℕ) (c : SentCall) → (nth w.calls n ≡ Some c) ⊎ ((n ≡ length w.calls + 1) × (new ≡ c)) → WasCall w.calls n c ⊎ (sent_it p n (item.Sent p (next_call w) member ticket q ∷ []) ≡ true)
    by n c (inl g) = inl (call_itself w.calls n c g)
    by n c (inr g) = inr (or_no ((p == p) && (next_call w == n)) (ap (λ b. b && (next_call w == n)) (number_itself p) ∙ ap (λ (k : ℕ). next_call w == k) g.0 ∙ number_itself (next_call w)))

-- a stream is opened
open_facts : (items : List Item) (w : World) (p own member : ℕ) (ask : WatchAsk) (x z : Place) (d : Core) → z.core ≡ d → z.life ≡ x.life → z.tickets ≡ x.tickets → z.streams ≡ with_kept x.streams own (next_stream w)
    → (new : OpenedStream) → new.proxy ≡ p → new.life ≡ x.life → new.own ≡ own → new.ended ≡ false → own ≤ d.watches.given
    → TurnFacts items (item.Opened p (next_stream w) member (request.Watch ask) ∷ []) w.calls w.calls w.streams (w.streams ++ new ∷ []) p x z event.Work d
open_facts items w p own member ask x z d core lived tickets kept new proxy life_is own_is unended given = record {
  core = core;
  lived = lived;
  grows = λ t g. ap (λ (ts : BTreeSet ℕ). is_among ts t) tickets ∙ g;
  given = λ t g. absurd (cc);
  sent_so = λ n c g. inl (call_itself w.calls n c g);
  opened_so = λ n s g. by_open n s (nth_push w.streams new n s g);
  gone_so = λ n s g. by_gone n s (nth_push w.streams new n s g);
  kept_so = λ k n g. by_kept k n (k == own) refl (sym (ap (λ m. kept_at m k) kept) ∙ g);
  stay = stay_pushed w.streams new;
  asks = tt;
}
  where
    by_open : (n : ℕ) (s : OpenedStream) → (nth w.streams n ≡ Some s) ⊎ ((n ≡ length w.streams + 1) × (new ≡ s))
        → ((t : OpenedStream) × (nth w.streams n ≡ Some t) × (s.proxy ≡ t.proxy) × (s.life ≡ t.life)) ⊎ (opened_it p n (item.Opened p (next_stream w) member (request.Watch ask) ∷ []) ≡ true)
    by_open n s (inl g) = inl (s, g, refl, refl)
    by_open n s (inr g) = inr (or_no ((p == p) && (next_stream w == n)) (ap (λ b. b && (next_stream w == n)) (number_itself p) ∙ ap (λ (k : ℕ). next_stream w == k) g.0 ∙ number_itself (next_stream w)))

    by_gone : (n : ℕ) (s : OpenedStream) → (nth w.streams n ≡ Some s) ⊎ ((n ≡ length w.streams + 1) × (new ≡ s)) → WasStream w.streams n s ⊎ IsGone d.watches s
    by_gone n s (inl g) = inl (was_itself w.streams n s g)
    by_gone n s (inr g) = inr (subst (IsGone d.watches) g.1 (record { given = omega (arith, given, own_is); none = λ t. absurd (let no_way : true ≡ false = sym t ∙ unended in cc) }))

    by_kept : (k n : ℕ) (b : Bool) → (k == own) ≡ b → kept_at (with_kept x.streams own (next_stream w)) k ≡ Some n → (kept_at x.streams k ≡ Some n) ⊎ KeptAs (w.streams ++ new ∷ []) p x.life k n
    by_kept k n true q g =
        let here : next_stream w ≡ n = some_one (next_stream w) n (sym (kept_itself x.streams own (next_stream w)) ∙ ap (kept_at (with_kept x.streams own (next_stream w))) (sym (equal k own q)) ∙ g) in
        inr (record { stream = new; there = ap (nth (w.streams ++ new ∷ [])) (sym here) ∙ last_nth w.streams new; proxy = proxy; lived = life_is; number = own_is ∙ sym (equal k own q) })
    by_kept k n false q g = inl (sym (kept_other x.streams k own (next_stream w) q) ∙ g)

-- ---- by the turn

taken_aside : (p : ℕ) (posted : BTreeSet ℕ) (ticket : ℕ) (i : WatchItem) → list_all is_aside (taken_items p posted ticket i) ≡ true
taken_aside p posted ticket i = by (is_among posted ticket)
  where
    by : (b : Bool) → list_all is_aside (item.Taken p ticket i ∷ line_if b p ticket i) ≡ true
    by true = refl
    by false = refl

pub turn_facts : (items : List Item) (w : World) (p : ℕ) (x : Place) (e : CoreEvent) (o : Outcome) (v : World) (z : Place) (own : List Item) (told : Replies) → ((t : ℕ) → is_among x.tickets t ≡ false → asked_as p t (life p items) ≡ None)
    → (stepped x.core e x.clock).outcome ≡ Ok o → LifeSays w.calls w.streams items p x → Turn w p (stepped_to x e) e o v z own told → TurnFacts items own w.calls v.calls w.streams v.streams p x z e (stepped x.core e x.clock).core
turn_facts items w p x _ _ _ _ _ _ free out h (ticks o) = quiet_facts items _ w p x _ _ _ refl refl refl refl refl tt
turn_facts items w p x _ _ _ _ _ _ free out h (asks_it ticket q o u) =
    asked_facts items (item.Asked p ticket q ∷ []) w p ticket q _ x _ _ refl refl refl refl (λ t g. given_new x.tickets p ticket t false g (λ e. absurd (cc))) refl (free ticket u)
turn_facts items w p x _ _ _ _ _ _ free out h (posts_it ticket path body q o u) =
    asked_facts items (item.Posted p ticket path body ∷ item.Asked p ticket q ∷ []) w p ticket q _ x _ _ refl refl refl refl
    (λ t g. given_new x.tickets p ticket t (((p == p) && (ticket == t)) || false) g (λ e. given_new x.tickets p ticket t false e (λ e. absurd (cc)))) refl (free ticket u)
turn_facts items w p x _ _ _ _ _ _ free out h (calls own member ticket q) = call_facts items w p own member ticket q x _ _ refl refl refl refl (new_call p (stepped_to x event.Work) own member q)
turn_facts items w p x _ _ _ _ _ _ free out h (opens own member ask) =
    let touch = (stepping x.core.settings.namespace x.core event.Work x.clock _ refl out).touch in
    let a = counted_side x.core in
    let low = begun_given x.core.settings.namespace a (side (stepped x.core event.Work x.clock).core) own member (request.Watch ask) _ refl h.waiting.numbers (counted_apart x h.apart) touch in
    let up = (touch_none x.core.settings.namespace a (side (stepped x.core event.Work x.clock).core) event.Work _ touch).given in
    open_facts items w p own member ask x _ _ refl refl refl refl (new_stream p (stepped_to x event.Work) own) refl refl refl refl (omega (arith, low, up))
turn_facts items w p x _ _ _ _ _ _ free out h (closes own number e) =
    let touch = (stepping x.core.settings.namespace x.core event.Work x.clock _ refl out).touch in
    let a = counted_side x.core in
    let d = (stepped x.core event.Work x.clock).core in
    let k = h.kept own number e in
    let c = closing_gone x.core.settings.namespace a (side d) own _ refl h.waiting.numbers touch in
    let low = number_given a.broadcasts own c.stream h.waiting.numbers c.there in
    let up = (touch_none x.core.settings.namespace a (side d) event.Work _ touch).given in
    let same = k.number in
    let gone : IsGone d.watches (ended k.stream) = record { given = omega (arith, low, up, same); none = λ t. ap (λ (n : ℕ). stream_at n d.watches.streams) same ∙ c.gone } in
    let f = ended_facts items (item.Closed p number ∷ []) w p number k.stream x (stepped_to x event.Work) event.Work d refl refl refl refl refl tt k.there gone in
    subst (λ (cs : List SentCall). TurnFacts items (item.Closed p number ∷ []) w.calls cs w.streams (closed_in w number (nth w.streams number)).streams p x (stepped_to x event.Work) event.Work d) (sym (closed_calls w number (nth w.streams number)))
    (subst (λ (ss : List OpenedStream). TurnFacts items (item.Closed p number ∷ []) w.calls w.calls w.streams ss p x (stepped_to x event.Work) event.Work d) (sym (ap (λ (o : Option OpenedStream). (closed_in w number o).streams) k.there)) f)
turn_facts items w p x _ _ _ _ _ _ free out h (answers number call a o e f) = settled_facts items _ w p number call (record call { settled = true }) x _ _ _ refl refl refl refl refl tt e refl refl
turn_facts items w p x _ _ _ _ _ _ free out h (loses number call o e) = settled_facts items _ w p number call (record call { settled = true }) x _ _ _ refl refl refl refl refl tt e refl refl
turn_facts items w p x _ _ _ _ _ _ free out h (delivers number s i rest o a b c f g) = moved_facts items _ w p number s (record s { waiting = rest }) x _ _ _ refl refl refl refl refl tt a refl refl refl (λ e. e)
turn_facts items w p x _ _ _ _ _ _ free out h (cuts number s o a b c f) =
    let touch = (stepping x.core.settings.namespace x.core (event.Cut s.own) x.clock o refl out).touch in
    let d = (stepped x.core (event.Cut s.own) x.clock).core in
    let low = (h.gone number s a b f).given in
    let up = (touch_none x.core.settings.namespace (counted_side x.core) (side d) (event.Cut s.own) (Ok o) touch).given in
    let none = cut_is_gone x.core.settings.namespace (counted_side x.core) (side d) s.own o h.waiting.numbers (counted_apart x h.apart) touch in
    ended_facts items (item.Cut number ∷ []) w p number s x (stepped_to x (event.Cut s.own)) (event.Cut s.own) d refl refl refl refl refl tt a (record { given = omega (arith, low, up); none = λ t. none })
turn_facts items w p x _ _ _ _ _ _ free out h (takes ticket i) = quiet_facts items (taken_items p x.posted ticket i) w p x _ _ _ refl refl refl refl (taken_aside p x.posted ticket i) tt
turn_facts items w p x _ _ _ _ _ _ free out h (waits ticket o u) = quiet_facts items _ w p x _ _ _ refl refl refl refl refl tt
turn_facts items w p x _ _ _ _ _ _ free out h (leaves ticket o) = quiet_facts items _ w p x _ _ _ refl refl refl refl refl tt
