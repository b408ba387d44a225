-- Of each proxy's life: which tickets were given in it, which calls and streams are of it, and what the proxy knows of these.
use Rattle.std.proofs.Common.{◌≡◌, ◌⊎◌, inl, inr, ℕ, ◌+◌, ◌≤◌, ◌==◌, Bool, true, false, List, [], ◌∷◌, ◌++◌, Option, None, Some, refl, sym, ◌∙◌, ap, subst, arith}
use Rattle.std.proofs.lemmas.Bool.Decides.{nat_tests}
use Rattle.std.specs.BTreeSet.{BTreeSet}
use Rattle.std.proofs.lemmas.List.Folds.{list_any-append}
use Rattle.etcd_types.proofs.Bools.{or_either, or_left, or_right}
use Rattle.etcd_types.specs.declared.request.Request.{Request}
use Rattle.core_laws.specs.Watches.Laws.{AreWaiting}
use Rattle.core_laws.proofs.Watches.Touches.{Side, side, number_of, with_step, Aged}
use Rattle.held_laws.proofs.Holding.{IsApart}
use Rattle.held_laws.proofs.Items.{asked_still}
use Rattle.held_laws.proofs.Kept.{nth_itself, nth_other}
use Rattle.held_laws.proofs.Worlds.{nth_changed}
use Rattle.renewed_laws.proofs.Lives.{Lives, life_on}
use Rattle.script_text.specs.declared.item.Item.{Item}
use Rattle.session_laws.proofs.Lists.{nth_front}
use Rattle.watch_model.specs.Lookups.{stream_at}
use Rattle.watch_model.specs.State.{Watch, Broadcasts}
use Rattle.watch_model.specs.Story.{EachWatch}
use Rattle.watch_laws.proofs.Seating.{each_along}
use Rattle.world_model.specs.declared.sent_call.SentCall.{SentCall}
use Rattle.world_model.specs.Lives.{life, asked_as, is_call_of, sent_it, is_stream_of, opened_it}
use Rattle.world_model.specs.Places.{nth, with_nth, kept_at, is_among}
use Rattle.world_model.specs.State.{Place, OpenedStream}
use Rattle.audit_model.specs.Order.{gives_ticket, is_given_ticket, is_watch_of}

-- the proxy's own number of a stream of this life
pub record KeptAs (streams : List OpenedStream) (p life own n : ℕ) : Type 0 where
  pub stream : OpenedStream
  pub there : nth streams n ≡ Some stream
  pub proxy : stream.proxy ≡ p
  pub lived : stream.life ≡ life
  pub number : stream.own ≡ own

-- its number was given, and where it has ended the proxy has none of this number
pub record IsGone (b : Broadcasts) (s : OpenedStream) : Type 0 where
  pub given : s.own ≤ b.given
  pub none : s.ended ≡ true → stream_at s.own b.streams ≡ None

-- it was asked as a watch
abbrev pub WatchAsked : ℕ → List Item → Watch → Type 0
WatchAsked p told v = is_watch_of (asked_as p v.ticket told) ≡ true

pub record LifeSays (calls : List SentCall) (streams : List OpenedStream) (items : List Item) (p : ℕ) (x : Place) : Type 0 where
  pub tickets : (t : ℕ) → is_given_ticket p t (life p items) ≡ true → is_among x.tickets t ≡ true
  pub sent : (n : ℕ) (c : SentCall) → nth calls n ≡ Some c → c.proxy ≡ p → c.life ≡ x.life → sent_it p n (life p items) ≡ true
  pub opened : (n : ℕ) (s : OpenedStream) → nth streams n ≡ Some s → s.proxy ≡ p → s.life ≡ x.life → opened_it p n (life p items) ≡ true
  pub kept : (own n : ℕ) → kept_at x.streams own ≡ Some n → KeptAs streams p x.life own n
  pub gone : (n : ℕ) (s : OpenedStream) → nth streams n ≡ Some s → s.proxy ≡ p → s.life ≡ x.life → IsGone x.core.watches s
  pub apart : IsApart (number_of x.core.leasing) x.core.watches
  pub waiting : AreWaiting x.core.watches
  pub watches : EachWatch (WatchAsked p (life p items)) x.core.watches.watches

-- ---- calls and streams that stay

-- as far as a life goes
pub record WasCall (calls : List SentCall) (n : ℕ) (c : SentCall) : Type 0 where
  pub call : SentCall
  pub there : nth calls n ≡ Some call
  pub proxy : c.proxy ≡ call.proxy
  pub lived : c.life ≡ call.life

pub record WasStream (streams : List OpenedStream) (n : ℕ) (s : OpenedStream) : Type 0 where
  pub stream : OpenedStream
  pub there : nth streams n ≡ Some stream
  pub proxy : s.proxy ≡ stream.proxy
  pub lived : s.life ≡ stream.life
  pub number : s.own ≡ stream.own
  pub ends : s.ended ≡ true → stream.ended ≡ true

-- it still stands under its number
pub record StaysStream (streams : List OpenedStream) (n : ℕ) (s : OpenedStream) : Type 0 where
  pub stream : OpenedStream
  pub there : nth streams n ≡ Some stream
  pub proxy : stream.proxy ≡ s.proxy
  pub lived : stream.life ≡ s.life
  pub number : stream.own ≡ s.own

abbrev pub StreamsStay : List OpenedStream → List OpenedStream → Type 0
StreamsStay streams after = (n : ℕ) (s : OpenedStream) → nth streams n ≡ Some s → StaysStream after n s

-- of those of one proxy
pub record Beside (q : ℕ) (calls after : List SentCall) (streams later : List OpenedStream) : Type 0 where
  pub calls_were : (n : ℕ) (c : SentCall) → nth after n ≡ Some c → c.proxy ≡ q → WasCall calls n c
  pub streams_were : (n : ℕ) (s : OpenedStream) → nth later n ≡ Some s → s.proxy ≡ q → WasStream streams n s
  pub stay : StreamsStay streams later

pub was_itself : (streams : List OpenedStream) (n : ℕ) (s : OpenedStream) → nth streams n ≡ Some s → WasStream streams n s
was_itself streams n s e = record { stream = s; there = e; proxy = refl; lived = refl; number = refl; ends = λ t. t }

pub call_itself : (calls : List SentCall) (n : ℕ) (c : SentCall) → nth calls n ≡ Some c → WasCall calls n c
call_itself calls n c e = record { call = c; there = e; proxy = refl; lived = refl }

pub stay_itself : (streams : List OpenedStream) → StreamsStay streams streams
stay_itself streams n s e = record { stream = s; there = e; proxy = refl; lived = refl; number = refl }

pub stay_pushed : (streams : List OpenedStream) (new : OpenedStream) → StreamsStay streams (streams ++ new ∷ [])
stay_pushed streams new n s e = record { stream = s; there = nth_front streams new n s e; proxy = refl; lived = refl; number = refl }

pub beside_itself : (q : ℕ) (calls : List SentCall) (streams : List OpenedStream) → Beside q calls calls streams streams
beside_itself q calls streams = record { calls_were = λ n c e f. call_itself calls n c e; streams_were = λ n s e f. was_itself streams n s e; stay = stay_itself streams }

-- one call is changed in what no life sees
pub call_changed : (calls : List SentCall) (number : ℕ) (call next : SentCall) → nth calls number ≡ Some call → next.proxy ≡ call.proxy → next.life ≡ call.life → (n : ℕ) (c : SentCall) → nth (with_nth calls number next) n ≡ Some c → WasCall calls n c
call_changed calls number call next at proxy lived n c e = elim (nth_changed calls number n call next c at e) [
  | inl h ↦ record { call = call; there = ap (nth calls) h.0 ∙ at; proxy = sym (ap (λ (d : SentCall). d.proxy) h.1) ∙ proxy; lived = sym (ap (λ (d : SentCall). d.life) h.1) ∙ lived }
  | inr h ↦ call_itself calls n c h.1
]

-- one stream is
pub stay_changed : (streams : List OpenedStream) (number : ℕ) (s t : OpenedStream) → nth streams number ≡ Some s → t.proxy ≡ s.proxy → t.life ≡ s.life → t.own ≡ s.own → StreamsStay streams (with_nth streams number t)
stay_changed streams number s t at proxy lived own n u e = by (n == number) refl
  where
    one : (x y : OpenedStream) → Some x ≡ Some y → x ≡ y
    one x y e = cc

    equal : (a b : ℕ) → (a == b) ≡ true → a ≡ b
    equal a b e = grind (arith, nat_tests)

    by : (b : Bool) → (n == number) ≡ b → StaysStream (with_nth streams number t) n u
    by true d =
        let here = equal n number d in
        let same : s ≡ u = one s u (sym at ∙ ap (nth streams) (sym here) ∙ e) in record {
          stream = t;
          there = ap (nth (with_nth streams number t)) here ∙ nth_itself streams number s t at;
          proxy = proxy ∙ ap (λ (x : OpenedStream). x.proxy) same;
          lived = lived ∙ ap (λ (x : OpenedStream). x.life) same;
          number = own ∙ ap (λ (x : OpenedStream). x.own) same;
        }
    by false d = record { stream = u; there = nth_other streams number n s t at d ∙ e; proxy = refl; lived = refl; number = refl }

pub were_changed : (streams : List OpenedStream) (number : ℕ) (s t : OpenedStream) → nth streams number ≡ Some s → t.proxy ≡ s.proxy → t.life ≡ s.life → t.own ≡ s.own → (t.ended ≡ true → s.ended ≡ true)
    → (n : ℕ) (u : OpenedStream) → nth (with_nth streams number t) n ≡ Some u → WasStream streams n u
were_changed streams number s t at proxy lived own ends n u e = elim (nth_changed streams number n s t u at e) [
  | inl h ↦ record {
    stream = s;
    there = ap (nth streams) h.0 ∙ at;
    proxy = sym (ap (λ (x : OpenedStream). x.proxy) h.1) ∙ proxy;
    lived = sym (ap (λ (x : OpenedStream). x.life) h.1) ∙ lived;
    number = sym (ap (λ (x : OpenedStream). x.own) h.1) ∙ own;
    ends = λ f. ends (ap (λ (x : OpenedStream). x.ended) h.1 ∙ f);
  }
  | inr h ↦ was_itself streams n u h.1
]

-- ---- what more items leave

pub sent_more : (p n : ℕ) (items more : List Item) → sent_it p n items ≡ true → sent_it p n (items ++ more) ≡ true
sent_more p n items more e = list_any-append (is_call_of p n) items more ∙ or_left (sent_it p n items) (sent_it p n more) e

pub sent_later : (p n : ℕ) (items more : List Item) → sent_it p n more ≡ true → sent_it p n (items ++ more) ≡ true
sent_later p n items more e = list_any-append (is_call_of p n) items more ∙ or_right (sent_it p n items) (sent_it p n more) e

pub opened_more : (p n : ℕ) (items more : List Item) → opened_it p n items ≡ true → opened_it p n (items ++ more) ≡ true
opened_more p n items more e = list_any-append (is_stream_of p n) items more ∙ or_left (opened_it p n items) (opened_it p n more) e

pub opened_later : (p n : ℕ) (items more : List Item) → opened_it p n more ≡ true → opened_it p n (items ++ more) ≡ true
opened_later p n items more e = list_any-append (is_stream_of p n) items more ∙ or_right (opened_it p n items) (opened_it p n more) e

pub watch_more : (p t : ℕ) (items more : List Item) → is_watch_of (asked_as p t items) ≡ true → is_watch_of (asked_as p t (items ++ more)) ≡ true
watch_more p t items more e = by (asked_as p t items) refl e
  where
    by : (o : Option Request) → asked_as p t items ≡ o → is_watch_of o ≡ true → is_watch_of (asked_as p t (items ++ more)) ≡ true
    by None f w = absurd (cc)
    by (Some r) f w = ap is_watch_of (asked_still p t items more r f) ∙ w

aged_gone : (a b : Side) (s : OpenedStream) → Aged a b → IsGone a.broadcasts s → IsGone b.broadcasts s
aged_gone a b s h k = subst (λ (c : Side). IsGone c.broadcasts s) (sym h.1) (record { given = k.given; none = k.none })

aged_apart : (a b : Side) → Aged a b → IsApart a.leasing a.broadcasts → IsApart b.leasing b.broadcasts
aged_apart a b h k = subst (λ (c : Side). IsApart c.leasing c.broadcasts) (sym h.1) (by a.leasing k)
  where
    by : (l : Option ℕ) → IsApart l a.broadcasts → IsApart l (with_step a.broadcasts h.0)
    by None k = tt
    by (Some n) k = k

aged_waiting : (a b : Side) → Aged a b → AreWaiting a.broadcasts → AreWaiting b.broadcasts
aged_waiting a b h k = subst (λ (c : Side). AreWaiting c.broadcasts) (sym h.1) (record { numbers = k.numbers; watches = k.watches })

aged_watches : (P : Watch → Type 0) (a b : Side) → Aged a b → EachWatch P a.broadcasts.watches → EachWatch P b.broadcasts.watches
aged_watches P a b h k = subst (λ (c : Side). EachWatch P c.broadcasts.watches) (sym h.1) k

-- the place as far as this goes
pub record SamePlace (x y : Place) : Type 0 where
  pub lived : y.life ≡ x.life
  pub streams : y.streams ≡ x.streams
  pub aged : Aged (side x.core) (side y.core)

-- the tickets that were given, or are by these items
pub given_either : (items more : List Item) (p : ℕ) (P : Type 0) (t : ℕ) → Lives p more → (is_given_ticket p t (life p items) ≡ true → P) → (is_given_ticket p t more ≡ true → P) → is_given_ticket p t (life p (items ++ more)) ≡ true → P
given_either items more p P t lives f g e =
    by (or_either (is_given_ticket p t (life p items)) (is_given_ticket p t more) (sym (list_any-append (gives_ticket p t) (life p items) more) ∙ sym (ap (is_given_ticket p t) (life_on p items more lives)) ∙ e))
  where
    by : (is_given_ticket p t (life p items) ≡ true) ⊎ (is_given_ticket p t more ≡ true) → P
    by (inl a) = f a
    by (inr a) = g a

-- items that start nothing
pub life_later : (calls after : List SentCall) (streams later : List OpenedStream) (items more : List Item) (p : ℕ) (x y : Place) → Lives p more
    → ((t : ℕ) → is_given_ticket p t (life p (items ++ more)) ≡ true → is_among y.tickets t ≡ true) → Beside p calls after streams later → SamePlace x y → LifeSays calls streams items p x → LifeSays after later (items ++ more) p y
life_later calls after streams later items more p x y lives tickets b s h = record {
  tickets = tickets;
  sent = λ n c e q l. let w = b.calls_were n c e q in
      ap (sent_it p n) on ∙ sent_more p n (life p items) more (h.sent n w.call w.there (sym w.proxy ∙ q) (sym w.lived ∙ l ∙ s.lived));
  opened = λ n u e q l. let w = b.streams_were n u e q in
      ap (opened_it p n) on ∙ opened_more p n (life p items) more (h.opened n w.stream w.there (sym w.proxy ∙ q) (sym w.lived ∙ l ∙ s.lived));
  kept = λ own n e. let k = h.kept own n (sym (ap (λ m. kept_at m own) s.streams) ∙ e) in let w = b.stay n k.stream k.there in
      record { stream = w.stream; there = w.there; proxy = w.proxy ∙ k.proxy; lived = w.lived ∙ k.lived ∙ sym s.lived; number = w.number ∙ k.number };
  gone = λ n u e q l. let w = b.streams_were n u e q in
      aged_gone (side x.core) (side y.core) u s.aged (gone_so u w.stream w.number w.ends (h.gone n w.stream w.there (sym w.proxy ∙ q) (sym w.lived ∙ l ∙ s.lived)));
  apart = aged_apart (side x.core) (side y.core) s.aged h.apart;
  waiting = aged_waiting (side x.core) (side y.core) s.aged h.waiting;
  watches = aged_watches (WatchAsked p (life p (items ++ more))) (side x.core) (side y.core) s.aged
      (each_along (WatchAsked p (life p items)) (WatchAsked p (life p (items ++ more))) (λ v k. ap (λ (l : List Item). is_watch_of (asked_as p v.ticket l)) on ∙ watch_more p v.ticket (life p items) more k) x.core.watches.watches h.watches);
}
  where
    on : life p (items ++ more) ≡ life p items ++ more
    on = life_on p items more lives

    gone_so : (u w : OpenedStream) → u.own ≡ w.own → (u.ended ≡ true → w.ended ≡ true) → IsGone x.core.watches w → IsGone x.core.watches u
    gone_so u w same ends k = record { given = (let l = k.given in omega (arith, l, same)); none = λ e. ap (λ (n : ℕ). stream_at n x.core.watches.streams) same ∙ k.none (ends e) }

-- where they give none
pub none_given : (items more : List Item) (p : ℕ) (x y : Place) → Lives p more → ((t : ℕ) → is_given_ticket p t more ≡ false) → y.tickets ≡ x.tickets → ((t : ℕ) → is_given_ticket p t (life p items) ≡ true → is_among x.tickets t ≡ true)
    → (t : ℕ) → is_given_ticket p t (life p (items ++ more)) ≡ true → is_among y.tickets t ≡ true
none_given items more p x y lives none same h t e =
    given_either items more p (is_among y.tickets t ≡ true) t lives (λ g. ap (λ (ts : BTreeSet ℕ). is_among ts t) same ∙ h t g) (λ g. absurd (let no_way : true ≡ false = sym g ∙ none t in cc)) e
