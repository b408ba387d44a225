-- The turns of a proxy, one by one: behind its own items, the story of each of its watches.
use Rattle.std.proofs.Common.{◌≡◌, inl, inr, ℕ, ◌+◌, ◌-◌, ◌≤◌, Bool, true, false, cond, ◌&&◌, ◌==◌, List, [], ◌∷◌, ◌++◌, append-nil, length, filter, Option, None, Some, Result, Ok, refl, ap, sym, subst, ◌∙◌, arith}
use Rattle.std.proofs.lemmas.Bool.Decides.{nat_tests}
use Rattle.etcd_types.specs.declared.record.Header.{Header}
use Rattle.etcd_types.specs.declared.request.Request.{Request}
use Rattle.etcd_types.specs.declared.request.Request.TheVariants as request
use Rattle.etcd_types.specs.declared.request.WatchAsk.{WatchAsk}
use Rattle.etcd_types.specs.declared.watch.WatchItem.{WatchItem}
use Rattle.proxy_model.specs.Upstream.{created}
use Rattle.script_text.specs.declared.item.Item.{Item}
use Rattle.script_text.specs.declared.item.Item.TheVariants as item
use Rattle.store_model.specs.History.{newest}
use Rattle.store_model.specs.Watches.{opened}
use Rattle.watch_model.specs.declared.place.WatchPlace.{WatchPlace}
use Rattle.watch_model.specs.declared.place.WatchPlace.TheVariants as place
use Rattle.watch_model.specs.declared.stream.StreamPhase.{StreamPhase}
use Rattle.watch_model.specs.declared.stream.StreamPhase.TheVariants as phase
use Rattle.watch_model.specs.Cuts.{reopened, cut_stream}
use Rattle.watch_model.specs.Due.{begun}
use Rattle.watch_model.specs.Lookups.{stream_at, place_stream, with_stream, without_stream, is_in, is_begun, is_closing, numbered}
use Rattle.watch_model.specs.State.{Stream, Watch, Broadcasts}
use Rattle.watch_model.proofs.Streams.{at_number, number_itself, at-with_stream, others-with_stream}
use Rattle.watch_laws.proofs.Seating.{each_along, found}
use Rattle.watch_laws.proofs.Standing.{none_without}
use Rattle.watch_laws.proofs.Steps.{in_place}
use Rattle.core_model.specs.declared.event.CoreEvent.{CoreEvent}
use Rattle.core_model.specs.declared.event.CoreEvent.TheVariants as event
use Rattle.core_model.specs.declared.event.Job.TheVariants as job
use Rattle.core_model.specs.declared.event.Outcome.{Outcome}
use Rattle.core_model.specs.declared.event.Outcome.TheVariants as outcome
use Rattle.core_model.specs.declared.event.StepFault.{StepFault}
use Rattle.core_model.specs.Heard.{later_header}
use Rattle.core_model.specs.LeasingStream.{item_header}
use Rattle.world_model.specs.Answers.{seen}
use Rattle.world_model.specs.Lives.{begins, life, asked_as, pushed_into, delivers}
use Rattle.world_model.specs.Places.{nth, with_nth, kept_at, with_kept}
use Rattle.world_model.specs.State.{OpenedStream, Numbered}
use Rattle.core_laws.proofs.Watches.Touches.{Side, is_other, is_plain, told_unwrapped, told_stream, Touch, leaves, joins, heard_leasing, broke_leasing, cut_leasing, told, cut}
use Rattle.held_laws.proofs.Holding.{IsApart}
use Rattle.held_laws.proofs.Items.{IsSilent, life_still, taken_still, asked-append, or_later}
use Rattle.held_laws.proofs.Kept.{kept_itself, kept_other, nth_other}
use Rattle.held_laws.proofs.Knowing.{IsKnown}
use Rattle.held_laws.proofs.Opens.{last_nth}
use Rattle.held_laws.proofs.Places.{taken_of}
use Rattle.held_laws.proofs.Streams.{apart_none}
use Rattle.received_laws.proofs.Starting.{created_most}
use Rattle.watch_stories.specs.Streams.{or_later as or_opened, opened_as}
use Rattle.watch_stories.specs.Stories.{Spot, is_member, concerns}
use Rattle.watch_stories.proofs.Facts.{View, later, IsOfWorld, OkAt, AreOpen, still_of_world, fewer_open, without_fewer}
use Rattle.std.proofs.lemmas.List.Elements.{filter-append}
use Rattle.proxy_model.specs.Unwrapped.{item_without}
use Rattle.watch_stories.proofs.Inverted.{Same, Begins, begin_so}
use Rattle.watch_stories.proofs.Items.{IsMute, Fed, pushed-append, opened_later}
use Rattle.watch_stories.proofs.Places.{IsQuiet, rest_both, both_goes, goes_push}
use Rattle.watch_stories.proofs.Points.{StandsAt, Has, rest_has, heard, rekept, rekept_has, new_joins}
use Rattle.watch_stories.proofs.Told.{IsOf, less, other_number, not_member, unbegun}
use Rattle.watch_stories.proofs.Touching.{Both, told_sees, cut_sees, joined_sees, closed_sees, opened_sees}
use Rattle.watch_stories.proofs.Turns.{IsFresh, later_most}

-- where the streams and watches are as they were
pub same_both : (v : View) (streams : List OpenedStream) (a d : Side) → Same a d → Both v streams a.broadcasts.streams a.broadcasts.watches → Both v streams d.broadcasts.streams d.broadcasts.watches
same_both v streams a d s h = subst (λ (ws : List Watch). Both v streams d.broadcasts.streams ws) (sym s.1) (subst (λ (ss : List Stream). Both v streams ss a.broadcasts.watches) (sym s.0) h)

-- ---- a request is asked

both_true : (p t : ℕ) → (p == p && t == t) ≡ true
both_true p t = grind (arith, nat_tests)

-- behind these items, by which it wasn't asked yet
pub asked_both : (v : View) (streams : List OpenedStream) (a : Side) (ticket number : ℕ) (q : Request) (d : Side) (o : Result Outcome StepFault) → numbered 0 a.broadcasts.given a.broadcasts.streams ≡ true
    → a.header.revision ≤ newest (seen (v.items ++ item.Asked v.proxy ticket q ∷ [])).store.history → asked_as v.proxy ticket (life v.proxy v.items) ≡ None → taken_of v.proxy v.items ticket ≡ []
    → Touch v.namespace a (event.Ask ticket q number) d o → Both v streams a.broadcasts.streams a.broadcasts.watches → Both (later v (item.Asked v.proxy ticket q ∷ [])) streams d.broadcasts.streams d.broadcasts.watches
asked_both v streams a ticket number q _ _ n high none untaken (leaves e o p) h = rest_both v streams a.broadcasts.streams a.broadcasts.watches (item.Asked v.proxy ticket q ∷ []) (asked_quiet v.proxy ticket q, tt) h
  where
    asked_quiet : (p ticket : ℕ) (q : Request) → IsQuiet p (item.Asked p ticket q)
    asked_quiet p ticket q = record { silent = record { takes = λ t. refl; lives = λ l. refl }; goes_on = refl; apart = λ s. refl; mute = record { pushes = λ n. refl; delivers_none = λ n. refl } }
asked_both v streams a _ number _ _ _ n high none untaken (joins ticket ask word f) h =
    let i = item.Asked v.proxy ticket (request.Watch ask) in
    let u = later v (i ∷ []) in
    let silent : IsSilent v.proxy (i ∷ []) = record { takes = λ t. refl; lives = λ l. refl } in
    let quiet : IsQuiet v.proxy i = record { silent = silent; goes_on = refl; apart = λ s. refl; mute = record { pushes = λ n. refl; delivers_none = λ n. refl } } in
    let k = rest_both v streams a.broadcasts.streams a.broadcasts.watches (i ∷ []) (quiet, tt) h in
    let asked : asked_as v.proxy ticket (life v.proxy u.items) ≡ Some (request.Watch ask) =
    ap (asked_as v.proxy ticket) (life_still v.proxy v.items (i ∷ []) silent) ∙ asked-append v.proxy ticket (life v.proxy v.items) (i ∷ []) ∙ ap (λ o. or_later o (asked_as v.proxy ticket (i ∷ []))) none
    ∙ ap (λ b. cond b (Some (request.Watch ask)) None) (both_true v.proxy ticket) in
    joined_sees u streams a.broadcasts ticket ask a.header n k.known high (new_joins v ticket ask asked (taken_still v.proxy ticket v.items (i ∷ []) silent ∙ untaken)) k.watches

-- ---- a message is delivered, or a stream is cut, that none of the proxy's streams hears

none_here : {A : Type 0} (t : Stream) → ◌≡◌ {A = Option Stream} None (Some t) → A
none_here t e = absurd (cc)

some_is : (s t : Stream) → Some s ≡ Some t → s ≡ t
some_is s t e = cc

no_case : {A : Type 0} (b : Bool) → b ≡ true → b ≡ false → A
no_case b t f = absurd (let no : true ≡ false = sym t ∙ f in cc)

equal : (a b : ℕ) → (a == b) ≡ true → a ≡ b
equal a b e = grind (arith, nat_tests)

turned : (a b : ℕ) → (a == b) ≡ false → (b == a) ≡ false
turned a b e = grind (arith, nat_tests)

-- an item of the stream of this number alone
pub record IsAbout (p n : ℕ) (i : Item) : Type 0 where
  pub silent : IsSilent p (i ∷ [])
  pub goes_on : begins p i ≡ false
  pub apart : (s : Spot) → is_member n s ≡ false → concerns i s ≡ false
  pub mute : (k : ℕ) → (n == k) ≡ false → (pushed_into k (i ∷ []) ≡ []) × (filter (delivers k) (i ∷ []) ≡ [])

pub delivered_about : (p n : ℕ) → IsAbout p n (item.Delivered n)
delivered_about p n = record {
  silent = record { takes = λ t. refl; lives = λ l. refl };
  goes_on = refl;
  apart = λ s e. e;
  mute = λ k e. (refl, ap (λ b. cond b (item.Delivered n ∷ []) []) e);
}

pub cut_about : (p n : ℕ) → IsAbout p n (item.Cut n)
cut_about p n = record {
  silent = record { takes = λ t. refl; lives = λ l. refl };
  goes_on = refl;
  apart = λ s e. e;
  mute = λ k e. (refl, refl);
}

-- the proxy's streams, none of which is that one, as long as it was begun
rest_open : (v : View) (streams : List OpenedStream) (ss : List Stream) (n own : ℕ) (os t' : OpenedStream) (i : Item) → nth streams n ≡ Some os → os.own ≡ own → IsAbout v.proxy n i → ((t : Stream) → stream_at own ss ≡ Some t → is_begun t.phase ≡ false)
    → AreOpen v streams ss → AreOpen (later v (i ∷ [])) (with_nth streams n t') ss
rest_open v streams ss n own os t' i there is about none known k t e = by t.phase refl (known k t e)
  where
    by : (p : StreamPhase) → t.phase ≡ p → OkAt v streams k t p → OkAt (later v (i ∷ [])) (with_nth streams n t') k t p
    by (phase.Due since) q o = o
    by (phase.Closing since) q o = tt
    by phase.Begun q o = by_number (k == own) refl
      where
        by_number : (c : Bool) → (k == own) ≡ c → IsOfWorld (later v (i ∷ [])) (with_nth streams n t') k t
        by_number true d = no_case (is_begun t.phase) (ap is_begun q) (none t (ap (λ (x : ℕ). stream_at x ss) (sym (equal k own d)) ∙ e))
        by_number false d =
            let apart' = other_number v streams n own os k t there is d o in
            let m = about.mute o.its.number apart' in
            let same = still_of_world v streams (i ∷ []) k t (life_still v.proxy v.items (i ∷ []) about.silent) o m.0 m.1 in
            record { its = same.its; world = o.world; there = nth_other streams n o.its.number os t' there (turned n o.its.number apart') ∙ o.there; own_is = o.own_is; proxy_is = o.proxy_is; live = o.live }

pub rest_all : (v : View) (streams : List OpenedStream) (ss : List Stream) (ws : List Watch) (n own : ℕ) (os t' : OpenedStream) (i : Item) → nth streams n ≡ Some os → os.own ≡ own → IsAbout v.proxy n i
    → ((t : Stream) → stream_at own ss ≡ Some t → is_begun t.phase ≡ false) → Both v streams ss ws → Both (later v (i ∷ [])) (with_nth streams n t') ss ws
rest_all v streams ss ws n own os t' i there is about none h = record {
  known = rest_open v streams ss n own os t' i there is about none h.known;
  watches =
      each_along (λ w. Has v (place_stream ss w.place) w) (λ w. Has (later v (i ∷ [])) (place_stream ss w.place) w)
      (λ w k. rest_has v i (place_stream ss w.place) w about.silent about.goes_on k (about.apart k.point.spot (apart_of w k))) ws h.watches;
}
  where
    in_none : (w : Watch) (o : Option Stream) → stream_at own ss ≡ o → w.place ≡ place.In own → (k : Has v o w) → is_member n k.point.spot ≡ false
    in_none w None e at k = absurd (subst (λ (p : WatchPlace). StandsAt v.kept None p k.point.spot) at k.spot)
    in_none w (Some t) e at k = unbegun v t n own w (none t e) at k

    apart_of : (w : Watch) (k : Has v (place_stream ss w.place) w) → is_member n k.point.spot ≡ false
    apart_of w k =
        elim (is_in own w.place) as (λ c. is_in own w.place ≡ c → is_member n k.point.spot ≡ false) [
          | true ↦ λ q. inside w (in_place own w.place q) k
          | false ↦ λ q. not_member v streams ss n own os w h.known there is q k
        ] refl
      where
        by : (w : Watch) (p : WatchPlace) → p ≡ place.In own → (k : Has v (place_stream ss p) w) → w.place ≡ place.In own → is_member n k.point.spot ≡ false
        by w (place.In m) e k at = go (stream_at m ss) (ap (λ (x : WatchPlace). place_stream ss x) (sym e)) k at
          where
            go : (o : Option Stream) → stream_at own ss ≡ o → (k : Has v o w) → w.place ≡ place.In own → is_member n k.point.spot ≡ false
            go o e k at = in_none w o e at k
        by w place.Split e k at = absurd (cc)
        by w place.Ended e k at = absurd (cc)

        inside : (w : Watch) → w.place ≡ place.In own → (k : Has v (place_stream ss w.place) w) → is_member n k.point.spot ≡ false
        inside w at k = by w w.place at k at

-- ---- a message is delivered

unplain : {A : Type 0} (e : CoreEvent) (o : Outcome) → is_other e ≡ false → is_plain e (Ok o) ≡ true → A
unplain e (outcome.Item i) n p = absurd (cc)
unplain e (outcome.Replied a) n p = absurd (let no' : true ≡ false = sym p ∙ n in cc)
unplain e outcome.Waiting n p = absurd (let no' : true ≡ false = sym p ∙ n in cc)
unplain e outcome.Pending n p = absurd (let no' : true ≡ false = sym p ∙ n in cc)
unplain e outcome.Noted n p = absurd (let no' : true ≡ false = sym p ∙ n in cc)
unplain e (outcome.Job None) n p = absurd (let no' : true ≡ false = sym p ∙ n in cc)
unplain e (outcome.Job (Some (job.Call own member ticket q))) n p = absurd (let no' : true ≡ false = sym p ∙ n in cc)
unplain e (outcome.Job (Some (job.Begin own member q))) n p = absurd (cc)
unplain e (outcome.Job (Some (job.Close own))) n p = absurd (cc)

-- of the stream of the world at which something happens
pub record Happens (v : View) (streams : List OpenedStream) (a : Side) (n : ℕ) (os : OpenedStream) : Type 0 where
  pub there : nth streams n ≡ Some os
  pub proxy : os.proxy ≡ v.proxy
  pub live : os.ended ≡ false
  pub mine : (t : Stream) → stream_at os.own a.broadcasts.streams ≡ Some t → is_closing t.phase ≡ false → kept_at v.kept os.own ≡ Some n
  pub begun : (t : Stream) → stream_at os.own a.broadcasts.streams ≡ Some t → is_closing t.phase ≡ false → is_begun t.phase ≡ true
  pub numbers : numbered 0 a.broadcasts.given a.broadcasts.streams ≡ true
  pub apart : IsApart a.leasing a.broadcasts
  pub both : Both v streams a.broadcasts.streams a.broadcasts.watches

-- a stream of the leasing stream's number isn't there
none_leasing : (v : View) (streams : List OpenedStream) (a : Side) (n : ℕ) (os : OpenedStream) → Happens v streams a n os → a.leasing ≡ Some os.own → (t : Stream) → stream_at os.own a.broadcasts.streams ≡ Some t → is_begun t.phase ≡ false
none_leasing v streams a n os h l t e = none_here t (sym (apart_none a.leasing a.broadcasts os.own l h.apart) ∙ e)

is_of : (v : View) (streams : List OpenedStream) (a : Side) (n : ℕ) (os : OpenedStream) (s : Stream) → Happens v streams a n os → stream_at os.own a.broadcasts.streams ≡ Some s → IsOf v streams n os s
is_of v streams a n os s h f =
    let same : s.number ≡ os.own = at_number os.own a.broadcasts.streams s f in
    record { there = h.there; own = sym same; proxy = h.proxy; live = h.live; kept_is = λ c. ap (kept_at v.kept) same ∙ h.mine s f c }

pub delivered_both : (v : View) (streams : List OpenedStream) (a : Side) (n : ℕ) (os : OpenedStream) (i : WatchItem) (rest : List WatchItem) (own : ℕ) (d : Side) (o : Outcome) → own ≡ os.own → Happens v streams a n os → os.waiting ≡ i ∷ rest
    → ((s : Stream) → stream_at os.own a.broadcasts.streams ≡ Some s → IsKnown s) → (item_header i).revision ≤ newest (seen (heard v n).items).store.history → a.header.revision ≤ newest (seen (heard v n).items).store.history
    → Touch v.namespace a (event.Item own i) d (Ok o) → Both (heard v n) (less streams n os rest) d.broadcasts.streams d.broadcasts.watches
delivered_both v streams a n os i rest own _ _ is h waiting known low high (leaves e o p) = unplain (event.Item own i) _ refl p
delivered_both v streams a n os _ rest _ _ _ is h waiting known low high (heard_leasing number x l) =
    rest_all v streams a.broadcasts.streams a.broadcasts.watches n os.own os (record os { waiting = rest }) (item.Delivered n) h.there refl (delivered_about v.proxy n) (none_leasing v streams a n os h (l ∙ ap (λ (k : ℕ). Some k) is)) h.both
delivered_both v streams a n os _ rest _ _ _ is h waiting known low high (broke_leasing number x l) =
    rest_all v streams a.broadcasts.streams a.broadcasts.watches n os.own os (record os { waiting = rest }) (item.Delivered n) h.there refl (delivered_about v.proxy n) (none_leasing v streams a n os h (l ∙ ap (λ (k : ℕ). Some k) is)) h.both
delivered_both v streams a n os _ rest _ _ _ is h waiting known low high (told number x s f) = by (is_begun s.phase) refl
  where
    last : Header
    last = later_header a.header (item_header x)

    here : stream_at os.own a.broadcasts.streams ≡ Some s
    here = ap (λ (k : ℕ). stream_at k a.broadcasts.streams) (sym is) ∙ f

    same : s.number ≡ os.own
    same = at_number os.own a.broadcasts.streams s here

    by : (c : Bool) → is_begun s.phase ≡ c → let b = told_stream a.broadcasts s last v.namespace x in Both (heard v n) (less streams n os rest) b.streams b.watches
    by true q =
        told_sees v streams a.broadcasts n os s last x rest (record {
          numbers = h.numbers;
          known = h.both.known;
          at = ap (λ (k : ℕ). stream_at k a.broadcasts.streams) same ∙ here;
          is = is_of v streams a n os s h here;
          waiting = waiting;
          begun = q;
          watches = h.both.watches;
        }) (known s here) (λ g e z. created_most (newest (seen (heard v n).items).store.history) s g (subst (λ (y : WatchItem). (item_header y).revision ≤ newest (seen (heard v n).items).store.history) e low) z)
        (later_most (newest (seen (heard v n).items).store.history) a.header (item_header x) high low)
    by false q =
        subst (λ (c : Bool). let b = cond c (told_unwrapped a.broadcasts s last (item_without v.namespace x)) a.broadcasts in Both (heard v n) (less streams n os rest) b.streams b.watches) (sym q)
        (rest_all v streams a.broadcasts.streams a.broadcasts.watches n os.own os (record os { waiting = rest }) (item.Delivered n) h.there refl (delivered_about v.proxy n)
        (λ t e. ap (λ (y : Stream). is_begun y.phase) (some_is t s (sym e ∙ here)) ∙ q) h.both)

pub cut_both : (v : View) (streams : List OpenedStream) (a d : Side) (n : ℕ) (os : OpenedStream) (own : ℕ) (o : Outcome) → own ≡ os.own → Happens v streams a n os → Touch v.namespace a (event.Cut own) d (Ok o)
    → Both (later v (item.Cut n ∷ [])) (with_nth streams n (record os { waiting = []; ended = true })) d.broadcasts.streams d.broadcasts.watches
cut_both v streams a _ n os own _ is h (leaves e o p) = unplain (event.Cut own) _ refl p
cut_both v streams a _ n os _ _ is h (cut_leasing number l) =
    rest_all v streams a.broadcasts.streams a.broadcasts.watches n os.own os (record os { waiting = []; ended = true }) (item.Cut n) h.there refl (cut_about v.proxy n) (none_leasing v streams a n os h (l ∙ ap (λ (k : ℕ). Some k) is)) h.both
cut_both v streams a _ n os _ _ is h (cut number s f) = by (is_closing s.phase) refl
  where
    gone : OpenedStream
    gone = record os { waiting = []; ended = true }

    here : stream_at os.own a.broadcasts.streams ≡ Some s
    here = ap (λ (k : ℕ). stream_at k a.broadcasts.streams) (sym is) ∙ f

    same : s.number ≡ os.own
    same = at_number os.own a.broadcasts.streams s here

    itself : stream_at s.number a.broadcasts.streams ≡ Some s
    itself = ap (λ (k : ℕ). stream_at k a.broadcasts.streams) same ∙ here

    unbegun' : (p : StreamPhase) → is_closing p ≡ true → is_begun p ≡ false
    unbegun' (phase.Due since) e = absurd (cc)
    unbegun' (phase.Closing since) e = refl
    unbegun' phase.Begun e = absurd (cc)

    by : (c : Bool) → is_closing s.phase ≡ c → let b = cut_stream a.broadcasts s in Both (later v (item.Cut n ∷ [])) (with_nth streams n gone) b.streams b.watches
    by true q =
        let k = rest_all v streams a.broadcasts.streams a.broadcasts.watches n os.own os gone (item.Cut n) h.there refl (cut_about v.proxy n) (λ t e. unbegun' t.phase (ap (λ (y : Stream). is_closing y.phase) (some_is t s (sym e ∙ here)) ∙ q)) h.both in
        let c = closed_sees (later v (item.Cut n ∷ [])) (with_nth streams n gone) a.broadcasts s itself q k.known k.watches in
        subst (λ (z : Bool). let b : Broadcasts = cond z (record a.broadcasts { streams = without_stream s.number a.broadcasts.streams }) (reopened a.broadcasts s) in Both (later v (item.Cut n ∷ [])) (with_nth streams n gone) b.streams b.watches) (sym q) c
    by false q =
        cut_sees v streams (with_nth streams n gone) a.broadcasts n os s h.numbers h.both.known itself (is_of v streams a n os s h here) (h.begun s here q)
        (rest_open v streams (without_stream s.number a.broadcasts.streams) n os.own os gone (item.Cut n) h.there refl (cut_about v.proxy n)
        (λ t e. none_here t (sym (none_without s.number os.own a.broadcasts.streams (ap (λ (k : ℕ). os.own == k) same ∙ number_itself os.own)) ∙ e))
        (fewer_open v streams a.broadcasts.streams (without_stream s.number a.broadcasts.streams) (without_fewer s.number a.broadcasts.streams) h.both.known)) h.both.watches

-- ---- a stream is opened

opened_now : (p n member : ℕ) (ask : WatchAsk) → opened_as p n (item.Opened p n member (request.Watch ask) ∷ []) ≡ Some ask
opened_now p n member ask = ap (λ b. or_opened (cond b (Some ask) None) None) (both_true p n)

-- the views of the others
rekept_of_world : (v : View) (streams : List OpenedStream) (kept : Numbered ℕ) (k : ℕ) (t : Stream) → kept_at kept k ≡ kept_at v.kept k → IsOfWorld v streams k t → IsOfWorld (rekept v kept) streams k t
rekept_of_world v streams kept k t e o = record {
  its = record {
    number = o.its.number;
    kept_is = e ∙ o.its.kept_is;
    opened = o.its.opened;
    by = o.its.by;
    range = o.its.range;
    front = o.its.front;
    waiting = o.its.waiting;
    fed = o.its.fed;
    next = o.its.next;
    told = o.its.told;
  };
  world = o.world;
  there = o.there;
  own_is = o.own_is;
  proxy_is = o.proxy_is;
  live = o.live;
}

pub opens_both : (v : View) (streams : List OpenedStream) (a d : Side) (own member : ℕ) (ask : WatchAsk) (new : OpenedStream) (o : Result Outcome StepFault) → o ≡ Ok (outcome.Job (Some (job.Begin own member (request.Watch ask))))
    → let n = length streams + 1 in let i = item.Opened v.proxy n member (request.Watch ask) in
    numbered 0 a.broadcasts.given a.broadcasts.streams ≡ true → IsApart a.leasing a.broadcasts → IsFresh v.items n → new.own ≡ own → new.proxy ≡ v.proxy → new.waiting ≡ []
    → Touch v.namespace a event.Work d o → Both v streams a.broadcasts.streams a.broadcasts.watches
    → Both (rekept (later v (i ∷ [])) (with_kept v.kept own n)) (streams ++ new ∷ []) d.broadcasts.streams d.broadcasts.watches
opens_both v streams a d own member ask new o e numbers apart' fresh new_own new_proxy new_waiting touch h = elim (begin_so v.namespace a d own member ask o e numbers touch) [
  | inl k ↦ begins_it k
  | inr k ↦ same_both u (streams ++ new ∷ []) a d k.1 (leasing_it k.0)
]
  where
    n : ℕ
    n = length streams + 1

    i : Item
    i = item.Opened v.proxy n member (request.Watch ask)

    silent : IsSilent v.proxy (i ∷ [])
    silent = record { takes = λ t. refl; lives = λ l. refl }

    mute : IsMute (i ∷ [])
    mute = record { pushes = λ k. refl; delivers_none = λ k. refl }

    quiet : IsQuiet v.proxy i
    quiet = record { silent = silent; goes_on = refl; apart = λ s. refl; mute = mute }

    u : View
    u = rekept (later v (i ∷ [])) (with_kept v.kept own n)

    rested : Both (later v (i ∷ [])) (streams ++ new ∷ []) a.broadcasts.streams a.broadcasts.watches
    rested = both_goes (later v (i ∷ [])) streams (streams ++ new ∷ []) a.broadcasts.streams a.broadcasts.watches (λ k t o f. goes_push streams (new ∷ []) o.its.number o.world o.there) (rest_both v streams a.broadcasts.streams a.broadcasts.watches (i ∷ []) (quiet, tt) h)

    leasing_it : a.leasing ≡ Some own → Both u (streams ++ new ∷ []) a.broadcasts.streams a.broadcasts.watches
    leasing_it l = record {
      known = λ k t f. at k t f t.phase (rested.known k t f);
      watches =
          each_along (λ w. Has (later v (i ∷ [])) (place_stream a.broadcasts.streams w.place) w) (λ w. Has u (place_stream a.broadcasts.streams w.place) w)
          (λ w k. rekept_has (later v (i ∷ [])) (with_kept v.kept own n) (place_stream a.broadcasts.streams w.place) w (λ m t p f b. other m t (ap (place_stream a.broadcasts.streams) (sym p) ∙ f)) k) a.broadcasts.watches rested.watches;
    }
      where
        other : (k : ℕ) (t : Stream) → stream_at k a.broadcasts.streams ≡ Some t → kept_at (with_kept v.kept own n) k ≡ kept_at v.kept k
        other k t f = by (k == own) refl
          where
            by : (c : Bool) → (k == own) ≡ c → kept_at (with_kept v.kept own n) k ≡ kept_at v.kept k
            by true q = none_here t (sym (apart_none a.leasing a.broadcasts own l apart') ∙ ap (λ (x : ℕ). stream_at x a.broadcasts.streams) (sym (equal k own q)) ∙ f)
            by false q = kept_other v.kept k own n q

        at : (k : ℕ) (t : Stream) → stream_at k a.broadcasts.streams ≡ Some t → (p : StreamPhase) → OkAt (later v (i ∷ [])) (streams ++ new ∷ []) k t p → OkAt u (streams ++ new ∷ []) k t p
        at k t f phase.Begun o = rekept_of_world (later v (i ∷ [])) (streams ++ new ∷ []) (with_kept v.kept own n) k t (other k t f) o
        at k t f (phase.Due since) o = o
        at k t f (phase.Closing since) o = tt

    begins_it : Begins v.namespace a d own ask → Both u (streams ++ new ∷ []) d.broadcasts.streams d.broadcasts.watches
    begins_it b =
        subst (λ (ws : List Watch). Both u (streams ++ new ∷ []) d.broadcasts.streams ws) (sym b.watches)
        (subst (λ (ss : List Stream). Both u (streams ++ new ∷ []) ss a.broadcasts.watches) (sym b.streams)
        (subst (λ (m : ℕ). Both (rekept (later v (i ∷ [])) (with_kept v.kept m n)) (streams ++ new ∷ []) us a.broadcasts.watches) b.number
        (opened_sees v (streams ++ new ∷ []) a.broadcasts s b.since n i b.found b.due known one.its refl (both_true v.proxy n) silent refl (λ t. refl) h.watches)))
      where
        s : Stream
        s = b.stream

        us : List Stream
        us = with_stream s.number begun a.broadcasts.streams

        kept : Numbered ℕ
        kept = with_kept v.kept s.number n

        x : View
        x = rekept (later v (i ∷ [])) kept

        fed : Fed n (v.items ++ i ∷ []) [] []
        fed = record {
          pushed = pushed-append n v.items (i ∷ []) ∙ append-nil (pushed_into n v.items) ∙ fresh.pushes;
          count = ap length (filter-append (delivers n) v.items (i ∷ []) ∙ append-nil (filter (delivers n) v.items) ∙ fresh.delivered);
        }

        uncreated : s.stream.created ≡ false
        uncreated = subst (OkAt v streams s.number s) b.due (h.known s.number s b.found)

        one : IsOfWorld x (streams ++ new ∷ []) s.number (begun s)
        one = record {
          its = record {
            number = n;
            kept_is = kept_itself v.kept s.number n;
            opened = ask;
            by = ap (opened_as v.proxy n) (life_still v.proxy v.items (i ∷ []) silent) ∙ opened_later v.proxy n (life v.proxy v.items) (i ∷ []) (fresh.unopened v.proxy) ∙ opened_now v.proxy n member ask;
            range = b.range;
            front = [];
            waiting = [];
            fed = fed;
            next = b.start;
            told = λ c. no_case s.stream.created c uncreated;
          };
          world = new;
          there = last_nth streams new;
          own_is = new_own ∙ sym b.number;
          proxy_is = new_proxy;
          live = λ l. sym new_waiting;
        }

        other : (k : ℕ) (t : Stream) → (k == s.number) ≡ false → (p : StreamPhase) → OkAt (later v (i ∷ [])) (streams ++ new ∷ []) k t p → OkAt x (streams ++ new ∷ []) k t p
        other k t q phase.Begun o = rekept_of_world (later v (i ∷ [])) (streams ++ new ∷ []) kept k t (kept_other v.kept k s.number n q) o
        other k t q (phase.Due since) o = o
        other k t q (phase.Closing since) o = tt

        known : AreOpen x (streams ++ new ∷ []) us
        known k t e = by (k == s.number) refl
          where
            by : (c : Bool) → (k == s.number) ≡ c → OkAt x (streams ++ new ∷ []) k t t.phase
            by true q =
                let same = equal k s.number q in
                let is : begun s ≡ t = some_is (begun s) t (sym (at-with_stream s.number begun (λ t. refl) a.broadcasts.streams s b.found) ∙ ap (λ (y : ℕ). stream_at y us) (sym same) ∙ e) in
                subst (λ (m : ℕ). OkAt x (streams ++ new ∷ []) m t t.phase) (sym same) (subst (λ (y : Stream). OkAt x (streams ++ new ∷ []) s.number y y.phase) is one)
            by false q = other k t q t.phase (rested.known k t (sym (others-with_stream s.number begun (λ t. refl) a.broadcasts.streams (place.In k) q) ∙ e))
