-- What holds of a proxy of the world: nothing is held back of its watches, by what was told of it.
use Rattle.std.proofs.Common.{◌≡◌, ◌⊎◌, inl, inr, ℕ, zero, suc, ◌≤◌, Bool, true, false, cond, ◌==◌, List, [], ◌∷◌, ◌++◌, append-nil, length, Option, None, Some, Result, Ok, Err, refl, ap, sym, subst, ◌∙◌, arith}
use Rattle.std.proofs.lemmas.Bool.Decides.{nat_tests}
use Rattle.std.specs.BTreeSet.{BTreeSet}
use Rattle.etcd_types.specs.declared.request.Request.{Request}
use Rattle.etcd_types.specs.declared.request.Request.TheVariants as request
use Rattle.etcd_types.specs.declared.request.WatchAsk.{WatchAsk}
use Rattle.etcd_types.specs.declared.watch.Change.{Change}
use Rattle.etcd_types.specs.declared.watch.Event.{Event}
use Rattle.etcd_types.specs.declared.watch.WatchItem.{WatchItem}
use Rattle.watch_model.specs.Joining.{watched_range}
use Rattle.watch_model.specs.Queues.{item_events, queued_events}
use Rattle.watch_model.specs.State.{Watch}
use Rattle.watch_model.specs.Story.{Story, Received, received, EachWatch}
use Rattle.watch_laws.proofs.Seating.{each_along, found}
use Rattle.core_model.specs.declared.event.CoreEvent.{CoreEvent}
use Rattle.core_model.specs.declared.event.CoreEvent.TheVariants as event
use Rattle.core_model.specs.declared.event.Outcome.{Outcome}
use Rattle.core_model.specs.declared.event.Outcome.TheVariants as outcome
use Rattle.core_model.specs.declared.event.StepFault.{StepFault}
use Rattle.core_model.specs.declared.event.StepFault.TheVariants as fault
use Rattle.core_model.specs.declared.settings.Settings.{Settings}
use Rattle.core_model.specs.State.{Core}
use Rattle.core_model.specs.Step.{stepped}
use Rattle.core_model.specs.Stepped.{Stepped, faults}
use Rattle.core_model.specs.Takes.{ready}
use Rattle.core_laws.proofs.Steps.Staying.{steps_stay}
use Rattle.script_text.specs.declared.item.Item.{Item}
use Rattle.world_model.specs.Gains.{Replies, fetched_as, fetched_if, fetched, all_fetched}
use Rattle.world_model.specs.Lives.{life, asked_as}
use Rattle.world_model.specs.Places.{is_among, with_number, with_core}
use Rattle.world_model.specs.Received.{taken_for}
use Rattle.world_model.specs.State.{Place}
use Rattle.held_laws.proofs.Pushes.{Whole}
use Rattle.held_laws.proofs.Firm.{Firm, NewHas, touch_firm}
use Rattle.held_laws.proofs.Holding.{SideOk, stepped_ok, IsTold, touch_ok}
use Rattle.core_laws.specs.Watches.Streams.{received_by, IsNew}
use Rattle.core_laws.proofs.Watches.Holding.{watch_itself}
use Rattle.held_laws.proofs.Items.{IsSilent, IsUnasking, life_still, taken_still, taken-append, queued-append, asked_still, asked_same, asked-append, or_later}
use Rattle.held_laws.proofs.Kept.{among_new, among_still, not_among}
use Rattle.held_laws.proofs.Stories.{Strips, story_by, story_by_rises}
use Rattle.held_laws.proofs.Told.{HasTold, IsBatchTold, IsUntaken, taken_more, taken_by as taken_after, touch_told}
use Rattle.held_laws.proofs.Writing.{IsSaid, MessagesOk, stepped_messages, touch_messages}
use Rattle.core_laws.proofs.Watches.Touches.{Side, side, with_step, Aged, aged_itself, aged_on, fetch_ages, step_touches, Touch, leaves, took}

-- what the takers of a proxy have, by what was told of its life
abbrev pub got_of : ℕ → List Item → Received
got_of p items ticket = queued_events (taken_for p ticket (life p items))

-- the messages that were taken of a proxy, by ticket
abbrev pub taken_of : ℕ → List Item → ℕ → List WatchItem
taken_of p items ticket = taken_for p ticket (life p items)

-- what a step is told by a message: all changes, and the events with the records before
abbrev pub Truth : List ℕ → (Change → Option Change) → Whole → Side → CoreEvent → Type 0
Truth namespace f whole a e = IsTold (story_by f namespace whole) namespace a e × IsBatchTold whole namespace a e × IsSaid whole namespace a e

-- a watch was asked in this life, and is as it was asked; where a start was asked for, that is its start
pub record Known (p : ℕ) (told : List Item) (tickets : BTreeSet ℕ) (w : Watch) : Type 0 where
  pub among : is_among tickets w.ticket ≡ true
  pub ask : WatchAsk
  pub asked : asked_as p w.ticket told ≡ Some (request.Watch ask)
  pub same : w.ask ≡ record ask { range = watched_range ask.range }
  pub start : (ask.start == 0) ≡ false → (w.start ≡ ask.start) × ((w.next == 0) ≡ false)

pub record PlaceOk (namespace : List ℕ) (whole : Whole) (f : Change → Option Change) (items : List Item) (p : ℕ) (x : Place) : Type 0 where
  pub holds : SideOk (story_by f namespace whole) (got_of p items) (side x.core)
  pub namespace_is : x.core.settings.namespace ≡ namespace
  -- of a ticket that was neither asked nor posted
  pub untaken : (ticket : ℕ) → is_among x.tickets ticket ≡ false → taken_for p ticket (life p items) ≡ []
  pub unasked : (ticket : ℕ) → is_among x.tickets ticket ≡ false → asked_as p ticket (life p items) ≡ None
  pub watches : EachWatch (Known p (life p items) x.tickets) x.core.watches.watches
  pub told : EachWatch (HasTold whole namespace (taken_of p items)) x.core.watches.watches
  pub messages : MessagesOk (story_by f namespace whole) whole (taken_of p items) x.core.watches

-- ---- watches that are known

above : (n m : ℕ) → (n == 0) ≡ false → n ≤ m → (m == 0) ≡ false
above n m e l = grind (arith, nat_tests)

known_firm : (p : ℕ) (told : List Item) (tickets : BTreeSet ℕ) → Firm (Known p told tickets)
known_firm p told tickets = record {
  steady = record {
    placed = λ w q k. record { among = k.among; ask = k.ask; asked = k.asked; same = k.same; start = k.start };
    told = λ w h k. record { among = k.among; ask = k.ask; asked = k.asked; same = k.same; start = k.start };
    decided = λ w n e k. record { among = k.among; ask = k.ask; asked = k.asked; same = k.same; start = λ z. absurd (let no' : true ≡ false = sym e ∙ (k.start z).1 in cc) };
    ahead = λ w n l k. record { among = k.among; ask = k.ask; asked = k.asked; same = k.same; start = λ z. ((k.start z).0, above w.next n (k.start z).1 l) };
    ended = λ w h c k. record { among = k.among; ask = k.ask; asked = k.asked; same = k.same; start = k.start };
  };
  queued = λ w q k. record { among = k.among; ask = k.ask; asked = k.asked; same = k.same; start = k.start };
}

pub known_later : (p : ℕ) (told more : List Item) (tickets after : BTreeSet ℕ) → ((t : ℕ) → is_among tickets t ≡ true → is_among after t ≡ true) → (ws : List Watch) → EachWatch (Known p told tickets) ws → EachWatch (Known p (told ++ more) after) ws
known_later p told more tickets after grow ws h =
    each_along (Known p told tickets) (Known p (told ++ more) after)
    (λ w k. record { among = grow w.ticket k.among; ask = k.ask; asked = asked_still p w.ticket told more (request.Watch k.ask) k.asked; same = k.same; start = k.start }) ws h

-- ---- a proxy of which nothing is told

pub same_got : (p : ℕ) (items more : List Item) → IsSilent p more → got_of p items ≡ got_of p (items ++ more)
same_got p items more s = λ i t. queued_events (sym (taken_still p t items more s) i)

pub same_taken : (p : ℕ) (items more : List Item) → IsSilent p more → taken_of p items ≡ taken_of p (items ++ more)
same_taken p items more s = λ i t. sym (taken_still p t items more s) i

pub later_ok : (namespace : List ℕ) (whole : Whole) (f : Change → Option Change) (items more : List Item) (p : ℕ) (x : Place) → IsSilent p more → IsUnasking p more → PlaceOk namespace whole f items p x → PlaceOk namespace whole f (items ++ more) p x
later_ok namespace whole f items more p x s u h = record {
  holds = subst (λ (g : Received). SideOk (story_by f namespace whole) g (side x.core)) (same_got p items more s) h.holds;
  namespace_is = h.namespace_is;
  untaken = λ t e. taken_still p t items more s ∙ h.untaken t e;
  unasked = λ t e. asked_same p t items more s u ∙ h.unasked t e;
  watches = subst (λ (l : List Item). EachWatch (Known p l x.tickets) x.core.watches.watches) (sym (life_still p items more s)) (known_later p (life p items) more x.tickets x.tickets (λ t e. e) x.core.watches.watches h.watches);
  told = subst (λ (g : ℕ → List WatchItem). EachWatch (HasTold whole namespace g) x.core.watches.watches) (same_taken p items more s) h.told;
  messages = subst (λ (g : ℕ → List WatchItem). MessagesOk (story_by f namespace whole) whole g x.core.watches) (same_taken p items more s) h.messages;
}

-- ---- a step of the proxy

-- the side that a step begins with, once it is counted
abbrev pub counted_side : Core → Side
counted_side c = record (side c) { broadcasts = with_step c.watches c.steps }

pub record Stepping (namespace : List ℕ) (c d : Core) (e : CoreEvent) (o : Outcome) : Type 0 where
  pub touch : Touch namespace (counted_side c) e (side d) (Ok o)
  pub settings : d.settings ≡ c.settings

pub stepping : (namespace : List ℕ) (c : Core) (e : CoreEvent) (now : ℕ) (o : Outcome) → c.settings.namespace ≡ namespace → (stepped c e now).outcome ≡ Ok o → Stepping namespace c (stepped c e now).core e o
stepping namespace c e now o n out = by (step_touches c e now)
  where
    refused : {A : Type 0} → ◌≡◌ {A = Result Outcome StepFault} (Err fault.Worn) (Ok o) → A
    refused e = absurd (cc)

    by : (stepped c e now ≡ faults c fault.Worn) ⊎ Touch c.settings.namespace (counted_side c) e (side (stepped c e now).core) (stepped c e now).outcome → Stepping namespace c (stepped c e now).core e o
    by (inl w) = refused (sym (ap (λ (s : Stepped). s.outcome) w) ∙ out)
    by (inr t) = record {
      touch = subst (λ (m : List ℕ). Touch m (counted_side c) e (side (stepped c e now).core) (Ok o)) n (subst (Touch c.settings.namespace (counted_side c) e (side (stepped c e now).core)) out t);
      settings = (steps_stay c e now).settings;
    }

pub aged_side : (story : Story) (got : Received) (a b : Side) → Aged a b → SideOk story got a → SideOk story got b
aged_side story got a b h k = subst (SideOk story got) (sym h.1) (stepped_ok story got a h.0 k)

-- ---- replies that are fetched

-- nothing else of the place changes, and its core only in what isn't about watches
pub record IsFetched (x y : Place) : Type 0 where
  pub life : y.life ≡ x.life
  pub tickets : y.tickets ≡ x.tickets
  pub streams : y.streams ≡ x.streams
  pub aged : Aged (side x.core) (side y.core)
  pub settings : y.core.settings ≡ x.core.settings

fetched_itself : (x : Place) → IsFetched x x
fetched_itself x = record { life = refl; tickets = refl; streams = refl; aged = aged_itself (side x.core); settings = refl }

fetched_on : (x y z : Place) → IsFetched x y → IsFetched y z → IsFetched x z
fetched_on x y z h k = record {
  life = k.life ∙ h.life;
  tickets = k.tickets ∙ h.tickets;
  streams = k.streams ∙ h.streams;
  aged = aged_on (side x.core) (side y.core) (side z.core) h.aged k.aged;
  settings = k.settings ∙ h.settings;
}

pub fetched_so : (n : ℕ) (x : Place) (got : Replies) → IsFetched x (fetched n x got).place
fetched_so zero x got = fetched_itself x
fetched_so (suc n) x got = by (ready x.core) refl (λ y g. fetched_so n y g)
  where
    one : (ticket : ℕ) → ready x.core ≡ Some ticket → IsFetched x (with_core x (stepped x.core (event.Take ticket) x.clock).core)
    one ticket e = record { life = refl; tickets = refl; streams = refl; aged = fetch_ages x.core ticket x.clock e; settings = (steps_stay x.core (event.Take ticket) x.clock).settings }

    by_outcome : (ticket : ℕ) (y : Place) (r : Result Outcome StepFault) → IsFetched x y → ((y : Place) (g : Replies) → IsFetched y (fetched n y g).place) → IsFetched x (fetched_as (fetched n) y ticket got r).place
    by_outcome ticket y (Ok (outcome.Replied a)) h more = fetched_on x y _ h (more y _)
    by_outcome ticket y (Ok outcome.Waiting) h more = h
    by_outcome ticket y (Ok outcome.Pending) h more = h
    by_outcome ticket y (Ok outcome.Noted) h more = h
    by_outcome ticket y (Ok (outcome.Item i)) h more = h
    by_outcome ticket y (Ok (outcome.Job j)) h more = h
    by_outcome ticket y (Err f) h more = h

    by : (o : Option ℕ) → ready x.core ≡ o → ((y : Place) (g : Replies) → IsFetched y (fetched n y g).place) → IsFetched x (fetched_if (fetched n) x got o).place
    by None e more = fetched_itself x
    by (Some ticket) e more = by_outcome ticket _ (stepped x.core (event.Take ticket) x.clock).outcome (one ticket e) more

pub all_so : (x : Place) (got : Replies) → IsFetched x (all_fetched x got).place
all_so x got = fetched_so (length x.core.asks) x got

-- ---- the place behind a turn

-- the watches of the fetched place
watches_same : (a b : Side) → Aged a b → b.broadcasts.watches ≡ a.broadcasts.watches
watches_same a b h = ap (λ (x : Side). x.broadcasts.watches) h.1

aged_messages : (story : Story) (whole : Whole) (got : ℕ → List WatchItem) (a b : Side) → Aged a b → MessagesOk story whole got a.broadcasts → MessagesOk story whole got b.broadcasts
aged_messages story whole got a b h k = subst (λ (x : Side). MessagesOk story whole got x.broadcasts) (sym h.1) (stepped_messages story whole got a.broadcasts (with_step a.broadcasts h.0) refl refl k)

-- Of a step of the core `c` that left `d`, where `x` was the place, `y` stood behind it, and `z` once the replies were fetched.
pub record Turned (namespace : List ℕ) (x : Place) (d : Core) (y z : Place) (e : CoreEvent) (o : Outcome) : Type 0 where
  pub stepping : Stepping namespace x.core d e o
  pub core : y.core ≡ d
  pub fetched : IsFetched y z

turned_aged : (namespace : List ℕ) (x : Place) (d : Core) (y z : Place) (e : CoreEvent) (o : Outcome) → Turned namespace x d y z e o → Aged (side d) (side z.core)
turned_aged namespace x d y z e o t = subst (λ (c : Core). Aged (side c) (side z.core)) t.core t.fetched.aged

turned_settings : (namespace : List ℕ) (x : Place) (d : Core) (y z : Place) (e : CoreEvent) (o : Outcome) → Turned namespace x d y z e o → z.core.settings ≡ x.core.settings
turned_settings namespace x d y z e o t = t.fetched.settings ∙ ap (λ (c : Core). c.settings) t.core ∙ t.stepping.settings

-- in general: what the takers have behind the turn, and that its watches are known
turned_ok : (namespace : List ℕ) (f : Change → Option Change) → Strips namespace f → (whole : Whole) (items after : List Item) (p : ℕ) (x : Place) (d : Core) (y z : Place) (e : CoreEvent) (o : Outcome) (told : List Item) (tickets : BTreeSet ℕ)
    → PlaceOk namespace whole f items p x → Turned namespace x d y z e o → Truth namespace f whole (counted_side x.core) e → IsNew (got_of p items) e
    → received_by (got_of p items) e (Ok o) ≡ got_of p after → EachWatch (Known p told tickets) x.core.watches.watches → NewHas (Known p told tickets) e → IsUntaken (taken_of p items) e → taken_after (taken_of p items) e (Ok o) ≡ taken_of p after
    → SideOk (story_by f namespace whole) (got_of p after) (side z.core) × EachWatch (Known p told tickets) z.core.watches.watches × EachWatch (HasTold whole namespace (taken_of p after)) z.core.watches.watches
    × MessagesOk (story_by f namespace whole) whole (taken_of p after) z.core.watches
turned_ok namespace f k whole items after p x d y z e o told tickets h t truth is_new got known new untaken taken =
    let story = story_by f namespace whole in
    let aged = turned_aged namespace x d y z e o t in
    let stands = touch_ok story (got_of p items) namespace (counted_side x.core) (side d) e (Ok o) (story_by_rises namespace f k whole) truth.0 is_new (stepped_ok story (got_of p items) (side x.core) x.core.steps h.holds) t.stepping.touch in
    let watches = touch_firm (Known p told tickets) (known_firm p told tickets) namespace (counted_side x.core) (side d) e (Ok o) new t.stepping.touch known in
    let begun = stepped_ok story (got_of p items) (side x.core) x.core.steps h.holds in
    let records = touch_told whole namespace (taken_of p items) story (got_of p items) (counted_side x.core) (side d) e (Ok o) truth.1 untaken begun.holds t.stepping.touch h.told in
    let counted = stepped_messages story whole (taken_of p items) x.core.watches (counted_side x.core).broadcasts refl refl h.messages in
    let messages = touch_messages story whole namespace (taken_of p items) (counted_side x.core) (side d) e (Ok o) (story_by_rises namespace f k whole) truth.0 truth.2 untaken begun.holds t.stepping.touch counted in (
      aged_side story (got_of p after) (side d) (side z.core) aged (subst (λ (g : Received). SideOk story g (side d)) got stands),
      subst (EachWatch (Known p told tickets)) (sym (watches_same (side d) (side z.core) aged)) watches,
      subst (λ (g : ℕ → List WatchItem). EachWatch (HasTold whole namespace g) z.core.watches.watches) taken
          (subst (EachWatch (HasTold whole namespace (taken_after (taken_of p items) e (Ok o)))) (sym (watches_same (side d) (side z.core) aged)) records),
      subst (λ (g : ℕ → List WatchItem). MessagesOk story whole g z.core.watches) taken (aged_messages story whole (taken_after (taken_of p items) e (Ok o)) (side d) (side z.core) aged messages),
    )

-- an event that asks nothing, and by which nothing is taken
abbrev pub is_ask : CoreEvent → Bool
is_ask (event.Ask ticket q word) = true
is_ask _ = false

abbrev pub NoItem : Outcome → Type 0
NoItem o = (i : WatchItem) → o ≡ outcome.Item i → ⊥

quiet_received : (got : Received) (e : CoreEvent) (o : Outcome) → NoItem o → received_by got e (Ok o) ≡ got
quiet_received got e (outcome.Item i) q = absurd (q i refl)
quiet_received got e (outcome.Replied a) q = refl
quiet_received got e outcome.Waiting q = refl
quiet_received got e outcome.Pending q = refl
quiet_received got e (outcome.Job j) q = refl
quiet_received got e outcome.Noted q = refl

quiet_taken : (got : ℕ → List WatchItem) (e : CoreEvent) (o : Outcome) → NoItem o → taken_after got e (Ok o) ≡ got
quiet_taken got e (outcome.Item i) q = absurd (q i refl)
quiet_taken got e (outcome.Replied a) q = refl
quiet_taken got e outcome.Waiting q = refl
quiet_taken got e outcome.Pending q = refl
quiet_taken got e (outcome.Job j) q = refl
quiet_taken got e outcome.Noted q = refl

quiet_untaken : (got : ℕ → List WatchItem) (e : CoreEvent) → is_ask e ≡ false → IsUntaken got e
quiet_untaken got (event.Ask ticket q word) e = absurd (cc)
quiet_untaken got (event.Answer call a) e = tt
quiet_untaken got (event.Lost call) e = tt
quiet_untaken got (event.Tick word) e = tt
quiet_untaken got (event.Item s x) e = tt
quiet_untaken got (event.Cut s) e = tt
quiet_untaken got (event.Take ticket) e = tt
quiet_untaken got (event.Leave ticket) e = tt
quiet_untaken got event.Work e = tt

quiet_new : (got : Received) (e : CoreEvent) → is_ask e ≡ false → IsNew got e
quiet_new got (event.Ask ticket q word) e = absurd (cc)
quiet_new got (event.Answer call a) e = tt
quiet_new got (event.Lost call) e = tt
quiet_new got (event.Tick word) e = tt
quiet_new got (event.Item s x) e = tt
quiet_new got (event.Cut s) e = tt
quiet_new got (event.Take ticket) e = tt
quiet_new got (event.Leave ticket) e = tt
quiet_new got event.Work e = tt

quiet_has : (P : Watch → Type 0) (e : CoreEvent) → is_ask e ≡ false → NewHas P e
quiet_has P (event.Ask ticket q word) e = absurd (cc)
quiet_has P (event.Answer call a) e = tt
quiet_has P (event.Lost call) e = tt
quiet_has P (event.Tick word) e = tt
quiet_has P (event.Item s x) e = tt
quiet_has P (event.Cut s) e = tt
quiet_has P (event.Take ticket) e = tt
quiet_has P (event.Leave ticket) e = tt
quiet_has P event.Work e = tt

pub quiet_turn : (namespace : List ℕ) (f : Change → Option Change) → Strips namespace f → (whole : Whole) (items more : List Item) (p : ℕ) (x : Place) (d : Core) (y z : Place) (e : CoreEvent) (o : Outcome)
    → is_ask e ≡ false → NoItem o → IsSilent p more → IsUnasking p more → y.tickets ≡ x.tickets → Truth namespace f whole (counted_side x.core) e
    → PlaceOk namespace whole f items p x → Turned namespace x d y z e o → PlaceOk namespace whole f (items ++ more) p z
quiet_turn namespace f k whole items more p x d y z e o q n s u tickets told h t =
    let same : z.tickets ≡ x.tickets = t.fetched.tickets ∙ tickets in
    let both = turned_ok namespace f k whole items (items ++ more) p x d y z e o (life p items ++ more) x.tickets h t told (quiet_new (got_of p items) e q)
    (quiet_received (got_of p items) e o n ∙ same_got p items more s) (known_later p (life p items) more x.tickets x.tickets (λ t e. e) x.core.watches.watches h.watches) (quiet_has (Known p (life p items ++ more) x.tickets) e q)
    (quiet_untaken (taken_of p items) e q) (quiet_taken (taken_of p items) e o n ∙ same_taken p items more s) in
    record {
      holds = both.0;
      namespace_is = ap (λ (g : Settings). g.namespace) (turned_settings namespace x d y z e o t) ∙ h.namespace_is;
      untaken = λ t e. taken_still p t items more s ∙ h.untaken t (ap (λ (n : BTreeSet ℕ). is_among n t) (sym same) ∙ e);
      unasked = λ t e. asked_same p t items more s u ∙ h.unasked t (ap (λ (n : BTreeSet ℕ). is_among n t) (sym same) ∙ e);
      watches = subst (λ (l : List Item). EachWatch (Known p l z.tickets) z.core.watches.watches) (sym (life_still p items more s)) (subst (λ (n : BTreeSet ℕ). EachWatch (Known p (life p items ++ more) n) z.core.watches.watches) (sym same) both.1);
      told = both.2;
      messages = both.3;
    }

-- ---- a request is asked

-- items of this proxy that ask this under this ticket, and nothing under another
pub record Asking (p ticket : ℕ) (q : Request) (more : List Item) : Type 0 where
  pub asks : asked_as p ticket more ≡ Some q
  pub only : (t : ℕ) → (ticket == t) ≡ false → asked_as p t more ≡ None

ask_is : (a b : Request) → a ≡ b → Some a ≡ Some b
ask_is a b e = ap (λ (q : Request). Some q) e

same_ticket : (t : ℕ) → (t == t) ≡ true
same_ticket t = grind (arith, nat_tests)

equal : (a b : ℕ) → (a == b) ≡ true → a ≡ b
equal a b e = grind (arith, nat_tests)

turned_about : (a b : ℕ) → (a == b) ≡ false → (b == a) ≡ false
turned_about a b e = grind (arith, nat_tests)

pub asked_turn : (namespace : List ℕ) (f : Change → Option Change) → Strips namespace f → (whole : Whole) (items more : List Item) (p : ℕ) (x : Place) (d : Core) (y z : Place) (ticket : ℕ) (q : Request) (word : ℕ) (o : Outcome)
    → is_among x.tickets ticket ≡ false → NoItem o → IsSilent p more → Asking p ticket q more → y.tickets ≡ with_number x.tickets ticket
    → PlaceOk namespace whole f items p x → Turned namespace x d y z (event.Ask ticket q word) o → PlaceOk namespace whole f (items ++ more) p z
asked_turn namespace f k whole items more p x d y z ticket q word o free plain s asks tickets h t =
    let same : z.tickets ≡ with_number x.tickets ticket = t.fetched.tickets ∙ tickets in
    let told = life p items ++ more in
    let after = with_number x.tickets ticket in
    let new : NewHas (Known p told after) (event.Ask ticket q word) = λ ask is. record {
      among = among_new x.tickets ticket;
      ask = ask;
      asked = asked-append p ticket (life p items) more ∙ ap (λ o. or_later o (asked_as p ticket more)) (h.unasked ticket free) ∙ asks.asks ∙ ask_is q (request.Watch ask) is;
      same = refl;
      start = λ e. (refl, e);
    } in
    let both = turned_ok namespace f k whole items (items ++ more) p x d y z (event.Ask ticket q word) o told after h t (tt, tt, tt) (ap queued_events (h.untaken ticket free))
    (unmoved o plain ∙ same_got p items more s) (known_later p (life p items) more x.tickets after (λ t e. among_still x.tickets ticket t e) x.core.watches.watches h.watches) new
    (h.untaken ticket free) (quiet_taken (taken_of p items) (event.Ask ticket q word) o plain ∙ same_taken p items more s) in
    record {
      holds = both.0;
      namespace_is = ap (λ (g : Settings). g.namespace) (turned_settings namespace x d y z (event.Ask ticket q word) o t) ∙ h.namespace_is;
      untaken = λ t e. taken_still p t items more s ∙ h.untaken t (not_among x.tickets ticket t (ap (λ (n : BTreeSet ℕ). is_among n t) (sym same) ∙ e));
      unasked = λ t e.
          let out : is_among after t ≡ false = ap (λ (n : BTreeSet ℕ). is_among n t) (sym same) ∙ e in
          ap (asked_as p t) (life_still p items more s) ∙ asked-append p t (life p items) more ∙ ap (λ o. or_later o (asked_as p t more)) (h.unasked t (not_among x.tickets ticket t out)) ∙ asks.only t (other t out);
      watches = subst (λ (l : List Item). EachWatch (Known p l z.tickets) z.core.watches.watches) (sym (life_still p items more s)) (subst (λ (n : BTreeSet ℕ). EachWatch (Known p told n) z.core.watches.watches) (sym same) both.1);
      told = both.2;
      messages = both.3;
    }
  where
    unmoved : (o : Outcome) → ((i : WatchItem) → o ≡ outcome.Item i → ⊥) → received_by (got_of p items) (event.Ask ticket q word) (Ok o) ≡ got_of p items
    unmoved (outcome.Item i) n = absurd (n i refl)
    unmoved (outcome.Replied a) n = refl
    unmoved outcome.Waiting n = refl
    unmoved outcome.Pending n = refl
    unmoved (outcome.Job j) n = refl
    unmoved outcome.Noted n = refl

    other : (t : ℕ) → is_among (with_number x.tickets ticket) t ≡ false → (ticket == t) ≡ false
    other t e = by (ticket == t) refl
      where
        by : (b : Bool) → (ticket == t) ≡ b → (ticket == t) ≡ false
        by false q = q
        by true q =
            let in' : is_among (with_number x.tickets ticket) t ≡ true = ap (is_among (with_number x.tickets ticket)) (sym (equal ticket t q)) ∙ among_new x.tickets ticket in
            absurd (let no' : true ≡ false = sym in' ∙ e in cc)

-- ---- a message is taken

pub taken_turn : (namespace : List ℕ) (f : Change → Option Change) → Strips namespace f → (whole : Whole) (items more : List Item) (p : ℕ) (x : Place) (d : Core) (y z : Place) (ticket : ℕ) (i : WatchItem)
    → ((so_far : List Item) → life p (items ++ more) ≡ life p items ++ more) → ((t : ℕ) → taken_for p t more ≡ cond (t == ticket) (i ∷ []) []) → IsUnasking p more → is_among x.tickets ticket ≡ true → y.tickets ≡ x.tickets
    → PlaceOk namespace whole f items p x → Turned namespace x d y z (event.Take ticket) (outcome.Item i) → PlaceOk namespace whole f (items ++ more) p z
taken_turn namespace f k whole items more p x d y z ticket i lives takes u among tickets h t =
    let same : z.tickets ≡ x.tickets = t.fetched.tickets ∙ tickets in
    let live : life p (items ++ more) ≡ life p items ++ more = lives [] in
    let both = turned_ok namespace f k whole items (items ++ more) p x d y z (event.Take ticket) (outcome.Item i) (life p items ++ more) x.tickets h t (tt, tt, tt) tt
    (λ j n. sym (got n) j) (known_later p (life p items) more x.tickets x.tickets (λ t e. e) x.core.watches.watches h.watches) tt tt
    (λ j n. sym (more_taken n) j) in
    record {
      holds = both.0;
      namespace_is = ap (λ (g : Settings). g.namespace) (turned_settings namespace x d y z (event.Take ticket) (outcome.Item i) t) ∙ h.namespace_is;
      untaken = λ n e.
          let out : is_among x.tickets n ≡ false = ap (λ (m : BTreeSet ℕ). is_among m n) (sym same) ∙ e in
          all n ∙ ap (λ (l : List WatchItem). l ++ cond (n == ticket) (i ∷ []) []) (h.untaken n out) ∙ ap (λ b. cond b (i ∷ []) []) (other n out);
      unasked = λ n e.
          ap (asked_as p n) live ∙ asked-append p n (life p items) more ∙ ap (λ o. or_later o (asked_as p n more)) (h.unasked n (ap (λ (m : BTreeSet ℕ). is_among m n) (sym same) ∙ e)) ∙ u n;
      watches = subst (λ (l : List Item). EachWatch (Known p l z.tickets) z.core.watches.watches) (sym live) (subst (λ (n : BTreeSet ℕ). EachWatch (Known p (life p items ++ more) n) z.core.watches.watches) (sym same) both.1);
      told = both.2;
      messages = both.3;
    }
  where
    all : (n : ℕ) → taken_for p n (life p (items ++ more)) ≡ taken_for p n (life p items) ++ cond (n == ticket) (i ∷ []) []
    all n = ap (taken_for p n) (lives []) ∙ taken-append p n (life p items) more ∙ ap (λ (l : List WatchItem). taken_for p n (life p items) ++ l) (takes n)

    more_taken : (n : ℕ) → taken_of p (items ++ more) n ≡ taken_more (taken_of p items) ticket i n
    more_taken n = all n ∙ by (n == ticket)
      where
        by : (b : Bool) → taken_for p n (life p items) ++ cond b (i ∷ []) [] ≡ cond b (taken_for p n (life p items) ++ i ∷ []) (taken_for p n (life p items))
        by true = refl
        by false = append-nil (taken_for p n (life p items))

    got : (n : ℕ) → got_of p (items ++ more) n ≡ received (got_of p items) ticket i n
    got n = ap queued_events (all n) ∙ by (n == ticket)
      where
        by : (b : Bool) → queued_events (taken_for p n (life p items) ++ cond b (i ∷ []) []) ≡ cond b (got_of p items n ++ item_events i) (got_of p items n)
        by true = queued-append (taken_for p n (life p items)) (i ∷ []) ∙ ap (λ (l : List Event). got_of p items n ++ l) (append-nil (item_events i))
        by false = ap queued_events (append-nil (taken_for p n (life p items)))

    other : (n : ℕ) → is_among x.tickets n ≡ false → (n == ticket) ≡ false
    other n e = by (n == ticket) refl
      where
        by : (b : Bool) → (n == ticket) ≡ b → (n == ticket) ≡ false
        by false q = q
        by true q = absurd (let no' : true ≡ false = sym (ap (is_among x.tickets) (equal n ticket q) ∙ among) ∙ e in cc)

-- the ticket of a message that is taken is one that was asked
pub taken_among : (namespace : List ℕ) (whole : Whole) (f : Change → Option Change) (items : List Item) (p : ℕ) (x : Place) (d : Side) (ticket : ℕ) (i : WatchItem) → PlaceOk namespace whole f items p x
    → Touch namespace (counted_side x.core) (event.Take ticket) d (Ok (outcome.Item i)) → is_among x.tickets ticket ≡ true
taken_among namespace whole f items p x _ _ _ h (took ticket w i is e q) =
    ap (is_among x.tickets) (sym (watch_itself ticket x.core.watches.watches w e)) ∙ (found (Known p (life p items) x.tickets) ticket x.core.watches.watches w e h.watches).among
taken_among namespace whole f items p x _ ticket i h (leaves e o q) = absurd (cc)
