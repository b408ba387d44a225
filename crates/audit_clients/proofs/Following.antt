-- Where the watches stand, behind one item more that keeps the rules.
use Rattle.std.proofs.Common.{◌≡◌, ℕ, ◌<◌, ◌≤◌, ◌+◌, ◌-◌, ◌==◌, Bool, true, false, not, cond, ◌&&◌, nat_le, List, [], ◌∷◌, ◌++◌, append_assoc, append-nil, length, Option, None, Some, refl, sym, ◌∙◌, ap, subst, arith}
use Rattle.std.specs.Option.{option_map}
use Rattle.std.proofs.lemmas.Bool.{le-leb, lt-leb}
use Rattle.std.proofs.lemmas.Bool.Decides.{nat_tests}
use Rattle.std.proofs.lemmas.List.{length-append}
use Rattle.etcd_types.specs.declared.request.Request.{Request}
use Rattle.etcd_types.specs.declared.request.Request.TheVariants as request
use Rattle.etcd_types.specs.declared.request.WatchAsk.{WatchAsk}
use Rattle.etcd_types.specs.declared.watch.Event.{Event}
use Rattle.etcd_types.specs.declared.watch.WatchItem.{WatchItem}
use Rattle.etcd_types.specs.declared.watch.WatchItem.TheVariants.{Created, Events, Canceled}
use Rattle.etcd_types.proofs.Bools.{and_first, and_second}
use Rattle.first_places.specs.Places.{is_pair}
use Rattle.first_places.proofs.Kept.{first_same, second_same}
use Rattle.script_text.specs.declared.item.Item.{Item}
use Rattle.script_text.specs.declared.item.Item.TheVariants as item
use Rattle.store_model.specs.State.{State}
use Rattle.watch_model.specs.Queues.{is_nil, item_events, queued_events}
use Rattle.world_model.specs.Answers.{Seen, saw, seen}
use Rattle.world_model.specs.Lives.{asked_as, begins, life, namespace_of, world_of}
use Rattle.world_model.specs.Received.{start_of, taken_by, taken_for}
use Rattle.audit_lives.specs.Finds.{asked_in, found_or}
use Rattle.audit_lives.specs.Index.{life_start}
use Rattle.audit_lives.proofs.Growing.{life_more}
use Rattle.audit_lives.proofs.More.{asked_more, start_renewed, start_stays, taken_more}
use Rattle.audit_model.specs.Order.{has_started, in_order, is_watch_of}
use Rattle.audit_model.specs.Takes.{comes_in_turn, is_front, takes_as, takes_by, takes_for, takes_from, takes_so}
use Rattle.audit_clients.specs.Takings.{Follows, IsTaking, Takes, TakesOk, TicketOk, asked_watch, taking_at, taking_from}
use Rattle.audit_clients.specs.declared.takings.Taking.{Taking}
use Rattle.audit_clients.proofs.Dues.{still_front}
use Rattle.audit_clients.proofs.StoreGrows.{GoesOn, is_no_world, saw_on, seen_next}
use Rattle.audit_clients.proofs.Tracking.{queued_more, start_decided}

-- ---- no more than a store that goes on

moved : (s t : State) (p q : List ℕ) (asked : Option Request) (taken : List WatchItem) (o : Option Taking) → p ≡ q → GoesOn s t → TicketOk s p asked taken o → TicketOk t q asked taken o
moved s t p q None taken o e g h = h
moved s t p q (Some (request.Watch ask)) taken o e g h =
    record { taking = h.taking; front = λ start is. subst (λ (n : List ℕ). is_front t n ask start (queued_events taken) ≡ true) e (still_front s t p ask start (queued_events taken) g (h.front start is)) }
moved s t p q (Some r) taken o e g h = tt

-- a ticket under which something is asked first
begun : (s : State) (p : List ℕ) (asked : Option Request) → TicketOk s p asked [] None
begun s p None = (refl, refl)
begun s p (Some (request.Watch ask)) = record { taking = refl; front = λ start e. refl }
begun s p (Some r) = tt

-- ---- the items

no_world : (j : Item) (items : List Item) (x : Item) → in_order (j ∷ items) x ≡ true → is_no_world x ≡ true
no_world j items (item.World members namespace leasing) e = absurd (cc)
no_world j items x e = refl

first_world : (x : Item) (more : List Item) → in_order [] x ≡ true → world_of (x ∷ more) ≡ world_of (x ∷ [])
first_world (item.World members namespace leasing) more e = refl
first_world x more e = absurd (cc)

rooted_more : (items : List Item) (x : Item) → in_order items x ≡ true → (is_nil items ≡ false → (more : List Item) → world_of (items ++ more) ≡ world_of items)
    → (more : List Item) → world_of ((items ++ x ∷ []) ++ more) ≡ world_of (items ++ x ∷ [])
rooted_more [] x e r more = first_world x more e
rooted_more (j ∷ items) x e r more =
    ap world_of (append_assoc (j ∷ items) (x ∷ []) more) ∙ r refl (x ∷ more) ∙ sym (r refl (x ∷ []))

goes_on : (j : Item) (items : List Item) (x : Item) → in_order (j ∷ items) x ≡ true → GoesOn (seen (j ∷ items)).store (seen ((j ∷ items) ++ x ∷ [])).store
goes_on j items x e =
    subst (λ (s : Seen). GoesOn (seen (j ∷ items)).store s.store) (sym (seen_next (j ∷ items) x)) (saw_on (seen (j ∷ items)) x (no_world j items x e))

-- ---- what is kept

late : (start place : ℕ) (t : Taking) → t.place < place → place ≤ start → taking_from start (Some t) ≡ None
late start place t l k = ap (λ (b : Bool). cond b (Some t) None) (lt-leb start t.place (omega (arith, l, k)))

none_since : (start place : ℕ) (o : Option Taking) → ((t : Taking) → o ≡ Some t → t.place < place) → place ≤ start → taking_from start o ≡ None
none_since start place None f l = refl
none_since start place (Some t) f l = late start place t (f t refl) l

-- ---- a ticket of which nothing is taken

kept_on : (items : List Item) (x : Item) (p ticket : ℕ) (o : Option Taking) (asked : Option Request) (taken : List WatchItem) → in_order items x ≡ true
    → (is_nil items ≡ false → (more : List Item) → world_of (items ++ more) ≡ world_of items) → asked ≡ asked_as p ticket (life p items)
    → TicketOk (seen items).store (namespace_of items) asked taken o
    → TicketOk (seen (items ++ x ∷ [])).store (namespace_of (items ++ x ∷ [])) (found_or asked (asked_in p ticket x)) taken o
kept_on items x p ticket o None taken e r a h =
    subst (λ (ts : List WatchItem). TicketOk (seen (items ++ x ∷ [])).store (namespace_of (items ++ x ∷ [])) (asked_in p ticket x) ts o) (sym h.0)
    (subst (λ (t : Option Taking). TicketOk (seen (items ++ x ∷ [])).store (namespace_of (items ++ x ∷ [])) (asked_in p ticket x) [] t) (sym h.1)
    (begun (seen (items ++ x ∷ [])).store (namespace_of (items ++ x ∷ [])) (asked_in p ticket x)))
kept_on [] x p ticket o (Some q) taken e r a h = absurd (none_some a)
  where
    none_some : ◌≡◌ {A = Option Request} (Some q) None → ⊥
    none_some k = cc
kept_on (j ∷ items) x p ticket o (Some q) taken e r a h =
    moved (seen (j ∷ items)).store (seen ((j ∷ items) ++ x ∷ [])).store (namespace_of (j ∷ items)) (namespace_of ((j ∷ items) ++ x ∷ [])) (Some q) taken o
    (sym (ap (λ (w : List ℕ × List ℕ). w.0) (r refl (x ∷ [])))) (goes_on j items x e) h

-- what the life tells of a ticket, behind the item
abbrev Told : List Item → ℕ → ℕ → List Item → Option Taking → Type 0
Told items p ticket own o = TicketOk (seen items).store (namespace_of items) (asked_as p ticket own) (taken_for p ticket own) o

other_ticket : (items : List Item) (x : Item) (p ticket : ℕ) (old new : List ((ℕ × ℕ) × Taking)) → in_order items x ≡ true → Follows old items → taking_at new p ticket ≡ taking_at old p ticket → taken_by p ticket x ≡ []
    → Told (items ++ x ∷ []) p ticket (life p (items ++ x ∷ [])) (taking_from (life_start p (items ++ x ∷ [])) (taking_at new p ticket))
other_ticket items x p ticket old new e f same none = by (begins p x) refl
  where
    own : List Item
    own = life p items

    by : (b : Bool) → begins p x ≡ b → Told (items ++ x ∷ []) p ticket (life p (items ++ x ∷ [])) (taking_from (life_start p (items ++ x ∷ [])) (taking_at new p ticket))
    by true h =
        let again : life p (items ++ x ∷ []) ≡ [] = life_more p items x ∙ ap (λ (b : Bool). cond b [] (own ++ x ∷ [])) h in
        let start : life_start p (items ++ x ∷ []) ≡ length items + 1 = start_renewed items x p h in
        let gone : taking_from (life_start p (items ++ x ∷ [])) (taking_at new p ticket) ≡ None =
        ap (taking_from (life_start p (items ++ x ∷ []))) same ∙ none_since (life_start p (items ++ x ∷ [])) (length items) (taking_at old p ticket) (f.before p ticket) (omega (arith, start)) in
        subst (λ (xs : List Item). Told (items ++ x ∷ []) p ticket xs (taking_from (life_start p (items ++ x ∷ [])) (taking_at new p ticket))) (sym again)
        (subst (λ (o : Option Taking). Told (items ++ x ∷ []) p ticket [] o) (sym gone) (refl, refl))
    by false h =
        let on : life p (items ++ x ∷ []) ≡ own ++ x ∷ [] = life_more p items x ∙ ap (λ (b : Bool). cond b [] (own ++ x ∷ [])) h in
        let kept : taking_from (life_start p (items ++ x ∷ [])) (taking_at new p ticket) ≡ taking_from (life_start p items) (taking_at old p ticket) =
        (λ k. taking_from (start_stays items x p h k) (same k)) in
        let taken : taken_for p ticket (own ++ x ∷ []) ≡ taken_for p ticket own = taken_more p ticket own x ∙ ap (λ (ts : List WatchItem). taken_for p ticket own ++ ts) none ∙ append-nil (taken_for p ticket own) in
        let next = kept_on items x p ticket (taking_from (life_start p items) (taking_at old p ticket)) (asked_as p ticket own) (taken_for p ticket own) e f.rooted refl (f.tickets p ticket) in
        subst (λ (xs : List Item). Told (items ++ x ∷ []) p ticket xs (taking_from (life_start p (items ++ x ∷ [])) (taking_at new p ticket))) (sym on)
        (subst (λ (o : Option Taking). Told (items ++ x ∷ []) p ticket (own ++ x ∷ []) o) (sym kept)
        (subst (λ (ts : List WatchItem). TicketOk (seen (items ++ x ∷ [])).store (namespace_of (items ++ x ∷ [])) (asked_as p ticket (own ++ x ∷ [])) ts (taking_from (life_start p items) (taking_at old p ticket))) (sym taken)
        (subst (λ (q : Option Request). TicketOk (seen (items ++ x ∷ [])).store (namespace_of (items ++ x ∷ [])) q (taken_for p ticket own) (taking_from (life_start p items) (taking_at old p ticket))) (sym (asked_more p ticket own x)) next)))

-- ---- the ticket of which a message is taken

first_created : (taken : List WatchItem) (h : _) → comes_in_turn taken (Created h) ≡ true → taken ≡ []
first_created [] h e = refl
first_created (t ∷ ts) h e = absurd (cc)

some_events : (taken : List WatchItem) (h : _) (events : List Event) → comes_in_turn taken (Events h events) ≡ true → is_nil taken ≡ false
some_events [] h events e = absurd (cc)
some_events (t ∷ ts) h events e = refl

some_cancelled : (taken : List WatchItem) (h : _) (compaction : ℕ) → comes_in_turn taken (Canceled h compaction) ≡ true → is_nil taken ≡ false
some_cancelled [] h compaction e = absurd (cc)
some_cancelled (t ∷ ts) h compaction e = refl

-- a message without events leaves what was taken
no_more : (items : List Item) (ask : WatchAsk) (start : ℕ) (taken : List WatchItem) (i : WatchItem) → item_events i ≡ [] → is_nil taken ≡ false
    → ((s : ℕ) → start_of ask taken ≡ Some s → is_front (seen items).store (namespace_of items) ask s (queued_events taken) ≡ true) → start_of ask (taken ++ i ∷ []) ≡ Some start
    → is_front (seen items).store (namespace_of items) ask start (queued_events (taken ++ i ∷ [])) ≡ true
no_more items ask start taken i none some f is =
    ap (is_front (seen items).store (namespace_of items) ask start) (queued_more taken i ∙ ap (λ (es : List Event). queued_events taken ++ es) none ∙ append-nil (queued_events taken))
    ∙ f start (sym (start_decided ask taken i some) ∙ is)

front_more : (items : List Item) (ask : WatchAsk) (start : ℕ) (taken : List WatchItem) (i : WatchItem) → comes_in_turn taken i ≡ true → takes_as items ask start taken i ≡ true
    → ((s : ℕ) → start_of ask taken ≡ Some s → is_front (seen items).store (namespace_of items) ask s (queued_events taken) ≡ true) → start_of ask (taken ++ i ∷ []) ≡ Some start
    → is_front (seen items).store (namespace_of items) ask start (queued_events (taken ++ i ∷ [])) ≡ true
front_more items ask start taken (Created h) turn e f is =
    ap (λ (ts : List WatchItem). is_front (seen items).store (namespace_of items) ask start (queued_events (ts ++ Created h ∷ []))) (first_created taken h turn)
front_more items ask start taken (Events h []) turn e f is = no_more items ask start taken (Events h []) refl (some_events taken h [] turn) f is
front_more items ask start taken (Events h (x ∷ es)) turn e f is = ap (is_front (seen items).store (namespace_of items) ask start) (queued_more taken (Events h (x ∷ es))) ∙ e
front_more items ask start taken (Canceled h compaction) turn e f is = no_more items ask start taken (Canceled h compaction) refl (some_cancelled taken h compaction turn) f is

taken_ok : (items : List Item) (ask : WatchAsk) (taken : List WatchItem) (i : WatchItem) (o : Option Taking) (own : Taking) → takes_by items ask taken i ≡ true
    → TakesOk (seen items).store (namespace_of items) ask taken o → IsTaking (Some own) ask (taken ++ i ∷ []) → TakesOk (seen items).store (namespace_of items) ask (taken ++ i ∷ []) (Some own)
taken_ok items ask taken i o own by ok tracks = record {
  taking = tracks;
  front = λ start is.
      front_more items ask start taken i (and_first turn from by)
      (subst (λ (s : Option ℕ). takes_from items ask s taken i ≡ true) is (and_second turn from by)) ok.front is;
}
  where
    turn : Bool
    turn = comes_in_turn taken i

    from : Bool
    from = takes_from items ask (start_of ask (taken ++ i ∷ [])) taken i

same_self : (n : ℕ) → (n == n) ≡ true
same_self n = grind (arith, nat_tests)

asked_still : (a : Option Request) → found_or a None ≡ a
asked_still None = refl
asked_still (Some q) = refl

-- one that is asked for stands behind some items
some_asked : (items : List Item) (p ticket : ℕ) (q : Request) → asked_as p ticket (life p items) ≡ Some q → is_nil items ≡ false
some_asked [] p ticket q e = absurd (none_some e)
  where
    none_some : ◌≡◌ {A = Option Request} None (Some q) → ⊥
    none_some k = cc
some_asked (j ∷ items) p ticket q e = refl

own_ticket : (items : List Item) (p ticket : ℕ) (ask : WatchAsk) (i : WatchItem) (old new : List ((ℕ × ℕ) × Taking)) → takes_so items (item.Taken p ticket i) ≡ true → Follows old items
    → asked_as p ticket (life p items) ≡ Some (request.Watch ask) → Takes p ticket (life_start p items) (length items) ask i old new
    → Told (items ++ item.Taken p ticket i ∷ []) p ticket (life p (items ++ item.Taken p ticket i ∷ []))
    (taking_from (life_start p (items ++ item.Taken p ticket i ∷ [])) (taking_at new p ticket))
own_ticket items p ticket ask i old new t f asked w =
    subst (λ (xs : List Item). Told (items ++ x ∷ []) p ticket xs (taking_from (life_start p (items ++ x ∷ [])) (taking_at new p ticket))) (sym on)
    (subst (λ (o : Option Taking). Told (items ++ x ∷ []) p ticket (own ++ x ∷ []) o) (sym kept)
    (subst (λ (ts : List WatchItem). TicketOk (seen (items ++ x ∷ [])).store (namespace_of (items ++ x ∷ [])) (asked_as p ticket (own ++ x ∷ [])) ts (Some w.own)) (sym taken)
    (subst (λ (q : Option Request). TicketOk (seen (items ++ x ∷ [])).store (namespace_of (items ++ x ∷ [])) q (taken_for p ticket own ++ i ∷ []) (Some w.own)) (sym still)
    (subst (λ (n : List ℕ). TakesOk (seen (items ++ x ∷ [])).store n ask (taken_for p ticket own ++ i ∷ []) (Some w.own)) (sym named)
    (subst (λ (s : Seen). TakesOk s.store (namespace_of items) ask (taken_for p ticket own ++ i ∷ []) (Some w.own)) (sym (seen_next items x)) ok)))))
  where
    x : Item
    x = item.Taken p ticket i

    own : List Item
    own = life p items

    on : life p (items ++ x ∷ []) ≡ own ++ x ∷ []
    on = life_more p items x

    inside : nat_le (life_start p (items ++ x ∷ [])) w.own.place ≡ true
    inside =
        let start : life_start p (items ++ x ∷ []) ≡ life_start p items = start_stays items x p refl in
        let place : w.own.place ≡ length items = w.now in
        le-leb (life_start p (items ++ x ∷ [])) w.own.place (low (length items) (length own) (life_start p (items ++ x ∷ [])) w.own.place start place)
      where
        low : (n l s m : ℕ) → s ≡ n - l → m ≡ n → s ≤ m
        low n l s m e k = omega (arith, e, k)

    kept : taking_from (life_start p (items ++ x ∷ [])) (taking_at new p ticket) ≡ Some w.own
    kept = ap (taking_from (life_start p (items ++ x ∷ []))) w.there ∙ ap (λ (b : Bool). cond b (Some w.own) None) inside

    taken : taken_for p ticket (own ++ x ∷ []) ≡ taken_for p ticket own ++ i ∷ []
    taken = taken_more p ticket own x ∙ (λ k. taken_for p ticket own ++ cond (same_self p k && same_self ticket k) (i ∷ []) [])

    still : asked_as p ticket (own ++ x ∷ []) ≡ Some (request.Watch ask)
    still = asked_more p ticket own x ∙ asked_still (asked_as p ticket own) ∙ asked

    named : namespace_of (items ++ x ∷ []) ≡ namespace_of items
    named = ap (λ (n : List ℕ × List ℕ). n.0) (f.rooted (some_asked items p ticket (request.Watch ask) asked) (x ∷ []))

    was : TakesOk (seen items).store (namespace_of items) ask (taken_for p ticket own) (taking_from (life_start p items) (taking_at old p ticket))
    was = subst (λ (q : Option Request). TicketOk (seen items).store (namespace_of items) q (taken_for p ticket own) (taking_from (life_start p items) (taking_at old p ticket))) asked (f.tickets p ticket)

    ok : TakesOk (seen items).store (namespace_of items) ask (taken_for p ticket own ++ i ∷ []) (Some w.own)
    ok =
        taken_ok items ask (taken_for p ticket own) i (taking_from (life_start p items) (taking_at old p ticket)) w.own
        (subst (λ (q : Option Request). takes_for items q (taken_for p ticket own) i ≡ true) asked t) was (w.tracks (taken_for p ticket own) was.taking)

-- ---- all of them

abbrev place_of : Option Taking → ℕ
place_of None = 0
place_of (Some t) = t.place

pub follows_taken : (items : List Item) (p ticket : ℕ) (ask : WatchAsk) (i : WatchItem) (old new : List ((ℕ × ℕ) × Taking)) → in_order items (item.Taken p ticket i) ≡ true
    → takes_so items (item.Taken p ticket i) ≡ true → Follows old items → asked_as p ticket (life p items) ≡ Some (request.Watch ask)
    → Takes p ticket (life_start p items) (length items) ask i old new → Follows new (items ++ item.Taken p ticket i ∷ [])
follows_taken items p ticket ask i old new e t f asked w = record {
  tickets = λ a b. ticket_of a b (is_pair (Some (p, ticket)) a b) refl;
  before = λ a b k is. place_at a b k is (is_pair (Some (p, ticket)) a b) refl;
  rooted = λ some more. rooted_more items x e f.rooted more;
}
  where
    x : Item
    x = item.Taken p ticket i

    size : length (items ++ x ∷ []) ≡ length items + 1
    size = length-append items (x ∷ [])

    Now : ℕ → ℕ → Type 0
    Now a b = Told (items ++ x ∷ []) a b (life a (items ++ x ∷ [])) (taking_from (life_start a (items ++ x ∷ [])) (taking_at new a b))

    ticket_of : (a b : ℕ) (s : Bool) → is_pair (Some (p, ticket)) a b ≡ s → Now a b
    ticket_of a b true h =
        subst (λ (m : ℕ). Now m b) (first_same p ticket a b h) (subst (λ (n : ℕ). Now p n) (second_same p ticket a b h) (own_ticket items p ticket ask i old new t f asked w))
    ticket_of a b false h = other_ticket items x a b old new e f (w.others a b h) (ap (λ (s : Bool). cond s (i ∷ []) []) h)

    place_at : (a b : ℕ) (k : Taking) → taking_at new a b ≡ Some k → (s : Bool) → is_pair (Some (p, ticket)) a b ≡ s → k.place < length (items ++ x ∷ [])
    place_at a b k is true h =
        let here : taking_at new a b ≡ taking_at new p ticket = (λ j. taking_at new (sym (first_same p ticket a b h) j) (sym (second_same p ticket a b h) j)) in
        let same : k.place ≡ w.own.place = ap place_of (sym is ∙ here ∙ w.there) in
        let place : w.own.place ≡ length items = w.now in
        omega (arith, same, place, size)
    place_at a b k is false h =
        let l : k.place < length items = f.before a b k (sym (w.others a b h) ∙ is) in
        omega (arith, l, size)

nothing_taken : (x : Item) → ((p ticket : ℕ) (i : WatchItem) → x ≡ item.Taken p ticket i → ⊥) → (a b : ℕ) → taken_by a b x ≡ []
nothing_taken (item.Taken p ticket i) n a b = absurd (n p ticket i refl)
nothing_taken x n a b = refl

pub follows_other : (items : List Item) (x : Item) (kept : List ((ℕ × ℕ) × Taking)) → ((p ticket : ℕ) (i : WatchItem) → x ≡ item.Taken p ticket i → ⊥) → in_order items x ≡ true → Follows kept items
    → Follows kept (items ++ x ∷ [])
follows_other items x kept n e f = record {
  tickets = λ a b. other_ticket items x a b kept kept e f refl (nothing_taken x n a b);
  before = λ a b k is. later (f.before a b k is);
  rooted = λ some more. rooted_more items x e f.rooted more;
}
  where
    later : {m : ℕ} → m < length items → m < length (items ++ x ∷ [])
    later l =
        let size : length (items ++ x ∷ []) ≡ length items + 1 = length-append items (x ∷ []) in
        omega (arith, l, size)

pub follows_none : (kept : List ((ℕ × ℕ) × Taking)) → ((a b : ℕ) → taking_at kept a b ≡ None) → Follows kept []
follows_none kept none = record {
  tickets = λ p ticket. (refl, ap (taking_from (life_start p [])) (none p ticket));
  before = λ a b t e. absurd (none_some t (sym (none a b) ∙ e));
  rooted = λ some more. absurd (cc);
}
  where
    none_some : (t : Taking) → ◌≡◌ {A = Option Taking} None (Some t) → ⊥
    none_some t h = cc

-- ---- in order, a watch takes

pub watch_takes : (items : List Item) (p ticket : ℕ) (i : WatchItem) → in_order items (item.Taken p ticket i) ≡ true → asked_watch (asked_as p ticket (life p items)) ≡ None → ⊥
watch_takes [] p ticket i e a = absurd (cc)
watch_takes (j ∷ items) p ticket i e a =
    let starts = has_started p (j ∷ items) in
    let watch = is_watch_of (asked_as p ticket (life p (j ∷ items))) in
    is_one (asked_as p ticket (life p (j ∷ items))) a (and_second starts watch (and_first (starts && watch) true e))
  where
    is_one : (q : Option Request) → asked_watch q ≡ None → is_watch_of q ≡ true → ⊥
    is_one None n w = cc
    is_one (Some (request.Watch ask)) n w = some_none n
      where
        some_none : ◌≡◌ {A = Option WatchAsk} (Some ask) None → ⊥
        some_none k = cc
    is_one (Some q) n w = cc

pub watch_is : (q : Option Request) (ask : WatchAsk) → asked_watch q ≡ Some ask → q ≡ Some (request.Watch ask)
watch_is None ask e = absurd (none_some e)
  where
    none_some : ◌≡◌ {A = Option WatchAsk} None (Some ask) → ⊥
    none_some k = cc
watch_is (Some (request.Watch w)) ask e = ap (λ (o : Option WatchAsk). option_map request.Watch o) e
watch_is (Some q) ask e = absurd (cc)

pub pair_self : (p ticket : ℕ) → is_pair (Some (p, ticket)) p ticket ≡ true
pair_self p ticket = λ k. same_self p k && same_self ticket k

-- the item by which the watch takes a message, as the index tells of it
pub follows_watch : (items : List Item) (x : Item) (p ticket start place : ℕ) (ask : WatchAsk) (i : WatchItem) (old new : List ((ℕ × ℕ) × Taking)) → x ≡ item.Taken p ticket i → in_order items x ≡ true
    → takes_so items x ≡ true → Follows old items → asked_watch (asked_as p ticket (life p items)) ≡ Some ask → start ≡ life_start p items → place ≡ length items
    → Takes p ticket start place ask i old new → Follows new (items ++ x ∷ [])
follows_watch items x p ticket start place ask i old new is e t f asked s n w =
    subst (λ (y : Item). Follows new (items ++ y ∷ [])) (sym is)
    (follows_taken items p ticket ask i old new (ap (in_order items) (sym is) ∙ e) (ap (takes_so items) (sym is) ∙ t) f (watch_is (asked_as p ticket (life p items)) ask asked)
    (subst (λ (m : ℕ). Takes p ticket (life_start p items) m ask i old new) n (subst (λ (m : ℕ). Takes p ticket m place ask i old new) s w)))

pub no_watch_follows : (items : List Item) (x : Item) (p ticket : ℕ) (i : WatchItem) → x ≡ item.Taken p ticket i → in_order items x ≡ true → asked_watch (asked_as p ticket (life p items)) ≡ None → ⊥
no_watch_follows items x p ticket i is e none = watch_takes items p ticket i (ap (in_order items) (sym is) ∙ e) none
