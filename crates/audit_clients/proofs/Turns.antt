-- What a watch takes by the kind of the message, and by what is kept of those before.
use Rattle.std.proofs.Common.{◌≡◌, ℕ, Bool, true, false, not, cond, ◌&&◌, ◌||◌, nat_le, nat_lt, List, [], ◌∷◌, ◌++◌, drop, Option, None, Some, is_some, refl, sym, ◌∙◌, ap, subst}
use Rattle.std.specs.List.{list_any}
use Rattle.etcd_types.specs.declared.record.Header.{Header}
use Rattle.etcd_types.specs.declared.request.Request.{Request}
use Rattle.etcd_types.specs.declared.request.Request.TheVariants as request
use Rattle.etcd_types.specs.declared.request.WatchAsk.{WatchAsk}
use Rattle.etcd_types.specs.declared.watch.Event.{Event}
use Rattle.etcd_types.specs.declared.watch.WatchItem.{WatchItem}
use Rattle.etcd_types.specs.declared.watch.WatchItem.TheVariants.{Created, Events, Canceled}
use Rattle.script_text.specs.declared.item.Item.{Item}
use Rattle.store_model.specs.History.{newest}
use Rattle.store_model.specs.State.{State}
use Rattle.watch_model.specs.Queues.{is_nil, queued_events}
use Rattle.world_model.specs.Answers.{seen}
use Rattle.world_model.specs.Lives.{namespace_of}
use Rattle.world_model.specs.Received.{history_events, or_zero, start_of}
use Rattle.audit_clients.specs.Spots.{has_come, spot_behind}
use Rattle.audit_clients.specs.Takings.{IsTaking, TakesOk, TicketOk, asked_watch, first_revision}
use Rattle.audit_clients.specs.Turns.{is_created}
use Rattle.audit_clients.specs.declared.takings.Taking.{Taking}
use Rattle.audit_clients.proofs.Comes.{all_come}
use Rattle.audit_clients.proofs.Dues.{front_from}
use Rattle.audit_clients.proofs.Following.{watch_is}
use Rattle.audit_clients.proofs.Tracking.{start_decided}
use Rattle.audit_model.specs.Streams.{is_cancellation}
use Rattle.audit_model.specs.Takes.{comes_in_turn, is_front, next_taken, pushes_cancellation, takes_as, takes_by, takes_for, takes_from, tells_front}

-- ---- the first message

created_from : (items : List Item) (ask : WatchAsk) (h : Header) (o : Option ℕ) → takes_from items ask o [] (Created h) ≡ is_some o
created_from items ask h None = refl
created_from items ask h (Some start) = refl

pub first_take : (items : List Item) (ask : WatchAsk) (i : WatchItem) → takes_by items ask [] i ≡ is_created i && is_some (start_of ask (i ∷ []))
first_take items ask (Created h) = created_from items ask h (start_of ask (Created h ∷ []))
first_take items ask (Events h events) = refl
first_take items ask (Canceled h compaction) = refl

-- ---- a later one

later_turn : (taken : List WatchItem) (i : WatchItem) → is_nil taken ≡ false → comes_in_turn taken i ≡ not (is_created i) && not (list_any is_cancellation taken)
later_turn [] i e = absurd (cc)
later_turn (t ∷ ts) (Created h) e = refl
later_turn (t ∷ ts) (Events h events) e = refl
later_turn (t ∷ ts) (Canceled h compaction) e = refl

neither : (a b : Bool) → not a && not b ≡ not (a || b)
neither true b = refl
neither false b = refl

turn_of : (items : List Item) (ask : WatchAsk) (taken : List WatchItem) (i : WatchItem) (own : Taking) → TakesOk (seen items).store (namespace_of items) ask taken (Some own)
    → comes_in_turn taken i ≡ not (is_created i || own.cancelled)
turn_of items ask taken i own ok =
    later_turn taken i ok.taking.some ∙ ap (λ (b : Bool). not (is_created i) && not b) (sym ok.taking.cancelled) ∙ neither (is_created i) own.cancelled

from_own : (items : List Item) (ask : WatchAsk) (taken : List WatchItem) (i : WatchItem) (own : Taking) → TakesOk (seen items).store (namespace_of items) ask taken (Some own)
    → start_of ask (taken ++ i ∷ []) ≡ own.start
from_own items ask taken i own ok = start_decided ask taken i ok.taking.some ∙ sym ok.taking.start

pub out_of_turn : (items : List Item) (ask : WatchAsk) (taken : List WatchItem) (i : WatchItem) (own : Taking) → TakesOk (seen items).store (namespace_of items) ask taken (Some own)
    → is_created i || own.cancelled ≡ true → false ≡ takes_by items ask taken i
out_of_turn items ask taken i own ok e =
    sym (ap (λ (b : Bool). b && takes_from items ask (start_of ask (taken ++ i ∷ [])) taken i) (turn_of items ask taken i own ok ∙ ap not e))

pub in_turn : (items : List Item) (ask : WatchAsk) (taken : List WatchItem) (i : WatchItem) (own : Taking) → TakesOk (seen items).store (namespace_of items) ask taken (Some own)
    → is_created i || own.cancelled ≡ false → takes_from items ask own.start taken i ≡ takes_by items ask taken i
in_turn items ask taken i own ok e =
    sym
    (ap (λ (b : Bool). b && takes_from items ask (start_of ask (taken ++ i ∷ [])) taken i) (turn_of items ask taken i own ok ∙ ap not e)
    ∙ ap (λ (o : Option ℕ). takes_from items ask o taken i) (from_own items ask taken i own ok))

-- ---- by its kind

first_is : (ask : WatchAsk) (taken : List WatchItem) (own : Taking) (start : ℕ) → own.start ≡ start_of ask taken → own.start ≡ Some start → first_revision ask taken ≡ start
first_is ask taken own start s e = ap or_zero (sym s ∙ e)

pub takes_none : (items : List Item) (ask : WatchAsk) (start : ℕ) (taken : List WatchItem) (h : Header) (events : List Event) → is_nil events ≡ true
    → takes_as items ask start taken (Events h []) ≡ takes_as items ask start taken (Events h events)
takes_none items ask start taken h [] n = refl
takes_none items ask start taken h (e ∷ es) n = absurd (cc)

takes_some : (items : List Item) (ask : WatchAsk) (start : ℕ) (taken : List WatchItem) (h : Header) (events : List Event) → is_nil events ≡ false
    → takes_as items ask start taken (Events h events) ≡ is_front (seen items).store (namespace_of items) ask start (queued_events taken ++ events)
takes_some items ask start taken h [] n = absurd (cc)
takes_some items ask start taken h (e ∷ es) n = refl

pub takes_more : (items : List Item) (ask : WatchAsk) (start : ℕ) (taken : List WatchItem) (h : Header) (events : List Event) (own : Taking)
    → TakesOk (seen items).store (namespace_of items) ask taken (Some own) → own.start ≡ Some start → is_nil events ≡ false
    → tells_front ask.prev_kv (seen items).store.compacted (namespace_of items) events (drop own.count (history_events (seen items).store.history (namespace_of items) ask own.revision))
    ≡ takes_as items ask start taken (Events h events)
takes_more items ask start taken h events own ok e n =
    sym
    (takes_some items ask start taken h events n
    ∙ front_from (seen items).store (namespace_of items) ask start (own.revision, own.count) (queued_events taken) events
    (ok.front start (sym ok.taking.start ∙ e))
    (ok.taking.spot ∙ ap (λ (r : ℕ). spot_behind (r, 0) (queued_events taken)) (first_is ask taken own start ok.taking.start e)))

pub takes_progress : (items : List Item) (ask : WatchAsk) (start : ℕ) (taken : List WatchItem) (h : Header) (own : Taking)
    → TakesOk (seen items).store (namespace_of items) ask taken (Some own) → own.start ≡ Some start
    → ask.progress && nat_le h.revision (newest (seen items).store.history)
    && has_come (own.revision, own.count) h.revision (drop own.count (history_events (seen items).store.history (namespace_of items) ask own.revision))
    ≡ takes_as items ask start taken (Events h [])
takes_progress items ask start taken h own ok e =
    ap (λ (b : Bool). ask.progress && nat_le h.revision (newest (seen items).store.history) && b)
    (sym
    (all_come (seen items).store (namespace_of items) ask start (own.revision, own.count) (queued_events taken) h.revision
    (ok.front start (sym ok.taking.start ∙ e))
    (ok.taking.spot ∙ ap (λ (r : ℕ). spot_behind (r, 0) (queued_events taken)) (first_is ask taken own start ok.taking.start e))))

pub takes_cancellation : (items : List Item) (ask : WatchAsk) (start : ℕ) (taken : List WatchItem) (h : Header) (compaction : ℕ) (own : Taking)
    → TakesOk (seen items).store (namespace_of items) ask taken (Some own) → own.start ≡ Some start
    → list_any (pushes_cancellation compaction) items && nat_lt own.next compaction ≡ takes_as items ask start taken (Canceled h compaction)
takes_cancellation items ask start taken h compaction own ok e =
    ap (λ (n : ℕ). list_any (pushes_cancellation compaction) items && nat_lt n compaction)
    (ok.taking.next ∙ ap (λ (r : ℕ). next_taken r taken) (first_is ask taken own start ok.taking.start e))

-- ---- by what was asked

pub no_watch_asked : (items : List Item) (q : Option Request) (taken : List WatchItem) (i : WatchItem) → asked_watch q ≡ None → true ≡ takes_for items q taken i
no_watch_asked items None taken i e = refl
no_watch_asked items (Some (request.Watch ask)) taken i e = absurd (some_none e)
  where
    some_none : ◌≡◌ {A = Option WatchAsk} (Some ask) None → ⊥
    some_none k = cc
no_watch_asked items (Some q) taken i e = refl

pub watch_asked : (items : List Item) (q : Option Request) (ask : WatchAsk) (taken : List WatchItem) (i : WatchItem) → asked_watch q ≡ Some ask → takes_by items ask taken i ≡ takes_for items q taken i
watch_asked items q ask taken i e = ap (λ (o : Option Request). takes_for items o taken i) (sym (watch_is q ask e))

pub ticket_ok : (s : State) (namespace : List ℕ) (q : Option Request) (ask : WatchAsk) (taken : List WatchItem) (o : Option Taking) → asked_watch q ≡ Some ask → TicketOk s namespace q taken o
    → TakesOk s namespace ask taken o
ticket_ok s namespace q ask taken o e h = subst (λ (r : Option Request). TicketOk s namespace r taken o) (watch_is q ask e) h

-- none taken, or some
pub none_taken : (s : State) (namespace : List ℕ) (ask : WatchAsk) (taken : List WatchItem) (o : Option Taking) → o ≡ None → TakesOk s namespace ask taken o → taken ≡ []
none_taken s namespace ask taken o e ok = subst (λ (x : Option Taking). IsTaking x ask taken) e ok.taking

pub some_taken : (s : State) (namespace : List ℕ) (ask : WatchAsk) (taken : List WatchItem) (o : Option Taking) (own : Taking) → o ≡ Some own → TakesOk s namespace ask taken o → TakesOk s namespace ask taken (Some own)
some_taken s namespace ask taken o own e ok = subst (λ (x : Option Taking). TakesOk s namespace ask taken x) e ok
