-- Each take of a transcript that keeps the rules is true.
use Rattle.std.proofs.Common.{◌≡◌, ℕ, Bool, true, false, not, ◌&&◌, nat_le, nat_lt, List, [], ◌∷◌, ◌++◌, Option, None, Some, is_some, refl, subst}
use Rattle.std.specs.List.{list_any}
use Rattle.std.proofs.lemmas.Bool.{leb-true, ltb-true}
use Rattle.etcd_types.specs.declared.record.Kv.{Kv}
use Rattle.etcd_types.specs.declared.request.Request.{Request}
use Rattle.etcd_types.specs.declared.request.WatchAsk.{WatchAsk}
use Rattle.etcd_types.specs.declared.watch.Event.{Event}
use Rattle.etcd_types.specs.declared.watch.WatchItem.{WatchItem}
use Rattle.etcd_types.specs.declared.watch.WatchItem.TheVariants.{Created, Events, Canceled}
use Rattle.etcd_types.proofs.Bools.{and_first, and_second}
use Rattle.script_text.specs.declared.item.Item.{Item}
use Rattle.script_text.specs.declared.item.Item.TheVariants as item
use Rattle.store_model.specs.Events.{event_revision, visible_prev}
use Rattle.store_model.specs.History.{newest}
use Rattle.watch_model.specs.Queues.{queued_events}
use Rattle.world_model.specs.Answers.{seen}
use Rattle.world_model.specs.Lives.{life, namespace_of}
use Rattle.world_model.specs.Received.{taken_for, start_of, history_events, stored_change, stored_prev}
use Rattle.audit_model.specs.Broken.{Meets}
use Rattle.audit_model.specs.Takes.{tells_prev, tells_event, tells_front, has_all_up_to, pushes_cancellation, next_taken, comes_in_turn, takes_as, takes_from, takes_by, takes_for}
use Rattle.equal_values.specs.Messages.{same_change}
use Rattle.equal_values.proofs.Members.{all-equal}
use Rattle.equal_values.proofs.Values.{change-equal, prev-equal}
use Rattle.audit_laws.specs.Takes.{PrevIsTrue, EventIsTrue, IsPrefix, TakesTrue, TakesInTurn, TakesAreTrue}
use Rattle.audit_laws.proofs.Kept.{kept_at}

no_more : {A : Type 0} (o : Option A) → not (is_some o) ≡ true → o ≡ None
no_more None e = refl
no_more (Some x) e = absurd (cc)

prev_true : (flag : Bool) (compacted : ℕ) (namespace : List ℕ) (told : Option Kv) (e : Event) → tells_prev flag compacted namespace told e ≡ true → PrevIsTrue flag compacted namespace told e
prev_true false compacted namespace told e h = no_more told h
prev_true true compacted namespace None e h = no_more (visible_prev compacted (event_revision e) e.prev) h
prev_true true compacted namespace (Some kv) e h = prev-equal (stored_prev namespace (Some kv)) e.prev h

event_true : (flag : Bool) (compacted : ℕ) (namespace : List ℕ) (told e : Event) → tells_event flag compacted namespace told e ≡ true → EventIsTrue flag compacted namespace told e
event_true flag compacted namespace told e h =
    let change = same_change (stored_change namespace told.change) e.change in
    let prev = tells_prev flag compacted namespace told.prev e in
    record {
      same_change = change-equal (stored_change namespace told.change) e.change (and_first change prev h);
      true_prev = prev_true flag compacted namespace told.prev e (and_second change prev h);
    }

front_true : (flag : Bool) (compacted : ℕ) (namespace : List ℕ) (got es : List Event) → tells_front flag compacted namespace got es ≡ true → IsPrefix flag compacted namespace got es
front_true flag compacted namespace [] es h = tt
front_true flag compacted namespace (told ∷ more) [] h = absurd (cc)
front_true flag compacted namespace (told ∷ more) (e ∷ es) h =
    let one = tells_event flag compacted namespace told e in
    let rest = tells_front flag compacted namespace more es in
    (event_true flag compacted namespace told e (and_first one rest h), front_true flag compacted namespace more es (and_second one rest h))

three : (a b c : Bool) → a && b && c ≡ true → (a ≡ true) × (b ≡ true) × (c ≡ true)
three true true true e = (refl, refl, refl)
three true true false e = absurd (cc)
three true false c e = absurd (cc)
three false b c e = absurd (cc)

first_created : (taken : List WatchItem) (h : _) → comes_in_turn taken (Created h) ≡ true → taken ≡ []
first_created [] h e = refl
first_created (t ∷ ts) h e = absurd (cc)

take_true : (before : List Item) (ask : WatchAsk) (start : ℕ) (taken : List WatchItem) (i : WatchItem) → comes_in_turn taken i ≡ true → takes_as before ask start taken i ≡ true → TakesTrue before ask start taken i
take_true before ask start taken (Created h) turn e = first_created taken h turn
take_true before ask start taken (Events h []) turn e =
    let newest_now = newest (seen before).store.history in
    let all = has_all_up_to (seen before).store (namespace_of before) ask start (queued_events taken) h.revision in
    let parts = three ask.progress (nat_le h.revision newest_now) all e in
    (parts.0, leb-true h.revision newest_now parts.1, all-equal same_change change-equal _ _ parts.2)
take_true before ask start taken (Events h (e ∷ es)) turn t =
    front_true ask.prev_kv (seen before).store.compacted (namespace_of before) (queued_events taken ++ e ∷ es) (history_events (seen before).store.history (namespace_of before) ask start) t
take_true before ask start taken (Canceled h compaction) turn e =
    let pushed = list_any (pushes_cancellation compaction) before in
    let below = nat_lt (next_taken start taken) compaction in
    (and_first pushed below e, ltb-true (next_taken start taken) compaction (and_second pushed below e))

in_turn : (before : List Item) (ask : WatchAsk) (taken : List WatchItem) (i : WatchItem) (o : Option ℕ) → start_of ask (taken ++ i ∷ []) ≡ o → comes_in_turn taken i ≡ true → takes_from before ask o taken i ≡ true → TakesInTurn before ask taken i
in_turn before ask taken i None s turn e = absurd (cc)
in_turn before ask taken i (Some start) s turn e =
    record { turn = turn; start = start; decided = s; true_take = take_true before ask start taken i turn e }

pub takes_kept : (items : List Item) → Meets items → TakesAreTrue items
takes_kept items m earlier later p ticket ask i split asked =
    let taken = taken_for p ticket (life p earlier) in
    let kept = (kept_at items m earlier later (item.Taken p ticket i) split).takes in
    let by : takes_by earlier ask taken i ≡ true = subst (λ (o : Option Request). takes_for earlier o taken i ≡ true) asked kept in
    let start = start_of ask (taken ++ i ∷ []) in
    in_turn earlier ask taken i start refl (and_first (comes_in_turn taken i) (takes_from earlier ask start taken i) by) (and_second (comes_in_turn taken i) (takes_from earlier ask start taken i) by)
