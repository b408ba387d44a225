-- What was taken of a watch, where those are its messages in order: their form, their start, and that progress and a cancellation are true.
use Rattle.std.proofs.Common.{◌≡◌, ◌≢◌, ℕ, ◌+◌, ◌≤◌, ◌<◌, ◌==◌, nat_le, nat_lt, Bool, true, false, cond, List, [], ◌∷◌, ◌++◌, append-nil, append_assoc, map, filter, Option, None, Some, refl, ap, sym, subst, ◌∙◌, arith}
use Rattle.std.proofs.lemmas.Bool.Decides.{nat_tests}
use Rattle.etcd_types.specs.declared.request.WatchAsk.{WatchAsk}
use Rattle.etcd_types.specs.declared.watch.Event.{Event}
use Rattle.etcd_types.specs.declared.watch.WatchItem.{WatchItem}
use Rattle.etcd_types.specs.declared.watch.WatchItem.TheVariants as item
use Rattle.script_text.specs.declared.item.Item.{Item}
use Rattle.store_model.specs.Events.{event_revision}
use Rattle.store_model.specs.History.{History}
use Rattle.watch_model.specs.Joining.{watched_range}
use Rattle.watch_model.specs.Queues.{is_nil, item_events, queued_events}
use Rattle.watch_model.specs.Story.{Story, between, changes, wanted}
use Rattle.world_model.specs.Answers.{seen}
use Rattle.world_model.specs.Received.{ends_well, is_well_formed, start_of, history_events, TellsFront, ReceivedFront, is_up_to, HasAllUpTo, ProgressIsTrue, last_from, or_zero, CancellationIsTrue}
use Rattle.held_laws.specs.Laws.{is_below}
use Rattle.held_laws.proofs.Items.{queued-append}
use Rattle.held_laws.proofs.Messages.{MessageOk, GoOn, AreMessages}
use Rattle.held_laws.proofs.Nothing.{each_stored}
use Rattle.held_laws.proofs.Pushes.{Whole}
use Rattle.held_laws.proofs.Stories.{story_by}
use Rattle.held_laws.proofs.Telling.{own_only, own_or_whole, told_is, history_changes}

-- as a proxy keeps what was asked
abbrev pub kept_ask : WatchAsk → WatchAsk
kept_ask ask = record ask { range = watched_range ask.range }

-- ---- their form

nil_is : (is : List WatchItem) → is ≡ [] → is_nil is ≡ true
nil_is is e = ap is_nil e

go_ends : (story : Story) (whole : Whole) (ask : WatchAsk) (start : ℕ) (got : List Event) (is : List WatchItem) → GoOn story whole ask start got is → ends_well is ≡ true
go_ends story whole ask start got [] h = refl
go_ends story whole ask start got (item.Created g ∷ is) h = absurd h.0
go_ends story whole ask start got (item.Events g es ∷ is) h = go_ends story whole ask start (got ++ es) is h.2
go_ends story whole ask start got (item.Canceled g compaction ∷ is) h = nil_is is (h.1 refl)

pub well_formed : (story : Story) (whole : Whole) (ask : WatchAsk) (start : ℕ) (taken : List WatchItem) → AreMessages story whole ask start taken → is_well_formed taken ≡ true
well_formed story whole ask start [] h = refl
well_formed story whole ask start (item.Created g ∷ is) h = go_ends story whole ask start [] is h.1
well_formed story whole ask start (item.Events g es ∷ is) h = absurd h
well_formed story whole ask start (item.Canceled g compaction ∷ is) h = absurd h

-- ---- their start

pub start_is : (story : Story) (whole : Whole) (ask : WatchAsk) (start : ℕ) (taken : List WatchItem) → is_nil taken ≡ false → ((ask.start == 0) ≡ false → start ≡ ask.start) → AreMessages story whole (kept_ask ask) start taken
    → start_of ask taken ≡ Some start
start_is story whole ask start [] n a h = absurd (cc)
start_is story whole ask start (item.Created g ∷ is) n a h = by (ask.start == 0) refl
  where
    by : (b : Bool) → (ask.start == 0) ≡ b → cond (ask.start == 0) (Some (g.revision + 1)) (Some ask.start) ≡ Some start
    by true e = ap (λ b. cond b (Some (g.revision + 1)) (Some ask.start)) e ∙ ap (λ (n : ℕ). Some n) (h.0 e)
    by false e = ap (λ b. cond b (Some (g.revision + 1)) (Some ask.start)) e ∙ ap (λ (n : ℕ). Some n) (sym (a e))
start_is story whole ask start (item.Events g es ∷ is) n a h = absurd h
start_is story whole ask start (item.Canceled g compaction ∷ is) n a h = absurd h

-- where it was left open
pub decided_start : (story : Story) (whole : Whole) (ask : WatchAsk) (start : ℕ) (taken : List WatchItem) (high : ℕ) → ask.start ≡ 0 → ((ask.start == 0) ≡ false → start ≡ ask.start)
    → (taken ≢ [] → start ≤ high + 1) → AreMessages story whole (kept_ask ask) start taken → or_zero (start_of ask taken) ≤ high + 1
decided_start story whole ask start [] high z a d h = subst (λ b. or_zero (cond b None (Some ask.start)) ≤ high + 1) (sym (ap (λ (n : ℕ). n == 0) z)) (omega arith)
decided_start story whole ask start (i ∷ is) high z a d h = subst (λ (o : Option ℕ). or_zero o ≤ high + 1) (sym (start_is story whole ask start (i ∷ is) refl a h)) (d some)
  where
    some : i ∷ is ≢ []
    some e = absurd (cc)

-- ---- a front of what the history has

pub received_front : (story : Story) (whole : Whole) (items : List Item) (namespace : List ℕ) (ask : WatchAsk) (start : ℕ) (taken : List WatchItem) → whole.history ≡ (seen items).store.history
    → ((ask.start == 0) ≡ false → start ≡ ask.start) → AreMessages story whole (kept_ask ask) start taken
    → TellsFront items ask namespace (queued_events taken) (history_events whole.history namespace ask start) → ReceivedFront items ask namespace (queued_events taken) (start_of ask taken)
received_front story whole items namespace ask start [] e a h t = elim (ask.start == 0) as (λ b. ReceivedFront items ask namespace [] (cond b None (Some ask.start))) [ true ↦ refl | false ↦ tt ]
received_front story whole items namespace ask start (i ∷ is) e a h t =
    subst (ReceivedFront items ask namespace (queued_events (i ∷ is))) (sym (start_is story whole ask start (i ∷ is) refl a h))
    (subst (λ (x : History). TellsFront items ask namespace (queued_events (i ∷ is)) (history_events x namespace ask start)) e t)

-- ---- the message at a place

go_at : (story : Story) (whole : Whole) (ask : WatchAsk) (start : ℕ) (got : List Event) (before : List WatchItem) (i : WatchItem) (after : List WatchItem) → GoOn story whole ask start got (before ++ i ∷ after)
    → MessageOk story whole ask start (got ++ queued_events before) i
go_at story whole ask start got [] i after h = subst (λ (l : List Event). MessageOk story whole ask start l i) (sym (append-nil got)) h.0
go_at story whole ask start got (j ∷ before) i after h =
    subst (λ (l : List Event). MessageOk story whole ask start l i) (append_assoc got (item_events j) (queued_events before)) (go_at story whole ask start (got ++ item_events j) before i after h.2)

abbrev is_created : WatchItem → Bool
is_created (item.Created g) = true
is_created (item.Events g es) = false
is_created (item.Canceled g compaction) = false

pub message_at : (story : Story) (whole : Whole) (ask : WatchAsk) (start : ℕ) (before : List WatchItem) (i : WatchItem) (after : List WatchItem) → is_created i ≡ false → AreMessages story whole ask start (before ++ i ∷ after)
    → MessageOk story whole ask start (queued_events before) i
message_at story whole ask start [] (item.Created g) after n h = absurd (cc)
message_at story whole ask start [] (item.Events g es) after n h = absurd h
message_at story whole ask start [] (item.Canceled g compaction) after n h = absurd h
message_at story whole ask start (item.Created g ∷ before) i after n h = go_at story whole ask start [] before i after h.1
message_at story whole ask start (item.Events g es ∷ before) i after n h = absurd h
message_at story whole ask start (item.Canceled g compaction ∷ before) i after n h = absurd h

some_there : (before : List WatchItem) (i : WatchItem) (after : List WatchItem) → is_nil (before ++ i ∷ after) ≡ false
some_there [] i after = refl
some_there (x ∷ before) i after = refl

-- ---- progress

up_to_below : (n : ℕ) → is_up_to n ≡ is_below (n + 1)
up_to_below n = λ i e. same (event_revision e) n i
  where
    same : (r n : ℕ) → nat_le r n ≡ nat_lt r (n + 1)
    same r n = by (nat_le r n) refl
      where
        less : (r n : ℕ) → nat_le r n ≡ true → nat_lt r (n + 1) ≡ true
        less r n e = grind (arith, nat_tests)

        not_less : (r n : ℕ) → nat_le r n ≡ false → nat_lt r (n + 1) ≡ false
        not_less r n e = grind (arith, nat_tests)

        by : (b : Bool) → nat_le r n ≡ b → nat_le r n ≡ nat_lt r (n + 1)
        by true e = e ∙ sym (less r n e)
        by false e = e ∙ sym (not_less r n e)

-- by both stories
all_up_to : (whole : Whole) (namespace : List ℕ) (ask : WatchAsk) (start revision : ℕ) (got : List Event)
    → changes got ≡ wanted (kept_ask ask) (between start (revision + 1) (story_by (own_only namespace) namespace whole (kept_ask ask).range))
    → changes got ≡ wanted (kept_ask ask) (between start (revision + 1) (story_by (own_or_whole namespace) namespace whole (kept_ask ask).range))
    → HasAllUpTo whole.history namespace ask (Some start) got revision
all_up_to whole namespace ask start revision got a b =
    each_stored namespace got ∙ told_is namespace whole (kept_ask ask) start (revision + 1) (changes got) a b ∙ sym (history_changes namespace whole.history ask start (revision + 1))
    ∙ (λ i. map (λ e. e.change) (filter (sym (up_to_below revision) i) (history_events whole.history namespace ask start)))

pub progress_true : (whole : Whole) (items : List Item) (namespace : List ℕ) (ask : WatchAsk) (start : ℕ) (taken : List WatchItem) → whole.history ≡ (seen items).store.history
    → ((ask.start == 0) ≡ false → start ≡ ask.start) → AreMessages (story_by (own_only namespace) namespace whole) whole (kept_ask ask) start taken
    → AreMessages (story_by (own_or_whole namespace) namespace whole) whole (kept_ask ask) start taken → ProgressIsTrue items ask namespace taken
progress_true whole items namespace ask start taken seen_is a one two before after header e =
    let first = story_by (own_only namespace) namespace whole in
    let second = story_by (own_or_whole namespace) namespace whole in
    let i = item.Events header [] in
    let m = message_at first whole (kept_ask ask) start before i after refl (subst (AreMessages first whole (kept_ask ask) start) e one) in
    let n = message_at second whole (kept_ask ask) start before i after refl (subst (AreMessages second whole (kept_ask ask) start) e two) in
    let all = all_up_to whole namespace ask start header.revision (queued_events before) m.1 n.1 in
    let some = start_is first whole ask start taken (ap is_nil e ∙ some_there before i after) a one in (
      m.0,
      subst (λ (o : Option ℕ). HasAllUpTo (seen items).store.history namespace ask o (queued_events before) header.revision) (sym some)
          (subst (λ (h : History). HasAllUpTo h namespace ask (Some start) (queued_events before) header.revision) seen_is all),
    )

-- ---- a cancellation

pub cancellation_true : (story : Story) (whole : Whole) (ask : WatchAsk) (start : ℕ) (taken : List WatchItem) → ((ask.start == 0) ≡ false → start ≡ ask.start) → AreMessages story whole (kept_ask ask) start taken
    → CancellationIsTrue whole.items ask taken
cancellation_true story whole ask start taken a h before header compaction e =
    let i = item.Canceled header compaction in
    let m = message_at story whole (kept_ask ask) start before i [] refl (subst (AreMessages story whole (kept_ask ask) start) e h) in
    let some = start_is story whole ask start taken (ap is_nil e ∙ some_there before i []) a h in
    let events : queued_events taken ≡ queued_events before = ap queued_events e ∙ queued-append before (i ∷ []) ∙ append-nil (queued_events before) in
    (m.0, subst (λ (n : ℕ). n < compaction) (sym ((λ j. last_from (or_zero (some j)) (events j)))) m.1)
