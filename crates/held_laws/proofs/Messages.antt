-- The messages of one watch, in order: first that it was created, by which a start that was left open is told; then events, where a
-- message without events is true where it stands; and last, maybe, that it was cancelled.
use Rattle.std.proofs.Common.{◌≡◌, ◌⊎◌, inl, inr, ℕ, ◌+◌, ◌<◌, ◌==◌, Bool, true, false, cond, ◌||◌, List, [], ◌∷◌, ◌++◌, append-nil, append_assoc, refl, ap, sym, subst, ◌∙◌}
use Rattle.etcd_types.specs.declared.record.Header.{Header}
use Rattle.etcd_types.specs.declared.request.WatchAsk.{WatchAsk}
use Rattle.etcd_types.specs.declared.watch.Event.{Event}
use Rattle.etcd_types.specs.declared.watch.WatchItem.{WatchItem}
use Rattle.etcd_types.specs.declared.watch.WatchItem.TheVariants as item
use Rattle.watch_model.specs.Queues.{is_nil, item_events, queued_events, is_progress, with_progress}
use Rattle.watch_model.specs.Story.{Story, between, changes, wanted}
use Rattle.watch_model.specs.Takes.{is_last}
use Rattle.watch_laws.proofs.Steps.{empty_item}
use Rattle.world_model.specs.Received.{last_from, WasPushed}
use Rattle.held_laws.proofs.Items.{queued-append}
use Rattle.held_laws.proofs.Pushes.{Whole}

-- of a message behind the created one, where `got` is all that was told before it
abbrev pub MessageOk : Story → Whole → WatchAsk → ℕ → List Event → WatchItem → Type 0
MessageOk story whole ask start got (item.Created h) = ⊥
MessageOk story whole ask start got (item.Events h []) = (ask.progress ≡ true) × (changes got ≡ wanted ask (between start (h.revision + 1) (story ask.range)))
MessageOk story whole ask start got (item.Events h (e ∷ es)) = Unit {0}
MessageOk story whole ask start got (item.Canceled h compaction) = WasPushed whole.items compaction × (last_from start got < compaction)

-- nothing comes behind a cancellation
abbrev pub GoOn : Story → Whole → WatchAsk → ℕ → List Event → List WatchItem → Type 0
GoOn story whole ask start got [] = Unit {0}
GoOn story whole ask start got (i ∷ is) = MessageOk story whole ask start got i × (is_last i ≡ true → is ≡ []) × GoOn story whole ask start (got ++ item_events i) is

abbrev pub AreMessages : Story → Whole → WatchAsk → ℕ → List WatchItem → Type 0
AreMessages story whole ask start [] = Unit {0}
AreMessages story whole ask start (item.Created h ∷ is) = ((ask.start == 0) ≡ true → h.revision + 1 ≡ start) × GoOn story whole ask start [] is
AreMessages story whole ask start (item.Events h es ∷ is) = ⊥
AreMessages story whole ask start (item.Canceled h compaction ∷ is) = ⊥

-- one of them is a cancellation
abbrev pub is_over : List WatchItem → Bool
is_over [] = false
is_over (i ∷ is) = is_last i || is_over is

or_parts : (a b : Bool) → (a || b) ≡ false → (a ≡ false) × (b ≡ false)
or_parts true b e = absurd (cc)
or_parts false b e = (refl, e)

pub over_front : (xs ys : List WatchItem) → is_over (xs ++ ys) ≡ false → is_over xs ≡ false
over_front [] ys e = refl
over_front (x ∷ xs) ys e =
    let p = or_parts (is_last x) (is_over (xs ++ ys)) e in
    ap (λ b. b || is_over xs) p.0 ∙ over_front xs ys p.1

pub over_push : (xs : List WatchItem) (i : WatchItem) → is_over xs ≡ false → is_last i ≡ false → is_over (xs ++ i ∷ []) ≡ false
over_push [] i e f = ap (λ b. b || false) f
over_push (x ∷ xs) i e f =
    let p = or_parts (is_last x) (is_over xs) e in
    ap (λ b. b || is_over (xs ++ i ∷ [])) p.0 ∙ over_push xs i p.1 f

-- ---- one message more

go_push : (story : Story) (whole : Whole) (ask : WatchAsk) (start : ℕ) (got : List Event) (is : List WatchItem) (i : WatchItem) → is_over is ≡ false → GoOn story whole ask start got is
    → MessageOk story whole ask start (got ++ queued_events is) i → GoOn story whole ask start got (is ++ i ∷ [])
go_push story whole ask start got [] i n h t = (subst (λ (l : List Event). MessageOk story whole ask start l i) (append-nil got) t, (λ q. refl), tt)
go_push story whole ask start got (j ∷ is) i n h t =
    let p = or_parts (is_last j) (is_over is) n in (
      h.0,
      (λ q. absurd (let no' : true ≡ false = sym q ∙ p.0 in cc)),
      go_push story whole ask start (got ++ item_events j) is i p.1 h.2 (subst (λ (l : List Event). MessageOk story whole ask start l i) (sym (append_assoc got (item_events j) (queued_events is))) t),
    )

pub messages_push : (story : Story) (whole : Whole) (ask : WatchAsk) (start : ℕ) (xs : List WatchItem) (i : WatchItem) → is_nil xs ≡ false → is_over xs ≡ false → AreMessages story whole ask start xs
    → MessageOk story whole ask start (queued_events xs) i → AreMessages story whole ask start (xs ++ i ∷ [])
messages_push story whole ask start [] i n o h t = absurd (cc)
messages_push story whole ask start (item.Created g ∷ is) i n o h t = (h.0, go_push story whole ask start [] is i o h.1 t)
messages_push story whole ask start (item.Events g es ∷ is) i n o h t = absurd h
messages_push story whole ask start (item.Canceled g compaction ∷ is) i n o h t = absurd h

-- ---- a front of them

nil_front : (xs ys : List WatchItem) → xs ++ ys ≡ [] → xs ≡ []
nil_front [] ys e = refl
nil_front (x ∷ xs) ys e = absurd (cc)

go_front : (story : Story) (whole : Whole) (ask : WatchAsk) (start : ℕ) (got : List Event) (xs ys : List WatchItem) → GoOn story whole ask start got (xs ++ ys) → GoOn story whole ask start got xs
go_front story whole ask start got [] ys h = tt
go_front story whole ask start got (i ∷ xs) ys h = (h.0, (λ q. nil_front xs ys (h.1 q)), go_front story whole ask start (got ++ item_events i) xs ys h.2)

pub messages_front : (story : Story) (whole : Whole) (ask : WatchAsk) (start : ℕ) (xs ys : List WatchItem) → AreMessages story whole ask start (xs ++ ys) → AreMessages story whole ask start xs
messages_front story whole ask start [] ys h = tt
messages_front story whole ask start (item.Created g ∷ xs) ys h = (h.0, go_front story whole ask start [] xs ys h.1)
messages_front story whole ask start (item.Events g es ∷ xs) ys h = absurd h
messages_front story whole ask start (item.Canceled g compaction ∷ xs) ys h = absurd h

-- ---- a message without events, which takes the place of one that is last

record Replaces (q : List WatchItem) (p : WatchItem) : Type 0 where
  pub front : List WatchItem
  pub last : WatchItem
  pub parts : q ≡ front ++ last ∷ []
  pub progress : is_progress last ≡ true
  pub replaced : with_progress q p ≡ front ++ p ∷ []

progress_cases : (q : List WatchItem) (p : WatchItem) → (with_progress q p ≡ q ++ p ∷ []) ⊎ Replaces q p
progress_cases [] p = inl refl
progress_cases (i ∷ []) p = by (is_progress i) refl
  where
    by : (b : Bool) → is_progress i ≡ b → (with_progress (i ∷ []) p ≡ i ∷ p ∷ []) ⊎ Replaces (i ∷ []) p
    by true e = inr (record { front = []; last = i; parts = refl; progress = e; replaced = ap (λ b. cond b (p ∷ []) (i ∷ p ∷ [])) e })
    by false e = inl (ap (λ b. cond b (p ∷ []) (i ∷ p ∷ [])) e)
progress_cases (i ∷ j ∷ q) p = more (progress_cases (j ∷ q) p)
  where
    more : (with_progress (j ∷ q) p ≡ (j ∷ q) ++ p ∷ []) ⊎ Replaces (j ∷ q) p → (with_progress (i ∷ j ∷ q) p ≡ (i ∷ j ∷ q) ++ p ∷ []) ⊎ Replaces (i ∷ j ∷ q) p
    more (inl e) = inl (ap (λ (l : List WatchItem). i ∷ l) e)
    more (inr k) = inr (record {
      front = i ∷ k.front;
      last = k.last;
      parts = ap (λ (l : List WatchItem). i ∷ l) k.parts;
      progress = k.progress;
      replaced = ap (λ (l : List WatchItem). i ∷ l) k.replaced;
    })

-- such a message isn't the first
not_first : (story : Story) (whole : Whole) (ask : WatchAsk) (start : ℕ) (xs : List WatchItem) (i : WatchItem) → is_progress i ≡ true → AreMessages story whole ask start (xs ++ i ∷ []) → is_nil xs ≡ false
not_first story whole ask start [] (item.Created g) p h = absurd (cc)
not_first story whole ask start [] (item.Events g es) p h = absurd h
not_first story whole ask start [] (item.Canceled g compaction) p h = absurd h
not_first story whole ask start (x ∷ xs) i p h = refl

pub messages_progress : (story : Story) (whole : Whole) (ask : WatchAsk) (start : ℕ) (got q : List WatchItem) (h : Header) → is_nil (got ++ q) ≡ false → is_over (got ++ q) ≡ false → AreMessages story whole ask start (got ++ q)
    → MessageOk story whole ask start (queued_events (got ++ q)) (item.Events h [])
    → AreMessages story whole ask start (got ++ with_progress q (item.Events h [])) × (is_nil (got ++ with_progress q (item.Events h [])) ≡ false) × (is_over (got ++ with_progress q (item.Events h [])) ≡ false)
messages_progress story whole ask start got q h n o a t = by (progress_cases q p)
  where
    p : WatchItem
    p = item.Events h []

    Claim : List WatchItem → Type 0
    Claim xs = AreMessages story whole ask start xs × (is_nil xs ≡ false) × (is_over xs ≡ false)

    some_last : (xs : List WatchItem) (i : WatchItem) → is_nil (xs ++ i ∷ []) ≡ false
    some_last [] i = refl
    some_last (x ∷ xs) i = refl

    pushed : (xs : List WatchItem) → is_nil xs ≡ false → is_over xs ≡ false → AreMessages story whole ask start xs → MessageOk story whole ask start (queued_events xs) p → Claim (xs ++ p ∷ [])
    pushed xs n o a t = (messages_push story whole ask start xs p n o a t, some_last xs p, over_push xs p o refl)

    by : (with_progress q p ≡ q ++ p ∷ []) ⊎ Replaces q p → Claim (got ++ with_progress q p)
    by (inl e) = subst Claim (append_assoc got q (p ∷ []) ∙ ap (λ (l : List WatchItem). got ++ l) (sym e)) (pushed (got ++ q) n o a t)
    by (inr k) =
        let front = got ++ k.front in
        let same : got ++ q ≡ front ++ k.last ∷ [] = ap (λ (l : List WatchItem). got ++ l) k.parts ∙ sym (append_assoc got k.front (k.last ∷ [])) in
        let all : AreMessages story whole ask start (front ++ k.last ∷ []) = subst (AreMessages story whole ask start) same a in
        let events : queued_events (got ++ q) ≡ queued_events front =
        ap queued_events same ∙ queued-append front (k.last ∷ []) ∙ ap (λ (l : List Event). queued_events front ++ (l ++ [])) (empty_item k.last k.progress) ∙ append-nil (queued_events front) in
        subst Claim (append_assoc got k.front (p ∷ []) ∙ ap (λ (l : List WatchItem). got ++ l) (sym k.replaced))
        (pushed front (not_first story whole ask start front k.last k.progress all) (over_front front (k.last ∷ []) (ap is_over (sym same) ∙ o)) (messages_front story whole ask start front (k.last ∷ []) all)
        (subst (λ (l : List Event). MessageOk story whole ask start l p) events t))
