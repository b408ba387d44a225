-- Line by line: what each proxy holds fits, and so what it replies and what its watches take has a text.
use Rattle.std.proofs.Common.{◌≡◌, ◌≤◌, ℕ, zero, suc, ◌+◌, ◌*◌, ◌&&◌, Bool, true, false, cond, Less, Equal, Greater, List, [], ◌∷◌, ◌++◌, length, Option, None, Some, Result, Ok, Err, refl, sym, ◌∙◌, subst, arith}
use Rattle.std.specs.Prelude.{flat_map, nat_le}
use Rattle.std.specs.BTreeSet.{BTreeSet}
use Rattle.std.specs.declared.cmp.Ordering.{Ordering}
use Rattle.std.specs.FinMap.Entries.{by_order}
use Rattle.std.specs.Ordering.{nat_cmp}
use Rattle.etcd_types.proofs.Bools.{and_both}
use Rattle.etcd_types.specs.declared.answer.Answer.{Answer}
use Rattle.etcd_types.specs.declared.watch.WatchItem.{WatchItem}
use Rattle.text_model.specs.Words.{max_number, number, bytes}
use Rattle.message_text.specs.Answers as answers_texts
use Rattle.json_model.specs.WrittenReplies.{answer_status, answer_text, item_text}
use Rattle.text_laws.specs.Values.Fits.{AllOf, If, Bytes, Number, AnswerFits, MessageFits}
use Rattle.text_laws.proofs.Values.Alls.{either, is_number}
use Rattle.text_laws.proofs.Values.AnswerTexts.{answer_fits, message_fits, bytes_fit}
use Rattle.text_laws.proofs.Bodies.Replies.{answer_bytes, item_bytes, statuses}
use Rattle.script_text.specs.declared.item.Item.{Item}
use Rattle.script_text.specs.declared.item.Item.TheVariants as item
use Rattle.script_text.specs.declared.line.Line.{Line}
use Rattle.script_text.specs.declared.line.Line.TheVariants as line
use Rattle.script_text.specs.Lines.{ticket}
use Rattle.core_model.specs.declared.event.CoreEvent.{CoreEvent}
use Rattle.core_model.specs.declared.event.CoreEvent.TheVariants as event
use Rattle.core_model.specs.declared.event.Outcome.{Outcome}
use Rattle.core_model.specs.declared.event.Outcome.TheVariants as outcome
use Rattle.core_model.specs.declared.event.StepFault.{StepFault}
use Rattle.core_model.specs.ClockWork.{is_replied}
use Rattle.core_model.specs.Step.{stepped}
use Rattle.core_model.specs.Takes.{lesser, least_ready, ready}
use Rattle.read_model.specs.declared.asked.Asked.{Asked}
use Rattle.text_laws.specs.Sent.Sends.{CoreFits}
use Rattle.text_laws.proofs.Sent.Steps as proxies
use Rattle.text_laws.specs.Replied.Holds.{IsTicket, AskHolds, CoreHolds, IsTicketed, OutcomeHolds, risen, Bounds}
use Rattle.text_laws.proofs.Replied.Cores.{core_weaker}
use Rattle.text_laws.proofs.Replied.Steps as holding
use Rattle.world_model.specs.declared.fault.LineRefusal.{LineRefusal}
use Rattle.world_model.specs.Asks.{told_at_once, posted}
use Rattle.world_model.specs.Gains.{Replies, with_reply, body_if, reply_items, line_if, taken_items, fetched, fetched_as, fetched_if, all_fetched, gained}
use Rattle.world_model.specs.Places.{nth, place_at, is_among, with_core, with_place, with_posted}
use Rattle.world_model.specs.Sends.{closed_in}
use Rattle.world_model.specs.Starts.{settings, new_place}
use Rattle.world_model.specs.State.{Numbered, Place, OpenedStream, World}
use Rattle.world_model.specs.Transcript.{Taken, done, counted_as, begun, taken, items_and_then, transcript_from, transcript}
use Rattle.world_laws.proofs.Effects.{Turn, ticks, asks_it, posts_it, calls, opens, closes, answers, loses, delivers, cuts, takes, waits, leaves, Begins, first, again, Effect, starts, sets, refuses_post, executes, expires, applies, pushes, turns, effect}
use Rattle.text_laws.specs.Items.Texts.{Each, AreRead, made_fits, HasTextAsMade, HaveTextsAsMade}
use Rattle.text_laws.proofs.Items.Parts.{each_append}
use Rattle.text_laws.proofs.Items.Scripts.{texts_as_made}
use Rattle.text_laws.specs.Scripts.Room.{GoesOnWithRoom, RoomFrom, StaysSmall}
use Rattle.text_laws.specs.Scripts.Spoken.{AskedHasText}
use Rattle.text_laws.specs.Scripts.Answered.{AnsweredHasText, PostIsRefusedInBytes, WhatIsAnsweredHasAText}
use Rattle.text_laws.proofs.Scripts.Lists.{each_first, each_second}
use Rattle.text_laws.proofs.Scripts.Spoken.{AllKept, kept_found, kept_put, WorldSpeaks, place_found, comes, TakenSpeaks, Allows, allowed, counted_speaks, begun_speaks}
use Rattle.text_laws.proofs.Scripts.Pinned.{ticket_fits, asked_ticket, Pinned, DonePinned, line_pinned}

-- ---- what is answered

abbrev Answered : Item → Type 0
Answered (item.Reply p t a) = made_fits (item.Reply p t a) ≡ true
Answered (item.Taken p t message) = made_fits (item.Taken p t message) ≡ true
Answered (item.Body p t status json) = made_fits (item.Body p t status json) ≡ true
Answered _ = Unit {0}

abbrev RepliesHold : Replies → Type 0
RepliesHold rs = Each (λ r. IsTicket r.0 × AnswerFits max_number r.1) rs

body_fits : (p t status : ℕ) (json : List ℕ) → IsTicket t → Number status → Bytes json → Answered (item.Body p t status json)
body_fits p t status json i n b = and_both (ticket.fits t) (number.fits status && bytes.fits json) (ticket_fits t i) (and_both (number.fits status) (bytes.fits json) (is_number status n) (bytes_fit json b))

body_answered : (p t : ℕ) (a : Answer) (b : Bool) → IsTicket t → AnswerFits max_number a → Each Answered (body_if b p t a)
body_answered p t a false i f = tt
body_answered p t a true i f = (body_fits p t (answer_status a) (answer_text a) i (statuses a) (answer_bytes a f), tt)

largest : max_number ≤ max_number
largest = omega arith

reply_answered : (p : ℕ) (posted : BTreeSet ℕ) (r : ℕ × Answer) → IsTicket r.0 → AnswerFits max_number r.1 → Each Answered (reply_items p posted r)
reply_answered p posted r i f = (and_both (ticket.fits r.0) (answers_texts.answer.fits r.1) (ticket_fits r.0 i) (answer_fits max_number largest r.1 f), body_answered p r.0 r.1 (is_among posted r.0) i f)

replies_answered : (p : ℕ) (posted : BTreeSet ℕ) (rs : Replies) → RepliesHold rs → Each Answered (flat_map (reply_items p posted) rs)
replies_answered p posted [] h = tt
replies_answered p posted (r ∷ rs) h = each_append Answered (reply_items p posted r) (flat_map (reply_items p posted) rs) (reply_answered p posted r h.0.0 h.0.1) (replies_answered p posted rs h.1)

line_answered : (p t : ℕ) (x : WatchItem) (b : Bool) → IsTicket t → MessageFits max_number x → Each Answered (line_if b p t x)
line_answered p t x false i f = tt
line_answered p t x true i f = (body_fits p t 200 (item_text x) i (omega arith) (item_bytes x f), tt)

taken_answered : (p : ℕ) (posted : BTreeSet ℕ) (t : ℕ) (x : WatchItem) → IsTicket t → MessageFits max_number x → Each Answered (taken_items p posted t x)
taken_answered p posted t x i f = (message_fits max_number largest x f, line_answered p t x (is_among posted t) i f)

-- ---- the replies are fetched

reply_put : (t : ℕ) (a : Answer) (rs : Replies) → IsTicket t → AnswerFits max_number a → RepliesHold rs → RepliesHold (with_reply t a rs)
reply_put t a [] i f h = ((i, f), tt)
reply_put t a (r ∷ rs) i f h = by_case (nat_cmp t r.0) (reply_put t a rs i f h.1)
  where
    by_case : (o : Ordering) → RepliesHold (with_reply t a rs) → RepliesHold (by_order o ((t, a) ∷ r ∷ rs) ((r.0, a) ∷ rs) (r ∷ with_reply t a rs))
    by_case Less k = ((i, f), h)
    by_case Equal k = ((h.0.0, f), h.1)
    by_case Greater k = (h.0, k)

lesser_ticket : (o : Option ℕ) (n : ℕ) → If IsTicket o → IsTicket n → IsTicket (lesser o n)
lesser_ticket None n h k = k
lesser_ticket (Some m) n h k = either IsTicket (nat_le m n) m n h k

ready_ticket : (o : Option ℕ) (xs : List Asked) → If IsTicket o → AllOf AskHolds xs → If IsTicket (least_ready o xs)
ready_ticket o [] h k = h
ready_ticket o (a ∷ rest) h k =
    ready_ticket (cond (is_replied a.stage) (Some (lesser o a.ticket)) o) rest (either (If IsTicket) (is_replied a.stage) (Some (lesser o a.ticket)) o (lesser_ticket o a.ticket h k.0.ticket) h) k.1

record FetchedHolds (k : ℕ) (x : Place) (rs : Replies) : Type 0 where
  core : CoreHolds k x.core
  replies : RepliesHold rs

next_number : (heard k : ℕ) → Bounds heard k → heard + 1 ≤ max_number
next_number heard k l = let t = l.twice in omega (arith, t)

fetched_holds : (heard k n : ℕ) (x : Place) (got : Replies) → Bounds heard k → CoreFits x.core → CoreHolds k x.core → RepliesHold got → FetchedHolds k (fetched n x got).place (fetched n x got).replies
fetched_holds heard k zero x got l c h g = record { core = h; replies = g }
fetched_holds heard k (suc n) x got l c h g = by_ticket (ready x.core) (ready_ticket None x.core.asks tt h.asks) (λ y r d m s. fetched_holds heard k n y r l d m s)
  where
    by_outcome : (t : ℕ) (y : Place) (r : Result Outcome StepFault) → IsTicket t → OutcomeHolds r → CoreFits y.core → CoreHolds k y.core
        → ((z : Place) (s : Replies) → CoreFits z.core → CoreHolds k z.core → RepliesHold s → FetchedHolds k (fetched n z s).place (fetched n z s).replies)
        → FetchedHolds k (fetched_as (fetched n) y t got r).place (fetched_as (fetched n) y t got r).replies
    by_outcome t y (Ok (outcome.Replied a)) i f d m more = more y (with_reply t a got) d m (reply_put t a got i f g)
    by_outcome t y (Ok outcome.Waiting) i f d m more = record { core = m; replies = g }
    by_outcome t y (Ok outcome.Pending) i f d m more = record { core = m; replies = g }
    by_outcome t y (Ok outcome.Noted) i f d m more = record { core = m; replies = g }
    by_outcome t y (Ok (outcome.Item x)) i f d m more = record { core = m; replies = g }
    by_outcome t y (Ok (outcome.Job j)) i f d m more = record { core = m; replies = g }
    by_outcome t y (Err why) i f d m more = record { core = m; replies = g }

    by_ticket : (o : Option ℕ) → If IsTicket o → ((z : Place) (s : Replies) → CoreFits z.core → CoreHolds k z.core → RepliesHold s → FetchedHolds k (fetched n z s).place (fetched n z s).replies)
        → FetchedHolds k (fetched_if (fetched n) x got o).place (fetched_if (fetched n) x got o).replies
    by_ticket None i more = record { core = h; replies = g }
    by_ticket (Some t) i more =
        let s = holding.steps_hold heard k x.core (event.Take t) x.clock l c tt tt h in
        by_outcome t (with_core x (stepped x.core (event.Take t) x.clock).core) (stepped x.core (event.Take t) x.clock).outcome i s.1 (proxies.steps_fit heard x.core (event.Take t) x.clock (next_number heard k l) c tt).0 s.0 more

-- ---- the world

record WorldHolds (k : ℕ) (w : World) : Type 0 where
  places : AllKept (λ x. CoreHolds k x.core) w.places

place_holds : (k : ℕ) (w : World) (p : ℕ) (x : Place) → place_at w p ≡ Some x → WorldHolds k w → CoreHolds k x.core
place_holds k w p x e h = subst (If (λ (y : Place). CoreHolds k y.core)) e (kept_found (λ y. CoreHolds k y.core) w.places p h.places)

with_place_holds : (k : ℕ) (w : World) (p : ℕ) (x : Place) → CoreHolds k x.core → WorldHolds k w → WorldHolds k (with_place w p x)
with_place_holds k w p x f h = record { places = kept_put (λ y. CoreHolds k y.core) w.places p x f h.places }

places_weaker : (m n : ℕ) → m ≤ n → (es : Numbered Place) → AllKept (λ x. CoreHolds m x.core) es → AllKept (λ x. CoreHolds n x.core) es
places_weaker m n l [] h = tt
places_weaker m n l (e ∷ es) h = (core_weaker m n e.1.core l h.0, places_weaker m n l es h.1)

-- other parts of a world may change
same_places : (m n : ℕ) (w v : World) → m ≤ n → v.places ≡ w.places → WorldHolds m w → WorldHolds n v
same_places m n w v l e h = record { places = subst (AllKept (λ (x : Place). CoreHolds n x.core)) (sym e) (places_weaker m n l w.places h.places) }

-- ---- a turn of a proxy

turn_core : (w v : World) (p : ℕ) (x y : Place) (e : CoreEvent) (o : Outcome) (own : List Item) (told : Replies) → Turn w p x e o v y own told → y.core ≡ x.core
turn_core w v p x y e o own told (ticks z) = refl
turn_core w v p x y e o own told (asks_it t q z f) = refl
turn_core w v p x y e o own told (posts_it t path body q z f) = refl
turn_core w v p x y e o own told (calls n member t q) = refl
turn_core w v p x y e o own told (opens n member ask) = refl
turn_core w v p x y e o own told (closes n stream at) = refl
turn_core w v p x y e o own told (answers n call a z f g) = refl
turn_core w v p x y e o own told (loses n call z f) = refl
turn_core w v p x y e o own told (delivers n s i rest z f g a b r) = refl
turn_core w v p x y e o own told (cuts n s z f g a b) = refl
turn_core w v p x y e o own told (takes t i) = refl
turn_core w v p x y e o own told (waits t z f) = refl
turn_core w v p x y e o own told (leaves t z) = refl

closed_places : (w : World) (n : ℕ) (o : Option OpenedStream) → (closed_in w n o).places ≡ w.places
closed_places w n None = refl
closed_places w n (Some s) = refl

turn_places : (w v : World) (p : ℕ) (x y : Place) (e : CoreEvent) (o : Outcome) (own : List Item) (told : Replies) → Turn w p x e o v y own told → v.places ≡ w.places
turn_places w v p x y e o own told (ticks z) = refl
turn_places w v p x y e o own told (asks_it t q z f) = refl
turn_places w v p x y e o own told (posts_it t path body q z f) = refl
turn_places w v p x y e o own told (calls n member t q) = refl
turn_places w v p x y e o own told (opens n member ask) = refl
turn_places w v p x y e o own told (closes n stream at) = closed_places w stream (nth w.streams stream)
turn_places w v p x y e o own told (answers n call a z f g) = refl
turn_places w v p x y e o own told (loses n call z f) = refl
turn_places w v p x y e o own told (delivers n s i rest z f g a b r) = refl
turn_places w v p x y e o own told (cuts n s z f g a b) = refl
turn_places w v p x y e o own told (takes t i) = refl
turn_places w v p x y e o own told (waits t z f) = refl
turn_places w v p x y e o own told (leaves t z) = refl

turn_ticketed : (w v : World) (p : ℕ) (x y : Place) (e : CoreEvent) (o : Outcome) (own : List Item) (told : Replies) → Turn w p x e o v y own told → Each AskedHasText own → IsTicketed e
turn_ticketed w v p x y e o own told (ticks z) a = tt
turn_ticketed w v p x y e o own told (asks_it t q z f) a = (asked_ticket p t q a.0).0
turn_ticketed w v p x y e o own told (posts_it t path body q z f) a = (asked_ticket p t q a.1.0).0
turn_ticketed w v p x y e o own told (calls n member t q) a = tt
turn_ticketed w v p x y e o own told (opens n member ask) a = tt
turn_ticketed w v p x y e o own told (closes n stream at) a = tt
turn_ticketed w v p x y e o own told (answers n call b z f g) a = tt
turn_ticketed w v p x y e o own told (loses n call z f) a = tt
turn_ticketed w v p x y e o own told (delivers n s i rest z f g b c r) a = tt
turn_ticketed w v p x y e o own told (cuts n s z f g b c) a = tt
turn_ticketed w v p x y e o own told (takes t i) a = tt
turn_ticketed w v p x y e o own told (waits t z f) a = tt
turn_ticketed w v p x y e o own told (leaves t z) a = tt

told_holds : (t : ℕ) (o : Outcome) → IsTicket t → OutcomeHolds (Ok o) → RepliesHold (told_at_once t o)
told_holds t (outcome.Replied a) i f = ((i, f), tt)
told_holds t outcome.Waiting i f = tt
told_holds t outcome.Pending i f = tt
told_holds t outcome.Noted i f = tt
told_holds t (outcome.Item x) i f = tt
told_holds t (outcome.Job j) i f = tt

turn_told : (w v : World) (p : ℕ) (x y : Place) (e : CoreEvent) (o : Outcome) (own : List Item) (told : Replies) → Turn w p x e o v y own told → Each AskedHasText own → OutcomeHolds (Ok o) → RepliesHold told
turn_told w v p x y e o own told (ticks z) a f = tt
turn_told w v p x y e o own told (asks_it t q z g) a f = told_holds t o (asked_ticket p t q a.0) f
turn_told w v p x y e o own told (posts_it t path body q z g) a f = told_holds t o (asked_ticket p t q a.1.0) f
turn_told w v p x y e o own told (calls n member t q) a f = tt
turn_told w v p x y e o own told (opens n member ask) a f = tt
turn_told w v p x y e o own told (closes n stream at) a f = tt
turn_told w v p x y e o own told (answers n call b z g c) a f = tt
turn_told w v p x y e o own told (loses n call z g) a f = tt
turn_told w v p x y e o own told (delivers n s i rest z g b c d r) a f = tt
turn_told w v p x y e o own told (cuts n s z g b c d) a f = tt
turn_told w v p x y e o own told (takes t i) a f = tt
turn_told w v p x y e o own told (waits t z g) a f = tt
turn_told w v p x y e o own told (leaves t z) a f = tt

turn_answered : (w v : World) (p : ℕ) (x y : Place) (e : CoreEvent) (o : Outcome) (own rest : List Item) (told : Replies) → Turn w p x e o v y own told → Pinned (own ++ rest) → OutcomeHolds (Ok o) → Each Answered own
turn_answered w v p x y e o own rest told (ticks z) n f = (tt, tt)
turn_answered w v p x y e o own rest told (asks_it t q z g) n f = (tt, tt)
turn_answered w v p x y e o own rest told (posts_it t path body q z g) n f = (tt, (tt, tt))
turn_answered w v p x y e o own rest told (calls m member t q) n f = (tt, tt)
turn_answered w v p x y e o own rest told (opens m member ask) n f = (tt, tt)
turn_answered w v p x y e o own rest told (closes m stream at) n f = (tt, tt)
turn_answered w v p x y e o own rest told (answers m call b z g c) n f = (tt, tt)
turn_answered w v p x y e o own rest told (loses m call z g) n f = (tt, tt)
turn_answered w v p x y e o own rest told (delivers m s i more z g b c d r) n f = (tt, tt)
turn_answered w v p x y e o own rest told (cuts m s z g b c d) n f = (tt, tt)
turn_answered w v p x y e o own rest told (takes t i) n f = taken_answered p x.posted t i n f
turn_answered w v p x y e o own rest told (waits t z g) n f = (tt, tt)
turn_answered w v p x y e o own rest told (leaves t z) n f = (tt, tt)

-- ---- a line

record LineHolds (k : ℕ) (after : World) (gained : List Item) : Type 0 where
  world : WorldHolds k after
  answered : Each Answered gained

more : (k : ℕ) → k ≤ k + 128
more k = omega arith

less_room : (heard k : ℕ) → Bounds heard (k + 128) → heard ≤ k → Bounds heard k
less_room heard k l h = let r = l.room in record { kept = h; twice = l.twice; room = omega (arith, r) }

risen_most : (e : CoreEvent) (k : ℕ) → risen e k ≤ k + 128
risen_most (event.Answer call a) k = omega arith
risen_most (event.Ask ticket q word) k = omega arith
risen_most (event.Lost call) k = omega arith
risen_most (event.Tick word) k = omega arith
risen_most (event.Item number x) k = omega arith
risen_most (event.Cut number) k = omega arith
risen_most (event.Take ticket) k = omega arith
risen_most (event.Leave ticket) k = omega arith
risen_most event.Work k = omega arith

begins_answered : (w : World) (p clock life : ℕ) (i : Item) → Begins w p clock life i → Answered i
begins_answered w p clock life i (first e) = tt
begins_answered w p clock life i (again x e) = tt

-- the heard numbers are at most those that are kept
effect_holds : (heard k : ℕ) (w after : World) (gained : List Item) → Bounds heard (k + 128) → heard ≤ k → Effect w after gained → Each AskedHasText gained → Pinned gained → WorldSpeaks heard w → WorldHolds k w → LineHolds (k + 128) after gained
effect_holds heard k w after gained l u (starts p clock life i b) s n c h = record {
  world = with_place_holds (k + 128) w p (new_place w clock life) (holding.starts_hold (k + 128) (settings w)) (same_places k (k + 128) w w (more k) refl h);
  answered = (begins_answered w p clock life i b, tt);
}
effect_holds heard k w after gained l u (sets p millis x e forward) s n c h = record {
  world = with_place_holds (k + 128) w p (record x { clock = millis }) (core_weaker k (k + 128) x.core (more k) (place_holds k w p x e h)) (same_places k (k + 128) w w (more k) refl h);
  answered = (tt, tt);
}
effect_holds heard k w after gained l u (refuses_post p t path body a x e) s n c h = record {
  world = with_place_holds (k + 128) w p (with_posted t x) (core_weaker k (k + 128) x.core (more k) (place_holds k w p x e h)) (same_places k (k + 128) w w (more k) refl h);
  answered = (tt, reply_answered p (with_posted t x).posted (t, a) n.0 n.1);
}
effect_holds heard k w after gained l u (executes m call e fresh) s n c h = record { world = same_places k (k + 128) w after (more k) refl h; answered = (tt, tt) }
effect_holds heard k w after gained l u (expires lease t e due) s n c h = record { world = same_places k (k + 128) w after (more k) refl h; answered = (tt, tt) }
effect_holds heard k w after gained l u (applies member revision t e) s n c h = record { world = same_places k (k + 128) w after (more k) refl h; answered = (tt, tt) }
effect_holds heard k w after gained l u (pushes m z t i e a b f) s n c h = record { world = same_places k (k + 128) w after (more k) refl h; answered = (tt, tt) }
effect_holds heard k w after gained l u (turns p x e o v y own told at is t) s n c h =
    let z = with_core x (stepped x.core e x.clock).core in
    let f = all_fetched y told in
    let rest = flat_map (reply_items p f.place.posted) f.replies in
    let asked = each_first AskedHasText own rest s in
    let fits = comes heard w v p z y e o own told t asked c in
    let stood = place_found heard w p x at c in
    let held = holding.steps_hold heard k x.core e x.clock (less_room heard k l u) stood fits (turn_ticketed w v p z y e o own told t asked) (place_holds k w p x at h) in
    let fit = (proxies.steps_fit heard x.core e x.clock (next_number heard (k + 128) l) stood fits).0 in
    let given : OutcomeHolds (Ok o) = subst OutcomeHolds is held.1 in
    let same = sym (turn_core w v p z y e o own told t) in
    let got =
    fetched_holds heard (k + 128) (length y.core.asks) y told l (subst CoreFits same fit) (subst (CoreHolds (k + 128)) same (core_weaker (risen e k) (k + 128) (stepped x.core e x.clock).core (risen_most e k) held.0))
    (turn_told w v p z y e o own told t asked given)
    in
    record {
      world = with_place_holds (k + 128) v p f.place got.core (same_places k (k + 128) w v (more k) (turn_places w v p z y e o own told t) h);
      answered = each_append Answered own rest (turn_answered w v p z y e o own rest told t n given) (replies_answered p f.place.posted f.replies got.replies);
    }

-- ---- all lines

abbrev TakenHolds : ℕ → Taken → Type 0
TakenHolds k (Ok gained) = WorldHolds k gained.0 × Each Answered gained.1
TakenHolds k (Err why) = Unit {0}

counted_holds : (heard k : ℕ) (w : World) (l : Line) (r : Result (List Item) LineRefusal) → (done w l).gained ≡ r → Bounds heard (k + 128) → heard ≤ k → Allows heard (counted_as (done w l).world r) → DonePinned r → WorldSpeaks heard w → WorldHolds k w
    → TakenHolds (k + 128) (counted_as (done w l).world r)
counted_holds heard k w l (Ok gained) e b u a n c h =
    let x = effect_holds heard k w (done w l).world gained b u (effect w l gained e) a.0 n c h in
    (record { places = x.world.places }, x.answered)
counted_holds heard k w l (Err why) e b u a n c h = tt

and_then_holds : (heard k : ℕ) (lines : List Line) (t : Taken) (rest : World → List Item) → TakenSpeaks heard t → TakenHolds k t → GoesOnWithRoom (λ after. RoomFrom heard after lines) t → Each AskedHasText (items_and_then t rest)
    → ((w : World) → WorldSpeaks heard w → WorldHolds k w → RoomFrom heard w lines → Each AskedHasText (rest w) → Each Answered (rest w)) → Each Answered (items_and_then t rest)
and_then_holds heard k lines (Ok gained) rest c h r s f = each_append Answered gained.1 (rest gained.0) h.1 (f gained.0 c.0 h.0 r (each_second AskedHasText gained.1 (rest gained.0) s))
and_then_holds heard k lines (Err why) rest c h r s f = tt

from_holds : (heard k n : ℕ) (w : World) (lines : List Line) → heard ≤ k → heard + heard ≤ max_number → k + 128 * length lines + 256 ≤ max_number → AreRead n lines → Each PostIsRefusedInBytes lines → RoomFrom heard w lines → WorldSpeaks heard w → WorldHolds k w
    → Each AskedHasText (transcript_from (Some w) lines) → Each Answered (transcript_from (Some w) lines)
from_holds heard k n w [] u two room read p r c h s = tt
from_holds heard k n w (l ∷ lines) u two room read p r c h s =
    let rest : World → List Item = λ after. transcript_from (Some after) lines in
    let a = allowed heard lines (taken w l) rest r.1 s in
    let b : Bounds heard (k + 128) = record { kept = omega (arith, u); twice = two; room = omega (arith, room) } in
    and_then_holds heard (k + 128) lines (taken w l) rest (counted_speaks heard w l (done w l).gained refl (next_number heard (k + 128) b) r.0 c a)
    (counted_holds heard k w l (done w l).gained refl b u a (line_pinned n w l read.0 p.0) c h) r.1 s
    (λ v d m q z. from_holds heard (k + 128) (n + 1) v lines (omega (arith, u)) two (omega (arith, room)) read.1 p.1 q d m z)

begun_holds : (k : ℕ) (l : Line) → TakenHolds k (begun l)
begun_holds k (line.World members namespace leasing) = (record { places = tt }, (tt, tt))
begun_holds k _ = tt

-- what was made of it has a text, so it has one
is_answered : (i : Item) → HasTextAsMade i → Answered i → AnsweredHasText i
is_answered (item.Reply p t a) e f = e ∙ f
is_answered (item.Taken p t x) e f = e ∙ f
is_answered (item.Body p t status json) e f = e ∙ f
is_answered (item.World members namespace leasing) e f = tt
is_answered (item.Started p) e f = tt
is_answered (item.Restarted p) e f = tt
is_answered (item.Clock p millis) e f = tt
is_answered (item.Asked p t q) e f = tt
is_answered (item.Posted p t path body) e f = tt
is_answered (item.Ticked p) e f = tt
is_answered (item.Sent p call member t q) e f = tt
is_answered (item.Opened p stream member q) e f = tt
is_answered (item.Closed p stream) e f = tt
is_answered (item.Executed call a) e f = tt
is_answered (item.Answered call) e f = tt
is_answered (item.Lost call) e f = tt
is_answered (item.Pushed stream message) e f = tt
is_answered (item.Delivered stream) e f = tt
is_answered (item.Cut stream) e f = tt
is_answered (item.Pending p t) e f = tt
is_answered (item.Left p t) e f = tt
is_answered (item.Expired lease) e f = tt
is_answered (item.Applied member revision) e f = tt

all_answered : (items : List Item) → HaveTextsAsMade items → Each Answered items → Each AnsweredHasText items
all_answered [] h k = tt
all_answered (i ∷ items) h k = (is_answered i h.0 k.0, all_answered items h.1 k.1)

answered_by : (most : ℕ) (lines : List Line) → AreRead 1 lines → 1 ≤ most → most + most ≤ max_number → most + 128 * length lines + 256 ≤ max_number → Each PostIsRefusedInBytes lines → StaysSmall most lines → Each AskedHasText (transcript lines) → Each Answered (transcript lines)
answered_by most [] read some two room p r s = tt
answered_by most (l ∷ lines) read some two room p r s =
    and_then_holds most most lines (begun l) (λ after. transcript_from (Some after) lines) (begun_speaks most l some read.0) (begun_holds most l) r s
    (λ v c h q z. from_holds most most 2 v lines (omega arith) two (omega (arith, room)) read.1 p.1 q c h z)

few_lines : (most n : ℕ) → most + 128 * n + 256 ≤ max_number → n ≤ max_number
few_lines most n l = omega (arith, l)

pub answered_fit : WhatIsAnsweredHasAText
answered_fit most lines read some two room p r s = all_answered (transcript lines) (texts_as_made lines read (few_lines most (length lines) room)) (answered_by most lines read some two room p r s)
