-- Line by line: the proxies and the store fit, and so does all that is on its way between them; so what is sent, answered and pushed
-- has a text.
use Rattle.std.proofs.Common.{◌≡◌, ◌≤◌, ℕ, zero, suc, ◌+◌, ◌-◌, ◌==◌, ◌&&◌, Bool, true, false, Less, Equal, Greater, List, [], ◌∷◌, set, slice_get, Option, None, Some, Result, Ok, Err, refl, sym, ◌∙◌, subst, arith}
use Rattle.std.specs.Prelude.{flat_map, nat_le}
use Rattle.std.specs.BTreeSet.{BTreeSet}
use Rattle.std.specs.declared.cmp.Ordering.{Ordering}
use Rattle.std.specs.FinMap.Entries.{by_order}
use Rattle.std.specs.Ordering.{nat_cmp, is_eq}
use Rattle.std.proofs.lemmas.Bool.{leb-true}
use Rattle.etcd_types.proofs.Bools.{and_first, and_second, and_both}
use Rattle.etcd_types.specs.declared.answer.Answer.{Answer}
use Rattle.etcd_types.specs.declared.request.Request.{Request}
use Rattle.etcd_types.specs.declared.request.Request.TheVariants as request
use Rattle.etcd_types.specs.declared.watch.WatchItem.{WatchItem}
use Rattle.text_model.specs.Words.{max_number, number, is_within, bytes}
use Rattle.message_text.specs.Requests as asks
use Rattle.text_laws.specs.Values.Fits.{AllOf, If, Bytes, Number, AnswerFits, MessageFits, RequestFits}
use Rattle.text_laws.proofs.Values.Alls.{either, all_push, is_number}
use Rattle.text_laws.proofs.Values.AnswerTexts.{answer_fits, message_fits}
use Rattle.text_laws.proofs.Values.RequestTexts.{bytes_of, request_to, request_from}
use Rattle.script_text.specs.declared.item.Item.{Item}
use Rattle.script_text.specs.declared.item.Item.TheVariants as item
use Rattle.script_text.specs.declared.line.Line.{Line}
use Rattle.script_text.specs.declared.line.Line.TheVariants as line
use Rattle.script_text.specs.Lines.{proxy, ticket, world, is_line}
use Rattle.script_text.specs.Items.{item_words, item_form, is_item}
use Rattle.store_model.specs.Step.{exec}
use Rattle.text_laws.specs.Stores.Stores.{StoreFits, HasRoom}
use Rattle.text_laws.proofs.Stores.Steps.{answers_fit}
use Rattle.text_laws.proofs.Stores.Messages.{messages_fit}
use Rattle.text_laws.proofs.Stores.Others.{starts_fit, expiries_fit, applies_fit, openings_fit}
use Rattle.core_model.specs.declared.event.CoreEvent.{CoreEvent}
use Rattle.core_model.specs.declared.event.CoreEvent.TheVariants as event
use Rattle.core_model.specs.declared.event.Outcome.{Outcome}
use Rattle.core_model.specs.declared.event.Outcome.TheVariants as outcome
use Rattle.core_model.specs.declared.event.StepFault.{StepFault}
use Rattle.core_model.specs.Step.{stepped}
use Rattle.core_model.specs.Takes.{ready}
use Rattle.text_laws.specs.Sent.Sends.{Narrow, SettingsFit, CoreFits, EventFits, OutcomeFits}
use Rattle.text_laws.proofs.Sent.Steps as proxies
use Rattle.world_model.specs.declared.fault.LineRefusal.{LineRefusal}
use Rattle.world_model.specs.declared.sent_call.SentCall.{SentCall}
use Rattle.world_model.specs.Gains.{Replies, body_if, reply_items, line_if, fetched, fetched_as, fetched_if, all_fetched}
use Rattle.world_model.specs.Places.{nth, kept_at, with_kept, place_at, is_among, with_core, with_place, with_posted}
use Rattle.world_model.specs.Sends.{new_call, closed_in}
use Rattle.world_model.specs.Starts.{settings, new_place}
use Rattle.world_model.specs.State.{Numbered, Place, OpenedStream, World}
use Rattle.world_model.specs.Transcript.{Taken, done, counted_as, begun, taken, items_and_then, transcript_from, transcript}
use Rattle.world_laws.proofs.Effects.{Turn, ticks, asks_it, posts_it, calls, opens, closes, answers, loses, delivers, cuts, takes, waits, leaves, Begins, first, again, Effect, starts, sets, refuses_post, executes, expires, applies, pushes, turns, effect}
use Rattle.text_laws.specs.Items.Texts.{Each, AreRead, made_fits, HasTextAsMade, HaveTextsAsMade}
use Rattle.text_laws.proofs.Items.Parts.{each_append, parts_of}
use Rattle.text_laws.proofs.Items.Scripts.{texts_as_made}
use Rattle.text_laws.specs.Scripts.Room.{GoesOnWithRoom, RoomFrom, StaysSmall}
use Rattle.text_laws.specs.Scripts.Spoken.{AskedHasText, SpokenHasText, WhatIsSpokenHasAText}
use Rattle.text_laws.proofs.Scripts.Lists.{set_each, each_first, each_second, has_room}

-- ---- what is kept by number

abbrev pub AllKept : {A : Type 0} → (A → Type 0) → Numbered A → Type 0
AllKept P es = Each (λ e. P e.1) es

pub kept_found : {A : Type 0} (P : A → Type 0) (es : Numbered A) (k : ℕ) → AllKept P es → If P (kept_at es k)
kept_found P [] k h = tt
kept_found P (e ∷ es) k h = either (If P) (is_eq (nat_cmp k e.0)) (Some e.1) (kept_at es k) h.0 (kept_found P es k h.1)

pub kept_put : {A : Type 0} (P : A → Type 0) (es : Numbered A) (k : ℕ) (x : A) → P x → AllKept P es → AllKept P (with_kept es k x)
kept_put P [] k x n h = (n, tt)
kept_put {A} P (e ∷ es) k x n h = by_case (nat_cmp k e.0) (kept_put P es k x n h.1)
  where
    by_case : (o : Ordering) → AllKept P (with_kept es k x) → AllKept P (by_order o ((k, x) ∷ e ∷ es) ((e.0, x) ∷ es) (e ∷ with_kept es k x))
    by_case Less t = (n, h)
    by_case Equal t = (n, h.1)
    by_case Greater t = (h.0, t)

-- ---- the world

abbrev pub PlaceSpeaks : Place → Type 0
PlaceSpeaks x = CoreFits x.core

pub record CallSpeaks (most : ℕ) (call : SentCall) : Type 0 where
  pub member : Number call.member
  pub request : RequestFits 127 call.request
  pub narrow : Narrow call.request
  pub executed : If (AnswerFits most) call.executed

abbrev pub StreamSpeaks : ℕ → OpenedStream → Type 0
StreamSpeaks most s = AllOf (MessageFits most) s.waiting

pub record WorldSpeaks (most : ℕ) (w : World) : Type 0 where
  pub settings : SettingsFit (settings w)
  pub places : AllKept PlaceSpeaks w.places
  pub calls : Each (CallSpeaks most) w.calls
  pub streams : Each (StreamSpeaks most) w.streams
  pub store : StoreFits most w.store

pub nth_found : {A : Type 0} (P : A → Type 0) (xs : List A) (n : ℕ) (x : A) → nth xs n ≡ Some x → Each P xs → P x
nth_found P xs n x e h = subst (If P) e (either (If P) (n == 0) None (slice_get xs (n - 1)) tt (got P xs (n - 1) h))
  where
    got : {A : Type 0} (P : A → Type 0) (xs : List A) (i : ℕ) → Each P xs → If P (slice_get xs i)
    got P [] i h = tt
    got P (x ∷ xs) zero h = h.0
    got P (x ∷ xs) (suc i) h = got P xs i h.1

pub place_found : (most : ℕ) (w : World) (p : ℕ) (x : Place) → place_at w p ≡ Some x → WorldSpeaks most w → CoreFits x.core
place_found most w p x e h = subst (If PlaceSpeaks) e (kept_found PlaceSpeaks w.places p h.places)

with_place_speaks : (most : ℕ) (w : World) (p : ℕ) (x : Place) → CoreFits x.core → WorldSpeaks most w → WorldSpeaks most (with_place w p x)
with_place_speaks most w p x f h = record { settings = h.settings; places = kept_put PlaceSpeaks w.places p x f h.places; calls = h.calls; streams = h.streams; store = h.store }

-- the replies are fetched
fetched_fits : (most n : ℕ) (x : Place) (got : Replies) → most + 1 ≤ max_number → CoreFits x.core → CoreFits (fetched n x got).place.core
fetched_fits most zero x got l h = h
fetched_fits most (suc n) x got l h = by_ticket (ready x.core) (λ y g k. fetched_fits most n y g l k)
  where
    by_outcome : (t : ℕ) (y : Place) (r : Result Outcome StepFault) → CoreFits y.core → ((y : Place) (g : Replies) → CoreFits y.core → CoreFits (fetched n y g).place.core) → CoreFits (fetched_as (fetched n) y t got r).place.core
    by_outcome t y (Ok (outcome.Replied a)) k more = more y _ k
    by_outcome t y (Ok outcome.Waiting) k more = k
    by_outcome t y (Ok outcome.Pending) k more = k
    by_outcome t y (Ok outcome.Noted) k more = k
    by_outcome t y (Ok (outcome.Item i)) k more = k
    by_outcome t y (Ok (outcome.Job j)) k more = k
    by_outcome t y (Err f) k more = k

    by_ticket : (o : Option ℕ) → ((y : Place) (g : Replies) → CoreFits y.core → CoreFits (fetched n y g).place.core) → CoreFits (fetched_if (fetched n) x got o).place.core
    by_ticket None more = h
    by_ticket (Some t) more = by_outcome t _ (stepped x.core (event.Take t) x.clock).outcome (proxies.steps_fit most x.core (event.Take t) x.clock l h tt).0 more

-- ---- what comes to a proxy

pub asked_parts : (p t : ℕ) (q : Request) → is_item (item.Asked p t q) ≡ true → Number t × RequestFits 127 q
unfolding is_item item_form item_words
asked_parts p t q e =
    let a = and_second (proxy.fits p) (ticket.fits t && asks.request.fits q) e in
    let b = and_first (ticket.fits t) (asks.request.fits q) a in
    (leb-true t max_number (and_second (nat_le 1 t) (nat_le t max_number) b), request_from q (and_second (ticket.fits t) (asks.request.fits q) a))

pub comes : (most : ℕ) (w v : World) (p : ℕ) (x y : Place) (e : CoreEvent) (o : Outcome) (own : List Item) (told : Replies) → Turn w p x e o v y own told → Each AskedHasText own → WorldSpeaks most w → EventFits most e
comes most w v p x y e o own told (ticks z) a h = tt
comes most w v p x y e o own told (asks_it t q z f) a h = asked_parts p t q a.0
comes most w v p x y e o own told (posts_it t path body q z f) a h = asked_parts p t q a.1.0
comes most w v p x y e o own told (calls n member t q) a h = tt
comes most w v p x y e o own told (opens n member ask) a h = tt
comes most w v p x y e o own told (closes n stream at) a h = tt
comes most w v p x y e o own told (answers n call b z f g) a h = subst (If (AnswerFits most)) g (nth_found (CallSpeaks most) w.calls n call f h.calls).executed
comes most w v p x y e o own told (loses n call z f) a h = tt
comes most w v p x y e o own told (delivers n s i rest z f g b c r) a h = (subst (AllOf (MessageFits most)) r (nth_found (StreamSpeaks most) w.streams n s f h.streams)).0
comes most w v p x y e o own told (cuts n s z f g b c) a h = tt
comes most w v p x y e o own told (takes t i) a h = tt
comes most w v p x y e o own told (waits t z f) a h = tt
comes most w v p x y e o own told (leaves t z) a h = tt

-- ---- what comes of it

abbrev pub MadeFits : Item → Type 0
MadeFits (item.Sent p call member t q) = made_fits (item.Sent p call member t q) ≡ true
MadeFits (item.Opened p stream member q) = made_fits (item.Opened p stream member q) ≡ true
MadeFits (item.Executed call a) = made_fits (item.Executed call a) ≡ true
MadeFits (item.Pushed stream message) = made_fits (item.Pushed stream message) ≡ true
MadeFits _ = Unit {0}

body_made : (p t : ℕ) (a : Answer) (b : Bool) → Each MadeFits (body_if b p t a)
body_made p t a false = tt
body_made p t a true = (tt, tt)

reply_made : (p : ℕ) (posted : BTreeSet ℕ) (r : ℕ × Answer) → Each MadeFits (reply_items p posted r)
reply_made p posted r = (tt, body_made p r.0 r.1 (is_among posted r.0))

replies_made : (p : ℕ) (posted : BTreeSet ℕ) (rs : Replies) → Each MadeFits (flat_map (reply_items p posted) rs)
replies_made p posted [] = tt
replies_made p posted (r ∷ rs) = each_append MadeFits (reply_items p posted r) (flat_map (reply_items p posted) rs) (reply_made p posted r) (replies_made p posted rs)

line_made : (p t : ℕ) (i : WatchItem) (b : Bool) → Each MadeFits (line_if b p t i)
line_made p t i false = tt
line_made p t i true = (tt, tt)

begins_made : (w : World) (p clock life : ℕ) (i : Item) → Begins w p clock life i → MadeFits i
begins_made w p clock life i (first e) = tt
begins_made w p clock life i (again x e) = tt

record TurnSpeaks (most : ℕ) (v : World) (y : Place) (own : List Item) : Type 0 where
  world : WorldSpeaks most v
  place : CoreFits y.core
  made : Each MadeFits own

as_was : (most : ℕ) (w : World) (x y : Place) (own : List Item) → y.core ≡ x.core → WorldSpeaks most w → CoreFits x.core → Each MadeFits own → TurnSpeaks most w y own
as_was most w x y own e h c k = record { world = h; place = subst CoreFits (sym e) c; made = k }

with_call_speaks : (most : ℕ) (w : World) (n : ℕ) (call new : SentCall) → CallSpeaks most new → WorldSpeaks most w → WorldSpeaks most (record w { calls = set w.calls (n - 1) new })
with_call_speaks most w n call new c h = record { settings = h.settings; places = h.places; calls = set_each (CallSpeaks most) w.calls (n - 1) new c h.calls; streams = h.streams; store = h.store }

with_stream_speaks : (most : ℕ) (w : World) (n : ℕ) (s : OpenedStream) → StreamSpeaks most s → WorldSpeaks most w → WorldSpeaks most (record w { streams = set w.streams (n - 1) s })
with_stream_speaks most w n s c h = record { settings = h.settings; places = h.places; calls = h.calls; streams = set_each (StreamSpeaks most) w.streams (n - 1) s c h.streams; store = h.store }

closed_speaks : (most : ℕ) (w : World) (n : ℕ) (o : Option OpenedStream) → WorldSpeaks most w → WorldSpeaks most (closed_in w n o)
closed_speaks most w n None h = h
closed_speaks most w n (Some s) h = with_stream_speaks most w n _ tt h

turn_speaks : (most : ℕ) (w v : World) (p : ℕ) (x y : Place) (e : CoreEvent) (o : Outcome) (own : List Item) (told : Replies) → Turn w p x e o v y own told → OutcomeFits (Ok o) → WorldSpeaks most w → CoreFits x.core → TurnSpeaks most v y own
turn_speaks most w v p x y e o own told (ticks z) u h c = as_was most w x y _ refl h c (tt, tt)
turn_speaks most w v p x y e o own told (asks_it t q z f) u h c = as_was most w x y _ refl h c (tt, tt)
turn_speaks most w v p x y e o own told (posts_it t path body q z f) u h c = as_was most w x y _ refl h c (tt, (tt, tt))
turn_speaks most w v p x y e o own told (calls n member t q) u h c = record {
  world = record {
    settings = h.settings;
    places = h.places;
    calls = each_append (CallSpeaks most) w.calls (new_call p x n member q ∷ []) h.calls (record { member = u.0; request = u.2; narrow = u.3; executed = tt }, tt);
    streams = h.streams;
    store = h.store;
  };
  place = c;
  made = (and_both (number.fits member) (number.fits t && asks.request.fits q) (is_number member u.0) (and_both (number.fits t) (asks.request.fits q) (is_number t u.1) (request_to q u.2)), tt);
}
turn_speaks most w v p x y e o own told (opens n member ask) u h c = record {
  world = record {
    settings = h.settings;
    places = h.places;
    calls = h.calls;
    streams = each_append (StreamSpeaks most) w.streams _ h.streams (tt, tt);
    store = openings_fit most w.store member ask u.0 u.1 h.store;
  };
  place = c;
  made = (and_both (number.fits member) (asks.request.fits (request.Watch ask)) (is_number member u.0) (request_to (request.Watch ask) u.1), tt);
}
turn_speaks most w v p x y e o own told (closes n stream at) u h c = record { world = closed_speaks most w stream _ h; place = c; made = (tt, tt) }
turn_speaks most w v p x y e o own told (answers n call b z f g) u h c =
    let k = nth_found (CallSpeaks most) w.calls n call f h.calls in
    record { world = with_call_speaks most w n call (record call { settled = true }) (record { member = k.member; request = k.request; narrow = k.narrow; executed = k.executed }) h; place = c; made = (tt, tt) }
turn_speaks most w v p x y e o own told (loses n call z f) u h c =
    let k = nth_found (CallSpeaks most) w.calls n call f h.calls in
    record { world = with_call_speaks most w n call (record call { settled = true }) (record { member = k.member; request = k.request; narrow = k.narrow; executed = k.executed }) h; place = c; made = (tt, tt) }
turn_speaks most w v p x y e o own told (delivers n s i rest z f g a b r) u h c =
    record { world = with_stream_speaks most w n (record s { waiting = rest }) (subst (AllOf (MessageFits most)) r (nth_found (StreamSpeaks most) w.streams n s f h.streams)).1 h; place = c; made = (tt, tt) }
turn_speaks most w v p x y e o own told (cuts n s z f g a b) u h c = record { world = with_stream_speaks most w n _ tt h; place = c; made = (tt, tt) }
turn_speaks most w v p x y e o own told (takes t i) u h c = as_was most w x y _ refl h c (tt, line_made p t i (is_among x.posted t))
turn_speaks most w v p x y e o own told (waits t z f) u h c = as_was most w x y _ refl h c (tt, tt)
turn_speaks most w v p x y e o own told (leaves t z) u h c = as_was most w x y _ refl h c (tt, tt)

-- ---- a line

record LineSpeaks (most : ℕ) (after : World) (gained : List Item) : Type 0 where
  world : WorldSpeaks most after
  made : Each MadeFits gained

effect_speaks : (most : ℕ) (w after : World) (gained : List Item) → most + 1 ≤ max_number → Effect w after gained → Each AskedHasText gained → HasRoom most w.store → HasRoom most after.store → WorldSpeaks most w → LineSpeaks most after gained
effect_speaks most w after gained l (starts p clock life i b) s r q h =
    record { world = with_place_speaks most w p (new_place w clock life) (proxies.starts_fit (settings w) h.settings) h; made = (begins_made w p clock life i b, tt) }
effect_speaks most w after gained l (sets p millis x e forward) s r q h = record { world = with_place_speaks most w p (record x { clock = millis }) (place_found most w p x e h) h; made = (tt, tt) }
effect_speaks most w after gained l (refuses_post p t path body a x e) s r q h = record { world = with_place_speaks most w p (with_posted t x) (place_found most w p x e h) h; made = (tt, reply_made p _ (t, a)) }
effect_speaks most w after gained l (executes n call e fresh) s r q h =
    let c = nth_found (CallSpeaks most) w.calls n call e h.calls in
    let k = answers_fit most w.store call.member call.request (omega (arith, l)) c.member c.request h.store r q in
    record {
      world = record {
        settings = h.settings;
        places = h.places;
        calls = set_each (CallSpeaks most) w.calls (n - 1) _ (record { member = c.member; request = c.request; narrow = c.narrow; executed = k.1 }) h.calls;
        streams = h.streams;
        store = k.0;
      };
      made = (answer_fits most (omega (arith, l)) (exec w.store call.member call.request).1 k.1, tt);
    }
effect_speaks most w after gained l (expires lease t e due) s r q h =
    record { world = record { settings = h.settings; places = h.places; calls = h.calls; streams = h.streams; store = expiries_fit most w.store t lease (omega (arith, l)) e h.store r }; made = (tt, tt) }
effect_speaks most w after gained l (applies member revision t e) s r q h =
    record { world = record { settings = h.settings; places = h.places; calls = h.calls; streams = h.streams; store = applies_fit most w.store t member revision e h.store r }; made = (tt, tt) }
effect_speaks most w after gained l (pushes n z t i e a b f) s r q h =
    let k = messages_fit most w.store t i n (omega (arith, l)) f h.store r in
    record {
      world = record {
        settings = h.settings;
        places = h.places;
        calls = h.calls;
        streams = set_each (StreamSpeaks most) w.streams (n - 1) _ (all_push (MessageFits most) z.waiting i (nth_found (StreamSpeaks most) w.streams n z e h.streams) k.1) h.streams;
        store = k.0;
      };
      made = (message_fits most (omega (arith, l)) i k.1, tt);
    }
effect_speaks most w after gained l (turns p x e o v y own told at is t) s r q h =
    let z = with_core x (stepped x.core e x.clock).core in
    let f = all_fetched y told in
    let c = comes most w v p z y e o own told t (each_first AskedHasText own (flat_map (reply_items p f.place.posted) f.replies) s) h in
    let k = proxies.steps_fit most x.core e x.clock l (place_found most w p x at h) c in
    let u = turn_speaks most w v p z y e o own told t (subst OutcomeFits is k.1) h k.0 in
    record { world = with_place_speaks most v p f.place (fetched_fits most _ y told l u.place) u.world; made = each_append MadeFits own (flat_map (reply_items p f.place.posted) f.replies) u.made (replies_made p f.place.posted f.replies) }

-- ---- all lines

abbrev pub TakenSpeaks : ℕ → Taken → Type 0
TakenSpeaks most (Ok gained) = WorldSpeaks most gained.0 × Each MadeFits gained.1
TakenSpeaks most (Err why) = Unit {0}

abbrev pub Allows : ℕ → Taken → Type 0
Allows most (Ok gained) = Each AskedHasText gained.1 × HasRoom most gained.0.store
Allows most (Err why) = Unit {0}

pub counted_speaks : (most : ℕ) (w : World) (l : Line) (r : Result (List Item) LineRefusal) → (done w l).gained ≡ r → most + 1 ≤ max_number → HasRoom most w.store → WorldSpeaks most w → Allows most (counted_as (done w l).world r) → TakenSpeaks most (counted_as (done w l).world r)
counted_speaks most w l (Ok gained) e small room h a =
    let k = effect_speaks most w (done w l).world gained small (effect w l gained e) a.0 room (record { revisions = a.1.revisions; changes = a.1.changes; leases = a.1.leases }) h in
    (record { settings = k.world.settings; places = k.world.places; calls = k.world.calls; streams = k.world.streams; store = k.world.store }, k.made)
counted_speaks most w l (Err why) e small room h a = tt

pub allowed : (most : ℕ) (lines : List Line) (t : Taken) (rest : World → List Item) → GoesOnWithRoom (λ after. RoomFrom most after lines) t → Each AskedHasText (items_and_then t rest) → Allows most t
allowed most lines (Ok gained) rest r s = (each_first AskedHasText gained.1 (rest gained.0) s, has_room most gained.0 lines r)
allowed most lines (Err why) rest r s = tt

and_then_speaks : (most : ℕ) (lines : List Line) (t : Taken) (rest : World → List Item) → TakenSpeaks most t → GoesOnWithRoom (λ after. RoomFrom most after lines) t → Each AskedHasText (items_and_then t rest)
    → ((w : World) → WorldSpeaks most w → RoomFrom most w lines → Each AskedHasText (rest w) → Each MadeFits (rest w)) → Each MadeFits (items_and_then t rest)
and_then_speaks most lines (Ok gained) rest h r s f = each_append MadeFits gained.1 (rest gained.0) h.1 (f gained.0 h.0 r (each_second AskedHasText gained.1 (rest gained.0) s))
and_then_speaks most lines (Err why) rest h r s f = tt

from_speaks : (most : ℕ) (w : World) (lines : List Line) → most + 1 ≤ max_number → RoomFrom most w lines → WorldSpeaks most w → Each AskedHasText (transcript_from (Some w) lines) → Each MadeFits (transcript_from (Some w) lines)
from_speaks most w [] small r h s = tt
from_speaks most w (l ∷ lines) small r h s =
    let rest : World → List Item = λ after. transcript_from (Some after) lines in
    let a = allowed most lines (taken w l) rest r.1 s in
    and_then_speaks most lines (taken w l) rest (counted_speaks most w l (done w l).gained refl small r.0 h a) r.1 s (λ v g q z. from_speaks most v lines small q g z)

world_fits : (members : ℕ) (namespace leasing : List ℕ) → world.fits (members, (namespace, leasing)) ≡ true → (1 ≤ members) × (members ≤ 9) × Bytes namespace × Bytes leasing
unfolding world
world_fits members namespace leasing e =
    let m = and_first (is_within 1 9 members) (bytes.fits namespace && bytes.fits leasing) e in
    let b = and_second (is_within 1 9 members) (bytes.fits namespace && bytes.fits leasing) e in
    (leb-true 1 members (and_first (nat_le 1 members) (nat_le members 9) m), leb-true members 9 (and_second (nat_le 1 members) (nat_le members 9) m), bytes_of namespace (and_first (bytes.fits namespace) (bytes.fits leasing) b), bytes_of leasing (and_second (bytes.fits namespace) (bytes.fits leasing) b))

pub begun_speaks : (most : ℕ) (l : Line) → 1 ≤ most → is_line 1 l ≡ true → TakenSpeaks most (begun l)
begun_speaks most (line.World members namespace leasing) some e =
    let f = world_fits members namespace leasing (parts_of 1 (line.World members namespace leasing) e) in
    let nine = f.1 in (
      record {
        settings = record { members = f.0; few = omega (arith, nine); namespace = f.2; leasing = f.3; ttl = omega arith };
        places = tt;
        calls = tt;
        streams = tt;
        store = starts_fit most members some;
      },
      (tt, tt),
    )
begun_speaks most _ some e = tt

-- what was made of it has a text, so it has one
is_spoken : (i : Item) → HasTextAsMade i → MadeFits i → SpokenHasText i
is_spoken (item.Sent p call member t q) e f = e ∙ f
is_spoken (item.Opened p stream member q) e f = e ∙ f
is_spoken (item.Executed call a) e f = e ∙ f
is_spoken (item.Pushed stream message) e f = e ∙ f
is_spoken (item.World members namespace leasing) e f = tt
is_spoken (item.Started p) e f = tt
is_spoken (item.Restarted p) e f = tt
is_spoken (item.Clock p millis) e f = tt
is_spoken (item.Asked p t q) e f = tt
is_spoken (item.Posted p t path body) e f = tt
is_spoken (item.Ticked p) e f = tt
is_spoken (item.Closed p stream) e f = tt
is_spoken (item.Answered call) e f = tt
is_spoken (item.Lost call) e f = tt
is_spoken (item.Delivered stream) e f = tt
is_spoken (item.Cut stream) e f = tt
is_spoken (item.Taken p t i) e f = tt
is_spoken (item.Pending p t) e f = tt
is_spoken (item.Left p t) e f = tt
is_spoken (item.Expired lease) e f = tt
is_spoken (item.Applied member revision) e f = tt
is_spoken (item.Reply p t a) e f = tt
is_spoken (item.Body p t status json) e f = tt

all_spoken : (items : List Item) → HaveTextsAsMade items → Each MadeFits items → Each SpokenHasText items
all_spoken [] h k = tt
all_spoken (i ∷ items) h k = (is_spoken i h.0 k.0, all_spoken items h.1 k.1)

made_by : (most : ℕ) (lines : List Line) → AreRead 1 lines → 1 ≤ most → most + 1 ≤ max_number → StaysSmall most lines → Each AskedHasText (transcript lines) → Each MadeFits (transcript lines)
made_by most [] a some small r s = tt
made_by most (l ∷ lines) a some small r s =
    and_then_speaks most lines (begun l) (λ after. transcript_from (Some after) lines) (begun_speaks most l some a.0) r s (λ v g q z. from_speaks most v lines small q g z)

pub spoken_fit : WhatIsSpokenHasAText
spoken_fit most lines a few some small r s = all_spoken (transcript lines) (texts_as_made lines a few) (made_by most lines a some small r s)
