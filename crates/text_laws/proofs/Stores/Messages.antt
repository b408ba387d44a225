-- Each message of a watch has a text, where the store fits.
use Rattle.std.proofs.Common.{◌≡◌, inl, inr, ℕ, zero, suc, ◌+◌, ◌-◌, ◌≤◌, ◌==◌, ◌||◌, not, List, [], ◌∷◌, ◌++◌, length, take, drop, filter, slice_get, Option, None, Some, Ok, Err, subst, arith, length-append}
use Rattle.std.specs.Prelude.{nat_lt, nat_le}
use Rattle.text_model.specs.Words.{max_number}
use Rattle.etcd_types.specs.Ranges.{contains}
use Rattle.etcd_types.specs.Records.{after_put}
use Rattle.etcd_types.specs.declared.key_range.KeyRange.{KeyRange}
use Rattle.etcd_types.specs.declared.record.Kv.{Kv}
use Rattle.etcd_types.specs.declared.request.WatchAsk.{WatchAsk}
use Rattle.etcd_types.specs.declared.watch.Event.{Event}
use Rattle.store_model.specs.declared.history.KeyChange.{KeyChange}
use Rattle.store_model.specs.declared.history.KeyChange.TheVariants.{Put, Delete}
use Rattle.store_model.specs.declared.watch.OpenWatch.{OpenWatch}
use Rattle.store_model.specs.History.{History, newest, with_revision, changed_key}
use Rattle.store_model.specs.Records.{record_now}
use Rattle.store_model.specs.State.{State}
use Rattle.store_model.specs.Events.{event_of, events_of_changes, events_after, events, event_revision, passes, visible_prev, told_event, watch_events}
use Rattle.store_model.specs.Watches.{watch_of, with_next, next_after, watch_header, events_for, Pushed, push_events, push_to, for_watch, pushed, is_synced, progress_to, progressed}
use Rattle.text_laws.specs.Values.Fits.{AllOf, If, HeaderFits, PrevFits, EventFits, EventsFit, MessageFits}
use Rattle.text_laws.proofs.Values.Alls.{either, all_append, all_map, all_filter, all_take, all_drop, get_all, set_all, length_map, length_filter}
use Rattle.text_laws.specs.Stores.Laws.{MessagesFit}
use Rattle.text_laws.specs.Stores.Stores.{changes, KeyChangeFits, AreFit, WatchStands, StoreFits, HasRoom}
use Rattle.text_laws.proofs.Stores.Histories.{changes-append, changes-with, length-with, all-with, OldFits, put_fits, kv_so, record_up_to, changed_fits}

-- ---- events

-- so many events, each fits
record Told (most n : ℕ) (es : List Event) : Type 0 where
  all : AllOf (EventFits most) es
  few : length es ≤ n

told_more : (most m n : ℕ) (es : List Event) → m ≤ n → Told most m es → Told most n es
told_more most m n es l t = let f = t.few in record { all = t.all; few = omega (arith, f, l) }

-- the event of a change behind so many, where the record before it is `old`
event_fits : (most latest changed revision : ℕ) (old : Option Kv) (c : KeyChange) → latest ≤ most → revision ≤ most → changed + 1 ≤ most → KeyChangeFits c → OldFits latest changed old → EventFits most (event_of revision old c)
event_fits most latest changed revision old (Put key value lease) l r m f h = (
  kv_so most most (changed + 1) (Some (after_put old key value lease revision)) (omega arith) m (put_fits most revision changed old key value lease r f.0 f.1 f.2 (later old h)),
  kv_so most latest changed old l (omega (arith, m)) h,
)
  where
    later : (o : Option Kv) → OldFits latest changed o → OldFits most changed o
    later None h = tt
    later (Some kv) h =
        let a = h.create in
        let b = h.modified in
        record { key = h.key; value = h.value; create = omega (arith, a, l); modified = omega (arith, b, l); version = h.version; lease = h.lease }
event_fits most latest changed revision old (Delete key) l r m f h = ((f, r), kv_so most latest changed old l (omega (arith, m)) h)

one_told : (most n : ℕ) (e : Event) (es : List Event) → EventFits most e → Told most n es → Told most (n + 1) (e ∷ es)
one_told most n e es f t = let g = t.few in record { all = (f, t.all); few = omega (arith, g) }

of_changes : (most : ℕ) (range : KeyRange) (before : History) (made cs : List KeyChange) → AllOf AreFit before → AreFit made → AreFit cs → length before + 2 ≤ most → changes before + length made + length cs ≤ most
    → Told most (length cs) (events_of_changes range before made cs)
of_changes most range before made [] b m f l c = record { all = tt; few = omega arith }
of_changes most range before made (x ∷ cs) b m f l c =
    let old = record_now (with_revision before made) (changed_key x) in
    let lw = length-with before made in
    let cw = changes-with before made in
    let la = length-append made (x ∷ []) in
    let e = event_fits most (newest (with_revision before made)) (changes (with_revision before made)) (newest before + 1) old x (omega (arith, lw, l)) (omega (arith, l)) (omega (arith, cw, c)) f.0
    (record_up_to (with_revision before made) (changed_key x) (all-with before made b m) (changed_fits x f.0)) in
    let r = of_changes most range before (made ++ x ∷ []) cs b (all_append KeyChangeFits made (x ∷ []) m (f.0, tt)) f.1 l (omega (arith, la, c)) in
    either (Told most (length (x ∷ cs))) (contains range (changed_key x)) (event_of (newest before + 1) old x ∷ events_of_changes range before (made ++ x ∷ []) cs) (events_of_changes range before (made ++ x ∷ []) cs)
    (told_more most (length cs + 1) (length (x ∷ cs)) _ (omega arith) (one_told most (length cs) _ _ e r)) (told_more most (length cs) (length (x ∷ cs)) _ (omega arith) r)

told_both : (most m n : ℕ) (xs ys : List Event) → Told most m xs → Told most n ys → Told most (m + n) (xs ++ ys)
told_both most m n xs ys t u =
    let a = t.few in
    let b = u.few in
    let e = length-append xs ys in
    record { all = all_append (EventFits most) xs ys t.all u.all; few = omega (arith, a, b, e) }

after_fits : (most : ℕ) (range : KeyRange) (before h : History) → AllOf AreFit before → AllOf AreFit h → length before + length h + 1 ≤ most → changes before + changes h ≤ most → Told most (changes h) (events_after range before h)
after_fits most range before [] b f l c = record { all = tt; few = omega arith }
after_fits most range before (cs ∷ h) b f l c =
    let la = length-append before (cs ∷ []) in
    let ca = changes-append before (cs ∷ []) in
    told_both most (length cs) (changes h) (events_of_changes range before [] cs) (events_after range (before ++ cs ∷ []) h)
    (of_changes most range before [] cs b tt f.0 (omega (arith, l)) (omega (arith, c)))
    (after_fits most range (before ++ cs ∷ []) h (all_append AreFit before (cs ∷ []) b (f.0, tt)) f.1 (omega (arith, la, l)) (omega (arith, ca, c)))

length_split : (n : ℕ) (h : History) → length (take n h) + length (drop n h) ≡ length h
length_split zero h = omega arith
length_split (suc n) [] = omega arith
length_split (suc n) (cs ∷ h) = let r = length_split n h in omega (arith, r)

changes_split : (n : ℕ) (h : History) → changes (take n h) + changes (drop n h) ≡ changes h
changes_split zero h = omega arith
changes_split (suc n) [] = omega arith
changes_split (suc n) (cs ∷ h) = let r = changes_split n h in omega (arith, r)

all_events : (most : ℕ) (h : History) (range : KeyRange) (from : ℕ) → AllOf AreFit h → length h + 1 ≤ most → changes h ≤ most → Told most (changes h) (events h range from)
all_events most h range from f l c =
    let n = from - 2 in
    let a = length_split n h in
    let b = changes_split n h in
    told_more most (changes (drop n h)) (changes h) _ (omega (arith, b))
    (after_fits most range (take n h) (drop n h) (all_take AreFit n h f) (all_drop AreFit n h f) (omega (arith, a, l)) (omega (arith, b, c)))

-- ---- what a watch is told of them

visible_fits : (most compacted revision : ℕ) (o : Option Kv) → PrevFits most o → PrevFits most (visible_prev compacted revision o)
visible_fits most compacted revision None f = tt
visible_fits most compacted revision (Some kv) f = either (PrevFits most) (nat_lt compacted revision || nat_le compacted kv.modified) (Some kv) None f tt

told_fits : (most compacted : ℕ) (ask : WatchAsk) (e : Event) → EventFits most e → EventFits most (told_event compacted ask e)
told_fits most compacted ask e f =
    (f.0, either (PrevFits most) ask.prev_kv (visible_prev compacted (event_revision e) e.prev) None (visible_fits most compacted (event_revision e) e.prev f.1) tt)

watch_fits : (most : ℕ) (h : History) (compacted : ℕ) (ask : WatchAsk) (from : ℕ) → most ≤ max_number → AllOf AreFit h → length h + 1 ≤ most → changes h ≤ most → EventsFit most (watch_events h compacted ask from)
watch_fits most h compacted ask from small f l c =
    let t = all_events most h ask.range from f l c in
    let es = events h ask.range from in
    let a = t.few in
    let b = length_filter (passes ask) es in
    let d = length_map (told_event compacted ask) (filter (passes ask) es) in
    (all_map (EventFits most) (EventFits most) (told_event compacted ask) (told_fits most compacted ask) (filter (passes ask) es) (all_filter (EventFits most) (passes ask) es t.all), omega (arith, a, b, d, c, small))

-- ---- pushes

abbrev PushFits : ℕ → Pushed → Type 0
PushFits most (Ok p) = StoreFits most p.0 × MessageFits most p.1
PushFits most (Err why) = Unit {0}

next_stands : (most : ℕ) (s : State) (number : ℕ) (w : OpenWatch) (next : ℕ) → WatchStands w → StoreFits most s → StoreFits most (with_next s number w next)
next_stands most s number w next f h = record {
  changes = h.changes;
  leases = h.leases;
  applied = h.applied;
  compacted = h.compacted;
  watches = set_all WatchStands s.watches (number - 1) (record w { next = next }) (record { member = f.member; ask = f.ask }) h.watches;
}

header_fits : (most : ℕ) (s : State) (w : OpenWatch) → WatchStands w → HasRoom most s → HeaderFits most (watch_header s w)
header_fits most s w f room = let r = room.revisions in record { cluster = omega arith; member = f.member; revision = omega (arith, r); term = omega arith }

events_fit : (most : ℕ) (s : State) (w : OpenWatch) → most ≤ max_number → StoreFits most s → HasRoom most s → EventsFit most (events_for s w)
events_fit most s w small h room = let r = room.revisions in watch_fits most s.history s.compacted w.ask w.next small h.changes (omega (arith, r)) room.changes

push_events_fit : (most : ℕ) (s : State) (number : ℕ) (w : OpenWatch) (es : List Event) → EventsFit most es → WatchStands w → StoreFits most s → HasRoom most s → PushFits most (push_events s number w es)
push_events_fit most s number w [] k f h room = tt
push_events_fit most s number w (e ∷ es) k f h room = (next_stands most s number w (next_after w.next (e ∷ es)) f h, (header_fits most s w f room, k))

push_fits : (most : ℕ) (s : State) (number : ℕ) (w : OpenWatch) → most ≤ max_number → WatchStands w → StoreFits most s → HasRoom most s → PushFits most (push_to s number w)
push_fits most s number w small f h room =
    either (PushFits most) (w.next == 0) _ _ (next_stands most s number w _ f h, header_fits most s w f room)
    (either (PushFits most) (nat_lt w.next s.compacted) _ _ (h, (header_fits most s w f room, h.compacted))
    (push_events_fit most s number w (events_for s w) (events_fit most s w small h room) f h room))

progress_fits : (most : ℕ) (s : State) (number : ℕ) (w : OpenWatch) → most ≤ max_number → WatchStands w → StoreFits most s → HasRoom most s → PushFits most (progress_to s number w)
progress_fits most s number w small f h room =
    either (PushFits most) (not w.ask.progress) _ _ tt
    (either (PushFits most) (is_synced s w) _ _ (next_stands most s number w _ f h, (header_fits most s w f room, (tt, omega arith))) tt)

watch_stands : (most : ℕ) (s : State) (number : ℕ) → StoreFits most s → If WatchStands (watch_of s number)
watch_stands most s number h = either (If WatchStands) (number == 0) None (slice_get s.watches (number - 1)) tt (get_all WatchStands s.watches (number - 1) h.watches)

for_fits : (most number : ℕ) (o : Option OpenWatch) (f : OpenWatch → Pushed) → If WatchStands o → ((w : OpenWatch) → WatchStands w → PushFits most (f w)) → PushFits most (for_watch number o f)
for_fits most number None f h k = tt
for_fits most number (Some w) f h k = k w h

pushed_fits : (most : ℕ) (s : State) (number : ℕ) → most ≤ max_number → StoreFits most s → HasRoom most s → PushFits most (pushed s number)
unfolding pushed
pushed_fits most s number small h room = for_fits most number (watch_of s number) (push_to s number) (watch_stands most s number h) (λ w f. push_fits most s number w small f h room)

progressed_fits : (most : ℕ) (s : State) (number : ℕ) → most ≤ max_number → StoreFits most s → HasRoom most s → PushFits most (progressed s number)
unfolding progressed
progressed_fits most s number small h room = for_fits most number (watch_of s number) (progress_to s number) (watch_stands most s number h) (λ w f. progress_fits most s number w small f h room)

pub messages_fit : MessagesFit
messages_fit most s t i number small (inl e) h room = subst (PushFits most) e (pushed_fits most s number small h room)
messages_fit most s t i number small (inr e) h room = subst (PushFits most) e (progressed_fits most s number small h room)
