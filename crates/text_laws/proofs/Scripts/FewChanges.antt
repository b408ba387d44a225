-- Line by line, a script's store makes few changes: a proxy's requests have few puts and deletions.
use Rattle.std.proofs.Common.{◌≡◌, ◌⊎◌, inl, inr, ◌≤◌, ℕ, ◌+◌, ◌-◌, ◌*◌, ◌^◌, ◌==◌, ◌||◌, not, set, cond, List, [], ◌∷◌, length, Option, None, Some, Result, Ok, Err, refl, subst, arith}
use Rattle.std.specs.Prelude.{nat_lt}
use Rattle.etcd_types.specs.declared.watch.WatchItem.{WatchItem}
use Rattle.script_text.specs.declared.item.Item.{Item}
use Rattle.script_text.specs.declared.line.Line.{Line}
use Rattle.script_text.specs.declared.line.Line.TheVariants as line
use Rattle.store_model.specs.declared.store_fault.StoreFault.{StoreFault}
use Rattle.store_model.specs.declared.store_fault.StoreFault.TheVariants as fault
use Rattle.store_model.specs.declared.watch.OpenWatch.{OpenWatch}
use Rattle.store_model.specs.History.{newest}
use Rattle.store_model.specs.Leases.{ended, expired}
use Rattle.store_model.specs.Members.{lacks_member, applied}
use Rattle.store_model.specs.State.{State, applied_by}
use Rattle.store_model.specs.Transactions.{has_lease}
use Rattle.store_model.specs.Watches.{Pushed, watch_of, events_for, push_events, push_to, for_watch, pushed, is_synced, progress_to, progressed}
use Rattle.etcd_types.specs.declared.watch.Event.{Event}
use Rattle.text_laws.proofs.Values.Alls.{either}
use Rattle.text_laws.specs.Stores.Stores.{changes}
use Rattle.core_model.specs.declared.event.CoreEvent.{CoreEvent}
use Rattle.core_model.specs.declared.event.Outcome.{Outcome}
use Rattle.core_model.specs.Step.{stepped}
use Rattle.world_model.specs.declared.fault.LineRefusal.{LineRefusal}
use Rattle.world_model.specs.Gains.{Replies}
use Rattle.world_model.specs.Places.{nth, with_core}
use Rattle.world_model.specs.Sends.{closed_in}
use Rattle.world_model.specs.State.{Place, OpenedStream, World}
use Rattle.world_laws.proofs.Effects.{Turn, ticks, asks_it, posts_it, calls, opens, closes, answers, loses, delivers, cuts, takes, waits, leaves, Effect, starts, sets, refuses_post, executes, expires, applies, pushes, turns, effect}
use Rattle.text_laws.specs.Scripts.Room.{GoesOnWithRoom}
use Rattle.text_laws.specs.Growth.Growth.{puts, GrewBy}
use Rattle.text_laws.proofs.Growth.Runs.{still, ended_grew, steps_grow_little}
use Rattle.world_model.specs.Transcript.{Taken, done, counted_as, begun, taken, items_and_then, transcript_from}
use Rattle.text_laws.specs.Items.Texts.{Each, AreRead}
use Rattle.text_laws.specs.Scripts.Growth.{FewFrom}
use Rattle.text_laws.specs.Scripts.Scripts.{most_changes, FewLinesMakeFewChanges}
use Rattle.text_laws.specs.Scripts.Spoken.{AskedHasText}
use Rattle.text_laws.proofs.Scripts.Growth.{Counts, TakenCounts, counted_grows, room_of, begun_counts}
use Rattle.text_laws.proofs.Scripts.Lists.{each_first, each_second}
use Rattle.text_laws.proofs.Scripts.Spoken.{nth_found, CallSpeaks, WorldSpeaks, TakenSpeaks, Allows, counted_speaks, begun_speaks}
use Rattle.text_laws.proofs.Scripts.Weights.{light}

-- ---- what is done to a store

kept : (s t : State) → t.history ≡ s.history → GrewBy 384 s t
kept s t e = still 384 s t e

abbrev LeftGrew : State → Result State StoreFault → Type 0
LeftGrew s (Ok t) = GrewBy 384 s t
LeftGrew s (Err why) = Unit {0}

expired_grew : (s t : State) (lease : ℕ) → puts s.history ≤ 2 ^ 30 → expired s lease ≡ Ok t → GrewBy 384 s t
unfolding expired
expired_grew s t lease room e = subst (LeftGrew s) e (either (LeftGrew s) (has_lease s.leases lease) (Ok (ended s lease)) (Err (fault.NoSuchLease lease)) (ended_grew s lease 384 room) tt)

applied_grew : (s t : State) (member revision : ℕ) → applied s member revision ≡ Ok t → GrewBy 384 s t
unfolding applied
applied_grew s t member revision e =
    let done : State = record s { applied = set s.applied (member - 1) revision } in
    let bad : Result State StoreFault = Err (fault.BadApply (applied_by s member) (newest s.history)) in
    let is_bad = nat_lt revision (applied_by s member) || nat_lt (newest s.history) revision in
    subst (LeftGrew s) e
    (either (LeftGrew s) (lacks_member s member) (Err (fault.NoSuchMember member)) (cond is_bad bad (Ok done)) tt (either (LeftGrew s) is_bad bad (Ok done) tt (kept s done refl)))

abbrev PushedGrew : State → Pushed → Type 0
PushedGrew s (Ok p) = GrewBy 384 s p.0
PushedGrew s (Err why) = Unit {0}

events_grew : (s : State) (number : ℕ) (w : OpenWatch) (es : List Event) → PushedGrew s (push_events s number w es)
events_grew s number w [] = tt
events_grew s number w (e ∷ es) = kept s _ refl

push_grew : (s : State) (number : ℕ) (w : OpenWatch) → PushedGrew s (push_to s number w)
push_grew s number w =
    either (PushedGrew s) (w.next == 0) _ _ (kept s _ refl) (either (PushedGrew s) (nat_lt w.next s.compacted) _ _ (kept s s refl) (events_grew s number w (events_for s w)))

progress_grew : (s : State) (number : ℕ) (w : OpenWatch) → PushedGrew s (progress_to s number w)
progress_grew s number w = either (PushedGrew s) (not w.ask.progress) _ _ tt (either (PushedGrew s) (is_synced s w) _ _ (kept s _ refl) tt)

for_grew : (s : State) (number : ℕ) (o : Option OpenWatch) (f : OpenWatch → Pushed) → ((w : OpenWatch) → PushedGrew s (f w)) → PushedGrew s (for_watch number o f)
for_grew s number None f h = tt
for_grew s number (Some w) f h = h w

pushed_grew : (s t : State) (i : WatchItem) (number : ℕ) → (pushed s number ≡ Ok (t, i)) ⊎ (progressed s number ≡ Ok (t, i)) → GrewBy 384 s t
unfolding pushed progressed
pushed_grew s t i number (inl e) = subst (PushedGrew s) e (for_grew s number (watch_of s number) (push_to s number) (push_grew s number))
pushed_grew s t i number (inr e) = subst (PushedGrew s) e (for_grew s number (watch_of s number) (progress_to s number) (progress_grew s number))

-- ---- lines

closed_kept : (w : World) (n : ℕ) (o : Option OpenedStream) → GrewBy 384 w.store (closed_in w n o).store
closed_kept w n None = kept w.store w.store refl
closed_kept w n (Some s) = kept w.store w.store refl

turn_grew : (w v : World) (p : ℕ) (x y : Place) (e : CoreEvent) (o : Outcome) (own : List Item) (told : Replies) → Turn w p x e o v y own told → GrewBy 384 w.store v.store
turn_grew w v p x y e o own told (ticks z) = kept w.store w.store refl
turn_grew w v p x y e o own told (asks_it t q z f) = kept w.store w.store refl
turn_grew w v p x y e o own told (posts_it t path body q z f) = kept w.store w.store refl
turn_grew w v p x y e o own told (calls n member t q) = kept w.store w.store refl
turn_grew w v p x y e o own told (opens n member ask) = kept w.store _ refl
turn_grew w v p x y e o own told (closes n stream at) = closed_kept w stream (nth w.streams stream)
turn_grew w v p x y e o own told (answers n call a z f g) = kept w.store w.store refl
turn_grew w v p x y e o own told (loses n call z f) = kept w.store w.store refl
turn_grew w v p x y e o own told (delivers n s i rest z f g a b r) = kept w.store w.store refl
turn_grew w v p x y e o own told (cuts n s z f g a b) = kept w.store w.store refl
turn_grew w v p x y e o own told (takes t i) = kept w.store w.store refl
turn_grew w v p x y e o own told (waits t z f) = kept w.store w.store refl
turn_grew w v p x y e o own told (leaves t z) = kept w.store w.store refl

effect_grew : (most : ℕ) (w after : World) (items : List Item) → puts w.store.history + 384 ≤ 2 ^ 30 → WorldSpeaks most w → Effect w after items → GrewBy 384 w.store after.store
effect_grew most w after items room h (starts p clock life i b) = kept w.store w.store refl
effect_grew most w after items room h (sets p millis x e forward) = kept w.store w.store refl
effect_grew most w after items room h (refuses_post p t path body a x e) = kept w.store w.store refl
effect_grew most w after items room h (executes n call e fresh) = steps_grow_little 384 w.store call.member call.request (light call.request (nth_found (CallSpeaks most) w.calls n call e h.calls).narrow) room
effect_grew most w after items room h (expires lease t e due) = expired_grew w.store t lease (omega (arith, room)) e
effect_grew most w after items room h (applies member revision t e) = applied_grew w.store t member revision e
effect_grew most w after items room h (pushes n s t i e a b f) = pushed_grew w.store t i n f
effect_grew most w after items room h (turns p x e o v y own told at is t) = turn_grew w v p (with_core x (stepped x.core e x.clock).core) y e o own told t

-- ---- all lines

-- after so many lines
record Changed (k : ℕ) (s : State) : Type 0 where
  puts : puts s.history ≤ k * 384
  changes : changes s.history ≤ k * 413390602240

changed_more : (k : ℕ) (s t : State) → GrewBy 384 s t → Changed k s → Changed (k + 1) t
changed_more k s t g h =
    let a = g.puts in
    let b = g.changes in
    let c = h.puts in
    let d = h.changes in
    record { puts = omega (arith, a, c); changes = omega (arith, b, d) }

few_of : (k : ℕ) (s : State) → k ≤ 1_000_000 → Changed k s → changes s.history ≤ most_changes
few_of k s l h = let c = h.changes in omega (arith, c, l)

abbrev TakenChanged : ℕ → Taken → Type 0
TakenChanged k (Ok gained) = Changed k gained.0.store
TakenChanged k (Err why) = Unit {0}

counted_changed : (most k : ℕ) (w : World) (l : Line) (r : Result (List Item) LineRefusal) → (done w l).gained ≡ r → k ≤ 1_000_000 → WorldSpeaks most w → Changed k w.store → TakenChanged (k + 1) (counted_as (done w l).world r)
counted_changed most k w l (Ok items) e few h c =
    let p = c.puts in
    let g = effect_grew most w (done w l).world items (omega (arith, p, few)) h (effect w l items e) in
    let x = changed_more k w.store (done w l).world.store g c in
    record { puts = x.puts; changes = x.changes }
counted_changed most k w l (Err why) e few h c = tt

-- what comes behind a line that was taken
abbrev Behind : ℕ → List Line → (World → List Item) → Type 0
Behind k lines rest = (v : World) → WorldSpeaks most_changes v → Changed k v.store → Counts k v.store → Each AskedHasText (rest v) → FewFrom most_changes v lines

goes_few : (k : ℕ) (lines : List Line) (t : Taken) (rest : World → List Item) → Behind k lines rest → TakenSpeaks most_changes t → TakenChanged k t → TakenCounts k t → Each AskedHasText (items_and_then t rest) → GoesOnWithRoom (λ after. FewFrom most_changes after lines) t
goes_few k lines (Ok gained) rest f s c n a = f gained.0 s.0 c n (each_second AskedHasText gained.1 (rest gained.0) a)
goes_few k lines (Err why) rest f s c n a = tt

-- the line that was taken leaves room, and so its proxies and its store fit
speaks_still : (k : ℕ) (t : Taken) (rest : World → List Item) → k ≤ 1_000_000 → TakenChanged k t → TakenCounts k t → Each AskedHasText (items_and_then t rest) → Allows most_changes t
speaks_still k (Ok gained) rest few c n a = (each_first AskedHasText gained.1 (rest gained.0) a, room_of most_changes k gained.0 (omega (arith, few)) (few_of k gained.0.store few c) n)
speaks_still k (Err why) rest few c n a = tt

from_few : (k n : ℕ) (w : World) (lines : List Line) → k + length lines ≤ 1_000_000 → AreRead n lines → WorldSpeaks most_changes w → Changed k w.store → Counts k w.store → Each AskedHasText (transcript_from (Some w) lines) → FewFrom most_changes w lines
from_few k n w [] l r s c m a = few_of k w.store (omega (arith, l)) c
from_few k n w (x ∷ lines) l r s c m a =
    let few = few_of k w.store (omega (arith, l)) c in
    let rest : World → List Item = λ after. transcript_from (Some after) lines in
    let changed = counted_changed most_changes k w x (done w x).gained refl (omega (arith, l)) s c in
    let counts = counted_grows k w x (done w x).gained refl m in
    let allows = speaks_still (k + 1) (taken w x) rest (omega (arith, l)) changed counts a in
    let speaks = counted_speaks most_changes w x (done w x).gained refl (omega arith) (room_of most_changes k w (omega (arith, l)) few m) s allows in
    (few, goes_few (k + 1) lines (taken w x) rest (λ v d e g b. from_few (k + 1) (n + 1) v lines (omega (arith, l)) r.1 d e g b) speaks changed counts a)

begun_changed : (l : Line) → TakenChanged 0 (begun l)
begun_changed (line.World members namespace leasing) = record { puts = omega arith; changes = omega arith }
begun_changed _ = tt

pub few_changes : FewLinesMakeFewChanges
few_changes [] r l a = tt
few_changes (x ∷ lines) r l a =
    goes_few 0 lines (begun x) (λ after. transcript_from (Some after) lines) (λ v d e g b. from_few 0 2 v lines (omega (arith, l)) r.1 d e g b) (begun_speaks most_changes x (omega arith) r.0) (begun_changed x) (begun_counts x) a
