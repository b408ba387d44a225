-- What a watch is told, one change and one revision after the other.
use Rattle.std.proofs.Common.{◌≡◌, ℕ, suc, ◌+◌, ◌<◌, Bool, true, false, cond, ◌&&◌, List, [], ◌∷◌, ◌++◌, Option, None, Some, length, get_or, take, drop, drop-cons, add-one, map, filter, refl, sym, ◌∙◌, ap, append_assoc}
use Rattle.std.proofs.lemmas.List.{take_more}
use Rattle.etcd_types.specs.declared.record.Kv.{Kv}
use Rattle.etcd_types.specs.declared.key_range.KeyRange.{KeyRange}
use Rattle.etcd_types.specs.declared.request.WatchAsk.{WatchAsk}
use Rattle.etcd_types.specs.declared.watch.Event.{Event}
use Rattle.etcd_types.specs.Ranges.{contains}
use Rattle.store_model.specs.declared.history.KeyChange.{KeyChange}
use Rattle.store_model.specs.declared.history.KeyChange.TheVariants.{Put, Delete}
use Rattle.store_model.specs.History.{History, newest, with_revision, changed_key}
use Rattle.store_model.specs.Records.{record_now}
use Rattle.store_model.specs.Events.{event_of, events_of_changes, events_after, passes, told_event, event_revision}
use Rattle.store_model.specs.Watches.{next_after}
use Rattle.store_history.specs.Batches.{told, told_of, kind_passes}

passes-event : (ask : WatchAsk) (revision : ℕ) (old : Option Kv) (c : KeyChange) → passes ask (event_of revision old c) ≡ kind_passes ask c
passes-event ask revision old (Put key value lease) = refl
passes-event ask revision old (Delete key) = refl

put_record : (revision : ℕ) (old : Option Kv) (key value : List ℕ) (lease : ℕ) → event_revision (event_of revision old (Put key value lease)) ≡ revision
put_record revision None key value lease = refl
put_record revision (Some kv) key value lease = refl

pub told-revision : (compacted : ℕ) (ask : WatchAsk) (revision : ℕ) (old : Option Kv) (c : KeyChange)
    → event_revision (told_event compacted ask (event_of revision old c)) ≡ revision
told-revision compacted ask revision old (Put key value lease) = put_record revision old key value lease
told-revision compacted ask revision old (Delete key) = refl

told_by : (compacted : ℕ) (ask : WatchAsk) (within kind : Bool) (e : Event) (rest : List Event) → passes ask e ≡ kind
    → told compacted ask (cond within (e ∷ rest) rest) ≡ cond (kind && within) (told_event compacted ask e ∷ []) [] ++ told compacted ask rest
told_by compacted ask true true e rest h = rw h refl
told_by compacted ask true false e rest h = rw h refl
told_by compacted ask false true e rest h = refl
told_by compacted ask false false e rest h = refl

told-step : (compacted : ℕ) (ask : WatchAsk) (before : History) (made : List KeyChange) (c : KeyChange) (cs : List KeyChange)
    → told compacted ask (events_of_changes ask.range before made (c ∷ cs))
    ≡ told_of compacted ask before made c ++ told compacted ask (events_of_changes ask.range before (made ++ c ∷ []) cs)
told-step compacted ask before made c cs =
    told_by compacted ask (contains ask.range (changed_key c)) (kind_passes ask c) (event_of (newest before + 1) (record_now (with_revision before made) (changed_key c)) c) (events_of_changes ask.range before (made ++ c ∷ []) cs)
    (passes-event ask (newest before + 1) (record_now (with_revision before made) (changed_key c)) c)

pub told-at : (compacted : ℕ) (ask : WatchAsk) (before : History) (cs : List KeyChange) (i : ℕ) (c : KeyChange) → i < length cs → c ≡ get_or cs i c
    → told compacted ask (events_of_changes ask.range before (take i cs) (drop i cs))
    ≡ told_of compacted ask before (take i cs) c ++ told compacted ask (events_of_changes ask.range before (take (i + 1) cs) (drop (i + 1) cs))
told-at compacted ask before cs i c below e =
    let d : drop i cs ≡ get_or cs i c ∷ drop (suc i) cs = drop-cons cs i c below in
    let t : take (i + 1) cs ≡ take i cs ++ get_or cs i c ∷ [] = take_more cs i c below in
    rw (t, d, add-one i, ← e) (told-step compacted ask before (take i cs) c (drop (suc i) cs))

told_cons : (compacted : ℕ) (ask : WatchAsk) (p : Bool) (x : Event) (xs ys : List Event)
    → map (told_event compacted ask) (cond p (x ∷ xs) xs) ++ ys ≡ cond p (told_event compacted ask x ∷ (map (told_event compacted ask) xs ++ ys)) (map (told_event compacted ask) xs ++ ys)
told_cons compacted ask true x xs ys = refl
told_cons compacted ask false x xs ys = refl

told_front : (compacted : ℕ) (ask : WatchAsk) (p : Bool) (x : Event) (xs : List Event)
    → map (told_event compacted ask) (cond p (x ∷ xs) xs) ≡ cond p (told_event compacted ask x ∷ map (told_event compacted ask) xs) (map (told_event compacted ask) xs)
told_front compacted ask true x xs = refl
told_front compacted ask false x xs = refl

pub told-append : (compacted : ℕ) (ask : WatchAsk) (xs ys : List Event) → told compacted ask (xs ++ ys) ≡ told compacted ask xs ++ told compacted ask ys
told-append compacted ask [] ys = refl
told-append compacted ask (x ∷ xs) ys =
    told_front compacted ask (passes ask x) x (filter (passes ask) (xs ++ ys))
    ∙ ap (λ (rest : List Event). cond (passes ask x) (told_event compacted ask x ∷ rest) rest) (told-append compacted ask xs ys)
    ∙ sym (told_cons compacted ask (passes ask x) x (filter (passes ask) xs) (told compacted ask ys))

pub next_after-append : (n : ℕ) (xs ys : List Event) → next_after n (xs ++ ys) ≡ next_after (next_after n xs) ys
next_after-append n [] ys = refl
next_after-append n (x ∷ xs) ys = next_after-append (event_revision x + 1) xs ys

events_after-at : (range : KeyRange) (h : History) (p : ℕ) (cs : List KeyChange) → p < length h → cs ≡ get_or h p cs
    → events_after range (take p h) (drop p h) ≡ events_of_changes range (take p h) [] cs ++ events_after range (take (p + 1) h) (drop (p + 1) h)
events_after-at range h p cs below e =
    let d : drop p h ≡ get_or h p cs ∷ drop (suc p) h = drop-cons h p cs below in
    let t : take (p + 1) h ≡ take p h ++ get_or h p cs ∷ [] = take_more h p cs below in
    rw (t, d, add-one p, ← e) refl

pub told-revision_at : (compacted : ℕ) (ask : WatchAsk) (h : History) (p : ℕ) (cs : List KeyChange) → p < length h → cs ≡ get_or h p cs
    → told compacted ask (events_after ask.range (take p h) (drop p h))
    ≡ told compacted ask (events_of_changes ask.range (take p h) [] cs) ++ told compacted ask (events_after ask.range (take (p + 1) h) (drop (p + 1) h))
told-revision_at compacted ask h p cs below e =
    ap (told compacted ask) (events_after-at ask.range h p cs below e)
    ∙ told-append compacted ask (events_of_changes ask.range (take p h) [] cs) (events_after ask.range (take (p + 1) h) (drop (p + 1) h))

-- a step of a loop: what was to be told is a part and the rest, and the part is told
pub telling_on : (done new part rest whole all : List Event) → whole ≡ part ++ rest → new ≡ done ++ part → done ++ whole ≡ all → new ++ rest ≡ all
telling_on done new part rest whole all w n h = rw (n, append_assoc done part rest, ← w) h

pub going_on : (n m k : ℕ) (part rest whole : List Event) → whole ≡ part ++ rest → m ≡ next_after n part → next_after n whole ≡ k → next_after m rest ≡ k
going_on n m k part rest whole w e h = rw (e, ← next_after-append n part rest, ← w) h
