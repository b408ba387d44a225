-- What is looked up by its first place is what the items tell.
use Rattle.std.proofs.Common.{◌≡◌, ℕ, ◌+◌, Bool, true, false, cond, ◌==◌, ◌&&◌, ◌||◌, nat_lt, List, [], ◌∷◌, ◌++◌, append_assoc, length, take, drop, Option, None, Some, is_some, refl, sym, ◌∙◌, ap}
use Rattle.std.specs.List.{list_any}
use Rattle.std.specs.Prelude.{slice_get}
use Rattle.std.proofs.lemmas.List.{length-append, length-take-le, take-append-drop}
use Rattle.first_places.specs.Firsts.{Firsts, first_place, tells}
use Rattle.first_places.specs.Places.{from_start, is_pair, place_at, value_at}
use Rattle.first_places.proofs.Growing.{any_has_place}
use Rattle.etcd_types.specs.declared.watch.WatchItem.{WatchItem}
use Rattle.etcd_types.specs.declared.watch.WatchItem.TheVariants.{Created, Events, Canceled}
use Rattle.script_text.specs.declared.item.Item.{Item}
use Rattle.script_text.specs.declared.item.Item.TheVariants as item
use Rattle.audit_model.specs.Calls.{is_settled, sender_of, settles}
use Rattle.audit_model.specs.Order.{gives_ticket, is_given_ticket, is_replied, replies_to}
use Rattle.audit_model.specs.Streams.{cancels, ends, has_cancelled, has_ended, is_cancellation, opener_of}
use Rattle.audit_model.specs.Takes.{pushes_cancellation}
use Rattle.world_model.specs.Lives.{asked_as, executed_to, is_call_of, is_named, is_stream_of, life, names, next_message, opened_it, sent_it}
use Rattle.audit_lives.specs.Finds.{asked_in, executes, found_or, opener_in, sender_in, told_by, told_of}
use Rattle.audit_lives.specs.Given.{executed_in}
use Rattle.audit_lives.specs.Index.{Starts, TellsCalls, TellsLives, TellsStreams}
use Rattle.audit_lives.specs.Pairs.{asked, given, replied, named, sent_own, opened_own, sent, executed, settled, opened, ended, cancelled, compacted, compaction_in}
use Rattle.audit_lives.specs.declared.calls_told.CallsTold.{CallsTold}
use Rattle.audit_lives.specs.declared.lives_told.LivesTold.{LivesTold}
use Rattle.audit_lives.specs.declared.streams_told.StreamsTold.{StreamsTold}
use Rattle.audit_lives.proofs.GivenItems.{executed_found}
use Rattle.audit_lives.proofs.Found.{asked_found, executed_any, first_found, opener_found, sender_found, waiting}

-- ---- whether an item tells it

any_same : (test other : Item → Bool) → ((i : Item) → test i ≡ other i) → (items : List Item) → list_any test items ≡ list_any other items
any_same test other same [] = refl
any_same test other same (i ∷ items) = λ k. same i k || any_same test other same items k

in_life : (kept : List ((ℕ × ℕ) × ℕ)) (pair : Item → Option (ℕ × ℕ)) (starts : List (ℕ × ℕ)) (items : List Item) (p k : ℕ) → Starts starts items → Firsts kept pair (value_at starts) items
    → is_some (from_start (value_at starts p) (place_at kept p k)) ≡ list_any (tells pair p k) (life p items)
in_life kept pair starts items p k s f =
    ap is_some (f.first p k) ∙ any_has_place (tells pair p k) (value_at starts p) (drop (value_at starts p) items) ∙ ap (list_any (tells pair p k)) (sym (s.life p))

in_all : (kept : List ((ℕ × ℕ) × ℕ)) (pair : Item → Option (ℕ × ℕ)) (none : List (ℕ × ℕ)) (items : List Item) (k : ℕ) → value_at none 0 ≡ 0 → Firsts kept pair (value_at none) items
    → is_some (from_start (value_at none 0) (place_at kept 0 k)) ≡ list_any (tells pair 0 k) items
in_all kept pair none items k z f =
    ap is_some (f.first 0 k) ∙ ap (λ (s : ℕ). is_some (first_place (tells pair 0 k) s (drop s items))) z ∙ any_has_place (tells pair 0 k) 0 items

-- ---- what the first item tells that tells it

either_some : {A : Type 0} (a b : Option A) → is_some (found_or a b) ≡ is_some a || is_some b
either_some None b = refl
either_some (Some x) b = refl

found_any : {A : Type 0} (f : Item → Option A) (items : List Item) → is_some (first_found f items) ≡ list_any (λ i. is_some (f i)) items
found_any f [] = refl
found_any f (i ∷ items) = either_some (f i) (first_found f items) ∙ ap (λ (b : Bool). is_some (f i) || b) (found_any f items)

got : {A : Type 0} (xs : List A) (y : A) (ys : List A) → slice_get (xs ++ y ∷ ys) (length xs) ≡ Some y
got [] y ys = refl
got (x ∷ xs) y ys = got xs y ys

first_told : {A : Type 0} (f : Item → Option A) (test : Item → Bool) → ((i : Item) → test i ≡ is_some (f i)) → (before items : List Item)
    → first_found f items ≡ told_by f (before ++ items) (first_place test (length before) items)
first_told f test same before [] = refl
first_told f test same before (i ∷ items) = by (f i) refl (first_told f test same (before ++ i ∷ []) items)
  where
    joined : (before ++ i ∷ []) ++ items ≡ before ++ i ∷ items
    joined = append_assoc before (i ∷ []) items

    longer : length (before ++ i ∷ []) ≡ length before + 1
    longer = length-append before (i ∷ [])

    by : (o : Option _) → f i ≡ o → first_found f items ≡ told_by f ((before ++ i ∷ []) ++ items) (first_place test (length (before ++ i ∷ [])) items)
        → found_or (f i) (first_found f items) ≡ told_by f (before ++ i ∷ items) (cond (test i) (Some (length before)) (first_place test (length before + 1) items))
    by None e h =
        ap (λ o. found_or o (first_found f items)) e
        ∙ h
        ∙ (λ k. told_by f (joined k) (first_place test (longer k) items))
        ∙ ap (λ (b : Bool). told_by f (before ++ i ∷ items) (cond b (Some (length before)) (first_place test (length before + 1) items))) (sym (same i ∙ ap is_some e))
    by (Some x) e h =
        ap (λ o. found_or o (first_found f items)) e
        ∙ sym e
        ∙ ap (told_of f) (sym (got before i items))
        ∙ ap (λ (b : Bool). told_by f (before ++ i ∷ items) (cond b (Some (length before)) (first_place test (length before + 1) items))) (sym (same i ∙ ap is_some e))

told_in_life : {A : Type 0} (f : Item → Option A) (kept : List ((ℕ × ℕ) × ℕ)) (pair : Item → Option (ℕ × ℕ)) (starts : List (ℕ × ℕ)) (items : List Item) (p k : ℕ)
    → ((i : Item) → tells pair p k i ≡ is_some (f i)) → Starts starts items → Firsts kept pair (value_at starts) items
    → told_by f items (from_start (value_at starts p) (place_at kept p k)) ≡ first_found f (life p items)
told_in_life f kept pair starts items p k same s f' =
    let start : ℕ = value_at starts p in
    let long : length (take start items) ≡ start = length-take-le start items (s.low p) in
    let whole : take start items ++ drop start items ≡ items = take-append-drop start items in
    ap (told_by f items) (f'.first p k)
    ∙ sym (λ i. told_by f (whole i) (first_place (tells pair p k) (long i) (drop start items)))
    ∙ sym (first_told f (tells pair p k) same (take start items) (drop start items))
    ∙ ap (first_found f) (sym (s.life p))

told_in_all : {A : Type 0} (f : Item → Option A) (kept : List ((ℕ × ℕ) × ℕ)) (pair : Item → Option (ℕ × ℕ)) (none : List (ℕ × ℕ)) (items : List Item) (k : ℕ)
    → ((i : Item) → tells pair 0 k i ≡ is_some (f i)) → value_at none 0 ≡ 0 → Firsts kept pair (value_at none) items
    → told_by f items (from_start (value_at none 0) (place_at kept 0 k)) ≡ first_found f items
told_in_all f kept pair none items k same z f' =
    ap (told_by f items) (f'.first 0 k)
    ∙ ap (λ (s : ℕ). told_by f items (first_place (tells pair 0 k) s (drop s items))) z
    ∙ sym (first_told f (tells pair 0 k) same [] items)

-- ---- each look-up

some_by : {A : Type 0} (b : Bool) (x : A) → b ≡ is_some (cond b (Some x) None)
some_by true x = refl
some_by false x = refl

asks : (p k : ℕ) (i : Item) → tells asked p k i ≡ is_some (asked_in p k i)
asks p k (item.Asked q t r) = some_by (q == p && t == k) r
asks p k i = refl

pub is_asked : (l : LivesTold) (items : List Item) (p k : ℕ) → TellsLives l items → is_some (from_start (value_at l.starts p) (place_at l.asked p k)) ≡ is_some (asked_as p k (life p items))
is_asked l items p k t =
    in_life l.asked asked l.starts items p k t.starts t.asked
    ∙ any_same (tells asked p k) (λ i. is_some (asked_in p k i)) (asks p k) (life p items)
    ∙ sym (found_any (asked_in p k) (life p items))
    ∙ ap is_some (asked_found p k (life p items))

pub asked_is : (l : LivesTold) (items : List Item) (p k : ℕ) → TellsLives l items → told_by (asked_in p k) items (from_start (value_at l.starts p) (place_at l.asked p k)) ≡ asked_as p k (life p items)
asked_is l items p k t = told_in_life (asked_in p k) l.asked asked l.starts items p k (asks p k) t.starts t.asked ∙ asked_found p k (life p items)

gives : (p k : ℕ) (i : Item) → tells given p k i ≡ gives_ticket p k i
gives p k (item.Asked q t r) = refl
gives p k (item.Posted q t path text) = refl
gives p k i = refl

pub is_given : (l : LivesTold) (items : List Item) (p k : ℕ) → TellsLives l items → is_some (from_start (value_at l.starts p) (place_at l.given p k)) ≡ is_given_ticket p k (life p items)
is_given l items p k t = in_life l.given given l.starts items p k t.starts t.given ∙ any_same (tells given p k) (gives_ticket p k) (gives p k) (life p items)

replies : (p k : ℕ) (i : Item) → tells replied p k i ≡ replies_to p k i
replies p k (item.Reply q t answer) = refl
replies p k i = refl

pub has_reply : (l : LivesTold) (items : List Item) (p k : ℕ) → TellsLives l items → is_some (from_start (value_at l.starts p) (place_at l.replied p k)) ≡ is_replied p k (life p items)
has_reply l items p k t = in_life l.replied replied l.starts items p k t.starts t.replied ∙ any_same (tells replied p k) (replies_to p k) (replies p k) (life p items)

names_at : (p k : ℕ) (i : Item) → tells named p k i ≡ names p k i
names_at p k (item.Sent q call member t r) = refl
names_at p k i = refl

pub has_name : (l : LivesTold) (items : List Item) (p k : ℕ) → TellsLives l items → is_some (from_start (value_at l.starts p) (place_at l.named p k)) ≡ is_named p k (life p items)
has_name l items p k t = in_life l.named named l.starts items p k t.starts t.named ∙ any_same (tells named p k) (names p k) (names_at p k) (life p items)

sends_own : (p k : ℕ) (i : Item) → tells sent_own p k i ≡ is_call_of p k i
sends_own p k (item.Sent q call member t r) = refl
sends_own p k i = refl

pub has_sent : (l : LivesTold) (items : List Item) (p k : ℕ) → TellsLives l items → is_some (from_start (value_at l.starts p) (place_at l.sent p k)) ≡ sent_it p k (life p items)
has_sent l items p k t = in_life l.sent sent_own l.starts items p k t.starts t.sent ∙ any_same (tells sent_own p k) (is_call_of p k) (sends_own p k) (life p items)

opens_own : (p k : ℕ) (i : Item) → tells opened_own p k i ≡ is_stream_of p k i
opens_own p k (item.Opened q stream member r) = refl
opens_own p k i = refl

pub has_opened : (l : LivesTold) (items : List Item) (p k : ℕ) → TellsLives l items → is_some (from_start (value_at l.starts p) (place_at l.opened p k)) ≡ opened_it p k (life p items)
has_opened l items p k t = in_life l.opened opened_own l.starts items p k t.starts t.opened ∙ any_same (tells opened_own p k) (is_stream_of p k) (opens_own p k) (life p items)

sends : (k : ℕ) (i : Item) → tells sent 0 k i ≡ is_some (sender_in k i)
sends k (item.Sent q call member t r) = some_by (call == k) q
sends k i = refl

pub sender_is : (c : CallsTold) (items : List Item) (k : ℕ) → TellsCalls c items → told_by (sender_in k) items (from_start (value_at c.none 0) (place_at c.sent 0 k)) ≡ sender_of k items
sender_is c items k t = told_in_all (sender_in k) c.sent sent c.none items k (sends k) (t.none 0) t.sent ∙ sender_found k items

pub has_sender : (c : CallsTold) (items : List Item) (k : ℕ) → TellsCalls c items → is_some (from_start (value_at c.none 0) (place_at c.sent 0 k)) ≡ is_some (sender_of k items)
has_sender c items k t =
    in_all c.sent sent c.none items k (t.none 0) t.sent
    ∙ any_same (tells sent 0 k) (λ i. is_some (sender_in k i)) (sends k) items
    ∙ sym (found_any (sender_in k) items)
    ∙ ap is_some (sender_found k items)

executes_at : (k : ℕ) (i : Item) → tells executed 0 k i ≡ executes k i
executes_at k (item.Executed call answer) = refl
executes_at k i = refl

pub has_executed : (c : CallsTold) (items : List Item) (k : ℕ) → TellsCalls c items → is_some (from_start (value_at c.none 0) (place_at c.executed 0 k)) ≡ is_some (executed_to k items)
has_executed c items k t =
    in_all c.executed executed c.none items k (t.none 0) t.executed ∙ any_same (tells executed 0 k) (executes k) (executes_at k) items ∙ sym (executed_any k items)

executes_in : (k : ℕ) (i : Item) → tells executed 0 k i ≡ is_some (executed_in k i)
executes_in k (item.Executed call answer) = some_by (call == k) answer
executes_in k i = refl

pub answer_is : (c : CallsTold) (items : List Item) (k : ℕ) → TellsCalls c items → told_by (executed_in k) items (from_start (value_at c.none 0) (place_at c.executed 0 k)) ≡ executed_to k items
answer_is c items k t = told_in_all (executed_in k) c.executed executed c.none items k (executes_in k) (t.none 0) t.executed ∙ executed_found k items

settles_at : (k : ℕ) (i : Item) → tells settled 0 k i ≡ settles k i
settles_at k (item.Answered call) = refl
settles_at k (item.Lost call) = refl
settles_at k i = refl

pub has_settled : (c : CallsTold) (items : List Item) (k : ℕ) → TellsCalls c items → is_some (from_start (value_at c.none 0) (place_at c.settled 0 k)) ≡ is_settled k items
has_settled c items k t = in_all c.settled settled c.none items k (t.none 0) t.settled ∙ any_same (tells settled 0 k) (settles k) (settles_at k) items

opens : (k : ℕ) (i : Item) → tells opened 0 k i ≡ is_some (opener_in k i)
opens k (item.Opened q stream member r) = some_by (stream == k) q
opens k i = refl

pub opener_is : (s : StreamsTold) (items : List Item) (k : ℕ) → TellsStreams s items → told_by (opener_in k) items (from_start (value_at s.none 0) (place_at s.opened 0 k)) ≡ opener_of k items
opener_is s items k t = told_in_all (opener_in k) s.opened opened s.none items k (opens k) (t.none 0) t.opened ∙ opener_found k items

ends_at : (k : ℕ) (i : Item) → tells ended 0 k i ≡ ends k i
ends_at k (item.Cut stream) = refl
ends_at k (item.Closed q stream) = refl
ends_at k i = refl

pub has_end : (s : StreamsTold) (items : List Item) (k : ℕ) → TellsStreams s items → is_some (from_start (value_at s.none 0) (place_at s.ended 0 k)) ≡ has_ended k items
has_end s items k t = in_all s.ended ended s.none items k (t.none 0) t.ended ∙ any_same (tells ended 0 k) (ends k) (ends_at k) items

cancels_by : (stream k : ℕ) (b : Bool) → is_pair (cond b (Some (0, stream)) None) 0 k ≡ (stream == k) && b
cancels_by stream k true = and_true (stream == k)
  where
    and_true : (c : Bool) → c ≡ c && true
    and_true true = refl
    and_true false = refl
cancels_by stream k false = and_false (stream == k)
  where
    and_false : (c : Bool) → false ≡ c && false
    and_false true = refl
    and_false false = refl

cancels_at : (k : ℕ) (i : Item) → tells cancelled 0 k i ≡ cancels k i
cancels_at k (item.Pushed stream message) = cancels_by stream k (is_cancellation message)
cancels_at k i = refl

pub has_cancel : (s : StreamsTold) (items : List Item) (k : ℕ) → TellsStreams s items → is_some (from_start (value_at s.none 0) (place_at s.cancelled 0 k)) ≡ has_cancelled k items
has_cancel s items k t = in_all s.cancelled cancelled s.none items k (t.none 0) t.cancelled ∙ any_same (tells cancelled 0 k) (cancels k) (cancels_at k) items

names_it : (k : ℕ) (stream : ℕ) (message : WatchItem) → is_pair (compaction_in message) 0 k ≡ pushes_cancellation k (item.Pushed stream message)
names_it k stream (Created h) = refl
names_it k stream (Events h events) = refl
names_it k stream (Canceled h compaction) = refl

compacts_at : (k : ℕ) (i : Item) → tells compacted 0 k i ≡ pushes_cancellation k i
compacts_at k (item.Pushed stream message) = names_it k stream message
compacts_at k i = refl

pub has_compaction : (s : StreamsTold) (items : List Item) (k : ℕ) → TellsStreams s items → is_some (from_start (value_at s.none 0) (place_at s.compacted 0 k)) ≡ list_any (pushes_cancellation k) items
has_compaction s items k t = in_all s.compacted compacted s.none items k (t.none 0) t.compacted ∙ any_same (tells compacted 0 k) (pushes_cancellation k) (compacts_at k) items

pub has_message : (s : StreamsTold) (items : List Item) (k : ℕ) → TellsStreams s items → nat_lt (value_at s.delivered k) (value_at s.pushed k) ≡ is_some (next_message k items)
has_message s items k t = (λ i. nat_lt (t.delivered k i) (t.pushed k i)) ∙ waiting k items

pub has_opener : (s : StreamsTold) (items : List Item) (k : ℕ) → TellsStreams s items → is_some (from_start (value_at s.none 0) (place_at s.opened 0 k)) ≡ is_some (opener_of k items)
has_opener s items k t =
    in_all s.opened opened s.none items k (t.none 0) t.opened
    ∙ any_same (tells opened 0 k) (λ i. is_some (opener_in k i)) (opens k) items
    ∙ sym (found_any (opener_in k) items)
    ∙ ap is_some (opener_found k items)
