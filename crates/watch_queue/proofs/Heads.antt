-- Heads and events as one queue of items.
use Rattle.std.proofs.Common.{◌≡◌, ℕ, zero, suc, ◌+◌, ◌-◌, ◌≤◌, ◌<◌, min, true, false, not, cond, ◌&&◌, ◌==◌, nat_lt, List, [], ◌∷◌, ◌++◌, length, take, drop, slice_get, map, Some, Result, Ok, Err, OnOk, OnErr, refl, ap, sym, subst, ◌∙◌, append-nil, arith, length-drop, length-append}
use Rattle.std.proofs.lemmas.Bool.Decides.{nat_tests}
use Rattle.std.proofs.lemmas.List.{take-append-le, drop-append-le, take_all, drop_all, take-take, drop-take, length-take, length-take-le, take-append-drop}
use Rattle.etcd_types.specs.declared.watch.Event.{Event}
use Rattle.etcd_types.specs.declared.watch.WatchItem.{WatchItem}
use Rattle.etcd_types.specs.declared.watch.WatchItem.TheVariants as item
use Rattle.etcd_types.specs.declared.record.Header.{Header}
use Rattle.watch_queue.specs.declared.head.Head.{Head}
use Rattle.watch_queue.specs.declared.head.Head.TheVariants as head
use Rattle.watch_queue.specs.Heads.{is_without_events, is_without, ends_in_progress, Fits, Counts, count_of, counted, shared_of, shared_in, item_of, items_of}
use Rattle.watch_model.specs.Queues.{is_progress, is_progress_last, with_progress, events_in, queued_events, item_events, would_pass, is_nil, is_one}

item_of-append : (h : Head) (es fs : List Event) → count_of h ≤ length es → item_of h (es ++ fs) ≡ item_of h es
item_of-append (head.Created header) es fs e = refl
item_of-append (head.Events header count) es fs e = rw (take-append-le count es fs e) refl
item_of-append (head.Canceled header compact) es fs e = refl
item_of-append (head.Whole told) es fs e = refl

two : {A : Type 0} {x y : A} {xs ys : List A} → x ≡ y → xs ≡ ys → x ∷ xs ≡ y ∷ ys
two p q = λ i. p i ∷ q i

rest_counted : (n m l : ℕ) → n + m ≡ l → m ≡ l - n
rest_counted n m l e = omega arith

pub items-push : (hs : List Head) (h : Head) (es fs : List Event) → counted hs ≡ length es → items_of (hs ++ h ∷ []) (es ++ fs) ≡ items_of hs es ++ item_of h fs ∷ []
items-push [] h [] fs e = refl
items-push [] h (x ∷ es) fs e = absurd (omega arith)
items-push (g ∷ hs) h es fs e =
    let l : count_of g ≤ length es = omega arith in
    let d : length (drop (count_of g) es) ≡ length es - count_of g = length-drop (count_of g) es in
    let c : counted hs ≡ length (drop (count_of g) es) = rest_counted (count_of g) (counted hs) (length es) e ∙ sym d in
    two (item_of-append g es fs l) (ap (items_of (hs ++ h ∷ [])) (drop-append-le (count_of g) es fs l) ∙ items-push hs h (drop (count_of g) es) fs c)

pub counted-push : (hs : List Head) (h : Head) → counted (hs ++ h ∷ []) ≡ counted hs + count_of h
counted-push [] h = omega arith
counted-push (g ∷ hs) h = let e = counted-push hs h in omega (arith, e)

pub length-items : (hs : List Head) (es : List Event) → length (items_of hs es) ≡ length hs
length-items [] es = refl
length-items (h ∷ hs) es = ap (λ (n : ℕ). suc n) (length-items hs (drop (count_of h) es))

counted-take : (n : ℕ) (hs : List Head) → counted (take n hs) ≤ counted hs
counted-take zero hs = omega arith
counted-take (suc n) [] = omega arith
counted-take (suc n) (h ∷ hs) = let l = counted-take n hs in omega (arith, l)

-- What a queue shows after a push behind it.

append_behind : {A : Type 0} (n : ℕ) (xs ys : List A) → n ≤ length xs → take n (xs ++ ys) ≡ take n xs
append_behind n xs ys l = take-append-le n xs ys l

pub shown-push : (hs : List Head) (h : Head) (es fs : List Event) (shown within : ℕ) → Fits hs es shown within → take shown (items_of (hs ++ h ∷ []) (es ++ fs)) ≡ take shown (items_of hs es)
shown-push hs h es fs shown within f =
    let l : shown ≤ length (items_of hs es) = rw (length-items hs es) f.some in
    ap (take shown) (items-push hs h es fs f.all) ∙ take-append-le shown (items_of hs es) (item_of h fs ∷ []) l

pub staged-push : (hs : List Head) (h : Head) (es fs : List Event) (shown within : ℕ) → Fits hs es shown within → drop shown (items_of hs es) ≡ []
    → drop shown (items_of (hs ++ h ∷ []) (es ++ fs)) ≡ item_of h fs ∷ []
staged-push hs h es fs shown within f e =
    let l : shown ≤ length (items_of hs es) = rw (length-items hs es) f.some in
    ap (drop shown) (items-push hs h es fs f.all) ∙ drop-append-le shown (items_of hs es) (item_of h fs ∷ []) l ∙ ap (λ (is : List WatchItem). is ++ item_of h fs ∷ []) e

pub fits-push : (hs : List Head) (h : Head) (es fs : List Event) (shown within : ℕ) → Fits hs es shown within → count_of h ≡ length fs → Fits (hs ++ h ∷ []) (es ++ fs) shown within
fits-push hs h es fs shown within f c = record {
  all = counted-push hs h ∙ both (counted hs) (length es) (count_of h) (length fs) f.all c ∙ sym (length-append es fs);
  some = let l = f.some in let e = length-append hs (h ∷ []) in omega (arith, l, e);
  part = f.part ∙ ap counted (sym (take-append-le shown hs (h ∷ []) f.some));
}
  where
    both : (a b c d : ℕ) → a ≡ b → c ≡ d → a + c ≡ b + d
    both a b c d e f = omega arith

-- The same at the result of a push.

pub fits-pushed : {A E : Type 0} (r : Result A E) (hs hs' : List Head) (h : Head) (es es' fs : List Event) (shown within : ℕ) → Fits hs es shown within → count_of h ≡ length fs
    → OnOk r (hs' ≡ hs ++ h ∷ []) → OnOk r (es' ≡ es ++ fs) → OnErr r (hs' ≡ hs) → OnErr r (es' ≡ es) → Fits hs' es' shown within
fits-pushed (Ok x) hs hs' h es es' fs shown within f c a b u v = rw (a, b) (fits-push hs h es fs shown within f c)
fits-pushed (Err e) hs hs' h es es' fs shown within f c a b u v = rw (u, v) f

pub shown-pushed : {A E : Type 0} (r : Result A E) (hs hs' : List Head) (h : Head) (es es' fs : List Event) (shown within : ℕ) → Fits hs es shown within
    → OnOk r (hs' ≡ hs ++ h ∷ []) → OnOk r (es' ≡ es ++ fs) → OnErr r (hs' ≡ hs) → OnErr r (es' ≡ es) → take shown (items_of hs' es') ≡ take shown (items_of hs es)
shown-pushed (Ok x) hs hs' h es es' fs shown within f a b u v = rw (a, b) (shown-push hs h es fs shown within f)
shown-pushed (Err e) hs hs' h es es' fs shown within f a b u v = rw (u, v) refl

pub staged-pushed : {A E : Type 0} (r : Result A E) (hs hs' : List Head) (h : Head) (es es' fs : List Event) (shown within : ℕ) → Fits hs es shown within → drop shown (items_of hs es) ≡ []
    → OnOk r (hs' ≡ hs ++ h ∷ []) → OnOk r (es' ≡ es ++ fs) → OnOk r (drop shown (items_of hs' es') ≡ item_of h fs ∷ [])
staged-pushed (Ok x) hs hs' h es es' fs shown within f e a b = rw (a, b) (staged-push hs h es fs shown within f e)
staged-pushed (Err y) hs hs' h es es' fs shown within f e a b = tt

pub same_events : {A E : Type 0} (r : Result A E) (es : List Event) → OnOk r (es ≡ es ++ [])
same_events (Ok x) es = sym (append-nil es)
same_events (Err e) es = tt

pub still : {A E : Type 0} (r : Result A E) (es : List Event) → OnErr r (es ≡ es)
still (Ok x) es = tt
still (Err e) es = refl

-- What is shown alone.

item_of-take : (h : Head) (es : List Event) (k : ℕ) → count_of h ≤ k → item_of h (take k es) ≡ item_of h es
item_of-take (head.Created header) es k l = refl
item_of-take (head.Events header count) es k l = rw (take-take count k es l) refl
item_of-take (head.Canceled header compact) es k l = refl
item_of-take (head.Whole told) es k l = refl

pub items-take : (n : ℕ) (hs : List Head) (es : List Event) → items_of (take n hs) (take (counted (take n hs)) es) ≡ take n (items_of hs es)
items-take zero hs es = refl
items-take (suc n) [] es = refl
items-take (suc n) (h ∷ hs) es =
    let l : count_of h ≤ count_of h + counted (take n hs) = omega arith in
    two (item_of-take h es (count_of h + counted (take n hs)) l)
    (ap (items_of (take n hs)) (drop-take (count_of h) (counted (take n hs)) es) ∙ items-take n hs (drop (count_of h) es))

pub fits-take : (hs : List Head) (es : List Event) (shown within : ℕ) → Fits hs es shown within → Fits (take shown hs) (take within es) shown within
fits-take hs es shown within f =
    let l = counted-take shown hs in
    let k : within ≤ length es = let a = f.all in let p = f.part in omega (arith, l, a, p) in
    record {
      all = sym f.part ∙ sym (length-take-le within es k);
      some = let e = length-take-le shown hs f.some in omega (arith, e);
      part = f.part ∙ ap counted (sym (take-take shown shown hs (omega arith)));
    }

pub shown-take : (hs : List Head) (es : List Event) (shown within : ℕ) → Fits hs es shown within → take shown (items_of (take shown hs) (take within es)) ≡ take shown (items_of hs es)
shown-take hs es shown within f =
    rw f.part (ap (take shown) (items-take shown hs es) ∙ take-take shown shown (items_of hs es) (omega arith))

pub none_staged : (hs : List Head) (es : List Event) (shown within : ℕ) → Fits hs es shown within → drop shown (items_of (take shown hs) (take within es)) ≡ []
none_staged hs es shown within f =
    rw f.part (ap (drop shown) (items-take shown hs es) ∙ drop_all shown (take shown (items_of hs es)) (at_most shown (items_of hs es)))
  where
    at_most : {A : Type 0} (n : ℕ) (xs : List A) → length (take n xs) ≤ n
    at_most n xs = let e = length-take n xs in omega (arith, e)

-- All of it.

pub fits-all : (hs : List Head) (es : List Event) (shown within : ℕ) → Fits hs es shown within → Fits hs es (length hs) (length es)
fits-all hs es shown within f = record { all = f.all; some = omega arith; part = sym f.all ∙ ap counted (sym (take_all (length hs) hs (omega arith))) }

pub items-all : (hs : List Head) (es : List Event) (shown : ℕ) → take (length hs) (items_of hs es) ≡ take shown (items_of hs es) ++ drop shown (items_of hs es)
items-all hs es shown =
    take_all (length hs) (items_of hs es) (let e = length-items hs es in omega (arith, e)) ∙ sym (take-append-drop shown (items_of hs es))

pub none-all : (hs : List Head) (es : List Event) → drop (length hs) (items_of hs es) ≡ []
none-all hs es = drop_all (length hs) (items_of hs es) (let e = length-items hs es in omega (arith, e))

-- Without the first.

pub fits-drop : (hs : List Head) (es : List Event) (shown within : ℕ) (h : Head) → Fits hs es shown within → slice_get hs 0 ≡ Some h → 0 < shown
    → Fits (drop 1 hs) (drop (count_of h) es) (shown - 1) (within - count_of h)
fits-drop [] es shown within h f e l = absurd (cc)
fits-drop (g ∷ hs) es zero within h f e l = absurd (omega arith)
fits-drop (g ∷ hs) es (suc shown) within h f e l =
    let same : g ≡ h = cc in
    let n : count_of g ≡ count_of h = ap count_of same in
    let a = f.all in
    let p = f.part in
    let s = f.some in
    let d = length-drop (count_of h) es in
    let back : suc shown - 1 ≡ shown = omega arith in
    rw back (record { all = omega (arith, n, a, d); some = omega (arith, s); part = omega (arith, n, p) })

pub shown-drop : (hs : List Head) (es : List Event) (shown : ℕ) (h : Head) → slice_get hs 0 ≡ Some h → 0 < shown
    → take (shown - 1) (items_of (drop 1 hs) (drop (count_of h) es)) ≡ drop 1 (take shown (items_of hs es))
shown-drop [] es shown h e l = absurd (cc)
shown-drop (g ∷ hs) es zero h e l = absurd (omega arith)
shown-drop (g ∷ hs) es (suc shown) h e l =
    let same : g ≡ h = cc in
    let back : suc shown - 1 ≡ shown = omega arith in
    rw back (ap (λ (k : Head). take shown (items_of hs (drop (count_of k) es))) (sym same))

pub staged-drop : (hs : List Head) (es : List Event) (shown : ℕ) (h : Head) → slice_get hs 0 ≡ Some h → 0 < shown
    → drop (shown - 1) (items_of (drop 1 hs) (drop (count_of h) es)) ≡ drop shown (items_of hs es)
staged-drop [] es shown h e l = absurd (cc)
staged-drop (g ∷ hs) es zero h e l = absurd (omega arith)
staged-drop (g ∷ hs) es (suc shown) h e l =
    let same : g ≡ h = cc in
    let back : suc shown - 1 ≡ shown = omega arith in
    rw back (ap (λ (k : Head). drop shown (items_of hs (drop (count_of k) es))) (sym same))

pub one_shown : (hs : List Head) (es : List Event) (shown within : ℕ) → Fits hs es shown within → (shown == 1) ≡ is_one (take shown (items_of hs es))
one_shown hs es zero within f = refl
one_shown [] es (suc n) within f = absurd (let s = f.some in omega (arith, s))
one_shown (h ∷ hs) es (suc zero) within f = refl
one_shown (h ∷ []) es (suc (suc n)) within f = absurd (let s = f.some in omega (arith, s))
one_shown (h ∷ g ∷ hs) es (suc (suc n)) within f = two_or_more n
  where
    two_or_more : (n : ℕ) → (suc (suc n) == 1) ≡ false
    two_or_more n = grind (arith, nat_tests)

-- How many events are shown.

counted-items : (n : ℕ) (hs : List Head) (es : List Event) → counted hs ≤ length es → events_in (take n (items_of hs es)) ≡ counted (take n hs) + shared_in (take n hs)
counted-items zero hs es l = refl
counted-items (suc n) [] es l = refl
counted-items (suc n) (h ∷ hs) es l =
    let d = length-drop (count_of h) es in
    let k : counted hs ≤ length (drop (count_of h) es) = omega (arith, d) in
    length-append (item_events (item_of h es)) (queued_events (take n (items_of hs (drop (count_of h) es))))
    ∙ both (one h es (omega arith)) (counted-items n hs (drop (count_of h) es) k)
    ∙ crossed (count_of h) (shared_of h) (counted (take n hs)) (shared_in (take n hs))
  where
    one : (h : Head) (es : List Event) → count_of h ≤ length es → length (item_events (item_of h es)) ≡ count_of h + shared_of h
    one (head.Created header) es l = refl
    one (head.Events header count) es l = let e = length-take-le count es l in omega (arith, e)
    one (head.Canceled header compact) es l = refl
    one (head.Whole told) es l = omega arith

    crossed : (a b c d : ℕ) → (a + b) + (c + d) ≡ (a + c) + (b + d)
    crossed a b c d = omega arith

    both : {a b c d : ℕ} → a ≡ b → c ≡ d → a + c ≡ b + d
    both e f = λ i. e i + f i

pub passes-limit : (hs : List Head) (es : List Event) (shown within shared ready more : ℕ) → Fits hs es shown within → Counts hs shown shared ready → 0 < shown
    → (events sum : ℕ) → events ≡ min (within + shared) 0xffff_ffff_ffff_ffff → sum ≡ min (events + more) 0xffff_ffff_ffff_ffff → nat_lt 1024 sum ≡ would_pass (take shown (items_of hs es)) more
passes-limit hs es shown within shared ready more f k l events sum t u =
    let a = f.all in
    let e : events_in (take shown (items_of hs es)) ≡ within + shared = counted-items shown hs es (omega arith) ∙ (λ i. sym f.part i + sym k.part i) in
    rw (e, not_nil hs es shown f.some l) (grind (arith, nat_tests))
  where
    not_nil : (hs : List Head) (es : List Event) (shown : ℕ) → shown ≤ length hs → 0 < shown → is_nil (take shown (items_of hs es)) ≡ false
    not_nil [] es shown s l = absurd (omega arith)
    not_nil (h ∷ hs) es zero s l = absurd (omega arith)
    not_nil (h ∷ hs) es (suc shown) s l = refl

pub length-map : {X Y : Type 0} (f : X → Y) (xs : List X) → length (map f xs) ≡ length xs
length-map f [] = refl
length-map f (x ∷ xs) = ap (λ (n : ℕ). suc n) (length-map f xs)

pub staged-batch : {A E : Type 0} (r : Result A E) (hs hs' : List Head) (header : Header) (es es' fs : List Event) (shown within : ℕ) → Fits hs es shown within → drop shown (items_of hs es) ≡ []
    → OnOk r (hs' ≡ hs ++ head.Events header (length fs) ∷ []) → OnOk r (es' ≡ es ++ fs) → OnOk r (drop shown (items_of hs' es') ≡ item.Events header fs ∷ [])
staged-batch (Ok x) hs hs' header es es' fs shown within f e a b =
    rw (a, b) (staged-push hs (head.Events header (length fs)) es fs shown within f e ∙ ap (λ (xs : List Event). item.Events header xs ∷ []) (take_all (length fs) fs (omega arith)))
staged-batch (Err y) hs hs' header es es' fs shown within f e a b = tt

-- A message without events in the place of a last one.

without_is : (h : Head) (es : List Event) → count_of h ≤ length es → is_without_events h ≡ is_progress (item_of h es)
without_is (head.Created header) es l = refl
without_is (head.Canceled header compact) es l = refl
without_is (head.Whole told) es l = refl
without_is (head.Events header zero) es l = refl
without_is (head.Events header (suc count)) [] l = absurd (omega arith)
without_is (head.Events header (suc count)) (x ∷ es) l = grind (arith, nat_tests)

ends_from : (hs : List Head) (es : List Event) (n : ℕ) → counted hs ≤ length es → suc n ≤ length hs → is_without (slice_get hs n) ≡ is_progress_last (take (suc n) (items_of hs es))
ends_from [] es n l m = absurd (omega arith)
ends_from (h ∷ hs) es zero l m = without_is h es (omega arith)
ends_from (h ∷ []) es (suc n) l m = absurd (omega arith)
ends_from (h ∷ g ∷ hs) es (suc n) l m =
    let d = length-drop (count_of h) es in
    ends_from (g ∷ hs) (drop (count_of h) es) n (omega (arith, d)) (omega arith)

pub ends_is : (hs : List Head) (es : List Event) (shown within : ℕ) → Fits hs es shown within → ends_in_progress hs shown ≡ is_progress_last (take shown (items_of hs es))
ends_is hs es zero within f = refl
ends_is hs es (suc n) within f =
    let a = f.all in
    let back : suc n - 1 ≡ n = omega arith in
    let some : (suc n == 0) ≡ false = grind (arith, nat_tests) in
    rw (some, back) (ends_from hs es n (omega (arith, a)) f.some)

-- the last one goes
pub replaced : (is : List WatchItem) (n : ℕ) (p : WatchItem) → suc n ≤ length is → is_progress_last (take (suc n) is) ≡ true → with_progress (take (suc n) is) p ≡ take n is ++ p ∷ []
replaced [] n p l e = absurd (omega arith)
replaced (i ∷ is) zero p l e = ap (λ b. cond b (p ∷ []) (i ∷ p ∷ [])) e
replaced (i ∷ []) (suc n) p l e = absurd (omega arith)
replaced (i ∷ j ∷ is) (suc n) p l e = ap (λ (l : List WatchItem). i ∷ l) (replaced (j ∷ is) n p (omega arith) e)

-- and where there is none it comes behind
pub put_behind : (is : List WatchItem) (p : WatchItem) → is_progress_last is ≡ false → with_progress is p ≡ is ++ p ∷ []
put_behind [] p e = refl
put_behind (i ∷ []) p e = ap (λ b. cond b (p ∷ []) (i ∷ p ∷ [])) e
put_behind (i ∷ j ∷ is) p e = ap (λ (l : List WatchItem). i ∷ l) (put_behind (j ∷ is) p e)

last_counts : (hs : List Head) (n : ℕ) → is_without (slice_get hs n) ≡ true → counted (take (suc n) hs) ≡ counted (take n hs)
last_counts [] n e = absurd (cc)
last_counts (h ∷ hs) zero e = none h e
  where
    none : (h : Head) → is_without_events h ≡ true → count_of h + 0 ≡ 0
    none (head.Created header) e = absurd (cc)
    none (head.Canceled header compact) e = absurd (cc)
    none (head.Whole told) e = omega arith
    none (head.Events header count) e = grind (arith, nat_tests)
last_counts (h ∷ hs) (suc n) e = ap (λ (k : ℕ). count_of h + k) (last_counts hs n e)

pub ends_some : (hs : List Head) (n : ℕ) → ends_in_progress hs (suc n) ≡ true → is_without (slice_get hs n) ≡ true
ends_some hs n e =
    let back : suc n - 1 ≡ n = omega arith in
    let some : (suc n == 0) ≡ false = grind (arith, nat_tests) in
    subst (λ (k : ℕ). is_without (slice_get hs k) ≡ true) back (subst (λ b. (not b && is_without (slice_get hs (suc n - 1))) ≡ true) some e)

-- what the heads and events are then
pub put_fits : (hs : List Head) (es : List Event) (n within : ℕ) (header : Header) → Fits hs es (suc n) within → ends_in_progress hs (suc n) ≡ true
    → Fits (take n hs ++ head.Events header 0 ∷ []) (take within es) (suc n) within
put_fits hs es n within header f e =
    let one = last_counts hs n (ends_some hs n e) in
    let p = f.part in
    let s = f.some in
    let c = counted-push (take n hs) (head.Events header 0) in
    let k = counted-take (suc n) hs in
    let a = f.all in
    let l = length-take-le within es (omega (arith, p, k, a)) in
    let m = length-take-le n hs (omega (arith, s)) in
    let q = length-append (take n hs) (head.Events header 0 ∷ []) in
    let t : take (suc n) (take n hs ++ head.Events header 0 ∷ []) ≡ take n hs ++ head.Events header 0 ∷ [] = take_all (suc n) (take n hs ++ head.Events header 0 ∷ []) (omega (arith, q, m)) in
    record {
      all = c ∙ omega (arith, one, p, l);
      some = omega (arith, q, m);
      part = omega (arith, p, one, c) ∙ ap counted (sym t);
    }

pub put_items : (hs : List Head) (es : List Event) (n within : ℕ) (header : Header) → Fits hs es (suc n) within → ends_in_progress hs (suc n) ≡ true
    → items_of (take n hs ++ head.Events header 0 ∷ []) (take within es) ≡ with_progress (take (suc n) (items_of hs es)) (item.Events header [])
put_items hs es n within header f e =
    let one = last_counts hs n (ends_some hs n e) in
    let p = f.part in
    let k = counted-take (suc n) hs in
    let a = f.all in
    let l = length-take-le within es (omega (arith, p, k, a)) in
    let w : within ≡ counted (take n hs) = p ∙ one in
    let i = length-items hs es in
    let s = f.some in
    ap (items_of (take n hs ++ head.Events header 0 ∷ [])) (sym (append-nil (take within es)))
    ∙ items-push (take n hs) (head.Events header 0) (take within es) [] (sym w ∙ sym l)
    ∙ ap (λ (is : List WatchItem). is ++ item.Events header [] ∷ []) (ap (λ (k : ℕ). items_of (take n hs) (take k es)) w ∙ items-take n hs es)
    ∙ sym (replaced (items_of hs es) n (item.Events header []) (omega (arith, i, s)) (sym (ends_is hs es (suc n) within f) ∙ e))

-- The same for any number that is shown.

pub put_fits_at : (hs : List Head) (es : List Event) (shown within : ℕ) (header : Header) → Fits hs es shown within → ends_in_progress hs shown ≡ true
    → Fits (take (shown - 1) hs ++ head.Events header 0 ∷ []) (take within es) shown within
put_fits_at hs es zero within header f e = absurd (cc)
put_fits_at hs es (suc n) within header f e = let back : suc n - 1 ≡ n = omega arith in rw back (put_fits hs es n within header f e)

pub put_shown_at : (hs : List Head) (es : List Event) (shown within : ℕ) (header : Header) → Fits hs es shown within → ends_in_progress hs shown ≡ true
    → take shown (items_of (take (shown - 1) hs ++ head.Events header 0 ∷ []) (take within es)) ≡ with_progress (take shown (items_of hs es)) (item.Events header [])
put_shown_at hs es zero within header f e = absurd (cc)
put_shown_at hs es (suc n) within header f e =
    let back : suc n - 1 ≡ n = omega arith in
    let s = f.some in
    let m = length-take-le n hs (omega (arith, s)) in
    let q = length-append (take n hs) (head.Events header 0 ∷ []) in
    let i = length-items (take n hs ++ head.Events header 0 ∷ []) (take within es) in
    rw back (take_all (suc n) (items_of (take n hs ++ head.Events header 0 ∷ []) (take within es)) (omega (arith, i, q, m)) ∙ put_items hs es n within header f e)

pub put_staged_at : (hs : List Head) (es : List Event) (shown within : ℕ) (header : Header) → Fits hs es shown within → ends_in_progress hs shown ≡ true
    → drop shown (items_of (take (shown - 1) hs ++ head.Events header 0 ∷ []) (take within es)) ≡ []
put_staged_at hs es zero within header f e = absurd (cc)
put_staged_at hs es (suc n) within header f e =
    let back : suc n - 1 ≡ n = omega arith in
    let s = f.some in
    let m = length-take-le n hs (omega (arith, s)) in
    let q = length-append (take n hs) (head.Events header 0 ∷ []) in
    let i = length-items (take n hs ++ head.Events header 0 ∷ []) (take within es) in
    rw back (drop_all (suc n) (items_of (take n hs ++ head.Events header 0 ∷ []) (take within es)) (omega (arith, i, q, m)))
