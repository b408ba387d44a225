-- Where the messages of each stream are told, behind one item more.
use Rattle.std.proofs.Common.{◌≡◌, ℕ, suc, ◌<◌, ◌+◌, Bool, true, false, cond, ◌==◌, ◌&&◌, count_by, List, [], ◌∷◌, ◌++◌, append_assoc, append-nil, length, filter, Option, None, Some, refl, sym, ◌∙◌, ap, arith}
use Rattle.std.specs.Prelude.{slice_get}
use Rattle.std.proofs.lemmas.Bool.{eqb-true}
use Rattle.std.proofs.lemmas.List.{length-append}
use Rattle.std.proofs.lemmas.List.Sums.{length-filter}
use Rattle.etcd_types.specs.declared.watch.WatchItem.{WatchItem}
use Rattle.first_places.specs.Places.{is_pair, place_at}
use Rattle.script_text.specs.declared.item.Item.{Item}
use Rattle.script_text.specs.declared.item.Item.TheVariants as item
use Rattle.world_model.specs.Lives.{pushed_by, pushed_into}
use Rattle.audit_lives.specs.Finds.{pushes_into, told_by, told_of}
use Rattle.audit_lives.specs.Given.{pushed_in}
use Rattle.audit_lives.specs.Messages.{Messages, Sets, next_key}
use Rattle.audit_lives.specs.Pairs.{pushed}
use Rattle.audit_lives.proofs.Gets.{before_got, last_got, other_got}

pub messages_none : (kept : List ((ℕ × ℕ) × ℕ)) → ((a b : ℕ) → place_at kept a b ≡ None) → Messages kept []
messages_none kept none = record {
  found = λ stream n. ap (told_by (pushed_in stream) []) (none stream n);
  within = λ a b n e. absurd (none_some n (sym (none a b) ∙ e));
}
  where
    none_some : (n : ℕ) → ◌≡◌ {A = Option ℕ} None (Some n) → ⊥
    none_some n h = cc

pushed_more : (s : ℕ) (items : List Item) (x : Item) → pushed_into s (items ++ x ∷ []) ≡ pushed_into s items ++ pushed_by s x
pushed_more s [] x = append-nil (pushed_by s x)
pushed_more s (i ∷ items) x = ap (λ (ms : List WatchItem). pushed_by s i ++ ms) (pushed_more s items x) ∙ sym (append_assoc (pushed_by s i) (pushed_into s items) (pushed_by s x))

-- as many as the items that push into it
pushed_many : (s : ℕ) (items : List Item) → length (pushed_into s items) ≡ length (filter (pushes_into s) items)
pushed_many s [] = refl
pushed_many s (i ∷ items) = by i (pushed_many s items)
  where
    either : (b : Bool) (m : WatchItem) (j : Item) → length (pushed_into s items) ≡ length (filter (pushes_into s) items)
        → length (cond b (m ∷ []) [] ++ pushed_into s items) ≡ length (cond b (j ∷ filter (pushes_into s) items) (filter (pushes_into s) items))
    either true m j e = ap suc e
    either false m j e = e

    by : (j : Item) → length (pushed_into s items) ≡ length (filter (pushes_into s) items) → length (pushed_into s (j ∷ items)) ≡ length (filter (pushes_into s) (j ∷ items))
    by (item.Pushed number message) e = either (number == s) message (item.Pushed number message) e
    by j e = e

-- what was told before is told still
still_told : (s : ℕ) (items : List Item) (x : Item) (o : Option ℕ) → ((n : ℕ) → o ≡ Some n → n < length items) → told_by (pushed_in s) (items ++ x ∷ []) o ≡ told_by (pushed_in s) items o
still_told s items x None f = refl
still_told s items x (Some n) f = ap (told_of (pushed_in s)) (before_got items x n (f n refl))

found_other : (items : List Item) (x : Item) (old new : List ((ℕ × ℕ) × ℕ)) (s n : ℕ) → Messages old items → place_at new s n ≡ place_at old s n → slice_get (pushed_into s items ++ pushed_by s x) n ≡ slice_get (pushed_into s items) n
    → told_by (pushed_in s) (items ++ x ∷ []) (place_at new s n) ≡ slice_get (pushed_into s (items ++ x ∷ [])) n
found_other items x old new s n m same rest =
    ap (told_by (pushed_in s) (items ++ x ∷ [])) same
    ∙ still_told s items x (place_at old s n) (m.within s n)
    ∙ m.found s n
    ∙ sym (ap (λ (ms : List WatchItem). slice_get ms n) (pushed_more s items x) ∙ rest)

found_next : (items : List Item) (stream : ℕ) (message : WatchItem) (old new : List ((ℕ × ℕ) × ℕ)) (count : ℕ → ℕ) (s n : ℕ) → Messages old items → count stream ≡ length (pushed_into stream items)
    → Sets (Some (stream, count stream)) (length items) old new
    → told_by (pushed_in s) (items ++ item.Pushed stream message ∷ []) (place_at new s n) ≡ slice_get (pushed_into s (items ++ item.Pushed stream message ∷ [])) n
found_next items stream message old new count s n m many put = by (stream == s) (count stream == n) refl refl
  where
    x : Item
    x = item.Pushed stream message

    by : (a b : Bool) → (stream == s) ≡ a → (count stream == n) ≡ b → told_by (pushed_in s) (items ++ x ∷ []) (place_at new s n) ≡ slice_get (pushed_into s (items ++ x ∷ [])) n
    by true true a b =
        ap (told_by (pushed_in s) (items ++ x ∷ [])) (put s n ∙ (λ k. cond (a k && b k) (Some (length items)) (place_at old s n)))
        ∙ ap (told_of (pushed_in s)) (last_got items x)
        ∙ ap (λ (t : Bool). cond t (Some message) None) a
        ∙ sym
        (ap (λ (ms : List WatchItem). slice_get ms n) (pushed_more s items x ∙ ap (λ (t : Bool). pushed_into s items ++ cond t (message ∷ []) []) a)
        ∙ ap (slice_get (pushed_into s items ++ message ∷ [])) (sym (eqb-true (count stream) n b) ∙ many ∙ ap (λ (k : ℕ). length (pushed_into k items)) (eqb-true stream s a))
        ∙ last_got (pushed_into s items) message)
    by true false a b =
        let longer : (length (pushed_into s items) == n) ≡ false =
        ap (λ (k : ℕ). k == n) (sym (many ∙ ap (λ (k : ℕ). length (pushed_into k items)) (eqb-true stream s a))) ∙ b in
        found_other items x old new s n m (put s n ∙ (λ k. cond (a k && b k) (Some (length items)) (place_at old s n)))
        (ap (λ (t : Bool). slice_get (pushed_into s items ++ cond t (message ∷ []) []) n) a ∙ other_got (pushed_into s items) message n longer)
    by false c a b =
        found_other items x old new s n m (put s n ∙ ap (λ (t : Bool). cond (t && (count stream == n)) (Some (length items)) (place_at old s n)) a)
        (ap (λ (t : Bool). slice_get (pushed_into s items ++ cond t (message ∷ []) []) n) a ∙ ap (λ (ms : List WatchItem). slice_get ms n) (append-nil (pushed_into s items)))

kept_within : (items : List Item) (x : Item) (pair : Option (ℕ × ℕ)) (old new : List ((ℕ × ℕ) × ℕ)) → Messages old items → Sets pair (length items) old new
    → (a b n : ℕ) → place_at new a b ≡ Some n → n < length (items ++ x ∷ [])
kept_within items x pair old new m put a b n is = by (is_pair pair a b) (sym (put a b) ∙ is)
  where
    size : length (items ++ x ∷ []) ≡ length items + 1
    size = length-append items (x ∷ [])

    spot : Option ℕ → ℕ
    spot None = n
    spot (Some k) = k

    by : (t : Bool) → cond t (Some (length items)) (place_at old a b) ≡ Some n → n < length (items ++ x ∷ [])
    by true e =
        let same : length items ≡ n = ap spot e in
        omega (arith, same, size)
    by false e =
        let l : n < length items = m.within a b n e in
        omega (arith, l, size)

found_more : (items : List Item) (x : Item) (old new : List ((ℕ × ℕ) × ℕ)) (count : ℕ → ℕ) → ((s : ℕ) → count s ≡ length (pushed_into s items)) → Messages old items → Sets (next_key (pushed x) count) (length items) old new
    → (s n : ℕ) → told_by (pushed_in s) (items ++ x ∷ []) (place_at new s n) ≡ slice_get (pushed_into s (items ++ x ∷ [])) n
found_more items (item.Pushed stream message) old new count many m put s n = found_next items stream message old new count s n m (many stream) put
found_more items x old new count many m put s n = found_other items x old new s n m (put s n) (ap (λ (ms : List WatchItem). slice_get ms n) (append-nil (pushed_into s items)))

pub messages_more : (items : List Item) (x : Item) (old new : List ((ℕ × ℕ) × ℕ)) (count : ℕ → ℕ) → ((s : ℕ) → count s ≡ count_by (pushes_into s) items) → Messages old items
    → Sets (next_key (pushed x) count) (length items) old new → Messages new (items ++ x ∷ [])
messages_more items x old new count many m put = record {
  found = found_more items x old new count (λ s. many s ∙ sym (length-filter (pushes_into s) items) ∙ sym (pushed_many s items)) m put;
  within = kept_within items x (next_key (pushed x) count) old new m put;
}
