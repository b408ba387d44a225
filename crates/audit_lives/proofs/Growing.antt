-- What is looked up in lives and in all items, behind one item more.
use Rattle.std.proofs.Common.{◌≡◌, ℕ, suc, ◌<◌, ◌≤◌, ◌+◌, ◌^◌, Bool, true, false, cond, ◌||◌, min, nat_lt, List, [], ◌∷◌, ◌++◌, length, drop, filter, count_by, Option, None, refl, sym, ◌∙◌, ap, arith}
use Rattle.std.specs.List.{list_any}
use Rattle.std.proofs.lemmas.Bool.{lt-ltb}
use Rattle.std.proofs.lemmas.List.{drop-append-le, drop_all, length-append}
use Rattle.std.proofs.lemmas.List.Folds.{list_any-append}
use Rattle.std.proofs.lemmas.List.Sums.{length-filter}
use Rattle.first_places.specs.Firsts.{Firsts, Tells}
use Rattle.first_places.specs.Places.{is_number, is_pair, value_at}
use Rattle.first_places.proofs.Growing.{one_more}
use Rattle.script_text.specs.declared.item.Item.{Item}
use Rattle.script_text.specs.declared.item.Item.TheVariants as item
use Rattle.audit_model.specs.Order.{has_started}
use Rattle.world_model.specs.Lives.{begins, clock_by, clock_from, clock_of, life, life_from}
use Rattle.audit_lives.specs.Index.{Starts}

-- ---- a life

life_from_more : (p : ℕ) (so_far items : List Item) (i : Item) → life_from p so_far (items ++ i ∷ []) ≡ cond (begins p i) [] (life_from p so_far items ++ i ∷ [])
life_from_more p so_far [] i = refl
life_from_more p so_far (j ∷ items) i = by (begins p j) (life_from_more p [] items i) (life_from_more p (so_far ++ j ∷ []) items i)
  where
    by : (b : Bool) → life_from p [] (items ++ i ∷ []) ≡ cond (begins p i) [] (life_from p [] items ++ i ∷ [])
        → life_from p (so_far ++ j ∷ []) (items ++ i ∷ []) ≡ cond (begins p i) [] (life_from p (so_far ++ j ∷ []) items ++ i ∷ [])
        → cond b (life_from p [] (items ++ i ∷ [])) (life_from p (so_far ++ j ∷ []) (items ++ i ∷ []))
        ≡ cond (begins p i) [] (cond b (life_from p [] items) (life_from p (so_far ++ j ∷ []) items) ++ i ∷ [])
    by true new on = new
    by false new on = on

pub life_more : (p : ℕ) (items : List Item) (i : Item) → life p (items ++ i ∷ []) ≡ cond (begins p i) [] (life p items ++ i ∷ [])
life_more p items i = life_from_more p [] items i

pub any_more : (test : Item → Bool) (items : List Item) (i : Item) → list_any test (items ++ i ∷ []) ≡ list_any test items || test i
any_more test items i = list_any-append test items (i ∷ []) ∙ ap (λ (b : Bool). list_any test items || b) (alone (test i))
  where
    alone : (b : Bool) → b || false ≡ b
    alone true = refl
    alone false = refl

or_true : (b : Bool) → b || true ≡ true
or_true true = refl
or_true false = refl

or_false : (b : Bool) → b || false ≡ b
or_false true = refl
or_false false = refl

pub starts_more : (old new : List (ℕ × ℕ)) (items : List Item) (i : Item) → Starts old items
    → ((p : ℕ) → value_at new p ≡ cond (begins p i) (length items + 1) (value_at old p)) → Starts new (items ++ i ∷ [])
starts_more old new items i s e = record {
  life = λ p. life_at p (begins p i) refl;
  low = λ p. low_at p (begins p i) (e p);
  started = λ p. started_at p (begins p i) refl;
}
  where
    size : length (items ++ i ∷ []) ≡ length items + 1
    size = length-append items (i ∷ [])

    then : (p : ℕ) (b : Bool) → begins p i ≡ b → value_at new p ≡ cond b (length items + 1) (value_at old p)
    then p b r = e p ∙ ap (λ (c : Bool). cond c (length items + 1) (value_at old p)) r

    life_at : (p : ℕ) (b : Bool) → begins p i ≡ b → life p (items ++ i ∷ []) ≡ drop (value_at new p) (items ++ i ∷ [])
    life_at p true r =
        let n : value_at new p ≡ length items + 1 = then p true r in
        life_more p items i ∙ ap (λ (c : Bool). cond c [] (life p items ++ i ∷ [])) r ∙ sym (drop_all (value_at new p) (items ++ i ∷ []) (omega (arith, n, size)))
    life_at p false r =
        let n : value_at new p ≡ value_at old p = then p false r in
        life_more p items i
        ∙ ap (λ (c : Bool). cond c [] (life p items ++ i ∷ [])) r
        ∙ ap (λ (xs : List Item). xs ++ i ∷ []) (s.life p)
        ∙ sym (drop-append-le (value_at old p) items (i ∷ []) (s.low p))
        ∙ ap (λ (k : ℕ). drop k (items ++ i ∷ [])) (sym n)

    low_at : (p : ℕ) (b : Bool) → value_at new p ≡ cond b (length items + 1) (value_at old p) → value_at new p ≤ length (items ++ i ∷ [])
    low_at p true n = omega (arith, n, size)
    low_at p false n =
        let below : value_at old p ≤ length items = s.low p in
        omega (arith, n, below, size)

    started_at : (p : ℕ) (b : Bool) → begins p i ≡ b → nat_lt 0 (value_at new p) ≡ has_started p (items ++ i ∷ [])
    started_at p true r =
        let n : value_at new p ≡ length items + 1 = then p true r in
        lt-ltb 0 (value_at new p) (omega (arith, n)) ∙ sym (any_more (begins p) items i ∙ ap (λ (c : Bool). has_started p items || c) r ∙ or_true (has_started p items))
    started_at p false r =
        ap (nat_lt 0) (then p false r) ∙ s.started p ∙ sym (any_more (begins p) items i ∙ ap (λ (c : Bool). has_started p items || c) r ∙ or_false (has_started p items))

-- ---- a clock

clock_from_more : (p now : ℕ) (items : List Item) (i : Item) → clock_from p now (items ++ i ∷ []) ≡ clock_by p (clock_from p now items) i
clock_from_more p now [] i = refl
clock_from_more p now (j ∷ items) i = clock_from_more p (clock_by p now j) items i

pub clocks_more : (old new : List (ℕ × ℕ)) (items : List Item) (i : Item) → ((p : ℕ) → value_at old p ≡ clock_of p items)
    → ((p : ℕ) → value_at new p ≡ clock_by p (value_at old p) i) → (p : ℕ) → value_at new p ≡ clock_of p (items ++ i ∷ [])
clocks_more old new items i was e p = e p ∙ ap (λ (n : ℕ). clock_by p n i) (was p) ∙ sym (clock_from_more p 0 items i)

-- ---- places

silent : (pair : Item → Option (ℕ × ℕ)) → ((q : ℕ) → pair (item.Started q) ≡ None) → ((q : ℕ) → pair (item.Restarted q) ≡ None)
    → (i : Item) (a b : ℕ) → begins a i ≡ true → is_pair (pair i) a b ≡ false
silent pair s r (item.Started q) a b e = ap (λ (o : Option (ℕ × ℕ)). is_pair o a b) (s q)
silent pair s r (item.Restarted q) a b e = ap (λ (o : Option (ℕ × ℕ)). is_pair o a b) (r q)
silent pair s r i a b e = absurd cc

-- in lives, by what no start tells
pub life_place : (pair : Item → Option (ℕ × ℕ)) → ((q : ℕ) → pair (item.Started q) ≡ None) → ((q : ℕ) → pair (item.Restarted q) ≡ None)
    → (starts next : List (ℕ × ℕ)) (items : List Item) (i : Item) (old new : List ((ℕ × ℕ) × ℕ)) → Starts starts items
    → ((p : ℕ) → value_at next p ≡ cond (begins p i) (length items + 1) (value_at starts p))
    → Firsts old pair (value_at starts) items → Tells (pair i) (value_at starts) (length items) old new → Firsts new pair (value_at next) (items ++ i ∷ [])
life_place pair s r starts next items i old new st e f t =
    one_more pair (value_at starts) (value_at next) items i old new f st.low t
    (record { renews = λ a. begins a i; moves = e; silent = λ a b. silent pair s r i a b })

-- in all items
pub all_place : (pair : Item → Option (ℕ × ℕ)) (none : List (ℕ × ℕ)) (items : List Item) (i : Item) (old new : List ((ℕ × ℕ) × ℕ)) → ((a : ℕ) → value_at none a ≡ 0)
    → Firsts old pair (value_at none) items → Tells (pair i) (value_at none) (length items) old new → Firsts new pair (value_at none) (items ++ i ∷ [])
all_place pair none items i old new z f t =
    one_more pair (value_at none) (value_at none) items i old new f (λ a. at_zero (z a)) t (record { renews = λ a. false; moves = λ a. refl; silent = λ a b e. absurd cc })
  where
    at_zero : {n : ℕ} → n ≡ 0 → n ≤ length items
    at_zero e = omega (arith, e)

-- ---- counts

few : (test : Item → Bool) (items : List Item) → length (filter test items) ≤ length items
few test [] = omega arith
few test (i ∷ items) = by (test i) (few test items)
  where
    by : (b : Bool) → length (filter test items) ≤ length items → length (cond b (i ∷ filter test items) (filter test items)) ≤ suc (length items)
    by true h = omega (arith, h)
    by false h = omega (arith, h)

pub count_next : (test : Item → Bool) (items : List Item) (i : Item) → length (filter test (items ++ i ∷ [])) ≡ cond (test i) (length (filter test items) + 1) (length (filter test items))
count_next test [] i = by (test i)
  where
    by : (b : Bool) → length (cond b (i ∷ []) []) ≡ cond b (length {A = Item} [] + 1) (length {A = Item} [])
    by true = refl
    by false = refl
count_next test (j ∷ items) i = by (test j) (test i) (count_next test items i)
  where
    by : (b c : Bool) → length (filter test (items ++ i ∷ [])) ≡ cond c (length (filter test items) + 1) (length (filter test items))
        → length (cond b (j ∷ filter test (items ++ i ∷ [])) (filter test (items ++ i ∷ [])))
        ≡ cond c (length (cond b (j ∷ filter test items) (filter test items)) + 1) (length (cond b (j ∷ filter test items) (filter test items)))
    by true true h = omega (arith, h)
    by true false h = omega (arith, h)
    by false c h = h

-- a count in 64 bits, below which there are items
pub count_more : (test : Item → Bool) (items : List Item) (i : Item) (old new : ℕ) → length items < 2 ^ 63 → old ≡ length (filter test items)
    → new ≡ cond (test i) (min (old + 1) 0xffff_ffff_ffff_ffff) old → new ≡ length (filter test (items ++ i ∷ []))
count_more test items i old new l was e = e ∙ by (test i) ∙ sym (count_next test items i)
  where
    below : length (filter test items) ≤ length items
    below = few test items

    by : (b : Bool) → cond b (min (old + 1) 0xffff_ffff_ffff_ffff) old ≡ cond b (length (filter test items) + 1) (length (filter test items))
    by true = omega (arith, was, below, l)
    by false = was

pub counted_more : (test : Item → Bool) (number : Option ℕ) (items : List Item) (i : Item) (k : ℕ) (old new : ℕ) → length items < 2 ^ 63 → is_number number k ≡ test i
    → old ≡ count_by test items → new ≡ cond (is_number number k) (min (old + 1) 0xffff_ffff_ffff_ffff) old → new ≡ count_by test (items ++ i ∷ [])
counted_more test number items i k old new l same was e =
    count_more test items i old new l (was ∙ sym (length-filter test items)) (e ∙ ap (λ (b : Bool). cond b (min (old + 1) 0xffff_ffff_ffff_ffff) old) same)
    ∙ length-filter test (items ++ i ∷ [])
