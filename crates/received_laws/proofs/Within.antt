-- What a front of a line's items tells of a proxy's life: as a line, nothing of what was taken, or that it starts, or one message.
use Rattle.std.proofs.Common.{◌≡◌, ◌⊎◌, inl, inr, ℕ, ◌+◌, ◌==◌, Bool, true, false, cond, ◌||◌, List, [], ◌∷◌, ◌++◌, append-nil, append_assoc, length, refl, ap, sym, ◌∙◌, arith}
use Rattle.std.proofs.lemmas.Bool.Decides.{nat_tests}
use Rattle.etcd_types.specs.declared.watch.WatchItem.{WatchItem}
use Rattle.script_text.specs.declared.item.Item.{Item}
use Rattle.script_text.specs.declared.item.Item.TheVariants as item
use Rattle.world_model.specs.Lives.{begins, life_from, life}
use Rattle.world_model.specs.Received.{taken_for}
use Rattle.world_model.specs.State.{World}
use Rattle.received_laws.proofs.Changing.{TakesOne, Starts, Changes}
use Rattle.held_laws.proofs.Items.{IsSilent, silent, life-append, taken-append}

-- ---- items without a start

abbrev starts_in : ℕ → List Item → Bool
starts_in q [] = false
starts_in q (i ∷ items) = begins q i || starts_in q items

or_parts : (a b : Bool) → (a || b) ≡ false → (a ≡ false) × (b ≡ false)
or_parts true b e = absurd (cc)
or_parts false b e = (refl, e)

lives_plain : (q : ℕ) (so_far items : List Item) → starts_in q items ≡ false → life_from q so_far items ≡ so_far ++ items
lives_plain q so_far [] e = sym (append-nil so_far)
lives_plain q so_far (i ∷ items) e =
    let p = or_parts (begins q i) (starts_in q items) e in
    ap (λ b. cond b (life_from q [] items) (life_from q (so_far ++ i ∷ []) items)) p.0 ∙ lives_plain q (so_far ++ i ∷ []) items p.1 ∙ append_assoc so_far (i ∷ []) items

-- behind a start nothing tells what was before
forgets : (q : ℕ) (s t items : List Item) → starts_in q items ≡ true → life_from q s items ≡ life_from q t items
forgets q s t [] e = absurd (cc)
forgets q s t (i ∷ items) e = by (begins q i) e (forgets q (s ++ i ∷ []) (t ++ i ∷ []) items)
  where
    by : (b : Bool) → (b || starts_in q items) ≡ true → (starts_in q items ≡ true → life_from q (s ++ i ∷ []) items ≡ life_from q (t ++ i ∷ []) items)
        → cond b (life_from q [] items) (life_from q (s ++ i ∷ []) items) ≡ cond b (life_from q [] items) (life_from q (t ++ i ∷ []) items)
    by true e ih = refl
    by false e ih = ih e

no_start : (q : ℕ) (items : List Item) → life_from q [] items ≡ items → life_from q (item.Ticked q ∷ []) items ≡ item.Ticked q ∷ items → starts_in q items ≡ false
no_start q items a b = by (starts_in q items) refl
  where
    longer : items ≡ item.Ticked q ∷ items → ⊥
    longer e = let n : length items ≡ length items + 1 = ap length e ∙ one_more items in absurd (omega (arith, n))
      where
        one_more : (l : List Item) → length (item.Ticked q ∷ l) ≡ length l + 1
        one_more l = omega arith

    by : (c : Bool) → starts_in q items ≡ c → starts_in q items ≡ false
    by true e = absurd (longer (sym a ∙ forgets q [] (item.Ticked q ∷ []) items e ∙ b))
    by false e = e

start_front : (q : ℕ) (xs ys : List Item) → starts_in q (xs ++ ys) ≡ false → starts_in q xs ≡ false
start_front q [] ys e = refl
start_front q (x ∷ xs) ys e = let p = or_parts (begins q x) (starts_in q (xs ++ ys)) e in ap (λ b. b || starts_in q xs) p.0 ∙ start_front q xs ys p.1

-- ---- a front of a line's items

nil_front : (xs ys : List WatchItem) → xs ++ ys ≡ [] → xs ≡ []
nil_front [] ys e = refl
nil_front (x ∷ xs) ys e = absurd (cc)

silent_front : (q : ℕ) (xs ys : List Item) → IsSilent q (xs ++ ys) → IsSilent q xs
silent_front q xs ys h =
    let plain = start_front q xs ys (no_start q (xs ++ ys) (h.lives []) (h.lives (item.Ticked q ∷ []))) in
    record { takes = λ t. nil_front (taken_for q t xs) (taken_for q t ys) (sym (taken-append q t xs ys) ∙ h.takes t); lives = λ l. lives_plain q l xs plain }

starts_front : (w : World) (q : ℕ) (xs ys : List Item) → Starts q (xs ++ ys) → Changes w q xs
starts_front w q [] ys k = inl (silent q)
starts_front w q (x ∷ xs) ys k =
    let rest = tails x k.start (xs ++ ys) k.alone in
    let front = nil_parts xs ys rest in
    let same : (x ∷ xs) ++ ys ≡ x ∷ xs = ap (λ (l : List Item). x ∷ xs ++ l) front.1 ∙ append-nil (x ∷ xs) in
    inr (inl (record {
      start = x;
      alone = ap (λ (l : List Item). x ∷ l) front.0;
      anew = λ items. ap (λ (l : List Item). life q (items ++ l)) (sym same) ∙ k.anew items;
    }))
  where
    tails : (x y : Item) (xs : List Item) → x ∷ xs ≡ y ∷ [] → xs ≡ []
    tails x y xs e = cc

    nil_parts : (xs ys : List Item) → xs ++ ys ≡ [] → (xs ≡ []) × (ys ≡ [])
    nil_parts [] ys e = (refl, e)
    nil_parts (x ∷ xs) ys e = absurd (cc)

takes_front : (w : World) (q : ℕ) (xs ys : List Item) → TakesOne w q (xs ++ ys) → Changes w q xs
takes_front w q xs ys k = by (taken_for q k.ticket xs) refl
  where
    plain : starts_in q xs ≡ false
    plain = start_front q xs ys (no_start q (xs ++ ys) (k.lives []) (k.lives (item.Ticked q ∷ [])))

    same_number : (t : ℕ) → (t == t) ≡ true
    same_number t = grind (arith, nat_tests)

    equal : (s t : ℕ) → (s == t) ≡ true → s ≡ t
    equal s t e = grind (arith, nat_tests)

    both : (t : ℕ) → taken_for q t xs ++ taken_for q t ys ≡ cond (t == k.ticket) (k.message ∷ []) []
    both t = sym (taken-append q t xs ys) ∙ k.taken t

    others : (t : ℕ) → (t == k.ticket) ≡ false → taken_for q t xs ≡ []
    others t e = nil_front (taken_for q t xs) (taken_for q t ys) (both t ∙ ap (λ b. cond b (k.message ∷ []) []) e)

    only : (m i : WatchItem) (rest more : List WatchItem) → (m ∷ rest) ++ more ≡ i ∷ [] → m ∷ rest ≡ i ∷ []
    only m i rest more e = let tail : rest ≡ [] = nil_front rest more (tail_is m i (rest ++ more) e) in let head : m ≡ i = head_is m i (rest ++ more) e in (λ j. head j ∷ tail j)
      where
        tail_is : (m i : WatchItem) (l : List WatchItem) → m ∷ l ≡ i ∷ [] → l ≡ []
        tail_is m i l e = cc

        head_is : (m i : WatchItem) (l : List WatchItem) → m ∷ l ≡ i ∷ [] → m ≡ i
        head_is m i l e = cc

    by : (l : List WatchItem) → taken_for q k.ticket xs ≡ l → Changes w q xs
    by [] e = inl (record { takes = λ t. silent_at t (t == k.ticket) refl; lives = λ l. lives_plain q l xs plain })
      where
        silent_at : (t : ℕ) (b : Bool) → (t == k.ticket) ≡ b → taken_for q t xs ≡ []
        silent_at t true d = ap (λ (n : ℕ). taken_for q n xs) (equal t k.ticket d) ∙ e
        silent_at t false d = others t d
    by (m ∷ rest) e =
        let here : taken_for q k.ticket xs ≡ k.message ∷ [] =
        e ∙ only m k.message rest (taken_for q k.ticket ys) (ap (λ (l : List WatchItem). l ++ taken_for q k.ticket ys) (sym e) ∙ both k.ticket ∙ ap (λ b. cond b (k.message ∷ []) []) (same_number k.ticket)) in
        inr (inr (record {
          ticket = k.ticket;
          message = k.message;
          place = k.place;
          at = k.at;
          out = k.out;
          taken = λ t. taken_at here t (t == k.ticket) refl;
          lives = λ items. life-append q [] items xs ∙ lives_plain q (life q items) xs plain;
        }))
      where
        taken_at : taken_for q k.ticket xs ≡ k.message ∷ [] → (t : ℕ) (b : Bool) → (t == k.ticket) ≡ b → taken_for q t xs ≡ cond (t == k.ticket) (k.message ∷ []) []
        taken_at here t true d = ap (λ (n : ℕ). taken_for q n xs) (equal t k.ticket d) ∙ here ∙ ap (λ b. cond b (k.message ∷ []) []) (sym d)
        taken_at here t false d = others t d ∙ ap (λ b. cond b (k.message ∷ []) []) (sym d)

pub changes_front : (w : World) (q : ℕ) (xs ys : List Item) → Changes w q (xs ++ ys) → Changes w q xs
changes_front w q xs ys (inl h) = inl (silent_front q xs ys h)
changes_front w q xs ys (inr (inl k)) = starts_front w q xs ys k
changes_front w q xs ys (inr (inr k)) = takes_front w q xs ys k

-- ---- where a list of two parts is cut

pub record InFirst {A : Type 0} (xs front : List A) : Type 0 where
  pub rest : List A
  pub parts : xs ≡ front ++ rest

pub record InSecond {A : Type 0} (xs ys front back : List A) : Type 0 where
  pub begin : List A
  pub whole : front ≡ xs ++ begin
  pub parts : ys ≡ begin ++ back

pub cut_at : {A : Type 0} (xs ys front back : List A) → xs ++ ys ≡ front ++ back → InFirst xs front ⊎ InSecond xs ys front back
cut_at [] ys front back e = inr (record { begin = front; whole = refl; parts = e })
cut_at (x ∷ xs) ys [] back e = inl (record { rest = x ∷ xs; parts = refl })
cut_at {A = A} (x ∷ xs) ys (y ∷ front) back e = more (cut_at xs ys front back (tails x y (xs ++ ys) (front ++ back) e))
  where
    tails : (x y : A) (xs ys : List A) → x ∷ xs ≡ y ∷ ys → xs ≡ ys
    tails x y xs ys e = cc

    heads : (x y : A) (xs ys : List A) → x ∷ xs ≡ y ∷ ys → x ≡ y
    heads x y xs ys e = cc

    head : x ≡ y
    head = heads x y (xs ++ ys) (front ++ back) e

    more : InFirst xs front ⊎ InSecond xs ys front back → InFirst (x ∷ xs) (y ∷ front) ⊎ InSecond (x ∷ xs) ys (y ∷ front) back
    more (inl k) = inl (record { rest = k.rest; parts = λ i. head i ∷ k.parts i })
    more (inr k) = inr (record { begin = k.begin; whole = λ i. sym head i ∷ k.whole i; parts = k.parts })
