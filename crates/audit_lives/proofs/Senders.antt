-- A call has one sender where its number wasn't sent twice.
use Rattle.std.proofs.Common.{◌≡◌, ℕ, Bool, true, false, cond, ◌==◌, ◌&&◌, ◌||◌, List, [], ◌∷◌, ◌++◌, Option, None, Some, is_some, refl, sym, ◌∙◌, ap}
use Rattle.std.proofs.lemmas.Bool.{eqb-true}
use Rattle.first_places.specs.Places.{is_number}
use Rattle.script_text.specs.declared.item.Item.{Item}
use Rattle.script_text.specs.declared.item.Item.TheVariants as item
use Rattle.audit_model.specs.Calls.{sender_of}
use Rattle.world_model.specs.Lives.{is_call_of, sent_it}
use Rattle.audit_lives.specs.Finds.{found_or, sender_in, sent_again}
use Rattle.audit_lives.proofs.Found.{first_found, sender_found}
use Rattle.audit_lives.proofs.Growing.{any_more}

or_none : {A : Type 0} (o : Option A) → found_or o None ≡ o
or_none None = refl
or_none (Some x) = refl

pub found_more : {A : Type 0} (f : Item → Option A) (items : List Item) (i : Item) → first_found f (items ++ i ∷ []) ≡ found_or (first_found f items) (f i)
found_more f [] i = or_none (f i)
found_more f (j ∷ items) i = ap (found_or (f j)) (found_more f items i) ∙ grouped (f j)
  where
    grouped : (o : Option _) → found_or o (found_or (first_found f items) (f i)) ≡ found_or (found_or o (first_found f items)) (f i)
    grouped None = refl
    grouped (Some x) = refl

sender_more : (k : ℕ) (items : List Item) (i : Item) → sender_of k (items ++ i ∷ []) ≡ found_or (sender_of k items) (sender_in k i)
sender_more k items i =
    sym (sender_found k (items ++ i ∷ [])) ∙ found_more (sender_in k) items i ∙ ap (λ (o : Option ℕ). found_or o (sender_in k i)) (sender_found k items)

pub none_of : {A : Type 0} (o : Option A) → is_some o ≡ false → o ≡ None
none_of None e = refl
none_of (Some x) e = absurd cc

pub joined : (s x b : Bool) (o : Option ℕ) (q p : ℕ) → s ≡ is_number o p → x ≡ (q == p) → (b ≡ true → o ≡ None) → s || (x && b) ≡ is_number (found_or o (cond b (Some q) None)) p
joined s x true None q p e f n = (λ i. e i || (x && true)) ∙ alone x ∙ f
  where
    alone : (y : Bool) → false || (y && true) ≡ y
    alone true = refl
    alone false = refl
joined s x true (Some m) q p e f n = absurd (some_none (n refl))
  where
    some_none : ◌≡◌ {A = Option ℕ} (Some m) None → ⊥
    some_none h = cc
joined s x false None q p e f n = without s x ∙ e
  where
    without : (y z : Bool) → y || (z && false) ≡ y
    without true z = refl
    without false true = refl
    without false false = refl
joined s x false (Some m) q p e f n = without s x ∙ e
  where
    without : (y z : Bool) → y || (z && false) ≡ y
    without true z = refl
    without false true = refl
    without false false = refl

pub told_none : (s : Bool) (o : Option ℕ) (p : ℕ) → s ≡ is_number o p → s || false ≡ is_number (found_or o None) p
told_none s o p e = or_false s ∙ e ∙ ap (λ (x : Option ℕ). is_number x p) (sym (or_none o))
  where
    or_false : (b : Bool) → b || false ≡ b
    or_false true = refl
    or_false false = refl

-- by what the item tells
one_told : (items : List Item) (i : Item) (k p : ℕ) → sent_it p k items ≡ is_number (sender_of k items) p → sent_again items i ≡ false
    → sent_it p k items || is_call_of p k i ≡ is_number (found_or (sender_of k items) (sender_in k i)) p
one_told items (item.Sent q n member t r) k p e a =
    joined (sent_it p k items) (q == p) (n == k) (sender_of k items) q p e refl (λ same. none_of (sender_of k items) (ap (λ (m : ℕ). is_some (sender_of m items)) (sym (eqb-true n k same)) ∙ a))
one_told items i k p e a = told_none (sent_it p k items) (sender_of k items) p e

pub single_more : (items : List Item) (i : Item) → ((k p : ℕ) → sent_it p k items ≡ is_number (sender_of k items) p) → sent_again items i ≡ false
    → (k p : ℕ) → sent_it p k (items ++ i ∷ []) ≡ is_number (sender_of k (items ++ i ∷ [])) p
single_more items i e a k p =
    any_more (is_call_of p k) items i ∙ one_told items i k p (e k p) a ∙ ap (λ (o : Option ℕ). is_number o p) (sym (sender_more k items i))
