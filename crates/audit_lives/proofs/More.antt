-- What was asked and taken in a life, behind one item more.
use Rattle.std.proofs.Common.{◌≡◌, ℕ, ◌≤◌, ◌+◌, ◌-◌, Bool, true, false, cond, ◌==◌, ◌&&◌, List, [], ◌∷◌, ◌++◌, append_assoc, append-nil, length, drop, Option, None, Some, refl, sym, ◌∙◌, ap, arith}
use Rattle.std.proofs.lemmas.List.{length-append, length-drop}
use Rattle.etcd_types.specs.declared.request.Request.{Request}
use Rattle.etcd_types.specs.declared.watch.WatchItem.{WatchItem}
use Rattle.first_places.specs.Places.{value_at}
use Rattle.script_text.specs.declared.item.Item.{Item}
use Rattle.script_text.specs.declared.item.Item.TheVariants as item
use Rattle.world_model.specs.Lives.{asked_as, begins, life}
use Rattle.world_model.specs.Received.{taken_by, taken_for}
use Rattle.audit_lives.specs.Finds.{asked_in, found_or}
use Rattle.audit_lives.specs.Index.{Starts, life_start}
use Rattle.audit_lives.proofs.Growing.{life_more}

asked_alone : (p ticket : ℕ) (x : Item) → asked_as p ticket (x ∷ []) ≡ asked_in p ticket x
asked_alone p ticket (item.Asked q t r) = refl
asked_alone p ticket x = refl

pub asked_more : (p ticket : ℕ) (items : List Item) (x : Item) → asked_as p ticket (items ++ x ∷ []) ≡ found_or (asked_as p ticket items) (asked_in p ticket x)
asked_more p ticket [] x = asked_alone p ticket x
asked_more p ticket (i ∷ items) x = by i (asked_more p ticket items x)
  where
    later : Option Request
    later = asked_in p ticket x

    rest : Option Request
    rest = asked_as p ticket (items ++ x ∷ [])

    either : (b : Bool) (r : Request) → rest ≡ found_or (asked_as p ticket items) later → cond b (Some r) rest ≡ found_or (cond b (Some r) (asked_as p ticket items)) later
    either true r e = refl
    either false r e = e

    by : (j : Item) → rest ≡ found_or (asked_as p ticket items) later → asked_as p ticket (j ∷ items ++ x ∷ []) ≡ found_or (asked_as p ticket (j ∷ items)) later
    by (item.Asked q t r) e = either (q == p && t == ticket) r e
    by j e = e

pub taken_more : (p ticket : ℕ) (items : List Item) (x : Item) → taken_for p ticket (items ++ x ∷ []) ≡ taken_for p ticket items ++ taken_by p ticket x
taken_more p ticket [] x = append-nil (taken_by p ticket x)
taken_more p ticket (i ∷ items) x =
    ap (λ (xs : List WatchItem). taken_by p ticket i ++ xs) (taken_more p ticket items x) ∙ sym (append_assoc (taken_by p ticket i) (taken_for p ticket items) (taken_by p ticket x))

-- ---- where the life begins

start_from : (n s l : ℕ) → l ≡ n - s → s ≤ n → s ≡ n - l
start_from n s l e k = omega (arith, e, k)

pub start_is : (starts : List (ℕ × ℕ)) (items : List Item) (p : ℕ) → Starts starts items → value_at starts p ≡ life_start p items
start_is starts items p s = start_from (length items) (value_at starts p) (length (life p items)) (ap length (s.life p) ∙ length-drop (value_at starts p) items) (s.low p)

pub start_renewed : (items : List Item) (x : Item) (p : ℕ) → begins p x ≡ true → life_start p (items ++ x ∷ []) ≡ length items + 1
start_renewed items x p e =
    let none : length (life p (items ++ x ∷ [])) ≡ 0 = ap length (life_more p items x ∙ ap (λ (b : Bool). cond b [] (life p items ++ x ∷ [])) e) in
    let size : length (items ++ x ∷ []) ≡ length items + 1 = length-append items (x ∷ []) in
    omega (arith, none, size)

pub start_stays : (items : List Item) (x : Item) (p : ℕ) → begins p x ≡ false → life_start p (items ++ x ∷ []) ≡ life_start p items
start_stays items x p e =
    let more : length (life p (items ++ x ∷ [])) ≡ length (life p items) + 1 =
    ap length (life_more p items x ∙ ap (λ (b : Bool). cond b [] (life p items ++ x ∷ [])) e) ∙ length-append (life p items) (x ∷ []) in
    let size : length (items ++ x ∷ []) ≡ length items + 1 = length-append items (x ∷ []) in
    omega (arith, more, size)
