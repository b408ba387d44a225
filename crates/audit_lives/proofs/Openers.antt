-- A stream has one opener where its number wasn't opened twice.
use Rattle.std.proofs.Common.{◌≡◌, ℕ, false, ◌==◌, ◌||◌, List, [], ◌∷◌, ◌++◌, Option, is_some, refl, sym, ◌∙◌, ap}
use Rattle.std.proofs.lemmas.Bool.{eqb-true}
use Rattle.first_places.specs.Places.{is_number}
use Rattle.script_text.specs.declared.item.Item.{Item}
use Rattle.script_text.specs.declared.item.Item.TheVariants as item
use Rattle.audit_model.specs.Streams.{opener_of}
use Rattle.world_model.specs.Lives.{is_stream_of, opened_it}
use Rattle.audit_lives.specs.Finds.{found_or, opener_in, opened_again}
use Rattle.audit_lives.proofs.Found.{opener_found}
use Rattle.audit_lives.proofs.Growing.{any_more}
use Rattle.audit_lives.proofs.Senders.{found_more, joined, none_of, told_none}

opener_more : (k : ℕ) (items : List Item) (i : Item) → opener_of k (items ++ i ∷ []) ≡ found_or (opener_of k items) (opener_in k i)
opener_more k items i =
    sym (opener_found k (items ++ i ∷ [])) ∙ found_more (opener_in k) items i ∙ ap (λ (o : Option ℕ). found_or o (opener_in k i)) (opener_found k items)

-- by what the item tells
one_told : (items : List Item) (i : Item) (k p : ℕ) → opened_it p k items ≡ is_number (opener_of k items) p → opened_again items i ≡ false
    → opened_it p k items || is_stream_of p k i ≡ is_number (found_or (opener_of k items) (opener_in k i)) p
one_told items (item.Opened q n member r) k p e a =
    joined (opened_it p k items) (q == p) (n == k) (opener_of k items) q p e refl (λ same. none_of (opener_of k items) (ap (λ (m : ℕ). is_some (opener_of m items)) (sym (eqb-true n k same)) ∙ a))
one_told items i k p e a = told_none (opened_it p k items) (opener_of k items) p e

pub single_more : (items : List Item) (i : Item) → ((k p : ℕ) → opened_it p k items ≡ is_number (opener_of k items) p) → opened_again items i ≡ false
    → (k p : ℕ) → opened_it p k (items ++ i ∷ []) ≡ is_number (opener_of k (items ++ i ∷ [])) p
single_more items i e a k p =
    any_more (is_stream_of p k) items i ∙ one_told items i k p (e k p) a ∙ ap (λ (o : Option ℕ). is_number o p) (sym (opener_more k items i))
