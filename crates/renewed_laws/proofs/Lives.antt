-- Items by which no life of a proxy begins.
use Rattle.std.proofs.Common.{◌≡◌, ℕ, List, [], ◌∷◌, ◌++◌, append_assoc, Option, None, Some, refl, ◌∙◌, ap}
use Rattle.std.specs.Prelude.{flat_map}
use Rattle.std.specs.BTreeSet.{BTreeSet}
use Rattle.etcd_types.specs.declared.request.Request.{Request}
use Rattle.etcd_types.specs.declared.watch.WatchItem.{WatchItem}
use Rattle.script_text.specs.declared.item.Item.{Item}
use Rattle.script_text.specs.declared.item.Item.TheVariants as item
use Rattle.world_model.specs.Gains.{Replies, reply_items, line_if, taken_items}
use Rattle.world_model.specs.Lives.{life_from, life, asked_as}
use Rattle.world_model.specs.Places.{is_among}
use Rattle.held_laws.proofs.Items.{IsUnasking, life-append, asked-append, or_later, replies_silent, line_silent, replies_unasking, unasking-append}

abbrev pub Lives : ℕ → List Item → Type 0
Lives p items = (so_far : List Item) → life_from p so_far items ≡ so_far ++ items

-- a proxy's life goes on, and nothing is asked at it
abbrev pub IsStill : ℕ → List Item → Type 0
IsStill p items = Lives p items × IsUnasking p items

pub lives-append : (p : ℕ) (xs ys : List Item) → Lives p xs → Lives p ys → Lives p (xs ++ ys)
lives-append p xs ys h k l = life-append p l xs ys ∙ ap (λ (m : List Item). life_from p m ys) (h l) ∙ k (l ++ xs) ∙ append_assoc l xs ys

pub life_on : (p : ℕ) (before items : List Item) → Lives p items → life p (before ++ items) ≡ life p before ++ items
life_on p before items h = life-append p [] before items ∙ h (life p before)

pub unasked_on : (p ticket : ℕ) (told own : List Item) → asked_as p ticket told ≡ None → asked_as p ticket own ≡ None → asked_as p ticket (told ++ own) ≡ None
unasked_on p ticket told own e f = asked-append p ticket told own ∙ ap (λ (o : Option Request). or_later o (asked_as p ticket own)) e ∙ f

pub asked_on : (p ticket : ℕ) (told more : List Item) → IsUnasking p more → asked_as p ticket (told ++ more) ≡ asked_as p ticket told
asked_on p ticket told more u = asked-append p ticket told more ∙ ap (or_later (asked_as p ticket told)) (u ticket) ∙ none_later (asked_as p ticket told)
  where
    none_later : (o : Option Request) → or_later o None ≡ o
    none_later None = refl
    none_later (Some r) = refl

pub replies_still : (q p : ℕ) (posted : BTreeSet ℕ) (rs : Replies) → IsStill q (flat_map (reply_items p posted) rs)
replies_still q p posted rs = ((replies_silent q p posted rs).lives, replies_unasking q p posted rs)

pub still-append : (p : ℕ) (xs ys : List Item) → IsStill p xs → IsStill p ys → IsStill p (xs ++ ys)
still-append p xs ys h k = (lives-append p xs ys h.0 k.0, unasking-append p xs ys h.1 k.1)

pub taken_lives : (q p : ℕ) (posted : BTreeSet ℕ) (ticket : ℕ) (i : WatchItem) → Lives q (taken_items p posted ticket i)
taken_lives q p posted ticket i l =
    (line_silent q (is_among posted ticket) p ticket i).lives (l ++ item.Taken p ticket i ∷ []) ∙ append_assoc l (item.Taken p ticket i ∷ []) (line_if (is_among posted ticket) p ticket i)
