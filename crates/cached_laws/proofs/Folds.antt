-- What is told of a proxy's life goes on item by item, and stays where an item tells nothing of it.
use Rattle.std.proofs.Common.{◌≡◌, ℕ, Bool, true, false, cond, ◌&&◌, List, [], ◌∷◌, ◌++◌, append_assoc, append-nil, refl, sym, ◌∙◌, ap}
use Rattle.std.specs.List.{list_all}
use Rattle.etcd_types.proofs.Bools.{and_first, and_second}
use Rattle.script_text.specs.declared.item.Item.{Item}
use Rattle.script_text.specs.declared.item.Item.TheVariants as item
use Rattle.world_model.specs.Lives.{begins}
use Rattle.cached_laws.specs.Folds.{told_from, told_of}

module _ {A : Type 0} (p : ℕ) (start : A) (by : List Item → Item → A → A) where
  from-append : (before : List Item) (a : A) (items more : List Item) → told_from p start by before a (items ++ more) ≡ told_from p start by (before ++ items) (told_from p start by before a items) more
  from-append before a [] more = ap (λ (xs : List Item). told_from p start by xs a more) (sym (append-nil before))
  from-append before a (i ∷ items) more =
      from-append (before ++ i ∷ []) (cond (begins p i) start (by before i a)) items more
      ∙ ap (λ (xs : List Item). told_from p start by xs (told_from p start by (before ++ i ∷ []) (cond (begins p i) start (by before i a)) items) more) (append_assoc before (i ∷ []) items)

  -- by one item more
  pub told_next : (items : List Item) (i : Item) → told_of p start by (items ++ i ∷ []) ≡ cond (begins p i) start (by items i (told_of p start by items))
  told_next items i = from-append [] start items (i ∷ [])

  pub told_on : (items more : List Item) → told_of p start by (items ++ more) ≡ told_from p start by items (told_of p start by items) more
  told_on items more = from-append [] start items more

  -- items that tell nothing of it
  pub from_still : (q : Item → Bool) → ((before : List Item) (i : Item) (a : A) → q i ≡ true → (begins p i ≡ false) × (by before i a ≡ a)) → (before : List Item) (a : A) (more : List Item) → list_all q more ≡ true → told_from p start by before a more ≡ a
  from_still q f before a [] h = refl
  from_still q f before a (i ∷ more) h =
      let one = f before i a (and_first (q i) (list_all q more) h) in
      ap (λ (x : A). told_from p start by (before ++ i ∷ []) x more) (ap (λ (b : Bool). cond b start (by before i a)) one.0 ∙ one.1)
      ∙ from_still q f (before ++ i ∷ []) a more (and_second (q i) (list_all q more) h)

  pub told_still : (q : Item → Bool) → ((before : List Item) (i : Item) (a : A) → q i ≡ true → (begins p i ≡ false) × (by before i a ≡ a)) → (items more : List Item) → list_all q more ≡ true → told_of p start by (items ++ more) ≡ told_of p start by items
  told_still q f items more h = told_on items more ∙ from_still q f items (told_of p start by items) more h

-- it isn't a start, a request or a call, nor of a stream
abbrev pub is_plain : Item → Bool
is_plain (item.Started q) = false
is_plain (item.Restarted q) = false
is_plain (item.Asked q ticket r) = false
is_plain (item.Sent q call member ticket r) = false
is_plain (item.Opened q stream member r) = false
is_plain (item.Delivered stream) = false
is_plain (item.Cut stream) = false
is_plain _ = true
