-- What the items of a proxy's life tell, item by item: it begins anew with each start of the proxy.
use Rattle.std.specs.Prelude.{ℕ, if◌then◌else◌, List, [], ◌∷◌, ◌++◌}
use Rattle.script_text.specs.declared.item.Item.{Item}
use Rattle.world_model.specs.Lives.{begins}

-- `by` says what an item tells behind those before it, and `start` what is told at the proxy's start
abbrev pub told_from : {A : Type 0} → ℕ → A → (List Item → Item → A → A) → List Item → A → List Item → A
told_from p start by before a [] = a
told_from p start by before a (i ∷ items) =
    told_from p start by (before ++ i ∷ []) (if begins p i then start else by before i a) items

abbrev pub told_of : {A : Type 0} → ℕ → A → (List Item → Item → A → A) → List Item → A
told_of p start by items = told_from p start by [] start items
