-- Values so far, and then those that are left to write: what a loop keeps that writes one value of a list after another, and
-- what it has at its end.
use Rattle.std.proofs.Common.{◌≡◌, ◌∙◌, ℕ, ◌+◌, ◌<◌, ◌≤◌, List, [], ◌∷◌, ◌++◌, length, get_or, drop, refl, sym, ap}
use Rattle.std.proofs.lemmas.List.{at_drop_more, at_drop_all}
use Rattle.serde_json.specs.Data.{Data, Items, no_items, item}
use Rattle.serde_json.specs.View.{view, items_view}
use Rattle.serde_json.specs.declared.value.Value.{Value}
use Rattle.json_model.specs.Written.{items_of}

abbrev pub onto : List Value → Items → Items
onto [] ds = ds
onto (v ∷ vs) ds = item (view v) (onto vs ds)

onto_pushed : (vs : List Value) (v : Value) (ds : Items) → onto (vs ++ v ∷ []) ds ≡ onto vs (item (view v) ds)
onto_pushed [] v ds = refl
onto_pushed (w ∷ vs) v ds = ap (item (view w)) (onto_pushed vs v ds)

onto_none : (vs : List Value) → onto vs no_items ≡ items_view vs
onto_none [] = refl
onto_none (v ∷ vs) = ap (item (view v)) (onto_none vs)

pub one_more : {A : Type 0} (write : A → Data) (all : Items) (vs : List Value) (v : Value) (ws : List Value) (xs : List A) (i : ℕ) (d x : A)
    → i < length xs → x ≡ get_or xs i d → view v ≡ write x → ws ≡ vs ++ v ∷ []
    → onto vs (items_of write (drop i xs)) ≡ all → onto ws (items_of write (drop (i + 1) xs)) ≡ all
one_more write all vs v ws xs i d x below at written pushed so_far =
    let rest = items_of write (drop (i + 1) xs) in
    ap (λ (us : List Value). onto us rest) pushed
    ∙ onto_pushed vs v rest
    ∙ ap (λ (e : Data). onto vs (item e rest)) (written ∙ ap write at)
    ∙ ap (onto vs) (sym (at_drop_more (items_of write) xs i d below))
    ∙ so_far

pub no_more : {A : Type 0} (write : A → Data) (all : Items) (vs : List Value) (xs : List A) (i : ℕ)
    → length xs ≤ i → onto vs (items_of write (drop i xs)) ≡ all → items_view vs ≡ all
no_more write all vs xs i above so_far =
    sym (onto_none vs) ∙ ap (onto vs) (sym (at_drop_all (items_of write) xs i above)) ∙ so_far
