use Rattle.std.proofs.Common.{◌≡◌, ◌==◌, List, [], ◌∷◌, length, false, Some, ap, sym, ◌∙◌, refl}
use Rattle.serde_json.specs.Data.{Data, array, put}
use Rattle.serde_json.specs.View.{items_view, members_view}
use Rattle.serde_json.specs.declared.value.Value.{Value}
use Rattle.serde_json.proofs.Views.{view-Array}
use Rattle.json_model.specs.Written.{list_value, with_field}
use Rattle.json_fields.proofs.writers.put_list.Goals as goal

some_items : (items : List Value) → (length items == 0) ≡ false → Some (array (items_view items)) ≡ list_value (items_view items)
some_items [] e = absurd (cc)
some_items (v ∷ vs) e = refl

pub returns-clause-ok : goal.returns-clause-ok
returns-clause-ok c =
    let items = c.args.items.items in
    let some = ap (λ (vs : List Value). length vs == 0) (sym c.as_slice.ensures.value) ∙ sym c.is_empty.ensures ∙ c.if-is_empty.false in
    let old = members_view c.args.object.now.entries in
    c.in_ok-put_value.ensures.ok
    ∙ ap (λ (d : Data). put c.args.name.now d old) (view-Array c.args.items)
    ∙ ap (λ v. with_field c.args.name.now v old) (some_items items some)
