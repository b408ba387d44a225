-- A transaction's reply as it is written, by its list of bodies.
use Rattle.std.proofs.Common.{◌≡◌, Bool, List, ap, ◌∙◌, refl}
use Rattle.serde_json.specs.Data.{item}
use Rattle.etcd_types.specs.declared.answer.Body.{Body, Row_of-Body, end_of-Body, more_of-Body, items-the_row-Body}
use Rattle.etcd_types.specs.declared.answer.Body.TheBlock.{hidden-the_row-Body-0, items_hidden-the_row-Body-0}
use Rattle.etcd_types.specs.declared.answer.Body.TheVariants as body
use Rattle.json_model.specs.FieldNames as names
use Rattle.json_model.specs.Written.{items_of}
use Rattle.json_model.specs.WrittenReplies.{response_value, row_responses, response_written, txn_fields_of, body_fields}

row_items : {m : _} (row : Row_of-Body m) → row_responses row ≡ items_of response_value (items-the_row-Body m row)
row_items end_of-Body = refl
row_items (more_of-Body first rest) = λ i. item (response_value first) (row_items rest i)

pub hidden_items : (bodies : List Body) → row_responses (hidden-the_row-Body-0 bodies) ≡ items_of response_value bodies
hidden_items bodies = row_items (hidden-the_row-Body-0 bodies) ∙ ap (λ (l : List Body). items_of response_value l) (items_hidden-the_row-Body-0 bodies)

pub response_txn : (succeeded : Bool) (bodies : List Body) → response_value (body.Txn succeeded bodies) ≡ response_written names.response_txn (txn_fields_of succeeded (items_of response_value bodies))
response_txn succeeded bodies = λ i. response_written names.response_txn (txn_fields_of succeeded (hidden_items bodies i))

pub fields_txn : (succeeded : Bool) (bodies : List Body) → body_fields (body.Txn succeeded bodies) ≡ txn_fields_of succeeded (items_of response_value bodies)
fields_txn succeeded bodies = λ i. txn_fields_of succeeded (hidden_items bodies i)
