-- Which writes a builder takes.
use Rattle.std.specs.Prelude.{ℕ, Bool, ◌==◌, ◌&&◌, List, length}
use Rattle.std.specs.List.{list_all}
use Rattle.etcd_types.specs.declared.answer.Body.{Body}
use Rattle.proxy_model.specs.Fits.{is_delete}
use Rattle.etcd_types.specs.declared.request.Request.{Request}
use Rattle.etcd_types.specs.declared.request.Request.TheVariants as request

-- a delete or a transaction
abbrev pub IsSeveralKeys : Request → Type 0
IsSeveralKeys (request.Delete ask) = Unit {0}
IsSeveralKeys (request.Txn t) = Unit {0}
IsSeveralKeys _ = ⊥

abbrev pub IsTxn : Request → Type 0
IsTxn (request.Txn t) = Unit {0}
IsTxn _ = ⊥

-- as many bodies, each of a delete
abbrev pub are_deletes : ℕ → List Body → Bool
are_deletes count bs = (length bs == count) && list_all is_delete bs
