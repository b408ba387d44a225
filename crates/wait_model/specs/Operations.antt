-- The operations of a write that ran. What they leave at a key, in their order, is its record.
use Rattle.std.specs.Prelude.{Bool, if◌then◌else◌, List, [], ◌∷◌, Option, None, Some}
use Rattle.etcd_types.specs.declared.operation.Op.{Op}
use Rattle.etcd_types.specs.declared.operation.Op.TheVariants as op
use Rattle.etcd_types.specs.declared.request.Request.{Request}
use Rattle.etcd_types.specs.declared.request.Request.TheVariants as request
use Rattle.etcd_types.specs.declared.answer.Body.{Body}
use Rattle.proxy_model.specs.Fits.{branch_of}

abbrev pub branch : List Op → List Op → Option (Bool × List Body) → List Op
branch success failure None = []
branch success failure (Some ran) = if ran.0 then success else failure

-- the operations of a write that ran: of a transaction those of the branch that its body names
abbrev pub operations : Request → Body → List Op
operations (request.Put ask) b = op.Put ask ∷ []
operations (request.Delete ask) b = op.Delete ask ∷ []
operations (request.Txn t) b = branch t.success t.failure (branch_of b)
operations _ b = []
