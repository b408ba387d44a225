-- The puts and the deletions of an operation: a transaction has those of both its lists, of the transactions within it too.
use Rattle.std.specs.Prelude.{Bool, true, ◌&&◌}
use Rattle.etcd_types.specs.declared.operation.PutAsk.{PutAsk}
use Rattle.etcd_types.specs.declared.operation.DeleteAsk.{DeleteAsk}
use Rattle.etcd_types.specs.declared.operation.Op.{Op, Row_of-Op, end_of-Op, more_of-Op}
use Rattle.etcd_types.specs.declared.operation.Op.TheVariants.{Range, Put, Delete, Txn'}

-- each put passes one test, each deletion another
abbrev mutual
  pub all_leaves : (PutAsk → Bool) → (DeleteAsk → Bool) → Op → Bool
  all_leaves p d (Range ask) = true
  all_leaves p d (Put ask) = p ask
  all_leaves p d (Delete ask) = d ask
  all_leaves p d (Txn' compare m success n failure) = all_leaves_row p d success && all_leaves_row p d failure

  pub all_leaves_row : {m : _} → (PutAsk → Bool) → (DeleteAsk → Bool) → Row_of-Op m → Bool
  all_leaves_row p d end_of-Op = true
  all_leaves_row p d (more_of-Op op rest) = all_leaves p d op && all_leaves_row p d rest
