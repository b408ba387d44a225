-- Each by computation.
use Rattle.std.proofs.Common.{refl}
use denote.Hole.Carrier.{hidden}
use Rattle.etcd_types.specs.declared.operation.Op.TheBlock.{shape-the_row-Op-0, hidden-the_row-Op-0}
use Rattle.etcd_types.specs.declared.answer.Body.TheBlock as b
use Rattle.proxy_model.proofs.worked.worked_transactions.Goals as goal

pub returns : goal.returns
unfolding shape-the_row-Op-0 hidden-the_row-Op-0 b.shape-the_row-Body-0 b.hidden-the_row-Body-0 hidden
returns c = record {
  acquires = refl;
  writes_as_guest = refl;
  writes_as_owner = refl;
  asks_revoke = refl;
  rescinds = refl;
  deletes_round = refl;
  deletes_all = refl;
  deletes_behind_zero = refl;
  deletes_in_one = refl;
  writes_transaction = refl;
  writes_shared = refl;
  reads_acquired = refl;
  reads_blocked = refl;
  reads_revoked = refl;
  reads_parts = refl;
  reads_nested = refl;
  refuses_others = refl;
  refuses_few = refl;
  reads_guards = refl;
  refuses_guards = refl;
  ends_prefixes = refl;
  ends_full_prefixes = refl;
}
