-- The worked transcripts of writes, computed.
use Rattle.std.proofs.Common.{refl}
use Rattle.etcd_types.specs.declared.answer.Body.TheBlock as b
use Rattle.etcd_types.specs.declared.operation.Op.TheBlock as o
use denote.Hole.Carrier.{hidden}
use Rattle.owned_laws.specs.WorkedWrites.{AreWorked, WritesKeepIt, TheyWait, TransactionsKeepIt, OthersTakeIt}

pub stages : AreWorked
unfolding b.hidden-the_row-Body-0 hidden
stages = (refl, refl, refl, refl)

pub kept : WritesKeepIt
unfolding b.hidden-the_row-Body-0 hidden
kept = (refl, refl, refl)

pub waiting : TheyWait
unfolding b.hidden-the_row-Body-0 hidden
waiting = (refl, refl, refl)

pub transactions : TransactionsKeepIt
unfolding b.hidden-the_row-Body-0 o.hidden-the_row-Op-0 hidden
transactions = (refl, refl, refl, refl, refl, refl, refl, refl, refl)

pub taken : OthersTakeIt
unfolding b.hidden-the_row-Body-0 hidden
taken = (refl, refl, refl, refl, refl, refl, refl, refl, refl, refl)
