-- The worked transcript, computed.
use Rattle.std.proofs.Common.{refl}
use Rattle.etcd_types.specs.declared.answer.Body.TheBlock as b
use denote.Hole.Carrier.{hidden}
use Rattle.owned_laws.specs.Worked.{TheKeyIsOwned, NoOtherIsOwned, AWriteTakesIt}

pub the_key : TheKeyIsOwned
unfolding b.hidden-the_row-Body-0 hidden
the_key = refl

pub no_other : NoOtherIsOwned
unfolding b.hidden-the_row-Body-0 hidden
no_other = refl

pub a_write : AWriteTakesIt
unfolding b.hidden-the_row-Body-0 hidden
a_write = refl
