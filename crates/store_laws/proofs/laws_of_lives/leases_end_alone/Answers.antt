use Rattle.store_laws.proofs.Lives.LeaseProofs.{leases_stay, other_leases_stay, expired_leases_go, revoked_leases_go, attached_keys_go, grants_are_there, keep_alives_tell}
use Rattle.store_laws.proofs.laws_of_lives.leases_end_alone.Goals as goal

pub returns : goal.returns
returns c = record {
  stay = leases_stay;
  others = other_leases_stay;
  expired = expired_leases_go;
  revoked = revoked_leases_go;
  attached = attached_keys_go;
  grants = grants_are_there;
  keep_alives = keep_alives_tell;
}
