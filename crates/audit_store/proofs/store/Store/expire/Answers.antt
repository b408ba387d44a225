use Rattle.audit_store.proofs.Stores.{has_room}
use Rattle.audit_store.proofs.store.Store.expire.Goals as goal

pub expire_lease-requires : goal.expire_lease-requires
expire_lease-requires c = has_room c.args.self.now c.requires.room
