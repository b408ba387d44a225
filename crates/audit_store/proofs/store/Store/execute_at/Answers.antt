-- What holds of each state that the store stands for holds of the store, as there is one.
use Rattle.audit_store.proofs.Stores.{has_room, has_member}
use Rattle.audit_store.proofs.store.Store.execute_at.Goals as goal

pub exec-requires-clause-room : goal.exec-requires-clause-room
exec-requires-clause-room c = has_room c.args.self.now c.requires.room

pub exec-requires-clause-member : goal.exec-requires-clause-member
exec-requires-clause-member c = has_member c.args.self.now c.args.member c.requires.member
