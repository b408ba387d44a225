-- The lease expired, or there was none.
use Rattle.store_machine.proofs.Parts.{few_revisions, expiry_took, expiry_refused, expiry_room}
use Rattle.store_machine.proofs.ending.expire.Goals as goal

pub expire-requires : goal.expire-requires
expire-requires c = record { room = few_revisions c.args.store.now c.requires.room }

pub returns-in-Ok-clause-ok : goal.returns-in-Ok-clause-ok
returns-in-Ok-clause-ok c = expiry_took c.args.store.now c.expire.new.self c.args.lease c.in-Ok.ensures.step

pub returns-in-Ok-clause-room : goal.returns-in-Ok-clause-room
returns-in-Ok-clause-room c =
    expiry_room c.args.store.now c.expire.new.self c.args.lease c.requires.room (expiry_took c.args.store.now c.expire.new.self c.args.lease c.in-Ok.ensures.step)

pub returns-in_ok-heed-in-Err-clause-ok : goal.returns-in_ok-heed-in-Err-clause-ok
returns-in_ok-heed-in-Err-clause-ok c = expiry_refused c.args.store.now c.expire.new.self c.args.lease c.in-Err.fault c.in-Err.ensures.err c.in_ok-heed-in-Err.ensures c.in-Err.ensures.fault

pub returns-in_ok-heed-in-Err-clause-room : goal.returns-in_ok-heed-in-Err-clause-room
returns-in_ok-heed-in-Err-clause-room c =
    expiry_room c.args.store.now c.expire.new.self c.args.lease c.requires.room
    (expiry_refused c.args.store.now c.expire.new.self c.args.lease c.in-Err.fault c.in-Err.ensures.err c.in_ok-heed-in-Err.ensures c.in-Err.ensures.fault)
