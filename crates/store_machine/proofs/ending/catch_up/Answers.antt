-- The newest revision was applied, or it was before.
use Rattle.store_machine.proofs.Parts.{apply_took, apply_refused, apply_room}
use Rattle.store_machine.proofs.ending.catch_up.Goals as goal

pub returns-in-Ok-clause-ok : goal.returns-in-Ok-clause-ok
returns-in-Ok-clause-ok c = apply_took c.args.store.now c.apply.new.self c.newest-newest.result c.newest-newest.ensures c.in-Ok.ensures.step

pub returns-in-Ok-clause-room : goal.returns-in-Ok-clause-room
returns-in-Ok-clause-room c =
    apply_room c.args.store.now c.apply.new.self c.requires.room (apply_took c.args.store.now c.apply.new.self c.newest-newest.result c.newest-newest.ensures c.in-Ok.ensures.step)

pub returns-in_ok-heed-in-Err-clause-ok : goal.returns-in_ok-heed-in-Err-clause-ok
returns-in_ok-heed-in-Err-clause-ok c =
    apply_refused c.args.store.now c.apply.new.self c.newest-newest.result c.in-Err.fault c.in-Err.ensures.err c.in_ok-heed-in-Err.ensures c.newest-newest.ensures c.in-Err.ensures.fault

pub returns-in_ok-heed-in-Err-clause-room : goal.returns-in_ok-heed-in-Err-clause-room
returns-in_ok-heed-in-Err-clause-room c =
    apply_room c.args.store.now c.apply.new.self c.requires.room
    (apply_refused c.args.store.now c.apply.new.self c.newest-newest.result c.in-Err.fault c.in-Err.ensures.err c.in_ok-heed-in-Err.ensures c.newest-newest.ensures c.in-Err.ensures.fault)
