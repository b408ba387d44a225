-- Where the fault says that there is nothing to push, there is nothing.
use Rattle.store_world.specs.Store.{state_of}
use Rattle.store_world.proofs.PushLemmas.{nothing_told}
use Rattle.store_world.proofs.store.Store.push_next.Goals as goal

pub note_silent-requires : goal.note_silent-requires
note_silent-requires c = λ h holds.
    let told = c.in-Err-NothingToPush.ensures.fault h holds in
    nothing_told c.in-Err-NothingToPush.field-0 c.in-Err-NothingToPush.watch (state_of c.args.self.now h) c.args.number c.in-Err-NothingToPush.field-0-is told
