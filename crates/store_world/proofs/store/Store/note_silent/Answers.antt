-- Where there is nothing to push, there is nothing from the watch's next revision on.
use Rattle.std.proofs.Common.{sym}
use Rattle.store_world.specs.Store.{state_of}
use Rattle.store_world.proofs.PushLemmas.{nothing_so}
use Rattle.store_world.proofs.store.Store.note_silent.Goals as goal

pub note-requires : goal.note-requires
note-requires c = λ h holds. nothing_so (state_of c.args.self.now h) c.args.number c.in-Some.watch.now (sym c.in-Some.ensures) (c.requires h holds)
