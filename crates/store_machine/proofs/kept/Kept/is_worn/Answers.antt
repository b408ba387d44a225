-- By how many revisions and deadlines there are.
use Rattle.std.proofs.Common.{sym, ◌∙◌}
use Rattle.store_machine.proofs.Room.{worn_so, room_so}
use Rattle.store_machine.proofs.kept.Kept.is_worn.Goals as goal

pub returns-clause-worn : goal.returns-clause-worn
returns-clause-worn c = λ s h t.
    c.are_most.ensures ∙ worn_so c.args.self.now s c.newest.result c.len.result h t (c.newest.ensures s.store h.store) c.len.ensures

pub returns-clause-room : goal.returns-clause-room
returns-clause-room c = λ e timed.
    room_so c.args.self.now c.newest.result c.len.result c.newest.ensures c.len.ensures (sym c.are_most.ensures ∙ e) timed
