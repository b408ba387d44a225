-- An older entry that is held is gone; one that leaves, and a younger one, stay.
use Rattle.std.proofs.Common.{length, sym, ◌∙◌, ap, arith}
use Rattle.proxy_model.specs.Keyed.{at}
use Rattle.proxy_model.specs.LeaseTable.{is_held, is_writing}
use Rattle.wait_model.specs.Notices.{deleted_turn}
use Rattle.revoke_calls.proofs.TurnedKeys.{stays_at, no_longer}
use Rattle.revoke_core.specs.Told.{is_older}
use Rattle.revoke_core.proofs.NoticeParts.{deleted_leaving, deleted_younger}
use Rattle.revoke_core.proofs.notices.take_deleted.Goals as goal

pub returns-then-is_held-clause-room : goal.returns-then-is_held-clause-room
returns-then-is_held-clause-room c =
    let fewer = ap length c.remove.ensures.entries in
    omega (arith, c.remove.ensures.room, fewer, no_longer c.args.table.now.entries c.args.key.now)

pub returns-else-is_writing-clause-entries : goal.returns-else-is_writing-clause-entries
returns-else-is_writing-clause-entries c =
    let es = c.args.table.now.entries in
    let k = c.args.key.now in
    let not_held = ap is_held (sym c.find-then-is_older.ensures) ∙ sym c.is_held.ensures ∙ c.if-is_held.false in
    let not_written = ap is_writing (sym c.find-else-is_held.ensures) ∙ sym c.is_writing.ensures ∙ c.if-is_writing.false in
    stays_at es k (deleted_turn c.args.revision (at es k)) c.len-count.ensures.in_order (deleted_leaving c.args.revision (at es k) not_held not_written)

pub returns-else-is_older-clause-entries : goal.returns-else-is_older-clause-entries
returns-else-is_older-clause-entries c =
    let es = c.args.table.now.entries in
    let k = c.args.key.now in
    let younger = ap (is_older c.args.revision) (sym c.find.ensures) ∙ sym c.is_older.ensures ∙ c.if-is_older.false in
    stays_at es k (deleted_turn c.args.revision (at es k)) c.len-count.ensures.in_order (deleted_younger c.args.revision (at es k) younger)
