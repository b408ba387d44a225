-- An entry that is being written is held again or gone, another one stays.
use Rattle.std.proofs.Common.{length, sym, ◌∙◌, ap, arith}
use Rattle.proxy_model.specs.Keyed.{at}
use Rattle.proxy_model.specs.LeaseTable.{is_writing}
use Rattle.revoke_calls.specs.Ends.{kept_turn}
use Rattle.revoke_calls.proofs.TurnedKeys.{stays_at, kept_other, no_longer}
use Rattle.revoke_calls.proofs.ends.keep_key.Goals as goal

pub returns-else-is_shown-clause-room : goal.returns-else-is_shown-clause-room
returns-else-is_shown-clause-room c =
    let fewer = ap length c.remove.ensures.entries in
    omega (arith, c.remove.ensures.room, fewer, no_longer c.args.table.now.entries c.args.key.now)

pub returns-else-is_writing-clause-entries : goal.returns-else-is_writing-clause-entries
returns-else-is_writing-clause-entries c =
    let es = c.args.table.now.entries in
    let k = c.args.key.now in
    let os = c.args.owners.now in
    stays_at es k (kept_turn os k (at es k)) c.len-count.ensures.in_order (kept_other os k (at es k) (ap is_writing (sym c.find.ensures) ∙ sym c.is_writing.ensures ∙ c.if-is_writing.false))
