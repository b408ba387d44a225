-- An entry that is being written is gone, another one stays.
use Rattle.std.proofs.Common.{sym, ◌∙◌, ap}
use Rattle.proxy_model.specs.Keyed.{at, with_at}
use Rattle.proxy_model.specs.LeaseTable.{is_writing}
use Rattle.revoke_calls.specs.Ends.{dropped_turn}
use Rattle.revoke_calls.proofs.TurnedKeys.{stays_at, dropped_written, dropped_other}
use Rattle.revoke_calls.proofs.ends.drop_key.Goals as goal

pub returns-then-is_writing : goal.returns-then-is_writing
returns-then-is_writing c =
    let es = c.args.table.now.entries in
    let k = c.args.key.now in
    c.remove.ensures.entries ∙ ap (λ o. with_at es k o) (dropped_written k (at es k) (ap is_writing (sym c.find.ensures) ∙ sym c.is_writing.ensures ∙ c.if-is_writing.true))

pub returns-else-is_writing : goal.returns-else-is_writing
returns-else-is_writing c =
    let es = c.args.table.now.entries in
    let k = c.args.key.now in
    stays_at es k (dropped_turn k (at es k)) c.len-count.ensures.in_order (dropped_other k (at es k) (ap is_writing (sym c.find.ensures) ∙ sym c.is_writing.ensures ∙ c.if-is_writing.false))
