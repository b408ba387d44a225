-- An entry that is being written takes the record, another one stays.
use Rattle.std.proofs.Common.{sym, ◌∙◌, ap}
use Rattle.proxy_model.specs.Keyed.{at, with_at}
use Rattle.proxy_model.specs.LeaseTable.{is_writing}
use Rattle.revoke_calls.specs.Ends.{wrote_turn}
use Rattle.revoke_calls.proofs.TurnedKeys.{stays_at, wrote_writing, wrote_other}
use Rattle.revoke_calls.proofs.ends.take_left.Goals as goal

pub returns : goal.returns
returns c =
    let es = c.args.table.now.entries in
    let k = c.args.left.key in
    ap (λ t. t.entries) c.wrote.ensures ∙ ap (λ o. with_at es k o) (wrote_writing c.args.left.kv (at es k) (ap is_writing (sym c.find.ensures) ∙ sym c.is_writing.ensures ∙ c.if-not-is_writing.false))

pub returns-then-not-is_writing : goal.returns-then-not-is_writing
returns-then-not-is_writing c =
    let es = c.args.table.now.entries in
    let k = c.args.left.key in
    stays_at es k (wrote_turn c.args.left.kv (at es k)) c.len-count.ensures.in_order (wrote_other c.args.left.kv (at es k) (ap is_writing (sym c.find.ensures) ∙ sym c.is_writing.ensures ∙ c.if-not-is_writing.true))
