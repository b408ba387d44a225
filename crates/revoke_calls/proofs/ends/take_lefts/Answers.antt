-- One more.
use Rattle.std.proofs.Common.{sym, ◌∙◌, ap}
use Rattle.proxy_model.specs.Keyed.{at, with_at}
use Rattle.revoke_calls.specs.Ends.{wrote_turn}
use Rattle.revoke_calls.proofs.TurnedKeys.{wrote_append}
use Rattle.revoke_calls.proofs.ends.take_lefts.Goals as goal

pub loop-left-preserved : goal.loop-left-preserved
loop-left-preserved c =
    let l = c.in-Some.left in
    c.take_left.ensures ∙ ap (λ es. with_at es l.key (wrote_turn l.kv (at es l.key))) c.loop-left.invariant ∙ sym (wrote_append c.loop-left.yielded l c.args.table.now.entries)
