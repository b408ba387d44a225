-- One more.
use Rattle.std.proofs.Common.{cond, Some, sym, ◌∙◌, ap, arith}
use Rattle.std.proofs.lemmas.List.{length_push}
use Rattle.proxy_model.specs.Keyed.{with_at}
use Rattle.wait_model.specs.ForeignOwnership.{is_own}
use Rattle.wait_model.specs.Phases.{own_entry}
use Rattle.revoke_calls.proofs.TurnedKeys.{left_append}
use Rattle.revoke_calls.proofs.owners.give_up_own.Goals as goal

pub loop-row-preserved : goal.loop-row-preserved
loop-row-preserved c =
    let s = c.args.session in
    let row = c.in-Some.row in
    record {
      ends = c.give_up_one.ensures.entries ∙ ap (λ es. cond (is_own s es row) (with_at es row.0 (Some (own_entry row.1.create))) es) c.loop-row.invariant.ends ∙ sym (left_append s c.loop-row.yielded row c.args.table.now.entries);
      room = omega (arith, length_push c.loop-row.yielded row, c.give_up_one.ensures.room, c.loop-row.invariant.room);
    }
