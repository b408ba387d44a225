-- The first due call is of the write that was found.
use Rattle.std.proofs.Common.{Some, sym, ◌∙◌, ap}
use Rattle.wait_model.specs.Writes.{has_ticket}
use Rattle.revoke_core.specs.Sends.{sent_due}
use Rattle.revoke_core.proofs.Searches.{found_first}
use Rattle.revoke_core.proofs.SendParts.{first_due-is}
use Rattle.revoke_core.proofs.sends.call_due.Goals as goal

pub returns : goal.returns
returns c =
    let ws = c.args.writes.now in
    let d = c.in-Some.first in
    let i = c.in-Some-place_of.at in
    let w = c.index-writes-at.result in
    let called = sym c.in_ok-first_call.ensures ∙ c.in-Some.is in
    let due = first_due-is ws d w called (found_first (has_ticket d.place.number) ws i w c.in-Some-place_of.ensures.found ∙ ap Some (sym c.index-writes-at.is)) in
    ap Some c.in_ok-due-in-Some-place_of.ensures ∙ ap (sent_due c.args.prefix.now c.args.table.now.entries) (sym due)
