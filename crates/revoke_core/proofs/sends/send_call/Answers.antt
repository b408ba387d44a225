-- The first due call is of the write that was found.
use Rattle.std.proofs.Common.{List, Some, set, sym, ◌∙◌, ap, subst}
use Rattle.wait_model.specs.declared.write.Write.{Write}
use Rattle.wait_model.specs.DueOrder.{first_call}
use Rattle.wait_model.specs.Fits.{is_proper}
use Rattle.wait_model.specs.Stages.{staged}
use Rattle.wait_model.specs.Writes.{has_ticket}
use Rattle.revoke_core.specs.Sends.{stage_of_call, sent_due, sent_writes, sent_out}
use Rattle.revoke_core.specs.Steps.{IsFirst}
use Rattle.revoke_core.proofs.Proper.{all-set}
use Rattle.revoke_core.proofs.Searches.{found_first, staged_first}
use Rattle.revoke_core.proofs.SendParts.{first_due-is}
use Rattle.revoke_core.proofs.sends.send_call.Goals as goal

pub returns-in_ok-due-in-Some-place_of-clause-due : goal.returns-in_ok-due-in-Some-place_of-clause-due
returns-in_ok-due-in-Some-place_of-clause-due c =
    let ws = c.args.writes.now.items in
    let d = c.in-Some.first in
    let i = c.in-Some-place_of.at in
    let w = c.index_mut.result.now in
    let called = ap first_call (sym c.deref.ensures.value) ∙ sym c.in_ok-first_call.ensures ∙ c.in-Some.is in
    let first = subst (λ (xs : List Write). IsFirst (has_ticket d.place.number) xs i) c.deref-in-Some.ensures.value c.in-Some-place_of.ensures.found in
    let due = first_due-is ws d w called (found_first (has_ticket d.place.number) ws i w first ∙ ap Some (sym c.index_mut.ensures.value)) in
    ap Some c.in_ok-due-in-Some-place_of.ensures.due ∙ ap (sent_due c.args.prefix.now c.args.table.now.entries) (sym due)

pub returns-in_ok-due-in-Some-place_of-clause-writes : goal.returns-in_ok-due-in-Some-place_of-clause-writes
returns-in_ok-due-in-Some-place_of-clause-writes c =
    let ws = c.args.writes.now.items in
    let d = c.in-Some.first in
    let i = c.in-Some-place_of.at in
    let w = c.index_mut.result.now in
    let called = ap first_call (sym c.deref.ensures.value) ∙ sym c.in_ok-first_call.ensures ∙ c.in-Some.is in
    let first = subst (λ (xs : List Write). IsFirst (has_ticket d.place.number) xs i) c.deref-in-Some.ensures.value c.in-Some-place_of.ensures.found in
    let due = first_due-is ws d w called (found_first (has_ticket d.place.number) ws i w first ∙ ap Some (sym c.index_mut.ensures.value)) in
    let stage = stage_of_call c.args.call d w.stage in
    ap (λ (x : Write). set ws i x) c.in_ok-due-in-Some-place_of.ensures.write ∙ ap (λ (x : Write). set ws i (staged x stage)) c.index_mut.ensures.value ∙ sym (staged_first (has_ticket d.place.number) stage ws i w first) ∙ ap (λ o. sent_writes c.args.call o ws) (sym due)

pub returns-in_ok-due-in-Some-place_of-clause-out : goal.returns-in_ok-due-in-Some-place_of-clause-out
returns-in_ok-due-in-Some-place_of-clause-out c =
    let ws = c.args.writes.now.items in
    let d = c.in-Some.first in
    let i = c.in-Some-place_of.at in
    let w = c.index_mut.result.now in
    let called = ap first_call (sym c.deref.ensures.value) ∙ sym c.in_ok-first_call.ensures ∙ c.in-Some.is in
    let first = subst (λ (xs : List Write). IsFirst (has_ticket d.place.number) xs i) c.deref-in-Some.ensures.value c.in-Some-place_of.ensures.found in
    let due = first_due-is ws d w called (found_first (has_ticket d.place.number) ws i w first ∙ ap Some (sym c.index_mut.ensures.value)) in
    c.in_ok-due-in-Some-place_of.ensures.out ∙ ap (λ o. sent_out c.args.call o c.args.out.now.items) (sym due)

pub returns-in_ok-due-in-Some-place_of-clause-proper : goal.returns-in_ok-due-in-Some-place_of-clause-proper
returns-in_ok-due-in-Some-place_of-clause-proper c = all-set is_proper c.args.writes.now.items c.in-Some-place_of.at c.send_of.new.write c.requires c.send_of.ensures.proper
