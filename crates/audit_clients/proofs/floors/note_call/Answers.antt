-- The item sends a call that is new, or none is.
use Rattle.std.proofs.Common.{ℕ, Option, sym, ◌∙◌, subst}
use Rattle.audit_clients.specs.LeaseCalls.{Notes, lease_kind, lease_sent}
use Rattle.audit_clients.specs.declared.floors.LeaseCall.{LeaseCall}
use Rattle.audit_clients.proofs.LeaseCalls.{other_keeps, sent_before, sent_now}
use Rattle.audit_clients.proofs.floors.note_call.Goals as goal

pub returns-in-Some : goal.returns-in-Some
returns-in-Some c = λ items t.
    let w = c.in-Sent in
    sent_before items c.args.item.now w.proxy w.call w.member w.ticket w.request _ c.args.leases.now w.is (sym (c.sender_of.ensures items t) ∙ c.in-Some.is)

pub returns-in_ok-note-in-None : goal.returns-in_ok-note-in-None
returns-in_ok-note-in-None c = λ items t.
    let w = c.in-Sent in
    sent_now items c.args.item.now w.proxy w.call w.member w.ticket w.request c.args.leases.now c.note.new.leases w.is (sym (c.sender_of.ensures items t) ∙ c.in-None.is)
    (subst (λ (clock : ℕ). Notes w.call (lease_sent w.proxy clock (lease_kind w.request)) c.args.leases.now c.note.new.leases) (c.clock_of.ensures items t)
    (subst (λ (o : Option LeaseCall). Notes w.call o c.args.leases.now c.note.new.leases) c.lease_call-lease.ensures c.in_ok-note-in-None.ensures))

pub returns-in_default : goal.returns-in_default
returns-in_default c = λ items t. other_keeps items c.args.item.now c.args.leases.now c.in_default.not-Sent
