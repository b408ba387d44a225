-- The first rescind, or the first due call of a write, part by part.
use Rattle.std.proofs.Common.{ℕ, List, Option, Some, sym, ◌∙◌, ap}
use Rattle.std.specs.Option.{option_map}
use Rattle.wait_model.specs.declared.wait.WaitCall.{WaitCall}
use Rattle.wait_model.specs.Sent.{JobSent, job_sent}
use Rattle.wait_model.specs.State.{Waits, Ownership, owned}
use Rattle.revoke_core.specs.contracts.waits.Waits.{the_view}
use Rattle.revoke_core.specs.Sends.{after_sending, first_due}
use Rattle.revoke_core.proofs.LossParts.{waits_same}
use Rattle.revoke_core.proofs.SendParts.{first_rescinded, first_called, due_sent, own_sent}
use Rattle.revoke_core.proofs.waits.Waits.next_job.Goals as goal

pub returns-in_ok-due-in-Some-clause-due : goal.returns-in_ok-due-in-Some-clause-due
returns-in_ok-due-in-Some-clause-due c =
    let w : Waits = the_view c.self.inside in
    let es = c.args.table.now.entries in
    let n = c.args.call in
    let q : List ℕ × ℕ = (c.in-Some.key, c.in-Some.create) in
    let sent = first_rescinded n (owned es w) q (sym c.in_ok-key.ensures ∙ c.in-Some.is) in
    ap Some c.in_ok-due-in-Some.ensures.due ∙ ap (λ (o : Option JobSent). option_map (λ (s : JobSent). s.due) o) (sym sent) ∙ ap (λ (v : Waits). option_map (λ (s : JobSent). s.due) (job_sent n (owned es v))) c.self.view_is

pub returns-in_ok-due-in-Some-clause-waits : goal.returns-in_ok-due-in-Some-clause-waits
returns-in_ok-due-in-Some-clause-waits c =
    let w : Waits = the_view c.self.inside in
    let es = c.args.table.now.entries in
    let n = c.args.call in
    let q : List ℕ × ℕ = (c.in-Some.key, c.in-Some.create) in
    let sent = first_rescinded n (owned es w) q (sym c.in_ok-key.ensures ∙ c.in-Some.is) in
    ap (λ (os : List WaitCall). record w { out = os }) c.in_ok-due-in-Some.ensures.out ∙ ap (λ (o : Option JobSent). (after_sending (owned es w) o).waits) (sym sent) ∙ ap (λ (v : Waits). (after_sending (owned es v) (job_sent n (owned es v))).waits) c.self.view_is

pub returns-in_ok-due-in-Some-clause-entries : goal.returns-in_ok-due-in-Some-clause-entries
returns-in_ok-due-in-Some-clause-entries c =
    let w : Waits = the_view c.self.inside in
    let es = c.args.table.now.entries in
    let n = c.args.call in
    let q : List ℕ × ℕ = (c.in-Some.key, c.in-Some.create) in
    let sent = first_rescinded n (owned es w) q (sym c.in_ok-key.ensures ∙ c.in-Some.is) in
    ap (λ t. t.entries) c.in_ok-due-in-Some.ensures.table ∙ ap (λ (o : Option JobSent). (after_sending (owned es w) o).entries) (sym sent) ∙ ap (λ (v : Waits). (after_sending (owned es v) (job_sent n (owned es v))).entries) c.self.view_is

pub returns-in_ok-due-in-None-clause-due : goal.returns-in_ok-due-in-None-clause-due
returns-in_ok-due-in-None-clause-due c =
    let w : Waits = the_view c.self.inside in
    let es = c.args.table.now.entries in
    let n = c.args.call in
    let due = first_due w.writes in
    let sent = first_called n (owned es w) (sym c.in_ok-key.ensures ∙ c.in-None.is) in
    c.in_ok-due-in-None.ensures.due ∙ sym (due_sent n (owned es w) due) ∙ ap (λ (o : Option JobSent). option_map (λ (s : JobSent). s.due) o) (sym sent) ∙ ap (λ (v : Waits). option_map (λ (s : JobSent). s.due) (job_sent n (owned es v))) c.self.view_is

pub returns-in_ok-due-in-None-clause-waits : goal.returns-in_ok-due-in-None-clause-waits
returns-in_ok-due-in-None-clause-waits c =
    let w : Waits = the_view c.self.inside in
    let es = c.args.table.now.entries in
    let n = c.args.call in
    let due = first_due w.writes in
    let sent = first_called n (owned es w) (sym c.in_ok-key.ensures ∙ c.in-None.is) in
    waits_same w _ _ _ _ c.in_ok-due-in-None.ensures.writes c.in_ok-due-in-None.ensures.out ∙ sym (ap (λ (o : Ownership). o.waits) (own_sent n (owned es w) due)) ∙ ap (λ (o : Option JobSent). (after_sending (owned es w) o).waits) (sym sent) ∙ ap (λ (v : Waits). (after_sending (owned es v) (job_sent n (owned es v))).waits) c.self.view_is

pub returns-in_ok-due-in-None-clause-entries : goal.returns-in_ok-due-in-None-clause-entries
returns-in_ok-due-in-None-clause-entries c =
    let w : Waits = the_view c.self.inside in
    let es = c.args.table.now.entries in
    let n = c.args.call in
    let due = first_due w.writes in
    let sent = first_called n (owned es w) (sym c.in_ok-key.ensures ∙ c.in-None.is) in
    sym (ap (λ (o : Ownership). o.entries) (own_sent n (owned es w) due)) ∙ ap (λ (o : Option JobSent). (after_sending (owned es w) o).entries) (sym sent) ∙ ap (λ (v : Waits). (after_sending (owned es v) (job_sent n (owned es v))).entries) c.self.view_is
