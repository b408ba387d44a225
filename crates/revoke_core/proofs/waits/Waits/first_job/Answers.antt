-- The first rescind, or the first due call of a write.
use Rattle.std.proofs.Common.{ℕ, List, Option, Some, sym, ◌∙◌, ap}
use Rattle.std.specs.Option.{option_map}
use Rattle.wait_model.specs.declared.write.Write.{Write}
use Rattle.wait_model.specs.Sent.{JobSent, job_sent}
use Rattle.wait_model.specs.State.{Waits, owned}
use Rattle.revoke_core.specs.contracts.waits.Waits.{the_view}
use Rattle.revoke_core.specs.Sends.{first_due, sent_due}
use Rattle.revoke_core.proofs.SendParts.{first_rescinded, first_called, due_sent}
use Rattle.revoke_core.proofs.waits.Waits.first_job.Goals as goal

pub returns-in_ok-due-in-Some : goal.returns-in_ok-due-in-Some
returns-in_ok-due-in-Some c = λ n.
    let w : Waits = the_view c.self.inside in
    let es = c.args.table.now.entries in
    let q : List ℕ × ℕ = (c.in-Some.key, c.in-Some.create) in
    let sent = first_rescinded n (owned es w) q (sym c.in_ok-key.ensures ∙ c.in-Some.is) in
    ap Some c.in_ok-due-in-Some.ensures ∙ ap (λ (o : Option JobSent). option_map (λ (s : JobSent). s.due) o) (sym sent) ∙ ap (λ (v : Waits). option_map (λ (s : JobSent). s.due) (job_sent n (owned es v))) c.self.view_is

pub returns-in_ok-due-in-None : goal.returns-in_ok-due-in-None
returns-in_ok-due-in-None c = λ n.
    let w : Waits = the_view c.self.inside in
    let es = c.args.table.now.entries in
    let sent = first_called n (owned es w) (sym c.in_ok-key.ensures ∙ c.in-None.is) in
    c.in_ok-due-in-None.ensures ∙ ap (λ (ws : List Write). sent_due w.prefix es (first_due ws)) c.deref.ensures.value ∙ sym (due_sent n (owned es w) (first_due w.writes)) ∙ ap (λ (o : Option JobSent). option_map (λ (s : JobSent). s.due) o) (sym sent) ∙ ap (λ (v : Waits). option_map (λ (s : JobSent). s.due) (job_sent n (owned es v))) c.self.view_is
