-- A sender is told where a place is kept.
use Rattle.std.proofs.Common.{sym, ◌∙◌, ap}
use Rattle.audit_lives.specs.Finds.{sent_again}
use Rattle.audit_lives.proofs.LookUps.{has_sender}
use Rattle.audit_lives.proofs.calls_told.CallsTold.is_again.Goals as goal

pub returns-in-Sent : goal.returns-in-Sent
returns-in-Sent c = λ items t. c.is_told.ensures ∙ has_sender c.args.self.now items c.in-Sent.call t ∙ ap (sent_again items) (sym c.in-Sent.is)
