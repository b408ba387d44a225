-- An opener is told where a place is kept.
use Rattle.std.proofs.Common.{sym, ◌∙◌, ap}
use Rattle.audit_lives.specs.Finds.{opened_again}
use Rattle.audit_lives.proofs.LookUps.{has_opener}
use Rattle.audit_lives.proofs.streams_told.StreamsTold.is_again.Goals as goal

pub returns-in-Opened : goal.returns-in-Opened
returns-in-Opened c = λ items t. c.is_told.ensures ∙ has_opener c.args.self.now items c.in-Opened.stream t ∙ ap (opened_again items) (sym c.in-Opened.is)
