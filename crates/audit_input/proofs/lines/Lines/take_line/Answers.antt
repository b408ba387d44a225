-- The line that was taken is the audit's next.
use Rattle.std.proofs.Common.{◌≡◌, ◌∙◌, ◌+◌, false, refl, sym, ap, length}
use Rattle.replay_model.specs.Progress.{is_past, size_of}
use Rattle.audit_input.proofs.Taking.{line_joins}
use Rattle.audit_input.proofs.lines.Lines.take_line.Goals as goal

pub returns-in-Ok-clause-line : goal.returns-in-Ok-clause-line
returns-in-Ok-clause-line c = λ a s.
    let line = c.args.line.now in
    let size = c.size_of-size.ensures in
    let within : is_past c.args.self.now.lines c.args.self.now.bytes (length line) (size_of line c.args.feed) ≡ false =
    sym (ap (is_past c.args.self.now.lines c.args.self.now.bytes (length line)) size) ∙ sym c.is_past.ensures ∙ c.if-is_past.false in
    line_joins c.args.self.now _ a line c.args.feed s within (c.in-Ok.ensures.gained a.items s.audit) refl (λ i. c.in-Ok.ensures.bytes i + size i)
