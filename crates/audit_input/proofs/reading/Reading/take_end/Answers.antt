-- Each exit is a case of the end.
use Rattle.std.proofs.Common.{List, ℕ, false, sym, ◌∙◌, subst}
use Rattle.audit_model.specs.Audited.{after_line, audited_lines}
use Rattle.audit_input.specs.Lines.{Adds}
use Rattle.audit_input.proofs.Taking.{ends_whole, ends_begun, nothing_by_length, some_by_length}
use Rattle.audit_input.proofs.reading.Reading.take_end.Goals as goal

pub returns-then-is_empty : goal.returns-then-is_empty
returns-then-is_empty c = λ bytes f.
    ends_whole c.args.self.now bytes f (nothing_by_length c.args.self.now.line.items _ c.args.self.now.line.ok.0 (sym c.is_empty.ensures ∙ c.if-is_empty.true))

pub returns : goal.returns
returns c = λ bytes f.
    ends_begun c.args.self.now _ bytes c.in_ok-take_line.field-0 f (some_by_length c.args.self.now.line.items _ c.args.self.now.line.ok.0 (sym c.is_empty.ensures ∙ c.if-is_empty.false))
    (subst (λ (line : List ℕ). Adds c.take_line.new.self c.in_ok-take_line.field-0 (after_line (audited_lines bytes) line false)) c.as_slice.ensures.value (c.in_ok-take_line.ensures.line (audited_lines bytes) f.stands))
