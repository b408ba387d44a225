-- A line feed, or another byte.
use Rattle.std.proofs.Common.{List, ℕ, length, true, false, ◌≡◌, refl, sym, ◌∙◌, subst}
use Rattle.audit_model.specs.Audited.{after_line, audited_lines}
use Rattle.audit_input.specs.Lines.{Adds}
use Rattle.audit_input.specs.Refused.{passes_limit}
use Rattle.audit_input.proofs.Taking.{takes_feed, takes_other, takes_too_much}
use Rattle.audit_input.proofs.reading.Reading.take_byte.Goals as goal

pub returns-then-is_feed-clause-taken : goal.returns-then-is_feed-clause-taken
returns-then-is_feed-clause-taken c = λ bytes f.
    takes_feed c.args.self.now _ bytes c.args.byte c.in_ok-ending.ending f (sym c.is_feed.ensures ∙ c.if-is_feed.true)
    (subst (λ (line : List ℕ). Adds c.take_line.new.self c.in_ok-ending.ending (after_line (audited_lines bytes) line true)) c.as_slice.ensures.value (c.in_ok-ending.ensures.line (audited_lines bytes) f.stands))
    c.clear.ensures.items

pub returns-then-is_past_limit-clause-taken : goal.returns-then-is_past_limit-clause-taken
returns-then-is_past_limit-clause-taken c = λ bytes f.
    takes_too_much c.args.self.now (record c.args.self.now { line = c.push.new.self }) bytes c.args.byte f (sym c.is_feed.ensures ∙ c.if-is_feed.false) c.in_ok-push.ensures.items
    (subst (λ (line : List ℕ). passes_limit (audited_lines bytes) (length line) (length line) ≡ true) c.as_slice-2.ensures.value (sym (c.is_past_limit.ensures.passes (audited_lines bytes) f.stands) ∙ c.if-is_past_limit.true))

pub returns-clause-taken : goal.returns-clause-taken
returns-clause-taken c = λ bytes f.
    takes_other c.args.self.now _ bytes c.args.byte f (sym c.is_feed.ensures ∙ c.if-is_feed.false) refl c.in_ok-push.ensures.items
    (subst (λ (line : List ℕ). passes_limit (audited_lines bytes) (length line) (length line) ≡ false) c.as_slice-2.ensures.value (sym (c.is_past_limit.ensures.passes (audited_lines bytes) f.stands) ∙ c.if-is_past_limit.false))
