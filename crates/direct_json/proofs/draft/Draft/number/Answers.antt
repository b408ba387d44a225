-- The digits, which need no escape, stand behind the opening, and the closing mark behind them.
use Rattle.std.proofs.Common.{◌++◌, ◌∷◌, [], List, ℕ, true, decimal, arith, sym, ap, ◌∙◌, append_assoc}
use Rattle.direct_json.proofs.Plain.{escape_decimal}
use Rattle.direct_json.proofs.Primitives.{number_written}
use Rattle.direct_json.proofs.draft.Draft.number.Goals as goal

pub returns : goal.returns
returns c =
    let text : List ℕ = c.self.inside.text in
    let digits = sym (escape_decimal c.args.value (omega (arith, c.ranges.value.fits))) in
    let closed = c.in_ok-put_number.ensures ∙ sym (append_assoc text (decimal c.args.value) (34 ∷ [])) in
    number_written c.args.opening.now c.args.value (text ++ decimal c.args.value) text c.self.inside.later c.args.self.now c.open.new.self (c.put_number.new.self, true)
    c.if-value-eq0.false c.in_ok-open.ensures (sym c.self.view_is) (ap (λ (t : List ℕ). text ++ t) digits) (λ i. (closed i, true))
