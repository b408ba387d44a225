-- It comes in turn, or not.
use Rattle.std.proofs.Common.{Option, ℕ, sym, ◌∙◌, ap}
use Rattle.audit_model.specs.Takes.{takes_from}
use Rattle.audit_clients.proofs.Turns.{in_turn, out_of_turn}
use Rattle.audit_clients.proofs.takes.takes_later.Goals as goal

pub returns-then-is_over : goal.returns-then-is_over
returns-then-is_over c = λ items taken st g ok. out_of_turn items c.args.ask.now taken c.args.message.now c.args.taking ok (sym c.if-is_over.ensures)

pub returns-in_ok-takes_as-in-Some : goal.returns-in_ok-takes_as-in-Some
returns-in_ok-takes_as-in-Some c = λ items taken st g ok.
    c.in_ok-takes_as-in-Some.ensures items _ taken st g ok c.in-Some.is
    ∙ ap (λ (o : Option ℕ). takes_from items c.args.ask.now o taken c.args.message.now) (sym c.in-Some.is)
    ∙ in_turn items c.args.ask.now taken c.args.message.now c.args.taking ok (sym c.if-is_over.ensures)

pub returns-in-None : goal.returns-in-None
returns-in-None c = λ items taken st g ok.
    ap (λ (o : Option ℕ). takes_from items c.args.ask.now o taken c.args.message.now) (sym c.in-None.is)
    ∙ in_turn items c.args.ask.now taken c.args.message.now c.args.taking ok (sym c.if-is_over.ensures)
