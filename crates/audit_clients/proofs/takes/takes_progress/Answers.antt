-- The watch has all up to the message's revision, or not.
use Rattle.std.proofs.Common.{List, ℕ, ◌&&◌, nat_le, ◌∙◌, ap, drop}
use Rattle.world_model.specs.Answers.{seen}
use Rattle.world_model.specs.Received.{history_events}
use Rattle.audit_clients.specs.Spots.{has_come}
use Rattle.audit_clients.proofs.Turns.{takes_progress}
use Rattle.audit_clients.proofs.takes.takes_progress.Goals as goal

pub returns : goal.returns
returns c = λ items start taken st g ok e.
    let own = c.args.taking in
    let ask = c.args.ask.now in
    let s = (seen items).store in
    let header = c.args.header.now in
    let all =
    c.in_ok-has_all.ensures s st
    ∙ ap (λ (p : List ℕ). has_come (own.revision, own.count) header.revision (drop own.count (history_events s.history p ask own.revision))) (c.in_ok-namespace.ensures items g) in
    c.is_due_progress.ensures
    ∙ (λ i. ask.progress && nat_le header.revision (c.newest-last.ensures s st i) && all i)
    ∙ takes_progress items ask start taken header own ok e
