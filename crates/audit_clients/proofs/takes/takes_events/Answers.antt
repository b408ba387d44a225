-- The events are compared from where the watch stands.
use Rattle.std.proofs.Common.{List, ℕ, ◌∙◌, drop}
use Rattle.audit_model.specs.Takes.{tells_front}
use Rattle.world_model.specs.Answers.{seen}
use Rattle.world_model.specs.Received.{history_events}
use Rattle.audit_clients.proofs.Turns.{takes_more}
use Rattle.audit_clients.proofs.takes.takes_events.Goals as goal

pub returns : goal.returns
returns c = λ items start taken header st g ok e n.
    let own = c.args.taking in
    let ask = c.args.ask.now in
    let s = (seen items).store in
    let p = c.in_ok-namespace.ensures items g in
    c.in_ok-goes_on.ensures s st
    ∙ (λ i. tells_front ask.prev_kv s.compacted (p i) (c.as_slice.ensures i) (drop own.count (history_events s.history (p i) ask own.revision)))
    ∙ takes_more items ask start taken header c.args.events.now own ok e n
