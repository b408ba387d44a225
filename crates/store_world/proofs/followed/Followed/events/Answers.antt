-- A read from behind what tells nothing is the same read.
use Rattle.std.proofs.Common.{◌==◌, List, length, subst, sym, ap, ◌∙◌}
use Rattle.etcd_types.specs.declared.watch.Event.{Event}
use Rattle.store_index.specs.declared.index.Index.{Index}
use Rattle.store_index.specs.Index.{HoldsKept}
use Rattle.store_world.proofs.LookedLemmas.{read_silently, next_same}
use Rattle.store_world.proofs.followed.Followed.events.Goals as goal

pub returns-then-is_empty-clause-events : goal.returns-then-is_empty-clause-events
returns-then-is_empty-clause-events c =
    read_silently c.self.inside.index c.args.self.now c.args.ask.now c.args.from c.max.result c.silent_to-start.result c.in_ok-batch.batch.events c.self.view_is c.max.ensures c.silent_to-start.ensures.past c.silent_to-start.ensures.silent
    c.in_ok-batch.ensures.events

pub returns-clause-events : goal.returns-clause-events
returns-clause-events c =
    read_silently c.self.inside.index c.args.self.now c.args.ask.now c.args.from c.max.result c.silent_to-start.result c.in_ok-batch.batch.events c.self.view_is c.max.ensures c.silent_to-start.ensures.past c.silent_to-start.ensures.silent
    c.in_ok-batch.ensures.events

pub returns-clause-next : goal.returns-clause-next
returns-clause-next c = λ h holds.
    let some = ap (λ (es : List Event). length es == 0) (sym c.as_slice.ensures) ∙ sym c.is_empty.ensures ∙ c.if-is_empty.false in
    c.in_ok-batch.ensures.next h (subst (λ (i : Index). HoldsKept i h) (sym c.self.view_is) holds) ∙ next_same c.silent_to-start.result c.args.from c.in_ok-batch.batch.events some
