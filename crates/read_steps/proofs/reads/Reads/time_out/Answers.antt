-- Part by part, and then the release; where none is late, or nothing ended with those that are, no other changes.
use Rattle.std.proofs.Common.{sym, ◌∙◌, ap, subst, map}
use Rattle.core_model.specs.ClockWork.{times_out, timed_out_ask}
use Rattle.read_model.specs.Fits.{AllStand}
use Rattle.read_model.specs.State.{Reads, Moment, ground_of}
use Rattle.read_steps.specs.Over.{OneOwner, ended}
use Rattle.read_steps.specs.Parts.{reads}
use Rattle.read_steps.specs.Steps.{timed_out}
use Rattle.known_asks.specs.Asks.{none_times_out}
use Rattle.read_steps.proofs.Ending.{not_false, none_late, just_late}
use Rattle.read_steps.proofs.Standing.{released_parts}
use Rattle.read_steps.proofs.reads.Reads.time_out.Goals as goal

pub end_late-ended-requires : goal.end_late-ended-requires
end_late-ended-requires c = subst (λ (x : Reads). OneOwner x.own) (sym c.self.view_is) (λ k. (c.requires.1.ground.keys k).only)

pub returns-then-ended : goal.returns-then-ended
returns-then-ended c =
    let r = reads c.self.inside.table.entries c.self.inside.waits c.self.inside.acquires c.self.inside.asks in
    let m : Moment = record { now = c.m.inside.now; session = c.m.inside.session; created = c.m.inside.created; header = c.m.inside.header } in
    released_parts m (ended (times_out m.now) r) (map (timed_out_ask m.now) r.asks) _ _ _ _ _ _
    c.end_late-ended.ensures.entries c.end_late-ended.ensures.waits c.end_late-ended.ensures.acquires c.end_late-ended.ensures.asks c.step.ensures c.release.ensures
    ∙ ap (λ (x : Moment). timed_out x r) c.m.view_is ∙ ap (timed_out c.args.m.now) c.self.view_is

pub returns-else-ended : goal.returns-else-ended
returns-else-ended c =
    let r = reads c.self.inside.table.entries c.self.inside.waits c.self.inside.acquires c.self.inside.asks in
    let m : Moment = record { now = c.m.inside.now; session = c.m.inside.session; created = c.m.inside.created; header = c.m.inside.header } in
    let stand = subst (λ (x : Reads). AllStand (ground_of x) x.asks) (sym c.self.view_is) c.requires.1.asks in
    (λ i. reads (c.end_late-ended.ensures.entries i) (c.end_late-ended.ensures.waits i) (c.end_late-ended.ensures.acquires i) (c.end_late-ended.ensures.asks i))
    ∙ just_late m r stand (c.end_late-ended.ensures.nothing c.if-ended.false)
    ∙ ap (λ (x : Moment). timed_out x r) c.m.view_is ∙ ap (timed_out c.args.m.now) c.self.view_is

pub returns-else-may_time_out : goal.returns-else-may_time_out
returns-else-may_time_out c =
    let r = reads c.self.inside.table.entries c.self.inside.waits c.self.inside.acquires c.self.inside.asks in
    let m : Moment = record { now = c.m.inside.now; session = c.m.inside.session; created = c.m.inside.created; header = c.m.inside.header } in
    let stand = subst (λ (x : Reads). AllStand (ground_of x) x.asks) (sym c.self.view_is) c.requires.1.asks in
    sym c.self.view_is ∙ none_late m r (not_false (none_times_out m.now r.asks) (sym c.may_time_out.ensures ∙ c.if-may_time_out.false)) stand
    ∙ ap (λ (x : Moment). timed_out x r) c.m.view_is ∙ ap (timed_out c.args.m.now) c.self.view_is
