-- What ends with the request that left, and then the release; where none is known nothing ends.
use Rattle.std.proofs.Common.{sym, ◌∙◌, ap, subst}
use Rattle.std.specs.List.{list_all}
use Rattle.read_model.specs.Fits.{AllStand}
use Rattle.read_model.specs.PlainRead.{ask_key}
use Rattle.read_model.specs.State.{Reads, Ground, ground_of}
use Rattle.core_model.specs.Lookups.{has_ticket, without_ask}
use Rattle.read_core.specs.Falls.{stands_on, stand_elsewhere}
use Rattle.read_steps.specs.Over.{ended}
use Rattle.read_steps.specs.Parts.{reads}
use Rattle.read_steps.specs.Steps.{left_by}
use Rattle.read_steps.proofs.Elsewhere.{left_elsewhere, left_stand}
use Rattle.read_steps.proofs.Ending.{just_left, nobody_ended, one_ended}
use Rattle.read_steps.proofs.Standing.{released_parts}
use Rattle.read_steps.proofs.reads.Reads.leave.Goals as goal

pub release_left-requires : goal.release_left-requires
release_left-requires c =
    let r = reads c.self.inside.table.entries c.self.inside.waits c.self.inside.acquires c.self.inside.asks in
    let t = c.args.ticket in
    let left = c.in-Some.left in
    let stand = subst (λ (x : Reads). AllStand (ground_of x) x.asks) (sym c.self.view_is) c.requires.1.asks in
    let done = c.end_by_ticket.ensures in
    let e = one_ended t left r c.rows-rows.ensures.once (sym c.in-Some.ensures.found) in
    let entries = done.entries ∙ ap (λ (g : Ground). g.own.entries) e in
    let acquires = done.acquires ∙ ap (λ (g : Ground). g.acquires) e in
    record {
      acquired = λ f. (λ i. stand_elsewhere (ask_key left) (entries i) (acquires i) (c.in-Some.ensures.rest i)) ∙ left_elsewhere left t r f stand;
      neither = λ f. (λ i. list_all (stands_on (entries i) (acquires i)) (c.in-Some.ensures.rest i)) ∙ left_stand left t r f stand;
    }

pub returns-in-Some : goal.returns-in-Some
returns-in-Some c =
    let r = reads c.self.inside.table.entries c.self.inside.waits c.self.inside.acquires c.self.inside.asks in
    let m = c.args.m.now in
    let t = c.args.ticket in
    let done = c.end_by_ticket.ensures in
    released_parts m (ended (has_ticket t) r) (without_ask t r.asks) _ _ _ _ _ _
    done.entries done.waits done.acquires c.in-Some.ensures.rest c.step.ensures c.release_left.ensures
    ∙ ap (left_by m t) c.self.view_is

pub returns-in-None : goal.returns-in-None
returns-in-None c =
    let r = reads c.self.inside.table.entries c.self.inside.waits c.self.inside.acquires c.self.inside.asks in
    let m = c.args.m.now in
    let t = c.args.ticket in
    let stand = subst (λ (x : Reads). AllStand (ground_of x) x.asks) (sym c.self.view_is) c.requires.1.asks in
    let done = c.end_by_ticket.ensures in
    (λ i. reads (done.entries i) (done.waits i) (done.acquires i) (c.in-None.ensures.rest i))
    ∙ just_left m t r stand (nobody_ended t r (sym c.in-None.ensures.found))
    ∙ ap (left_by m t) c.self.view_is
