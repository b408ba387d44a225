-- What holds of the pass that was split off holds of the one that it is joined to.
use Rattle.std.proofs.Common.{◌≡◌, ap, ◌∙◌}
use Rattle.turn_hub.specs.Known.{Known}
use Rattle.turn_hub.specs.declared.view.Opening.{Opening}
use Rattle.core_model.specs.State.{Core}
use Rattle.server_model.specs.Steps.{Step}
use Rattle.proxy_parts.proofs.Passes.{seat_grows}
use Rattle.proxy_parts.proofs.Joined.{joins_as, joined_sound, joined_dialog}
use Rattle.proxy_parts.proofs.connection.serve_connection.Goals as goal

hub_of : (x y : Known (Opening Core) Step × Known (Opening Core) Step) → x ≡ y → x.0.hub ≡ y.0.hub
hub_of x y e = ap (λ (p : Known (Opening Core) Step × Known (Opening Core) Step). p.0.hub) e

begun_of : (x y : Known (Opening Core) Step × Known (Opening Core) Step) → x ≡ y → x.1 ≡ y.1
begun_of x y e = ap (λ (p : Known (Opening Core) Step × Known (Opening Core) Step). p.1) e

pub returns-clause-allowed : goal.returns-clause-allowed
returns-clause-allowed g c =
    let last = c.serve_on-end.new.turn in
    let grows = seat_grows c.split-mine.result c.new-seated.result.begun.value last.begun.value c.new-seated.result.pass last.pass last.pass
    c.new-seated.ensures.begun (begun_of _ _ c.serve_on-end.ensures.home) c.new-seated.ensures.grows c.serve_on-end.ensures.allowed (λ i. last.pass) in
    let hub = hub_of _ _ c.serve_on-end.ensures.home ∙ c.new-seated.ensures.hub ∙ ap (λ (k : Known (Opening Core) Step). k.hub) c.split-mine.ensures.new in
    let j = joins_as c.args.pass.now c.split-mine.new.pass c.split-mine.result c.new-seated.result.pass last.pass c.into_pass.result c.join.new.pass
    c.split-mine.ensures.pass c.split-mine.ensures.new c.new-seated.ensures.made grows hub c.into_pass.ensures c.join.ensures.pass c.join.ensures.seen c.join.ensures.made in
    joined_sound c.args.pass.now c.split-mine.result c.new-seated.result.pass last.pass c.join.new.pass j

pub returns-clause-dialog : goal.returns-clause-dialog
returns-clause-dialog g c =
    let last = c.serve_on-end.new.turn in
    let grows = seat_grows c.split-mine.result c.new-seated.result.begun.value last.begun.value c.new-seated.result.pass last.pass last.pass
    c.new-seated.ensures.begun (begun_of _ _ c.serve_on-end.ensures.home) c.new-seated.ensures.grows c.serve_on-end.ensures.allowed (λ i. last.pass) in
    let hub = hub_of _ _ c.serve_on-end.ensures.home ∙ c.new-seated.ensures.hub ∙ ap (λ (k : Known (Opening Core) Step). k.hub) c.split-mine.ensures.new in
    let j = joins_as c.args.pass.now c.split-mine.new.pass c.split-mine.result c.new-seated.result.pass last.pass c.into_pass.result c.join.new.pass
    c.split-mine.ensures.pass c.split-mine.ensures.new c.new-seated.ensures.made grows hub c.into_pass.ensures c.join.ensures.pass c.join.ensures.seen c.join.ensures.made in
    joined_dialog c.args.pass.now c.split-mine.result c.new-seated.result.pass last.pass c.join.new.pass j c.args.form
    (g.A.Answers.gives (g.A.Answers.known c.args.answers.now)) _ _ _ c.serve_on-end.result c.serve_on-end.ensures.dialog
