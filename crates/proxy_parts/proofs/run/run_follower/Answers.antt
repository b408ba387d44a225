-- What the pass has seen grows.
use Rattle.std.proofs.Common.{◌≡◌, ap}
use Rattle.turn_hub.specs.Known.{Known}
use Rattle.turn_hub.specs.declared.view.Opening.{Opening}
use Rattle.core_model.specs.State.{Core}
use Rattle.server_model.specs.Steps.{Step}
use Rattle.proxy_parts.proofs.Passes.{seat_grows}
use Rattle.proxy_parts.proofs.run.run_follower.Goals as goal

begun_of : (x y : Known (Opening Core) Step × Known (Opening Core) Step) → x ≡ y → x.1 ≡ y.1
begun_of x y e = ap (λ (p : Known (Opening Core) Step × Known (Opening Core) Step). p.1) e

pub returns-clause-grows : goal.returns-clause-grows
returns-clause-grows g c =
    let last = c.follow_stream-end.new.turn in
    seat_grows c.args.place.pass c.new-seated.result.begun.value last.begun.value c.new-seated.result.pass last.pass c.into_pass-pass.result
    c.new-seated.ensures.begun (begun_of _ _ c.follow_stream-end.ensures.stays.home) c.new-seated.ensures.grows c.follow_stream-end.ensures.stays.allowed c.into_pass-pass.ensures
