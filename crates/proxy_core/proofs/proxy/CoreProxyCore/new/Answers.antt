-- A new proxy is sound.
use Rattle.std.proofs.Common.{◌≡◌, ap}
use Rattle.core_model.specs.State.{first_core}
use Rattle.core_face.proofs.Promises.{new_is_sound}
use Rattle.proxy_core.proofs.proxy.CoreProxyCore.new.Goals as goal

pub returns-clause-sound : goal.returns-clause-sound
returns-clause-sound c =
    let boxed = ap (λ k. k.core) c.in_ok-new.ensures.ok in
    let first = c.in_ok-kept.ensures.core in
    let same : c.in_ok-new.field-0.value.core ≡ first_core c.args.settings = cc in
    new_is_sound c.args.settings c.in_ok-new.field-0.value.core same
