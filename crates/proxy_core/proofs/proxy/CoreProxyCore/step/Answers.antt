-- What a step promises to whoever waits follows from what it leaves and gives.
use Rattle.std.proofs.Common.{◌≡◌, ap, subst}
use Rattle.core_model.specs.State.{Core}
use Rattle.core_face.specs.Steps.{Steps}
use Rattle.core_face.proofs.Promises as promises
use Rattle.proxy_core.proofs.proxy.CoreProxyCore.step.Goals as goal

pub returns-clause-sound : goal.returns-clause-sound
returns-clause-sound c =
    let kept = ap (λ m. m.core) c.deref_mut.ensures.value in
    let view = c.self.view_is in
    let same : c.deref_mut.result.now.core ≡ c.args.self.now = cc in
    promises.stays_sound c.args.self.now c.args.event c.args.now c.step.new.machine.core c.step.result (subst (λ (x : Core). Steps x c.args.event c.args.now c.step.new.machine.core c.step.result) same c.step.ensures.step)

pub returns-clause-idle : goal.returns-clause-idle
returns-clause-idle c =
    let kept = ap (λ m. m.core) c.deref_mut.ensures.value in
    let view = c.self.view_is in
    let same : c.deref_mut.result.now.core ≡ c.args.self.now = cc in
    promises.leaves_none_idle c.args.self.now c.args.event c.args.now c.step.new.machine.core c.step.result (subst (λ (x : Core). Steps x c.args.event c.args.now c.step.new.machine.core c.step.result) same c.step.ensures.step)

pub returns-clause-merged : goal.returns-clause-merged
returns-clause-merged c =
    let kept = ap (λ m. m.core) c.deref_mut.ensures.value in
    let view = c.self.view_is in
    let same : c.deref_mut.result.now.core ≡ c.args.self.now = cc in
    promises.leaves_streams_merged c.args.self.now c.args.event c.args.now c.step.new.machine.core c.step.result (subst (λ (x : Core). Steps x c.args.event c.args.now c.step.new.machine.core c.step.result) same c.step.ensures.step)

pub returns-clause-joined : goal.returns-clause-joined
returns-clause-joined c =
    let kept = ap (λ m. m.core) c.deref_mut.ensures.value in
    let view = c.self.view_is in
    let same : c.deref_mut.result.now.core ≡ c.args.self.now = cc in
    promises.joins_where_it_can c.args.self.now c.args.event c.args.now c.step.new.machine.core c.step.result (subst (λ (x : Core). Steps x c.args.event c.args.now c.step.new.machine.core c.step.result) same c.step.ensures.step)

pub returns-clause-held : goal.returns-clause-held
returns-clause-held c =
    let kept = ap (λ m. m.core) c.deref_mut.ensures.value in
    let view = c.self.view_is in
    let same : c.deref_mut.result.now.core ≡ c.args.self.now = cc in
    promises.holds_nothing_back c.args.self.now c.args.event c.args.now c.step.new.machine.core c.step.result (subst (λ (x : Core). Steps x c.args.event c.args.now c.step.new.machine.core c.step.result) same c.step.ensures.step)

pub returns-clause-bounded : goal.returns-clause-bounded
returns-clause-bounded c =
    let kept = ap (λ m. m.core) c.deref_mut.ensures.value in
    let view = c.self.view_is in
    let same : c.deref_mut.result.now.core ≡ c.args.self.now = cc in
    promises.leaves_queues_bounded c.args.self.now c.args.event c.args.now c.step.new.machine.core c.step.result (subst (λ (x : Core). Steps x c.args.event c.args.now c.step.new.machine.core c.step.result) same c.step.ensures.step)
