-- The machine's parts are what it keeps.
use Rattle.std.proofs.Common.{ℕ, List, ◌∙◌, ap}
use Rattle.core_machine.specs.Keeping.{Kept}
use Rattle.core_sends.specs.ToSend.{to_send}
use Rattle.due_order.specs.Seen.{job_seen}
use Rattle.proxy_core.proofs.work.made_for.Goals as goal

pub returns : goal.returns
returns c =
    c.in_ok-to_send.ensures
    ∙ ap (λ (p : List ℕ). to_send c.machine.inside.namespace p c.machine.inside.ttl c.args.write.now (job_seen c.args.job)) c.prefix.ensures
    ∙ ap (λ (k : Kept). to_send k.core.settings.namespace k.core.own.waits.prefix k.core.settings.ttl c.args.write.now (job_seen c.args.job)) c.machine.view_is
