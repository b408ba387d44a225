-- The store's answer is looked at under the namespace.
use Rattle.std.proofs.Common.{List, ℕ, Bool, ◌&&◌, ◌∙◌, ap}
use Rattle.etcd_types.specs.declared.request.Request.TheVariants as request
use Rattle.proxy_model.specs.Wrapped.{request_under}
use Rattle.store_model.specs.Step.{exec}
use Rattle.world_model.specs.Answers.{seen}
use Rattle.audit_model.specs.Unsent.{is_bare_body, is_true_header}
use Rattle.audit_clients.proofs.snapshots.is_true_under.Goals as goal

pub returns : goal.returns
returns c = λ items n s g.
    let store = (seen items).store in
    let body = c.args.reply.now.body in
    let header = c.args.reply.now.header in
    let a = c.in_ok-answer.ensures store s in
    let bare =
    c.in_ok-is_bare.ensures
    ∙ ap (is_bare_body c.args.namespace.now body) a.1
    ∙ ap (λ (p : List ℕ). is_bare_body p body (exec store 1 (request_under p (request.Txn c.args.txn.now))).1) n in
    (a.0, c.has_true_header.ensures items a.0 g ∙ ap (λ (b : Bool). b && is_true_header items c.args.proxy header) bare)
