use Rattle.std.proofs.Common.{◌∙◌, ap}
use Rattle.std.specs.Prelude.{ℕ, List}
use Rattle.etcd_types.specs.declared.answer.Answer.TheVariants.{Refused}
use Rattle.etcd_types.specs.declared.code.TheConstants.{UNAVAILABLE}
use Rattle.http_talk.specs.Forms.{body_by}
use Rattle.http_talk.specs.declared.ready.Ready.{Ready}
use Rattle.http_talk.proofs.cluster.unanswered_reply.Goals as goal

abbrev ready : List ℕ → Ready
ready body = record { status = 503; body = body }

pub returns : goal.returns
returns c =
    ap ready (c.in_ok-body.ensures.text ∙ ap (λ (t : List ℕ). body_by c.args.form (Refused (record { code = UNAVAILABLE; text = t }))) c.in_ok-from_slice.ensures)
