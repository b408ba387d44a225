use Rattle.std.proofs.Common.{ap, ◌∙◌, ◌++◌, List, ℕ}
use Rattle.text_model.specs.Texts.{written}
use Rattle.message_text.specs.Requests.{op_words}
use Rattle.message_text.proofs.Lists.{written_more}
use Rattle.message_text.proofs.operations.+operation_write.Goals as goal

pub push_ops-loop-op-preserved : goal.push_ops-loop-op-preserved
push_ops-loop-op-preserved t c =
    let step = written_more op_words _ _ c.loop-op.op-index c.op-item.result c.loop-op-test.true c.op-item.is in
    c.in_ok-push_op.ensures ∙ ap (λ (bs : List ℕ). bs ++ written 32 (op_words c.op-item.result)) c.loop-op.invariant ∙ step
