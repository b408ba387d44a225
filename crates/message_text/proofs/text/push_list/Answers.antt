use Rattle.std.proofs.Common.{ap, ◌∙◌, ◌++◌, List, ℕ}
use Rattle.text_model.specs.Texts.{written}
use Rattle.message_text.proofs.Lists.{written_more}
use Rattle.message_text.proofs.text.push_list.Goals as goal

pub loop-member-preserved : goal.loop-member-preserved
loop-member-preserved g c =
    let step = written_more g.T.Text.form.spell _ _ c.loop-member.member-index c.member-item.result c.loop-member-test.true c.member-item.is in
    c.in_ok-push.ensures ∙ ap (λ (bs : List ℕ). bs ++ written 32 (g.T.Text.form.spell c.member-item.result)) c.loop-member.invariant ∙ step
