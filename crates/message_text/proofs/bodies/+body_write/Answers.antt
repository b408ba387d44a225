use Rattle.std.proofs.Common.{◌≡◌, ap, sym, ◌∙◌, ◌++◌, ◌∷◌, List, ℕ}
use Rattle.std.specs.Prelude.{codes, string_bytes}
use Rattle.text_model.specs.Forms.{Word}
use Rattle.text_model.specs.Texts.{written}
use Rattle.message_text.specs.Answers.{body_words, txn_body_words}
use Rattle.message_text.proofs.Lists.{written_more, name_written}
use Rattle.message_text.proofs.AnswerLaws.{body_words-Txn}
use Rattle.message_text.proofs.bodies.+body_write.Goals as goal

pub push_bodies-loop-body-preserved : goal.push_bodies-loop-body-preserved
push_bodies-loop-body-preserved t c =
    let step = written_more body_words _ _ c.loop-body.body-index c.body-item.result c.loop-body-test.true c.body-item.is in
    c.in_ok-push_body.ensures ∙ ap (λ (bs : List ℕ). bs ++ written 32 (body_words c.body-item.result)) c.loop-body.invariant ∙ step

pub push_body-returns-in_ok-push_txn_body-in-Txn : goal.push_body-returns-in_ok-push_txn_body-in-Txn
push_body-returns-in_ok-push_txn_body-in-Txn t c =
    let begun = string_bytes c.args.out.now in
    let inner = txn_body_words (c.in-Txn.succeeded, c.in-Txn.bodies) in
    let words : body_words c.args.body.now ≡ codes "txn" ∷ inner = ap body_words c.in-Txn.is ∙ body_words-Txn c.in-Txn.succeeded c.in-Txn.bodies in
    c.in_ok-push_txn_body-in-Txn.ensures ∙ ap (λ (bs : List ℕ). bs ++ written 32 inner) c.in_ok-push_word-in-Txn.ensures ∙ name_written begun (codes "txn") inner ∙ ap (λ (ws : List Word). begun ++ written 32 ws) (sym words)
