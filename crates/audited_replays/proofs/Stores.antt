-- Answers and messages of a replay keep the rules.
use Rattle.std.proofs.Common.{◌≡◌, true, List, refl, ◌∙◌, ap}
use Rattle.script_text.specs.declared.item.Item.{Item}
use Rattle.script_text.specs.declared.item.Item.TheVariants as item
use Rattle.world_laws.proofs.TrueAnswers.{answers_are_the_stores, messages_are_the_stores}
use Rattle.world_model.specs.Answers.{AnswersAreTheStores, MessagesAreTheStores}
use Rattle.audit_model.specs.Answers.{is_due_answer, is_due_message, answers_so, pushes_so}
use Rattle.equal_values.proofs.Compared.{answer-itself}
use Rattle.equal_values.proofs.Values.{message-itself}
use Rattle.audited_replays.specs.Rules.{OfEach, AnswersAreKept, PushesAreKept}

answer_so : (items : List Item) → AnswersAreTheStores items → OfEach (λ before i. answers_so before i ≡ true) items
answer_so items h earlier later (item.Executed call answer) e = ap (is_due_answer answer) (h earlier later call answer e) ∙ answer-itself answer
answer_so items h earlier later _ e = refl

push_so : (items : List Item) → MessagesAreTheStores items → OfEach (λ before i. pushes_so before i ≡ true) items
push_so items h earlier later (item.Pushed stream message) e = ap (is_due_message message) (h earlier later stream message e) ∙ message-itself message
push_so items h earlier later _ e = refl

pub answers_kept : AnswersAreKept
answers_kept lines m few s = answer_so _ (answers_are_the_stores lines)

pub pushes_kept : PushesAreKept
pushes_kept lines m few s = push_so _ (messages_are_the_stores lines)
