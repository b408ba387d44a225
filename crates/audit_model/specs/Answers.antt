-- Answers and messages: each is the one that the store of the items before it gives.
use Rattle.std.specs.Prelude.{Bool, true, false, List, Option, None, Some}
use Rattle.etcd_types.specs.declared.answer.Answer.{Answer}
use Rattle.etcd_types.specs.declared.watch.WatchItem.{WatchItem}
use Rattle.script_text.specs.declared.item.Item.{Item}
use Rattle.script_text.specs.declared.item.Item.TheVariants as item
use Rattle.world_model.specs.Answers.{seen, answer_to, message_by, message_of}
use Rattle.equal_values.specs.Answers.{same_answer}
use Rattle.equal_values.specs.Messages.{same_message}

-- this is what is due, where something is
abbrev pub is_due_answer : Answer → Option Answer → Bool
is_due_answer told None = false
is_due_answer told (Some due) = same_answer told due

abbrev pub is_due_message : WatchItem → Option WatchItem → Bool
is_due_message told None = false
is_due_message told (Some due) = same_message told due

abbrev pub answers_so : List Item → Item → Bool
answers_so before (item.Executed call answer) = is_due_answer answer (answer_to (seen before) call)
answers_so before _ = true

abbrev pub pushes_so : List Item → Item → Bool
pushes_so before (item.Pushed stream message) = is_due_message message (message_of (message_by (seen before).store stream message))
pushes_so before _ = true
