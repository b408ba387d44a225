-- What compares as the same is one value, and each value compares as the same with itself.
use Rattle.std.specs.Prelude.{◌≡◌, true}
use Rattle.etcd_types.specs.declared.answer.Answer.{Answer}
use Rattle.etcd_types.specs.declared.answer.Body.{Body}
use Rattle.etcd_types.specs.declared.watch.Event.{Event}
use Rattle.etcd_types.specs.declared.watch.WatchItem.{WatchItem}
use Rattle.equal_values.specs.Answers.{same_answer}
use Rattle.equal_values.specs.Bodies.{same_body}
use Rattle.equal_values.specs.Messages.{same_event, same_message}

pub record SameIsOne : Type 0 where
  pub answers : (a b : Answer) → same_answer a b ≡ true → a ≡ b
  pub bodies : (a b : Body) → same_body a b ≡ true → a ≡ b
  pub messages : (a b : WatchItem) → same_message a b ≡ true → a ≡ b
  pub events : (a b : Event) → same_event a b ≡ true → a ≡ b

pub record EachIsTheSame : Type 0 where
  pub answers : (a : Answer) → same_answer a a ≡ true
  pub bodies : (a : Body) → same_body a a ≡ true
  pub messages : (a : WatchItem) → same_message a a ≡ true
  pub events : (a : Event) → same_event a a ≡ true
