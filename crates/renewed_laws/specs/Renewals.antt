-- What clients are told of their keepalives, in the words of a transcript: each ok reply to one is the answer of an executed keepalive of
-- that lease that the proxy sent after the request was asked, as a caller of the etcd API's LeaseKeepAlive takes it to be.
use Rattle.std.specs.Prelude.{◌≡◌, ℕ, Bool, true, List, ◌∷◌, ◌++◌, Some}
use Rattle.std.specs.List.{list_all}
use Rattle.etcd_types.specs.declared.answer.Answer.{Answer}
use Rattle.etcd_types.specs.declared.answer.Answer.TheVariants.{Done, Refused}
use Rattle.etcd_types.specs.declared.answer.Reply.{Reply}
use Rattle.etcd_types.specs.declared.request.Request.TheVariants as request
use Rattle.core_model.specs.Heard.{heard}
use Rattle.script_text.specs.declared.item.Item.{Item}
use Rattle.script_text.specs.declared.item.Item.TheVariants as item
use Rattle.core_laws.specs.Writes.Laws.{shows_bytes}
use Rattle.world_model.specs.Lives.{life, namespace_of, asked_as}

-- In this life of the proxy, in this order: the request was asked; a keepalive of its lease was sent, which may name another of those
-- that share it; that call was executed, to what is heard as this reply; and it was answered.
pub record Renews (namespace : List ℕ) (told : List Item) (p ticket lease : ℕ) (reply : Reply) : Type 0 where
  pub before : List Item
  pub unsent : List Item
  pub call : ℕ
  pub member : ℕ
  pub named : ℕ
  pub unexecuted : List Item
  pub answer : Answer
  pub unanswered : List Item
  pub after : List Item
  pub story :
      told
      ≡ before ++ item.Asked p ticket (request.KeepAlive lease) ∷ (unsent ++ item.Sent p call member named (request.KeepAlive lease) ∷ (unexecuted ++ item.Executed call answer ∷ (unanswered ++ item.Answered call ∷ after)))
  pub heard : heard namespace answer ≡ Some (Done reply)

abbrev pub KeepalivesRenew : List Item → Type 0
KeepalivesRenew items =
    (earlier later : List Item) (p ticket lease : ℕ) (reply : Reply)
    → items ≡ earlier ++ item.Reply p ticket (Done reply) ∷ later → asked_as p ticket (life p earlier) ≡ Some (request.KeepAlive lease)
    → Renews (namespace_of items) (life p earlier) p ticket lease reply

-- The keys that the answers of executed transactions show are made of bytes.

abbrev pub answer_shows : Answer → Bool
answer_shows (Done reply) = shows_bytes reply.body
answer_shows (Refused r) = true

abbrev pub item_shows : Item → Bool
item_shows (item.Executed call answer) = answer_shows answer
item_shows _ = true

abbrev pub AnswersShowBytes : List Item → Type 0
AnswersShowBytes items = list_all item_shows items ≡ true
