-- Transactions without writes that were answered with no call of their own: each shows what the store, as it stands at that step,
-- answers to it.
use Rattle.std.specs.Prelude.{◌≡◌, ◌≤◌, ℕ, true, false, nat_le, List, ◌∷◌, ◌++◌, Some, Ok}
use Rattle.std.specs.List.{list_all}
use Rattle.etcd_types.specs.declared.answer.Answer.TheVariants.{Done}
use Rattle.etcd_types.specs.declared.answer.Reply.{Reply}
use Rattle.etcd_types.specs.declared.operation.TxnAsk.{TxnAsk}
use Rattle.etcd_types.specs.declared.request.Request.TheVariants as request
use Rattle.core_model.specs.Kinds.{writes_keys}
use Rattle.proxy_model.specs.Unwrapped.{reply_without}
use Rattle.proxy_model.specs.Wrapped.{request_under}
use Rattle.script_text.specs.declared.item.Item.{Item}
use Rattle.script_text.specs.declared.item.Item.TheVariants as item
use Rattle.store_model.specs.History.{newest}
use Rattle.store_model.specs.Step.{exec}
use Rattle.world_model.specs.Answers.{seen}
use Rattle.world_model.specs.Lives.{life, rest_of_life, namespace_of, asked_as, is_named}
use Rattle.world_model.specs.Reads.{given}

-- The body is the store's answer to the transaction under the namespace, without the namespace: each member reads the newest state, so
-- any of them answers so.
pub record TrueSnapshot (items : List Item) (p : ℕ) (t : TxnAsk) (reply : Reply) : Type 0 where
  pub member : ℕ
  pub stored : Reply
  pub bare : Reply
  pub answered : (exec (seen items).store member (request_under (namespace_of items) (request.Txn t))).1 ≡ Done stored
  pub unwrapped : reply_without (namespace_of items) stored ≡ Ok bare
  pub body : reply.body ≡ bare.body
  pub not_below : list_all (λ r. nat_le r reply.header.revision) (given p items) ≡ true
  pub not_above : reply.header.revision ≤ newest (seen items).store.history

abbrev pub UnsentSnapshotsAreTrue : List Item → Type 0
UnsentSnapshotsAreTrue items =
    (earlier later : List Item) (p ticket : ℕ) (t : TxnAsk) (reply : Reply) → items ≡ earlier ++ item.Reply p ticket (Done reply) ∷ later
    → asked_as p ticket (life p earlier) ≡ Some (request.Txn t) → writes_keys (request.Txn t) ≡ false
    → is_named p ticket (life p earlier ++ rest_of_life p later) ≡ false → TrueSnapshot earlier p t reply
