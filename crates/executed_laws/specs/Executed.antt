-- What clients are told comes from executions, in the words of a transcript: each ok reply of a proxy is the answer of an executed call
-- that the proxy sent for that request after it was asked, as a caller of the etcd API takes it to be; or no call named the request.
use Rattle.std.specs.Prelude.{◌≡◌, ◌≢◌, ℕ, false, List, ◌∷◌, ◌++◌, Some}
use Rattle.etcd_types.specs.declared.answer.Answer.{Answer}
use Rattle.etcd_types.specs.declared.answer.Answer.TheVariants.{Done}
use Rattle.etcd_types.specs.declared.answer.Reply.{Reply}
use Rattle.etcd_types.specs.declared.request.Request.{Request}
use Rattle.etcd_types.specs.declared.request.Request.TheVariants as request
use Rattle.proxy_model.specs.declared.ownership.Claim.{Claim}
use Rattle.proxy_model.specs.declared.ownership.Written.TheVariants.{Wrote}
use Rattle.proxy_model.specs.Acquire.{acquire, claimed}
use Rattle.proxy_model.specs.Guarded.{guarded, written}
use Rattle.proxy_model.specs.PassingOn.{passed_on}
use Rattle.proxy_model.specs.Wrapped.{request_under}
use Rattle.read_model.specs.PlainRead.{key_of}
use Rattle.core_model.specs.Heard.{heard}
use Rattle.script_text.specs.declared.item.Item.{Item}
use Rattle.script_text.specs.declared.item.Item.TheVariants as item
use Rattle.world_model.specs.Lives.{world_of, life, asked_as, is_named}
use Rattle.renewed_laws.specs.Renewals.{Renews}
use Rattle.reply_laws.specs.Sources.{claimed_record, shows}

-- In this life of the proxy, in this order: the request was asked; a call that names its ticket was sent; that call was executed, to this
-- answer; and it was answered.
pub record Story (told : List Item) (p ticket : ℕ) (asked sent : Request) (answer : Answer) : Type 0 where
  pub before : List Item
  pub unsent : List Item
  pub call : ℕ
  pub member : ℕ
  pub unexecuted : List Item
  pub unanswered : List Item
  pub after : List Item
  pub story :
      told
      ≡ before ++ item.Asked p ticket asked ∷ (unsent ++ item.Sent p call member ticket sent ∷ (unexecuted ++ item.Executed call answer ∷ (unanswered ++ item.Answered call ∷ after)))

-- under the namespace, what was sent is the request itself, with a drawn word for its lease where it grants one
pub record Called (namespace : List ℕ) (told : List Item) (p ticket : ℕ) (q : Request) (reply : Reply) : Type 0 where
  pub word : ℕ
  pub answer : Answer
  pub story : Story told p ticket q (passed_on namespace word q) answer
  pub heard : heard namespace answer ≡ Some (Done reply)

-- it is the acquire of the key that is read, and the reply is the record that its transaction found, under the transaction's header
pub record Claimed (namespace prefix : List ℕ) (told : List Item) (p ticket : ℕ) (q : Request) (reply : Reply) : Type 0 where
  pub session : ℕ
  pub answer : Answer
  pub transaction : Reply
  pub claim : Claim
  pub story : Story told p ticket q (request_under namespace (request.Txn (acquire prefix (key_of q) session))) answer
  pub heard : heard namespace answer ≡ Some (Done transaction)
  pub claimed : claimed prefix (key_of q) transaction ≡ Some claim
  pub is : reply ≡ shows transaction.header (claimed_record claim)

-- it is the write behind the ownership keys, which are compared to these create revisions, and the reply is what its operations gave,
-- under the transaction's header
pub record Written (namespace prefix : List ℕ) (told : List Item) (p ticket : ℕ) (q : Request) (reply : Reply) : Type 0 where
  pub created : List ℕ → ℕ
  pub answer : Answer
  pub transaction : Reply
  pub story : Story told p ticket q (request_under namespace (request.Txn (guarded prefix q created))) answer
  pub heard : heard namespace answer ≡ Some (Done transaction)
  pub wrote : written prefix q transaction ≡ Some (Wrote reply)

-- where the reply comes from; calls that the proxy makes for itself name 0, which is no ticket of a script that is read
pub data Source (namespace prefix : List ℕ) (told : List Item) (p ticket : ℕ) (q : Request) (reply : Reply) : Type 0 where
  called : Called namespace told p ticket q reply → Source namespace prefix told p ticket q reply
  acquired : Claimed namespace prefix told p ticket q reply → Source namespace prefix told p ticket q reply
  wrote : Written namespace prefix told p ticket q reply → Source namespace prefix told p ticket q reply
  kept : (lease : ℕ) → q ≡ request.KeepAlive lease → Renews namespace told p ticket lease reply → Source namespace prefix told p ticket q reply
  unsent : (ticket ≢ 0 → is_named p ticket told ≡ false) → Source namespace prefix told p ticket q reply

-- its request was asked in this life
pub record IsExecuted (namespace prefix : List ℕ) (told : List Item) (p ticket : ℕ) (reply : Reply) : Type 0 where
  pub request : Request
  pub asked : asked_as p ticket told ≡ Some request
  pub source : Source namespace prefix told p ticket request reply

-- each ok reply, in the life of its proxy up to it
abbrev pub RepliesAreExecuted : List Item → Type 0
RepliesAreExecuted items =
    (earlier later : List Item) (p ticket : ℕ) (reply : Reply)
    → items ≡ earlier ++ item.Reply p ticket (Done reply) ∷ later → IsExecuted (world_of items).0 (world_of items).1 (life p earlier) p ticket reply
