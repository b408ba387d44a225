-- The second part of the headline: a read that was answered with no call of its own shows what the store holds for its key at that
-- step. A serializable read is never answered so.
use Rattle.std.specs.Prelude.{◌≡◌, ◌≤◌, ℕ, true, false, nat_le, if◌then◌else◌, List, [], ◌∷◌, ◌++◌, Option, None, Some}
use Rattle.std.specs.List.{list_all}
use Rattle.etcd_types.specs.declared.answer.Answer.{Answer}
use Rattle.etcd_types.specs.declared.answer.Answer.TheVariants.{Done, Refused}
use Rattle.etcd_types.specs.declared.answer.Body.{Body}
use Rattle.etcd_types.specs.declared.answer.Body.TheVariants as body
use Rattle.etcd_types.specs.declared.answer.Reply.{Reply}
use Rattle.etcd_types.specs.declared.operation.RangeAsk.{RangeAsk}
use Rattle.etcd_types.specs.declared.record.Kv.{Kv}
use Rattle.etcd_types.specs.declared.request.Request.TheVariants as request
use Rattle.etcd_types.specs.declared.watch.WatchItem.{WatchItem}
use Rattle.core_model.specs.LeasingStream.{item_header}
use Rattle.proxy_model.specs.Snapshot.{is_plain}
use Rattle.script_text.specs.declared.item.Item.{Item}
use Rattle.script_text.specs.declared.item.Item.TheVariants as item
use Rattle.store_model.specs.History.{newest}
use Rattle.store_model.specs.Records.{record_now}
use Rattle.world_model.specs.Answers.{seen}
use Rattle.world_model.specs.Lives.{begins, life, rest_of_life, namespace_of, asked_as, is_named, sent_it, executed_to, opened_it, next_message}

-- Header revisions that a proxy was given: of answers and of messages.

abbrev pub answer_revisions : Option Answer → List ℕ
answer_revisions None = []
answer_revisions (Some (Done reply)) = reply.header.revision ∷ []
answer_revisions (Some (Refused why)) = []

abbrev pub message_revisions : Option WatchItem → List ℕ
message_revisions None = []
message_revisions (Some i) = (item_header i).revision ∷ []

-- by one item, behind those before it
abbrev pub given_by : ℕ → List Item → Item → List ℕ
given_by p before (item.Answered call) = if sent_it p call before then answer_revisions (executed_to call before) else []
given_by p before (item.Delivered stream) = if opened_it p stream before then message_revisions (next_message stream before) else []
given_by p before _ = []

abbrev pub given_from : ℕ → List Item → List ℕ → List Item → List ℕ
given_from p before so_far [] = so_far
given_from p before so_far (i ∷ items) =
    given_from p (before ++ i ∷ []) (if begins p i then [] else so_far ++ given_by p before i) items

-- in the proxy's life
abbrev pub given : ℕ → List Item → List ℕ
given p items = given_from p [] [] items

-- True now.

abbrev pub shown : List ℕ → Option Kv → Body
shown key None = body.Range 0 false []
shown key (Some kv) = body.Range 1 false (record kv { key = key } ∷ [])

-- what a read of the key shows after these items: the record under the namespace, told by the client's key
abbrev pub shown_now : List Item → List ℕ → Body
shown_now items key = shown key (record_now (seen items).store.history (namespace_of items ++ key))

pub record TrueNow (items : List Item) (p : ℕ) (key : List ℕ) (reply : Reply) : Type 0 where
  pub shows : reply.body ≡ shown_now items key
  pub not_below : list_all (λ r. nat_le r reply.header.revision) (given p items) ≡ true
  pub not_above : reply.header.revision ≤ newest (seen items).store.history

-- Unsent reads: no call of the proxy in that life names the ticket.

pub record UnsentRead (earlier later : List Item) (p ticket : ℕ) (ask : RangeAsk) : Type 0 where
  pub asked : asked_as p ticket (life p earlier) ≡ Some (request.Range ask)
  pub unsent : is_named p ticket (life p earlier ++ rest_of_life p later) ≡ false

-- each of them is a plain read, and its reply is true now
abbrev pub UnsentReadsAreTrue : List Item → Type 0
UnsentReadsAreTrue items =
    (earlier later : List Item) (p ticket : ℕ) (ask : RangeAsk) (reply : Reply)
    → items ≡ earlier ++ item.Reply p ticket (Done reply) ∷ later → UnsentRead earlier later p ticket ask
    → (is_plain ask ≡ true) × TrueNow earlier p ask.range.key reply
