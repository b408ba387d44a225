-- Unsent replies: what was answered with no call of its own so far shows what the store of the items before it holds. So it is with
-- plain reads, and with transactions that write nothing; no other read is answered so.
use Rattle.std.specs.Prelude.{ℕ, Bool, true, false, ◌&&◌, ◌||◌, nat_le, List, Option, Some, Result, Ok, Err}
use Rattle.std.specs.List.{list_all}
use Rattle.etcd_types.specs.declared.answer.Answer.{Answer}
use Rattle.etcd_types.specs.declared.answer.Answer.TheVariants.{Done, Refused}
use Rattle.etcd_types.specs.declared.answer.Body.{Body}
use Rattle.etcd_types.specs.declared.answer.Reply.{Reply}
use Rattle.etcd_types.specs.declared.operation.RangeAsk.{RangeAsk}
use Rattle.etcd_types.specs.declared.operation.TxnAsk.{TxnAsk}
use Rattle.etcd_types.specs.declared.record.Header.{Header}
use Rattle.etcd_types.specs.declared.request.Request.{Request}
use Rattle.etcd_types.specs.declared.request.Request.TheVariants as request
use Rattle.core_model.specs.Kinds.{writes_keys}
use Rattle.proxy_model.specs.Snapshot.{is_plain}
use Rattle.proxy_model.specs.Unwrapped.{reply_without}
use Rattle.proxy_model.specs.Wrapped.{request_under}
use Rattle.script_text.specs.declared.item.Item.{Item}
use Rattle.script_text.specs.declared.item.Item.TheVariants as item
use Rattle.store_model.specs.History.{newest}
use Rattle.store_model.specs.Step.{exec}
use Rattle.world_model.specs.Answers.{seen}
use Rattle.world_model.specs.Lives.{life, namespace_of, asked_as, is_named}
use Rattle.world_model.specs.Reads.{given, shown_now}
use Rattle.equal_values.specs.Bodies.{same_body}

-- no header that the proxy was given in this life is newer than this one, and the store is no older
abbrev pub is_true_header : List Item → ℕ → Header → Bool
is_true_header before p h = list_all (λ r. nat_le r h.revision) (given p before) && nat_le h.revision (newest (seen before).store.history)

abbrev pub is_true_read : List Item → ℕ → RangeAsk → Reply → Bool
is_true_read before p ask r = is_plain ask && same_body r.body (shown_now before ask.range.key) && is_true_header before p r.header

-- the body is that of the answer without the namespace
abbrev pub is_body_of : Body → Result Reply (List ℕ) → Bool
is_body_of told (Ok bare) = same_body told bare.body
is_body_of told (Err key) = false

abbrev pub is_bare_body : List ℕ → Body → Answer → Bool
is_bare_body namespace told (Done stored) = is_body_of told (reply_without namespace stored)
is_bare_body namespace told (Refused why) = false

-- What the store answers to it at member 1: each member reads the newest state, so any of them answers so.
abbrev pub is_true_snapshot : List Item → ℕ → TxnAsk → Reply → Bool
is_true_snapshot before p t r =
    is_bare_body (namespace_of before) r.body (exec (seen before).store 1 (request_under (namespace_of before) (request.Txn t))).1
    && is_true_header before p r.header

abbrev pub is_true_unsent : List Item → ℕ → Option Request → Reply → Bool
is_true_unsent before p (Some (request.Range ask)) r = is_true_read before p ask r
is_true_unsent before p (Some (request.Txn t)) r = writes_keys (request.Txn t) || is_true_snapshot before p t r
is_true_unsent before p q r = true

abbrev pub replies_so : List Item → Item → Bool
replies_so before (item.Reply p ticket (Done r)) =
    is_named p ticket (life p before) || is_true_unsent before p (asked_as p ticket (life p before)) r
replies_so before _ = true
