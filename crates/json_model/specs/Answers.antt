-- The JSON mapping of answers: which answer to a request a status and a body are. Whatever isn't in the mapping is
-- unreadable.
use Rattle.std.specs.Prelude.{ℕ, ◌^◌, ◌==◌, ◌||◌, nat_lt, not, if◌then◌else◌, List, [], Option, Some, None, Result, Ok, Err}
use Rattle.serde_json.specs.Data.{Data, null, boolean, number, string, array, object, Members}
use Rattle.serde_json.specs.Read.{max_depth}
use Rattle.etcd_types.specs.declared.request.Request.{Request}
use Rattle.etcd_types.specs.declared.request.Request.TheVariants as request
use Rattle.etcd_types.specs.declared.answer.Body.{Body}
use Rattle.etcd_types.specs.declared.answer.Body.TheVariants as body
use Rattle.etcd_types.specs.declared.answer.Reply.{Reply}
use Rattle.etcd_types.specs.declared.answer.Refusal.{Refusal}
use Rattle.etcd_types.specs.declared.answer.Answer.{Answer}
use Rattle.etcd_types.specs.declared.answer.Answer.TheVariants.{Done, Refused}
use Rattle.json_model.specs.declared.fault.FieldFault.{FieldFault}
use Rattle.json_model.specs.declared.fault.FieldFault.TheVariants.{WrongKind, BadNumber}
use Rattle.json_model.specs.declared.fault.NotReply.{NotReply}
use Rattle.json_model.specs.declared.fault.NotReply.TheVariants.{Unreadable}
use Rattle.json_model.specs.Faults.{◌>>=◌, of_reply}
use Rattle.json_model.specs.FieldNames as names
use Rattle.json_model.specs.Fields.{value_at, number_at, child_at}
use Rattle.json_model.specs.Texts.{line_object}
use Rattle.json_model.specs.Replies.{header_in, range_body, put_body, delete_body, txn_body, grant_body, keep_alive_body, time_to_live_body, leases_body}

-- ---- refusals

-- a gRPC code, from 1
abbrev pub code_of : ℕ → Result ℕ FieldFault
code_of n = if n == 0 || not (nat_lt n (2 ^ 32)) then Err (BadNumber names.code.0) else Ok n

abbrev pub text_from : Option Data → Result (List ℕ) FieldFault
text_from None = Ok []
text_from (Some null) = Err (WrongKind names.message.0)
text_from (Some (boolean b)) = Err (WrongKind names.message.0)
text_from (Some (number n)) = Err (WrongKind names.message.0)
text_from (Some (string s)) = Ok s
text_from (Some (array ds)) = Err (WrongKind names.message.0)
text_from (Some (object ms)) = Err (WrongKind names.message.0)

unfoldable pub refusal_in : Members → Result Refusal FieldFault
refusal_in ms = do
  n ← number_at names.code ms
  code ← code_of n
  text ← text_from (value_at names.message ms)
  Ok (record { code = code; text = text })

-- ---- replies

-- the object of this name, which has to be there
abbrev pub or_wrong_kind : List ℕ → Option Members → Result Members FieldFault
or_wrong_kind name None = Err (WrongKind name)
or_wrong_kind name (Some ms) = Ok ms

abbrev pub result_in : Members → Result Members FieldFault
result_in ms = child_at names.result ms >>= or_wrong_kind names.result.0

-- the body of the reply to a request; a watch has none
abbrev pub body_in : Request → Members → Result Body FieldFault
body_in (request.Range a) ms = range_body ms
body_in (request.Put a) ms = put_body ms
body_in (request.Delete a) ms = delete_body ms
body_in (request.Txn t) ms = txn_body max_depth ms
body_in (request.Compact revision physical) ms = Ok body.Compact
body_in (request.Grant ttl lease) ms = grant_body ms
body_in (request.Revoke lease) ms = Ok body.Revoke
body_in (request.KeepAlive lease) ms = keep_alive_body ms
body_in (request.TimeToLive lease keys) ms = time_to_live_body ms
body_in request.Leases ms = leases_body ms
body_in (request.Watch a) ms = Err (WrongKind names.result.0)

-- the reply to a keepalive stands in `result`
abbrev pub reply_members : Request → Members → Result Members FieldFault
reply_members (request.Range a) ms = Ok ms
reply_members (request.Put a) ms = Ok ms
reply_members (request.Delete a) ms = Ok ms
reply_members (request.Txn t) ms = Ok ms
reply_members (request.Compact revision physical) ms = Ok ms
reply_members (request.Grant ttl lease) ms = Ok ms
reply_members (request.Revoke lease) ms = Ok ms
reply_members (request.KeepAlive lease) ms = result_in ms
reply_members (request.TimeToLive lease keys) ms = Ok ms
reply_members request.Leases ms = Ok ms
reply_members (request.Watch a) ms = Ok ms

unfoldable pub reply_in : Request → Members → Result Reply FieldFault
reply_in request ms = do
  reply ← reply_members request ms
  header ← header_in reply
  body ← body_in request reply
  Ok (record { header = header; body = body })

-- a status other than 200 is a refusal's
abbrev pub answer_in : Request → ℕ → Members → Result Answer FieldFault
answer_in request status ms =
    if status == 200 then (reply_in request ms >>= λ reply. Ok (Done reply)) else (refusal_in ms >>= λ refusal. Ok (Refused refusal))

abbrev pub or_unreadable : Option Members → Result Members NotReply
or_unreadable None = Err Unreadable
or_unreadable (Some ms) = Ok ms

unfoldable pub answer_of : Request → ℕ → List ℕ → Result Answer NotReply
answer_of request status text = do
  ms ← or_unreadable (line_object text)
  of_reply (answer_in request status ms)
