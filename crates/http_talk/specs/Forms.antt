-- How the body of an answer is written: as the JSON mapping has it, or, where that was asked for, a refusal as the gateway of etcd 3.4 writes
-- it (grpc-gateway, runtime.DefaultHTTPError): the text twice, as `error` and as `message`, and the code.
use Rattle.std.specs.Prelude.{ℕ, List, ◌++◌, codes}
use Rattle.std.specs.Fmt.{decimal}
use Rattle.std.specs.Str.Lossy.{utf8_lossy}
use Rattle.serde_json.specs.Data.{string}
use Rattle.serde_json.specs.Written.{compact_text}
use Rattle.etcd_types.specs.declared.answer.Answer.{Answer}
use Rattle.etcd_types.specs.declared.answer.Answer.TheVariants.{Done, Refused}
use Rattle.etcd_types.specs.declared.answer.Refusal.{Refusal}
use Rattle.json_model.specs.WrittenReplies.{answer_text}
use Rattle.http_talk.specs.declared.form.RefusalForm.{RefusalForm}
use Rattle.http_talk.specs.declared.form.RefusalForm.TheVariants.{Mapping, Etcd}

-- a text as a JSON string, in which what isn't UTF-8 is replaced
abbrev pub string_text : List ℕ → List ℕ
string_text text = compact_text (string (utf8_lossy text))

unfoldable pub etcd_text : Refusal → List ℕ
etcd_text r =
    codes "{\"error\":" ++ string_text r.text ++ codes ",\"message\":" ++ string_text r.text ++ codes ",\"code\":" ++ decimal r.code ++ codes "}"

-- the body of an answer: the mapping's own, but for refusals in etcd's form
abbrev pub body_by : RefusalForm → Answer → List ℕ
body_by Mapping answer = answer_text answer
body_by Etcd (Done reply) = answer_text (Done reply)
body_by Etcd (Refused refusal) = etcd_text refusal
