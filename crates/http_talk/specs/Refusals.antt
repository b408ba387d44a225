-- Refusals of requests, by their code, status, words and form: of bytes that are no request, of a head, and of what the JSON mapping doesn't know.
use Rattle.std.specs.Prelude.{ℕ, List, if◌then◌else◌, codes, nat_eq}
use Rattle.std.specs.Cmp.Lexicographic.{pointwise}
use Rattle.etcd_types.specs.declared.answer.Answer.{Answer}
use Rattle.etcd_types.specs.declared.answer.Answer.TheVariants.{Refused as Refusing}
use Rattle.etcd_types.specs.declared.code.TheConstants.{INVALID_ARGUMENT, NOT_FOUND, UNIMPLEMENTED}
use Rattle.json_model.specs.WrittenReplies.{answer_status}
use Rattle.json_model.specs.declared.fault.ApiFault.{ApiFault}
use Rattle.json_model.specs.declared.fault.ApiFault.TheVariants as api
use Rattle.json_model.specs.FaultNames.{fault_words}
use Rattle.http_wire.specs.Written.{reply, bodiless_reply}
use Rattle.http_talk.specs.Forms.{body_by}
use Rattle.http_talk.specs.declared.form.RefusalForm.{RefusalForm}
use Rattle.http_talk.specs.declared.refused.Refused.{Refused}
use Rattle.http_talk.specs.declared.refused.Refused.TheVariants as refused

abbrev pub fault_code : ApiFault → ℕ
fault_code api.NoSuchPath = NOT_FOUND
fault_code (api.Unsupported name) = UNIMPLEMENTED
fault_code _ = INVALID_ARGUMENT

abbrev pub refused_code : Refused → ℕ
refused_code refused.Bytes = INVALID_ARGUMENT
refused_code refused.Encoding = UNIMPLEMENTED
refused_code refused.Method = UNIMPLEMENTED
refused_code (refused.Request fault) = fault_code fault

unfoldable pub refused_words : Refused → List ℕ
refused_words refused.Bytes = codes "proxy: bad request"
refused_words refused.Encoding = codes "proxy: unsupported: Content-Encoding"
refused_words refused.Method = codes "proxy: method not allowed"
refused_words (refused.Request fault) = fault_words fault

-- as an answer of the core's would be
abbrev pub refused_answer : Refused → Answer
refused_answer r = Refusing (record { code = refused_code r; text = refused_words r })

-- a method has a status of its own
abbrev pub refused_status : Refused → ℕ
refused_status refused.Method = 405
refused_status r = answer_status (refused_answer r)

abbrev pub refused_body : RefusalForm → Refused → List ℕ
refused_body form r = body_by form (refused_answer r)

unfoldable pub refusal : RefusalForm → Refused → List ℕ
refusal form r = reply (refused_status r) (refused_body form r)

-- a reply of this status to a request with this method: the one to a HEAD has no body
abbrev pub reply_to : List ℕ → ℕ → List ℕ → List ℕ
reply_to method status body =
    if pointwise nat_eq method (codes "HEAD") then bodiless_reply status body
    else reply status body

-- the refusal of a request with this method
unfoldable pub refusal_to : RefusalForm → List ℕ → Refused → List ℕ
refusal_to form method r = reply_to method (refused_status r) (refused_body form r)
