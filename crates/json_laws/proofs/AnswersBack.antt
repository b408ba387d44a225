-- The text that is written for an answer is read back as the answer.
use Rattle.std.proofs.Common.{◌≡◌, ℕ, ◌<◌, ◌≤◌, ◌^◌, ◌==◌, ◌||◌, Bool, true, false, cond, not, nat_lt, List, [], ◌∷◌, Some, Result, Ok, Err, refl, ap, ◌∙◌, arith}
use Rattle.std.proofs.lemmas.Bool.{cond-true, cond-false, lt-ltb}
use Rattle.std.proofs.lemmas.Bool.Decides.{nat_tests}
use Rattle.std.proofs.lemmas.Str.{utf8_lossy-IsUtf8}
use Rattle.serde_json.specs.Data.{object, Members, depth, members_depth}
use Rattle.serde_json.specs.Read.{max_depth}
use Rattle.serde_json.specs.Written.{compact_text}
use Rattle.etcd_types.specs.declared.record.Header.{Header}
use Rattle.etcd_types.specs.declared.request.Request.{Request}
use Rattle.etcd_types.specs.declared.request.Request.TheVariants as request
use Rattle.etcd_types.specs.declared.answer.Body.{Body}
use Rattle.etcd_types.specs.declared.answer.Body.TheVariants as body
use Rattle.etcd_types.specs.declared.answer.Reply.{Reply}
use Rattle.etcd_types.specs.declared.answer.Refusal.{Refusal}
use Rattle.etcd_types.specs.declared.answer.Answer.{Answer}
use Rattle.etcd_types.specs.declared.answer.Answer.TheVariants.{Done, Refused}
use Rattle.etcd_types.proofs.Bools.{or_none}
use Rattle.json_model.specs.declared.path.Path.{Path}
use Rattle.json_model.specs.declared.path.Path.TheVariants as path
use Rattle.json_model.specs.declared.fault.FieldFault.{FieldFault}
use Rattle.json_model.specs.declared.fault.FieldFault.TheVariants.{WrongKind}
use Rattle.json_model.specs.Faults.{◌>>=◌}
use Rattle.json_model.specs.FieldNames as names
use Rattle.json_model.specs.Tables.{put_reply_fields, delete_reply_fields}
use Rattle.json_model.specs.Numbers.{below}
use Rattle.json_model.specs.Texts.{line_object, object_of}
use Rattle.json_model.specs.Written.{field, members_of}
use Rattle.json_model.specs.WrittenRequests.{request_path}
use Rattle.json_model.specs.WrittenReplies.{header_field, range_fields_of, put_fields_of, delete_fields_of, lease_fields_of, time_to_live_fields_of, leases_fields_of, txn_fields_of, row_responses, body_fields, in_result, result_text, is_keep_alive, reply_text, refusal_written, status_of, answer_status, answer_text}
use Rattle.json_model.specs.Replies.{header_in, range_body, put_body, delete_body, txn_body, grant_body, keep_alive_body, time_to_live_body, leases_body}
use Rattle.json_model.specs.Answers.{code_of, refusal_in, result_in, body_in, reply_members, reply_in, answer_of}
use Rattle.json_model.specs.FitReplies.{BodyFits, reply_path, ReplyFits, RefusalFits, AnswerFits}
use Rattle.json_model.proofs.WrittenObjects.{distinct, one_name, two_names, once_written}
use Rattle.json_model.proofs.WrittenTexts.{HasPlain, object_back}
use Rattle.json_laws.proofs.LineTexts.{without_feed, object_line}
use Rattle.json_laws.proofs.PlainReplies.{plain_reply, plain_refusal, plain_result}
use Rattle.json_laws.proofs.RepliesBack.{header_found, range_body_back, put_body_back, delete_body_back, lease_numbers_back, time_to_live_body_back, leases_body_back}
use Rattle.json_laws.proofs.ResponsesBack.{txn_body_back}

-- ---- lines

pub line_back : (ms : Members) → HasPlain ms → depth (object ms) ≤ max_depth → line_object (compact_text (object ms)) ≡ Some ms
line_back ms h deep = ap object_of (object_line ms) ∙ object_back ms h deep

pub result_back : (ms : Members) → HasPlain ms → depth (in_result (object ms)) ≤ max_depth → line_object (result_text (object ms)) ≡ Some (members_of (field names.result (Some (object ms)) ∷ []))
result_back ms h deep =
    let outer = members_of (field names.result (Some (object ms)) ∷ []) in
    ap object_of (without_feed (compact_text (object outer))) ∙ object_back outer (plain_result ms h) deep

-- ---- replies by the path of their requests

abbrev body_by : Path → Members → Result Body FieldFault
body_by path.Range ms = range_body ms
body_by path.Put ms = put_body ms
body_by path.DeleteRange ms = delete_body ms
body_by path.Txn ms = txn_body max_depth ms
body_by path.Compaction ms = Ok body.Compact
body_by path.LeaseGrant ms = grant_body ms
body_by path.LeaseRevoke ms = Ok body.Revoke
body_by path.LeaseKeepAlive ms = keep_alive_body ms
body_by path.LeaseTimeToLive ms = time_to_live_body ms
body_by path.LeaseLeases ms = leases_body ms
body_by path.Watch ms = Err (WrongKind names.result.0)

abbrev members_by : Path → Members → Result Members FieldFault
members_by path.Range ms = Ok ms
members_by path.Put ms = Ok ms
members_by path.DeleteRange ms = Ok ms
members_by path.Txn ms = Ok ms
members_by path.Compaction ms = Ok ms
members_by path.LeaseGrant ms = Ok ms
members_by path.LeaseRevoke ms = Ok ms
members_by path.LeaseKeepAlive ms = result_in ms
members_by path.LeaseTimeToLive ms = Ok ms
members_by path.LeaseLeases ms = Ok ms
members_by path.Watch ms = Ok ms

by_path : (r : Request) (ms : Members) → (body_in r ms ≡ body_by (request_path r) ms) × (reply_members r ms ≡ members_by (request_path r) ms)
by_path (request.Range a) ms = (refl, refl)
by_path (request.Put a) ms = (refl, refl)
by_path (request.Delete a) ms = (refl, refl)
by_path (request.Txn t) ms = (refl, refl)
by_path (request.Compact revision physical) ms = (refl, refl)
by_path (request.Grant ttl lease) ms = (refl, refl)
by_path (request.Revoke lease) ms = (refl, refl)
by_path (request.KeepAlive lease) ms = (refl, refl)
by_path (request.TimeToLive lease keys) ms = (refl, refl)
by_path request.Leases ms = (refl, refl)
by_path (request.Watch a) ms = (refl, refl)

-- the whole object, from that of the reply
abbrev outer : Bool → Members → Members
outer true ms = members_of (field names.result (Some (object ms)) ∷ [])
outer false ms = ms

members_back : (b : Body) (ms : Members) → members_by (reply_path b) (outer (is_keep_alive b) ms) ≡ Ok ms
members_back (body.Range count more kvs) ms = refl
members_back (body.Put prev) ms = refl
members_back (body.Delete deleted prevs) ms = refl
members_back (body.Txn' succeeded m row) ms = refl
members_back body.Compact ms = refl
members_back (body.Grant lease ttl) ms = refl
members_back body.Revoke ms = refl
members_back (body.KeepAlive lease ttl) ms = refl
members_back (body.TimeToLive lease ttl granted keys) ms = refl
members_back (body.Leases leases) ms = refl

reply_distinct : (h : Header) (b : Body) → distinct (header_field h ∷ body_fields b) ≡ true
unfolding range_fields_of put_fields_of delete_fields_of lease_fields_of time_to_live_fields_of leases_fields_of txn_fields_of
reply_distinct h (body.Range count more kvs) = refl
reply_distinct h (body.Put prev) = refl
reply_distinct h (body.Delete deleted prevs) = refl
reply_distinct h (body.Txn' succeeded m row) = refl
reply_distinct h body.Compact = refl
reply_distinct h (body.Grant lease ttl) = refl
reply_distinct h body.Revoke = refl
reply_distinct h (body.KeepAlive lease ttl) = refl
reply_distinct h (body.TimeToLive lease ttl granted keys) = refl
reply_distinct h (body.Leases leases) = refl

-- an object's members nest one less deep than the object
members_below : (ms : Members) → depth (object ms) ≤ max_depth → members_depth ms ≤ 126
members_below ms deep = omega arith

body_back : (h : Header) (b : Body) → BodyFits b → depth (cond (is_keep_alive b) (in_result (object (members_of (header_field h ∷ body_fields b)))) (object (members_of (header_field h ∷ body_fields b)))) ≤ max_depth
    → body_by (reply_path b) (members_of (header_field h ∷ body_fields b)) ≡ Ok b
unfolding range_fields_of put_fields_of delete_fields_of lease_fields_of time_to_live_fields_of leases_fields_of txn_fields_of put_reply_fields delete_reply_fields
body_back h (body.Range count more kvs) f deep =
    range_body_back (header_field h ∷ range_fields_of count more kvs) count more kvs refl (one_name _, one_name _, one_name _) f.0 f.1
body_back h (body.Put prev) f deep =
    let fs = header_field h ∷ put_fields_of prev in
    put_body_back fs prev refl (once_written put_reply_fields fs refl) (two_names _) f
body_back h (body.Delete deleted prevs) f deep =
    let fs = header_field h ∷ delete_fields_of deleted prevs in
    delete_body_back fs deleted prevs refl (once_written delete_reply_fields fs refl) (one_name _) (two_names _) f.0 f.1
body_back h (body.Txn' succeeded m row) f deep =
    txn_body_back 126 (header_field h ∷ txn_fields_of succeeded (row_responses row)) succeeded m row refl (one_name _, one_name _, refl) f (members_below _ deep)
body_back h body.Compact f deep = refl
body_back h (body.Grant lease ttl) f deep =
    ap (λ r. r >>= λ numbers. Ok (body.Grant numbers.0 numbers.1)) (lease_numbers_back (header_field h ∷ lease_fields_of lease ttl) lease ttl refl (one_name _) (one_name _) f.0 f.1)
body_back h body.Revoke f deep = refl
body_back h (body.KeepAlive lease ttl) f deep =
    ap (λ r. r >>= λ numbers. Ok (body.KeepAlive numbers.0 numbers.1)) (lease_numbers_back (header_field h ∷ lease_fields_of lease ttl) lease ttl refl (one_name _) (one_name _) f.0 f.1)
body_back h (body.TimeToLive lease ttl granted keys) f deep =
    time_to_live_body_back (header_field h ∷ time_to_live_fields_of lease ttl granted keys) lease ttl granted keys refl (one_name _, one_name _, one_name _, one_name _) f.0 f.1 f.2 f.3
body_back h (body.Leases leases) f deep = leases_body_back (header_field h ∷ leases_fields_of leases) leases refl (one_name _) f

reply_parts : (r : Request) (h : Header) (b : Body) (whole ms : Members) → reply_members r whole ≡ Ok ms → header_in ms ≡ Ok h → body_in r ms ≡ Ok b → reply_in r whole ≡ Ok (record { header = h; body = b })
unfolding reply_in
reply_parts r h b whole ms e f g = rw (e, f, g) refl

reply_back : (r : Request) (reply : Reply) → ReplyFits r reply → reply_in r (outer (is_keep_alive reply.body) (members_of (header_field reply.header ∷ body_fields reply.body))) ≡ Ok reply
reply_back r reply f =
    let fs = header_field reply.header ∷ body_fields reply.body in
    let whole = outer (is_keep_alive reply.body) (members_of fs) in
    let parts : reply_members r whole ≡ Ok (members_of fs) =
    (by_path r whole).1 ∙ ap (λ (p : Path). members_by p whole) f.asked ∙ members_back reply.body (members_of fs) in
    let said : body_in r (members_of fs) ≡ Ok reply.body =
    (by_path r (members_of fs)).0 ∙ ap (λ (p : Path). body_by p (members_of fs)) f.asked ∙ body_back reply.header reply.body f.body f.shallow in
    reply_parts r reply.header reply.body whole (members_of fs) parts (header_found reply.header fs f.header (reply_distinct reply.header reply.body) refl) said

text_back : (k : Bool) (ms : Members) → HasPlain ms → depth (cond k (in_result (object ms)) (object ms)) ≤ max_depth → line_object (cond k (result_text (object ms)) (compact_text (object ms))) ≡ Some (outer k ms)
text_back true ms h deep = result_back ms h deep
text_back false ms h deep = line_back ms h deep

done_back : (r : Request) (reply : Reply) → ReplyFits r reply → answer_of r 200 (reply_text reply) ≡ Ok (Done reply)
unfolding answer_of
done_back r reply f =
    let ms = members_of (header_field reply.header ∷ body_fields reply.body) in
    rw (text_back (is_keep_alive reply.body) ms (plain_reply reply.header reply.body f.header f.body) f.shallow, reply_back r reply f) refl

-- ---- refusals

other : (b : Bool) (x y : ℕ) → (x == 200) ≡ false → (y == 200) ≡ false → (cond b x y == 200) ≡ false
other true x y e f = e
other false x y e f = f

-- the statuses from each code's on
abbrev from_4 : ℕ → ℕ
from_4 code = cond (code == 4) 504 500

abbrev from_14 : ℕ → ℕ
from_14 code = cond (code == 14) 503 (from_4 code)

abbrev from_12 : ℕ → ℕ
from_12 code = cond (code == 12) 501 (from_14 code)

abbrev from_5 : ℕ → ℕ
from_5 code = cond (code == 5) 404 (from_12 code)

abbrev from_7 : ℕ → ℕ
from_7 code = cond (code == 7) 403 (from_5 code)

status_other : (code : ℕ) → (status_of code == 200) ≡ false
status_other code =
    other (code == 3 || code == 9 || code == 11) 400 (from_7 code) refl
    (other (code == 7) 403 (from_5 code) refl
    (other (code == 5) 404 (from_12 code) refl
    (other (code == 12) 501 (from_14 code) refl
    (other (code == 14) 503 (from_4 code) refl (other (code == 4) 504 500 refl refl)))))

wide_code : (n : ℕ) → n < 2 ^ 32 → n < 2 ^ 63
wide_code n h = omega arith

code_within : (n : ℕ) → n < 2 ^ 32 → below (2 ^ 63) n ≡ Some n
code_within n h = cond-true _ _ _ (lt-ltb n (2 ^ 63) (wide_code n h))

not_zero : (n : ℕ) → 0 < n → (n == 0) ≡ false
not_zero n h = grind (arith, nat_tests)

code_tests : (n : ℕ) → 0 < n → n < 2 ^ 32 → (n == 0 || not (nat_lt n (2 ^ 32))) ≡ false
code_tests n some h = or_none (n == 0) (not (nat_lt n (2 ^ 32))) (not_zero n some) (ap not (lt-ltb n (2 ^ 32) h))

code_back : (n : ℕ) → 0 < n → n < 2 ^ 32 → code_of n ≡ Ok n
code_back n some h = cond-false _ _ _ (code_tests n some h)

abbrev refusal_with : ℕ → List ℕ → Refusal
refusal_with code text = record { code = code; text = text }

refusal_back : (r : Refusal) → RefusalFits r → refusal_in (members_of (refusal_written r)) ≡ Ok r
unfolding refusal_in refusal_written
refusal_back r f = rw (code_within r.code f.code, code_back r.code f.some f.code) (ap (λ (text : List ℕ). Ok (refusal_with r.code text)) (utf8_lossy-IsUtf8 r.text f.text))

refusal_depth : (r : Refusal) → depth (object (members_of (refusal_written r))) ≤ max_depth
unfolding refusal_written
refusal_depth r = omega arith

refused_back : (r : Request) (refusal : Refusal) → RefusalFits refusal → answer_of r (status_of refusal.code) (compact_text (object (members_of (refusal_written refusal)))) ≡ Ok (Refused refusal)
unfolding answer_of
refused_back r refusal f =
    rw (line_back _ (plain_refusal refusal f) (refusal_depth refusal), status_other refusal.code, refusal_back refusal f) refl

pub answer_back : (r : Request) (answer : Answer) → AnswerFits r answer → answer_of r (answer_status answer) (answer_text answer) ≡ Ok answer
answer_back r (Done reply) f = done_back r reply f
answer_back r (Refused refusal) f = refused_back r refusal f
