-- The body of a put's answer as etcd writes it is read as the header that it tells. etcd puts the revision before the term, an object keeps its members in byte order.
use Rattle.std.proofs.Common.{◌≡◌, ℕ, ◌<◌, ◌^◌, List, [], ◌++◌, take, drop, codes, Option, Some, Ok, option_and_then, decimal, refl, sym, ap, ◌∙◌, lit≤, append_assoc, append-nil}
use Rattle.std.specs.Prelude.{IsUtf8}
use Rattle.std.proofs.lemmas.Fmt.{IsAscii-decimal}
use Rattle.std.proofs.lemmas.List.{take-append-drop}
use Rattle.std.proofs.lemmas.Str.{IsUtf8-from_ascii, IsUtf8-append}
use Rattle.json.specs.Token.{Token}
use Rattle.json.specs.Lex.{tokens}
use Rattle.json.specs.Print.{print, escape, escape_byte}
use Rattle.json.specs.Json as json
use Rattle.json.specs.Tree as tree
use Rattle.json.proofs.Printed.Trees.{document-print, value-json_tokens}
use Rattle.json.proofs.Printed.Utf8.{IsUtf8-are_ascii}
use Rattle.json.proofs.Unique.Spelling.{tokens-document}
use Rattle.serde_json.specs.Data.{Data, string, object, Members, no_members, member}
use Rattle.serde_json.specs.Find.{as_object}
use Rattle.serde_json.specs.Read.{read, max_depth, of_json}
use Rattle.serde_json.specs.Written.{outline, compact_text}
use Rattle.serde_json.proofs.Texts.{print-outline}
use Rattle.etcd_types.specs.declared.record.Header.{Header}
use Rattle.etcd_types.specs.declared.operation.PutAsk.{PutAsk}
use Rattle.etcd_types.specs.declared.request.Request.TheVariants as request
use Rattle.etcd_types.specs.declared.answer.Answer.TheVariants.{Done}
use Rattle.json_model.specs.FieldNames as names
use Rattle.json_model.specs.Tables.{header_fields, put_reply_fields}
use Rattle.json_model.specs.Known.{once}
use Rattle.json_model.specs.Fields.{number_from}
use Rattle.json_model.specs.Texts.{object_of, line_object}
use Rattle.json_model.specs.Replies.{numbers_in, header_from, header_in, put_body}
use Rattle.json_model.specs.Answers.{reply_in, answer_of}
use Rattle.json_model.specs.FitReplies.{HeaderFits}
use Rattle.json_model.proofs.TextLemmas.{json_is}
use Rattle.json_model.proofs.WrittenValues.{decimal_back}
use Rattle.direct_json.proofs.Plain.{escape_decimal}
use Rattle.json_laws.proofs.LineTexts.{object_line}
use Rattle.json_laws.proofs.PlainValues.{wide}
use Rattle.api_reply.specs.PlainAnswers.{plain_reply, text_with, plain_text}

-- ---- the object, by the texts of the cluster's, the member's, the revision's and the term's number

-- as etcd writes it
abbrev as_written : List ℕ → List ℕ → List ℕ → List ℕ → Members
as_written c m r t =
    member names.cluster_id.0 (string c) (member names.member_id.0 (string m) (member names.revision.0 (string r) (member names.raft_term.0 (string t) no_members)))

-- as it is kept
abbrev as_kept : List ℕ → List ℕ → List ℕ → List ℕ → Members
as_kept c m r t =
    member names.cluster_id.0 (string c) (member names.member_id.0 (string m) (member names.raft_term.0 (string t) (member names.revision.0 (string r) no_members)))

abbrev in_header : Members → Members
in_header ms = member names.header.0 (object ms) no_members

abbrev written_text : List ℕ → List ℕ → List ℕ → List ℕ → List ℕ
written_text c m r t = compact_text (object (in_header (as_written c m r t)))

-- ---- reading its text

abbrev whole : Option (json.Json × List Token) → Option Data
whole r = option_and_then of_json (option_and_then (λ p. json.if_last p.0 p.1) r)

written_read : (c m r t : List ℕ) → read (written_text c m r t) ≡ Some (object (in_header (as_kept c m r t)))
written_read c m r t =
    let d : Data = object (in_header (as_written c m r t)) in
    let j : json.Json = outline d in
    let same = ap tokens (sym (print-outline d)) ∙ tokens-document (print (tree.json_tokens j)) j (document-print j ((tt, (tt, (tt, (tt, tt)))), tt) (lit≤ tt)) in
    ap (λ ts. whole (json.value max_depth ts)) (same ∙ sym (append-nil (tree.json_tokens j))) ∙ ap whole (value-json_tokens j max_depth [] (lit≤ tt))

escaped_text : (c m r t : List ℕ) → written_text c m r t ≡ text_with (escape c) (escape m) (escape r) (escape t)
unfolding escape_byte
escaped_text c m r t = simp append_assoc

-- digits stand for themselves
text_is : (h : Header) → HeaderFits h → written_text (decimal h.cluster) (decimal h.member) (decimal h.revision) (decimal h.term) ≡ plain_text h
text_is h f =
    escaped_text (decimal h.cluster) (decimal h.member) (decimal h.revision) (decimal h.term)
    ∙ (λ i. text_with (escape_decimal h.cluster f.cluster i) (escape_decimal h.member f.member i) (escape_decimal h.revision (wide h.revision f.revision) i) (escape_decimal h.term (wide h.term f.term) i))

then_digits : (piece : List ℕ) (n : ℕ) (rest : List ℕ) → IsUtf8 piece → n < 2 ^ 64 → IsUtf8 rest → IsUtf8 (piece ++ (decimal n ++ rest))
then_digits piece n rest p h r = IsUtf8-append piece _ p (IsUtf8-append (decimal n) rest (IsUtf8-from_ascii (decimal n) (IsAscii-decimal n h)) r)

text_utf8 : (h : Header) → HeaderFits h → IsUtf8 (plain_text h)
text_utf8 h f =
    then_digits (codes "{\"header\":{\"cluster_id\":\"") h.cluster _ (IsUtf8-are_ascii _ refl) f.cluster
    (then_digits (codes "\",\"member_id\":\"") h.member _ (IsUtf8-are_ascii _ refl) f.member
    (then_digits (codes "\",\"revision\":\"") h.revision _ (IsUtf8-are_ascii _ refl) (wide h.revision f.revision)
    (then_digits (codes "\",\"raft_term\":\"") h.term _ (IsUtf8-are_ascii _ refl) (wide h.term f.term) (IsUtf8-are_ascii (codes "\"}}") refl))))

abbrev kept : Header → Members
kept h = in_header (as_kept (decimal h.cluster) (decimal h.member) (decimal h.revision) (decimal h.term))

line_is : (h : Header) → HeaderFits h → line_object (plain_text h) ≡ Some (kept h)
unfolding object_of
line_is h f =
    let text = text_is h f in
    let found = ap read (sym text) ∙ written_read (decimal h.cluster) (decimal h.member) (decimal h.revision) (decimal h.term) in
    ap line_object (sym text)
    ∙ ap object_of (object_line (in_header (as_written (decimal h.cluster) (decimal h.member) (decimal h.revision) (decimal h.term))) ∙ text)
    ∙ ap (option_and_then as_object) (json_is (plain_text h) (object (kept h)) (text_utf8 h f) found)

-- ---- what the object says

number_is : (limit n : ℕ) (name : List ℕ) → n < limit → n < 2 ^ 64 → number_from limit name (string (decimal n)) ≡ Ok n
number_is limit n name within h = rw (decimal_back limit n within h) refl

header_is : (h : Header) → HeaderFits h → header_in (kept h) ≡ Ok h
unfolding header_in header_from numbers_in once header_fields
header_is h f =
    rw (
      number_is (2 ^ 64) h.cluster names.cluster_id.0 f.cluster f.cluster,
      number_is (2 ^ 64) h.member names.member_id.0 f.member f.member,
      number_is (2 ^ 63) h.revision names.revision.0 f.revision (wide h.revision f.revision),
      number_is (2 ^ 63) h.term names.raft_term.0 f.term (wide h.term f.term),
    ) refl

reply_is : (ask : PutAsk) (h : Header) → HeaderFits h → reply_in (request.Put ask) (kept h) ≡ Ok (plain_reply h)
unfolding reply_in put_body once put_reply_fields
reply_is ask h f = rw (header_is h f) refl

pub answer_is : (ask : PutAsk) (h : Header) (body : List ℕ) → body ≡ plain_text h → HeaderFits h → answer_of (request.Put ask) 200 body ≡ Ok (Done (plain_reply h))
unfolding answer_of
answer_is ask h body e f = rw (ap line_object e ∙ line_is h f, reply_is ask h f) refl

-- ---- the parts of a text

-- the digits before a place and what begins there are the whole
pub parted : (i : ℕ) (text front back digits later : List ℕ) → front ≡ take i text → back ≡ drop i text → front ≡ digits → back ≡ later → text ≡ digits ++ later
parted i text front back digits later f b e g = sym (take-append-drop i text) ∙ (λ k. (sym f ∙ e) k ++ (sym b ∙ g) k)
