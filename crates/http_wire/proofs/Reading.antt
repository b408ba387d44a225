-- What a parser found in the bytes is what they say.
use Rattle.std.proofs.Common.{◌≡◌, ℕ, ◌≤◌, List, [], map, take, length, drop, ap, ◌∙◌, subst, Result, Ok, Err, arith, length-take}
use Rattle.std.proofs.lemmas.List.{length-map}
use Rattle.httparse.specs.Grammar.{ResponseHead, ReadsResponse}
use Rattle.httparse.proofs.GrammarLemmas.{response_unique}
use Rattle.http_wire.specs.declared.fault.WireFault.{WireFault}
use Rattle.http_wire.specs.declared.fault.WireFault.TheVariants.{BadHead, HeadTooLong, BodyTooLong, BadChunk, EndedEarly, ReadFault, WriteFault, NoMemory}
use Rattle.http_wire.specs.declared.message.AnswerHead.{AnswerHead}
use Rattle.http_wire.specs.declared.limits.TheConstants.{FIELD_LIMIT}
use Rattle.http_wire.specs.Heads.{answer_of, answer_from, GivesAnswer, IsAnswer}
use Rattle.httparse.specs.declared.spans.HeaderSpan.{HeaderSpan}
use Rattle.httparse.specs.declared.spans.ResponseSpans.{ResponseSpans}
use Rattle.httparse.specs.Spans.{IsResponseOf, header_bytes, name_and_value}
use Rattle.std.proofs.Math.ListN.{drop_of_length-le}

-- the answer that a whole head gives
answer_found : (r : Result AnswerHead WireFault) (bytes : List ℕ) (h : ResponseHead)
    → ReadsResponse bytes h [] → length h.fields ≤ FIELD_LIMIT → GivesAnswer r (answer_of h) → IsAnswer bytes r
answer_found (Ok answer) bytes h reads few given = (h, reads, few, given)
answer_found (Err BadHead) bytes h reads few given = λ k other _. ap answer_of (response_unique bytes k h [] [] other reads).0 ∙ given
answer_found (Err HeadTooLong) bytes h reads few given = absurd given
answer_found (Err BodyTooLong) bytes h reads few given = absurd given
answer_found (Err BadChunk) bytes h reads few given = absurd given
answer_found (Err EndedEarly) bytes h reads few given = absurd given
answer_found (Err ReadFault) bytes h reads few given = absurd given
answer_found (Err WriteFault) bytes h reads few given = absurd given
answer_found (Err NoMemory) bytes h reads few given = absurd given

-- the answer that the spans of a whole head give
pub answer_read : (r : Result AnswerHead WireFault) (bytes : List ℕ) (headers : List HeaderSpan) (spans : ResponseSpans)
    → GivesAnswer r (answer_from spans.version spans.code (map (header_bytes bytes) (take spans.headers headers)))
    → IsResponseOf bytes headers spans → spans.len ≡ length bytes → length headers ≡ FIELD_LIMIT → IsAnswer bytes r
answer_read r bytes headers spans given of whole room =
    let h = of.0 in
    let at = of.1 in
    let none : drop spans.len bytes ≡ [] = drop_of_length-le bytes (omega arith) in
    let reads : ReadsResponse bytes h [] = subst (λ (rest : List ℕ). ReadsResponse bytes h rest) none at.reads in
    let few : length h.fields ≤ FIELD_LIMIT = omega (arith, ap length at.fields, length-map (take spans.headers headers) (header_bytes bytes), length-map h.fields name_and_value, length-take spans.headers headers) in
    let same : answer_from spans.version spans.code (map (header_bytes bytes) (take spans.headers headers)) ≡ answer_of h =
    λ i. answer_from (at.version i) (at.code i) (at.fields i) in
    answer_found r bytes h reads few (subst (GivesAnswer r) same given)
