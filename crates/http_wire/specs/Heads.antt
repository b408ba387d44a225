-- What a head says: of a request, and of an answer.
use Rattle.std.specs.Prelude.{◌≡◌, ℕ, ◌<◌, ◌≤◌, Bool, false, not, ◌&&◌, ◌||◌, List, [], length, take, drop, map, Option, None, Some, Result, Ok, Err, if◌then◌else◌, ◌==◌, nat_lt, nat_le, unwrap_or, codes, ⊤}
use Rattle.std.specs.List.{list_any}
use Rattle.httparse.specs.Grammar.{RequestHead, ReadsRequest, ResponseHead, ReadsResponse, status_code, Field, LineEnd, ReadsSection}
use Rattle.httparse.specs.Spans.{name_and_value}
use Rattle.http1.specs.Text.{eq_ignore_case}
use Rattle.http1.specs.Fields.{Header, is_named, known_fields}
use Rattle.http1.specs.declared.fields.KnownFields.{KnownFields}
use Rattle.http1.specs.declared.fields.ContentLength.{ContentLength}
use Rattle.http1.specs.declared.fields.ContentLength.TheVariants as size
use Rattle.http1.specs.declared.fields.TransferEncoding.{TransferEncoding}
use Rattle.http1.specs.declared.fields.TransferEncoding.TheVariants as coding
use Rattle.http_wire.specs.declared.fault.WireFault.{WireFault}
use Rattle.http_wire.specs.declared.fault.WireFault.TheVariants.{BadHead, HeadTooLong, EndedEarly, ReadFault, NoMemory}
use Rattle.http_wire.specs.declared.message.AnswerHead.{AnswerHead}
use Rattle.http_wire.specs.declared.message.Framing.{Framing}
use Rattle.http_wire.specs.declared.message.Framing.TheVariants as framing
use Rattle.http_wire.specs.declared.message.Head.{Head}
use Rattle.http_wire.specs.declared.scan.Ending.TheVariants as ending
use Rattle.http_wire.specs.declared.limits.TheConstants.{FIELD_LIMIT}
use Rattle.http_wire.specs.Ends.{head_end}

-- the framing of one Content-Length, of the one coding `chunked`, or of neither
abbrev pub framed : ContentLength → TransferEncoding → Result (Option Framing) WireFault
framed size.Absent coding.Absent = Ok None
framed (size.Value n) coding.Absent = Ok (Some (framing.Length n))
framed size.Absent coding.Chunked = Ok (Some (framing.Chunks 0 false))
framed _ _ = Err BadHead

-- the framing that the fields state, at most once in all
abbrev pub stated : KnownFields → Result (Option Framing) WireFault
stated k = if nat_lt 1 k.framing_fields || k.other_coding then Err BadHead else framed k.content_length k.transfer_encoding

-- a Content-Encoding other than `identity`
abbrev pub is_encoding : Header → Bool
is_encoding h = is_named (codes "content-encoding") h && not (eq_ignore_case h.1 (codes "identity"))

-- the head that these parts make
abbrev pub head_with : List ℕ → List ℕ → List Header → Result (Option Framing) WireFault → Result Head WireFault
head_with method target fields (Err e) = Err e
head_with method target fields (Ok found) = Ok (record {
  method = method;
  path = target;
  framing = unwrap_or found (framing.Length 0);
  close = (known_fields fields).close;
  expects = (known_fields fields).expect_continue;
  encoded = list_any is_encoding fields;
})

-- what a request of this version, method, target and fields says
abbrev pub head_from : ℕ → List ℕ → List ℕ → List Header → Result Head WireFault
head_from minor method target fields =
    if minor == 1 && (known_fields fields).hosts == 1 then head_with method target fields (stated (known_fields fields)) else Err BadHead

-- what a request's head says: HTTP/1.1, exactly one Host, and no body where none is stated
abbrev pub head_of : RequestHead → Result Head WireFault
head_of h = head_from h.minor h.method h.target (map name_and_value h.fields)

-- the head, or a fault; want of memory may come in place of either
abbrev pub GivesHead : Result Head WireFault → Result Head WireFault → Type 0
GivesHead (Ok head) expected = expected ≡ Ok head
GivesHead (Err BadHead) expected = expected ≡ Err BadHead
GivesHead (Err NoMemory) expected = ⊤
GivesHead (Err _) expected = ⊥

-- the method, or want of memory
abbrev pub GivesMethod : Result (List ℕ) WireFault → List ℕ → Type 0
GivesMethod (Ok method) name = method ≡ name
GivesMethod (Err NoMemory) name = ⊤
GivesMethod (Err _) name = ⊥

-- the bytes are one whole head with this answer; or no such head is more than a bad one
abbrev pub IsHead : List ℕ → Result Head WireFault → Type 0
IsHead bytes (Ok head) = (h : RequestHead) × ReadsRequest bytes h [] × (length h.fields ≤ FIELD_LIMIT) × (head_of h ≡ Ok head)
IsHead bytes (Err BadHead) = (h : RequestHead) → ReadsRequest bytes h [] → length h.fields ≤ FIELD_LIMIT → head_of h ≡ Err BadHead
IsHead bytes (Err NoMemory) = ⊤
IsHead bytes (Err _) = ⊥

-- statuses whose answer has no body unless one is stated: 1xx, 204 and 304
abbrev pub is_bodiless : ℕ → Bool
is_bodiless status = (nat_le 100 status && nat_lt status 200) || status == 204 || status == 304

-- the framing where none is stated
abbrev pub unstated : ℕ → Framing
unstated status = if is_bodiless status then framing.Length 0 else framing.ToEnd

-- the head that these parts make; its connection closes behind it where `Connection` lists `close`
abbrev pub answer_with : ℕ → List Header → Result (Option Framing) WireFault → Result AnswerHead WireFault
answer_with status fields (Err e) = Err e
answer_with status fields (Ok found) = Ok (record {
  status = status;
  framing = unwrap_or found (unstated status);
  closes = (known_fields fields).close;
})

-- what an answer of this version, status and fields says
abbrev pub answer_from : ℕ → ℕ → List Header → Result AnswerHead WireFault
answer_from minor status fields = if minor == 1 then answer_with status fields (stated (known_fields fields)) else Err BadHead

-- what an answer's head says: HTTP/1.1, and a body to the end of the input where none is stated
abbrev pub answer_of : ResponseHead → Result AnswerHead WireFault
answer_of h = answer_from h.minor (status_code h) (map name_and_value h.fields)

-- the answer, or a bad head
abbrev pub GivesAnswer : Result AnswerHead WireFault → Result AnswerHead WireFault → Type 0
GivesAnswer (Ok answer) expected = expected ≡ Ok answer
GivesAnswer (Err BadHead) expected = expected ≡ Err BadHead
GivesAnswer (Err _) expected = ⊥

-- the same as `IsHead` for an answer
abbrev pub IsAnswer : List ℕ → Result AnswerHead WireFault → Type 0
IsAnswer bytes (Ok answer) = (h : ResponseHead) × ReadsResponse bytes h [] × (length h.fields ≤ FIELD_LIMIT) × (answer_of h ≡ Ok answer)
IsAnswer bytes (Err BadHead) = (h : ResponseHead) → ReadsResponse bytes h [] → length h.fields ≤ FIELD_LIMIT → answer_of h ≡ Err BadHead
IsAnswer bytes (Err _) = ⊥

-- the bytes are a whole trailer of at most 64 fields
abbrev pub IsTrailer : List ℕ → Type 0
IsTrailer bytes = (fields : List Field) × (last : LineEnd) × ReadsSection bytes fields last [] × (length fields ≤ FIELD_LIMIT)

-- ---- among all the bytes that come

-- `rest` is what follows what was read of `all`
abbrev pub HeadRead : List ℕ → List ℕ → Result (Option Head) WireFault → Type 0
HeadRead all rest (Ok None) = (all ≡ []) × (rest ≡ [])
HeadRead all rest (Ok (Some head)) = (n : ℕ) × (head_end all ≡ ending.At n) × IsHead (take n all) (Ok head) × (rest ≡ drop n all)
HeadRead all rest (Err BadHead) = (n : ℕ) × (head_end all ≡ ending.At n) × IsHead (take n all) (Err BadHead)
HeadRead all rest (Err HeadTooLong) = head_end all ≡ ending.Over
HeadRead all rest (Err EndedEarly) = (head_end all ≡ ending.Cut) × (0 < length all)
HeadRead all rest (Err ReadFault) = ⊤
HeadRead all rest (Err NoMemory) = ⊤
HeadRead all rest (Err _) = ⊥

-- the same for an answer, which has to come
abbrev pub AnswerRead : List ℕ → List ℕ → Result AnswerHead WireFault → Type 0
AnswerRead all rest (Ok answer) = (n : ℕ) × (head_end all ≡ ending.At n) × IsAnswer (take n all) (Ok answer) × (rest ≡ drop n all)
AnswerRead all rest (Err BadHead) = (n : ℕ) × (head_end all ≡ ending.At n) × IsAnswer (take n all) (Err BadHead)
AnswerRead all rest (Err HeadTooLong) = head_end all ≡ ending.Over
AnswerRead all rest (Err EndedEarly) = head_end all ≡ ending.Cut
AnswerRead all rest (Err ReadFault) = ⊤
AnswerRead all rest (Err NoMemory) = ⊤
AnswerRead all rest (Err _) = ⊥
