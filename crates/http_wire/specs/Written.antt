-- What is written: replies, chunks and calls (RFC 9112).
use Rattle.std.specs.Prelude.{ℕ, List, [], ◌∷◌, ◌++◌, length, false, if◌then◌else◌, ◌==◌, codes, Option, Result, Ok, Err}
use Rattle.std.specs.List.{concat}
use Rattle.std.specs.Fmt.{decimal, digits}
use Rattle.std.specs.Io.KnownBytes.{Appends, Keeps}
use Rattle.outside.specs.Streams.{WritesFront}
use Rattle.http_wire.specs.declared.fault.WireFault.{WireFault}
use Rattle.http_wire.specs.declared.fault.WireFault.TheVariants.{WriteFault, NoMemory}

-- CR LF
abbrev pub line_end : List ℕ
line_end = 13 ∷ 10 ∷ []

-- the phrase of a status, of those that are used
abbrev pub phrase : ℕ → List ℕ
phrase status =
    if status == 200 then codes "OK"
    else if status == 400 then codes "Bad Request"
    else if status == 403 then codes "Forbidden"
    else if status == 404 then codes "Not Found"
    else if status == 405 then codes "Method Not Allowed"
    else if status == 500 then codes "Internal Server Error"
    else if status == 501 then codes "Not Implemented"
    else if status == 503 then codes "Service Unavailable"
    else if status == 504 then codes "Gateway Timeout"
    else []

-- the head of a reply whose body has so many bytes
abbrev pub reply_head : ℕ → ℕ → List ℕ
reply_head status length = concat (
    codes "HTTP/1.1 " ∷ decimal status ∷ codes " " ∷ phrase status ∷ line_end
    ∷ codes "Content-Type: application/json" ∷ line_end
    ∷ codes "Content-Length: " ∷ decimal length ∷ line_end
    ∷ line_end ∷ [])

-- a reply with its length
abbrev pub reply : ℕ → List ℕ → List ℕ
reply status body = reply_head status (length body) ++ body

-- the reply to a HEAD, which is that of another method without its body (RFC 9110, section 9.3.2)
abbrev pub bodiless_reply : ℕ → List ℕ → List ℕ
bodiless_reply status body = reply_head status (length body)

-- the head of a reply in chunks
abbrev pub chunks_head : List ℕ
chunks_head = concat (
    codes "HTTP/1.1 200 OK" ∷ line_end
    ∷ codes "Content-Type: application/json" ∷ line_end
    ∷ codes "Transfer-Encoding: chunked" ∷ line_end ∷ line_end ∷ [])

-- a chunk with these bytes; none for no bytes, since a chunk of size 0 would end the body
abbrev pub chunk : List ℕ → List ℕ
chunk [] = []
chunk (b ∷ bs) = concat (digits 16 false (length (b ∷ bs)) ∷ line_end ∷ (b ∷ bs) ∷ line_end ∷ [])

-- the last chunk, with no trailer
abbrev pub last_chunk : List ℕ
last_chunk = concat (codes "0" ∷ line_end ∷ line_end ∷ [])

-- what tells a client to send the body that it announced (RFC 9110, section 10.1.1)
abbrev pub go_on : List ℕ
go_on = concat (codes "HTTP/1.1 100 Continue" ∷ line_end ∷ line_end ∷ [])

-- a call to a member whose head has these fields after its host, and then an empty line
abbrev pub call_with : List ℕ → List ℕ → List ℕ → List ℕ → List ℕ
call_with host path fields body = concat (
    codes "POST " ∷ path ∷ codes " HTTP/1.1" ∷ line_end
    ∷ codes "Host: " ∷ host ∷ line_end
    ∷ fields ∷ body ∷ [])

-- the fields of a call behind whose answer the connection is closed, and the empty line
abbrev pub call_fields : ℕ → List ℕ
call_fields length = concat (
    codes "Content-Type: application/json" ∷ line_end
    ∷ codes "Connection: close" ∷ line_end
    ∷ codes "Content-Length: " ∷ decimal length ∷ line_end
    ∷ line_end ∷ [])

-- those of a call behind whose answer it stays, as it does where no field asks for its end (RFC 9112, section 9.3)
abbrev pub kept_call_fields : ℕ → List ℕ
kept_call_fields length = concat (
    codes "Content-Type: application/json" ∷ line_end
    ∷ codes "Content-Length: " ∷ decimal length ∷ line_end
    ∷ line_end ∷ [])

-- a call to a member on a connection of its own
abbrev pub call : List ℕ → List ℕ → List ℕ → List ℕ
call host path body = call_with host path (call_fields (length body)) body

-- a call to a member on a connection that stays
abbrev pub kept_call : List ℕ → List ℕ → List ℕ → List ℕ
kept_call host path body = call_with host path (kept_call_fields (length body)) body

-- ---- at a sink

-- all the bytes were written, or a front of them, or none for want of memory
abbrev pub Writes : Option (List ℕ) → Option (List ℕ) → List ℕ → Result (Unit {0}) WireFault → Type 0
Writes old new bytes (Ok done) = Appends old new bytes
Writes old new bytes (Err WriteFault) = WritesFront old new bytes
Writes old new bytes (Err NoMemory) = Keeps old new
Writes old new bytes (Err _) = ⊥
