-- What a client asks, and where that stands among the bytes: a head and a body of HTTP (RFC 9112), and of them a path and a JSON text of
-- etcd's gateway.
use Rattle.std.specs.Prelude.{◌≡◌, ℕ, not, List, [], ◌∷◌, Option, None, Some, Result, Ok, Err, if◌then◌else◌, codes, nat_eq, ⊤}
use Rattle.std.specs.Cmp.Lexicographic.{pointwise}
use Rattle.etcd_types.specs.declared.request.Request.{Request}
use Rattle.json_model.specs.Mapping.{request_of}
use Rattle.json_model.specs.declared.extra.Reading.{Reading}
use Rattle.json_model.specs.declared.fault.ApiFault.{ApiFault}
use Rattle.http_wire.specs.Bodies.{BodyRead}
use Rattle.http_wire.specs.Heads.{HeadRead}
use Rattle.http_wire.specs.declared.message.Head.{Head}
use Rattle.http_talk.specs.Aliases.{plain_path}
use Rattle.http_talk.specs.declared.refused.Refused.{Refused}
use Rattle.http_talk.specs.declared.refused.Refused.TheVariants as refused

abbrev pub of_decoded : Result Request ApiFault → Result Request Refused
of_decoded (Ok request) = Ok request
of_decoded (Err fault) = Err (refused.Request fault)

-- what is asked, or why it is refused; who reads it decides which of the mapping's extras are refused
unfoldable pub asked_of : Reading → Head → List ℕ → Result Request Refused
asked_of reading head body =
    if head.encoded then Err refused.Encoding
    else if not (pointwise nat_eq head.method (codes "POST")) then Err refused.Method
    else of_decoded (request_of reading (plain_path head.path) body)

-- a request: its head and its body, and what follows it
abbrev pub IsRequest : Head → List ℕ → List ℕ → List ℕ → Type 0
IsRequest head body all rest = (mid : List ℕ) × HeadRead all mid (Ok (Some head)) × BodyRead head.framing mid rest (Ok body)

-- the bytes ahead are so, before and after, where they are told
abbrev pub Ahead : (List ℕ → List ℕ → Type 0) → Option (List ℕ) → Option (List ℕ) → Type 0
Ahead P None new = ⊤
Ahead P (Some all) None = ⊥
Ahead P (Some all) (Some rest) = P all rest

-- the bytes are these requests, one behind the other, and no more
abbrev pub AreRequests : List (Head × List ℕ) → List ℕ → Type 0
AreRequests [] all = all ≡ []
AreRequests (r ∷ rs) all = (rest : List ℕ) × IsRequest r.0 r.1 all rest × AreRequests rs rest

-- the bytes are told, and are whole requests
abbrev pub AreWhole : Option (List ℕ) → Type 0
AreWhole None = ⊥
AreWhole (Some all) = (requests : List (Head × List ℕ)) × AreRequests requests all
