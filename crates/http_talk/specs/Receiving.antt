-- How the next request is read, and what was read of it where it wasn't read whole.
use Rattle.std.specs.Prelude.{◌≡◌, ℕ, List, [], ◌++◌, Option, None, Some, IfSome, Result, Ok, Err, ⊤}
use Rattle.std.specs.Io.KnownBytes.{Appends}
use Rattle.outside.specs.Streams.{WritesFront}
use Rattle.http_wire.specs.declared.fault.WireFault.{WireFault}
use Rattle.http_wire.specs.declared.fault.WireFault.TheVariants as wire
use Rattle.http_wire.specs.declared.message.Head.{Head}
use Rattle.http_wire.specs.Bodies.{BodyRead}
use Rattle.http_wire.specs.Heads.{HeadRead}
use Rattle.http_talk.specs.declared.form.RefusalForm.{RefusalForm}
use Rattle.http_talk.specs.declared.received.Received as received
use Rattle.http_talk.specs.declared.refused.Refused.TheVariants as refused
use Rattle.http_talk.specs.Refusals.{refusal}
use Rattle.http_talk.specs.Replies.{go_on_of}
use Rattle.http_talk.specs.Requests.{Ahead, IsRequest}

-- what was read of a request that wasn't read whole: bytes that are no head, a head with bytes that are no body of it, nothing, or a head
pub data Cut : Type 0 where
  Unread : WireFault → Cut
  BadBody : Head → WireFault → Cut
  Nothing : Cut
  Announced : Head → Cut

-- where it stands among the bytes
abbrev pub IsCut : Cut → List ℕ → Type 0
IsCut (Unread fault) all = (rest : List ℕ) × HeadRead all rest (Err fault)
IsCut (BadBody head fault) all = (mid : List ℕ) × (rest : List ℕ) × HeadRead all mid (Ok (Some head)) × BodyRead head.framing mid rest (Err fault)
IsCut Nothing all = ⊤
IsCut (Announced head) all = (mid : List ℕ) × HeadRead all mid (Ok (Some head))

-- a fault of the bytes themselves
abbrev pub IsOfBytes : WireFault → Type 0
IsOfBytes wire.ReadFault = ⊥
IsOfBytes wire.WriteFault = ⊥
IsOfBytes wire.NoMemory = ⊥
IsOfBytes _ = ⊤

-- by which fault: one of the bytes themselves, or a read, a write or memory that failed
abbrev pub CutBy : WireFault → Cut → Type 0
CutBy fault (Unread cause) = (fault ≡ cause) × IsOfBytes cause
CutBy fault (BadBody head cause) = (fault ≡ cause) × IsOfBytes cause
CutBy wire.ReadFault Nothing = ⊤
CutBy wire.NoMemory Nothing = ⊤
CutBy _ Nothing = ⊥
CutBy wire.ReadFault (Announced head) = ⊤
CutBy wire.WriteFault (Announced head) = ⊤
CutBy wire.NoMemory (Announced head) = ⊤
CutBy _ (Announced head) = ⊥

-- what the client is told: of a fault of its bytes, and to go on behind a head that waits for that
abbrev pub cut_said : RefusalForm → Cut → List ℕ
cut_said form (Unread fault) = refusal form refused.Bytes
cut_said form (BadBody head fault) = go_on_of head ++ refusal form refused.Bytes
cut_said form Nothing = []
cut_said form (Announced head) = go_on_of head

-- no whole request was read, for this fault
pub record NotReceived (form : RefusalForm) (left written written' : Option (List ℕ)) (fault : WireFault) : Type 0 where
  pub cut : Cut
  pub by : CutBy fault cut
  pub is_cut : IfSome left (IsCut cut)
  pub said : WritesFront written written' (cut_said form cut)

-- the next request was read, or the input ended before it, or it wasn't read whole
abbrev pub Receives : RefusalForm → Option (List ℕ) → Option (List ℕ) → Option (List ℕ) → Option (List ℕ) → Result (Option received.Received) WireFault → Type 0
Receives form left left' written written' (Ok (Some r)) = Ahead (IsRequest r.head r.body) left left' × Appends written written' (go_on_of r.head)
Receives form left left' written written' (Ok None) = IfSome left (λ all. all ≡ []) × (written' ≡ written)
Receives form left left' written written' (Err fault) = NotReceived form left written written' fault
