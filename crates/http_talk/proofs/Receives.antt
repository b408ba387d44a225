-- How no whole request is read.
use Rattle.std.proofs.Common.{◌≡◌, ℕ, List, [], Option, None, Some, Result, Ok, Err, IfSome, MatchBool, refl, append-nil, subst}
use Rattle.std.specs.Io.KnownBytes.{Appends, Keeps}
use Rattle.outside.specs.Streams.{WritesFront}
use Rattle.http_wire.specs.declared.fault.WireFault.{WireFault}
use Rattle.http_wire.specs.declared.fault.WireFault.TheVariants as wire
use Rattle.http_wire.specs.declared.message.Head.{Head}
use Rattle.http_wire.specs.Bodies.{BodyRead, is_of_bytes}
use Rattle.http_wire.specs.Connections.{IsOfReading}
use Rattle.http_wire.specs.Heads.{HeadRead}
use Rattle.http_wire.specs.Held.{ReadsAhead}
use Rattle.http_wire.specs.Written.{Writes}
use Rattle.http_talk.specs.declared.form.RefusalForm.{RefusalForm}
use Rattle.http_talk.specs.declared.refused.Refused.TheVariants as refused
use Rattle.http_talk.specs.Refusals.{refusal}
use Rattle.http_talk.specs.Replies.{go_on_of}
use Rattle.http_talk.specs.Receiving.{Cut, IsCut, IsOfBytes, NotReceived}
use Rattle.http_talk.proofs.Said.{front_none, front_after}

-- the client was told of a fault of its bytes, and only of such a one
abbrev pub Refuses : RefusalForm → WireFault → Option (List ℕ) → Option (List ℕ) → Type 0
Refuses form fault old new = MatchBool (is_of_bytes fault) (WritesFront old new (refusal form refused.Bytes)) (Keeps old new)

-- the same head by another name
pub heads_as : (left rest : Option (List ℕ)) (x y : Option Head) → x ≡ y → ReadsAhead HeadRead left rest (Ok x) → ReadsAhead HeadRead left rest (Ok y)
heads_as left rest x y e r = subst (λ (o : Option Head). ReadsAhead HeadRead left rest (Ok o)) e r

pub input_ended : (left rest : Option (List ℕ)) → ReadsAhead HeadRead left rest (Ok None) → IfSome left (λ (all : List ℕ). all ≡ [])
input_ended None rest r = tt
input_ended (Some all) None r = absurd r
input_ended (Some all) (Some bytes) r = r.0

bad_head : (left rest : Option (List ℕ)) (fault : WireFault) → ReadsAhead HeadRead left rest (Err fault) → IfSome left (IsCut (Cut.Unread fault))
bad_head None rest fault r = tt
bad_head (Some all) None fault r = absurd r
bad_head (Some all) (Some bytes) fault r = (bytes, r)

told : (form : RefusalForm) (left rest old new : Option (List ℕ)) (fault : WireFault) → ReadsAhead HeadRead left rest (Err fault)
    → IsOfBytes fault → WritesFront old new (refusal form refused.Bytes) → NotReceived form left old new fault
told form left rest old new fault r t w = record { cut = Cut.Unread fault; by = (refl, t); is_cut = bad_head left rest fault r; said = w }

nothing_at : (left : Option (List ℕ)) → IfSome left (IsCut Cut.Nothing)
nothing_at None = tt
nothing_at (Some all) = tt

pub head_failed : (form : RefusalForm) (left rest old new : Option (List ℕ)) (fault : WireFault) → ReadsAhead HeadRead left rest (Err fault) → IsOfReading fault
    → Refuses form fault old new → NotReceived form left old new fault
head_failed form left rest old new wire.BadHead r i w = told form left rest old new wire.BadHead r tt w
head_failed form left rest old new wire.HeadTooLong r i w = told form left rest old new wire.HeadTooLong r tt w
head_failed form left rest old new wire.BodyTooLong r i w = told form left rest old new wire.BodyTooLong r tt w
head_failed form left rest old new wire.BadChunk r i w = told form left rest old new wire.BadChunk r tt w
head_failed form left rest old new wire.EndedEarly r i w = told form left rest old new wire.EndedEarly r tt w
head_failed form left rest old new wire.ReadFault r i w = record { cut = Cut.Nothing; by = tt; is_cut = nothing_at left; said = front_none old new [] w }
head_failed form left rest old new wire.WriteFault r i w = absurd i
head_failed form left rest old new wire.NoMemory r i w = record { cut = Cut.Nothing; by = tt; is_cut = nothing_at left; said = front_none old new [] w }

announced : (left rest : Option (List ℕ)) (head : Head) → ReadsAhead HeadRead left rest (Ok (Some head)) → IfSome left (IsCut (Cut.Announced head))
announced None rest head r = tt
announced (Some all) None head r = absurd r
announced (Some all) (Some bytes) head r = (bytes, r)

pub not_encouraged : (form : RefusalForm) (left rest old new : Option (List ℕ)) (head : Head) (fault : WireFault) → ReadsAhead HeadRead left rest (Ok (Some head))
    → Writes old new (go_on_of head) (Err fault) → NotReceived form left old new fault
not_encouraged form left rest old new head wire.WriteFault r w = record { cut = Cut.Announced head; by = tt; is_cut = announced left rest head r; said = w }
not_encouraged form left rest old new head wire.NoMemory r w = record { cut = Cut.Announced head; by = tt; is_cut = announced left rest head r; said = front_none old new (go_on_of head) w }
not_encouraged form left rest old new head wire.BadHead r w = absurd w
not_encouraged form left rest old new head wire.HeadTooLong r w = absurd w
not_encouraged form left rest old new head wire.BodyTooLong r w = absurd w
not_encouraged form left rest old new head wire.BadChunk r w = absurd w
not_encouraged form left rest old new head wire.EndedEarly r w = absurd w
not_encouraged form left rest old new head wire.ReadFault r w = absurd w

bad_body : (left mid rest : Option (List ℕ)) (head : Head) (fault : WireFault) → ReadsAhead HeadRead left mid (Ok (Some head))
    → ReadsAhead (BodyRead head.framing) mid rest (Err fault) → IfSome left (IsCut (Cut.BadBody head fault))
bad_body None mid rest head fault r b = tt
bad_body (Some all) None rest head fault r b = absurd r
bad_body (Some all) (Some bytes) None head fault r b = absurd b
bad_body (Some all) (Some bytes) (Some behind) head fault r b = (bytes, behind, r, b)

told_behind : (form : RefusalForm) (left mid rest old told new : Option (List ℕ)) (head : Head) (fault : WireFault) → ReadsAhead HeadRead left mid (Ok (Some head))
    → Appends old told (go_on_of head) → ReadsAhead (BodyRead head.framing) mid rest (Err fault) → IsOfBytes fault
    → WritesFront told new (refusal form refused.Bytes) → NotReceived form left old new fault
told_behind form left mid rest old told new head fault r a b t w = record {
  cut = Cut.BadBody head fault;
  by = (refl, t);
  is_cut = bad_body left mid rest head fault r b;
  said = front_after old told new (go_on_of head) (refusal form refused.Bytes) a w;
}

quiet : (left mid old told new : Option (List ℕ)) (head : Head) → ReadsAhead HeadRead left mid (Ok (Some head)) → Appends old told (go_on_of head) → Keeps told new
    → WritesFront old new (go_on_of head)
quiet left mid old told new head r a k =
    subst (WritesFront old new) (append-nil (go_on_of head)) (front_after old told new (go_on_of head) [] a (front_none told new [] k))

pub body_failed : (form : RefusalForm) (left mid rest old told new : Option (List ℕ)) (head : Head) (fault : WireFault) → ReadsAhead HeadRead left mid (Ok (Some head))
    → Appends old told (go_on_of head) → ReadsAhead (BodyRead head.framing) mid rest (Err fault) → IsOfReading fault → Refuses form fault told new
    → NotReceived form left old new fault
body_failed form left mid rest old told new head wire.BadHead r a b i w = told_behind form left mid rest old told new head wire.BadHead r a b tt w
body_failed form left mid rest old told new head wire.HeadTooLong r a b i w = told_behind form left mid rest old told new head wire.HeadTooLong r a b tt w
body_failed form left mid rest old told new head wire.BodyTooLong r a b i w = told_behind form left mid rest old told new head wire.BodyTooLong r a b tt w
body_failed form left mid rest old told new head wire.BadChunk r a b i w = told_behind form left mid rest old told new head wire.BadChunk r a b tt w
body_failed form left mid rest old told new head wire.EndedEarly r a b i w = told_behind form left mid rest old told new head wire.EndedEarly r a b tt w
body_failed form left mid rest old told new head wire.WriteFault r a b i w = absurd i
body_failed form left mid rest old told new head wire.ReadFault r a b i w =
    record { cut = Cut.Announced head; by = tt; is_cut = announced left mid head r; said = quiet left mid old told new head r a w }
body_failed form left mid rest old told new head wire.NoMemory r a b i w =
    record { cut = Cut.Announced head; by = tt; is_cut = announced left mid head r; said = quiet left mid old told new head r a w }
