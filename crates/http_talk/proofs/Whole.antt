-- Bytes have one reading as whole requests.
use Rattle.std.proofs.Common.{◌≡◌, ℕ, ◌<◌, List, [], ◌∷◌, length, take, drop, Some, Result, Ok, Err, IsTrue, sym, ap, ◌∙◌, subst, arith}
use Rattle.httparse.proofs.GrammarLemmas.{request_unique}
use Rattle.http_wire.specs.declared.fault.WireFault.{WireFault}
use Rattle.http_wire.specs.declared.fault.WireFault.TheVariants as wire
use Rattle.http_wire.specs.declared.message.Head.{Head}
use Rattle.http_wire.specs.declared.limits.TheConstants.{BODY_LIMIT}
use Rattle.http_wire.specs.Bodies.{End, Ended, Trailed, Broken, IsEnd, IsBroken, BodyRead, content, is_of_bytes}
use Rattle.http_wire.specs.Ends.{head_end}
use Rattle.http_wire.specs.Heads.{HeadRead, IsHead, head_of}
use Rattle.http_talk.specs.Requests.{IsRequest, AreRequests}

-- a head ends at one place
one_end : (all mid mid' : List ℕ) (head head' : Head) (p : HeadRead all mid (Ok (Some head))) (q : HeadRead all mid' (Ok (Some head'))) → p.0 ≡ q.0
one_end all mid mid' head head' p q = let e = p.1 in let f = q.1 in cc

abbrev head_in : Head → Result Head WireFault → Head
head_in other (Ok head) = head
head_in other (Err fault) = other

same_head : (x y : Head) (r : Result Head WireFault) → r ≡ Ok x → r ≡ Ok y → x ≡ y
same_head x y r p q = ap (head_in x) (sym p ∙ q)

not_both : (x : Head) (f : WireFault) (r : Result Head WireFault) → r ≡ Ok x → r ≡ Err f → ⊥
not_both x f r p q = cc

-- a head among the bytes, and what follows it, are one
pub head_unique : (all mid mid' : List ℕ) (head head' : Head) → HeadRead all mid (Ok (Some head)) → HeadRead all mid' (Ok (Some head')) → (head ≡ head') × (mid ≡ mid')
head_unique all mid mid' head head' p q =
    let n = one_end all mid mid' head head' p q in
    let other : IsHead (take p.0 all) (Ok head') = subst (λ (k : ℕ). IsHead (take k all) (Ok head')) (sym n) q.2 in
    let h = (request_unique (take p.0 all) p.2.0 other.0 [] [] p.2.1 other.1).0 in
    (same_head head head' (head_of p.2.0) p.2.3 (ap head_of h ∙ other.3), p.3 ∙ ap (λ (k : ℕ). drop k all) n ∙ sym q.3)

one_rest : (e : End) (rest rest' : List ℕ) → IsEnd e rest → IsEnd e rest' → rest ≡ rest'
one_rest (Ended bytes) rest rest' p q = p ∙ sym q
one_rest (Trailed trailer bytes) rest rest' p q = p.1 ∙ sym q.1
one_rest (Broken fault) rest rest' p q = absurd p

no_break : (e : End) (rest : List ℕ) (fault : WireFault) → IsEnd e rest → IsBroken e fault → ⊥
no_break (Ended bytes) rest fault p b = b
no_break (Trailed trailer bytes) rest fault p b = b.1 p.0
no_break (Broken cause) rest fault p b = p

-- the body of the other head is the body of this one
body_of : (head head' : Head) (mid mid' rest : List ℕ) (result : Result (List ℕ) WireFault) → head ≡ head' → mid ≡ mid' → BodyRead head'.framing mid' rest result
    → BodyRead head.framing mid rest result
body_of head head' mid mid' rest result h m b =
    subst (λ (x : Head). BodyRead x.framing mid rest result) (sym h) (subst (λ (xs : List ℕ). BodyRead head'.framing xs rest result) (sym m) b)

-- what follows a whole request is one
pub request_ends_once : (head head' : Head) (body body' all rest rest' : List ℕ) → IsRequest head body all rest → IsRequest head' body' all rest' → rest ≡ rest'
request_ends_once head head' body body' all rest rest' p q =
    let u = head_unique all p.0 q.0 head head' p.1 q.1 in
    let other = body_of head head' p.0 q.0 rest' (Ok body') u.0 u.1 q.2 in
    one_rest (content (Some BODY_LIMIT) head.framing p.0).end rest rest' p.2.1 other.1

-- no head is in no bytes
pub no_head : (all rest : List ℕ) (head : Head) → all ≡ [] → HeadRead all rest (Ok (Some head)) → ⊥
no_head all rest head e r = let f = r.1 in let g = ap head_end e in absurd (cc)

length_none : (all : List ℕ) → all ≡ [] → 0 < length all → ⊥
length_none all e l = let n : length all ≡ 0 = ap length e in omega arith

-- whole requests begin with no bad head
no_fault_here : (all mid rest : List ℕ) (head : Head) (fault : WireFault) → IsTrue (is_of_bytes fault) → HeadRead all mid (Ok (Some head)) → HeadRead all rest (Err fault) → ⊥
no_fault_here all mid rest head wire.BadHead t h r =
    let e = h.1 in
    let f = r.1 in
    let n : r.0 ≡ h.0 = cc in
    let here : IsHead (take h.0 all) (Err wire.BadHead) = subst (λ (k : ℕ). IsHead (take k all) (Err wire.BadHead)) n r.2 in
    not_both head wire.BadHead (head_of h.2.0) h.2.3 (here h.2.0 h.2.1 h.2.2)
no_fault_here all mid rest head wire.HeadTooLong t h r = let e = h.1 in absurd (cc)
no_fault_here all mid rest head wire.EndedEarly t h r = let e = h.1 in let f = r.0 in absurd (cc)
no_fault_here all mid rest head wire.BodyTooLong t h r = r
no_fault_here all mid rest head wire.BadChunk t h r = r
no_fault_here all mid rest head wire.ReadFault t h r = absurd (cc)
no_fault_here all mid rest head wire.WriteFault t h r = r
no_fault_here all mid rest head wire.NoMemory t h r = absurd (cc)

no_fault_at_end : (all rest : List ℕ) (fault : WireFault) → IsTrue (is_of_bytes fault) → all ≡ [] → HeadRead all rest (Err fault) → ⊥
no_fault_at_end all rest wire.BadHead t a r = let e = r.1 in let f = ap head_end a in absurd (cc)
no_fault_at_end all rest wire.HeadTooLong t a r = let f = ap head_end a in absurd (cc)
no_fault_at_end all rest wire.EndedEarly t a r = length_none all a r.1
no_fault_at_end all rest wire.BodyTooLong t a r = r
no_fault_at_end all rest wire.BadChunk t a r = r
no_fault_at_end all rest wire.ReadFault t a r = absurd (cc)
no_fault_at_end all rest wire.WriteFault t a r = r
no_fault_at_end all rest wire.NoMemory t a r = absurd (cc)

pub no_bad_head : (ws : List (Head × List ℕ)) (all rest : List ℕ) (fault : WireFault) → IsTrue (is_of_bytes fault) → AreRequests ws all → HeadRead all rest (Err fault) → ⊥
no_bad_head [] all rest fault t a r = no_fault_at_end all rest fault t a r
no_bad_head (w ∷ ws) all rest fault t a r = no_fault_here all a.1.0 rest w.0 fault t a.1.1 r

-- and have no bad body
pub no_bad_body : (ws : List (Head × List ℕ)) (all mid rest : List ℕ) (head : Head) (fault : WireFault) → IsTrue (is_of_bytes fault) → AreRequests ws all
    → HeadRead all mid (Ok (Some head)) → BodyRead head.framing mid rest (Err fault) → ⊥
no_bad_body [] all mid rest head fault t a h b = no_head all mid head a h
no_bad_body (w ∷ ws) all mid rest head fault t a h b =
    let u = head_unique all a.1.0 mid w.0 head a.1.1 h in
    let here = body_of w.0 head a.1.0 mid rest (Err fault) u.0 u.1 b in
    no_break (content (Some BODY_LIMIT) w.0.framing a.1.0).end a.0 fault a.1.2.1 (here t)
