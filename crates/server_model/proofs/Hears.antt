-- What was read of an answer, and what it says; and the call that it answers.
use Rattle.std.proofs.Common.{◌≡◌, ℕ, ◌≤◌, arith, Bool, true, false, List, [], ◌∷◌, ◌++◌, Option, None, Some, Result, Ok, Err, IsTrue, ◌↔◌, refl, sym, ap, ◌∙◌, subst}
use Rattle.outside.specs.Calls.{Adds, LinkCall, Begun, Ended, HasLinkCause}
use Rattle.outside.specs.Faults.{Rose}
use Rattle.outside.specs.declared.link.AnswerEnd.{AnswerEnd}
use Rattle.outside.specs.declared.link.AnswerEnd.TheVariants.{Broken}
use Rattle.outside.specs.declared.link.CallKind.{CallKind}
use Rattle.outside.specs.declared.link.LinkFault.{LinkFault}
use Rattle.outside.specs.declared.link.LinkFault.TheVariants as link
use Rattle.outside.specs.declared.link.TheConstants.{CALL_LIMIT}
use Rattle.etcd_types.specs.Keys.{is_empty}
use Rattle.etcd_types.specs.declared.request.Request.{Request}
use Rattle.etcd_types.specs.declared.answer.Answer.{Answer}
use Rattle.json_model.specs.declared.fault.NotReply.{NotReply}
use Rattle.json_model.specs.declared.fault.NotReply.TheVariants as reply
use Rattle.http_wire.specs.Bodies.{WholeRead}
use Rattle.http_wire.specs.Connections.{WireState, bytes_ahead}
use Rattle.http_wire.specs.Heads.{AnswerRead}
use Rattle.http_wire.specs.Held.{ReadsAhead}
use Rattle.http_wire.specs.declared.fault.WireFault.{WireFault}
use Rattle.http_wire.specs.declared.fault.WireFault.TheVariants as wire
use Rattle.http_wire.specs.declared.message.AnswerHead.{AnswerHead}
use Rattle.server_model.specs.declared.fault.CallFault.{CallFault}
use Rattle.server_model.specs.declared.fault.CallFault.TheVariants as fault
use Rattle.server_model.specs.Calls.{kept_call_of, tells, IsUnclear, Says, end_of, Hears, Heard, lost_by, lost_on, begun, Calls, IsCalled}
use Rattle.server_model.proofs.Links.{tells_then, link_none}

-- ---- what a whole answer says

pub unclear_code : (read : Result Answer NotReply) (answer : Answer) → read ≡ Ok answer → tells answer ≡ false → IsUnclear read
unclear_code read answer e t = subst IsUnclear (sym e) t

pub unreadable : (read : Result Answer NotReply) → read ≡ Err reply.Unreadable → IsUnclear read
unreadable read e = subst IsUnclear (sym e) tt

-- ---- what was read

-- a new wire read this of bytes that are told
first_read : {T : Type 0} (P : List ℕ → List ℕ → Result T WireFault → Type 0) (all : List ℕ) (w : WireState) (mid : Option (List ℕ)) (r : Result T WireFault) → w.held ≡ []
    → ReadsAhead P (bytes_ahead (Some all) w) mid r → (rest : List ℕ) × (mid ≡ Some rest) × P all rest r
first_read P all w None r e h = absurd h
first_read P all w (Some rest) r e h = (rest, refl, subst (λ (held : List ℕ). P (held ++ all) rest r) e h)

-- and then this of what was left
then_read : {T : Type 0} (P : List ℕ → List ℕ → Result T WireFault → Type 0) (mid : Option (List ℕ)) (bytes : List ℕ) (left : List ℕ) (w : WireState) (r : Result T WireFault)
    → mid ≡ Some bytes → ReadsAhead P mid (bytes_ahead (Some left) w) r → P bytes (w.held ++ left) r
then_read P mid bytes left w r e h = subst (λ (x : Option (List ℕ)). ReadsAhead P x (bytes_ahead (Some left) w) r) e h

-- a source that told its bytes still does
no_more : {T : Type 0} (P : List ℕ → List ℕ → Result T WireFault → Type 0) (mid : Option (List ℕ)) (bytes : List ℕ) (r : Result T WireFault) → mid ≡ Some bytes
    → ReadsAhead P mid None r → ⊥
no_more P mid bytes r e h = subst (λ (x : Option (List ℕ)). ReadsAhead P x None r) e h

pub nothing_heard : (request : Request) (left : Option (List ℕ)) (count : ℕ) → Heard request left left count Broken (Err fault.NoMemory)
nothing_heard request None count = tt
nothing_heard request (Some all) count = Hears.wanting

headless : (request : Request) (all left rest : List ℕ) (count : ℕ) (bad : WireFault) → (bad ≡ wire.ReadFault → Rose 0 count) → AnswerRead all rest (Err bad)
    → Hears request all left count Broken (Err (lost_by bad))
headless request all left rest count wire.BadHead c r = Hears.headless wire.BadHead rest refl r
headless request all left rest count wire.HeadTooLong c r = Hears.headless wire.HeadTooLong rest refl r
headless request all left rest count wire.BodyTooLong c r = Hears.headless wire.BodyTooLong rest refl r
headless request all left rest count wire.BadChunk c r = Hears.headless wire.BadChunk rest refl r
headless request all left rest count wire.EndedEarly c r = Hears.headless wire.EndedEarly rest refl r
headless request all left rest count wire.ReadFault c r = Hears.failed (c refl)
headless request all left rest count wire.WriteFault c r = Hears.wanting
headless request all left rest count wire.NoMemory c r = Hears.wanting

bodiless : (request : Request) (all left mid rest : List ℕ) (count : ℕ) (head : AnswerHead) (bad : WireFault) → (bad ≡ wire.ReadFault → Rose 0 count) → AnswerRead all mid (Ok head)
    → WholeRead CALL_LIMIT head.framing mid rest (Err bad) → Hears request all left count Broken (Err (lost_by bad))
bodiless request all left mid rest count head wire.BadHead c r b = Hears.bodiless wire.BadHead head mid rest refl r b
bodiless request all left mid rest count head wire.HeadTooLong c r b = Hears.bodiless wire.HeadTooLong head mid rest refl r b
bodiless request all left mid rest count head wire.BodyTooLong c r b = Hears.bodiless wire.BodyTooLong head mid rest refl r b
bodiless request all left mid rest count head wire.BadChunk c r b = Hears.bodiless wire.BadChunk head mid rest refl r b
bodiless request all left mid rest count head wire.EndedEarly c r b = Hears.bodiless wire.EndedEarly head mid rest refl r b
bodiless request all left mid rest count head wire.ReadFault c r b = Hears.failed (c refl)
bodiless request all left mid rest count head wire.WriteFault c r b = Hears.wanting
bodiless request all left mid rest count head wire.NoMemory c r b = Hears.wanting

-- a count that rose behind this one, which is none, rose from none
rose_since : (a b c : ℕ) → a ≡ 0 → a ≤ b → Rose b c → Rose 0 c
rose_since a b c z le r = omega arith

pub no_head : (request : Request) (left after : Option (List ℕ)) (w w' : WireState) (n m : ℕ) (bad : WireFault) (why : CallFault) → why ≡ lost_by bad → n ≡ 0 → w.held ≡ []
    → (bad ≡ wire.ReadFault → Rose n m) → ReadsAhead AnswerRead (bytes_ahead left w) (bytes_ahead after w') (Err bad) → Heard request left after m Broken (Err why)
no_head request None after w w' n m bad why e z h c r = tt
no_head request (Some all) None w w' n m bad why e z h c r = absurd r
no_head request (Some all) (Some left) w w' n m bad why e z h c r =
    let f = first_read AnswerRead all w (bytes_ahead (Some left) w') (Err bad) h r in
    subst (λ (x : CallFault). Hears request all left m Broken (Err x)) (sym e)
    (headless request all left f.0 m bad (λ b. rose_since n n m z (omega arith) (c b)) f.2)

pub no_body : (request : Request) (left mid after : Option (List ℕ)) (w w' : WireState) (n k m : ℕ) (head : AnswerHead) (bad : WireFault) (why : CallFault) → why ≡ lost_by bad → n ≡ 0 → n ≤ k
    → w.held ≡ [] → (bad ≡ wire.ReadFault → Rose k m) → ReadsAhead AnswerRead (bytes_ahead left w) mid (Ok head)
    → ReadsAhead (WholeRead CALL_LIMIT head.framing) mid (bytes_ahead after w') (Err bad) → Heard request left after m Broken (Err why)
no_body request None mid after w w' n k m head bad why e z le h c r b = tt
no_body request (Some all) mid None w w' n k m head bad why e z le h c r b =
    let f = first_read AnswerRead all w mid (Ok head) h r in absurd (no_more (WholeRead CALL_LIMIT head.framing) mid f.0 (Err bad) f.1 b)
no_body request (Some all) mid (Some left) w w' n k m head bad why e z le h c r b =
    let f = first_read AnswerRead all w mid (Ok head) h r in
    let t = then_read (WholeRead CALL_LIMIT head.framing) mid f.0 left w' (Err bad) f.1 b in
    subst (λ (x : CallFault). Hears request all left m Broken (Err x)) (sym e)
    (bodiless request all left f.0 (w'.held ++ left) m head bad (λ x. rose_since n k m z le (c x)) f.2 t)

-- nothing was read beyond it
clear_is : (is_clear : Bool) (held : List ℕ) → (IsTrue is_clear ↔ (held ≡ [])) → is_clear ≡ is_empty held
clear_is is_clear [] h = h.1 refl
clear_is true (b ∷ bs) h = let e = h.0 refl in absurd (cc e)
clear_is false (b ∷ bs) h = refl

pub heard_whole : (request : Request) (left mid after : Option (List ℕ)) (w w' : WireState) (count : ℕ) (head : AnswerHead) (body : List ℕ) (is_clear : Bool) (how : AnswerEnd)
    (result : Result Answer CallFault) → w.held ≡ [] → (IsTrue is_clear ↔ (w'.held ≡ [])) → how ≡ end_of head is_clear → ReadsAhead AnswerRead (bytes_ahead left w) mid (Ok head)
    → ReadsAhead (WholeRead CALL_LIMIT head.framing) mid (bytes_ahead after w') (Ok body) → Says request head.status body result → Heard request left after count how result
heard_whole request None mid after w w' count head body is_clear how result h c e r b s = tt
heard_whole request (Some all) mid None w w' count head body is_clear how result h c e r b s =
    let f = first_read AnswerRead all w mid (Ok head) h r in absurd (no_more (WholeRead CALL_LIMIT head.framing) mid f.0 (Ok body) f.1 b)
heard_whole request (Some all) mid (Some left) w w' count head body is_clear how result h c e r b s =
    let f = first_read AnswerRead all w mid (Ok head) h r in
    let t = then_read (WholeRead CALL_LIMIT head.framing) mid f.0 left w' (Ok body) f.1 b in
    Hears.whole head body how result
    (record { mid = f.0; beyond = w'.held; opened = f.2; whole = t; ended = e ∙ ap (λ (x : Bool). end_of head x) (clear_is is_clear w'.held c) }) s

-- a read that failed has its cause
abbrev failed_by : (T : Type 0) → WireFault → Result T WireFault
failed_by T bad = Err bad

pub cause_of : (T : Type 0) (bad : WireFault) (n m : ℕ) → (failed_by T bad ≡ failed_by T wire.ReadFault → Rose n m) → bad ≡ wire.ReadFault → Rose n m
cause_of T bad n m f e = f (ap (failed_by T) e)

-- ---- the call

-- for want of memory there was none
pub not_called : (host : List ℕ) (member : ℕ) (kind : CallKind) (request : Request) (made : Option (List LinkCall)) (n : ℕ)
    → IsCalled host member kind request made made n n (Err fault.NoMemory)
not_called host member kind request made n = record { calls = []; called = Calls.unsent; link = link_none made n }

not_begun : {T : Type 0} (host : List ℕ) (member : ℕ) (kind : CallKind) (request : Request) (made made' : Option (List LinkCall)) (n m : ℕ) (why : LinkFault)
    → Adds made made' (begun host member kind request (Err why) ∷ []) → HasLinkCause {T = T} n m (Err why) → IsCalled host member kind request made made' n m (Err (lost_on why))
not_begun host member kind request made made' n m link.Failed t c =
    record { calls = begun host member kind request (Err link.Failed) ∷ []; called = Calls.failed; link = record { told = t; kept = c.kept; caused = (c.rose refl, tt) } }
not_begun host member kind request made made' n m link.NoMemory t c =
    record { calls = begun host member kind request (Err link.NoMemory) ∷ []; called = Calls.unbegun; link = record { told = t; kept = c.kept; caused = (tt, tt) } }

-- the link has no answer to it
pub unanswered : {T : Type 0} (host bytes : List ℕ) (member : ℕ) (kind : CallKind) (request : Request) (made made' : Option (List LinkCall)) (n m : ℕ) (why : LinkFault) (result : CallFault)
    → bytes ≡ kept_call_of host request → result ≡ lost_on why → Adds made made' (Begun member kind bytes (Err why) ∷ []) → HasLinkCause {T = T} n m (Err why)
    → IsCalled host member kind request made made' n m (Err result)
unanswered {T} host bytes member kind request made made' n m why result e s t c =
    subst (λ (x : CallFault). IsCalled host member kind request made made' n m (Err x)) (sym s)
    (not_begun {T = T} host member kind request made made' n m why (subst (λ (x : List ℕ). Adds made made' (Begun member kind x (Err why) ∷ [])) e t) c)

-- its answer was heard and given back
pub exchanged : (host bytes : List ℕ) (member : ℕ) (kind : CallKind) (request : Request) (made mid made' : Option (List LinkCall)) (n m k : ℕ) (had left : Option (List ℕ)) (count : ℕ)
    (how : AnswerEnd) (result : Result Answer CallFault) → bytes ≡ kept_call_of host request → Adds made mid (Begun member kind bytes (Ok had) ∷ [])
    → Adds mid made' (Ended left count how ∷ []) → n ≤ m → k ≡ m → Heard request had left count how result → IsCalled host member kind request made made' n k result
exchanged host bytes member kind request made mid made' n m k had left count how result e b t le same h =
    let first = begun host member kind request (Ok had) in
    let b' = subst (λ (x : List ℕ). Adds made mid (Begun member kind x (Ok had) ∷ [])) e b in
    record {
      calls = first ∷ Ended left count how ∷ [];
      called = Calls.exchanged had left count how result h;
      link = record { told = tells_then made mid made' (first ∷ []) (Ended left count how ∷ []) b' t; kept = omega arith; caused = (tt, (tt, tt)) };
    }

-- a call whose kind has another name
pub called_as : (host : List ℕ) (member : ℕ) (kind other : CallKind) (request : Request) (made made' : Option (List LinkCall)) (n m : ℕ) (result : Result Answer CallFault) → kind ≡ other
    → IsCalled host member kind request made made' n m result → IsCalled host member other request made made' n m result
called_as host member kind other request made made' n m result e c = subst (λ (x : CallKind). IsCalled host member x request made made' n m result) e c
