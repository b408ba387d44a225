-- The bytes ahead stay as they are while they move from a source into a buffer.
use Rattle.std.proofs.Common.{◌≡◌, ℕ, List, [], ◌++◌, Option, None, Some, IfSome, sym, ap, ◌∙◌, subst, append_assoc, append-nil, Ok}
use Rattle.http_wire.specs.Heads.{HeadRead}
use Rattle.http_wire.specs.Held.{ReadsAhead}
use Rattle.std.specs.Io.KnownBytes.{Consumes, Keeps, IsAtEnd, prepend_known}

-- a piece that is read stands behind what is held
pub grown_keeps : (a b : Option (List ℕ)) (before now piece : List ℕ) → now ≡ before ++ piece → Consumes a b piece
    → Keeps (prepend_known before a) (prepend_known now b)
grown_keeps None b before now piece e p = tt
grown_keeps (Some xs) None before now piece e p = absurd p
grown_keeps (Some xs) (Some ys) before now piece e p =
    ap (λ (l : List ℕ). l ++ ys) e ∙ append_assoc before piece ys ∙ ap (λ (l : List ℕ). before ++ l) (sym p)

-- nothing is read
pub same_keeps : (a b : Option (List ℕ)) (before now : List ℕ) → now ≡ before → Keeps a b
    → Keeps (prepend_known before a) (prepend_known now b)
same_keeps None b before now e p = tt
same_keeps (Some xs) None before now e p = absurd p
same_keeps (Some xs) (Some ys) before now e p = λ i. e i ++ p i

-- what holds whatever follows the held bytes holds of the bytes ahead
pub of_ahead : (P : List ℕ → Type 0) (a : Option (List ℕ)) (held : List ℕ) → ((rest : List ℕ) → P (held ++ rest)) → IfSome (prepend_known held a) P
of_ahead P None held h = tt
of_ahead P (Some xs) held h = h xs

-- at the end the bytes ahead are those that are held
pub at_end : (P : List ℕ → Type 0) (a : Option (List ℕ)) (held : List ℕ) → IsAtEnd a → P held → IfSome (prepend_known held a) P
at_end P None held end h = tt
at_end P (Some xs) held end h = subst P (sym (append-nil held) ∙ ap (λ (l : List ℕ). held ++ l) (sym end)) h

-- nothing is held and nothing is left, so nothing is ahead
pub none_ahead : (a b : Option (List ℕ)) (held : List ℕ) → Keeps a (prepend_known held b) → IsAtEnd b → held ≡ []
    → ReadsAhead HeadRead a (prepend_known held b) (Ok None)
none_ahead None b held kept end none = tt
none_ahead (Some xs) None held kept end none = absurd kept
none_ahead (Some xs) (Some ys) held kept end none =
    let both : held ++ ys ≡ [] = λ i. none i ++ end i in
    (sym kept ∙ both, both)
