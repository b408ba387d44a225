-- A transcript keeps the rules where none of its items breaks one behind those before it.
use Rattle.std.proofs.Common.{◌≡◌, ℕ, ◌+◌, List, [], ◌∷◌, ◌++◌, Option, None, Some, refl, sym, ap, subst, append_assoc}
use Rattle.std.proofs.lemmas.List.{append-nil}
use Rattle.script_text.specs.declared.item.Item.{Item}
use Rattle.audit_model.specs.declared.fault.AuditFault.{AuditFault}
use Rattle.audit_model.specs.Broken.{broken, Found, found_or, first_broken_from, Meets}
use Rattle.audit_laws.specs.Laws.{NoneBreaks}

none_found : (n : ℕ) (f : Option AuditFault) (later : Option Found) → found_or n f later ≡ None → (f ≡ None) × (later ≡ None)
none_found n None later e = (refl, e)
none_found n (Some f) later e = absurd (cc)

both_none : (n : ℕ) (f : Option AuditFault) (later : Option Found) → f ≡ None → later ≡ None → found_or n f later ≡ None
both_none n None later e h = h
both_none n (Some f) later e h = absurd (cc)

-- behind these items, of what follows them
met_from : (n : ℕ) (before xs : List Item) → first_broken_from n before xs ≡ None → (earlier later : List Item) (i : Item) → xs ≡ earlier ++ i ∷ later → broken (before ++ earlier) i ≡ None
met_from n before xs e [] later i split =
    let whole : first_broken_from n before (i ∷ later) ≡ None = subst (λ (ys : List Item). first_broken_from n before ys ≡ None) split e in
    subst (λ (ys : List Item). broken ys i ≡ None) (sym (append-nil before)) (none_found n (broken before i) (first_broken_from (n + 1) (before ++ i ∷ []) later) whole).0
met_from n before xs e (j ∷ earlier) later i split =
    let whole : first_broken_from n before (j ∷ (earlier ++ i ∷ later)) ≡ None = subst (λ (ys : List Item). first_broken_from n before ys ≡ None) split e in
    let rest = (none_found n (broken before j) (first_broken_from (n + 1) (before ++ j ∷ []) (earlier ++ i ∷ later)) whole).1 in
    subst (λ (ys : List Item). broken ys i ≡ None) (append_assoc before (j ∷ []) earlier) (met_from (n + 1) (before ++ j ∷ []) (earlier ++ i ∷ later) rest earlier later i refl)

pub meets_at : (items : List Item) → Meets items → NoneBreaks items
meets_at items e earlier later i split = met_from 1 [] items e earlier later i split

from_none : (n : ℕ) (before xs : List Item) → ((earlier later : List Item) (i : Item) → xs ≡ earlier ++ i ∷ later → broken (before ++ earlier) i ≡ None) → first_broken_from n before xs ≡ None
from_none n before [] h = refl
from_none n before (x ∷ xs) h =
    both_none n (broken before x) (first_broken_from (n + 1) (before ++ x ∷ []) xs)
    (subst (λ (ys : List Item). broken ys x ≡ None) (append-nil before) (h [] xs x refl))
    (from_none (n + 1) (before ++ x ∷ []) xs
    (λ earlier later i split. subst (λ (ys : List Item). broken ys i ≡ None) (sym (append_assoc before (x ∷ []) earlier)) (h (x ∷ earlier) later i (ap (λ (ys : List Item). x ∷ ys) split))))

pub meets_all : (items : List Item) → NoneBreaks items → Meets items
meets_all items h = from_none 1 [] items h
