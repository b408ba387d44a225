-- Lists of steps that grow, and what steps say.
use Rattle.std.proofs.Common.{◌≡◌, ℕ, Bool, true, false, ◌||◌, List, [], ◌∷◌, ◌++◌, Option, refl, append-nil, append_assoc, subst, sym, ap, ◌∙◌}
use Rattle.outside.specs.Streams.{WritesFront}
use Rattle.http_talk.proofs.Said.{front_more}
use Rattle.shop_dialog.specs.Steps.{Step, Every}
use Rattle.shop_dialog.specs.Dialog.{begins, said_at, said_from}
use Rattle.shop_dialog.specs.Exchanges.{begun_by}

pub grows_not : {A : Type 0} (a : List A) → a ≡ a ++ []
grows_not a = sym (append-nil a)

pub grows_then : {A : Type 0} (a b c xs ys : List A) → b ≡ a ++ xs → c ≡ b ++ ys → c ≡ a ++ (xs ++ ys)
grows_then a b c xs ys p q = q ∙ ap (λ (zs : List _). zs ++ ys) p ∙ append_assoc a xs ys

pub every_append : {A : Type 0} (P : A → Type 0) (xs ys : List A) → Every P xs → Every P ys → Every P (xs ++ ys)
every_append P [] ys p q = q
every_append P (x ∷ xs) ys p q = (p.0, every_append P xs ys p.1 q)

pub or_false : (b : Bool) → b ≡ (b || false)
or_false true = refl
or_false false = refl

pub or_true : (b : Bool) → (b || true) ≡ true
or_true true = refl
or_true false = refl

or_assoc : (a b c : Bool) → ((a || b) || c) ≡ (a || (b || c))
or_assoc true b c = refl
or_assoc false b c = refl

-- what is said goes on where it ended
pub said_append : (begun : Bool) (xs ys : List Step) → said_from begun (xs ++ ys) ≡ said_from begun xs ++ said_from (begun || begun_by xs) ys
said_append begun [] ys = ap (λ (b : Bool). said_from b ys) (or_false begun)
said_append begun (x ∷ xs) ys =
    let rest = said_append (begun || begins x.answer) xs ys in
    ap (λ (bytes : List ℕ). said_at begun x.answer ++ bytes) rest
    ∙ sym (append_assoc (said_at begun x.answer) (said_from (begun || begins x.answer) xs) (said_from ((begun || begins x.answer) || begun_by xs) ys))
    ∙ ap (λ (b : Bool). (said_at begun x.answer ++ said_from (begun || begins x.answer) xs) ++ said_from b ys) (or_assoc begun (begins x.answer) (begun_by xs))

pub begun_append : (xs ys : List Step) → begun_by (xs ++ ys) ≡ (begun_by xs || begun_by ys)
begun_append [] ys = refl
begun_append (x ∷ xs) ys = ap (λ (b : Bool). begins x.answer || b) (begun_append xs ys) ∙ sym (or_assoc (begins x.answer) (begun_by xs) (begun_by ys))

-- a front of what is said, and of what is said with more steps behind
pub front_of_more : (begun : Bool) (a b : Option (List ℕ)) (xs ys : List Step) → WritesFront a b (said_from begun xs) → WritesFront a b (said_from begun (xs ++ ys))
front_of_more begun a b xs ys w =
    subst (WritesFront a b) (sym (said_append begun xs ys)) (front_more a b (said_from begun xs) (said_from (begun || begun_by xs) ys) w)

-- one step alone
pub one_said : (begun : Bool) (e : Step) → said_from begun (e ∷ []) ≡ said_at begun e.answer
one_said begun e = append-nil (said_at begun e.answer)
