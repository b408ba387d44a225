-- The words of `store ADDRESS` are no other command's.
use Rattle.std.proofs.Common.{◌≡◌, Bool, true, false, ◌&&◌, List, [], ◌∷◌, None, Some, String, refl, sym, subst}
use Rattle.std.specs.Prelude.{ℕ, codes, bytes_eq, if◌then◌else◌}
use Rattle.std.specs.String.{string_bytes}
use Rattle.std.specs.declared.alloc.Global.{Global}
use Rattle.std.proofs.lemmas.Slice.Eq.{bytes_eq-Decides}
use Rattle.start_words.specs.Values.{is_address}
use Rattle.etcd_proxy.specs.Store.{address_of}
use Rattle.etcd_proxy.specs.Words.{command_of}
use Rattle.etcd_proxy.specs.declared.words.Command.TheVariants.{Explain}

nothing : {A : Type 0} (x : A) → None ≡ Some x → ⊥
nothing x e = cc

-- of two tests the first one holds, where both do
first_of : {A : Type 0} (p q : Bool) (x y : A) → (if p && q then Some x else None) ≡ Some y → p ≡ true
first_of true q x y e = refl
first_of false q x y e = absurd (nothing y e)

none_of : {A : Type 0} (p q : Bool) (x : A) → p ≡ false → (if p && q then Some x else None) ≡ None
none_of false q x e = refl
none_of true q x e = cc

-- a word that is `store` isn't `audit`
not_audit : (word : List ℕ) → bytes_eq word (codes "store") ≡ true → bytes_eq word (codes "audit") ≡ false
not_audit word e = subst (λ (w : List ℕ). bytes_eq w (codes "audit") ≡ false) (sym ((bytes_eq-Decides word (codes "store")).0 e)) refl

pub stored_is_no_command : (words : List (String Global)) (address : List ℕ) → address_of words ≡ Some address → command_of words ≡ None
stored_is_no_command [] address e = refl
stored_is_no_command (a ∷ []) address e = absurd (nothing address e)
stored_is_no_command (a ∷ b ∷ []) address e =
    none_of (bytes_eq (string_bytes a) (codes "audit")) (bytes_eq (string_bytes b) (codes "--explain")) Explain
    (not_audit (string_bytes a) (first_of (bytes_eq (string_bytes a) (codes "store")) (is_address (string_bytes b)) (string_bytes b) address e))
stored_is_no_command (a ∷ b ∷ c ∷ rest) address e = absurd (nothing address e)
