-- What holds of all that is kept by number, or numbered, holds of what is looked up, and stays so where one of them is changed.
use Rattle.std.proofs.Common.{◌≡◌, ℕ, zero, suc, ◌-◌, ◌==◌, Less, Equal, Greater, List, [], ◌∷◌, ◌++◌, set, slice_get, Option, None, Some, subst}
use Rattle.std.specs.declared.cmp.Ordering.{Ordering}
use Rattle.std.specs.FinMap.Entries.{by_order}
use Rattle.std.specs.Ordering.{nat_cmp, is_eq}
use Rattle.world_model.specs.Places.{kept_at, with_kept, nth, with_nth}
use Rattle.world_model.specs.State.{Numbered}
use Rattle.namespace_laws.proofs.Images.OwnNaming.{either}

abbrev pub If : {A : Type 0} → (A → Type 0) → Option A → Type 0
If P None = Unit {0}
If P (Some x) = P x

pub all_if : {A : Type 0} (P : A → Type 0) (o : Option A) (x : A) → o ≡ Some x → If P o → P x
all_if P o x e h = subst (If P) e h

-- What is kept by number.

abbrev pub AllKept : {A : Type 0} → (A → Type 0) → Numbered A → Type 0
AllKept P [] = Unit {0}
AllKept P (e ∷ es) = P e.1 × AllKept P es

pub kept_all : {A : Type 0} (P : A → Type 0) (es : Numbered A) (k : ℕ) → AllKept P es → If P (kept_at es k)
kept_all P [] k h = tt
kept_all P (e ∷ es) k h = either (If P) (is_eq (nat_cmp k e.0)) (Some e.1) (kept_at es k) h.0 (kept_all P es k h.1)

pub with_kept_all : {A : Type 0} (P : A → Type 0) (es : Numbered A) (k : ℕ) (x : A) → P x → AllKept P es → AllKept P (with_kept es k x)
with_kept_all P [] k x n h = (n, tt)
with_kept_all {A} P (e ∷ es) k x n h = by_case (nat_cmp k e.0) (with_kept_all P es k x n h.1)
  where
    by_case : (o : Ordering) → AllKept P (with_kept es k x) → AllKept P (by_order o ((k, x) ∷ e ∷ es) ((e.0, x) ∷ es) (e ∷ with_kept es k x))
    by_case Less t = (n, h)
    by_case Equal t = (n, h.1)
    by_case Greater t = (h.0, t)

-- What is numbered from 1.

abbrev pub AllOf : {A : Type 0} → (A → Type 0) → List A → Type 0
AllOf P [] = Unit {0}
AllOf P (x ∷ xs) = P x × AllOf P xs

get_all : {A : Type 0} (P : A → Type 0) (xs : List A) (i : ℕ) → AllOf P xs → If P (slice_get xs i)
get_all P [] i h = tt
get_all P (x ∷ xs) zero h = h.0
get_all P (x ∷ xs) (suc i) h = get_all P xs i h.1

pub nth_all : {A : Type 0} (P : A → Type 0) (xs : List A) (number : ℕ) → AllOf P xs → If P (nth xs number)
nth_all P xs number h = either (If P) (number == 0) None (slice_get xs (number - 1)) tt (get_all P xs (number - 1) h)

set_all : {A : Type 0} (P : A → Type 0) (xs : List A) (i : ℕ) (y : A) → P y → AllOf P xs → AllOf P (set xs i y)
set_all P [] i y n h = tt
set_all P (x ∷ xs) zero y n h = (n, h.1)
set_all P (x ∷ xs) (suc i) y n h = (h.0, set_all P xs i y n h.1)

pub with_nth_all : {A : Type 0} (P : A → Type 0) (xs : List A) (number : ℕ) (y : A) → P y → AllOf P xs → AllOf P (with_nth xs number y)
with_nth_all P xs number y n h = set_all P xs (number - 1) y n h

pub append_all : {A : Type 0} (P : A → Type 0) (xs : List A) (y : A) → P y → AllOf P xs → AllOf P (xs ++ y ∷ [])
append_all P [] y n h = (n, tt)
append_all P (x ∷ xs) y n h = (h.0, append_all P xs y n h.1)
