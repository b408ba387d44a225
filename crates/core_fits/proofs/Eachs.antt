-- What holds of each of a list.
use Rattle.std.proofs.Common.{Bool, List, [], ◌∷◌, ◌++◌, map, filter}
use Rattle.core_laws.proofs.Steps.Comes.{by_test}
use Rattle.core_fits.specs.Fits.{EachOf}

pub each_mapped : {A : Type 0} (P Q : A → Type 0) (f : A → A) → ((x : A) → P x → Q (f x)) → (xs : List A) → EachOf P xs → EachOf Q (map f xs)
each_mapped P Q f h [] t = tt
each_mapped P Q f h (x ∷ xs) t = (h x t.0, each_mapped P Q f h xs t.1)

pub each_kept : {A : Type 0} (P Q : A → Type 0) → ((x : A) → P x → Q x) → (xs : List A) → EachOf P xs → EachOf Q xs
each_kept P Q h [] t = tt
each_kept P Q h (x ∷ xs) t = (h x t.0, each_kept P Q h xs t.1)

pub each_filtered : {A : Type 0} (P : A → Type 0) (p : A → Bool) (xs : List A) → EachOf P xs → EachOf P (filter p xs)
each_filtered P p [] t = tt
each_filtered P p (x ∷ xs) t = by_test (EachOf P) (p x) (x ∷ filter p xs) (filter p xs) (λ e. (t.0, each_filtered P p xs t.1)) (λ e. each_filtered P p xs t.1)

pub each_pushed : {A : Type 0} (P : A → Type 0) (y : A) (xs : List A) → EachOf P xs → P y → EachOf P (xs ++ y ∷ [])
each_pushed P y [] t h = (h, tt)
each_pushed P y (x ∷ xs) t h = (t.0, each_pushed P y xs t.1 h)

-- of one that was pushed, and of those before it
pub each_before : {A : Type 0} (P : A → Type 0) (y : A) (xs : List A) → EachOf P (xs ++ y ∷ []) → EachOf P xs × P y
each_before P y [] t = (tt, t.0)
each_before P y (x ∷ xs) t = let r = each_before P y xs t.1 in ((t.0, r.0), r.1)
