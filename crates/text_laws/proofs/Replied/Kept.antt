-- What is kept by key, looked up and changed.
use Rattle.std.proofs.Common.{ℕ, Bool, not, Less, Equal, Greater, List, [], ◌∷◌, Option, None, Some}
use Rattle.std.specs.declared.cmp.Ordering.{Ordering}
use Rattle.std.specs.FinMap.Entries.{by_order}
use Rattle.std.specs.Ordering.{nat_cmp, is_eq}
use Rattle.std.specs.Cmp.Lexicographic.{slice_cmp}
use Rattle.std.specs.FinMap.{put}
use Rattle.std.specs.Option.{option_map}
use Rattle.etcd_types.specs.Keys.{same}
use Rattle.proxy_model.specs.Keyed.{Keyed, at, with_at, changed_at}
use Rattle.wait_model.specs.Edits.{each, without}
use Rattle.text_laws.specs.Values.Fits.{If}
use Rattle.text_laws.proofs.Values.Alls.{either, all_map, all_filter}
use Rattle.text_laws.specs.Replied.Holds.{AllAt}

pub at_holds : {A : Type 0} (P : A → Type 0) (es : Keyed A) (k : List ℕ) → AllAt P es → If P (at es k)
at_holds P [] k h = tt
at_holds P (e ∷ es) k h = either (If P) (is_eq (slice_cmp nat_cmp k e.0)) (Some e.1) (at es k) h.0 (at_holds P es k h.1)

put_holds : {A : Type 0} (P : A → Type 0) (es : Keyed A) (k : List ℕ) (x : A) → P x → AllAt P es → AllAt P (put (slice_cmp nat_cmp) k x es)
put_holds P [] k x n h = (n, tt)
put_holds {A} P (e ∷ es) k x n h = by_case (slice_cmp nat_cmp k e.0) (put_holds P es k x n h.1)
  where
    by_case : (o : Ordering) → AllAt P (put (slice_cmp nat_cmp) k x es) → AllAt P (by_order o ((k, x) ∷ e ∷ es) ((e.0, x) ∷ es) (e ∷ put (slice_cmp nat_cmp) k x es))
    by_case Less t = (n, h)
    by_case Equal t = (n, h.1)
    by_case Greater t = (h.0, t)

pub with_at_holds : {A : Type 0} (P : A → Type 0) (es : Keyed A) (k : List ℕ) (o : Option A) → If P o → AllAt P es → AllAt P (with_at es k o)
with_at_holds P es k None n h = all_filter _ (λ e. not (same k e.0)) es h
with_at_holds P es k (Some x) n h = put_holds P es k x n h

pub changed_holds : {A : Type 0} (P : A → Type 0) (es : Keyed A) (k : List ℕ) (f : A → A) → ((x : A) → P x → P (f x)) → AllAt P es → AllAt P (changed_at es k f)
changed_holds {A} P es k f g h = with_at_holds P es k (option_map f (at es k)) (mapped (at es k) (at_holds P es k h)) h
  where
    mapped : (o : Option A) → If P o → If P (option_map f o)
    mapped None n = tt
    mapped (Some x) n = g x n

pub each_holds : {A : Type 0} (P : A → Type 0) (f : List ℕ → A → A) → ((k : List ℕ) (x : A) → P x → P (f k x)) → (es : Keyed A) → AllAt P es → AllAt P (each f es)
each_holds P f g es h = all_map _ _ (λ e. (e.0, f e.0 e.1)) (λ e n. g e.0 e.1 n) es h

pub without_holds : {A : Type 0} (P : A → Type 0) (p : List ℕ → Bool) (es : Keyed A) → AllAt P es → AllAt P (without p es)
without_holds P p es h = all_filter _ (λ e. not (p e.0)) es h
