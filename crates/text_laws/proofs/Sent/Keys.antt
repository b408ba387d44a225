-- What is kept by key, looked up and changed.
use Rattle.std.proofs.Common.{◌≡◌, ℕ, Bool, true, false, cond, not, Less, Equal, Greater, List, [], ◌∷◌, Option, None, Some, refl, sym, subst}
use Rattle.std.specs.declared.cmp.Ordering.{Ordering}
use Rattle.std.specs.FinMap.Entries.{by_order}
use Rattle.std.specs.Ordering.{nat_cmp, is_eq}
use Rattle.std.specs.Cmp.Lexicographic.{slice_cmp}
use Rattle.std.specs.FinMap.{put}
use Rattle.std.specs.Option.{option_map}
use Rattle.etcd_types.specs.Keys.{same}
use Rattle.etcd_types.proofs.KeyOrder.{same-equal}
use Rattle.proxy_model.specs.Keyed.{Keyed, at, with_at, changed_at}
use Rattle.wait_model.specs.Edits.{each, without}
use Rattle.text_laws.specs.Values.Fits.{If, Bytes}
use Rattle.text_laws.proofs.Values.Alls.{either, all_map, all_filter}
use Rattle.text_laws.specs.Sent.Sends.{KeyedFits}

pub at_fits : {A : Type 0} (P : A → Type 0) (es : Keyed A) (k : List ℕ) → KeyedFits P es → If P (at es k)
at_fits P [] k h = tt
at_fits P (e ∷ es) k h = either (If P) (is_eq (slice_cmp nat_cmp k e.0)) (Some e.1) (at es k) h.0.1 (at_fits P es k h.1)

put_fits : {A : Type 0} (P : A → Type 0) (es : Keyed A) (k : List ℕ) (x : A) → Bytes k → P x → KeyedFits P es → KeyedFits P (put (slice_cmp nat_cmp) k x es)
put_fits P [] k x b n h = ((b, n), tt)
put_fits {A} P (e ∷ es) k x b n h = by_case (slice_cmp nat_cmp k e.0) (put_fits P es k x b n h.1)
  where
    by_case : (o : Ordering) → KeyedFits P (put (slice_cmp nat_cmp) k x es) → KeyedFits P (by_order o ((k, x) ∷ e ∷ es) ((e.0, x) ∷ es) (e ∷ put (slice_cmp nat_cmp) k x es))
    by_case Less t = ((b, n), h)
    by_case Equal t = ((h.0.0, n), h.1)
    by_case Greater t = (h.0, t)

pub with_at_fits : {A : Type 0} (P : A → Type 0) (es : Keyed A) (k : List ℕ) (o : Option A) → Bytes k → If P o → KeyedFits P es → KeyedFits P (with_at es k o)
with_at_fits P es k None b n h = all_filter _ (λ e. not (same k e.0)) es h
with_at_fits P es k (Some x) b n h = put_fits P es k x b n h

-- a key that is found is one of the list, so it is bytes
found_bytes : {A : Type 0} (P : A → Type 0) (es : Keyed A) (k : List ℕ) (x : A) → at es k ≡ Some x → KeyedFits P es → Bytes k
found_bytes P [] k x e h = absurd (cc)
found_bytes {A} P (y ∷ es) k x e h = by_test (is_eq (slice_cmp nat_cmp k y.0)) refl e (λ f. found_bytes P es k x f h.1)
  where
    by_test : (b : Bool) → is_eq (slice_cmp nat_cmp k y.0) ≡ b → cond b (Some y.1) (at es k) ≡ Some x → (at es k ≡ Some x → Bytes k) → Bytes k
    by_test true t f more = subst Bytes (sym (same-equal k y.0 t)) h.0.0
    by_test false t f more = more f

-- what stands at a key is changed; a key that is looked up needn't be known to be bytes, since one that is found is
put_there : {A : Type 0} (P : A → Type 0) (es : Keyed A) (k : List ℕ) (x y : A) → at es k ≡ Some x → P y → KeyedFits P es → KeyedFits P (put (slice_cmp nat_cmp) k y es)
put_there P es k x y e n h = put_fits P es k y (found_bytes P es k x e h) n h

pub changed_there : {A : Type 0} (P : A → Type 0) (es : Keyed A) (k : List ℕ) (f : A → A) → ((x : A) → P x → P (f x)) → KeyedFits P es → KeyedFits P (changed_at es k f)
changed_there {A} P es k f g h = by_old (at es k) refl (at_fits P es k h)
  where
    by_old : (o : Option A) → at es k ≡ o → If P o → KeyedFits P (with_at es k (option_map f o))
    by_old None e n = all_filter _ (λ x. not (same k x.0)) es h
    by_old (Some x) e n = put_there P es k x (f x) e (g x n) h

pub each_fits : {A : Type 0} (P : A → Type 0) (f : List ℕ → A → A) → ((k : List ℕ) (x : A) → P x → P (f k x)) → (es : Keyed A) → KeyedFits P es → KeyedFits P (each f es)
each_fits P f g es h = all_map _ _ (λ e. (e.0, f e.0 e.1)) (λ e n. (n.0, g e.0 e.1 n.1)) es h

pub without_fits : {A : Type 0} (P : A → Type 0) (p : List ℕ → Bool) (es : Keyed A) → KeyedFits P es → KeyedFits P (without p es)
without_fits P p es h = all_filter _ (λ e. not (p e.0)) es h
