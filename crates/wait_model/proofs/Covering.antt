-- Two writes share a key where both cover one.
use Rattle.std.proofs.Common.{◌≡◌, ℕ, Bool, true, false, cond, List, [], ◌∷◌, refl, sym, ◌∙◌, subst}
use Rattle.std.specs.List.{list_any, list_all}
use Rattle.etcd_types.specs.declared.key_range.KeyRange.{KeyRange}
use Rattle.etcd_types.specs.Keys.{same}
use Rattle.etcd_types.specs.Ranges.{contains, overlaps, is_one}
use Rattle.etcd_types.proofs.KeyOrder.{same-equal, same-itself}
use Rattle.etcd_types.proofs.Overlaps.{overlap_in_a_key}
use Rattle.wait_model.specs.declared.write.Write.{Write}
use Rattle.wait_model.specs.Covers.{covered, covers, meets, shares}
use Rattle.etcd_types.proofs.Bools.{or_left, or_right, or_first, or_second, and_first, and_second}
use Rattle.wait_model.proofs.Bools.{or_rest, or_cases, unless}

pub meets_at : (rs : List KeyRange) (r : KeyRange) (k : List ℕ) → covered rs k ≡ true → contains r k ≡ true → meets rs r ≡ true
meets_at [] r k e f = e
meets_at (s ∷ rs) r k e f =
    or_cases (contains s k) (covered rs k) (meets (s ∷ rs) r) e
    (λ t. or_left (overlaps r s) (meets rs r) ((overlap_in_a_key r s).1 (k, f, t)))
    (λ t. or_right (overlaps r s) (meets rs r) (meets_at rs r k t f))

pub shared_at : (rs ss : List KeyRange) (k : List ℕ) → covered rs k ≡ true → covered ss k ≡ true → list_any (meets rs) ss ≡ true
shared_at rs [] k e f = f
shared_at rs (s ∷ ss) k e f =
    or_cases (contains s k) (covered ss k) (list_any (meets rs) (s ∷ ss)) f
    (λ t. or_left (meets rs s) (list_any (meets rs) ss) (meets_at rs s k e t))
    (λ t. or_right (meets rs s) (list_any (meets rs) ss) (shared_at rs ss k e t))

-- a key that both write makes them share
pub shares_at : (v w : Write) (k : List ℕ) → covers v k ≡ true → covers w k ≡ true → shares v w ≡ true
shares_at v w k e f = shared_at v.ranges w.ranges k e f

-- where one of these covers a key of a write, it shares a key with one of these
pub some_shared : (w : Write) (vs : List Write) (k : List ℕ) → list_any (λ v. covers v k) vs ≡ true → covers w k ≡ true → list_any (shares w) vs ≡ true
some_shared w [] k n c = n
some_shared w (v ∷ vs) k n c =
    or_cases (covers v k) (list_any (λ u. covers u k) vs) (list_any (shares w) (v ∷ vs)) n
    (λ t. or_left (shares w v) (list_any (shares w) vs) (shares_at w v k c t))
    (λ t. or_right (shares w v) (list_any (shares w) vs) (some_shared w vs k t c))

-- and where it shares none, none of these covers a key of it
pub none_shared : (w : Write) (vs : List Write) (k : List ℕ) → list_any (shares w) vs ≡ false → covers w k ≡ true → list_any (λ v. covers v k) vs ≡ false
none_shared w vs k n c = unless (list_any (λ v. covers v k) vs) (list_any (shares w) vs) (λ t. some_shared w vs k t c) n

-- A write by keys: a test at the key of each range is one at each key.

by_empty : (b x y : Bool) → b ≡ true → cond b x y ≡ x
by_empty true x y o = refl
by_empty false x y o = absurd (cc)

pub one_key : (r : KeyRange) (k : List ℕ) → is_one r ≡ true → contains r k ≡ same k r.key
one_key r k o = by_empty (is_one r) (same k r.key) _ o

-- where no key of it passes, one that it covers doesn't
pub none_key : (p : List ℕ → Bool) (rs : List KeyRange) (k : List ℕ) → list_all is_one rs ≡ true → list_any (λ r. p r.key) rs ≡ false → covered rs k ≡ true → p k ≡ false
none_key p [] k a n c = absurd (cc)
none_key p (r ∷ rs) k a n c =
    elim (contains r k) as (λ b. contains r k ≡ b → p k ≡ false) [
      | true ↦ λ t. subst (λ (j : List ℕ). p j ≡ false) (sym (same-equal k r.key (sym (one_key r k (and_first (is_one r) (list_all is_one rs) a)) ∙ t))) (or_first (p r.key) (list_any (λ s. p s.key) rs) n)
      | false ↦ λ t. none_key p rs k (and_second (is_one r) (list_all is_one rs) a) (or_second (p r.key) (list_any (λ s. p s.key) rs) n) (or_rest (contains r k) (covered rs k) t c)
    ] refl

-- where one passes, it covers it
pub some_key : (p : List ℕ → Bool) (rs : List KeyRange) → list_all is_one rs ≡ true → list_any (λ r. p r.key) rs ≡ true → (k : List ℕ) × (covered rs k ≡ true) × (p k ≡ true)
some_key p [] a n = absurd (cc)
some_key p (r ∷ rs) a n =
    elim (p r.key) as (λ b. p r.key ≡ b → (k : List ℕ) × (covered (r ∷ rs) k ≡ true) × (p k ≡ true)) [
      | true ↦ λ t. (r.key, or_left (contains r r.key) (covered rs r.key) (one_key r r.key (and_first (is_one r) (list_all is_one rs) a) ∙ same-itself r.key), t)
      | false ↦ λ t. let h = some_key p rs (and_second (is_one r) (list_all is_one rs) a) (or_rest (p r.key) (list_any (λ s. p s.key) rs) t n) in (h.0, or_right (contains r h.0) (covered rs h.0) h.1, h.2)
    ] refl
