-- Where one row at most has the digest of a range, one stream at most has the range.
use Rattle.std.proofs.Common.{◌≡◌, ℕ, zero, suc, ◌+◌, ◌<◌, ◌≤◌, Bool, true, false, cond, ◌&&◌, ◌==◌, nat_lt, nat_le, List, [], ◌∷◌, filter, get_or, length, refl, ap, sym, subst, ◌∙◌, arith}
use Rattle.std.proofs.lemmas.Bool.Decides.{nat_tests}
use Rattle.etcd_types.specs.declared.key_range.KeyRange.{KeyRange}
use Rattle.watch_model.specs.State.{Stream}
use Rattle.watch_model.specs.Lookups.{same_range}
use Rattle.watch_streams.specs.declared.rows.Row.{Row}
use Rattle.watch_streams.specs.declared.index.RangeIndex.{RangeIndex}
use Rattle.watch_streams.specs.Rows.{Backed, Indexed, IsAlone, of_range, digest, before, rising, under, row_of, rows_of}
use Rattle.watch_streams.proofs.Rising.{rest_rising, none_under}
use Rattle.watch_streams.proofs.Indexing.{same_digest}

under_shorter : (d : ℕ) (rs : List Row) → length (under d rs) ≤ length rs
under_shorter d [] = omega arith
under_shorter d (r ∷ rs) =
    let far = under_shorter d rs in
    elim (r.digest == d) as (λ b. length (cond b (r ∷ under d rs) (under d rs)) ≤ suc (length rs)) [ true ↦ omega (arith, far) | false ↦ omega (arith, far) ]

below_other : (a d : ℕ) → nat_lt a d ≡ true → (a == d) ≡ false
below_other a d e = grind (arith, nat_tests)

-- the rows end there
pub alone_at_end : (d : ℕ) (rs : List Row) → length rs ≤ suc (before d rs) → length (under d rs) ≤ 1
alone_at_end d [] l = omega arith
alone_at_end d (r ∷ rs) l =
    elim (nat_lt r.digest d) as (λ b. nat_lt r.digest d ≡ b → suc (length rs) ≤ suc (cond b (suc (before d rs)) 0) → length (under d (r ∷ rs)) ≤ 1) [
      | true ↦ λ e m. subst (λ b. length (cond b (r ∷ under d rs) (under d rs)) ≤ 1) (sym (below_other r.digest d e)) (alone_at_end d rs (omega (arith, m)))
      | false ↦ λ e m. let k = under_shorter d (r ∷ rs) in omega (arith, m, k)
    ] refl l

behind : (a b d : ℕ) → nat_lt a d ≡ false → a ≤ b → (b == d) ≡ false → d < b
behind a b d e l f = grind (arith, nat_tests)

alone_before : (d : ℕ) (r : Row) (rs : List Row) (x : Row) → nat_lt r.digest d ≡ false → rising r.digest rs ≡ true → 0 < length rs → ((get_or rs 0 x).digest == d) ≡ false → length (under d (r ∷ rs)) ≤ 1
alone_before d r [] x e h l f = absurd (omega arith)
alone_before d r (q ∷ qs) x e h l f =
    let p = rest_rising r.digest q qs h in
    let m : d < q.digest = behind r.digest q.digest d e p.0 f in
    let none : under d (q ∷ qs) ≡ [] = ap (λ b. cond b (q ∷ under d qs) (under d qs)) f ∙ none_under d q.digest qs p.1 m in
    subst (λ (l : List Row). length (cond (r.digest == d) (r ∷ l) l) ≤ 1) (sym none) (one (r.digest == d))
  where
    one : (b : Bool) → length (cond b (r ∷ []) []) ≤ 1
    one true = omega arith
    one false = omega arith

-- another digest stands behind the first one of its own
pub alone_at : (d low i : ℕ) (rs : List Row) (x : Row) → rising low rs ≡ true → i ≡ suc (before d rs) → i < length rs → ((get_or rs i x).digest == d) ≡ false → length (under d rs) ≤ 1
alone_at d low i [] x h e l f = absurd (omega arith)
alone_at d low i (r ∷ rs) x h e l f =
    let p = rest_rising low r rs h in
    elim (nat_lt r.digest d) as (λ b. nat_lt r.digest d ≡ b → i ≡ suc (cond b (suc (before d rs)) 0) → length (under d (r ∷ rs)) ≤ 1) [
      | true ↦ λ q k.
          let m : suc (before d rs) < length rs = omega (arith, l, k) in
          subst (λ b. length (cond b (r ∷ under d rs) (under d rs)) ≤ 1) (sym (below_other r.digest d q))
          (alone_at d r.digest (suc (before d rs)) rs x p.1 refl m (ap (λ (n : ℕ). (get_or (r ∷ rs) n x).digest == d) (sym k) ∙ f))
      | false ↦ λ q k. alone_before d r rs x q p.1 (omega (arith, l, k)) (ap (λ (n : ℕ). (get_or (r ∷ rs) n x).digest == d) (sym k) ∙ f)
    ] refl e

same_number : (a b : ℕ) → a ≡ b → (a == b) ≡ true
same_number a b e = grind (arith, nat_tests)

-- each stream of the range has a row of its digest
fewer : (range : KeyRange) (ss : List Stream) → length (of_range range ss) ≤ length (under (digest range) (rows_of ss))
fewer range [] = omega arith
fewer range (s ∷ ss) =
    let far = fewer range ss in
    elim (same_range s.stream.range range) as (λ b. same_range s.stream.range range ≡ b → length (cond b (s ∷ of_range range ss) (of_range range ss)) ≤ length (under (digest range) (row_of s ∷ rows_of ss))) [
      | true ↦ λ e.
          let k : (digest s.stream.range == digest range) ≡ true = same_number (digest s.stream.range) (digest range) (same_digest s.stream.range range e) in
          subst (λ b. suc (length (of_range range ss)) ≤ length (cond b (row_of s ∷ under (digest range) (rows_of ss)) (under (digest range) (rows_of ss)))) (sym k) (omega (arith, far))
      | false ↦ λ e. more (digest s.stream.range == digest range) far
    ] refl
  where
    more : (b : Bool) → length (of_range range ss) ≤ length (under (digest range) (rows_of ss)) → length (of_range range ss) ≤ length (cond b (row_of s ∷ under (digest range) (rows_of ss)) (under (digest range) (rows_of ss)))
    more true l = omega (arith, l)
    more false l = l

pub alone_is : (range : KeyRange) (rows : List Row) (ss : List Stream) → Indexed rows ss → length (under (digest range) rows) ≤ 1 → IsAlone range ss
alone_is range rows ss h l =
    let k : length (under (digest range) (rows_of ss)) ≤ 1 = subst (λ (rs : List Row). length rs ≤ 1) (h.same (digest range)) l in
    let f = fewer range ss in omega (arith, k, f)
