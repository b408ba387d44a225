-- A range of one stream at most has no twins.
use Rattle.std.proofs.Common.{◌≡◌, ℕ, ◌≤◌, Bool, true, false, not, cond, ◌&&◌, ◌||◌, ◌==◌, List, [], ◌∷◌, length, refl, ap, sym, ◌∙◌, arith}
use Rattle.std.specs.List.{list_any}
use Rattle.std.proofs.lemmas.Bool.Decides.{nat_tests}
use Rattle.etcd_types.specs.declared.key_range.KeyRange.{KeyRange}
use Rattle.watch_model.specs.State.{Stream}
use Rattle.watch_model.specs.Lookups.{same_range, is_standing}
use Rattle.watch_model.specs.Merging.{is_of, keeper, kept_by}
use Rattle.watch_streams.specs.Rows.{of_range, IsAlone}
use Rattle.watch_merge.specs.Twins.{is_twin, has_twins}

-- where none has the range
keeps_none : (range : KeyRange) (next number : ℕ) (ss : List Stream) → of_range range ss ≡ [] → keeper range next number ss ≡ number
keeps_none range next number [] e = refl
keeps_none range next number (s ∷ ss) e =
    elim (same_range s.stream.range range) as (λ b. cond b (s ∷ of_range range ss) (of_range range ss) ≡ [] → cond ((b && is_standing s) && s.stream.next == next) s.number (keeper range next number ss) ≡ number) [
      | true ↦ λ f. absurd (cc)
      | false ↦ λ f. keeps_none range next number ss f
    ] e

-- or this one alone
keeps_one : (range : KeyRange) (next number : ℕ) (u : Stream) (ss : List Stream) → of_range range ss ≡ u ∷ [] → keeper range next number ss ≡ cond (is_of range u && u.stream.next == next) u.number number
keeps_one range next number u [] e = absurd (cc)
keeps_one range next number u (s ∷ ss) e =
    elim (same_range s.stream.range range) as (λ b. same_range s.stream.range range ≡ b → cond b (s ∷ of_range range ss) (of_range range ss) ≡ u ∷ [] → keeper range next number (s ∷ ss) ≡ cond (is_of range u && u.stream.next == next) u.number number) [
      | true ↦ λ q f.
          let first : s ≡ u = cc in
          let none : of_range range ss ≡ [] = cc in
          ap (λ (k : ℕ). cond (is_of range s && s.stream.next == next) s.number k) (keeps_none range next number ss none)
          ∙ ap (λ (x : Stream). cond (is_of range x && x.stream.next == next) x.number number) first
      | false ↦ λ q f. ap (λ b. cond ((b && is_standing s) && s.stream.next == next) s.number (keeper range next number ss)) q ∙ keeps_one range next number u ss f
    ] refl e

itself : (a b : ℕ) → a ≡ b → not (a == b) ≡ false
itself a b e = grind (arith, nat_tests)

either : {A : Type 0} (c : Bool) (x : A) → cond c x x ≡ x
either true x = refl
either false x = refl

other_keeps : (range : KeyRange) (all : List Stream) (s : Stream) → same_range s.stream.range range ≡ false → kept_by range all s ≡ s.number
other_keeps range all s e = ap (λ b. cond (b && is_standing s) (keeper range s.stream.next s.number all) s.number) e

one_keeps : (range : KeyRange) (all : List Stream) (u : Stream) → of_range range all ≡ u ∷ [] → kept_by range all u ≡ u.number
one_keeps range all u e =
    ap (λ (k : ℕ). cond (is_of range u) k u.number) (keeps_one range u.stream.next u.number u all e ∙ either (is_of range u && u.stream.next == u.stream.next) u.number) ∙ either (is_of range u) u.number

none_twin : (range : KeyRange) (all ss : List Stream) → of_range range ss ≡ [] → list_any (is_twin range all) ss ≡ false
none_twin range all [] e = refl
none_twin range all (s ∷ ss) e =
    elim (same_range s.stream.range range) as (λ b. same_range s.stream.range range ≡ b → cond b (s ∷ of_range range ss) (of_range range ss) ≡ [] → list_any (is_twin range all) (s ∷ ss) ≡ false) [
      | true ↦ λ q f. absurd (cc)
      | false ↦ λ q f. ap (λ b. b || list_any (is_twin range all) ss) (itself (kept_by range all s) s.number (other_keeps range all s q)) ∙ none_twin range all ss f
    ] refl e

one_twin : (range : KeyRange) (all : List Stream) (u : Stream) (ss : List Stream) → of_range range all ≡ u ∷ [] → of_range range ss ≡ u ∷ [] → list_any (is_twin range all) ss ≡ false
one_twin range all u [] h e = absurd (cc)
one_twin range all u (s ∷ ss) h e =
    elim (same_range s.stream.range range) as (λ b. same_range s.stream.range range ≡ b → cond b (s ∷ of_range range ss) (of_range range ss) ≡ u ∷ [] → list_any (is_twin range all) (s ∷ ss) ≡ false) [
      | true ↦ λ q f.
          let first : s ≡ u = cc in
          let none : of_range range ss ≡ [] = cc in
          let keeps : kept_by range all s ≡ s.number = ap (kept_by range all) first ∙ one_keeps range all u h ∙ ap (λ (x : Stream). x.number) (sym first) in
          ap (λ b. b || list_any (is_twin range all) ss) (itself (kept_by range all s) s.number keeps) ∙ none_twin range all ss none
      | false ↦ λ q f. ap (λ b. b || list_any (is_twin range all) ss) (itself (kept_by range all s) s.number (other_keeps range all s q)) ∙ one_twin range all u ss h f
    ] refl e

pub alone_has_none : (range : KeyRange) (ss : List Stream) → IsAlone range ss → has_twins range ss ≡ false
alone_has_none range ss l = by (of_range range ss) refl l
  where
    by : (us : List Stream) → of_range range ss ≡ us → length us ≤ 1 → has_twins range ss ≡ false
    by [] e l = none_twin range ss ss e
    by (u ∷ []) e l = one_twin range ss u ss e e
    by (u ∷ v ∷ us) e l = absurd (omega arith)
