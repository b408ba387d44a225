-- Streams are closed from the last one on: each sees only those before it, which are as they were.
use Rattle.std.proofs.Common.{◌≡◌, ℕ, zero, suc, ◌+◌, ◌<◌, true, false, cond, ◌&&◌, ◌==◌, List, [], ◌∷◌, ◌++◌, map, take, drop, set, get_or, length, refl, ap, sym, ◌∙◌, add-one, arith}
use Rattle.std.proofs.lemmas.Bool.Decides.{nat_tests}
use Rattle.etcd_types.specs.declared.key_range.KeyRange.{KeyRange}
use Rattle.watch_model.specs.declared.stream.StreamPhase.TheVariants as phase
use Rattle.watch_model.specs.State.{Stream}
use Rattle.watch_model.specs.Merging.{is_of, keeper, kept_by, merged_stream}

set_front : {A : Type 0} (g : A → A) (at : ℕ) (ss : List A) (d : A) → at < length ss → set (take (suc at) ss ++ map g (drop (suc at) ss)) at (g (get_or ss at d)) ≡ take at ss ++ map g (drop at ss)
set_front g at [] d l = absurd (omega arith)
set_front g zero (s ∷ ss) d l = refl
set_front g (suc at) (s ∷ ss) d l = ap (λ (t : List _). s ∷ t) (set_front g at ss d (omega arith))

get_front : {A : Type 0} (at : ℕ) (ss ys : List A) (d : A) → at < length ss → get_or (take (suc at) ss ++ ys) at d ≡ get_or ss at d
get_front at [] ys d l = absurd (omega arith)
get_front zero (s ∷ ss) ys d l = refl
get_front (suc at) (s ∷ ss) ys d l = get_front at ss ys d (omega arith)

take_front : {A : Type 0} (at : ℕ) (ss ys : List A) → at < length ss → take (suc at) (take (suc at) ss ++ ys) ≡ take (suc at) ss
take_front at [] ys l = absurd (omega arith)
take_front zero (s ∷ ss) ys l = refl
take_front (suc at) (s ∷ ss) ys l = ap (λ (t : List _). s ∷ t) (take_front at ss ys (omega arith))

keeper_front : (range : KeyRange) (next number at : ℕ) (ss : List Stream) (d : Stream) → at < length ss → (is_of range (get_or ss at d) && (get_or ss at d).stream.next == next) ≡ true
    → keeper range next number (take (suc at) ss) ≡ keeper range next number ss
keeper_front range next number at [] d l e = absurd (omega arith)
keeper_front range next number zero (s ∷ ss) d l e = ap (λ b. cond b s.number number) e ∙ sym (ap (λ b. cond b s.number (keeper range next number ss)) e)
keeper_front range next number (suc at) (s ∷ ss) d l e = ap (λ (k : ℕ). cond (is_of range s && s.stream.next == next) s.number k) (keeper_front range next number at ss d (omega arith) e)

itself : (n : ℕ) → (n == n) ≡ true
itself n = grind (arith, nat_tests)

kept_front : (range : KeyRange) (at : ℕ) (ss : List Stream) (d : Stream) → at < length ss → kept_by range (take (suc at) ss) (get_or ss at d) ≡ kept_by range ss (get_or ss at d)
kept_front range at ss d l =
    let s = get_or ss at d in
    elim (is_of range s) as (λ b. is_of range s ≡ b → cond b (keeper range s.stream.next s.number (take (suc at) ss)) s.number ≡ cond b (keeper range s.stream.next s.number ss) s.number) [
      | true ↦ λ e. keeper_front range s.stream.next s.number at ss d l (ap (λ b. b && s.stream.next == s.stream.next) e ∙ itself s.stream.next)
      | false ↦ λ e. refl
    ] refl

merged_front : (range : KeyRange) (step at : ℕ) (ss : List Stream) (d : Stream) → at < length ss → merged_stream range (take (suc at) ss) step (get_or ss at d) ≡ merged_stream range ss step (get_or ss at d)
merged_front range step at ss d l =
    let s = get_or ss at d in
    ap (λ (k : ℕ). cond (k == s.number) s (record s { phase = phase.Closing step })) (kept_front range at ss d l)

-- xs is the list so far, n how many are as they were
pub one_closed : (range : KeyRange) (step at n m : ℕ) (ss xs : List Stream) (d : Stream) → n ≡ suc at → m ≡ at → at < length ss
    → xs ≡ take n ss ++ map (merged_stream range ss step) (drop n ss)
    → set xs at (merged_stream range (take (at + 1) xs) step (get_or xs at d)) ≡ take m ss ++ map (merged_stream range ss step) (drop m ss)
one_closed range step at n m ss xs d e f l h =
    let g = merged_stream range ss step in
    let ys = map g (drop (suc at) ss) in
    let is : xs ≡ take (suc at) ss ++ ys = h ∙ ap (λ (k : ℕ). take k ss ++ map g (drop k ss)) e in
    rw (is, add-one at, take_front at ss ys l, get_front at ss ys d l, merged_front range step at ss d l, f) (set_front g at ss d l)

pub length_half : {A : Type 0} (g : A → A) (n : ℕ) (ss : List A) → length (take n ss ++ map g (drop n ss)) ≡ length ss
length_half g zero [] = refl
length_half g zero (s ∷ ss) = ap (λ (k : ℕ). suc k) (length_half g zero ss)
length_half g (suc n) [] = refl
length_half g (suc n) (s ∷ ss) = ap (λ (k : ℕ). suc k) (length_half g n ss)
