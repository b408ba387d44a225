-- A key is unwrapped exactly where it has the prefix.
use Rattle.std.proofs.Common.{◌≡◌, ℕ, Bool, true, false, cond, ◌+◌, ◌<◌, ◌==◌, List, [], ◌∷◌, ◌++◌, length, get_or, take, Option, None, Some, refl, sym, ◌∙◌, ap, subst, arith, MatchOption}
use Rattle.std.specs.Borrow.{Bor}
use Rattle.std.proofs.lemmas.Bool.Decides.{nat_tests}
use Rattle.std.specs.List.{cons_option}
use Rattle.std.proofs.lemmas.List.{append-nil, take_more}
use Rattle.std.proofs.lemmas.List.Elements.{filter_map-append}
use Rattle.proxy_model.specs.Prefixes.{without}
use Rattle.proxy_model.specs.Unwrapped.{own_keys}
use Rattle.namespace_keys.specs.Laws.{WrappedKeysAreUnwrapped, UnwrappedKeysWereWrapped}

itself : (b : ℕ) → (b == b) ≡ true
itself b = grind (arith, nat_tests)

pub wrapped_keys_are_unwrapped : WrappedKeysAreUnwrapped
wrapped_keys_are_unwrapped [] k = refl
wrapped_keys_are_unwrapped (b ∷ bs) k =
    ap (λ t. cond t (without bs (bs ++ k)) None) (itself b) ∙ wrapped_keys_are_unwrapped bs k

tested_same : (b c : ℕ) → (b == c) ≡ true → c ≡ b
tested_same b c e = grind (arith, nat_tests)

pub unwrapped_keys_were_wrapped : UnwrappedKeysWereWrapped
unwrapped_keys_were_wrapped [] k rest e = cc
unwrapped_keys_were_wrapped (b ∷ bs) [] rest e = absurd (cc)
unwrapped_keys_were_wrapped (b ∷ bs) (c ∷ cs) rest e = by_test (λ f. unwrapped_keys_were_wrapped bs cs rest f) (b == c) refl e
  where
    by_test : (without bs cs ≡ Some rest → cs ≡ bs ++ rest) → (t : Bool) → (b == c) ≡ t → cond t (without bs cs) None ≡ Some rest → c ∷ cs ≡ b ∷ (bs ++ rest)
    by_test h true same f = let s : c ≡ b = tested_same b c same in let t : cs ≡ bs ++ rest = h f in λ i. s i ∷ t i
    by_test h false same f = absurd (cc)

lacking : (p k : List ℕ) (o : Option (List ℕ)) → without p k ≡ o → ((rest : List ℕ) → k ≡ p ++ rest → ⊥) → o ≡ None
lacking p k None e n = refl
lacking p k (Some rest) e n = absurd (n rest (unwrapped_keys_were_wrapped p k rest e))

-- what stripping a prefix says of slices is what `without` gives
pub stripped : (p k front all : List ℕ) (r : Option (Bor (List ℕ))) → front ≡ p → all ≡ k
    → MatchOption r ((rest : List ℕ) → all ≡ front ++ rest → ⊥) (λ x. all ≡ front ++ x.now)
    → MatchOption r (without p k ≡ None) (λ x. without p k ≡ Some x.now)
stripped p k front all None e f n =
    lacking p k (without p k) refl (λ rest g. n rest (f ∙ g ∙ ap (λ (q : List ℕ). q ++ rest) (sym e)))
stripped p k front all (Some x) e f g =
    ap (without p) (sym f ∙ g ∙ ap (λ (q : List ℕ). q ++ x.now) e) ∙ wrapped_keys_are_unwrapped p x.now

-- of the keys up to the next one, those up to here and that one, if it has the prefix

one_more : (p : List ℕ) (ks : List (List ℕ)) (i : ℕ) (k : List ℕ) → i < length ks → k ≡ get_or ks i k
    → own_keys p (take (i + 1) ks) ≡ own_keys p (take i ks) ++ cons_option (without p k) []
one_more p ks i k l is =
    ap (own_keys p) (take_more ks i k l ∙ ap (λ (v : List ℕ). take i ks ++ v ∷ []) (sym is)) ∙ filter_map-append (without p) (take i ks) (k ∷ [])

pub own_added : (p : List ℕ) (ks items : List (List ℕ)) (i : ℕ) (k rest : List ℕ) (own : List (List ℕ)) → items ≡ ks → i < length items → k ≡ get_or items i k
    → without p k ≡ Some rest → own ≡ own_keys p (take i ks) → own ++ rest ∷ [] ≡ own_keys p (take (i + 1) ks)
own_added p ks items i k rest own s l is h e =
    let more = one_more p ks i k (subst (λ (v : List (List ℕ)). i < length v) s l) (subst (λ (v : List (List ℕ)). k ≡ get_or v i k) s is) in
    ap (λ (o : List (List ℕ)). o ++ rest ∷ []) e ∙ ap (λ (o : Option (List ℕ)). own_keys p (take i ks) ++ cons_option o []) (sym h) ∙ sym more

pub own_left_out : (p : List ℕ) (ks items : List (List ℕ)) (i : ℕ) (k : List ℕ) (own : List (List ℕ)) → items ≡ ks → i < length items → k ≡ get_or items i k
    → without p k ≡ None → own ≡ own_keys p (take i ks) → own ≡ own_keys p (take (i + 1) ks)
own_left_out p ks items i k own s l is h e =
    let more = one_more p ks i k (subst (λ (v : List (List ℕ)). i < length v) s l) (subst (λ (v : List (List ℕ)). k ≡ get_or v i k) s is) in
    e ∙ sym (append-nil (own_keys p (take i ks))) ∙ ap (λ (o : Option (List ℕ)). own_keys p (take i ks) ++ cons_option o []) (sym h) ∙ sym more
