-- What a compare of create revisions tells.
use Rattle.std.proofs.Common.{◌≡◌, ℕ, Bool, true, false, cond, ◌||◌, List, [], ◌∷◌, ◌++◌, map, Option, None, Some, Contains, ◌⊎◌, inl, inr, refl, sym, ◌∙◌, ap, subst, arith}
use Rattle.std.specs.List.{list_all, list_any}
use Rattle.std.specs.Option.{option_to_list}
use Rattle.std.specs.Ordering.{nat_cmp, is_eq}
use Rattle.std.proofs.lemmas.Cmp.{by_ranked, ranked}
use Rattle.etcd_types.specs.declared.record.Kv.{Kv}
use Rattle.etcd_types.specs.declared.key_range.KeyRange.{KeyRange}
use Rattle.etcd_types.specs.Keys.{is_empty, same}
use Rattle.etcd_types.specs.Ranges.{is_one, contains}
use Rattle.etcd_types.proofs.KeyOrder.{same-equal}
use Rattle.store_model.specs.History.{History}
use Rattle.store_model.specs.Records.{record_now}
use Rattle.store_model.specs.Ranges.{records_now}
use Rattle.store_model.specs.Compares.{holds_of, record_holds, compare_holds}
use Rattle.proxy_model.specs.Prefixes.{under}
use Rattle.proxy_model.specs.Asks.{created_at}
use Rattle.proxy_model.specs.Guarded.{guard}
use Rattle.proxy_laws.proofs.OneKey.{records_one}
use Rattle.proxy_model.proofs.PrefixEnds.{ranges_stay}
use Rattle.etcd_types.proofs.Bools.{and_first, and_second}
use Rattle.store_laws.proofs.Lives.Histories.{records_are_made}
use Rattle.store_laws.proofs.Requests.Deletions.{listed, there_first, nothing_in}
use Rattle.cache_laws.specs.Guards.GuardLaw.{create_of}

pub equal_numbers : (a b : ℕ) → is_eq (nat_cmp a b) ≡ true → a ≡ b
equal_numbers a b e =
    by_ranked _ _ _ (nat_cmp a b) (ranked a b (nat_cmp a b) refl) (λ f l. absurd (let g = ap is_eq f in cc)) (λ f is. is) (λ f l. absurd (let g = ap is_eq f in cc))

of_member : (p : Kv → Bool) (kvs : List Kv) (kv : Kv) → list_all p kvs ≡ true → Contains kvs kv → p kv ≡ true
of_member p [] kv a c = absurd (nothing_in kv c)
of_member p (x ∷ xs) kv a c =
    elim (there_first x kv xs c) [
      | inl is ↦ subst (λ (y : Kv). p y ≡ true) is (and_first (p x) _ a)
      | inr d ↦ of_member p xs kv (and_second (p x) _ a) d
    ]

holds_member : (r : KeyRange) (n : ℕ) (kvs : List Kv) (kv : Kv) → holds_of (created_at r n) kvs ≡ true → Contains kvs kv → kv.create ≡ n
holds_member r n [] kv a c = absurd (nothing_in kv c)
holds_member r n (x ∷ xs) kv a c = equal_numbers kv.create n (of_member (record_holds (created_at r n)) (x ∷ xs) kv a c)

pub one_key : (r : KeyRange) (k : List ℕ) → is_one r ≡ true → contains r k ≡ true → k ≡ r.key
one_key r k e c = same-equal k r.key (by_one (is_empty r.end) _ e c)
  where
    by_one : (t : Bool) (rest : Bool) → t ≡ true → cond t (same k r.key) rest ≡ true → same k r.key ≡ true
    by_one true rest e c = c
    by_one false rest e c = absurd (cc)

pub holds-create : (h : History) (r : KeyRange) (n : ℕ) (k : List ℕ) → contains r k ≡ true → compare_holds h (created_at r n) ≡ true → (is_one r ≡ true) ⊎ (n ≡ 0) → create_of (record_now h k) ≡ n
holds-create h r n k c a m = by_found (record_now h k) refl
  where
    none_one : record_now h k ≡ None → is_one r ≡ true → 0 ≡ n
    none_one e one =
        let is = one_key r k one c in
        let none : records_now h r ≡ [] = records_one h r one ∙ ap (λ (j : List ℕ). option_to_list (record_now h j)) (sym is) ∙ ap option_to_list e in
        equal_numbers 0 n (ap (holds_of (created_at r n)) (sym none) ∙ a)

    by_found : (o : Option Kv) → record_now h k ≡ o → create_of o ≡ n
    by_found None e = elim m [ inl one ↦ none_one e one | inr zero ↦ sym zero ]
    by_found (Some kv) e = holds_member r n (records_now h r) kv a (listed h r k kv e c)

pub none-created : (h : History) (k : List ℕ) → create_of (record_now h k) ≡ 0 → record_now h k ≡ None
none-created h k e = by_found (record_now h k) refl e
  where
    by_found : (o : Option Kv) → record_now h k ≡ o → create_of o ≡ 0 → o ≡ None
    by_found None f g = refl
    by_found (Some kv) f g = absurd (let m = (records_are_made h k kv f).created in omega arith)

under_one : (p : List ℕ) (r : KeyRange) → is_one r ≡ true → is_one (under p r) ≡ true
under_one p r e = by_test (is_empty r.end) _ e
  where
    by_test : (t : Bool) (rest : List ℕ) → t ≡ true → is_empty (cond t [] rest) ≡ true
    by_test true rest e = refl
    by_test false rest e = absurd (cc)

-- a key of a guarded range had the ownership key that was compared
pub held-guard : (h : History) (p : List ℕ) (created : List ℕ → ℕ) (rs : List KeyRange) (k : List ℕ) → is_empty k ≡ false → list_all (compare_holds h) (map (guard p created) rs) ≡ true
    → list_any (λ r. contains r k) rs ≡ true → (list_all is_one rs ≡ true) ⊎ ((j : List ℕ) → created j ≡ 0) → create_of (record_now h (p ++ k)) ≡ created k
held-guard h p created [] k n a c m = absurd (cc)
held-guard h p created (r ∷ rs) k n a c m = by_test (contains r k) refl c (λ d. held-guard h p created rs k n (and_second (compare_holds h (guard p created r)) _ a) d (later m))
  where
    later : (list_all is_one (r ∷ rs) ≡ true) ⊎ ((j : List ℕ) → created j ≡ 0) → (list_all is_one rs ≡ true) ⊎ ((j : List ℕ) → created j ≡ 0)
    later (inl e) = inl (and_second (is_one r) _ e)
    later (inr z) = inr z

    here : contains r k ≡ true → create_of (record_now h (p ++ k)) ≡ created k
    here i =
        let stays = ranges_stay p k r n ∙ i in
        let held = and_first (compare_holds h (guard p created r)) _ a in
        elim m [
          | inl e ↦
              let one = and_first (is_one r) _ e in
              holds-create h (under p r) (created r.key) (p ++ k) stays held (inl (under_one p r one)) ∙ ap created (sym (one_key r k one i))
          | inr z ↦ holds-create h (under p r) (created r.key) (p ++ k) stays held (inr (z r.key)) ∙ z r.key ∙ sym (z k)
        ]

    by_test : (t : Bool) → contains r k ≡ t → t || list_any (λ r. contains r k) rs ≡ true → (list_any (λ r. contains r k) rs ≡ true → create_of (record_now h (p ++ k)) ≡ created k)
        → create_of (record_now h (p ++ k)) ≡ created k
    by_test true e f g = here e
    by_test false e f g = g f
