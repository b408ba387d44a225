-- A request that is asked, and taken back where memory was wanting.
use Rattle.std.proofs.Common.{◌≡◌, ℕ, Bool, true, false, not, cond, ◌==◌, ◌&&◌, IsTrue, List, [], ◌∷◌, ◌++◌, Option, None, Some, refl, sym, ◌∙◌, ap, arith}
use Rattle.std.specs.Prelude.{unwrap_or}
use Rattle.std.proofs.lemmas.Bool.Decides.{nat_tests}
use Rattle.etcd_types.specs.Keys.{same, is_empty}
use Rattle.etcd_types.specs.Ranges.{contains}
use Rattle.etcd_types.specs.declared.request.Request.{Request}
use Rattle.etcd_types.proofs.Bools.{and_second}
use Rattle.etcd_types.proofs.KeyOrder.{same-equal}
use Rattle.proxy_model.specs.Keyed.{Keyed, at, with_at, is_in_order}
use Rattle.proxy_model.specs.Prefixes.{leasing_range}
use Rattle.proxy_model.proofs.KeyedLaws.{at-with_at, in_order-with_at, same_keyed}
use Rattle.wait_model.specs.Leaving.{moment_or_zero}
use Rattle.read_model.specs.declared.asked.Asked.{Asked}
use Rattle.read_model.specs.PlainRead.{key_of, is_ownable}
use Rattle.core_model.specs.Asking.{is_leased_read, is_plain_request}
use Rattle.core_model.specs.Lookups.{has_ticket, ask_at, without_ask}

-- a read that isn't passed on is of no key of the leasing range
pub not_leasing : (prefix : List ℕ) (q : Request) → is_leased_read prefix q ≡ true → contains (leasing_range prefix) (key_of q) ≡ false
not_leasing prefix q t = turned (contains (leasing_range prefix) (key_of q)) (and_second (is_plain_request q) (not (contains (leasing_range prefix) (key_of q))) t)
  where
    turned : (b : Bool) → not b ≡ true → b ≡ false
    turned true e = sym e
    turned false e = refl

-- so it is of an ownable key where neither the prefix nor the key is empty
pub ownable : (prefix k : List ℕ) → contains (leasing_range prefix) k ≡ false → not (is_empty prefix) && not (is_empty k) ≡ is_ownable prefix k
ownable prefix k f = sym (ap (λ b. not (is_empty prefix) && not (is_empty k) && not b) f ∙ whole (not (is_empty prefix) && not (is_empty k)))
  where
    whole : (b : Bool) → b && true ≡ b
    whole true = refl
    whole false = refl

pub zero_or : (o : Option ℕ) → moment_or_zero o ≡ unwrap_or o 0
zero_or None = refl
zero_or (Some n) = refl

-- Taken back.

itself : (n : ℕ) → (n == n) ≡ true
itself n = grind (arith, nat_tests)

pub taken_back : (a : Asked) (xs : List Asked) → ask_at a.ticket xs ≡ None → without_ask a.ticket (xs ++ a ∷ []) ≡ xs
taken_back a [] n = ap (λ b. cond (not b) (a ∷ []) []) (itself a.ticket)
taken_back a (x ∷ xs) n = one (has_ticket a.ticket x) n (taken_back a xs)
  where
    one : (b : Bool) → cond b (Some x) (ask_at a.ticket xs) ≡ None → (ask_at a.ticket xs ≡ None → without_ask a.ticket (xs ++ a ∷ []) ≡ xs) → cond (not b) (x ∷ without_ask a.ticket (xs ++ a ∷ [])) (without_ask a.ticket (xs ++ a ∷ [])) ≡ x ∷ xs
    one true n f = absurd (cc)
    one false n f = ap (λ (l : List Asked). x ∷ l) (f n)

pub put_back : {A : Type 0} (es : Keyed A) (k : List ℕ) (x : A) → IsTrue (is_in_order es) → at es k ≡ None → with_at (with_at es k (Some x)) k None ≡ es
put_back es k x s n = same_keyed (with_at (with_at es k (Some x)) k None) es (in_order-with_at (with_at es k (Some x)) k None (in_order-with_at es k (Some x) s)) s each
  where
    each : (j : List ℕ) → at (with_at (with_at es k (Some x)) k None) j ≡ at es j
    each j = at-with_at (with_at es k (Some x)) k j None ∙ ap (λ (o : Option _). cond (same k j) None o) (at-with_at es k j (Some x)) ∙ one (same k j) refl
      where
        one : (b : Bool) → same k j ≡ b → cond b None (cond b (Some x) (at es j)) ≡ at es j
        one false e = refl
        one true e = sym (ap (at es) (sym (same-equal k j e)) ∙ n)
