-- What is due has its mark, and nothing else has one, whatever is put, taken out or sent.
use Rattle.std.proofs.Common.{◌≡◌, ℕ, Bool, true, false, not, cond, ◌==◌, ◌&&◌, List, [], ◌∷◌, filter, Option, None, Some, refl, sym, ◌∙◌, ap, inl, inr, arith}
use Rattle.std.specs.Ordering.{nat_cmp, is_eq, ordering_then}
use Rattle.std.specs.declared.cmp.Ordering.{Ordering}
use Rattle.std.specs.declared.cmp.Ordering.TheVariants.{Less, Equal, Greater}
use Rattle.std.proofs.lemmas.Bool.{cases_order}
use Rattle.std.proofs.lemmas.Bool.Decides.{nat_tests}
use Rattle.std.proofs.lemmas.Cmp.{nat_cmp_total, tied_itself}
use Rattle.std.specs.Cmp.{nat_cmp_is}
use Rattle.std.specs.Cmp.Lexicographic.{slice_cmp}
use Rattle.etcd_types.specs.Keys.{same}
use Rattle.etcd_types.proofs.Bools.{and_false}
use Rattle.etcd_types.proofs.KeyOrder.{same-equal}
use Rattle.proxy_model.specs.Keyed.{Keyed, at, with_at}
use Rattle.proxy_model.proofs.KeyedLaws.{at-with_at}
use Rattle.wait_model.specs.declared.sending.Sending.{Sending}
use Rattle.wait_model.specs.declared.sending.Sending.TheVariants as sending
use Rattle.read_model.specs.declared.acquire.Acquire.{Acquire}
use Rattle.read_model.specs.SessionEnd.{is_due, is_due_acquire}
use Rattle.acquire_rows.specs.Marks.{key_due, key_if, due_at, AreMarked, unmarked_sending, unmarked}

-- Marks are the same where their steps, tickets and keys are.

same_more : (a b : ℕ) (xs ys : List ℕ) → same (a ∷ xs) (b ∷ ys) ≡ (a == b) && same xs ys
same_more a b xs ys =
    elim (cases_order a b) [
      | inl e ↦ equal e
      | inr o ↦ elim o [ inl l ↦ differ Less (nat_cmp_is a b Less l) refl (grind (arith, nat_tests)) | inr g ↦ differ Greater (nat_cmp_is a b Greater g) refl (grind (arith, nat_tests)) ]
    ]
  where
    equal : a ≡ b → same (a ∷ xs) (b ∷ ys) ≡ (a == b) && same xs ys
    equal e =
        let t : (a == b) ≡ true = grind (arith, nat_tests) in
        let c : nat_cmp a b ≡ Equal = ap (λ n. nat_cmp a n) (sym e) ∙ tied_itself nat_cmp_total a in
        ap (λ o. is_eq (ordering_then o (slice_cmp nat_cmp xs ys))) c ∙ sym (ap (λ u. u && same xs ys) t)

    differ : (o : Ordering) → o ≡ nat_cmp a b → is_eq (ordering_then o (slice_cmp nat_cmp xs ys)) ≡ false → (a == b) ≡ false → same (a ∷ xs) (b ∷ ys) ≡ (a == b) && same xs ys
    differ o e f t = ap (λ u. is_eq (ordering_then u (slice_cmp nat_cmp xs ys))) (sym e) ∙ f ∙ sym (ap (λ u. u && same xs ys) t)

same_mark : (s t : ℕ) (k : List ℕ) (u v : ℕ) (j : List ℕ) → same (s ∷ t ∷ k) (u ∷ v ∷ j) ≡ ((s == u) && (t == v)) && same k j
same_mark s t k u v j =
    same_more s u (t ∷ k) (v ∷ j) ∙ ap (λ b. (s == u) && b) (same_more t v k j) ∙ regrouped (s == u) (t == v) (same k j)
  where
    regrouped : (a b c : Bool) → a && (b && c) ≡ (a && b) && c
    regrouped true b c = refl
    regrouped false b c = refl

-- a mark is none of these
no_short : (s t : ℕ) (k : List ℕ) (u : ℕ) → same (s ∷ t ∷ k) (u ∷ []) ≡ false
no_short s t k u = same_more s u (t ∷ k) [] ∙ and_false (s == u)

itself : (n : ℕ) → (n == n) ≡ true
itself n = grind (arith, nat_tests)

-- No acquires.

pub none_marked : AreMarked [] []
none_marked [] = refl
none_marked (s ∷ []) = refl
none_marked (s ∷ t ∷ k) = refl

-- what isn't due has no mark
key_none : (s t : ℕ) (k : List ℕ) (o : Option Acquire) → is_due_acquire o ≡ false → key_if s t k o ≡ None
key_none s t k None e = refl
key_none s t k (Some a) e = by_sending a.sending e
  where
    by_sending : (x : Sending) → is_due x ≡ false → key_due s t k a.ticket x ≡ None
    by_sending (sending.Due since) e = absurd (cc)
    by_sending (sending.Out call) e = refl

none_at : (rows : Keyed Acquire) → ((k : List ℕ) → is_due_acquire (at rows k) ≡ false) → AreMarked [] rows
none_at rows h [] = refl
none_at rows h (s ∷ []) = refl
none_at rows h (s ∷ t ∷ k) = sym (key_none s t k (at rows k) (h k))

-- One that becomes due.

pub begun : (marks : Keyed (List ℕ)) (rows : Keyed Acquire) (k : List ℕ) (a : Acquire) (since : ℕ) → a.sending ≡ sending.Due since → at rows k ≡ None → AreMarked marks rows → AreMarked (with_at marks (since ∷ a.ticket ∷ k) (Some k)) (with_at rows k (Some a))
begun marks rows k a since d n h [] = at-with_at marks (since ∷ a.ticket ∷ k) [] (Some k) ∙ h []
begun marks rows k a since d n h (s ∷ []) =
    at-with_at marks (since ∷ a.ticket ∷ k) (s ∷ []) (Some k)
    ∙ ap (λ b. cond b (Some k) (at marks (s ∷ []))) (no_short since a.ticket k s) ∙ h (s ∷ [])
begun marks rows k a since d n h (s ∷ t ∷ j) =
    at-with_at marks (since ∷ a.ticket ∷ k) (s ∷ t ∷ j) (Some k)
    ∙ ap (λ b. cond b (Some k) (at marks (s ∷ t ∷ j))) (same_mark since a.ticket k s t j)
    ∙ ap (λ o. cond (((since == s) && (a.ticket == t)) && same k j) (Some k) o) (h (s ∷ t ∷ j))
    ∙ by_key (same k j) refl
    ∙ ap (λ o. key_if s t j o) (sym (at-with_at rows k j (Some a)))
  where
    here : k ≡ j → (b : Bool) → cond (b && true) (Some k) (key_if s t j (at rows j)) ≡ cond b (Some j) None
    here e true = ap Some e
    here e false = ap (λ o. key_if s t j o) (ap (λ i. at rows i) (sym e) ∙ n)

    by_key : (b : Bool) → same k j ≡ b → cond (((since == s) && (a.ticket == t)) && b) (Some k) (key_if s t j (at rows j)) ≡ key_if s t j (cond b (Some a) (at rows j))
    by_key true e =
        here (same-equal k j e) ((since == s) && (a.ticket == t)) ∙ ap (λ x. key_due s t j a.ticket x) (sym d)
    by_key false e =
        ap (λ b. cond b (Some k) (key_if s t j (at rows j))) (and_false ((since == s) && (a.ticket == t)))

-- and is taken back
pub taken_back : (marks : Keyed (List ℕ)) (rows : Keyed Acquire) (k : List ℕ) (ticket since : ℕ) → at rows k ≡ None → AreMarked marks rows → AreMarked (with_at (with_at marks (since ∷ ticket ∷ k) (Some k)) (since ∷ ticket ∷ k) None) rows
taken_back marks rows k ticket since n h m =
    at-with_at (with_at marks (since ∷ ticket ∷ k) (Some k)) (since ∷ ticket ∷ k) m None
    ∙ ap (λ o. cond (same (since ∷ ticket ∷ k) m) None o) (at-with_at marks (since ∷ ticket ∷ k) m (Some k))
    ∙ one (same (since ∷ ticket ∷ k) m) refl ∙ h m
  where
    one : (b : Bool) → same (since ∷ ticket ∷ k) m ≡ b → cond b None (cond b (Some k) (at marks m)) ≡ at marks m
    one true e =
        sym (ap (λ i. at marks i) (sym (same-equal (since ∷ ticket ∷ k) m e)) ∙ h (since ∷ ticket ∷ k) ∙ ap (λ o. key_if since ticket k o) n)
    one false e = refl

-- nothing is taken out where nothing stands
pub absent_stays : {A : Type 0} (k : List ℕ) (es : Keyed A) → at es k ≡ None → with_at es k None ≡ es
absent_stays k [] n = refl
absent_stays k (e ∷ es) n = one (same k e.0) n (absent_stays k es)
  where
    one : (b : Bool) → cond b (Some e.1) (at es k) ≡ None → (at es k ≡ None → with_at es k None ≡ es) → cond (not b) (e ∷ with_at es k None) (with_at es k None) ≡ e ∷ es
    one true n f = absurd (cc)
    one false n f = ap (λ (fs : Keyed _). e ∷ fs) (f n)

-- One whose key has no due acquire any more.

pub taken_off : (marks : Keyed (List ℕ)) (rows : Keyed Acquire) (k : List ℕ) (o : Option Acquire) → is_due_acquire o ≡ false → AreMarked marks rows → AreMarked (unmarked k (at rows k) marks) (with_at rows k o)
taken_off marks rows k o f h m = by_there (at rows k) refl m
  where
    -- all other keys are as they were, and this one has no mark
    left : (s t : ℕ) (j : List ℕ) (b : Bool) → same k j ≡ b → cond b None (due_at rows (s ∷ t ∷ j)) ≡ key_if s t j (cond b o (at rows j))
    left s t j true e = sym (key_none s t j o f)
    left s t j false e = refl

    gone : (s t : ℕ) (j : List ℕ) → cond (same k j) None (due_at rows (s ∷ t ∷ j)) ≡ due_at (with_at rows k o) (s ∷ t ∷ j)
    gone s t j = left s t j (same k j) refl ∙ ap (λ x. key_if s t j x) (sym (at-with_at rows k j o))

    -- nothing due stood at the key
    nothing : is_due_acquire (at rows k) ≡ false → (s t : ℕ) (j : List ℕ) → at marks (s ∷ t ∷ j) ≡ due_at (with_at rows k o) (s ∷ t ∷ j)
    nothing n s t j =
        h (s ∷ t ∷ j) ∙ by_key (same k j) refl ∙ gone s t j
      where
        by_key : (b : Bool) → same k j ≡ b → due_at rows (s ∷ t ∷ j) ≡ cond b None (due_at rows (s ∷ t ∷ j))
        by_key true e =
            key_none s t j (at rows j) (ap (λ i. is_due_acquire (at rows i)) (sym (same-equal k j e)) ∙ n)
        by_key false e = refl

    none_there : is_due_acquire (at rows k) ≡ false → (i : List ℕ) → at marks i ≡ due_at (with_at rows k o) i
    none_there n [] = h []
    none_there n (s ∷ []) = h (s ∷ [])
    none_there n (s ∷ t ∷ j) = nothing n s t j

    due_there : (a : Acquire) (since : ℕ) → at rows k ≡ Some a → a.sending ≡ sending.Due since → (i : List ℕ) → at (with_at marks (since ∷ a.ticket ∷ k) None) i ≡ due_at (with_at rows k o) i
    due_there a since e d [] = at-with_at marks (since ∷ a.ticket ∷ k) [] None ∙ h []
    due_there a since e d (s ∷ []) =
        at-with_at marks (since ∷ a.ticket ∷ k) (s ∷ []) None
        ∙ ap (λ b. cond b None (at marks (s ∷ []))) (no_short since a.ticket k s) ∙ h (s ∷ [])
    due_there a since e d (s ∷ t ∷ j) =
        at-with_at marks (since ∷ a.ticket ∷ k) (s ∷ t ∷ j) None
        ∙ ap (λ b. cond b None (at marks (s ∷ t ∷ j))) (same_mark since a.ticket k s t j)
        ∙ ap (λ x. cond (((since == s) && (a.ticket == t)) && same k j) None x) (h (s ∷ t ∷ j))
        ∙ by_key (same k j) refl ∙ gone s t j
      where
        own : (b : Bool) → cond (b && true) None (cond b (Some j) None) ≡ None
        own true = refl
        own false = refl

        by_key : (b : Bool) → same k j ≡ b → cond (((since == s) && (a.ticket == t)) && b) None (due_at rows (s ∷ t ∷ j)) ≡ cond b None (due_at rows (s ∷ t ∷ j))
        by_key true q =
            ap (λ x. cond (((since == s) && (a.ticket == t)) && true) None (key_if s t j x)) (ap (λ i. at rows i) (sym (same-equal k j q)) ∙ e)
            ∙ ap (λ x. cond (((since == s) && (a.ticket == t)) && true) None (key_due s t j a.ticket x)) d
            ∙ own ((since == s) && (a.ticket == t))
        by_key false q =
            ap (λ b. cond b None (due_at rows (s ∷ t ∷ j))) (and_false ((since == s) && (a.ticket == t)))

    by_sending : (a : Acquire) → at rows k ≡ Some a → (x : Sending) → a.sending ≡ x → (i : List ℕ) → at (unmarked_sending k a.ticket x marks) i ≡ due_at (with_at rows k o) i
    by_sending a e (sending.Due since) d i = due_there a since e d i
    by_sending a e (sending.Out call) d i = none_there (ap is_due_acquire e ∙ ap is_due d) i

    by_there : (x : Option Acquire) → at rows k ≡ x → (i : List ℕ) → at (unmarked k x marks) i ≡ due_at (with_at rows k o) i
    by_there None e i = none_there (ap is_due_acquire e) i
    by_there (Some a) e i = by_sending a e a.sending refl i

-- None is due any more.

left_undue : (rows : Keyed Acquire) (k : List ℕ) → is_due_acquire (at (filter (λ e. not (is_due e.1.sending)) rows) k) ≡ false
left_undue [] k = refl
left_undue (e ∷ es) k = by_due (is_due e.1.sending) refl (left_undue es k)
  where
    by_key : (b : Bool) → is_due e.1.sending ≡ false → is_due_acquire (at (filter (λ x. not (is_due x.1.sending)) es) k) ≡ false → is_due_acquire (cond b (Some e.1) (at (filter (λ x. not (is_due x.1.sending)) es) k)) ≡ false
    by_key true d r = d
    by_key false d r = r

    by_due : (b : Bool) → is_due e.1.sending ≡ b → is_due_acquire (at (filter (λ x. not (is_due x.1.sending)) es) k) ≡ false → is_due_acquire (at (cond (not b) (e ∷ filter (λ x. not (is_due x.1.sending)) es) (filter (λ x. not (is_due x.1.sending)) es)) k) ≡ false
    by_due true d r = r
    by_due false d r = by_key (same k e.0) d r

pub all_taken_off : (rows : Keyed Acquire) → AreMarked [] (filter (λ e. not (is_due e.1.sending)) rows)
all_taken_off rows = none_at (filter (λ e. not (is_due e.1.sending)) rows) (left_undue rows)
