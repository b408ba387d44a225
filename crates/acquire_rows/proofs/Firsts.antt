-- The acquire of the first mark is sent first, since each that is due has its mark, and marks stand in order.
use Rattle.std.proofs.Common.{◌≡◌, ℕ, Bool, true, false, not, cond, ◌==◌, ◌&&◌, ◌||◌, IsTrue, List, [], ◌∷◌, Option, None, Some, refl, sym, ◌∙◌, ap, subst, arith}
use Rattle.std.specs.List.{list_all}
use lib.Dec.{T}
use Rattle.std.specs.Ordering.{is_eq, is_le, is_lt}
use Rattle.std.specs.declared.cmp.Ordering.TheVariants.{Less}
use Rattle.std.specs.FinMap.{is_sorted}
use Rattle.std.specs.FinMap.Entries.{below_all}
use Rattle.std.proofs.lemmas.Bool.Decides.{nat_tests}
use Rattle.etcd_types.specs.Keys.{same, up_to}
use Rattle.etcd_types.proofs.Bools.{and_both, and_first, and_second}
use Rattle.etcd_types.proofs.KeyOrder.{same-equal, same-itself, up_to-itself}
use Rattle.proxy_model.specs.Keyed.{Keyed, at, is_in_order}
use Rattle.proxy_model.proofs.KeyedLaws.{to_T}
use Rattle.keyed_rows.proofs.Places.{order, first_part, first_T, second_part, less}
use Rattle.wait_model.specs.declared.sending.Sending.{Sending}
use Rattle.wait_model.specs.declared.sending.Sending.TheVariants as sending
use Rattle.read_model.specs.declared.acquire.Acquire.{Acquire}
use Rattle.read_model.specs.SessionEnd.{is_due}
use Rattle.acquire_rows.specs.Marks.{since_of, mark_of, key_due, key_if, due_at, AreMarked, first_of}
use Rattle.acquire_rows.specs.First.{none_due, IsFirstDue}

-- Lists in order.

-- what is below all is below each that stands
pub below_each : {A : Type 0} (es : Keyed A) (x j : List ℕ) (v : A) → T (below_all order x es) → at es j ≡ Some v → order x j ≡ Less
below_each [] x j v b e = absurd (cc)
below_each (y ∷ es) x j v b e = by_key (λ f. below_each es x j v (second_part (is_lt (order x y.0)) _ b) f) (same j y.0) refl e
  where
    by_key : (at es j ≡ Some v → order x j ≡ Less) → (c : Bool) → same j y.0 ≡ c → cond c (Some y.1) (at es j) ≡ Some v → order x j ≡ Less
    by_key rest true s f =
        subst (λ (k : List ℕ). order x k ≡ Less) (sym (same-equal j y.0 s)) (less (order x y.0) (first_part _ _ b))
    by_key rest false s f = rest f

-- a test that what stands at each key passes is passed by all
pub all_pass : {A : Type 0} (p : List ℕ × A → Bool) (es : Keyed A) → T (is_sorted order es) → ((k : List ℕ) (v : A) → at es k ≡ Some v → p (k, v) ≡ true) → list_all p es ≡ true
all_pass p [] s h = refl
all_pass p (e ∷ es) s h =
    and_both (p e) (list_all p es) (h e.0 e.1 (ap (λ b. cond b (Some e.1) (at es e.0)) (same-itself e.0)))
    (all_pass p es (second_part (below_all order e.0 es) _ s) (λ k v f. h k v (behind k v f)))
  where
    behind : (k : List ℕ) (v : _) → at es k ≡ Some v → at (e ∷ es) k ≡ Some v
    behind k v f = by_key (same k e.0) refl
      where
        by_key : (c : Bool) → same k e.0 ≡ c → cond c (Some e.1) (at es k) ≡ Some v
        by_key false t = f
        by_key true t =
            let l = below_each es e.0 k v (first_T (below_all order e.0 es) _ s) f in
            let one : e.0 ≡ k = sym (same-equal k e.0 t) in
            let itself : same e.0 k ≡ true = subst (λ (i : List ℕ). same e.0 i ≡ true) one (same-itself e.0) in
            let other : same e.0 k ≡ false = ap is_eq l in
            absurd (cc)

-- Marks and acquires.

itself : (n : ℕ) → (n == n) ≡ true
itself n = grind (arith, nat_tests)

-- a due one has its mark
has_mark : (rows : Keyed Acquire) (k : List ℕ) (a : Acquire) → at rows k ≡ Some a → is_due a.sending ≡ true → due_at rows (mark_of (k, a)) ≡ Some k
has_mark rows k a e d =
    ap (λ o. key_if (since_of a.sending) a.ticket k o) e ∙ by_sending a.sending d
  where
    by_sending : (x : Sending) → is_due x ≡ true → key_due (since_of x) a.ticket k a.ticket x ≡ Some k
    by_sending (sending.Due since) d =
        ap (λ b. cond (b && (a.ticket == a.ticket)) (Some k) None) (itself since) ∙ ap (λ b. cond b (Some k) None) (itself a.ticket)
    by_sending (sending.Out call) d = absurd (cc)

pub record MarkedBy (rows : Keyed Acquire) (m k : List ℕ) : Type 0 where
  pub acquire : Acquire
  pub there : at rows k ≡ Some acquire
  pub due : is_due acquire.sending ≡ true
  pub mark : m ≡ mark_of (k, acquire)

-- a mark is of a due one
pub marked_by : (rows : Keyed Acquire) (m k : List ℕ) → due_at rows m ≡ Some k → MarkedBy rows m k
marked_by rows [] k e = absurd (cc)
marked_by rows (s ∷ []) k e = absurd (cc)
marked_by rows (s ∷ t ∷ j) k e = by_there (at rows j) refl e
  where
    equal : (n o : ℕ) → (n == o) ≡ true → n ≡ o
    equal n o q = grind (arith, nat_tests)

    by_test : (a : Acquire) (since : ℕ) → at rows j ≡ Some a → a.sending ≡ sending.Due since → (b : Bool) → (since == s) && (a.ticket == t) ≡ b → cond b (Some j) None ≡ Some k → MarkedBy rows (s ∷ t ∷ j) k
    by_test a since f d false q g = absurd (cc)
    by_test a since f d true q g =
        let key : j ≡ k = cc in
        let step : since ≡ s = equal since s (and_first (since == s) (a.ticket == t) q) in
        let ticket : a.ticket ≡ t = equal a.ticket t (and_second (since == s) (a.ticket == t) q) in
        record {
          acquire = a;
          there = subst (λ (i : List ℕ). at rows i ≡ Some a) key f;
          due = ap is_due d;
          mark = λ i. (sym step ∙ sym (ap since_of d)) i ∷ sym ticket i ∷ key i;
        }

    by_sending : (a : Acquire) → at rows j ≡ Some a → (x : Sending) → a.sending ≡ x → key_due s t j a.ticket x ≡ Some k → MarkedBy rows (s ∷ t ∷ j) k
    by_sending a f (sending.Due since) d g = by_test a since f d ((since == s) && (a.ticket == t)) refl g
    by_sending a f (sending.Out call) d g = absurd (cc)

    by_there : (o : Option Acquire) → at rows j ≡ o → key_if s t j o ≡ Some k → MarkedBy rows (s ∷ t ∷ j) k
    by_there None f g = absurd (cc)
    by_there (Some a) f g = by_sending a f a.sending refl g

-- The first one.

-- no mark stands before the first
up_to_each : (e : List ℕ × List ℕ) (es : Keyed (List ℕ)) (m k : List ℕ) → T (is_sorted order (e ∷ es)) → at (e ∷ es) m ≡ Some k → up_to e.0 m ≡ true
up_to_each e es m k s h = by_key (same m e.0) refl h
  where
    by_key : (c : Bool) → same m e.0 ≡ c → cond c (Some e.1) (at es m) ≡ Some k → up_to e.0 m ≡ true
    by_key true t f = subst (λ (i : List ℕ). up_to e.0 i ≡ true) (sym (same-equal m e.0 t)) (up_to-itself e.0)
    by_key false t f = ap is_le (below_each es e.0 m k (first_T (below_all order e.0 es) _ s) f)

if_due : (b c : Bool) → (b ≡ true → c ≡ true) → not b || c ≡ true
if_due true c h = h refl
if_due false c h = refl

-- where there is no mark none is due
pub none_first : (rows : Keyed Acquire) (marks : Keyed (List ℕ)) → IsTrue (is_in_order rows) → AreMarked marks rows → marks ≡ [] → none_due rows ≡ true
none_first rows marks s h n =
    all_pass (λ e. not (is_due e.1.sending)) rows (to_T _ s) (λ k a e. by_due k a e (is_due a.sending) refl)
  where
    by_due : (k : List ℕ) (a : Acquire) → at rows k ≡ Some a → (b : Bool) → is_due a.sending ≡ b → not b ≡ true
    by_due k a e false d = refl
    by_due k a e true d =
        let m : at marks (mark_of (k, a)) ≡ Some k = h (mark_of (k, a)) ∙ has_mark rows k a e d in
        let o : at marks (mark_of (k, a)) ≡ None = ap (λ (t : Keyed (List ℕ)). at t (mark_of (k, a))) n in
        absurd (cc)

first_mark : (marks : Keyed (List ℕ)) (k : List ℕ) → first_of marks ≡ Some k → (e : List ℕ × List ℕ) × (es : Keyed (List ℕ)) × (marks ≡ e ∷ es) × (e.1 ≡ k)
first_mark [] k e = absurd (cc)
first_mark (x ∷ xs) k e = (x, xs, refl, cc)

pub no_mark : (marks : Keyed (List ℕ)) → None ≡ first_of marks → marks ≡ []
no_mark [] e = refl
no_mark (x ∷ xs) e = absurd (cc)

first_there : (rows : Keyed Acquire) (marks : Keyed (List ℕ)) (k : List ℕ) → AreMarked marks rows → first_of marks ≡ Some k → (e : List ℕ × List ℕ) × (es : Keyed (List ℕ)) × (marks ≡ e ∷ es) × MarkedBy rows e.0 k
first_there rows marks k h f =
    let x = first_mark marks k f in
    let there : at marks x.0.0 ≡ Some k = ap (λ (t : Keyed (List ℕ)). at t x.0.0) x.2 ∙ ap (λ b. cond b (Some x.0.1) (at x.1 x.0.0)) (same-itself x.0.0) ∙ ap Some x.3 in
    (x.0, x.1, x.2, marked_by rows x.0.0 k (sym (h x.0.0) ∙ there))

-- the key of the first mark has an acquire
pub first_stands : (rows : Keyed Acquire) (marks : Keyed (List ℕ)) (k : List ℕ) → AreMarked marks rows → first_of marks ≡ Some k → at rows k ≡ None → ⊥
first_stands rows marks k h f n = let x = first_there rows marks k h f in let there = x.3.there in cc

pub is_first : (rows : Keyed Acquire) (marks : Keyed (List ℕ)) (k : List ℕ) (a : Acquire) → IsTrue (is_in_order rows) → IsTrue (is_in_order marks) → AreMarked marks rows → first_of marks ≡ Some k → at rows k ≡ Some a → IsFirstDue (k, a) rows
is_first rows marks k a s o h f e =
    let x = first_there rows marks k h f in
    let one : x.3.acquire ≡ a = let there = x.3.there in cc in
    let mark : x.0.0 ≡ mark_of (k, a) = x.3.mark ∙ ap (λ (c : Acquire). mark_of (k, c)) one in
    let sorted : T (is_sorted order (x.0 ∷ x.1)) = subst (λ (t : Keyed (List ℕ)). T (is_sorted order t)) x.2 (to_T _ o) in
    record {
      there = e;
      due = ap (λ (c : Acquire). is_due c.sending) (sym one) ∙ x.3.due;
      first = all_pass (λ r. not (is_due r.1.sending) || up_to (mark_of (k, a)) (mark_of r)) rows (to_T _ s) (λ j b g. if_due (is_due b.sending) (up_to (mark_of (k, a)) (mark_of (j, b))) (λ d.
          let stands : at marks (mark_of (j, b)) ≡ Some j = h (mark_of (j, b)) ∙ has_mark rows j b g d in
          subst (λ (m : List ℕ). up_to m (mark_of (j, b)) ≡ true) mark
          (up_to_each x.0 x.1 (mark_of (j, b)) j sorted (sym (ap (λ (t : Keyed (List ℕ)). at t (mark_of (j, b))) x.2) ∙ stands))));
    }
