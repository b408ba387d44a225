-- The acquire of the first mark comes first among all due acquires, which stand in the order of their keys.
use Rattle.std.proofs.Common.{◌≡◌, ℕ, ◌<◌, Bool, true, false, not, cond, ◌||◌, ◌&&◌, ◌==◌, nat_lt, IsTrue, List, [], ◌∷◌, ◌++◌, Option, None, Some, refl, sym, ◌∙◌, ap, inl, inr, arith}
use Rattle.std.specs.List.{flat_map, list_all}
use lib.Dec.{T}
use Rattle.std.specs.Ordering.{is_le}
use Rattle.std.specs.declared.cmp.Ordering.TheVariants.{Less}
use Rattle.std.specs.FinMap.{is_sorted}
use Rattle.std.specs.FinMap.Entries.{below_all}
use Rattle.std.proofs.lemmas.Bool.{cases_order}
use Rattle.std.proofs.lemmas.Bool.Decides.{nat_tests}
use Rattle.etcd_types.specs.Keys.{same, up_to}
use Rattle.etcd_types.proofs.Bools.{and_first, and_second, and_false, or_false, not_true}
use Rattle.etcd_types.proofs.KeyOrder.{same-equal, head_below, head_same, head_above}
use Rattle.proxy_model.specs.Keyed.{Keyed, at, is_in_order}
use Rattle.proxy_model.proofs.KeyedLaws.{to_T}
use Rattle.keyed_rows.proofs.Places.{order, turned, first_T, second_part}
use Rattle.wait_model.specs.declared.sending.Sending.{Sending}
use Rattle.wait_model.specs.declared.sending.Sending.TheVariants as sending
use Rattle.wait_model.specs.declared.due.JobKind.TheVariants.{Call}
use Rattle.wait_model.specs.declared.due.Place.{Place}
use Rattle.wait_model.specs.DueOrder.{place_at, is_earlier}
use Rattle.read_model.specs.declared.acquire.Acquire.{Acquire}
use Rattle.read_model.specs.SessionEnd.{is_due}
use Rattle.core_model.specs.DueJobs.{ForAcquire, Placed, placed, if_due, due_acquire, earlier, earliest}
use Rattle.acquire_rows.specs.Marks.{since_of, mark_of}
use Rattle.acquire_rows.specs.First.{none_due, IsFirstDueOf}
use Rattle.acquire_rows.proofs.Firsts.{below_each}
use Rattle.due_order.specs.Parts.{with_first_acquire}
use Rattle.due_order.proofs.Streams.{chosen}

abbrev Row : Type 0
Row = List ℕ × Acquire

abbrev place_of : Row → Place
place_of e = place_at (since_of e.1.sending) Call e.1.ticket

abbrev placed_row : Row → Placed
placed_row e = placed (place_of e) (ForAcquire e.0 e.1)

due_is : (e : Row) (s : Sending) → is_due s ≡ true → if_due s (λ since. placed (place_at since Call e.1.ticket) (ForAcquire e.0 e.1)) ≡ placed (place_at (since_of s) Call e.1.ticket) (ForAcquire e.0 e.1) ∷ []
due_is e (sending.Due since) d = refl
due_is e (sending.Out call) d = absurd (cc)

not_due : (s : Sending) (f : ℕ → Placed) → is_due s ≡ false → if_due s f ≡ []
not_due (sending.Due since) f d = absurd (cc)
not_due (sending.Out call) f d = refl

-- one that isn't due changes nothing, and one that is comes in its place
passed : (first : Option Placed) (e : Row) (ps : List Placed) → is_due e.1.sending ≡ false → earliest first (due_acquire e ++ ps) ≡ earliest first ps
passed first e ps d = ap (λ qs. earliest first (qs ++ ps)) (not_due e.1.sending (λ since. placed (place_at since Call e.1.ticket) (ForAcquire e.0 e.1)) d)

taken : (first : Option Placed) (e : Row) (ps : List Placed) → is_due e.1.sending ≡ true → earliest first (due_acquire e ++ ps) ≡ earliest (Some (earlier first (placed_row e))) ps
taken first e ps d = ap (λ qs. earliest first (qs ++ ps)) (due_is e e.1.sending d)

none_first : (first : Option Placed) (rows : Keyed Acquire) → none_due rows ≡ true → earliest first (flat_map due_acquire rows) ≡ first
none_first first [] h = refl
none_first first (e ∷ es) h =
    passed first e (flat_map due_acquire es) (not_true (is_due e.1.sending) (and_first (not (is_due e.1.sending)) (none_due es) h)) ∙
    none_first first es (and_second (not (is_due e.1.sending)) (none_due es) h)

-- Marks and places.

up_to_more : (a b : ℕ) (xs ys : List ℕ) → up_to (a ∷ xs) (b ∷ ys) ≡ nat_lt a b || ((a == b) && up_to xs ys)
up_to_more a b xs ys =
    elim (cases_order a b) [
      | inl e ↦ equal e
      | inr o ↦ elim o [ inl l ↦ below l | inr g ↦ above g ]
    ]
  where
    equal : a ≡ b → up_to (a ∷ xs) (b ∷ ys) ≡ nat_lt a b || ((a == b) && up_to xs ys)
    equal e =
        let lt : nat_lt a b ≡ false = grind (arith, nat_tests) in
        let eq : (a == b) ≡ true = grind (arith, nat_tests) in
        ap (λ n. up_to (a ∷ xs) (n ∷ ys)) (sym e) ∙ head_same a xs ys ∙ sym (ap (λ t. t || ((a == b) && up_to xs ys)) lt ∙ ap (λ t. t && up_to xs ys) eq)

    below : a < b → up_to (a ∷ xs) (b ∷ ys) ≡ nat_lt a b || ((a == b) && up_to xs ys)
    below l =
        let lt : nat_lt a b ≡ true = grind (arith, nat_tests) in
        head_below a b xs ys l ∙ sym (ap (λ t. t || ((a == b) && up_to xs ys)) lt)

    above : b < a → up_to (a ∷ xs) (b ∷ ys) ≡ nat_lt a b || ((a == b) && up_to xs ys)
    above g =
        let lt : nat_lt a b ≡ false = grind (arith, nat_tests) in
        let eq : (a == b) ≡ false = grind (arith, nat_tests) in
        head_above a b xs ys g ∙ sym (ap (λ t. t || ((a == b) && up_to xs ys)) lt ∙ ap (λ t. t && up_to xs ys) eq)

mark_test : (s t u v : ℕ) (k j : List ℕ) → up_to (s ∷ t ∷ k) (u ∷ v ∷ j) ≡ nat_lt s u || ((s == u) && (nat_lt t v || ((t == v) && up_to k j)))
mark_test s t u v k j =
    up_to_more s u (t ∷ k) (v ∷ j) ∙ ap (λ b. nat_lt s u || ((s == u) && b)) (up_to_more t v k j)

no_sooner : (s t u v : ℕ) (x : Bool) → nat_lt s u || ((s == u) && (nat_lt t v || ((t == v) && x))) ≡ true → nat_lt u s || ((u == s) && nat_lt v t) ≡ false
no_sooner s t u v true h = grind (arith, nat_tests)
no_sooner s t u v false h = grind (arith, nat_tests)

strictly : (s t u v : ℕ) (x : Bool) → x ≡ false → nat_lt s u || ((s == u) && (nat_lt t v || ((t == v) && x))) ≡ true → nat_lt s u || ((s == u) && nat_lt t v) ≡ true
strictly s t u v true f h = absurd (cc)
strictly s t u v false f h =
    sym (ap (λ b. nat_lt s u || ((s == u) && (nat_lt t v || b))) (and_false (t == v)) ∙ ap (λ b. nat_lt s u || ((s == u) && b)) (or_false (nat_lt t v))) ∙ h

-- what stands at a mark that isn't before the first isn't sent before it
not_before : (r e : Row) → up_to (mark_of r) (mark_of e) ≡ true → is_earlier (place_of e) (place_of r) ≡ false
not_before r e h =
    no_sooner (since_of r.1.sending) r.1.ticket (since_of e.1.sending) e.1.ticket (up_to r.0 e.0)
    (sym (mark_test (since_of r.1.sending) r.1.ticket (since_of e.1.sending) e.1.ticket r.0 e.0) ∙ h)

-- and is sent later where its key is lower
sent_later : (r e : Row) → up_to r.0 e.0 ≡ false → up_to (mark_of r) (mark_of e) ≡ true → is_earlier (place_of r) (place_of e) ≡ true
sent_later r e f h =
    strictly (since_of r.1.sending) r.1.ticket (since_of e.1.sending) e.1.ticket (up_to r.0 e.0) f
    (sym (mark_test (since_of r.1.sending) r.1.ticket (since_of e.1.sending) e.1.ticket r.0 e.0) ∙ h)

-- Row by row.

abbrev stands_behind : Row → Row → Bool
stands_behind r e = not (is_due e.1.sending) || up_to (mark_of r) (mark_of e)

due_behind : (b c : Bool) → b ≡ true → not b || c ≡ true → c ≡ true
due_behind true c d h = h
due_behind false c d h = absurd (cc)

stays : (r : Row) (first : Option Placed) (es : Keyed Acquire) → list_all (stands_behind r) es ≡ true → earliest (Some (earlier first (placed_row r))) (flat_map due_acquire es) ≡ Some (earlier first (placed_row r))
stays r first [] h = refl
stays r first (e ∷ es) h =
    one (stays r first es (and_second (stands_behind r e) (list_all (stands_behind r) es) h)) (is_due e.1.sending) refl
  where
    one : earliest (Some (earlier first (placed_row r))) (flat_map due_acquire es) ≡ Some (earlier first (placed_row r)) → (b : Bool) → is_due e.1.sending ≡ b → earliest (Some (earlier first (placed_row r))) (due_acquire e ++ flat_map due_acquire es) ≡ Some (earlier first (placed_row r))
    one rest false d = passed (Some (earlier first (placed_row r))) e (flat_map due_acquire es) d ∙ rest
    one rest true d =
        let behind = due_behind (is_due e.1.sending) (up_to (mark_of r) (mark_of e)) d (and_first (stands_behind r e) (list_all (stands_behind r) es) h) in
        taken (Some (earlier first (placed_row r))) e (flat_map due_acquire es) d ∙
        ap (λ p. earliest (Some p) (flat_map due_acquire es)) (chosen first (placed_row e) (placed_row r) ∙ ap (λ b. cond b (earlier first (placed_row e)) (earlier first (placed_row r))) (not_before r e behind)) ∙ rest

found : (r : Row) (first : Option Placed) (es : Keyed Acquire) → T (is_sorted order es) → at es r.0 ≡ Some r.1 → is_due r.1.sending ≡ true → list_all (stands_behind r) es ≡ true → earliest first (flat_map due_acquire es) ≡ Some (earlier first (placed_row r))
found r first [] s t d h = absurd (cc)
found r first (e ∷ es) s t d h =
    one (λ q f. found r q es (second_part (below_all order e.0 es) _ s) f d (and_second (stands_behind r e) (list_all (stands_behind r) es) h)) (same r.0 e.0) refl t
  where
    lower : at es r.0 ≡ Some r.1 → up_to r.0 e.0 ≡ false
    lower f = ap is_le (turned e.0 r.0 Less (below_each es e.0 r.0 r.1 (first_T (below_all order e.0 es) _ s) f))

    later : ((q : Option Placed) → at es r.0 ≡ Some r.1 → earliest q (flat_map due_acquire es) ≡ Some (earlier q (placed_row r))) → at es r.0 ≡ Some r.1 → (b : Bool) → is_due e.1.sending ≡ b → earliest first (due_acquire e ++ flat_map due_acquire es) ≡ Some (earlier first (placed_row r))
    later k f false n = passed first e (flat_map due_acquire es) n ∙ k first f
    later k f true n =
        let behind = due_behind (is_due e.1.sending) (up_to (mark_of r) (mark_of e)) n (and_first (stands_behind r e) (list_all (stands_behind r) es) h) in
        taken first e (flat_map due_acquire es) n ∙ k (Some (earlier first (placed_row e))) f ∙
        ap Some (chosen first (placed_row r) (placed_row e) ∙ ap (λ b. cond b (earlier first (placed_row r)) (earlier first (placed_row e))) (sent_later r e (lower f) behind))

    one : ((q : Option Placed) → at es r.0 ≡ Some r.1 → earliest q (flat_map due_acquire es) ≡ Some (earlier q (placed_row r))) → (b : Bool) → same r.0 e.0 ≡ b → cond b (Some e.1) (at es r.0) ≡ Some r.1 → earliest first (due_acquire e ++ flat_map due_acquire es) ≡ Some (earlier first (placed_row r))
    one k true q f =
        let key : r.0 ≡ e.0 = same-equal r.0 e.0 q in
        let value : e.1 ≡ r.1 = cc in
        let is : e ≡ r = λ i. (sym key i, value i) in
        ap (λ (x : Row). earliest first (due_acquire x ++ flat_map due_acquire es)) is ∙ taken first r (flat_map due_acquire es) d ∙
        stays r first es (and_second (stands_behind r e) (list_all (stands_behind r) es) h)
    one k false q f = later k f (is_due e.1.sending) refl

-- the one that is due first comes first among all
pub acquires_first : (first : Option Placed) (rows : Keyed Acquire) (o : Option Row) → IsTrue (is_in_order rows) → IsFirstDueOf o rows → with_first_acquire first o ≡ earliest first (flat_map due_acquire rows)
acquires_first first rows None s h = sym (none_first first rows h)
acquires_first first rows (Some r) s h =
    ap (λ ps. earliest first ps) (due_is r r.1.sending h.due) ∙ sym (found r first rows (to_T _ s) h.there h.due h.first)
