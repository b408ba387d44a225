-- The list in the order of asking, seen from the rows and the index.
use Rattle.std.proofs.Common.{◌≡◌, ℕ, zero, suc, ◌+◌, ◌<◌, Bool, true, false, not, cond, ◌==◌, ◌&&◌, ◌||◌, List, [], ◌∷◌, ◌++◌, map, get_or, set, Option, None, Some, refl, sym, ◌∙◌, ap, subst, arith}
use lib.Dec.{T}
use Rattle.std.specs.Ordering.{nat_cmp, is_eq}
use Rattle.std.specs.FinMap.{is_sorted}
use Rattle.std.specs.FinMap.Entries.{by_order, below_all}
use Rattle.std.specs.List.{insert, remove}
use Rattle.std.specs.Option.{option_map}
use Rattle.std.specs.declared.cmp.Ordering.TheVariants.{Greater}
use Rattle.std.proofs.lemmas.Bool.Decides.{nat_tests}
use Rattle.numbered_rows.specs.Numbered.{Numbered, same_number, at, with_at, changed_at, is_in_order}
use Rattle.numbered_rows.specs.Places.{IsPlace, IsGap}
use Rattle.numbered_rows.proofs.NumberedLaws.{to_T, at-with_at, in_order-with_at}
use Rattle.numbered_rows.proofs.Places.{NoKey, below_head, tied_is_none, first_T, rest_T, at-place, at-gap, put-gap, without-place, changed-place}
use Rattle.numbered_rows.proofs.Rows.{alike, one_number, EachRow, each_row}
use Rattle.read_model.specs.declared.asked.Asked.{Asked}
use Rattle.core_model.specs.Fits.{once, has_number}
use Rattle.core_model.specs.Lookups.{ask_at, without_ask}
use Rattle.known_asks.specs.Asks.{one_changed}
use Rattle.known_asks.specs.Indexed.{Indexed, Fits, IsAt}

-- A row is the ticket's exactly where it has the number that the index gives.

abbrev pub is_number : Option ℕ → ℕ → Bool
is_number None n = false
is_number (Some m) n = same_number m n

abbrev pub Agrees : ℕ → Option ℕ → ℕ → Asked → Type 0
Agrees ticket o n a = (a.ticket == ticket) ≡ is_number o n

is_false : (b : Bool) → (b ≡ true → ⊥) → b ≡ false
is_false true h = absurd (h refl)
is_false false h = refl

true_false : (b : Bool) → b ≡ true → b ≡ false → ⊥
true_false b t f = cc

both_ways : (b c : Bool) → (b ≡ true → c ≡ true) → (c ≡ true → b ≡ true) → b ≡ c
both_ways true c h g = sym (h refl)
both_ways false true h g = absurd (let x : false ≡ true = g refl in cc)
both_ways false false h g = refl

equal_tickets : (a b : ℕ) → (a == b) ≡ true → a ≡ b
equal_tickets a b e = grind (arith, nat_tests)

tickets_equal : (a b : ℕ) → a ≡ b → (a == b) ≡ true
tickets_equal a b e = grind (arith, nat_tests)

agrees : (rows : Numbered Asked) (index : Numbered ℕ) (ticket : ℕ) → Indexed rows index → (o : Option ℕ) → at index ticket ≡ o → (n : ℕ) (a : Asked) → at rows n ≡ Some a → Agrees ticket o n a
agrees rows index ticket h None e n a r =
    is_false (a.ticket == ticket) (λ t.
    let one : a.ticket ≡ ticket = equal_tickets a.ticket ticket t in
    let f : at index a.ticket ≡ Some n = h.found n a r in
    let g : at index ticket ≡ Some n = subst (λ (x : ℕ). at index x ≡ Some n) one f in
    cc)
agrees rows index ticket h (Some m) e n a r =
    both_ways (a.ticket == ticket) (same_number m n) to from
  where
    to : (a.ticket == ticket) ≡ true → same_number m n ≡ true
    to t =
        let one : a.ticket ≡ ticket = equal_tickets a.ticket ticket t in
        let g : at index ticket ≡ Some n = subst (λ (x : ℕ). at index x ≡ Some n) one (h.found n a r) in
        let same : m ≡ n = cc in
        subst (λ (x : ℕ). same_number m x ≡ true) same (alike m)

    from : same_number m n ≡ true → (a.ticket == ticket) ≡ true
    from t =
        let same : m ≡ n = one_number m n t in
        let k : option_map (λ b. b.ticket) (at rows m) ≡ Some ticket = h.kept ticket m e in
        let l : option_map (λ (b : Asked). b.ticket) (at rows n) ≡ Some ticket = subst (λ (x : ℕ). option_map (λ (b : Asked). b.ticket) (at rows x) ≡ Some ticket) same k in
        let j : option_map (λ (b : Asked). b.ticket) (at rows n) ≡ Some a.ticket = ap (λ (o : Option Asked). option_map (λ b. b.ticket) o) r in
        tickets_equal a.ticket ticket (cc)

pub all_agree : (rows : Numbered Asked) (index : Numbered ℕ) (ticket : ℕ) → Indexed rows index → (o : Option ℕ) → at index ticket ≡ o → EachRow (Agrees ticket o) rows
all_agree rows index ticket h o e =
    each_row (Agrees ticket o) rows (to_T _ h.rows_rise) (agrees rows index ticket h o e)

-- The three calls on the list.

abbrev pub asks : Numbered Asked → List Asked
asks rows = map (λ r. r.1) rows

pub no_ask : (ticket : ℕ) (rows : Numbered Asked) → EachRow (Agrees ticket None) rows → ask_at ticket (asks rows) ≡ None
no_ask ticket [] h = refl
no_ask ticket (r ∷ rows) h = ap (λ b. cond b (Some r.1) (ask_at ticket (asks rows))) h.0 ∙ no_ask ticket rows h.1

pub its_ask : (ticket m : ℕ) (rows : Numbered Asked) → EachRow (Agrees ticket (Some m)) rows → ask_at ticket (asks rows) ≡ at rows m
its_ask ticket m [] h = refl
its_ask ticket m (r ∷ rows) h =
    ap (λ b. cond b (Some r.1) (ask_at ticket (asks rows))) h.0 ∙ ap (λ o. cond (same_number m r.0) (Some r.1) o) (its_ask ticket m rows h.1)

pub none_without_ask : (ticket : ℕ) (rows : Numbered Asked) → EachRow (Agrees ticket None) rows → without_ask ticket (asks rows) ≡ asks rows
none_without_ask ticket [] h = refl
none_without_ask ticket (r ∷ rows) h =
    ap (λ b. cond (not b) (r.1 ∷ without_ask ticket (asks rows)) (without_ask ticket (asks rows))) h.0 ∙ ap (λ l. r.1 ∷ l) (none_without_ask ticket rows h.1)

pub its_without_ask : (ticket m : ℕ) (rows : Numbered Asked) → EachRow (Agrees ticket (Some m)) rows → without_ask ticket (asks rows) ≡ asks (with_at rows m None)
its_without_ask ticket m [] h = refl
its_without_ask ticket m (r ∷ rows) h =
    ap (λ b. cond (not b) (r.1 ∷ without_ask ticket (asks rows)) (without_ask ticket (asks rows))) h.0 ∙ ap (λ l. cond (not (same_number m r.0)) (r.1 ∷ l) l) (its_without_ask ticket m rows h.1) ∙ out (same_number m r.0)
  where
    out : (b : Bool) → cond (not b) (r.1 ∷ asks (with_at rows m None)) (asks (with_at rows m None)) ≡ asks (cond (not b) (r ∷ with_at rows m None) (with_at rows m None))
    out true = refl
    out false = refl

none_changed : (ticket m : ℕ) (f : Asked → Asked) (rows : Numbered Asked) → NoKey rows m → EachRow (Agrees ticket (Some m)) rows → one_changed ticket f (asks rows) ≡ asks rows
none_changed ticket m f [] n h = refl
none_changed ticket m f (r ∷ rows) n h =
    ap (λ b. cond b (f r.1) r.1 ∷ one_changed ticket f (asks rows)) (h.0 ∙ n.0) ∙ ap (λ l. r.1 ∷ l) (none_changed ticket m f rows n.1 h.1)

pub its_changed : (ticket m : ℕ) (f : Asked → Asked) (rows : Numbered Asked) (i : ℕ) (d : ℕ × Asked) → T (is_sorted nat_cmp rows) → IsPlace rows m i → EachRow (Agrees ticket (Some m)) rows → asks (set rows i ((get_or rows i d).0, f (get_or rows i d).1)) ≡ one_changed ticket f (asks rows)
its_changed ticket m f [] i d s p h = absurd p
its_changed ticket m f (r ∷ rows) zero d s p h =
    let same : same_number m r.0 ≡ true = ap is_eq p in
    sym (ap (λ b. cond b (f r.1) r.1 ∷ one_changed ticket f (asks rows)) (h.0 ∙ same) ∙ ap (λ l. f r.1 ∷ l) (none_changed ticket m f rows (tied_is_none rows m r.0 p (first_T r rows s)) h.1))
its_changed ticket m f (r ∷ rows) (suc i) d s p h =
    let other : same_number m r.0 ≡ false = ap is_eq p.0 in
    sym (ap (λ b. cond b (f r.1) r.1 ∷ one_changed ticket f (asks rows)) (h.0 ∙ other) ∙ ap (λ l. r.1 ∷ l) (sym (its_changed ticket m f rows i d (rest_T r rows s) p.1 h.1)))

-- What a search in the index and one in the rows find.

pub found_none : (rows : Numbered Asked) (index : Numbered ℕ) (ticket : ℕ) → Indexed rows index → at index ticket ≡ None → ask_at ticket (asks rows) ≡ None
found_none rows index ticket h o = no_ask ticket rows (all_agree rows index ticket h None o)

pub found_row : (rows : Numbered Asked) (index : Numbered ℕ) (ticket i j : ℕ) (r : ℕ × Asked) → Indexed rows index → IsAt rows index ticket i j → r ≡ get_or rows j r → ask_at ticket (asks rows) ≡ Some r.1
found_row rows index ticket i j r h p e =
    its_ask ticket p.number rows (all_agree rows index ticket h (Some p.number) p.is) ∙ at-place rows p.number j r p.in_rows ∙ ap (λ (q : ℕ × Asked). Some q.1) (sym e)

pub no_gap : (rows : Numbered Asked) (index : Numbered ℕ) (ticket m j : ℕ) → Indexed rows index → at index ticket ≡ Some m → IsGap rows m j → ⊥
no_gap rows index ticket m j h o g =
    let k : option_map (λ (a : Asked). a.ticket) (at rows m) ≡ Some ticket = h.kept ticket m o in
    let none : at rows m ≡ None = at-gap rows m j (to_T _ h.rows_rise) g in
    let l : option_map (λ (a : Asked). a.ticket) None ≡ Some ticket = subst (λ (o : Option Asked). option_map (λ (a : Asked). a.ticket) o ≡ Some ticket) none k in
    cc

-- A ticket that no row has isn't in the index.
pub new_ticket : (rows : Numbered Asked) (index : Numbered ℕ) (ticket : ℕ) → Indexed rows index → ask_at ticket (asks rows) ≡ None → at index ticket ≡ None
new_ticket rows index ticket h e =
    elim (at index ticket) as (λ o. at index ticket ≡ o → o ≡ None) [
      | None ↦ λ o. refl
      | Some m ↦ λ o. absurd (
          let k : option_map (λ (a : Asked). a.ticket) (at rows m) ≡ Some ticket = h.kept ticket m o in
          let f : ask_at ticket (asks rows) ≡ at rows m = its_ask ticket m rows (all_agree rows index ticket h (Some m) o) in
          let l : option_map (λ (a : Asked). a.ticket) None ≡ Some ticket = subst (λ (o : Option Asked). option_map (λ (a : Asked). a.ticket) o ≡ Some ticket) (sym f ∙ e) k in
          cc)
    ] refl

-- The rows and the index after each call.

still : {A : Type 0} (b : Bool) (o : Option A) (a : A) → cond b None o ≡ Some a → (b ≡ false) × (o ≡ Some a)
still true o a e = absurd (cc)
still false o a e = (refl, e)

pub indexed-removed : (rows : Numbered Asked) (index : Numbered ℕ) (ticket m : ℕ) → Indexed rows index → at index ticket ≡ Some m → Indexed (with_at rows m None) (with_at index ticket None)
indexed-removed rows index ticket m h o = record {
  rows_rise = in_order-with_at rows m None h.rows_rise;
  index_rises = in_order-with_at index ticket None h.index_rises;
  found = λ n a e. found n a (sym (at-with_at rows m n None) ∙ e);
  kept = λ t n e. kept t n (sym (at-with_at index ticket t None) ∙ e);
}
  where
    found : (n : ℕ) (a : Asked) → cond (same_number m n) None (at rows n) ≡ Some a → at (with_at index ticket None) a.ticket ≡ Some n
    found n a e =
        let s = still (same_number m n) (at rows n) a e in
        let f : at index a.ticket ≡ Some n = h.found n a s.1 in
        let other : same_number ticket a.ticket ≡ false = is_false (same_number ticket a.ticket) (λ t.
        let g : at index ticket ≡ Some n = subst (λ (x : ℕ). at index x ≡ Some n) (sym (one_number ticket a.ticket t)) f in
        let same : m ≡ n = cc in
        let yes : same_number m n ≡ true = subst (λ (x : ℕ). same_number m x ≡ true) same (alike m) in
        true_false (same_number m n) yes s.0) in
        at-with_at index ticket a.ticket None ∙ ap (λ b. cond b None (at index a.ticket)) other ∙ f

    kept : (t n : ℕ) → cond (same_number ticket t) None (at index t) ≡ Some n → option_map (λ (a : Asked). a.ticket) (at (with_at rows m None) n) ≡ Some t
    kept t n e =
        let s = still (same_number ticket t) (at index t) n e in
        let k : option_map (λ (a : Asked). a.ticket) (at rows n) ≡ Some t = h.kept t n s.1 in
        let other : same_number m n ≡ false = is_false (same_number m n) (λ u.
        let j : option_map (λ (a : Asked). a.ticket) (at rows n) ≡ Some ticket = subst (λ (x : ℕ). option_map (λ (a : Asked). a.ticket) (at rows x) ≡ Some ticket) (one_number m n u) (h.kept ticket m o) in
        let same : ticket ≡ t = cc in
        true_false (same_number ticket t) (subst (λ (x : ℕ). same_number ticket x ≡ true) same (alike ticket)) s.0) in
        ap (λ o. option_map (λ (a : Asked). a.ticket) o) (at-with_at rows m n None ∙ ap (λ b. cond b None (at rows n)) other) ∙ k

pub fits-removed : (rows : Numbered Asked) (index : Numbered ℕ) (next ticket m : ℕ) → Fits rows index next → at index ticket ≡ Some m → Fits (with_at rows m None) (with_at index ticket None) next
fits-removed rows index next ticket m h o = record {
  indexed = indexed-removed rows index ticket m h.indexed o;
  below = λ n a e. h.below n a (still (same_number m n) (at rows n) a (sym (at-with_at rows m n None) ∙ e)).1;
}

pub fits-pushed : (rows : Numbered Asked) (index : Numbered ℕ) (next : ℕ) (a : Asked) → Fits rows index next → at index a.ticket ≡ None → Fits (with_at rows next (Some a)) (with_at index a.ticket (Some next)) (next + 1)
fits-pushed rows index next a h o = record {
  indexed = record {
    rows_rise = in_order-with_at rows next (Some a) h.indexed.rows_rise;
    index_rises = in_order-with_at index a.ticket (Some next) h.indexed.index_rises;
    found = λ n b e. found n b (sym (at-with_at rows next n (Some a)) ∙ e);
    kept = λ t n e. kept t n (sym (at-with_at index a.ticket t (Some next)) ∙ e);
  };
  below = λ n b e. below n b (sym (at-with_at rows next n (Some a)) ∙ e);
}
  where
    found : (n : ℕ) (b : Asked) → cond (same_number next n) (Some a) (at rows n) ≡ Some b → at (with_at index a.ticket (Some next)) b.ticket ≡ Some n
    found n b e =
        at-with_at index a.ticket b.ticket (Some next) ∙
        elim (same_number next n) as (λ c. same_number next n ≡ c → cond c (Some a) (at rows n) ≡ Some b → cond (same_number a.ticket b.ticket) (Some next) (at index b.ticket) ≡ Some n) [
          | true ↦ λ s x.
              let one : next ≡ n = one_number next n s in
              let same : a ≡ b = cc in
              let yes : same_number a.ticket b.ticket ≡ true = subst (λ (y : Asked). same_number a.ticket y.ticket ≡ true) same (alike a.ticket) in
              ap (λ c. cond c (Some next) (at index b.ticket)) yes ∙ ap (λ (y : ℕ). Some y) one
          | false ↦ λ s x.
              let f : at index b.ticket ≡ Some n = h.indexed.found n b x in
              let other : same_number a.ticket b.ticket ≡ false = is_false (same_number a.ticket b.ticket) (λ t.
              let g : at index a.ticket ≡ Some n = subst (λ (y : ℕ). at index y ≡ Some n) (sym (one_number a.ticket b.ticket t)) f in
              cc) in
              ap (λ c. cond c (Some next) (at index b.ticket)) other ∙ f
        ] refl e

    kept : (t n : ℕ) → cond (same_number a.ticket t) (Some next) (at index t) ≡ Some n → option_map (λ (b : Asked). b.ticket) (at (with_at rows next (Some a)) n) ≡ Some t
    kept t n e =
        ap (λ o. option_map (λ (b : Asked). b.ticket) o) (at-with_at rows next n (Some a)) ∙
        elim (same_number a.ticket t) as (λ c. same_number a.ticket t ≡ c → cond c (Some next) (at index t) ≡ Some n → option_map (λ (b : Asked). b.ticket) (cond (same_number next n) (Some a) (at rows n)) ≡ Some t) [
          | true ↦ λ s x.
              let same : next ≡ n = cc in
              let yes : same_number next n ≡ true = subst (λ (y : ℕ). same_number next y ≡ true) same (alike next) in
              ap (λ c. option_map (λ (b : Asked). b.ticket) (cond c (Some a) (at rows n))) yes ∙ ap (λ (y : ℕ). Some y) (one_number a.ticket t s)
          | false ↦ λ s x.
              let k : option_map (λ (b : Asked). b.ticket) (at rows n) ≡ Some t = h.indexed.kept t n x in
              let other : same_number next n ≡ false = is_false (same_number next n) (λ u.
              let one : next ≡ n = one_number next n u in
              taken n t k one) in
              ap (λ c. option_map (λ (b : Asked). b.ticket) (cond c (Some a) (at rows n))) other ∙ k
        ] refl e
      where
        taken : (n t : ℕ) → option_map (λ (b : Asked). b.ticket) (at rows n) ≡ Some t → next ≡ n → ⊥
        taken n t k one =
            elim (at rows n) as (λ o. at rows n ≡ o → option_map (λ (b : Asked). b.ticket) o ≡ Some t → ⊥) [
              | None ↦ λ r x. cc
              | Some b ↦ λ r x. let l : n < next = h.below n b r in omega arith
            ] refl k

    below : (n : ℕ) (b : Asked) → cond (same_number next n) (Some a) (at rows n) ≡ Some b → n < next + 1
    below n b e =
        elim (same_number next n) as (λ c. same_number next n ≡ c → cond c (Some a) (at rows n) ≡ Some b → n < next + 1) [
          | true ↦ λ s x. let one : next ≡ n = one_number next n s in omega arith
          | false ↦ λ s x. let l : n < next = h.below n b x in omega arith
        ] refl e

pub fits-changed : (rows : Numbered Asked) (index : Numbered ℕ) (next m : ℕ) (f : Asked → Asked) → ((a : Asked) → (f a).ticket ≡ a.ticket) → Fits rows index next → Fits (changed_at rows m f) index next
fits-changed rows index next m f same h = record {
  indexed = record {
    rows_rise = in_order-with_at rows m _ h.indexed.rows_rise;
    index_rises = h.indexed.index_rises;
    found = λ n a e. let o = was n a (sym (here n) ∙ e) in subst (λ (t : ℕ). at index t ≡ Some n) (sym o.2) (h.indexed.found n o.0 o.1);
    kept = λ t n e. ap (λ o. option_map (λ (a : Asked). a.ticket) o) (here n) ∙ ticket (same_number m n) (at rows n) ∙ h.indexed.kept t n e;
  };
  below = λ n a e. let o = was n a (sym (here n) ∙ e) in h.below n o.0 o.1;
}
  where
    here : (n : ℕ) → at (changed_at rows m f) n ≡ cond (same_number m n) (option_map f (at rows n)) (at rows n)
    here n =
        at-with_at rows m n (option_map f (at rows m)) ∙
        elim (same_number m n) as (λ b. same_number m n ≡ b → cond b (option_map f (at rows m)) (at rows n) ≡ cond b (option_map f (at rows n)) (at rows n)) [
          | true ↦ λ s. ap (λ (x : ℕ). option_map f (at rows x)) (one_number m n s)
          | false ↦ λ s. refl
        ] refl

    back : (b : Bool) (o : Option Asked) (a : Asked) → cond b (option_map f o) o ≡ Some a → (x : Asked) × (o ≡ Some x) × (a.ticket ≡ x.ticket)
    back false o a e = (a, e, refl)
    back true None a e = absurd (cc)
    back true (Some x) a e = let is : f x ≡ a = cc in (x, refl, sym (ap (λ (y : Asked). y.ticket) is) ∙ same x)

    was : (n : ℕ) (a : Asked) → cond (same_number m n) (option_map f (at rows n)) (at rows n) ≡ Some a → (x : Asked) × (at rows n ≡ Some x) × (a.ticket ≡ x.ticket)
    was n a e = back (same_number m n) (at rows n) a e

    ticket : (b : Bool) (o : Option Asked) → option_map (λ (a : Asked). a.ticket) (cond b (option_map f o) o) ≡ option_map (λ (a : Asked). a.ticket) o
    ticket false o = refl
    ticket true None = refl
    ticket true (Some x) = ap (λ (t : ℕ). Some t) (same x)

-- A number above all goes to the end.
pub at_end : (rows : Numbered Asked) (next : ℕ) (a : Asked) → EachRow (λ n b. n < next) rows → rows ++ (next, a) ∷ [] ≡ with_at rows next (Some a)
at_end [] next a h = refl
at_end (r ∷ rows) next a h =
    sym (ap (λ o. by_order o ((next, a) ∷ r ∷ rows) ((r.0, a) ∷ rows) (r ∷ with_at rows next (Some a))) (above next r.0 h.0) ∙ ap (λ l. r ∷ l) (sym (at_end rows next a h.1)))
  where
    above : (n m : ℕ) → m < n → nat_cmp n m ≡ Greater
    above n m l = grind (arith, nat_tests)

-- The calls on the rows and the index themselves.

pub fits-added : (rows : Numbered Asked) (index : Numbered ℕ) (next gap : ℕ) (a : Asked) → Fits rows index next → at index a.ticket ≡ None → IsGap index a.ticket gap → Fits (rows ++ (next, a) ∷ []) (insert index gap (a.ticket, next)) (next + 1)
fits-added rows index next gap a h o g =
    let last : rows ++ (next, a) ∷ [] ≡ with_at rows next (Some a) = at_end rows next a (each_row (λ n b. n < next) rows (to_T _ h.indexed.rows_rise) h.below) in
    let put : with_at index a.ticket (Some next) ≡ insert index gap (a.ticket, next) = put-gap index a.ticket next gap g in
    subst (λ (rs : Numbered Asked). Fits rs (insert index gap (a.ticket, next)) (next + 1)) (sym last)
    (subst (λ (xs : Numbered ℕ). Fits (with_at rows next (Some a)) xs (next + 1)) put (fits-pushed rows index next a h o))

pub fits-taken : (rows : Numbered Asked) (index : Numbered ℕ) (next ticket i j : ℕ) → Fits rows index next → IsAt rows index ticket i j → Fits (remove rows j) (remove index i) next
fits-taken rows index next ticket i j h p =
    subst (λ (rs : Numbered Asked). Fits rs (remove index i) next) (without-place rows p.number j (to_T _ h.indexed.rows_rise) p.in_rows)
    (subst (λ (xs : Numbered ℕ). Fits (with_at rows p.number None) xs next) (without-place index ticket i (to_T _ h.indexed.index_rises) p.in_index) (fits-removed rows index next ticket p.number h p.is))

pub taken : (rows : Numbered Asked) (index : Numbered ℕ) (ticket i j : ℕ) → Indexed rows index → IsAt rows index ticket i j → asks (remove rows j) ≡ without_ask ticket (asks rows)
taken rows index ticket i j h p =
    ap asks (sym (without-place rows p.number j (to_T _ h.rows_rise) p.in_rows)) ∙ sym (its_without_ask ticket p.number rows (all_agree rows index ticket h (Some p.number) p.is))

pub none_taken : (rows : Numbered Asked) (index : Numbered ℕ) (ticket : ℕ) → Indexed rows index → at index ticket ≡ None → asks rows ≡ without_ask ticket (asks rows)
none_taken rows index ticket h o = sym (none_without_ask ticket rows (all_agree rows index ticket h None o))

pub fits-one_changed : (rows : Numbered Asked) (index : Numbered ℕ) (next ticket i j : ℕ) (f : Asked → Asked) (r : ℕ × Asked) → ((a : Asked) → (f a).ticket ≡ a.ticket) → Fits rows index next → IsAt rows index ticket i j → r ≡ get_or rows j r → Fits (set rows j (r.0, f r.1)) index next
fits-one_changed rows index next ticket i j f r same h p e =
    subst (λ (rs : Numbered Asked). Fits rs index next) (sym (changed-place rows p.number j f r p.in_rows e)) (fits-changed rows index next p.number f same h)

pub its_change : (rows : Numbered Asked) (index : Numbered ℕ) (ticket i j : ℕ) (f : Asked → Asked) (r : ℕ × Asked) → Indexed rows index → IsAt rows index ticket i j → r ≡ get_or rows j r → asks (set rows j (r.0, f r.1)) ≡ one_changed ticket f (asks rows)
its_change rows index ticket i j f r h p e =
    ap (λ (q : ℕ × Asked). asks (set rows j (q.0, f q.1))) e ∙ its_changed ticket p.number f rows j r (to_T _ h.rows_rise) p.in_rows (all_agree rows index ticket h (Some p.number) p.is)

unchanged : (ticket : ℕ) (f : Asked → Asked) (rows : Numbered Asked) → EachRow (Agrees ticket None) rows → asks rows ≡ one_changed ticket f (asks rows)
unchanged ticket f [] h = refl
unchanged ticket f (r ∷ rows) h =
    sym (ap (λ b. cond b (f r.1) r.1 ∷ one_changed ticket f (asks rows)) h.0 ∙ ap (λ l. r.1 ∷ l) (sym (unchanged ticket f rows h.1)))

pub no_change : (rows : Numbered Asked) (index : Numbered ℕ) (ticket : ℕ) (f : Asked → Asked) → Indexed rows index → at index ticket ≡ None → asks rows ≡ one_changed ticket f (asks rows)
no_change rows index ticket f h o = unchanged ticket f rows (all_agree rows index ticket h None o)

-- Every ask changed in place, and each keeps its ticket.

abbrev pub each_changed : (Asked → Asked) → Numbered Asked → Numbered Asked
each_changed f rows = map (λ r. (r.0, f r.1)) rows

pub asks-each_changed : (f : Asked → Asked) (rows : Numbered Asked) → asks (each_changed f rows) ≡ map f (asks rows)
asks-each_changed f [] = refl
asks-each_changed f (r ∷ rows) = ap (λ l. f r.1 ∷ l) (asks-each_changed f rows)

at-each_changed : (f : Asked → Asked) (rows : Numbered Asked) (n : ℕ) → at (each_changed f rows) n ≡ option_map f (at rows n)
at-each_changed f [] n = refl
at-each_changed f (r ∷ rows) n = ap (λ o. cond (same_number n r.0) (Some (f r.1)) o) (at-each_changed f rows n) ∙ out (same_number n r.0) (at rows n)
  where
    out : (b : Bool) (o : Option Asked) → cond b (Some (f r.1)) (option_map f o) ≡ option_map f (cond b (Some r.1) o)
    out true o = refl
    out false o = refl

below-each_changed : (f : Asked → Asked) (n : ℕ) (rows : Numbered Asked) → below_all nat_cmp n (each_changed f rows) ≡ below_all nat_cmp n rows
below-each_changed f n [] = refl
below-each_changed f n (r ∷ rows) = rw (below-each_changed f n rows) refl

in_order-each_changed : (f : Asked → Asked) (rows : Numbered Asked) → is_in_order (each_changed f rows) ≡ is_in_order rows
in_order-each_changed f [] = refl
in_order-each_changed f (r ∷ rows) = rw (below-each_changed f r.0 rows, in_order-each_changed f rows) refl

pub fits-each_changed : (rows : Numbered Asked) (index : Numbered ℕ) (next : ℕ) (f : Asked → Asked) → ((a : Asked) → (f a).ticket ≡ a.ticket) → Fits rows index next → Fits (each_changed f rows) index next
fits-each_changed rows index next f same h = record {
  indexed = record {
    rows_rise = in_order-each_changed f rows ∙ h.indexed.rows_rise;
    index_rises = h.indexed.index_rises;
    found = λ n a e. let o = was n a e in subst (λ (t : ℕ). at index t ≡ Some n) (sym o.2) (h.indexed.found n o.0 o.1);
    kept = λ t n e. ap (λ o. option_map (λ (a : Asked). a.ticket) o) (at-each_changed f rows n) ∙ ticket (at rows n) ∙ h.indexed.kept t n e;
  };
  below = λ n a e. let o = was n a e in h.below n o.0 o.1;
}
  where
    back : (o : Option Asked) (a : Asked) → option_map f o ≡ Some a → (x : Asked) × (o ≡ Some x) × (a.ticket ≡ x.ticket)
    back None a e = absurd (cc)
    back (Some x) a e = let is : f x ≡ a = cc in (x, refl, sym (ap (λ (y : Asked). y.ticket) is) ∙ same x)

    was : (n : ℕ) (a : Asked) → at (each_changed f rows) n ≡ Some a → (x : Asked) × (at rows n ≡ Some x) × (a.ticket ≡ x.ticket)
    was n a e = back (at rows n) a (sym (at-each_changed f rows n) ∙ e)

    ticket : (o : Option Asked) → option_map (λ (a : Asked). a.ticket) (option_map f o) ≡ option_map (λ (a : Asked). a.ticket) o
    ticket None = refl
    ticket (Some x) = ap (λ (t : ℕ). Some t) (same x)

-- Tickets stand once.

alone : (n t : ℕ) (rows : Numbered Asked) → NoKey rows n → EachRow (Agrees t (Some n)) rows → has_number (map (λ a. a.ticket) (asks rows)) t ≡ false
alone n t [] k h = refl
alone n t (r ∷ rows) k h =
    ap (λ b. b || has_number (map (λ a. a.ticket) (asks rows)) t) (h.0 ∙ k.0) ∙ alone n t rows k.1 h.1

both_hold : (b c : Bool) → b ≡ true → c ≡ true → (b && c) ≡ true
both_hold true true e f = refl
both_hold true false e f = f
both_hold false c e f = e

once_by : (rows : Numbered Asked) (index : Numbered ℕ) → T (is_sorted nat_cmp rows) → EachRow (λ n a. at index a.ticket ≡ Some n) rows → ((t : ℕ) (o : Option ℕ) → at index t ≡ o → EachRow (Agrees t o) rows) → once (map (λ a. a.ticket) (asks rows)) ≡ true
once_by [] index s f g = refl
once_by (r ∷ rows) index s f g =
    both_hold (not (has_number (map (λ a. a.ticket) (asks rows)) r.1.ticket)) (once (map (λ a. a.ticket) (asks rows)))
    (ap not (alone r.0 r.1.ticket rows (below_head r rows s) (g r.1.ticket (Some r.0) f.0).1))
    (once_by rows index (rest_T r rows s) f.1 (λ t o e. (g t o e).1))

pub tickets_once : (rows : Numbered Asked) (index : Numbered ℕ) → Indexed rows index → once (map (λ a. a.ticket) (asks rows)) ≡ true
tickets_once rows index h =
    once_by rows index (to_T _ h.rows_rise) (each_row (λ n a. at index a.ticket ≡ Some n) rows (to_T _ h.rows_rise) h.found) (λ t o e. all_agree rows index t h o e)
