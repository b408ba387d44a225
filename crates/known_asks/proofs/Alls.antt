-- What holds of each request holds of each where one comes, goes or is changed.
use Rattle.std.proofs.Common.{◌≡◌, ℕ, zero, suc, ◌<◌, Bool, true, [], ◌∷◌, ◌++◌, map, set, get_or, length, refl, sym, subst, arith}
use Rattle.std.specs.List.{remove, list_all}
use Rattle.etcd_types.proofs.Bools.{and_first, and_second, and_both}
use Rattle.numbered_rows.specs.Numbered.{Numbered}
use Rattle.read_model.specs.declared.asked.Asked.{Asked}
use Rattle.known_asks.proofs.Tickets.{asks}

pub all-append : (p : Asked → Bool) (rows : Numbered Asked) (k : ℕ) (a : Asked) → list_all p (asks rows) ≡ true → p a ≡ true → list_all p (asks (rows ++ (k, a) ∷ [])) ≡ true
all-append p [] k a e f = and_both (p a) true f refl
all-append p (r ∷ rows) k a e f =
    and_both (p r.1) (list_all p (asks (rows ++ (k, a) ∷ []))) (and_first (p r.1) (list_all p (asks rows)) e) (all-append p rows k a (and_second (p r.1) (list_all p (asks rows)) e) f)

pub all-remove : (p : Asked → Bool) (rows : Numbered Asked) (j : ℕ) → list_all p (asks rows) ≡ true → list_all p (asks (remove rows j)) ≡ true
all-remove p [] zero e = refl
all-remove p [] (suc j) e = refl
all-remove p (r ∷ rows) zero e = and_second (p r.1) (list_all p (asks rows)) e
all-remove p (r ∷ rows) (suc j) e =
    and_both (p r.1) (list_all p (asks (remove rows j))) (and_first (p r.1) (list_all p (asks rows)) e) (all-remove p rows j (and_second (p r.1) (list_all p (asks rows)) e))

pub all-set : (p : Asked → Bool) (rows : Numbered Asked) (j k : ℕ) (a : Asked) → list_all p (asks rows) ≡ true → p a ≡ true → list_all p (asks (set rows j (k, a))) ≡ true
all-set p [] j k a e f = refl
all-set p (r ∷ rows) zero k a e f = and_both (p a) (list_all p (asks rows)) f (and_second (p r.1) (list_all p (asks rows)) e)
all-set p (r ∷ rows) (suc j) k a e f =
    and_both (p r.1) (list_all p (asks (set rows j (k, a)))) (and_first (p r.1) (list_all p (asks rows)) e) (all-set p rows j k a (and_second (p r.1) (list_all p (asks rows)) e) f)

pub all-each : (p : Asked → Bool) (f : Asked → Asked) (rows : Numbered Asked) → ((a : Asked) → p a ≡ true → p (f a) ≡ true) → list_all p (asks rows) ≡ true → list_all p (asks (map (λ r. (r.0, f r.1)) rows)) ≡ true
all-each p f [] h e = refl
all-each p f (r ∷ rows) h e =
    and_both (p (f r.1)) (list_all p (asks (map (λ r. (r.0, f r.1)) rows))) (h r.1 (and_first (p r.1) (list_all p (asks rows)) e)) (all-each p f rows h (and_second (p r.1) (list_all p (asks rows)) e))

pub all-at : (p : Asked → Bool) (rows : Numbered Asked) (i : ℕ) (r : ℕ × Asked) → i < length rows → r ≡ get_or rows i r → list_all p (asks rows) ≡ true → p r.1 ≡ true
all-at p [] i r l e h = absurd (omega arith)
all-at p (x ∷ rows) zero r l e h =
    subst (λ (q : ℕ × Asked). p q.1 ≡ true) (sym e) (and_first (p x.1) (list_all p (asks rows)) h)
all-at p (x ∷ rows) (suc i) r l e h = all-at p rows i r (omega arith) e (and_second (p x.1) (list_all p (asks rows)) h)
