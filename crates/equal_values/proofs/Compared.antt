-- Bodies that compare as the same are one, and each compares as the same with itself; so do answers.
use Rattle.std.proofs.Common.{◌≡◌, ℕ, ℤ, suc, Bool, true, false, ◌&&◌, ◌==◌, List, [], ◌∷◌, length, Option, refl, sym, ◌∙◌, ap, arith}
use Rattle.std.proofs.lemmas.Bool.{eqb-true, eq-eqb, ne_eqb}
use Rattle.std.proofs.lemmas.Bool.Decides.{Decides-int_eq}
use Rattle.std.specs.Prelude.{nat_eq}
use Rattle.std.specs.List.{list_all, zip}
use Rattle.std.specs.Ordering.{int_eq}
use Rattle.etcd_types.specs.declared.answer.Answer.{Answer}
use Rattle.etcd_types.specs.declared.answer.Answer.TheVariants.{Done, Refused}
use Rattle.etcd_types.specs.declared.answer.Body.{Body, Row_of-Body, end_of-Body, more_of-Body, items-the_row-Body, out-Body, roll-Body, roll-out-Body}
use Rattle.etcd_types.specs.declared.answer.Body.TheVariants as body
use Rattle.etcd_types.specs.declared.answer.Body.TheVariants.{Range, Put, Delete, Txn', Compact, Grant, Revoke, KeepAlive, TimeToLive, Leases}
use Rattle.etcd_types.specs.declared.answer.Body.TheVariants.{rolls-Range, rolls-Put, rolls-Delete, rolls-Txn, rolls-Compact, rolls-Grant, rolls-Revoke, rolls-KeepAlive, rolls-TimeToLive, rolls-Leases}
use Rattle.etcd_types.specs.declared.answer.Body.TheOpen as layer
use Rattle.etcd_types.specs.declared.answer.Body.TheBlock.{hidden-the_row-Body-0, items_hidden-the_row-Body-0}
use Rattle.etcd_types.specs.declared.answer.Refusal.{Refusal}
use Rattle.etcd_types.specs.declared.answer.Reply.{Reply}
use Rattle.etcd_types.specs.declared.record.Kv.{Kv}
use Rattle.etcd_types.specs.Keys.{same}
use Rattle.etcd_types.proofs.Bools.{and_first, and_second, and_both, and_false, same_tests}
use Rattle.etcd_types.proofs.KeyOrder.{same-equal, same-itself}
use Rattle.equal_values.specs.Lists.{same_all, same_flag}
use Rattle.equal_values.specs.Records.{same_header, same_kv}
use Rattle.equal_values.specs.Bodies.{is_range, is_put, is_delete, is_txn, is_compact, is_grant, is_revoke, is_keep_alive, is_time_to_live, is_leases, same_body, same_row, same_bodies, is_txn_of}
use Rattle.equal_values.specs.Answers.{same_reply, same_refusal, same_answer}
use Rattle.equal_values.proofs.Members.{all-equal, all-itself, flag-equal, flag-itself}
use Rattle.equal_values.proofs.Values.{both, four, header-equal, header-itself, kv-equal, kv-itself, prev-equal, prev-itself}

-- ---- a row of bodies, and their list

same_suc : (m n : ℕ) → (suc m == suc n) ≡ (m == n)
same_suc m n =
    same_tests (suc m == suc n) (m == n) (λ e. eq-eqb m n (let h : suc m ≡ suc n = eqb-true (suc m) (suc n) e in omega (arith, h))) (λ e. eq-eqb (suc m) (suc n) (ap suc (eqb-true m n e)))

joined : (a b : Bool) (m n : ℕ) (q : Bool) → b ≡ (m == n) && q → a && b ≡ (suc m == suc n) && (a && q)
joined true b m n q e = e ∙ ap (λ t. t && q) (sym (same_suc m n))
joined false b m n q e = sym (and_false (suc m == suc n))

-- a row of bodies compares as its list does
row-list : {m : _} (row : Row_of-Body m) (due : List Body) → same_row row due ≡ same_bodies (items-the_row-Body m row) due
row-list end_of-Body [] = refl
row-list end_of-Body (d ∷ ds) = sym (ap (λ t. t && true) (ne_eqb 0 (suc (length ds)) (λ e. omega (arith, e))))
row-list (more_of-Body b rest) [] = sym (ap (λ t. t && true) (ne_eqb (suc (length (items-the_row-Body _ rest))) 0 (λ e. omega (arith, e))))
row-list (more_of-Body b rest) (d ∷ ds) =
    joined (same_body b d) (same_row rest ds) (length (items-the_row-Body _ rest)) (length ds) (list_all (λ p. same_body p.0 p.1) (zip (items-the_row-Body _ rest) ds)) (row-list rest ds)

pub row-bodies : (bodies due : List Body) → same_row (hidden-the_row-Body-0 bodies) due ≡ same_bodies bodies due
row-bodies bodies due =
    row-list (hidden-the_row-Body-0 bodies) due ∙ ap (λ (bs : List Body). same_bodies bs due) (items_hidden-the_row-Body-0 bodies)

by_tests : (test other : Bool → List Body → Bool) → ((flag : Bool) (rest : List Body) → test flag rest ≡ other flag rest) → (due : Body) → is_txn test due ≡ is_txn other due
by_tests test other e (Txn' succeeded m bodies) = e succeeded (items-the_row-Body _ bodies)
by_tests test other e due = refl

-- of a transaction, by the list of its bodies
pub txn_bodies : (succeeded : Bool) (bodies : List Body) (due : Body) → same_body (body.Txn succeeded bodies) due ≡ is_txn_of succeeded bodies due
txn_bodies succeeded bodies due =
    by_tests _ _ (λ flag rest. ap (λ (b : Bool). same_flag succeeded flag && b) (row-bodies bodies rest)) due

-- Any row of a transaction's bodies is that of its list.

abbrev is_of_txn : Body → Bool
is_of_txn b = is_txn (λ flag rest. true) b

abbrev flag_in : Body → Bool
flag_in (Txn' succeeded m row) = succeeded
flag_in b = false

abbrev bodies_in : Body → List Body
bodies_in (Txn' succeeded m row) = items-the_row-Body _ row
bodies_in b = []

relisted_as : (y : layer.Body-F Body) (b : Body) → roll-Body y ≡ b → is_of_txn b ≡ true → (succeeded : Bool) × (bodies : List Body) × (body.Txn succeeded bodies ≡ b)
relisted_as (layer.Range count more kvs) b e t = absurd (let none : false ≡ true = sym (ap is_of_txn (rolls-Range count more kvs)) ∙ ap is_of_txn e ∙ t in cc)
relisted_as (layer.Put prev) b e t = absurd (let none : false ≡ true = sym (ap is_of_txn (rolls-Put prev)) ∙ ap is_of_txn e ∙ t in cc)
relisted_as (layer.Delete deleted prevs) b e t = absurd (let none : false ≡ true = sym (ap is_of_txn (rolls-Delete deleted prevs)) ∙ ap is_of_txn e ∙ t in cc)
relisted_as layer.Compact b e t = absurd (let none : false ≡ true = sym (ap is_of_txn (rolls-Compact)) ∙ ap is_of_txn e ∙ t in cc)
relisted_as (layer.Grant lease ttl) b e t = absurd (let none : false ≡ true = sym (ap is_of_txn (rolls-Grant lease ttl)) ∙ ap is_of_txn e ∙ t in cc)
relisted_as layer.Revoke b e t = absurd (let none : false ≡ true = sym (ap is_of_txn (rolls-Revoke)) ∙ ap is_of_txn e ∙ t in cc)
relisted_as (layer.KeepAlive lease ttl) b e t = absurd (let none : false ≡ true = sym (ap is_of_txn (rolls-KeepAlive lease ttl)) ∙ ap is_of_txn e ∙ t in cc)
relisted_as (layer.TimeToLive lease ttl granted keys) b e t = absurd (let none : false ≡ true = sym (ap is_of_txn (rolls-TimeToLive lease ttl granted keys)) ∙ ap is_of_txn e ∙ t in cc)
relisted_as (layer.Leases leases) b e t = absurd (let none : false ≡ true = sym (ap is_of_txn (rolls-Leases leases)) ∙ ap is_of_txn e ∙ t in cc)
relisted_as (layer.Txn succeeded bodies) b e t = (succeeded, bodies, sym (rolls-Txn succeeded bodies) ∙ e)

relisted_of : (b : Body) → is_of_txn b ≡ true → body.Txn (flag_in b) (bodies_in b) ≡ b
relisted_of b t =
    let r = relisted_as (out-Body b) b (roll-out-Body b) t in
    let flag : flag_in b ≡ r.0 = sym (ap flag_in r.2) in
    let bodies : bodies_in b ≡ r.1 = sym (ap bodies_in r.2) ∙ items_hidden-the_row-Body-0 r.1 in
    (λ i. body.Txn (flag i) (bodies i)) ∙ r.2

relisted : (succeeded : Bool) (m : _) (row : _) → body.Txn succeeded (items-the_row-Body _ row) ≡ Txn' succeeded m row
relisted succeeded m row = relisted_of (Txn' succeeded m row) refl

-- ---- what compares as the same is one, a kind at a time

and_all : (a b c d : Bool) → a ≡ true → b ≡ true → c ≡ true → d ≡ true → a && b && c && d ≡ true
and_all true true true true e f g h = refl
and_all true true true false e f g h = h
and_all true true false d e f g h = absurd (cc)
and_all true false c d e f g h = absurd (cc)
and_all false b c d e f g h = absurd (cc)

and_three : (a b c : Bool) → a ≡ true → b ≡ true → c ≡ true → a && b && c ≡ true
and_three true true true e f g = refl
and_three true true false e f g = g
and_three true false c e f g = absurd (cc)
and_three false b c e f g = absurd (cc)

three : (a b c : Bool) → a && b && c ≡ true → (a ≡ true) × (b ≡ true) × (c ≡ true)
three true true true e = (refl, refl, refl)
three true true false e = absurd (cc)
three true false c e = absurd (cc)
three false b c e = absurd (cc)

at_range : (count : ℕ) (more : Bool) (kvs : List Kv) (due : Body) → is_range count more kvs due ≡ true → Range count more kvs ≡ due
at_range count more kvs (Range n m ks) e =
    let parts = three (count == n) (same_flag more m) (same_all same_kv kvs ks) e in
    λ i. Range (eqb-true count n parts.0 i) (flag-equal more m parts.1 i) (all-equal same_kv kv-equal kvs ks parts.2 i)
at_range count more kvs due e = absurd (cc)

at_put : (prev : Option Kv) (due : Body) → is_put prev due ≡ true → Put prev ≡ due
at_put prev (Put p) e = ap Put (prev-equal prev p e)
at_put prev due e = absurd (cc)

at_delete : (deleted : ℕ) (prevs : List Kv) (due : Body) → is_delete deleted prevs due ≡ true → Delete deleted prevs ≡ due
at_delete deleted prevs (Delete n ps) e =
    let parts = both (deleted == n) (same_all same_kv prevs ps) e in
    λ i. Delete (eqb-true deleted n parts.0 i) (all-equal same_kv kv-equal prevs ps parts.1 i)
at_delete deleted prevs due e = absurd (cc)

at_txn : (succeeded : Bool) (bodies : List Body) (test : List Body → Bool) (due : Body) → ((rest : List Body) → test rest ≡ true → bodies ≡ rest) → is_txn (λ flag rest. same_flag succeeded flag && test rest) due ≡ true → body.Txn succeeded bodies ≡ due
at_txn succeeded bodies test (Txn' s m row) one e =
    let parts = both (same_flag succeeded s) (test (items-the_row-Body _ row)) e in
    (λ i. body.Txn (flag-equal succeeded s parts.0 i) (one (items-the_row-Body _ row) parts.1 i)) ∙ relisted s m row
at_txn succeeded bodies test due one e = absurd (cc)

at_compact : (due : Body) → is_compact due ≡ true → Compact ≡ due
at_compact Compact e = refl
at_compact due e = absurd (cc)

at_grant : (lease ttl : ℕ) (due : Body) → is_grant lease ttl due ≡ true → Grant lease ttl ≡ due
at_grant lease ttl (Grant l t) e =
    let parts = both (lease == l) (ttl == t) e in λ i. Grant (eqb-true lease l parts.0 i) (eqb-true ttl t parts.1 i)
at_grant lease ttl due e = absurd (cc)

at_revoke : (due : Body) → is_revoke due ≡ true → Revoke ≡ due
at_revoke Revoke e = refl
at_revoke due e = absurd (cc)

at_keep_alive : (lease ttl : ℕ) (due : Body) → is_keep_alive lease ttl due ≡ true → KeepAlive lease ttl ≡ due
at_keep_alive lease ttl (KeepAlive l t) e =
    let parts = both (lease == l) (ttl == t) e in λ i. KeepAlive (eqb-true lease l parts.0 i) (eqb-true ttl t parts.1 i)
at_keep_alive lease ttl due e = absurd (cc)

at_time_to_live : (lease : ℕ) (ttl : ℤ) (granted : ℕ) (keys : List (List ℕ)) (due : Body) → is_time_to_live lease ttl granted keys due ≡ true → TimeToLive lease ttl granted keys ≡ due
at_time_to_live lease ttl granted keys (TimeToLive l t g ks) e =
    let parts = four (lease == l) (int_eq ttl t) (granted == g) (same_all same keys ks) e in
    λ i. TimeToLive (eqb-true lease l parts.0 i) ((Decides-int_eq ttl t).0 parts.1 i) (eqb-true granted g parts.2 i) (all-equal same same-equal keys ks parts.3 i)
at_time_to_live lease ttl granted keys due e = absurd (cc)

at_leases : (leases : List ℕ) (due : Body) → is_leases leases due ≡ true → Leases leases ≡ due
at_leases leases (Leases ls) e = ap Leases (all-equal nat_eq eqb-true leases ls e)
at_leases leases due e = absurd (cc)

mutual
  pub body-equal : (a b : Body) → same_body a b ≡ true → a ≡ b
  body-equal (Range count more kvs) b e = at_range count more kvs b e
  body-equal (Put prev) b e = at_put prev b e
  body-equal (Delete deleted prevs) b e = at_delete deleted prevs b e
  body-equal (Txn' succeeded m row) b e =
      sym (relisted succeeded m row) ∙ at_txn succeeded (items-the_row-Body _ row) (same_row row) b (row-equal row) e
  body-equal Compact b e = at_compact b e
  body-equal (Grant lease ttl) b e = at_grant lease ttl b e
  body-equal Revoke b e = at_revoke b e
  body-equal (KeepAlive lease ttl) b e = at_keep_alive lease ttl b e
  body-equal (TimeToLive lease ttl granted keys) b e = at_time_to_live lease ttl granted keys b e
  body-equal (Leases leases) b e = at_leases leases b e

  row-equal : {m : _} (row : Row_of-Body m) (due : List Body) → same_row row due ≡ true → items-the_row-Body m row ≡ due
  row-equal end_of-Body [] e = refl
  row-equal end_of-Body (d ∷ ds) e = absurd (cc)
  row-equal (more_of-Body b rest) [] e = absurd (cc)
  row-equal (more_of-Body b rest) (d ∷ ds) e =
      λ i. body-equal b d (and_first (same_body b d) (same_row rest ds) e) i ∷ row-equal rest ds (and_second (same_body b d) (same_row rest ds) e) i

mutual
  pub body-itself : (a : Body) → same_body a a ≡ true
  body-itself (Range count more kvs) =
      and_three (count == count) (same_flag more more) (same_all same_kv kvs kvs) (eq-eqb count count refl) (flag-itself more) (all-itself same_kv kv-itself kvs)
  body-itself (Put prev) = prev-itself prev
  body-itself (Delete deleted prevs) = and_both (deleted == deleted) (same_all same_kv prevs prevs) (eq-eqb deleted deleted refl) (all-itself same_kv kv-itself prevs)
  body-itself (Txn' succeeded m row) =
      and_both (same_flag succeeded succeeded) (same_row row (items-the_row-Body _ row)) (flag-itself succeeded) (row-itself row)
  body-itself Compact = refl
  body-itself (Grant lease ttl) = and_both (lease == lease) (ttl == ttl) (eq-eqb lease lease refl) (eq-eqb ttl ttl refl)
  body-itself Revoke = refl
  body-itself (KeepAlive lease ttl) = and_both (lease == lease) (ttl == ttl) (eq-eqb lease lease refl) (eq-eqb ttl ttl refl)
  body-itself (TimeToLive lease ttl granted keys) =
      and_all (lease == lease) (int_eq ttl ttl) (granted == granted) (same_all same keys keys) (eq-eqb lease lease refl) ((Decides-int_eq ttl ttl).1 refl) (eq-eqb granted granted refl) (all-itself same same-itself keys)
  body-itself (Leases leases) = all-itself nat_eq (λ n. eq-eqb n n refl) leases

  row-itself : {m : _} (row : Row_of-Body m) → same_row row (items-the_row-Body m row) ≡ true
  row-itself end_of-Body = refl
  row-itself (more_of-Body b rest) =
      and_both (same_body b b) (same_row rest (items-the_row-Body _ rest)) (body-itself b) (row-itself rest)

-- ---- answers

refusal-equal : (a b : Refusal) → same_refusal a b ≡ true → a ≡ b
refusal-equal a b e =
    let parts = both (a.code == b.code) (same a.text b.text) e in
    λ i. record { code = eqb-true a.code b.code parts.0 i; text = same-equal a.text b.text parts.1 i }

reply-equal : (a b : Reply) → same_reply a b ≡ true → a ≡ b
reply-equal a b e =
    let parts = both (same_header a.header b.header) (same_body a.body b.body) e in
    λ i. record { header = header-equal a.header b.header parts.0 i; body = body-equal a.body b.body parts.1 i }

pub answer-equal : (a b : Answer) → same_answer a b ≡ true → a ≡ b
answer-equal (Done a) (Done b) e = ap Done (reply-equal a b e)
answer-equal (Done a) (Refused b) e = absurd (cc)
answer-equal (Refused a) (Done b) e = absurd (cc)
answer-equal (Refused a) (Refused b) e = ap Refused (refusal-equal a b e)

pub answer-itself : (a : Answer) → same_answer a a ≡ true
answer-itself (Done a) = and_both (same_header a.header a.header) (same_body a.body a.body) (header-itself a.header) (body-itself a.body)
answer-itself (Refused a) = and_both (a.code == a.code) (same a.text a.text) (eq-eqb a.code a.code refl) (same-itself a.text)
