-- How many reads are unsent behind one item more: a call takes those of its ticket away, and a reply may add one.
use Rattle.std.proofs.Common.{◌≡◌, ℕ, ◌+◌, ◌-◌, ◌==◌, Bool, true, false, not, cond, ◌&&◌, ◌||◌, List, [], ◌∷◌, ◌++◌, append_assoc, append-nil, Option, None, Some, refl, sym, ◌∙◌, ap, arith}
use Rattle.std.specs.List.{list_any}
use Rattle.std.proofs.lemmas.Bool.{eqb-true}
use Rattle.std.proofs.lemmas.Bool.Decides.{nat_tests}
use Rattle.std.proofs.lemmas.List.Folds.{list_any-append}
use Rattle.etcd_types.specs.declared.answer.Answer.{Answer}
use Rattle.etcd_types.specs.declared.answer.Answer.TheVariants.{Done}
use Rattle.script_text.specs.declared.item.Item.{Item}
use Rattle.script_text.specs.declared.item.Item.TheVariants as item
use Rattle.audit_model.specs.Summaries.{is_read_of, is_unsent_read, unsent_from}
use Rattle.world_model.specs.Lives.{asked_as, begins, is_named, life, names, rest_of_life}
use Rattle.audit_lives.specs.Sums.{closes, is_open_at, one, open_from}
use Rattle.audit_lives.proofs.Growing.{any_more}

-- ---- truths

or_false : (b : Bool) → b || false ≡ b
or_false true = refl
or_false false = refl

and_false : (b : Bool) → b && false ≡ false
and_false true = refl
and_false false = refl

and_and_false : (a b : Bool) → a && (b && false) ≡ false
and_and_false true b = and_false b
and_and_false false b = refl

all_false : (a b c : Bool) → a && (b && (c && false)) ≡ false
all_false true b c = and_and_false b c
all_false false b c = refl

same_both : (a b : ℕ) → (a == b) ≡ (b == a)
same_both a b = grind (arith, nat_tests)

-- ---- the rest of a life behind one item more

rest_more : (p : ℕ) (items : List Item) (x : Item) → rest_of_life p (items ++ x ∷ []) ≡ rest_of_life p items ++ cond (list_any (begins p) items || begins p x) [] (x ∷ [])
rest_more p [] x = refl
rest_more p (i ∷ items) x = by (begins p i) (rest_more p items x)
  where
    by : (b : Bool) → rest_of_life p (items ++ x ∷ []) ≡ rest_of_life p items ++ cond (list_any (begins p) items || begins p x) [] (x ∷ [])
        → cond b [] (i ∷ rest_of_life p (items ++ x ∷ [])) ≡ cond b [] (i ∷ rest_of_life p items) ++ cond ((b || list_any (begins p) items) || begins p x) [] (x ∷ [])
    by true e = refl
    by false e = ap (λ (xs : List Item). i ∷ xs) e

starts_name_none : (p ticket : ℕ) (x : Item) → begins p x ≡ true → names p ticket x ≡ false
starts_name_none p ticket (item.Sent q call member t r) e = absurd cc
starts_name_none p ticket x e = refl

named_more : (p ticket : ℕ) (own later : List Item) (x : Item)
    → is_named p ticket (own ++ rest_of_life p (later ++ x ∷ [])) ≡ is_named p ticket (own ++ rest_of_life p later) || (not (list_any (begins p) later) && names p ticket x)
named_more p ticket own later x =
    ap (λ (xs : List Item). is_named p ticket (own ++ xs)) (rest_more p later x)
    ∙ ap (is_named p ticket) (sym (append_assoc own (rest_of_life p later) end))
    ∙ list_any-append (names p ticket) (own ++ rest_of_life p later) end
    ∙ ap (λ (b : Bool). is_named p ticket (own ++ rest_of_life p later) || b) (last (list_any (begins p) later) (begins p x) refl)
  where
    end : List Item
    end = cond (list_any (begins p) later || begins p x) [] (x ∷ [])

    last : (a b : Bool) → begins p x ≡ b → is_named p ticket (cond (a || b) [] (x ∷ [])) ≡ not a && names p ticket x
    last true b e = refl
    last false true e = sym (starts_name_none p ticket x e)
    last false false e = or_false (names p ticket x)

-- ---- a reply behind one item more

-- the item behind these names the ticket of this reply, in its life
abbrev hits : List Item → Item → Item → Bool
hits later i (item.Sent p call member ticket q) = is_open_at p ticket later i
hits later i _ = false

hit_is : (later : List Item) (q u : ℕ) (a : Answer) (x : Item) → (not (list_any (begins q) later) && names q u x) ≡ hits later (item.Reply q u a) x
hit_is later q u a (item.Sent p call member ticket r) = λ k. not (list_any (begins q) later) && (same_both p q k && same_both ticket u k)
hit_is later q u a x = and_false (not (list_any (begins q) later))

and_neither : (q n h : Bool) → q && not (n || h) ≡ (q && not n) && not h
and_neither true true h = refl
and_neither true false h = refl
and_neither false n h = refl

unsent_behind : (before later : List Item) (x i : Item) → is_unsent_read before (later ++ x ∷ []) i ≡ is_unsent_read before later i && not (hits later i x)
unsent_behind before later x (item.Reply p ticket (Done r)) =
    let q = is_read_of (asked_as p ticket (life p before)) in
    let n = is_named p ticket (life p before ++ rest_of_life p later) in
    ap (λ (b : Bool). q && not b) (named_more p ticket (life p before) later x ∙ ap (λ (h : Bool). n || h) (hit_is later p ticket (Done r) x))
    ∙ and_neither q n (hits later (item.Reply p ticket (Done r)) x)
unsent_behind before later x i = refl

-- ---- all unsent reads

parts : (u h : Bool) → one (u && not h) + one (u && h) ≡ one u
parts true true = refl
parts true false = refl
parts false h = refl

-- those that the item names
abbrev pub named_open : Item → List Item → List Item → ℕ
named_open (item.Sent p call member ticket q) before items = open_from p ticket before items
named_open x before items = 0

none_named : (x : Item) (before : List Item) → named_open x before [] ≡ 0
none_named (item.Sent p call member ticket q) before = refl
none_named x before = refl

vain : (b : Bool) → 0 ≡ one (b && false) + 0
vain true = refl
vain false = refl

named_step : (x i : Item) (before items : List Item) → named_open x before (i ∷ items) ≡ one (is_unsent_read before items i && hits items i x) + named_open x (before ++ i ∷ []) items
named_step (item.Sent p call member ticket q) i before items = refl
named_step x i before items = vain (is_unsent_read before items i)

first_sum : (u n w : ℕ) → n ≡ 0 → u ≡ w → (u + 0) + n ≡ 0 + w
first_sum u n w a b = omega (arith, a, b)

next_sum : (a b o u1 u0 n n1 w w2 : ℕ) → a + b ≡ o → n1 ≡ b + n → u1 + n ≡ u0 + w → w ≡ w2 → (a + u1) + n1 ≡ (o + u0) + w2
next_sum a b o u1 u0 n n1 w w2 h k l m = omega (arith, h, k, l, m)

pub unsent_more : (before items : List Item) (x : Item) → unsent_from before (items ++ x ∷ []) + named_open x before items ≡ unsent_from before items + one (is_unsent_read (before ++ items) [] x)
unsent_more before [] x =
    first_sum (one (is_unsent_read before [] x)) (named_open x before []) (one (is_unsent_read (before ++ []) [] x)) (none_named x before)
    (ap (λ (xs : List Item). one (is_unsent_read xs [] x)) (sym (append-nil before)))
unsent_more before (i ∷ items) x =
    let u = is_unsent_read before items i in
    let h = hits items i x in
    next_sum (one (is_unsent_read before (items ++ x ∷ []) i)) (one (u && h)) (one u)
    (unsent_from (before ++ i ∷ []) (items ++ x ∷ [])) (unsent_from (before ++ i ∷ []) items)
    (named_open x (before ++ i ∷ []) items) (named_open x before (i ∷ items))
    (one (is_unsent_read ((before ++ i ∷ []) ++ items) [] x)) (one (is_unsent_read (before ++ i ∷ items) [] x))
    (ap (λ (b : Bool). one b + one (u && h)) (unsent_behind before items x i) ∙ parts u h)
    (named_step x i before items)
    (unsent_more (before ++ i ∷ []) items x)
    (ap (λ (xs : List Item). one (is_unsent_read xs [] x)) (append_assoc before (i ∷ []) items))

-- ---- those of one ticket, in its last life

table : (u a n b : Bool) → (u && not (not a && n)) && (not (a || b) && (true && true)) ≡ not (b || n) && (u && (not a && (true && true)))
table true true true true = refl
table true true true false = refl
table true true false true = refl
table true true false false = refl
table true false true true = refl
table true false true false = refl
table true false false true = refl
table true false false false = refl
table false a true true = refl
table false a true false = refl
table false a false true = refl
table false a false false = refl

open_behind : (p ticket : ℕ) (before items : List Item) (x i : Item)
    → is_unsent_read before (items ++ x ∷ []) i && is_open_at p ticket (items ++ x ∷ []) i ≡ not (closes p ticket x) && (is_unsent_read before items i && is_open_at p ticket items i)
open_behind p ticket before items x (item.Reply q s a) =
    (λ k. unsent_behind before items x (item.Reply q s a) k && (not (any_more (begins q) items x k) && (q == p && s == ticket)))
    ∙ ap (λ (h : Bool). (u && not h) && (not (started || begins q x) && (q == p && s == ticket))) (sym (hit_is items q s a x))
    ∙ by (q == p) (s == ticket) refl refl
  where
    u : Bool
    u = is_unsent_read before items (item.Reply q s a)

    started : Bool
    started = list_any (begins q) items

    by : (d e : Bool) → (q == p) ≡ d → (s == ticket) ≡ e
        → (u && not (not started && names q s x)) && (not (started || begins q x) && (d && e)) ≡ not (closes p ticket x) && (u && (not started && (d && e)))
    by true true d e =
        (λ k. (u && not (not started && names (eqb-true q p d k) (eqb-true s ticket e k) x)) && (not (started || begins (eqb-true q p d k) x) && (true && true)))
        ∙ table u started (names p ticket x) (begins p x)
    by true false d e =
        and_and_false (u && not (not started && names q s x)) (not (started || begins q x)) ∙ sym (all_false (not (closes p ticket x)) u (not started))
    by false f d e =
        and_and_false (u && not (not started && names q s x)) (not (started || begins q x)) ∙ sym (all_false (not (closes p ticket x)) u (not started))
open_behind p ticket before items x i =
    and_false (is_unsent_read before (items ++ x ∷ []) i) ∙ sym (and_and_false (not (closes p ticket x)) (is_unsent_read before items i))

unless_closed : (c v : Bool) → one (not c && v) ≡ cond c 0 (one v)
unless_closed true v = refl
unless_closed false v = refl

first_open : (w v : ℕ) (c : Bool) → w ≡ v → w + 0 ≡ cond c 0 0 + v
first_open w v true e = omega (arith, e)
first_open w v false e = omega (arith, e)

next_open : (c : Bool) (n m w1 w0 own own2 : ℕ) → n ≡ cond c 0 m → w1 ≡ cond c 0 w0 + own → own ≡ own2 → n + w1 ≡ cond c 0 (m + w0) + own2
next_open true n m w1 w0 own own2 a b e = omega (arith, a, b, e)
next_open false n m w1 w0 own own2 a b e = omega (arith, a, b, e)

pub open_more : (p ticket : ℕ) (before items : List Item) (x : Item)
    → open_from p ticket before (items ++ x ∷ []) ≡ cond (closes p ticket x) 0 (open_from p ticket before items) + one (is_unsent_read (before ++ items) [] x && is_open_at p ticket [] x)
open_more p ticket before [] x =
    first_open (one (is_unsent_read before [] x && is_open_at p ticket [] x)) (one (is_unsent_read (before ++ []) [] x && is_open_at p ticket [] x)) (closes p ticket x)
    (ap (λ (xs : List Item). one (is_unsent_read xs [] x && is_open_at p ticket [] x)) (sym (append-nil before)))
open_more p ticket before (i ∷ items) x =
    let v = is_unsent_read before items i && is_open_at p ticket items i in
    next_open (closes p ticket x)
    (one (is_unsent_read before (items ++ x ∷ []) i && is_open_at p ticket (items ++ x ∷ []) i)) (one v)
    (open_from p ticket (before ++ i ∷ []) (items ++ x ∷ [])) (open_from p ticket (before ++ i ∷ []) items)
    (one (is_unsent_read ((before ++ i ∷ []) ++ items) [] x && is_open_at p ticket [] x)) (one (is_unsent_read (before ++ i ∷ items) [] x && is_open_at p ticket [] x))
    (ap one (open_behind p ticket before items x i) ∙ unless_closed (closes p ticket x) v)
    (open_more p ticket (before ++ i ∷ []) items x)
    (ap (λ (xs : List Item). one (is_unsent_read xs [] x && is_open_at p ticket [] x)) (append_assoc before (i ∷ []) items))
