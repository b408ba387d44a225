-- The greatest revisions that proxies were given, item by item.
use Rattle.std.proofs.Common.{◌≡◌, ℕ, ◌≤◌, Bool, true, false, cond, ◌==◌, ◌&&◌, nat_le, max, List, [], ◌∷◌, ◌++◌, append-nil, append_assoc, Option, None, Some, refl, sym, ◌∙◌, ap, arith, Equal}
use Rattle.std.specs.List.{list_all}
use Rattle.std.specs.Option.{option_map}
use Rattle.std.specs.Cmp.{nat_cmp_total}
use Rattle.std.specs.FinMap.Entries.{find-put}
use Rattle.std.specs.Ordering.{nat_cmp, is_eq}
use Rattle.std.proofs.lemmas.Bool.{eqb-true, le-leb, leb-false, leb-true, lt-leb}
use Rattle.std.proofs.lemmas.Bool.Decides.{nat_tests}
use Rattle.etcd_types.specs.declared.answer.Answer.{Answer}
use Rattle.etcd_types.specs.declared.answer.Answer.TheVariants.{Done, Refused}
use Rattle.etcd_types.specs.declared.watch.WatchItem.{WatchItem}
use Rattle.etcd_types.specs.declared.watch.WatchItem.TheVariants.{Created, Events, Canceled}
use Rattle.script_text.specs.declared.item.Item.{Item}
use Rattle.script_text.specs.declared.item.Item.TheVariants as item
use Rattle.world_model.specs.Lives.{begins, executed_to, next_message, opened_it, sent_it}
use Rattle.world_model.specs.Places.{kept_at, with_kept}
use Rattle.world_model.specs.Reads.{answer_revisions, given, given_by, given_from, message_revisions}
use Rattle.world_model.specs.Received.{or_zero}
use Rattle.world_model.specs.State.{Numbered}
use Rattle.first_places.specs.Places.{is_number}
use Rattle.audit_model.specs.Calls.{sender_of}
use Rattle.audit_model.specs.Streams.{opener_of}
use Rattle.audit_lives.specs.Given.{message_revision, reply_revision}
use Rattle.audit_clients.specs.Given.{Forgets, KeepsNewest, Raises, greatest, is_one, newest_at}

-- ---- what is kept at a number

tied : (k : ℕ) → nat_cmp k k ≡ Equal
tied k = grind (arith, nat_tests)

untied : (k q : ℕ) → (k == q) ≡ false → is_eq (nat_cmp q k) ≡ false
untied k q e = grind (arith, nat_tests)

put_itself : (kept : Numbered ℕ) (k x : ℕ) → newest_at (with_kept kept k x) k ≡ x
put_itself kept k x =
    ap or_zero (find-put nat_cmp nat_cmp_total k k x kept ∙ ap (λ o. cond (is_eq o) (Some x) (kept_at kept k)) (tied k))

put_other : (kept : Numbered ℕ) (k x q : ℕ) → (k == q) ≡ false → newest_at (with_kept kept k x) q ≡ newest_at kept q
put_other kept k x q e =
    ap or_zero (find-put nat_cmp nat_cmp_total q k x kept ∙ ap (λ b. cond b (Some x) (kept_at kept q)) (untied k q e))

put_at : (kept : Numbered ℕ) (k x q : ℕ) → newest_at (with_kept kept k x) q ≡ cond (k == q) x (newest_at kept q)
put_at kept k x q = by (k == q) refl
  where
    by : (b : Bool) → (k == q) ≡ b → newest_at (with_kept kept k x) q ≡ cond b x (newest_at kept q)
    by true e = ap (newest_at (with_kept kept k x)) (sym (eqb-true k q e)) ∙ put_itself kept k x
    by false e = put_other kept k x q e

pub forgotten : (old new : Numbered ℕ) (k : ℕ) → new ≡ with_kept old k 0 → Forgets old new k
forgotten old new k e q = ap (λ (kept : Numbered ℕ). newest_at kept q) e ∙ put_at old k 0 q

-- ---- raised

pub unraised : (kept : Numbered ℕ) (revision : ℕ) → Raises kept kept (λ p. false) revision
unraised kept revision p = omega arith

pub raised : (old new : Numbered ℕ) (k revision x : ℕ) → x ≡ max (newest_at old k) revision → new ≡ with_kept old k x → Raises old new (λ p. k == p) revision
raised old new k revision x m e q = ap (λ (kept : Numbered ℕ). newest_at kept q) e ∙ put_at old k x q ∙ by (k == q) refl
  where
    by : (b : Bool) → (k == q) ≡ b → cond b x (newest_at old q) ≡ max (newest_at old q) (cond b revision 0)
    by true t = m ∙ ap (λ (n : ℕ). max (newest_at old n) revision) (eqb-true k q t)
    by false t = omega arith

-- ---- what the proxy was given behind one item more

given_more : (p : ℕ) (before : List Item) (so_far : List ℕ) (xs : List Item) (i : Item)
    → given_from p before so_far (xs ++ i ∷ []) ≡ cond (begins p i) [] (given_from p before so_far xs ++ given_by p (before ++ xs) i)
given_more p before so_far [] i = ap (λ (ys : List Item). cond (begins p i) [] (so_far ++ given_by p ys i)) (sym (append-nil before))
given_more p before so_far (x ∷ xs) i =
    given_more p (before ++ x ∷ []) (cond (begins p x) [] (so_far ++ given_by p before x)) xs i
    ∙ ap (λ (ys : List Item). cond (begins p i) [] (given_from p (before ++ x ∷ []) (cond (begins p x) [] (so_far ++ given_by p before x)) xs ++ given_by p ys i)) (append_assoc before (x ∷ []) xs)

given_next : (p : ℕ) (before : List Item) (i : Item) → given p (before ++ i ∷ []) ≡ cond (begins p i) [] (given p before ++ given_by p before i)
given_next p before i = given_more p [] [] before i

greatest-append : (xs ys : List ℕ) → greatest (xs ++ ys) ≡ max (greatest xs) (greatest ys)
greatest-append [] ys = omega arith
greatest-append (x ∷ xs) ys =
    let rest : greatest (xs ++ ys) ≡ max (greatest xs) (greatest ys) = greatest-append xs ys in
    omega (arith, rest)

begun_by : (b : Bool) (n : ℕ) (gs : List ℕ) → n ≡ greatest gs → cond b 0 n ≡ greatest (cond b [] (gs ++ []))
begun_by true n gs k = refl
begun_by false n gs k = k ∙ ap greatest (sym (append-nil gs))

pub started : (old new : Numbered ℕ) (before : List Item) (i : Item) (q : ℕ) → i ≡ item.Started q → Forgets old new q → KeepsNewest old before → KeepsNewest new (before ++ i ∷ [])
started old new before i q e f k p =
    f p ∙ begun_by (q == p) (newest_at old p) (given p before) (k p) ∙ ap greatest (sym (given_next p before (item.Started q)))
    ∙ ap (λ (x : Item). greatest (given p (before ++ x ∷ []))) (sym e)

pub restarted : (old new : Numbered ℕ) (before : List Item) (i : Item) (q : ℕ) → i ≡ item.Restarted q → Forgets old new q → KeepsNewest old before → KeepsNewest new (before ++ i ∷ [])
restarted old new before i q e f k p =
    f p ∙ begun_by (q == p) (newest_at old p) (given p before) (k p) ∙ ap greatest (sym (given_next p before (item.Restarted q)))
    ∙ ap (λ (x : Item). greatest (given p (before ++ x ∷ []))) (sym e)

gains : (b : Bool) (n r : ℕ) (gs rs : List ℕ) → n ≡ greatest gs → greatest rs ≡ r → max n (cond b r 0) ≡ greatest (gs ++ cond b rs [])
gains true n r gs rs k e = sym (greatest-append gs rs ∙ (λ i. max (sym k i) (e i)))
gains false n r gs rs k e =
    let least : max n 0 ≡ n = omega arith in
    least ∙ k ∙ ap greatest (sym (append-nil gs))

one_answer : (o : Option Answer) → greatest (answer_revisions o) ≡ or_zero (option_map reply_revision o)
one_answer None = refl
one_answer (Some (Done reply)) = omega arith
one_answer (Some (Refused why)) = refl

one_message : (o : Option WatchItem) → greatest (message_revisions o) ≡ or_zero (option_map message_revision o)
one_message None = refl
one_message (Some (Created h)) = omega arith
one_message (Some (Events h events)) = omega arith
one_message (Some (Canceled h compaction)) = omega arith

pub answered : (old new : Numbered ℕ) (before : List Item) (i : Item) (call revision : ℕ) → i ≡ item.Answered call → revision ≡ or_zero (option_map reply_revision (executed_to call before))
    → Raises old new (λ p. sent_it p call before) revision → KeepsNewest old before → KeepsNewest new (before ++ i ∷ [])
answered old new before i call revision e told f k p =
    f p ∙ gains (sent_it p call before) (newest_at old p) revision (given p before) (answer_revisions (executed_to call before)) (k p) (one_answer (executed_to call before) ∙ sym told)
    ∙ ap greatest (sym (given_next p before (item.Answered call))) ∙ ap (λ (x : Item). greatest (given p (before ++ x ∷ []))) (sym e)

pub delivered : (old new : Numbered ℕ) (before : List Item) (i : Item) (stream revision : ℕ) → i ≡ item.Delivered stream → revision ≡ or_zero (option_map message_revision (next_message stream before))
    → Raises old new (λ p. opened_it p stream before) revision → KeepsNewest old before → KeepsNewest new (before ++ i ∷ [])
delivered old new before i stream revision e told f k p =
    f p ∙ gains (opened_it p stream before) (newest_at old p) revision (given p before) (message_revisions (next_message stream before)) (k p) (one_message (next_message stream before) ∙ sym told)
    ∙ ap greatest (sym (given_next p before (item.Delivered stream))) ∙ ap (λ (x : Item). greatest (given p (before ++ x ∷ []))) (sym e)

-- no other kind gives a header, or begins a life
pub others_give : (kept : Numbered ℕ) (before : List Item) (i : Item)
    → ((q : ℕ) → i ≡ item.Started q → ⊥) → ((q : ℕ) → i ≡ item.Restarted q → ⊥) → ((call : ℕ) → i ≡ item.Answered call → ⊥) → ((stream : ℕ) → i ≡ item.Delivered stream → ⊥)
    → KeepsNewest kept before → KeepsNewest kept (before ++ i ∷ [])
others_give kept before (item.Started q) s r a d k = absurd (s q refl)
others_give kept before (item.Restarted q) s r a d k = absurd (r q refl)
others_give kept before (item.Answered call) s r a d k = absurd (a call refl)
others_give kept before (item.Delivered stream) s r a d k = absurd (d stream refl)
others_give kept before i s r a d k = λ p. k p ∙ ap greatest (sym (given_next p before i ∙ append-nil (given p before)))

-- ---- none is above where the greatest isn't

both_up : (a b r : ℕ) (s t : Bool) → nat_le a r ≡ s → nat_le b r ≡ t → s && t ≡ nat_le (max a b) r
both_up a b r true true e f = sym (le-leb (max a b) r (omega (arith, leb-true a r e, leb-true b r f)))
both_up a b r true false e f = sym (lt-leb (max a b) r (omega (arith, leb-false b r f)))
both_up a b r false t e f = sym (lt-leb (max a b) r (omega (arith, leb-false a r e)))

pub all_up_to : (revision : ℕ) (rs : List ℕ) → list_all (λ r. nat_le r revision) rs ≡ nat_le (greatest rs) revision
all_up_to revision [] = sym (le-leb 0 revision (omega arith))
all_up_to revision (r ∷ rs) =
    ap (λ (b : Bool). nat_le r revision && b) (all_up_to revision rs) ∙ both_up r (greatest rs) revision (nat_le r revision) (nat_le (greatest rs) revision) refl refl

-- ---- by one sender

one_number : (o : Option ℕ) (p : ℕ) → is_number o p ≡ is_one o p
one_number None p = refl
one_number (Some q) p = refl

pub raised_single : (old new : Numbered ℕ) (call revision : ℕ) (items : List Item) (o : Option ℕ) → ((k p : ℕ) → sent_it p k items ≡ is_number (sender_of k items) p)
    → o ≡ sender_of call items → Raises old new (is_one o) revision → Raises old new (λ p. sent_it p call items) revision
raised_single old new call revision items o single e r p =
    r p ∙ ap (λ (b : Bool). max (newest_at old p) (cond b revision 0)) (ap (λ (x : Option ℕ). is_one x p) e ∙ sym (single call p ∙ one_number (sender_of call items) p))

pub opened_single : (old new : Numbered ℕ) (stream revision : ℕ) (items : List Item) (o : Option ℕ) → ((k p : ℕ) → opened_it p k items ≡ is_number (opener_of k items) p)
    → o ≡ opener_of stream items → Raises old new (is_one o) revision → Raises old new (λ p. opened_it p stream items) revision
opened_single old new stream revision items o single e r p =
    r p ∙ ap (λ (b : Bool). max (newest_at old p) (cond b revision 0)) (ap (λ (x : Option ℕ). is_one x p) e ∙ sym (single stream p ∙ one_number (opener_of stream items) p))
