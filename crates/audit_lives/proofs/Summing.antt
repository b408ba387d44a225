-- What is reported, behind one item more.
use Rattle.std.proofs.Common.{◌≡◌, ℕ, ◌≤◌, ◌+◌, ◌-◌, ◌==◌, Bool, true, false, not, cond, ◌&&◌, ◌||◌, List, [], ◌∷◌, ◌++◌, append-nil, length, filter, Option, None, Some, refl, sym, ◌∙◌, ap, subst, arith}
use Rattle.std.proofs.lemmas.List.{length-append}
use Rattle.etcd_types.specs.declared.answer.Answer.TheVariants.{Done}
use Rattle.first_places.specs.Counts.{AreBefore, count_at, counted_at}
use Rattle.first_places.specs.Places.{is_pair}
use Rattle.first_places.proofs.Counted.{none_since, same_since, still_before}
use Rattle.script_text.specs.declared.item.Item.{Item}
use Rattle.script_text.specs.declared.item.Item.TheVariants as item
use Rattle.audit_model.specs.Summaries.{asks_watch, is_read_of, is_unsent_read, unsent_from, unsent_reads, watches_asked}
use Rattle.world_model.specs.Lives.{asked_as, begins, is_named, life, names}
use Rattle.audit_lives.specs.Pairs.{named}
use Rattle.audit_lives.specs.Sums.{TellsSums, closes, is_open_at, one, open_from, unsent_now}
use Rattle.audit_lives.specs.SumSteps.{Closes, IsBehind, Opens, count_of, one_for}
use Rattle.audit_lives.specs.declared.sums.Sums.{Sums}
use Rattle.audit_lives.proofs.Counting.{named_open, open_more, unsent_more}
use Rattle.audit_lives.proofs.Growing.{count_next}

-- ---- of no items

none_before : (kept : List ((ℕ × ℕ) × (ℕ × ℕ))) → ((a b : ℕ) → counted_at kept a b ≡ None) → AreBefore 0 kept
none_before kept none a b place count e = absurd (none_some (sym (none a b) ∙ e))
  where
    none_some : ◌≡◌ {A = Option (ℕ × ℕ)} None (Some (place, count)) → ⊥
    none_some h = cc

pub sums_none : (s : Sums) (start : ℕ → ℕ) → s.unsent ≡ 0 → s.watches ≡ 0 → ((a b : ℕ) → counted_at s.reads a b ≡ None) → TellsSums s start []
sums_none s start u w o = record {
  unsent = u;
  watches = w;
  reads = λ p ticket. same_none p ticket;
  before = none_before s.reads o;
}
  where
    same_none : (p ticket : ℕ) → count_at s.reads start p ticket ≡ 0
    same_none p ticket = none_since 0 start s.reads p ticket (none_before s.reads o) (omega arith)

-- ---- what the item names, and what it answers

named_pair : (a b : ℕ) (x : Item) → is_pair (named x) a b ≡ names a b x
named_pair a b (item.Sent p call member ticket q) = refl
named_pair a b x = refl

pair_if : (c : Bool) (p ticket a b : ℕ) → c && (true && (p == a && ticket == b)) ≡ is_pair (cond c (Some (p, ticket)) None) a b
pair_if true p ticket a b = refl
pair_if false p ticket a b = refl

opened_pair : (a b : ℕ) (items : List Item) (x : Item) → is_unsent_read items [] x && is_open_at a b [] x ≡ is_pair (unsent_now items x) a b
opened_pair a b items (item.Reply p ticket (Done r)) =
    ap (λ (xs : List Item). (is_read_of (asked_as p ticket (life p items)) && not (is_named p ticket xs)) && (true && (p == a && ticket == b))) (append-nil (life p items))
    ∙ pair_if (is_read_of (asked_as p ticket (life p items)) && not (is_named p ticket (life p items))) p ticket a b
opened_pair a b items x = refl

one_if : (c : Bool) (t : ℕ × ℕ) → one c ≡ one_for (cond c (Some t) None)
one_if true t = refl
one_if false t = refl

opened_one : (items : List Item) (x : Item) → one (is_unsent_read items [] x) ≡ one_for (unsent_now items x)
opened_one items (item.Reply p ticket (Done r)) =
    ap (λ (xs : List Item). one (is_read_of (asked_as p ticket (life p items)) && not (is_named p ticket xs))) (append-nil (life p items))
    ∙ one_if (is_read_of (asked_as p ticket (life p items)) && not (is_named p ticket (life p items))) (p, ticket)
opened_one items x = refl

starts_answer_none : (p : ℕ) (items : List Item) (x : Item) → begins p x ≡ true → is_unsent_read items [] x ≡ false
starts_answer_none p items (item.Reply q ticket answer) e = absurd cc
starts_answer_none p items x e = refl

-- ---- how many are unsent

all_taken : (u0 u1 n : ℕ) → u1 + n ≡ u0 + 0 → (u0 - n) + 0 ≡ u1
all_taken u0 u1 n e = omega (arith, e)

none_taken : (u0 u1 o : ℕ) → u1 + 0 ≡ u0 + o → (u0 - 0) + o ≡ u1
none_taken u0 u1 o e = omega (arith, e)

-- an item names, or answers, or neither
left_over : (x : Item) (items : List Item) (u0 u1 : ℕ) → u1 + named_open x [] items ≡ u0 + one (is_unsent_read items [] x) → (u0 - named_open x [] items) + one (is_unsent_read items [] x) ≡ u1
left_over (item.Sent p call member ticket q) items u0 u1 e = all_taken u0 u1 (open_from p ticket [] items) e
left_over x items u0 u1 e = none_taken u0 u1 (one (is_unsent_read items [] x)) e

named_count : (x : Item) (s : Sums) (start : ℕ → ℕ) (items : List Item) → ((p ticket : ℕ) → count_at s.reads start p ticket ≡ open_from p ticket [] items) → count_of (named x) s start ≡ named_open x [] items
named_count (item.Sent p call member ticket q) s start items o = o p ticket
named_count x s start items o = refl

unsent_next : (old mid late : Sums) (start : ℕ → ℕ) (items : List Item) (x : Item) (place : ℕ) → TellsSums old start items → Closes (named x) start place old mid → Opens (unsent_now items x) start place mid late
    → late.unsent ≡ unsent_reads (items ++ x ∷ [])
unsent_next old mid late start items x place t c o =
    o.unsent
    ∙ (λ k. (c.unsent ∙ (λ j. t.unsent j - named_count x old start items t.reads j)) k + sym (opened_one items x) k)
    ∙ left_over x items (unsent_reads items) (unsent_reads (items ++ x ∷ [])) (unsent_more [] items x)

-- ---- how many each ticket has

plus_one : (b : Bool) (m : ℕ) → cond b (m + 1) m ≡ m + one b
plus_one true m = refl
plus_one false m = omega arith

behind : (o : Option (ℕ × ℕ)) (start : ℕ → ℕ) (place : ℕ) → ((p : ℕ) → start p ≤ place) → IsBehind o start place
behind None start place low = tt
behind (Some t) start place low = low t.0

open_next : (old mid late : Sums) (start next : ℕ → ℕ) (items : List Item) (x : Item) (place : ℕ) → ((p : ℕ) → start p ≤ place) → TellsSums old start items
    → Closes (named x) start place old mid → Opens (unsent_now items x) start place mid late → AreBefore (place + 1) late.reads → ((p : ℕ) → next p ≡ cond (begins p x) (place + 1) (start p))
    → (a b : ℕ) → count_at late.reads next a b ≡ open_from a b [] (items ++ x ∷ [])
open_next old mid late start next items x place low t c o before n a b = by (begins a x) refl ∙ sym (open_more a b [] items x)
  where
    was : ℕ
    was = open_from a b [] items

    by : (s : Bool) → begins a x ≡ s → count_at late.reads next a b ≡ cond (closes a b x) 0 was + one (is_unsent_read items [] x && is_open_at a b [] x)
    by true e =
        let then : next a ≡ place + 1 = n a ∙ ap (λ (s : Bool). cond s (place + 1) (start a)) e in
        none_since (place + 1) next late.reads a b before (omega (arith, then))
        ∙ sym (λ k. cond (e k || names a b x) 0 was + one (starts_answer_none a items x e k && is_open_at a b [] x))
    by false e =
        let then : next a ≡ start a = n a ∙ ap (λ (s : Bool). cond s (place + 1) (start a)) e in
        let named_so : is_pair (named x) a b ≡ closes a b x = named_pair a b x ∙ sym (ap (λ (s : Bool). s || names a b x) e) in
        let kept : count_at mid.reads start a b ≡ cond (closes a b x) 0 was = c.reads a b ∙ (λ k. cond (named_so k) 0 (t.reads a b k)) in
        same_since start next late.reads a b then
        ∙ o.reads (behind (unsent_now items x) start place low) a b
        ∙ plus_one (is_pair (unsent_now items x) a b) (count_at mid.reads start a b)
        ∙ (λ k. kept k + one (sym (opened_pair a b items x) k))

-- ---- all of it

more_at : (old mid late new : Sums) (start next : ℕ → ℕ) (items : List Item) (x : Item) → ((p : ℕ) → start p ≤ length items) → TellsSums old start items
    → Closes (named x) start (length items) old mid → Opens (unsent_now items x) start (length items) mid late
    → new.unsent ≡ late.unsent → new.reads ≡ late.reads → new.watches ≡ cond (asks_watch x) (late.watches + 1) late.watches
    → ((p : ℕ) → next p ≡ cond (begins p x) (length items + 1) (start p)) → TellsSums new next (items ++ x ∷ [])
more_at old mid late new start next items x low t c o u k w n = record {
  unsent = u ∙ unsent_next old mid late start items x (length items) t c o;
  watches = w ∙ ap (λ (m : ℕ). cond (asks_watch x) (m + 1) m) (o.watches ∙ c.watches ∙ t.watches) ∙ sym (count_next asks_watch items x);
  reads = λ p ticket. ap (λ (kept : List ((ℕ × ℕ) × (ℕ × ℕ))). count_at kept next p ticket) k ∙ open_next old mid late start next items x (length items) low t c o since n p ticket;
  before = subst (λ (kept : List ((ℕ × ℕ) × (ℕ × ℕ))). AreBefore (length (items ++ x ∷ [])) kept) (sym k)
      (subst (λ (m : ℕ). AreBefore m late.reads) (sym (length-append items (x ∷ []))) since);
}
  where
    since : AreBefore (length items + 1) late.reads
    since = o.before (c.before (still_before (length items) old.reads t.before))

pub sums_more : (old mid late new : Sums) (start next : ℕ → ℕ) (items : List Item) (x : Item) (place : ℕ) → place ≡ length items → ((p : ℕ) → start p ≤ length items) → TellsSums old start items
    → Closes (named x) start place old mid → Opens (unsent_now items x) start place mid late
    → new.unsent ≡ late.unsent → new.reads ≡ late.reads → new.watches ≡ cond (asks_watch x) (late.watches + 1) late.watches
    → ((p : ℕ) → next p ≡ cond (begins p x) (place + 1) (start p)) → TellsSums new next (items ++ x ∷ [])
sums_more old mid late new start next items x place e low t c o u k w n =
    more_at old mid late new start next items x low t (subst (λ (m : ℕ). Closes (named x) start m old mid) e c) (subst (λ (m : ℕ). Opens (unsent_now items x) start m mid late) e o) u k w
    (λ p. n p ∙ ap (λ (m : ℕ). cond (begins p x) (m + 1) (start p)) e)
