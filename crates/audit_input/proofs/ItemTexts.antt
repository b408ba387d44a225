-- What the audit takes to its end is the texts of a list of items that keeps the rules; and such texts are refused for no line, but
-- where one passes a limit.
use Rattle.std.proofs.Common.{◌≡◌, ◌≤◌, ℕ, ◌+◌, Bool, true, false, cond, List, [], ◌∷◌, ◌++◌, length, map, Option, None, Some, Result, Ok, Err, inl, inr, refl, sym, ◌∙◌, ap, subst, append_assoc, append-nil, arith}
use Rattle.std.specs.List.{list_all}
use Rattle.etcd_types.proofs.Bools.{and_first, and_second, and_both}
use Rattle.etcd_types.specs.Keys.{is_empty}
use Rattle.script_text.specs.declared.item.Item.{Item}
use Rattle.script_text.specs.Items.{is_item, item_at, item_text}
use Rattle.script_text.proofs.ItemLaws.{item_again, item_takes}
use Rattle.replay_model.specs.Progress.{size_of}
use Rattle.replay_model.specs.Script.{begun_line, whole_lines}
use Rattle.audit_model.specs.Audited.{Audited, after_item, after_line, after_reading, audited, audited_lines, beginning, is_open, on_line, on_lines}
use Rattle.audit_model.specs.Broken.{Found, Meets, broken, first_broken_from, found_or}
use Rattle.audit_model.specs.declared.ending.AuditEnding.TheVariants as ending
use Rattle.audit_model.specs.declared.fault.AuditFault.{AuditFault}
use Rattle.audit_input.specs.Refused.{passes_limit}
use Rattle.audit_input.specs.Texts.{AreTextsOf, Kept, TakesOr}
use Rattle.audit_input.proofs.Growing.{is_open-true, on_open}

-- ---- one item more keeps the rules where it breaks none

both_none : (n : ℕ) (f : Option AuditFault) (later : Option Found) → f ≡ None → later ≡ None → found_or n f later ≡ None
both_none n f later e h = λ i. found_or n (e i) (h i)

none_found : (n : ℕ) (f : Option AuditFault) (later : Option Found) → found_or n f later ≡ None → (f ≡ None) × (later ≡ None)
none_found n None later e = (refl, e)
none_found n (Some f) later e = absurd (cc)

more_from : (n : ℕ) (before xs : List Item) (i : Item) → first_broken_from n before xs ≡ None → broken (before ++ xs) i ≡ None → first_broken_from n before (xs ++ i ∷ []) ≡ None
more_from n before [] i e b = both_none n (broken before i) None (subst (λ (ys : List Item). broken ys i ≡ None) (append-nil before) b) refl
more_from n before (x ∷ xs) i e b =
    let parts = none_found n (broken before x) (first_broken_from (n + 1) (before ++ x ∷ []) xs) e in
    both_none n (broken before x) (first_broken_from (n + 1) (before ++ x ∷ []) (xs ++ i ∷ [])) parts.0
    (more_from (n + 1) (before ++ x ∷ []) xs i parts.1 (subst (λ (ys : List Item). broken ys i ≡ None) (sym (append_assoc before (x ∷ []) xs)) b))

meets_more : (items : List Item) (i : Item) → Meets items → broken items i ≡ None → Meets (items ++ i ∷ [])
meets_more items i m b = more_from 1 [] items i m b

-- ---- what is taken is so

record Went (a b : Audited) (lines : List (List ℕ)) : Type 0 where
  items : List Item
  gained : b.items ≡ a.items ++ items
  lines_are : lines ≡ map item_text items
  texts : list_all is_item items ≡ true
  meets : Meets a.items → Meets b.items

nothing_went : (a : Audited) → Went a a []
nothing_went a = record { items = []; gained = sym (append-nil a.items); lines_are = refl; texts = refl; meets = λ m. m }

all-append : (xs ys : List Item) → list_all is_item xs ≡ true → list_all is_item ys ≡ true → list_all is_item (xs ++ ys) ≡ true
all-append [] ys e h = h
all-append (x ∷ xs) ys e h =
    and_both (is_item x) (list_all is_item (xs ++ ys)) (and_first (is_item x) (list_all is_item xs) e) (all-append xs ys (and_second (is_item x) (list_all is_item xs) e) h)

map-append : (xs ys : List Item) → map item_text (xs ++ ys) ≡ map item_text xs ++ map item_text ys
map-append [] ys = refl
map-append (x ∷ xs) ys = ap (λ (ls : List (List ℕ)). item_text x ∷ ls) (map-append xs ys)

both_went : (a b c : Audited) (lines more : List (List ℕ)) → Went a b lines → Went b c more → Went a c (lines ++ more)
both_went a b c lines more w v = record {
  items = w.items ++ v.items;
  gained = v.gained ∙ ap (λ (xs : List Item). xs ++ v.items) w.gained ∙ append_assoc a.items w.items v.items;
  lines_are = (λ i. w.lines_are i ++ v.lines_are i) ∙ sym (map-append w.items v.items);
  texts = all-append w.items v.items w.texts v.texts;
  meets = λ m. v.meets (w.meets m);
}

item_went : (a : Audited) (size : ℕ) (line : List ℕ) (i : Item) → item_at line ≡ Ok i → (f : Option AuditFault) → broken a.items i ≡ f → (after_item a size i f).ending ≡ ending.Open → Went a (after_item a size i f) (line ∷ [])
item_went a size line i e None b o =
    let told = item_takes line i e in
    record {
      items = i ∷ [];
      gained = refl;
      lines_are = ap (λ (l : List ℕ). l ∷ []) told.0;
      texts = and_both (is_item i) true told.1 refl;
      meets = λ m. meets_more a.items i m b;
    }
item_went a size line i e (Some f) b o = absurd (cc)

reading_went : (a : Audited) (size : ℕ) (line : List ℕ) (r : Result Item ℕ) → item_at line ≡ r → (after_reading a size r).ending ≡ ending.Open → Went a (after_reading a size r) (line ∷ [])
reading_went a size line (Ok i) e o = item_went a size line i e (broken a.items i) refl o
reading_went a size line (Err place) e o = absurd (cc)

line_went : (a : Audited) (line : List ℕ) (feed past : Bool)
    → (cond past (record a { ending = ending.PastLimit }) (after_reading a (size_of line feed) (item_at line))).ending ≡ ending.Open
    → Went a (cond past (record a { ending = ending.PastLimit }) (after_reading a (size_of line feed) (item_at line))) (line ∷ [])
line_went a line feed true o = absurd (cc)
line_went a line feed false o = reading_went a (size_of line feed) line (item_at line) refl o

-- a line that is taken was taken behind none that is refused
was_open : (a : Audited) (line : List ℕ) (feed : Bool) → (on_line a line feed).ending ≡ ending.Open → a.ending ≡ ending.Open
was_open a line feed o = by (is_open a.ending) refl
  where
    by : (b : Bool) → is_open a.ending ≡ b → a.ending ≡ ending.Open
    by true e = is_open-true a.ending e
    by false e = ap (λ (x : Audited). x.ending) (sym (ap (λ (b : Bool). cond b (after_line a line feed) a) e)) ∙ o

one_went : (a : Audited) (line : List ℕ) (feed : Bool) → (on_line a line feed).ending ≡ ending.Open → Went a (on_line a line feed) (line ∷ [])
one_went a line feed o =
    let there = on_open a line feed (was_open a line feed o) in
    subst (λ (b : Audited). Went a b (line ∷ [])) (sym there)
    (line_went a line feed (passes_limit a (length line) (size_of line feed)) (ap (λ (b : Audited). b.ending) (sym there) ∙ o))

were_open : (a : Audited) (lines : List (List ℕ)) → (on_lines a lines).ending ≡ ending.Open → a.ending ≡ ending.Open
were_open a [] o = o
were_open a (line ∷ lines) o = was_open a line true (were_open (on_line a line true) lines o)

all_went : (a : Audited) (lines : List (List ℕ)) → (on_lines a lines).ending ≡ ending.Open → Went a (on_lines a lines) lines
all_went a [] o = nothing_went a
all_went a (line ∷ lines) o =
    both_went a (on_line a line true) (on_lines (on_line a line true) lines) (line ∷ []) lines
    (one_went a line true (were_open (on_line a line true) lines o)) (all_went (on_line a line true) lines o)

abbrev KeptBy : Audited → List (List ℕ) → Type 0
KeptBy b lines = (lines ≡ map item_text b.items) × (list_all is_item b.items ≡ true) × Meets b.items

kept_by : (b : Audited) (lines : List (List ℕ)) → Went beginning b lines → KeptBy b lines
kept_by b lines w =
    (w.lines_are ∙ ap (map item_text) (sym w.gained), ap (list_all is_item) w.gained ∙ w.texts, w.meets refl)

pub audited_keeps : (bytes : List ℕ) → (audited bytes).ending ≡ ending.Open → Kept bytes
audited_keeps bytes o =
    let k = kept (is_empty begun) (went (is_empty begun) o) in
    record { texts = record { lines = k.0; texts = k.1 }; meets = k.2 }
  where
    whole : List (List ℕ)
    whole = whole_lines bytes

    begun : List ℕ
    begun = begun_line bytes

    ended : Bool → Audited
    ended b = cond b (audited_lines bytes) (on_line (audited_lines bytes) begun false)

    went : (b : Bool) → (ended b).ending ≡ ending.Open → Went beginning (ended b) (cond b whole (whole ++ begun ∷ []))
    went true e = all_went beginning whole e
    went false e =
        both_went beginning (audited_lines bytes) (ended false) whole (begun ∷ []) (all_went beginning whole (was_open (audited_lines bytes) begun false e))
        (one_went (audited_lines bytes) begun false e)

    kept : (b : Bool) → Went beginning (ended b) (cond b whole (whole ++ begun ∷ [])) → KeptBy (ended b) (cond b whole (whole ++ begun ∷ []))
    kept b w = kept_by (ended b) (cond b whole (whole ++ begun ∷ [])) w

-- ---- and what is so is taken, but where a limit is passed

-- the items behind these ones break no rule, each behind those before it
abbrev NoneBreaks : List Item → List Item → Type 0
NoneBreaks before [] = Unit {0}
NoneBreaks before (i ∷ items) = (broken before i ≡ None) × NoneBreaks (before ++ i ∷ []) items

none_breaks : (n : ℕ) (before items : List Item) → first_broken_from n before items ≡ None → NoneBreaks before items
none_breaks n before [] m = tt
none_breaks n before (i ∷ items) m =
    let parts = none_found n (broken before i) (first_broken_from (n + 1) (before ++ i ∷ []) items) m in
    (parts.0, none_breaks (n + 1) (before ++ i ∷ []) items parts.1)

line_takes : (a : Audited) (line : List ℕ) (feed : Bool) (i : Item) → item_at line ≡ Ok i → broken a.items i ≡ None → (past : Bool)
    → TakesOr (cond past (record a { ending = ending.PastLimit }) (after_reading a (size_of line feed) (item_at line))) (a.items ++ i ∷ [])
line_takes a line feed i e n true = inr refl
line_takes a line feed i e n false =
    let there : after_reading a (size_of line feed) (item_at line) ≡ record { items = a.items ++ i ∷ []; bytes = a.bytes + size_of line feed; ending = ending.Open } =
    ap (after_reading a (size_of line feed)) e ∙ ap (after_item a (size_of line feed) i) n in
    inl (ap (λ (b : Audited). b.ending) there, ap (λ (b : Audited). b.items) there)

one_takes : (a : Audited) (line : List ℕ) (feed : Bool) (i : Item) (before : List Item) → TakesOr a before → line ≡ item_text i → is_item i ≡ true → broken before i ≡ None
    → TakesOr (on_line a line feed) (before ++ i ∷ [])
one_takes a line feed i before (inl t) e f n =
    subst (λ (b : Audited). TakesOr b (before ++ i ∷ [])) (sym (on_open a line feed t.0))
    (subst (λ (xs : List Item). TakesOr (after_line a line feed) (xs ++ i ∷ [])) t.1
    (line_takes a line feed i (ap item_at e ∙ item_again i f) (subst (λ (xs : List Item). broken xs i ≡ None) (sym t.1) n) (passes_limit a (length line) (size_of line feed))))
one_takes a line feed i before (inr p) e f n =
    inr (ap (λ (b : Audited). b.ending) (ap (λ (b : Bool). cond b (after_line a line feed) a) (ap is_open p)) ∙ p)

first_line : (line : List ℕ) (lines : List (List ℕ)) (i : Item) (items : List Item) → line ∷ lines ≡ map item_text (i ∷ items) → (line ≡ item_text i) × (lines ≡ map item_text items)
first_line line lines i items e = (ap (head_of []) e, ap tail_of e)
  where
    head_of : List ℕ → List (List ℕ) → List ℕ
    head_of d [] = d
    head_of d (l ∷ ls) = l

    tail_of : List (List ℕ) → List (List ℕ)
    tail_of [] = []
    tail_of (l ∷ ls) = ls

-- each line with its line feed, and the last one with it or not
abbrev taken_with : Audited → List (List ℕ) → List (List ℕ) → Audited
taken_with a whole [] = on_lines a whole
taken_with a whole (begun ∷ none) = on_line (on_lines a whole) begun false

all_take : (a : Audited) (whole last : List (List ℕ)) (before items : List Item) → length last ≤ 1 → TakesOr a before → whole ++ last ≡ map item_text items → list_all is_item items ≡ true → NoneBreaks before items
    → TakesOr (taken_with a whole last) (before ++ items)
all_take a [] [] before [] few t e f n = subst (TakesOr a) (sym (append-nil before)) t
all_take a [] [] before (i ∷ items) few t e f n = absurd (cc)
all_take a [] (line ∷ []) before [] few t e f n = absurd (cc)
all_take a [] (line ∷ []) before (i ∷ []) few t e f n =
    one_takes a line false i before t (first_line line [] i [] e).0 (and_first (is_item i) true f) n.0
all_take a [] (line ∷ []) before (i ∷ j ∷ items) few t e f n = absurd (cc)
all_take a [] (line ∷ more ∷ last) before items few t e f n = absurd (omega (arith, few))
all_take a (line ∷ whole) last before [] few t e f n = absurd (cc)
all_take a (line ∷ whole) last before (i ∷ items) few t e f n =
    let lines = first_line line (whole ++ last) i items e in
    let one = one_takes a line true i before t lines.0 (and_first (is_item i) (list_all is_item items) f) n.0 in
    subst (TakesOr (taken_with a (line ∷ whole) last)) (append_assoc before (i ∷ []) items)
    (taken_same a line whole last (all_take (on_line a line true) whole last (before ++ i ∷ []) items few one lines.1 (and_second (is_item i) (list_all is_item items) f) n.1))
  where
    taken_same : (a : Audited) (line : List ℕ) (whole last : List (List ℕ)) → TakesOr (taken_with (on_line a line true) whole last) ((before ++ i ∷ []) ++ items) → TakesOr (taken_with a (line ∷ whole) last) ((before ++ i ∷ []) ++ items)
    taken_same a line whole [] t = t
    taken_same a line whole (l ∷ ls) t = t

pub audited_takes : (bytes : List ℕ) (items : List Item) → AreTextsOf bytes items → Meets items → TakesOr (audited bytes) items
audited_takes bytes items t m = by (is_empty (begun_line bytes)) refl
  where
    none : NoneBreaks [] items
    none = none_breaks 1 [] items m

    by : (b : Bool) → is_empty (begun_line bytes) ≡ b → TakesOr (audited bytes) items
    by true e =
        subst (λ (a : Audited). TakesOr a items) (sym (ap (λ (b : Bool). cond b (audited_lines bytes) (on_line (audited_lines bytes) (begun_line bytes) false)) e))
        (all_take beginning (whole_lines bytes) [] [] items (omega arith) (inl (refl, refl))
        (append-nil (whole_lines bytes) ∙ sym (ap (λ (b : Bool). cond b (whole_lines bytes) (whole_lines bytes ++ begun_line bytes ∷ [])) e) ∙ t.lines) t.texts none)
    by false e =
        subst (λ (a : Audited). TakesOr a items) (sym (ap (λ (b : Bool). cond b (audited_lines bytes) (on_line (audited_lines bytes) (begun_line bytes) false)) e))
        (all_take beginning (whole_lines bytes) (begun_line bytes ∷ []) [] items (omega arith) (inl (refl, refl))
        (sym (ap (λ (b : Bool). cond b (whole_lines bytes) (whole_lines bytes ++ begun_line bytes ∷ [])) e) ∙ t.lines) t.texts none)
