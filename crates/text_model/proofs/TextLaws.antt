-- A text has the words of its value, and the value is read from it.
use Rattle.std.proofs.Common.{◌≡◌, ℕ, suc, ◌+◌, ◌-◌, ◌<◌, ◌≤◌, Bool, true, false, not, ◌&&◌, List, [], ◌∷◌, ◌++◌, length, take, zero, inl, inr, Option, Some, None, Result, Ok, Err, refl, sym, ap, subst, ◌∙◌, append_assoc, arith, All}
use Rattle.std.specs.Prelude.{flat_map, ◌==◌, bytes_eq}
use Rattle.std.specs.List.{list_all, slice_split, join_with_byte, AllByRecursion}
use Rattle.std.proofs.lemmas.Bool.{and_parts, and_from, not-true, eq-eqb, ne_eqb, cases_lt}
use Rattle.std.proofs.lemmas.List.Splits.{join_with_byte-slice_split, slice_split_none, slice_split_at}
use Rattle.std.proofs.lemmas.List.Elements.{All-from_recursion}
use Rattle.std.proofs.lemmas.List.{append-nil, length-append, take_at}
use Rattle.std.proofs.lemmas.List.Folds.{list_all-append}
use Rattle.text_model.specs.Forms.{Word, Form, ◌>>=◌, ended, whole, one_word}
use Rattle.text_model.specs.Texts.{words, text, placed, text_at, if_read, text_word, written, Begins, IsFirstWrong}
use Rattle.text_model.proofs.Laws.{lacks, are_clean, IsForm, IsWord, Stops, left_within, bound, bound_failed, failed, same_failed, same_done}

-- ---- words and texts

each_differs : (c : ℕ) (w : Word) → lacks c w ≡ true → AllByRecursion (λ b. (b == c) ≡ false) w
each_differs c [] e = tt
each_differs c (b ∷ bs) e =
    let p = and_parts (not (b == c)) (lacks c bs) e in
    (not-true (b == c) p.0, each_differs c bs p.1)

all_differ : (c : ℕ) (w : Word) → lacks c w ≡ true → All (λ b. (b == c) ≡ false) w
all_differ c w e = All-from_recursion (λ b. (b == c) ≡ false) w (each_differs c w e)

-- words that lack the separator are the words of their text
pub words-join : (c : ℕ) (w : Word) (ws : List Word) → are_clean c (w ∷ ws) ≡ true → words c (join_with_byte c (w ∷ ws)) ≡ w ∷ ws
words-join c w [] e =
    let p = and_parts (lacks c w) (are_clean c []) e in
    slice_split_none (λ b. b == c) w (all_differ c w p.0)
words-join c w (v ∷ vs) e =
    let p = and_parts (lacks c w) (are_clean c (v ∷ vs)) e in
    slice_split_at (λ b. b == c) w c (join_with_byte c (v ∷ vs)) (all_differ c w p.0) (eq-eqb c c refl) ∙ ap (λ us. w ∷ us) (words-join c v vs p.1)

-- ---- whole values

-- what the form spells has a first word
abbrev pub HasWords : {A : Type 0} → Form A → Type 0
HasWords {A} f = (x : A) → 0 < length (f.spell x)

ended_is : {A : Type 0} (p : A × List Word) (x : A) → ended p ≡ Ok x → (p.0 ≡ x) × (p.1 ≡ [])
ended_is (y, []) x e = (cc, refl)
ended_is (y, w ∷ ws) x e =
    let some : (length (w ∷ ws) == 0) ≡ false = ne_eqb _ 0 (λ h. absurd (omega arith)) in
    absurd (let h = rw some at e in cc)

pub whole_takes : {A : Type 0} (c : ℕ) (f : Form A) → IsForm c f → (ws : List Word) (x : A) → whole f ws ≡ Ok x → (ws ≡ f.spell x) × (f.fits x ≡ true)
whole_takes {A} c f p ws x e =
    let a = bound (f.read ws) ended x e in
    let d = ended_is a.0 x a.2 in
    let t = p.part.takes ws a.0.0 a.0.1 a.1 in
    let Claim : A → Type 0 = λ y. (ws ≡ f.spell y) × (f.fits y ≡ true) in
    subst Claim d.0 (t.0 ∙ ap (λ (vs : List Word). f.spell a.0.0 ++ vs) d.1 ∙ append-nil (f.spell a.0.0), t.1)

pub whole_again : {A : Type 0} (c : ℕ) (f : Form A) → IsForm c f → (x : A) → f.fits x ≡ true → whole f (f.spell x) ≡ Ok x
whole_again c f p x fits =
    ap (whole f) (sym (append-nil (f.spell x))) ∙ rw (p.part.again x [] fits) refl

words_again : {A : Type 0} (c : ℕ) (f : Form A) → IsForm c f → (ws : List Word) → 0 < length ws → are_clean c ws ≡ true → words c (join_with_byte c ws) ≡ ws
words_again c f p [] some clean = absurd (omega arith)
words_again c f p (w ∷ ws) some clean = words-join c w ws clean

pub text_words : {A : Type 0} (c : ℕ) (f : Form A) → IsForm c f → HasWords f → (x : A) → f.fits x ≡ true → words c (text c f x) ≡ f.spell x
text_words c f p some x fits = words_again c f p (f.spell x) (some x) (p.part.clean x fits)

placed_ok : {A : Type 0} (n : ℕ) (r : Result A ℕ) (x : A) → placed n r ≡ Ok x → r ≡ Ok x
placed_ok n (Ok y) x e = e
placed_ok n (Err k) x e = absurd cc

-- what is read from bytes has these bytes as its text
pub text_takes : {A : Type 0} (c : ℕ) (f : Form A) → IsForm c f → (bytes : List ℕ) (x : A) → text_at c f bytes ≡ Ok x → (bytes ≡ text c f x) × (f.fits x ≡ true)
text_takes c f p bytes x e =
    let t = whole_takes c f p (words c bytes) x (placed_ok _ (whole f (words c bytes)) x e) in
    (sym (join_with_byte-slice_split c bytes) ∙ ap (join_with_byte c) t.0, t.1)

-- a value that fits is read from its text
pub text_again : {A : Type 0} (c : ℕ) (f : Form A) → IsForm c f → HasWords f → (x : A) → f.fits x ≡ true → text_at c f (text c f x) ≡ Ok x
text_again c f p some x fits =
    let r : whole f (words c (text c f x)) ≡ Ok x = ap (whole f) (text_words c f p some x fits) ∙ whole_again c f p x fits in
    ap (placed _) r

-- ---- the first wrong word

-- the front of words that stand before others
front_of : (ws front back : List Word) (n : ℕ) → ws ≡ front ++ back → n ≡ length front → take n ws ≡ front
front_of ws front back n e many =
    ap (λ (k : ℕ). take k ws) many ∙ ap (take (length front)) e ∙ take_at front back (length front) refl

begins_at : {A : Type 0} (f : Form A) (ws front : List Word) (n : ℕ) → take n ws ≡ front → Begins f front → Begins f (take n ws)
begins_at f ws front n e b =
    let At : List Word → Type 0 = λ v. Begins f v in
    subst At (sym e) b

begins_with : {A : Type 0} (f : Form A) (ws front : List Word) (n : ℕ) → take n ws ≡ front → Begins f (take n ws) → Begins f front
begins_with f ws front n e b =
    let At : List Word → Type 0 = λ v. Begins f v in
    subst At e b

-- the words of a value are read
read_whole : {A : Type 0} (c : ℕ) (f : Form A) → IsForm c f → (x : A) (ws : List Word) → f.fits x ≡ true → f.spell x ≡ ws → f.read ws ≡ Ok (x, [])
read_whole c f p x ws fits e =
    ap f.read (sym e ∙ sym (append-nil (f.spell x))) ∙ p.part.again x [] fits

not_both : {A : Type 0} (r : Result A ℕ) (x : A) (n : ℕ) → r ≡ Ok x → r ≡ Err n → ⊥
not_both {A} r x n good bad = let e : failed {A = A} n ≡ Ok x = sym bad ∙ good in absurd cc

one_more : (front : List Word) (w : Word) (more : List Word) → (front ++ w ∷ []) ++ more ≡ front ++ w ∷ more
one_more front w more = append_assoc front (w ∷ []) more

length_one_more : (front : List Word) (w : Word) → length (front ++ w ∷ []) ≡ length front + 1
length_one_more front w = length-append front (w ∷ [])

-- reading stops at the first wrong word
stopped_wrong : {A : Type 0} (c : ℕ) (f : Form A) → IsForm c f → (ws : List Word) (left : ℕ) → f.read ws ≡ Err left → Stops f.read ws left → (place : ℕ) → place + left ≡ length ws + 1 → place ≤ length ws → Begins f (take place ws) → ⊥
stopped_wrong c f p ws zero e s place many within b = absurd (omega arith)
stopped_wrong c f p ws (suc left) e s place many within b =
    let regrouped : ws ≡ (s.front ++ s.word ∷ []) ++ s.rest = s.parts ∙ sym (one_more s.front s.word s.rest) in
    let total : length ws ≡ length s.front + suc (length s.rest) = ap length s.parts ∙ length-append s.front (s.word ∷ s.rest) in
    let at : place ≡ length (s.front ++ s.word ∷ []) = omega (arith, length_one_more s.front s.word, total, s.many) in
    let begun = begins_with f ws (s.front ++ s.word ∷ []) place (front_of ws (s.front ++ s.word ∷ []) s.rest place regrouped at) b in
    not_both (f.read (s.front ++ s.word ∷ begun.2)) (begun.0, []) (suc (length begun.2))
    (read_whole c f p begun.0 (s.front ++ s.word ∷ begun.2) begun.1 (begun.3 ∙ one_more s.front s.word begun.2)) (s.wrong begun.2)

stopped_before : {A : Type 0} (c : ℕ) (f : Form A) → IsForm c f → (ws : List Word) (left : ℕ) → f.read ws ≡ Err left → left ≤ length ws → (place : ℕ) → place + left ≡ length ws + 1 → Begins f (take (place - 1) ws)
stopped_before c f p ws left e within place many =
    elim (cases_lt left (length ws)) [
      | inl less ↦
          let r = p.part.reaches ws left e less in
          let total : length ws ≡ length r.front + length r.back = ap length r.parts ∙ length-append r.front r.back in
          let at : place - 1 ≡ length r.front = omega (arith, total, r.many) in
          begins_at f ws r.front (place - 1) (front_of ws r.front r.back (place - 1) r.parts at) (r.value, r.fits, r.more, r.goes_on)
      | inr all ↦
          let at : place - 1 ≡ 0 = omega arith in
          begins_at f ws [] (place - 1) (ap (λ (k : ℕ). take k ws) at) (p.some.0, p.some.1, f.spell p.some.0, refl)
    ]

stopped_at : {A : Type 0} (c : ℕ) (f : Form A) → IsForm c f → (ws : List Word) (left : ℕ) → f.read ws ≡ Err left → (place : ℕ) → place + left ≡ length ws + 1 → left ≤ length ws → IsFirstWrong f ws place
stopped_at c f p ws left e place many within =
    record {
      within = (omega arith, omega arith);
      before = stopped_before c f p ws left e within place many;
      wrong = stopped_wrong c f p ws left e (p.part.stops ws left e) place many;
      missing = λ long x fits same. not_both (f.read ws) (x, []) left (read_whole c f p x ws fits same) e;
    }

-- words behind a whole value
surplus_wrong : {A : Type 0} (c : ℕ) (f : Form A) → IsForm c f → (x : A) (w : Word) (rest : List Word) (ws : List Word) (place : ℕ) → ws ≡ f.spell x ++ w ∷ rest → f.fits x ≡ true → place ≡ length (f.spell x) + 1 → Begins f (take place ws) → ⊥
surplus_wrong {A} c f p x w rest ws place parts fits at b =
    let spelled = f.spell x in
    let regrouped : ws ≡ (spelled ++ w ∷ []) ++ rest = parts ∙ sym (one_more spelled w rest) in
    let long : place ≡ length (spelled ++ w ∷ []) = omega (arith, length_one_more spelled w) in
    let begun = begins_with f ws (spelled ++ w ∷ []) place (front_of ws (spelled ++ w ∷ []) rest place regrouped long) b in
    let first = read_whole c f p begun.0 (spelled ++ w ∷ begun.2) begun.1 (begun.3 ∙ one_more spelled w begun.2) in
    let second = p.part.again x (w ∷ begun.2) fits in
    let rests = (same_done begun.0 x [] (w ∷ begun.2) (sym first ∙ second)).1 in
    absurd (omega (arith, ap length rests))

surplus_at : {A : Type 0} (c : ℕ) (f : Form A) → IsForm c f → (x : A) (us ws : List Word) → f.read ws ≡ Ok (x, us) → 0 < length us → (place : ℕ) → place + length us ≡ length ws + 1 → IsFirstWrong f ws place
surplus_at c f p x [] ws e some place many = absurd (omega arith)
surplus_at c f p x (w ∷ rest) ws e some place many =
    let t = p.part.takes ws x (w ∷ rest) e in
    let total : length ws ≡ length (f.spell x) + suc (length rest) = ap length t.0 ∙ length-append (f.spell x) (w ∷ rest) in
    let at : place ≡ length (f.spell x) + 1 = omega arith in
    let before : place - 1 ≡ length (f.spell x) = omega arith in
    record {
      within = (omega arith, omega arith);
      before = begins_at f ws (f.spell x) (place - 1) (front_of ws (f.spell x) (w ∷ rest) (place - 1) t.0 before) (x, t.1, [], sym (append-nil (f.spell x)));
      wrong = λ within b. surplus_wrong c f p x w rest ws place t.0 t.1 at b;
      missing = λ long y fits same. absurd (omega arith);
    }

placed_failed : {A : Type 0} (total : ℕ) (r : Result A ℕ) (place : ℕ) → placed total r ≡ Err place → (left : ℕ) × (r ≡ Err left) × (total + 1 - left ≡ place)
placed_failed total (Ok x) place e = absurd cc
placed_failed {A} total (Err left) place e = (left, refl, same_failed {A = A} (total + 1 - left) place e)

ended_failed : {A : Type 0} (x : A) (us : List Word) (left : ℕ) → ended (x, us) ≡ Err left → (0 < length us) × (length us ≡ left)
ended_failed x [] left e = absurd cc
ended_failed {A} x (w ∷ ws) left e =
    let some : (length (w ∷ ws) == 0) ≡ false = ne_eqb _ 0 (λ h. absurd (omega arith)) in
    let k : failed {A = A} (length (w ∷ ws)) ≡ Err left = rw some at e in
    (omega arith, same_failed {A = A} (length (w ∷ ws)) left k)

-- the place that reading gives is that of the first word after which no text can follow
pub text_first_wrong : {A : Type 0} (c : ℕ) (f : Form A) → IsForm c f → (bytes : List ℕ) (place : ℕ) → text_at c f bytes ≡ Err place → IsFirstWrong f (words c bytes) place
text_first_wrong c f p bytes place e =
    let ws = words c bytes in
    let t = placed_failed (length ws) (whole f ws) place e in
    let left = t.0 in
    elim (bound_failed (f.read ws) ended left t.1) [
      | inl h ↦
          let within = left_within f.read ws left (p.part.stops ws left h) in
          stopped_at c f p ws left h place (omega (arith, t.2)) within
      | inr h ↦
          let k = ended_failed h.0.0 h.0.1 left h.2 in
          let parts = (p.part.takes ws h.0.0 h.0.1 h.1).0 in
          let total : length ws ≡ length (f.spell h.0.0) + length h.0.1 = ap length parts ∙ length-append (f.spell h.0.0) h.0.1 in
          surplus_at c f p h.0.0 h.0.1 ws h.1 k.0 place (omega (arith, t.2, k.1, total))
    ]

-- ---- a text as one word

if_read_some : {A : Type 0} (r : Result A ℕ) (x : A) → if_read r ≡ Some x → r ≡ Ok x
if_read_some (Ok y) x e = cc
if_read_some (Err n) x e = absurd cc

-- joined by c, words that lack another byte lack it still
join_lacks : (c other : ℕ) (ws : List Word) → (c == other) ≡ false → are_clean other ws ≡ true → lacks other (join_with_byte c ws) ≡ true
join_lacks c other [] differs e = refl
join_lacks c other (w ∷ []) differs e = (and_parts (lacks other w) (are_clean other []) e).0
join_lacks c other (w ∷ v ∷ ws) differs e =
    let p = and_parts (lacks other w) (are_clean other (v ∷ ws)) e in
    let rest = join_lacks c other (v ∷ ws) differs p.1 in
    let sep : lacks other (c ∷ join_with_byte c (v ∷ ws)) ≡ true = rw differs rest in
    list_all-append (λ b. not (b == other)) w (c ∷ join_with_byte c (v ∷ ws)) ∙ and_from _ _ p.0 sep

pub text_word-IsWord : {A : Type 0} (c inner : ℕ) (f : Form A) → (inner == c) ≡ false → IsForm inner f → IsForm c f → HasWords f → IsWord c (text inner f) (text_word inner f) f.fits
text_word-IsWord c inner f differs p q some =
    record {
      takes = λ w x e.
          let t = whole_takes inner f p (words inner w) x (if_read_some (whole f (words inner w)) x e) in
          (sym (join_with_byte-slice_split inner w) ∙ ap (join_with_byte inner) t.0, t.1);
      again = λ x fits. ap (λ ws. if_read (whole f ws)) (text_words inner f p some x fits) ∙ ap if_read (whole_again inner f p x fits);
      clean = λ x fits. join_lacks inner c (f.spell x) differs (q.part.clean x fits);
    }

-- ---- writing

pub written-append : (c : ℕ) (front back : List Word) → written c (front ++ back) ≡ written c front ++ written c back
written-append c [] back = refl
written-append c (w ∷ ws) back =
    ap (λ (rest : List ℕ). w ++ c ∷ rest) (written-append c ws back) ∙ sym (append_assoc w (c ∷ written c ws) (written c back))

-- what is written in turn
pub ruleset in_turn = (append_assoc, written-append)

-- words written one after the other are their text and the separator
pub written_text : (c : ℕ) (w : Word) (ws : List Word) → written c (w ∷ ws) ≡ join_with_byte c (w ∷ ws) ++ c ∷ []
written_text c w [] = refl
written_text c w (v ∷ vs) =
    ap (λ (rest : List ℕ). w ++ c ∷ rest) (written_text c v vs) ∙ sym (append_assoc w (c ∷ join_with_byte c (v ∷ vs)) (c ∷ []))
