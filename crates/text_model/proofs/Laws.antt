-- The laws of forms: what is read was spelled so, what is spelled is read, and no word that is spelled has the byte that
-- separates words. Each way to put forms together keeps them.
use Rattle.std.proofs.Common.{◌≡◌, ℕ, zero, suc, Bool, true, false, not, ◌&&◌, ◌<◌, ◌≤◌, cond, List, [], ◌∷◌, ◌++◌, length, Option, Some, None, Result, Ok, Err, ◌⊎◌, inl, inr, refl, sym, ap, subst, ◌∙◌, append_assoc, arith}
use Rattle.std.specs.Prelude.{bytes_eq, flat_map, ◌==◌}
use Rattle.std.specs.List.{list_all, list_any}
use Rattle.std.proofs.lemmas.Bool.{and_parts, and_from, cases_Bool, cases_lt, or_cases, or_right, not-true}
use Rattle.std.proofs.lemmas.List.{length-append}
use Rattle.std.proofs.lemmas.List.Folds.{list_all-append}
use Rattle.std.proofs.lemmas.List.Concat.{flat_map-cons}
use Rattle.std.proofs.lemmas.Slice.Eq.{bytes_eq-Decides}
use Rattle.text_model.specs.Forms.{Word, Form, ◌>>=◌, taken, first_word, one_word, respelled, one_of, nothing, never, allowed, followed, both, into, via, via_where, spelled_as, after_name, after, spell_either, fits_either, on_left, on_right, read_named, named, either, read_several, listed, ended, whole}

-- the word lacks this byte
abbrev pub lacks : ℕ → Word → Bool
lacks c w = list_all (λ b. not (b == c)) w

abbrev pub are_clean : ℕ → List Word → Bool
are_clean c ws = list_all (lacks c) ws

abbrev pub Reads : Type 0 → Type 0
Reads A = List Word → Result (A × List Word) ℕ

-- these words are wrong from a word on, which is wrong whatever comes behind it
pub record WrongWord {A : Type 0} (read : Reads A) (ws : List Word) (left : ℕ) : Type 0 where
  pub front : List Word
  pub word : Word
  pub rest : List Word
  pub parts : ws ≡ front ++ word ∷ rest
  pub many : length rest ≡ left
  pub wrong : (more : List Word) → read (front ++ word ∷ more) ≡ Err (suc (length more))

-- where so many words are left from the first wrong one on; 0 where a word is missing
abbrev pub Stops : {A : Type 0} → Reads A → List Word → ℕ → Type 0
Stops read ws zero = Unit {0}
Stops read ws (suc left) = WrongWord read ws left

-- the words before the first wrong one can be gone on to the words of a value
pub record Reached {A : Type 0} (f : Form A) (ws : List Word) (left : ℕ) : Type 0 where
  pub front : List Word
  pub back : List Word
  pub parts : ws ≡ front ++ back
  pub many : length back ≡ left
  pub value : A
  pub fits : f.fits value ≡ true
  pub more : List Word
  pub goes_on : f.spell value ≡ front ++ more

-- the laws of a form that may have no value
pub record IsPart {A : Type 0} (c : ℕ) (f : Form A) : Type 0 where
  pub takes : (ws : List Word) (x : A) (rest : List Word) → f.read ws ≡ Ok (x, rest) → (ws ≡ f.spell x ++ rest) × (f.fits x ≡ true)
  pub again : (x : A) (rest : List Word) → f.fits x ≡ true → f.read (f.spell x ++ rest) ≡ Ok (x, rest)
  pub clean : (x : A) → f.fits x ≡ true → are_clean c (f.spell x) ≡ true
  pub stops : (ws : List Word) (left : ℕ) → f.read ws ≡ Err left → Stops f.read ws left
  pub reaches : (ws : List Word) (left : ℕ) → f.read ws ≡ Err left → left < length ws → Reached f ws left

-- some value fits
abbrev pub Has : {A : Type 0} → Form A → Type 0
Has {A} f = (x : A) × (f.fits x ≡ true)

-- the laws of a form
pub record IsForm {A : Type 0} (c : ℕ) (f : Form A) : Type 0 where
  pub part : IsPart c f
  pub some : Has f

-- what the form spells begins with a word other than this one
abbrev pub BeginsOther : Word → List Word → Type 0
BeginsOther name [] = ⊥
BeginsOther name (w ∷ ws) = bytes_eq w name ≡ false

-- ---- steps

pub bound : {A B : Type 0} (r : Result A ℕ) (f : A → Result B ℕ) (y : B) → (r >>= f) ≡ Ok y → (x : A) × (r ≡ Ok x) × (f x ≡ Ok y)
bound (Ok x) f y e = (x, refl, e)
bound (Err d) f y e = absurd cc

abbrev pub failed : {A : Type 0} → ℕ → Result A ℕ
failed n = Err n

abbrev left_or : {A : Type 0} → ℕ → Result A ℕ → ℕ
left_or d (Ok x) = d
left_or d (Err n) = n

pub same_failed : {A : Type 0} (m n : ℕ) → failed {A = A} m ≡ failed {A = A} n → m ≡ n
same_failed {A} m n e = ap (left_or {A = A} 0) e

-- the step that failed
pub bound_failed : {A B : Type 0} (r : Result A ℕ) (f : A → Result B ℕ) (n : ℕ) → (r >>= f) ≡ Err n → (r ≡ Err n) ⊎ ((x : A) × (r ≡ Ok x) × (f x ≡ Err n))
bound_failed (Ok x) f n e = inr (x, refl, e)
bound_failed (Err m) f n e = inl (ap failed (same_failed m n e))

-- one step after the other
pub bind_assoc : {A B C : Type 0} (r : Result A ℕ) (f : A → Result B ℕ) (g : B → Result C ℕ) → ((r >>= f) >>= g) ≡ (r >>= λ x. f x >>= g)
bind_assoc (Ok x) f g = refl
bind_assoc (Err n) f g = refl

abbrev pub done : {A : Type 0} → A → List Word → Result (A × List Word) ℕ
done x ws = Ok (x, ws)

abbrev first_or : {A : Type 0} → A → Result (A × List Word) ℕ → A
first_or d (Ok y) = y.0
first_or d (Err n) = d

abbrev rest_or : {A : Type 0} → List Word → Result (A × List Word) ℕ → List Word
rest_or d (Ok y) = y.1
rest_or d (Err n) = d

pub same_done : {A : Type 0} (x y : A) (us vs : List Word) → done x us ≡ done y vs → (x ≡ y) × (us ≡ vs)
same_done x y us vs e = (ap (first_or x) e, ap (rest_or us) e)

-- a claim of what was read, carried over to what it is equal to
pub carried : {A : Type 0} (Claim : A → List Word → Type 0) (x y : A) (us vs : List Word) → done x us ≡ done y vs → Claim x us → Claim y vs
carried Claim x y us vs e h =
    let s = same_done x y us vs e in
    let At : List Word → Type 0 = λ ws. Claim y ws in
    let Of : _ → Type 0 = λ z. Claim z us in
    subst At s.1 (subst Of s.0 h)

-- ---- where reading stops

-- no more words are left than there are
pub left_within : {A : Type 0} (read : Reads A) (ws : List Word) (left : ℕ) → Stops read ws left → left ≤ length ws
left_within read ws zero s = omega arith
left_within read ws (suc left) s =
    omega (arith, ap length s.parts, length-append s.front (s.word ∷ s.rest), s.many)

stops_along : {A B : Type 0} (read : Reads A) (other : Reads B) (ws : List Word) (left : ℕ) → ((vs : List Word) (n : ℕ) → read vs ≡ Err n → other vs ≡ Err n) → Stops read ws left → Stops other ws left
stops_along read other ws zero along s = tt
stops_along read other ws (suc left) along s =
    record {
      front = s.front;
      word = s.word;
      rest = s.rest;
      parts = s.parts;
      many = s.many;
      wrong = λ more. along (s.front ++ s.word ∷ more) (suc (length more)) (s.wrong more);
    }

-- words that stand before those that are wrong
stops_after : {A B : Type 0} (read : Reads A) (other : Reads B) (before ws us : List Word) (left : ℕ) → ws ≡ before ++ us → ((vs : List Word) (n : ℕ) → read vs ≡ Err n → other (before ++ vs) ≡ Err n) → Stops read us left → Stops other ws left
stops_after read other before ws us zero e along s = tt
stops_after read other before ws us (suc left) e along s =
    record {
      front = before ++ s.front;
      word = s.word;
      rest = s.rest;
      parts = e ∙ ap (λ (v : List Word). before ++ v) s.parts ∙ sym (append_assoc before s.front (s.word ∷ s.rest));
      many = s.many;
      wrong = λ more. ap other (append_assoc before s.front (s.word ∷ more)) ∙ along (s.front ++ s.word ∷ more) (suc (length more)) (s.wrong more);
    }

-- the first word is wrong
stops_at_once : {A : Type 0} (read : Reads A) (ws : List Word) (left : ℕ) → ((vs : List Word) → read vs ≡ Err (length vs)) → read ws ≡ Err left → length ws ≡ left
stops_at_once read ws left all e = same_failed (length ws) left (sym (all ws) ∙ e)

first_wrong : {A : Type 0} (read : Reads A) (w : Word) (ws : List Word) (left : ℕ) → ((more : List Word) → read (w ∷ more) ≡ Err (suc (length more))) → suc (length ws) ≡ left → Stops read (w ∷ ws) left
first_wrong {A} read w ws left wrong e =
    let At : ℕ → Type 0 = λ n. Stops read (w ∷ ws) n in
    subst At e (record { front = []; word = w; rest = ws; parts = refl; many = refl; wrong = wrong })

never_stops : {A : Type 0} (read : Reads A) (ws : List Word) (left : ℕ) → ((vs : List Word) → read vs ≡ Err (length vs)) → read ws ≡ Err left → Stops read ws left
never_stops read [] left all e =
    let At : ℕ → Type 0 = λ n. Stops read [] n in
    subst At (stops_at_once read [] left all e) tt
never_stops read (w ∷ ws) left all e =
    first_wrong read w ws left (λ more. all (w ∷ more)) (stops_at_once read (w ∷ ws) left all e)

-- ---- one word

pub taken_some : {A : Type 0} (o : Option A) (ws rest : List Word) (x : A) → taken o ws ≡ Ok (x, rest) → (o ≡ Some x) × (ws ≡ rest)
taken_some (Some y) ws rest x e = let s = same_done y x ws rest e in (ap (λ z. Some z) s.0, s.1)
taken_some None ws rest x e = absurd cc

-- a word that reads as a value is how it is spelled, and is read as it
pub record IsWord {A : Type 0} (c : ℕ) (to : A → Word) (of : Word → Option A) (ok : A → Bool) : Type 0 where
  pub takes : (w : Word) (x : A) → of w ≡ Some x → (w ≡ to x) × (ok x ≡ true)
  pub again : (x : A) → ok x ≡ true → of (to x) ≡ Some x
  pub clean : (x : A) → ok x ≡ true → lacks c (to x) ≡ true

first_takes : {A : Type 0} (c : ℕ) (to : A → Word) (of : Word → Option A) (ok : A → Bool) → IsWord c to of ok → (ws : List Word) (x : A) (rest : List Word) → first_word of ws ≡ Ok (x, rest) → (ws ≡ (to x ∷ []) ++ rest) × (ok x ≡ true)
first_takes c to of ok p [] x rest e = absurd cc
first_takes c to of ok p (w ∷ ws) x rest e =
    let t = taken_some (of w) ws rest x e in
    let q = p.takes w x t.0 in
    (ap (λ v. v ∷ ws) q.0 ∙ ap (λ vs. to x ∷ vs) t.1, q.1)

taken_none : {A : Type 0} (o : Option A) (ws : List Word) (left : ℕ) → taken o ws ≡ Err left → (o ≡ None) × (suc (length ws) ≡ left)
taken_none (Some y) ws left e = absurd cc
taken_none {A} None ws left e = (refl, same_failed {A = A × List Word} (suc (length ws)) left e)

first_stops : {A : Type 0} (of : Word → Option A) (ws : List Word) (left : ℕ) → first_word of ws ≡ Err left → Stops (first_word of) ws left
first_stops {A} of [] left e =
    let At : ℕ → Type 0 = λ n. Stops (first_word of) [] n in
    subst At (same_failed {A = A × List Word} 0 left e) tt
first_stops of (w ∷ ws) left e =
    let t = taken_none (of w) ws left e in
    first_wrong (first_word of) w ws left (λ more. ap (λ o. taken o more) t.0) t.1

first_left : {A : Type 0} (of : Word → Option A) (ws : List Word) (left : ℕ) → first_word of ws ≡ Err left → left < length ws → ⊥
first_left of [] left e lt = absurd (omega arith)
first_left of (w ∷ ws) left e lt = let t = taken_none (of w) ws left e in absurd (omega (arith, t.1))

pub one_word-IsForm : {A : Type 0} (c : ℕ) (to : A → Word) (of : Word → Option A) (ok : A → Bool) → IsWord c to of ok → (x : A) → ok x ≡ true → IsForm c (one_word to of ok)
one_word-IsForm c to of ok p x some =
    record {
      part = record {
        takes = first_takes c to of ok p;
        again = λ x rest fits. ap (λ o. taken o rest) (p.again x fits);
        clean = λ x fits. and_from _ _ (p.clean x fits) refl;
        stops = first_stops of;
        reaches = λ ws left e lt. absurd (first_left of ws left e lt);
      };
      some = (x, some);
    }

found : {A : Type 0} (b : Bool) (x y : A) (o : Option A) → cond b (Some x) o ≡ Some y → ((b ≡ true) × (x ≡ y)) ⊎ ((b ≡ false) × (o ≡ Some y))
found true x y o e = inl (refl, cc)
found false x y o e = inr (refl, e)

-- a word that is read by guessing a value and spelling it again
pub respelled-IsWord : {A : Type 0} (c : ℕ) (to : A → Word) (guess : Word → A) (ok : A → Bool) → ((x : A) → ok x ≡ true → guess (to x) ≡ x) → ((x : A) → ok x ≡ true → lacks c (to x) ≡ true) → IsWord c to (respelled to guess ok) ok
respelled-IsWord c to guess ok back lacking =
    record {
      takes = λ w x e. elim (found (bytes_eq w (to (guess w)) && ok (guess w)) (guess w) x None e) [
        | inl h ↦
            let both = and_parts _ _ h.0 in
            let At : _ → Type 0 = λ y. (w ≡ to y) × (ok y ≡ true) in
            subst At h.1 ((bytes_eq-Decides w (to (guess w))).0 both.0, both.1)
        | inr h ↦ absurd cc
      ];
      again = λ x fits. let g = back x fits in let same : bytes_eq (to x) (to (guess (to x))) ≡ true = (bytes_eq-Decides _ _).1 (ap to (sym g)) in rw (same, g, fits) refl;
      clean = lacking;
    }

one_of_takes : {A : Type 0} (to : A → Word) (all : List A) (w : Word) (x : A) → one_of to all w ≡ Some x → w ≡ to x
one_of_takes to [] w x e = absurd cc
one_of_takes to (y ∷ ys) w x e =
    elim (found (bytes_eq w (to y)) y x (one_of to ys w) e) [
      | inl h ↦ (bytes_eq-Decides w (to y)).0 h.0 ∙ ap to h.1
      | inr h ↦ one_of_takes to ys w x h.1
    ]

-- a word that is looked up among the words of these values
pub one_of-IsWord : {A : Type 0} (c : ℕ) (to : A → Word) (all : List A) → ((x : A) → one_of to all (to x) ≡ Some x) → ((x : A) → lacks c (to x) ≡ true) → IsWord c to (one_of to all) (λ x. true)
one_of-IsWord c to all back lacking =
    record {
      takes = λ w x e. (one_of_takes to all w x e, refl);
      again = λ x fits. back x;
      clean = λ x fits. lacking x;
    }

-- ---- forms put together

both_clean : (c : ℕ) (front back : List Word) → are_clean c front ≡ true → are_clean c back ≡ true → are_clean c (front ++ back) ≡ true
both_clean c front back p q = list_all-append (lacks c) front back ∙ and_from _ _ p q

followed_takes : {A B : Type 0} (c : ℕ) (f : Form A) (g : A → Form B) → IsPart c f → ((x : A) → IsPart c (g x)) → (ws : List Word) (x : A × B) (rest : List Word) → (followed f g).read ws ≡ Ok (x, rest) → (ws ≡ (followed f g).spell x ++ rest) × ((followed f g).fits x ≡ true)
followed_takes {A} {B} c f g p q ws x rest e =
    let a = bound (f.read ws) (λ a. (g a.0).read a.1 >>= λ b. Ok ((a.0, b.0), b.1)) (x, rest) e in
    let b = bound ((g a.0.0).read a.0.1) (λ b. Ok ((a.0.0, b.0), b.1)) (x, rest) a.2 in
    let t = p.takes ws a.0.0 a.0.1 a.1 in
    let u = (q a.0.0).takes a.0.1 b.0.0 b.0.1 b.1 in
    let joined : ws ≡ (f.spell a.0.0 ++ (g a.0.0).spell b.0.0) ++ b.0.1 = t.0 ∙ ap (λ (v : List Word). f.spell a.0.0 ++ v) u.0 ∙ sym (append_assoc (f.spell a.0.0) ((g a.0.0).spell b.0.0) b.0.1) in
    carried (λ (y : A × B) vs. (ws ≡ (followed f g).spell y ++ vs) × ((followed f g).fits y ≡ true)) (a.0.0, b.0.0) x b.0.1 rest b.2 (joined, and_from _ _ t.1 u.1)

followed_again : {A B : Type 0} (c : ℕ) (f : Form A) (g : A → Form B) → IsPart c f → ((x : A) → IsPart c (g x)) → (x : A × B) (rest : List Word) → (followed f g).fits x ≡ true → (followed f g).read ((followed f g).spell x ++ rest) ≡ Ok (x, rest)
followed_again c f g p q x rest fits =
    let both_fit = and_parts (f.fits x.0) ((g x.0).fits x.1) fits in
    let first = p.again x.0 ((g x.0).spell x.1 ++ rest) both_fit.0 in
    let second = (q x.0).again x.1 rest both_fit.1 in
    ap (followed f g).read (append_assoc (f.spell x.0) ((g x.0).spell x.1) rest) ∙ rw (first, second) refl

-- what failed as a value of another type failed
into_failed : {A B : Type 0} (to : B → A) (r : Result (B × List Word) ℕ) (left : ℕ) → into to r ≡ Err left → r ≡ Err left
into_failed to (Ok b) left e = absurd cc
into_failed {A} {B} to (Err n) left e = ap failed (same_failed {A = A × List Word} n left e)

followed_stops : {A B : Type 0} (c : ℕ) (f : Form A) (g : A → Form B) → IsPart c f → ((x : A) → IsPart c (g x)) → (ws : List Word) (left : ℕ) → (followed f g).read ws ≡ Err left → Stops (followed f g).read ws left
followed_stops {A} {B} c f g p q ws left e =
    elim (bound_failed (f.read ws) (λ a. (g a.0).read a.1 >>= λ b. Ok ((a.0, b.0), b.1)) left e) [
      | inl h ↦ stops_along f.read (followed f g).read ws left (λ vs n k. rw k refl) (p.stops ws left h)
      | inr h ↦
          let x = h.0.0 in
          let t = p.takes ws x h.0.1 h.1 in
          let later = into_failed {A = A × B} (λ y. (x, y)) ((g x).read h.0.1) left h.2 in
          stops_after (g x).read (followed f g).read (f.spell x) ws h.0.1 left t.0
          (λ vs n k. rw (p.again x vs t.1, k) refl) ((q x).stops h.0.1 left later)
    ]

followed_reaches : {A B : Type 0} (c : ℕ) (f : Form A) (g : A → Form B) → IsPart c f → ((x : A) → IsForm c (g x)) → (ws : List Word) (left : ℕ) → (followed f g).read ws ≡ Err left → left < length ws → Reached (followed f g) ws left
followed_reaches {A} {B} c f g p q ws left e lt =
    elim (bound_failed (f.read ws) (λ a. (g a.0).read a.1 >>= λ b. Ok ((a.0, b.0), b.1)) left e) [
      | inl h ↦
          let r = p.reaches ws left h lt in
          let y = (q r.value).some in
          record {
            front = r.front;
            back = r.back;
            parts = r.parts;
            many = r.many;
            value = (r.value, y.0);
            fits = and_from _ _ r.fits y.1;
            more = r.more ++ (g r.value).spell y.0;
            goes_on = ap (λ (v : List Word). v ++ (g r.value).spell y.0) r.goes_on ∙ append_assoc r.front r.more ((g r.value).spell y.0);
          }
      | inr h ↦
          let x = h.0.0 in
          let us = h.0.1 in
          let t = p.takes ws x us h.1 in
          let later = into_failed {A = A × B} (λ y. (x, y)) ((g x).read us) left h.2 in
          elim (cases_lt left (length us)) [
            | inl less ↦
                let r = (q x).part.reaches us left later less in
                record {
                  front = f.spell x ++ r.front;
                  back = r.back;
                  parts = t.0 ∙ ap (λ (v : List Word). f.spell x ++ v) r.parts ∙ sym (append_assoc (f.spell x) r.front r.back);
                  many = r.many;
                  value = (x, r.value);
                  fits = and_from _ _ t.1 r.fits;
                  more = r.more;
                  goes_on = ap (λ (v : List Word). f.spell x ++ v) r.goes_on ∙ sym (append_assoc (f.spell x) r.front r.more);
                }
            | inr all ↦
                let y = (q x).some in
                let within = left_within (g x).read us left ((q x).part.stops us left later) in
                record {
                  front = f.spell x;
                  back = us;
                  parts = t.0;
                  many = omega arith;
                  value = (x, y.0);
                  fits = and_from _ _ t.1 y.1;
                  more = (g x).spell y.0;
                  goes_on = refl;
                }
          ]
    ]

pub followed-IsForm : {A B : Type 0} (c : ℕ) (f : Form A) (g : A → Form B) → IsForm c f → ((x : A) → IsForm c (g x)) → IsForm c (followed f g)
followed-IsForm c f g p q =
    record {
      part = record {
        takes = followed_takes c f g p.part (λ x. (q x).part);
        again = followed_again c f g p.part (λ x. (q x).part);
        clean = λ x fits.
            let both_fit = and_parts (f.fits x.0) ((g x.0).fits x.1) fits in
            both_clean c (f.spell x.0) ((g x.0).spell x.1) (p.part.clean x.0 both_fit.0) ((q x.0).part.clean x.1 both_fit.1);
        stops = followed_stops c f g p.part (λ x. (q x).part);
        reaches = followed_reaches c f g p.part q;
      };
      some = ((p.some.0, (q p.some.0).some.0), and_from _ _ p.some.1 (q p.some.0).some.1);
    }

pub both-IsForm : {A B : Type 0} (c : ℕ) (f : Form A) (g : Form B) → IsForm c f → IsForm c g → IsForm c (both f g)
both-IsForm c f g p q = followed-IsForm c f (λ a. g) p (λ a. q)

-- ---- other types of values

via_where-IsPart : {A B : Type 0} (c : ℕ) (to : B → A) (from : A → B) (ok : A → Bool) (f : Form B) → ((b : B) → f.fits b ≡ true → from (to b) ≡ b) → ((b : B) → f.fits b ≡ true → ok (to b) ≡ true) → ((a : A) → ok a ≡ true → to (from a) ≡ a) → IsPart c f → IsPart c (via_where to from ok f)
via_where-IsPart {A} {B} c to from ok f back made forth p =
    record {
      takes = λ ws x rest e.
          let b = bound (f.read ws) (λ b. Ok (to b.0, b.1)) (x, rest) e in
          let t = p.takes ws b.0.0 b.0.1 b.1 in
          let At : B → Type 0 = λ y. (ws ≡ f.spell y ++ b.0.1) × (f.fits y ≡ true) in
          let u = subst At (sym (back b.0.0 t.1)) t in
          carried (λ (y : A) vs. (ws ≡ f.spell (from y) ++ vs) × ((ok y && f.fits (from y)) ≡ true)) (to b.0.0) x b.0.1 rest b.2 (u.0, and_from _ _ (made b.0.0 t.1) u.1);
      again = λ x rest fits.
          let both_fit = and_parts (ok x) (f.fits (from x)) fits in
          rw (p.again (from x) rest both_fit.1) (ap (λ (y : A). done y rest) (forth x both_fit.0));
      clean = λ x fits. p.clean (from x) (and_parts (ok x) (f.fits (from x)) fits).1;
      stops = λ ws left e. stops_along f.read (via_where to from ok f).read ws left (λ vs n k. ap (into to) k) (p.stops ws left (into_failed to (f.read ws) left e));
      reaches = λ ws left e lt.
          let r = p.reaches ws left (into_failed to (f.read ws) left e) lt in
          let same = back r.value r.fits in
          record {
            front = r.front;
            back = r.back;
            parts = r.parts;
            many = r.many;
            value = to r.value;
            fits = and_from _ _ (made r.value r.fits) (ap f.fits same ∙ r.fits);
            more = r.more;
            goes_on = ap f.spell same ∙ r.goes_on;
          };
    }

pub via_where-IsForm : {A B : Type 0} (c : ℕ) (to : B → A) (from : A → B) (ok : A → Bool) (f : Form B) → ((b : B) → f.fits b ≡ true → from (to b) ≡ b) → ((b : B) → f.fits b ≡ true → ok (to b) ≡ true) → ((a : A) → ok a ≡ true → to (from a) ≡ a) → IsForm c f → IsForm c (via_where to from ok f)
via_where-IsForm c to from ok f back made forth p =
    record {
      part = via_where-IsPart c to from ok f back made forth p.part;
      some = (to p.some.0, and_from _ _ (made p.some.0 p.some.1) (ap f.fits (back p.some.0 p.some.1) ∙ p.some.1));
    }

-- `via` is `via_where` with a test that every value passes
pub via-IsForm : {A B : Type 0} (c : ℕ) (to : B → A) (from : A → B) (f : Form B) → ((b : B) → f.fits b ≡ true → from (to b) ≡ b) → ((a : A) → to (from a) ≡ a) → IsForm c f → IsForm c (via to from f)
via-IsForm c to from f back forth p =
    via_where-IsForm c to from (λ a. true) f back (λ b fits. refl) (λ a e. forth a) p

pub spelled_as-IsForm : {A : Type 0} (c : ℕ) (spell : A → List Word) (f : Form A) → ((x : A) → f.fits x ≡ true → f.spell x ≡ spell x) → IsForm c f → IsForm c (spelled_as spell f)
spelled_as-IsForm {A} c spell f same p =
    record {
      part = record {
        takes = λ ws x rest e.
            let t = p.part.takes ws x rest e in
            (t.0 ∙ ap (λ (v : List Word). v ++ rest) (same x t.1), t.1);
        again = λ x rest fits. ap (λ (v : List Word). f.read (v ++ rest)) (sym (same x fits)) ∙ p.part.again x rest fits;
        clean = λ x fits. subst (λ (v : List Word). are_clean c v ≡ true) (same x fits) (p.part.clean x fits);
        stops = p.part.stops;
        reaches = λ ws left e lt.
            let r = p.part.reaches ws left e lt in
            record {
              front = r.front;
              back = r.back;
              parts = r.parts;
              many = r.many;
              value = r.value;
              fits = r.fits;
              more = r.more;
              goes_on = sym (same r.value r.fits) ∙ r.goes_on;
            };
      };
      some = p.some;
    }

pub nothing-IsForm : (c : ℕ) → IsForm c nothing
nothing-IsForm c =
    record {
      part = record {
        takes = λ ws x rest e. ((same_done tt x ws rest e).1, refl);
        again = λ x rest fits. refl;
        clean = λ x fits. refl;
        stops = λ ws left e. absurd cc;
        reaches = λ ws left e lt. absurd cc;
      };
      some = (tt, refl);
    }

-- a form that may not be used
closed-IsPart : {A : Type 0} (c : ℕ) (f : Form A) → IsPart c (allowed false f)
closed-IsPart c f =
    record {
      takes = λ ws x rest e. absurd cc;
      again = λ x rest fits. absurd cc;
      clean = λ x fits. absurd cc;
      stops = λ ws left e. never_stops (allowed false f).read ws left (λ vs. refl) e;
      reaches = λ ws left e lt. absurd (omega (arith, stops_at_once (allowed false f).read ws left (λ vs. refl) e));
    }

pub allowed-IsPart : {A : Type 0} (c : ℕ) (b : Bool) (f : Form A) → (b ≡ true → IsPart c f) → IsPart c (allowed b f)
allowed-IsPart c true f p =
    record {
      takes = (p refl).takes;
      again = (p refl).again;
      clean = (p refl).clean;
      stops = (p refl).stops;
      reaches = (p refl).reaches;
    }
allowed-IsPart c false f p = closed-IsPart c f

-- ---- names

pub same_word : (name : Word) → bytes_eq name name ≡ true
same_word name = (bytes_eq-Decides name name).1 refl

if_named : {X : Type 0} (b : Bool) (x y z : X) → cond b x y ≡ z → ((b ≡ true) × (x ≡ z)) ⊎ ((b ≡ false) × (y ≡ z))
if_named true x y z e = inl (refl, e)
if_named false x y z e = inr (refl, e)

after_takes : {A : Type 0} (c : ℕ) (name : Word) (f : Form A) → IsPart c f → (ws : List Word) (x : A) (rest : List Word) → after_name name f.read ws ≡ Ok (x, rest) → (ws ≡ (name ∷ f.spell x) ++ rest) × (f.fits x ≡ true)
after_takes c name f p [] x rest e = absurd cc
after_takes c name f p (w ∷ ws) x rest e =
    elim (if_named (bytes_eq w name) (f.read ws) (Err (suc (length ws))) (Ok (x, rest)) e) [
      | inl h ↦
          let t = p.takes ws x rest h.1 in
          (ap (λ v. v ∷ ws) ((bytes_eq-Decides w name).0 h.0) ∙ ap (λ vs. name ∷ vs) t.0, t.1)
      | inr h ↦ absurd cc
    ]

after_stops : {A : Type 0} (c : ℕ) (name : Word) (f : Form A) → IsPart c f → (ws : List Word) (left : ℕ) → after_name name f.read ws ≡ Err left → Stops (after_name name f.read) ws left
after_stops {A} c name f p [] left e =
    let At : ℕ → Type 0 = λ n. Stops (after_name name f.read) [] n in
    subst At (same_failed {A = A × List Word} 0 left e) tt
after_stops {A} c name f p (w ∷ ws) left e =
    elim (if_named (bytes_eq w name) (f.read ws) (Err (suc (length ws))) (Err left) e) [
      | inl h ↦ stops_after f.read (after_name name f.read) (w ∷ []) (w ∷ ws) ws left refl (λ vs n k. rw (h.0, k) refl) (p.stops ws left h.1)
      | inr h ↦ first_wrong (after_name name f.read) w ws left (λ more. rw h.0 refl) (same_failed {A = A × List Word} (suc (length ws)) left h.1)
    ]

-- a word that is right, and words behind it
reached_after : {A B : Type 0} (f : Form A) (g : Form B) (to : A → B) (w : Word) (ws : List Word) (left : ℕ) → Has f → ((x : A) → f.fits x ≡ true → g.fits (to x) ≡ true) → ((x : A) → g.spell (to x) ≡ w ∷ f.spell x) → left ≤ length ws → (left < length ws → Reached f ws left) → Reached g (w ∷ ws) left
reached_after f g to w ws left some fits spells within reaches =
    elim (cases_lt left (length ws)) [
      | inl less ↦
          let r = reaches less in
          record {
            front = w ∷ r.front;
            back = r.back;
            parts = ap (λ v. w ∷ v) r.parts;
            many = r.many;
            value = to r.value;
            fits = fits r.value r.fits;
            more = r.more;
            goes_on = spells r.value ∙ ap (λ v. w ∷ v) r.goes_on;
          }
      | inr all ↦
          record {
            front = w ∷ [];
            back = ws;
            parts = refl;
            many = omega arith;
            value = to some.0;
            fits = fits some.0 some.1;
            more = f.spell some.0;
            goes_on = spells some.0;
          }
    ]

after_reaches : {A : Type 0} (c : ℕ) (name : Word) (f : Form A) → IsForm c f → (ws : List Word) (left : ℕ) → after_name name f.read ws ≡ Err left → left < length ws → Reached (after name f) ws left
after_reaches c name f p [] left e lt = absurd (omega arith)
after_reaches {A} c name f p (w ∷ ws) left e lt =
    elim (if_named (bytes_eq w name) (f.read ws) (Err (suc (length ws))) (Err left) e) [
      | inl h ↦
          let same = (bytes_eq-Decides w name).0 h.0 in
          reached_after f (after name f) (λ x. x) w ws left p.some (λ x fits. fits) (λ x. ap (λ v. v ∷ f.spell x) (sym same))
          (left_within f.read ws left (p.part.stops ws left h.1)) (λ less. p.part.reaches ws left h.1 less)
      | inr h ↦ absurd (omega (arith, same_failed {A = A × List Word} (suc (length ws)) left h.1))
    ]

pub after-IsForm : {A : Type 0} (c : ℕ) (name : Word) (f : Form A) → lacks c name ≡ true → IsForm c f → IsForm c (after name f)
after-IsForm c name f lacking p =
    record {
      part = record {
        takes = after_takes c name f p.part;
        again = λ x rest fits. rw (same_word name) (p.part.again x rest fits);
        clean = λ x fits. and_from _ _ lacking (p.part.clean x fits);
        stops = after_stops c name f p.part;
        reaches = after_reaches c name f p;
      };
      some = p.some;
    }

left_is : {A B : Type 0} (r : Result (A × List Word) ℕ) (s : A ⊎ B) (rest : List Word) → on_left r ≡ Ok (s, rest) → (x : A) × (r ≡ Ok (x, rest)) × (inl x ≡ s)
left_is (Ok x) s rest e = let d = same_done (inl x.0) s x.1 rest e in (x.0, ap (λ ws. Ok (x.0, ws)) d.1, d.0)
left_is (Err n) s rest e = absurd cc

right_is : {A B : Type 0} (r : Result (B × List Word) ℕ) (s : A ⊎ B) (rest : List Word) → on_right r ≡ Ok (s, rest) → (y : B) × (r ≡ Ok (y, rest)) × (inr y ≡ s)
right_is (Ok y) s rest e = let d = same_done (inr y.0) s y.1 rest e in (y.0, ap (λ ws. Ok (y.0, ws)) d.1, d.0)
right_is (Err n) s rest e = absurd cc

left_failed : {A B : Type 0} (r : Result (A × List Word) ℕ) (left : ℕ) → on_left {B = B} r ≡ Err left → r ≡ Err left
left_failed (Ok x) left e = absurd cc
left_failed {A} {B} (Err n) left e = ap failed (same_failed {A = (A ⊎ B) × List Word} n left e)

right_failed : {A B : Type 0} (r : Result (B × List Word) ℕ) (left : ℕ) → on_right {A = A} r ≡ Err left → r ≡ Err left
right_failed (Ok y) left e = absurd cc
right_failed {A} {B} (Err n) left e = ap failed (same_failed {A = (A ⊎ B) × List Word} n left e)

named_takes : {A B : Type 0} (c : ℕ) (name : Word) (f : Form A) (g : Form B) → IsPart c f → IsPart c g → (ws : List Word) (s : A ⊎ B) (rest : List Word) → read_named name f g ws ≡ Ok (s, rest) → (ws ≡ (named name f g).spell s ++ rest) × ((named name f g).fits s ≡ true)
named_takes c name f g p q [] s rest e = absurd cc
named_takes {A} {B} c name f g p q (w ∷ ws) s rest e =
    let At : A ⊎ B → Type 0 = λ t. ((w ∷ ws) ≡ (named name f g).spell t ++ rest) × ((named name f g).fits t ≡ true) in
    elim (if_named (bytes_eq w name) (on_left (f.read ws)) (on_right (g.read (w ∷ ws))) (Ok (s, rest)) e) [
      | inl h ↦
          let x = left_is (f.read ws) s rest h.1 in
          let t = p.takes ws x.0 rest x.1 in
          subst At x.2 (ap (λ v. v ∷ ws) ((bytes_eq-Decides w name).0 h.0) ∙ ap (λ vs. name ∷ vs) t.0, t.1)
      | inr h ↦
          let y = right_is (g.read (w ∷ ws)) s rest h.1 in
          let t = q.takes (w ∷ ws) y.0 rest y.1 in
          subst At y.2 (t.0, t.1)
    ]

named_other : {A B : Type 0} (name : Word) (f : Form A) (g : Form B) (y : B) (ws rest : List Word) → BeginsOther name ws → g.read (ws ++ rest) ≡ Ok (y, rest) → read_named name f g (ws ++ rest) ≡ Ok (inr y, rest)
named_other name f g y [] rest other e = absurd other
named_other name f g y (w ∷ ws) rest other e = rw (other, e) refl

named_again : {A B : Type 0} (c : ℕ) (name : Word) (f : Form A) (g : Form B) → IsPart c f → IsPart c g → ((y : B) → g.fits y ≡ true → BeginsOther name (g.spell y)) → (s : A ⊎ B) (rest : List Word) → (named name f g).fits s ≡ true → read_named name f g ((named name f g).spell s ++ rest) ≡ Ok (s, rest)
named_again c name f g p q other (inl x) rest fits = rw (same_word name, p.again x rest fits) refl
named_again c name f g p q other (inr y) rest fits = named_other name f g y (g.spell y) rest (other y fits) (q.again y rest fits)

named_clean : {A B : Type 0} (c : ℕ) (name : Word) (f : Form A) (g : Form B) → lacks c name ≡ true → IsPart c f → IsPart c g → (s : A ⊎ B) → (named name f g).fits s ≡ true → are_clean c ((named name f g).spell s) ≡ true
named_clean c name f g lacking p q (inl x) fits = and_from _ _ lacking (p.clean x fits)
named_clean c name f g lacking p q (inr y) fits = q.clean y fits

-- words that begin with another name are wrong where the other forms have them wrong
other_wrong : {A B : Type 0} (name : Word) (f : Form A) (g : Form B) (w : Word) (ws front : List Word) (word : Word) (rest : List Word) (n : ℕ) (more : List Word) → bytes_eq w name ≡ false → w ∷ ws ≡ front ++ word ∷ rest → g.read (front ++ word ∷ more) ≡ Err n → read_named name f g (front ++ word ∷ more) ≡ Err n
other_wrong name f g w ws [] word rest n more differs parts e =
    let first : w ≡ word = cc in
    let other : bytes_eq word name ≡ false = ap (λ v. bytes_eq v name) (sym first) ∙ differs in
    rw (other, e) refl
other_wrong name f g w ws (v ∷ vs) word rest n more differs parts e =
    let first : w ≡ v = cc in
    let other : bytes_eq v name ≡ false = ap (λ u. bytes_eq u name) (sym first) ∙ differs in
    rw (other, e) refl

other_stops : {A B : Type 0} (name : Word) (f : Form A) (g : Form B) (w : Word) (ws : List Word) (left : ℕ) → bytes_eq w name ≡ false → Stops g.read (w ∷ ws) left → Stops (read_named name f g) (w ∷ ws) left
other_stops name f g w ws zero differs s = tt
other_stops name f g w ws (suc left) differs s =
    record {
      front = s.front;
      word = s.word;
      rest = s.rest;
      parts = s.parts;
      many = s.many;
      wrong = λ more. other_wrong name f g w ws s.front s.word s.rest (suc (length more)) more differs s.parts (s.wrong more);
    }

named_stops : {A B : Type 0} (c : ℕ) (name : Word) (f : Form A) (g : Form B) → IsPart c f → IsPart c g → (ws : List Word) (left : ℕ) → read_named name f g ws ≡ Err left → Stops (read_named name f g) ws left
named_stops {A} {B} c name f g p q [] left e =
    let At : ℕ → Type 0 = λ n. Stops (read_named name f g) [] n in
    subst At (same_failed {A = (A ⊎ B) × List Word} 0 left e) tt
named_stops {A} {B} c name f g p q (w ∷ ws) left e =
    elim (if_named (bytes_eq w name) (on_left (f.read ws)) (on_right (g.read (w ∷ ws))) (Err left) e) [
      | inl h ↦ stops_after f.read (read_named name f g) (w ∷ []) (w ∷ ws) ws left refl (λ vs n k. rw (h.0, k) refl) (p.stops ws left (left_failed {B = B} (f.read ws) left h.1))
      | inr h ↦ other_stops name f g w ws left h.0 (q.stops (w ∷ ws) left (right_failed {A = A} (g.read (w ∷ ws)) left h.1))
    ]

named_reaches : {A B : Type 0} (c : ℕ) (name : Word) (f : Form A) (g : Form B) → IsForm c f → IsPart c g → (ws : List Word) (left : ℕ) → read_named name f g ws ≡ Err left → left < length ws → Reached (named name f g) ws left
named_reaches c name f g p q [] left e lt = absurd (omega arith)
named_reaches {A} {B} c name f g p q (w ∷ ws) left e lt =
    elim (if_named (bytes_eq w name) (on_left (f.read ws)) (on_right (g.read (w ∷ ws))) (Err left) e) [
      | inl h ↦
          let same = (bytes_eq-Decides w name).0 h.0 in
          let failing = left_failed {B = B} (f.read ws) left h.1 in
          reached_after f (named name f g) (λ x. inl x) w ws left p.some (λ x fits. fits) (λ x. ap (λ v. v ∷ f.spell x) (sym same))
          (left_within f.read ws left (p.part.stops ws left failing)) (λ less. p.part.reaches ws left failing less)
      | inr h ↦
          let r = q.reaches (w ∷ ws) left (right_failed {A = A} (g.read (w ∷ ws)) left h.1) lt in
          record {
            front = r.front;
            back = r.back;
            parts = r.parts;
            many = r.many;
            value = inr r.value;
            fits = r.fits;
            more = r.more;
            goes_on = r.goes_on;
          }
    ]

named-IsPart : {A B : Type 0} (c : ℕ) (name : Word) (f : Form A) (g : Form B) → lacks c name ≡ true → ((y : B) → g.fits y ≡ true → BeginsOther name (g.spell y)) → IsForm c f → IsPart c g → IsPart c (named name f g)
named-IsPart c name f g lacking other p q =
    record {
      takes = named_takes c name f g p.part q;
      again = named_again c name f g p.part q other;
      clean = named_clean c name f g lacking p.part q;
      stops = named_stops c name f g p.part q;
      reaches = named_reaches c name f g p q;
    }

-- ---- choices by name

-- the words begin with one of these names
abbrev pub begins_among : List Word → List Word → Bool
begins_among names [] = false
begins_among names (w ∷ ws) = list_any (bytes_eq w) names

abbrev pub differs_from : Word → List Word → Bool
differs_from name names = list_all (λ n. not (bytes_eq n name)) names

-- a form whose texts begin with one of these names
pub record IsChoice {A : Type 0} (c : ℕ) (names : List Word) (f : Form A) : Type 0 where
  pub part : IsPart c f
  pub begins : (x : A) → f.fits x ≡ true → begins_among names (f.spell x) ≡ true

other_name : (name w : Word) (names : List Word) → differs_from name names ≡ true → list_any (bytes_eq w) names ≡ true → bytes_eq w name ≡ false
other_name name w [] differs e = absurd cc
other_name name w (n ∷ ns) differs e =
    let p = and_parts (not (bytes_eq n name)) (differs_from name ns) differs in
    elim (or_cases (bytes_eq w n) (list_any (bytes_eq w) ns) e) [
      | inl same ↦
          let At : Word → Type 0 = λ v. bytes_eq v name ≡ false in
          subst At (sym ((bytes_eq-Decides w n).0 same)) (not-true (bytes_eq n name) p.0)
      | inr more ↦ other_name name w ns p.1 more
    ]

begins_other : (name : Word) (names ws : List Word) → differs_from name names ≡ true → begins_among names ws ≡ true → BeginsOther name ws
begins_other name names [] differs e = absurd cc
begins_other name names (w ∷ ws) differs e = other_name name w names differs e

spelled_begins : {A B : Type 0} (c : ℕ) (name : Word) (names : List Word) (f : Form A) (g : Form B) → IsChoice c names g → (s : A ⊎ B) → (named name f g).fits s ≡ true → begins_among (name ∷ names) ((named name f g).spell s) ≡ true
spelled_begins c name names f g p (inl x) fits = rw (same_word name) refl
spelled_begins c name names f g p (inr y) fits = more_names name names (g.spell y) (p.begins y fits)
  where
    more_names : (name : Word) (names ws : List Word) → begins_among names ws ≡ true → begins_among (name ∷ names) ws ≡ true
    more_names name names [] e = absurd cc
    more_names name names (w ∷ ws) e = or_right (bytes_eq w name) (list_any (bytes_eq w) names) e

-- one more name, which differs from the others
pub named-IsChoice : {A B : Type 0} (c : ℕ) (name : Word) (names : List Word) (f : Form A) (g : Form B) → lacks c name ≡ true → differs_from name names ≡ true → IsForm c f → IsChoice c names g → IsChoice c (name ∷ names) (named name f g)
named-IsChoice c name names f g lacking differs p q =
    record {
      part = named-IsPart c name f g lacking (λ y fits. begins_other name names (g.spell y) differs (q.begins y fits)) p q.part;
      begins = spelled_begins c name names f g q;
    }

pub named-IsForm : {A B : Type 0} (c : ℕ) (name : Word) (names : List Word) (f : Form A) (g : Form B) → lacks c name ≡ true → differs_from name names ≡ true → IsForm c f → IsChoice c names g → IsForm c (named name f g)
named-IsForm c name names f g lacking differs p q =
    record {
      part = (named-IsChoice c name names f g lacking differs p q).part;
      some = (inl p.some.0, p.some.1);
    }

pub after-IsChoice : {A : Type 0} (c : ℕ) (name : Word) (f : Form A) → lacks c name ≡ true → IsForm c f → IsChoice c (name ∷ []) (after name f)
after-IsChoice c name f lacking p =
    record { part = (after-IsForm c name f lacking p).part; begins = λ x fits. rw (same_word name) refl }

pub allowed-IsChoice : {A : Type 0} (c : ℕ) (names : List Word) (b : Bool) (f : Form A) → (b ≡ true → IsChoice c names f) → IsChoice c names (allowed b f)
allowed-IsChoice c names b f p =
    record {
      part = allowed-IsPart c b f (λ e. (p e).part);
      begins = λ x fits. let both_fit = and_parts b (f.fits x) fits in (p both_fit.0).begins x both_fit.1;
    }

-- ---- one form or the other

left-IsForm : {A B : Type 0} (c : ℕ) (f : Form A) (g : Form B) → IsForm c f → IsForm c (either true f g)
left-IsForm {A} {B} c f g p =
    record {
      part = record {
        takes = λ ws s rest e.
            let At : A ⊎ B → Type 0 = λ t. (ws ≡ (either true f g).spell t ++ rest) × ((either true f g).fits t ≡ true) in
            let x = left_is (f.read ws) s rest e in
            subst At x.2 (p.part.takes ws x.0 rest x.1);
        again = left_again c f g p.part;
        clean = left_clean c f g p.part;
        stops = λ ws left e. stops_along f.read (either true f g).read ws left (λ vs n k. rw k refl) (p.part.stops ws left (left_failed {B = B} (f.read ws) left e));
        reaches = λ ws left e lt.
            let r = p.part.reaches ws left (left_failed {B = B} (f.read ws) left e) lt in
            record {
              front = r.front;
              back = r.back;
              parts = r.parts;
              many = r.many;
              value = inl r.value;
              fits = r.fits;
              more = r.more;
              goes_on = r.goes_on;
            };
      };
      some = (inl p.some.0, p.some.1);
    }
  where
    left_again : {A B : Type 0} (c : ℕ) (f : Form A) (g : Form B) → IsPart c f → (s : A ⊎ B) (rest : List Word) → (either true f g).fits s ≡ true → (either true f g).read ((either true f g).spell s ++ rest) ≡ Ok (s, rest)
    left_again c f g p (inl x) rest fits = rw (p.again x rest fits) refl
    left_again c f g p (inr y) rest fits = absurd cc

    left_clean : {A B : Type 0} (c : ℕ) (f : Form A) (g : Form B) → IsPart c f → (s : A ⊎ B) → (either true f g).fits s ≡ true → are_clean c ((either true f g).spell s) ≡ true
    left_clean c f g p (inl x) fits = p.clean x fits
    left_clean c f g p (inr y) fits = absurd cc

right-IsForm : {A B : Type 0} (c : ℕ) (f : Form A) (g : Form B) → IsForm c g → IsForm c (either false f g)
right-IsForm {A} {B} c f g q =
    record {
      part = record {
        takes = λ ws s rest e.
            let At : A ⊎ B → Type 0 = λ t. (ws ≡ (either false f g).spell t ++ rest) × ((either false f g).fits t ≡ true) in
            let y = right_is (g.read ws) s rest e in
            subst At y.2 (q.part.takes ws y.0 rest y.1);
        again = right_again c f g q.part;
        clean = right_clean c f g q.part;
        stops = λ ws left e. stops_along g.read (either false f g).read ws left (λ vs n k. rw k refl) (q.part.stops ws left (right_failed {A = A} (g.read ws) left e));
        reaches = λ ws left e lt.
            let r = q.part.reaches ws left (right_failed {A = A} (g.read ws) left e) lt in
            record {
              front = r.front;
              back = r.back;
              parts = r.parts;
              many = r.many;
              value = inr r.value;
              fits = r.fits;
              more = r.more;
              goes_on = r.goes_on;
            };
      };
      some = (inr q.some.0, q.some.1);
    }
  where
    right_again : {A B : Type 0} (c : ℕ) (f : Form A) (g : Form B) → IsPart c g → (s : A ⊎ B) (rest : List Word) → (either false f g).fits s ≡ true → (either false f g).read ((either false f g).spell s ++ rest) ≡ Ok (s, rest)
    right_again c f g q (inl x) rest fits = absurd cc
    right_again c f g q (inr y) rest fits = rw (q.again y rest fits) refl

    right_clean : {A B : Type 0} (c : ℕ) (f : Form A) (g : Form B) → IsPart c g → (s : A ⊎ B) → (either false f g).fits s ≡ true → are_clean c ((either false f g).spell s) ≡ true
    right_clean c f g q (inl x) fits = absurd cc
    right_clean c f g q (inr y) fits = q.clean y fits

pub either-IsForm : {A B : Type 0} (c : ℕ) (b : Bool) (f : Form A) (g : Form B) → IsForm c f → IsForm c g → IsForm c (either b f g)
either-IsForm c true f g p q = left-IsForm c f g p
either-IsForm c false f g p q = right-IsForm c f g q

-- ---- lists

several_takes : {A : Type 0} (c : ℕ) (f : Form A) → IsPart c f → (n : ℕ) (ws : List Word) (xs : List A) (rest : List Word) → read_several f.read n ws ≡ Ok (xs, rest) → (ws ≡ flat_map f.spell xs ++ rest) × (list_all f.fits xs ≡ true) × (length xs ≡ n)
unfolding read_several
several_takes {A} c f p zero ws xs rest e =
    carried (λ (ys : List A) vs. (ws ≡ flat_map f.spell ys ++ vs) × (list_all f.fits ys ≡ true) × (length ys ≡ 0)) [] xs ws rest e (refl, refl, refl)
several_takes {A} c f p (suc n) ws xs rest e =
    let a = bound (f.read ws) (λ a. read_several f.read n a.1 >>= λ b. Ok (a.0 ∷ b.0, b.1)) (xs, rest) e in
    let b = bound (read_several f.read n a.0.1) (λ b. Ok (a.0.0 ∷ b.0, b.1)) (xs, rest) a.2 in
    let t = p.takes ws a.0.0 a.0.1 a.1 in
    let u = several_takes c f p n a.0.1 b.0.0 b.0.1 b.1 in
    let joined : ws ≡ (f.spell a.0.0 ++ flat_map f.spell b.0.0) ++ b.0.1 = t.0 ∙ ap (λ (v : List Word). f.spell a.0.0 ++ v) u.0 ∙ sym (append_assoc (f.spell a.0.0) (flat_map f.spell b.0.0) b.0.1) in
    let whole_list : ws ≡ flat_map f.spell (a.0.0 ∷ b.0.0) ++ b.0.1 = rw flat_map-cons joined in
    carried (λ (ys : List A) vs. (ws ≡ flat_map f.spell ys ++ vs) × (list_all f.fits ys ≡ true) × (length ys ≡ suc n)) (a.0.0 ∷ b.0.0) xs b.0.1 rest b.2 (whole_list, and_from _ _ t.1 u.1, ap suc u.2)

several_again : {A : Type 0} (c : ℕ) (f : Form A) → IsPart c f → (xs : List A) (rest : List Word) → list_all f.fits xs ≡ true → read_several f.read (length xs) (flat_map f.spell xs ++ rest) ≡ Ok (xs, rest)
unfolding read_several
several_again c f p [] rest fits = refl
several_again c f p (x ∷ xs) rest fits =
    let both_fit = and_parts (f.fits x) (list_all f.fits xs) fits in
    let regrouped : flat_map f.spell (x ∷ xs) ++ rest ≡ f.spell x ++ (flat_map f.spell xs ++ rest) = ap (λ (v : List Word). v ++ rest) (flat_map-cons f.spell x xs) ∙ append_assoc (f.spell x) (flat_map f.spell xs) rest in
    ap (read_several f.read (suc (length xs))) regrouped ∙ rw (p.again x (flat_map f.spell xs ++ rest) both_fit.0, several_again c f p xs rest both_fit.1) refl

several_clean : {A : Type 0} (c : ℕ) (f : Form A) → IsPart c f → (xs : List A) → list_all f.fits xs ≡ true → are_clean c (flat_map f.spell xs) ≡ true
several_clean c f p [] fits = refl
several_clean c f p (x ∷ xs) fits =
    let both_fit = and_parts (f.fits x) (list_all f.fits xs) fits in
    rw flat_map-cons (both_clean c (f.spell x) (flat_map f.spell xs) (p.clean x both_fit.0) (several_clean c f p xs both_fit.1))

several_stops : {A : Type 0} (c : ℕ) (f : Form A) → IsPart c f → (n : ℕ) (ws : List Word) (left : ℕ) → read_several f.read n ws ≡ Err left → Stops (read_several f.read n) ws left
unfolding read_several
several_stops c f p zero ws left e = absurd cc
several_stops {A} c f p (suc n) ws left e =
    elim (bound_failed (f.read ws) (λ a. read_several f.read n a.1 >>= λ b. Ok (a.0 ∷ b.0, b.1)) left e) [
      | inl h ↦ stops_along f.read (read_several f.read (suc n)) ws left (λ vs m k. rw k refl) (p.stops ws left h)
      | inr h ↦
          let x = h.0.0 in
          let t = p.takes ws x h.0.1 h.1 in
          let later = into_failed {A = List A} (λ ys. x ∷ ys) (read_several f.read n h.0.1) left h.2 in
          stops_after (read_several f.read n) (read_several f.read (suc n)) (f.spell x) ws h.0.1 left t.0
          (λ vs m k. rw (p.again x vs t.1, k) refl) (several_stops c f p n h.0.1 left later)
    ]

-- so many values that fit
abbrev pub HasSeveral : {A : Type 0} → Form A → ℕ → Type 0
HasSeveral {A} f n = (xs : List A) × (list_all f.fits xs ≡ true) × (length xs ≡ n)

several_some : {A : Type 0} (f : Form A) → Has f → (n : ℕ) → HasSeveral f n
several_some f some zero = ([], refl, refl)
several_some f some (suc n) =
    let others = several_some f some n in
    (some.0 ∷ others.0, and_from _ _ some.1 others.1, ap suc others.2)

-- the words before the first wrong one can be gone on to so many values
pub record ReachedSeveral {A : Type 0} (f : Form A) (n : ℕ) (ws : List Word) (left : ℕ) : Type 0 where
  pub front : List Word
  pub back : List Word
  pub parts : ws ≡ front ++ back
  pub many : length back ≡ left
  pub values : HasSeveral f n
  pub more : List Word
  pub goes_on : flat_map f.spell values.0 ≡ front ++ more

several_reaches : {A : Type 0} (c : ℕ) (f : Form A) → IsForm c f → (n : ℕ) (ws : List Word) (left : ℕ) → read_several f.read n ws ≡ Err left → ReachedSeveral f n ws left
unfolding read_several
several_reaches c f p zero ws left e = absurd cc
several_reaches {A} c f p (suc n) ws left e =
    let others = several_some f p.some n in
    elim (bound_failed (f.read ws) (λ a. read_several f.read n a.1 >>= λ b. Ok (a.0 ∷ b.0, b.1)) left e) [
      | inl h ↦
          elim (cases_lt left (length ws)) [
            | inl less ↦
                let r = p.part.reaches ws left h less in
                record {
                  front = r.front;
                  back = r.back;
                  parts = r.parts;
                  many = r.many;
                  values = (r.value ∷ others.0, and_from _ _ r.fits others.1, ap suc others.2);
                  more = r.more ++ flat_map f.spell others.0;
                  goes_on = flat_map-cons f.spell r.value others.0 ∙ ap (λ (v : List Word). v ++ flat_map f.spell others.0) r.goes_on ∙ append_assoc r.front r.more (flat_map f.spell others.0);
                }
            | inr all ↦
                let within = left_within f.read ws left (p.part.stops ws left h) in
                let values = several_some f p.some (suc n) in
                record {
                  front = [];
                  back = ws;
                  parts = refl;
                  many = omega arith;
                  values = values;
                  more = flat_map f.spell values.0;
                  goes_on = refl;
                }
          ]
      | inr h ↦
          let x = h.0.0 in
          let t = p.part.takes ws x h.0.1 h.1 in
          let r = several_reaches c f p n h.0.1 left (into_failed {A = List A} (λ ys. x ∷ ys) (read_several f.read n h.0.1) left h.2) in
          record {
            front = f.spell x ++ r.front;
            back = r.back;
            parts = t.0 ∙ ap (λ (v : List Word). f.spell x ++ v) r.parts ∙ sym (append_assoc (f.spell x) r.front r.back);
            many = r.many;
            values = (x ∷ r.values.0, and_from _ _ t.1 r.values.1, ap suc r.values.2);
            more = r.more;
            goes_on = flat_map-cons f.spell x r.values.0 ∙ ap (λ (v : List Word). f.spell x ++ v) r.goes_on ∙ sym (append_assoc (f.spell x) r.front r.more);
          }
    ]

-- a list of so many members fits where the number does
fits_many : {A : Type 0} (number : Form ℕ) (f : Form A) (n : ℕ) (xs : List A) → number.fits n ≡ true → list_all f.fits xs ≡ true → length xs ≡ n → (listed number f).fits xs ≡ true
fits_many number f n xs fits all many =
    let At : ℕ → Type 0 = λ k. (number.fits k && list_all f.fits xs) ≡ true in
    subst At (sym many) (and_from _ _ fits all)

listed_stops : {A : Type 0} (c : ℕ) (number : Form ℕ) (f : Form A) → IsPart c number → IsPart c f → (ws : List Word) (left : ℕ) → (listed number f).read ws ≡ Err left → Stops (listed number f).read ws left
listed_stops c number f q p ws left e =
    elim (bound_failed (number.read ws) (λ n. read_several f.read n.0 n.1) left e) [
      | inl h ↦ stops_along number.read (listed number f).read ws left (λ vs m k. rw k refl) (q.stops ws left h)
      | inr h ↦
          let n = h.0.0 in
          let t = q.takes ws n h.0.1 h.1 in
          stops_after (read_several f.read n) (listed number f).read (number.spell n) ws h.0.1 left t.0
          (λ vs m k. rw (q.again n vs t.1) k) (several_stops c f p n h.0.1 left h.2)
    ]

listed_reaches : {A : Type 0} (c : ℕ) (number : Form ℕ) (f : Form A) → IsForm c number → IsForm c f → (ws : List Word) (left : ℕ) → (listed number f).read ws ≡ Err left → left < length ws → Reached (listed number f) ws left
listed_reaches {A} c number f q p ws left e lt =
    elim (bound_failed (number.read ws) (λ n. read_several f.read n.0 n.1) left e) [
      | inl h ↦
          let r = q.part.reaches ws left h lt in
          let xs = several_some f p.some r.value in
          record {
            front = r.front;
            back = r.back;
            parts = r.parts;
            many = r.many;
            value = xs.0;
            fits = fits_many number f r.value xs.0 r.fits xs.1 xs.2;
            more = r.more ++ flat_map f.spell xs.0;
            goes_on = ap (λ (n : ℕ). number.spell n ++ flat_map f.spell xs.0) xs.2 ∙ ap (λ (v : List Word). v ++ flat_map f.spell xs.0) r.goes_on ∙ append_assoc r.front r.more (flat_map f.spell xs.0);
          }
      | inr h ↦
          let n = h.0.0 in
          let t = q.part.takes ws n h.0.1 h.1 in
          let r = several_reaches c f p n h.0.1 left h.2 in
          record {
            front = number.spell n ++ r.front;
            back = r.back;
            parts = t.0 ∙ ap (λ (v : List Word). number.spell n ++ v) r.parts ∙ sym (append_assoc (number.spell n) r.front r.back);
            many = r.many;
            value = r.values.0;
            fits = fits_many number f n r.values.0 t.1 r.values.1 r.values.2;
            more = r.more;
            goes_on = ap (λ (k : ℕ). number.spell k ++ flat_map f.spell r.values.0) r.values.2 ∙ ap (λ (v : List Word). number.spell n ++ v) r.goes_on ∙ sym (append_assoc (number.spell n) r.front r.more);
          }
    ]

listed_takes : {A : Type 0} (c : ℕ) (number : Form ℕ) (f : Form A) → IsPart c number → IsPart c f → (ws : List Word) (xs : List A) (rest : List Word) → (listed number f).read ws ≡ Ok (xs, rest) → (ws ≡ (listed number f).spell xs ++ rest) × ((listed number f).fits xs ≡ true)
listed_takes {A} c number f n p ws xs rest e =
    let a = bound (number.read ws) (λ n. read_several f.read n.0 n.1) (xs, rest) e in
    let t = n.takes ws a.0.0 a.0.1 a.1 in
    let u = several_takes c f p a.0.0 a.0.1 xs rest a.2 in
    let At : ℕ → Type 0 = λ k. (ws ≡ (number.spell k ++ flat_map f.spell xs) ++ rest) × ((number.fits k && list_all f.fits xs) ≡ true) in
    subst At (sym u.2) (t.0 ∙ ap (λ (v : List Word). number.spell a.0.0 ++ v) u.0 ∙ sym (append_assoc (number.spell a.0.0) (flat_map f.spell xs) rest), and_from _ _ t.1 u.1)

pub listed-IsForm : {A : Type 0} (c : ℕ) (number : Form ℕ) (f : Form A) → IsForm c number → IsForm c f → IsForm c (listed number f)
listed-IsForm {A} c number f n p =
    record {
      part = record {
        takes = listed_takes c number f n.part p.part;
        again = λ xs rest fits.
            let both_fit = and_parts (number.fits (length xs)) (list_all f.fits xs) fits in
            ap (listed number f).read (append_assoc (number.spell (length xs)) (flat_map f.spell xs) rest) ∙ rw (n.part.again (length xs) (flat_map f.spell xs ++ rest) both_fit.0) (several_again c f p.part xs rest both_fit.1);
        clean = λ xs fits.
            let both_fit = and_parts (number.fits (length xs)) (list_all f.fits xs) fits in
            both_clean c (number.spell (length xs)) (flat_map f.spell xs) (n.part.clean (length xs) both_fit.0) (several_clean c f p.part xs both_fit.1);
        stops = listed_stops c number f n.part p.part;
        reaches = listed_reaches c number f n p;
      };
      some =
          let xs = several_some f p.some n.some.0 in
          (xs.0, fits_many number f n.some.0 xs.0 n.some.1 xs.1 xs.2);
    }

-- the value that a word spells, if it fits
pub respelled_found : {A : Type 0} (to : A → Word) (guess : Word → A) (ok : A → Bool) (w : Word) (x : A) → guess w ≡ x → w ≡ to x → ok x ≡ true → respelled to guess ok w ≡ Some x
respelled_found {A} to guess ok w x g e fits =
    let same : bytes_eq w (to (guess w)) ≡ true = (bytes_eq-Decides _ _).1 (e ∙ ap to (sym g)) in
    rw (same, g, fits) refl

neither : {A : Type 0} (a b : Bool) (x : A) → ((a ≡ true) → (b ≡ true) → ⊥) → cond (a && b) (Some x) None ≡ None
neither true true x h = absurd (h refl refl)
neither true false x h = refl
neither false b x h = refl

pub respelled_missing : {A : Type 0} (to : A → Word) (guess : Word → A) (ok : A → Bool) (w : Word) → ((x : A) → w ≡ to x → ok x ≡ true → ⊥) → respelled to guess ok w ≡ None
respelled_missing to guess ok w none =
    neither (bytes_eq w (to (guess w))) (ok (guess w)) (guess w) (λ same fits. none (guess w) ((bytes_eq-Decides _ _).0 same) fits)
