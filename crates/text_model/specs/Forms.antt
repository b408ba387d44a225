-- Forms: how a value is spelled as words, and read again from the front of words.
use Rattle.std.specs.Prelude.{ℕ, zero, suc, Bool, true, false, ◌&&◌, not, List, [], ◌∷◌, ◌++◌, length, Option, Some, None, Result, Ok, Err, if◌then◌else◌, ◌⊎◌, bytes_eq, flat_map, ◌==◌}
use Rattle.std.specs.List.{list_all}
use mathlib.Core.Logic.{inl, inr}

abbrev pub Word : Type 0
Word = List ℕ

-- Reading gives the value and the words behind it; or how many words are left from the first wrong one on, which is 0 where
-- a word is missing. A value that fits is read again as it was spelled.
pub record Form (A : Type 0) : Type 0 where
  pub spell : A → List Word
  pub read : List Word → Result (A × List Word) ℕ
  pub fits : A → Bool

infixl 10 ◌>>=◌
abbrev pub ◌>>=◌ : {A B : Type 0} → Result A ℕ → (A → Result B ℕ) → Result B ℕ
(Ok x) >>= f = f x
(Err n) >>= f = Err n

-- a word that reads as this value, or that is wrong where it reads as none
abbrev pub taken : {A : Type 0} → Option A → List Word → Result (A × List Word) ℕ
taken (Some x) rest = Ok (x, rest)
taken None rest = Err (suc (length rest))

abbrev pub first_word : {A : Type 0} → (Word → Option A) → List Word → Result (A × List Word) ℕ
first_word of [] = Err 0
first_word of (w ∷ ws) = taken (of w) ws

-- one word
abbrev pub one_word : {A : Type 0} → (A → Word) → (Word → Option A) → (A → Bool) → Form A
one_word to of ok = record { spell = λ x. to x ∷ []; read = first_word of; fits = ok }

-- a word reads as the value that is guessed from it, where that value fits and is spelled so again
abbrev pub respelled : {A : Type 0} → (A → Word) → (Word → A) → (A → Bool) → Word → Option A
respelled to guess ok w = if bytes_eq w (to (guess w)) && ok (guess w) then Some (guess w) else None

-- a word reads as the first of these values that is spelled so
abbrev pub one_of : {A : Type 0} → (A → Word) → List A → Word → Option A
one_of to [] w = None
one_of to (x ∷ xs) w = if bytes_eq w (to x) then Some x else one_of to xs w

-- no words
abbrev pub nothing : Form (Unit {0})
nothing = record { spell = λ x. []; read = λ ws. Ok (tt, ws); fits = λ x. true }

-- a form that nothing fits
abbrev pub never : {A : Type 0} → Form A
never = record { spell = λ x. []; read = λ ws. Err (length ws); fits = λ x. false }

-- a form that is known before to be open to use or not; where it isn't, the first word is wrong
abbrev pub allowed : {A : Type 0} → Bool → Form A → Form A
allowed b f =
    record {
      spell = f.spell;
      read = λ ws. if b then f.read ws else Err (length ws);
      fits = λ x. b && f.fits x;
    }

-- a value, and then one whose form depends on it
abbrev pub followed : {A B : Type 0} → Form A → (A → Form B) → Form (A × B)
followed f g =
    record {
      spell = λ p. f.spell p.0 ++ (g p.0).spell p.1;
      read = λ ws. f.read ws >>= λ a. (g a.0).read a.1 >>= λ b. Ok ((a.0, b.0), b.1);
      fits = λ p. f.fits p.0 && (g p.0).fits p.1;
    }

-- a value, and then another
abbrev pub both : {A B : Type 0} → Form A → Form B → Form (A × B)
both f g = followed f (λ a. g)

-- what was read, as a value of another type
abbrev pub into : {A B : Type 0} → (B → A) → Result (B × List Word) ℕ → Result (A × List Word) ℕ
into to r = r >>= λ b. Ok (to b.0, b.1)

-- the same words for another type of values
abbrev pub via : {A B : Type 0} → (B → A) → (A → B) → Form B → Form A
via to from f =
    record {
      spell = λ x. f.spell (from x);
      read = λ ws. into to (f.read ws);
      fits = λ x. f.fits (from x);
    }

abbrev pub after_name : {A : Type 0} → Word → (List Word → Result (A × List Word) ℕ) → List Word → Result (A × List Word) ℕ
after_name name read [] = Err 0
after_name name read (w ∷ ws) = if bytes_eq w name then read ws else Err (suc (length ws))

-- the same words for those values of another type that pass a test
abbrev pub via_where : {A B : Type 0} → (B → A) → (A → B) → (A → Bool) → Form B → Form A
via_where to from ok f =
    record {
      spell = λ x. f.spell (from x);
      read = λ ws. into to (f.read ws);
      fits = λ x. ok x && f.fits (from x);
    }

-- the same form, whose spelling is stated by itself
abbrev pub spelled_as : {A : Type 0} → (A → List Word) → Form A → Form A
spelled_as spell f = record { spell = spell; read = f.read; fits = f.fits }

-- this word, and then a value
abbrev pub after : {A : Type 0} → Word → Form A → Form A
after name f = record { spell = λ x. name ∷ f.spell x; read = after_name name f.read; fits = f.fits }

abbrev pub spell_either : {A B : Type 0} → (A → List Word) → (B → List Word) → A ⊎ B → List Word
spell_either f g (inl x) = f x
spell_either f g (inr y) = g y

abbrev pub fits_either : {A B : Type 0} → (A → Bool) → (B → Bool) → A ⊎ B → Bool
fits_either f g (inl x) = f x
fits_either f g (inr y) = g y

abbrev pub on_left : {A B : Type 0} → Result (A × List Word) ℕ → Result ((A ⊎ B) × List Word) ℕ
on_left r = r >>= λ a. Ok (inl a.0, a.1)

abbrev pub on_right : {A B : Type 0} → Result (B × List Word) ℕ → Result ((A ⊎ B) × List Word) ℕ
on_right r = r >>= λ b. Ok (inr b.0, b.1)

abbrev pub read_named : {A B : Type 0} → Word → Form A → Form B → List Word → Result ((A ⊎ B) × List Word) ℕ
read_named name f g [] = Err 0
read_named name f g (w ∷ ws) = if bytes_eq w name then on_left (f.read ws) else on_right (g.read (w ∷ ws))

-- this word and then a value, or else another form, which does not begin with this word
abbrev pub named : {A B : Type 0} → Word → Form A → Form B → Form (A ⊎ B)
named name f g =
    record {
      spell = spell_either (λ x. name ∷ f.spell x) g.spell;
      read = read_named name f g;
      fits = fits_either f.fits g.fits;
    }

-- the one form or the other, by a test that is known before
abbrev pub either : {A B : Type 0} → Bool → Form A → Form B → Form (A ⊎ B)
either b f g =
    record {
      spell = spell_either f.spell g.spell;
      read = λ ws. if b then on_left (f.read ws) else on_right (g.read ws);
      fits = fits_either (λ x. b && f.fits x) (λ y. not b && g.fits y);
    }

-- so many values, one after the other
unfoldable pub read_several : {A : Type 0} → (List Word → Result (A × List Word) ℕ) → ℕ → List Word → Result (List A × List Word) ℕ
read_several read zero ws = Ok ([], ws)
read_several read (suc n) ws = read ws >>= λ a. read_several read n a.1 >>= λ b. Ok (a.0 ∷ b.0, b.1)

-- the number of values, and then the values
abbrev pub listed : {A : Type 0} → Form ℕ → Form A → Form (List A)
listed number f =
    record {
      spell = λ xs. number.spell (length xs) ++ flat_map f.spell xs;
      read = λ ws. number.read ws >>= λ n. read_several f.read n.0 n.1;
      fits = λ xs. number.fits (length xs) && list_all f.fits xs;
    }

-- all of the words
abbrev pub ended : {A : Type 0} → A × List Word → Result A ℕ
ended p = if length p.1 == 0 then Ok p.0 else Err (length p.1)

abbrev pub whole : {A : Type 0} → Form A → List Word → Result A ℕ
whole f ws = f.read ws >>= ended
