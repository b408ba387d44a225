-- Texts: words in a row, with one separating byte between each two, such as a space.
use Rattle.std.specs.Prelude.{◌≡◌, ℕ, ◌+◌, ◌-◌, ◌<◌, ◌≤◌, true, ◌==◌, take, List, [], ◌∷◌, ◌++◌, length, Option, Some, None, Result, Ok, Err}
use Rattle.std.specs.List.{slice_split, join_with_byte}
use Rattle.text_model.specs.Forms.{Word, Form, ◌>>=◌, whole}

-- the words of a text
abbrev pub words : ℕ → List ℕ → List Word
words separator bytes = slice_split (λ b. b == separator) bytes

abbrev pub text : {A : Type 0} → ℕ → Form A → A → List ℕ
text separator f x = join_with_byte separator (f.spell x)

-- the place, from 1, of the first of so many words that is wrong, missing or too many
abbrev pub placed : {A : Type 0} → ℕ → Result A ℕ → Result A ℕ
placed total (Ok x) = Ok x
placed total (Err left) = Err (total + 1 - left)

-- the value of which this is the text, or the place of the first word that is wrong, missing or too many
abbrev pub text_at : {A : Type 0} → ℕ → Form A → List ℕ → Result A ℕ
text_at separator f bytes = placed (length (words separator bytes)) (whole f (words separator bytes))

-- the words of some value begin with these
abbrev pub Begins : {A : Type 0} → Form A → List Word → Type 0
Begins {A} f front = (x : A) × (f.fits x ≡ true) × (more : List Word) × (f.spell x ≡ front ++ more)

-- The place, from 1, of the first word after which no text can follow. It is one behind the last word where all the words
-- can be gone on to a text and are none themselves.
pub record IsFirstWrong {A : Type 0} (f : Form A) (ws : List Word) (place : ℕ) : Type 0 where
  pub within : (1 ≤ place) × (place ≤ length ws + 1)
  pub before : Begins f (take (place - 1) ws)
  pub wrong : place ≤ length ws → Begins f (take place ws) → ⊥
  pub missing : length ws < place → (x : A) → f.fits x ≡ true → f.spell x ≡ ws → ⊥

-- a text as one word
abbrev pub if_read : {A : Type 0} → Result A ℕ → Option A
if_read (Ok x) = Some x
if_read (Err n) = None

abbrev pub text_word : {A : Type 0} → ℕ → Form A → Word → Option A
text_word separator f w = if_read (whole f (words separator w))

-- words as they are written one after the other, each with the separator behind it
abbrev pub written : ℕ → List Word → List ℕ
written separator [] = []
written separator (w ∷ ws) = w ++ separator ∷ written separator ws
