-- Each line and each item has exactly one text, and is read from it.
use Rattle.std.specs.Prelude.{◌≡◌, ℕ, true, List, Ok, Err}
use Rattle.text_model.specs.Texts.{words, IsFirstWrong}
use Rattle.script_text.specs.declared.line.Line.{Line}
use Rattle.script_text.specs.declared.item.Item.{Item}
use Rattle.script_text.specs.Lines.{space, line_form, line_text, line_at, is_line}
use Rattle.script_text.specs.Items.{item_form, item_text, item_at, is_item}

-- a line is read from its text
abbrev pub LinesAreReadBack : Type 0
LinesAreReadBack = (n : ℕ) (l : Line) → is_line n l ≡ true → line_at n (line_text l) ≡ Ok l

-- a line is read from no other text
abbrev pub LinesHaveOneText : Type 0
LinesHaveOneText = (n : ℕ) (bytes : List ℕ) (l : Line) → line_at n bytes ≡ Ok l → (bytes ≡ line_text l) × (is_line n l ≡ true)

-- two lines with one text are one
abbrev pub TextsOfLinesDiffer : Type 0
TextsOfLinesDiffer =
    (n : ℕ) (l m : Line) → is_line n l ≡ true → is_line n m ≡ true → line_text l ≡ line_text m → l ≡ m

abbrev pub ItemsAreReadBack : Type 0
ItemsAreReadBack = (i : Item) → is_item i ≡ true → item_at (item_text i) ≡ Ok i

abbrev pub ItemsHaveOneText : Type 0
ItemsHaveOneText = (bytes : List ℕ) (i : Item) → item_at bytes ≡ Ok i → (bytes ≡ item_text i) × (is_item i ≡ true)

abbrev pub TextsOfItemsDiffer : Type 0
TextsOfItemsDiffer = (i j : Item) → is_item i ≡ true → is_item j ≡ true → item_text i ≡ item_text j → i ≡ j

-- the place of a fault is that of the first word after which no text can follow
abbrev pub LinesPlaceTheFirstWrongWord : Type 0
LinesPlaceTheFirstWrongWord =
    (n : ℕ) (bytes : List ℕ) (place : ℕ) → line_at n bytes ≡ Err place → IsFirstWrong (line_form n) (words space bytes) place

abbrev pub ItemsPlaceTheFirstWrongWord : Type 0
ItemsPlaceTheFirstWrongWord =
    (bytes : List ℕ) (place : ℕ) → item_at bytes ≡ Err place → IsFirstWrong item_form (words space bytes) place
