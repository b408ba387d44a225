-- How the rows by number and the index by ticket stand together.
use Rattle.std.specs.Prelude.{ℕ, ◌≡◌, ◌<◌, IsTrue, length, map, true, Some}
use Rattle.std.specs.Option.{option_map}
use Rattle.numbered_rows.specs.Numbered.{Numbered, at, is_in_order}
use Rattle.numbered_rows.specs.Places.{IsPlace}
use Rattle.read_model.specs.declared.asked.Asked.{Asked}
use Rattle.ask_tables.specs.declared.tables.Tables.{Tables}
use Rattle.known_asks.specs.Alike.{all_narrow}
use Rattle.ask_tables.specs.Marked.{Marked}

pub record Indexed (rows : Numbered Asked) (index : Numbered ℕ) : Type 0 where
  pub rows_rise : IsTrue (is_in_order rows)
  pub index_rises : IsTrue (is_in_order index)
  -- a row is found by its ticket
  pub found : (n : ℕ) (a : Asked) → at rows n ≡ Some a → at index a.ticket ≡ Some n
  -- a ticket of the index has its row
  pub kept : (t n : ℕ) → at index t ≡ Some n → option_map (λ a. a.ticket) (at rows n) ≡ Some t

pub record Fits (rows : Numbered Asked) (index : Numbered ℕ) (next : ℕ) : Type 0 where
  pub indexed : Indexed rows index
  -- a new row gets a number above all
  pub below : (n : ℕ) (a : Asked) → at rows n ≡ Some a → n < next

-- Where the index has the ticket, and the rows its number.
pub record IsAt (rows : Numbered Asked) (index : Numbered ℕ) (ticket at_index at_row : ℕ) : Type 0 where
  pub number : ℕ
  pub is : at index ticket ≡ Some number
  pub in_index : IsPlace index ticket at_index
  pub in_rows : IsPlace rows number at_row
  pub index_bound : at_index < length index
  pub rows_bound : at_row < length rows

pub record IsKept (rows : Numbered Asked) (index : Numbered ℕ) (tables : Tables) (next : ℕ) : Type 0 where
  pub fits : Fits rows index next
  -- each is found by its marks
  pub marked : Marked rows tables
  pub narrow : all_narrow (map (λ r. r.1) rows) ≡ true
