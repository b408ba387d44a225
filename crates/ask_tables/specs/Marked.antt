-- How the rows by number and the numbers by mark stand together.
use Rattle.std.specs.Prelude.{ℕ, ◌≡◌, List, Some, None}
use Rattle.std.specs.Option.{option_map}
use Rattle.numbered_rows.specs.Numbered.{Numbered, at}
use Rattle.proxy_model.specs.Keyed.{Keyed}
use Rattle.proxy_model.specs.Keyed as keyed
use Rattle.read_model.specs.declared.asked.Asked.{Asked}
use Rattle.ask_tables.specs.declared.tables.Tables.{Tables}
use Rattle.ask_tables.specs.declared.row_marks.RowMarks.{RowMarks}
use Rattle.ask_tables.specs.KeyMarks.{by_key, ticket_mark}
use Rattle.ask_tables.specs.Marks.{mark_of}
use Rattle.ask_tables.specs.RowMarks.{row_mark, by_group, by_time}

-- each row stands under the mark that is made of its number and its request
pub record Placed (g : ℕ → Asked → List ℕ) (rows : Numbered Asked) (marks : Keyed ℕ) : Type 0 where
  -- a row is found by its mark
  pub found : (n : ℕ) (a : Asked) → at rows n ≡ Some a → keyed.at marks (g n a) ≡ Some n
  -- a mark has its row
  pub kept : (k : List ℕ) (n : ℕ) → keyed.at marks k ≡ Some n → option_map (g n) (at rows n) ≡ Some k

pub record Marked (rows : Numbered Asked) (tables : Tables) : Type 0 where
  pub waits : Placed (λ n. mark_of) rows tables.waits
  pub keys : Placed (λ n. ticket_mark by_key) rows tables.keys
  pub groups : Placed (row_mark by_group) rows tables.groups
  pub times : Placed (row_mark by_time) rows tables.times
  -- no ticket has two rows
  pub alone : (m n : ℕ) (a b : Asked) → at rows m ≡ Some a → at rows n ≡ Some b → a.ticket ≡ b.ticket → m ≡ n

-- the number stands at each of the marks
pub record HasRow (m : RowMarks) (number : ℕ) (t : Tables) : Type 0 where
  pub waits : keyed.at t.waits m.wait ≡ Some number
  pub keys : keyed.at t.keys m.key ≡ Some number
  pub groups : keyed.at t.groups m.group ≡ Some number
  pub times : keyed.at t.times m.time ≡ Some number

-- nothing stands at any of the marks
pub record IsFree (m : RowMarks) (t : Tables) : Type 0 where
  pub waits : keyed.at t.waits m.wait ≡ None
  pub keys : keyed.at t.keys m.key ≡ None
  pub groups : keyed.at t.groups m.group ≡ None
  pub times : keyed.at t.times m.time ≡ None
