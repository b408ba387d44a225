-- The streams' numbers in the order of the digests of their ranges. A digest is any number that a range gives; streams whose ranges
-- share one are told apart by the ranges themselves.
use Rattle.std.specs.Prelude.{ℕ, suc, ◌+◌, ◌*◌, ◌%◌, ◌≡◌, ◌≤◌, Bool, true, not, ◌&&◌, ◌==◌, nat_lt, nat_le, if◌then◌else◌, List, [], ◌∷◌, map, filter, length, Option, None, Some}
use Rattle.etcd_types.specs.declared.key_range.KeyRange.{KeyRange}
use Rattle.watch_model.specs.State.{Stream}
use Rattle.watch_model.specs.Lookups.{same_range, stream_at, numbered}
use Rattle.watch_model.specs.Joining.{is_joinable, better}
use Rattle.watch_streams.specs.declared.rows.Row.{Row}
use Rattle.watch_streams.specs.declared.index.RangeIndex.{RangeIndex}

abbrev pub mixed : ℕ → List ℕ → ℕ
mixed from [] = from
mixed from (b ∷ bs) = mixed ((from * 257 + b + 1) % 4294967291) bs

unfoldable pub digest : KeyRange → ℕ
digest range = mixed (mixed 0 range.key) range.end

-- Rows whose digests don't fall.

abbrev pub rising : ℕ → List Row → Bool
rising low [] = true
rising low (r ∷ rs) = nat_le low r.digest && rising r.digest rs

-- how many stand before the limit
abbrev pub before : ℕ → List Row → ℕ
before limit [] = 0
before limit (r ∷ rs) = if nat_lt r.digest limit then suc (before limit rs) else 0

-- behind those of its digest
abbrev pub with_row : Row → List Row → List Row
with_row row [] = row ∷ []
with_row row (r ∷ rs) = if nat_lt r.digest (row.digest + 1) then r ∷ with_row row rs else row ∷ r ∷ rs

abbrev pub is_other_row : ℕ → Row → Bool
is_other_row number r = not (r.number == number)

abbrev pub without_row : ℕ → List Row → List Row
without_row number rows = filter (is_other_row number) rows

abbrev pub is_under : ℕ → Row → Bool
is_under d r = r.digest == d

abbrev pub under : ℕ → List Row → List Row
under d rows = filter (is_under d) rows

-- The rows of streams.

abbrev pub row_of : Stream → Row
row_of s = record { digest = digest s.stream.range; number = s.number }

abbrev pub rows_of : List Stream → List Row
rows_of ss = map row_of ss

-- the digests don't fall, and under each the streams' rows stand in their order
pub record Indexed (rows : List Row) (ss : List Stream) : Type 0 where
  pub rising : rising 0 rows ≡ true
  pub same : (d : ℕ) → under d rows ≡ under d (rows_of ss)

abbrev pub Backed : RangeIndex → List Stream → Type 0
Backed index ss = index.stands ≡ true → Indexed index.rows.items ss

abbrev pub of_range : KeyRange → List Stream → List Stream
of_range range ss = filter (λ s. same_range s.stream.range range) ss

-- no two streams have the range
abbrev pub IsAlone : KeyRange → List Stream → Type 0
IsAlone range ss = length (of_range range ss) ≤ 1

pub record IsNumbered (ss : List Stream) : Type 0 where
  pub high : ℕ
  pub numbers : numbered 0 high ss ≡ true

-- Looking up.

abbrev pub pushed : Option Stream → List Stream → List Stream
pushed None ss = ss
pushed (Some s) ss = s ∷ ss

-- the streams of the rows that stand first under the digest
abbrev pub found_in : ℕ → List Row → List Stream → List Stream
found_in d [] all = []
found_in d (r ∷ rs) all = if r.digest == d then pushed (stream_at r.number all) (found_in d rs all) else []

abbrev pub chosen_at : KeyRange → ℕ → Option Stream → Option Stream → Option Stream
chosen_at range limit best None = best
chosen_at range limit best (Some s) = if is_joinable range limit s then better s best else best
