-- Requests of one rank and one number stand side by side, by ticket, and so do reads that wait at keys of one number. Those of them that
-- a rule has changed up to a ticket.
use Rattle.std.specs.Prelude.{◌≡◌, ℕ, ◌-◌, ◌≤◌, Bool, true, not, ◌&&◌, ◌||◌, ◌==◌, nat_lt, nat_le, if◌then◌else◌, List, map, Option, None, Some}
use Rattle.std.specs.List.{list_all}
use Rattle.read_model.specs.declared.asked.Asked.{Asked}
use Rattle.core_model.specs.Lookups.{ask_at}
use Rattle.known_asks.specs.declared.kin.Kin.{Kin}
use Rattle.known_asks.specs.declared.kin.Kin.TheVariants.{Stage, Key}
use Rattle.ask_tables.specs.KeyMarks.{by_key}
use Rattle.ask_tables.specs.Marks.{is_alike, is_narrow}
use Rattle.ask_tables.specs.RowMarks.{has_key}

abbrev pub all_narrow : List Asked → Bool
all_narrow asks = list_all is_narrow asks

-- the ticket is below the bound, where there is one
abbrev pub is_below : Option ℕ → ℕ → Bool
is_below None ticket = true
is_below (Some bound) ticket = nat_lt ticket bound

-- its ticket is this one or above, and below the bound
abbrev pub is_within : ℕ → Option ℕ → Asked → Bool
is_within from bound a = nat_le from a.ticket && is_below bound a.ticket

-- which of them stand side by side
abbrev pub is_kin : Kin → Asked → Bool
is_kin (Stage rank number) a = is_alike rank number a
is_kin (Key number) a = has_key by_key 0 number a

-- none that passes stands there
abbrev pub none_within : (Asked → Bool) → ℕ → Option ℕ → List Asked → Bool
none_within p from bound asks = list_all (λ a. not (p a) || not (is_within from bound a)) asks

-- the first one that passes from a ticket on
pub record IsNextAlike (p : Asked → Bool) (from : ℕ) (r : Asked) (asks : List Asked) : Type 0 where
  pub there : ask_at r.ticket asks ≡ Some r
  pub behind : from ≤ r.ticket
  pub first : none_within p from (Some r.ticket) asks ≡ true

abbrev pub IsNextAlikeOf : (Asked → Bool) → ℕ → Option Asked → List Asked → Type 0
IsNextAlikeOf p from None asks = none_within p from None asks ≡ true
IsNextAlikeOf p from (Some r) asks = IsNextAlike p from r asks

-- those from a ticket on that are below the bound are changed
abbrev pub changed_within : ℕ → Option ℕ → (Asked → Asked) → List Asked → List Asked
changed_within from bound f asks = map (λ a. if is_within from bound a then f a else a) asks

-- those below the bound are changed
abbrev pub changed_below : Option ℕ → (Asked → Asked) → List Asked → List Asked
changed_below bound f asks = map (λ a. if is_below bound a.ticket then f a else a) asks

-- the tickets that are left
abbrev pub left_from : Option ℕ → ℕ
left_from None = 0
left_from (Some ticket) = 0x1_0000_0000_0000_0000 - ticket
