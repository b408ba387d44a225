-- The numbers of the sessions that a process keeps: those that processes before it left, and those that it began.
use Rattle.std.specs.Prelude.{◌≡◌, ℕ, Bool, true, not, ◌==◌, nat_lt, if◌then◌else◌, List, [], ◌∷◌, ◌++◌, length, drop, filter}
use Rattle.std.specs.List.{list_any}
use Rattle.state_file.specs.declared.state.Known.{Known}
use Rattle.state_file.specs.declared.state.TheConstants.{MOST}

-- what is known: the numbers of the sessions that were left and of those that were begun, and whether no further one may be begun
pub record IsKnown (past own : List ℕ) (ends : Bool) (known : Known) : Type 0 where
  pub left : known.left.items ≡ past
  pub begun : known.begun.items ≡ own
  pub closed : known.is_closed ≡ ends

-- that number is one of these
abbrev pub IsAmong : ℕ → List ℕ → Type 0
IsAmong number numbers = list_any (λ n. n == number) numbers ≡ true

-- these numbers with room for one more: without the oldest where they are as many as are kept
abbrev pub with_room : List ℕ → List ℕ
with_room numbers = if nat_lt (length numbers) MOST then numbers else drop 1 numbers

-- the numbers that are kept once that one is begun: it comes behind the others, unless it is one of those that were begun
abbrev pub with_begun : ℕ → List ℕ → List ℕ → List ℕ
with_begun number past own =
    if list_any (λ n. n == number) own then past ++ own else with_room (past ++ own) ++ (number ∷ [])

-- these numbers without that one
abbrev pub without : ℕ → List ℕ → List ℕ
without number numbers = filter (λ n. not (n == number)) numbers
