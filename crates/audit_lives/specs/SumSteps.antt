-- What a step does with the counts.
use Rattle.std.specs.Prelude.{◌≡◌, ℕ, ◌+◌, ◌-◌, ◌≤◌, if◌then◌else◌, Option, None, Some}
use Rattle.first_places.specs.Counts.{AreBefore, count_at}
use Rattle.first_places.specs.Places.{is_pair}
use Rattle.audit_lives.specs.declared.sums.Sums.{Sums}

-- what is counted of the ticket, where there is one
abbrev pub count_of : Option (ℕ × ℕ) → Sums → (ℕ → ℕ) → ℕ
count_of None s start = 0
count_of (Some t) s start = count_at s.reads start t.0 t.1

-- a call names this ticket, or none
pub record Closes (ticket : Option (ℕ × ℕ)) (start : ℕ → ℕ) (place : ℕ) (old new : Sums) : Type 0 where
  pub unsent : new.unsent ≡ old.unsent - count_of ticket old start
  pub watches : new.watches ≡ old.watches
  pub reads : (a b : ℕ) → count_at new.reads start a b ≡ (if is_pair ticket a b then 0 else count_at old.reads start a b)
  pub before : AreBefore (place + 1) old.reads → AreBefore (place + 1) new.reads

abbrev pub one_for : Option (ℕ × ℕ) → ℕ
one_for None = 0
one_for (Some t) = 1

-- the start of the ticket's life isn't behind this place
abbrev pub IsBehind : Option (ℕ × ℕ) → (ℕ → ℕ) → ℕ → Type 0
IsBehind None start place = Unit {0}
IsBehind (Some t) start place = start t.0 ≤ place

-- a read of this ticket is answered with no call, or none is
pub record Opens (ticket : Option (ℕ × ℕ)) (start : ℕ → ℕ) (place : ℕ) (old new : Sums) : Type 0 where
  pub unsent : new.unsent ≡ old.unsent + one_for ticket
  pub watches : new.watches ≡ old.watches
  pub reads : IsBehind ticket start place → (a b : ℕ) → count_at new.reads start a b ≡ (if is_pair ticket a b then count_at old.reads start a b + 1 else count_at old.reads start a b)
  pub before : AreBefore (place + 1) old.reads → AreBefore (place + 1) new.reads
