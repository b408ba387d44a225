-- The first request that doesn't come before a mark, and the one that is due first.
use Rattle.std.specs.Prelude.{ℕ, ◌≡◌, Bool, true, false, not, ◌||◌, List, Option, Some, None}
use Rattle.std.specs.List.{list_all}
use Rattle.etcd_types.specs.Keys.{before}
use Rattle.wait_model.specs.declared.due.JobKind.TheVariants.{Call}
use Rattle.wait_model.specs.declared.due.Place.{Place}
use Rattle.wait_model.specs.declared.sending.Sending.{Sending}
use Rattle.wait_model.specs.declared.sending.Sending.TheVariants as sending
use Rattle.wait_model.specs.DueOrder.{place_at, is_earlier}
use Rattle.read_model.specs.declared.asked.Asked.{Asked}
use Rattle.read_model.specs.declared.asked.Stage.{Stage}
use Rattle.read_model.specs.declared.asked.Stage.TheVariants as stage
use Rattle.core_model.specs.Lookups.{ask_at}
use Rattle.ask_tables.specs.Marks.{stage_number, mark_of}

-- each comes before the mark
abbrev pub all_before : List ℕ → List Asked → Bool
all_before k asks = list_all (λ a. before (mark_of a) k) asks

-- by the marks that a function makes
pub record IsNextBy (g : Asked → List ℕ) (k : List ℕ) (r : Asked) (asks : List Asked) : Type 0 where
  pub there : ask_at r.ticket asks ≡ Some r
  pub behind : before (g r) k ≡ false
  -- of those that don't come before the mark none comes before it
  pub least : list_all (λ a. before (g a) k || not (before (g a) (g r))) asks ≡ true

abbrev pub IsNextByOf : (Asked → List ℕ) → List ℕ → Option Asked → List Asked → Type 0
IsNextByOf g k None asks = list_all (λ a. before (g a) k) asks ≡ true
IsNextByOf g k (Some r) asks = IsNextBy g k r asks

abbrev pub IsNext : List ℕ → Asked → List Asked → Type 0
IsNext k r asks = IsNextBy mark_of k r asks

abbrev pub IsNextOf : List ℕ → Option Asked → List Asked → Type 0
IsNextOf k None asks = all_before k asks ≡ true
IsNextOf k (Some r) asks = IsNext k r asks

-- The one that is due first.

abbrev pub is_due_sending : Sending → Bool
is_due_sending (sending.Due since) = true
is_due_sending (sending.Out call) = false

-- a call for it is to be sent
abbrev pub is_due : Stage → Bool
is_due (stage.Calling s) = is_due_sending s
is_due (stage.Grouped (Some s)) = is_due_sending s
is_due _ = false

-- where one that is due stands in the order of due jobs
abbrev pub due_place : Asked → Place
due_place a = place_at (stage_number a.stage) Call a.ticket

abbrev pub none_due : List Asked → Bool
none_due asks = list_all (λ a. not (is_due a.stage)) asks

pub record IsFirstDue (r : Asked) (asks : List Asked) : Type 0 where
  pub there : ask_at r.ticket asks ≡ Some r
  pub due : is_due r.stage ≡ true
  -- none that is due is sent before it
  pub first : list_all (λ a. not (is_due a.stage) || not (is_earlier (due_place a) (due_place r))) asks ≡ true

abbrev pub IsFirstDueOf : Option Asked → List Asked → Type 0
IsFirstDueOf None asks = none_due asks ≡ true
IsFirstDueOf (Some r) asks = IsFirstDue r asks
