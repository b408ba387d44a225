-- No line of a generated script is refused. A generated script leaves out what its world doesn't take; here is told, along its making,
-- that there is no such line: the world that the lines before it left takes each line that is to be added.
use Rattle.std.specs.Prelude.{◌≡◌, ℕ, zero, suc, ◌+◌, ◌*◌, ◌/◌, ◌%◌, ◌^◌, ◌≤◌, ◌==◌, Bool, true, false, length, List, [], ◌∷◌, Option, None, Some, is_ok}
use Rattle.script_text.specs.declared.line.Line.{Line}
use Rattle.script_text.specs.declared.line.Line.TheVariants as line
use Rattle.world_model.specs.Generated.{Making, add, call_in, of_world, gained_by, send_one, sends, push_one, turn, settle, drawn, asking, on_time, on_times, round, opening, add_all}
use Rattle.world_model.specs.Questions.{has_due, streams, can_push}
use Rattle.world_model.specs.Transcript.{next}

-- the world so far takes the line
abbrev pub Takes : Making → Line → Type 0
Takes m l = is_ok (next m.world l) ≡ true

-- two of them, one behind the other
abbrev pub TakesBoth : Making → Line → Line → Type 0
TakesBoth m first second = Takes m first × Takes (add first m) second

-- Settling.

-- a call that was sent is executed and answered
abbrev pub EndTaken : Option ℕ → Making → Type 0
EndTaken None m = Unit {0}
EndTaken (Some call) m = TakesBoth m (line.Exec call) (line.Answer call)

abbrev pub SendTaken : ℕ → Making → Type 0
SendTaken p m = Takes m (line.Send p) × EndTaken (call_in (gained_by (next m.world (line.Send p)))) (add (line.Send p) m)

abbrev pub SendsIf : Bool → (Making → Type 0) → ℕ → Making → Type 0
SendsIf false more p m = Unit {0}
SendsIf true more p m = SendTaken p m × more (send_one p m)

abbrev pub SendsTaken : ℕ → ℕ → Making → Type 0
SendsTaken zero p m = Unit {0}
SendsTaken (suc n) p m = SendsIf (of_world false (λ w. has_due w p) m.world) (SendsTaken n p) p m

abbrev pub PushIf : Bool → ℕ → Making → Type 0
PushIf false number m = Unit {0}
PushIf true number m = TakesBoth m (line.Push number) (line.Deliver number)

abbrev pub PushTaken : ℕ → Making → Type 0
PushTaken number m = PushIf (of_world false (λ w. can_push w number) m.world) number m

abbrev pub PushesTaken : ℕ → ℕ → Making → Type 0
PushesTaken zero number m = Unit {0}
PushesTaken (suc n) number m = PushTaken number m × PushesTaken n (number + 1) (push_one number m)

abbrev pub AllPushesTaken : Making → Type 0
AllPushesTaken m = PushesTaken (of_world 0 streams m.world) 1 m

abbrev pub TurnTaken : Making → Type 0
TurnTaken m = SendsTaken 64 1 m × SendsTaken 64 2 (sends 64 1 m) × SendsTaken 64 3 (sends 64 2 (sends 64 1 m)) × AllPushesTaken (sends 64 3 (sends 64 2 (sends 64 1 m)))

abbrev pub SettlesIf : Bool → (Making → Type 0) → Making → Type 0
SettlesIf true more m = Unit {0}
SettlesIf false more m = more m

abbrev pub SettlesTaken : ℕ → Making → Type 0
SettlesTaken zero m = Unit {0}
SettlesTaken (suc n) m = TurnTaken m × SettlesIf (length (turn m).lines == length m.lines) (SettlesTaken n) (turn m)

abbrev pub SettleTaken : Making → Type 0
SettleTaken m = SettlesTaken 64 m

-- Rounds.

abbrev pub OnTimeTaken : ℕ → ℕ → Making → Type 0
OnTimeTaken number p m = TakesBoth m (line.Clock p (200 * number)) (line.Tick p)

abbrev pub OnTimesTaken : Bool → ℕ → Making → Type 0
OnTimesTaken false number m = Unit {0}
OnTimesTaken true number m = OnTimeTaken number 1 m × OnTimeTaken number 2 (on_time number 1 m) × OnTimeTaken number 3 (on_time number 2 (on_time number 1 m))

abbrev pub AskTaken : ℕ → ℕ → Making → Type 0
AskTaken state number m =
    Takes (record m { state = state }) (asking (state / 2 ^ 33) number) × SettleTaken (add (asking (state / 2 ^ 33) number) (record m { state = state }))

abbrev pub RoundTaken : ℕ → Making → Type 0
RoundTaken number m = OnTimesTaken (number % 10 == 0) number m × AskTaken (drawn m.state) number (on_times (number % 10 == 0) number m)

abbrev pub RoundsTaken : ℕ → ℕ → Making → Type 0
RoundsTaken zero number m = Unit {0}
RoundsTaken (suc n) number m = RoundTaken number m × RoundsTaken n (number + 1) (round number m)

abbrev pub AllTaken : List Line → Making → Type 0
AllTaken [] m = Unit {0}
AllTaken (l ∷ lines) m = Takes m l × AllTaken lines (add l m)

-- before any line
abbrev pub unmade : ℕ → Making
unmade n = record { lines = []; items = []; world = None; state = n }

-- all lines of the making of this number
pub record EachIsTaken (n : ℕ) : Type 0 where
  pub begun : AllTaken opening (unmade n)
  pub settled : SettleTaken (add_all opening (unmade n))
  pub rounds : RoundsTaken n 1 (settle (add_all opening (unmade n)))

abbrev pub NoGeneratedLineIsRefused : Type 0
NoGeneratedLineIsRefused = (n : ℕ) → n ≤ 20_000 → EachIsTaken n
