-- Marks are compared number by number.
use Rattle.std.proofs.Common.{◌≡◌, ℕ, ◌<◌, Bool, true, false, not, ◌||◌, ◌&&◌, ◌==◌, nat_lt, List, [], ◌∷◌, Some, None, refl, sym, ◌∙◌, ap, inl, inr, arith}
use Rattle.std.proofs.lemmas.Bool.{cases_order}
use Rattle.std.proofs.lemmas.Bool.Decides.{nat_tests}
use Rattle.etcd_types.specs.Keys.{up_to, before}
use Rattle.etcd_types.proofs.KeyOrder.{head_below, head_same, head_above}
use Rattle.wait_model.specs.declared.sending.Sending.TheVariants as sending
use Rattle.wait_model.specs.DueOrder.{less_then}
use Rattle.read_model.specs.declared.asked.Asked.{Asked}
use Rattle.read_model.specs.declared.asked.Stage.{Stage}
use Rattle.read_model.specs.declared.asked.Stage.TheVariants as stage
use Rattle.core_model.specs.ClockWork.{is_replied}
use Rattle.ask_tables.specs.Marks.{stage_rank, stage_number, mark_of}
use Rattle.known_asks.specs.Firsts.{is_due}

-- the first numbers that aren't the same decide
pub before_then : (a b : ℕ) (xs ys : List ℕ) → before (a ∷ xs) (b ∷ ys) ≡ less_then a b (before xs ys)
before_then a b xs ys =
    elim (cases_order a b) [
      | inl e ↦ same_first e
      | inr o ↦ elim o [ inl l ↦ below l | inr g ↦ above g ]
    ]
  where
    same_first : a ≡ b → before (a ∷ xs) (b ∷ ys) ≡ less_then a b (before xs ys)
    same_first e =
        let lt : nat_lt a b ≡ false = grind (arith, nat_tests) in
        let eq : (a == b) ≡ true = grind (arith, nat_tests) in
        sym (ap (λ t. t || ((a == b) && before xs ys)) lt ∙ ap (λ t. t && before xs ys) eq ∙ ap not (sym (head_same a ys xs)) ∙ ap (λ n. not (up_to (n ∷ ys) (a ∷ xs))) e)

    below : a < b → before (a ∷ xs) (b ∷ ys) ≡ less_then a b (before xs ys)
    below l =
        let lt : nat_lt a b ≡ true = grind (arith, nat_tests) in
        sym (ap (λ t. t || ((a == b) && before xs ys)) lt ∙ ap not (sym (head_above b a ys xs l)))

    above : b < a → before (a ∷ xs) (b ∷ ys) ≡ less_then a b (before xs ys)
    above g =
        let lt : nat_lt a b ≡ false = grind (arith, nat_tests) in
        let eq : (a == b) ≡ false = grind (arith, nat_tests) in
        sym (ap (λ t. t || ((a == b) && before xs ys)) lt ∙ ap (λ t. t && before xs ys) eq ∙ ap not (sym (head_below b a ys xs g)))

-- of three numbers
abbrev pub sooner : ℕ → ℕ → ℕ → ℕ → ℕ → ℕ → Bool
sooner c n t d m u = less_then c d (less_then n m (less_then t u false))

pub by_three : (c n t d m u : ℕ) → before (c ∷ n ∷ t ∷ []) (d ∷ m ∷ u ∷ []) ≡ sooner c n t d m u
by_three c n t d m u =
    before_then c d (n ∷ t ∷ []) (m ∷ u ∷ []) ∙ ap (less_then c d) (before_then n m (t ∷ []) (u ∷ []) ∙ ap (less_then n m) (before_then t u [] []))

pub by_mark : (a b : Asked) → before (mark_of a) (mark_of b) ≡ sooner (stage_rank a.stage) (stage_number a.stage) a.ticket (stage_rank b.stage) (stage_number b.stage) b.ticket
by_mark a b = by_three (stage_rank a.stage) (stage_number a.stage) a.ticket (stage_rank b.stage) (stage_number b.stage) b.ticket

pub by_kind : (a : Asked) (d : ℕ) → before (mark_of a) (d ∷ 0 ∷ 0 ∷ []) ≡ sooner (stage_rank a.stage) (stage_number a.stage) a.ticket d 0 0
by_kind a d = by_three (stage_rank a.stage) (stage_number a.stage) a.ticket d 0 0

-- What is due has the last rank, and a reply its own.

pub due_rank : (s : Stage) → is_due s ≡ true → stage_rank s ≡ 6
due_rank (stage.Calling (sending.Due since)) e = refl
due_rank (stage.Calling (sending.Out call)) e = absurd (cc)
due_rank stage.Acquiring e = absurd (cc)
due_rank stage.Joined e = absurd (cc)
due_rank stage.Behind e = absurd (cc)
due_rank stage.Writes e = absurd (cc)
due_rank (stage.Grouped None) e = absurd (cc)
due_rank (stage.Grouped (Some (sending.Due since))) e = refl
due_rank (stage.Grouped (Some (sending.Out call))) e = absurd (cc)
due_rank (stage.Replied v) e = absurd (cc)

pub rank_due : (s : Stage) → nat_lt (stage_rank s) 6 ≡ false → is_due s ≡ true
rank_due (stage.Calling (sending.Due since)) e = refl
rank_due (stage.Calling (sending.Out call)) e = absurd (cc)
rank_due stage.Acquiring e = absurd (cc)
rank_due stage.Joined e = absurd (cc)
rank_due stage.Behind e = absurd (cc)
rank_due stage.Writes e = absurd (cc)
rank_due (stage.Grouped None) e = absurd (cc)
rank_due (stage.Grouped (Some (sending.Due since))) e = refl
rank_due (stage.Grouped (Some (sending.Out call))) e = absurd (cc)
rank_due (stage.Replied v) e = absurd (cc)

pub replied_rank : (s : Stage) → is_replied s ≡ true → (stage_rank s ≡ 4) × (stage_number s ≡ 0)
replied_rank (stage.Calling s) e = absurd (cc)
replied_rank stage.Acquiring e = absurd (cc)
replied_rank stage.Joined e = absurd (cc)
replied_rank stage.Behind e = absurd (cc)
replied_rank stage.Writes e = absurd (cc)
replied_rank (stage.Grouped s) e = absurd (cc)
replied_rank (stage.Replied v) e = (refl, refl)

pub rank_replied : (s : Stage) → stage_rank s ≡ 4 → is_replied s ≡ true
rank_replied (stage.Calling (sending.Due since)) e = absurd (omega arith)
rank_replied (stage.Calling (sending.Out call)) e = absurd (omega arith)
rank_replied stage.Acquiring e = absurd (omega arith)
rank_replied stage.Joined e = absurd (omega arith)
rank_replied stage.Behind e = absurd (omega arith)
rank_replied stage.Writes e = absurd (omega arith)
rank_replied (stage.Grouped None) e = absurd (omega arith)
rank_replied (stage.Grouped (Some (sending.Due since))) e = absurd (omega arith)
rank_replied (stage.Grouped (Some (sending.Out call))) e = absurd (omega arith)
rank_replied (stage.Replied v) e = refl
