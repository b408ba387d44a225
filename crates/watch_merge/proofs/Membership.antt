-- Members from a ticket on: those of smaller tickets aren't among them.
use Rattle.std.proofs.Common.{◌≡◌, ℕ, suc, true, false, cond, nat_lt, nat_le, List, [], ◌∷◌, map, drop, Some, refl, ap, sym, ◌∙◌, arith}
use Rattle.std.proofs.lemmas.Bool.Decides.{nat_tests}
use Rattle.watch_model.specs.State.{Watch}
use Rattle.watch_model.specs.Lookups.{is_in}
use Rattle.watch_queue.specs.declared.watching.Watching.{Watching}
use Rattle.watch_queue.specs.Watching.{shown}
use Rattle.watch_merge.specs.Watches.{gap}
use Rattle.watch_merge.specs.Members.{members_of, first_from}

smaller : (a b : ℕ) → nat_lt a b ≡ true → nat_le b a ≡ false
smaller a b e = grind (arith, nat_tests)

passed : (n t : ℕ) (w : Watch) (ws : List Watch) → nat_lt w.ticket t ≡ true → first_from t (members_of n (w ∷ ws)) ≡ first_from t (members_of n ws)
passed n t w ws e =
    elim (is_in n w.place) as (λ b. first_from t (cond b (w.ticket ∷ members_of n ws) (members_of n ws)) ≡ first_from t (members_of n ws)) [
      | true ↦ ap (λ b. cond b (Some w.ticket) (first_from t (members_of n ws))) (smaller w.ticket t e)
      | false ↦ refl
    ]

pub behind_gap : (n t : ℕ) (ws : List Watching) → first_from t (members_of n (map shown (drop (gap t ws) ws))) ≡ first_from t (members_of n (map shown ws))
behind_gap n t [] = refl
behind_gap n t (w ∷ ws) =
    elim (nat_lt w.ticket t) as (λ b. nat_lt w.ticket t ≡ b → first_from t (members_of n (map shown (drop (cond b (suc (gap t ws)) 0) (w ∷ ws)))) ≡ first_from t (members_of n (map shown (w ∷ ws)))) [
      | true ↦ λ e. behind_gap n t ws ∙ sym (passed n t (shown w) (map shown ws) e)
      | false ↦ λ e. refl
    ] refl
