-- How what the rule says of a seat's turn goes on.
use Rattle.std.proofs.Common.{◌≡◌, ℕ, ◌≢◌, List, [], ◌∷◌, ◌++◌, Some, Result, refl, sym, subst, arith}
use Rattle.turn_hub.specs.declared.history.Entry.{Entry}
use Rattle.turn_hub.specs.declared.view.View.{View}
use Rattle.turn_hub.specs.declared.view.Turn.{Turn}
use Rattle.turn_hub.specs.declared.view.Turn.TheVariants.{Away, Taken, Known}
use Rattle.turn_hub.specs.History.{Runs}
use Rattle.turn_hub.specs.Views.{known, Names}
use Rattle.turn_hub.specs.Rule.{Turning, Agrees}
use Rattle.turn_hub.proofs.Lists.{begins-more, all_begin-more}

module _ {M E O F : Type 0} where
  -- where nobody has the turn, a seat is away, whatever comes
  pub turn-free : (log log' seen : List (Entry E O F)) (m m' : M) (bit bit' who who' id : ℕ) (t : Turn M) → bit ≡ 0
      → Turning log m bit who id seen t → Turning log' m' bit' who' id seen t
  turn-free log log' seen m m' bit bit' who who' id Away z p = tt
  turn-free log log' seen m m' bit bit' who who' id (Taken x) z p = absurd (let q = p.0 in omega arith)
  turn-free log log' seen m m' bit bit' who who' id (Known x) z p = absurd (let q = p.0 in omega arith)

  -- where another seat has it, too
  pub turn-other : (log log' seen : List (Entry E O F)) (m m' : M) (bit bit' who who' id : ℕ) (t : Turn M) → id ≢ who
      → Turning log m bit who id seen t → Turning log' m' bit' who' id seen t
  turn-other log log' seen m m' bit bit' who who' id Away ne p = tt
  turn-other log log' seen m m' bit bit' who who' id (Taken x) ne p = absurd (ne p.1)
  turn-other log log' seen m m' bit bit' who who' id (Known x) ne p = absurd (ne p.1)

  pub turn-known : (log seen : List (Entry E O F)) (m : M) (bit who id : ℕ) (t : Turn M)
      → Turning log m bit who id seen t → Turning log m bit who id log (known t)
  turn-known log seen m bit who id Away p = tt
  turn-known log seen m bit who id (Taken x) p = (p.0, p.1, p.2, refl)
  turn-known log seen m bit who id (Known x) p = (p.0, p.1, p.2, refl)

  pub turn-names : (log seen : List (Entry E O F)) (m : M) (bit who id : ℕ) (t : Turn M)
      → Turning log m bit who id seen t → Names t m
  turn-names log seen m bit who id Away p = tt
  turn-names log seen m bit who id (Taken x) p = p.2
  turn-names log seen m bit who id (Known x) p = p.2

  -- what the rule says of a seat that stays as it is, where the history grows and its turn goes on
  pub agrees-on : (opening : M) (base : ℕ) (log more : List (Entry E O F)) (m m' : M) (bit bit' who who' id : ℕ) (v : View M E O F)
      → Agrees opening base log m bit who id v → Turning (log ++ more) m' bit' who' id v.seen v.turn → Agrees opening base (log ++ more) m' bit' who' id v
  agrees-on opening base log more m m' bit bit' who who' id v a t = record {
    opens = a.opens;
    seen = begins-more v.seen log more a.seen;
    told = all_begin-more v.told log more a.told;
    within = a.within;
    turn = t;
  }

module _ {M E O F : Type 0} (steps : M → E → ℕ → Result O F → M → Type 0) where
  pub runs-more : (before : M) (log : List (Entry E O F)) (m after : M) (e : Entry E O F) → Runs steps before log m → steps m e.event e.now e.answer after → Runs steps before (log ++ e ∷ []) after
  runs-more before [] m after e r s = let P : M → Type 0 = λ x. steps x e.event e.now e.answer after in (after, subst P (sym r) s, refl)
  runs-more before (x ∷ log) m after e r s = (r.0, r.1, runs-more r.0 log m after e r.2 s)

-- an opening that two views name is one
pub same_opening : {M : Type 0} (o p : M) → Some o ≡ Some p → o ≡ p
same_opening o p e = cc
