-- Giving the turn back keeps the rule.
use Rattle.std.proofs.Common.{◌≡◌, ℕ, ◌≢◌, List, [], ◌∷◌, length, set, Result, refl, sym, ap, ◌∙◌, subst, arith}
use mathlib.Core.Option.{Option, some, none}
use Rattle.atomic_table.specs.Table.{Me, Allows, gives, step}
use Rattle.turn_hub.specs.declared.view.View.{View}
use Rattle.turn_hub.specs.declared.view.Stowed.{Stowed}
use Rattle.turn_hub.specs.declared.view.Stowed.TheVariants.{Machine}
use Rattle.turn_hub.specs.declared.view.Turn.{Turn}
use Rattle.turn_hub.specs.declared.view.Turn.TheVariants.{Known}
use Rattle.turn_hub.specs.History.{times}
use Rattle.turn_hub.specs.Views.{given}
use Rattle.turn_hub.specs.Rule.{Kept, Agrees, Turning}
use Rattle.turn_hub.specs.Kinds.{gives_back}
use Rattle.turn_hub.proofs.Lists.{each_set, total_set}
use Rattle.turn_hub.proofs.Turns.{turn-other}

one_home : {S : Type 0} (homes : List (Option S)) (x : S) → length homes ≡ 1 → set homes 0 (some x) ≡ some x ∷ []
one_home [] x e = absurd (omega arith)
one_home (h ∷ []) x e = refl
one_home (h ∷ g ∷ hs) x e = absurd (omega arith)

module _ {M E O F : Type 0} (steps : M → E → ℕ → Result O F → M → Type 0) (opening : M) (base : ℕ) where
  giving : (slots id : ℕ) (v : View M E O F) (m : M) → v.turn ≡ Known m → slots ≡ 1
      → Allows (Kept steps opening base) slots id (v, (0, Machine m) ∷ []) 1 (λ _. 0) (λ _. gives_back (step slots 1 0 0 none) (v, (0, Machine m) ∷ []) 0)
  giving slots id v m known one s k homes at small =
      let mine = k.each id v at in
      let turn : Turning k.log k.machine k.bit k.who id v.seen (Known m) = let P : Turn M → Type 0 = λ t. Turning k.log k.machine k.bit k.who id v.seen t in subst P known mine.turn in (
        given v,
        gives,
        tt,
        record {
          log = k.log;
          machine = k.machine;
          bit = 0;
          who = k.who;
          words = ap (λ (ws : List ℕ). set ws 1 0) k.words;
          home = λ e. one_home s.homes (Machine m) (homes ∙ one) ∙ ap (λ (x : M). some (Machine x) ∷ []) turn.2;
          runs = k.runs;
          room = k.room;
          each = each_set (Agrees opening base k.log k.machine 0 k.who) s.views id (given v)
              (record { opens = mine.opens; seen = mine.seen; told = mine.told; within = mine.within; turn = tt })
              (λ j u ne there. let other = k.each j u there in let away : j ≢ k.who = λ e. ne (e ∙ sym turn.1) in
              record { opens = other.opens; seen = other.seen; told = other.told; within = other.within; turn = turn-other k.log k.log u.seen k.machine k.machine k.bit 0 k.who k.who j u.turn away other.turn });
          once = λ x. let same = total_set (λ (u : View M E O F). times x u.own) s.views id v (given v) at in let old = k.once x in omega arith;
        },
        refl,
      )

  pub gives_allows : (slots id : ℕ) (me : Me (Stowed M E O F) (View M E O F)) (v : View M E O F) (m : M) → me ≡ (v, (0, Machine m) ∷ []) → v.turn ≡ Known m → slots ≡ 1
      → Allows (Kept steps opening base) slots id me 1 (λ _. 0) (λ _. gives_back (step slots 1 0 0 none) me 0)
  gives_allows slots id me v m is known one =
      let P : Me (Stowed M E O F) (View M E O F) → Type 0 = λ x. Allows (Kept steps opening base) slots id x 1 (λ _. 0) (λ _. gives_back (step slots 1 0 0 none) x 0) in
      subst P (sym is) (giving slots id v m known one)
