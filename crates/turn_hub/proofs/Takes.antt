-- Taking the turn keeps the rule.
use Rattle.std.proofs.Common.{◌≡◌, ℕ, ◌≤◌, Bool, true, false, eqb, List, ◌∷◌, set, get_or, Result, MatchBool, refl, sym, ap, ◌∙◌, subst, arith}
use Rattle.std.proofs.lemmas.Bool.{eqb-true}
use mathlib.Core.Option.{some, none}
use prog.Atomic.{either}
use lib.ListN.{get_elem?}
use Rattle.atomic_table.specs.Table.{State, Me, Act, Valid, Allows, stepped, keeps, takes, step}
use Rattle.atomic_table.proofs.Lists.{set_again}
use Rattle.turn_hub.specs.declared.view.View.{View}
use Rattle.turn_hub.specs.declared.view.Stowed.{Stowed}
use Rattle.turn_hub.specs.declared.view.Stowed.TheVariants.{Machine}
use Rattle.turn_hub.specs.History.{times}
use Rattle.turn_hub.specs.Views.{taken}
use Rattle.turn_hub.specs.Rule.{Kept, Agrees, total}
use Rattle.turn_hub.specs.Kinds.{takes_turn, IsMe}
use Rattle.turn_hub.proofs.Lists.{each_set, total_set}
use Rattle.turn_hub.proofs.Turns.{turn-free}

module _ {M E O F : Type 0} (steps : M → E → ℕ → Result O F → M → Type 0) (opening : M) (base : ℕ) where
  abbrev Taking : State (Stowed M E O F) (View M E O F) → ℕ → Me (Stowed M E O F) (View M E O F) → ℕ → Bool → Type 0
  Taking s id me n b =
      (w : View M E O F) × (a : Act (Stowed M E O F)) × Valid s.homes me.1 a × Kept steps opening base (stepped s 1 (either b 1 n) id me.1 w a)
      × MatchBool b ((machine : M) × IsMe (w, Rattle.atomic_table.specs.Table.carried_after me.1 a) (taken me.0 machine, (0, Machine machine) ∷ me.1)) (IsMe (w, Rattle.atomic_table.specs.Table.carried_after me.1 a) me)

  taking : (s : State (Stowed M E O F) (View M E O F)) (id : ℕ) (me : Me (Stowed M E O F) (View M E O F)) (b : Bool) → Kept steps opening base s → get_elem? s.views id ≡ some me.0
      → eqb (get_or s.words 1 0) 0 ≡ b → Taking s id me (get_or s.words 1 0) b
  taking s id me true k at is =
      let free : k.bit ≡ 0 = sym (ap (λ (ws : List ℕ). get_or ws 1 0) k.words) ∙ eqb-true (get_or s.words 1 0) 0 is in
      let mine = k.each id me.0 at in (
        taken me.0 k.machine,
        takes 0 (Machine k.machine),
        ap (λ (hs : List (mathlib.Core.Option.Option (Stowed M E O F))). get_elem? hs 0) (k.home free),
        record {
          log = k.log;
          machine = k.machine;
          bit = 1;
          who = id;
          words = ap (λ (ws : List ℕ). set ws 1 1) k.words;
          home = λ e. absurd (omega arith);
          runs = k.runs;
          room = k.room;
          each = each_set (Agrees opening base k.log k.machine 1 id) s.views id (taken me.0 k.machine)
              (record { opens = mine.opens; seen = mine.seen; told = mine.told; within = mine.within; turn = (refl, refl, refl) })
              (λ j u ne there. let other = k.each j u there in record { opens = other.opens; seen = other.seen; told = other.told; within = other.within; turn = turn-free k.log k.log u.seen k.machine k.machine k.bit 1 k.who id j u.turn free other.turn });
          once = λ x. let same = total_set (λ (v : View M E O F). times x v.own) s.views id me.0 (taken me.0 k.machine) at in let old = k.once x in omega arith;
        },
        (k.machine, refl),
      )
  taking s id me false k at is =
      let same = set_again s.views id me.0 at in (
        me.0,
        keeps,
        tt,
        record {
          log = k.log;
          machine = k.machine;
          bit = k.bit;
          who = k.who;
          words = ap (λ (ws : List ℕ). set ws 1 (get_or ws 1 0)) k.words;
          home = k.home;
          runs = k.runs;
          room = k.room;
          each = λ j u there. let P : List (View M E O F) → Type 0 = λ vs. get_elem? vs j ≡ some u in k.each j u (subst P same there);
          once = λ x. let P : List (View M E O F) → Type 0 = λ vs. total (λ v. times x v.own) vs ≤ 1 in subst P (sym same) (k.once x);
        },
        refl,
      )

  pub takes_allows : (slots id : ℕ) (me : Me (Stowed M E O F) (View M E O F))
      → Allows (Kept steps opening base) slots id me 1 (λ n. either (eqb n 0) 1 n) (takes_turn (step slots 1 0 1 none) me)
  takes_allows slots id me s k homes at small = taking s id me (eqb (get_or s.words 1 0) 0) k at refl
