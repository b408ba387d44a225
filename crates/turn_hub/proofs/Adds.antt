-- Raising the count keeps the rule.
use Rattle.std.proofs.Common.{◌≡◌, ℕ, ◌+◌, ◌%◌, ◌<◌, ◌≤◌, ◌≢◌, ◌^◌, Bool, cond, List, [], ◌∷◌, ◌++◌, length, set, get_or, Some, Result, refl, sym, ap, ◌∙◌, subst, ⊎_elim, length-append, arith}
use Rattle.std.proofs.lemmas.Bool.Decides.{eqb_tells}
use mathlib.Core.Option.{some, none}
use lib.ListN.{get_elem?}
use Rattle.atomic_table.specs.Table.{State, Me, Allows, keeps, step}
use Rattle.turn_hub.specs.declared.history.Entry.{Entry}
use Rattle.turn_hub.specs.declared.view.View.{View}
use Rattle.turn_hub.specs.declared.view.Note.{Note}
use Rattle.turn_hub.specs.declared.view.Stowed.{Stowed}
use Rattle.turn_hub.specs.declared.view.Stowed.TheVariants.{Noted}
use Rattle.turn_hub.specs.declared.view.Turn.{Turn}
use Rattle.turn_hub.specs.declared.view.Turn.TheVariants.{Known}
use Rattle.turn_hub.specs.History.{Begins, Runs, times}
use Rattle.turn_hub.specs.Views.{added, noted_entry}
use Rattle.turn_hub.specs.Rule.{Kept, Agrees, Turning, total}
use Rattle.turn_hub.specs.Kinds.{adds}
use Rattle.turn_hub.specs.Seats.{IsStepOf}
use Rattle.turn_hub.proofs.Lists.{at_here, begins-refl, begins-length, all_begin-more, times-append, each_set, total_set, total_at, total_none}
use Rattle.turn_hub.proofs.Turns.{turn-other, agrees-on, runs-more}

pub times_one : (k : ℕ) → times k (k ∷ []) ≡ 1
times_one k = ⊎_elim (λ t. ap (λ (b : Bool). cond b (1 + 0) 0) t.0) (λ t. absurd (t.1 refl)) (eqb_tells k k)

pub times_other : (k x : ℕ) → x ≢ k → times k (x ∷ []) ≡ 0
times_other k x ne = ⊎_elim (λ t. absurd (ne t.1)) (λ t. ap (λ (b : Bool). cond b (1 + 0) 0) t.0) (eqb_tells x k)

module _ {M E O F : Type 0} (steps : M → E → ℕ → Result O F → M → Type 0) (opening : M) (base : ℕ) where
  -- no place is own twice, where the new place is the length of the history
  once-more : (s : State (Stowed M E O F) (View M E O F)) (id : ℕ) (v w : View M E O F) (k : Kept steps opening base s) → get_elem? s.views id ≡ some v
      → w.own ≡ v.own ++ length k.log ∷ [] → (x : ℕ) → total (λ u. times x u.own) (set s.views id w) ≤ 1
  once-more s id v w k at own x =
      let change = total_set (λ (u : View M E O F). times x u.own) s.views id v w at in
      let places = ap (λ (l : List ℕ). times x l) own ∙ times-append x v.own (length k.log ∷ []) in
      let old = k.once x in
      let none : length k.log ≤ x → total (λ (u : View M E O F). times x u.own) s.views ≡ 0 = λ h.
      total_none (λ (u : View M E O F). times x u.own) s.views (λ j u there. let other = k.each j u there in other.within x (let shorter = begins-length u.seen k.log other.seen in omega arith)) in
      ⊎_elim
      (λ t. let one = times_one x in let same : times x (length k.log ∷ []) ≡ 1 = ap (λ (y : ℕ). times x (y ∷ [])) t.1 ∙ one in let zero_before = none (let e = t.1 in omega arith) in omega arith)
      (λ t. let other = times_other x (length k.log) t.1 in omega arith)
      (eqb_tells (length k.log) x)

  adding : (slots id : ℕ) (v : View M E O F) (n : Note M E O F) (others : List (ℕ × Stowed M E O F)) (m : M) → v.turn ≡ Known m → IsStepOf steps m n → length v.seen + v.base < 2 ^ 62
      → (o : M) → v.opening ≡ Some o
      → Allows (Kept steps opening base) slots id (v, (0, Noted n) ∷ others) 0 (λ x. (x + 1) % 2 ^ 64) (adds steps (step slots 0 1 0 none) (v, (0, Noted n) ∷ others))
  adding slots id v n others m known stepped room o opens s k homes at small =
      let mine = k.each id v at in
      let turn : Turning k.log k.machine k.bit k.who id v.seen (Known m) = let P : Turn M → Type 0 = λ t. Turning k.log k.machine k.bit k.who id v.seen t in subst P known mine.turn in
      let whole : v.seen ≡ k.log = turn.3 in
      let long : length v.seen ≡ length k.log = ap (λ (l : List (Entry E O F)). length l) whole in
      let based = (mine.opens o opens).1 in
      let count : get_or s.words 0 0 ≡ length k.log + base = ap (λ (ws : List ℕ). get_or ws 0 0) k.words in
      let longer : length (k.log ++ noted_entry n ∷ []) ≡ length k.log + 1 = length-append k.log (noted_entry n ∷ []) in
      let log' : List (Entry E O F) = k.log ++ noted_entry n ∷ [] in
      let seen' : v.seen ++ noted_entry n ∷ [] ≡ k.log ++ noted_entry n ∷ [] = ap (λ (l : List (Entry E O F)). l ++ noted_entry n ∷ []) whole in
      let step' : steps k.machine n.event.value n.now n.answer.value n.machine.value = let P : M → Type 0 = λ x. steps x n.event.value n.now n.answer.value n.machine.value in subst P turn.2 stepped in
      let runs : Runs steps opening (k.log ++ noted_entry n ∷ []) n.machine.value = runs-more steps opening k.log k.machine n.machine.value (noted_entry n) k.runs step' in
      let own : (added v n).own ≡ v.own ++ length k.log ∷ [] = ap (λ (x : ℕ). v.own ++ x ∷ []) long in
      let within : (x : ℕ) → length (v.seen ++ noted_entry n ∷ []) ≤ x → times x (v.own ++ length v.seen ∷ []) ≡ 0 = λ x h.
      let more = length-append v.seen (noted_entry n ∷ []) in
      let old = mine.within x (omega arith) in
      let none = times_other x (length v.seen) (λ e. omega arith) in
      let sum = times-append x v.own (length v.seen ∷ []) in omega arith in
      let once = once-more s id v (added v n) k at own in
      let kept : Kept steps opening base (record { words = set s.words 0 ((get_or s.words 0 0 + 1) % 2 ^ 64); homes = s.homes; views = set s.views id (added v n) }) = record {
        log = k.log ++ noted_entry n ∷ [];
        machine = n.machine.value;
        bit = k.bit;
        who = k.who;
        words = ap (λ (ws : List ℕ). set ws 0 ((get_or ws 0 0 + 1) % 2 ^ 64)) k.words ∙ ap (λ (x : ℕ). x ∷ k.bit ∷ []) (omega arith);
        home = λ e. absurd (let taken = turn.0 in omega arith);
        runs = runs;
        room = omega arith;
        each = each_set (Agrees opening base (k.log ++ noted_entry n ∷ []) n.machine.value k.bit k.who) s.views id (added v n)
            (record {
              opens = mine.opens;
              seen = let P : List (Entry E O F) → Type 0 = λ l. Begins (v.seen ++ noted_entry n ∷ []) l in subst P seen' (begins-refl (v.seen ++ noted_entry n ∷ []));
              told = all_begin-more v.told k.log (noted_entry n ∷ []) mine.told;
              within = within;
              turn = (turn.0, turn.1, refl, seen');
            })
            (λ j u ne there. let other = k.each j u there in
            let away : j ≢ k.who = λ e. ne (e ∙ sym turn.1) in
            agrees-on opening base k.log (noted_entry n ∷ []) k.machine n.machine.value k.bit k.bit k.who k.who j u other (turn-other k.log (k.log ++ noted_entry n ∷ []) u.seen k.machine n.machine.value k.bit k.bit k.who k.who j u.turn away other.turn));
        once = once;
      } in (
        added v n,
        keeps,
        tt,
        kept,
        (
          refl,
          λ p e. record {
            stands = record {
              once = λ x. let mine' = total_at (λ (u : View M E O F). times x u.own) (set s.views id (added v n)) id (added v n) (at_here s.views id v (added v n) at) in let all = once x in omega arith;
              within = within;
              room = let more = length-append v.seen (noted_entry n ∷ []) in omega arith;
            };
            runs =
                let same = mine.opens p e in
                let P : M → Type 0 = λ x. Runs steps x (v.seen ++ noted_entry n ∷ []) n.machine.value in
                let Q : List (Entry E O F) → Type 0 = λ l. Runs steps opening l n.machine.value in
                subst P (sym same.0) (subst Q (sym seen') runs);
          },
        ),
      )

  pub adds_allows : (slots id : ℕ) (me : Me (Stowed M E O F) (View M E O F)) (v : View M E O F) (n : Note M E O F) (m : M) → me ≡ (v, (0, Noted n) ∷ []) → v.turn ≡ Known m → IsStepOf steps m n
      → length v.seen + v.base < 2 ^ 62 → (o : M) → v.opening ≡ Some o
      → Allows (Kept steps opening base) slots id me 0 (λ x. (x + 1) % 2 ^ 64) (adds steps (step slots 0 1 0 none) me)
  adds_allows slots id me v n m is known stepped room o opens =
      let P : Me (Stowed M E O F) (View M E O F) → Type 0 = λ x. Allows (Kept steps opening base) slots id x 0 (λ y. (y + 1) % 2 ^ 64) (adds steps (step slots 0 1 0 none) x) in
      subst P (sym is) (adding slots id v n [] m known stepped room o opens)
