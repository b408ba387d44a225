-- Loading the count keeps the rule.
use Rattle.std.proofs.Common.{◌≡◌, ℕ, ◌+◌, ◌≤◌, List, [], ◌∷◌, length, set, get_or, Result, refl, sym, ap, subst, arith}
use mathlib.Core.Option.{some, none}
use lib.ListN.{get_elem?}
use Rattle.atomic_table.specs.Table.{State, Me, Allows, keeps, step}
use Rattle.turn_hub.specs.declared.view.View.{View}
use Rattle.turn_hub.specs.declared.view.Stowed.{Stowed}
use Rattle.turn_hub.specs.History.{Begins, Runs, times}
use Rattle.turn_hub.specs.Views.{looked, recalled, NoneLonger}
use Rattle.turn_hub.specs.Rule.{Kept, Agrees, AllBegin}
use Rattle.turn_hub.specs.Kinds.{looks, recalls}
use Rattle.turn_hub.proofs.Lists.{begins-refl, begins-length, shorter_begins, each_set, total_set, total_at}
use Rattle.turn_hub.proofs.Turns.{turn-known, turn-names}

all_shorter : {A : Type 0} (hs : List (List A)) (seen log : List A) → AllBegin hs log → Begins seen log → NoneLonger hs seen → AllBegin hs seen
all_shorter [] seen log a p n = tt
all_shorter (h ∷ hs) seen log a p n = (shorter_begins h seen log a.0 p n.0, all_shorter hs seen log a.1 p n.1)

module _ {M E O F : Type 0} (steps : M → E → ℕ → Result O F → M → Type 0) (opening : M) (base : ℕ) where
  places_once : (s : State (Stowed M E O F) (View M E O F)) (id : ℕ) (v : View M E O F) → Kept steps opening base s → get_elem? s.views id ≡ some v → (k : ℕ) → times k v.own ≤ 1
  places_once s id v kept at k =
      let mine = total_at (λ (u : View M E O F). times k u.own) s.views id v at in let all = kept.once k in omega arith

  -- with a new view that has the same own places, the rule holds on
  kept-view : (s : State (Stowed M E O F) (View M E O F)) (id : ℕ) (v w : View M E O F) (k : Kept steps opening base s) → get_elem? s.views id ≡ some v → w.own ≡ v.own
      → Agrees opening base k.log k.machine k.bit k.who id w
      → Kept steps opening base (record { words = set s.words 0 (get_or s.words 0 0); homes = s.homes; views = set s.views id w })
  kept-view s id v w k at own mine = record {
    log = k.log;
    machine = k.machine;
    bit = k.bit;
    who = k.who;
    words = ap (λ (ws : List ℕ). set ws 0 (get_or ws 0 0)) k.words;
    home = k.home;
    runs = k.runs;
    room = k.room;
    each = each_set (Agrees opening base k.log k.machine k.bit k.who) s.views id w mine (λ j u ne there. k.each j u there);
    once = λ x.
        let same = total_set (λ (u : View M E O F). times x u.own) s.views id v w at in
        let places = ap (λ (l : List ℕ). times x l) own in let old = k.once x in omega arith;
  }

  pub looks_allows : (slots id : ℕ) (me : Me (Stowed M E O F) (View M E O F)) → Allows (Kept steps opening base) slots id me 0 (λ n. n) (looks steps (step slots 0 0 0 none) me)
  looks_allows slots id me s k homes at small =
      let mine = k.each id me.0 at in
      let longest : length me.0.seen ≤ length k.log = begins-length me.0.seen k.log mine.seen in
      let count : get_or s.words 0 0 ≡ length k.log + base = ap (λ (ws : List ℕ). get_or ws 0 0) k.words in
      let within : (x : ℕ) → length k.log ≤ x → times x me.0.own ≡ 0 = λ x h. mine.within x (omega arith) in (
        looked me.0 k.log,
        keeps,
        tt,
        kept-view s id me.0 (looked me.0 k.log) k at refl
            (record { opens = mine.opens; seen = begins-refl k.log; told = tt; within = within; turn = turn-known k.log me.0.seen k.machine k.bit k.who id me.0.turn mine.turn }),
        λ o e.
            let same = mine.opens o e in
            let runs : Runs steps o k.log k.machine = let P : M → Type 0 = λ x. Runs steps x k.log k.machine in subst P (sym same.0) k.runs in
            let room = k.room in
            let based = same.1 in (
              refl,
              record {
                log = k.log;
                after = refl;
                begins = mine.seen;
                told = mine.told;
                count = omega arith;
                stands = record { once = places_once s id me.0 k at; within = within; room = omega arith };
                machine = k.machine;
                named = turn-names k.log me.0.seen k.machine k.bit k.who id me.0.turn mine.turn;
                runs = runs;
              },
            ),
      )

  pub recalls_allows : (slots id : ℕ) (me : Me (Stowed M E O F) (View M E O F)) → NoneLonger me.0.told me.0.seen
      → Allows (Kept steps opening base) slots id me 0 (λ n. n) (recalls (step slots 0 0 0 none) me)
  recalls_allows slots id me short s k homes at small =
      let mine = k.each id me.0 at in (
        recalled me.0,
        keeps,
        tt,
        kept-view s id me.0 (recalled me.0) k at refl (record { opens = mine.opens; seen = mine.seen; told = tt; within = mine.within; turn = mine.turn }),
        (refl, record { told = all_shorter me.0.told me.0.seen k.log mine.told mine.seen short; once = places_once s id me.0 k at }),
      )
