-- Making the first seat, splitting a seat and joining two keep the rule.
use Rattle.std.proofs.Common.{◌≡◌, ℕ, zero, suc, ◌≤◌, ◌≢◌, ◌^◌, List, [], ◌∷◌, set, Result, refl, sym, ap, ◌∙◌, subst, ⊎_elim, arith}
use mathlib.Core.Option.{some, some-injective, some-ne-none}
use lib.ListN.{get_elem?}
use Rattle.atomic_table.specs.Table.{Splits, Joins}
use Rattle.atomic_table.proofs.Lists.{at_snoc, set_again}
use Rattle.turn_hub.specs.declared.view.View.{View}
use Rattle.turn_hub.specs.declared.view.Stowed.TheVariants.{Machine}
use Rattle.turn_hub.specs.declared.view.Turn.{Turn}
use Rattle.turn_hub.specs.declared.view.Turn.TheVariants.{Away}
use Rattle.turn_hub.specs.History.{times}
use Rattle.turn_hub.specs.Views.{starting, newcomer, joined, spent, longer}
use Rattle.turn_hub.specs.Rule.{Kept, Agrees, Turning, total}
use Rattle.turn_hub.proofs.Lists.{begins-refl, longer-begins, longer-length, times-append, each_set, total_set, total-append}

module _ {M E O F : Type 0} (steps : M → E → ℕ → Result O F → M → Type 0) (opened : M) (base : ℕ) where
  -- the table as a hub makes it
  pub opens_kept : base ≤ 2 ^ 62 → Kept steps opened base (record { words = base ∷ 0 ∷ []; homes = some (Machine opened) ∷ []; views = starting opened base ∷ [] })
  opens_kept few = record {
    log = [];
    machine = opened;
    bit = 0;
    who = 0;
    words = ap (λ (x : ℕ). x ∷ 0 ∷ []) (omega arith);
    home = λ e. refl;
    runs = refl;
    room = omega arith;
    each = alone;
    once = λ x. omega arith;
  }
    where
      alone : (id : ℕ) (v : View M E O F) → get_elem? (starting opened base ∷ []) id ≡ some v → Agrees opened base [] opened 0 0 id v
      alone zero v at =
          let P : View M E O F → Type 0 = λ x. Agrees opened base [] opened 0 0 0 x in
          subst P (some-injective (starting opened base) v at)
          (record { opens = λ o e. ((cc), refl); seen = begins-refl []; told = tt; within = λ k h. refl; turn = tt })
      alone (suc id) v at = absurd (some-ne-none v (sym at))

  pub splits_allows : (id : ℕ) (v : View M E O F) → Splits (Kept steps opened base) id v v (newcomer v)
  splits_allows id v s k at =
      let same = set_again s.views id v at in
      let mine = k.each id v at in
      let fresh : (j : ℕ) → Agrees opened base k.log k.machine k.bit k.who j (newcomer v) = λ j. record { opens = mine.opens; seen = mine.seen; told = tt; within = λ x h. refl; turn = tt } in
      record {
        log = k.log;
        machine = k.machine;
        bit = k.bit;
        who = k.who;
        words = k.words;
        home = k.home;
        runs = k.runs;
        room = k.room;
        each = λ j u there.
            let P : List (View M E O F) → Type 0 = λ vs. get_elem? vs j ≡ some u in
            let Q : View M E O F → Type 0 = λ x. Agrees opened base k.log k.machine k.bit k.who j x in
            ⊎_elim (λ t. k.each j u (subst P same t)) (λ e. subst Q e (fresh j)) (at_snoc (set s.views id v) (newcomer v) u j there);
        once = λ x.
            let sum = total-append (λ (u : View M E O F). times x u.own) (set s.views id v) (newcomer v ∷ []) in
            let old = k.once x in
            let all : total (λ (u : View M E O F). times x u.own) (set s.views id v) ≡ total (λ (u : View M E O F). times x u.own) s.views = ap (total (λ (u : View M E O F). times x u.own)) same in omega arith;
      }

  pub joins_allows : (id : ℕ) (v : View M E O F) (other : ℕ) (w : View M E O F) → v.turn ≡ Away → Joins (Kept steps opened base) id v other w (joined v w) spent
  joins_allows id v other w away s k at apart there =
      let mine = k.each id v at in
      let theirs = k.each other w (was s.views id other w (joined v w) apart there) in
      let long = longer-length v.seen w.seen in
      let turn : Turning k.log k.machine k.bit k.who id (longer v.seen w.seen) v.turn = let P : Turn M → Type 0 = λ t. Turning k.log k.machine k.bit k.who id (longer v.seen w.seen) t in subst P (sym away) tt in
      record {
        log = k.log;
        machine = k.machine;
        bit = k.bit;
        who = k.who;
        words = k.words;
        home = k.home;
        runs = k.runs;
        room = k.room;
        each = each_set (Agrees opened base k.log k.machine k.bit k.who) (set s.views id (joined v w)) other spent
            (record { opens = λ o e. absurd (cc); seen = (k.log, refl); told = tt; within = λ x h. refl; turn = tt })
            (λ j u ne here. each_set (Agrees opened base k.log k.machine k.bit k.who) s.views id (joined v w)
            (record {
              opens = mine.opens;
              seen = longer-begins v.seen w.seen k.log mine.seen theirs.seen;
              told = (mine.seen, (theirs.seen, tt));
              within = λ x h. let a = mine.within x (omega arith) in let b = theirs.within x (omega arith) in let sum = times-append x v.own w.own in omega arith;
              turn = turn;
            })
            (λ i y ni it. k.each i y it) j u here);
        once = λ x.
            let first = total_set (λ (u : View M E O F). times x u.own) s.views id v (joined v w) at in
            let second = total_set (λ (u : View M E O F). times x u.own) (set s.views id (joined v w)) other w spent there in
            let sum = times-append x v.own w.own in
            let old = k.once x in omega arith;
      }
    where
      was : (views : List (View M E O F)) (id other : ℕ) (w u : View M E O F) → other ≢ id → get_elem? (set views id u) other ≡ some w → get_elem? views other ≡ some w
      was views id other w u apart there = sym (Rattle.atomic_table.proofs.Lists.set_else views id other u apart) ∙ there
