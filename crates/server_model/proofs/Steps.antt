-- Steps that were made one after the other.
use Rattle.std.proofs.Common.{◌≡◌, ℕ, true, false, List, [], ◌∷◌, ◌++◌, Option, None, Some, Result, Ok, Err, refl, sym, ap, ◌∙◌, append_assoc, append-nil, arith}
use Rattle.std.proofs.lemmas.List.Elements.{filter-append}
use Rattle.core_model.specs.declared.event.CoreEvent.{CoreEvent}
use Rattle.core_model.specs.declared.event.Outcome.{Outcome}
use Rattle.server_model.specs.declared.fault.TurnFault.{TurnFault}
use Rattle.server_model.specs.declared.fault.TurnFault.TheVariants as turn
use Rattle.server_model.specs.Steps.{Step, Every, is_own, own, Adds, steps_by, MadeBy, Rested, Did}

pub every_append : {A : Type 0} (P : A → Type 0) (xs ys : List A) → Every P xs → Every P ys → Every P (xs ++ ys)
every_append P [] ys p q = q
every_append P (x ∷ xs) ys p q = (p.0, every_append P xs ys p.1 q)

pub adds_then : (a b c : Option (List Step)) (xs ys : List Step) → Adds a b xs → Adds b c ys → Adds a c (xs ++ ys)
adds_then a b None xs ys p q = tt
adds_then a None (Some c) xs ys p q = absurd q
adds_then None (Some b) (Some c) xs ys p q = absurd p
adds_then (Some a) (Some b) (Some c) xs ys p q = q ∙ ap (λ (l : List Step). l ++ ys) p ∙ append_assoc a xs ys

pub adds_none : (a : Option (List Step)) → Adds a a []
adds_none None = tt
adds_none (Some a) = sym (append-nil a)

pub did_then : (rests : CoreEvent → Type 0) (a b c : Option (List Step)) (xs ys : List Step) → Did rests a b xs → Did rests b c ys → Did rests a c (xs ++ ys)
did_then rests a b c xs ys p q = record {
  steps = p.steps ++ q.steps;
  adds = adds_then a b c p.steps q.steps p.adds q.adds;
  mine_are = filter-append (λ (e : Step). is_own e.event) p.steps q.steps ∙ (λ i. p.mine_are i ++ q.mine_are i);
  others = every_append (λ (e : Step). is_own e.event ≡ false → rests e.event) p.steps q.steps p.others q.others;
}

pub did_nothing : (rests : CoreEvent → Type 0) (a : Option (List Step)) → Did rests a a []
did_nothing rests a = record { steps = []; adds = adds_none a; mine_are = refl; others = tt }

none_are : (steps : List Step) → Every (λ (e : Step). is_own e.event ≡ false) steps → own steps ≡ []
none_are [] n = refl
none_are (e ∷ es) n = let h = none_are es n.1 in let k = n.0 in grind arith

weaker : (P Q : Step → Type 0) (steps : List Step) → ((e : Step) → P e → Q e) → Every P steps → Every Q steps
weaker P Q [] f a = tt
weaker P Q (e ∷ es) f a = (f e a.0, weaker P Q es f a.1)

pub did_rest : (rests : CoreEvent → Type 0) (a b : Option (List Step)) → Rested rests a b → Did rests a b []
did_rest rests a b r = record {
  steps = r.steps;
  adds = r.adds;
  mine_are = none_are r.steps r.none_own;
  others = weaker (λ (e : Step). rests e.event) (λ (e : Step). is_own e.event ≡ false → rests e.event) r.steps (λ e p n. p) r.others;
}

true_false : true ≡ false → ⊥
true_false e = cc

own_one : (e : Step) → is_own e.event ≡ true → own (e ∷ []) ≡ e ∷ []
own_one e o = grind (arith, o)

pub did_turn : (rests : CoreEvent → Type 0) (a b : Option (List Step)) (event : CoreEvent) (now : ℕ) (result : Result Outcome TurnFault) → is_own event ≡ true
    → MadeBy a b event now result → Did rests a b (steps_by event now result)
did_turn rests a b event now (Ok outcome) o m = record { steps = _; adds = m; mine_are = own_one _ o; others = (λ n. absurd (true_false (sym o ∙ n)), tt) }
did_turn rests a b event now (Err turn.Worn) o m = record { steps = []; adds = m; mine_are = refl; others = tt }
did_turn rests a b event now (Err (turn.Core fault)) o m = record { steps = _; adds = m; mine_are = own_one _ o; others = (λ n. absurd (true_false (sym o ∙ n)), tt) }
