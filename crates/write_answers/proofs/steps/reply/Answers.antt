-- Where nothing is settled each stays as it is.
use Rattle.std.proofs.Common.{◌≡◌, List, [], ◌∷◌, map, refl, sym, ◌∙◌, ap}
use Rattle.read_model.specs.declared.asked.Asked.{Asked}
use Rattle.read_model.specs.WriteAnswers.{settled_ask}
use Rattle.wait_model.specs.declared.wait.Settled.TheVariants as settled
use Rattle.write_answers.proofs.steps.reply.Goals as goal

all_stay : (xs : List Asked) → xs ≡ map (settled_ask settled.Nothing) xs
all_stay [] = refl
all_stay (a ∷ xs) = ap (λ (l : List Asked). a ∷ l) (all_stay xs)

pub returns-in-Nothing : goal.returns-in-Nothing
returns-in-Nothing c = all_stay c.args.asks.now ∙ ap (λ s. map (settled_ask s) c.args.asks.now) (sym c.in-Nothing.is)
