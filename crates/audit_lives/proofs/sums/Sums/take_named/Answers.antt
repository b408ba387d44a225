-- No call is sent.
use Rattle.std.proofs.Common.{ℕ, Option, refl, sym, subst, arith}
use Rattle.first_places.specs.Places.{value_at}
use Rattle.audit_lives.specs.SumSteps.{Closes}
use Rattle.audit_lives.proofs.sums.Sums.take_named.Goals as goal

pub returns-in-None : goal.returns-in-None
returns-in-None c =
    subst (λ (o : Option (ℕ × ℕ)). Closes o (value_at c.args.starts.now) c.args.place c.args.self.now c.args.self.now) (sym c.in-None.is)
    (record { unsent = omega arith; watches = refl; reads = λ a b. refl; before = λ f. f })
