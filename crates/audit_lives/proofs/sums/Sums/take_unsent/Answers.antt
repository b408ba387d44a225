-- No read is answered without a call.
use Rattle.std.proofs.Common.{ℕ, Option, refl, sym, subst, arith}
use Rattle.first_places.specs.Places.{value_at}
use Rattle.audit_lives.specs.SumSteps.{Opens}
use Rattle.audit_lives.proofs.sums.Sums.take_unsent.Goals as goal

pub returns-in-None : goal.returns-in-None
returns-in-None c =
    subst (λ (o : Option (ℕ × ℕ)). Opens o (value_at c.args.starts.now) c.args.place c.args.self.now c.args.self.now) (sym c.in-None.is)
    (record { unsent = omega arith; watches = refl; reads = λ l a b. refl; before = λ f. f })
