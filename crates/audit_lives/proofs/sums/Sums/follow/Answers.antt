-- The item names a ticket's reads, or answers one, or asks a watch, or neither.
use Rattle.std.proofs.Common.{ℕ, ◌+◌, Bool, cond, Option, refl, ◌∙◌, ap, subst}
use Rattle.first_places.specs.Places.{value_at}
use Rattle.audit_lives.specs.SumSteps.{Closes, Opens}
use Rattle.audit_lives.proofs.Summing.{sums_more}
use Rattle.audit_lives.proofs.sums.Sums.follow.Goals as goal

pub returns : goal.returns
returns c = λ items k e l t next n.
    sums_more c.args.self.now c.take_named.new.self c.take_unsent.new.self _ (value_at c.args.lives.now.starts) next items c.args.item.now c.args.place e l.starts.low t
    (subst (λ (o : Option (ℕ × ℕ)). Closes o (value_at c.args.lives.now.starts) c.args.place c.args.self.now c.take_named.new.self) c.named.ensures c.in_ok-take_named.ensures)
    (subst (λ (o : Option (ℕ × ℕ)). Opens o (value_at c.args.lives.now.starts) c.args.place c.take_named.new.self c.take_unsent.new.self) (c.unsent_now-unsent.ensures items k l) c.in_ok-take_unsent.ensures)
    refl refl
    (c.in_ok-self.ensures ∙ ap (λ (b : Bool). cond b (c.take_unsent.new.self.watches + 1) c.take_unsent.new.self.watches) c.asks_watch.ensures)
    n
