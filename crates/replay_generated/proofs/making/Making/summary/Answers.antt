-- What was counted is told.
use Rattle.std.proofs.Common.{refl, sym, subst}
use Rattle.replay_generated.proofs.Telling.{tells_so}
use Rattle.replay_generated.specs.Made.{Made, IsOf}
use Rattle.replay_generated.proofs.making.Making.summary.Goals as goal

pub returns : goal.returns
returns g c m h = tells_so _ (subst (λ (y : Made). IsOf y m) (sym c.self.view_is) h) refl c.len.ensures c.unsent.ensures c.newest.ensures
