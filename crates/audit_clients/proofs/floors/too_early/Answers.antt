-- The floors are kept.
use Rattle.std.proofs.Common.{◌∙◌, ap}
use Rattle.world_model.specs.declared.floor.Floor.{Floor}
use Rattle.world_model.specs.Places.{kept_at}
use Rattle.world_model.specs.State.{Numbered}
use Rattle.audit_model.specs.Floors.{too_early_by}
use Rattle.audit_clients.proofs.floors.too_early.Goals as goal

pub returns : goal.returns
returns c = λ items g.
    c.too_early_by.ensures items g
    ∙ ap (too_early_by items) (c.find.ensures ∙ ap (λ (fs : Numbered Floor). kept_at fs c.args.lease) g.floors)
