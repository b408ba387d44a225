-- Of no call there are two requests.
use Rattle.std.proofs.Common.{◌≡◌, true, sym, subst}
use Rattle.std.specs.List.{filter}
use Rattle.core_model.specs.Fits.{at_most_one}
use Rattle.core_model.specs.Lookups.{calls_as}
use Rattle.core_machine.specs.Keeping.{Kept}
use Rattle.core_machine.proofs.machine.Machine.say.Goals as goal

pub tell_caller-requires : goal.tell_caller-requires
tell_caller-requires c =
    let call = c.args.out.now.call in
    subst (λ (k : Kept). at_most_one (filter (calls_as call) k.core.asks) ≡ true) (sym c.self.view_is) (c.requires call)
