-- Asks that compare equal are the same.
use Rattle.std.proofs.Common.{sym, ◌∙◌}
use Rattle.store_world.proofs.AskLemmas.{ask_same}
use Rattle.store_world.proofs.followed.is_same.Goals as goal

pub returns : goal.returns
returns c = λ e. ask_same c.args.one.now c.args.other.now (sym c.eq.ensures ∙ e)
