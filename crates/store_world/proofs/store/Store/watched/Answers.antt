-- Each state that the store stands for has its watches.
use Rattle.std.proofs.Common.{sym, ap, ◌∙◌}
use Rattle.std.specs.Option.{option_map}
use Rattle.store_model.specs.State.{State}
use Rattle.store_model.specs.Watches.{watch_of}
use Rattle.store_world.specs.Pushes.{watched_range}
use Rattle.store_world.proofs.store.Store.watched.Goals as goal

pub returns-in-Some : goal.returns-in-Some
returns-in-Some c = λ s stands.
    ap (option_map watched_range) c.in-Some.ensures ∙ sym (ap (λ (t : State). option_map watched_range (watch_of t c.args.watch)) stands.rest)

pub returns-in-None : goal.returns-in-None
returns-in-None c = λ s stands.
    ap (option_map watched_range) c.in-None.ensures ∙ sym (ap (λ (t : State). option_map watched_range (watch_of t c.args.watch)) stands.rest)
