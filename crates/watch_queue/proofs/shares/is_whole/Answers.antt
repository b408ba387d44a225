use Rattle.std.proofs.Common.{◌≡◌, length, sym, ◌∙◌, arith}
use Rattle.std.proofs.lemmas.Bool.Decides.{nat_tests}
use Rattle.std.specs.Arc.{arc_value}
use Rattle.watch_model.specs.Queues.{is_for}
use Rattle.watch_queue.specs.Shared.{values}
use Rattle.watch_queue.proofs.Heads.{length-map}
use Rattle.watch_queue.proofs.Wholes.{all_chosen}
use Rattle.watch_queue.proofs.shares.is_whole.Goals as goal

pub returns : goal.returns
returns c = λ t.
    let e : c.chosen_count.result ≡ length c.args.events.now = grind (arith, nat_tests) in
    all_chosen (is_for c.args.ask.now c.args.from) (values c.args.events.now) (sym c.chosen_count.ensures ∙ e ∙ sym (length-map (λ a. arc_value a) c.args.events.now))
