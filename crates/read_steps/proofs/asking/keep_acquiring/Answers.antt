-- What was pushed is taken back.
use Rattle.std.proofs.Common.{◌∙◌, ap}
use Rattle.read_model.specs.PlainRead.{in_stage}
use Rattle.core_model.specs.Lookups.{without_ask}
use Rattle.read_steps.proofs.TakenBack.{taken_back}
use Rattle.read_steps.proofs.asking.keep_acquiring.Goals as goal

pub returns-clause-err_asks : goal.returns-clause-err_asks
returns-clause-err_asks c =
    c.remove.ensures.rest ∙ ap (without_ask c.args.ask.ticket) c.in_ok-keep_ask.ensures.ok ∙ taken_back (in_stage c.args.stage c.args.ask) c.args.asks.now c.requires.unknown
