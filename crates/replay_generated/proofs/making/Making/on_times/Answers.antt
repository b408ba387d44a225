-- Every tenth time.
use Rattle.std.proofs.Common.{◌%◌, ◌==◌, eq-eqb}
use Rattle.std.proofs.lemmas.Bool.{ne_eqb}
use Rattle.replay_generated.proofs.Makings.{times, times_not}
use Rattle.replay_generated.proofs.Taking.{times_first, times_second, times_third}
use Rattle.replay_generated.proofs.making.Making.on_times.Goals as goal

pub returns-then-number-ne0 : goal.returns-then-number-ne0
returns-then-number-ne0 g c = times_not _ c.args.number (c.args.number % 10 == 0) (ne_eqb (c.args.number % 10) 0 c.if-number-ne0.true)

pub returns : goal.returns
returns g c = times c.args.number (c.args.number % 10 == 0) (eq-eqb (c.args.number % 10) 0 c.if-number-ne0.false) c.in_ok-on_time.ensures c.in_ok-on_time-2.ensures c.in_ok-on_time-3.ensures

pub on_time-requires-clause-goes : goal.on_time-requires-clause-goes
on_time-requires-clause-goes g c = times_first c.args.number (c.args.number % 10 == 0) (eq-eqb (c.args.number % 10) 0 c.if-number-ne0.false) c.requires.goes

pub on_time-requires-2-clause-goes : goal.on_time-requires-2-clause-goes
on_time-requires-2-clause-goes g c = times_second c.args.number (c.args.number % 10 == 0) (eq-eqb (c.args.number % 10) 0 c.if-number-ne0.false) c.requires.goes c.in_ok-on_time.ensures

pub on_time-requires-3-clause-goes : goal.on_time-requires-3-clause-goes
on_time-requires-3-clause-goes g c = times_third c.args.number (c.args.number % 10 == 0) (eq-eqb (c.args.number % 10) 0 c.if-number-ne0.false) c.requires.goes c.in_ok-on_time.ensures c.in_ok-on_time-2.ensures
