-- What opens or closes a stream takes no reading of the clock.
use Rattle.proxy_core.proofs.sending.send.Goals as goal

pub returns-in-Open-clause-step : goal.returns-in-Open-clause-step
returns-in-Open-clause-step c = rw c.in-Open.is (c.open_leasing.ensures.step c.args.now)

pub returns-in-Begin-clause-step : goal.returns-in-Begin-clause-step
returns-in-Begin-clause-step c = rw c.in-Begin.is (c.begin_stream.ensures.step c.args.now)

pub returns-in-Close-clause-step : goal.returns-in-Close-clause-step
returns-in-Close-clause-step c = rw c.in-Close.is (c.close_stream.ensures.step c.args.now)
