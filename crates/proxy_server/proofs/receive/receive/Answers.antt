-- What was read of the next request.
use Rattle.server_model.proofs.Receives.{ends_as, was_received, none_received, not_received}
use Rattle.proxy_server.proofs.receive.receive.Goals as goal

pub returns-in-Ok-Some-clause-gets : goal.returns-in-Ok-Some-clause-gets
returns-in-Ok-Some-clause-gets g c = was_received c.args.form _ _ _ _ _ c.in-Ok-Some.received c.in-Ok-Some.field-0-is c.in-Ok-Some.ensures.receives

pub returns-in-Ok-None-clause-gets : goal.returns-in-Ok-None-clause-gets
returns-in-Ok-None-clause-gets g c = none_received c.args.form _ _ _ _ _ c.in-Ok-None.field-0-is c.in-Ok-None.ensures.receives

pub returns-in-Err-clause-gets : goal.returns-in-Err-clause-gets
returns-in-Err-clause-gets g c = ends_as c.args.form _ _ _ _ _ c.end_by.ensures.is (not_received c.args.form _ _ _ c.in-Err.fault c.in-Err.ensures.receives)
