-- The stream was followed and its answer given back, or it couldn't be begun.
use Rattle.std.proofs.Common.{Ok, Err}
use Rattle.server_model.proofs.Follows.{begun_as, was_followed, was_failed, was_unbegun}
use Rattle.proxy_streams.proofs.follow.follow_stream.Goals as goal

pub returns-in-Ok-clause-followed : goal.returns-in-Ok-clause-followed
returns-in-Ok-clause-followed g c =
    was_followed c.args.most _ c.args.follow.now _ _ _ _ _ _ _ _ _ _ _ _ c.follow_on-stop.result.read c.follow_on-stop.result.end
    (begun_as c.args.follow.now c.as_slice.result.now _ _ (Ok _) c.as_slice.ensures c.in-Ok.ensures.made) c.end.ensures.made c.in-Ok.ensures.cause.kept c.end.ensures.kept
    c.in-Ok.ensures.fresh c.follow_on-stop.ensures.following

pub returns-in-Err-Failed-clause-followed : goal.returns-in-Err-Failed-clause-followed
returns-in-Err-Failed-clause-followed g c =
    was_failed c.args.most _ c.args.follow.now _ _ _ _ _ _ c.in-Err-Failed.field-0 c.cut.result c.in-Err-Failed.field-0-is
    (begun_as c.args.follow.now c.as_slice.result.now _ _ (Err c.in-Err-Failed.field-0) c.as_slice.ensures c.in-Err-Failed.ensures.made) c.in-Err-Failed.ensures.cause c.cut.ensures.cut

pub returns-in-Err-NoMemory-clause-followed : goal.returns-in-Err-NoMemory-clause-followed
returns-in-Err-NoMemory-clause-followed g c =
    was_unbegun c.args.most _ c.args.follow.now _ _ _ _ _ _ c.in-Err-NoMemory.field-0 c.cut-in-Err-NoMemory.result c.in-Err-NoMemory.field-0-is
    (begun_as c.args.follow.now c.as_slice.result.now _ _ (Err c.in-Err-NoMemory.field-0) c.as_slice.ensures c.in-Err-NoMemory.ensures.made) c.in-Err-NoMemory.ensures.cause
    c.cut-in-Err-NoMemory.ensures.cut
