-- The steps write the parts of the event of a put.
use Rattle.direct_json.proofs.Drafted.{put_item}
use Rattle.direct_json.proofs.messages.draft_put.Goals as goal

pub returns : goal.returns
returns c = rw (c.in_ok-end.ensures, c.in_ok-draft_prev.ensures, c.in_ok-draft_kv.ensures, c.in_ok-begin.ensures) (put_item c.args.kv.now c.args.prev.now c.args.draft.now)
