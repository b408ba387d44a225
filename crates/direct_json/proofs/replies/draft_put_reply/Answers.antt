-- The steps write the parts of the reply.
use Rattle.direct_json.proofs.Drafted.{put_reply_item}
use Rattle.direct_json.proofs.replies.draft_put_reply.Goals as goal

pub returns : goal.returns
returns c = rw (c.in_ok-end.ensures, c.in_ok-draft_prev.ensures, c.in_ok-draft_header.ensures, c.in_ok-begin.ensures) (put_reply_item c.args.header.now c.args.prev.now c.args.draft.now)
