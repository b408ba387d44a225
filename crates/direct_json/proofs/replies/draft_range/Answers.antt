-- The steps write the parts of the reply.
use Rattle.direct_json.proofs.Drafted.{range_item}
use Rattle.direct_json.proofs.replies.draft_range.Goals as goal

pub returns : goal.returns
returns c = rw (c.in_ok-end.ensures, c.in_ok-flag.ensures, c.in_ok-draft_kvs.ensures, c.in_ok-draft_header.ensures, c.in_ok-number.ensures, c.in_ok-begin.ensures) (range_item c.args.header.now c.args.count c.args.more c.args.kvs.now c.args.draft.now)
