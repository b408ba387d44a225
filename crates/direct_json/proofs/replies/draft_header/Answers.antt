-- The steps write the parts of a header.
use Rattle.direct_json.proofs.Drafted.{header_member}
use Rattle.direct_json.proofs.replies.draft_header.Goals as goal

pub returns : goal.returns
returns c = rw (c.in_ok-end.ensures, c.in_ok-number-4.ensures, c.in_ok-number-3.ensures, c.in_ok-number-2.ensures, c.in_ok-number.ensures, c.in_ok-begin.ensures) (header_member c.args.header.now c.args.draft.now)
