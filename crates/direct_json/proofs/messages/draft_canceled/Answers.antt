-- The steps write the parts of the message.
use Rattle.direct_json.proofs.Drafted.{canceled_member}
use Rattle.direct_json.proofs.messages.draft_canceled.Goals as goal

pub returns : goal.returns
returns c = rw (c.in_ok-end.ensures, c.in_ok-draft_header.ensures, c.in_ok-number.ensures, c.in_ok-whole.ensures, c.in_ok-begin.ensures) (canceled_member c.args.header.now c.args.compact c.args.draft.now)
