-- The steps write the parts of the message.
use Rattle.direct_json.proofs.Drafted.{created_member}
use Rattle.direct_json.proofs.messages.draft_created.Goals as goal

pub returns : goal.returns
returns c = rw (c.in_ok-end.ensures, c.in_ok-draft_header.ensures, c.in_ok-whole.ensures, c.in_ok-begin.ensures) (created_member c.args.header.now c.args.draft.now)
