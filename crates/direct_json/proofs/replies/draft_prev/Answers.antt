-- A record behind this opening.
use Rattle.direct_json.proofs.Drafted.{prev_member}
use Rattle.direct_json.proofs.replies.draft_prev.Goals as goal

pub returns-in_ok-draft_record-in-Some : goal.returns-in_ok-draft_record-in-Some
returns-in_ok-draft_record-in-Some c = rw (c.in-Some.is, c.in_ok-draft_record-in-Some.ensures) (prev_member c.in-Some.kv c.args.draft.now)
