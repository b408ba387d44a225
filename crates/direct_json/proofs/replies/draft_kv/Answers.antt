-- A record behind this opening.
use Rattle.direct_json.proofs.Drafted.{kv_member}
use Rattle.direct_json.proofs.replies.draft_kv.Goals as goal

pub returns : goal.returns
returns c = rw c.in_ok-draft_record.ensures (kv_member c.args.kv.now c.args.draft.now)
