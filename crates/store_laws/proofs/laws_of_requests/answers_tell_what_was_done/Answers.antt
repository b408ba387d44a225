use Rattle.store_laws.proofs.Requests.AnsweredProofs.{refusals_are_known, replies_tell_revisions}
use Rattle.store_laws.proofs.laws_of_requests.answers_tell_what_was_done.Goals as goal

pub returns : goal.returns
returns c = record { refusals = refusals_are_known; revisions = replies_tell_revisions }
