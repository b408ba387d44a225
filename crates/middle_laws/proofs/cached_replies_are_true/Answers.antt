use Rattle.middle_laws.proofs.Replies.{sources_are_true, given_are_true}
use Rattle.middle_laws.proofs.Shown.{cached_reads_show, cached_snapshots_show}
use Rattle.middle_laws.proofs.cached_replies_are_true.Goals as goal

pub returns : goal.returns
returns c = record { stand = sources_are_true; given = given_are_true; reads = cached_reads_show; snapshots = cached_snapshots_show }
