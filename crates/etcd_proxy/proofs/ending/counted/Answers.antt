-- What is told of a generated script is told of its transcript.
use Rattle.etcd_proxy.proofs.Generated.{is_summary}
use Rattle.etcd_proxy.proofs.ending.counted.Goals as goal

pub returns : goal.returns
returns c =
    (c.in_ok-summary.summary, is_summary c.args.number c.in_ok-summary.summary c.in_ok-summary.ensures, c.in_ok-summary_text.ensures)
