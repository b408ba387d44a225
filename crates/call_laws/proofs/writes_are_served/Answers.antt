use Rattle.call_laws.proofs.Serving.{served_writes_may_be_sent, told_ops_are_the_writes}
use Rattle.call_laws.proofs.writes_are_served.Goals as goal

pub returns : goal.returns
returns c = record { may_be_sent = served_writes_may_be_sent; operations = told_ops_are_the_writes }
