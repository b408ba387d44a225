-- Those that are sent are due no more.
use Rattle.keep_merge.proofs.Ended.{sent-Settles}
use Rattle.keep_merge.proofs.sends.send_group.Goals as goal

pub change_due_group-requires : goal.change_due_group-requires
change_due_group-requires c = sent-Settles c.args.call c.args.lease
